use Rattle.std.proofs.Common.{◌≡◌, ℕ, true, false, List, [], ◌∷◌, find, refl, sym, subst}
use Rattle.script_lines.specs.declared.state.Place.{Place}
use Rattle.script_lines.specs.declared.words.Field.{Field}
use Rattle.script_lines.specs.declared.words.Word.{Word}
use Rattle.script_lines.specs.declared.words.Word.TheVariants as word
use Rattle.script_lines.specs.Tokens.{is_at, word_at}
use Rattle.script_lines.proofs.judge.words_with.Goals as goal

-- among these words the words with the letter are found
abbrev Finds : List Word → ℕ → Type 0
Finds words letter = (place : Place) (field : Field) (rest : List ℕ) → find (is_at place field (letter ∷ rest)) words ≡ word_at place field (letter ∷ rest)

pub returns-in-99 : goal.returns-in-99
returns-in-99 c = subst (Finds (word.Client ∷ word.CancelIo ∷ word.CompleteIo ∷ word.CompleteNext ∷ word.Close ∷ word.CloseMembers ∷ word.CloseGroup ∷ word.ClosePool ∷ word.Context ∷ word.CancelBy ∷ word.How true ∷ word.Signal false ∷ [])) (sym c.in-99.is) (λ place field rest. refl)

pub returns-in-115 : goal.returns-in-115
returns-in-115 c = subst (Finds (word.Semaphore ∷ word.Section ∷ word.Submit ∷ word.Simple ∷ word.SetTimer ∷ word.SetTimerEx ∷ word.SetWait ∷ word.StartIo ∷ word.SetMaximum ∷ word.SetMinimum ∷ word.SetEvent ∷ word.Signal true ∷ [])) (sym c.in-115.is) (λ place field rest. refl)
