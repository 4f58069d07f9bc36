-- What the lines of a text come to on a machine with something above it.
use Rattle.std.specs.Prelude.{◌≡◌, ℕ, ◌≤◌, List, ◌++◌, length, fold, max}
use Rattle.line_grammar.specs.Lines.{AreLines, AreLinesTo}
use Rattle.tp_base.specs.declared.ids.Who.{Who}
use Rattle.tp_lines.specs.Calls.{client_number}
use Rattle.layers.specs.declared.playing.Played.{Played}

-- the greatest number of a client whose line is one of these, or 0
abbrev pub clients_in : {M : Type 0} → (M → Who) → List M → ℕ
clients_in {M} who made = fold (λ greatest (one : M). max greatest (client_number (who one))) 0 made

-- what all lines of a text come to: on a new machine that has as many clients as that
abbrev pub output_of : {M : Type 0} → (M → Who) → (ℕ → ℕ → ℕ → List M → List ℕ) → ℕ → ℕ → List M → List ℕ
output_of who comes_to workers capacity made = comes_to (clients_in who made) workers capacity made

-- the bytes are lines of the language, and this is what they come to
pub record IsPlayed {M : Type 0} (W : M → List ℕ → Type 0) (output : List M → List ℕ) (bytes text : List ℕ) : Type 0 where
  pub made : List M
  pub are_lines : AreLines W made bytes
  pub text_is : text ≡ output made

-- ---- on a machine of some number of clients

pub record ArePlayed {M : Type 0} (who : M → Who) (told : List M → List ℕ) (made : List M) (played : Played) : Type 0 where
  pub text_is : played.text.items ≡ told made
  pub clients_is : played.clients ≡ clients_in who made

pub record AreLinesPlayed {M : Type 0} (W : M → List ℕ → Type 0) (who : M → Who) (told : List M → List ℕ) (bytes : List ℕ) (played : Played) : Type 0 where
  pub made : List M
  pub are_lines : AreLines W made bytes
  pub are_played : ArePlayed who told made played

-- of what all lines come to this text was printed, and `behind` tells what the lines of the rest come to
pub record IsPlayedTo {M : Type 0} (W : M → List ℕ → Type 0) (who : M → Who) (told behind : List M → List ℕ) (bytes rest text : List ℕ) (greatest lines : ℕ) : Type 0 where
  pub made : List M
  pub read : AreLinesTo W rest made bytes
  pub counts : lines ≡ length made
  pub goes_on : (more : List M) → text ++ behind more ≡ told (made ++ more)
  pub greatest_is : greatest ≡ clients_in who made
  pub most : greatest ≤ 16
