-- The law Actions: what a callback may ask of its return, and what its return says of that.
use Rattle.std.specs.Prelude.{◌≡◌, ℕ, ◌≤◌, Bool, true, false, ◌&&◌, ◌==◌, List, ◌∷◌, ◌++◌, length}
use Rattle.std.specs.List.{filter, list_any}
use Rattle.std.specs.Option.{option_map_or}
use Rattle.tp_base.specs.declared.ids.Who.{Who}
use Rattle.tp_base.specs.declared.answers.ActionKind.{ActionKind}
use Rattle.tp_base.specs.declared.answers.Answer.{Answer}
use Rattle.tp_base.specs.declared.answers.Entry.{Entry}
use Rattle.tp_base.specs.declared.plans.ActionWords.{ActionWords}
use Rattle.tp_base.specs.Actions.{is_same_action, word, is_unasked}
use Rattle.tp_base.specs.Actors.{is_same_actor}
use Rattle.tp_model.specs.Laws.Entries.{asked_by, words_by, is_taken}
use Rattle.tp_model.specs.Laws.Covered.{returns}

-- the actor asks for an action of this kind
abbrev pub asks_for : Who → ActionKind → Entry → Bool
asks_for who kind entry = is_same_actor entry.who who && option_map_or (is_same_action kind) (asked_by entry) false

abbrev pub count_asked : Who → ActionKind → List Entry → ℕ
count_asked who kind entries = length (filter (asks_for who kind) entries)

-- the answer of a Return says that no action of this kind was asked for
abbrev pub says_unasked : ActionKind → Answer → Bool
says_unasked kind answer = option_map_or (λ (words : ActionWords). is_unasked (word kind words)) (words_by answer) false

pub record AreActions (history : List Entry) : Type 0 where
  -- from where a callback is taken to where it returns, at most one action of each kind is asked for
  pub once : (before between later : List Entry) (taken : Entry) (kind : ActionKind) → (before ++ taken ∷ between) ++ later ≡ history → is_taken taken ≡ true
      → list_any (returns taken.who) between ≡ false → count_asked taken.who kind between ≤ 1
  -- and its return tells of exactly those
  pub told : (before between later : List Entry) (taken return : Entry) (kind : ActionKind) → (before ++ taken ∷ between) ++ return ∷ later ≡ history → is_taken taken ≡ true
      → list_any (returns taken.who) between ≡ false → returns taken.who return ≡ true → says_unasked kind return.answer ≡ (count_asked taken.who kind between == 0)
