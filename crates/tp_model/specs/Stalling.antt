-- What a stall tells of what comes after it: until an End is answered with Stalled or Exhausted, only workers do anything,
-- and they only join pools and leave them.
use Rattle.std.specs.Prelude.{◌≡◌, ℕ, Bool, true, false, ◌||◌, List, [], ◌∷◌, length, if◌then◌else◌}
use Rattle.std.specs.List.{list_all}
use Rattle.tp_base.specs.declared.answers.Answer.{Answer}
use Rattle.tp_base.specs.declared.answers.Answer.TheVariants.{Exhausted, Stalled}
use Rattle.tp_base.specs.declared.answers.Entry.{Entry}
use Rattle.tp_base.specs.declared.answers.Outcome.TheVariants.{Done}
use Rattle.tp_base.specs.declared.calls.Call.{Call}
use Rattle.tp_base.specs.declared.calls.Call.TheVariants.{Attach, Detach, End}
use Rattle.tp_base.specs.declared.ids.Who.{Who}
use Rattle.tp_base.specs.declared.limits.Limits.{Limits}
use Rattle.tp_model.specs.History.{after, is_refusal, room}
use Rattle.tp_model.specs.Stages.{comes_to}

-- the wait ended without what it was for
abbrev pub is_given_up : Answer → Bool
is_given_up Exhausted = true
is_given_up Stalled = true
is_given_up _ = false

-- the entries before the first such end
abbrev pub before_the_end : List Entry → List Entry
before_the_end [] = []
before_the_end (entry ∷ entries) = if is_given_up entry.answer then [] else entry ∷ before_the_end entries

abbrev pub is_move : Call → Bool
is_move Attach = true
is_move Detach = true
is_move _ = false

-- a worker joins a pool or leaves one, if the call is accepted
abbrev pub moves_only : Entry → Bool
moves_only entry = is_refusal entry.answer || is_move entry.call

-- in a history of a capacity: where the machine would answer some actor's End with Stalled, all that is accepted from there on
-- are moves, until an End is answered so or with Exhausted
abbrev pub StaysStalled : Limits → ℕ → List Entry → List Entry → Type 0
StaysStalled limits capacity history more =
    (who : Who) → comes_to limits history (room capacity (after limits history) (length history)) who End ≡ Done Stalled → list_all moves_only (before_the_end more) ≡ true
