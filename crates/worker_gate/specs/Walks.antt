-- The calls of an actor, as its parts give them.
use Rattle.std.specs.Prelude.{◌≡◌, ℕ, Bool, true, false, List, [], ◌∷◌, ◌++◌, ◌⊎◌, None, Some, is_some}
use Rattle.tp_base.specs.declared.answers.Answer.TheVariants.{Done}
use Rattle.tp_base.specs.declared.answers.Entry.{Entry}
use Rattle.tp_base.specs.declared.answers.Outcome.{Outcome}
use Rattle.tp_base.specs.declared.answers.Outcome.TheVariants as outcome
use Rattle.tp_base.specs.declared.calls.Call.{Call}
use Rattle.tp_base.specs.declared.calls.Call.TheVariants.{Attach, Detach, Finish, Return, Take}
use Rattle.tp_base.specs.declared.ids.Who.{Who}
use Rattle.tp_base.specs.declared.limits.Limits.{Limits}
use Rattle.tp_base.specs.declared.plans.Stage.{Stage}
use Rattle.tp_base.specs.declared.plans.Stage.TheVariants.{Away, Busy, Idle, Over, Playing}
use Rattle.tp_model.specs.Laws.Entries.{attached_by, taken_by, words_by}
use Rattle.recorded.specs.Recordings.{outcome_behind}
use Rattle.turn_lock.specs.Histories.{own, StartsWith}
use Rattle.part_places.specs.declared.place.Place.{Place}
use Rattle.part_places.specs.Places.{Given, is_last, next_call, place_after}

-- what a call comes to behind a history, on a machine of these limits and this capacity
abbrev pub comes_to : Limits → ℕ → List Entry → Who → Call → Outcome
comes_to limits capacity history who made = outcome_behind (record { limits = limits; capacity = capacity; history = history }) who made

abbrev pub is_full : Outcome → Bool
is_full (outcome.Full room cost) = true
is_full _ = false

-- the history had no room for the call, at a time when it had just these entries of the actor
pub record CutAt (limits : Limits) (capacity : ℕ) (history : List Entry) (who : Who) (entries : List Entry) (made : Call) : Type 0 where
  pub front : List Entry
  pub starts : StartsWith history front
  pub own_is : own who front ≡ entries
  pub full : is_full (comes_to limits capacity front who made) ≡ true

module _ (g : Given) (limits : Limits) (capacity : ℕ) (history : List Entry) (who : Who) where
  -- the walk of the part has a further call, for which there was no room
  abbrev pub IsCut : List Entry → Place → Type 0
  IsCut entries p = (made : Call) × (next_call g who p ≡ Some made) × CutAt limits capacity history who entries made

  -- the walk of the part is whole, or cut
  abbrev pub Closes : List Entry → Place → Type 0
  Closes entries p = (next_call g who p ≡ None) ⊎ IsCut entries p

  -- the entry is the part's next call
  abbrev pub GoesOnBy : Place → Entry → Type 0
  GoesOnBy p e = (next_call g who p ≡ Some e.call) × (is_last e.call ≡ false)

  -- which entry may follow at a stage
  abbrev pub FollowsAt : List Entry → Place → Stage → Entry → Type 0
  FollowsAt entries p Playing e = ((e.call ≡ Finish) × (e.answer ≡ Done) × Closes entries p) ⊎ GoesOnBy p e
  FollowsAt entries p (Busy routine) e = ((e.call ≡ Return) × (is_some (words_by e.answer) ≡ true) × Closes entries p) ⊎ GoesOnBy p e
  FollowsAt entries p Over e = ⊥
  FollowsAt entries p Away e = (e.call ≡ Attach) × (is_some (attached_by e.answer) ≡ true)
  FollowsAt entries p Idle e = ((e.call ≡ Take) × (is_some (taken_by e.answer) ≡ true)) ⊎ ((e.call ≡ Detach) × (e.answer ≡ Done))

  -- each entry may follow where the ones before it have led
  abbrev pub Leads : List Entry → Place → List Entry → Type 0
  Leads before p [] = Unit {0}
  Leads before p (e ∷ rest) = FollowsAt before p p.stage e × Leads (before ++ e ∷ []) (place_after g who p e.call e.answer) rest
