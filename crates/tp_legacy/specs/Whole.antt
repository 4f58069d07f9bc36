-- What the calls of an old call come to, one after another.
use Rattle.std.specs.Prelude.{◌≡◌, Bool, true, false, List, [], ◌∷◌, drop}
use Rattle.tp_base.specs.declared.answers.Outcome.{Outcome}
use Rattle.tp_base.specs.declared.answers.Outcome.TheVariants.{Done}
use Rattle.tp_base.specs.declared.calls.Call.{Call}
use Rattle.tp_base.specs.declared.ids.Who.{Who}
use Rattle.recorded.specs.Recordings.{made, outcome_behind, Recording}
use Rattle.tp_legacy.specs.declared.LegacyCall.{LegacyCall}
use Rattle.tp_legacy.specs.declared.LegacyCall.TheVariants as call

abbrev pub outcomes_of : Recording → List (Who × Call) → List Outcome
outcomes_of r [] = []
outcomes_of r (made_by ∷ calls) = outcome_behind r made_by.0 made_by.1 ∷ outcomes_of (made r made_by) calls

-- of a call of the machine itself only what follows it
abbrev pub of_the_row : LegacyCall → List Outcome → List Outcome
of_the_row (call.Pool own) outcomes = drop 1 outcomes
of_the_row other outcomes = outcomes

-- answered or refused: neither Full nor a look
abbrev pub is_done : Outcome → Bool
is_done (Done answer) = true
is_done told = false

abbrev pub AreDone : List Outcome → Type 0
AreDone [] = Unit {0}
AreDone (told ∷ outcomes) = (is_done told ≡ true) × AreDone outcomes
