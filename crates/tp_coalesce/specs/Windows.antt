-- What calls come to one after another, sleeps among them.
use Rattle.std.specs.Prelude.{ℕ, List, [], ◌∷◌, Option, None, Some}
use Rattle.recorded.specs.Recordings.{made, outcome_behind, Recording}
use Rattle.tp_base.specs.declared.answers.Outcome.{Outcome}
use Rattle.tp_base.specs.declared.ids.Who.{Who}
use Rattle.tp_base.specs.declared.limits.Limits.{Limits}
use Rattle.tp_coalesce.specs.Sleeps.{sleep}
use Rattle.tp_coalesce.specs.declared.SleepCall.{SleepCall}
use Rattle.tp_coalesce.specs.declared.SleepCall.TheVariants.{Pool, Sleep}
use Rattle.tp_coalesce.specs.declared.sleeping.Slept.{Slept}

-- what a call comes to: the outcomes of the machine's calls, and of a sleep how it ends
pub record Told : Type 0 where
  pub outcomes : List Outcome
  pub slept : Option Slept

abbrev pub told_of : Recording → Who → SleepCall → Told
told_of r who (Sleep ticks) = record { outcomes = (sleep r who ticks).outcomes; slept = Some (sleep r who ticks).slept }
told_of r who (Pool call) = record { outcomes = outcome_behind r who call ∷ []; slept = None }

-- the machine behind a call
abbrev pub behind_call : Recording → Who → SleepCall → Recording
behind_call r who (Sleep ticks) = (sleep r who ticks).after
behind_call r who (Pool call) = made r (who, call)

-- a machine that has made no step
abbrev pub opening : Limits → ℕ → Recording
opening limits capacity = record { limits = limits; capacity = capacity; history = [] }

abbrev pub windows_play : Recording → List (Who × SleepCall) → List Told
windows_play r [] = []
windows_play r (made_by ∷ calls) = told_of r made_by.0 made_by.1 ∷ windows_play (behind_call r made_by.0 made_by.1) calls
