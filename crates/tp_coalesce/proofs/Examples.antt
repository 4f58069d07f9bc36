-- What small programs that sleep come to, by computation alone.
use Rattle.std.proofs.Common.{◌≡◌, ℕ, [], ◌∷◌, None, Some, false, refl}
use Rattle.std.specs.Prelude.{negsuc}
use Rattle.tp_base.specs.declared.answers.Answer.{Answer}
use Rattle.tp_base.specs.declared.answers.Answer.TheVariants as answer
use Rattle.tp_base.specs.declared.answers.Outcome.TheVariants as outcome
use Rattle.tp_base.specs.declared.answers.Refusal.TheVariants.{ClockEnd}
use Rattle.tp_base.specs.declared.calls.Call.TheVariants.{Create, SetTimer}
use Rattle.tp_base.specs.declared.calls.Kind.TheVariants.{Timer}
use Rattle.tp_base.specs.declared.calls.Environ.{Environ}
use Rattle.tp_base.specs.declared.calls.Priority.TheVariants.{Normal}
use Rattle.tp_base.specs.declared.ids.ObjectId.{ObjectId}
use Rattle.tp_base.specs.declared.ids.RoutineId.{RoutineId}
use Rattle.tp_base.specs.declared.ids.Who.TheVariants.{Client}
use Rattle.tp_base.specs.declared.limits.Limits.{Limits}
use Rattle.tp_model.specs.Calls.Objects.{create_plan}
use Rattle.tp_model.specs.Calls.Timers.{advance_plan, set_timer_plan}
use Rattle.tp_coalesce.specs.Windows.{opening, windows_play, Told}
use Rattle.tp_coalesce.specs.declared.SleepCall.TheVariants.{Pool, Sleep}
use Rattle.tp_coalesce.specs.declared.sleeping.Slept.TheVariants.{Done, Stopped}

limits : Limits
limits = record { clients = 1; workers = 1; pools = 1; groups = 1; objects = 2; kernels = 1; slots = 8 }

timer : ℕ → ObjectId
timer number = record { 0 = number }

routine : ℕ → RoutineId
routine number = record { 0 = number }

plain : Environ
plain = record { pool = record { 0 = 0 }; group = record { 0 = 0 }; cancel = record { 0 = 0 }; priority = Normal; long = false; persistent = false }

came_to : Answer → Told
came_to a = record { outcomes = outcome.Done a ∷ []; slept = None }

-- timers whose windows overlap expire by one wake-up
windows_overlap : windows_play (opening limits 20) (
    (Client 1, Pool (Create Timer (routine 1) 0 plain))
    ∷ (Client 1, Pool (Create Timer (routine 2) 0 plain))
    ∷ (Client 1, Pool (SetTimer (timer 1) (Some (negsuc 9999)) 0 3))
    ∷ (Client 1, Pool (SetTimer (timer 2) (Some (negsuc 29999)) 0 5))
    ∷ (Client 1, Sleep 100000)
    ∷ [])
    ≡ came_to (answer.Made 1)
    ∷ came_to (answer.Made 2)
    ∷ came_to (answer.Queued 0 0)
    ∷ came_to (answer.Queued 0 0)
    ∷ record { outcomes = outcome.Done (answer.Advanced 40000 1 2) ∷ outcome.Done (answer.Advanced 100000 0 0) ∷ []; slept = Some (Done 100000 2) }
    ∷ []
unfolding limits timer routine plain came_to create_plan set_timer_plan advance_plan
windows_overlap = refl

-- a timer with a period expires again, and a sleep beyond the clock's end is refused
periods_go_on : windows_play (opening limits 20) (
    (Client 1, Pool (Create Timer (routine 1) 0 plain))
    ∷ (Client 1, Pool (SetTimer (timer 1) (Some (negsuc 9999)) 1 2))
    ∷ (Client 1, Sleep 65000)
    ∷ (Client 1, Sleep 9223372036854775807)
    ∷ [])
    ≡ came_to (answer.Made 1)
    ∷ came_to (answer.Queued 0 0)
    ∷ record { outcomes = outcome.Done (answer.Advanced 30000 1 1) ∷ outcome.Done (answer.Advanced 60000 2 1) ∷ outcome.Done (answer.Advanced 65000 0 0) ∷ []; slept = Some (Done 65000 3) }
    ∷ record { outcomes = outcome.Done (answer.Refused ClockEnd) ∷ []; slept = Some (Stopped 0 (outcome.Done (answer.Refused ClockEnd))) }
    ∷ []
unfolding limits timer routine plain came_to create_plan set_timer_plan advance_plan
periods_go_on = refl
