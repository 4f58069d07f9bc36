-- Calls on timers and the clock: SetThreadpoolTimer, SetThreadpoolTimerEx, IsThreadpoolTimerSet; and time passes.
use Rattle.std.specs.Prelude.{ℕ, ◌+◌, ℤ, Bool, not, ◌==◌, nat_lt, List, [], ◌∷◌, ◌++◌, length, if◌then◌else◌, Option}
use Rattle.std.specs.List.{filter}
use Rattle.tp_base.specs.declared.ids.Who.{Who}
use Rattle.tp_base.specs.declared.ids.ObjectId.{ObjectId}
use Rattle.tp_base.specs.declared.calls.Kind.TheVariants.{Timer}
use Rattle.tp_base.specs.declared.answers.Answer.{Answer}
use Rattle.tp_base.specs.declared.answers.Answer.TheVariants as answer
use Rattle.tp_base.specs.declared.answers.Refusal.{Refusal}
use Rattle.tp_base.specs.declared.answers.Refusal.TheVariants.{ClockEnd, CallbackLimit}
use Rattle.tp_base.specs.declared.plans.Plan.{Plan}
use Rattle.tp_base.specs.declared.plans.Plan.TheVariants.{Does}
use Rattle.tp_base.specs.declared.plans.Trigger.{Trigger}
use Rattle.tp_base.specs.declared.plans.Trigger.TheVariants.{SetTimer, Advance}
use Rattle.tp_base.specs.declared.plans.Change.TheVariants as change
use Rattle.tp_base.specs.declared.rows.TimerSetting.{TimerSetting}
use Rattle.tp_base.specs.Armings.{is_armed, is_set}
use Rattle.tp_base.specs.Timers.{clock_end, expired}
use Rattle.tp_model.specs.World.{World}
use Rattle.tp_model.specs.Conditions.{lacks_slots_for}
use Rattle.tp_model.specs.Sources.{count_fired}
use Rattle.tp_model.specs.Refusing.{first_refusal, unless_refused, actor_refusals, object_refusals}

-- ---- what a trigger does, and what its call answers

-- the first number of so many callbacks, or 0 where there are none
abbrev pub first_of : ℕ → ℕ → ℕ
first_of next_number count = if count == 0 then 0 else next_number

-- with the number that the next callback gets
abbrev pub fire : World → ℕ → Trigger → (ℕ → ℕ → Answer) → Plan
fire w next_number trigger told = Does (told (first_of next_number (count_fired w trigger)) (count_fired w trigger)) (change.Fire trigger next_number (count_fired w trigger))

-- ---- SetTimer, SetTimerEx: SetThreadpoolTimer, SetThreadpoolTimerEx

abbrev pub set_timer_refusals : World → Who → ℕ → Trigger → List (Bool × Refusal)
set_timer_refusals w who object trigger = object_refusals w who Timer object ++ (lacks_slots_for w (count_fired w trigger), CallbackLimit) ∷ []

unfoldable pub set_timer_plan : World → ℕ → Who → ObjectId → Option ℤ → ℕ → ℕ → Plan
set_timer_plan w next_number who object due period window =
    unless_refused (first_refusal (set_timer_refusals w who object.0 (SetTimer object due period window)))
    (fire w next_number (SetTimer object due period window) answer.Queued)

abbrev pub is_timer_set : World → ℕ → Bool
is_timer_set w object = is_set object w.settings

unfoldable pub set_timer_ex_plan : World → ℕ → Who → ObjectId → Option ℤ → ℕ → ℕ → Plan
set_timer_ex_plan w next_number who object due period window =
    unless_refused (first_refusal (set_timer_refusals w who object.0 (SetTimer object due period window)))
    (fire w next_number (SetTimer object due period window) (answer.WasSet (is_timer_set w object.0)))

-- ---- IsTimerSet: IsThreadpoolTimerSet

unfoldable pub is_timer_set_plan : World → Who → ObjectId → Plan
is_timer_set_plan w who object =
    unless_refused (first_refusal (object_refusals w who Timer object.0)) (Does (answer.Flag (is_timer_set w object.0)) change.Keep)

-- ---- Advance: time passes

-- the timers that expire; the slot of an armed wait becomes its callback's
abbrev pub count_expiring : World → ℕ → ℕ
count_expiring w now = length (filter (λ (s : TimerSetting). not (is_armed s.object.0 w.armings)) (expired now w.settings))

abbrev pub advance_refusals : World → Who → ℕ → List (Bool × Refusal)
advance_refusals w who now =
    actor_refusals w who ++ (nat_lt clock_end now, ClockEnd) ∷ (lacks_slots_for w (count_expiring w now), CallbackLimit) ∷ []

unfoldable pub advance_plan : World → ℕ → Who → ℕ → Plan
advance_plan w next_number who ticks =
    unless_refused (first_refusal (advance_refusals w who (w.now + ticks)))
    (fire w next_number (Advance (w.now + ticks)) (answer.Advanced (w.now + ticks)))
