-- Calls on wait objects: SetThreadpoolWait.
use Rattle.std.specs.Prelude.{ℕ, ℤ, Bool, false, not, nat_lt, List, [], ◌∷◌, ◌++◌, Option}
use Rattle.std.specs.Option.{option_map_or}
use Rattle.tp_base.specs.declared.ids.Who.{Who}
use Rattle.tp_base.specs.declared.ids.KernelId.{KernelId}
use Rattle.tp_base.specs.declared.ids.ObjectId.{ObjectId}
use Rattle.tp_base.specs.declared.calls.Kind.TheVariants.{Wait}
use Rattle.tp_base.specs.declared.answers.Answer.TheVariants as answer
use Rattle.tp_base.specs.declared.answers.Refusal.{Refusal}
use Rattle.tp_base.specs.declared.answers.Refusal.TheVariants.{NoSuch, NotWaitable, CallbackLimit}
use Rattle.tp_base.specs.declared.plans.Plan.{Plan}
use Rattle.tp_base.specs.declared.plans.Trigger.{Trigger}
use Rattle.tp_base.specs.declared.plans.Trigger.TheVariants.{SetWait}
use Rattle.tp_base.specs.Kernels.{is_waitable}
use Rattle.tp_model.specs.World.{World}
use Rattle.tp_model.specs.Kernels.{is_kernel, is_kernel_that}
use Rattle.tp_model.specs.Sources.{slots_after}
use Rattle.tp_model.specs.Calls.Timers.{fire}
use Rattle.tp_model.specs.Refusing.{first_refusal, unless_refused, object_refusals}

-- ---- SetWait: SetThreadpoolWait

-- the kernel object that is named, if one is, was never made, or can't be armed on
abbrev pub names_unmade : World → Option KernelId → Bool
names_unmade w kernel = option_map_or (λ (k : KernelId). not (is_kernel w k.0)) kernel false

abbrev pub names_lock : World → Option KernelId → Bool
names_lock w kernel = option_map_or (λ (k : KernelId). not (is_kernel_that is_waitable w k.0)) kernel false

abbrev pub lacks_slots_after : World → Trigger → Bool
lacks_slots_after w trigger = nat_lt w.limits.slots (slots_after w trigger)

abbrev pub set_wait_refusals : World → Who → ObjectId → Option KernelId → Option ℤ → List (Bool × Refusal)
set_wait_refusals w who object kernel timeout =
    (names_unmade w kernel, NoSuch)
    ∷ (object_refusals w who Wait object.0 ++ (names_lock w kernel, NotWaitable) ∷ (lacks_slots_after w (SetWait object kernel timeout), CallbackLimit) ∷ [])

unfoldable pub set_wait_plan : World → ℕ → Who → ObjectId → Option KernelId → Option ℤ → Plan
set_wait_plan w next_number who object kernel timeout =
    unless_refused (first_refusal (set_wait_refusals w who object kernel timeout)) (fire w next_number (SetWait object kernel timeout) answer.Queued)
