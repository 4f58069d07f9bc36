-- The facts of calls on wait objects.
use Rattle.std.proofs.Common.{◌≡◌, ℕ, ◌+◌, ◌≤◌, ◌^◌, false, Option, Some, None, refl, ltb-false}
use Rattle.std.specs.Prelude.{ℤ}
use Rattle.tp_base.specs.declared.ids.Who.{Who}
use Rattle.tp_base.specs.declared.ids.ObjectId.{ObjectId}
use Rattle.tp_base.specs.declared.ids.KernelId.{KernelId}
use Rattle.tp_base.specs.declared.calls.Kind.TheVariants.{Wait}
use Rattle.tp_base.specs.declared.calls.Call.TheVariants.{SetWait}
use Rattle.tp_base.specs.declared.answers.Answer.TheVariants as answer
use Rattle.tp_base.specs.declared.plans.Trigger.TheVariants as trigger
use Rattle.tp_base.specs.Kernels.{is_waitable}
use Rattle.tp_base.specs.Ranges.{IsCallInRange}
use Rattle.tp_model.specs.World.{World}
use Rattle.tp_model.specs.Conditions.{is_finished, is_object_of, is_released}
use Rattle.tp_model.specs.Kernels.{is_kernel_that}
use Rattle.tp_model.specs.Sources.{slots_after}
use Rattle.tp_model.specs.Calls.WaitObjects.{names_lock, set_wait_refusals, set_wait_plan}
use Rattle.tp_model.specs.Support.Allowed.{IsWaitable}
use Rattle.tp_model.specs.Support.Safe.{IsSafe}
use Rattle.tp_model.specs.Support.Remembered.{forget}
use Rattle.tp_model.specs.Support.Ranged.{IsRanged, IsPlanInRange}
use Rattle.tp_model.proofs.Refusals.{neither, not_false}
use Rattle.tp_model.proofs.Forgetting.{live_again}
use Rattle.tp_model.proofs.Allowed.{safe_unless}
use Rattle.tp_model.proofs.Ranged.{made_ranged}
use Rattle.tp_model.proofs.Calls.Timers.{fire_safe, fire_ranged, object_stands}

-- ---- SetWait

names_waitable : (w : World) (kernel : Option KernelId) → names_lock w kernel ≡ false → IsWaitable w kernel
names_waitable w None e = tt
names_waitable w (Some kernel) e = not_false (is_kernel_that is_waitable w kernel.0) e

module _ (next_number : ℕ) (w : World) (who : Who) (object : ObjectId) (kernel : Option KernelId) (timeout : Option ℤ) where
  pub set_wait_safe : IsSafe next_number w who (SetWait object kernel timeout) (set_wait_plan w next_number who object kernel timeout)
  unfolding set_wait_plan
  set_wait_safe =
      safe_unless next_number w who (SetWait object kernel timeout) (set_wait_refusals w who object kernel timeout) _
      (λ none. fire_safe next_number w who (SetWait object kernel timeout) (trigger.SetWait object kernel timeout) answer.Queued (λ first count. refl) (λ first count. refl)
      (record {
        wait = object_stands w Wait object (not_false (is_object_of w Wait object.0) none.1.1.0) (neither (is_finished w who) (is_released w object.0) none.1.1.1.0).1;
        waitable = names_waitable w kernel none.1.1.1.1.1.1.0;
      })
      (λ _. ltb-false w.limits.slots (slots_after w (trigger.SetWait object kernel timeout)) none.1.1.1.1.1.1.1.0))

  pub set_wait_forget : set_wait_plan (forget w) next_number who object kernel timeout ≡ set_wait_plan w next_number who object kernel timeout
  unfolding set_wait_plan
  set_wait_forget = rw (live_again w.callbacks)

  pub set_wait_ranged : next_number + 65536 ≤ 2 ^ 64 → IsRanged w → IsCallInRange (SetWait object kernel timeout) → IsPlanInRange (set_wait_plan w next_number who object kernel timeout)
  unfolding set_wait_plan
  set_wait_ranged few g c =
      made_ranged (set_wait_refusals w who object kernel timeout) _ _
      (λ none. fire_ranged next_number w (trigger.SetWait object kernel timeout) answer.Queued (λ first count f n. (f, n)) few g c.0 (ltb-false w.limits.slots (slots_after w (trigger.SetWait object kernel timeout)) none.1.1.1.1.1.1.1.0))
