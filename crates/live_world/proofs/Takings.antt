-- The kernel objects, as they are made and changed and as waits for them end.
use Rattle.std.proofs.Common.{◌≡◌, ◌+◌, ◌<◌, ◌≤◌, ◌^◌, ◌-◌, true, Option, Some, None, IfSome, is_some, refl, sym, ap, subst, arith}
use Rattle.tp_base.specs.declared.ids.Who.{Who}
use Rattle.tp_base.specs.declared.ids.KernelId.{KernelId}
use Rattle.tp_base.specs.declared.plans.WaitEnd.{WaitEnd}
use Rattle.tp_base.specs.declared.plans.WaitEnd.TheVariants.{Free, Exhausted, Stalled}
use Rattle.tp_base.specs.declared.rows.KernelRow.{KernelRow}
use Rattle.tp_base.specs.declared.rows.WaitTarget.{WaitTarget}
use Rattle.tp_base.specs.declared.rows.WaitTarget.TheVariants.{Object, Group, Kernel}
use Rattle.tp_base.specs.Kernels.{may_take, takings_of}
use Rattle.tp_model.specs.World.{World, BegunWait}
use Rattle.tp_model.specs.Waits.{wait_of}
use Rattle.tp_model.specs.Changes.{kernels_taken, kernels_left}
use Rattle.tp_model.specs.Support.Allowed.{MayEnd, IsTakeable}
use Rattle.tp_model.specs.Support.Ranged.{AreTakenAtMost}
use Rattle.tp_model.proofs.Kernels.{that_stands}
use Rattle.tp_model.proofs.Lists.{all_get}
use Rattle.tp_model.proofs.Refusals.{numbered_some}
use Rattle.begun_waits.specs.Begun.{kernel_in, wanted_by}
use Rattle.live_world.specs.Taking.{IsFreeFor, rows_left}

-- ---- a wait for a kernel object ends

free_for : (w : World) (who : Who) (target : WaitTarget) (kernel : KernelId) → kernel_in target ≡ Some kernel → IsTakeable w who target → AreTakenAtMost (2 ^ 47) w → IsFreeFor who w.kernels kernel.0
free_for w who (Object object) kernel is takes most = absurd cc
free_for w who (Group group) kernel is takes most = absurd cc
free_for w who (Kernel other) kernel is takes most =
    let same : other ≡ kernel = cc in
    let s = that_stands (may_take who) w other.0 takes in
    let few : takings_of s.row.state ≤ 2 ^ 47 = all_get (λ (k : KernelRow). takings_of k.state ≤ 2 ^ 47) w.kernels (other.0 - 1) s.row most (numbered_some w.kernels other.0 s.row s.stands).0 in
    subst (λ (k : KernelId). IsFreeFor who w.kernels k.0) same
    (record {
      made = ap is_some s.stands;
      allowed = subst (λ (o : Option KernelRow). IfSome o (λ row. may_take who row.state ≡ true)) (sym s.stands) s.passes;
      few = subst (λ (o : Option KernelRow). IfSome o (λ row. takings_of row.state + 1 < 2 ^ 64)) (sym s.stands) (omega (arith, few));
    })

-- what the wait was for is taken, as the model says
pub left_here : (w : World) (who : Who) (how : WaitEnd) → rows_left who how (wanted_by (wait_of w who)) w.kernels ≡ kernels_left w who how (wait_of w who)
left_here w who Exhausted = refl
left_here w who Stalled = refl
left_here w who Free = known (wait_of w who)
  where
    of_target : (t : WaitTarget) → rows_left who Free (kernel_in t) w.kernels ≡ kernels_taken w who t
    of_target (Object object) = refl
    of_target (Group group) = refl
    of_target (Kernel kernel) = refl

    known : (o : Option BegunWait) → rows_left who Free (wanted_by o) w.kernels ≡ kernels_left w who Free o
    known None = refl
    known (Some b) = of_target b.target

pub wanted_free : (w : World) (who : Who) (how : WaitEnd) → MayEnd w who how → AreTakenAtMost (2 ^ 47) w → how ≡ Free → IfSome (wanted_by (wait_of w who)) (λ (kernel : KernelId). IsFreeFor who w.kernels kernel.0)
wanted_free w who how a most is =
    subst (λ (o : Option BegunWait). IfSome (wanted_by o) (λ (kernel : KernelId). IsFreeFor who w.kernels kernel.0)) (sym a.begun) (of_kernel (kernel_in a.wait.target) refl)
  where
    of_kernel : (o : Option KernelId) → kernel_in a.wait.target ≡ o → IfSome o (λ (kernel : KernelId). IsFreeFor who w.kernels kernel.0)
    of_kernel None e = tt
    of_kernel (Some kernel) e = free_for w who a.wait.target kernel e (a.takes is) most
