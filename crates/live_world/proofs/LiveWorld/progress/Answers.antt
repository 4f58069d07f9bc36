use Rattle.std.proofs.Common.{◌≡◌, ℕ, cond, IfSome, Some, option_map, sym, ap, subst, ◌∙◌}
use Rattle.tp_base.specs.declared.rows.WaitTarget.{WaitTarget}
use Rattle.tp_model.specs.Waits.{wait_of}
use Rattle.begun_waits.specs.Begun.{place_of}
use Rattle.tp_model.specs.World.{BegunWait}
use Rattle.live_world.specs.Live.{Live}
use Rattle.world_reads.specs.declared.waiting.Progress.TheVariants.{Starved, Holds}
use Rattle.live_world.proofs.Covered.{nowhere, placed}
use Rattle.live_world.proofs.Progress.{begun_acquires, begun_free, begun_holds, has_begun, no_kernel, not_begun}
use Rattle.live_world.proofs.LiveWorld.progress.Goals as goal
use Rattle.live_world.proofs.LiveWorld.progress.Goals.{In-Some}

-- what the wait is for
for : (c : In-Some) → Some c.in-Some.target ≡ option_map (λ (b : BegunWait). b.target) (wait_of c.args.self.now.world c.args.who)
for c = ap (option_map (λ (begun : ℕ × WaitTarget). begun.1)) (sym c.in-Some.is) ∙ c.begun.ensures.target ∙ ap (λ (x : Live). option_map (λ (b : BegunWait). b.target) (wait_of x.world c.args.who)) c.self.view_is

pub returns-in_default : goal.returns-in_default
returns-in_default c =
    not_begun c.args.self.now.world c.args.room c.args.who
    (ap (option_map (λ (begun : ℕ × WaitTarget). begun.1)) (sym (nowhere c.begun.result c.in_default.not-Some)) ∙ c.begun.ensures.target ∙ ap (λ (x : Live). option_map (λ (b : BegunWait). b.target) (wait_of x.world c.args.who)) c.self.view_is)

pub returns-in-Kernel : goal.returns-in-Kernel
returns-in-Kernel c = begun_acquires c.args.self.now.world c.args.room c.args.who c.in-Some.target c.in-Kernel.kernel (for (goal.at.returns-in-Kernel c).In-Some) c.in-Kernel.is

pub first_held-requires : goal.first_held-requires
first_held-requires c = record {
  at = rw (← c.self.view_is) (placed c.args.who (Some c.in-Some.waiter) (subst (λ o. IfSome o (λ (begun : ℕ × WaitTarget). place_of c.self.inside.waits.limits c.args.who ≡ Some begun.0)) c.in-Some.is c.begun.ensures.place) c.self.invariant.covered);
  target = sym (for (goal.at.first_held-requires c).In-Some);
}

pub is_wait_starved-requires : goal.is_wait_starved-requires
is_wait_starved-requires c = record {
  at = rw (← c.self.view_is) (placed c.args.who (Some c.in-Some.waiter) (subst (λ o. IfSome o (λ (begun : ℕ × WaitTarget). place_of c.self.inside.waits.limits c.args.who ≡ Some begun.0)) c.in-Some.is c.begun.ensures.place) c.self.invariant.covered);
  target = sym (for (goal.at.is_wait_starved-requires c).In-Some);
}

pub progress_free-requires : goal.progress_free-requires
progress_free-requires c = has_begun (wait_of c.args.self.now.world c.args.who) c.in-Some.target (for (goal.at.progress_free-requires c).In-Some)

pub returns-in-None : goal.returns-in-None
returns-in-None c =
    c.progress_free.ensures
    ∙ begun_free c.args.self.now.world c.args.room c.args.who c.in-Some.target (for (goal.at.returns-in-None c).In-Some) (no_kernel c.in-Some.target c.in_default-target.not-Kernel) (sym c.in-None.is ∙ c.first_held.ensures)

pub returns-else-is_wait_starved : goal.returns-else-is_wait_starved
returns-else-is_wait_starved c =
    ap (λ b. cond b Starved (Holds c.in-Some-first_held.first)) (sym c.if-is_wait_starved.false ∙ c.is_wait_starved.ensures)
    ∙ begun_holds c.args.self.now.world c.args.room c.args.who c.in-Some.target (for (goal.at.returns-else-is_wait_starved c).In-Some) (no_kernel c.in-Some.target c.in_default-target.not-Kernel) c.in-Some-first_held.first (sym c.in-Some-first_held.is ∙ c.first_held.ensures)

pub returns-then-is_wait_starved : goal.returns-then-is_wait_starved
returns-then-is_wait_starved c =
    ap (λ b. cond b Starved (Holds c.in-Some-first_held.first)) (sym c.if-is_wait_starved.true ∙ c.is_wait_starved.ensures)
    ∙ begun_holds c.args.self.now.world c.args.room c.args.who c.in-Some.target (for (goal.at.returns-then-is_wait_starved c).In-Some) (no_kernel c.in-Some.target c.in_default-target.not-Kernel) c.in-Some-first_held.first (sym c.in-Some-first_held.is ∙ c.first_held.ensures)
