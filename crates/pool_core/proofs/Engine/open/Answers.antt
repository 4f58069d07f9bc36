use Rattle.std.proofs.Common.{sym, ap, ◌∙◌, subst, arith}
use Rattle.tp_model.specs.Counts.{owed}
use Rattle.tp_model.specs.Support.Ranged.{AreRowsInRange, AreTakenAtMost}
use Rattle.live_world.specs.Live.{Live}
use Rattle.pool_core.proofs.Counting.{owed_opening}
use Rattle.pool_core.proofs.Engine.open.Goals as goal

pub invariant_of-result : goal.invariant_of-result
invariant_of-result c =
    record {
      owes = c.from.ensures ∙ sym (ap (λ (l : Live). owed l.world) c.in_ok-open.ensures ∙ owed_opening c.args.limits);
      few_made = omega (arith, ap (λ (l : Live). l.made) c.in_ok-open.ensures);
      few_owed = omega (arith, c.from.ensures, c.requires.clients_most);
      rows = subst (λ (l : Live). AreRowsInRange l.world) (sym c.in_ok-open.ensures) (record { objects = tt; callbacks = tt; kernels = tt; timers = tt; armings = tt; waits = tt; few = omega arith });
      takings = subst (λ (l : Live). AreTakenAtMost 0 l.world) (sym c.in_ok-open.ensures) tt;
    }
