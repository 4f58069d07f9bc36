use Rattle.std.proofs.Common.{ap, arith, rules}
use Rattle.std.proofs.lemmas.Grind.{common_steps}
use Rattle.pool_rows.proofs.Turns.{busy_at_first, tallied_at_first}
use Rattle.pool_rows.proofs.PoolRows.open.Goals as goal

pub invariant_of-result : goal.invariant_of-result
invariant_of-result c =
    record {
      limit_fits = search rules;
      workers_fit = grind (arith, common_steps);
      limited = search rules;
      reserved = search rules;
      tallied = rw (c.push_reserved.ensures.items, c.in_ok-entries.ensures.items, c.loop.invariant.made) (tallied_at_first _ (ap (λ e. e.tally) c.made.ensures) c.loop.counter);
      busy = rw c.loop.invariant.made (busy_at_first c.loop.counter);
    }
