use Rattle.pool_rows.proofs.Turns.{looked_up}
use Rattle.pool_rows.proofs.PoolRows.worker.Goals as goal

pub returns-clause-pool_made : goal.returns-clause-pool_made
returns-clause-pool_made c =
    rw (c.copied.ensures, ← c.self.view_is) (looked_up _ _ c.self.invariant.tallied _ _ (rw c.deref.ensures.value at c.get.ensures.lookup))
