use Rattle.std.proofs.Common.{arith}
use Rattle.pool_rows.proofs.Turns.{busy_after, busy_fits, counts_busy, counted, fits, pool_made, retallied}
use Rattle.pool_rows.proofs.tallies.write_worker.Goals as goal

pub leave-requires-clause-within : goal.leave-requires-clause-within
leave-requires-clause-within c = pool_made _ _ c.requires.tallied _ c.requires.there _ _ c.replace-old.ensures.value

pub leave-requires-clause-counted : goal.leave-requires-clause-counted
leave-requires-clause-counted c = counted _ _ c.requires.tallied _ c.requires.there _ _ c.replace-old.ensures.value

pub join-requires-clause-fits : goal.join-requires-clause-fits
join-requires-clause-fits c =
    fits _ _ c.requires.tallied _ c.requires.there _ _ c.replace-old.ensures.value c.args.worker _ c.leave.ensures.tallies c.requires.few

pub returns-clause-tallied : goal.returns-clause-tallied
returns-clause-tallied c =
    rw c.replace-old.ensures.after
    (retallied _ _ c.requires.tallied _ c.requires.there _ _ c.replace-old.ensures.value c.args.worker _ c.leave.ensures.tallies _ c.join.ensures.tallies)

pub overflow_sub-result : goal.overflow_sub-result
overflow_sub-result c =
    rw (c.from.ensures, c.requires.busy) (counts_busy _ _ c.requires.tallied _ c.requires.there _ _ c.replace-old.ensures.value)

pub overflow_add-result : goal.overflow_add-result
overflow_add-result c =
    rw (c.from.ensures, c.from-2.ensures, c.requires.busy) (omega (arith, busy_fits _ _ c.requires.tallied _ c.requires.there _ _ c.replace-old.ensures.value c.args.worker c.requires.few))

pub returns-clause-busy : goal.returns-clause-busy
returns-clause-busy c =
    rw (c.from.ensures, c.from-2.ensures, c.requires.busy, c.replace-old.ensures.after) (busy_after _ _ c.requires.tallied _ c.requires.there _ _ c.replace-old.ensures.value c.args.worker)
