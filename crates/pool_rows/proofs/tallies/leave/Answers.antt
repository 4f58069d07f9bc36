use Rattle.std.proofs.Common.{refl, ◌<◌, length}
use Rattle.pool_rows.proofs.Entries.{left, rows_same}
use Rattle.pool_rows.proofs.tallies.leave.Goals as goal

pub returns-in-Some-clause-rows : goal.returns-in-Some-clause-rows
returns-in-Some-clause-rows c =
    let within : c.in-Some.pool.0 < length c.args.entries.now = rw c.in-Some.is at c.requires.within in
    rows_same c.args.worker c.in-Some.pool c.in-Some.is _ within _ _ refl

pub returns-in-Some-clause-tallies : goal.returns-in-Some-clause-tallies
returns-in-Some-clause-tallies c =
    let within : c.in-Some.pool.0 < length c.args.entries.now = rw c.in-Some.is at c.requires.within in
    left c.args.worker c.in-Some.pool c.in-Some.is _ within _ _ c.subtract.ensures
