use Rattle.std.proofs.Common.{refl}
use Rattle.pool_book.proofs.Making.{opened}
use Rattle.pool_book.proofs.BookRecorded.open.Goals as goal

pub invariant_of-result : goal.invariant_of-result
invariant_of-result c =
    opened c.in_ok-engine.engine c.args.limits c.args.capacity 0 c.none.result c.requires c.in_ok-engine.ensures.stands c.in_ok-engine.ensures.age refl c.none.ensures
