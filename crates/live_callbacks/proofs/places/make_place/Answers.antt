use Rattle.std.proofs.Common.{◌<◌, ap, length, subst, arith}
use Rattle.std.specs.List.{All}
use Rattle.live_callbacks.specs.declared.places.Entry.{Entry}
use Rattle.live_callbacks.proofs.Numbers.{live_all}
use Rattle.live_callbacks.proofs.places.make_place.Goals as goal

-- where what left is dropped, all that is left is there
pub returns-then-not-is_next-clause-memory : goal.returns-then-not-is_next-clause-memory
returns-then-not-is_next-clause-memory c =
    omega (arith, ap length (live_all _ c.drop_left.ensures.there), ap length c.drop_left.ensures.kept, c.requires.room)

pub returns-then-not-is_next-clause-last : goal.returns-then-not-is_next-clause-last
returns-then-not-is_next-clause-last c =
    subst (All (λ (e : Entry). e.number < c.args.number)) (live_all _ c.drop_left.ensures.there) (rw c.drop_left.ensures.kept c.requires.last)
