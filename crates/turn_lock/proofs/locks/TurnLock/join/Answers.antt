use Rattle.std.proofs.Common.{rules}
use Rattle.turn_lock.proofs.Joining.{takes_in}
use Rattle.turn_lock.proofs.Seating.{joins}
use Rattle.turn_lock.specs.Histories.{StartsWith}
use Rattle.turn_lock.specs.Seats.{seen_of, HasLooked}
use Rattle.turn_lock.proofs.locks.TurnLock.join.Given.{Over}
use Rattle.turn_lock.proofs.locks.TurnLock.join.Goals.{After-look}
use Rattle.turn_lock.proofs.locks.TurnLock.join.Goals as goal

pub join_seat-requires : goal.join_seat-requires
join_seat-requires g c = let idle = c.requires.idle in (c.requires.of.0.lock_is, c.requires.of.1.lock_is, idle.1.carries, search rules, takes_in _ _ _ _ _ _ idle.0.holds idle.1.holds)

joined : (g : Over) (c : After-look g) → HasLooked c.args.seat.now (record { number = c.args.seat.now.number; raw = c.look.new.raw }) × StartsWith c.look.new.raw.me.0.seen (seen_of c.args.other)
joined g c =
    let taken = c.join_seat.ensures in
    joins c.args.seat.now c.args.other c.join_seat.new.seat c.look.new.raw c.look.result c.requires.idle.0 c.requires.idle.1 c.requires.numberless taken.0 taken.2 c.look.ensures.same.0 c.look.ensures.told

pub returns-clause-looked : goal.returns-clause-looked
returns-clause-looked g c = (joined g c).0

pub returns-clause-told : goal.returns-clause-told
returns-clause-told g c = (joined g c).1
