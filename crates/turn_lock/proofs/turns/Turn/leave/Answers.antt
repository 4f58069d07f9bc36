use Rattle.std.proofs.Common.{rules}
use Rattle.turn_lock.proofs.Keeping.{lets_go}
use Rattle.turn_lock.proofs.Seating.{leaves}
use Rattle.turn_lock.proofs.turns.Turn.leave.Goals as goal

pub store-requires : goal.store-requires
store-requires g c =
    let told = c.requires.told.1 in
    (c.requires.of.lock_is, search rules, lets_go g.B.Recorded.recording _ _ _ c.requires.told.0 _ (search rules) told.at_turn.carries told.at_turn.holds told.recorded)

pub returns : goal.returns
returns g c = record { left = leaves c.args.self.seat.now c.store.new.seat c.requires.told.0 c.store.ensures.0 c.requires.told.1.at_turn c.store.ensures.2 }
