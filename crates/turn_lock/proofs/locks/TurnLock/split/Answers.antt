use Rattle.std.proofs.Common.{rules, ◌∙◌}
use Rattle.turn_lock.proofs.Joining.{copies}
use Rattle.turn_lock.proofs.Seating.{splits_off}
use Rattle.turn_lock.proofs.locks.TurnLock.split.Goals as goal

pub split_seat-raw-requires : goal.split_seat-raw-requires
split_seat-raw-requires g c = let looked = c.front.ensures.looked in (looked.same.lock ∙ c.requires.of.lock_is, search rules, copies _ _ _ _ looked.idle.holds)

pub returns-clause-copy : goal.returns-clause-copy
returns-clause-copy g c =
    let split = c.split_seat-raw.ensures in
    splits_off c.front.new.seat c.split_seat-raw.new.seat c.split_seat-raw.result c.front.ensures.looked.idle split.0 split.2 split.3 split.4
