use Rattle.std.proofs.Common.{rules, Some}
use Rattle.std.proofs.lemmas.List.Elements.{All-pop}
use Rattle.turn_lock.specs.Locks.{IsOf}
use Rattle.turn_lock.specs.Seats.{IsIdle}
use Rattle.turn_lock.proofs.Gathering.{gathers_first, gathers_next}
use Rattle.turn_lock.proofs.Joining.{takes_in}
use Rattle.turn_lock.proofs.locks.TurnLock.gather.Goals as goal

pub loop-other-init : goal.loop-other-init
loop-other-init g c = gathers_first c.args.self.now c.args.first c.args.others.items c.requires.of.0 c.requires.of.1 c.requires.idle.0 c.requires.idle.1

pub join_seat-requires : goal.join_seat-requires
join_seat-requires g c =
    let d = c.loop-other.invariant in
    let left = c.loop-other.others.items in
    let after = c.pop.new.self.items in
    let other = c.in-Some.field-0 in
    let of = (All-pop (IsOf c.args.self.now) left after (Some other) c.in-Some.ensures.items d.left_of).1 in
    let idle = (All-pop IsIdle left after (Some other) c.in-Some.ensures.items d.left_idle).1 in
    (d.of, of.lock_is, idle.carries, search rules, takes_in _ _ _ _ _ _ d.holds idle.holds)

pub loop-other-preserved : goal.loop-other-preserved
loop-other-preserved g c =
    let joined = c.join_seat.ensures in
    gathers_next c.args.self.now c.loop-other.raw c.join_seat.new.seat c.look.new.raw c.look.result
    c.args.first c.in-Some.field-0 c.args.others.items c.loop-other.others.items c.pop.new.self.items c.loop-other.invariant c.in-Some.ensures.items joined.0 joined.2 c.look.ensures.same.0 c.look.ensures.told
