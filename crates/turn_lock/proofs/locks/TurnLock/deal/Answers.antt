use Rattle.std.proofs.Common.{rules, ◌<◌, List, subst, sym, arith}
use Rattle.turn_lock.specs.declared.seats.Seat.{Seat}
use Rattle.turn_lock.specs.Locks.{name_of, setup_of}
use Rattle.turn_lock.proofs.Dealing.{Dealing, starts, deals_next, dealt_next}
use Rattle.turn_lock.proofs.locks.TurnLock.deal.Goals as goal

pub split_seat-raw-requires : goal.split_seat-raw-requires
split_seat-raw-requires g c =
    let d = c.loop-place.invariant in
    let inside : c.loop-place.place < (setup_of c.args.self.now).seats = omega (arith, c.requires.count) in
    (d.of, search rules, deals_next _ _ g.B.Recorded.recording c.loop-place.place c.loop-place.left c.loop-place.seats.items d inside)

pub loop-place-init : goal.loop-place-init
loop-place-init g c = subst (λ (l : List (Seat g.row.B.Denot)). Dealing (name_of c.args.self.now) (setup_of c.args.self.now) 0 c.args.raw l) (sym c.new-seats.ensures.items) (starts _ _ c.args.raw c.requires.of c.requires.all)

pub loop-place-preserved : goal.loop-place-preserved
loop-place-preserved g c =
    let d = c.loop-place.invariant in
    let split = c.split_seat-raw.ensures in
    let inside : c.loop-place.place < (setup_of c.args.self.now).seats = omega (arith, c.requires.count) in
    dealt_next _ _ c.loop-place.place c.loop-place.left c.split_seat-raw.new.seat c.split_seat-raw.result c.loop-place.seats.items c.push.new.self.items d inside split.0 split.2 split.3 split.4 c.in_ok-push.ensures.items
