use Rattle.std.proofs.Common.{◌≡◌, ◌∷◌, [], ◌++◌, List, map, All, sym, ap, subst, ◌∙◌, arith}
use Rattle.std.proofs.lemmas.List.{map-append}
use Rattle.std.proofs.lemmas.List.Elements.{All-push}
use Rattle.std.proofs.lemmas.Grind.{common_steps}
use Rattle.std.specs.Vec.Iter.{into_iter_items}
use Rattle.turn_lock.specs.declared.seats.Seat.{Seat}
use Rattle.worker_gate.specs.Acting.{seat_in}
use Rattle.worker_gate.specs.Crowds.{IsNewActor, IsNewSeat}
use Rattle.worker_gate.proofs.Crowds.{one_of, taken_one}
use Rattle.worker_gate.proofs.run.take_seats.Goals as goal

pub loop-seat-preserved : goal.loop-seat-preserved
loop-seat-preserved g c =
    let so = c.loop-seat.invariant in
    let seat = c.in-Some.seat in
    let parts : c.args.seats.items ≡ c.loop-seat.yielded ++ seat ∷ into_iter_items c.next.new.self = grind (arith, common_steps) in
    let new : IsNewSeat c.args.limits seat = one_of (IsNewSeat c.args.limits) c.loop-seat.yielded seat (into_iter_items c.next.new.self) (subst (All (IsNewSeat c.args.limits)) parts c.requires) in
    let one : IsNewActor c.args.limits c.new.result = taken_one c.args.limits seat c.new.result c.number.result new c.new.ensures.seat c.number.ensures (c.new.ensures.role ∙ c.new_role-role.ensures) in
    record {
      goes = tt;
      ends = tt;
      parts = grind (arith, common_steps);
      seats = ap (map seat_in) c.push_reserved.ensures.items
          ∙ (map-append seat_in c.loop-seat.actors.items (c.new.result ∷ [])
          ∙ (ap (λ (l : List (Seat g.row.B.Denot)). l ++ seat_in c.new.result ∷ []) so.seats ∙ ap (λ (s : Seat g.row.B.Denot). c.loop-seat.yielded ++ s ∷ []) c.new.ensures.seat));
      new = subst (All (IsNewActor c.args.limits)) (sym c.push_reserved.ensures.items) (All-push (IsNewActor c.args.limits) c.loop-seat.actors.items c.new.result so.new one);
      fits = grind (arith, common_steps);
    }
