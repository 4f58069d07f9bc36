use Rattle.std.proofs.Common.{◌≡◌, ◌∷◌, ◌++◌, [], Option, option_to_list, ap, ◌∙◌}
use Rattle.std.proofs.lemmas.List.Elements.{All-push, All-same}
use Rattle.turn_lock.specs.declared.seats.Seat.{Seat}
use Rattle.turn_lock.specs.Locks.{setup_of}
use Rattle.turn_lock.specs.Seats.{IsGathered}
use Rattle.turn_lock.proofs.Gathering.{closes}
use Rattle.turn_lock.proofs.locks.TurnLock.close.Goals as goal

pub returns : goal.returns
returns g c =
    let raw = c.gather-raw.result in
    let seats = c.args.seats.items in
    let gathered = c.gather-raw.ensures in
    let items : seats ≡ c.pop.new.self.items ++ c.unwrap-first.result ∷ [] = c.pop.ensures.items ∙ ap (λ (o : Option (Seat g.row.B.Denot)). c.pop.new.self.items ++ option_to_list o) c.unwrap-first.ensures in
    let all = All-same (IsGathered raw) seats (c.pop.new.self.items ++ c.unwrap-first.result ∷ []) items (All-push (IsGathered raw) c.pop.new.self.items c.unwrap-first.result gathered.others gathered.first) in
    record { last = closes g.B.Recorded.recording (setup_of c.args.self) raw seats _ _ c.take-book.result gathered.idle.0 gathered.idle.1 all c.requires.all c.close_with-closed.ensures.values.2 c.take-book.ensures.value }
