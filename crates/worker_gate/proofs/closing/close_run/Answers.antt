use Rattle.std.proofs.Common.{List, All, ap, map, sym, subst, vec_items, ◌∙◌}
use Rattle.turn_lock.specs.declared.seats.Seat.{Seat}
use Rattle.turn_lock.specs.Seats.{IsLast}
use Rattle.shared_pool.specs.Pools.{setup_at, HaveAll, IsSeatOf}
use Rattle.worker_gate.specs.declared.actor.Actor.{Actor}
use Rattle.worker_gate.specs.declared.role.Role.{Role}
use Rattle.worker_gate.specs.Acting.{seat_in}
use Rattle.worker_gate.specs.Closing.{BeginsAsMade, IsFirstPlayed}
use Rattle.part_places.specs.Places.{given}
use Rattle.worker_gate.specs.Rounds.{AllOf, HaveAllRoles}
use Rattle.worker_gate.proofs.Back.{all_last, capacity_last, client_last, first_last, has_last, known_last, legal_last, limits_last, made_last, seats_of, worker_last}
use Rattle.worker_gate.proofs.Ending.{rounds_more}
use Rattle.worker_gate.proofs.closing.close_run.Goals as goal

pub close-book-requires-clause-seats : goal.close-book-requires-clause-seats
close-book-requires-clause-seats g c =
    let γ = given g.R.Routines.next_of g.R.Routines.after_of c.args.routines.now in
    subst (λ (seats : List (Seat g.row.B.Denot)). All (IsSeatOf c.args.pool) seats) (sym c.in_ok-seats.ensures.seats) (seats_of γ c.args.pool c.args.actors.items c.requires.back.ready)

pub close-book-requires-clause-all : goal.close-book-requires-clause-all
close-book-requires-clause-all g c = subst (λ (seats : List (Seat g.row.B.Denot)). HaveAll c.args.pool seats) (sym c.in_ok-seats.ensures.seats) c.requires.back.all

pub end_run-cut-requires-clause-all : goal.end_run-cut-requires-clause-all
end_run-cut-requires-clause-all g c =
    let γ = given g.R.Routines.next_of g.R.Routines.after_of c.args.routines.now in
    let last = g.B.Recorded.recording c.close-book.result in
    let lasts : All (IsLast last) (map seat_in c.args.actors.items) = subst (λ (seats : List (Seat g.row.B.Denot)). All (IsLast last) seats) c.in_ok-seats.ensures.seats c.close-book.ensures.last in
    subst (λ (roles : List Role). AllOf γ last.limits last.capacity last.history roles) (sym c.in_ok-seats.ensures.roles) (all_last γ c.args.pool c.args.actors.items c.requires.back last lasts)

pub end_run-cut-requires-clause-covers : goal.end_run-cut-requires-clause-covers
end_run-cut-requires-clause-covers g c =
    let γ = given g.R.Routines.next_of g.R.Routines.after_of c.args.routines.now in
    let last = g.B.Recorded.recording c.close-book.result in
    let lasts : All (IsLast last) (map seat_in c.args.actors.items) = subst (λ (seats : List (Seat g.row.B.Denot)). All (IsLast last) seats) c.in_ok-seats.ensures.seats c.close-book.ensures.last in
    subst (λ (roles : List Role). HaveAllRoles last.limits roles) (sym c.in_ok-seats.ensures.roles) (has_last γ c.args.pool c.args.actors.items c.requires.back last lasts)

pub end_run-cut-requires-clause-legal : goal.end_run-cut-requires-clause-legal
end_run-cut-requires-clause-legal g c =
    let γ = given g.R.Routines.next_of g.R.Routines.after_of c.args.routines.now in
    let last = g.B.Recorded.recording c.close-book.result in
    let lasts : All (IsLast last) (map seat_in c.args.actors.items) = subst (λ (seats : List (Seat g.row.B.Denot)). All (IsLast last) seats) c.in_ok-seats.ensures.seats c.close-book.ensures.last in
    legal_last γ c.args.pool c.args.actors.items c.requires.back last lasts

pub end_run-cut-requires-clause-client : goal.end_run-cut-requires-clause-client
end_run-cut-requires-clause-client g c =
    let γ = given g.R.Routines.next_of g.R.Routines.after_of c.args.routines.now in
    let last = g.B.Recorded.recording c.close-book.result in
    let lasts : All (IsLast last) (map seat_in c.args.actors.items) = subst (λ (seats : List (Seat g.row.B.Denot)). All (IsLast last) seats) c.in_ok-seats.ensures.seats c.close-book.ensures.last in
    client_last γ c.args.pool c.args.actors.items c.requires.back last lasts

pub end_run-cut-requires-clause-worker : goal.end_run-cut-requires-clause-worker
end_run-cut-requires-clause-worker g c =
    let γ = given g.R.Routines.next_of g.R.Routines.after_of c.args.routines.now in
    let last = g.B.Recorded.recording c.close-book.result in
    let lasts : All (IsLast last) (map seat_in c.args.actors.items) = subst (λ (seats : List (Seat g.row.B.Denot)). All (IsLast last) seats) c.in_ok-seats.ensures.seats c.close-book.ensures.last in
    worker_last γ c.args.pool c.args.actors.items c.requires.back last lasts

pub end_run-cut-requires-clause-known : goal.end_run-cut-requires-clause-known
end_run-cut-requires-clause-known g c =
    let γ = given g.R.Routines.next_of g.R.Routines.after_of c.args.routines.now in
    let last = g.B.Recorded.recording c.close-book.result in
    let lasts : All (IsLast last) (map seat_in c.args.actors.items) = subst (λ (seats : List (Seat g.row.B.Denot)). All (IsLast last) seats) c.in_ok-seats.ensures.seats c.close-book.ensures.last in
    known_last γ c.args.pool c.args.actors.items c.requires.back last lasts

pub end_run-cut-requires-clause-first : goal.end_run-cut-requires-clause-first
end_run-cut-requires-clause-first g c =
    let γ = given g.R.Routines.next_of g.R.Routines.after_of c.args.routines.now in
    let last = g.B.Recorded.recording c.close-book.result in
    let lasts : All (IsLast last) (map seat_in c.args.actors.items) = subst (λ (seats : List (Seat g.row.B.Denot)). All (IsLast last) seats) c.in_ok-seats.ensures.seats c.close-book.ensures.last in
    subst (λ (roles : List Role). IsFirstPlayed last.limits last.history roles) (sym c.in_ok-seats.ensures.roles) (first_last γ c.args.pool c.args.actors.items c.requires.back last lasts c.requires.first)

pub returns-clause-limits : goal.returns-clause-limits
returns-clause-limits g c =
    let γ = given g.R.Routines.next_of g.R.Routines.after_of c.args.routines.now in
    let last = g.B.Recorded.recording c.close-book.result in
    let lasts : All (IsLast last) (map seat_in c.args.actors.items) = subst (λ (seats : List (Seat g.row.B.Denot)). All (IsLast last) seats) c.in_ok-seats.ensures.seats c.close-book.ensures.last in
    c.end_run-cut.ensures.same.limits ∙ limits_last γ c.args.pool c.args.actors.items c.requires.back last lasts

pub returns-clause-capacity : goal.returns-clause-capacity
returns-clause-capacity g c =
    let γ = given g.R.Routines.next_of g.R.Routines.after_of c.args.routines.now in
    let last = g.B.Recorded.recording c.close-book.result in
    let lasts : All (IsLast last) (map seat_in c.args.actors.items) = subst (λ (seats : List (Seat g.row.B.Denot)). All (IsLast last) seats) c.in_ok-seats.ensures.seats c.close-book.ensures.last in
    c.end_run-cut.ensures.same.capacity ∙ capacity_last γ c.args.pool c.args.actors.items c.requires.back last lasts

pub returns-clause-made : goal.returns-clause-made
returns-clause-made g c =
    let γ = given g.R.Routines.next_of g.R.Routines.after_of c.args.routines.now in
    let last = g.B.Recorded.recording c.close-book.result in
    let now = g.B.Recorded.recording c.end_run-cut.new.book in
    let lasts : All (IsLast last) (map seat_in c.args.actors.items) = subst (λ (seats : List (Seat g.row.B.Denot)). All (IsLast last) seats) c.in_ok-seats.ensures.seats c.close-book.ensures.last in
    let all : AllOf γ last.limits last.capacity last.history c.in_ok-seats.roles.items =
    subst (λ (roles : List Role). AllOf γ last.limits last.capacity last.history roles) (sym c.in_ok-seats.ensures.roles) (all_last γ c.args.pool c.args.actors.items c.requires.back last lasts) in
    let more = rounds_more γ last.limits last.capacity last.history now.history c.in_ok-seats.roles.items c.end_run-cut.new.roles.items c.end_run-cut.ensures.played all in
    subst (λ (actors : List (Actor g.row.B.Denot)). BeginsAsMade (setup_at c.args.pool).limits now.history actors) (sym (ap vec_items c.of-back.ensures))
    (made_last γ c.args.pool c.args.actors.items c.requires.back last lasts now.history (record { rest = more.more; is = more.is }))
