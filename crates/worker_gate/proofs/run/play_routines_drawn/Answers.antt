use Rattle.std.proofs.Common.{arith}
use Rattle.part_places.specs.Places.{given}
use Rattle.worker_gate.proofs.OneThread.{last_capacity, last_drawn, last_legal, last_limits, now_all, now_client, now_covers, now_first, now_known, now_legal, now_well, now_worker, some_role, start_alone, start_stands}
use Rattle.worker_gate.proofs.run.play_routines_drawn.Goals as goal

pub index_mut-requires : goal.index_mut-requires
index_mut-requires g c =
    let some = some_role c.args.limits c.requires.client c.in_ok-roles.roles.items c.in_ok-roles.ensures in omega (arith, some, c.in_ok-roles.roles.ok.0)

pub set_up-requires-clause-of : goal.set_up-requires-clause-of
set_up-requires-clause-of g c =
    let γ = given g.R.Routines.next_of g.R.Routines.after_of c.args.routines.now in
    let start = g.B.Recorded.recording c.in_ok-book.book in
    let roles = c.in_ok-roles.roles.items in
    start_stands γ c.args.limits c.args.capacity c.requires.client roles c.in_ok-roles.ensures start c.in_ok-book.ensures.limits c.in_ok-book.ensures.capacity c.in_ok-book.ensures.empty c.index_mut.result.now c.index_mut.ensures.value

pub set_up-requires-clause-alone : goal.set_up-requires-clause-alone
set_up-requires-clause-alone g c =
    let γ = given g.R.Routines.next_of g.R.Routines.after_of c.args.routines.now in
    let start = g.B.Recorded.recording c.in_ok-book.book in
    let roles = c.in_ok-roles.roles.items in
    start_alone γ c.args.limits c.args.capacity c.requires.client roles c.in_ok-roles.ensures start c.in_ok-book.ensures.limits c.in_ok-book.ensures.capacity c.in_ok-book.ensures.empty c.index_mut.result.now c.index_mut.ensures.value c.requires.calm

pub end_drawn_run-requires-clause-all : goal.end_drawn_run-requires-clause-all
end_drawn_run-requires-clause-all g c =
    let γ = given g.R.Routines.next_of g.R.Routines.after_of c.args.routines.now in
    let start = g.B.Recorded.recording c.in_ok-book.book in
    let roles = c.in_ok-roles.roles.items in
    let s = c.set_up.ensures in
    let now = g.B.Recorded.recording c.set_up.new.book in
    now_all γ c.args.limits c.args.capacity c.requires.client roles c.in_ok-roles.ensures start c.in_ok-book.ensures.limits c.in_ok-book.ensures.capacity c.in_ok-book.ensures.empty c.index_mut.result.now c.index_mut.ensures.value now c.set_up.new.role s.same s.played s.of s.who s.ended

pub end_drawn_run-requires-clause-covers : goal.end_drawn_run-requires-clause-covers
end_drawn_run-requires-clause-covers g c =
    let γ = given g.R.Routines.next_of g.R.Routines.after_of c.args.routines.now in
    let start = g.B.Recorded.recording c.in_ok-book.book in
    let roles = c.in_ok-roles.roles.items in
    let s = c.set_up.ensures in
    let now = g.B.Recorded.recording c.set_up.new.book in
    now_covers γ c.args.limits c.args.capacity c.requires.client roles c.in_ok-roles.ensures start c.in_ok-book.ensures.limits c.in_ok-book.ensures.capacity c.in_ok-book.ensures.empty c.index_mut.result.now c.index_mut.ensures.value now c.set_up.new.role s.same s.played s.of s.who s.ended

pub end_drawn_run-requires-clause-legal : goal.end_drawn_run-requires-clause-legal
end_drawn_run-requires-clause-legal g c =
    let γ = given g.R.Routines.next_of g.R.Routines.after_of c.args.routines.now in
    let start = g.B.Recorded.recording c.in_ok-book.book in
    let roles = c.in_ok-roles.roles.items in
    let s = c.set_up.ensures in
    let now = g.B.Recorded.recording c.set_up.new.book in
    now_legal γ c.args.limits c.args.capacity c.requires.client roles c.in_ok-roles.ensures start c.in_ok-book.ensures.limits c.in_ok-book.ensures.capacity c.in_ok-book.ensures.empty c.index_mut.result.now c.index_mut.ensures.value now c.set_up.new.role s.same s.played s.of s.who s.ended s.legal

pub end_drawn_run-requires-clause-ended : goal.end_drawn_run-requires-clause-ended
end_drawn_run-requires-clause-ended g c =
    let γ = given g.R.Routines.next_of g.R.Routines.after_of c.args.routines.now in
    let start = g.B.Recorded.recording c.in_ok-book.book in
    let roles = c.in_ok-roles.roles.items in
    let s = c.set_up.ensures in
    let now = g.B.Recorded.recording c.set_up.new.book in
    now_well γ c.args.limits c.args.capacity c.requires.client roles c.in_ok-roles.ensures start c.in_ok-book.ensures.limits c.in_ok-book.ensures.capacity c.in_ok-book.ensures.empty c.index_mut.result.now c.index_mut.ensures.value now c.set_up.new.role s.same s.played s.of s.who s.ended

pub end_drawn_run-requires-clause-client : goal.end_drawn_run-requires-clause-client
end_drawn_run-requires-clause-client g c =
    let γ = given g.R.Routines.next_of g.R.Routines.after_of c.args.routines.now in
    let start = g.B.Recorded.recording c.in_ok-book.book in
    let roles = c.in_ok-roles.roles.items in
    let s = c.set_up.ensures in
    let now = g.B.Recorded.recording c.set_up.new.book in
    now_client γ c.args.limits c.args.capacity c.requires.client roles c.in_ok-roles.ensures start c.in_ok-book.ensures.limits c.in_ok-book.ensures.capacity c.in_ok-book.ensures.empty c.index_mut.result.now c.index_mut.ensures.value now c.set_up.new.role s.same s.played s.of s.who s.ended

pub end_drawn_run-requires-clause-worker : goal.end_drawn_run-requires-clause-worker
end_drawn_run-requires-clause-worker g c =
    let γ = given g.R.Routines.next_of g.R.Routines.after_of c.args.routines.now in
    let start = g.B.Recorded.recording c.in_ok-book.book in
    let roles = c.in_ok-roles.roles.items in
    let s = c.set_up.ensures in
    let now = g.B.Recorded.recording c.set_up.new.book in
    now_worker γ c.args.limits c.args.capacity c.requires.client roles c.in_ok-roles.ensures start c.in_ok-book.ensures.limits c.in_ok-book.ensures.capacity c.in_ok-book.ensures.empty
    c.index_mut.result.now c.index_mut.ensures.value now c.set_up.new.role s.same s.played s.of s.who s.ended c.requires.limits.workers_least

pub end_drawn_run-requires-clause-known : goal.end_drawn_run-requires-clause-known
end_drawn_run-requires-clause-known g c =
    let γ = given g.R.Routines.next_of g.R.Routines.after_of c.args.routines.now in
    let start = g.B.Recorded.recording c.in_ok-book.book in
    let roles = c.in_ok-roles.roles.items in
    let s = c.set_up.ensures in
    let now = g.B.Recorded.recording c.set_up.new.book in
    now_known γ c.args.limits c.args.capacity c.requires.client roles c.in_ok-roles.ensures start c.in_ok-book.ensures.limits c.in_ok-book.ensures.capacity c.in_ok-book.ensures.empty c.index_mut.result.now c.index_mut.ensures.value now c.set_up.new.role s.same s.played s.of s.who s.ended

pub end_drawn_run-requires-clause-first : goal.end_drawn_run-requires-clause-first
end_drawn_run-requires-clause-first g c =
    let γ = given g.R.Routines.next_of g.R.Routines.after_of c.args.routines.now in
    let start = g.B.Recorded.recording c.in_ok-book.book in
    let roles = c.in_ok-roles.roles.items in
    let s = c.set_up.ensures in
    let now = g.B.Recorded.recording c.set_up.new.book in
    now_first γ c.args.limits c.args.capacity c.requires.client roles c.in_ok-roles.ensures start c.in_ok-book.ensures.limits c.in_ok-book.ensures.capacity c.in_ok-book.ensures.empty c.index_mut.result.now c.index_mut.ensures.value now c.set_up.new.role s.same s.played s.of s.who s.ended

pub returns-clause-limits : goal.returns-clause-limits
returns-clause-limits g c =
    let γ = given g.R.Routines.next_of g.R.Routines.after_of c.args.routines.now in
    let start = g.B.Recorded.recording c.in_ok-book.book in
    let roles = c.in_ok-roles.roles.items in
    let s = c.set_up.ensures in
    let now = g.B.Recorded.recording c.set_up.new.book in
    let e = c.in_ok-cut.ensures in
    let last = g.B.Recorded.recording c.end_drawn_run.new.book in
    last_limits γ c.args.limits c.args.capacity c.requires.client roles c.in_ok-roles.ensures start c.in_ok-book.ensures.limits c.in_ok-book.ensures.capacity c.in_ok-book.ensures.empty
    c.index_mut.result.now c.index_mut.ensures.value now c.set_up.new.role s.same s.played s.of s.who s.ended last c.end_drawn_run.new.roles.items e.same

pub returns-clause-capacity : goal.returns-clause-capacity
returns-clause-capacity g c =
    let γ = given g.R.Routines.next_of g.R.Routines.after_of c.args.routines.now in
    let start = g.B.Recorded.recording c.in_ok-book.book in
    let roles = c.in_ok-roles.roles.items in
    let s = c.set_up.ensures in
    let now = g.B.Recorded.recording c.set_up.new.book in
    let e = c.in_ok-cut.ensures in
    let last = g.B.Recorded.recording c.end_drawn_run.new.book in
    last_capacity γ c.args.limits c.args.capacity c.requires.client roles c.in_ok-roles.ensures start c.in_ok-book.ensures.limits c.in_ok-book.ensures.capacity c.in_ok-book.ensures.empty
    c.index_mut.result.now c.index_mut.ensures.value now c.set_up.new.role s.same s.played s.of s.who s.ended last c.end_drawn_run.new.roles.items e.same

pub returns-clause-legal : goal.returns-clause-legal
returns-clause-legal g c =
    let γ = given g.R.Routines.next_of g.R.Routines.after_of c.args.routines.now in
    let start = g.B.Recorded.recording c.in_ok-book.book in
    let roles = c.in_ok-roles.roles.items in
    let s = c.set_up.ensures in
    let now = g.B.Recorded.recording c.set_up.new.book in
    let e = c.in_ok-cut.ensures in
    let last = g.B.Recorded.recording c.end_drawn_run.new.book in
    last_legal γ c.args.limits c.args.capacity c.requires.client roles c.in_ok-roles.ensures start c.in_ok-book.ensures.limits c.in_ok-book.ensures.capacity c.in_ok-book.ensures.empty
    c.index_mut.result.now c.index_mut.ensures.value now c.set_up.new.role s.same s.played s.of s.who s.ended last c.end_drawn_run.new.roles.items e.same e.legal

pub returns-clause-drawn : goal.returns-clause-drawn
returns-clause-drawn g c =
    let γ = given g.R.Routines.next_of g.R.Routines.after_of c.args.routines.now in
    let start = g.B.Recorded.recording c.in_ok-book.book in
    let roles = c.in_ok-roles.roles.items in
    let s = c.set_up.ensures in
    let now = g.B.Recorded.recording c.set_up.new.book in
    let e = c.in_ok-cut.ensures in
    let last = g.B.Recorded.recording c.end_drawn_run.new.book in
    last_drawn γ c.args.limits c.args.capacity c.requires.client roles c.in_ok-roles.ensures start c.in_ok-book.ensures.limits c.in_ok-book.ensures.capacity c.in_ok-book.ensures.empty
    c.index_mut.result.now c.index_mut.ensures.value now c.set_up.new.role s.same s.played s.of s.who s.ended last c.end_drawn_run.new.roles.items e.same c.args.seed e.drawn e.ended
