use Rattle.std.proofs.lemmas.Bool.{both_ways}
use Rattle.part_places.specs.Places.{given}
use Rattle.worker_gate.proofs.Lasting.{rounds_begin, rounds_fewer, rounds_go_on, rounds_over, rounds_played}
use Rattle.worker_gate.proofs.rounds.play_alone.Goals as goal

pub loop-init : goal.loop-init
loop-init g c =
    rounds_begin (given g.R.Routines.next_of g.R.Routines.after_of c.args.routines.now) (g.B.Recorded.recording c.args.book.now) c.args.roles.now.items c.wake_all.new.roles.items c.requires.legal c.requires.all c.requires.open_roles c.requires.worker c.wake_all.ensures

pub loop-preserved : goal.loop-preserved
loop-preserved g c =
    let p = c.play_one.ensures in
    rounds_go_on (given g.R.Routines.next_of g.R.Routines.after_of c.args.routines.now) (g.B.Recorded.recording c.args.book.now) (g.B.Recorded.recording c.loop.book) (g.B.Recorded.recording c.play_one.new.book) c.args.roles.now.items c.loop.roles.items c.play_one.new.roles.items
    c.loop.invariant p.same p.played p.all p.legal p.ended

pub loop-smaller : goal.loop-smaller
loop-smaller g c =
    let p = c.play_one.ensures in
    rounds_fewer (given g.R.Routines.next_of g.R.Routines.after_of c.args.routines.now) (g.B.Recorded.recording c.args.book.now) (g.B.Recorded.recording c.loop.book) (g.B.Recorded.recording c.play_one.new.book) c.args.roles.now.items c.loop.roles.items c.play_one.new.roles.items
    c.loop.invariant p.same p.played p.all p.legal p.ended (λ ended. both_ways c.play_one.result c.if-play_one.false (p.over.1 ended))

pub returns-then-play_one-clause-played : goal.returns-then-play_one-clause-played
returns-then-play_one-clause-played g c =
    let p = c.play_one.ensures in
    (rounds_go_on (given g.R.Routines.next_of g.R.Routines.after_of c.args.routines.now) (g.B.Recorded.recording c.args.book.now) (g.B.Recorded.recording c.loop.book) (g.B.Recorded.recording c.play_one.new.book) c.args.roles.now.items c.loop.roles.items
    c.play_one.new.roles.items c.loop.invariant p.same p.played p.all p.legal p.ended).played

pub returns-then-play_one-clause-lively : goal.returns-then-play_one-clause-lively
returns-then-play_one-clause-lively g c =
    let p = c.play_one.ensures in
    let γ = given g.R.Routines.next_of g.R.Routines.after_of c.args.routines.now in
    let last = g.B.Recorded.recording c.play_one.new.book in
    rounds_played γ (g.B.Recorded.recording c.args.book.now) last c.args.roles.now.items c.play_one.new.roles.items
    (rounds_go_on γ (g.B.Recorded.recording c.args.book.now) (g.B.Recorded.recording c.loop.book) last c.args.roles.now.items c.loop.roles.items c.play_one.new.roles.items c.loop.invariant p.same p.played p.all p.legal p.ended)

pub returns-then-play_one-clause-over : goal.returns-then-play_one-clause-over
returns-then-play_one-clause-over g c =
    let p = c.play_one.ensures in
    let γ = given g.R.Routines.next_of g.R.Routines.after_of c.args.routines.now in
    let last = g.B.Recorded.recording c.play_one.new.book in
    rounds_over γ (g.B.Recorded.recording c.args.book.now) last c.args.roles.now.items c.play_one.new.roles.items
    (rounds_go_on γ (g.B.Recorded.recording c.args.book.now) (g.B.Recorded.recording c.loop.book) last c.args.roles.now.items c.loop.roles.items c.play_one.new.roles.items c.loop.invariant p.same p.played p.all p.legal p.ended)
    (p.over.0 c.if-play_one.true)
