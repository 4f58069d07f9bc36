use Rattle.part_places.specs.Places.{given}
use Rattle.worker_gate.proofs.Ending.{cut_of, rounds_more, rounds_whos, run_of}
use Rattle.worker_gate.proofs.closing.end_run.Goals as goal

pub returns-clause-runs : goal.returns-clause-runs
returns-clause-runs g c =
    let p = c.play_alone.ensures in
    let γ = given g.R.Routines.next_of g.R.Routines.after_of c.args.routines.now in
    let start = g.B.Recorded.recording c.args.book.now in
    let now = g.B.Recorded.recording c.play_alone.new.book in
    let whos = rounds_whos γ start.limits start.capacity start.history now.history c.args.roles.now.items c.play_alone.new.roles.items p.played in
    let more = rounds_more γ start.limits start.capacity start.history now.history c.args.roles.now.items c.play_alone.new.roles.items p.played c.requires.all in
    run_of γ start now.limits now.capacity now.history c.args.roles.now.items c.play_alone.new.roles.items
    c.requires.all c.requires.covers c.requires.known c.requires.first c.requires.client p.same.limits p.same.capacity whos more p.all p.ended p.over

pub returns-clause-cut : goal.returns-clause-cut
returns-clause-cut g c =
    let p = c.play_alone.ensures in
    let γ = given g.R.Routines.next_of g.R.Routines.after_of c.args.routines.now in
    let start = g.B.Recorded.recording c.args.book.now in
    let now = g.B.Recorded.recording c.play_alone.new.book in
    let whos = rounds_whos γ start.limits start.capacity start.history now.history c.args.roles.now.items c.play_alone.new.roles.items p.played in
    let more = rounds_more γ start.limits start.capacity start.history now.history c.args.roles.now.items c.play_alone.new.roles.items p.played c.requires.all in
    cut_of γ start now.limits now.capacity now.history c.args.roles.now.items c.play_alone.new.roles.items
    c.requires.all c.requires.covers c.requires.known c.requires.first c.requires.client p.same.limits p.same.capacity whos more p.all p.ended p.over c.any_cut.result c.any_cut.ensures
