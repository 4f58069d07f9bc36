use Rattle.part_places.specs.Places.{given}
use Rattle.worker_gate.proofs.DrawnRun.{drawn_more, drawn_whos}
use Rattle.worker_gate.proofs.Ending.{cut_of, run_of}
use Rattle.worker_gate.proofs.closing.end_drawn_run.Goals as goal

pub returns-clause-runs : goal.returns-clause-runs
returns-clause-runs g c =
    let p = c.in_ok-play_drawn.ensures in
    let γ = given g.R.Routines.next_of g.R.Routines.after_of c.args.routines.now in
    let start = g.B.Recorded.recording c.args.book.now in
    let now = g.B.Recorded.recording c.play_drawn.new.book in
    let whos = drawn_whos γ start.limits start.capacity c.args.seed start.history now.history c.args.roles.now.items c.play_drawn.new.roles.items p.drawn in
    let more = drawn_more γ start.limits start.capacity c.args.seed start.history now.history c.args.roles.now.items c.play_drawn.new.roles.items p.drawn c.requires.all in
    run_of γ start now.limits now.capacity now.history c.args.roles.now.items c.play_drawn.new.roles.items
    c.requires.all c.requires.covers c.requires.known c.requires.first c.requires.client p.same.limits p.same.capacity whos more p.all p.ended p.over

pub returns-clause-cut : goal.returns-clause-cut
returns-clause-cut g c =
    let p = c.in_ok-play_drawn.ensures in
    let γ = given g.R.Routines.next_of g.R.Routines.after_of c.args.routines.now in
    let start = g.B.Recorded.recording c.args.book.now in
    let now = g.B.Recorded.recording c.play_drawn.new.book in
    let whos = drawn_whos γ start.limits start.capacity c.args.seed start.history now.history c.args.roles.now.items c.play_drawn.new.roles.items p.drawn in
    let more = drawn_more γ start.limits start.capacity c.args.seed start.history now.history c.args.roles.now.items c.play_drawn.new.roles.items p.drawn c.requires.all in
    cut_of γ start now.limits now.capacity now.history c.args.roles.now.items c.play_drawn.new.roles.items
    c.requires.all c.requires.covers c.requires.known c.requires.first c.requires.client p.same.limits p.same.capacity whos more p.all p.ended p.over c.any_cut.result c.any_cut.ensures
