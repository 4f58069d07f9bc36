use Rattle.std.proofs.Common.{◌∙◌, sym}
use Rattle.part_places.specs.Places.{given}
use Rattle.worker_gate.proofs.SettingUp.{alone_begins, alone_goes_on, alone_legal, alone_less, alone_played, alone_who}
use Rattle.worker_gate.proofs.rounds.set_up.Goals as goal

pub loop-smaller : goal.loop-smaller
loop-smaller g c =
    let t = c.turn.ensures in
    let more = sym c.is_last.ensures ∙ c.if-is_last.false in
    alone_less (given g.R.Routines.next_of g.R.Routines.after_of c.args.routines.now) (g.B.Recorded.recording c.args.book.now) (g.B.Recorded.recording c.loop.book) (g.B.Recorded.recording c.turn.new.book) c.args.role.now c.loop.role c.turn.new.self
    c.loop.invariant t.role t.book c.turn.result t.turn more (t.legal more)

pub loop-preserved : goal.loop-preserved
loop-preserved g c =
    let t = c.turn.ensures in
    let more = sym c.is_last.ensures ∙ c.if-is_last.false in
    alone_goes_on (given g.R.Routines.next_of g.R.Routines.after_of c.args.routines.now) (g.B.Recorded.recording c.args.book.now) (g.B.Recorded.recording c.loop.book) (g.B.Recorded.recording c.turn.new.book) c.args.role.now c.loop.role c.turn.new.self
    c.loop.invariant t.role t.book c.turn.result t.turn more (t.legal more) t.of

pub returns-then-is_last-clause-played : goal.returns-then-is_last-clause-played
returns-then-is_last-clause-played g c =
    let t = c.turn.ensures in
    alone_played (given g.R.Routines.next_of g.R.Routines.after_of c.args.routines.now) (g.B.Recorded.recording c.args.book.now) (g.B.Recorded.recording c.loop.book) (g.B.Recorded.recording c.turn.new.book) c.args.role.now c.loop.role c.turn.new.self
    c.loop.invariant t.role t.book

pub returns-then-is_last-clause-legal : goal.returns-then-is_last-clause-legal
returns-then-is_last-clause-legal g c =
    let t = c.turn.ensures in
    alone_legal (given g.R.Routines.next_of g.R.Routines.after_of c.args.routines.now) (g.B.Recorded.recording c.args.book.now) (g.B.Recorded.recording c.loop.book) (g.B.Recorded.recording c.turn.new.book) c.args.role.now c.loop.role c.turn.new.self
    c.loop.invariant t.role t.book

pub returns-then-is_last-clause-who : goal.returns-then-is_last-clause-who
returns-then-is_last-clause-who g c =
    let t = c.turn.ensures in
    alone_who (given g.R.Routines.next_of g.R.Routines.after_of c.args.routines.now) (g.B.Recorded.recording c.args.book.now) (g.B.Recorded.recording c.loop.book) (g.B.Recorded.recording c.turn.new.book) c.args.role.now c.loop.role c.turn.new.self
    c.loop.invariant t.role t.book

pub loop-init : goal.loop-init
loop-init g c = alone_begins (given g.R.Routines.next_of g.R.Routines.after_of c.args.routines.now) (g.B.Recorded.recording c.args.book.now) c.args.role.now c.requires.of c.requires.alone
