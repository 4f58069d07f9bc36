use Rattle.std.proofs.Common.{[], ◌∷◌, length, ap, arith, length-append}
use Rattle.tp_report.proofs.Traced.{played_again}
use Rattle.tp_report.proofs.playing.play_again.Goals as goal

pub loop-behind-preserved : goal.loop-behind-preserved
loop-behind-preserved g c =
    let l = c.loop-behind in
    let e = c.requires.line in
    let split = c.in-Some.ensures in (
      c.play_same.ensures.same,
      omega (arith, l.invariant.1, ap length split, length-append c.args.line.now c.in-Some.behind.now, ap length e.split, length-append e.line (10 ∷ [])),
      omega (arith, l.invariant.2, ap length split, length-append c.args.line.now c.in-Some.behind.now),
      λ machine clients bytes greatest most p.
          played_again machine clients bytes (g.B.Recorded.recording l.book) l.out greatest l.lines l.rest.now (l.invariant.3 machine clients bytes greatest most p)
          (g.B.Recorded.recording c.play_same.new.book) c.args.made.now c.args.line.now c.in-Some.behind.now c.play_same.new.lines c.play_same.new.outcome e split
          c.play_same.ensures.recorded c.play_same.ensures.first c.in_ok-play_same.ensures.printed most,
    )
