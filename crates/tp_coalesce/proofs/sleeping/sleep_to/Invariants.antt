use Rattle.std.proofs.Common.{◌+◌}
use Rattle.tp_coalesce.specs.Heard.{IsSleeping}
use Rattle.tp_coalesce.specs.Sleeps.{most_wakes, sleep_from}
use Rattle.tp_coalesce.proofs.sleeping.sleep_to.Given as goal

abbrev pub invariant-loop-more : goal.invariant-loop-more
invariant-loop-more g l =
    let r = g.B.Recorded.recording l.fn.book in
    IsSleeping g.L.Listener.hears (sleep_from (most_wakes r + 1) r l.who l.target 0) l.fn.listener (g.B.Recorded.recording l.book) l.listener l.who l.target l.more l.wakes l.start

abbrev pub decreases-loop-more : goal.decreases-loop-more
decreases-loop-more g l = l.more
