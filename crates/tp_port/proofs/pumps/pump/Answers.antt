use Rattle.std.proofs.Common.{ℕ, List, length, ◌∙◌, ap}
use Rattle.tp_port.specs.Pumps.{lists_of}
use Rattle.tp_port.proofs.Pumping.{pumped}
use Rattle.tp_port.proofs.Threads.{all_are_back}
use Rattle.tp_port.proofs.pumps.pump.Goals as goal

pub gather-last-requires-clause-posts : goal.gather-last-requires-clause-posts
gather-last-requires-clause-posts g c =
    let ran = c.in_threads-book in
    all_are_back ran.result.1 c.args.devices.items ran.result.2.items ran.result.3 ran.ensures.ended (ap (λ (l : List ℕ). length l) ran.ensures.took.quotas_are ∙ c.in-Ok.ensures.quotas)

pub returns-clause-ok : goal.returns-clause-ok
returns-clause-ok g c =
    let ran = c.in_threads-book in
    let old = g.B.Recorded.recording c.args.book in
    pumped ran.result.1 c.args.devices.items old (g.B.Recorded.recording ran.result.0) (g.B.Recorded.recording c.drain-book.result.0) c.in-Ok.prepared.pass ran.result.3 ran.result.2.items c.gather-last.result c.drain-book.result.1
    ran.ensures.took c.in-Ok.ensures.taken ran.ensures.ended c.gather-last.ensures c.drain-book.ensures
    (c.completions_are_accepted.ensures.interleaved old (lists_of c.args.devices.items) _ c.len-len.ensures.legal c.requires.may c.requires.room)
