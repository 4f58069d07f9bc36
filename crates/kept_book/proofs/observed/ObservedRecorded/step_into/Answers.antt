use Rattle.std.proofs.Common.{◌≡◌, ◌+◌, ◌∙◌, length, arith}
use Rattle.kept_book.proofs.Keeping.{is_below, one_more}
use Rattle.kept_book.proofs.observed.ObservedRecorded.step_into.Goals as goal

pub note-requires : goal.note-requires
note-requires g c =
    let old = g.B.Recorded.recording c.self.inside.book in
    let new = g.B.Recorded.recording c.step_into.new.self in
    let size : c.len-len.result ≡ length old.history + 1 = c.len-len.ensures.len ∙ one_more old new c.args.who c.args.call.now c.step_into.new.outcome c.in-Done.answer c.in-Done.is c.step_into.ensures.history in
    let below = is_below old new c.args.who c.args.call.now c.step_into.new.outcome c.in-Done.answer c.in-Done.is c.step_into.ensures.history c.legal_fits.ensures c.step_into.ensures.legal in
    (old, c.self.invariant, record { below = below; few = omega (arith, size) })
