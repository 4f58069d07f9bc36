use Rattle.std.proofs.Common.{◌+◌, ◌-◌, Some, length, take, drop, ap, sym, ◌∙◌, arith, length-append, length-take, length-drop}
use Rattle.tp_edge.proofs.Pieces.{left-split}
use Rattle.tp_edge.proofs.never_fails.NeverFailsSource.take.Goals as goal

pub returns-clause-took : goal.returns-clause-took
returns-clause-took c =
    let n = c.min-n.result in
    let at = c.self.inside.next in
    let bytes = c.self.inside.bytes.items in
    let bytes_len = c.self.inside.bytes.ok.0 in
    let piece = c.copy_from_slice.new.self in
    let rest = drop n c.args.buf.now in
    let copied = c.copy_from_slice.ensures.after ∙ ap (λ all. take (at + n - at) (drop at all)) c.deref.ensures.value in (
      omega (arith, c.self.view_is, c.self.invariant.1),
      omega (arith, length-append piece rest, length-drop n c.args.buf.now, ap length copied, c.copy_from_slice.ensures.len, length-take n c.args.buf.now),
      ap Some (left-split c.args.self.now.left bytes piece rest at n (sym (ap (λ unread. unread.left) c.self.view_is)) copied (omega (arith, bytes_len, c.self.invariant.0))),
    )
