use Rattle.std.proofs.Common.{◌≡◌, ◌∙◌, ◌++◌, ◌+◌, ◌≤◌, ap, take, length, arith, length-take}
use Rattle.tp_edge.proofs.Pieces.{behind-append, take-filled, take-resized, length-append-take}
use Rattle.tp_edge.proofs.Readings.{IsRead-too_long}
use Rattle.tp_edge.proofs.reading.read_all.Goals as goal

pub returns-then-limit-len-clause-taken : goal.returns-then-limit-len-clause-taken
returns-then-limit-len-clause-taken g c =
    let took = c.in-Bytes.ensures.took in
    let bytes = c.loop-bytes.bytes.items in (
      take c.loop-bytes.len bytes ++ take c.in-Bytes.n c.take.new.buf,
      behind-append _ _ _ _ _ c.loop-bytes.invariant.taken took.2,
      IsRead-too_long _ _ (omega (arith, c.if-limit-len.true, length-append-take (take c.loop-bytes.len bytes) _ _ took.1, length-take c.loop-bytes.len bytes, c.take.auto.buf, c.deref_mut.ensures.len, c.in_ok-resize.ensures.len, c.loop-bytes.bytes.ok.0)),
    )

pub loop-bytes-preserved : goal.loop-bytes-preserved
loop-bytes-preserved g c =
    let took = c.in-Bytes.ensures.took in
    let bytes = c.loop-bytes.bytes.items in
    let kept : take c.loop-bytes.len c.deref_mut.result.now ≡ take c.loop-bytes.len bytes
    = ap (λ items. take c.loop-bytes.len items) c.deref_mut.ensures.value
    ∙ take-resized bytes _ c.resize.new.self.items c.loop-bytes.len (c.loop-bytes.len + c.min-room.result) c.in_ok-resize.ensures.items (omega (arith, c.loop-bytes.invariant.there, c.loop-bytes.bytes.ok.0)) (omega arith) in
    let fits : c.loop-bytes.len + c.in-Bytes.n ≤ c.resize.new.self.len = omega (arith, took.1, c.take.auto.buf, c.deref_mut.ensures.len, c.in_ok-resize.ensures.len) in
    let front : c.loop-bytes.len ≡ length (take c.loop-bytes.len c.deref_mut.result.now)
    = omega (arith, length-take c.loop-bytes.len c.deref_mut.result.now, c.deref_mut.ensures.len, c.in_ok-resize.ensures.len) in
    record {
      there = fits;
      within = omega (arith, c.if-limit-len.false, c.loop-bytes.invariant.within);
      taken = rw (take-filled (take c.loop-bytes.len c.deref_mut.result.now) c.take.new.buf _ _ c.loop-bytes.len c.in-Bytes.n c.resize.new.self.len front took.1 fits, kept) (behind-append _ _ _ _ _ c.loop-bytes.invariant.taken took.2);
      never_falls = omega (arith, c.in-Bytes.ensures.never_falls, c.loop-bytes.invariant.never_falls);
    }
