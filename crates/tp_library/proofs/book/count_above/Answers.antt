use Rattle.std.proofs.Common.{refl, arith}
use Rattle.tp_model.specs.Over.{row_of}
use Rattle.tp_library.specs.Shelves.{library_at}
use Rattle.tp_library.proofs.Above.{end_behind, fewer_behind, next_behind}
use Rattle.tp_library.proofs.Tallies.{left_alone, left_many, left_raised, one_as, one_same}
use Rattle.tp_library.proofs.book.count_above.Goals as goal

pub loop-callback-init : goal.loop-callback-init
loop-callback-init g c = record { counted = λ k h. refl; many = c.requires.many; same = refl }

pub add_left-requires-clause-fits : goal.add_left-requires-clause-fits
add_left-requires-clause-fits g c =
    let r = g.B.Recorded.recording c.args.book.now in
    let l = c.loop-callback in
    let s = c.args.shelf.now.shelf in
    let row = row_of (c.in-Some.callback, c.in-Some.object, c.in-Some.field-0-2) in
    let mine = c.library_at.result in
    omega (
      arith,
      l.invariant.counted mine c.library_at.ensures.most,
      c.requires.fits mine c.library_at.ensures.most,
      next_behind r c.requires.legal s mine l.number row c.in-Some.ensures,
      one_as mine (library_at s c.in-Some.callback c.in-Some.object.0) mine c.library_at.ensures.value,
      one_same mine,
    )

pub loop-callback-smaller : goal.loop-callback-smaller
loop-callback-smaller g c =
    let r = g.B.Recorded.recording c.args.book.now in
    let row = row_of (c.in-Some.callback, c.in-Some.object, c.in-Some.field-0-2) in
    fewer_behind r c.requires.legal c.loop-callback.number row c.in-Some.ensures

pub loop-callback-preserved : goal.loop-callback-preserved
loop-callback-preserved g c =
    let r = g.B.Recorded.recording c.args.book.now in
    let l = c.loop-callback in
    let s = c.args.shelf.now.shelf in
    let row = row_of (c.in-Some.callback, c.in-Some.object, c.in-Some.field-0-2) in
    let mine = c.library_at.result in
    record {
      counted = λ k h. omega (
        arith,
        l.invariant.counted k h,
        next_behind r c.requires.legal s k l.number row c.in-Some.ensures,
        left_raised c.args.counts.now l.counts c.add_left.new.self mine c.add_left.ensures k (omega (arith, h, l.invariant.many)),
        one_as mine (library_at s c.in-Some.callback c.in-Some.object.0) k c.library_at.ensures.value,
      );
      many = left_many c.args.counts.now l.counts c.add_left.new.self mine c.add_left.ensures l.invariant.many;
      same = left_alone c.args.counts.now l.counts c.add_left.new.self mine c.add_left.ensures l.invariant.same;
    }

pub returns-clause-left : goal.returns-clause-left
returns-clause-left g c = λ k h.
    let r = g.B.Recorded.recording c.args.book.now in
    omega (arith, c.loop-callback.invariant.counted k h, end_behind r c.requires.legal c.args.shelf.now.shelf k c.loop-callback.number c.in_default.ensures)

pub returns-clause-same : goal.returns-clause-same
returns-clause-same g c = c.loop-callback.invariant.same
