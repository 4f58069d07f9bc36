use Rattle.std.proofs.Common.{ap, arith}
use Rattle.recorded.specs.Recordings.{world_behind}
use Rattle.tp_model.specs.Laws.Once.{left}
use Rattle.tp_library.specs.Tallied.{Tallied}
use Rattle.tp_library.specs.Rows.{counted_left, rows_in}
use Rattle.tp_library.specs.Tallies.{at}
use Rattle.tp_library.specs.declared.told.Effect.{Effect}
use Rattle.tp_library.proofs.Above.{closes_recounts, other_adds}
use Rattle.tp_library.proofs.Tallies.{cleared_at}
use Rattle.tp_library.proofs.book.count_changed.Goals as goal

pub count_above-requires-clause-fits : goal.count_above-requires-clause-fits
count_above-requires-clause-fits g c = λ k h.
    let rows = left (world_behind (g.B.Recorded.recording c.args.book.now)) in
    let s = c.args.shelf.now.shelf in
    omega (
      arith,
      c.requires.fits k h,
      ap (λ (x : Tallied). at x.left k) c.clear_left.ensures,
      cleared_at k,
      ap (λ (e : Effect). counted_left s k e c.args.first c.args.count rows c.args.counts.now.left) c.in-Closes.is,
      closes_recounts s k c.in-Closes.group c.in-Closes.cancelled c.args.first c.args.count rows c.args.counts.now.left c.if-cancelled-gt0.true,
    )

pub count_above-requires-then-count-gt0 : goal.count_above-requires-then-count-gt0
count_above-requires-then-count-gt0 g c =
    let rows = left (world_behind (g.B.Recorded.recording c.args.book.now)) in
    let s = c.args.shelf.now.shelf in
    record {
      legal = c.requires.legal;
      many = c.requires.many;
      fits = λ k h. omega (
        arith,
        c.requires.fits k h,
        ap (λ n. rows_in s k n rows) c.saturating_sub.ensures,
        other_adds s k c.args.effect c.args.first c.args.count rows c.args.counts.now.left c.in_default.not-Closes c.if-count-gt0.true,
      );
    }

pub returns-then-cancelled-gt0-clause-left : goal.returns-then-cancelled-gt0-clause-left
returns-then-cancelled-gt0-clause-left g c = λ k h.
    let rows = left (world_behind (g.B.Recorded.recording c.args.book.now)) in
    let s = c.args.shelf.now.shelf in
    omega (
      arith,
      c.count_above.ensures.left k h,
      ap (λ (x : Tallied). at x.left k) c.clear_left.ensures,
      cleared_at k,
      ap (λ (e : Effect). counted_left s k e c.args.first c.args.count rows c.args.counts.now.left) c.in-Closes.is,
      closes_recounts s k c.in-Closes.group c.in-Closes.cancelled c.args.first c.args.count rows c.args.counts.now.left c.if-cancelled-gt0.true,
    )
