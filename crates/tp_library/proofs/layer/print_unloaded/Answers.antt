use Rattle.std.proofs.Common.{◌≡◌, ◌+◌, ◌++◌, refl, sym, ap, ◌∙◌, arith}
use Rattle.tp_library.specs.Seen.{was_unloaded}
use Rattle.tp_library.proofs.Printing.{next_held, next_unloaded, unloaded_to}
use Rattle.tp_library.proofs.layer.print_unloaded.Goals as goal
use Rattle.tp_library.proofs.layer.print_unloaded.Goals.{then-was_unloaded+in-Ok, else-was_unloaded}

pub loop-number-preserved : goal.loop-number-preserved
loop-number-preserved g c =
    elim c.if-was_unloaded.branch [
      | then-was_unloaded+in-Ok w ↦
          next_unloaded (was_unloaded c.args.book.now) c.loop-number.number w.from.result c.args.out.now c.loop-number.out c.if-was_unloaded.out w.from.ensures c.loop-number.invariant
          (ap (was_unloaded c.args.book.now) w.from.ensures ∙ sym c.was_unloaded.ensures ∙ w.if-was_unloaded.true) (w.out-is ∙ w.in-Ok.ensures.ok)
      | else-was_unloaded w ↦
          w.out-is
          ∙ next_held (was_unloaded c.args.book.now) c.loop-number.number (c.loop-number.number + 1) c.args.out.now c.loop-number.out refl c.loop-number.invariant (sym c.was_unloaded.ensures ∙ w.if-was_unloaded.false)
    ]

pub returns : goal.returns
returns g c =
    let all : c.loop-number.number ≡ 255 = omega (arith, c.loop-number-test.false, c.loop-number.auto.number-end) in
    c.loop-number.invariant ∙ ap (λ n. c.args.out.now ++ unloaded_to (was_unloaded c.args.book.now) n) all
