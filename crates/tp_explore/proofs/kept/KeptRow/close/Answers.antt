use Rattle.std.proofs.Common.{rules, ◌≡◌, ◌+◌, ◌++◌, ◌∷◌, [], ◌∙◌, ap₂, sym}
use Rattle.renamed_worlds.specs.Closed.{place_of}
use Rattle.tp_explore.specs.Boards.{actor_of}
use Rattle.tp_explore.specs.Closing.{named_place}
use Rattle.tp_explore.proofs.ClosedRow.{row_next}
use Rattle.tp_explore.proofs.kept.KeptRow.close.Goals as goal

pub loop-kept-preserved : goal.loop-kept-preserved
loop-kept-preserved c =
    let limits = c.args.limits.now in
    let name = place_of c.args.callbacks.now in
    let index = c.loop-kept.kept-index in
    let number : c.in_ok-number.number ≡ index + 1 = search rules in
    let closed : c.in_ok-close.field-0 ≡ named_place name (actor_of limits (index + 1)) c.kept-item.result = search rules in
    (number, c.in_ok-push.ensures.items ∙ ap₂ (λ xs x. xs ++ x ∷ []) c.loop-kept.invariant.1 closed ∙ sym (row_next limits name c.deref-kept-items.result.now index c.kept-item.result c.loop-kept-test.true (sym c.kept-item.is)))
