use Rattle.std.proofs.Common.{◌++◌, ap, subst, ◌∙◌, arith}
use Rattle.tp_explore.specs.Scripts.{watched_but}
use Rattle.order_lines.specs.Explored.{IsSearched}
use Rattle.order_lines.specs.declared.explored.Searched.TheVariants as searched
use Rattle.order_lines.proofs.Each.{begins, ends_bad, ends_full, ends_gave_up, ends_none, goes_on, is_none, is_some}
use Rattle.order_lines.proofs.explored.explore_each.Goals as goal

pub loop-init : goal.loop-init
loop-init g c = begins c.args.script.now c.args.limits c.args.text.now _ _ c.new-told.ensures.items c.new-output.ensures.items

pub loop-preserved : goal.loop-preserved
loop-preserved g c =
    let script = c.args.script.now in
    let limits = c.args.limits in
    let text = c.args.text.now in
    let here = subst (λ p. IsSearched (watched_but p script) text limits c.args.most (searched.Bad c.in-Bad.block c.in-Bad.fault)) c.deref.ensures.value
    (subst (λ s. IsSearched (watched_but c.deref.result.now script) text limits c.args.most s) c.in-Bad.is c.in_ok-block.ensures) in
    goes_on script limits text c.loop.counter c.loop.told.items c.loop.output.items c.loop.invariant c.in-Bad.block.items c.in-Bad.fault _ _ here.0 here.1 c.in_ok-push-in-Bad.ensures.items
    (c.in_ok-extend_from_slice-in-Bad.ensures.items ∙ ap (λ xs. c.loop.output.items ++ xs) c.deref-in-Bad.ensures.value)

pub returns-in-GaveUp : goal.returns-in-GaveUp
returns-in-GaveUp g c =
    let script = c.args.script.now in
    let limits = c.args.limits in
    let text = c.args.text.now in
    let here = subst (λ p. IsSearched (watched_but p script) text limits c.args.most (searched.GaveUp c.in-GaveUp.ending)) c.deref.ensures.value
    (subst (λ s. IsSearched (watched_but c.deref.result.now script) text limits c.args.most s) c.in-GaveUp.is c.in_ok-block.ensures) in
    ends_gave_up script limits text c.loop.counter c.loop.told.items c.loop.output.items c.loop.invariant (λ passed history. c.passing_over_leaves_the_others.ensures c.args.script.now passed c.args.limits history) c.args.most c.in-GaveUp.ending.items _ here
    (c.in_ok-extend_from_slice-in-GaveUp.ensures.items ∙ ap (λ xs. c.loop.output.items ++ xs) c.deref-in-GaveUp.ensures.value)

pub returns-then-is_empty : goal.returns-then-is_empty
returns-then-is_empty g c =
    let script = c.args.script.now in
    let limits = c.args.limits in
    let text = c.args.text.now in
    let here = subst (λ p. IsSearched (watched_but p script) text limits c.args.most (searched.None c.in-None.ending)) c.deref.ensures.value
    (subst (λ s. IsSearched (watched_but c.deref.result.now script) text limits c.args.most s) c.in-None.is c.in_ok-block.ensures) in
    ends_none script limits text c.loop.counter c.loop.told.items c.loop.output.items c.loop.invariant c.args.most c.in-None.ending.items
    (is_none c.loop.told.items c.loop.told.len c.is_empty.result c.loop.told.ok.0 c.is_empty.ensures c.if-is_empty.true) here

pub returns-in-None : goal.returns-in-None
returns-in-None g c =
    let script = c.args.script.now in
    let limits = c.args.limits in
    let text = c.args.text.now in
    let here = subst (λ p. IsSearched (watched_but p script) text limits c.args.most (searched.None c.in-None.ending)) c.deref.ensures.value
    (subst (λ s. IsSearched (watched_but c.deref.result.now script) text limits c.args.most s) c.in-None.is c.in_ok-block.ensures) in
    ends_bad script limits text c.loop.counter c.loop.told.items c.loop.output.items c.loop.invariant (λ passed history. c.passing_over_leaves_the_others.ensures c.args.script.now passed c.args.limits history) c.args.most c.in-None.ending.items
    (is_some c.loop.told.items c.loop.told.len c.is_empty.result c.loop.told.ok.0 c.is_empty.ensures c.if-is_empty.false) here

pub returns : goal.returns
returns g c =
    ends_full c.args.script.now c.args.limits c.args.text.now c.loop.counter c.loop.told.items c.loop.output.items c.loop.invariant (λ passed history. c.passing_over_leaves_the_others.ensures c.args.script.now passed c.args.limits history) c.args.most (omega (arith, c.loop-test.false, c.loop.auto.counter-end))
