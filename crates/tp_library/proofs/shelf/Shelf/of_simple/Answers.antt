use Rattle.std.proofs.Common.{rules, ◌<◌, ◌∙◌, ap, arith, length}
use Rattle.std.proofs.lemmas.List.Sorted.{answers_always}
use Rattle.tp_library.proofs.Halving.{simple_found, simple_missing, Made}
use Rattle.tp_library.proofs.shelf.Shelf.of_simple.Goals as goal

pub returns-in-Ok-clause-value : goal.returns-in-Ok-clause-value
returns-in-Ok-clause-value c =
    let by_key = c.in-Ok.ensures.position (λ (made : Made). made.0) (answers_always _ _ _ (λ f a r g called. search rules)) in
    let within : c.in-Ok.place < length c.self.inside.of_simple.items = omega (arith, c.in-Ok.ensures.bound, ap length c.deref.ensures.value) in
    rw (← c.self.view_is) (ap (λ (m : Made). m.1) c.index.ensures ∙ simple_found c.self.inside.of_simple.items c.args.callback c.in-Ok.place c.index.result.now c.self.invariant.rising within (rw c.deref.ensures.value at by_key))

pub returns-in-Err-clause-value : goal.returns-in-Err-clause-value
returns-in-Err-clause-value c =
    let by_key = c.in-Err.ensures.position (λ (made : Made). made.0) (answers_always _ _ _ (λ f a r g called. search rules)) in
    rw (← c.self.view_is) (simple_missing c.self.inside.of_simple.items c.args.callback c.in-Err.field-0 c.self.invariant.rising (rw c.deref.ensures.value at by_key))
