use Rattle.std.proofs.Common.{rules, ◌<◌, Some, sym, ap, ◌∙◌, arith, length}
use Rattle.std.proofs.lemmas.List.Sorted.{answers_always}
use Rattle.layers.proofs.Halving.{halved_found, halved_missing}
use Rattle.tp_legacy.specs.declared.rows.Registration.{Registration}
use Rattle.tp_legacy.proofs.rows.Rows.registration_of.Goals as goal

pub returns-in-Ok-clause-value : goal.returns-in-Ok-clause-value
returns-in-Ok-clause-value c =
    let by_key = c.in-Ok.ensures.position (λ (row : Registration). row.object.0) (answers_always _ _ _ (λ f a r g called. search rules)) in
    let within : c.in-Ok.place < length c.self.inside.registrations.items = omega (arith, c.in-Ok.ensures.bound, ap length c.deref.ensures.value) in
    rw (← c.self.view_is)
    (ap (λ (row : Registration). Some row) c.index.ensures
    ∙ sym (halved_found (λ (row : Registration). row.object.0) c.self.inside.registrations.items c.args.object.0 c.in-Ok.place c.index.result.now c.self.invariant.rising within (rw c.deref.ensures.value at by_key)))

pub returns-in-Err-clause-value : goal.returns-in-Err-clause-value
returns-in-Err-clause-value c =
    let by_key = c.in-Err.ensures.position (λ (row : Registration). row.object.0) (answers_always _ _ _ (λ f a r g called. search rules)) in
    rw (← c.self.view_is) (sym (halved_missing (λ (row : Registration). row.object.0) c.self.inside.registrations.items c.args.object.0 c.in-Err.field-0 c.self.invariant.rising (rw c.deref.ensures.value at by_key)))
