use Rattle.std.proofs.Common.{◌<◌, length, arith, refl, sym, ◌∙◌}
use Rattle.std.proofs.lemmas.Bool.{eqb-false, eqb-true}
use Rattle.layers.proofs.Played.{played_few, played_fault, played_next, played_no, played_only}
use Rattle.layers.proofs.playing.play_lines.Goals as goal

pub fault_behind-requires-clause-lines : goal.fault_behind-requires-clause-lines
fault_behind-requires-clause-lines g c =
    let l = c.loop-rest in
    omega (arith, c.requires.few, played_few g.L.Layer.lines g.L.Layer.who_of _ _ c.args.bytes.now l.rest.now l.text l.greatest l.lines l.invariant)

pub fault_behind-requires-clause-place : goal.fault_behind-requires-clause-place
fault_behind-requires-clause-place g c =
    let l = c.loop-rest in
    omega (arith, c.requires.few, c.in-Err.ensures.within, played_few g.L.Layer.lines g.L.Layer.who_of _ _ c.args.bytes.now l.rest.now l.text l.greatest l.lines l.invariant)

pub overflow_add-lines : goal.overflow_add-lines
overflow_add-lines g c =
    let l = c.loop-rest in
    omega (arith, c.requires.few, played_few g.L.Layer.lines g.L.Layer.who_of _ _ c.args.bytes.now l.rest.now l.text l.greatest l.lines l.invariant)

pub returns-in-Err-clause-only : goal.returns-in-Err-clause-only
returns-in-Err-clause-only g c = λ all whole.
    let l = c.loop-rest in
    let some : 0 < length l.rest.now = omega (arith, eqb-false (length l.rest.now) 0 (sym c.is_empty.ensures ∙ c.loop-rest-test.true)) in
    absurd (played_no g.L.Layer.lines g.L.Layer.who_of _ _ c.args.bytes.now l.rest.now l.text l.greatest l.lines l.invariant c.requires.part c.in-Err.place some c.in-Err.ensures all whole)

pub returns-in-Err-clause-err : goal.returns-in-Err-clause-err
returns-in-Err-clause-err g c =
    let l = c.loop-rest in
    let some : 0 < length l.rest.now = omega (arith, eqb-false (length l.rest.now) 0 (sym c.is_empty.ensures ∙ c.loop-rest-test.true)) in
    rw c.fault_behind.ensures
    (played_fault g.L.Layer.lines g.L.Layer.who_of _ _ c.args.bytes.now l.rest.now l.text l.greatest l.lines l.invariant c.requires.part c.in-Err.place some c.in-Err.ensures)

pub loop-rest-preserved : goal.loop-rest-preserved
loop-rest-preserved g c =
    let l = c.loop-rest in
    rw c.split_at.ensures.back
    (played_next g.L.Layer.lines g.L.Layer.who_of _ _ c.args.bytes.now l.rest.now l.text l.greatest l.lines l.invariant _ _ _ c.greater_client-greatest.result c.who.result
    c.step.new.out c.in-Ok.ensures c.in_ok-step-in-Ok.ensures c.who.ensures.value c.who.ensures.in_range c.greater_client-greatest.ensures)

pub returns-clause-only : goal.returns-clause-only
returns-clause-only g c =
    let l = c.loop-rest in
    let none = eqb-true (length l.rest.now) 0 (sym c.is_empty.ensures ∙ c.loop-rest-test.false) in
    played_only g.L.Layer.lines g.L.Layer.who_of _ _ c.args.bytes.now l.rest.now l.text l.greatest l.lines l.invariant c.requires.part
    (record { text = c.into_text.result; clients = l.greatest }) c.into_text.ensures refl none c.ends.ensures
