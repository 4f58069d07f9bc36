use Rattle.std.proofs.Common.{Some, None, refl, sym, subst, arith, ◌∙◌}
use Rattle.std.proofs.lemmas.Bool.{true≢false}
use Rattle.std.proofs.lemmas.Int.{ints, to_z-of_z}
use Rattle.std.proofs.lemmas.List.{take_all}
use Rattle.std.proofs.lemmas.Slice.Eq.{bytes_eq-Decides}
use Rattle.line_grammar.specs.Numbers.{Signed}
use Rattle.line_grammar.proofs.Readings.{longer_text, stuck_text}
use Rattle.script_lines.proofs.TokenFacts.{no_due}
use Rattle.script_lines.proofs.judge.read_due.Goals as goal

pub returns-then-eq : goal.returns-then-eq
returns-then-eq c =
    (None, refl, (bytes_eq-Decides c.args.word.now c.as_slice.result.now).0 (sym c.eq.ensures ∙ c.if-eq.true) ∙ c.as_slice.ensures)

pub returns-in_default : goal.returns-in_default
returns-in_default c =
    no_due c.args.word.now
    (λ e. true≢false (sym ((bytes_eq-Decides c.args.word.now c.as_slice.result.now).1 (e ∙ sym c.as_slice.ensures)) ∙ sym c.eq.ensures ∙ c.if-eq.false))
    (stuck_text Signed c.args.word.now c.in_default.field-0 c.in_default.ensures).absent

pub returns-then-size-word : goal.returns-then-size-word
returns-then-size-word c =
    let read = c.in-Ok.ensures in
    no_due c.args.word.now
    (λ e. true≢false (sym ((bytes_eq-Decides c.args.word.now c.as_slice.result.now).1 (e ∙ sym c.as_slice.ensures)) ∙ sym c.eq.ensures ∙ c.if-eq.false))
    (longer_text Signed c.args.word.now c.in-Ok.due c.in-Ok.size read (omega (arith, read.within, c.if-size-word.true))).absent

pub returns : goal.returns
returns c =
    let read = c.in-Ok.ensures in
    let whole = take_all c.in-Ok.size c.args.word.now (omega (arith, c.if-size-word.false)) in
    let here = subst (Signed c.in-Ok.due) whole read.text_of in
    let fits = here.fits in
    (Some c.in-Ok.due, grind (arith, ints, to_z-of_z), here)
