use Rattle.std.proofs.Common.{◌≡◌, sym, ap, subst, ◌+◌, ◌∷◌, arith, length, length-append, [], ◌++◌}
use Rattle.line_grammar.specs.Language.{IsStuck}
use Rattle.tp_lines.specs.Parts.{PartsTexts, after, room}
use Rattle.tp_lines.specs.Rows.{ArePartsRead}
use Rattle.tp_lines.proofs.RowFacts.{parts_read, parts_stuck_first, parts_stuck_second, room_after}
use Rattle.tp_lines.proofs.rows.+read_parts.Goals as goal

pub returns-in-Err : goal.returns-in-Err
returns-in-Err t c =
    subst (λ l. IsStuck (PartsTexts l) c.args.text.now c.in-Err.place) (sym c.in-Some.ensures)
    (parts_stuck_first c.in-Some.field c.in-Some.left.now c.args.text.now c.in-Err.place c.in-Err.ensures)

pub returns-in-Err-read_parts : goal.returns-in-Err-read_parts
returns-in-Err-read_parts t c =
    subst (λ l. IsStuck (PartsTexts l) c.args.text.now (c.in-Ok.size + c.in-Err-read_parts.place)) (sym c.in-Some.ensures)
    (parts_stuck_second c.in-Some.field c.in-Some.left.now c.args.text.now c.in-Ok.part c.in-Ok.size c.in-Ok.ensures
    c.split_at.result.1.now c.split_at.ensures.back c.after.result.now c.after.ensures c.in-Err-read_parts.place c.in-Err-read_parts.ensures)

pub returns-in-Ok-read_parts : goal.returns-in-Ok-read_parts
returns-in-Ok-read_parts t c =
    subst (λ l. ArePartsRead l c.args.text.now c.args.parts.now c.read_parts.new.parts (c.in-Ok.size + c.in-Ok-read_parts.more)) (sym c.in-Some.ensures)
    (parts_read c.in-Some.field c.in-Some.left.now c.args.text.now c.in-Ok.part c.in-Ok.size c.in-Ok.ensures
    c.split_at.result.1.now c.split_at.ensures.back c.after.result.now c.after.ensures
    c.args.parts.now c.read_parts.new.parts c.in-Ok-read_parts.more (subst (λ l. ArePartsRead c.after.result.now c.split_at.result.1.now l c.read_parts.new.parts c.in-Ok-read_parts.more) c.push.ensures c.in-Ok-read_parts.ensures))

pub read_parts-requires : goal.read_parts-requires
read_parts-requires t c =
    let less = room_after c.in-Some.field c.in-Ok.part c.in-Some.left.now c.in-Ok.ensures.text_of.behind.fits in
    let whole : room c.args.fields.now ≡ room (c.in-Some.field ∷ c.in-Some.left.now) = ap room c.in-Some.ensures in
    let left : room c.after.result.now ≡ room (after c.in-Ok.part c.in-Some.left.now) = ap room c.after.ensures in
    let more : length c.push.new.self ≡ length (c.args.parts.now ++ c.in-Ok.part ∷ []) = ap length c.push.ensures in
    (omega arith, omega (arith, length-append c.args.parts.now (c.in-Ok.part ∷ [])))
