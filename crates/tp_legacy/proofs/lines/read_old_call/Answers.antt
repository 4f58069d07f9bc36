use Rattle.std.proofs.Common.{◌≡◌, [], ◌∷◌, ap, ◌∙◌, subst}
use Rattle.tp_lines.specs.declared.words.Field.TheVariants.{OldCall}
use Rattle.tp_lines.specs.Rows.{ArePartsRead}
use Rattle.tp_lines.specs.Values.{part_at, word_of}
use Rattle.tp_legacy.specs.Lines.{old_call_at}
use Rattle.tp_legacy.proofs.OldRows.{old_read, old_stuck}
use Rattle.tp_legacy.proofs.lines.read_old_call.Goals as goal

pub returns-in-Err : goal.returns-in-Err
returns-in-Err c = old_stuck c.args.text.now c.in-Err.place c.in-Err.ensures

pub returns-in-Ok : goal.returns-in-Ok
returns-in-Ok c =
    let parts = c.read_parts.new.parts in
    let word : c.word.result ≡ word_of (part_at parts 0) = c.word.ensures ∙ ap word_of c.at.ensures in
    old_read c.args.text.now parts c.in-Ok.size (subst (λ l. ArePartsRead (OldCall ∷ []) c.args.text.now l parts c.in-Ok.size) c.new-parts.ensures c.in-Ok.ensures)
    c.old_call_at.result (c.old_call_at.ensures ∙ ap (λ w. old_call_at w parts) word)
