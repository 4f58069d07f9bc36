use Rattle.std.proofs.Common.{[], ◌∷◌, subst}
use Rattle.tp_lines.specs.declared.words.Field.TheVariants.{SleepCall}
use Rattle.tp_lines.specs.Rows.{ArePartsRead}
use Rattle.tp_coalesce.proofs.SleepRows.{sleep_read, sleep_stuck}
use Rattle.tp_coalesce.proofs.lines.read_sleep.Goals as goal

pub returns-in-Err : goal.returns-in-Err
returns-in-Err c = sleep_stuck c.args.text.now c.in-Err.place c.in-Err.ensures

pub returns-in-Ok : goal.returns-in-Ok
returns-in-Ok c =
    let parts = c.read_parts.new.parts in
    sleep_read c.args.text.now parts c.in-Ok.size (subst (λ l. ArePartsRead (SleepCall ∷ []) c.args.text.now l parts c.in-Ok.size) c.new-parts.ensures c.in-Ok.ensures) c.sleep_at.result c.sleep_at.ensures
