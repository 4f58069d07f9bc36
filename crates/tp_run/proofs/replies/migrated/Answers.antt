use Rattle.std.proofs.Common.{sym, ap}
use Rattle.tp_run.specs.Inputs.{ending_of}
use Rattle.tp_run.specs.declared.status.Ending.TheVariants.{Fine}
use Rattle.tp_run.proofs.Checked.{migration_of_fault, output_of_migration, right_migration, wrong_migration}
use Rattle.tp_run.proofs.replies.migrated.Goals as goal

pub returns-in_err-verdict : goal.returns-in_err-verdict
returns-in_err-verdict g c =
    migration_of_fault c.args.bytes.now c.in_err-verdict.field-0.0 c.from_residual.result c.from_residual.ensures.1 c.in_err-verdict.ensures.err c.in_err-verdict.ensures.only

pub returns-in-Legal : goal.returns-in-Legal
returns-in-Legal g c =
    let told = c.in_ok-verdict.ensures in
    output_of_migration c.args.bytes.now c.migrate.new.out.items c.in_ok-verdict.verdict Fine told.ok told.only
    (right_migration c.args.bytes.now c.new-text.result.items c.migrate.new.out.items c.in_ok-verdict.verdict c.in-Legal.len c.in-Legal.is c.new-text.ensures.items told.text) (sym (ap ending_of c.in-Legal.is))

pub returns : goal.returns
returns g c =
    let told = c.in_ok-verdict.ensures in
    let output = c.in_ok-output in
    output_of_migration c.args.bytes.now output.output.text.items c.in_ok-verdict.verdict output.output.ending told.ok told.only
    (wrong_migration c.args.bytes.now output.output.text.items c.in_ok-verdict.verdict c.in_default.not-Legal output.ensures.text) output.ensures.ending
