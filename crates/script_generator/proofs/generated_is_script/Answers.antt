use Rattle.script_generator.proofs.Whole.{generated_script, generated_short}
use Rattle.script_generator.proofs.generated_is_script.Goals as goal

pub returns-clause-script : goal.returns-clause-script
returns-clause-script c = generated_script

pub returns-clause-short : goal.returns-clause-short
returns-clause-short c = generated_short
