use Rattle.tp_script.proofs.Unique.{one_script}
use Rattle.tp_script.proofs.script.one_script_a_text.Goals as goal

pub returns : goal.returns
returns c = one_script
