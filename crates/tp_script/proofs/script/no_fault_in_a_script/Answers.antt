use Rattle.tp_script.proofs.Unique.{no_fault_in}
use Rattle.tp_script.proofs.script.no_fault_in_a_script.Goals as goal

pub returns : goal.returns
returns c = no_fault_in
