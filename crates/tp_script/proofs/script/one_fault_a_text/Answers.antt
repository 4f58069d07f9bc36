use Rattle.script_lines.specs.Texts.{lines_of}
use Rattle.tp_script.specs.Scripts.{first_known}
use Rattle.tp_script.proofs.Unique.{one_fault}
use Rattle.tp_script.proofs.script.one_fault_a_text.Goals as goal

pub returns : goal.returns
returns c = λ text line other column place kind why. one_fault (lines_of text) (first_known (lines_of text)) 1 line other column place kind why
