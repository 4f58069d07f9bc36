use Rattle.tp_script.proofs.Unique.{one_parsed}
use Rattle.tp_script.proofs.script.one_reading_a_text.Goals as goal

pub returns : goal.returns
returns c = one_parsed
