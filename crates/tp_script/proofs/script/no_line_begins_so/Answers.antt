use Rattle.script_lines.specs.Readings.{first_trail}
use Rattle.script_lines.proofs.LineFacts.{no_way}
use Rattle.tp_script.proofs.script.no_line_begins_so.Goals as goal

pub returns : goal.returns
returns c known front more spot trail goes stuck line name read = no_way known front more spot first_trail trail read.end goes stuck read.goes
