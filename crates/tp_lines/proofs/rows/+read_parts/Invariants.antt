use Rattle.tp_lines.specs.Parts.{room}
use Rattle.tp_lines.proofs.rows.+read_parts.Given as goal

abbrev pub decreases-read_parts : goal.decreases-read_parts
decreases-read_parts l = room l.fields.now
