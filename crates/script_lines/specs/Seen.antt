-- How far a line was read, as the code keeps it.
use Rattle.script_lines.specs.declared.reading.Trail.{Trail as Kept}
use Rattle.script_lines.specs.Readings.{Trail}

abbrev pub seen : Kept → Trail
seen kept = record { left = kept.left.now; line = kept.line; name = kept.name.now }
