use Rattle.tp_library.proofs.LineFacts.{library_none}
use Rattle.tp_library.proofs.lines.read_library.Goals as goal

pub returns-in_default : goal.returns-in_default
returns-in_default c = library_none c.args.text.now c.in_default.ensures
