use Rattle.std.proofs.Common.{sym}
use Rattle.live_callbacks.proofs.Numbers.{find_present}
use Rattle.live_callbacks.proofs.places.entry_of.Goals as goal

pub returns-in-Some : goal.returns-in-Some
returns-in-Some c = sym (find_present c.args.number c.args.entries.now _ _ c.in-Some.ensures)
