use Rattle.std.proofs.Common.{◌∙◌, sym}
use Rattle.live_callbacks.proofs.Numbers.{find_above}
use Rattle.live_callbacks.proofs.places.entry_behind.Goals as goal

pub returns : goal.returns
returns c = c.first_entry.ensures ∙ sym (find_above c.args.number c.args.entries.now _ c.place_behind.ensures.bound c.place_behind.ensures.parted)
