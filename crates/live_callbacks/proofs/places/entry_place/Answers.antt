use Rattle.live_callbacks.proofs.Rising.{place_here}
use Rattle.live_callbacks.proofs.places.entry_place.Goals as goal

pub returns-in-Some : goal.returns-in-Some
returns-in-Some c = place_here _ _ _ c.requires c.in-Some.ensures _ c.if-entries-place.true
