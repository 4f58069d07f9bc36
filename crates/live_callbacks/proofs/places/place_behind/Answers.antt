use Rattle.live_callbacks.proofs.Rising.{parted_behind}
use Rattle.live_callbacks.proofs.places.place_behind.Goals as goal

pub returns-in-Some-clause-parted : goal.returns-in-Some-clause-parted
returns-in-Some-clause-parted c = parted_behind _ _ _ _ c.requires c.in-Some.ensures c.if-entries-place.true
