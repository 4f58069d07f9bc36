-- What the parts of a live world show, and what they keep between calls.
use Rattle.std.specs.Prelude.{◌+◌}
use Rattle.tp_model.specs.Support.Sound.{IsSound}
use Rattle.live_world.specs.Live.{Live}
use Rattle.live_world.specs.Invariant.{AreSized, AreLive, AreTallied, AreCovered, AreTimed, AreSlotted}
use Rattle.live_world.specs.Parts.{world_of}
use Rattle.live_world.specs.declared.LiveWorld.TheInside.{Inside}

abbrev pub shown : Inside → Live
shown a = record {
  world = world_of a.limits a.pools a.objects a.callbacks.rows a.sources.sources a.clients.items a.waits.waits a.waits.given_up;
  made = a.made;
}

pub record IsLiveWorld (a : Inside) : Type 0 where
  pub sized : AreSized a.limits a.pools a.objects a.clients.items
  pub alive : AreLive a.limits a.callbacks
  pub tallied : AreTallied a.callbacks.rows a.pools.workers
  pub covered : AreCovered a.limits a.made a.callbacks.rows a.waits a.covers
  pub timed : AreTimed a.limits a.objects.objects a.sources
  pub slotted : AreSlotted a.limits a.callbacks.rows a.sources.sources.armings
  pub sound : IsSound (a.made + 1) (shown a).world
