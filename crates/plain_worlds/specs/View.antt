-- The world that the rows of a plain world show.
use Rattle.tp_model.specs.World.{World}
use Rattle.plain_worlds.specs.declared.rows.Rows.TheInside.{Inside}

abbrev pub world_of : Inside → World
world_of a = record {
  limits = a.limits;
  pools = a.pools.items;
  groups = a.groups.items;
  objects = a.objects.items;
  callbacks = a.callbacks.items;
  kernels = a.sources.kernels;
  settings = a.sources.settings;
  armings = a.sources.armings;
  workers = a.workers.items;
  clients = a.clients.items;
  waits = a.waits.items;
  now = a.sources.now;
  given_up = a.given_up;
}
