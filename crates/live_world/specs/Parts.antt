-- The world that the parts of an engine show.
use Rattle.std.specs.Prelude.{ℕ, ◌==◌, ◌&&◌, Bool, false, not, List, map, if◌then◌else◌, None, Some}
use Rattle.std.specs.List.{find}
use Rattle.std.specs.Option.{option_map_or}
use Rattle.tp_base.specs.declared.rows.WaitTarget.{WaitTarget}
use Rattle.tp_base.specs.declared.limits.Limits.{Limits}
use Rattle.tp_base.specs.declared.rows.ObjectRow.{ObjectRow}
use Rattle.tp_base.specs.declared.rows.WorkerRow.{WorkerRow}
use Rattle.tp_base.specs.declared.rows.ClientRow.{ClientRow}
use Rattle.tp_base.specs.declared.rows.CallbackRow.{CallbackRow}
use Rattle.object_rows.specs.Objects.{ObjectTable, is_timed_kind}
use Rattle.pool_rows.specs.Pools.{Pools}
use Rattle.pool_rows.specs.declared.WorkerRow as kept
use Rattle.tp_model.specs.World.{World, BegunWait}
use Rattle.tp_model.specs.Counts.{has_number}
use Rattle.tp_model.specs.Groups.{is_object_that}
use Rattle.tp_model.specs.Sources.{Sources}
use Rattle.tp_model.specs.Waits.{is_outstanding_for}

-- callback 0 stands for none
abbrev pub shown_worker : kept.WorkerRow → WorkerRow
shown_worker r = record { pool = r.pool; callback = if r.callback == 0 then None else Some r.callback; persistent = r.persistent }

abbrev pub world_of : Limits → Pools → ObjectTable → List CallbackRow → Sources → List ClientRow → List BegunWait → ℕ → World
world_of limits pools rows callbacks sources clients waits given_up = record {
  limits = limits;
  pools = pools.pools;
  groups = rows.groups;
  objects = rows.objects;
  callbacks = callbacks;
  kernels = sources.kernels;
  settings = sources.settings;
  armings = sources.armings;
  workers = map shown_worker pools.workers;
  clients = clients;
  waits = waits;
  now = sources.now;
  given_up = given_up;
}

-- the object of this number is a timer or a wait object that isn't released
abbrev pub is_timed : List ObjectRow → ℕ → Bool
is_timed objects number = is_object_that (λ (o : ObjectRow). not o.released && is_timed_kind o.kind) objects number

-- ---- what waits hold

-- the callback of this number is outstanding for the target
abbrev pub is_held_among : List CallbackRow → WaitTarget → ℕ → Bool
is_held_among callbacks target number = option_map_or (is_outstanding_for target) (find (has_number number) callbacks) false
