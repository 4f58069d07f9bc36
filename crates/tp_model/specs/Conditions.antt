-- The conditions of the refusals that several calls share, with the actor or the thing named as their subject.
use Rattle.std.specs.Prelude.{ℕ, ◌+◌, Bool, true, false, ◌||◌, ◌&&◌, ◌==◌, nat_lt, slice_get, is_some, is_none, option_map, None, Some, Option}
use Rattle.std.specs.List.{list_any}
use Rattle.std.specs.Option.{option_map_or}
use Rattle.tp_base.specs.declared.ids.Who.{Who}
use Rattle.tp_base.specs.declared.ids.Who.TheVariants.{Client, Worker}
use Rattle.tp_base.specs.Actors.{is_same_actor}
use Rattle.tp_base.specs.declared.calls.Kind.{Kind}
use Rattle.tp_base.specs.declared.calls.Kind.TheVariants.{Work, Timer, Wait, Io}
use Rattle.tp_base.specs.declared.rows.PoolRow.{PoolRow}
use Rattle.tp_base.specs.declared.rows.GroupRow.{GroupRow}
use Rattle.tp_base.specs.declared.rows.ObjectRow.{ObjectRow}
use Rattle.tp_base.specs.declared.rows.WorkerRow.{WorkerRow}
use Rattle.tp_base.specs.declared.rows.ClientRow.{ClientRow}
use Rattle.tp_base.specs.declared.rows.CallbackRow.{CallbackRow}
use Rattle.tp_base.specs.declared.rows.Status.{Status}
use Rattle.tp_base.specs.declared.rows.Status.TheVariants.{Running}
use Rattle.tp_base.specs.declared.ids.PoolId.{PoolId}
use Rattle.tp_base.specs.declared.plans.Idle.{Idle}
use Rattle.tp_base.specs.declared.plans.Busy.{Busy}
use Rattle.tp_model.specs.World.{World, BegunWait}
use Rattle.tp_model.specs.Counts.{numbered, callback_of, is_operating, slots}

-- the row of a worker, and none for a client
abbrev pub worker_of : World → Who → Option WorkerRow
worker_of w (Client number) = None
worker_of w (Worker number) = numbered w.workers number

abbrev pub client_of : World → Who → Option ClientRow
client_of w (Client number) = numbered w.clients number
client_of w (Worker number) = None

abbrev pub is_worker : Who → Bool
is_worker (Client number) = false
is_worker (Worker number) = true

abbrev pub is_actor : World → Who → Bool
is_actor w who = is_some (client_of w who) || is_some (worker_of w who)

abbrev pub is_finished : World → Who → Bool
is_finished w who = option_map_or (λ (r : ClientRow). r.finished) (client_of w who) false

-- a worker that runs no callback
abbrev pub is_without_callback : World → Who → Bool
is_without_callback w who = option_map_or (λ (r : WorkerRow). is_none r.callback) (worker_of w who) false

abbrev pub runs_callback : World → Who → Bool
runs_callback w who = option_map_or (λ (r : WorkerRow). is_some r.callback) (worker_of w who) false

abbrev pub is_attached : World → Who → Bool
is_attached w who = option_map_or (λ (r : WorkerRow). is_some r.pool) (worker_of w who) false

abbrev pub idle_row : ℕ → Option PoolId → Option ℕ → Bool → Option Idle
idle_row worker (Some pool) None persistent = Some (record { worker = worker; pool = pool; persistent = persistent })
idle_row worker _ _ persistent = None

abbrev pub idle_in : ℕ → Option WorkerRow → Option Idle
idle_in worker None = None
idle_in worker (Some row) = idle_row worker row.pool row.callback row.persistent

-- the actor as an attached worker that runs nothing, if it is one
abbrev pub idle_of : World → Who → Option Idle
idle_of w (Client number) = None
idle_of w (Worker number) = idle_in number (numbered w.workers number)

abbrev pub busy_row : World → ℕ → Option PoolId → Option ℕ → Bool → Option Busy
busy_row w worker (Some pool) (Some callback) persistent =
    option_map (λ (c : CallbackRow). record { worker = worker; pool = pool; callback = c; persistent = persistent }) (callback_of w callback)
busy_row w worker _ _ persistent = None

abbrev pub busy_in : World → ℕ → Option WorkerRow → Option Busy
busy_in w worker None = None
busy_in w worker (Some row) = busy_row w worker row.pool row.callback row.persistent

-- the actor as a worker that runs a callback, if it is one
abbrev pub busy_of : World → Who → Option Busy
busy_of w (Client number) = None
busy_of w (Worker number) = busy_in w number (numbered w.workers number)

abbrev pub is_in_wait : World → Who → Bool
is_in_wait w who = list_any (λ (b : BegunWait). is_same_actor b.actor who) w.waits

abbrev pub is_pool : World → ℕ → Bool
is_pool w pool = is_some (slice_get w.pools pool)

abbrev pub is_closed_pool : World → ℕ → Bool
is_closed_pool w pool = option_map_or (λ (p : PoolRow). p.closed) (slice_get w.pools pool) false

-- group 0 stands for none
abbrev pub is_no_group_or_group : World → ℕ → Bool
is_no_group_or_group w group = (group == 0) || is_some (numbered w.groups group)

abbrev pub is_closed_group : World → ℕ → Bool
is_closed_group w group = option_map_or (λ (g : GroupRow). g.closed) (numbered w.groups group) false

abbrev pub is_object : World → ℕ → Bool
is_object w object = is_some (numbered w.objects object)

abbrev pub is_same_kind : Kind → Kind → Bool
is_same_kind Work Work = true
is_same_kind Timer Timer = true
is_same_kind Wait Wait = true
is_same_kind Io Io = true
is_same_kind _ _ = false

-- the object is there and of this kind
abbrev pub is_object_of : World → Kind → ℕ → Bool
is_object_of w kind object = option_map_or (λ (o : ObjectRow). is_same_kind o.kind kind) (numbered w.objects object) false

abbrev pub is_released : World → ℕ → Bool
is_released w object = option_map_or (λ (o : ObjectRow). o.released) (numbered w.objects object) false

abbrev pub is_associated : Status → Bool
is_associated (Running worker associated slots) = associated
is_associated _ = false

-- the actor runs a callback of the object, and has not been disassociated from it
abbrev pub runs_own : World → Who → ℕ → Bool
runs_own w who object = option_map_or (λ (by : Busy). is_associated by.callback.status && (by.callback.object.0 == object)) (busy_of w who) false

-- so many more callbacks would not fit
abbrev pub lacks_slots_for : World → ℕ → Bool
lacks_slots_for w count = nat_lt w.limits.slots (slots w + count)

-- a callback of the object still waits for its operation, or for the end of it. Only an I/O object has such callbacks
abbrev pub is_operation_of : ℕ → CallbackRow → Bool
is_operation_of object c = is_operating c.status && (c.object.0 == object)

abbrev pub has_operations : World → ℕ → Bool
has_operations w object = list_any (is_operation_of object) w.callbacks
