-- Whether a machine can't go on: whoever could make the next call waits for what nobody will do.
use Rattle.std.specs.Prelude.{ℕ, Bool, true, false, not, ◌&&◌, ◌||◌, ◌==◌, nat_le, nat_lt, length, is_none, is_some}
use Rattle.std.specs.List.{list_all, list_any, range_with_len}
use Rattle.std.specs.Option.{option_map_or}
use Rattle.tp_base.specs.declared.ids.PoolId.{PoolId}
use Rattle.tp_base.specs.declared.ids.Who.{Who}
use Rattle.tp_base.specs.declared.ids.Who.TheVariants.{Client, Worker}
use Rattle.tp_base.specs.declared.plans.Plan.{Plan}
use Rattle.tp_base.specs.declared.plans.Plan.TheVariants.{Looked}
use Rattle.tp_base.specs.declared.rows.WorkerRow.{WorkerRow}
use Rattle.tp_model.specs.World.{World}
use Rattle.tp_model.specs.Counts.{idle, is_persistent_in, maximum, pending, running, takeable}
use Rattle.tp_model.specs.Conditions.{is_closed_pool, is_finished, runs_callback}
use Rattle.tp_model.specs.Waits.{wait_of}
use Rattle.tp_model.specs.Calls.Waits.{end_wait}

abbrev pub is_look : Plan → Bool
is_look (Looked look) = true
is_look _ = false

-- the actor has a wait begun that can't end yet
abbrev pub waits_on : World → ℕ → Who → Bool
waits_on w room who = is_look (end_wait w room who (wait_of w who))

-- a client makes its next call unless it has finished or waits, and a worker in a callback unless it waits
abbrev pub is_client_stuck : World → ℕ → ℕ → Bool
is_client_stuck w room number = is_finished w (Client number) || waits_on w room (Client number)

abbrev pub is_worker_stuck : World → ℕ → ℕ → Bool
is_worker_stuck w room number = not (runs_callback w (Worker number)) || waits_on w room (Worker number)

-- the worker runs nothing and may come to another pool: it isn't the persistent worker of a pool that isn't closed
abbrev pub is_free : World → WorkerRow → Bool
is_free w r = is_none r.callback && (not r.persistent || option_map_or (λ (p : PoolId). is_closed_pool w p.0) r.pool true)

-- the history has no room for a callback of the pool to be run: that takes two entries, and two more and a free worker where
-- no worker of the pool is idle, so that one has to attach and to detach
abbrev pub lacks_room_to_run : World → ℕ → ℕ → Bool
lacks_room_to_run w room pool = nat_lt room 2 || ((idle w pool == 0) && (nat_lt room 4 || not (list_any (is_free w) w.workers)))

-- all that is pending in the pool is for its persistent worker, and that one runs a callback
abbrev pub is_kept_waiting : World → ℕ → Bool
is_kept_waiting w pool = (takeable w pool false == 0) && list_any (λ (r : WorkerRow). is_persistent_in pool r && is_some r.callback) w.workers

-- none of the pool's pending callbacks can be taken: there is none, as many run as may, the worker that it is for runs
-- another one, or there is no room or no worker for it to be run
abbrev pub is_pool_stuck : World → ℕ → ℕ → Bool
is_pool_stuck w room pool =
    (pending w pool == 0)
    || nat_le (maximum w pool) (running w pool)
    || is_kept_waiting w pool
    || lacks_room_to_run w room pool

abbrev pub is_stalled : World → ℕ → Bool
is_stalled w room =
    list_all (is_client_stuck w room) (range_with_len 1 (length w.clients))
    && list_all (is_worker_stuck w room) (range_with_len 1 (length w.workers))
    && list_all (is_pool_stuck w room) (range_with_len 0 (length w.pools))
