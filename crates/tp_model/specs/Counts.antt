-- What is counted in a world. Each count is the length of a filtered list.
use Rattle.std.specs.Prelude.{ℕ, ◌+◌, ◌-◌, Bool, true, false, not, ◌&&◌, ◌||◌, ◌==◌, nat_lt, List, ◌++◌, length, slice_get, is_some, is_none, if◌then◌else◌, None}
use Rattle.std.specs.Prelude.{Option}
use Rattle.std.specs.List.{filter, find, list_any, range_with_len}
use Rattle.std.specs.Option.{option_map_or}
use Rattle.std.specs.List.{sum_by}
use Rattle.tp_base.specs.declared.calls.Priority.{Priority}
use Rattle.tp_base.specs.declared.calls.Priority.TheVariants.{High, Normal, Low}
use Rattle.tp_base.specs.declared.rows.PoolRow.{PoolRow}
use Rattle.tp_base.specs.declared.rows.Status.{Status}
use Rattle.tp_base.specs.declared.rows.Status.TheVariants.{Expected, Issued, Pending, Running, Returned, Cancelled}
use Rattle.tp_base.specs.declared.rows.CallbackRow.{CallbackRow}
use Rattle.tp_base.specs.declared.rows.WorkerRow.{WorkerRow}
use Rattle.tp_base.specs.declared.ids.PoolId.{PoolId}
use Rattle.tp_model.specs.World.{World}

-- the row of a number that counts from 1
abbrev pub numbered : {R : Type 0} → List R → ℕ → Option R
numbered rows number = if number == 0 then None else slice_get rows (number - 1)

-- its operation is announced
abbrev pub is_expected : Status → Bool
is_expected Expected = true
is_expected _ = false

-- its operation is under way
abbrev pub is_issued : Status → Bool
is_issued Issued = true
is_issued _ = false

-- its operation is announced or under way
abbrev pub is_operating : Status → Bool
is_operating Expected = true
is_operating Issued = true
is_operating _ = false

abbrev pub is_pending : Status → Bool
is_pending Pending = true
is_pending _ = false

abbrev pub is_running : Status → Bool
is_running (Running worker associated slots) = true
is_running _ = false

-- the callback of a number
abbrev pub has_number : ℕ → CallbackRow → Bool
has_number number c = c.number == number

abbrev pub callback_of : World → ℕ → Option CallbackRow
callback_of w number = find (has_number number) w.callbacks

-- it may still run, or is being run
abbrev pub is_live : Status → Bool
is_live Expected = true
is_live Issued = true
is_live Pending = true
is_live (Running worker associated slots) = true
is_live Returned = false
is_live Cancelled = false

abbrev pub is_high : Priority → Bool
is_high High = true
is_high _ = false

abbrev pub is_normal : Priority → Bool
is_normal Normal = true
is_normal _ = false

abbrev pub is_low : Priority → Bool
is_low Low = true
is_low _ = false

abbrev pub is_pending_in : ℕ → CallbackRow → Bool
is_pending_in pool c = is_pending c.status && (c.pool.0 == pool)

abbrev pub is_running_in : ℕ → CallbackRow → Bool
is_running_in pool c = is_running c.status && (c.pool.0 == pool)

abbrev pub is_running_long_in : ℕ → CallbackRow → Bool
is_running_long_in pool c = is_running_in pool c && c.long

-- the worker is attached to the pool
abbrev pub is_attached_to : ℕ → WorkerRow → Bool
is_attached_to pool worker = option_map_or (λ (p : PoolId). p.0 == pool) worker.pool false

abbrev pub is_idle_in : ℕ → WorkerRow → Bool
is_idle_in pool worker = is_attached_to pool worker && is_none worker.callback

-- the worker is attached to the pool as its persistent worker
abbrev pub is_persistent_in : ℕ → WorkerRow → Bool
is_persistent_in pool worker = is_attached_to pool worker && worker.persistent

-- the pool has a persistent worker
abbrev pub has_persistent : World → ℕ → Bool
has_persistent w pool = list_any (is_persistent_in pool) w.workers

-- a worker of the pool may take the pending callback: a persistent one is for the pool's persistent worker, and where the
-- pool has none for each of its workers. The third argument says whether the worker is the persistent one
abbrev pub is_open_to : World → ℕ → Bool → CallbackRow → Bool
is_open_to w pool persistent c = is_pending_in pool c && (not c.persistent || persistent || not (has_persistent w pool))

abbrev pub pending : World → ℕ → ℕ
pending w pool = length (filter (is_pending_in pool) w.callbacks)

-- the pending callbacks that a worker of the pool may take, who is the persistent one or isn't. A further worker isn't
abbrev pub takeable : World → ℕ → Bool → ℕ
takeable w pool persistent = length (filter (is_open_to w pool persistent) w.callbacks)

abbrev pub running : World → ℕ → ℕ
running w pool = length (filter (is_running_in pool) w.callbacks)

abbrev pub attached : World → ℕ → ℕ
attached w pool = length (filter (is_attached_to pool) w.workers)

abbrev pub idle : World → ℕ → ℕ
idle w pool = length (filter (is_idle_in pool) w.workers)

-- the callbacks with the long mark that the pool's workers run
abbrev pub running_long : World → ℕ → ℕ
running_long w pool = length (filter (is_running_long_in pool) w.callbacks)

-- the attached workers that don't run a callback with the long mark
abbrev pub available : World → ℕ → ℕ
available w pool = attached w pool - running_long w pool

abbrev pub maximum : World → ℕ → ℕ
maximum w pool = option_map_or (λ (p : PoolRow). p.maximum) (slice_get w.pools pool) 0

-- that of a closed pool counts as 0
abbrev pub minimum : World → ℕ → ℕ
minimum w pool = option_map_or (λ (p : PoolRow). if p.closed then 0 else p.minimum) (slice_get w.pools pool) 0

-- callbacks wait that a further worker may take, no attached worker is free, and the pool may have another
abbrev pub is_in_need : World → ℕ → Bool
is_in_need w pool = nat_lt 0 (takeable w pool false) && (idle w pool == 0) && nat_lt (attached w pool) (maximum w pool)

-- the pool has fewer workers for short callbacks than its minimum, and may have another
abbrev pub is_below_minimum : World → ℕ → Bool
is_below_minimum w pool = nat_lt (available w pool) (minimum w pool) && nat_lt (attached w pool) (maximum w pool)

-- the pool of least number that passes the test
abbrev pub least_pool : World → (ℕ → Bool) → Option ℕ
least_pool w test = find test (range_with_len 0 (length w.pools))

-- those of the priorities that pass the test, by rising number
abbrev pub waiting : World → ℕ → Bool → (Priority → Bool) → List CallbackRow
waiting w pool persistent test = filter (λ c. is_open_to w pool persistent c && test c.priority) w.callbacks

-- all of them in the order in which they are taken
abbrev pub queue : World → ℕ → Bool → List CallbackRow
queue w pool persistent = waiting w pool persistent is_high ++ waiting w pool persistent is_normal ++ waiting w pool persistent is_low

-- the callback that the worker takes next: of the highest priority, and of these the one of least number
abbrev pub next : World → ℕ → Bool → Option CallbackRow
next w pool persistent = slice_get (queue w pool persistent) 0

-- callbacks that may still run or are being run, and armed waits, each of which holds a place for its callback
abbrev pub slots : World → ℕ
slots w = length (filter (λ c. is_live c.status) w.callbacks) + length w.armings

-- the entries that the history must still have room for: each running callback returns, each begun wait gives
-- its notices and ends, each attached worker detaches, each client finishes
abbrev pub owed : World → ℕ
owed w =
    length (filter (λ c. is_running c.status) w.callbacks)
    + length w.waits
    + sum_by (λ b. length b.notices) w.waits
    + length (filter (λ r. is_some r.pool) w.workers)
    + length (filter (λ r. not r.finished) w.clients)
    + w.given_up
