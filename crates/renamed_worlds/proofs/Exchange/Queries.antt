-- What calls read of a world is the same where two workers change places, up to who they are.
use Rattle.std.proofs.Common.{◌≡◌, ℕ, ◌+◌, ◌-◌, ◌<◌, ◌==◌, ◌||◌, ◌&&◌, not, Bool, false, is_some, is_none, nat_lt, ◌++◌, length, map, slice_get, Option, Some, None, option_map, refl, sym, ap, ap₂, ◌∙◌, filter}
use Rattle.std.specs.List.{list_any, range_with_len}
use Rattle.std.specs.Option.{option_map_or}
use Rattle.std.proofs.lemmas.List.{map-append}
use Rattle.std.proofs.lemmas.Option.{slice_get-map}
use Rattle.tp_base.specs.Actors.{is_same_actor}
use Rattle.tp_base.specs.declared.calls.Priority.{Priority}
use Rattle.tp_base.specs.declared.ids.PoolId.{PoolId}
use Rattle.tp_base.specs.declared.ids.Who.{Who}
use Rattle.tp_base.specs.declared.ids.Who.TheVariants.{Client, Worker}
use Rattle.tp_base.specs.declared.plans.Busy.{Busy}
use Rattle.tp_base.specs.declared.rows.CallbackRow.{CallbackRow}
use Rattle.tp_base.specs.declared.rows.ClientRow.{ClientRow}
use Rattle.tp_base.specs.declared.rows.Slots.{Slots}
use Rattle.tp_base.specs.declared.rows.Status.{Status}
use Rattle.tp_base.specs.declared.rows.Status.TheVariants.{Cancelled, Expected, Issued, Pending, Returned, Running}
use Rattle.tp_base.specs.declared.rows.WaitTarget.{WaitTarget}
use Rattle.tp_base.specs.declared.rows.WaitTarget.TheVariants.{Group, Kernel, Object}
use Rattle.tp_base.specs.declared.rows.WorkerRow.{WorkerRow}
use Rattle.tp_model.specs.World.{World, BegunWait}
use Rattle.tp_model.specs.Actions.{slots_of}
use Rattle.tp_model.specs.Counts.{attached, available, callback_of, has_number, has_persistent, idle, is_attached_to, is_below_minimum, is_high, is_idle_in, is_in_need, is_live, is_low, is_normal, is_open_to, is_operating, is_pending, is_pending_in, is_persistent_in, is_running, is_running_in, is_running_long_in, least_pool, maximum, minimum, next, numbered, pending, queue, running, slots, takeable, waiting}
use Rattle.tp_model.specs.Conditions.{busy_in, busy_of, busy_row, client_of, has_operations, idle_in, idle_of, idle_row, is_actor, is_associated, is_attached, is_finished, is_in_wait, is_operation_of, is_without_callback, is_worker, lacks_slots_for, runs_callback, runs_own, worker_of}
use Rattle.tp_model.specs.Waits.{is_held_for, wait_of}
use Rattle.tp_model.proofs.Lists.{find_agree}
use Rattle.renamed_worlds.specs.Exchanged.{exchanged, exchanged_busy, exchanged_callback, exchanged_idle, exchanged_number, exchanged_status, exchanged_wait, exchanged_who}
use Rattle.renamed_worlds.proofs.Exchange.Rows.{any_exchanged, count_exchanged, numbered_exchanged, same_who}
use Rattle.renamed_worlds.proofs.Mapped.{any_map, count_map, filter_map, find_map, found_map}

-- what doesn't tell who runs a callback is the same
pub status_same : {X : Type 0} (at : ℕ) (read : Status → X) → ((worker : ℕ) (associated : Bool) (slots : Slots) → read (Running (exchanged_number at worker) associated slots) ≡ read (Running worker associated slots)) → (s : Status) → read (exchanged_status at s) ≡ read s
status_same at read same Expected = refl
status_same at read same Issued = refl
status_same at read same Pending = refl
status_same at read same (Running worker associated slots) = same worker associated slots
status_same at read same Returned = refl
status_same at read same Cancelled = refl

pub held_same : (at : ℕ) (target : WaitTarget) (s : Status) → is_held_for target (exchanged_status at s) ≡ is_held_for target s
held_same at (Object object) s = status_same at (is_held_for (Object object)) (λ _ _ _. refl) s
held_same at (Group group) s = status_same at (is_held_for (Group group)) (λ _ _ _. refl) s
held_same at (Kernel kernel) s = status_same at (is_held_for (Kernel kernel)) (λ _ _ _. refl) s

pub slots_same : (at : ℕ) (s : Status) → slots_of (exchanged_status at s) ≡ slots_of s
slots_same at s = status_same at slots_of (λ _ _ _. refl) s

module _ (at : ℕ) (w : World) (fits : at + 1 < length w.workers) where
  abbrev u : World
  u = exchanged at w

  -- ---- rows

  pub worker_exchanged : (who : Who) → worker_of u (exchanged_who at who) ≡ worker_of w who
  worker_exchanged (Client number) = refl
  worker_exchanged (Worker number) = numbered_exchanged at number w.workers fits

  client_exchanged : (who : Who) → client_of u (exchanged_who at who) ≡ client_of w who
  client_exchanged (Client number) = refl
  client_exchanged (Worker number) = refl

  pub callback_exchanged : (n : ℕ) → callback_of u n ≡ option_map (exchanged_callback at) (callback_of w n)
  callback_exchanged n = find_map (exchanged_callback at) (has_number n) (has_number n) (λ _. refl) w.callbacks

  pub wait_exchanged : (who : Who) → wait_of u (exchanged_who at who) ≡ option_map (exchanged_wait at) (wait_of w who)
  wait_exchanged who = find_map (exchanged_wait at) (λ (b : BegunWait). is_same_actor b.actor (exchanged_who at who)) (λ (b : BegunWait). is_same_actor b.actor who) (λ b. same_who at b.actor who) w.waits

  -- ---- actors

  pub actor_exchanged : (who : Who) → is_actor u (exchanged_who at who) ≡ is_actor w who
  actor_exchanged who = ap₂ (λ (c : Option ClientRow) (r : Option WorkerRow). is_some c || is_some r) (client_exchanged who) (worker_exchanged who)

  pub finished_exchanged : (who : Who) → is_finished u (exchanged_who at who) ≡ is_finished w who
  finished_exchanged who = ap (λ c. option_map_or (λ (r : ClientRow). r.finished) c false) (client_exchanged who)

  pub is_worker_exchanged : (who : Who) → is_worker (exchanged_who at who) ≡ is_worker who
  is_worker_exchanged (Client number) = refl
  is_worker_exchanged (Worker number) = refl

  pub without_exchanged : (who : Who) → is_without_callback u (exchanged_who at who) ≡ is_without_callback w who
  without_exchanged who = ap (λ o. option_map_or (λ (r : WorkerRow). is_none r.callback) o false) (worker_exchanged who)

  pub runs_exchanged : (who : Who) → runs_callback u (exchanged_who at who) ≡ runs_callback w who
  runs_exchanged who = ap (λ o. option_map_or (λ (r : WorkerRow). is_some r.callback) o false) (worker_exchanged who)

  pub attached_exchanged : (who : Who) → is_attached u (exchanged_who at who) ≡ is_attached w who
  attached_exchanged who = ap (λ o. option_map_or (λ (r : WorkerRow). is_some r.pool) o false) (worker_exchanged who)

  pub in_wait_exchanged : (who : Who) → is_in_wait u (exchanged_who at who) ≡ is_in_wait w who
  in_wait_exchanged who = any_map (exchanged_wait at) (λ (b : BegunWait). is_same_actor b.actor (exchanged_who at who)) (λ (b : BegunWait). is_same_actor b.actor who) (λ b. same_who at b.actor who) w.waits

  pub idle_exchanged : (who : Who) → idle_of u (exchanged_who at who) ≡ option_map (exchanged_idle at) (idle_of w who)
  idle_exchanged (Client number) = refl
  idle_exchanged (Worker number) = ap (idle_in (exchanged_number at number)) (numbered_exchanged at number w.workers fits) ∙ of_row (numbered w.workers number)
    where
      of_parts : (pool : Option PoolId) (callback : Option ℕ) (persistent : Bool) → idle_row (exchanged_number at number) pool callback persistent ≡ option_map (exchanged_idle at) (idle_row number pool callback persistent)
      of_parts None callback persistent = refl
      of_parts (Some pool) None persistent = refl
      of_parts (Some pool) (Some callback) persistent = refl

      of_row : (o : Option WorkerRow) → idle_in (exchanged_number at number) o ≡ option_map (exchanged_idle at) (idle_in number o)
      of_row None = refl
      of_row (Some r) = of_parts r.pool r.callback r.persistent

  pub busy_exchanged : (who : Who) → busy_of u (exchanged_who at who) ≡ option_map (exchanged_busy at) (busy_of w who)
  busy_exchanged (Client number) = refl
  busy_exchanged (Worker number) = ap (busy_in u (exchanged_number at number)) (numbered_exchanged at number w.workers fits) ∙ of_row (numbered w.workers number)
    where
      of_callback : (pool : PoolId) (persistent : Bool) (o : Option CallbackRow)
          → option_map (λ (c : CallbackRow). record { worker = exchanged_number at number; pool = pool; callback = c; persistent = persistent }) (option_map (exchanged_callback at) o)
          ≡ option_map (exchanged_busy at) (option_map (λ (c : CallbackRow). record { worker = number; pool = pool; callback = c; persistent = persistent }) o)
      of_callback pool persistent None = refl
      of_callback pool persistent (Some c) = refl

      of_parts : (pool : Option PoolId) (callback : Option ℕ) (persistent : Bool) → busy_row u (exchanged_number at number) pool callback persistent ≡ option_map (exchanged_busy at) (busy_row w number pool callback persistent)
      of_parts None callback persistent = refl
      of_parts (Some pool) None persistent = refl
      of_parts (Some pool) (Some callback) persistent =
          ap (option_map (λ (c : CallbackRow). record { worker = exchanged_number at number; pool = pool; callback = c; persistent = persistent })) (callback_exchanged callback) ∙ of_callback pool persistent (callback_of w callback)

      of_row : (o : Option WorkerRow) → busy_in u (exchanged_number at number) o ≡ option_map (exchanged_busy at) (busy_in w number o)
      of_row None = refl
      of_row (Some r) = of_parts r.pool r.callback r.persistent

  pub busy_test : (test : Busy → Bool) → ((by : Busy) → test (exchanged_busy at by) ≡ test by) → (who : Who) → option_map_or test (busy_of u (exchanged_who at who)) false ≡ option_map_or test (busy_of w who) false
  busy_test test agree who = ap (λ o. option_map_or test o false) (busy_exchanged who) ∙ found_map (exchanged_busy at) test test agree (busy_of w who) false

  -- ---- counts

  pub count_same : (test : CallbackRow → Bool) → ((c : CallbackRow) → test (exchanged_callback at c) ≡ test c) → length (filter test u.callbacks) ≡ length (filter test w.callbacks)
  count_same test agree = count_map (exchanged_callback at) test test agree w.callbacks

  pub some_same : (test : CallbackRow → Bool) → ((c : CallbackRow) → test (exchanged_callback at c) ≡ test c) → list_any test u.callbacks ≡ list_any test w.callbacks
  some_same test agree = any_map (exchanged_callback at) test test agree w.callbacks

  pub pending_same : (c : CallbackRow) → is_pending (exchanged_callback at c).status ≡ is_pending c.status
  pending_same c = status_same at is_pending (λ _ _ _. refl) c.status

  pub running_same : (c : CallbackRow) → is_running (exchanged_callback at c).status ≡ is_running c.status
  running_same c = status_same at is_running (λ _ _ _. refl) c.status

  pub live_same : (c : CallbackRow) → is_live (exchanged_callback at c).status ≡ is_live c.status
  live_same c = status_same at is_live (λ _ _ _. refl) c.status

  pub persistent_exchanged : (pool : ℕ) → has_persistent u pool ≡ has_persistent w pool
  persistent_exchanged pool = any_exchanged (is_persistent_in pool) at w.workers

  pub open_exchanged : (pool : ℕ) (persistent : Bool) (c : CallbackRow) → is_open_to u pool persistent (exchanged_callback at c) ≡ is_open_to w pool persistent c
  open_exchanged pool persistent c = ap₂ (λ p b. p && (c.pool.0 == pool) && (not c.persistent || persistent || not b)) (pending_same c) (persistent_exchanged pool)

  pub pending_exchanged : (pool : ℕ) → pending u pool ≡ pending w pool
  pending_exchanged pool = count_same (is_pending_in pool) (λ c. ap (λ b. b && (c.pool.0 == pool)) (pending_same c))

  pub takeable_exchanged : (pool : ℕ) (persistent : Bool) → takeable u pool persistent ≡ takeable w pool persistent
  takeable_exchanged pool persistent = count_map (exchanged_callback at) (is_open_to u pool persistent) (is_open_to w pool persistent) (open_exchanged pool persistent) w.callbacks

  pub running_exchanged : (pool : ℕ) → running u pool ≡ running w pool
  running_exchanged pool = count_same (is_running_in pool) (λ c. ap (λ b. b && (c.pool.0 == pool)) (running_same c))

  pub staff_exchanged : (pool : ℕ) → attached u pool ≡ attached w pool
  staff_exchanged pool = count_exchanged (is_attached_to pool) at w.workers

  pub idle_staff_exchanged : (pool : ℕ) → idle u pool ≡ idle w pool
  idle_staff_exchanged pool = count_exchanged (is_idle_in pool) at w.workers

  pub available_exchanged : (pool : ℕ) → available u pool ≡ available w pool
  available_exchanged pool = ap₂ (λ m n. m - n) (staff_exchanged pool) (count_same (is_running_long_in pool) (λ c. ap (λ b. b && (c.pool.0 == pool) && c.long) (running_same c)))

  pub in_need_exchanged : (pool : ℕ) → is_in_need u pool ≡ is_in_need w pool
  in_need_exchanged pool =
      ap₂ (λ (b : Bool) (a : ℕ). b && nat_lt a (maximum w pool))
      (ap₂ (λ (t i : ℕ). nat_lt 0 t && (i == 0)) (takeable_exchanged pool false) (idle_staff_exchanged pool)) (staff_exchanged pool)

  pub below_minimum_exchanged : (pool : ℕ) → is_below_minimum u pool ≡ is_below_minimum w pool
  below_minimum_exchanged pool = ap₂ (λ (v a : ℕ). nat_lt v (minimum w pool) && nat_lt a (maximum w pool)) (available_exchanged pool) (staff_exchanged pool)

  pub least_exchanged : (after before : ℕ → Bool) → ((pool : ℕ) → after pool ≡ before pool) → least_pool u after ≡ least_pool w before
  least_exchanged after before agree = find_agree after before agree (range_with_len 0 (length w.pools))

  waiting_exchanged : (pool : ℕ) (persistent : Bool) (test : Priority → Bool) → waiting u pool persistent test ≡ map (exchanged_callback at) (waiting w pool persistent test)
  waiting_exchanged pool persistent test =
      filter_map (exchanged_callback at) (λ c. is_open_to u pool persistent c && test c.priority) (λ c. is_open_to w pool persistent c && test c.priority) (λ c. ap (λ b. b && test c.priority) (open_exchanged pool persistent c)) w.callbacks

  queue_exchanged : (pool : ℕ) (persistent : Bool) → queue u pool persistent ≡ map (exchanged_callback at) (queue w pool persistent)
  queue_exchanged pool persistent =
      ap₂ (λ hn l. hn ++ l)
      (ap₂ (λ h n. h ++ n) (waiting_exchanged pool persistent is_high) (waiting_exchanged pool persistent is_normal)
      ∙ sym (map-append (exchanged_callback at) (waiting w pool persistent is_high) (waiting w pool persistent is_normal)))
      (waiting_exchanged pool persistent is_low)
      ∙ sym (map-append (exchanged_callback at) (waiting w pool persistent is_high ++ waiting w pool persistent is_normal) (waiting w pool persistent is_low))

  pub next_exchanged : (pool : ℕ) (persistent : Bool) → next u pool persistent ≡ option_map (exchanged_callback at) (next w pool persistent)
  next_exchanged pool persistent = ap (λ q. slice_get q 0) (queue_exchanged pool persistent) ∙ slice_get-map (exchanged_callback at) (queue w pool persistent) 0

  pub living_exchanged : length (filter (λ (c : CallbackRow). is_live c.status) u.callbacks) ≡ length (filter (λ (c : CallbackRow). is_live c.status) w.callbacks)
  living_exchanged = count_same (λ c. is_live c.status) live_same

  pub lacks_exchanged : (count : ℕ) → lacks_slots_for u count ≡ lacks_slots_for w count
  lacks_exchanged count = ap (λ n. nat_lt w.limits.slots (n + length w.armings + count)) living_exchanged

  pub operations_exchanged : (object : ℕ) → has_operations u object ≡ has_operations w object
  operations_exchanged object = some_same (is_operation_of object) (λ c. ap (λ b. b && (c.object.0 == object)) (status_same at is_operating (λ _ _ _. refl) c.status))

  pub own_exchanged : (who : Who) (object : ℕ) → runs_own u (exchanged_who at who) object ≡ runs_own w who object
  own_exchanged who object =
      busy_test (λ (by : Busy). is_associated by.callback.status && (by.callback.object.0 == object))
      (λ by. ap (λ b. b && (by.callback.object.0 == object)) (status_same at is_associated (λ _ _ _. refl) by.callback.status)) who
