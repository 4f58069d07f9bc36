-- What calls read of a world is the same of a renamed one, up to names.
use Rattle.std.proofs.Common.{◌≡◌, ℕ, ◌+◌, ◌-◌, ◌==◌, ◌||◌, ◌&&◌, not, Bool, true, false, is_some, is_none, nat_lt, ◌++◌, length, map, slice_get, Option, Some, None, option_map, refl, sym, ap, ap₂, ◌∙◌, filter, eqb-true, ne_eqb, eq-eqb}
use Rattle.std.specs.List.{list_any, range_with_len}
use Rattle.std.specs.Option.{option_map_or}
use Rattle.std.proofs.lemmas.List.{map-append}
use Rattle.std.proofs.lemmas.Option.{slice_get-map}
use Rattle.tp_base.specs.Actors.{is_same_actor}
use Rattle.tp_base.specs.declared.calls.Priority.{Priority}
use Rattle.tp_base.specs.declared.ids.PoolId.{PoolId}
use Rattle.tp_base.specs.declared.ids.Who.{Who}
use Rattle.tp_base.specs.declared.ids.Who.TheVariants.{Client, Worker}
use Rattle.tp_base.specs.declared.plans.Busy.{Busy}
use Rattle.tp_base.specs.declared.rows.CallbackRow.{CallbackRow}
use Rattle.tp_base.specs.declared.rows.WorkerRow.{WorkerRow}
use Rattle.tp_model.specs.World.{World, BegunWait}
use Rattle.tp_model.specs.Counts.{attached, available, callback_of, has_number, has_persistent, idle, is_attached_to, is_below_minimum, is_high, is_idle_in, is_in_need, is_live, is_low, is_normal, is_open_to, is_pending_in, is_persistent_in, is_running_in, is_running_long_in, least_pool, maximum, minimum, next, numbered, pending, queue, running, takeable, waiting}
use Rattle.tp_model.specs.Conditions.{busy_in, busy_of, busy_row, client_of, has_operations, idle_in, idle_of, idle_row, is_actor, is_associated, is_attached, is_in_wait, is_operation_of, is_without_callback, lacks_slots_for, runs_callback, runs_own, worker_of}
use Rattle.tp_model.specs.Waits.{wait_of}
use Rattle.tp_model.proofs.Lists.{find_agree}
use Rattle.renamed_worlds.specs.Renamed.{renamed, renamed_busy, renamed_callback, renamed_wait, renamed_worker, IsNaming}
use Rattle.renamed_worlds.proofs.Mapped.{any_map, count_map, filter_map, find_map, found_map, none_mapped, numbered_map, some_mapped}

-- two names are one where the numbers are
pub same_name : (name : ℕ → ℕ) → IsNaming name → (m n : ℕ) → (name m == name n) ≡ (m == n)
same_name name naming m n =
    elim (m == n) as (λ b. (m == n) ≡ b → (name m == name n) ≡ b) [
      | true ↦ λ e. let same : m ≡ n = eqb-true m n e in ap (λ k. name m == name k) (sym same) ∙ eq-eqb (name m) (name m) refl
      | false ↦ λ e. ne_eqb (name m) (name n) (λ h. differ e (naming.apart m n h))
    ] refl
  where
    differ : (m == n) ≡ false → m ≡ n → ⊥
    differ e h = let yes : (m == n) ≡ true = ap (λ k. m == k) (sym h) ∙ eq-eqb m m refl in cc

module _ (name : ℕ → ℕ) (naming : IsNaming name) (w : World) where
  abbrev u : World
  u = renamed name w

  -- ---- rows

  pub worker_renamed : (who : Who) → worker_of u who ≡ option_map (renamed_worker name) (worker_of w who)
  worker_renamed (Client number) = refl
  worker_renamed (Worker number) = numbered_map (renamed_worker name) w.workers number

  pub callback_renamed : (n : ℕ) → callback_of u (name n) ≡ option_map (renamed_callback name) (callback_of w n)
  callback_renamed n = find_map (renamed_callback name) (has_number (name n)) (has_number n) (λ c. same_name name naming c.number n) w.callbacks

  pub wait_renamed : (who : Who) → wait_of u who ≡ option_map (renamed_wait name) (wait_of w who)
  wait_renamed who = find_map (renamed_wait name) (λ (b : BegunWait). is_same_actor b.actor who) (λ (b : BegunWait). is_same_actor b.actor who) (λ _. refl) w.waits

  -- ---- actors

  worker_test : (test : WorkerRow → Bool) → ((r : WorkerRow) → test (renamed_worker name r) ≡ test r) → (who : Who) → option_map_or test (worker_of u who) false ≡ option_map_or test (worker_of w who) false
  worker_test test agree who = ap (λ o. option_map_or test o false) (worker_renamed who) ∙ found_map (renamed_worker name) test test agree (worker_of w who) false

  pub actor_renamed : (who : Who) → is_actor u who ≡ is_actor w who
  actor_renamed who = ap (λ b. is_some (client_of w who) || b) (ap is_some (worker_renamed who) ∙ some_mapped (renamed_worker name) (worker_of w who))

  pub without_renamed : (who : Who) → is_without_callback u who ≡ is_without_callback w who
  without_renamed who = worker_test (λ r. is_none r.callback) (λ r. none_mapped name r.callback) who

  pub runs_renamed : (who : Who) → runs_callback u who ≡ runs_callback w who
  runs_renamed who = worker_test (λ r. is_some r.callback) (λ r. some_mapped name r.callback) who

  pub attached_renamed : (who : Who) → is_attached u who ≡ is_attached w who
  attached_renamed who = worker_test (λ r. is_some r.pool) (λ _. refl) who

  pub in_wait_renamed : (who : Who) → is_in_wait u who ≡ is_in_wait w who
  in_wait_renamed who = any_map (renamed_wait name) (λ (b : BegunWait). is_same_actor b.actor who) (λ (b : BegunWait). is_same_actor b.actor who) (λ _. refl) w.waits

  pub idle_renamed : (who : Who) → idle_of u who ≡ idle_of w who
  idle_renamed (Client number) = refl
  idle_renamed (Worker number) = ap (idle_in number) (numbered_map (renamed_worker name) w.workers number) ∙ of_row (numbered w.workers number)
    where
      of_parts : (pool : Option PoolId) (callback : Option ℕ) (persistent : Bool) → idle_row number pool (option_map name callback) persistent ≡ idle_row number pool callback persistent
      of_parts None callback persistent = refl
      of_parts (Some pool) None persistent = refl
      of_parts (Some pool) (Some callback) persistent = refl

      of_row : (o : Option WorkerRow) → idle_in number (option_map (renamed_worker name) o) ≡ idle_in number o
      of_row None = refl
      of_row (Some r) = of_parts r.pool r.callback r.persistent

  pub busy_renamed : (who : Who) → busy_of u who ≡ option_map (renamed_busy name) (busy_of w who)
  busy_renamed (Client number) = refl
  busy_renamed (Worker number) = ap (busy_in u number) (numbered_map (renamed_worker name) w.workers number) ∙ of_row (numbered w.workers number)
    where
      of_callback : (pool : PoolId) (persistent : Bool) (o : Option CallbackRow)
          → option_map (λ (c : CallbackRow). record { worker = number; pool = pool; callback = c; persistent = persistent }) (option_map (renamed_callback name) o)
          ≡ option_map (renamed_busy name) (option_map (λ (c : CallbackRow). record { worker = number; pool = pool; callback = c; persistent = persistent }) o)
      of_callback pool persistent None = refl
      of_callback pool persistent (Some c) = refl

      of_parts : (pool : Option PoolId) (callback : Option ℕ) (persistent : Bool) → busy_row u number pool (option_map name callback) persistent ≡ option_map (renamed_busy name) (busy_row w number pool callback persistent)
      of_parts None callback persistent = refl
      of_parts (Some pool) None persistent = refl
      of_parts (Some pool) (Some callback) persistent =
          ap (option_map (λ (c : CallbackRow). record { worker = number; pool = pool; callback = c; persistent = persistent })) (callback_renamed callback) ∙ of_callback pool persistent (callback_of w callback)

      of_row : (o : Option WorkerRow) → busy_in u number (option_map (renamed_worker name) o) ≡ option_map (renamed_busy name) (busy_in w number o)
      of_row None = refl
      of_row (Some r) = of_parts r.pool r.callback r.persistent

  -- a test of the callback that an actor runs
  pub busy_test : (test : Busy → Bool) → ((by : Busy) → test (renamed_busy name by) ≡ test by) → (who : Who) → option_map_or test (busy_of u who) false ≡ option_map_or test (busy_of w who) false
  busy_test test agree who = ap (λ o. option_map_or test o false) (busy_renamed who) ∙ found_map (renamed_busy name) test test agree (busy_of w who) false

  -- ---- counts

  pub count_renamed : (test : CallbackRow → Bool) → ((c : CallbackRow) → test (renamed_callback name c) ≡ test c) → length (filter test u.callbacks) ≡ length (filter test w.callbacks)
  count_renamed test agree = count_map (renamed_callback name) test test agree w.callbacks

  pub some_renamed : (test : CallbackRow → Bool) → ((c : CallbackRow) → test (renamed_callback name c) ≡ test c) → list_any test u.callbacks ≡ list_any test w.callbacks
  some_renamed test agree = any_map (renamed_callback name) test test agree w.callbacks

  staff_count : (test : WorkerRow → Bool) → ((r : WorkerRow) → test (renamed_worker name r) ≡ test r) → length (filter test u.workers) ≡ length (filter test w.workers)
  staff_count test agree = count_map (renamed_worker name) test test agree w.workers

  pub persistent_renamed : (pool : ℕ) → has_persistent u pool ≡ has_persistent w pool
  persistent_renamed pool = any_map (renamed_worker name) (is_persistent_in pool) (is_persistent_in pool) (λ _. refl) w.workers

  pub open_renamed : (pool : ℕ) (persistent : Bool) (c : CallbackRow) → is_open_to u pool persistent (renamed_callback name c) ≡ is_open_to w pool persistent c
  open_renamed pool persistent c = ap (λ b. is_pending_in pool c && (not c.persistent || persistent || not b)) (persistent_renamed pool)

  pub pending_renamed : (pool : ℕ) → pending u pool ≡ pending w pool
  pending_renamed pool = count_renamed (is_pending_in pool) (λ _. refl)

  pub takeable_renamed : (pool : ℕ) (persistent : Bool) → takeable u pool persistent ≡ takeable w pool persistent
  takeable_renamed pool persistent = count_map (renamed_callback name) (is_open_to u pool persistent) (is_open_to w pool persistent) (open_renamed pool persistent) w.callbacks

  pub running_renamed : (pool : ℕ) → running u pool ≡ running w pool
  running_renamed pool = count_renamed (is_running_in pool) (λ _. refl)

  pub staff_renamed : (pool : ℕ) → attached u pool ≡ attached w pool
  staff_renamed pool = staff_count (is_attached_to pool) (λ _. refl)

  pub idle_staff_renamed : (pool : ℕ) → idle u pool ≡ idle w pool
  idle_staff_renamed pool = staff_count (is_idle_in pool) (λ r. ap (λ b. is_attached_to pool r && b) (none_mapped name r.callback))

  pub available_renamed : (pool : ℕ) → available u pool ≡ available w pool
  available_renamed pool = ap₂ (λ m n. m - n) (staff_renamed pool) (count_renamed (is_running_long_in pool) (λ _. refl))

  pub in_need_renamed : (pool : ℕ) → is_in_need u pool ≡ is_in_need w pool
  in_need_renamed pool =
      ap₂ (λ (b : Bool) (a : ℕ). b && nat_lt a (maximum w pool))
      (ap₂ (λ (t i : ℕ). nat_lt 0 t && (i == 0)) (takeable_renamed pool false) (idle_staff_renamed pool)) (staff_renamed pool)

  pub below_minimum_renamed : (pool : ℕ) → is_below_minimum u pool ≡ is_below_minimum w pool
  below_minimum_renamed pool = ap₂ (λ (v a : ℕ). nat_lt v (minimum w pool) && nat_lt a (maximum w pool)) (available_renamed pool) (staff_renamed pool)

  pub least_renamed : (after before : ℕ → Bool) → ((pool : ℕ) → after pool ≡ before pool) → least_pool u after ≡ least_pool w before
  least_renamed after before agree = find_agree after before agree (range_with_len 0 (length w.pools))

  waiting_renamed : (pool : ℕ) (persistent : Bool) (test : Priority → Bool) → waiting u pool persistent test ≡ map (renamed_callback name) (waiting w pool persistent test)
  waiting_renamed pool persistent test =
      filter_map (renamed_callback name) (λ c. is_open_to u pool persistent c && test c.priority) (λ c. is_open_to w pool persistent c && test c.priority) (λ c. ap (λ b. b && test c.priority) (open_renamed pool persistent c)) w.callbacks

  queue_renamed : (pool : ℕ) (persistent : Bool) → queue u pool persistent ≡ map (renamed_callback name) (queue w pool persistent)
  queue_renamed pool persistent =
      ap₂ (λ hn l. hn ++ l)
      (ap₂ (λ h n. h ++ n) (waiting_renamed pool persistent is_high) (waiting_renamed pool persistent is_normal)
      ∙ sym (map-append (renamed_callback name) (waiting w pool persistent is_high) (waiting w pool persistent is_normal)))
      (waiting_renamed pool persistent is_low)
      ∙ sym (map-append (renamed_callback name) (waiting w pool persistent is_high ++ waiting w pool persistent is_normal) (waiting w pool persistent is_low))

  pub next_renamed : (pool : ℕ) (persistent : Bool) → next u pool persistent ≡ option_map (renamed_callback name) (next w pool persistent)
  next_renamed pool persistent = ap (λ q. slice_get q 0) (queue_renamed pool persistent) ∙ slice_get-map (renamed_callback name) (queue w pool persistent) 0

  pub living_renamed : length (filter (λ (c : CallbackRow). is_live c.status) u.callbacks) ≡ length (filter (λ (c : CallbackRow). is_live c.status) w.callbacks)
  living_renamed = count_renamed (λ c. is_live c.status) (λ _. refl)

  pub lacks_renamed : (count : ℕ) → lacks_slots_for u count ≡ lacks_slots_for w count
  lacks_renamed count = ap (λ n. nat_lt w.limits.slots (n + length w.armings + count)) living_renamed

  pub operations_renamed : (object : ℕ) → has_operations u object ≡ has_operations w object
  operations_renamed object = some_renamed (is_operation_of object) (λ _. refl)

  pub own_renamed : (who : Who) (object : ℕ) → runs_own u who object ≡ runs_own w who object
  own_renamed who object = busy_test (λ (by : Busy). is_associated by.callback.status && (by.callback.object.0 == object)) (λ _. refl) who
