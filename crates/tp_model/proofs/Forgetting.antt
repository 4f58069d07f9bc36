-- What plans read of a world is the same without the callbacks that are over, and each change leaves of it what it leaves of the whole one.
use Rattle.std.proofs.Common.{◌≡◌, ℕ, ◌+◌, ◌-◌, ◌<◌, Bool, true, false, cond, not, ◌&&◌, ◌||◌, ◌==◌, List, [], ◌∷◌, ◌++◌, length, map, slice_get, Option, Some, None, option_map, refl, sym, ap, ap₂, ◌∙◌, filter, find, eqb-true, arith}
use Rattle.std.specs.Option.{option_map_or}
use Rattle.std.proofs.lemmas.List.Elements.{filter-append}
use Rattle.tp_base.specs.declared.ids.Who.{Who}
use Rattle.tp_base.specs.declared.ids.Who.TheVariants.{Client, Worker}
use Rattle.tp_base.specs.declared.ids.PoolId.{PoolId}
use Rattle.tp_base.specs.declared.calls.Priority.{Priority}
use Rattle.tp_base.specs.declared.plans.Busy.{Busy}
use Rattle.tp_base.specs.declared.plans.Mark.{Mark}
use Rattle.tp_base.specs.declared.plans.Mark.TheVariants.{Long, Loose, Asks}
use Rattle.tp_base.specs.declared.plans.PoolChange.{PoolChange}
use Rattle.tp_base.specs.declared.plans.Change.{Change}
use Rattle.tp_base.specs.declared.plans.Change.TheVariants as change
use Rattle.tp_base.specs.declared.plans.Plan.{Plan}
use Rattle.tp_base.specs.declared.answers.Refusal.{Refusal}
use Rattle.tp_base.specs.declared.rows.Status.{Status}
use Rattle.tp_base.specs.declared.rows.Status.TheVariants.{Expected, Issued, Pending, Running, Returned, Cancelled}
use Rattle.tp_base.specs.declared.rows.WaitTarget.{WaitTarget}
use Rattle.tp_base.specs.declared.rows.WaitTarget.TheVariants.{Object, Group, Kernel}
use Rattle.tp_base.specs.declared.rows.PoolRow.{PoolRow}
use Rattle.tp_base.specs.declared.rows.ObjectRow.{ObjectRow}
use Rattle.tp_base.specs.declared.rows.CallbackRow.{CallbackRow}
use Rattle.tp_base.specs.declared.rows.WorkerRow.{WorkerRow}
use Rattle.tp_base.specs.declared.ids.ObjectId.{ObjectId}
use Rattle.tp_model.specs.Sources.{Firing, firing, sources_of, rows_of}
use Rattle.tp_model.specs.World.{World, BegunWait}
use Rattle.tp_model.specs.Counts.{numbered, has_number, is_live, is_running, is_open_to, is_pending_in, has_persistent, is_running_in, is_running_long_in, is_high, is_normal, is_low, waiting, queue, next, pending, takeable, running, running_long, slots, owed, is_in_need, is_below_minimum, is_operating}
use Rattle.tp_model.specs.Conditions.{busy_row, busy_in, busy_of}
use Rattle.tp_model.specs.Refusing.{first_refusal, unless_refused}
use Rattle.tp_model.specs.Changes.{with_new_pool, with_object, with_worker, with_client, change_pool, pool_after, with_pool, replaced, taken, marked, operated, returned, finished, changed, release_object, without_wait, end_wait, kernels_taken, kernels_left}
use Rattle.tp_base.specs.declared.plans.WaitEnd.{WaitEnd}
use Rattle.tp_base.specs.declared.plans.WaitEnd.TheVariants.{Free, Exhausted, Stalled}
use Rattle.tp_model.specs.Actions.{slots_of, returning}
use Rattle.tp_model.specs.Waits.{target_of, is_of, is_held_for, is_outstanding_for, count_outstanding, is_cancelled_by, cancelled, cancel_where, is_object_target, is_covered_by, covered_of, wait_of}
use Rattle.tp_model.specs.Support.Sound.{IsSound, IsWorkerSound, AreWorkersSound, RunsOn, IsRising, IsCallbackSound, is_left_of, is_standing}
use Rattle.tp_model.specs.Support.Allowed.{IsAllowed}
use Rattle.tp_model.specs.Support.Remembered.{lives, forget}
use Rattle.tp_model.proofs.Lists.{filter_filter, find_kept, all_filter}
use Rattle.tp_model.proofs.Callbacks.{over_not_left, over_not_pending, over_not_running, pending_lives, before_lives, rising_filter, filter_replaced_out, filter_replaced_filter, found_all, find_above}
use Rattle.tp_model.proofs.Cancelling.{IsPendingTest, cancelled_pending, cancelled_if}
use Rattle.tp_model.proofs.SoundWorkers.{worker_at}
use Rattle.tp_model.proofs.Waits.{AreLeftOver, waits_still}
use Rattle.tp_model.proofs.Refusals.{numbered_some, false_true, and_false}
use Rattle.tp_model.specs.Groups.{without_members, notices_of}

-- ---- counts

pub live_again : (cs : List CallbackRow) → filter lives (filter lives cs) ≡ filter lives cs
live_again cs = filter_filter lives lives (λ _ e. e) cs

over_not_pending_in : (pool : ℕ) (c : CallbackRow) → lives c ≡ false → is_pending_in pool c ≡ false
over_not_pending_in pool c e = ap (λ b. b && (c.pool.0 == pool)) (over_not_pending c.status e)

over_not_running_in : (pool : ℕ) (c : CallbackRow) → lives c ≡ false → is_running_in pool c ≡ false
over_not_running_in pool c e = ap (λ b. b && (c.pool.0 == pool)) (over_not_running c.status e)

over_not_open : (w : World) (pool : ℕ) (persistent : Bool) (c : CallbackRow) → lives c ≡ false → is_open_to w pool persistent c ≡ false
over_not_open w pool persistent c e = ap (λ b. b && (not c.persistent || persistent || not (has_persistent w pool))) (over_not_pending_in pool c e)

pub pending_forget : (w : World) (pool : ℕ) → pending (forget w) pool ≡ pending w pool
pending_forget w pool = ap length (filter_filter (is_pending_in pool) lives (over_not_pending_in pool) w.callbacks)

pub takeable_forget : (w : World) (pool : ℕ) (persistent : Bool) → takeable (forget w) pool persistent ≡ takeable w pool persistent
takeable_forget w pool persistent = ap length (filter_filter (is_open_to w pool persistent) lives (over_not_open w pool persistent) w.callbacks)

pub running_forget : (w : World) (pool : ℕ) → running (forget w) pool ≡ running w pool
running_forget w pool = ap length (filter_filter (is_running_in pool) lives (over_not_running_in pool) w.callbacks)

pub running_long_forget : (w : World) (pool : ℕ) → running_long (forget w) pool ≡ running_long w pool
running_long_forget w pool = ap length (filter_filter (is_running_long_in pool) lives (λ c e. ap (λ b. b && c.long) (over_not_running_in pool c e)) w.callbacks)

waiting_forget : (w : World) (pool : ℕ) (persistent : Bool) (test : Priority → Bool) → waiting (forget w) pool persistent test ≡ waiting w pool persistent test
waiting_forget w pool persistent test =
    filter_filter (λ c. is_open_to w pool persistent c && test c.priority) lives (λ c e. ap (λ b. b && test c.priority) (over_not_open w pool persistent c e)) w.callbacks

pub queue_forget : (w : World) (pool : ℕ) (persistent : Bool) → queue (forget w) pool persistent ≡ queue w pool persistent
queue_forget w pool persistent =
    ap₂ (λ hn l. hn ++ l) (ap₂ (λ h n. h ++ n) (waiting_forget w pool persistent is_high) (waiting_forget w pool persistent is_normal)) (waiting_forget w pool persistent is_low)

pub next_forget : (w : World) (pool : ℕ) (persistent : Bool) → next (forget w) pool persistent ≡ next w pool persistent
next_forget w pool persistent = ap (λ q. slice_get q 0) (queue_forget w pool persistent)

pub owed_forget : (w : World) → owed (forget w) ≡ owed w
owed_forget w =
    let same : filter (λ (c : CallbackRow). is_running c.status) (filter lives w.callbacks) ≡ filter (λ (c : CallbackRow). is_running c.status) w.callbacks
    = filter_filter (λ (c : CallbackRow). is_running c.status) lives (λ c e. over_not_running c.status e) w.callbacks in
    rw same

pub in_need_forget : (w : World) (pool : ℕ) → is_in_need (forget w) pool ≡ is_in_need w pool
in_need_forget w pool = rw (filter_filter (is_open_to w pool false) lives (over_not_open w pool false) w.callbacks)

pub below_minimum_forget : (w : World) (pool : ℕ) → is_below_minimum (forget w) pool ≡ is_below_minimum w pool
below_minimum_forget w pool = rw (filter_filter (is_running_long_in pool) lives (λ c e. ap (λ b. b && c.long) (over_not_running_in pool c e)) w.callbacks)

-- ---- what a forgotten world keeps

worker_forget : (cs : List CallbackRow) (worker : ℕ) (pool : Option PoolId) (callback : Option ℕ) → IsWorkerSound cs worker pool callback → IsWorkerSound (filter lives cs) worker pool callback
worker_forget cs worker pool None s = tt
worker_forget cs worker None (Some number) s = s
worker_forget cs worker (Some pool) (Some number) s =
    record { callback = s.callback; associated = s.associated; slots = s.slots; found = find_kept (has_number number) lives s.callback (ap is_live s.runs) cs s.found; runs = s.runs; at_home = s.at_home }

workers_forget : (cs : List CallbackRow) (worker : ℕ) (ws : List WorkerRow) → AreWorkersSound cs worker ws → AreWorkersSound (filter lives cs) worker ws
workers_forget cs worker [] s = tt
workers_forget cs worker (r ∷ rs) s = (worker_forget cs worker r.pool r.callback s.0, workers_forget cs (worker + 1) rs s.1)

-- what is found among those that live passes a test that none of the others passes
pub over_forget : (p : CallbackRow → Bool) → ((c : CallbackRow) → lives c ≡ false → p c ≡ false) → (low next_number number : ℕ) (cs : List CallbackRow) → IsRising low next_number cs
    → option_map_or p (find (has_number number) (filter lives cs)) false ≡ option_map_or p (find (has_number number) cs) false
over_forget p over low next_number number [] r = refl
over_forget p over low next_number number (c ∷ cs) r =
    elim (lives c) as (λ t. lives c ≡ t → option_map_or p (find (has_number number) (cond t (c ∷ filter lives cs) (filter lives cs))) false ≡ option_map_or p (cond (has_number number c) (Some c) (find (has_number number) cs)) false) [
      | true ↦ λ _. elim (has_number number c) as (λ b. option_map_or p (cond b (Some c) (find (has_number number) (filter lives cs))) false ≡ option_map_or p (cond b (Some c) (find (has_number number) cs)) false) [
        | true ↦ refl
        | false ↦ over_forget p over (c.number + 1) next_number number cs r.1
      ]
      | false ↦ λ dead. over_forget p over (c.number + 1) next_number number cs r.1 ∙ elim (has_number number c) as (λ b. has_number number c ≡ b → option_map_or p (find (has_number number) cs) false ≡ option_map_or p (cond b (Some c) (find (has_number number) cs)) false) [
        | true ↦ λ e.
            let same : c.number ≡ number = eqb-true c.number number e in
            ap (λ (o : Option CallbackRow). option_map_or p o false) (find_above number (c.number + 1) next_number cs (omega (arith, same)) r.1) ∙ sym (over c dead)
        | false ↦ λ _. refl
      ] refl
    ] refl

-- which callbacks may still be run is the same
left_forget : (next_number : ℕ) (cs : List CallbackRow) → IsRising 1 next_number cs → AreLeftOver cs (filter lives cs)
left_forget next_number cs rising target n left = sym (over_forget (is_left_of target) over 1 next_number n cs rising) ∙ left
  where
    over : (c : CallbackRow) → lives c ≡ false → is_left_of target c ≡ false
    over c dead = ap (λ b. is_of target c && b) (over_not_left c.status dead) ∙ and_false (is_of target c)

pub forget_sound : (next_number : ℕ) (w : World) → IsSound next_number w → IsSound next_number (forget w)
forget_sound next_number w s =
    record {
      numbers = rising_filter lives 1 next_number w.callbacks s.numbers;
      workers = workers_forget w.callbacks 1 w.workers s.workers;
      object_pools = s.object_pools;
      apart = s.apart;
      waits = waits_still next_number w.callbacks (filter lives w.callbacks) (left_forget next_number w.callbacks s.numbers) w.waits s.waits;
      timers = s.timers;
      armings = s.armings;
      timeouts = s.timeouts;
      clock = s.clock;
      callback_pools = all_filter (λ (c : CallbackRow). c.pool.0 < length w.pools) lives w.callbacks s.callback_pools;
      callback_objects = all_filter (IsCallbackSound w.objects) lives w.callbacks s.callback_objects;
      operations = all_filter (λ (c : CallbackRow). is_operating c.status ≡ true → is_standing w.objects c.object.0 ≡ true) lives w.callbacks s.operations;
      notices = s.notices;
    }

-- ---- running callbacks

busy_row_forget : (next_number : ℕ) (w : World) (number : ℕ) (pool : Option PoolId) (callback : Option ℕ) (persistent : Bool) → IsSound next_number w → numbered w.workers number ≡ Some (record { pool = pool; callback = callback; persistent = persistent })
    → busy_row (forget w) number pool callback persistent ≡ busy_row w number pool callback persistent
busy_row_forget next_number w number (Some pool) (Some callback) persistent s stands =
    let at = numbered_some w.workers number (record { pool = Some pool; callback = Some callback; persistent = persistent }) stands in
    let on : RunsOn w.callbacks (1 + (number - 1)) pool callback = worker_at w.callbacks 1 (number - 1) w.workers (record { pool = Some pool; callback = Some callback; persistent = persistent }) s.workers at.0 in
    ap (option_map (λ (c : CallbackRow). record { worker = number; pool = pool; callback = c; persistent = persistent })) (find_kept (has_number callback) lives on.callback (ap is_live on.runs) w.callbacks on.found ∙ sym on.found)
busy_row_forget next_number w number (Some pool) None persistent s stands = refl
busy_row_forget next_number w number None callback persistent s stands = refl

busy_in_forget : (next_number : ℕ) (w : World) (number : ℕ) (row : Option WorkerRow) → IsSound next_number w → numbered w.workers number ≡ row → busy_in (forget w) number row ≡ busy_in w number row
busy_in_forget next_number w number None s stands = refl
busy_in_forget next_number w number (Some row) s stands = busy_row_forget next_number w number row.pool row.callback row.persistent s stands

pub busy_forget : (next_number : ℕ) (w : World) (who : Who) → IsSound next_number w → busy_of (forget w) who ≡ busy_of w who
busy_forget next_number w (Client number) s = refl
busy_forget next_number w (Worker number) s = busy_in_forget next_number w number (numbered w.workers number) s refl

-- the plan of a call that only a running callback makes
pub in_callback_forget : (next_number : ℕ) (w : World) (who : Who) (rs : List (Bool × Refusal)) (by : Option Busy → Plan) → IsSound next_number w → unless_refused (first_refusal rs) (by (busy_of (forget w) who)) ≡ unless_refused (first_refusal rs) (by (busy_of w who))
in_callback_forget next_number w who rs by s = ap (λ b. unless_refused (first_refusal rs) (by b)) (busy_forget next_number w who s)

-- ---- waits

pub over_not_held : (target : WaitTarget) (s : Status) → is_live s ≡ false → is_held_for target s ≡ false
over_not_held target Returned e = refl
over_not_held target Cancelled e = refl
over_not_held target Expected e = cc
over_not_held target Issued e = cc
over_not_held target Pending e = cc
over_not_held target (Running worker associated slots) e = absurd (false_true (sym e))

pub over_not_outstanding : (target : WaitTarget) (c : CallbackRow) → lives c ≡ false → is_outstanding_for target c ≡ false
over_not_outstanding target c e = ap (λ b. is_of target c && b) (over_not_held target c.status e) ∙ and_false (is_of target c)

-- what lives after a cancellation
pub cancel_forget : (q test : CallbackRow → Bool) → IsPendingTest test → ((c : CallbackRow) → lives c ≡ false → q c ≡ false) → (cs : List CallbackRow) → filter q (cancel_where test (filter lives cs)) ≡ filter q (cancel_where test cs)
cancel_forget q test only over [] = refl
cancel_forget q test only over (c ∷ cs) =
    elim (lives c) as (λ t. lives c ≡ t → filter q (cancel_where test (cond t (c ∷ filter lives cs) (filter lives cs))) ≡ filter q (cancelled_if test c ∷ cancel_where test cs)) [
      | true ↦ λ _. ap (λ l. cond (q (cancelled_if test c)) (cancelled_if test c ∷ l) l) (cancel_forget q test only over cs)
      | false ↦ λ dead. cancel_forget q test only over cs ∙ sym (ap (λ b. cond (q (cond b (cancelled c) c)) (cond b (cancelled c) c ∷ filter q (cancel_where test cs)) (filter q (cancel_where test cs))) (dead_passed dead)
          ∙ ap (λ b. cond b (c ∷ filter q (cancel_where test cs)) (filter q (cancel_where test cs))) (over c dead))
    ] refl
  where
    dead_passed : lives c ≡ false → test c ≡ false
    dead_passed dead = known (test c) refl
      where
        known : (b : Bool) → test c ≡ b → test c ≡ false
        known false e = e
        known true e = absurd (false_true (sym (over_not_pending c.status dead) ∙ only c e))

pub over_not_covered : (target : WaitTarget) (cancel : Bool) (c : CallbackRow) → lives c ≡ false → is_covered_by target cancel c ≡ false
over_not_covered target cancel c e = ap (λ b. b && (is_running c.status || not (cancel && is_object_target target))) (over_not_outstanding target c e)

pub covered_forget : (w : World) (target : WaitTarget) (cancel : Bool) → covered_of target cancel (cancel_where (is_cancelled_by target cancel) (filter lives w.callbacks)) ≡ covered_of target cancel (cancel_where (is_cancelled_by target cancel) w.callbacks)
covered_forget w target cancel =
    ap (map (λ (c : CallbackRow). c.number)) (cancel_forget (is_covered_by target cancel) (is_cancelled_by target cancel) (cancelled_pending target cancel) (over_not_covered target cancel) w.callbacks)

pub over_not_cancelled : (target : WaitTarget) (cancel : Bool) (c : CallbackRow) → lives c ≡ false → is_cancelled_by target cancel c ≡ false
over_not_cancelled target cancel c e = ap (λ b. cancel && (b && is_of target c)) (over_not_pending c.status e) ∙ and_false cancel

pub outstanding_forget : (w : World) (target : WaitTarget) → count_outstanding target (forget w) ≡ count_outstanding target w
outstanding_forget w target = ap length (filter_filter (is_outstanding_for target) lives (over_not_outstanding target) w.callbacks)

-- ---- changes

-- the callbacks of a world, and those of it that live
as_live : (w : World) (cs ds : List CallbackRow) → filter lives cs ≡ filter lives ds → forget (record w { callbacks = cs }) ≡ forget (record w { callbacks = ds })
as_live w cs ds e = ap (λ ls. record w { callbacks = ls }) e

pub live_forgotten : (w : World) → forget (forget w) ≡ forget w
live_forgotten w = as_live w (filter lives w.callbacks) w.callbacks (live_again w.callbacks)

change_pool_forget : (w : World) (pool : ℕ) (how : PoolChange) (row : Option PoolRow) → forget (change_pool (forget w) pool how row) ≡ forget (change_pool w pool how row)
change_pool_forget w pool how None = live_forgotten w
change_pool_forget w pool how (Some row) = live_forgotten (with_pool w pool (pool_after how row))

release_forget : (w : World) (object : ObjectId) (row : Option ObjectRow) → forget (release_object (forget w) object row) ≡ forget (release_object w object row)
release_forget w object None = live_forgotten w
release_forget w object (Some row) = live_forgotten (release_object w object (Some row))

-- a live row in the place of another
replaced_forget : (next_number : ℕ) (w : World) (r c : CallbackRow) → IsSound next_number w → r.number ≡ c.number → find (has_number c.number) w.callbacks ≡ Some c → lives c ≡ true → filter lives (replaced r (filter lives w.callbacks)) ≡ filter lives (replaced r w.callbacks)
replaced_forget next_number w r c s same found living =
    filter_replaced_filter lives r w.callbacks (found_all (λ x. lives x ≡ true) r.number c 1 next_number w.callbacks s.numbers (ap (λ n. find (has_number n) w.callbacks) same ∙ found) living)

marked_forget : (next_number : ℕ) (w : World) (mark : Mark) (c : CallbackRow) → IsSound next_number w → find (has_number c.number) w.callbacks ≡ Some c → lives c ≡ true → filter lives (replaced (marked mark c) (filter lives w.callbacks)) ≡ filter lives (replaced (marked mark c) w.callbacks)
marked_forget next_number w Long c s found living = replaced_forget next_number w (marked Long c) c s refl found living
marked_forget next_number w Loose c s found living = replaced_forget next_number w (marked Loose c) c s refl found living
marked_forget next_number w (Asks kind action) c s found living = replaced_forget next_number w (marked (Asks kind action) c) c s refl found living

-- callbacks appended
appended_forget : (w : World) (cs : List CallbackRow) → forget (record w { callbacks = filter lives w.callbacks ++ cs }) ≡ forget (record w { callbacks = w.callbacks ++ cs })
appended_forget w cs =
    as_live w (filter lives w.callbacks ++ cs) (w.callbacks ++ cs)
    (filter-append lives (filter lives w.callbacks) cs ∙ ap (λ t. t ++ filter lives cs) (live_again w.callbacks) ∙ sym (filter-append lives w.callbacks cs))

wait_forget : (w : World) (who : Who) (how : WaitEnd) → forget (end_wait (forget w) who how) ≡ forget (end_wait w who how)
wait_forget w who Exhausted = live_forgotten (end_wait w who Exhausted)
wait_forget w who Stalled = live_forgotten (end_wait w who Stalled)
wait_forget w who Free = of_wait (wait_of w who)
  where
    of_target : (t : WaitTarget) → forget (record (without_wait (forget w) who) { kernels = kernels_taken (forget w) who t }) ≡ forget (record (without_wait w who) { kernels = kernels_taken w who t })
    of_target (Object object) = live_forgotten (without_wait w who)
    of_target (Group group) = live_forgotten (without_wait w who)
    of_target (Kernel kernel) = live_forgotten (record (without_wait w who) { kernels = kernels_taken w who (Kernel kernel) })

    of_wait : (b : Option BegunWait) → forget (record (without_wait (forget w) who) { kernels = kernels_left (forget w) who Free b }) ≡ forget (record (without_wait w who) { kernels = kernels_left w who Free b })
    of_wait None = live_forgotten (without_wait w who)
    of_wait (Some b) = of_target b.target

pub changed_forget : (next_number : ℕ) (w : World) (ch : Change) → IsSound next_number w → IsAllowed next_number w ch → forget (changed (forget w) ch) ≡ forget (changed w ch)
changed_forget next_number w change.Keep s a = live_forgotten w
changed_forget next_number w change.CreatePool s a = live_forgotten (with_new_pool w)
changed_forget next_number w (change.ChangePool pool how) s a = change_pool_forget w pool.0 how (slice_get w.pools pool.0)
changed_forget next_number w (change.CreateObject row) s a = live_forgotten (with_object w row)
changed_forget next_number w (change.ReleaseObject object) s a = release_forget w object (numbered w.objects object.0)
changed_forget next_number w (change.QueueCallback c) s a = appended_forget w (c ∷ [])
changed_forget next_number w (change.ExpectCallback c) s a = appended_forget w (c ∷ [])
changed_forget next_number w (change.Operate c how) s a =
    let r : CallbackRow = operated how c in
    as_live w (replaced r (filter lives w.callbacks)) (replaced r w.callbacks) (replaced_forget next_number w r c s refl a.found (before_lives how c.status a.status))
changed_forget next_number w (change.Fire trigger first count) s a =
    let f : Firing = firing trigger (sources_of w) in
    appended_forget (record w { settings = f.sources.settings; armings = f.sources.armings; kernels = f.sources.kernels; now = f.sources.now }) (rows_of w.objects first f.jobs)
changed_forget next_number w (change.CreateKernel state) s a = live_forgotten (changed w (change.CreateKernel state))
changed_forget next_number w (change.ChangeKernel kernel how) s a = live_forgotten (changed w (change.ChangeKernel kernel how))
changed_forget next_number w (change.Attach worker pool) s a = live_forgotten (changed w (change.Attach worker pool))
changed_forget next_number w (change.Detach by) s a = live_forgotten (changed w (change.Detach by))
changed_forget next_number w (change.Take by c) s a =
    let r : CallbackRow = taken c by.worker in
    as_live (with_worker w by.worker (record { pool = Some by.pool; callback = Some c.number; persistent = by.persistent || c.persistent })) (replaced r (filter lives w.callbacks)) (replaced r w.callbacks)
    (replaced_forget next_number w r c s refl a.found (pending_lives c.status a.pending))
changed_forget next_number w (change.Mark by mark) s a =
    let r : CallbackRow = marked mark by.callback in
    as_live w (replaced r (filter lives w.callbacks)) (replaced r w.callbacks) (marked_forget next_number w mark by.callback s a.runs.found (ap is_live a.runs.running))
changed_forget next_number w (change.Return by words first count) s a =
    let r : CallbackRow = returned by.callback in
    let f : Firing = returning w words (slots_of by.callback.status) in
    let rows : List CallbackRow = rows_of w.objects first f.jobs in
    let same : filter lives (replaced r (filter lives w.callbacks)) ≡ filter lives (replaced r w.callbacks)
    = filter_replaced_out lives r (filter lives w.callbacks) refl ∙ ap (filter (λ (x : CallbackRow). not (has_number by.callback.number x))) (live_again w.callbacks) ∙ sym (filter_replaced_out lives r w.callbacks refl) in
    as_live (record (with_worker w by.worker (record { pool = Some by.pool; callback = None; persistent = by.persistent })) { settings = f.sources.settings; armings = f.sources.armings; kernels = f.sources.kernels; now = f.sources.now })
    (replaced r (filter lives w.callbacks) ++ rows) (replaced r w.callbacks ++ rows)
    (filter-append lives (replaced r (filter lives w.callbacks)) rows ∙ ap (λ t. t ++ filter lives rows) same ∙ sym (filter-append lives (replaced r w.callbacks) rows))
changed_forget next_number w (change.BeginWait who awaited cancel) s a =
    let target : WaitTarget = target_of awaited in
    ap₂ (λ cs covered. record w { callbacks = cs; waits = w.waits ++ (record { actor = who; target = target; covered = covered; notices = []; cleanup = 0 }) ∷ [] })
    (cancel_forget lives (is_cancelled_by target cancel) (cancelled_pending target cancel) (λ c e. e) w.callbacks) (covered_forget w target cancel)
changed_forget next_number w (change.BeginClose who group cancel context notices) s a =
    let v : World = without_members w group.0 in
    ap₂ (λ cs covered. record v { callbacks = cs; waits = w.waits ++ (record { actor = who; target = Group group; covered = covered; notices = notices_of w group.0 cancel; cleanup = context }) ∷ [] })
    (cancel_forget lives (is_cancelled_by (Group group) cancel) (cancelled_pending (Group group) cancel) (λ c e. e) w.callbacks) (covered_forget w (Group group) cancel)
changed_forget next_number w change.CreateGroup s a = live_forgotten (changed w change.CreateGroup)
changed_forget next_number w (change.CloseGroup group) s a = live_forgotten (changed w (change.CloseGroup group))
changed_forget next_number w (change.GiveNotice who) s a = live_forgotten (changed w (change.GiveNotice who))
changed_forget next_number w (change.EndWait who how) s a = wait_forget w who how
changed_forget next_number w (change.Finish client) s a = live_forgotten (with_client w client finished)
