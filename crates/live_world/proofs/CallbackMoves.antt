-- What the parts show after each change of a callback, and that they keep their invariant.
use Rattle.std.proofs.Common.{◌≡◌, ◌≢◌, ℕ, ◌+◌, ◌-◌, ◌≤◌, Bool, true, false, cond, ◌||◌, List, [], ◌∷◌, ◌++◌, map, slice_get, slice_set, Option, Some, None, refl, sym, ap, ap₂, ◌∙◌, subst, arith, find, option_map, ne_eqb}
use Rattle.std.proofs.lemmas.List.{map-set}
use Rattle.std.proofs.lemmas.Option.{slice_get-map}
use Rattle.tp_base.specs.declared.ids.PoolId.{PoolId}
use Rattle.tp_base.specs.declared.plans.Idle.{Idle}
use Rattle.tp_base.specs.declared.plans.Busy.{Busy}
use Rattle.tp_base.specs.declared.plans.Mark.TheVariants.{Long, Loose, Asks}
use Rattle.tp_base.specs.declared.answers.ActionKind.{ActionKind}
use Rattle.tp_base.specs.declared.rows.Action.{Action}
use Rattle.tp_base.specs.Actions.{filled}
use Rattle.tp_model.specs.Actions.{asking}
use Rattle.tp_base.specs.declared.plans.Change.TheVariants as change
use Rattle.tp_base.specs.declared.rows.CallbackRow.{CallbackRow}
use Rattle.tp_base.specs.declared.rows.WorkerRow.{WorkerRow}
use Rattle.live_callbacks.specs.Callbacks.{Callbacks, is_tied}
use Rattle.pool_rows.specs.Pools.{Pools, with_worker as with_kept_worker}
use Rattle.pool_rows.specs.Workers.{after_take}
use Rattle.pool_rows.specs.declared.WorkerRow as kept
use Rattle.tp_base.specs.declared.rows.Status.TheVariants.{Running}
use Rattle.tp_base.specs.declared.rows.WaitTarget.TheVariants as target
use Rattle.tp_model.specs.Counts.{has_number, callback_of, is_pending, is_running, is_live}
use Rattle.tp_model.specs.Changes.{replaced, with_callback, taken, loosened, marked, returned, without_run}
use Rattle.tp_model.specs.Waits.{is_held_for, cancelled}
use Rattle.tp_model.specs.Support.Allowed.{IsAllowed, Runs}
use Rattle.tp_model.proofs.Lists.{all_get}
use Rattle.tp_model.proofs.Callbacks.{found_bounds, find_replaced as find_here, pending_lives, pending_not_running}
use Rattle.tp_model.proofs.Sound.{sound_cancelled, sound_returned}
use Rattle.live_world.specs.declared.LiveWorld.TheInside.{Inside}
use Rattle.tp_model.proofs.Refusals.{false_true}
use Rattle.live_world.specs.Live.{Live, moved, with_world}
use Rattle.live_world.specs.Parts.{shown_worker}
use Rattle.live_world.specs.View.{shown, IsLiveWorld}
use Rattle.live_world.specs.Invariant.{AreMarked, IsMarked}
use Rattle.live_world.proofs.Lists.{set_twice, set_there}
use Rattle.live_world.proofs.Covered.{covered_replaced, outstanding_before}
use Rattle.live_world.proofs.Tallied.{AreApart, is_behind, runs_nothing, runs_this, worker_changed, idle_alike, busy_alike, tallied_both, marked_set, marked_apart, marked_replaced, marked_others, others_apart, same_found}
use Rattle.live_world.proofs.Moving.{Becomes, became_by, comes, found_here, goes, goes_along, goes_idle, goes_on, moved_by, pending_tied, same_home, set_shown, sized_worker, without}

-- ---- a callback is made

pub queued_by : (i : Inside) (l : Live) (c : CallbackRow) (callbacks : Callbacks) → shown i ≡ l → IsLiveWorld i → IsAllowed (l.made + 1) l.world (change.QueueCallback c)
    → callbacks ≡ record i.callbacks { rows = i.callbacks.rows ++ c ∷ [] } → Becomes (record i { callbacks = callbacks; made = i.made + 1 }) (moved l (change.QueueCallback c))
queued_by i l c callbacks is k allowed rows_now =
    moved_by i (record i { callbacks = callbacks; made = i.made + 1 }) l (change.QueueCallback c) is k allowed refl
    (λ a. comes i c callbacks k a.number (pending_lives c.status a.pending) (pending_not_running c.status a.pending) a.room rows_now)

-- ---- a callback begins

pub taken_by : (i : Inside) (l : Live) (by : Idle) (c : CallbackRow) (pools : Pools) (callbacks : Callbacks) → shown i ≡ l → IsLiveWorld i → IsAllowed (l.made + 1) l.world (change.Take by c)
    → pools ≡ with_kept_worker by.worker (after_take c.number c.long c.persistent) i.pools
    → callbacks ≡ record i.callbacks { rows = replaced (taken c by.worker) i.callbacks.rows } → Becomes (record i { pools = pools; callbacks = callbacks }) (moved l (change.Take by c))
taken_by i l by c pools callbacks is k allowed pools_now rows_now =
    moved_by i (record i { pools = pools; callbacks = callbacks }) l (change.Take by c) is k allowed (omega arith) (λ a.
    let b = is_behind i.pools.workers by.worker (Some by.pool) None by.persistent a.idles in
    let r : CallbackRow = taken c by.worker in
    let new : kept.WorkerRow = after_take c.number c.long c.persistent b.row in
    let target : WorkerRow = record { pool = Some by.pool; callback = Some c.number; persistent = by.persistent || c.persistent } in
    let above : 1 ≤ c.number = (found_bounds c.number 1 (i.made + 1) c i.callbacks.rows k.sound.numbers a.found).0 in
    let busy : c.number ≢ 0 = λ z. omega (arith, z, above) in
    let idle : b.row.callback ≡ 0 = runs_nothing b.row.callback b.same_callback in
    let shows : shown_worker new ≡ target =
    ap₂ (λ (p : Option PoolId) (z : Bool). record { pool = p; callback = cond z None (Some c.number); persistent = b.row.persistent || c.persistent }) b.same_pool (ne_eqb c.number 0 busy)
    ∙ ap (λ (m : Bool). record { pool = Some by.pool; callback = Some c.number; persistent = m || c.persistent }) b.same_persistent
    in
    goes_on i r pools (slice_set i.pools.workers (by.worker - 1) new) callbacks (slice_set (shown i).world.workers (by.worker - 1) target) k refl
    (pools_now ∙ worker_changed i.pools by.worker b.row (after_take c.number c.long c.persistent) b.at_place b.from_one)
    rows_now (set_shown i.pools.workers by.worker new target shows)
    (sized_worker i.pools (by.worker - 1) new (same_home i.pools (by.worker - 1) b.row new b.at_place refl k.sized) k.sized)
    (tallied_both (i.made + 1) r c i.callbacks.rows i.pools.workers (by.worker - 1) b.row new k.sound.numbers a.found b.at_place
    (idle_alike c b.row (pending_not_running c.status a.pending) idle)
    (busy_alike r new by.pool b.same_pool busy a.home refl refl)
    (marked_set (replaced r i.callbacks.rows) i.pools.workers (by.worker - 1) new (λ _. (r, find_here r c i.callbacks.rows a.found, refl))
    (marked_replaced r c i.callbacks.rows i.pools.workers a.found refl k.tallied.marked)) k.tallied)
    (covered_replaced r c (outstanding_before r c refl refl (λ _. pending_tied c.object c.status a.pending) (pending_lives c.status a.pending)) a.found k.covered))

-- ---- a callback that runs

-- what is known of it in terms of the parts
record IsRun (i : Inside) (by : Busy) : Type 0 where
  row : kept.WorkerRow
  at_place : slice_get i.pools.workers (by.worker - 1) ≡ Some row
  from_one : 1 ≤ by.worker
  joined : row.pool ≡ Some by.pool
  same_persistent : row.persistent ≡ by.persistent
  runs : row.callback ≡ by.callback.number
  busy : row.callback ≢ 0
  ran : is_running by.callback.status ≡ true
  mark : by.callback.long ≡ row.long
  -- no other worker runs it
  alone : (new : kept.WorkerRow) → new.callback ≡ 0 → AreApart by.callback.number (slice_set i.pools.workers (by.worker - 1) new)

is_run : (i : Inside) (by : Busy) → IsLiveWorld i → Runs (shown i).world by → IsRun i by
is_run i by k a =
    let b = is_behind i.pools.workers by.worker (Some by.pool) (Some by.callback.number) by.persistent a.stands in
    let this = runs_this b.row.callback by.callback.number b.same_callback in
    let mark = all_get (IsMarked i.callbacks.rows) i.pools.workers (by.worker - 1) b.row k.tallied.marked b.at_place this.1 in
    record {
      row = b.row;
      at_place = b.at_place;
      from_one = b.from_one;
      joined = b.same_pool;
      same_persistent = b.same_persistent;
      runs = this.0;
      busy = this.1;
      ran = ap is_running a.running;
      mark = ap (λ (x : CallbackRow). x.long) (same_found by.callback.number b.row.callback by.callback mark.0 i.callbacks.rows this.0 a.found mark.1) ∙ sym mark.2;
      alone = λ new none. others_apart by.callback by.worker a.associated a.slots i.callbacks.rows 1 (by.worker - 1) i.pools.workers new a.found a.running (omega (arith, b.from_one)) none k.sound.workers;
    }

shows_same : (workers : List kept.WorkerRow) (place : ℕ) (row new : kept.WorkerRow) → slice_get workers place ≡ Some row → shown_worker new ≡ shown_worker row → map shown_worker (slice_set workers place new) ≡ map shown_worker workers
shows_same workers place row new is same =
    map-set shown_worker workers place new ∙ ap (λ t. slice_set (map shown_worker workers) place t) same
    ∙ set_there (map shown_worker workers) place (shown_worker row) (slice_get-map shown_worker workers place ∙ ap (option_map shown_worker) is)

-- it may run long
pub marked_long : (i : Inside) (l : Live) (by : Busy) (pools : Pools) (callbacks : Callbacks) → shown i ≡ l → IsLiveWorld i → IsAllowed (l.made + 1) l.world (change.Mark by Long)
    → pools ≡ with_kept_worker by.worker (λ w. record w { long = true }) i.pools
    → callbacks ≡ record i.callbacks { rows = replaced (marked Long by.callback) i.callbacks.rows } → Becomes (record i { pools = pools; callbacks = callbacks }) (moved l (change.Mark by Long))
marked_long i l by pools callbacks is k allowed pools_now rows_now =
    moved_by i (record i { pools = pools; callbacks = callbacks }) l (change.Mark by Long) is k allowed (omega arith) (λ a.
    let on = is_run i by k a.runs in
    let c : CallbackRow = by.callback in
    let r : CallbackRow = marked Long c in
    let new : kept.WorkerRow = record on.row { long = true } in
    let rest : kept.WorkerRow = record on.row { callback = 0; long = false } in
    goes_on i r pools (slice_set i.pools.workers (by.worker - 1) new) callbacks (shown i).world.workers k (ap is_live a.runs.running)
    (pools_now ∙ worker_changed i.pools by.worker on.row (λ w. record w { long = true }) on.at_place on.from_one)
    rows_now (shows_same i.pools.workers (by.worker - 1) on.row new on.at_place refl)
    (sized_worker i.pools (by.worker - 1) new (same_home i.pools (by.worker - 1) on.row new on.at_place refl k.sized) k.sized)
    (tallied_both (i.made + 1) r c i.callbacks.rows i.pools.workers (by.worker - 1) on.row new k.sound.numbers a.runs.found on.at_place
    (busy_alike c on.row by.pool on.joined on.busy a.runs.home on.ran on.mark)
    (busy_alike r new by.pool on.joined on.busy a.runs.home on.ran refl)
    (subst (λ ws. AreMarked (replaced r i.callbacks.rows) ws) (set_twice i.pools.workers (by.worker - 1) rest new)
    (marked_set (replaced r i.callbacks.rows) (slice_set i.pools.workers (by.worker - 1) rest) (by.worker - 1) new
    (λ _. (r, ap (λ n. find (has_number n) (replaced r i.callbacks.rows)) on.runs ∙ find_here r c i.callbacks.rows a.runs.found, refl))
    (marked_apart r i.callbacks.rows (slice_set i.pools.workers (by.worker - 1) rest) (on.alone rest refl)
    (marked_set i.callbacks.rows i.pools.workers (by.worker - 1) rest (λ runs_now. absurd (runs_now refl)) k.tallied.marked)))) k.tallied)
    (covered_replaced r c (outstanding_before r c refl refl (λ tied. tied) (ap is_live a.runs.running)) a.runs.found k.covered))

-- it returns
pub ended_by : (i : Inside) (l : Live) (by : Busy) (pools : Pools) (callbacks : Callbacks) → shown i ≡ l → IsLiveWorld i → Runs l.world by
    → pools ≡ with_kept_worker by.worker (λ w. record w { callback = 0; long = false }) i.pools
    → callbacks ≡ without i.callbacks by.callback.number
    → Becomes (record i { pools = pools; callbacks = callbacks }) (with_world l (without_run l.world by))
ended_by i l by pools callbacks is k running pools_now rows_now =
    let a : Runs (shown i).world by = subst (λ (x : Live). Runs x.world by) (sym is) running in
    let on = is_run i by k a in
    let c : CallbackRow = by.callback in
    let r : CallbackRow = returned c in
    let new : kept.WorkerRow = record on.row { callback = 0; long = false } in
    let target : WorkerRow = record { pool = Some by.pool; callback = None; persistent = by.persistent } in
    let shows : shown_worker new ≡ target = ap₂ (λ (p : Option PoolId) (m : Bool). record { pool = p; callback = None; persistent = m }) on.joined on.same_persistent in
    let workers : List kept.WorkerRow = slice_set i.pools.workers (by.worker - 1) new in
    let before : AreMarked i.callbacks.rows workers = marked_set i.callbacks.rows i.pools.workers (by.worker - 1) new (λ busy. absurd (busy refl)) k.tallied.marked in
    let b = became_by (record i { pools = pools; callbacks = callbacks }) (without_run (shown i).world by)
    (sound_returned (i.made + 1) (shown i).world by.worker target by.pool c on.from_one refl (record { callback = c; associated = a.associated; slots = a.slots; found = a.found; runs = a.running; at_home = a.home }) a.found k.sound)
    (goes i r c pools workers callbacks (slice_set (shown i).world.workers (by.worker - 1) target) k refl a.found
    (pools_now ∙ worker_changed i.pools by.worker on.row (λ w. record w { callback = 0; long = false }) on.at_place on.from_one)
    rows_now (set_shown i.pools.workers by.worker new target shows)
    (sized_worker i.pools (by.worker - 1) new (same_home i.pools (by.worker - 1) on.row new on.at_place refl k.sized) k.sized)
    (marked_others c.number i.callbacks.rows workers (on.alone new refl) before)
    (tallied_both (i.made + 1) r c i.callbacks.rows i.pools.workers (by.worker - 1) on.row new k.sound.numbers a.found on.at_place
    (busy_alike c on.row by.pool on.joined on.busy a.home on.ran on.mark)
    (idle_alike r new refl refl)
    (marked_apart r i.callbacks.rows workers (on.alone new refl) before) k.tallied)) in
    record { keeps = b.keeps; becomes = b.becomes ∙ ap (λ (x : Live). with_world x (without_run x.world by)) is }

-- it is no longer outstanding for its object
pub loosened_by : (i : Inside) (l : Live) (by : Busy) (callbacks : Callbacks) → shown i ≡ l → IsLiveWorld i → IsAllowed (l.made + 1) l.world (change.Mark by Loose)
    → callbacks ≡ record i.callbacks { rows = replaced (marked Loose by.callback) i.callbacks.rows } → Becomes (record i { callbacks = callbacks }) (moved l (change.Mark by Loose))
loosened_by i l by callbacks is k allowed rows_now =
    moved_by i (record i { callbacks = callbacks }) l (change.Mark by Loose) is k allowed (omega arith) (λ a.
    let c : CallbackRow = by.callback in
    let r : CallbackRow = marked Loose c in
    let runs : r.status ≡ Running by.worker false a.runs.slots = ap loosened a.runs.running in
    let untied : is_tied r ≡ false = ap (is_held_for (target.Object c.object)) runs in
    goes_along i r c callbacks k (ap is_live runs) refl refl (ap is_running runs ∙ sym (ap is_running a.runs.running)) a.runs.found rows_now
    (covered_replaced r c (outstanding_before r c refl refl (λ tied. absurd (false_true (sym untied ∙ tied))) (ap is_live a.runs.running)) a.runs.found k.covered))

-- it asks for an action on return
pub asked_by : (i : Inside) (l : Live) (by : Busy) (kind : ActionKind) (action : Action) (callbacks : Callbacks) → shown i ≡ l → IsLiveWorld i → IsAllowed (l.made + 1) l.world (change.Mark by (Asks kind action))
    → callbacks ≡ record i.callbacks { rows = replaced (marked (Asks kind action) by.callback) i.callbacks.rows } → Becomes (record i { callbacks = callbacks }) (moved l (change.Mark by (Asks kind action)))
asked_by i l by kind action callbacks is k allowed rows_now =
    moved_by i (record i { callbacks = callbacks }) l (change.Mark by (Asks kind action)) is k allowed (omega arith) (λ a.
    let c : CallbackRow = by.callback in
    let r : CallbackRow = marked (Asks kind action) c in
    let runs : r.status ≡ Running by.worker a.runs.associated (filled kind action a.runs.slots) = ap (asking kind action) a.runs.running in
    let tied : is_tied r ≡ is_tied c = ap (is_held_for (target.Object c.object)) runs ∙ sym (ap (is_held_for (target.Object c.object)) a.runs.running) in
    goes_along i r c callbacks k (ap is_live runs) refl refl (ap is_running runs ∙ sym (ap is_running a.runs.running)) a.runs.found rows_now
    (covered_replaced r c (outstanding_before r c refl refl (λ e. sym tied ∙ e) (ap is_live a.runs.running)) a.runs.found k.covered))

-- ---- a pending callback is cancelled

pub cancelled_by : (i : Inside) (l : Live) (c : CallbackRow) (callbacks : Callbacks) → shown i ≡ l → IsLiveWorld i → callback_of l.world c.number ≡ Some c → is_pending c.status ≡ true
    → callbacks ≡ without i.callbacks c.number
    → Becomes (record i { callbacks = callbacks }) (with_world l (with_callback l.world (cancelled c)))
cancelled_by i l c callbacks is k found pends rows_now =
    let found_now = found_here i l c is found in
    let b = became_by (record i { callbacks = callbacks }) (with_callback (shown i).world (cancelled c)) (sound_cancelled (i.made + 1) (shown i).world c found_now pends k.sound)
    (goes_idle i (cancelled c) c callbacks k refl refl refl refl (pending_not_running c.status pends) refl found_now rows_now) in
    record { keeps = b.keeps; becomes = b.becomes ∙ ap (λ (x : Live). with_world x (with_callback x.world (cancelled c))) is }
