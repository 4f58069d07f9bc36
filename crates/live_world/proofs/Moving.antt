-- What the parts show after each change, and that they keep their invariant.
use Rattle.std.proofs.Common.{◌≡◌, ◌≢◌, ℕ, ◌+◌, ◌-◌, ◌<◌, Bool, true, false, cond, not, ◌&&◌, ◌==◌, List, [], ◌∷◌, ◌++◌, length, map, slice_get, slice_set, Option, Some, None, is_some, IsSomeAnd, refl, sym, ap, ap₂, ◌∙◌, subst, arith, filter, find, length-set, length-append, ltb-false}
use Rattle.std.proofs.lemmas.List.{length-map, map-set}
use Rattle.std.proofs.lemmas.List.Sums.{length-filter, count_by-le-length}
use Rattle.tp_base.specs.declared.ids.PoolId.{PoolId}
use Rattle.tp_base.specs.declared.limits.Limits.{Limits}
use Rattle.tp_base.specs.declared.plans.Idle.{Idle}
use Rattle.tp_base.specs.declared.plans.Busy.{Busy}
use Rattle.tp_base.specs.declared.plans.Change.{Change}
use Rattle.tp_base.specs.declared.plans.Change.TheVariants as change
use Rattle.tp_base.specs.declared.rows.Arming.{Arming}
use Rattle.tp_base.specs.declared.rows.CallbackRow.{CallbackRow}
use Rattle.tp_base.specs.declared.rows.KernelRow.{KernelRow}
use Rattle.tp_base.specs.declared.rows.WorkerRow.{WorkerRow}
use Rattle.tp_base.specs.declared.rows.ClientRow.{ClientRow}
use Rattle.live_callbacks.specs.Callbacks.{Callbacks, MovesOn, is_tied}
use Rattle.pool_rows.specs.Pools.{Pools, worker_of, with_worker as with_kept_worker}
use Rattle.pool_rows.specs.Workers.{IsIdle, idle_in, unattached as unattached_row}
use Rattle.pool_rows.specs.declared.WorkerRow as kept
use Rattle.begun_waits.specs.Begun.{Begun}
use Rattle.sources.specs.Rows.{with_sources}
use Rattle.tp_base.specs.declared.answers.TakeResult.{TakeResult}
use Rattle.tp_base.specs.declared.ids.ObjectId.{ObjectId}
use Rattle.tp_base.specs.declared.rows.Status.{Status}
use Rattle.tp_base.specs.declared.rows.Status.TheVariants.{Expected, Issued, Pending, Running, Returned, Cancelled}
use Rattle.tp_base.specs.declared.rows.WaitTarget.TheVariants as target
use Rattle.tp_model.specs.World.{World}
use Rattle.tp_model.specs.Counts.{has_number, callback_of, is_expected, is_operating, is_pending, is_running, is_running_in}
use Rattle.tp_model.specs.Conditions.{lacks_slots_for}
use Rattle.tp_model.specs.Changes.{changed, replaced}
use Rattle.tp_model.specs.Waits.{is_held_for}
use Rattle.tp_model.specs.Support.Allowed.{IsAllowed, Idles, Runs, news}
use Rattle.tp_model.specs.Support.Sound.{IsSound, IsWaitSound}
use Rattle.tp_model.specs.Support.Remembered.{lives, forget}
use Rattle.tp_model.proofs.Lists.{all_along, all_set, all_get}
use Rattle.tp_model.proofs.Callbacks.{rising_replaced}
use Rattle.tp_model.proofs.Refusals.{numbered_at}
use Rattle.tp_model.proofs.Sound.{changed_sound}
use Rattle.tp_model.proofs.Forgetting.{forget_sound}
use Rattle.object_rows.specs.Objects.{ObjectTable}
use Rattle.live_world.specs.declared.LiveWorld.TheInside.{Inside}
use Rattle.begun_waits.specs.Covers.{Covering}
use Rattle.live_world.specs.Live.{Live, moved}
use Rattle.live_world.specs.Parts.{world_of, shown_worker}
use Rattle.live_world.specs.View.{shown, IsLiveWorld}
use Rattle.live_world.specs.Invariant.{AreSized, AreLive, AreTallied, AreCovered, AreTimed, AreSlotted, IsHome, AreMarked}
use Rattle.live_world.proofs.Alive.{alive_more, alive_replaced, alive_less, removed_rows}
use Rattle.live_world.proofs.Covered.{CoversBelow, covered_lives, covered_more, covered_replaced, never_outstanding}
use Rattle.live_world.proofs.Tallied.{AreApart, is_behind, runs_nothing, runs_this, worker_changed, tallied_more, tallied_free, tallied_still, tallied_lives, still_apart, marked_replaced, marked_others}

-- ---- what every change shows

-- the parts after a change that leads to this world; that it can be reached comes from the model
pub record After (i : Inside) (v : World) : Type 0 where
  pub shows : (shown i).world ≡ forget v
  pub sized : AreSized i.limits i.pools i.objects i.clients.items
  pub alive : AreLive i.limits i.callbacks
  pub tallied : AreTallied i.callbacks.rows i.pools.workers
  pub covered : AreCovered i.limits i.made i.callbacks.rows i.waits i.covers
  pub timed : AreTimed i.limits i.objects.objects i.sources
  pub slotted : AreSlotted i.limits i.callbacks.rows i.sources.sources.armings

-- they keep their invariant, and show this
pub record Becomes (i : Inside) (l : Live) : Type 0 where
  pub keeps : IsLiveWorld i
  pub becomes : shown i ≡ l

pub became_by : (j : Inside) (v : World) → IsSound (j.made + 1) v → After j v → Becomes j (record { world = forget v; made = j.made })
became_by j v s a =
    record {
      keeps = record {
        sized = a.sized;
        alive = a.alive;
        tallied = a.tallied;
        covered = a.covered;
        timed = a.timed;
        slotted = a.slotted;
        sound = subst (λ w. IsSound (j.made + 1) w) (sym a.shows) (forget_sound (j.made + 1) v s);
      };
      becomes = ap (λ (w : World). record { world = w; made = j.made }) a.shows;
    }

pub moved_by : (i j : Inside) (l : Live) (ch : Change) → shown i ≡ l → IsLiveWorld i → IsAllowed (l.made + 1) l.world ch → j.made ≡ i.made + news ch
    → (IsAllowed (i.made + 1) (shown i).world ch → After j (changed (shown i).world ch))
    → Becomes j (moved l ch)
moved_by i j l ch is k allowed counts after =
    let w : World = (shown i).world in
    let allowed_here : IsAllowed (i.made + 1) w ch = subst (λ (x : Live). IsAllowed (x.made + 1) x.world ch) (sym is) allowed in
    let next_number : (i.made + 1) + news ch ≡ j.made + 1 = omega (arith, counts) in
    let b = became_by j (changed w ch) (subst (λ n. IsSound n (changed w ch)) next_number (changed_sound (i.made + 1) w ch k.sound allowed_here)) (after allowed_here) in
    record {
      keeps = b.keeps;
      becomes = b.becomes ∙ ap (λ (n : ℕ). record { world = forget (changed w ch); made = n }) counts ∙ ap (λ (x : Live). moved x ch) is;
    }

-- the waits change, what they cover, and the kernel objects that they take
pub waits_after : (i : Inside) (covers : Covering) (waits : Begun) (kernels : List KernelRow) → IsLiveWorld i → AreCovered i.limits i.made i.callbacks.rows waits covers
    → After (record i { covers = covers; waits = waits; sources = with_sources i.sources (record i.sources.sources { kernels = kernels }) }) (record (shown i).world { waits = waits.waits; given_up = waits.given_up; kernels = kernels })
waits_after i covers waits kernels k covered =
    record {
      shows = ap (λ ds. record (shown i).world { callbacks = ds; waits = waits.waits; given_up = waits.given_up; kernels = kernels }) (sym k.alive.live);
      sized = k.sized;
      alive = k.alive;
      tallied = k.tallied;
      covered = covered;
      timed = record { object_limit = k.timed.object_limit; kernel_limit = k.timed.kernel_limit; places = k.timed.places; there = k.timed.there };
      slotted = k.slotted;
    }

-- ---- slots

pub slots_replaced : {limits : Limits} {callbacks : List CallbackRow} {armings : List Arming} (r : CallbackRow) → AreSlotted limits callbacks armings → AreSlotted limits (replaced r callbacks) armings
slots_replaced {callbacks = callbacks} r k = record { slots = omega (arith, length-map callbacks (λ (c : CallbackRow). cond (has_number r.number c) r c), k.slots) }

pub slots_fewer : {limits : Limits} {callbacks : List CallbackRow} {armings : List Arming} (p : CallbackRow → Bool) → AreSlotted limits callbacks armings → AreSlotted limits (filter p callbacks) armings
slots_fewer {callbacks = callbacks} p k = record { slots = omega (arith, length-filter p callbacks, count_by-le-length p callbacks, k.slots) }

-- callbacks and workers alone change
shows_along : (i : Inside) (workers : List kept.WorkerRow) (now after : List CallbackRow) (workers_after : List WorkerRow) → now ≡ filter lives after → map shown_worker workers ≡ workers_after
    → world_of i.limits (record i.pools { workers = workers }) i.objects now i.sources.sources i.clients.items i.waits.waits i.waits.given_up ≡ forget (record (shown i).world { callbacks = after; workers = workers_after })
shows_along i workers now after workers_after ec ew = ap₂ (λ cs ws. record (shown i).world { callbacks = cs; workers = ws }) ec ew

pub set_shown : (workers : List kept.WorkerRow) (number : ℕ) (new : kept.WorkerRow) (target : WorkerRow) → shown_worker new ≡ target → map shown_worker (slice_set workers (number - 1) new) ≡ slice_set (map shown_worker workers) (number - 1) target
set_shown workers number new target shows = map-set shown_worker workers (number - 1) new ∙ ap (λ t. slice_set (map shown_worker workers) (number - 1) t) shows

-- another row of a worker
pub sized_worker : {limits : Limits} {objects : ObjectTable} {clients : List ClientRow} (pools : Pools) (place : ℕ) (new : kept.WorkerRow)
    → IsHome (length pools.pools) new → AreSized limits pools objects clients → AreSized limits (record pools { workers = slice_set pools.workers place new }) objects clients
sized_worker pools place new home k =
    record {
      in_range = k.in_range;
      pool_limit = k.pool_limit;
      pools_least = k.pools_least;
      pools_within = k.pools_within;
      worker_count = length-set pools.workers place new ∙ k.worker_count;
      homes = all_set (IsHome (length pools.pools)) pools.workers place new home k.homes;
      group_limit = k.group_limit;
      object_limit = k.object_limit;
      objects_within = k.objects_within;
      client_count = k.client_count;
    }

-- of the same pool as the row before
pub same_home : {limits : Limits} {objects : ObjectTable} {clients : List ClientRow} (pools : Pools) (place : ℕ) (row new : kept.WorkerRow) → slice_get pools.workers place ≡ Some row → new.pool ≡ row.pool → AreSized limits pools objects clients → IsHome (length pools.pools) new
same_home pools place row new is same k = subst (λ p. IsHome (length pools.pools) (record new { pool = p })) (sym same) (all_get (IsHome (length pools.pools)) pools.workers place row k.homes is)

-- ---- a worker that runs nothing

free_after : (i : Inside) (number : ℕ) (row new : kept.WorkerRow) (target : WorkerRow) → IsLiveWorld i → slice_get i.pools.workers (number - 1) ≡ Some row → row.callback ≡ 0 → new.callback ≡ 0 → IsHome (length i.pools.pools) new → shown_worker new ≡ target
    → After (record i { pools = record i.pools { workers = slice_set i.pools.workers (number - 1) new } }) (record (shown i).world { workers = slice_set (shown i).world.workers (number - 1) target })
free_after i number row new target k is idle none home shows =
    record {
      shows = shows_along i (slice_set i.pools.workers (number - 1) new) i.callbacks.rows i.callbacks.rows (slice_set (shown i).world.workers (number - 1) target) (sym k.alive.live) (set_shown i.pools.workers number new target shows);
      sized = sized_worker i.pools (number - 1) new home k.sized;
      alive = k.alive;
      timed = k.timed;
      slotted = k.slotted;
      covered = k.covered;
      tallied = tallied_free i.callbacks.rows i.pools.workers (number - 1) row new is idle none k.tallied;
    }

pub attached : (i : Inside) (l : Live) (worker : ℕ) (pool : PoolId) (pools : Pools) → shown i ≡ l → IsLiveWorld i → IsAllowed (l.made + 1) l.world (change.Attach worker pool)
    → pools ≡ with_kept_worker worker (λ _. idle_in pool) i.pools → Becomes (record i { pools = pools }) (moved l (change.Attach worker pool))
attached i l worker pool pools is k allowed now =
    moved_by i (record i { pools = pools }) l (change.Attach worker pool) is k allowed (omega arith) (λ a.
    let b = is_behind i.pools.workers worker a.row.pool a.row.callback a.row.persistent a.stands in
    subst (λ (p : Pools). After (record i { pools = p }) (changed (shown i).world (change.Attach worker pool)))
    (sym (now ∙ worker_changed i.pools worker b.row (λ _. idle_in pool) b.at_place b.from_one))
    (free_after i worker b.row (idle_in pool) (record { pool = Some pool; callback = None; persistent = false }) k b.at_place (runs_nothing b.row.callback (b.same_callback ∙ a.idle)) refl a.home refl))

pub detached : (i : Inside) (l : Live) (by : Idle) (pools : Pools) → shown i ≡ l → IsLiveWorld i → IsAllowed (l.made + 1) l.world (change.Detach by)
    → pools ≡ with_kept_worker by.worker (λ _. unattached_row) i.pools → Becomes (record i { pools = pools }) (moved l (change.Detach by))
detached i l by pools is k allowed now =
    moved_by i (record i { pools = pools }) l (change.Detach by) is k allowed (omega arith) (λ a.
    let b = is_behind i.pools.workers by.worker (Some by.pool) None by.persistent a.idles in
    subst (λ (p : Pools). After (record i { pools = p }) (changed (shown i).world (change.Detach by)))
    (sym (now ∙ worker_changed i.pools by.worker b.row (λ _. unattached_row) b.at_place b.from_one))
    (free_after i by.worker b.row unattached_row (record { pool = None; callback = None; persistent = false }) k b.at_place (runs_nothing b.row.callback b.same_callback) refl tt refl))

-- ---- what a worker is asked for

-- it idles
pub idles_here : (i : Inside) (l : Live) (by : Idle) → shown i ≡ l → Idles l.world by → IsSomeAnd (worker_of by.worker i.pools) IsIdle
idles_here i l by is idles =
    let b = is_behind i.pools.workers by.worker (Some by.pool) None by.persistent (subst (λ (x : Live). Idles x.world by) (sym is) idles) in
    let idle : IsIdle b.row = record { attached = ap is_some b.same_pool; nothing = runs_nothing b.row.callback b.same_callback } in
    subst (λ (o : Option kept.WorkerRow). IsSomeAnd o IsIdle) (sym (numbered_at i.pools.workers by.worker b.row b.from_one b.at_place)) idle

-- it is attached to no pool
pub away_here : (i : Inside) (l : Live) (worker : ℕ) (pool : PoolId) → shown i ≡ l → IsAllowed (l.made + 1) l.world (change.Attach worker pool) → IsSomeAnd (worker_of worker i.pools) (λ (w : kept.WorkerRow). w.pool ≡ None)
away_here i l worker pool is allowed =
    let a = subst (λ (x : Live). IsAllowed (x.made + 1) x.world (change.Attach worker pool)) (sym is) allowed in
    let b = is_behind i.pools.workers worker a.row.pool a.row.callback a.row.persistent a.stands in
    let away : b.row.pool ≡ None = b.same_pool ∙ a.away in
    subst (λ (o : Option kept.WorkerRow). IsSomeAnd o (λ (w : kept.WorkerRow). w.pool ≡ None)) (sym (numbered_at i.pools.workers worker b.row b.from_one b.at_place)) away

-- it runs a callback
pub runs_here : (i : Inside) (l : Live) (by : Busy) → shown i ≡ l → Runs l.world by → IsSomeAnd (worker_of by.worker i.pools) (λ (w : kept.WorkerRow). 0 < w.callback)
runs_here i l by is runs =
    let b = is_behind i.pools.workers by.worker (Some by.pool) (Some by.callback.number) by.persistent (subst (λ (x : Live). Runs x.world by) (sym is) runs).stands in
    let busy : b.row.callback ≢ 0 = (runs_this b.row.callback by.callback.number b.same_callback).1 in
    let above : 0 < b.row.callback = omega (arith, busy) in
    subst (λ (o : Option kept.WorkerRow). IsSomeAnd o (λ (w : kept.WorkerRow). 0 < w.callback)) (sym (numbered_at i.pools.workers by.worker b.row b.from_one b.at_place)) above

-- what is pending is outstanding for its object
pub pending_tied : (object : ObjectId) (s : Status) → is_pending s ≡ true → is_held_for (target.Object object) s ≡ true
pending_tied object Expected e = refl
pending_tied object Issued e = refl
pending_tied object Pending e = refl
pending_tied object (Running worker associated slots) e = absurd cc
pending_tied object Returned e = absurd cc
pending_tied object Cancelled e = absurd cc

-- ---- callbacks and workers, counted

-- another row of a callback, which runs if the one before ran
tallied_same : (i : Inside) (r c : CallbackRow) → IsLiveWorld i → find (has_number r.number) i.callbacks.rows ≡ Some c → r.pool ≡ c.pool → r.long ≡ c.long → is_running r.status ≡ is_running c.status → AreTallied (replaced r i.callbacks.rows) i.pools.workers
tallied_same i r c k found pool long ran =
    let run : (p : ℕ) → is_running_in p r ≡ is_running_in p c = λ p. ap₂ (λ (b : Bool) (q : PoolId). b && (q.0 == p)) ran pool in
    tallied_still (i.made + 1) r c i.callbacks.rows i.pools.workers run (λ p. ap₂ (λ a b. a && b) (run p) long) k.sound.numbers found (marked_replaced r c i.callbacks.rows i.pools.workers found long k.tallied.marked) k.tallied

-- ---- callbacks and workers change

abbrev pub with_changed : Inside → Pools → Callbacks → ℕ → Inside
with_changed i pools callbacks made = record i { pools = pools; callbacks = callbacks; made = made }

abbrev pub with_workers : Inside → List kept.WorkerRow → Pools
with_workers i workers = record i.pools { workers = workers }

-- a callback leaves
abbrev pub without : Callbacks → ℕ → Callbacks
without callbacks number = record callbacks { rows = filter (λ (x : CallbackRow). not (x.number == number)) callbacks.rows }

-- what of the parts shows these callbacks and workers, of which those that live are kept
record Shows (i : Inside) (workers : List kept.WorkerRow) (rows after : List CallbackRow) (ws : List WorkerRow) (made : ℕ) : Type 0 where
  living : rows ≡ filter lives after
  shown_workers : map shown_worker workers ≡ ws
  sized : AreSized i.limits (with_workers i workers) i.objects i.clients.items
  alive : AreLive i.limits (record i.callbacks { rows = rows })
  tallied : AreTallied rows workers
  slotted : AreSlotted i.limits rows i.sources.sources.armings
  covered : AreCovered i.limits made rows i.waits i.covers

changed_after : (i : Inside) (pools : Pools) (workers : List kept.WorkerRow) (callbacks : Callbacks) (rows after : List CallbackRow) (ws : List WorkerRow) (n : ℕ) → IsLiveWorld i
    → pools ≡ with_workers i workers → callbacks ≡ record i.callbacks { rows = rows } → Shows i workers rows after ws n → After (with_changed i pools callbacks n) (record (shown i).world { callbacks = after; workers = ws })
changed_after i pools workers callbacks rows after ws n k ep ec s =
    subst (λ x. After (with_changed i x callbacks n) (record (shown i).world { callbacks = after; workers = ws })) (sym ep)
    (subst (λ x. After (with_changed i (with_workers i workers) x n) (record (shown i).world { callbacks = after; workers = ws })) (sym ec)
    (record {
      shows = shows_along i workers rows after ws s.living s.shown_workers;
      sized = s.sized;
      alive = s.alive;
      tallied = s.tallied;
      covered = s.covered;
      timed = k.timed;
      slotted = s.slotted;
    }))

-- a callback goes on
pub goes_on : (i : Inside) (r : CallbackRow) (pools : Pools) (workers : List kept.WorkerRow) (callbacks : Callbacks) (ws : List WorkerRow) → IsLiveWorld i → lives r ≡ true
    → pools ≡ with_workers i workers → callbacks ≡ record i.callbacks { rows = replaced r i.callbacks.rows } → map shown_worker workers ≡ ws → AreSized i.limits (with_workers i workers) i.objects i.clients.items
    → AreTallied (replaced r i.callbacks.rows) workers → AreCovered i.limits i.made (replaced r i.callbacks.rows) i.waits i.covers → After (with_changed i pools callbacks i.made) (record (shown i).world { callbacks = replaced r i.callbacks.rows; workers = ws })
goes_on i r pools workers callbacks ws k live ep ec ew sized tallied covered =
    let alive_now = alive_replaced i.callbacks r live k.alive in
    changed_after i pools workers callbacks (replaced r i.callbacks.rows) (replaced r i.callbacks.rows) ws i.made k ep ec
    (record { living = sym alive_now.live; shown_workers = ew; sized = sized; alive = alive_now; tallied = tallied; slotted = slots_replaced r k.slotted; covered = covered })

-- and is over
pub goes : (i : Inside) (r c : CallbackRow) (pools : Pools) (workers : List kept.WorkerRow) (callbacks : Callbacks) (ws : List WorkerRow) → IsLiveWorld i → lives r ≡ false → find (has_number r.number) i.callbacks.rows ≡ Some c
    → pools ≡ with_workers i workers → callbacks ≡ without i.callbacks r.number → map shown_worker workers ≡ ws → AreSized i.limits (with_workers i workers) i.objects i.clients.items
    → AreMarked (filter (λ (x : CallbackRow). not (x.number == r.number)) i.callbacks.rows) workers → AreTallied (replaced r i.callbacks.rows) workers → After (with_changed i pools callbacks i.made) (record (shown i).world { callbacks = replaced r i.callbacks.rows; workers = ws })
goes i r c pools workers callbacks ws k over found ep ec ew sized marks tallied =
    let others : List CallbackRow = filter (λ (x : CallbackRow). not (x.number == r.number)) i.callbacks.rows in
    let removed : others ≡ filter lives (replaced r i.callbacks.rows) = removed_rows i.callbacks r over k.alive in
    changed_after i pools workers callbacks others (replaced r i.callbacks.rows) ws i.made k ep ec
    (record {
      living = removed;
      shown_workers = ew;
      sized = sized;
      alive = alive_less i.callbacks r over k.alive;
      tallied = subst (λ cs. AreTallied cs workers) (sym removed) (tallied_lives (replaced r i.callbacks.rows) workers (subst (λ cs. AreMarked cs workers) removed marks) tallied);
      slotted = slots_fewer (λ (x : CallbackRow). not (x.number == r.number)) k.slotted;
      covered = subst (λ cs. AreCovered i.limits i.made cs i.waits i.covers) (sym removed)
          (covered_lives (i.made + 1) (rising_replaced r 1 (i.made + 1) i.callbacks.rows k.sound.numbers) (covered_replaced r c (never_outstanding r c over) found k.covered));
    })

-- or it ends where no worker runs it
pub goes_idle : (i : Inside) (r c : CallbackRow) (callbacks : Callbacks) → IsLiveWorld i → lives r ≡ false → r.number ≡ c.number → r.pool ≡ c.pool → r.long ≡ c.long → is_running c.status ≡ false → is_running r.status ≡ false → find (has_number r.number) i.callbacks.rows ≡ Some c
    → callbacks ≡ without i.callbacks r.number
    → After (with_changed i i.pools callbacks i.made) (record (shown i).world { callbacks = replaced r i.callbacks.rows })
goes_idle i r c callbacks k over number pool long before after found ec =
    let apart : AreApart r.number i.pools.workers = subst (λ n. AreApart n i.pools.workers) (sym number) (still_apart c i.callbacks.rows 1 i.pools.workers (ap (λ n. find (has_number n) i.callbacks.rows) (sym number) ∙ found) before k.sound.workers) in
    goes i r c i.pools i.pools.workers callbacks (shown i).world.workers k over found refl ec refl k.sized (marked_others r.number i.callbacks.rows i.pools.workers apart k.tallied.marked)
    (tallied_same i r c k found pool long (after ∙ sym before))

-- a callback goes on where no worker begins or ends it
pub goes_along : (i : Inside) (r c : CallbackRow) (callbacks : Callbacks) → IsLiveWorld i → lives r ≡ true → r.pool ≡ c.pool → r.long ≡ c.long → is_running r.status ≡ is_running c.status → find (has_number r.number) i.callbacks.rows ≡ Some c
    → callbacks ≡ record i.callbacks { rows = replaced r i.callbacks.rows } → AreCovered i.limits i.made (replaced r i.callbacks.rows) i.waits i.covers
    → After (with_changed i i.pools callbacks i.made) (record (shown i).world { callbacks = replaced r i.callbacks.rows })
goes_along i r c callbacks k live pool long ran found ec covered = goes_on i r i.pools i.pools.workers callbacks (shown i).world.workers k live refl ec refl k.sized (tallied_same i r c k found pool long ran) covered

-- a callback comes
pub comes : (i : Inside) (c : CallbackRow) (callbacks : Callbacks) → IsLiveWorld i → c.number ≡ i.made + 1 → lives c ≡ true → is_running c.status ≡ false → lacks_slots_for (shown i).world 1 ≡ false
    → callbacks ≡ record i.callbacks { rows = i.callbacks.rows ++ c ∷ [] } → After (with_changed i i.pools callbacks (i.made + 1)) (record (shown i).world { callbacks = i.callbacks.rows ++ c ∷ [] })
comes i c callbacks k number live still room ec =
    let alive_now = alive_more i.callbacks c live k.alive in
    changed_after i i.pools i.pools.workers callbacks (i.callbacks.rows ++ c ∷ []) (i.callbacks.rows ++ c ∷ []) (shown i).world.workers (i.made + 1) k refl ec
    (record {
      living = sym alive_now.live;
      shown_workers = refl;
      sized = k.sized;
      alive = alive_now;
      tallied = tallied_more c i.callbacks.rows i.pools.workers still k.tallied;
      slotted = record {
        slots = omega (
          arith,
          length-append i.callbacks.rows (c ∷ []),
          ap length k.alive.live,
          ltb-false i.limits.slots (length (filter lives i.callbacks.rows) + length i.sources.sources.armings + 1) room,
        );
      };
      covered = covered_more c number (all_along (IsWaitSound (i.made + 1) i.callbacks.rows) (CoversBelow (i.made + 1)) (λ b s. s.made) i.waits.waits k.sound.waits) k.covered;
    })

-- a row that goes on, as the lists ask for it
pub goes_with : (c : CallbackRow) (long : Bool) (result : TakeResult) (status : Status) → (is_held_for (target.Object c.object) status ≡ true → is_tied c ≡ true) → (is_expected status ≡ true → is_expected c.status ≡ true) → (is_operating status ≡ true → is_operating c.status ≡ true)
    → MovesOn c (record c { long = long; result = result; status = status })
goes_with c long result status outstanding expected operating =
    record { number = refl; object = refl; pool = refl; group = refl; priority = refl; persistent = refl; outstanding = outstanding; expected = expected; operating = operating }

-- the callback that is asked for is kept
pub found_here : (i : Inside) (l : Live) (c : CallbackRow) → shown i ≡ l → callback_of l.world c.number ≡ Some c → find (has_number c.number) i.callbacks.rows ≡ Some c
found_here i l c is found = ap (λ (x : Live). callback_of x.world c.number) is ∙ found
