-- Each change keeps what is true of all worlds that can be reached. Pools, clients, groups and kernel objects are here,
-- and the rest in SoundObjects, SoundWorkers, SoundCallbacks, SoundWaits and SoundSources.
use Rattle.std.proofs.Common.{◌||◌, ◌≡◌, ℕ, suc, zero, ◌+◌, ◌-◌, ◌<◌, ◌≤◌, true, false, List, [], ◌∷◌, ◌++◌, length, slice_get, slice_set, replicate, Option, Some, None, refl, sym, ◌∙◌, subst, arith, length-append, length-set}
use Rattle.std.specs.List.{AllByRecursion}
use Rattle.tp_base.specs.declared.limits.Limits.{Limits}
use Rattle.tp_base.specs.declared.plans.Change.{Change}
use Rattle.tp_base.specs.declared.plans.Change.TheVariants as change
use Rattle.tp_base.specs.declared.plans.PoolChange.{PoolChange}
use Rattle.tp_base.specs.declared.rows.Slots.{Slots}
use Rattle.tp_base.specs.declared.rows.Status.{Status}
use Rattle.tp_base.specs.declared.rows.Status.TheVariants.{Pending}
use Rattle.tp_base.specs.declared.rows.PoolRow.{PoolRow}
use Rattle.tp_base.specs.declared.rows.ObjectRow.{ObjectRow}
use Rattle.tp_base.specs.declared.rows.CallbackRow.{CallbackRow}
use Rattle.tp_base.specs.declared.rows.WorkerRow.{WorkerRow}
use Rattle.tp_model.specs.Waits.{wait_of}
use Rattle.tp_model.specs.Sources.{Firing, firing, sources_of, fired}
use Rattle.tp_model.proofs.Firing.{IsFiringIn, jobs_made, armable_stands}
use Rattle.tp_model.specs.World.{World, opening, unattached, new_pool}
use Rattle.tp_model.specs.Counts.{numbered, is_pending, is_operating}
use Rattle.tp_model.specs.Changes.{with_new_pool, with_pool, with_object, with_worker, with_client, change_pool, pool_after, finished, without_run, without_wait, end_wait, kernels_left, changed, given_up_after}
use Rattle.tp_base.specs.declared.rows.KernelRow.{KernelRow}
use Rattle.tp_base.specs.Kernels.{state_after}
use Rattle.tp_model.specs.Actions.{slots_of, returning}
use Rattle.tp_model.proofs.Performing.{returning_of, returning_counted, returning_now}
use Rattle.tp_model.specs.Kernels.{new_kernel, kernel_changed}
use Rattle.tp_model.specs.Support.Sound.{IsSound, may_be_armed, AreWorkersSound, is_standing}
use Rattle.tp_model.specs.Support.Allowed.{IsAllowed, news}
use Rattle.tp_model.proofs.Lists.{all_below}
use Rattle.tp_model.proofs.Refusals.{numbered_some, false_true}
use Rattle.tp_model.specs.Groups.{new_group, close_row}
use Rattle.tp_base.specs.declared.rows.GroupRow.{GroupRow}
use Rattle.tp_model.proofs.SoundObjects.{sound_object, sound_release}
use Rattle.tp_model.proofs.SoundWorkers.{workers_freed}
use Rattle.tp_model.proofs.SoundCallbacks.{sound_new_callback, sound_taken, sound_marked, sound_operated}
use Rattle.tp_model.proofs.SoundWaits.{sound_notified, sound_end_wait}
use Rattle.tp_model.proofs.SoundSources.{sound_rows, sound_fired}
pub use Rattle.tp_model.proofs.SoundCallbacks.{sound_cancelled, sound_returned}
pub use Rattle.tp_model.proofs.SoundWaits.{sound_begin_wait, sound_begin_close}
pub use Rattle.tp_model.proofs.SoundSources.{sources_in, sound_sources, fired_counted}

-- ---- pools, clients and workers that run nothing

pub sound_free_worker : (next_number : ℕ) (w : World) (worker : ℕ) (row : WorkerRow) → row.callback ≡ None → IsSound next_number w → IsSound next_number (with_worker w worker row)
sound_free_worker next_number w worker row free s =
    record {
      numbers = s.numbers;
      workers = workers_freed w.callbacks row 1 (worker - 1) w.workers free s.workers;
      object_pools = s.object_pools;
      apart = s.apart;
      timers = s.timers;
      armings = s.armings;
      timeouts = s.timeouts;
      clock = s.clock;
      waits = s.waits;
      callback_pools = s.callback_pools;
      callback_objects = s.callback_objects;
      operations = s.operations;
      notices = s.notices;
    }

pub sound_client : (next_number : ℕ) (w : World) (client : ℕ) (row : _) → IsSound next_number w → IsSound next_number (with_client w client row)
sound_client next_number w client row s =
    record {
      numbers = s.numbers;
      workers = s.workers;
      object_pools = s.object_pools;
      apart = s.apart;
      timers = s.timers;
      armings = s.armings;
      timeouts = s.timeouts;
      clock = s.clock;
      waits = s.waits;
      callback_pools = s.callback_pools;
      callback_objects = s.callback_objects;
      operations = s.operations;
      notices = s.notices;
    }

-- a further pool, and another row of a pool
pub sound_new_pool : (next_number : ℕ) (w : World) → IsSound next_number w → IsSound next_number (with_new_pool w)
sound_new_pool next_number w s =
    let more : length w.pools ≤ length (w.pools ++ new_pool w.limits ∷ []) = omega (arith, length-append w.pools (new_pool w.limits ∷ [])) in
    record {
      numbers = s.numbers;
      workers = s.workers;
      object_pools = all_below (λ (o : ObjectRow). o.env.pool.0) (length w.pools) (length (w.pools ++ new_pool w.limits ∷ [])) more w.objects s.object_pools;
      apart = s.apart;
      timers = s.timers;
      armings = s.armings;
      timeouts = s.timeouts;
      clock = s.clock;
      waits = s.waits;
      callback_objects = s.callback_objects;
      callback_pools = all_below (λ (c : CallbackRow). c.pool.0) (length w.pools) (length (w.pools ++ new_pool w.limits ∷ [])) more w.callbacks s.callback_pools;
      operations = s.operations;
      notices = s.notices;
    }

pub sound_pool : (next_number : ℕ) (w : World) (number : ℕ) (row : PoolRow) → IsSound next_number w → IsSound next_number (with_pool w number row)
sound_pool next_number w number row s =
    let as_many : length w.pools ≡ length (slice_set w.pools number row) = sym (length-set w.pools number row) in
    record {
      numbers = s.numbers;
      workers = s.workers;
      object_pools = subst (λ n. AllByRecursion (λ (o : ObjectRow). o.env.pool.0 < n) w.objects) as_many s.object_pools;
      apart = s.apart;
      timers = s.timers;
      armings = s.armings;
      timeouts = s.timeouts;
      clock = s.clock;
      waits = s.waits;
      callback_objects = s.callback_objects;
      callback_pools = subst (λ n. AllByRecursion (λ (c : CallbackRow). c.pool.0 < n) w.callbacks) as_many s.callback_pools;
      operations = s.operations;
      notices = s.notices;
    }

-- ---- each change

none_made : (next_number : ℕ) (w : World) → IsSound next_number w → IsSound (next_number + 0) w
none_made next_number w s = subst (λ n. IsSound n w) (omega arith) s

sound_change_pool : (next_number : ℕ) (w : World) (pool : ℕ) (how : PoolChange) (row : Option PoolRow) → IsSound next_number w → IsSound next_number (change_pool w pool how row)
sound_change_pool next_number w pool how None s = s
sound_change_pool next_number w pool how (Some row) s = sound_pool next_number w pool (pool_after how row) s

-- kernel objects change, and notices are given up
sound_beside : (next_number : ℕ) (w : World) (kernels : List KernelRow) (given_up : ℕ) → IsSound next_number w → IsSound next_number (record w { kernels = kernels; given_up = given_up })
sound_beside next_number w kernels given_up s =
    record {
      numbers = s.numbers;
      workers = s.workers;
      object_pools = s.object_pools;
      apart = s.apart;
      timers = s.timers;
      armings = s.armings;
      timeouts = s.timeouts;
      clock = s.clock;
      waits = s.waits;
      callback_pools = s.callback_pools;
      callback_objects = s.callback_objects;
      operations = s.operations;
      notices = s.notices;
    }

pub sound_kernels : (next_number : ℕ) (w : World) (kernels : List KernelRow) → IsSound next_number w → IsSound next_number (record w { kernels = kernels })
sound_kernels next_number w kernels s = sound_beside next_number w kernels w.given_up s

-- with the number that the next callback gets, and as many as there are
renumbered : (v : World) (f : Firing) (next_number first count : ℕ) → first ≡ next_number → count ≡ length f.jobs → IsSound (next_number + length f.jobs) (fired v next_number f) → IsSound (next_number + count) (fired v first f)
renumbered v f next_number first count number counted h = subst (λ n. IsSound (next_number + n) (fired v first f)) (sym counted) (subst (λ n. IsSound (next_number + length f.jobs) (fired v n f)) (sym number) h)

pending_idle : (status : Status) → is_pending status ≡ true → is_operating status ≡ false
pending_idle Pending e = refl
pending_idle _ e = absurd (false_true e)

-- groups change
pub sound_groups : (next_number : ℕ) (w : World) (groups : List GroupRow) → IsSound next_number w → IsSound next_number (record w { groups = groups })
sound_groups next_number w groups s =
    record {
      numbers = s.numbers;
      workers = s.workers;
      object_pools = s.object_pools;
      apart = s.apart;
      timers = s.timers;
      armings = s.armings;
      timeouts = s.timeouts;
      clock = s.clock;
      waits = s.waits;
      callback_pools = s.callback_pools;
      callback_objects = s.callback_objects;
      operations = s.operations;
      notices = s.notices;
    }

pub changed_sound : (next_number : ℕ) (w : World) (ch : Change) → IsSound next_number w → IsAllowed next_number w ch → IsSound (next_number + news ch) (changed w ch)
changed_sound next_number w change.Keep s a = none_made next_number w s
changed_sound next_number w change.CreatePool s a = none_made next_number (with_new_pool w) (sound_new_pool next_number w s)
changed_sound next_number w (change.ChangePool pool how) s a = none_made next_number (changed w (change.ChangePool pool how)) (sound_change_pool next_number w pool.0 how (slice_get w.pools pool.0) s)
changed_sound next_number w (change.CreateObject row) s a = none_made next_number (with_object w row) (sound_object next_number w row a.home s)
changed_sound next_number w (change.ReleaseObject object) s a = none_made next_number (changed w (change.ReleaseObject object)) (sound_release next_number w object (numbered w.objects object.0) refl a.idle s)
changed_sound next_number w (change.QueueCallback c) s a = sound_new_callback next_number w c a.number a.home a.object (λ operates. absurd (false_true (sym (pending_idle c.status a.pending) ∙ operates))) s
changed_sound next_number w (change.ExpectCallback c) s a = sound_new_callback next_number w c a.number a.home a.object (λ _. a.stands) s
changed_sound next_number w (change.Operate c how) s a = none_made next_number (changed w (change.Operate c how)) (sound_operated next_number w how c a.found a.status s)
changed_sound next_number w (change.Fire trigger first count) s a = renumbered w (firing trigger (sources_of w)) next_number first count a.number a.counted (sound_fired next_number w trigger a.ready s)
changed_sound next_number w (change.CreateKernel state) s a = none_made next_number (changed w (change.CreateKernel state)) (sound_kernels next_number w (w.kernels ++ new_kernel state ∷ []) s)
changed_sound next_number w (change.ChangeKernel kernel how) s a = none_made next_number (changed w (change.ChangeKernel kernel how)) (sound_kernels next_number w (kernel_changed (state_after how) w.kernels kernel.0) s)
changed_sound next_number w (change.Attach worker pool) s a = none_made next_number (changed w (change.Attach worker pool)) (sound_free_worker next_number w worker (record { pool = Some pool; callback = None; persistent = false }) refl s)
changed_sound next_number w (change.Detach by) s a = none_made next_number (changed w (change.Detach by)) (sound_free_worker next_number w by.worker unattached refl s)
changed_sound next_number w (change.Take by c) s a =
    none_made next_number (changed w (change.Take by c)) (sound_taken next_number w by.worker by.pool (by.persistent || c.persistent) c (numbered_some w.workers by.worker (record { pool = Some by.pool; callback = None; persistent = by.persistent }) a.idles).1 a.found a.pending a.home s)
changed_sound next_number w (change.Mark by mark) s a = none_made next_number (changed w (change.Mark by mark)) (sound_marked next_number w mark by.callback a.runs.found s)
changed_sound next_number w (change.Return by words first count) s a =
    let runs = a.runs in
    let of : Slots = slots_of by.callback.status in
    let f : Firing = returning w words of in
    let v : World = without_run w by in
    let sound : IsSound next_number v
    = sound_returned next_number w by.worker (record { pool = Some by.pool; callback = None; persistent = by.persistent }) by.pool by.callback
    (numbered_some w.workers by.worker (record { pool = Some by.pool; callback = Some by.callback.number; persistent = by.persistent }) runs.stands).1 refl
    (record { callback = by.callback; associated = runs.associated; slots = runs.slots; found = runs.found; runs = runs.running; at_home = runs.home }) runs.found s in
    let made : IsFiringIn w.objects f = returning_of (λ n. is_standing w.objects n ≡ true) (λ n. may_be_armed w.objects n ≡ true) (λ n may. armable_stands w.objects n may) w words of (sources_in next_number w s) in
    renumbered v f next_number first count a.number a.counted
    (sound_rows next_number (record v { settings = f.sources.settings; armings = f.sources.armings; kernels = f.sources.kernels; now = f.sources.now }) f.jobs (jobs_made w.objects f.jobs made.jobs)
    (sound_sources next_number v f.sources made.sources (λ object wait. (returning_counted object w words of (s.timeouts object wait)).timed) (omega (arith, s.clock, returning_now w words of)) sound))
changed_sound next_number w (change.BeginWait who awaited cancel) s a = none_made next_number (changed w (change.BeginWait who awaited cancel)) (sound_begin_wait next_number w who awaited cancel a.none a.made s)
changed_sound next_number w change.CreateGroup s a = none_made next_number (changed w change.CreateGroup) (sound_groups next_number w (w.groups ++ new_group ∷ []) s)
changed_sound next_number w (change.CloseGroup group) s a = none_made next_number (changed w (change.CloseGroup group)) (sound_groups next_number w (close_row w.groups group.0 (numbered w.groups group.0)) s)
changed_sound next_number w (change.BeginClose who group cancel context notices) s a = none_made next_number (changed w (change.BeginClose who group cancel context notices)) (sound_begin_close next_number w who group cancel context a.none a.idle s)
changed_sound next_number w (change.GiveNotice who) s a = none_made next_number (changed w (change.GiveNotice who)) (sound_notified next_number w who s)
changed_sound next_number w (change.EndWait who how) s a =
    none_made next_number (end_wait w who how) (sound_beside next_number (without_wait w who) (kernels_left w who how (wait_of w who)) (given_up_after w.given_up how (wait_of w who)) (sound_end_wait next_number w who s))
changed_sound next_number w (change.Finish client) s a = none_made next_number (changed w (change.Finish client)) (sound_client next_number w client finished s)

-- and it is true of the opening world
idle_workers : (cs : List CallbackRow) (first count : ℕ) → AreWorkersSound cs first (replicate count unattached)
idle_workers cs first zero = tt
idle_workers cs first (suc count) = (tt, idle_workers cs (first + 1) count)

pub opening_sound : (limits : Limits) → IsSound 1 (opening limits)
opening_sound limits =
    record {
      numbers = omega arith;
      workers = idle_workers [] 1 limits.workers;
      object_pools = tt;
      apart = tt;
      timers = tt;
      armings = tt;
      timeouts = λ object wait. record { few = omega arith; once = tt };
      clock = omega arith;
      waits = tt;
      callback_pools = tt;
      callback_objects = tt;
      operations = tt;
      notices = tt;
    }
