-- An allowed change keeps the numbers of things within the limits.
use Rattle.std.proofs.Common.{◌≡◌, ℕ, ℤ, zero, suc, ◌+◌, ◌-◌, ◌≤◌, ◌||◌, Bool, true, false, cond, not, List, [], ◌∷◌, filter, length, slice_get, slice_set, Option, Some, None, refl, sym, ap, ◌∙◌, arith, subst, ltb-false, length-append, length-set}
use Rattle.std.specs.List.{find}
use Rattle.std.proofs.lemmas.List.{length-map}
use Rattle.std.proofs.lemmas.List.Sums.{length-filter, count_by-le-length}
use Rattle.tp_base.specs.declared.limits.Limits.{Limits}
use Rattle.tp_base.specs.declared.ids.KernelId.{KernelId}
use Rattle.tp_base.specs.declared.ids.ObjectId.{ObjectId}
use Rattle.tp_base.specs.declared.plans.Change.{Change}
use Rattle.tp_base.specs.declared.plans.Change.TheVariants as change
use Rattle.tp_base.specs.declared.plans.KernelChange.{KernelChange}
use Rattle.tp_base.specs.declared.plans.PoolChange.{PoolChange}
use Rattle.tp_base.specs.declared.plans.Trigger.{Trigger}
use Rattle.tp_base.specs.declared.plans.Trigger.TheVariants.{SetTimer, Advance, SetWait, SetEvent, ReleaseSemaphore}
use Rattle.tp_base.specs.declared.plans.KernelChange.TheVariants.{Set, Raise, Leave}
use Rattle.tp_base.specs.declared.plans.WaitEnd.{WaitEnd}
use Rattle.tp_base.specs.declared.plans.WaitEnd.TheVariants.{Free}
use Rattle.tp_base.specs.declared.plans.ActionWords.{ActionWords}
use Rattle.tp_base.specs.declared.rows.Arming.{Arming}
use Rattle.tp_base.specs.declared.rows.GroupRow.{GroupRow}
use Rattle.tp_base.specs.declared.rows.KernelRow.{KernelRow}
use Rattle.tp_base.specs.declared.rows.KernelState.{KernelState}
use Rattle.tp_base.specs.declared.rows.ObjectRow.{ObjectRow}
use Rattle.tp_base.specs.declared.rows.PoolRow.{PoolRow}
use Rattle.tp_base.specs.declared.rows.Slots.{Slots}
use Rattle.tp_base.specs.declared.rows.TimerSetting.{TimerSetting}
use Rattle.tp_base.specs.declared.rows.WaitTarget.{WaitTarget}
use Rattle.tp_base.specs.declared.rows.WaitTarget.TheVariants.{Kernel}
use Rattle.tp_base.specs.Armings.{is_arming_on, is_arming_of, without_arming}
use Rattle.tp_base.specs.Ranges.{AreLimitsInRange}
use Rattle.tp_base.specs.Kernels.{is_signalled, state_after, taken as taken_kernel, taken_by}
use Rattle.tp_base.specs.Timers.{expires_at_once, without_setting}
use Rattle.tp_model.specs.Actions.{returning, slots_of}
use Rattle.tp_model.specs.Changes.{change_pool, changed, finished, kernels_left, kernels_taken, pool_after, release_object}
use Rattle.tp_model.specs.Counts.{numbered, slots}
use Rattle.tp_model.specs.Groups.{close_row, is_member, is_object_that, new_group, released_from}
use Rattle.tp_model.specs.Kernels.{is_one_that, kernel_changed, new_kernel, with_row}
use Rattle.tp_model.specs.Sources.{arm, disarmed, firing, jobless, release_first, release_times, release_to, signal, sources_of, with_state, Firing, Sources}
use Rattle.tp_model.specs.Support.Allowed.{IsAllowed, news}
use Rattle.tp_model.specs.Support.Remembered.{forget, lives}
use Rattle.tp_model.specs.Waits.{wait_of}
use Rattle.tp_model.specs.World.{new_pool, unattached, BegunWait, World}
use Rattle.tp_model.proofs.Growing.{grows}
use Rattle.tp_model.proofs.Performing.{performed_keeps, returning_within}
use Rattle.plain_worlds.specs.Reachable.{IsWithin}

few_pass : {X : Type 0} (p : X → Bool) (xs : List X) → length (filter p xs) ≤ length xs
few_pass p xs = omega (arith, length-filter p xs, count_by-le-length p xs)

-- ---- kernel objects: what fires makes none

changed_length : (f : KernelState → KernelState) (rows : List KernelRow) (kernel : ℕ) → length (kernel_changed f rows kernel) ≡ length rows
changed_length f rows kernel = known (numbered rows kernel)
  where
    known : (o : Option KernelRow) → length (with_row f rows kernel o) ≡ length rows
    known None = refl
    known (Some row) = length-set rows (kernel - 1) (record row { state = f row.state })

-- as many as before
abbrev HasAsMany : ℕ → Firing → Type 0
HasAsMany n f = length f.sources.kernels ≡ n

release_to_keeps : (n kernel : ℕ) (f : Firing) (first : Option Arming) → HasAsMany n f → HasAsMany n (release_to kernel f first)
release_to_keeps n kernel f None h = h
release_to_keeps n kernel f (Some a) h = changed_length taken_kernel f.sources.kernels kernel ∙ h

either : (n : ℕ) (b : Bool) (f g : Firing) → HasAsMany n f → HasAsMany n g → HasAsMany n (cond b f g)
either n true f g h k = h
either n false f g h k = k

release_times_keeps : (n times kernel : ℕ) (f : Firing) → HasAsMany n f → HasAsMany n (release_times times kernel f)
release_times_keeps n zero kernel f h = h
release_times_keeps n (suc times) kernel f h =
    release_times_keeps n times kernel (release_first kernel f)
    (either n (is_one_that is_signalled f.sources.kernels kernel) (release_to kernel f (find (is_arming_on kernel) f.sources.armings)) f (release_to_keeps n kernel f (find (is_arming_on kernel) f.sources.armings) h) h)

signal_keeps : (n : ℕ) (how : KernelChange) (kernel : ℕ) (f : Firing) → HasAsMany n f → HasAsMany n (signal how kernel f)
signal_keeps n how kernel f h =
    release_times_keeps n (length f.sources.armings) kernel (record f { sources = with_state (state_after how) kernel f.sources }) (changed_length (state_after how) f.sources.kernels kernel ∙ h)

arm_keeps : (object : ObjectId) (kernel : KernelId) (timeout : Option ℤ) (s : Sources) → HasAsMany (length s.kernels) (arm object kernel timeout s)
arm_keeps object kernel timeout s =
    let n : ℕ = length s.kernels in
    either n (is_one_that is_signalled s.kernels kernel.0) _ _ (changed_length taken_kernel s.kernels kernel.0) (either n (expires_at_once s.now timeout) _ _ refl refl)

firing_kernels : (t : Trigger) (s : Sources) → length (firing t s).sources.kernels ≡ length s.kernels
firing_kernels (SetTimer object due period window) s = refl
firing_kernels (Advance now) s = refl
firing_kernels (SetWait object None timeout) s = refl
firing_kernels (SetWait object (Some kernel) timeout) s = arm_keeps object kernel timeout (disarmed object s)
firing_kernels (SetEvent kernel) s = signal_keeps (length s.kernels) Set kernel.0 (jobless s) refl
firing_kernels (ReleaseSemaphore kernel count) s = signal_keeps (length s.kernels) (Raise count) kernel.0 (jobless s) refl

returning_kernels : (w : World) (words : ActionWords) (of : Slots) → length (returning w words of).sources.kernels ≡ length w.kernels
returning_kernels w words of =
    performed_keeps (HasAsMany (length w.kernels)) (λ how _ kernel f h. signal_keeps (length w.kernels) how kernel f h) (λ kernel f h. changed_length (state_after Leave) f.sources.kernels kernel ∙ h) words of (jobless (sources_of w)) refl

-- ---- each change

-- a pool that changes changes nothing else
beside_pools : {A : Type 0} (f : World → A) (w : World) (pool : ℕ) (how : PoolChange) (o : Option PoolRow) → ((pools : List PoolRow) → f (record w { pools = pools }) ≡ f w) → f (change_pool w pool how o) ≡ f w
beside_pools f w pool how None same = refl
beside_pools f w pool how (Some row) same = same (slice_set w.pools pool (pool_after how row))

-- nor does an object that is released, but what is set and armed
beside_objects : {A : Type 0} (f : World → A) (w : World) (object : ObjectId) (o : Option ObjectRow)
    → ((objects : List ObjectRow) (settings : List TimerSetting) (armings : List Arming) → f (record w { objects = objects; settings = settings; armings = armings }) ≡ f w) → f (release_object w object o) ≡ f w
beside_objects f w object None same = refl
beside_objects f w object (Some row) same = same (slice_set w.objects (object.0 - 1) (record row { released = true })) (without_setting object w.settings) (without_arming object.0 w.armings)

limits_kept : (w : World) (ch : Change) → (changed w ch).limits ≡ w.limits
limits_kept w (change.ChangePool pool how) = beside_pools (λ v. v.limits) w pool.0 how (slice_get w.pools pool.0) (λ _. refl)
limits_kept w (change.ReleaseObject object) = beside_objects (λ v. v.limits) w object (numbered w.objects object.0) (λ _ _ _. refl)
limits_kept w _ = refl

clients_kept : (w : World) (ch : Change) → length (changed w ch).clients ≡ length w.clients
clients_kept w (change.ChangePool pool how) = beside_pools (λ v. length v.clients) w pool.0 how (slice_get w.pools pool.0) (λ _. refl)
clients_kept w (change.ReleaseObject object) = beside_objects (λ v. length v.clients) w object (numbered w.objects object.0) (λ _ _ _. refl)
clients_kept w (change.Finish client) = length-set w.clients (client - 1) finished
clients_kept w _ = refl

workers_kept : (w : World) (ch : Change) → length (changed w ch).workers ≡ length w.workers
workers_kept w (change.ChangePool pool how) = beside_pools (λ v. length v.workers) w pool.0 how (slice_get w.pools pool.0) (λ _. refl)
workers_kept w (change.ReleaseObject object) = beside_objects (λ v. length v.workers) w object (numbered w.objects object.0) (λ _ _ _. refl)
workers_kept w (change.Attach worker pool) = length-set w.workers (worker - 1) (record { pool = Some pool; callback = None; persistent = false })
workers_kept w (change.Detach by) = length-set w.workers (by.worker - 1) unattached
workers_kept w (change.Take by callback) = length-set w.workers (by.worker - 1) (record { pool = Some by.pool; callback = Some callback.number; persistent = by.persistent || callback.persistent })
workers_kept w (change.Return by words first count) = length-set w.workers (by.worker - 1) (record { pool = Some by.pool; callback = None; persistent = by.persistent })
workers_kept w _ = refl

module _ (next_number : ℕ) (w : World) where
  pools_kept : (ch : Change) → IsAllowed next_number w ch → length w.pools ≤ w.limits.pools → length (changed w ch).pools ≤ w.limits.pools
  pools_kept change.CreatePool a h = omega (arith, length-append w.pools (new_pool w.limits ∷ []), a)
  pools_kept (change.ChangePool pool how) a h = of_pool (slice_get w.pools pool.0)
    where
      of_pool : (o : Option PoolRow) → length (change_pool w pool.0 how o).pools ≤ w.limits.pools
      of_pool None = h
      of_pool (Some row) = omega (arith, length-set w.pools pool.0 (pool_after how row), h)
  pools_kept (change.ReleaseObject object) a h = omega (arith, beside_objects (λ v. length v.pools) w object (numbered w.objects object.0) (λ _ _ _. refl), h)
  pools_kept _ a h = h

  groups_kept : (ch : Change) → IsAllowed next_number w ch → length w.groups ≤ w.limits.groups → length (changed w ch).groups ≤ w.limits.groups
  groups_kept (change.ChangePool pool how) a h = omega (arith, beside_pools (λ v. length v.groups) w pool.0 how (slice_get w.pools pool.0) (λ _. refl), h)
  groups_kept (change.ReleaseObject object) a h = omega (arith, beside_objects (λ v. length v.groups) w object (numbered w.objects object.0) (λ _ _ _. refl), h)
  groups_kept change.CreateGroup a h = omega (arith, length-append w.groups (new_group ∷ []), a)
  groups_kept (change.CloseGroup group) a h = of_group (numbered w.groups group.0)
    where
      of_group : (o : Option GroupRow) → length (close_row w.groups group.0 o) ≤ w.limits.groups
      of_group None = h
      of_group (Some row) = omega (arith, length-set w.groups (group.0 - 1) (record row { closed = true }), h)
  groups_kept _ a h = h

  objects_kept : (ch : Change) → IsAllowed next_number w ch → length w.objects ≤ w.limits.objects → length (changed w ch).objects ≤ w.limits.objects
  objects_kept (change.ChangePool pool how) a h = omega (arith, beside_pools (λ v. length v.objects) w pool.0 how (slice_get w.pools pool.0) (λ _. refl), h)
  objects_kept (change.CreateObject row) a h = omega (arith, length-append w.objects (row ∷ []), a.room)
  objects_kept (change.ReleaseObject object) a h = of_object (numbered w.objects object.0)
    where
      of_object : (o : Option ObjectRow) → length (release_object w object o).objects ≤ w.limits.objects
      of_object None = h
      of_object (Some row) = omega (arith, length-set w.objects (object.0 - 1) (record row { released = true }), h)
  objects_kept (change.BeginClose who group cancel context notices) a h = omega (arith, length-map w.objects (released_from group.0), h)
  objects_kept _ a h = h

  kernels_kept : (ch : Change) → IsAllowed next_number w ch → length w.kernels ≤ w.limits.kernels → length (changed w ch).kernels ≤ w.limits.kernels
  kernels_kept (change.ChangePool pool how) a h = omega (arith, beside_pools (λ v. length v.kernels) w pool.0 how (slice_get w.pools pool.0) (λ _. refl), h)
  kernels_kept (change.ReleaseObject object) a h = omega (arith, beside_objects (λ v. length v.kernels) w object (numbered w.objects object.0) (λ _ _ _. refl), h)
  kernels_kept (change.Fire trigger first count) a h = omega (arith, firing_kernels trigger (sources_of w), h)
  kernels_kept (change.CreateKernel state) a h = omega (arith, length-append w.kernels (new_kernel state ∷ []), a.room)
  kernels_kept (change.ChangeKernel kernel how) a h = omega (arith, changed_length (state_after how) w.kernels kernel.0, h)
  kernels_kept (change.Return by words first count) a h = omega (arith, returning_kernels w words (slots_of by.callback.status), h)
  kernels_kept (change.EndWait who how) a h = of_end how (wait_of w who)
    where
      of_target : (t : WaitTarget) → length (kernels_taken w who t) ≤ w.limits.kernels
      of_target (Kernel kernel) = omega (arith, changed_length (taken_by who) w.kernels kernel.0, h)
      of_target _ = h

      of_end : (how : WaitEnd) (b : Option BegunWait) → length (kernels_left w who how b) ≤ w.limits.kernels
      of_end Free (Some b) = of_target b.target
      of_end _ _ = h
  kernels_kept _ a h = h

  -- with the callbacks that are made, before what is over is dropped
  slots_kept : (ch : Change) → IsAllowed next_number w ch → slots w ≡ length w.callbacks + length w.armings → length w.callbacks + length w.armings ≤ w.limits.slots → length w.callbacks + news ch + length (changed w ch).armings ≤ w.limits.slots
  slots_kept (change.ChangePool pool how) a all h = omega (arith, beside_pools (λ v. length v.armings) w pool.0 how (slice_get w.pools pool.0) (λ _. refl), h)
  slots_kept (change.ReleaseObject object) a all h = of_object (numbered w.objects object.0)
    where
      of_object : (o : Option ObjectRow) → length w.callbacks + 0 + length (release_object w object o).armings ≤ w.limits.slots
      of_object None = omega (arith, h)
      of_object (Some row) = omega (arith, few_pass (λ a. not (is_arming_of object.0 a)) w.armings, h)
  slots_kept (change.QueueCallback callback) a all h = omega (arith, all, ltb-false w.limits.slots (slots w + 1) a.room)
  slots_kept (change.ExpectCallback callback) a all h = omega (arith, all, ltb-false w.limits.slots (slots w + 1) a.room)
  slots_kept (change.Fire trigger first count) a all h = omega (arith, all, a.counted, a.room (omega (arith, all, h)))
  slots_kept (change.Return by words first count) a all h = omega (arith, a.counted, returning_within w words (slots_of by.callback.status), h)
  slots_kept (change.BeginClose who group cancel context notices) a all h = omega (arith, few_pass (λ (a : Arming). not (is_object_that (is_member group.0) w.objects a.object.0)) w.armings, h)
  slots_kept _ a all h = omega (arith, h)

  pub within_kept : (ch : Change) → IsAllowed next_number w ch → forget w ≡ w → IsWithin w → IsWithin (forget (changed w ch))
  within_kept ch a living k =
      let same : (changed w ch).limits ≡ w.limits = limits_kept w ch in
      let all : slots w ≡ length w.callbacks + length w.armings = ap (λ (v : World). length v.callbacks + length w.armings) living in
      record {
        limits = subst AreLimitsInRange (sym same) k.limits;
        clients = clients_kept w ch ∙ k.clients ∙ ap (λ (l : Limits). l.clients) (sym same);
        workers = workers_kept w ch ∙ k.workers ∙ ap (λ (l : Limits). l.workers) (sym same);
        pools = omega (arith, pools_kept ch a k.pools, ap (λ (l : Limits). l.pools) same);
        groups = omega (arith, groups_kept ch a k.groups, ap (λ (l : Limits). l.groups) same);
        objects = omega (arith, objects_kept ch a k.objects, ap (λ (l : Limits). l.objects) same);
        kernels = omega (arith, kernels_kept ch a k.kernels, ap (λ (l : Limits). l.kernels) same);
        slots = omega (arith, few_pass lives (changed w ch).callbacks, grows next_number w ch a, slots_kept ch a all k.slots, ap (λ (l : Limits). l.slots) same);
      }
