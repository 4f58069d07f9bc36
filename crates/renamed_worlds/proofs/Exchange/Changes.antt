-- What a change makes of a world where two workers change places is what it makes of the world, with these in the other's place.
use Rattle.std.proofs.Common.{◌≡◌, ℕ, zero, suc, ◌+◌, ◌<◌, ◌≤◌, ◌||◌, not, Bool, true, false, cond, List, [], ◌∷◌, ◌++◌, length, map, slice_get, Option, Some, None, option_map, refl, sym, ap, ap₂, ◌∙◌, filter, arith}
use Rattle.std.proofs.lemmas.List.{map-append}
use Rattle.tp_base.specs.Actors.{is_same_actor}
use Rattle.tp_base.specs.declared.answers.ActionKind.{ActionKind}
use Rattle.tp_base.specs.declared.ids.ObjectId.{ObjectId}
use Rattle.tp_base.specs.declared.ids.Who.{Who}
use Rattle.tp_base.specs.declared.plans.Busy.{Busy}
use Rattle.tp_base.specs.declared.plans.Change.{Change}
use Rattle.tp_base.specs.declared.plans.Change.TheVariants as change
use Rattle.tp_base.specs.declared.plans.Mark.{Mark}
use Rattle.tp_base.specs.declared.plans.Mark.TheVariants.{Asks, Long, Loose}
use Rattle.tp_base.specs.declared.plans.PoolChange.{PoolChange}
use Rattle.tp_base.specs.declared.plans.WaitEnd.{WaitEnd}
use Rattle.tp_base.specs.declared.plans.WaitEnd.TheVariants.{Exhausted, Free, Stalled}
use Rattle.tp_base.specs.declared.rows.CallbackRow.{CallbackRow}
use Rattle.tp_base.specs.declared.rows.KernelRow.{KernelRow}
use Rattle.tp_base.specs.declared.rows.ObjectRow.{ObjectRow}
use Rattle.tp_base.specs.declared.rows.PoolRow.{PoolRow}
use Rattle.tp_base.specs.declared.rows.WaitTarget.{WaitTarget}
use Rattle.tp_base.specs.declared.rows.WaitTarget.TheVariants.{Group, Kernel, Object}
use Rattle.tp_base.specs.declared.rows.WorkerRow.{WorkerRow}
use Rattle.tp_model.specs.World.{World, BegunWait}
use Rattle.tp_model.specs.Actions.{returning, slots_of}
use Rattle.tp_model.specs.Changes.{change_pool, changed, end_wait, give_notice, given_up_after, kernels_left, marked, new_close, new_wait, notified, operated, release_object, replaced, returned, taken, with_callback, with_worker, without_run}
use Rattle.tp_model.specs.Counts.{has_number, numbered}
use Rattle.tp_model.specs.Groups.{notices_of, without_members}
use Rattle.tp_model.specs.Sources.{Firing, Job, fired, firing, new_callback, object_row, rows_of, sources_of}
use Rattle.tp_model.specs.Waits.{cancel_where, is_cancelled_by, target_of, wait_of}
use Rattle.renamed_worlds.specs.Exchanged.{exchanged, exchanged_busy, exchanged_callback, exchanged_change, exchanged_how, exchanged_kernel, exchanged_number, exchanged_state, exchanged_status, exchanged_wait, exchanged_who, IsByWorker}
use Rattle.renamed_worlds.proofs.Mapped.{filter_map}
use Rattle.renamed_worlds.proofs.Exchange.Queries.{slots_same, wait_exchanged}
use Rattle.renamed_worlds.proofs.Exchange.Rows.{same_who, set_exchanged}
use Rattle.renamed_worlds.proofs.Exchange.Actions.{returning_exchanged}
use Rattle.renamed_worlds.proofs.Exchange.Kernels.{exchanged_firing, firing_exchanged, kernel_exchanged, state_exchanged}
use Rattle.tp_base.specs.Kernels.{state_after, taken_by}
use Rattle.tp_base.specs.declared.plans.IoStep.{IoStep}
use Rattle.tp_base.specs.declared.plans.IoStep.TheVariants.{Complete, GiveUp, Issue}
use Rattle.tp_base.specs.declared.rows.Action.{Action}
use Rattle.tp_base.specs.declared.rows.KernelState.{KernelState}
use Rattle.tp_base.specs.declared.rows.KernelState.TheVariants.{Event, Mutex, Section, Semaphore}
use Rattle.tp_base.specs.declared.rows.Status.{Status}
use Rattle.tp_base.specs.declared.rows.Status.TheVariants.{Cancelled, Expected, Issued, Pending, Returned, Running}
use Rattle.tp_model.specs.Support.Allowed.{IsAllowed}
use Rattle.tp_model.specs.Actions.{asking}
use Rattle.tp_model.specs.Changes.{loosened, kernels_taken}
use Rattle.tp_model.specs.Kernels.{new_kernel}
use Rattle.tp_model.proofs.Refusals.{numbered_some}
use Rattle.renamed_worlds.proofs.Exchange.Waiting.{cancel_exchanged, covered_behind}

module _ (at : ℕ) where
  -- ---- rows of callbacks

  replaced_exchanged : (r : CallbackRow) (cs : List CallbackRow) → replaced (exchanged_callback at r) (map (exchanged_callback at) cs) ≡ map (exchanged_callback at) (replaced r cs)
  replaced_exchanged r [] = refl
  replaced_exchanged r (c ∷ cs) = ap₂ (λ x xs. x ∷ xs) (one (has_number r.number c)) (replaced_exchanged r cs)
    where
      one : (b : Bool) → cond b (exchanged_callback at r) (exchanged_callback at c) ≡ exchanged_callback at (cond b r c)
      one true = refl
      one false = refl

  loosened_exchanged : (s : Status) → loosened (exchanged_status at s) ≡ exchanged_status at (loosened s)
  loosened_exchanged Expected = refl
  loosened_exchanged Issued = refl
  loosened_exchanged Pending = refl
  loosened_exchanged (Running worker associated slots) = refl
  loosened_exchanged Returned = refl
  loosened_exchanged Cancelled = refl

  asking_exchanged : (kind : ActionKind) (action : Action) (s : Status) → asking kind action (exchanged_status at s) ≡ exchanged_status at (asking kind action s)
  asking_exchanged kind action Expected = refl
  asking_exchanged kind action Issued = refl
  asking_exchanged kind action Pending = refl
  asking_exchanged kind action (Running worker associated slots) = refl
  asking_exchanged kind action Returned = refl
  asking_exchanged kind action Cancelled = refl

  marked_exchanged : (mark : Mark) (c : CallbackRow) → marked mark (exchanged_callback at c) ≡ exchanged_callback at (marked mark c)
  marked_exchanged Long c = refl
  marked_exchanged Loose c = ap (λ (s : Status). record c { status = s }) (loosened_exchanged c.status)
  marked_exchanged (Asks kind action) c = ap (λ (s : Status). record c { status = s }) (asking_exchanged kind action c.status)

  operated_exchanged : (how : IoStep) (c : CallbackRow) → operated how (exchanged_callback at c) ≡ exchanged_callback at (operated how c)
  operated_exchanged Issue c = refl
  operated_exchanged GiveUp c = refl
  operated_exchanged (Complete error bytes) c = refl

  -- new callbacks are run by nobody
  rows_exchanged : (objects : List ObjectRow) (next_number : ℕ) (jobs : List Job) → rows_of objects next_number jobs ≡ map (exchanged_callback at) (rows_of objects next_number jobs)
  rows_exchanged objects next_number [] = refl
  rows_exchanged objects next_number (job ∷ jobs) = ap (λ rows. new_callback next_number job.object (object_row objects job.object) job.result ∷ rows) (rows_exchanged objects (next_number + 1) jobs)

  fired_exchanged : (w : World) (next_number : ℕ) (f : Firing) → fired (exchanged at w) next_number (exchanged_firing at f) ≡ exchanged at (fired w next_number f)
  fired_exchanged w next_number f =
      ap (λ (cs : List CallbackRow). record (exchanged at w) { settings = f.sources.settings; armings = f.sources.armings; kernels = map (exchanged_kernel at) f.sources.kernels; now = f.sources.now; callbacks = cs })
      (ap (λ rows. map (exchanged_callback at) w.callbacks ++ rows) (rows_exchanged w.objects next_number f.jobs) ∙ sym (map-append (exchanged_callback at) w.callbacks (rows_of w.objects next_number f.jobs)))

  appended_exchanged : (w : World) (c : CallbackRow) → changed (exchanged at w) (change.QueueCallback (exchanged_callback at c)) ≡ exchanged at (changed w (change.QueueCallback c))
  appended_exchanged w c = ap (λ (cs : List CallbackRow). record (exchanged at w) { callbacks = cs }) (sym (map-append (exchanged_callback at) w.callbacks (c ∷ [])))

  with_row : (w : World) (r : CallbackRow) → with_callback (exchanged at w) (exchanged_callback at r) ≡ exchanged at (with_callback w r)
  with_row w r = ap (λ (cs : List CallbackRow). record (exchanged at w) { callbacks = cs }) (replaced_exchanged r w.callbacks)

  -- ---- rows of workers

  staff_exchanged : (w : World) → at + 1 < length w.workers → (number : ℕ) (r : WorkerRow) → 1 ≤ number → with_worker (exchanged at w) (exchanged_number at number) r ≡ exchanged at (with_worker w number r)
  staff_exchanged w fits zero r some = absurd (omega (arith, some))
  staff_exchanged w fits (suc place) r some = ap (λ (rs : List WorkerRow). record (exchanged at w) { workers = rs }) (set_exchanged at place w.workers r fits)

  -- ---- pools and objects

  pool_exchanged : (w : World) (pool : ℕ) (how : PoolChange) (row : Option PoolRow) → change_pool (exchanged at w) pool how row ≡ exchanged at (change_pool w pool how row)
  pool_exchanged w pool how None = refl
  pool_exchanged w pool how (Some row) = refl

  release_exchanged : (w : World) (object : ObjectId) (row : Option ObjectRow) → release_object (exchanged at w) object row ≡ exchanged at (release_object w object row)
  release_exchanged w object None = refl
  release_exchanged w object (Some row) = refl

  -- ---- waits

  begun_exchanged : (w : World) (b : BegunWait) (kept : List CallbackRow) (waits : List BegunWait)
      → record (exchanged at w) { callbacks = map (exchanged_callback at) kept; waits = map (exchanged_wait at) waits ++ exchanged_wait at b ∷ [] } ≡ exchanged at (record w { callbacks = kept; waits = waits ++ b ∷ [] })
  begun_exchanged w b kept waits = ap (λ (bs : List BegunWait). record (exchanged at w) { callbacks = map (exchanged_callback at) kept; waits = bs }) (sym (map-append (exchanged_wait at) waits (b ∷ [])))

  notice_exchanged : (who : Who) (bs : List BegunWait) → give_notice (exchanged_who at who) (map (exchanged_wait at) bs) ≡ map (exchanged_wait at) (give_notice who bs)
  notice_exchanged who [] = refl
  notice_exchanged who (b ∷ bs) = ap₂ (λ x xs. x ∷ xs) (ap (λ t. cond t (notified (exchanged_wait at b)) (exchanged_wait at b)) (same_who at b.actor who) ∙ one (is_same_actor b.actor who)) (notice_exchanged who bs)
    where
      one : (t : Bool) → cond t (notified (exchanged_wait at b)) (exchanged_wait at b) ≡ exchanged_wait at (cond t (notified b) b)
      one true = refl
      one false = refl

  taken_by_exchanged : (who : Who) (s : KernelState) → taken_by (exchanged_who at who) (exchanged_state at s) ≡ exchanged_state at (taken_by who s)
  taken_by_exchanged who (Event manual signalled) = refl
  taken_by_exchanged who (Semaphore count maximum) = refl
  taken_by_exchanged who (Mutex owner takings) = refl
  taken_by_exchanged who (Section owner takings) = refl

  left_exchanged : (w : World) (who : Who) (how : WaitEnd) (o : Option BegunWait) → kernels_left (exchanged at w) (exchanged_who at who) how (option_map (exchanged_wait at) o) ≡ map (exchanged_kernel at) (kernels_left w who how o)
  left_exchanged w who Exhausted o = refl
  left_exchanged w who Stalled o = refl
  left_exchanged w who Free None = refl
  left_exchanged w who Free (Some b) = of_target b.target
    where
      of_target : (target : WaitTarget) → kernels_taken (exchanged at w) (exchanged_who at who) target ≡ map (exchanged_kernel at) (kernels_taken w who target)
      of_target (Object object) = refl
      of_target (Group group) = refl
      of_target (Kernel kernel) = kernel_exchanged at (taken_by (exchanged_who at who)) (taken_by who) (taken_by_exchanged who) w.kernels kernel.0

  given_exchanged : (before : ℕ) (how : WaitEnd) (o : Option BegunWait) → given_up_after before how (option_map (exchanged_wait at) o) ≡ given_up_after before how o
  given_exchanged before Free o = refl
  given_exchanged before Exhausted o = refl
  given_exchanged before Stalled None = refl
  given_exchanged before Stalled (Some b) = refl

  end_exchanged : (w : World) → at + 1 < length w.workers → (who : Who) (how : WaitEnd) → end_wait (exchanged at w) (exchanged_who at who) how ≡ exchanged at (end_wait w who how)
  end_exchanged w fits who how =
      ap₂ (λ (bs : List BegunWait) (o : Option BegunWait). record (exchanged at w) { waits = bs; kernels = kernels_left (exchanged at w) (exchanged_who at who) how o; given_up = given_up_after w.given_up how o })
      (filter_map (exchanged_wait at) (λ (b : BegunWait). not (is_same_actor b.actor (exchanged_who at who))) (λ (b : BegunWait). not (is_same_actor b.actor who)) (λ b. ap not (same_who at b.actor who)) w.waits) (wait_exchanged at w fits who)
      ∙ ap₂ (λ (ks : List KernelRow) (n : ℕ). record (exchanged at w) { waits = map (exchanged_wait at) (filter (λ (b : BegunWait). not (is_same_actor b.actor who)) w.waits); kernels = ks; given_up = n })
      (left_exchanged w who how (wait_of w who)) (given_exchanged w.given_up how (wait_of w who))

  -- ---- each change

  module _ (w : World) (fits : at + 1 < length w.workers) where
    without_exchanged : (by : Busy) → 1 ≤ by.worker → without_run (exchanged at w) (exchanged_busy at by) ≡ exchanged at (without_run w by)
    without_exchanged by some =
        let r : WorkerRow = record { pool = Some by.pool; callback = None; persistent = by.persistent } in
        ap (λ v. with_worker v (exchanged_number at by.worker) r) (with_row w (returned by.callback)) ∙ staff_exchanged (with_callback w (returned by.callback)) fits by.worker r some

    pub changed_exchanged : (how : Change) → IsByWorker how → changed (exchanged at w) (exchanged_change at how) ≡ exchanged at (changed w how)
    changed_exchanged change.Keep a = refl
    changed_exchanged change.CreatePool a = refl
    changed_exchanged (change.ChangePool pool how) a = pool_exchanged w pool.0 how (slice_get w.pools pool.0)
    changed_exchanged change.CreateGroup a = refl
    changed_exchanged (change.CloseGroup group) a = refl
    changed_exchanged (change.CreateObject row) a = refl
    changed_exchanged (change.ReleaseObject object) a = release_exchanged w object (numbered w.objects object.0)
    changed_exchanged (change.QueueCallback c) a = appended_exchanged w c
    changed_exchanged (change.ExpectCallback c) a = appended_exchanged w c
    changed_exchanged (change.Operate c how) a = ap (with_callback (exchanged at w)) (operated_exchanged how c) ∙ with_row w (operated how c)
    changed_exchanged (change.Fire trigger first count) a = ap (fired (exchanged at w) first) (firing_exchanged at trigger (sources_of w)) ∙ fired_exchanged w first (firing trigger (sources_of w))
    changed_exchanged (change.CreateKernel s) a = ap (λ (ks : List KernelRow). record (exchanged at w) { kernels = ks }) (sym (map-append (exchanged_kernel at) w.kernels (new_kernel s ∷ [])))
    changed_exchanged (change.ChangeKernel object how) a =
        ap (λ (ks : List KernelRow). record (exchanged at w) { kernels = ks }) (kernel_exchanged at (state_after (exchanged_how at how)) (state_after how) (state_exchanged at how) w.kernels object.0)
    changed_exchanged (change.Attach worker pool) a = staff_exchanged w fits worker (record { pool = Some pool; callback = None; persistent = false }) a
    changed_exchanged (change.Detach by) a = staff_exchanged w fits by.worker (record { pool = None; callback = None; persistent = false }) a
    changed_exchanged (change.Take by c) a =
        let r : WorkerRow = record { pool = Some by.pool; callback = Some c.number; persistent = by.persistent || c.persistent } in
        ap (λ v. with_worker v (exchanged_number at by.worker) r) (with_row w (taken c by.worker)) ∙ staff_exchanged (with_callback w (taken c by.worker)) fits by.worker r a
    changed_exchanged (change.Mark by mark) a = ap (with_callback (exchanged at w)) (marked_exchanged mark by.callback) ∙ with_row w (marked mark by.callback)
    changed_exchanged (change.Return by words first count) a =
        let slots = slots_of by.callback.status in
        ap (λ v. fired v first (returning (exchanged at w) words (slots_of (exchanged_status at by.callback.status)))) (without_exchanged by a)
        ∙ ap (λ ss. fired (exchanged at (without_run w by)) first (returning (exchanged at w) words ss)) (slots_same at by.callback.status)
        ∙ ap (fired (exchanged at (without_run w by)) first) (returning_exchanged at w words slots)
        ∙ fired_exchanged (without_run w by) first (returning w words slots)
    changed_exchanged (change.BeginWait who awaited cancel) a =
        let target : WaitTarget = target_of awaited in
        let kept : List CallbackRow = cancel_where (is_cancelled_by target cancel) w.callbacks in
        ap₂ (λ (cs : List CallbackRow) (ns : List ℕ). record (exchanged at w) { callbacks = cs; waits = map (exchanged_wait at) w.waits ++ record { actor = exchanged_who at who; target = target; covered = ns; notices = []; cleanup = 0 } ∷ [] })
        (cancel_exchanged at target cancel w.callbacks) (covered_behind at target cancel w.callbacks)
        ∙ begun_exchanged w (new_wait who target cancel kept) kept w.waits
    changed_exchanged (change.BeginClose who group cancel context notices) a =
        let v : World = without_members w group.0 in
        let kept : List CallbackRow = cancel_where (is_cancelled_by (Group group) cancel) w.callbacks in
        ap₂ (λ (cs : List CallbackRow) (ns : List ℕ). record (exchanged at v) { callbacks = cs; waits = map (exchanged_wait at) w.waits ++ record { actor = exchanged_who at who; target = Group group; covered = ns; notices = notices_of w group.0 cancel; cleanup = context } ∷ [] })
        (cancel_exchanged at (Group group) cancel w.callbacks) (covered_behind at (Group group) cancel w.callbacks)
        ∙ begun_exchanged v (new_close who group cancel context (notices_of w group.0 cancel) kept) kept w.waits
    changed_exchanged (change.GiveNotice who) a = ap (λ (bs : List BegunWait). record (exchanged at w) { waits = bs }) (notice_exchanged who w.waits)
    changed_exchanged (change.EndWait who how) a = end_exchanged w fits who how
    changed_exchanged (change.Finish client) a = refl

-- ---- by whom a change is

pub by_worker : (next_number : ℕ) (w : World) (how : Change) → IsAllowed next_number w how → IsByWorker how
by_worker next_number w (change.Attach worker pool) a = (numbered_some w.workers worker _ a.stands).1
by_worker next_number w (change.Detach by) a = (numbered_some w.workers by.worker _ a.idles).1
by_worker next_number w (change.Take by c) a = (numbered_some w.workers by.worker _ a.idles).1
by_worker next_number w (change.Return by words first count) a = (numbered_some w.workers by.worker _ a.runs.stands).1
by_worker next_number w _ a = tt

number_exchanged : (at number : ℕ) → 1 ≤ number → 1 ≤ exchanged_number at number
number_exchanged at zero some = absurd (omega (arith, some))
number_exchanged at (suc place) some = omega arith

pub by_exchanged : (at : ℕ) (how : Change) → IsByWorker how → IsByWorker (exchanged_change at how)
by_exchanged at (change.Attach worker pool) some = number_exchanged at worker some
by_exchanged at (change.Detach by) some = number_exchanged at by.worker some
by_exchanged at (change.Take by c) some = number_exchanged at by.worker some
by_exchanged at (change.Return by words first count) some = number_exchanged at by.worker some
by_exchanged at _ some = tt
