-- What a change makes of a renamed world is what it makes of the world, renamed.
use Rattle.std.proofs.Common.{◌≡◌, ℕ, ◌+◌, ◌-◌, ◌||◌, not, Bool, true, false, cond, List, [], ◌∷◌, ◌++◌, map, slice_get, Option, Some, None, option_map, refl, sym, ap, ap₂, ◌∙◌, filter, arith}
use Rattle.std.proofs.lemmas.List.{map-append}
use Rattle.tp_base.specs.Actors.{is_same_actor}
use Rattle.tp_base.specs.declared.ids.ObjectId.{ObjectId}
use Rattle.tp_base.specs.declared.ids.Who.{Who}
use Rattle.tp_base.specs.declared.plans.Busy.{Busy}
use Rattle.tp_base.specs.declared.plans.Change.{Change}
use Rattle.tp_base.specs.declared.plans.Change.TheVariants as change
use Rattle.tp_base.specs.declared.plans.Mark.{Mark}
use Rattle.tp_base.specs.declared.plans.Mark.TheVariants.{Asks, Long, Loose}
use Rattle.tp_base.specs.declared.plans.PoolChange.{PoolChange}
use Rattle.tp_base.specs.declared.plans.WaitEnd.{WaitEnd}
use Rattle.tp_base.specs.declared.plans.WaitEnd.TheVariants.{Exhausted, Free, Stalled}
use Rattle.tp_base.specs.declared.rows.CallbackRow.{CallbackRow}
use Rattle.tp_base.specs.declared.rows.KernelRow.{KernelRow}
use Rattle.tp_base.specs.declared.rows.ObjectRow.{ObjectRow}
use Rattle.tp_base.specs.declared.rows.PoolRow.{PoolRow}
use Rattle.tp_base.specs.declared.rows.WaitTarget.{WaitTarget}
use Rattle.tp_base.specs.declared.rows.WaitTarget.TheVariants.{Group, Kernel, Object}
use Rattle.tp_base.specs.declared.rows.WorkerRow.{WorkerRow}
use Rattle.tp_model.specs.World.{World, BegunWait}
use Rattle.tp_model.specs.Actions.{returning, slots_of}
use Rattle.tp_model.specs.Changes.{change_pool, changed, end_wait, give_notice, given_up_after, kernels_left, marked, new_close, new_wait, notified, operated, release_object, replaced, returned, taken, with_callback, with_worker, without_run}
use Rattle.tp_model.specs.Counts.{has_number, numbered}
use Rattle.tp_model.specs.Groups.{notices_of, without_members}
use Rattle.tp_model.specs.Sources.{Firing, Job, fired, firing, new_callback, object_row, rows_of, sources_of}
use Rattle.tp_model.specs.Waits.{cancel_where, is_cancelled_by, target_of, wait_of}
use Rattle.renamed_worlds.specs.Renamed.{renamed, renamed_busy, renamed_callback, renamed_change, renamed_wait, renamed_worker, GoesOn, IsNaming, IsNumberedOn}
use Rattle.renamed_worlds.proofs.Mapped.{filter_map, set_map}
use Rattle.renamed_worlds.proofs.Queries.{same_name, wait_renamed}
use Rattle.renamed_worlds.proofs.Waiting.{cancel_renamed, covered_behind}

module _ (name : ℕ → ℕ) (naming : IsNaming name) where
  -- ---- rows of callbacks

  -- a row in place of the one of its number
  replaced_renamed : (r : CallbackRow) (cs : List CallbackRow) → replaced (renamed_callback name r) (map (renamed_callback name) cs) ≡ map (renamed_callback name) (replaced r cs)
  replaced_renamed r [] = refl
  replaced_renamed r (c ∷ cs) =
      ap₂ (λ x xs. x ∷ xs) (ap (λ b. cond b (renamed_callback name r) (renamed_callback name c)) (same_name name naming c.number r.number) ∙ one (has_number r.number c)) (replaced_renamed r cs)
    where
      one : (b : Bool) → cond b (renamed_callback name r) (renamed_callback name c) ≡ renamed_callback name (cond b r c)
      one true = refl
      one false = refl

  pub marked_renamed : (mark : Mark) (c : CallbackRow) → marked mark (renamed_callback name c) ≡ renamed_callback name (marked mark c)
  marked_renamed Long c = refl
  marked_renamed Loose c = refl
  marked_renamed (Asks kind action) c = refl

  -- the rows of new callbacks
  rows_renamed : (objects : List ObjectRow) (next_number : ℕ) (jobs : List Job) → GoesOn name next_number → rows_of objects (name next_number) jobs ≡ map (renamed_callback name) (rows_of objects next_number jobs)
  rows_renamed objects next_number [] on = refl
  rows_renamed objects next_number (job ∷ jobs) on =
      ap (λ rows. new_callback (name next_number) job.object (object_row objects job.object) job.result ∷ rows)
      (ap (λ n. rows_of objects n jobs) (sym (on 1)) ∙ rows_renamed objects (next_number + 1) jobs further)
    where
      further : GoesOn name (next_number + 1)
      further i = ap name (omega arith) ∙ on (1 + i) ∙ omega (arith, on 1)

  fired_renamed : (w : World) (next_number : ℕ) (f : Firing) → GoesOn name next_number → fired (renamed name w) (name next_number) f ≡ renamed name (fired w next_number f)
  fired_renamed w next_number f on =
      ap (λ (cs : List CallbackRow). record (renamed name w) { settings = f.sources.settings; armings = f.sources.armings; kernels = f.sources.kernels; now = f.sources.now; callbacks = cs })
      (ap (λ rows. map (renamed_callback name) w.callbacks ++ rows) (rows_renamed w.objects next_number f.jobs on) ∙ sym (map-append (renamed_callback name) w.callbacks (rows_of w.objects next_number f.jobs)))

  appended_renamed : (w : World) (c : CallbackRow) → changed (renamed name w) (change.QueueCallback (renamed_callback name c)) ≡ renamed name (changed w (change.QueueCallback c))
  appended_renamed w c = ap (λ (cs : List CallbackRow). record (renamed name w) { callbacks = cs }) (sym (map-append (renamed_callback name) w.callbacks (c ∷ [])))

  with_row : (w : World) (r : CallbackRow) → record (renamed name w) { callbacks = replaced (renamed_callback name r) (map (renamed_callback name) w.callbacks) } ≡ renamed name (record w { callbacks = replaced r w.callbacks })
  with_row w r = ap (λ (cs : List CallbackRow). record (renamed name w) { callbacks = cs }) (replaced_renamed r w.callbacks)

  -- ---- rows of workers

  staff_renamed : (w : World) (number : ℕ) (r : WorkerRow) → with_worker (renamed name w) number (renamed_worker name r) ≡ renamed name (with_worker w number r)
  staff_renamed w number r = ap (λ (rs : List WorkerRow). record (renamed name w) { workers = rs }) (set_map (renamed_worker name) w.workers (number - 1) r)

  without_renamed : (w : World) (by : Busy) → without_run (renamed name w) (renamed_busy name by) ≡ renamed name (without_run w by)
  without_renamed w by =
      let r : WorkerRow = record { pool = Some by.pool; callback = None; persistent = by.persistent } in
      ap (λ v. with_worker v by.worker (renamed_worker name r)) (with_row w (returned by.callback)) ∙ staff_renamed (with_callback w (returned by.callback)) by.worker r

  -- ---- pools and objects

  pool_renamed : (w : World) (pool : ℕ) (how : PoolChange) (row : Option PoolRow) → change_pool (renamed name w) pool how row ≡ renamed name (change_pool w pool how row)
  pool_renamed w pool how None = refl
  pool_renamed w pool how (Some row) = refl

  release_renamed : (w : World) (object : ObjectId) (row : Option ObjectRow) → release_object (renamed name w) object row ≡ renamed name (release_object w object row)
  release_renamed w object None = refl
  release_renamed w object (Some row) = refl

  -- ---- waits

  begun_renamed : (w : World) (b : BegunWait) (kept : List CallbackRow) (waits : List BegunWait)
      → record (renamed name w) { callbacks = map (renamed_callback name) kept; waits = map (renamed_wait name) waits ++ renamed_wait name b ∷ [] } ≡ renamed name (record w { callbacks = kept; waits = waits ++ b ∷ [] })
  begun_renamed w b kept waits = ap (λ (bs : List BegunWait). record (renamed name w) { callbacks = map (renamed_callback name) kept; waits = bs }) (sym (map-append (renamed_wait name) waits (b ∷ [])))

  notice_renamed : (who : Who) (bs : List BegunWait) → give_notice who (map (renamed_wait name) bs) ≡ map (renamed_wait name) (give_notice who bs)
  notice_renamed who [] = refl
  notice_renamed who (b ∷ bs) = ap₂ (λ x xs. x ∷ xs) (one (is_same_actor b.actor who)) (notice_renamed who bs)
    where
      one : (t : Bool) → cond t (notified (renamed_wait name b)) (renamed_wait name b) ≡ renamed_wait name (cond t (notified b) b)
      one true = refl
      one false = refl

  left_renamed : (w : World) (who : Who) (how : WaitEnd) (o : Option BegunWait) → kernels_left (renamed name w) who how (option_map (renamed_wait name) o) ≡ kernels_left w who how o
  left_renamed w who Exhausted o = refl
  left_renamed w who Stalled o = refl
  left_renamed w who Free None = refl
  left_renamed w who Free (Some b) = of_target b.target
    where
      of_target : (target : WaitTarget) → kernels_left (renamed name w) who Free (Some (record b { target = target; covered = map name b.covered })) ≡ kernels_left w who Free (Some (record b { target = target }))
      of_target (Object object) = refl
      of_target (Group group) = refl
      of_target (Kernel kernel) = refl

  given_renamed : (before : ℕ) (how : WaitEnd) (o : Option BegunWait) → given_up_after before how (option_map (renamed_wait name) o) ≡ given_up_after before how o
  given_renamed before Free o = refl
  given_renamed before Exhausted o = refl
  given_renamed before Stalled None = refl
  given_renamed before Stalled (Some b) = refl

  end_renamed : (w : World) (who : Who) (how : WaitEnd) → end_wait (renamed name w) who how ≡ renamed name (end_wait w who how)
  end_renamed w who how =
      ap₂ (λ (bs : List BegunWait) (o : Option BegunWait). record (renamed name w) { waits = bs; kernels = kernels_left (renamed name w) who how o; given_up = given_up_after w.given_up how o })
      (filter_map (renamed_wait name) (λ (b : BegunWait). not (is_same_actor b.actor who)) (λ (b : BegunWait). not (is_same_actor b.actor who)) (λ _. refl) w.waits) (wait_renamed name naming w who)
      ∙ ap₂ (λ (ks : List KernelRow) (n : ℕ). record (renamed name w) { waits = map (renamed_wait name) (filter (λ (b : BegunWait). not (is_same_actor b.actor who)) w.waits); kernels = ks; given_up = n })
      (left_renamed w who how (wait_of w who)) (given_renamed w.given_up how (wait_of w who))

  -- ---- each change

  pub changed_renamed : (w : World) (how : Change) → IsNumberedOn name how → changed (renamed name w) (renamed_change name how) ≡ renamed name (changed w how)
  changed_renamed w change.Keep on = refl
  changed_renamed w change.CreatePool on = refl
  changed_renamed w (change.ChangePool pool how) on = pool_renamed w pool.0 how (slice_get w.pools pool.0)
  changed_renamed w change.CreateGroup on = refl
  changed_renamed w (change.CloseGroup group) on = refl
  changed_renamed w (change.CreateObject row) on = refl
  changed_renamed w (change.ReleaseObject object) on = release_renamed w object (numbered w.objects object.0)
  changed_renamed w (change.QueueCallback c) on = appended_renamed w c
  changed_renamed w (change.ExpectCallback c) on = appended_renamed w c
  changed_renamed w (change.Operate c how) on = with_row w (operated how c)
  changed_renamed w (change.Fire trigger first count) on = fired_renamed w first (firing trigger (sources_of w)) on
  changed_renamed w (change.CreateKernel state) on = refl
  changed_renamed w (change.ChangeKernel kernel how) on = refl
  changed_renamed w (change.Attach worker pool) on = staff_renamed w worker (record { pool = Some pool; callback = None; persistent = false })
  changed_renamed w (change.Detach by) on = staff_renamed w by.worker (record { pool = None; callback = None; persistent = false })
  changed_renamed w (change.Take by c) on =
      let r : WorkerRow = record { pool = Some by.pool; callback = Some c.number; persistent = by.persistent || c.persistent } in
      ap (λ v. with_worker v by.worker (renamed_worker name r)) (with_row w (taken c by.worker)) ∙ staff_renamed (with_callback w (taken c by.worker)) by.worker r
  changed_renamed w (change.Mark by mark) on = ap (with_callback (renamed name w)) (marked_renamed mark by.callback) ∙ with_row w (marked mark by.callback)
  changed_renamed w (change.Return by words first count) on =
      ap (λ v. fired v (name first) (returning w words (slots_of by.callback.status))) (without_renamed w by)
      ∙ fired_renamed (without_run w by) first (returning w words (slots_of by.callback.status)) on
  changed_renamed w (change.BeginWait who awaited cancel) on =
      let target : WaitTarget = target_of awaited in
      let kept : List CallbackRow = cancel_where (is_cancelled_by target cancel) w.callbacks in
      ap₂ (λ (cs : List CallbackRow) (ns : List ℕ). record (renamed name w) { callbacks = cs; waits = map (renamed_wait name) w.waits ++ record { actor = who; target = target; covered = ns; notices = []; cleanup = 0 } ∷ [] })
      (cancel_renamed name target cancel w.callbacks) (covered_behind name target cancel w.callbacks)
      ∙ begun_renamed w (new_wait who target cancel kept) kept w.waits
  changed_renamed w (change.BeginClose who group cancel context notices) on =
      let v : World = without_members w group.0 in
      let kept : List CallbackRow = cancel_where (is_cancelled_by (Group group) cancel) w.callbacks in
      ap₂ (λ (cs : List CallbackRow) (ns : List ℕ). record (renamed name v) { callbacks = cs; waits = map (renamed_wait name) w.waits ++ record { actor = who; target = Group group; covered = ns; notices = notices_of w group.0 cancel; cleanup = context } ∷ [] })
      (cancel_renamed name (Group group) cancel w.callbacks) (covered_behind name (Group group) cancel w.callbacks)
      ∙ begun_renamed v (new_close who group cancel context (notices_of w group.0 cancel) kept) kept w.waits
  changed_renamed w (change.GiveNotice who) on = ap (λ (bs : List BegunWait). record (renamed name w) { waits = bs }) (notice_renamed who w.waits)
  changed_renamed w (change.EndWait who how) on = end_renamed w who how
  changed_renamed w (change.Finish client) on = refl
