-- Calls that make callbacks, and those on operations, where two workers change places.
use Rattle.std.proofs.Common.{◌≡◌, ℕ, ◌+◌, ◌<◌, ◌&&◌, ◌==◌, not, nat_lt, ℤ, Bool, true, false, cond, [], ◌∷◌, ◌++◌, length, is_none, Option, Some, None, option_map, refl, ap, ap₂, ◌∙◌}
use Rattle.tp_base.specs.Kernels.{count_of, is_event, is_semaphore, is_waitable, passes_by}
use Rattle.tp_base.specs.Timers.{clock_end}
use Rattle.tp_base.specs.declared.answers.Answer.{Answer}
use Rattle.tp_base.specs.declared.answers.Answer.TheVariants as answer
use Rattle.tp_base.specs.declared.answers.Refusal.TheVariants as refusal
use Rattle.tp_base.specs.declared.answers.Refusal.TheVariants.{CallbackLimit, ClockEnd, NoOperation, NotStarted, OverMaximum}
use Rattle.tp_base.specs.declared.calls.Environ.{Environ}
use Rattle.tp_base.specs.declared.calls.Kind.TheVariants.{Io, Timer, Wait, Work}
use Rattle.tp_base.specs.declared.ids.KernelId.{KernelId}
use Rattle.tp_base.specs.declared.ids.ObjectId.{ObjectId}
use Rattle.tp_base.specs.declared.ids.RoutineId.{RoutineId}
use Rattle.tp_base.specs.declared.ids.Who.{Who}
use Rattle.tp_base.specs.declared.plans.Change.TheVariants as change
use Rattle.tp_base.specs.declared.plans.IoStep.{IoStep}
use Rattle.tp_base.specs.declared.plans.IoStep.TheVariants.{GiveUp, Issue}
use Rattle.tp_base.specs.declared.plans.Plan.TheVariants.{Does}
use Rattle.tp_base.specs.declared.plans.Trigger.{Trigger}
use Rattle.tp_base.specs.declared.plans.Trigger.TheVariants.{Advance, ReleaseSemaphore, SetEvent, SetTimer, SetWait}
use Rattle.tp_base.specs.declared.rows.CallbackRow.{CallbackRow}
use Rattle.tp_base.specs.declared.rows.ObjectRow.{ObjectRow}
use Rattle.tp_model.specs.World.{World}
use Rattle.tp_model.specs.Conditions.{lacks_slots_for}
use Rattle.tp_model.specs.Counts.{callback_of, is_issued, numbered}
use Rattle.tp_model.specs.Kernels.{count_at, is_kernel_that}
use Rattle.tp_model.specs.Refusing.{object_refusals}
use Rattle.tp_model.specs.Sources.{count_fired, sources_of}
use Rattle.tp_model.specs.Calls.Io.{cancel_io_plan, complete_io, complete_io_plan, complete_io_refusals, complete_next_plan, complete_next_refusals, expected_refusals, first_expected, first_issued, is_expected_of, is_issued_of, issue_io_plan, issued_of, issued_row, operate, operate_first, start_io, start_io_plan, start_io_refusals}
use Rattle.tp_model.specs.Calls.Kernels.{kernel_refusals, release_semaphore_plan, release_semaphore_refusals, set_event_plan}
use Rattle.tp_model.specs.Calls.Timers.{advance_plan, advance_refusals, count_expiring, fire, first_of, is_timer_set, is_timer_set_plan, set_timer_ex_plan, set_timer_plan, set_timer_refusals}
use Rattle.tp_model.specs.Calls.WaitObjects.{lacks_slots_after, names_lock, names_unmade, set_wait_plan, set_wait_refusals}
use Rattle.tp_model.specs.Calls.Work.{submit, submit_simple_plan, submit_simple_refusals, submit_work_plan, submit_work_refusals}
use Rattle.renamed_worlds.specs.Exchanged.{exchanged, exchanged_callback, exchanged_kernel, exchanged_plan, exchanged_who}
use Rattle.std.specs.Option.{option_map_or}
use Rattle.tp_base.specs.declared.rows.KernelRow.{KernelRow}
use Rattle.tp_model.specs.Sources.{Firing}
use Rattle.tp_model.specs.Counts.{is_expected}
use Rattle.renamed_worlds.proofs.Exchange.Actions.{state_same}
use Rattle.renamed_worlds.proofs.Exchange.Kernels.{firing_exchanged, one_exchanged}
use Rattle.renamed_worlds.proofs.Mapped.{find_map, none_mapped, numbered_map}
use Rattle.renamed_worlds.proofs.Exchange.Queries.{finished_exchanged, status_same, actor_exchanged, callback_exchanged, in_wait_exchanged, lacks_exchanged, living_exchanged, without_exchanged}
use Rattle.renamed_worlds.proofs.Exchange.Refusing.{is_kernel_exchanged, kernel_refusals_exchanged, actor_refusals_exchanged, environ_refusals_exchanged, object_refusals_exchanged, unless_exchanged}

module _ (at : ℕ) (w : World) (fits : at + 1 < length w.workers) (who : Who) where
  abbrev u : World
  u = exchanged at w

  abbrev v : Who
  v = exchanged_who at who

  -- ---- work

  pub submit_work_exchanged : (next_number : ℕ) (object : ObjectId) → submit_work_plan u next_number v object ≡ exchanged_plan at (submit_work_plan w next_number who object)
  unfolding submit_work_plan
  submit_work_exchanged next_number object =
      unless_exchanged at (submit_work_refusals u v object.0) (submit_work_refusals w who object.0) _ _
      (ap₂ (λ rs b. rs ++ (b, CallbackLimit) ∷ []) (object_refusals_exchanged at w fits who Work object.0) (lacks_exchanged at w fits 1)) (submits (numbered w.objects object.0))
    where
      submits : (row : Option ObjectRow) → submit next_number object row ≡ exchanged_plan at (submit next_number object row)
      submits None = refl
      submits (Some row) = refl

  pub submit_simple_exchanged : (next_number : ℕ) (routine : RoutineId) (context : ℕ) (env : Environ) → submit_simple_plan u next_number v routine context env ≡ exchanged_plan at (submit_simple_plan w next_number who routine context env)
  unfolding submit_simple_plan
  submit_simple_exchanged next_number routine context env =
      unless_exchanged at (submit_simple_refusals u v env) (submit_simple_refusals w who env) _ _
      (ap₂ (λ rs b. rs ++ (b, CallbackLimit) ∷ []) (environ_refusals_exchanged at w fits who env) (lacks_exchanged at w fits 1)) refl

  -- ---- what a trigger makes

  fired_same : (trigger : Trigger) → count_fired u trigger ≡ count_fired w trigger
  fired_same trigger = ap (λ (f : Firing). length f.jobs) (firing_exchanged at trigger (sources_of w))

  fire_exchanged : (next_number : ℕ) (trigger : Trigger) (told : ℕ → ℕ → Answer) → fire u next_number trigger told ≡ exchanged_plan at (fire w next_number trigger told)
  fire_exchanged next_number trigger told = ap (λ n. Does (told (first_of next_number n) n) (change.Fire trigger next_number n)) (fired_same trigger)

  set_timer_refusals_exchanged : (object : ℕ) (trigger : Trigger) → set_timer_refusals u v object trigger ≡ set_timer_refusals w who object trigger
  set_timer_refusals_exchanged object trigger = ap₂ (λ rs b. rs ++ (b, CallbackLimit) ∷ []) (object_refusals_exchanged at w fits who Timer object) (ap (lacks_slots_for u) (fired_same trigger) ∙ lacks_exchanged at w fits (count_fired w trigger))

  pub set_timer_exchanged : (next_number : ℕ) (object : ObjectId) (due : Option ℤ) (period window : ℕ) → set_timer_plan u next_number v object due period window ≡ exchanged_plan at (set_timer_plan w next_number who object due period window)
  unfolding set_timer_plan
  set_timer_exchanged next_number object due period window =
      let trigger : Trigger = SetTimer object due period window in
      unless_exchanged at (set_timer_refusals u v object.0 trigger) (set_timer_refusals w who object.0 trigger) _ _ (set_timer_refusals_exchanged object.0 trigger)
      (fire_exchanged next_number trigger answer.Queued)

  pub set_timer_ex_exchanged : (next_number : ℕ) (object : ObjectId) (due : Option ℤ) (period window : ℕ) → set_timer_ex_plan u next_number v object due period window ≡ exchanged_plan at (set_timer_ex_plan w next_number who object due period window)
  unfolding set_timer_ex_plan
  set_timer_ex_exchanged next_number object due period window =
      let trigger : Trigger = SetTimer object due period window in
      unless_exchanged at (set_timer_refusals u v object.0 trigger) (set_timer_refusals w who object.0 trigger) _ _ (set_timer_refusals_exchanged object.0 trigger)
      (fire_exchanged next_number trigger (answer.WasSet (is_timer_set w object.0)))

  pub is_timer_set_exchanged : (object : ObjectId) → is_timer_set_plan u v object ≡ exchanged_plan at (is_timer_set_plan w who object)
  unfolding is_timer_set_plan
  is_timer_set_exchanged object = unless_exchanged at (object_refusals u v Timer object.0) (object_refusals w who Timer object.0) _ _ (object_refusals_exchanged at w fits who Timer object.0) refl

  pub advance_exchanged : (next_number ticks : ℕ) → advance_plan u next_number v ticks ≡ exchanged_plan at (advance_plan w next_number who ticks)
  unfolding advance_plan
  advance_exchanged next_number ticks =
      let now : ℕ = w.now + ticks in
      unless_exchanged at (advance_refusals u v now) (advance_refusals w who now) _ _
      (ap₂ (λ rs b. rs ++ (nat_lt clock_end now, ClockEnd) ∷ (b, CallbackLimit) ∷ []) (actor_refusals_exchanged at w fits who) (lacks_exchanged at w fits (count_expiring w now)))
      (fire_exchanged next_number (Advance now) (answer.Advanced now))

  lacks_after_exchanged : (trigger : Trigger) → lacks_slots_after u trigger ≡ lacks_slots_after w trigger
  lacks_after_exchanged trigger =
      ap₂ (λ (n : ℕ) (f : Firing). nat_lt w.limits.slots (n + length f.jobs + length f.sources.armings)) (living_exchanged at w fits) (firing_exchanged at trigger (sources_of w))

  unmade_exchanged : (kernel : Option KernelId) → names_unmade u kernel ≡ names_unmade w kernel
  unmade_exchanged None = refl
  unmade_exchanged (Some kernel) = ap not (is_kernel_exchanged at w fits who kernel.0)

  names_lock_exchanged : (kernel : Option KernelId) → names_lock u kernel ≡ names_lock w kernel
  names_lock_exchanged None = refl
  names_lock_exchanged (Some kernel) = ap not (one_exchanged at is_waitable is_waitable (state_same at is_waitable (λ _ _ _. refl) (λ _ _ _. refl)) w.kernels kernel.0)

  pub set_wait_exchanged : (next_number : ℕ) (object : ObjectId) (kernel : Option KernelId) (timeout : Option ℤ) → set_wait_plan u next_number v object kernel timeout ≡ exchanged_plan at (set_wait_plan w next_number who object kernel timeout)
  unfolding set_wait_plan
  set_wait_exchanged next_number object kernel timeout =
      unless_exchanged at (set_wait_refusals u v object kernel timeout) (set_wait_refusals w who object kernel timeout) _ _
      (
      ap₂ (λ rs b. (b, refusal.NoSuch) ∷ (rs ++ (names_lock u kernel, refusal.NotWaitable) ∷ (lacks_slots_after u (SetWait object kernel timeout), CallbackLimit) ∷ [])) (object_refusals_exchanged at w fits who Wait object.0) (unmade_exchanged kernel)
      ∙ ap₂ (λ b c. (names_unmade w kernel, refusal.NoSuch) ∷ (object_refusals w who Wait object.0 ++ (b, refusal.NotWaitable) ∷ (c, CallbackLimit) ∷ [])) (names_lock_exchanged kernel) (lacks_after_exchanged (SetWait object kernel timeout))
      )
      (fire_exchanged next_number (SetWait object kernel timeout) answer.Queued)

  pub set_event_exchanged : (next_number : ℕ) (kernel : KernelId) → set_event_plan u next_number v kernel ≡ exchanged_plan at (set_event_plan w next_number who kernel)
  unfolding set_event_plan
  set_event_exchanged next_number kernel =
      unless_exchanged at (kernel_refusals u v is_event kernel.0 []) (kernel_refusals w who is_event kernel.0 []) _ _ (kernel_refusals_exchanged at w fits who is_event (state_same at is_event (λ _ _ _. refl) (λ _ _ _. refl)) kernel.0 [] [] refl)
      (fire_exchanged next_number (SetEvent kernel) answer.Queued)

  count_at_exchanged : (kernel : ℕ) → count_at u kernel ≡ count_at w kernel
  count_at_exchanged kernel = ap (λ o. option_map_or (λ (k : KernelRow). count_of k.state) o 0) (numbered_map (exchanged_kernel at) w.kernels kernel) ∙ of_row (numbered w.kernels kernel)
    where
      of_row : (o : Option KernelRow) → option_map_or (λ (k : KernelRow). count_of k.state) (option_map (exchanged_kernel at) o) 0 ≡ option_map_or (λ (k : KernelRow). count_of k.state) o 0
      of_row None = refl
      of_row (Some k) = state_same at count_of (λ _ _ _. refl) (λ _ _ _. refl) k.state

  pub release_semaphore_exchanged : (next_number : ℕ) (kernel : KernelId) (more : ℕ) → release_semaphore_plan u next_number v kernel more ≡ exchanged_plan at (release_semaphore_plan w next_number who kernel more)
  unfolding release_semaphore_plan
  release_semaphore_exchanged next_number kernel more =
      unless_exchanged at (release_semaphore_refusals u v kernel.0 more) (release_semaphore_refusals w who kernel.0 more) _ _
      (kernel_refusals_exchanged at w fits who is_semaphore (state_same at is_semaphore (λ _ _ _. refl) (λ _ _ _. refl)) kernel.0 ((is_kernel_that (passes_by more) u kernel.0, OverMaximum (count_at u kernel.0)) ∷ []) ((is_kernel_that (passes_by more) w kernel.0, OverMaximum (count_at w kernel.0)) ∷ [])
      (ap₂ (λ (b : Bool) (n : ℕ). (b, OverMaximum n) ∷ []) (one_exchanged at (passes_by more) (passes_by more) (state_same at (passes_by more) (λ _ _ _. refl) (λ _ _ _. refl)) w.kernels kernel.0) (count_at_exchanged kernel.0)))
      (ap (λ n. fire u next_number (ReleaseSemaphore kernel more) (answer.Count n)) (count_at_exchanged kernel.0) ∙ fire_exchanged next_number (ReleaseSemaphore kernel more) (answer.Count (count_at w kernel.0)))

  -- ---- operations

  pub start_io_exchanged : (next_number : ℕ) (object : ObjectId) → start_io_plan u next_number v object ≡ exchanged_plan at (start_io_plan w next_number who object)
  unfolding start_io_plan
  start_io_exchanged next_number object =
      unless_exchanged at (start_io_refusals u v object.0) (start_io_refusals w who object.0) _ _
      (ap₂ (λ rs b. rs ++ (b, CallbackLimit) ∷ []) (object_refusals_exchanged at w fits who Io object.0) (lacks_exchanged at w fits 1)) (starts (numbered w.objects object.0))
    where
      starts : (row : Option ObjectRow) → start_io next_number object row ≡ exchanged_plan at (start_io next_number object row)
      starts None = refl
      starts (Some row) = refl

  expected_exchanged : (object : ℕ) → first_expected u object ≡ option_map (exchanged_callback at) (first_expected w object)
  expected_exchanged object = find_map (exchanged_callback at) (is_expected_of object) (is_expected_of object) (λ c. ap (λ b. b && (c.object.0 == object)) (status_same at is_expected (λ _ _ _. refl) c.status)) w.callbacks

  operate_first_exchanged : (object : ObjectId) (told : ℕ → Answer) (how : IoStep) → operate_first u v object told how ≡ exchanged_plan at (operate_first w who object told how)
  operate_first_exchanged object told how =
      unless_exchanged at (expected_refusals u v object.0) (expected_refusals w who object.0) _ _
      (ap₂ (λ rs b. rs ++ (b, NotStarted) ∷ []) (object_refusals_exchanged at w fits who Io object.0) (ap is_none (expected_exchanged object.0) ∙ none_mapped (exchanged_callback at) (first_expected w object.0)))
      (ap (operate told how) (expected_exchanged object.0) ∙ operates (first_expected w object.0))
    where
      operates : (c : Option CallbackRow) → operate told how (option_map (exchanged_callback at) c) ≡ exchanged_plan at (operate told how c)
      operates None = refl
      operates (Some c) = refl

  pub issue_io_exchanged : (object : ObjectId) → issue_io_plan u v object ≡ exchanged_plan at (issue_io_plan w who object)
  unfolding issue_io_plan
  issue_io_exchanged object = operate_first_exchanged object answer.Operation Issue

  pub cancel_io_exchanged : (object : ObjectId) → cancel_io_plan u v object ≡ exchanged_plan at (cancel_io_plan w who object)
  unfolding cancel_io_plan
  cancel_io_exchanged object = operate_first_exchanged object answer.Cancelled GiveUp

  completes : (error bytes : ℕ) (c : Option CallbackRow) → complete_io error bytes (option_map (exchanged_callback at) c) ≡ exchanged_plan at (complete_io error bytes c)
  completes error bytes None = refl
  completes error bytes (Some c) = refl

  issued_exchanged : (callback : ℕ) → issued_of u callback ≡ option_map (exchanged_callback at) (issued_of w callback)
  issued_exchanged callback = ap issued_row (callback_exchanged at w fits callback) ∙ of_row (callback_of w callback)
    where
      of_row : (o : Option CallbackRow) → issued_row (option_map (exchanged_callback at) o) ≡ option_map (exchanged_callback at) (issued_row o)
      of_row None = refl
      of_row (Some c) =
          ap (λ b. cond b (Some (exchanged_callback at c)) None) (status_same at is_issued (λ _ _ _. refl) c.status)
          ∙ elim (is_issued c.status) as (λ b. cond b (Some (exchanged_callback at c)) None ≡ option_map (exchanged_callback at) (cond b (Some c) None)) [ true ↦ refl | false ↦ refl ]

  pub complete_io_exchanged : (callback error bytes : ℕ) → complete_io_plan u v callback error bytes ≡ exchanged_plan at (complete_io_plan w who callback error bytes)
  unfolding complete_io_plan
  complete_io_exchanged callback error bytes =
      unless_exchanged at (complete_io_refusals u v callback) (complete_io_refusals w who callback) _ _
      (ap₂ (λ rs b. rs ++ (b, NoOperation) ∷ []) (actor_refusals_exchanged at w fits who) (ap is_none (issued_exchanged callback) ∙ none_mapped (exchanged_callback at) (issued_of w callback)))
      (ap (complete_io error bytes) (issued_exchanged callback) ∙ completes error bytes (issued_of w callback))

  first_issued_exchanged : (object : ℕ) → first_issued u object ≡ option_map (exchanged_callback at) (first_issued w object)
  first_issued_exchanged object = find_map (exchanged_callback at) (is_issued_of object) (is_issued_of object) (λ c. ap (λ b. b && (c.object.0 == object)) (status_same at is_issued (λ _ _ _. refl) c.status)) w.callbacks

  none_issued : (object : ℕ) → is_none (first_issued u object) ≡ is_none (first_issued w object)
  none_issued object = ap is_none (first_issued_exchanged object) ∙ none_mapped (exchanged_callback at) (first_issued w object)

  pub complete_next_exchanged : (object : ObjectId) (error bytes : ℕ) → complete_next_plan u v object error bytes ≡ exchanged_plan at (complete_next_plan w who object error bytes)
  unfolding complete_next_plan
  complete_next_exchanged object error bytes =
      unless_exchanged at (complete_next_refusals u v object.0) (complete_next_refusals w who object.0) _ _
      (rw (actor_exchanged at w fits who, finished_exchanged at w fits who, without_exchanged at w fits who, in_wait_exchanged at w fits who, none_issued object.0))
      (ap (complete_io error bytes) (first_issued_exchanged object.0) ∙ completes error bytes (first_issued w object.0))
