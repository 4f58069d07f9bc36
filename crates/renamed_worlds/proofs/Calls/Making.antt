-- Calls that make callbacks, and those on operations, in a renamed world.
use Rattle.std.proofs.Common.{◌≡◌, ℕ, ◌+◌, nat_lt, ℤ, true, false, cond, [], ◌∷◌, ◌++◌, length, is_none, Option, Some, None, option_map, refl, ap, ap₂, ◌∙◌}
use Rattle.tp_base.specs.Kernels.{is_event, is_semaphore, passes_by}
use Rattle.tp_base.specs.Timers.{clock_end}
use Rattle.tp_base.specs.declared.answers.Answer.{Answer}
use Rattle.tp_base.specs.declared.answers.Answer.TheVariants as answer
use Rattle.tp_base.specs.declared.answers.Refusal.TheVariants as refusal
use Rattle.tp_base.specs.declared.answers.Refusal.TheVariants.{CallbackLimit, ClockEnd, NoOperation, NotStarted, OverMaximum}
use Rattle.tp_base.specs.declared.calls.Environ.{Environ}
use Rattle.tp_base.specs.declared.calls.Kind.TheVariants.{Io, Timer, Wait, Work}
use Rattle.tp_base.specs.declared.ids.KernelId.{KernelId}
use Rattle.tp_base.specs.declared.ids.ObjectId.{ObjectId}
use Rattle.tp_base.specs.declared.ids.RoutineId.{RoutineId}
use Rattle.tp_base.specs.declared.ids.Who.{Who}
use Rattle.tp_base.specs.declared.plans.Change.TheVariants as change
use Rattle.tp_base.specs.declared.plans.IoStep.{IoStep}
use Rattle.tp_base.specs.declared.plans.IoStep.TheVariants.{GiveUp, Issue}
use Rattle.tp_base.specs.declared.plans.Plan.TheVariants.{Does}
use Rattle.tp_base.specs.declared.plans.Trigger.{Trigger}
use Rattle.tp_base.specs.declared.plans.Trigger.TheVariants.{Advance, ReleaseSemaphore, SetEvent, SetTimer, SetWait}
use Rattle.tp_base.specs.declared.rows.CallbackRow.{CallbackRow}
use Rattle.tp_base.specs.declared.rows.ObjectRow.{ObjectRow}
use Rattle.tp_model.specs.World.{World}
use Rattle.tp_model.specs.Counts.{callback_of, is_issued, numbered}
use Rattle.tp_model.specs.Kernels.{count_at, is_kernel_that}
use Rattle.tp_model.specs.Sources.{count_fired, firing, sources_of}
use Rattle.tp_model.specs.Calls.Io.{cancel_io_plan, complete_io, complete_io_plan, complete_io_refusals, complete_next_plan, complete_next_refusals, expected_refusals, first_expected, first_issued, is_expected_of, is_issued_of, issue_io_plan, issued_of, issued_row, operate, operate_first, start_io, start_io_plan, start_io_refusals}
use Rattle.tp_model.specs.Calls.Kernels.{kernel_refusals, release_semaphore_plan, release_semaphore_refusals, set_event_plan}
use Rattle.tp_model.specs.Calls.Timers.{advance_plan, advance_refusals, count_expiring, fire, is_timer_set, is_timer_set_plan, set_timer_ex_plan, set_timer_plan, set_timer_refusals}
use Rattle.tp_model.specs.Calls.WaitObjects.{lacks_slots_after, names_lock, names_unmade, set_wait_plan, set_wait_refusals}
use Rattle.tp_model.specs.Calls.Work.{submit, submit_simple_plan, submit_simple_refusals, submit_work_plan, submit_work_refusals}
use Rattle.renamed_worlds.specs.Renamed.{renamed, renamed_answer, renamed_callback, renamed_plan, IsNaming}
use Rattle.renamed_worlds.proofs.Mapped.{find_map, none_mapped}
use Rattle.renamed_worlds.proofs.Queries.{actor_renamed, callback_renamed, in_wait_renamed, lacks_renamed, living_renamed, without_renamed}
use Rattle.renamed_worlds.proofs.Refusing.{actor_refusals_renamed, environ_refusals_renamed, object_refusals_renamed, unless_renamed}
use Rattle.renamed_worlds.proofs.Calls.Pools.{kernel_refusals_renamed}
use Rattle.renamed_worlds.proofs.Calls.Workers.{first_renamed}

module _ (name : ℕ → ℕ) (naming : IsNaming name) (w : World) (who : Who) where
  abbrev u : World
  u = renamed name w

  -- ---- work

  pub submit_work_renamed : (next_number : ℕ) (object : ObjectId) → submit_work_plan u (name next_number) who object ≡ renamed_plan name (submit_work_plan w next_number who object)
  unfolding submit_work_plan
  submit_work_renamed next_number object =
      unless_renamed name (submit_work_refusals u who object.0) (submit_work_refusals w who object.0) _ _
      (ap₂ (λ rs b. rs ++ (b, CallbackLimit) ∷ []) (object_refusals_renamed name naming w who Work object.0) (lacks_renamed name naming w 1)) (submits (numbered w.objects object.0))
    where
      submits : (row : Option ObjectRow) → submit (name next_number) object row ≡ renamed_plan name (submit next_number object row)
      submits None = refl
      submits (Some row) = refl

  pub submit_simple_renamed : (next_number : ℕ) (routine : RoutineId) (context : ℕ) (env : Environ) → submit_simple_plan u (name next_number) who routine context env ≡ renamed_plan name (submit_simple_plan w next_number who routine context env)
  unfolding submit_simple_plan
  submit_simple_renamed next_number routine context env =
      unless_renamed name (submit_simple_refusals u who env) (submit_simple_refusals w who env) _ _
      (ap₂ (λ rs b. rs ++ (b, CallbackLimit) ∷ []) (environ_refusals_renamed name naming w who env) (lacks_renamed name naming w 1)) refl

  -- ---- what a trigger makes

  fire_renamed : (next_number : ℕ) (trigger : Trigger) (told : ℕ → ℕ → Answer) → ((first count : ℕ) → told (name first) count ≡ renamed_answer name (told first count)) → fire u (name next_number) trigger told ≡ renamed_plan name (fire w next_number trigger told)
  fire_renamed next_number trigger told tells =
      let count : ℕ = count_fired w trigger in
      ap (λ a. Does a (change.Fire trigger (name next_number) count)) (ap (λ first. told first count) (first_renamed name naming next_number count) ∙ tells _ count)

  set_timer_refusals_renamed : (object : ℕ) (trigger : Trigger) → set_timer_refusals u who object trigger ≡ set_timer_refusals w who object trigger
  set_timer_refusals_renamed object trigger = ap₂ (λ rs b. rs ++ (b, CallbackLimit) ∷ []) (object_refusals_renamed name naming w who Timer object) (lacks_renamed name naming w (count_fired w trigger))

  pub set_timer_renamed : (next_number : ℕ) (object : ObjectId) (due : Option ℤ) (period window : ℕ) → set_timer_plan u (name next_number) who object due period window ≡ renamed_plan name (set_timer_plan w next_number who object due period window)
  unfolding set_timer_plan
  set_timer_renamed next_number object due period window =
      let trigger : Trigger = SetTimer object due period window in
      unless_renamed name (set_timer_refusals u who object.0 trigger) (set_timer_refusals w who object.0 trigger) _ _ (set_timer_refusals_renamed object.0 trigger)
      (fire_renamed next_number trigger answer.Queued (λ _ _. refl))

  pub set_timer_ex_renamed : (next_number : ℕ) (object : ObjectId) (due : Option ℤ) (period window : ℕ) → set_timer_ex_plan u (name next_number) who object due period window ≡ renamed_plan name (set_timer_ex_plan w next_number who object due period window)
  unfolding set_timer_ex_plan
  set_timer_ex_renamed next_number object due period window =
      let trigger : Trigger = SetTimer object due period window in
      unless_renamed name (set_timer_refusals u who object.0 trigger) (set_timer_refusals w who object.0 trigger) _ _ (set_timer_refusals_renamed object.0 trigger)
      (fire_renamed next_number trigger (answer.WasSet (is_timer_set w object.0)) (λ _ _. refl))

  pub is_timer_set_renamed : (object : ObjectId) → is_timer_set_plan u who object ≡ renamed_plan name (is_timer_set_plan w who object)
  unfolding is_timer_set_plan
  is_timer_set_renamed object = unless_renamed name _ _ _ _ (object_refusals_renamed name naming w who Timer object.0) refl

  pub advance_renamed : (next_number ticks : ℕ) → advance_plan u (name next_number) who ticks ≡ renamed_plan name (advance_plan w next_number who ticks)
  unfolding advance_plan
  advance_renamed next_number ticks =
      let now : ℕ = w.now + ticks in
      unless_renamed name (advance_refusals u who now) (advance_refusals w who now) _ _
      (ap₂ (λ rs b. rs ++ (nat_lt clock_end now, ClockEnd) ∷ (b, CallbackLimit) ∷ []) (actor_refusals_renamed name naming w who) (lacks_renamed name naming w (count_expiring w now)))
      (fire_renamed next_number (Advance now) (answer.Advanced now) (λ _ _. refl))

  lacks_after_renamed : (trigger : Trigger) → lacks_slots_after u trigger ≡ lacks_slots_after w trigger
  lacks_after_renamed trigger = ap (λ n. nat_lt w.limits.slots (n + length (firing trigger (sources_of w)).jobs + length (firing trigger (sources_of w)).sources.armings)) (living_renamed name naming w)

  pub set_wait_renamed : (next_number : ℕ) (object : ObjectId) (kernel : Option KernelId) (timeout : Option ℤ) → set_wait_plan u (name next_number) who object kernel timeout ≡ renamed_plan name (set_wait_plan w next_number who object kernel timeout)
  unfolding set_wait_plan
  set_wait_renamed next_number object kernel timeout =
      unless_renamed name (set_wait_refusals u who object kernel timeout) (set_wait_refusals w who object kernel timeout) _ _
      (ap₂ (λ rs b. (names_unmade w kernel, refusal.NoSuch) ∷ (rs ++ (names_lock w kernel, refusal.NotWaitable) ∷ (b, CallbackLimit) ∷ [])) (object_refusals_renamed name naming w who Wait object.0) (lacks_after_renamed (SetWait object kernel timeout)))
      (fire_renamed next_number (SetWait object kernel timeout) answer.Queued (λ _ _. refl))

  pub set_event_renamed : (next_number : ℕ) (kernel : KernelId) → set_event_plan u (name next_number) who kernel ≡ renamed_plan name (set_event_plan w next_number who kernel)
  unfolding set_event_plan
  set_event_renamed next_number kernel =
      unless_renamed name (kernel_refusals u who is_event kernel.0 []) (kernel_refusals w who is_event kernel.0 []) _ _ (kernel_refusals_renamed name naming w who is_event kernel.0 [])
      (fire_renamed next_number (SetEvent kernel) answer.Queued (λ _ _. refl))

  pub release_semaphore_renamed : (next_number : ℕ) (kernel : KernelId) (more : ℕ) → release_semaphore_plan u (name next_number) who kernel more ≡ renamed_plan name (release_semaphore_plan w next_number who kernel more)
  unfolding release_semaphore_plan
  release_semaphore_renamed next_number kernel more =
      unless_renamed name (release_semaphore_refusals u who kernel.0 more) (release_semaphore_refusals w who kernel.0 more) _ _
      (kernel_refusals_renamed name naming w who is_semaphore kernel.0 ((is_kernel_that (passes_by more) w kernel.0, OverMaximum (count_at w kernel.0)) ∷ []))
      (fire_renamed next_number (ReleaseSemaphore kernel more) (answer.Count (count_at w kernel.0)) (λ _ _. refl))

  -- ---- operations

  pub start_io_renamed : (next_number : ℕ) (object : ObjectId) → start_io_plan u (name next_number) who object ≡ renamed_plan name (start_io_plan w next_number who object)
  unfolding start_io_plan
  start_io_renamed next_number object =
      unless_renamed name (start_io_refusals u who object.0) (start_io_refusals w who object.0) _ _
      (ap₂ (λ rs b. rs ++ (b, CallbackLimit) ∷ []) (object_refusals_renamed name naming w who Io object.0) (lacks_renamed name naming w 1)) (starts (numbered w.objects object.0))
    where
      starts : (row : Option ObjectRow) → start_io (name next_number) object row ≡ renamed_plan name (start_io next_number object row)
      starts None = refl
      starts (Some row) = refl

  expected_renamed : (object : ℕ) → first_expected u object ≡ option_map (renamed_callback name) (first_expected w object)
  expected_renamed object = find_map (renamed_callback name) (is_expected_of object) (is_expected_of object) (λ _. refl) w.callbacks

  operate_first_renamed : (object : ObjectId) (told : ℕ → Answer) (how : IoStep) → ((n : ℕ) → told (name n) ≡ renamed_answer name (told n)) → operate_first u who object told how ≡ renamed_plan name (operate_first w who object told how)
  operate_first_renamed object told how tells =
      unless_renamed name (expected_refusals u who object.0) (expected_refusals w who object.0) _ _
      (ap₂ (λ rs b. rs ++ (b, NotStarted) ∷ []) (object_refusals_renamed name naming w who Io object.0) (ap is_none (expected_renamed object.0) ∙ none_mapped (renamed_callback name) (first_expected w object.0)))
      (ap (operate told how) (expected_renamed object.0) ∙ operates (first_expected w object.0))
    where
      operates : (c : Option CallbackRow) → operate told how (option_map (renamed_callback name) c) ≡ renamed_plan name (operate told how c)
      operates None = refl
      operates (Some c) = ap (λ a. Does a (change.Operate (renamed_callback name c) how)) (tells c.number)

  pub issue_io_renamed : (object : ObjectId) → issue_io_plan u who object ≡ renamed_plan name (issue_io_plan w who object)
  unfolding issue_io_plan
  issue_io_renamed object = operate_first_renamed object answer.Operation Issue (λ _. refl)

  pub cancel_io_renamed : (object : ObjectId) → cancel_io_plan u who object ≡ renamed_plan name (cancel_io_plan w who object)
  unfolding cancel_io_plan
  cancel_io_renamed object = operate_first_renamed object answer.Cancelled GiveUp (λ _. refl)

  completes : (error bytes : ℕ) (c : Option CallbackRow) → complete_io error bytes (option_map (renamed_callback name) c) ≡ renamed_plan name (complete_io error bytes c)
  completes error bytes None = refl
  completes error bytes (Some c) = refl

  issued_renamed : (callback : ℕ) → issued_of u (name callback) ≡ option_map (renamed_callback name) (issued_of w callback)
  issued_renamed callback = ap issued_row (callback_renamed name naming w callback) ∙ of_row (callback_of w callback)
    where
      of_row : (o : Option CallbackRow) → issued_row (option_map (renamed_callback name) o) ≡ option_map (renamed_callback name) (issued_row o)
      of_row None = refl
      of_row (Some c) = elim (is_issued c.status) as (λ b. cond b (Some (renamed_callback name c)) None ≡ option_map (renamed_callback name) (cond b (Some c) None)) [ true ↦ refl | false ↦ refl ]

  pub complete_io_renamed : (callback error bytes : ℕ) → complete_io_plan u who (name callback) error bytes ≡ renamed_plan name (complete_io_plan w who callback error bytes)
  unfolding complete_io_plan
  complete_io_renamed callback error bytes =
      unless_renamed name (complete_io_refusals u who (name callback)) (complete_io_refusals w who callback) _ _
      (ap₂ (λ rs b. rs ++ (b, NoOperation) ∷ []) (actor_refusals_renamed name naming w who) (ap is_none (issued_renamed callback) ∙ none_mapped (renamed_callback name) (issued_of w callback)))
      (ap (complete_io error bytes) (issued_renamed callback) ∙ completes error bytes (issued_of w callback))

  first_issued_renamed : (object : ℕ) → first_issued u object ≡ option_map (renamed_callback name) (first_issued w object)
  first_issued_renamed object = find_map (renamed_callback name) (is_issued_of object) (is_issued_of object) (λ _. refl) w.callbacks

  none_issued : (object : ℕ) → is_none (first_issued u object) ≡ is_none (first_issued w object)
  none_issued object = ap is_none (first_issued_renamed object) ∙ none_mapped (renamed_callback name) (first_issued w object)

  pub complete_next_renamed : (object : ObjectId) (error bytes : ℕ) → complete_next_plan u who object error bytes ≡ renamed_plan name (complete_next_plan w who object error bytes)
  unfolding complete_next_plan
  complete_next_renamed object error bytes =
      unless_renamed name (complete_next_refusals u who object.0) (complete_next_refusals w who object.0) _ _
      (rw (actor_renamed name naming w who, without_renamed name naming w who, in_wait_renamed name naming w who, none_issued object.0))
      (ap (complete_io error bytes) (first_issued_renamed object.0) ∙ completes error bytes (first_issued w object.0))
