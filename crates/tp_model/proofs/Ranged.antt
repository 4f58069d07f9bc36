-- From what it follows that the numbers of a plan are in range; and each change keeps those of the rows.
use Rattle.std.proofs.Common.{◌≡◌, ℕ, ◌+◌, ◌-◌, ◌<◌, ◌≤◌, ◌^◌, Bool, true, false, cond, not, ◌==◌, List, [], ◌∷◌, length, arith, slice_get, Option, Some, None, refl, sym, subst, ap, find, ◌∙◌, zero, suc, length-append, length-set}
use Rattle.std.specs.List.{AllByRecursion}
use Rattle.tp_base.specs.Ranges.{IsRoutineInRange, IsRefusalInRange, IsResultInRange}
use Rattle.tp_base.specs.declared.ids.Who.{Who}
use Rattle.tp_base.specs.declared.ids.ObjectId.{ObjectId}
use Rattle.tp_base.specs.declared.ids.RoutineId.{RoutineId}
use Rattle.tp_base.specs.declared.answers.Refusal.{Refusal}
use Rattle.tp_base.specs.declared.plans.Busy.{Busy}
use Rattle.tp_base.specs.declared.plans.Mark.{Mark}
use Rattle.tp_base.specs.declared.plans.Mark.TheVariants.{Long, Loose, Asks}
use Rattle.tp_base.specs.declared.plans.IoStep.{IoStep}
use Rattle.tp_base.specs.declared.plans.IoStep.TheVariants.{Issue, GiveUp, Complete}
use Rattle.tp_base.specs.declared.plans.PoolChange.{PoolChange}
use Rattle.tp_base.specs.declared.plans.Change.{Change}
use Rattle.tp_base.specs.declared.plans.Change.TheVariants as change
use Rattle.tp_base.specs.declared.plans.Plan.{Plan}
use Rattle.tp_base.specs.declared.plans.Plan.TheVariants as plan
use Rattle.tp_base.specs.declared.answers.Answer.TheVariants as answer
use Rattle.tp_base.specs.declared.plans.WaitEnd.{WaitEnd}
use Rattle.tp_base.specs.declared.plans.WaitEnd.TheVariants.{Free, Exhausted, Stalled}
use Rattle.tp_base.specs.declared.rows.KernelRow.{KernelRow}
use Rattle.tp_base.specs.declared.rows.WaitTarget.{WaitTarget}
use Rattle.tp_base.specs.declared.rows.WaitTarget.TheVariants.{Object, Group, Kernel}
use Rattle.tp_base.specs.Actors.{is_same_actor}
use Rattle.tp_base.specs.Armings.{is_arming_of, is_arming_on}
use Rattle.tp_base.specs.Kernels.{is_signalled, taken as taken_state, taken_by, state_after}
use Rattle.tp_model.specs.Kernels.{is_one_that, new_kernel, kernel_changed}
use Rattle.tp_base.specs.declared.rows.PoolRow.{PoolRow}
use Rattle.tp_base.specs.declared.rows.ObjectRow.{ObjectRow}
use Rattle.tp_base.specs.declared.rows.CallbackRow.{CallbackRow}
use Rattle.tp_model.specs.Waits.{target_of, cancel_where, is_cancelled_by, cancelled, wait_of}
use Rattle.tp_base.specs.declared.plans.Trigger.{Trigger}
use Rattle.tp_base.specs.declared.plans.Trigger.TheVariants.{SetTimer, Advance, SetWait, SetEvent, ReleaseSemaphore}
use Rattle.tp_base.specs.declared.plans.KernelChange.{KernelChange}
use Rattle.tp_base.specs.declared.plans.KernelChange.TheVariants.{Set, Raise}
use Rattle.tp_base.specs.declared.answers.TakeResult.{TakeResult}
use Rattle.tp_base.specs.declared.answers.TakeResult.TheVariants.{Plain, WaitObject0, WaitTimeout, Io}
use Rattle.tp_base.specs.declared.ids.KernelId.{KernelId}
use Rattle.tp_base.specs.declared.rows.Arming.{Arming}
use Rattle.std.specs.Prelude.{ℤ}
use Rattle.tp_base.specs.declared.rows.TimerSetting.{TimerSetting}
use Rattle.tp_base.specs.Timers.{expires_at_once}
use Rattle.tp_model.specs.Sources.{Sources, Job, Firing, job, jobless, with_state, disarmed, release_to, release_first, release_times, arm, firing, sources_of, rows_of, object_row}
use Rattle.tp_model.specs.Support.Sound.{IsSound, IsMade, is_standing}
use Rattle.tp_model.proofs.Firing.{AreJobsOf, IsFiringOf, IsFiringIn, IsTriggerOf, row_of_made, firing_of, fired_in, jobs_made, armable_stands, with_arming}
use Rattle.tp_model.proofs.SoundSources.{sources_in}
use Rattle.tp_model.specs.World.{World, BegunWait}
use Rattle.tp_model.specs.Counts.{numbered, has_number}
use Rattle.tp_model.specs.Conditions.{busy_of}
use Rattle.tp_model.specs.Changes.{kernels_taken, kernels_left, new_wait, change_pool, replaced, taken, marked, operated, returned, changed, release_object, new_close, notified}
use Rattle.tp_model.specs.Refusing.{first_refusal, unless_refused, make_refusals, make}
use Rattle.tp_model.specs.Laws.Entries.{is_completion}
use Rattle.tp_model.specs.Support.Allowed.{IsAllowed, IsReady, MayChange, Suits}
use Rattle.tp_model.specs.Support.Ranged.{IsStateInRange, IsObjectInRange, IsCallbackInRange, AreRowsInRange, IsTriggerInRange, IsStepInRange, IsChangeInRange, IsPlanInRange, IsWaitInRange}
use Rattle.tp_model.specs.Support.Remembered.{lives, forget}
use Rattle.tp_base.specs.declared.ids.Who.TheVariants.{Worker}
use Rattle.std.proofs.lemmas.Bool.{leb-true}
use Rattle.std.specs.Option.{option_map_or}
use Rattle.tp_base.specs.declared.answers.ActionKind.{ActionKind}
use Rattle.tp_base.specs.declared.answers.ActionKind.TheVariants.{Section, Mutex, Semaphore, Event}
use Rattle.tp_base.specs.declared.answers.SlotWord.{SlotWord}
use Rattle.tp_base.specs.declared.plans.ActionWords.{ActionWords}
use Rattle.tp_base.specs.declared.plans.KernelChange.TheVariants.{Leave}
use Rattle.tp_base.specs.declared.rows.Action.{Action}
use Rattle.tp_base.specs.declared.rows.Slots.{Slots}
use Rattle.tp_base.specs.declared.rows.KernelState.{KernelState}
use Rattle.tp_base.specs.declared.rows.KernelState.TheVariants as kernel_state
use Rattle.tp_base.specs.Actions.{may_raise, is_performed}
use Rattle.tp_model.specs.Sources.{signal}
use Rattle.tp_model.specs.Actions.{slots_of, words_of, act, perform, returning}
use Rattle.tp_model.specs.Support.Sound.{IsMade, may_be_armed}
use Rattle.tp_model.proofs.Actions.{is_that, may_raise_still}
use Rattle.tp_model.proofs.Performing.{returning_of}
use Rattle.tp_model.proofs.Kernels.{all_changed, state_ranged, taken_ranged, taken_state_ranged}
use Rattle.tp_model.proofs.Lists.{all_append, all_appended, all_filter, all_get, all_map, find_all, all_set}
use Rattle.tp_model.proofs.Refusals.{NoneHolds, none_holds, room_to_make, numbered_some, false_true}
use Rattle.tp_model.specs.Groups.{released_from, is_member, is_member_at, notices_of}
use Rattle.std.proofs.lemmas.List.{length-map}

-- ---- rows

put_row : (r : CallbackRow) (cs : List CallbackRow) → IsCallbackInRange r → AllByRecursion IsCallbackInRange cs → AllByRecursion IsCallbackInRange (replaced r cs)
put_row r cs here all = all_map IsCallbackInRange (λ c. cond (has_number r.number c) r c) (λ c h. elim (has_number r.number c) as (λ b. IsCallbackInRange (cond b r c)) [ true ↦ here | false ↦ h ]) cs all

pub found_row : (c : CallbackRow) (cs : List CallbackRow) → find (has_number c.number) cs ≡ Some c → AllByRecursion IsCallbackInRange cs → IsCallbackInRange c
found_row c cs found all = find_all IsCallbackInRange (has_number c.number) c cs all found

-- a row that differs in its status and its mark alone
same_numbers : (r c : CallbackRow) → r.number ≡ c.number → r.object ≡ c.object → r.routine ≡ c.routine → r.context ≡ c.context → r.result ≡ c.result → IsCallbackInRange c → IsCallbackInRange r
same_numbers r c n o t x s h =
    record {
      number = subst (λ k. k < 2 ^ 64) (sym n) h.number;
      object = subst (λ (k : ObjectId). k.0 ≤ 65535) (sym o) h.object;
      routine = subst (λ (k : RoutineId). IsRoutineInRange k.0) (sym t) h.routine;
      context = subst (λ k. k < 2 ^ 64) (sym x) h.context;
      result = subst IsResultInRange (sym s) h.result;
    }

pool_rows : (w : World) (pool : ℕ) (how : PoolChange) (row : Option PoolRow) → AreRowsInRange w → AreRowsInRange (change_pool w pool how row)
pool_rows w pool how None rows = rows
pool_rows w pool how (Some row) rows = record { objects = rows.objects; callbacks = rows.callbacks; timers = rows.timers; armings = rows.armings; kernels = rows.kernels; waits = rows.waits; few = rows.few }

mark_rows : (w : World) (mark : Mark) (c : CallbackRow) → find (has_number c.number) w.callbacks ≡ Some c → AreRowsInRange w → AllByRecursion IsCallbackInRange (replaced (marked mark c) w.callbacks)
mark_rows w Long c found rows = put_row (marked Long c) w.callbacks (same_numbers (marked Long c) c refl refl refl refl refl (found_row c w.callbacks found rows.callbacks)) rows.callbacks
mark_rows w Loose c found rows = put_row (marked Loose c) w.callbacks (same_numbers (marked Loose c) c refl refl refl refl refl (found_row c w.callbacks found rows.callbacks)) rows.callbacks
mark_rows w (Asks kind action) c found rows =
    put_row (marked (Asks kind action) c) w.callbacks (same_numbers (marked (Asks kind action) c) c refl refl refl refl refl (found_row c w.callbacks found rows.callbacks)) rows.callbacks

operated_row : (how : IoStep) (c : CallbackRow) → IsStepInRange how → IsCallbackInRange c → IsCallbackInRange (operated how c)
operated_row Issue c r h = record { number = h.number; object = h.object; routine = h.routine; context = h.context; result = h.result }
operated_row GiveUp c r h = record { number = h.number; object = h.object; routine = h.routine; context = h.context; result = h.result }
operated_row (Complete error bytes) c r h = record { number = h.number; object = h.object; routine = h.routine; context = h.context; result = r }

release_rows : (w : World) (object : ObjectId) (row : Option ObjectRow) → numbered w.objects object.0 ≡ row → AreRowsInRange w → AreRowsInRange (release_object w object row)
release_rows w object None is rows = rows
release_rows w object (Some row) is rows =
    let o = all_get IsObjectInRange w.objects (object.0 - 1) row rows.objects (numbered_some w.objects object.0 row is).0 in
    record {
      objects = all_set IsObjectInRange w.objects (object.0 - 1) (record row { released = true }) (record { routine = o.routine; context = o.context; cancel = o.cancel }) rows.objects;
      callbacks = rows.callbacks;
      timers = all_filter (λ (x : TimerSetting). x.object.0 ≤ 65535) (λ (x : TimerSetting). not (x.object.0 == object.0)) w.settings rows.timers;
      armings = all_filter (λ (a : Arming). a.object.0 ≤ 65535) (λ (a : Arming). not (is_arming_of object.0 a)) w.armings rows.armings;
      kernels = rows.kernels;
      waits = rows.waits;
      few = omega (arith, length-set w.objects (object.0 - 1) (record row { released = true }), rows.few);
    }

cancel_rows : (test : CallbackRow → Bool) (cs : List CallbackRow) → AllByRecursion IsCallbackInRange cs → AllByRecursion IsCallbackInRange (cancel_where test cs)
cancel_rows test cs all =
    all_map IsCallbackInRange (λ c. cond (test c) (cancelled c) c)
    (λ c h. elim (test c) as (λ b. IsCallbackInRange (cond b (cancelled c) c)) [ true ↦ record { number = h.number; object = h.object; routine = h.routine; context = h.context; result = h.result } | false ↦ h ]) cs all

-- the rows of jobs
plain_ranged : (r : TakeResult) → is_completion r ≡ false → IsResultInRange r
plain_ranged Plain e = tt
plain_ranged WaitObject0 e = tt
plain_ranged WaitTimeout e = tt
plain_ranged (Io error bytes) e = absurd (false_true (sym e))

job_rows : (objects : List ObjectRow) (next_number : ℕ) (jobs : List Job) → AllByRecursion IsObjectInRange objects → AreJobsOf (IsMade (length objects)) jobs → AreJobsOf (λ n. n ≤ 65535) jobs → next_number + length jobs ≤ 2 ^ 64
    → AllByRecursion IsCallbackInRange (rows_of objects next_number jobs)
job_rows objects next_number [] os made few fits = tt
job_rows objects next_number (j ∷ js) os made few fits =
    let o : IsObjectInRange (object_row objects j.object) = row_of_made IsObjectInRange objects j.object os made.0.0 in
    (record { number = omega (arith, fits); object = few.0.0; routine = o.routine; context = o.context; result = plain_ranged j.result few.0.1 }, job_rows objects (next_number + 1) js os made.1 few.1 (omega (arith, fits)))

trigger_few : (trigger : Trigger) → IsTriggerInRange trigger → IsTriggerOf (λ n. n ≤ 65535) (λ n. n ≤ 65535) trigger
trigger_few (SetTimer object due period window) here = here
trigger_few (SetWait object kernel timeout) here = here
trigger_few _ here = tt

-- ---- kernel objects

abbrev AreStatesInRange : List KernelRow → Type 0
AreStatesInRange kernels = AllByRecursion (λ (k : KernelRow). IsStateInRange k.state) kernels

suited_rows : (w : World) (kernel : KernelId) (how : KernelChange) → MayChange w kernel how → AreStatesInRange w.kernels → AreStatesInRange (kernel_changed (state_after how) w.kernels kernel.0)
suited_rows w kernel how a rows = all_changed IsStateInRange (state_after how) w.kernels kernel.0 suited rows
  where
    suited : (row : KernelRow) → numbered w.kernels kernel.0 ≡ Some row → IsStateInRange row.state → IsStateInRange (state_after how row.state)
    suited row is within = let same : Some a.row ≡ Some row = sym a.stands ∙ is in let is_row : a.row ≡ row = cc in state_ranged how row.state (subst (λ (k : KernelRow). Suits how k.state) is_row a.suits) within

taken_states : (kernels : List KernelRow) (kernel : ℕ) → AreStatesInRange kernels → AreStatesInRange (kernel_changed taken_state kernels kernel)
taken_states kernels kernel all = all_changed IsStateInRange taken_state kernels kernel (λ row _ within. taken_state_ranged row.state within) all

release_states : (n kernel : ℕ) (f : Firing) → AreStatesInRange f.sources.kernels → AreStatesInRange (release_times n kernel f).sources.kernels
release_states zero kernel f all = all
release_states (suc n) kernel f all =
    release_states n kernel (release_first kernel f)
    (elim (is_one_that is_signalled f.sources.kernels kernel) as (λ b. AreStatesInRange (cond b (release_to kernel f (find (is_arming_on kernel) f.sources.armings)) f).sources.kernels) [
      | true ↦ of_first (find (is_arming_on kernel) f.sources.armings)
      | false ↦ all
    ])
  where
    of_first : (first : Option Arming) → AreStatesInRange (release_to kernel f first).sources.kernels
    of_first None = all
    of_first (Some a) = taken_states f.sources.kernels kernel all

-- a signal, where the change that it begins with fits
signal_states : (how : KernelChange) (kernel : ℕ) (f : Firing) → ((row : KernelRow) → numbered f.sources.kernels kernel ≡ Some row → IsStateInRange row.state → IsStateInRange (state_after how row.state)) → AreStatesInRange f.sources.kernels
    → AreStatesInRange (signal how kernel f).sources.kernels
signal_states how kernel f fits all = release_states (length f.sources.armings) kernel (record f { sources = with_state (state_after how) kernel f.sources }) (all_changed IsStateInRange (state_after how) f.sources.kernels kernel fits all)

-- the actions of a return
act_states : (kind : ActionKind) (action : Action) (f : Firing) → (kind ≡ Semaphore → is_that (may_raise action.count) f.sources.kernels action.kernel.0 ≡ true) → AreStatesInRange f.sources.kernels → AreStatesInRange (act kind action f).sources.kernels
act_states kind action f may all = of_kind kind may
  where
    left : (state : KernelState) → IsStateInRange state → IsStateInRange (state_after Leave state)
    left (kernel_state.Event manual signalled) r = tt
    left (kernel_state.Semaphore count maximum) r = r
    left (kernel_state.Mutex owner takings) r = tt
    left (kernel_state.Section owner takings) r = tt

    set : (state : KernelState) → IsStateInRange state → IsStateInRange (state_after Set state)
    set (kernel_state.Event manual signalled) r = tt
    set (kernel_state.Semaphore count maximum) r = r
    set (kernel_state.Mutex owner takings) r = tt
    set (kernel_state.Section owner takings) r = tt

    raised : (more : ℕ) (state : KernelState) → may_raise more state ≡ true → IsStateInRange state → IsStateInRange (state_after (Raise more) state)
    raised more (kernel_state.Event manual signalled) fits r = tt
    raised more (kernel_state.Semaphore count maximum) fits r = (leb-true (count + more) maximum fits, r.1)
    raised more (kernel_state.Mutex owner takings) fits r = tt
    raised more (kernel_state.Section owner takings) fits r = tt

    of_kind : (k : ActionKind) → (k ≡ Semaphore → is_that (may_raise action.count) f.sources.kernels action.kernel.0 ≡ true) → AreStatesInRange (act k action f).sources.kernels
    of_kind Section m = all_changed IsStateInRange (state_after Leave) f.sources.kernels action.kernel.0 (λ row _ r. left row.state r) all
    of_kind Mutex m = all_changed IsStateInRange (state_after Leave) f.sources.kernels action.kernel.0 (λ row _ r. left row.state r) all
    of_kind Semaphore m =
        signal_states (Raise action.count) action.kernel.0 f (λ row is r. raised action.count row.state (sym (ap (λ (o : Option KernelRow). option_map_or (λ (k : KernelRow). may_raise action.count k.state) o false) is) ∙ m refl) r) all
    of_kind Event m = signal_states Set action.kernel.0 f (λ row _ r. set row.state r) all

perform_states : (kind : ActionKind) (says : SlotWord) (action : Option Action) (f : Firing) → ((a : Action) → action ≡ Some a → is_performed says ≡ true → kind ≡ Semaphore → is_that (may_raise a.count) f.sources.kernels a.kernel.0 ≡ true) → AreStatesInRange f.sources.kernels
    → AreStatesInRange (perform kind says action f).sources.kernels
perform_states kind says None f may all = all
perform_states kind says (Some a) f may all =
    elim (is_performed says) as (λ b. is_performed says ≡ b → AreStatesInRange (cond b (act kind a f) f).sources.kernels) [
      | true ↦ λ does. act_states kind a f (λ semaphore. may a refl does semaphore) all
      | false ↦ λ _. all
    ] refl

returning_states : (w : World) (who : Who) (words : ActionWords) (slots : Slots) → words ≡ words_of w who slots → AreStatesInRange w.kernels → AreStatesInRange (returning w words slots).sources.kernels
returning_states w who words slots told all =
    perform_states Event words.event slots.event _ (λ a is does semaphore. absurd cc)
    (perform_states Semaphore words.semaphore slots.semaphore _ (λ a is does _. may_raise_still w who words slots told a is does)
    (perform_states Mutex words.mutex slots.mutex _ (λ a is does semaphore. absurd cc)
    (perform_states Section words.section slots.section (jobless (sources_of w)) (λ a is does semaphore. absurd cc) all)))

arm_states : (object : ObjectId) (kernel : KernelId) (timeout : Option ℤ) (s : Sources) → AreStatesInRange s.kernels → AreStatesInRange (arm object kernel timeout s).sources.kernels
arm_states object kernel timeout s all =
    elim (is_one_that is_signalled s.kernels kernel.0) as (λ b. AreStatesInRange (cond b (record { sources = with_state taken_state kernel.0 s; jobs = job object WaitObject0 ∷ [] })
    (cond (expires_at_once s.now timeout) (record { sources = s; jobs = job object WaitTimeout ∷ [] }) (jobless (with_arming object kernel timeout s)))).sources.kernels) [
      | true ↦ taken_states s.kernels kernel.0 all
      | false ↦ elim (expires_at_once s.now timeout) as (λ b. AreStatesInRange (cond b (record { sources = s; jobs = job object WaitTimeout ∷ [] }) (jobless (with_arming object kernel timeout s))).sources.kernels) [ true ↦ all | false ↦ all ]
    ]

fired_states : (w : World) (trigger : Trigger) → IsReady w trigger → AreStatesInRange w.kernels → AreStatesInRange (firing trigger (sources_of w)).sources.kernels
fired_states w (SetTimer object due period window) ready all = all
fired_states w (Advance now) ready all = all
fired_states w (SetWait object None timeout) ready all = all
fired_states w (SetWait object (Some kernel) timeout) ready all = arm_states object kernel timeout (disarmed object (sources_of w)) all
fired_states w (SetEvent kernel) ready all = release_states (length w.armings) kernel.0 (jobless (with_state (state_after Set) kernel.0 (sources_of w))) (suited_rows w kernel Set ready all)
fired_states w (ReleaseSemaphore kernel count) ready all = release_states (length w.armings) kernel.0 (jobless (with_state (state_after (Raise count)) kernel.0 (sources_of w))) (suited_rows w kernel (Raise count) ready all)

-- an actor takes what it waits for
taken_rows : (w : World) (who : Who) (how : WaitEnd) (b : Option BegunWait) → AreRowsInRange w → AllByRecursion (λ (k : KernelRow). IsStateInRange k.state) (kernels_left w who how b)
taken_rows w who Exhausted b rows = rows.kernels
taken_rows w who Stalled b rows = rows.kernels
taken_rows w who Free None rows = rows.kernels
taken_rows w who Free (Some b) rows = of_target b.target
  where
    of_target : (t : WaitTarget) → AllByRecursion (λ (k : KernelRow). IsStateInRange k.state) (kernels_taken w who t)
    of_target (Object object) = rows.kernels
    of_target (Group group) = rows.kernels
    of_target (Kernel kernel) = all_changed IsStateInRange (taken_by who) w.kernels kernel.0 (λ row _ within. taken_ranged who row.state within) rows.kernels

pub changed_rows : (next_number : ℕ) (w : World) (ch : Change) → IsSound next_number w → IsAllowed next_number w ch → IsChangeInRange ch → AreRowsInRange w → AreRowsInRange (changed w ch)
changed_rows next_number w change.Keep s a r rows = rows
changed_rows next_number w change.CreatePool s a r rows = record { objects = rows.objects; callbacks = rows.callbacks; timers = rows.timers; armings = rows.armings; kernels = rows.kernels; waits = rows.waits; few = rows.few }
changed_rows next_number w (change.ChangePool pool how) s a r rows = pool_rows w pool.0 how (slice_get w.pools pool.0) rows
changed_rows next_number w (change.CreateObject row) s a r rows =
    record {
      objects = all_append IsObjectInRange w.objects row rows.objects r;
      callbacks = rows.callbacks;
      timers = rows.timers;
      armings = rows.armings;
      kernels = rows.kernels;
      waits = rows.waits;
      few = omega (arith, length-append w.objects (row ∷ []), a.room);
    }
changed_rows next_number w (change.ReleaseObject object) s a r rows = release_rows w object (numbered w.objects object.0) refl rows
changed_rows next_number w (change.QueueCallback c) s a r rows = record { objects = rows.objects; callbacks = all_append IsCallbackInRange w.callbacks c rows.callbacks r; timers = rows.timers; armings = rows.armings; kernels = rows.kernels; waits = rows.waits; few = rows.few }
changed_rows next_number w (change.ExpectCallback c) s a r rows = record { objects = rows.objects; callbacks = all_append IsCallbackInRange w.callbacks c rows.callbacks r; timers = rows.timers; armings = rows.armings; kernels = rows.kernels; waits = rows.waits; few = rows.few }
changed_rows next_number w (change.Operate c how) s a r rows =
    record { objects = rows.objects; callbacks = put_row (operated how c) w.callbacks (operated_row how c r (found_row c w.callbacks a.found rows.callbacks)) rows.callbacks; timers = rows.timers; armings = rows.armings; kernels = rows.kernels; waits = rows.waits; few = rows.few }
changed_rows next_number w (change.Fire trigger first count) s a r rows =
    let f : Firing = firing trigger (sources_of w) in
    let made : IsFiringIn w.objects f = fired_in w trigger a.ready (sources_in next_number w s) in
    let few : IsFiringOf (λ n. n ≤ 65535) (λ n. n ≤ 65535) f = firing_of (λ n. n ≤ 65535) (λ n. n ≤ 65535) (λ n h. h) trigger (sources_of w) (trigger_few trigger r.0) (record { settings = rows.timers; armings = rows.armings }) in
    record {
      objects = rows.objects;
      callbacks = all_appended IsCallbackInRange w.callbacks (rows_of w.objects first f.jobs) rows.callbacks (job_rows w.objects first f.jobs rows.objects (jobs_made w.objects f.jobs made.jobs) few.jobs (omega (arith, r.1, a.counted)));
      timers = few.sources.settings;
      armings = few.sources.armings;
      kernels = fired_states w trigger a.ready rows.kernels;
      waits = rows.waits;
      few = rows.few;
    }
changed_rows next_number w (change.CreateKernel state) s a r rows =
    record { objects = rows.objects; callbacks = rows.callbacks; timers = rows.timers; armings = rows.armings; kernels = all_append (λ (k : KernelRow). IsStateInRange k.state) w.kernels (new_kernel state) rows.kernels r; waits = rows.waits; few = rows.few }
changed_rows next_number w (change.ChangeKernel kernel how) s a r rows =
    record { objects = rows.objects; callbacks = rows.callbacks; timers = rows.timers; armings = rows.armings; kernels = suited_rows w kernel how a rows.kernels; waits = rows.waits; few = rows.few }
changed_rows next_number w (change.Attach worker pool) s a r rows = record { objects = rows.objects; callbacks = rows.callbacks; timers = rows.timers; armings = rows.armings; kernels = rows.kernels; waits = rows.waits; few = rows.few }
changed_rows next_number w (change.Detach by) s a r rows = record { objects = rows.objects; callbacks = rows.callbacks; timers = rows.timers; armings = rows.armings; kernels = rows.kernels; waits = rows.waits; few = rows.few }
changed_rows next_number w (change.Take by c) s a r rows =
    record {
      objects = rows.objects;
      callbacks = put_row (taken c by.worker) w.callbacks (same_numbers (taken c by.worker) c refl refl refl refl refl (found_row c w.callbacks a.found rows.callbacks)) rows.callbacks;
      timers = rows.timers;
      armings = rows.armings;
      kernels = rows.kernels;
      waits = rows.waits;
      few = rows.few;
    }
changed_rows next_number w (change.Mark by mark) s a r rows = record { objects = rows.objects; callbacks = mark_rows w mark by.callback a.runs.found rows; timers = rows.timers; armings = rows.armings; kernels = rows.kernels; waits = rows.waits; few = rows.few }
changed_rows next_number w (change.Return by words first count) s a r rows =
    let of : Slots = slots_of by.callback.status in
    let f : Firing = returning w words of in
    let made : IsFiringIn w.objects f = returning_of (λ n. is_standing w.objects n ≡ true) (λ n. may_be_armed w.objects n ≡ true) (λ n may. armable_stands w.objects n may) w words of (sources_in next_number w s) in
    let few : IsFiringOf (λ n. n ≤ 65535) (λ n. n ≤ 65535) f = returning_of (λ n. n ≤ 65535) (λ n. n ≤ 65535) (λ n h. h) w words of (record { settings = rows.timers; armings = rows.armings }) in
    record {
      objects = rows.objects;
      callbacks = all_appended IsCallbackInRange (replaced (returned by.callback) w.callbacks) (rows_of w.objects first f.jobs)
          (put_row (returned by.callback) w.callbacks (same_numbers (returned by.callback) by.callback refl refl refl refl refl (found_row by.callback w.callbacks a.runs.found rows.callbacks)) rows.callbacks)
          (job_rows w.objects first f.jobs rows.objects (jobs_made w.objects f.jobs made.jobs) few.jobs (omega (arith, r, a.counted)));
      timers = few.sources.settings;
      armings = few.sources.armings;
      kernels = returning_states w (Worker by.worker) words of (a.told ∙ ap (λ s. words_of w (Worker by.worker) (slots_of s)) (sym a.runs.running)) rows.kernels;
      waits = rows.waits;
      few = rows.few;
    }
changed_rows next_number w (change.BeginWait who awaited cancel) s a r rows =
    let target : WaitTarget = target_of awaited in
    record {
      objects = rows.objects;
      callbacks = cancel_rows (is_cancelled_by target cancel) w.callbacks rows.callbacks;
      timers = rows.timers;
      armings = rows.armings;
      kernels = rows.kernels;
      waits = all_append IsWaitInRange w.waits (new_wait who target cancel (cancel_where (is_cancelled_by target cancel) w.callbacks)) rows.waits (record { target = r; cleanup = omega arith });
      few = rows.few;
    }
changed_rows next_number w change.CreateGroup s a r rows = record { objects = rows.objects; callbacks = rows.callbacks; timers = rows.timers; armings = rows.armings; kernels = rows.kernels; waits = rows.waits; few = rows.few }
changed_rows next_number w (change.CloseGroup group) s a r rows = record { objects = rows.objects; callbacks = rows.callbacks; timers = rows.timers; armings = rows.armings; kernels = rows.kernels; waits = rows.waits; few = rows.few }
changed_rows next_number w (change.BeginClose who group cancel context notices) s a r rows =
    let kept : List CallbackRow = cancel_where (is_cancelled_by (Group group) cancel) w.callbacks in
    record {
      objects = all_map IsObjectInRange (released_from group.0) (λ o h. elim (is_member group.0 o) as (λ b. IsObjectInRange (cond b (record o { released = true }) o)) [ true ↦ record { routine = h.routine; context = h.context; cancel = h.cancel } | false ↦ h ]) w.objects rows.objects;
      callbacks = cancel_rows (is_cancelled_by (Group group) cancel) w.callbacks rows.callbacks;
      timers = all_filter (λ (x : TimerSetting). x.object.0 ≤ 65535) (λ (x : TimerSetting). not (is_member_at w group.0 x.object.0)) w.settings rows.timers;
      armings = all_filter (λ (a : Arming). a.object.0 ≤ 65535) (λ (a : Arming). not (is_member_at w group.0 a.object.0)) w.armings rows.armings;
      kernels = rows.kernels;
      waits = all_append IsWaitInRange w.waits (new_close who group cancel context (notices_of w group.0 cancel) kept) rows.waits (record { target = tt; cleanup = r });
      few = omega (arith, length-map w.objects (released_from group.0), rows.few);
    }
changed_rows next_number w (change.GiveNotice who) s a r rows =
    record {
      objects = rows.objects;
      callbacks = rows.callbacks;
      timers = rows.timers;
      armings = rows.armings;
      kernels = rows.kernels;
      waits = all_map IsWaitInRange (λ (b : BegunWait). cond (is_same_actor b.actor who) (notified b) b)
          (λ b h. elim (is_same_actor b.actor who) as (λ t. IsWaitInRange (cond t (notified b) b)) [ true ↦ record { target = h.target; cleanup = h.cleanup } | false ↦ h ]) w.waits rows.waits;
      few = rows.few;
    }
changed_rows next_number w (change.EndWait who how) s a r rows =
    record {
      objects = rows.objects;
      callbacks = rows.callbacks;
      timers = rows.timers;
      armings = rows.armings;
      kernels = taken_rows w who how (wait_of w who) rows;
      waits = all_filter IsWaitInRange (λ (b : BegunWait). not (is_same_actor b.actor who)) w.waits rows.waits;
      few = rows.few;
    }
changed_rows next_number w (change.Finish client) s a r rows = record { objects = rows.objects; callbacks = rows.callbacks; timers = rows.timers; armings = rows.armings; kernels = rows.kernels; waits = rows.waits; few = rows.few }

pub forget_rows : (w : World) → AreRowsInRange w → AreRowsInRange (forget w)
forget_rows w rows = record { objects = rows.objects; callbacks = all_filter IsCallbackInRange lives w.callbacks rows.callbacks; timers = rows.timers; armings = rows.armings; kernels = rows.kernels; waits = rows.waits; few = rows.few }

-- ---- plans

-- no refusal of these lists has a number; the check fills this in for `_`
abbrev pub AreBare : List (Bool × Refusal) → Type 0
AreBare rs = AllByRecursion (λ r. IsRefusalInRange r.1) rs

-- where a number is made, the limit is not reached
pub made_ranged : (rs : List (Bool × Refusal)) (p : Plan) → AreBare rs → (NoneHolds rs → IsPlanInRange p) → IsPlanInRange (unless_refused (first_refusal rs) p)
made_ranged rs p bare h = known (first_refusal rs) refl
  where
    refused : (qs : List (Bool × Refusal)) → AreBare qs → {refusal : Refusal} → first_refusal qs ≡ Some refusal → IsRefusalInRange refusal
    refused [] b e = absurd cc
    refused (q ∷ qs) b {refusal} e = elim q.0 as (λ t. cond t (Some q.1) (first_refusal qs) ≡ Some refusal → IsRefusalInRange refusal) [ true ↦ λ h. (let same : q.1 ≡ refusal = cc in subst IsRefusalInRange same b.0) | false ↦ λ h. refused qs b.1 h ] e

    known : (r : Option Refusal) → first_refusal rs ≡ r → IsPlanInRange (unless_refused r p)
    known None is = h (none_holds rs is)
    known (Some refusal) is = refused rs bare is

pub make_ranged : (w : World) (who : Who) (own : List (Bool × Refusal)) (limit count number : ℕ) (c : Change) → AreBare (make_refusals w who own limit count) → (NoneHolds (make_refusals w who own limit count) → count < limit → IsPlanInRange (plan.Does (answer.Made number) c))
    → IsPlanInRange (make w who own limit count number c)
make_ranged w who own limit count number c bare within = made_ranged (make_refusals w who own limit count) _ bare (λ none. within none (room_to_make w who own limit count none))

pub ranged_unless : (rs : List (Bool × Refusal)) (p : Plan) → AreBare rs → IsPlanInRange p → IsPlanInRange (unless_refused (first_refusal rs) p)
ranged_unless rs p bare h = made_ranged rs p bare (λ _. h)

-- of a call that only a running callback makes
pub in_callback_ranged : (w : World) (who : Who) (rs : List (Bool × Refusal)) (by : Option Busy → Plan) → AreBare rs → IsPlanInRange (by None) → ((busy : Busy) → IsPlanInRange (by (Some busy))) → IsPlanInRange (unless_refused (first_refusal rs) (by (busy_of w who)))
in_callback_ranged w who rs by bare none some = ranged_unless rs _ bare (runs (busy_of w who))
  where
    runs : (b : Option Busy) → IsPlanInRange (by b)
    runs None = none
    runs (Some busy) = some busy
