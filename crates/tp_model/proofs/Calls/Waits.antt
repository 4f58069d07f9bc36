-- The facts of waits for callbacks.
use Rattle.std.proofs.Common.{◌≡◌, ℕ, ◌<◌, is_some, Bool, true, false, cond, not, ◌||◌, ◌==◌, List, [], ◌∷◌, length, Option, Some, None, refl, ap, ◌∙◌, arith, eqb-true, ◌&&◌, nat_lt, ap₂, filter, ◌≤◌, ◌^◌, subst, sym, eq-eqb, ltb-true, ◌-◌, nat_le}
use Rattle.std.specs.Option.{option_map_or, unwrap_or}
use Rattle.std.proofs.lemmas.List.{length-map}
use Rattle.tp_base.specs.declared.ids.Who.{Who}
use Rattle.tp_base.specs.declared.rows.WorkerRow.{WorkerRow}
use Rattle.tp_base.specs.declared.ids.KernelId.{KernelId}
use Rattle.tp_base.specs.declared.ids.ObjectId.{ObjectId}
use Rattle.tp_base.specs.declared.calls.Kind.{Kind}
use Rattle.tp_base.specs.declared.calls.Call.TheVariants.{BeginWait, BeginAcquire, TryAcquire, End}
use Rattle.tp_base.specs.declared.answers.Refusal.{Refusal}
use Rattle.tp_base.specs.declared.answers.Answer.TheVariants as answer
use Rattle.tp_base.specs.declared.answers.Look.TheVariants as look
use Rattle.tp_base.specs.declared.plans.Busy.{Busy}
use Rattle.tp_base.specs.declared.plans.Change.TheVariants as change
use Rattle.tp_base.specs.declared.plans.KernelChange.TheVariants.{Take}
use Rattle.tp_base.specs.declared.plans.Plan.TheVariants as plan
use Rattle.tp_base.specs.declared.rows.CallbackRow.{CallbackRow}
use Rattle.tp_base.specs.declared.plans.WaitEnd.TheVariants as how
use Rattle.tp_base.specs.declared.answers.Refusal.TheVariants.{NoSuch, WrongKind, Released, NotRunning, InWait, OwnCallback}
use Rattle.tp_base.specs.declared.plans.Awaited.TheVariants as awaited
use Rattle.tp_base.specs.declared.rows.WaitTarget.{WaitTarget}
use Rattle.tp_base.specs.declared.rows.WaitTarget.TheVariants.{Object, Group, Kernel}
use Rattle.tp_base.specs.Ranges.{IsCallInRange, IsAnswerInRange}
use Rattle.tp_base.specs.Actors.{is_same_actor}
use Rattle.tp_base.specs.Kernels.{may_take}
use Rattle.tp_model.specs.Kernels.{is_kernel, is_kernel_that}
use Rattle.tp_model.specs.World.{World, BegunWait}
use Rattle.tp_model.specs.Counts.{has_number, attached, callback_of, is_pending, is_persistent_in, maximum}
use Rattle.tp_base.specs.Actors.{is_same_actor}
use Rattle.tp_model.specs.Conditions.{is_actor, is_finished, is_object, is_released, is_associated, is_in_wait, is_object_of, is_without_callback, runs_callback}
use Rattle.tp_model.specs.Refusing.{first_refusal, unless_refused}
use Rattle.tp_model.specs.Calls.Waits.{begin_wait_refusals, begin_wait_plan, begin_acquire_refusals, begin_acquire_plan, try_acquire_plan, end_for, end_held, end_wait, holds_starved, count_covered, count_cancelled_by, is_starved, end_notices}
use Rattle.tp_model.specs.Calls.End.{end_plan, end_refusals, end_unless_stalled}
use Rattle.tp_model.specs.Stalled.{is_client_stuck, is_look, lacks_room_to_run, is_pool_stuck, is_stalled, is_worker_stuck, waits_on}
use Rattle.tp_model.specs.Waits.{wait_of, held, is_outstanding_for, is_cancelled_by, cancelled, cancel_where, is_covered_by, covered_of, is_held, is_group_target, is_of, is_held_for}
use Rattle.tp_model.specs.Support.Sound.{IsSound, IsWaitSound, is_left_of, is_told}
use Rattle.tp_model.specs.Support.Allowed.{IsTakeable}
use Rattle.tp_model.specs.Support.Told.{silent, nothing, next_notice, first_left}
use Rattle.tp_model.specs.Support.Safe.{IsSafe}
use Rattle.tp_model.specs.Support.Remembered.{lives, forget}
use Rattle.tp_model.specs.Support.Ranged.{IsTargetInRange, IsCallbackInRange, IsRanged, IsPlanInRange, IsObjectInRange, IsWaitInRange}
use Rattle.tp_model.proofs.Lists.{find_all, filter_filter, filter_agree, length_filter_le, find_passes, all_get, all_agree}
use Rattle.tp_model.proofs.Refusals.{neither, not_false, false_true, numbered_some, both}
use Rattle.tp_model.proofs.Callbacks.{over_not_pending}
use Rattle.tp_model.proofs.Kernels.{Stands, that_stands}
use Rattle.tp_model.proofs.Cancelling.{cancelled_if}
use Rattle.tp_model.proofs.Forgetting.{over_not_cancelled, over_not_covered, covered_forget, busy_forget, over_forget, over_not_outstanding, pending_forget, running_forget, takeable_forget}
use Rattle.tp_model.proofs.Allowed.{safe_unless}
use Rattle.tp_model.proofs.Ranged.{ranged_unless}
use Rattle.std.specs.List.{AllByRecursion, list_any, range_with_len}
use Rattle.tp_base.specs.declared.rows.ObjectRow.{ObjectRow}
use Rattle.tp_model.specs.Laws.Entries.{Notice, is_among}
use Rattle.tp_model.proofs.Fates.{pending_left}
use Rattle.tp_model.specs.Groups.{is_object_that}
use Rattle.tp_model.proofs.Releasing.{that_row}
use Rattle.tp_model.proofs.Firing.{numbered_made}
use Rattle.tp_model.specs.Sources.{object_row, no_object}
use Rattle.tp_base.specs.declared.plans.Plan.{Plan}
use Rattle.tp_base.specs.declared.ids.Who.TheVariants.{Client, Worker}

-- ---- BeginWait

pub begin_wait_safe : (next_number : ℕ) (w : World) (who : Who) (kind : Kind) (object : ObjectId) (cancel : Bool) → IsSafe next_number w who (BeginWait kind object cancel) (begin_wait_plan w who kind object cancel)
unfolding begin_wait_plan
begin_wait_safe next_number w who kind object cancel =
    safe_unless next_number w who (BeginWait kind object cancel) (begin_wait_refusals w who kind object.0) _ (λ none.
    let there = neither (not (is_actor w who)) (not (is_object w object.0)) none.0 in
    record { allowed = record { actor = not_false (is_actor w who) there.0; none = none.1.1.1.1.0; made = not_false (is_object w object.0) there.1 }; made_by = refl; accepted = refl; tells = refl })

begun_forget : (w : World) (target : WaitTarget) (cancel : Bool) → answer.Begun (count_covered (forget w) target cancel) (count_cancelled_by (forget w) target cancel) ≡ answer.Begun (count_covered w target cancel) (count_cancelled_by w target cancel)
begun_forget w target cancel =
    ap₂ (λ m n. answer.Begun m n) (ap length (covered_forget w target cancel))
    (ap length (filter_filter (is_cancelled_by target cancel) lives (over_not_cancelled target cancel) w.callbacks))

own_refusals_forget : (next_number : ℕ) (w : World) (who : Who) (kind : Kind) (object : ℕ) → IsSound next_number w → first_refusal (begin_wait_refusals (forget w) who kind object) ≡ first_refusal (begin_wait_refusals w who kind object)
own_refusals_forget next_number w who kind object s =
    ap (λ (by : Option Busy). first_refusal (with_own (option_map_or (λ (x : Busy). is_associated x.callback.status && (x.callback.object.0 == object)) by false))) (busy_forget next_number w who s)
  where
    with_own : Bool → List (Bool × Refusal)
    with_own own =
        (not (is_actor w who) || not (is_object w object), NoSuch)
        ∷ (not (is_object_of w kind object), WrongKind)
        ∷ (is_finished w who || is_released w object, Released)
        ∷ (is_without_callback w who, NotRunning)
        ∷ (is_in_wait w who, InWait)
        ∷ (own, OwnCallback)
        ∷ []

pub begin_wait_forget : (next_number : ℕ) (w : World) (who : Who) (kind : Kind) (object : ObjectId) (cancel : Bool) → IsSound next_number w → begin_wait_plan (forget w) who kind object cancel ≡ begin_wait_plan w who kind object cancel
unfolding begin_wait_plan
begin_wait_forget next_number w who kind object cancel s =
    ap₂ (λ r a. unless_refused r (plan.Does a (change.BeginWait who (awaited.Object object) cancel))) (own_refusals_forget next_number w who kind object.0 s) (begun_forget w (Object object) cancel)

covers_within : (q test : CallbackRow → Bool) (cs : List CallbackRow) → length (filter q (cancel_where test cs)) ≤ length (filter (λ c. q (cancelled_if test c)) cs)
covers_within q test [] = omega arith
covers_within q test (c ∷ cs) =
    elim (q (cancelled_if test c)) as (λ b. length (cond b (cancelled_if test c ∷ filter q (cancel_where test cs)) (filter q (cancel_where test cs))) ≤ length (cond b (c ∷ filter (λ (x : CallbackRow). q (cancelled_if test x)) cs) (filter (λ (x : CallbackRow). q (cancelled_if test x)) cs))) [
      | true ↦ omega (arith, covers_within q test cs)
      | false ↦ covers_within q test cs
    ]

over_covered : (target : WaitTarget) (cancel : Bool) (c : CallbackRow) → lives c ≡ false → is_covered_by target cancel (cancelled_if (is_cancelled_by target cancel) c) ≡ false
over_covered target cancel c dead = ap (λ b. is_covered_by target cancel (cond b (cancelled c) c)) (over_not_cancelled target cancel c dead) ∙ over_not_covered target cancel c dead

-- a wait covers and cancels no more than there are slots
few_live : (w : World) (q : CallbackRow → Bool) → IsRanged w → ((c : CallbackRow) → lives c ≡ false → q c ≡ false) → length (filter q w.callbacks) ≤ 65535
few_live w q g over = omega (arith, length_filter_le q lives over w.callbacks, g.slots_most, g.limits.slots_most)

pub begun_ranged : (w : World) (target : WaitTarget) (cancel : Bool) → IsRanged w → IsAnswerInRange (answer.Begun (count_covered w target cancel) (count_cancelled_by w target cancel))
begun_ranged w target cancel g =
    let test : CallbackRow → Bool = is_cancelled_by target cancel in
    let covered : length (covered_of target cancel (cancel_where test w.callbacks)) ≡ length (filter (is_covered_by target cancel) (cancel_where test w.callbacks)) = length-map (filter (is_covered_by target cancel) (cancel_where test w.callbacks)) (λ (c : CallbackRow). c.number) in
    let within : length (filter (is_covered_by target cancel) (cancel_where test w.callbacks)) ≤ length (filter (λ c. is_covered_by target cancel (cancelled_if test c)) w.callbacks) = covers_within (is_covered_by target cancel) test w.callbacks in
    (omega (arith, covered, within, few_live w (λ c. is_covered_by target cancel (cancelled_if test c)) g (over_covered target cancel)), few_live w test g (over_not_cancelled target cancel))

pub begin_wait_ranged : (w : World) (who : Who) (kind : Kind) (object : ObjectId) (cancel : Bool) → IsRanged w → IsPlanInRange (begin_wait_plan w who kind object cancel)
unfolding begin_wait_plan
begin_wait_ranged w who kind object cancel g = ranged_unless (begin_wait_refusals w who kind object.0) _ _ (begun_ranged w (Object object) cancel g, tt)

-- ---- BeginAcquire

none_cancelled : (target : WaitTarget) (cs : List CallbackRow) → length (filter (is_cancelled_by target false) cs) ≡ 0
none_cancelled target [] = refl
none_cancelled target (c ∷ cs) = none_cancelled target cs

pub begin_acquire_safe : (next_number : ℕ) (w : World) (who : Who) (kernel : KernelId) → IsSafe next_number w who (BeginAcquire kernel) (begin_acquire_plan w who kernel)
unfolding begin_acquire_plan
begin_acquire_safe next_number w who kernel =
    safe_unless next_number w who (BeginAcquire kernel) (begin_acquire_refusals w who kernel.0) _ (λ none.
    let there = neither (not (is_actor w who)) (not (is_kernel w kernel.0)) none.0 in
    record {
      allowed = record { actor = not_false (is_actor w who) there.0; none = none.1.1.1.0; made = not_false (is_kernel w kernel.0) there.1 };
      made_by = refl;
      accepted = refl;
      tells = ap (λ n. record silent { deed = record nothing { count = n }; waiting = Some true; begins = true }) (sym (none_cancelled (Kernel kernel) w.callbacks));
    })

pub begin_acquire_forget : (w : World) (who : Who) (kernel : KernelId) → begin_acquire_plan (forget w) who kernel ≡ begin_acquire_plan w who kernel
unfolding begin_acquire_plan
begin_acquire_forget w who kernel = refl

pub begin_acquire_ranged : (w : World) (who : Who) (kernel : KernelId) → IsCallInRange (BeginAcquire kernel) → IsPlanInRange (begin_acquire_plan w who kernel)
unfolding begin_acquire_plan
begin_acquire_ranged w who kernel c = ranged_unless (begin_acquire_refusals w who kernel.0) _ _ (tt, c)

-- ---- TryAcquire

pub try_acquire_safe : (next_number : ℕ) (w : World) (who : Who) (kernel : KernelId) → IsSafe next_number w who (TryAcquire kernel) (try_acquire_plan w who kernel)
unfolding try_acquire_plan
try_acquire_safe next_number w who kernel =
    safe_unless next_number w who (TryAcquire kernel) (begin_acquire_refusals w who kernel.0) _ (λ _. tries (is_kernel_that (may_take who) w kernel.0) refl)
  where
    tries : (b : Bool) → is_kernel_that (may_take who) w kernel.0 ≡ b → IsSafe next_number w who (TryAcquire kernel) (cond b (plan.Does (answer.Flag true) (change.ChangeKernel kernel (Take who))) (plan.Does (answer.Flag false) change.Keep))
    tries true may =
        let there : Stands (may_take who) w kernel.0 = that_stands (may_take who) w kernel.0 may in
        record { allowed = record { row = there.row; stands = there.stands; suits = there.passes }; made_by = tt; accepted = refl; tells = refl }
    tries false may = record { allowed = tt; made_by = tt; accepted = refl; tells = refl }

pub try_acquire_forget : (w : World) (who : Who) (kernel : KernelId) → try_acquire_plan (forget w) who kernel ≡ try_acquire_plan w who kernel
unfolding try_acquire_plan
try_acquire_forget w who kernel = refl

pub try_acquire_ranged : (w : World) (who : Who) (kernel : KernelId) → IsCallInRange (TryAcquire kernel) → IsPlanInRange (try_acquire_plan w who kernel)
unfolding try_acquire_plan
try_acquire_ranged w who kernel c = ranged_unless (begin_acquire_refusals w who kernel.0) _ _ (tries (is_kernel_that (may_take who) w kernel.0))
  where
    tries : (b : Bool) → IsPlanInRange (cond b (plan.Does (answer.Flag true) (change.ChangeKernel kernel (Take who))) (plan.Does (answer.Flag false) change.Keep))
    tries true = (tt, tt)
    tries false = (tt, tt)

-- ---- End

-- a wait for a kernel object holds no callback
pub none_held : (w : World) (b : BegunWait) (kernel : KernelId) → b.target ≡ Kernel kernel → held w b ≡ []
none_held w b kernel at = ap (λ t. filter (is_held w t) b.covered) at ∙ none b.covered
  where
    of_row : (o : Option CallbackRow) → option_map_or (is_outstanding_for (Kernel kernel)) o false ≡ false
    of_row None = refl
    of_row (Some c) = refl

    none : (ns : List ℕ) → filter (is_held w (Kernel kernel)) ns ≡ []
    none [] = refl
    none (n ∷ ns) = ap (λ t. cond t (n ∷ filter (is_held w (Kernel kernel)) ns) (filter (is_held w (Kernel kernel)) ns)) (of_row (callback_of w n)) ∙ none ns

-- a wait that holds a callback which is pending has no notices to give
starved_unnoticed : (next_number room : ℕ) (w : World) (b : BegunWait) → IsWaitSound next_number w.callbacks b → holds_starved w room (held w b) ≡ true → b.notices ≡ []
starved_unnoticed next_number room w b sound starved = of_list b.covered (λ n among. among) starved
  where
    of_row : (n : ℕ) (o : Option CallbackRow) → callback_of w n ≡ o → option_map_or (is_outstanding_for b.target) o false ≡ true → option_map_or (is_starved w room) o false ≡ true → is_among n b.covered ≡ true → b.notices ≡ []
    of_row n None at out short among = absurd (false_true out)
    of_row n (Some c) at out short among =
        let of : is_of b.target c ≡ true = (both (is_of b.target c) (is_held_for b.target c.status) out).0 in
        let waits : is_pending c.status ≡ true = (both (is_pending c.status) (nat_lt room 2 || (nat_lt room 4 && (attached w c.pool.0 == 0))) short).0 in
        sound.settled n (ap (λ o. option_map_or (is_left_of b.target) o false) at ∙ ap₂ (λ x y. x && y) of (pending_left c.status waits)) among

    of_list : (ns : List ℕ) → ((n : ℕ) → is_among n ns ≡ true → is_among n b.covered ≡ true) → holds_starved w room (filter (is_held w b.target) ns) ≡ true → b.notices ≡ []
    of_list [] within short = absurd (false_true short)
    of_list (n ∷ ns) within short =
        elim (is_held w b.target n) as (λ t. is_held w b.target n ≡ t → holds_starved w room (cond t (n ∷ filter (is_held w b.target) ns) (filter (is_held w b.target) ns)) ≡ true → b.notices ≡ []) [
          | true ↦ λ out e. elim (option_map_or (is_starved w room) (callback_of w n) false) as (λ t. option_map_or (is_starved w room) (callback_of w n) false ≡ t → (t || holds_starved w room (filter (is_held w b.target) ns)) ≡ true → b.notices ≡ []) [
            | true ↦ λ here _. of_row n (callback_of w n) refl out here (within n (ap (λ t. t || is_among n ns) (eq-eqb n n refl)))
            | false ↦ λ _ rest. of_list ns (λ m among. within m (behind m (n == m) among)) rest
          ] refl e
          | false ↦ λ _ e. of_list ns (λ m among. within m (behind m (n == m) among)) e
        ] refl short
      where
        behind : (m : ℕ) (t : Bool) → is_among m ns ≡ true → (t || is_among m ns) ≡ true
        behind m true h = refl
        behind m false h = h

pub end_safe : (next_number room : ℕ) (w : World) (who : Who) → IsSound next_number w → IsSafe next_number w who End (end_plan w room who)
unfolding end_plan
end_safe next_number room w who s = safe_unless next_number w who End (end_refusals w who) _ (λ _. ends (wait_of w who) refl)
  where
    sound_wait : (b : BegunWait) → wait_of w who ≡ Some b → IsWaitSound next_number w.callbacks b
    sound_wait b is = find_all (IsWaitSound next_number w.callbacks) (λ (x : BegunWait). is_same_actor x.actor who) b w.waits s.waits is

    gives : (b : BegunWait) (os : List ObjectId) → wait_of w who ≡ Some b → IsTakeable w who b.target → held w b ≡ [] → b.notices ≡ os → IsSafe next_number w who End (end_notices w who b.cleanup os)
    gives b [] is takes free left = record { allowed = record { wait = b; begun = is; unnoticed = λ _. left; free = λ _. free; takes = λ _. takes }; made_by = refl; accepted = refl; tells = refl }
    gives b (o ∷ os) is takes free left =
        record {
          allowed = record { wait = b; begun = is; object = o; rest = os; left = left; free = free };
          made_by = refl;
          accepted = refl;
          tells = ap (λ (n : Option Notice). record silent { notice = n }) (sym (ap (next_notice w.objects) is ∙ ap (first_left w.objects b.cleanup) left));
        }

    ends_with : (b : BegunWait) (numbers : List ℕ) → wait_of w who ≡ Some b → IsTakeable w who b.target → held w b ≡ numbers → IsSafe next_number w who End (end_held w room who b numbers)
    ends_with b [] is takes free = gives b b.notices is takes free refl
    ends_with b (n ∷ ns) is takes left =
        elim (holds_starved w room (n ∷ ns)) as (λ t. holds_starved w room (n ∷ ns) ≡ t → IsSafe next_number w who End (cond t (plan.Does answer.Exhausted (change.EndWait who how.Exhausted)) (plan.Looked (look.NotYet n)))) [
          | true ↦ λ starved.
              record {
                allowed = record { wait = b; begun = is; unnoticed = λ _. starved_unnoticed next_number room w b (sound_wait b is) (ap (holds_starved w room) left ∙ starved); free = λ e. absurd cc; takes = λ e. absurd cc };
                made_by = refl;
                accepted = refl;
                tells = refl;
              }
          | false ↦ λ _. tt
        ] refl

    ends : (b : Option BegunWait) → wait_of w who ≡ b → IsSafe next_number w who End (end_unless_stalled w room who (end_wait w room who b))
    ends None is = tt
    ends (Some b) is = of_plan (end_wait w room who (Some b)) (of_target b.target refl)
      where
        of_plan : (p : Plan) → IsSafe next_number w who End p → IsSafe next_number w who End (end_unless_stalled w room who p)
        of_plan (plan.Refused refusal) safe = safe
        of_plan (plan.Does told how) safe = safe
        of_plan (plan.Looked seen) safe =
            elim (is_stalled w room) as (λ t. IsSafe next_number w who End (cond t (plan.Does answer.Stalled (change.EndWait who how.Stalled)) (plan.Looked seen))) [
              | true ↦ record { allowed = record { wait = b; begun = is; unnoticed = λ other. absurd (other refl); free = λ e. absurd cc; takes = λ e. absurd cc }; made_by = refl; accepted = refl; tells = refl }
              | false ↦ tt
            ]

        of_target : (t : WaitTarget) → b.target ≡ t → IsSafe next_number w who End (end_for w room who b t)
        of_target (Object object) at = ends_with b (held w b) is (subst (IsTakeable w who) (sym at) tt) refl
        of_target (Group group) at = ends_with b (held w b) is (subst (IsTakeable w who) (sym at) tt) refl
        of_target (Kernel kernel) at = acquires (is_kernel_that (may_take who) w kernel.0) refl
          where
            acquires : (t : Bool) → is_kernel_that (may_take who) w kernel.0 ≡ t → IsSafe next_number w who End (cond t (plan.Does answer.Ended (change.EndWait who how.Free)) (plan.Looked (look.NotYetKernel kernel)))
            acquires true may =
                record {
                  allowed = record { wait = b; begun = is; unnoticed = λ _. (sound_wait b is).quiet (ap is_group_target at); free = λ _. none_held w b kernel at; takes = λ _. subst (IsTakeable w who) (sym at) may };
                  made_by = refl;
                  accepted = refl;
                  tells = refl;
                }
            acquires false may = tt

held_forget : (next_number : ℕ) (w : World) (target : WaitTarget) (number : ℕ) → IsSound next_number w → is_held (forget w) target number ≡ is_held w target number
held_forget next_number w target number s = over_forget (is_outstanding_for target) (over_not_outstanding target) 1 next_number number w.callbacks s.numbers

all_held_forget : (next_number : ℕ) (w : World) (b : BegunWait) → IsSound next_number w → held (forget w) b ≡ held w b
all_held_forget next_number w b s = filter_agree (is_held (forget w) b.target) (is_held w b.target) (λ n. held_forget next_number w b.target n s) b.covered

starved_forget : (next_number room : ℕ) (w : World) (numbers : List ℕ) → IsSound next_number w → holds_starved (forget w) room numbers ≡ holds_starved w room numbers
starved_forget next_number room w [] s = refl
starved_forget next_number room w (n ∷ ns) s =
    ap₂ (λ p q. p || q)
    (over_forget (is_starved w room) (λ c e. ap (λ b. b && (nat_lt room 2 || (nat_lt room 4 && (attached w c.pool.0 == 0)))) (over_not_pending c.status e)) 1 next_number n w.callbacks s.numbers)
    (starved_forget next_number room w ns s)

end_wait_forget : (next_number room : ℕ) (w : World) (who : Who) (b : Option BegunWait) → IsSound next_number w → end_wait (forget w) room who b ≡ end_wait w room who b
end_wait_forget next_number room w who None s = refl
end_wait_forget next_number room w who (Some b) s = of_target b.target
  where
    gives : (os : List ObjectId) → end_notices (forget w) who b.cleanup os ≡ end_notices w who b.cleanup os
    gives [] = refl
    gives (o ∷ os) = refl

    ends_with : (numbers : List ℕ) → end_held (forget w) room who b numbers ≡ end_held w room who b numbers
    ends_with [] = gives b.notices
    ends_with (n ∷ ns) =
        ap (λ b. cond b (plan.Does answer.Exhausted (change.EndWait who how.Exhausted)) (plan.Looked (look.NotYet n))) (starved_forget next_number room w (n ∷ ns) s)

    of_target : (t : WaitTarget) → end_for (forget w) room who b t ≡ end_for w room who b t
    of_target (Object object) = ap (end_held (forget w) room who b) (all_held_forget next_number w b s) ∙ ends_with (held w b)
    of_target (Group group) = ap (end_held (forget w) room who b) (all_held_forget next_number w b s) ∙ ends_with (held w b)
    of_target (Kernel kernel) = refl

-- whether the machine is stalled
pub stalled_forget : (next_number room : ℕ) (w : World) → IsSound next_number w → is_stalled (forget w) room ≡ is_stalled w room
stalled_forget next_number room w s =
    ap₂ (λ actors pools. actors && pools)
    (ap₂ (λ clients workers. clients && workers)
    (all_agree (is_client_stuck (forget w) room) (is_client_stuck w room) client (range_with_len 1 (length w.clients)))
    (all_agree (is_worker_stuck (forget w) room) (is_worker_stuck w room) worker (range_with_len 1 (length w.workers))))
    (all_agree (is_pool_stuck (forget w) room) (is_pool_stuck w room) pool (range_with_len 0 (length w.pools)))
  where
    waits : (who : Who) → waits_on (forget w) room who ≡ waits_on w room who
    waits who = ap is_look (end_wait_forget next_number room w who (wait_of w who) s)

    client : (number : ℕ) → is_client_stuck (forget w) room number ≡ is_client_stuck w room number
    client number = ap (λ b. is_finished w (Client number) || b) (waits (Client number))

    worker : (number : ℕ) → is_worker_stuck (forget w) room number ≡ is_worker_stuck w room number
    worker number = ap (λ b. not (runs_callback w (Worker number)) || b) (waits (Worker number))

    pool : (number : ℕ) → is_pool_stuck (forget w) room number ≡ is_pool_stuck w room number
    pool number =
        ap₂ (λ (barred : Bool) (open_to : ℕ). barred || ((open_to == 0) && list_any (λ (r : WorkerRow). is_persistent_in number r && is_some r.callback) w.workers) || lacks_room_to_run w room number)
        (ap₂ (λ (waiting : ℕ) (at_work : ℕ). (waiting == 0) || nat_le (maximum w number) at_work) (pending_forget w number) (running_forget w number)) (takeable_forget w number false)

pub end_forget : (next_number room : ℕ) (w : World) (who : Who) → IsSound next_number w → end_plan (forget w) room who ≡ end_plan w room who
unfolding end_plan
end_forget next_number room w who s =
    ap (unless_refused (first_refusal (end_refusals w who)))
    (ap (end_unless_stalled (forget w) room who) (end_wait_forget next_number room w who (wait_of w who) s) ∙ of_plan (end_wait w room who (wait_of w who)))
  where
    of_plan : (p : Plan) → end_unless_stalled (forget w) room who p ≡ end_unless_stalled w room who p
    of_plan (plan.Refused refusal) = refl
    of_plan (plan.Does told how) = refl
    of_plan (plan.Looked seen) = ap (λ b. cond b (plan.Does answer.Stalled (change.EndWait who how.Stalled)) (plan.Looked seen)) (stalled_forget next_number room w s)

-- the first of those that a wait still waits for is the number of a callback
held_ranged : (w : World) (b : BegunWait) (number : ℕ) (numbers : List ℕ) → IsRanged w → held w b ≡ number ∷ numbers → number < 2 ^ 64
held_ranged w b number numbers g e = first (is_held w b.target) (λ k found. of_row (callback_of w k) k refl found) b.covered number numbers e
  where
    of_row : (o : Option CallbackRow) (k : ℕ) → callback_of w k ≡ o → option_map_or (is_outstanding_for b.target) o false ≡ true → k < 2 ^ 64
    of_row None k f h = absurd (false_true h)
    of_row (Some x) k f h =
        let same : x.number ≡ k = eqb-true x.number k (find_passes (has_number k) x w.callbacks f) in
        subst (λ j. j < 2 ^ 64) same (find_all IsCallbackInRange (has_number k) x w.callbacks g.rows.callbacks f).number

    first : (p : ℕ → Bool) → ((k : ℕ) → p k ≡ true → k < 2 ^ 64) → (xs : List ℕ) (j : ℕ) (js : List ℕ) → filter p xs ≡ j ∷ js → j < 2 ^ 64
    first p within [] j js h = absurd cc
    first p within (x ∷ xs) j js h =
        elim (p x) as (λ t. p x ≡ t → cond t (x ∷ filter p xs) (filter p xs) ≡ j ∷ js → j < 2 ^ 64) [
          | true ↦ λ passes q. let same : x ≡ j = cc in subst (λ i. i < 2 ^ 64) same (within x passes)
          | false ↦ λ _ q. first p within xs j js q
        ] refl h

pub end_ranged : (next_number room : ℕ) (w : World) (who : Who) → IsSound next_number w → IsRanged w → IsPlanInRange (end_plan w room who)
unfolding end_plan
end_ranged next_number room w who s g = ranged_unless (end_refusals w who) _ _ (of_plan (end_wait w room who (wait_of w who)) (ends (wait_of w who) refl))
  where
    of_plan : (p : Plan) → IsPlanInRange p → IsPlanInRange (end_unless_stalled w room who p)
    of_plan (plan.Refused refusal) within = within
    of_plan (plan.Does told how) within = within
    of_plan (plan.Looked seen) within =
        elim (is_stalled w room) as (λ t. IsPlanInRange (cond t (plan.Does answer.Stalled (change.EndWait who how.Stalled)) (plan.Looked seen))) [ true ↦ (tt, tt) | false ↦ within ]

    gives : (b : BegunWait) (os : List ObjectId) → IsWaitInRange b → AllByRecursion (λ (o : ObjectId). is_object_that is_told w.objects o.0 ≡ true) os → IsPlanInRange (end_notices w who b.cleanup os)
    gives b [] within named = (tt, tt)
    gives b (o ∷ os) within named =
        let row = that_row is_told w.objects o.0 named.0 in
        let made = numbered_made w.objects o.0 row.0 row.1 in
        let its : row.0 ≡ object_row w.objects o = ap (λ (r : Option ObjectRow). unwrap_or r no_object) (sym row.1) in
        let of : IsObjectInRange row.0 = all_get IsObjectInRange w.objects (o.0 - 1) row.0 g.rows.objects (numbered_some w.objects o.0 row.0 row.1).0 in (
          subst (λ (r : ObjectRow). IsAnswerInRange (answer.Notice o r.env.cancel r.context b.cleanup)) its
              (omega (arith, made.1, g.rows.few, g.limits.objects_most), record { least = ltb-true 0 row.0.env.cancel.0 (both row.0.released (nat_lt 0 row.0.env.cancel.0) row.2).1; most = of.cancel }, of.context, within.cleanup),
          tt,
        )

    ends_with : (b : BegunWait) (numbers : List ℕ) → wait_of w who ≡ Some b → IsWaitInRange b → held w b ≡ numbers → IsPlanInRange (end_held w room who b numbers)
    ends_with b [] found within is = gives b b.notices within (find_all (λ (x : BegunWait). AllByRecursion (λ (o : ObjectId). is_object_that is_told w.objects o.0 ≡ true) x.notices) (λ (x : BegunWait). is_same_actor x.actor who) b w.waits s.notices found)
    ends_with b (n ∷ ns) found within is =
        elim (holds_starved w room (n ∷ ns)) as (λ t. IsPlanInRange (cond t (plan.Does answer.Exhausted (change.EndWait who how.Exhausted)) (plan.Looked (look.NotYet n)))) [ true ↦ (tt, tt) | false ↦ held_ranged w b n ns g is ]

    ends : (b : Option BegunWait) → wait_of w who ≡ b → IsPlanInRange (end_wait w room who b)
    ends None is = tt
    ends (Some b) is = of_target b.target ranged.target
      where
        ranged : IsWaitInRange b
        ranged = find_all IsWaitInRange (λ (x : BegunWait). is_same_actor x.actor who) b w.waits g.rows.waits is

        of_target : (t : WaitTarget) → IsTargetInRange t → IsPlanInRange (end_for w room who b t)
        of_target (Object object) within = ends_with b (held w b) is ranged refl
        of_target (Group group) within = ends_with b (held w b) is ranged refl
        of_target (Kernel kernel) within =
            elim (is_kernel_that (may_take who) w kernel.0) as (λ t. IsPlanInRange (cond t (plan.Does answer.Ended (change.EndWait who how.Free)) (plan.Looked (look.NotYetKernel kernel)))) [ true ↦ (tt, tt) | false ↦ within ]
