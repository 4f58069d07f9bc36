-- The facts of calls on kernel objects.
use Rattle.std.proofs.Common.{◌≡◌, ℕ, ◌+◌, ◌-◌, ◌≤◌, ◌^◌, filter, Bool, true, false, not, ◌||◌, ◌==◌, List, [], ◌∷◌, length, arith, Option, Some, None, refl, sym, ap, ◌∙◌, nat_lt}
use Rattle.std.proofs.lemmas.Bool.{ltb-false}
use Rattle.std.specs.Option.{option_map_or}
use Rattle.tp_base.specs.Ranges.{IsCallInRange, IsAnswerInRange, count_most}
use Rattle.tp_base.specs.declared.ids.Who.{Who}
use Rattle.tp_base.specs.declared.ids.KernelId.{KernelId}
use Rattle.tp_base.specs.declared.calls.Call.{Call}
use Rattle.tp_base.specs.declared.calls.Call.TheVariants.{CreateEvent, CreateSemaphore, CreateLock, SetEvent, ResetEvent, ReleaseSemaphore, ReleaseLock}
use Rattle.tp_base.specs.declared.calls.Lock.{Lock}
use Rattle.tp_base.specs.declared.calls.Lock.TheVariants as lock
use Rattle.tp_base.specs.declared.answers.Refusal.{Refusal}
use Rattle.tp_base.specs.declared.answers.Refusal.TheVariants.{NotOwner, OverMaximum}
use Rattle.tp_base.specs.declared.answers.Answer.{Answer}
use Rattle.tp_base.specs.declared.answers.Answer.TheVariants as answer
use Rattle.tp_base.specs.declared.plans.KernelChange.{KernelChange}
use Rattle.tp_base.specs.declared.plans.KernelChange.TheVariants.{Set, Reset, Raise, Leave}
use Rattle.tp_base.specs.declared.plans.Change.TheVariants as change
use Rattle.tp_base.specs.declared.rows.KernelState.{KernelState}
use Rattle.tp_base.specs.declared.rows.KernelState.TheVariants.{Event, Semaphore, Mutex, Section}
use Rattle.tp_base.specs.declared.rows.KernelRow.{KernelRow}
use Rattle.tp_base.specs.Kernels.{is_event, is_semaphore, is_lock, owns, passes_by, count_of, takings_of, lock_made}
use Rattle.tp_model.specs.World.{World}
use Rattle.tp_base.specs.declared.plans.Trigger.TheVariants as trigger
use Rattle.tp_base.specs.declared.rows.CallbackRow.{CallbackRow}
use Rattle.tp_model.specs.Counts.{numbered, is_live, slots}
use Rattle.tp_model.specs.Sources.{jobless, signal, sources_of}
use Rattle.tp_model.specs.Kernels.{is_kernel_that, count_at}
use Rattle.tp_model.specs.History.{is_refusal}
use Rattle.tp_model.specs.Refusing.{make_refusals}
use Rattle.tp_model.specs.Calls.Kernels.{create_kernel, create_event_plan, create_semaphore_plan, create_lock_plan, kernel_refusals, change_kernel, set_event_plan, reset_event_plan, release_semaphore_refusals, release_semaphore_plan, release_lock_plan}
use Rattle.tp_model.specs.Support.Allowed.{Suits}
use Rattle.tp_model.specs.Support.Told.{told_by, silent}
use Rattle.tp_model.specs.Support.Safe.{IsSafe}
use Rattle.tp_model.specs.Support.Remembered.{forget}
use Rattle.tp_model.specs.Support.Ranged.{IsRanged, IsPlanInRange, IsStateInRange}
use Rattle.tp_model.proofs.Refusals.{NoneHolds, neither, not_false, false_true}
use Rattle.tp_model.proofs.Kernels.{Stands, that_stands}
use Rattle.tp_model.proofs.Lists.{all_get}
use Rattle.tp_model.proofs.Refusals.{numbered_some}
use Rattle.tp_model.proofs.Allowed.{safe_unless, make_safe}
use Rattle.tp_model.proofs.Arming.{signal_within}
use Rattle.tp_model.proofs.Calls.Timers.{fire_safe, fire_ranged}
use Rattle.tp_model.proofs.Ranged.{AreBare, make_ranged, ranged_unless}

-- ---- what makes one

-- the entry's answer is its number
create_safe : (next_number : ℕ) (w : World) (who : Who) (call : Call) (own : List (Bool × Refusal)) (state : KernelState)
    → told_by (record { who = who; call = call; answer = answer.Made (length w.kernels + 1) }) ≡ silent → takings_of state ≤ 1 → IsSafe next_number w who call (create_kernel w who own state)
create_safe next_number w who call own state tells takings =
    make_safe next_number w who call own w.limits.kernels (length w.kernels) (length w.kernels + 1) (change.CreateKernel state)
    (λ room. record { allowed = record { room = room; takings = takings }; made_by = tt; accepted = refl; tells = tells })

create_ranged : (w : World) (who : Who) (own : List (Bool × Refusal)) (state : KernelState) → AreBare (make_refusals w who own w.limits.kernels (length w.kernels)) → IsRanged w
    → (NoneHolds (make_refusals w who own w.limits.kernels (length w.kernels)) → IsStateInRange state) → IsPlanInRange (create_kernel w who own state)
create_ranged w who own state bare g known =
    make_ranged w who own w.limits.kernels (length w.kernels) (length w.kernels + 1) (change.CreateKernel state) bare (λ none room. ((omega arith, omega (arith, room, g.limits.kernels_most)), known none))

-- ---- CreateEvent

pub create_event_safe : (next_number : ℕ) (w : World) (who : Who) (manual signalled : Bool) → IsSafe next_number w who (CreateEvent manual signalled) (create_event_plan w who manual signalled)
unfolding create_event_plan
create_event_safe next_number w who manual signalled =
    create_safe next_number w who (CreateEvent manual signalled) [] (Event manual signalled) refl (omega arith)

pub create_event_forget : (w : World) (who : Who) (manual signalled : Bool) → create_event_plan (forget w) who manual signalled ≡ create_event_plan w who manual signalled
unfolding create_event_plan
create_event_forget w who manual signalled = refl

pub create_event_ranged : (w : World) (who : Who) (manual signalled : Bool) → IsRanged w → IsPlanInRange (create_event_plan w who manual signalled)
unfolding create_event_plan
create_event_ranged w who manual signalled g = create_ranged w who [] (Event manual signalled) _ g (λ _. tt)

-- ---- CreateSemaphore

pub create_semaphore_safe : (next_number : ℕ) (w : World) (who : Who) (initial most : ℕ) → IsSafe next_number w who (CreateSemaphore initial most) (create_semaphore_plan w who initial most)
unfolding create_semaphore_plan
create_semaphore_safe next_number w who initial most =
    create_safe next_number w who (CreateSemaphore initial most) ((nat_lt most initial || (most == 0), OverMaximum initial) ∷ []) (Semaphore initial most) refl (omega arith)

pub create_semaphore_forget : (w : World) (who : Who) (initial most : ℕ) → create_semaphore_plan (forget w) who initial most ≡ create_semaphore_plan w who initial most
unfolding create_semaphore_plan
create_semaphore_forget w who initial most = refl

pub create_semaphore_ranged : (w : World) (who : Who) (initial most : ℕ) → IsRanged w → IsCallInRange (CreateSemaphore initial most) → IsPlanInRange (create_semaphore_plan w who initial most)
unfolding create_semaphore_plan
create_semaphore_ranged w who initial most g c =
    create_ranged w who ((nat_lt most initial || (most == 0), OverMaximum initial) ∷ []) (Semaphore initial most) (tt, (tt, (tt, (tt, (c.0, (tt, tt)))))) g
    (λ none. (ltb-false most initial (neither (nat_lt most initial) (most == 0) none.1.1.1.1.0).0, c.1))

-- ---- CreateLock

made_takings : (lock : Lock) (who : Who) (owned : Bool) → takings_of (lock_made lock who owned) ≤ 1
made_takings lock.Mutex who true = omega arith
made_takings lock.Mutex who false = omega arith
made_takings lock.Section who true = omega arith
made_takings lock.Section who false = omega arith

made_state : (lock : Lock) (who : Who) (owned : Bool) → IsStateInRange (lock_made lock who owned)
made_state lock.Mutex who true = tt
made_state lock.Mutex who false = tt
made_state lock.Section who true = tt
made_state lock.Section who false = tt

pub create_lock_safe : (next_number : ℕ) (w : World) (who : Who) (lock : Lock) (owned : Bool) → IsSafe next_number w who (CreateLock lock owned) (create_lock_plan w who lock owned)
unfolding create_lock_plan
create_lock_safe next_number w who lock owned =
    create_safe next_number w who (CreateLock lock owned) [] (lock_made lock who owned) refl (made_takings lock who owned)

pub create_lock_forget : (w : World) (who : Who) (lock : Lock) (owned : Bool) → create_lock_plan (forget w) who lock owned ≡ create_lock_plan w who lock owned
unfolding create_lock_plan
create_lock_forget w who lock owned = refl

pub create_lock_ranged : (w : World) (who : Who) (lock : Lock) (owned : Bool) → IsRanged w → IsPlanInRange (create_lock_plan w who lock owned)
unfolding create_lock_plan
create_lock_ranged w who lock owned g = create_ranged w who [] (lock_made lock who owned) _ g (λ _. made_state lock who owned)

-- ---- what changes one

change_safe : (next_number : ℕ) (w : World) (who : Who) (call : Call) (kind : KernelState → Bool) (kernel : KernelId) (own : List (Bool × Refusal)) (a : Answer) (how : KernelChange) → is_refusal a ≡ false
    → told_by (record { who = who; call = call; answer = a }) ≡ silent → ((there : Stands kind w kernel.0) → NoneHolds own → Suits how there.row.state) → IsSafe next_number w who call (change_kernel w who kind kernel own a how)
change_safe next_number w who call kind kernel own a how accepted tells suits =
    safe_unless next_number w who call (kernel_refusals w who kind kernel.0 own) _
    (λ none.
    let there : Stands kind w kernel.0 = that_stands kind w kernel.0 (not_false (is_kernel_that kind w kernel.0) none.1.0) in
    record { allowed = record { row = there.row; stands = there.stands; suits = suits there none.1.1.1.1.1 }; made_by = tt; accepted = accepted; tells = tells })

change_ranged : (w : World) (who : Who) (kind : KernelState → Bool) (kernel : KernelId) (own : List (Bool × Refusal)) (a : Answer) (how : KernelChange) → AreBare own → IsAnswerInRange a → IsPlanInRange (change_kernel w who kind kernel own a how)
change_ranged w who kind kernel own a how bare within = ranged_unless (kernel_refusals w who kind kernel.0 own) _ (tt, (tt, (tt, (tt, (tt, bare))))) (within, tt)

-- ---- SetEvent

-- what a kernel object releases takes the slots of armed waits
signal_room : (w : World) (how : KernelChange) (kernel : ℕ) → slots w ≤ w.limits.slots
    → length (filter (λ (c : CallbackRow). is_live c.status) w.callbacks) + length (signal how kernel (jobless (sources_of w))).jobs + length (signal how kernel (jobless (sources_of w))).sources.armings ≤ w.limits.slots
signal_room w how kernel fits = omega (arith, signal_within how kernel (jobless (sources_of w)), fits)

pub set_event_safe : (next_number : ℕ) (w : World) (who : Who) (kernel : KernelId) → IsSafe next_number w who (SetEvent kernel) (set_event_plan w next_number who kernel)
unfolding set_event_plan
set_event_safe next_number w who kernel =
    safe_unless next_number w who (SetEvent kernel) (kernel_refusals w who is_event kernel.0 []) _
    (λ none.
    let there : Stands is_event w kernel.0 = that_stands is_event w kernel.0 (not_false (is_kernel_that is_event w kernel.0) none.1.0) in
    fire_safe next_number w who (SetEvent kernel) (trigger.SetEvent kernel) answer.Queued (λ first count. refl) (λ first count. refl) (record { row = there.row; stands = there.stands; suits = there.passes }) (signal_room w Set kernel.0))

pub set_event_forget : (next_number : ℕ) (w : World) (who : Who) (kernel : KernelId) → set_event_plan (forget w) next_number who kernel ≡ set_event_plan w next_number who kernel
unfolding set_event_plan
set_event_forget next_number w who kernel = refl

pub set_event_ranged : (next_number : ℕ) (w : World) (who : Who) (kernel : KernelId) → next_number + 65536 ≤ 2 ^ 64 → IsRanged w → IsPlanInRange (set_event_plan w next_number who kernel)
unfolding set_event_plan
set_event_ranged next_number w who kernel few g =
    ranged_unless (kernel_refusals w who is_event kernel.0 []) _ _ (fire_ranged next_number w (trigger.SetEvent kernel) answer.Queued (λ first count f n. (f, n)) few g tt (signal_room w Set kernel.0 g.slots_most))

-- ---- ResetEvent

pub reset_event_safe : (next_number : ℕ) (w : World) (who : Who) (kernel : KernelId) → IsSafe next_number w who (ResetEvent kernel) (reset_event_plan w who kernel)
unfolding reset_event_plan
reset_event_safe next_number w who kernel = change_safe next_number w who (ResetEvent kernel) is_event kernel [] answer.Done Reset refl refl (λ there _. there.passes)

pub reset_event_forget : (w : World) (who : Who) (kernel : KernelId) → reset_event_plan (forget w) who kernel ≡ reset_event_plan w who kernel
unfolding reset_event_plan
reset_event_forget w who kernel = refl

pub reset_event_ranged : (w : World) (who : Who) (kernel : KernelId) → IsPlanInRange (reset_event_plan w who kernel)
unfolding reset_event_plan
reset_event_ranged w who kernel = change_ranged w who is_event kernel [] answer.Done Reset tt tt

-- ---- ReleaseSemaphore

-- the count of a semaphore is in range
count_ranged : (w : World) (kernel : ℕ) → IsRanged w → count_at w kernel ≤ count_most
count_ranged w kernel g = of_row (numbered w.kernels kernel) refl
  where
    of_state : (state : KernelState) → IsStateInRange state → count_of state ≤ count_most
    of_state (Semaphore count most) r = omega (arith, r.0, r.1)
    of_state (Event manual signalled) r = omega arith
    of_state (Mutex owner takings) r = omega arith
    of_state (Section owner takings) r = omega arith

    of_row : (row : Option KernelRow) → numbered w.kernels kernel ≡ row → option_map_or (λ (k : KernelRow). count_of k.state) row 0 ≤ count_most
    of_row None is = omega arith
    of_row (Some row) is = of_state row.state (all_get (λ (k : KernelRow). IsStateInRange k.state) w.kernels (kernel - 1) row g.rows.kernels (numbered_some w.kernels kernel row is).0)

pub release_semaphore_safe : (next_number : ℕ) (w : World) (who : Who) (kernel : KernelId) (more : ℕ) → IsSafe next_number w who (ReleaseSemaphore kernel more) (release_semaphore_plan w next_number who kernel more)
unfolding release_semaphore_plan
release_semaphore_safe next_number w who kernel more =
    safe_unless next_number w who (ReleaseSemaphore kernel more) (release_semaphore_refusals w who kernel.0 more) _
    (λ none.
    let there : Stands is_semaphore w kernel.0 = that_stands is_semaphore w kernel.0 (not_false (is_kernel_that is_semaphore w kernel.0) none.1.0) in
    fire_safe next_number w who (ReleaseSemaphore kernel more) (trigger.ReleaseSemaphore kernel more) (answer.Count (count_at w kernel.0)) (λ first count. refl) (λ first count. refl)
    (record { row = there.row; stands = there.stands; suits = (there.passes, sym (ap (λ r. option_map_or (λ (k : KernelRow). passes_by more k.state) r false) there.stands) ∙ none.1.1.1.1.1.0) })
    (signal_room w (Raise more) kernel.0))

pub release_semaphore_forget : (next_number : ℕ) (w : World) (who : Who) (kernel : KernelId) (more : ℕ) → release_semaphore_plan (forget w) next_number who kernel more ≡ release_semaphore_plan w next_number who kernel more
unfolding release_semaphore_plan
release_semaphore_forget next_number w who kernel more = refl

pub release_semaphore_ranged : (next_number : ℕ) (w : World) (who : Who) (kernel : KernelId) (more : ℕ) → next_number + 65536 ≤ 2 ^ 64 → IsRanged w → IsPlanInRange (release_semaphore_plan w next_number who kernel more)
unfolding release_semaphore_plan
release_semaphore_ranged next_number w who kernel more few g =
    ranged_unless (release_semaphore_refusals w who kernel.0 more) _ (tt, (tt, (tt, (tt, (tt, (count_ranged w kernel.0 g, tt))))))
    (fire_ranged next_number w (trigger.ReleaseSemaphore kernel more) (answer.Count (count_at w kernel.0)) (λ first count f n. (count_ranged w kernel.0 g, f, n)) few g tt (signal_room w (Raise more) kernel.0 g.slots_most))

-- ---- ReleaseLock

lock_suits : (lock : Lock) (state : KernelState) → is_lock lock state ≡ true → Suits Leave state
lock_suits lock.Mutex (Mutex owner takings) e = tt
lock_suits lock.Section (Section owner takings) e = tt
lock_suits lock.Mutex (Section owner takings) e = absurd (false_true e)
lock_suits lock.Section (Mutex owner takings) e = absurd (false_true e)
lock_suits lock.Mutex (Event manual signalled) e = absurd (false_true e)
lock_suits lock.Section (Event manual signalled) e = absurd (false_true e)
lock_suits lock.Mutex (Semaphore count most) e = absurd (false_true e)
lock_suits lock.Section (Semaphore count most) e = absurd (false_true e)

pub release_lock_safe : (next_number : ℕ) (w : World) (who : Who) (lock : Lock) (kernel : KernelId) → IsSafe next_number w who (ReleaseLock lock kernel) (release_lock_plan w who lock kernel)
unfolding release_lock_plan
release_lock_safe next_number w who lock kernel =
    change_safe next_number w who (ReleaseLock lock kernel) (is_lock lock) kernel ((not (is_kernel_that (owns who) w kernel.0), NotOwner) ∷ []) answer.Done Leave refl refl (λ there _. lock_suits lock there.row.state there.passes)

pub release_lock_forget : (w : World) (who : Who) (lock : Lock) (kernel : KernelId) → release_lock_plan (forget w) who lock kernel ≡ release_lock_plan w who lock kernel
unfolding release_lock_plan
release_lock_forget w who lock kernel = refl

pub release_lock_ranged : (w : World) (who : Who) (lock : Lock) (kernel : KernelId) → IsPlanInRange (release_lock_plan w who lock kernel)
unfolding release_lock_plan
release_lock_ranged w who lock kernel = change_ranged w who (is_lock lock) kernel ((not (is_kernel_that (owns who) w kernel.0), NotOwner) ∷ []) answer.Done Leave (tt, tt) tt
