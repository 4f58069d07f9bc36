-- How often a lock is taken: no change raises that by more than one.
use Rattle.std.proofs.Common.{suc, zero, find, length, ◌∷◌, [], ◌≡◌, true, false, cond, sym, ℕ, ◌+◌, ◌-◌, ◌≤◌, slice_get, List, Option, None, Some, refl, arith}
use Rattle.std.specs.Prelude.{ℤ}
use Rattle.std.specs.List.{AllByRecursion}
use Rattle.tp_base.specs.declared.ids.Who.{Who}
use Rattle.tp_base.specs.declared.plans.ActionWords.{ActionWords}
use Rattle.tp_base.specs.declared.rows.Slots.{Slots}
use Rattle.tp_base.specs.declared.ids.KernelId.{KernelId}
use Rattle.tp_base.specs.declared.ids.ObjectId.{ObjectId}
use Rattle.tp_base.specs.declared.answers.TakeResult.TheVariants.{WaitObject0, WaitTimeout}
use Rattle.tp_base.specs.declared.plans.KernelChange.TheVariants.{Set, Raise, Leave, Take}
use Rattle.tp_base.specs.declared.plans.Trigger.{Trigger}
use Rattle.tp_base.specs.declared.plans.Trigger.TheVariants.{SetTimer, Advance, SetWait, SetEvent, ReleaseSemaphore}
use Rattle.tp_base.specs.declared.rows.Arming.{Arming}
use Rattle.tp_base.specs.Armings.{is_arming_on}
use Rattle.tp_base.specs.Timers.{expires_at_once}
use Rattle.tp_base.specs.Kernels.{is_signalled, taken as taken_state}
use Rattle.tp_model.specs.Kernels.{is_one_that, kernel_changed}
use Rattle.tp_model.specs.Sources.{Sources, Firing, sources_of, jobless, job, with_state, disarmed, release_to, release_first, release_times, signal, arm, firing}
use Rattle.tp_model.specs.Actions.{slots_of, returning}
use Rattle.tp_model.proofs.Firing.{with_arming}
use Rattle.tp_model.proofs.Performing.{performed_keeps, takes}
use Rattle.tp_model.proofs.Kernels.{all_changed}
use Rattle.tp_base.specs.declared.plans.WaitEnd.{WaitEnd}
use Rattle.tp_base.specs.declared.plans.WaitEnd.TheVariants.{Free, Exhausted, Stalled}
use Rattle.tp_base.specs.declared.plans.KernelChange.{KernelChange}
use Rattle.tp_base.specs.declared.plans.Change.{Change}
use Rattle.tp_base.specs.declared.plans.Change.TheVariants as change
use Rattle.tp_base.specs.declared.rows.KernelState.{KernelState}
use Rattle.tp_base.specs.declared.rows.KernelState.TheVariants as state
use Rattle.tp_base.specs.declared.rows.KernelRow.{KernelRow}
use Rattle.tp_base.specs.declared.rows.ObjectRow.{ObjectRow}
use Rattle.tp_base.specs.declared.rows.PoolRow.{PoolRow}
use Rattle.tp_base.specs.declared.rows.WaitTarget.{WaitTarget}
use Rattle.tp_base.specs.declared.rows.WaitTarget.TheVariants.{Object, Group, Kernel}
use Rattle.tp_base.specs.Kernels.{taken_by, state_after, takings_of}
use Rattle.tp_model.specs.World.{World, BegunWait}
use Rattle.tp_model.specs.Counts.{numbered}
use Rattle.tp_model.specs.Kernels.{new_kernel, with_row}
use Rattle.tp_model.specs.Waits.{wait_of}
use Rattle.tp_model.specs.Changes.{changed, change_pool, release_object, kernels_taken, kernels_left}
use Rattle.tp_model.specs.Support.Allowed.{IsAllowed}
use Rattle.tp_model.specs.Support.Ranged.{AreTakenAtMost}
use Rattle.tp_model.proofs.Lists.{all_along, all_append, all_get, all_set}
use Rattle.tp_model.proofs.Refusals.{numbered_some, false_true}

abbrev AreAtMost : ℕ → List KernelRow → Type 0
AreAtMost most kernels = AllByRecursion (λ (k : KernelRow). takings_of k.state ≤ most) kernels

taken_once_more : (who : Who) (s : KernelState) → takings_of (taken_by who s) ≤ takings_of s + 1
taken_once_more who (state.Event manual signalled) = omega arith
taken_once_more who (state.Semaphore count maximum) = omega arith
taken_once_more who (state.Mutex owner takings) = omega arith
taken_once_more who (state.Section owner takings) = omega arith

taken_no_more : (how : KernelChange) (s : KernelState) → takings_of (state_after how s) ≤ takings_of s + 1
taken_no_more (Take who) s = taken_once_more who s
taken_no_more how s = grind arith

most_raised : (most higher : ℕ) → most ≤ higher → (kernels : List KernelRow) → AreAtMost most kernels → AreAtMost higher kernels
most_raised most higher below = all_along (λ (k : KernelRow). takings_of k.state ≤ most) (λ (k : KernelRow). takings_of k.state ≤ higher) (λ k h. omega (arith, h, below))

-- one of them changes to another state
row_changed : (f : KernelState → KernelState) → ((s : KernelState) → takings_of (f s) ≤ takings_of s + 1) → (most : ℕ) (kernels : List KernelRow) (kernel : ℕ) (row : Option KernelRow) → numbered kernels kernel ≡ row
    → AreAtMost most kernels → AreAtMost (most + 1) (with_row f kernels kernel row)
row_changed f h most kernels kernel None is all = most_raised most (most + 1) (omega arith) kernels all
row_changed f h most kernels kernel (Some row) is all =
    let here = all_get (λ (k : KernelRow). takings_of k.state ≤ most) kernels (kernel - 1) row all (numbered_some kernels kernel row is).0 in
    all_set (λ (k : KernelRow). takings_of k.state ≤ most + 1) kernels (kernel - 1) (record row { state = f row.state }) (omega (arith, here, h row.state)) (most_raised most (most + 1) (omega arith) kernels all)

-- a lock is taken as a wait for it ends
wait_left : (most : ℕ) (w : World) (who : Who) (how : WaitEnd) (wait : Option BegunWait) → AreTakenAtMost most w → AreAtMost (most + 1) (kernels_left w who how wait)
wait_left most w who Exhausted wait all = most_raised most (most + 1) (omega arith) w.kernels all
wait_left most w who Stalled wait all = most_raised most (most + 1) (omega arith) w.kernels all
wait_left most w who Free None all = most_raised most (most + 1) (omega arith) w.kernels all
wait_left most w who Free (Some b) all = target b.target
  where
    target : (t : WaitTarget) → AreAtMost (most + 1) (kernels_taken w who t)
    target (Object object) = most_raised most (most + 1) (omega arith) w.kernels all
    target (Group group) = most_raised most (most + 1) (omega arith) w.kernels all
    target (Kernel kernel) = row_changed (taken_by who) (taken_once_more who) most w.kernels kernel.0 (numbered w.kernels kernel.0) refl all

-- nothing but an actor takes a lock
taken_less : (how : KernelChange) → takes how ≡ false → (s : KernelState) → takings_of (state_after how s) ≤ takings_of s
taken_less (Take who) e s = absurd (false_true (sym e))
taken_less how e s = grind arith

no_lock_taken : (s : KernelState) → takings_of (taken_state s) ≤ takings_of s
no_lock_taken s = grind arith

state_keeps : (most : ℕ) (f : KernelState → KernelState) → ((s : KernelState) → takings_of (f s) ≤ takings_of s) → (kernels : List KernelRow) (kernel : ℕ) → AreAtMost most kernels → AreAtMost most (kernel_changed f kernels kernel)
state_keeps most f less kernels kernel all = all_changed (λ s. takings_of s ≤ most) f kernels kernel (λ row _ h. omega (arith, h, less row.state)) all

release_keeps : (most n kernel : ℕ) (f : Firing) → AreAtMost most f.sources.kernels → AreAtMost most (release_times n kernel f).sources.kernels
release_keeps most zero kernel f all = all
release_keeps most (suc n) kernel f all =
    release_keeps most n kernel (release_first kernel f)
    (elim (is_one_that is_signalled f.sources.kernels kernel) as (λ b. AreAtMost most (cond b (release_to kernel f (find (is_arming_on kernel) f.sources.armings)) f).sources.kernels) [
      | true ↦ of_first (find (is_arming_on kernel) f.sources.armings)
      | false ↦ all
    ])
  where
    of_first : (first : Option Arming) → AreAtMost most (release_to kernel f first).sources.kernels
    of_first None = all
    of_first (Some a) = state_keeps most taken_state no_lock_taken f.sources.kernels kernel all

signal_keeps : (most : ℕ) (how : KernelChange) → takes how ≡ false → (kernel : ℕ) (f : Firing) → AreAtMost most f.sources.kernels → AreAtMost most (signal how kernel f).sources.kernels
signal_keeps most how none kernel f all =
    release_keeps most (length f.sources.armings) kernel (record f { sources = with_state (state_after how) kernel f.sources }) (state_keeps most (state_after how) (taken_less how none) f.sources.kernels kernel all)

arm_keeps : (most : ℕ) (object : ObjectId) (kernel : KernelId) (timeout : Option ℤ) (s : Sources) → AreAtMost most s.kernels → AreAtMost most (arm object kernel timeout s).sources.kernels
arm_keeps most object kernel timeout s all =
    elim (is_one_that is_signalled s.kernels kernel.0) as (λ b. AreAtMost most (cond b (record { sources = with_state taken_state kernel.0 s; jobs = job object WaitObject0 ∷ [] })
    (cond (expires_at_once s.now timeout) (record { sources = s; jobs = job object WaitTimeout ∷ [] }) (jobless (with_arming object kernel timeout s)))).sources.kernels) [
      | true ↦ state_keeps most taken_state no_lock_taken s.kernels kernel.0 all
      | false ↦ elim (expires_at_once s.now timeout) as (λ b. AreAtMost most (cond b (record { sources = s; jobs = job object WaitTimeout ∷ [] }) (jobless (with_arming object kernel timeout s))).sources.kernels) [ true ↦ all | false ↦ all ]
    ]

firing_keeps : (most : ℕ) (trigger : Trigger) (s : Sources) → AreAtMost most s.kernels → AreAtMost most (firing trigger s).sources.kernels
firing_keeps most (SetTimer object due period window) s all = all
firing_keeps most (Advance now) s all = all
firing_keeps most (SetWait object None timeout) s all = all
firing_keeps most (SetWait object (Some kernel) timeout) s all = arm_keeps most object kernel timeout (disarmed object s) all
firing_keeps most (SetEvent kernel) s all = signal_keeps most Set refl kernel.0 (jobless s) all
firing_keeps most (ReleaseSemaphore kernel count) s all = signal_keeps most (Raise count) refl kernel.0 (jobless s) all

returning_keeps : (most : ℕ) (w : World) (words : ActionWords) (slots : Slots) → AreAtMost most w.kernels → AreAtMost most (returning w words slots).sources.kernels
returning_keeps most w words slots all =
    performed_keeps (λ f. AreAtMost most f.sources.kernels) (signal_keeps most) (λ kernel f h. state_keeps most (state_after Leave) (taken_less Leave refl) f.sources.kernels kernel h) words slots (jobless (sources_of w)) all

pub taken_up_to : (most higher : ℕ) (w : World) → most ≤ higher → AreTakenAtMost most w → AreTakenAtMost higher w
taken_up_to most higher w below all = most_raised most higher below w.kernels all

pub taken_more : (next_number most : ℕ) (w : World) (ch : Change) → IsAllowed next_number w ch → AreTakenAtMost most w → AreTakenAtMost (most + 1) (changed w ch)
taken_more next_number most w (change.CreateKernel state) a all =
    all_append (λ (k : KernelRow). takings_of k.state ≤ most + 1) w.kernels (new_kernel state) (most_raised most (most + 1) (omega arith) w.kernels all) (omega (arith, a.takings))
taken_more next_number most w (change.ChangeKernel kernel how) a all = row_changed (state_after how) (taken_no_more how) most w.kernels kernel.0 (numbered w.kernels kernel.0) refl all
taken_more next_number most w (change.EndWait who how) a all = wait_left most w who how (wait_of w who) all
taken_more next_number most w (change.ChangePool pool how) a all = with_pool (slice_get w.pools pool.0)
  where
    with_pool : (row : Option PoolRow) → AreTakenAtMost (most + 1) (change_pool w pool.0 how row)
    with_pool None = taken_up_to most (most + 1) w (omega arith) all
    with_pool (Some row) = taken_up_to most (most + 1) w (omega arith) all
taken_more next_number most w (change.ReleaseObject object) a all = with_object (numbered w.objects object.0)
  where
    with_object : (row : Option ObjectRow) → AreTakenAtMost (most + 1) (release_object w object row)
    with_object None = taken_up_to most (most + 1) w (omega arith) all
    with_object (Some row) = taken_up_to most (most + 1) w (omega arith) all
taken_more next_number most w (change.Fire trigger first count) a all = most_raised most (most + 1) (omega arith) _ (firing_keeps most trigger (sources_of w) all)
taken_more next_number most w (change.Return by words first count) a all = most_raised most (most + 1) (omega arith) _ (returning_keeps most w words (slots_of by.callback.status) all)
taken_more next_number most w (change.BeginClose who group cancel context notices) a all = most_raised most (most + 1) (omega arith) w.kernels all
taken_more next_number most w ch a all = taken_up_to most (most + 1) w (omega arith) all
