-- Kernel objects of which the owners change places, and what is made as they are signalled.
use Rattle.std.proofs.Common.{◌≡◌, ℕ, zero, suc, ◌-◌, ℤ, Bool, true, false, cond, nat_le, List, [], ◌∷◌, ◌++◌, length, map, slice_set, Option, Some, None, option_map, refl, sym, ap, ap₂, ◌∙◌, find}
use Rattle.std.specs.Option.{option_map_or}
use Rattle.tp_base.specs.Actors.{is_same_actor}
use Rattle.tp_base.specs.Armings.{is_arming_on}
use Rattle.tp_base.specs.Kernels.{is_signalled, may_take, owner_left, owns, state_after, taken}
use Rattle.tp_base.specs.Timers.{expires_at_once, set_timer}
use Rattle.tp_base.specs.declared.answers.TakeResult.TheVariants.{WaitObject0, WaitTimeout}
use Rattle.tp_base.specs.declared.ids.KernelId.{KernelId}
use Rattle.tp_base.specs.declared.ids.ObjectId.{ObjectId}
use Rattle.tp_base.specs.declared.ids.Who.{Who}
use Rattle.tp_base.specs.declared.plans.KernelChange.{KernelChange}
use Rattle.tp_base.specs.declared.plans.KernelChange.TheVariants as kernel
use Rattle.tp_base.specs.declared.plans.Trigger.{Trigger}
use Rattle.tp_base.specs.declared.plans.Trigger.TheVariants.{Advance, ReleaseSemaphore, SetEvent, SetTimer, SetWait}
use Rattle.tp_base.specs.declared.rows.Arming.{Arming}
use Rattle.tp_base.specs.declared.rows.KernelRow.{KernelRow}
use Rattle.tp_base.specs.declared.rows.KernelState.{KernelState}
use Rattle.tp_base.specs.declared.rows.KernelState.TheVariants.{Event, Mutex, Section, Semaphore}
use Rattle.tp_model.specs.Counts.{numbered}
use Rattle.tp_model.specs.Kernels.{is_one_that, kernel_changed, with_row}
use Rattle.tp_model.specs.Sources.{arm, disarmed, firing, job, jobless, release, release_first, release_times, release_to, signal, with_state, Firing, Sources}
use Rattle.renamed_worlds.specs.Exchanged.{exchanged_how, exchanged_kernel, exchanged_state, exchanged_who}
use Rattle.renamed_worlds.proofs.Mapped.{found_map, numbered_map, set_map}
use Rattle.renamed_worlds.proofs.Exchange.Rows.{same_who}

module _ (at : ℕ) where
  -- ---- states

  pub signalled_exchanged : (s : KernelState) → is_signalled (exchanged_state at s) ≡ is_signalled s
  signalled_exchanged (Event manual signalled) = refl
  signalled_exchanged (Semaphore count maximum) = refl
  signalled_exchanged (Mutex owner takings) = refl
  signalled_exchanged (Section owner takings) = refl

  pub taken_exchanged : (s : KernelState) → taken (exchanged_state at s) ≡ exchanged_state at (taken s)
  taken_exchanged (Event manual signalled) = refl
  taken_exchanged (Semaphore count maximum) = refl
  taken_exchanged (Mutex owner takings) = refl
  taken_exchanged (Section owner takings) = refl

  owner_exchanged : (who : Who) (owner : Option Who) (free : Bool) → option_map_or (λ actor. is_same_actor actor (exchanged_who at who)) (option_map (exchanged_who at) owner) free ≡ option_map_or (λ actor. is_same_actor actor who) owner free
  owner_exchanged who owner free = found_map (exchanged_who at) (λ actor. is_same_actor actor (exchanged_who at who)) (λ actor. is_same_actor actor who) (λ actor. same_who at actor who) owner free

  pub may_take_exchanged : (who : Who) (s : KernelState) → may_take (exchanged_who at who) (exchanged_state at s) ≡ may_take who s
  may_take_exchanged who (Event manual signalled) = refl
  may_take_exchanged who (Semaphore count maximum) = refl
  may_take_exchanged who (Mutex owner takings) = owner_exchanged who owner true
  may_take_exchanged who (Section owner takings) = owner_exchanged who owner true

  pub owns_exchanged : (who : Who) (s : KernelState) → owns (exchanged_who at who) (exchanged_state at s) ≡ owns who s
  owns_exchanged who (Event manual signalled) = refl
  owns_exchanged who (Semaphore count maximum) = refl
  owns_exchanged who (Mutex owner takings) = owner_exchanged who owner false
  owns_exchanged who (Section owner takings) = owner_exchanged who owner false

  left_exchanged : (owner : Option Who) (takings : ℕ) → owner_left (option_map (exchanged_who at) owner) takings ≡ option_map (exchanged_who at) (owner_left owner takings)
  left_exchanged owner takings = elim (nat_le takings 1) as (λ b. cond b None (option_map (exchanged_who at) owner) ≡ option_map (exchanged_who at) (cond b None owner)) [ true ↦ refl | false ↦ refl ]

  pub state_exchanged : (how : KernelChange) (s : KernelState) → state_after (exchanged_how at how) (exchanged_state at s) ≡ exchanged_state at (state_after how s)
  state_exchanged kernel.Set (Event manual signalled) = refl
  state_exchanged kernel.Set (Semaphore count maximum) = refl
  state_exchanged kernel.Set (Mutex owner takings) = refl
  state_exchanged kernel.Set (Section owner takings) = refl
  state_exchanged kernel.Reset (Event manual signalled) = refl
  state_exchanged kernel.Reset (Semaphore count maximum) = refl
  state_exchanged kernel.Reset (Mutex owner takings) = refl
  state_exchanged kernel.Reset (Section owner takings) = refl
  state_exchanged (kernel.Raise more) (Event manual signalled) = refl
  state_exchanged (kernel.Raise more) (Semaphore count maximum) = refl
  state_exchanged (kernel.Raise more) (Mutex owner takings) = refl
  state_exchanged (kernel.Raise more) (Section owner takings) = refl
  state_exchanged kernel.Leave (Event manual signalled) = refl
  state_exchanged kernel.Leave (Semaphore count maximum) = refl
  state_exchanged kernel.Leave (Mutex owner takings) = ap (λ o. Mutex o (takings - 1)) (left_exchanged owner takings)
  state_exchanged kernel.Leave (Section owner takings) = ap (λ o. Section o (takings - 1)) (left_exchanged owner takings)
  state_exchanged (kernel.Take who) (Event manual signalled) = refl
  state_exchanged (kernel.Take who) (Semaphore count maximum) = refl
  state_exchanged (kernel.Take who) (Mutex owner takings) = refl
  state_exchanged (kernel.Take who) (Section owner takings) = refl

  -- ---- rows

  pub one_exchanged : (after before : KernelState → Bool) → ((s : KernelState) → after (exchanged_state at s) ≡ before s) → (ks : List KernelRow) (object : ℕ) → is_one_that after (map (exchanged_kernel at) ks) object ≡ is_one_that before ks object
  one_exchanged after before agree ks object =
      ap (λ o. option_map_or (λ (k : KernelRow). after k.state) o false) (numbered_map (exchanged_kernel at) ks object)
      ∙ found_map (exchanged_kernel at) (λ (k : KernelRow). after k.state) (λ (k : KernelRow). before k.state) (λ k. agree k.state) (numbered ks object) false

  pub kernel_exchanged : (after before : KernelState → KernelState) → ((s : KernelState) → after (exchanged_state at s) ≡ exchanged_state at (before s)) → (ks : List KernelRow) (object : ℕ)
      → kernel_changed after (map (exchanged_kernel at) ks) object ≡ map (exchanged_kernel at) (kernel_changed before ks object)
  kernel_exchanged after before agree ks object = ap (with_row after (map (exchanged_kernel at) ks) object) (numbered_map (exchanged_kernel at) ks object) ∙ of_row (numbered ks object)
    where
      of_row : (o : Option KernelRow) → with_row after (map (exchanged_kernel at) ks) object (option_map (exchanged_kernel at) o) ≡ map (exchanged_kernel at) (with_row before ks object o)
      of_row None = refl
      of_row (Some k) =
          ap (λ (s : KernelState). slice_set (map (exchanged_kernel at) ks) (object - 1) (record k { state = s })) (agree k.state)
          ∙ set_map (exchanged_kernel at) ks (object - 1) (record k { state = before k.state })

  -- ---- what is made as they are signalled

  abbrev pub exchanged_sources : Sources → Sources
  exchanged_sources s = record s { kernels = map (exchanged_kernel at) s.kernels }

  abbrev pub exchanged_firing : Firing → Firing
  exchanged_firing f = record f { sources = exchanged_sources f.sources }

  taken_kernel : (ks : List KernelRow) (object : ℕ) → kernel_changed taken (map (exchanged_kernel at) ks) object ≡ map (exchanged_kernel at) (kernel_changed taken ks object)
  taken_kernel ks object = kernel_exchanged taken taken taken_exchanged ks object

  to_exchanged : (object : ℕ) (f : Firing) (o : Option Arming) → release_to object (exchanged_firing f) o ≡ exchanged_firing (release_to object f o)
  to_exchanged object f None = refl
  to_exchanged object f (Some a) = ap (λ (ks : List KernelRow). record (release_to object f (Some a)) { sources = record (disarmed a.object f.sources) { kernels = ks } }) (taken_kernel f.sources.kernels object)

  first_exchanged : (object : ℕ) (f : Firing) → release_first object (exchanged_firing f) ≡ exchanged_firing (release_first object f)
  first_exchanged object f =
      ap₂ (λ b g. cond b g (exchanged_firing f)) (one_exchanged is_signalled is_signalled signalled_exchanged f.sources.kernels object) (to_exchanged object f (find (is_arming_on object) f.sources.armings))
      ∙ elim (is_one_that is_signalled f.sources.kernels object)
      as (λ b. cond b (exchanged_firing (release_to object f (find (is_arming_on object) f.sources.armings))) (exchanged_firing f) ≡ exchanged_firing (cond b (release_to object f (find (is_arming_on object) f.sources.armings)) f)) [ true ↦ refl | false ↦ refl ]

  times_exchanged : (n object : ℕ) (f : Firing) → release_times n object (exchanged_firing f) ≡ exchanged_firing (release_times n object f)
  times_exchanged zero object f = refl
  times_exchanged (suc n) object f = ap (release_times n object) (first_exchanged object f) ∙ times_exchanged n object (release_first object f)

  pub signal_exchanged : (how : KernelChange) → exchanged_how at how ≡ how → (object : ℕ) (f : Firing) → signal how object (exchanged_firing f) ≡ exchanged_firing (signal how object f)
  signal_exchanged how same object f =
      ap (λ (ks : List KernelRow). release object (record f { sources = record f.sources { kernels = ks } }))
      (kernel_exchanged (state_after how) (state_after how) (λ s. ap (λ h. state_after h (exchanged_state at s)) (sym same) ∙ state_exchanged how s) f.sources.kernels object)
      ∙ times_exchanged (length f.sources.armings) object (record f { sources = with_state (state_after how) object f.sources })

  choose : (a b : Bool) (takes late armed : Firing) → cond a (exchanged_firing takes) (cond b (exchanged_firing late) (exchanged_firing armed)) ≡ exchanged_firing (cond a takes (cond b late armed))
  choose true b takes late armed = refl
  choose false true takes late armed = refl
  choose false false takes late armed = refl

  arm_exchanged : (object : ObjectId) (named : KernelId) (timeout : Option ℤ) (s : Sources) → arm object named timeout (exchanged_sources s) ≡ exchanged_firing (arm object named timeout s)
  arm_exchanged object named timeout s =
      let takes : Firing = record { sources = with_state taken named.0 s; jobs = job object WaitObject0 ∷ [] } in
      let late : Firing = record { sources = s; jobs = job object WaitTimeout ∷ [] } in
      let armed : Firing = jobless (record s { settings = set_timer s.now object timeout 0 0 s.settings; armings = s.armings ++ record { object = object; kernel = named } ∷ [] }) in
      ap₂ (λ (b : Bool) (ks : List KernelRow). cond b (record { sources = record s { kernels = ks }; jobs = job object WaitObject0 ∷ [] }) (cond (expires_at_once s.now timeout) (exchanged_firing late) (exchanged_firing armed)))
      (one_exchanged is_signalled is_signalled signalled_exchanged s.kernels named.0) (taken_kernel s.kernels named.0)
      ∙ choose (is_one_that is_signalled s.kernels named.0) (expires_at_once s.now timeout) takes late armed

  pub firing_exchanged : (trigger : Trigger) (s : Sources) → firing trigger (exchanged_sources s) ≡ exchanged_firing (firing trigger s)
  firing_exchanged (SetTimer object due period window) s = refl
  firing_exchanged (Advance now) s = refl
  firing_exchanged (SetWait object None timeout) s = refl
  firing_exchanged (SetWait object (Some named) timeout) s = arm_exchanged object named timeout (disarmed object s)
  firing_exchanged (SetEvent object) s = signal_exchanged kernel.Set refl object.0 (jobless s)
  firing_exchanged (ReleaseSemaphore object count) s = signal_exchanged (kernel.Raise count) refl object.0 (jobless s)
