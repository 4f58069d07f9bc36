-- How many waits a kernel object releases, and that it leaves alone what is armed on others. So the actions of a return
-- release as many together as each of them would by itself.
use Rattle.std.proofs.Common.{◌≡◌, ◌≢◌, ℕ, zero, suc, ◌+◌, ◌-◌, ◌≤◌, ◌==◌, min, Bool, true, false, cond, not, List, [], ◌∷◌, length, slice_get}
use Rattle.std.proofs.Common.{slice_set, option_map, Option, Some, None, refl, sym, ap, ap₂, ◌∙◌, subst, arith, filter, find, eq-eqb, eqb-true, false-eqb, ne_eqb, ltb-false, ltb-true, length-append}
use Rattle.std.specs.Option.{option_map_or}
use Rattle.tp_base.specs.declared.ids.Who.{Who}
use Rattle.tp_base.specs.declared.answers.ActionKind.{ActionKind}
use Rattle.tp_base.specs.declared.answers.ActionKind.TheVariants.{Section, Mutex, Semaphore, Event}
use Rattle.tp_base.specs.declared.answers.SlotWord.{SlotWord}
use Rattle.tp_base.specs.declared.answers.SlotWord.TheVariants.{Performed}
use Rattle.tp_base.specs.declared.answers.TakeResult.TheVariants.{WaitObject0}
use Rattle.tp_base.specs.declared.plans.ActionWords.{ActionWords}
use Rattle.tp_base.specs.declared.plans.KernelChange.{KernelChange}
use Rattle.tp_base.specs.declared.plans.KernelChange.TheVariants.{Set, Raise, Leave}
use Rattle.tp_base.specs.declared.rows.Action.{Action}
use Rattle.tp_base.specs.declared.rows.Arming.{Arming}
use Rattle.tp_base.specs.declared.rows.KernelRow.{KernelRow}
use Rattle.tp_base.specs.declared.rows.KernelState.{KernelState}
use Rattle.tp_base.specs.declared.rows.KernelState.TheVariants as state
use Rattle.tp_base.specs.declared.rows.Slots.{Slots}
use Rattle.tp_base.specs.Actions.{is_performed, left_out, may_perform, may_raise}
use Rattle.tp_base.specs.Armings.{is_armed, is_arming_of, is_arming_on, without_arming}
use Rattle.tp_base.specs.Kernels.{is_event, is_signalled, owns, state_after, taken}
use Rattle.kernel_events.proofs.Rows.{without_none}
use Rattle.tp_model.specs.World.{World}
use Rattle.tp_model.specs.Counts.{numbered}
use Rattle.tp_model.specs.Kernels.{is_one_that, kernel_changed, with_row}
use Rattle.tp_model.specs.Sources.{Firing, Sources, job, jobless, release_first, release_times, release_to, signal, sources_of, with_state}
use Rattle.tp_model.specs.Actions.{act, perform, performed, returning, word_of, words_of}
use Rattle.tp_model.proofs.Arming.{count_one, one_if, release_idle}
use Rattle.tp_model.proofs.Lists.{get_set, get_set_other}
use Rattle.tp_model.proofs.Performing.{returning_within}
use Rattle.tp_model.proofs.Refusals.{false_true, numbered_at, numbered_some}
use Rattle.plain_worlds.specs.Counting.{released_by, releases}
use Rattle.plain_worlds.specs.Once.{AreArmedOnce}
use Rattle.plain_worlds.proofs.Passing.{few as few_pass}
use Rattle.plain_worlds.proofs.Once.{found_is_armed, once_filter}

-- ---- one kernel object changes

changed_row : (f : KernelState → KernelState) (rows : List KernelRow) (kernel : ℕ) (row : KernelRow) → numbered rows kernel ≡ Some row → numbered (kernel_changed f rows kernel) kernel ≡ Some (record row { state = f row.state })
changed_row f rows kernel row stands =
    let at = numbered_some rows kernel row stands in
    let new : KernelRow = record row { state = f row.state } in
    ap (λ o. numbered (with_row f rows kernel o) kernel) stands ∙ numbered_at (slice_set rows (kernel - 1) new) kernel new at.1 (get_set rows (kernel - 1) row new at.0)

other_row : (f : KernelState → KernelState) (rows : List KernelRow) (kernel other : ℕ) → other ≢ kernel → numbered (kernel_changed f rows kernel) other ≡ numbered rows other
other_row f rows kernel other apart = known (numbered rows kernel) refl
  where
    known : (o : Option KernelRow) → numbered rows kernel ≡ o → numbered (with_row f rows kernel o) other ≡ numbered rows other
    known None is = refl
    known (Some row) is =
        let new : KernelRow = record row { state = f row.state } in
        elim (other == 0) as (λ b. (other == 0) ≡ b → cond b None (slice_get (slice_set rows (kernel - 1) new) (other - 1)) ≡ cond b None (slice_get rows (other - 1))) [
          | true ↦ λ _. refl
          | false ↦ λ some. get_set_other rows (kernel - 1) (other - 1) new (λ e. apart (omega (arith, e, (numbered_some rows kernel row is).1, false-eqb other 0 (sym some))))
        ] refl

-- ---- what is armed on a kernel object

abbrev pub count_on : ℕ → List Arming → ℕ
count_on kernel armings = length (filter (is_arming_on kernel) armings)

none_on : (kernel : ℕ) (armings : List Arming) → find (is_arming_on kernel) armings ≡ None → count_on kernel armings ≡ 0
none_on kernel [] found = refl
none_on kernel (x ∷ armings) found =
    elim (is_arming_on kernel x) as (λ b. cond b (Some x) (find (is_arming_on kernel) armings) ≡ None → length (cond b (x ∷ filter (is_arming_on kernel) armings) (filter (is_arming_on kernel) armings)) ≡ 0) [
      | true ↦ λ e. absurd cc
      | false ↦ λ e. none_on kernel armings e
    ] found

-- the first of an object that is armed once
without_first : (x : Arming) (armings : List Arming) → is_armed x.object.0 armings ≡ false → without_arming x.object.0 (x ∷ armings) ≡ armings
without_first x armings once = ap (λ b. cond (not b) (x ∷ without_arming x.object.0 armings) (without_arming x.object.0 armings)) (eq-eqb x.object.0 x.object.0 refl) ∙ without_none x.object.0 armings once

-- the earliest is disarmed: one fewer is armed on its kernel object
one_fewer : (kernel : ℕ) (armings : List Arming) (a : Arming) → find (is_arming_on kernel) armings ≡ Some a → AreArmedOnce armings → count_on kernel (without_arming a.object.0 armings) + 1 ≡ count_on kernel armings
one_fewer kernel [] a found once = absurd cc
one_fewer kernel (x ∷ armings) a found once =
    elim (is_arming_on kernel x) as (λ b. is_arming_on kernel x ≡ b → cond b (Some x) (find (is_arming_on kernel) armings) ≡ Some a → count_on kernel (without_arming a.object.0 (x ∷ armings)) + 1 ≡ count_on kernel (x ∷ armings)) [
      | true ↦ λ on e.
          let same : x ≡ a = cc in
          subst (λ (y : Arming). count_on kernel (without_arming y.object.0 (x ∷ armings)) + 1 ≡ count_on kernel (x ∷ armings)) same
          (omega (arith, ap (count_on kernel) (without_first x armings once.0), count_one (is_arming_on kernel) x armings, ap one_if on))
      | false ↦ λ off e.
          let rest : List Arming = without_arming a.object.0 armings in
          elim (x.object.0 == a.object.0) as (λ b. count_on kernel (cond (not b) (x ∷ rest) rest) + 1 ≡ count_on kernel (x ∷ armings)) [
            | true ↦ omega (arith, one_fewer kernel armings a e once.1, count_one (is_arming_on kernel) x armings, ap one_if off)
            | false ↦ omega (arith, one_fewer kernel armings a e once.1, count_one (is_arming_on kernel) x armings, count_one (is_arming_on kernel) x rest, ap one_if off)
          ]
    ] refl found

-- and as many on each other one
others_left : (kernel other : ℕ) → other ≢ kernel → (armings : List Arming) (a : Arming) → find (is_arming_on kernel) armings ≡ Some a → AreArmedOnce armings → count_on other (without_arming a.object.0 armings) ≡ count_on other armings
others_left kernel other apart [] a found once = absurd cc
others_left kernel other apart (x ∷ armings) a found once =
    elim (is_arming_on kernel x) as (λ b. is_arming_on kernel x ≡ b → cond b (Some x) (find (is_arming_on kernel) armings) ≡ Some a → count_on other (without_arming a.object.0 (x ∷ armings)) ≡ count_on other (x ∷ armings)) [
      | true ↦ λ on e.
          let same : x ≡ a = cc in
          let off : is_arming_on other x ≡ false = ne_eqb x.kernel.0 other (λ is. apart (sym is ∙ eqb-true x.kernel.0 kernel on)) in
          subst (λ (y : Arming). count_on other (without_arming y.object.0 (x ∷ armings)) ≡ count_on other (x ∷ armings)) same
          (omega (arith, ap (count_on other) (without_first x armings once.0), count_one (is_arming_on other) x armings, ap one_if off))
      | false ↦ λ off e.
          let rest : List Arming = without_arming a.object.0 armings in
          elim (x.object.0 == a.object.0) as (λ b. (x.object.0 == a.object.0) ≡ b → count_on other (cond (not b) (x ∷ rest) rest) ≡ count_on other (x ∷ armings)) [
            | true ↦ λ is. absurd (false_true (sym once.0 ∙ ap (λ n. is_armed n armings) (eqb-true x.object.0 a.object.0 is) ∙ found_is_armed (is_arming_on kernel) armings a e))
            | false ↦ λ _. omega (arith, others_left kernel other apart armings a e once.1, count_one (is_arming_on other) x armings, count_one (is_arming_on other) x rest)
          ] refl
    ] refl found

-- ---- how many of them are released

unsignalled : (s : KernelState) (waits : ℕ) → is_signalled s ≡ false → releases s waits ≡ 0
unsignalled (state.Event manual signalled) waits e = ap (λ b. cond b (cond manual waits (min 1 waits)) 0) e
unsignalled (state.Semaphore count maximum) waits e = omega (arith, ltb-false 0 count e)
unsignalled (state.Mutex owner takings) waits e = refl
unsignalled (state.Section owner takings) waits e = refl

none_armed : (s : KernelState) → releases s 0 ≡ 0
none_armed (state.Event true true) = refl
none_armed (state.Event false true) = omega arith
none_armed (state.Event manual false) = refl
none_armed (state.Semaphore count maximum) = omega arith
none_armed (state.Mutex owner takings) = refl
none_armed (state.Section owner takings) = refl

one_taken : (s : KernelState) (waits : ℕ) → is_signalled s ≡ true → releases s (waits + 1) ≡ releases (taken s) waits + 1
one_taken (state.Event true true) waits e = refl
one_taken (state.Event false true) waits e = omega arith
one_taken (state.Event manual false) waits e = absurd (false_true e)
one_taken (state.Semaphore count maximum) waits e = omega (arith, ltb-true 0 count e)
one_taken (state.Mutex owner takings) waits e = absurd (false_true e)
one_taken (state.Section owner takings) waits e = absurd (false_true e)

is_idle : (kernel : ℕ) (f : Firing) → is_one_that is_signalled f.sources.kernels kernel ≡ false → release_first kernel f ≡ f
is_idle kernel f e = ap (λ b. cond b (release_to kernel f (find (is_arming_on kernel) f.sources.armings)) f) e

-- the jobs of so many releases are counted
abbrev AreCounted : ℕ → ℕ → Type 0
AreCounted n kernel =
    (f : Firing) (row : KernelRow) → numbered f.sources.kernels kernel ≡ Some row → AreArmedOnce f.sources.armings → count_on kernel f.sources.armings ≤ n
    → length (release_times n kernel f).jobs ≡ length f.jobs + releases row.state (count_on kernel f.sources.armings)

times_count : (n kernel : ℕ) → AreCounted n kernel
times_count zero kernel f row stands once few =
    let none : count_on kernel f.sources.armings ≡ 0 = omega (arith, few) in
    omega (arith, ap (releases row.state) none, none_armed row.state)
times_count (suc n) kernel f row stands once few = of_signal (times_count n kernel) (is_signalled row.state) refl
  where
    here : is_one_that is_signalled f.sources.kernels kernel ≡ is_signalled row.state
    here = ap (λ o. option_map_or (λ (k : KernelRow). is_signalled k.state) o false) stands

    armed : ℕ
    armed = count_on kernel f.sources.armings

    idle : release_first kernel f ≡ f → releases row.state armed ≡ 0 → length (release_times (suc n) kernel f).jobs ≡ length f.jobs + releases row.state armed
    idle same none = omega (arith, ap (λ (g : Firing). length g.jobs) (release_idle (suc n) kernel f same), none)

    of_first : AreCounted n kernel → (first : Option Arming) → find (is_arming_on kernel) f.sources.armings ≡ first → is_signalled row.state ≡ true → release_first kernel f ≡ release_to kernel f first
        → length (release_times (suc n) kernel f).jobs ≡ length f.jobs + releases row.state armed
    of_first rest None found is goes = idle goes (ap (releases row.state) (none_on kernel f.sources.armings found) ∙ none_armed row.state)
    of_first rest (Some a) found is goes =
        let g : Firing = release_to kernel f (Some a) in
        let fewer : count_on kernel g.sources.armings + 1 ≡ armed = one_fewer kernel f.sources.armings a found once in
        omega (
          arith,
          ap (λ (h : Firing). length (release_times n kernel h).jobs) goes,
          rest g (record row { state = taken row.state }) (changed_row taken f.sources.kernels kernel row stands) (once_filter (λ (b : Arming). b.object.0) (λ (b : Arming). not (is_arming_of a.object.0 b)) f.sources.armings once) (omega (arith, few, fewer)),
          length-append f.jobs (job a.object WaitObject0 ∷ []),
          one_taken row.state (count_on kernel g.sources.armings) is,
          ap (releases row.state) fewer,
        )

    of_signal : AreCounted n kernel → (b : Bool) → is_signalled row.state ≡ b → length (release_times (suc n) kernel f).jobs ≡ length f.jobs + releases row.state armed
    of_signal rest false is = idle (is_idle kernel f (here ∙ is)) (unsignalled row.state armed is)
    of_signal rest true is =
        of_first rest (find (is_arming_on kernel) f.sources.armings) refl is
        (ap (λ b. cond b (release_to kernel f (find (is_arming_on kernel) f.sources.armings)) f) (here ∙ is))

-- of so many that are armed on a kernel object, once it changed
abbrev pub released : KernelChange → Option KernelState → ℕ → ℕ
released how None waits = 0
released how (Some s) waits = released_by how s waits

abbrev pub state_at : List KernelRow → ℕ → Option KernelState
state_at rows kernel = option_map (λ (k : KernelRow). k.state) (numbered rows kernel)

signal_count : (how : KernelChange) (kernel : ℕ) (f : Firing) → AreArmedOnce f.sources.armings → length (signal how kernel f).jobs ≡ length f.jobs + released how (state_at f.sources.kernels kernel) (count_on kernel f.sources.armings)
signal_count how kernel f once = of_row (numbered f.sources.kernels kernel) refl
  where
    g : Firing
    g = record f { sources = with_state (state_after how) kernel f.sources }

    of_row : (o : Option KernelRow) → numbered f.sources.kernels kernel ≡ o → length (signal how kernel f).jobs ≡ length f.jobs + released how (option_map (λ (k : KernelRow). k.state) o) (count_on kernel f.sources.armings)
    of_row None is =
        let gone : numbered g.sources.kernels kernel ≡ None = ap (λ o. numbered (with_row (state_after how) f.sources.kernels kernel o) kernel) is ∙ is in
        omega (arith, ap (λ (h : Firing). length h.jobs) (release_idle (length f.sources.armings) kernel g (is_idle kernel g (ap (λ o. option_map_or (λ (k : KernelRow). is_signalled k.state) o false) gone))))
    of_row (Some row) is =
        times_count (length f.sources.armings) kernel g (record row { state = state_after how row.state }) (changed_row (state_after how) f.sources.kernels kernel row is) once
        (few_pass (is_arming_on kernel) f.sources.armings)

-- ---- other kernel objects

-- a kernel object and what is armed on it are as they were
record IsLeft (kernel : ℕ) (f g : Firing) : Type 0 where
  row : numbered g.sources.kernels kernel ≡ numbered f.sources.kernels kernel
  waits : count_on kernel g.sources.armings ≡ count_on kernel f.sources.armings
  once : AreArmedOnce g.sources.armings

module _ (kernel other : ℕ) (apart : other ≢ kernel) (f : Firing) where
  first_left : (g : Firing) → IsLeft other f g → IsLeft other f (release_first kernel g)
  first_left g h =
      elim (is_one_that is_signalled g.sources.kernels kernel) as (λ b. IsLeft other f (cond b (release_to kernel g (find (is_arming_on kernel) g.sources.armings)) g)) [
        | true ↦ of_first (find (is_arming_on kernel) g.sources.armings) refl
        | false ↦ h
      ]
    where
      of_first : (first : Option Arming) → find (is_arming_on kernel) g.sources.armings ≡ first → IsLeft other f (release_to kernel g first)
      of_first None found = h
      of_first (Some a) found =
          record {
            row = other_row taken g.sources.kernels kernel other apart ∙ h.row;
            waits = others_left kernel other apart g.sources.armings a found h.once ∙ h.waits;
            once = once_filter (λ (b : Arming). b.object.0) (λ (b : Arming). not (is_arming_of a.object.0 b)) g.sources.armings h.once;
          }

  times_left : (n : ℕ) (g : Firing) → IsLeft other f g → IsLeft other f (release_times n kernel g)
  times_left zero g h = h
  times_left (suc n) g h = times_left n (release_first kernel g) (first_left g h)

  changed_left : (to : KernelState → KernelState) (g : Firing) → IsLeft other f g → IsLeft other f (record g { sources = with_state to kernel g.sources })
  changed_left to g h = record { row = other_row to g.sources.kernels kernel other apart ∙ h.row; waits = h.waits; once = h.once }

  signal_left : (how : KernelChange) (g : Firing) → IsLeft other f g → IsLeft other f (signal how kernel g)
  signal_left how g h = times_left (length g.sources.armings) (record g { sources = with_state (state_after how) kernel g.sources }) (changed_left (state_after how) g h)

act_left : (kind : ActionKind) (action : Action) (other : ℕ) → other ≢ action.kernel.0 → (f g : Firing) → IsLeft other f g → IsLeft other f (act kind action g)
act_left Section action other apart f g h = changed_left action.kernel.0 other apart f (state_after Leave) g h
act_left Mutex action other apart f g h = changed_left action.kernel.0 other apart f (state_after Leave) g h
act_left Semaphore action other apart f g h = signal_left action.kernel.0 other apart f (Raise action.count) g h
act_left Event action other apart f g h = signal_left action.kernel.0 other apart f Set g h

-- an action that is performed isn't for this kernel object
abbrev IsApart : ℕ → SlotWord → Option Action → Type 0
IsApart kernel says action = (a : Action) → action ≡ Some a → is_performed says ≡ true → kernel ≢ a.kernel.0

perform_left : (kind : ActionKind) (says : SlotWord) (action : Option Action) (other : ℕ) → IsApart other says action → (f g : Firing) → IsLeft other f g → IsLeft other f (perform kind says action g)
perform_left kind says None other apart f g h = h
perform_left kind says (Some a) other apart f g h =
    elim (is_performed says) as (λ b. is_performed says ≡ b → IsLeft other f (cond b (act kind a g) g)) [
      | true ↦ λ does. act_left kind a other (apart a refl does) f g h
      | false ↦ λ _. h
    ] refl

-- ---- the actions of a return

-- what is left for an action makes as many callbacks as it would have made at first
act_after : (kind : ActionKind) (action : Action) (s : Sources) (g : Firing) → AreArmedOnce s.armings → IsLeft action.kernel.0 (jobless s) g → length (act kind action g).jobs ≡ length g.jobs + length (act kind action (jobless s)).jobs
act_after Section action s g once h = omega arith
act_after Mutex action s g once h = omega arith
act_after Semaphore action s g once h = omega (arith, signal_count (Raise action.count) action.kernel.0 g h.once, signal_count (Raise action.count) action.kernel.0 (jobless s) once, ap₂ (λ o n. released (Raise action.count) (option_map (λ (k : KernelRow). k.state) o) n) h.row h.waits)
act_after Event action s g once h = omega (arith, signal_count Set action.kernel.0 g h.once, signal_count Set action.kernel.0 (jobless s) once, ap₂ (λ o n. released Set (option_map (λ (k : KernelRow). k.state) o) n) h.row h.waits)

perform_after : (kind : ActionKind) (says : SlotWord) (action : Option Action) (s : Sources) (g : Firing) → AreArmedOnce s.armings → ((a : Action) → action ≡ Some a → is_performed says ≡ true → IsLeft a.kernel.0 (jobless s) g)
    → length (perform kind says action g).jobs ≡ length g.jobs + length (perform kind says action (jobless s)).jobs
perform_after kind says None s g once left = omega arith
perform_after kind says (Some a) s g once left =
    elim (is_performed says) as (λ b. is_performed says ≡ b → length (cond b (act kind a g) g).jobs ≡ length g.jobs + length (cond b (act kind a (jobless s)) (jobless s)).jobs) [
      | true ↦ λ does. act_after kind a s g once (left a refl does)
      | false ↦ λ _. omega arith
    ] refl

-- a lock that is given back makes none
section_none : (says : SlotWord) (action : Option Action) (f : Firing) → (perform Section says action f).jobs ≡ f.jobs
section_none says None f = refl
section_none says (Some a) f = elim (is_performed says) as (λ b. (cond b (act Section a f) f).jobs ≡ f.jobs) [ true ↦ refl | false ↦ refl ]

mutex_none : (says : SlotWord) (action : Option Action) (f : Firing) → (perform Mutex says action f).jobs ≡ f.jobs
mutex_none says None f = refl
mutex_none says (Some a) f = elim (is_performed says) as (λ b. (cond b (act Mutex a f) f).jobs ≡ f.jobs) [ true ↦ refl | false ↦ refl ]

-- an action that is performed may be so
may : (w : World) (who : Who) (kind : ActionKind) (action : Option Action) (a : Action) → action ≡ Some a → is_performed (word_of w who kind action) ≡ true → is_one_that (may_perform who kind a.count) w.kernels a.kernel.0 ≡ true
may w who kind None a is does = absurd cc
may w who kind (Some b) a is does =
    let same : b ≡ a = cc in
    subst (λ (x : Action). is_one_that (may_perform who kind x.count) w.kernels x.kernel.0 ≡ true) same
    (elim (is_one_that (may_perform who kind b.count) w.kernels b.kernel.0) as (λ t. is_performed (cond t Performed (left_out kind)) ≡ true → t ≡ true) [ true ↦ λ _. refl | false ↦ of_kind kind ] does)
  where
    of_kind : (k : ActionKind) → is_performed (left_out k) ≡ true → false ≡ true
    of_kind Section e = e
    of_kind Mutex e = e
    of_kind Semaphore e = e
    of_kind Event e = e

-- a kernel object that stands and passes a test
record Stands (test : KernelState → Bool) (kernels : List KernelRow) (kernel : ℕ) : Type 0 where
  row : KernelRow
  stands : numbered kernels kernel ≡ Some row
  passes : test row.state ≡ true

that_stands : (test : KernelState → Bool) (kernels : List KernelRow) (kernel : ℕ) → is_one_that test kernels kernel ≡ true → Stands test kernels kernel
that_stands test kernels kernel there = of_row (numbered kernels kernel) refl there
  where
    of_row : (row : Option KernelRow) → numbered kernels kernel ≡ row → option_map_or (λ (k : KernelRow). test k.state) row false ≡ true → Stands test kernels kernel
    of_row None is e = absurd (false_true e)
    of_row (Some row) is e = record { row = row; stands = is; passes = e }

-- two of them that are performed are for two kernel objects, where they are for different kinds
apart_by : (kernels : List KernelRow) (p q : KernelState → Bool) → ((s : KernelState) → p s ≡ true → q s ≡ true → ⊥) → (kernel other : ℕ) → is_one_that p kernels kernel ≡ true → is_one_that q kernels other ≡ true → kernel ≢ other
apart_by kernels p q never kernel other of_p of_q is =
    let here = that_stands p kernels kernel of_p in
    let there = that_stands q kernels other of_q in
    let same : here.row ≡ there.row = cc in
    never here.row.state here.passes (ap (λ (r : KernelRow). q r.state) same ∙ there.passes)

event_unowned : (who : Who) (s : KernelState) → is_event s ≡ true → owns who s ≡ true → ⊥
event_unowned who (state.Event manual signalled) e o = false_true o
event_unowned who (state.Semaphore count maximum) e o = false_true e
event_unowned who (state.Mutex owner takings) e o = false_true e
event_unowned who (state.Section owner takings) e o = false_true e

event_unraised : (more : ℕ) (s : KernelState) → is_event s ≡ true → may_raise more s ≡ true → ⊥
event_unraised more (state.Event manual signalled) e o = false_true o
event_unraised more (state.Semaphore count maximum) e o = false_true e
event_unraised more (state.Mutex owner takings) e o = false_true e
event_unraised more (state.Section owner takings) e o = false_true e

raised_unowned : (more : ℕ) (who : Who) (s : KernelState) → may_raise more s ≡ true → owns who s ≡ true → ⊥
raised_unowned more who (state.Event manual signalled) e o = false_true e
raised_unowned more who (state.Semaphore count maximum) e o = false_true o
raised_unowned more who (state.Mutex owner takings) e o = false_true e
raised_unowned more who (state.Section owner takings) e o = false_true e

module _ (w : World) (who : Who) (slots : Slots) (once : AreArmedOnce w.armings) where
  abbrev s : Sources
  s = sources_of w

  abbrev says : ActionWords
  says = words_of w who slots

  abbrev start : Firing
  start = jobless s

  abbrev first : Firing
  first = perform Section says.section slots.section start

  abbrev second : Firing
  second = perform Mutex says.mutex slots.mutex first

  abbrev third : Firing
  third = perform Semaphore says.semaphore slots.semaphore second

  left_at_first : (kernel : ℕ) → IsLeft kernel start start
  left_at_first kernel = record { row = refl; waits = refl; once = once }

  -- the locks are given back
  locks_left : (kernel : ℕ) → IsApart kernel says.section slots.section → IsApart kernel says.mutex slots.mutex → IsLeft kernel start second
  locks_left kernel section mutex =
      perform_left Mutex says.mutex slots.mutex kernel mutex start first (perform_left Section says.section slots.section kernel section start start (left_at_first kernel))

  semaphore_left : (a : Action) → slots.semaphore ≡ Some a → is_performed says.semaphore ≡ true → IsLeft a.kernel.0 start second
  semaphore_left a is does =
      let raised = may w who Semaphore slots.semaphore a is does in
      locks_left a.kernel.0
      (λ b asked given. apart_by s.kernels (may_raise a.count) (owns who) (raised_unowned a.count who) a.kernel.0 b.kernel.0 raised (may w who Section slots.section b asked given))
      (λ b asked given. apart_by s.kernels (may_raise a.count) (owns who) (raised_unowned a.count who) a.kernel.0 b.kernel.0 raised (may w who Mutex slots.mutex b asked given))

  event_left : (a : Action) → slots.event ≡ Some a → is_performed says.event ≡ true → IsLeft a.kernel.0 start third
  event_left a is does =
      let set = may w who Event slots.event a is does in
      perform_left Semaphore says.semaphore slots.semaphore a.kernel.0
      (λ b asked raised. apart_by s.kernels is_event (may_raise b.count) (event_unraised b.count) a.kernel.0 b.kernel.0 set (may w who Semaphore slots.semaphore b asked raised)) start second
      (locks_left a.kernel.0
      (λ b asked given. apart_by s.kernels is_event (owns who) (event_unowned who) a.kernel.0 b.kernel.0 set (may w who Section slots.section b asked given))
      (λ b asked given. apart_by s.kernels is_event (owns who) (event_unowned who) a.kernel.0 b.kernel.0 set (may w who Mutex slots.mutex b asked given)))

  together : length (performed says slots start).jobs ≡ length (perform Semaphore says.semaphore slots.semaphore start).jobs + length (perform Event says.event slots.event start).jobs
  together =
      omega (
        arith,
        perform_after Event says.event slots.event s third once event_left,
        perform_after Semaphore says.semaphore slots.semaphore s second once semaphore_left,
        ap length (mutex_none says.mutex slots.mutex first ∙ section_none says.section slots.section start),
      )

-- ---- as it is counted

-- how many waits a kernel object would release that isn't there, or is in this state
pub none_there : (how : KernelChange) (kernel : ℕ) (s : Sources) → AreArmedOnce s.armings → numbered s.kernels kernel ≡ None → 0 ≡ length (signal how kernel (jobless s)).jobs
none_there how kernel s once is = omega (arith, signal_count how kernel (jobless s) once, ap (λ o. released how (option_map (λ (k : KernelRow). k.state) o) (count_on kernel s.armings)) is)

pub some_there : (how : KernelChange) (kernel : ℕ) (s : Sources) (row : KernelRow) (count : ℕ) → AreArmedOnce s.armings → numbered s.kernels kernel ≡ Some row → count ≡ released_by how row.state (count_on kernel s.armings) → count ≡ length (signal how kernel (jobless s)).jobs
some_there how kernel s row count once is counted = omega (arith, counted, signal_count how kernel (jobless s) once, ap (λ o. released how (option_map (λ (k : KernelRow). k.state) o) (count_on kernel s.armings)) is)

-- a return makes as many callbacks as its semaphore's release and its event's would each make alone
pub both_count : (w : World) (who : Who) (words : ActionWords) (slots : Slots) (m n : ℕ) → AreArmedOnce w.armings → words ≡ words_of w who slots
    → m ≡ length (perform Semaphore words.semaphore slots.semaphore (jobless (sources_of w))).jobs → n ≡ length (perform Event words.event slots.event (jobless (sources_of w))).jobs
    → m + n ≡ length (returning w words slots).jobs
both_count w who words slots m n once told by_semaphore by_event =
    omega (
      arith,
      by_semaphore,
      by_event,
      subst (λ (ws : ActionWords). length (performed ws slots (jobless (sources_of w))).jobs ≡ length (perform Semaphore ws.semaphore slots.semaphore (jobless (sources_of w))).jobs + length (perform Event ws.event slots.event (jobless (sources_of w))).jobs) (sym told)
          (together w who slots once),
    )

-- no more than are armed
pub both_fit : (w : World) (who : Who) (words : ActionWords) (slots : Slots) (m n : ℕ) → AreArmedOnce w.armings → words ≡ words_of w who slots
    → m ≡ length (perform Semaphore words.semaphore slots.semaphore (jobless (sources_of w))).jobs → n ≡ length (perform Event words.event slots.event (jobless (sources_of w))).jobs
    → m + n ≤ length w.armings
both_fit w who words slots m n once told by_semaphore by_event = omega (arith, both_count w who words slots m n once told by_semaphore by_event, returning_within w words slots)
