-- The actions of a return, one after another: each may be performed in its turn, and together they come to what the model
-- says.
use Rattle.std.proofs.Common.{◌≡◌, ℕ, zero, suc, ◌+◌, ◌-◌, ◌≤◌, Bool, true, false, cond, List, [], ◌++◌, length, get_or, Option, Some, None, IfSome, is_some, refl, sym, ap, ◌∙◌, subst, arith, find, length-append}
use Rattle.std.specs.Option.{option_map_or}
use Rattle.std.proofs.lemmas.Bool.{le-ltb, leb-true}
use Rattle.std.proofs.lemmas.List.{append-nil}
use Rattle.std.proofs.lemmas.Option.{slice_get_within, slice_get-get_or}
use Rattle.tp_base.specs.declared.ids.Who.{Who}
use Rattle.tp_base.specs.declared.ids.KernelId.{KernelId}
use Rattle.tp_base.specs.declared.answers.ActionKind.{ActionKind}
use Rattle.tp_base.specs.declared.answers.ActionKind.TheVariants.{Section, Mutex, Semaphore, Event}
use Rattle.tp_base.specs.declared.answers.SlotWord.{SlotWord}
use Rattle.tp_base.specs.declared.answers.SlotWord.TheVariants.{Performed}
use Rattle.tp_base.specs.declared.plans.ActionWords.{ActionWords}
use Rattle.tp_base.specs.declared.plans.KernelChange.{KernelChange}
use Rattle.tp_base.specs.declared.plans.KernelChange.TheVariants.{Set, Raise, Leave}
use Rattle.tp_base.specs.declared.rows.Action.{Action}
use Rattle.tp_base.specs.declared.rows.Arming.{Arming}
use Rattle.tp_base.specs.declared.rows.KernelRow.{KernelRow}
use Rattle.tp_base.specs.declared.rows.KernelState.{KernelState}
use Rattle.tp_base.specs.declared.rows.KernelState.TheVariants as state
use Rattle.tp_base.specs.declared.rows.ObjectRow.{ObjectRow}
use Rattle.tp_base.specs.declared.rows.Slots.{Slots}
use Rattle.tp_base.specs.Actions.{change_asked, is_performed, left_out, may_perform, may_raise}
use Rattle.tp_base.specs.Armings.{is_arming_on}
use Rattle.tp_base.specs.Kernels.{is_signalled, passes_by, state_after, taken}
use Rattle.live_callbacks.specs.Callbacks.{Callbacks}
use Rattle.sources.specs.Rows.{SourceRows, Suits}
use Rattle.sources.proofs.Releasing.{changed_length, times_before}
use Rattle.tp_model.specs.World.{World}
use Rattle.tp_model.specs.Counts.{numbered}
use Rattle.tp_model.specs.Kernels.{is_kernel_that, is_one_that}
use Rattle.tp_model.specs.Sources.{Sources, Firing, jobless, release_first, release_times, release_to, sources_of, with_state, signal}
use Rattle.tp_model.specs.Actions.{act, perform, returning, word_of, words_of}
use Rattle.tp_model.proofs.Actions.{may_raise_still}
use Rattle.tp_model.proofs.Performing.{performed_keeps}
use Rattle.tp_model.proofs.Refusals.{numbered_at, numbered_some}
use Rattle.live_world.specs.Making.{CanMake, IsFired, with_jobs}
use Rattle.live_world.specs.Performing.{MayAlter, MayPerform, MayPerformAll, eventless, locks_only, section_only}
use Rattle.live_world.proofs.Fired.{behind, can_behind, can_front, fired_twice}

-- ---- one behind another

times_behind : (n kernel : ℕ) (f : Firing) → release_times n kernel f ≡ behind f (release_times n kernel (jobless f.sources))
times_behind n kernel f = ap (release_times n kernel) (ap (λ js. record { sources = f.sources; jobs = js }) (sym (append-nil f.jobs))) ∙ times_before f.jobs n kernel (jobless f.sources)

signal_behind : (how : KernelChange) (kernel : ℕ) (f : Firing) → signal how kernel f ≡ behind f (signal how kernel (jobless f.sources))
signal_behind how kernel f = times_behind (length f.sources.armings) kernel (record f { sources = with_state (state_after how) kernel f.sources })

same_jobs : (f g : Firing) → g.jobs ≡ [] → behind f g ≡ record { sources = g.sources; jobs = f.jobs }
same_jobs f g none = ap (λ js. record { sources = g.sources; jobs = js }) (ap (λ js. f.jobs ++ js) none ∙ append-nil f.jobs)

act_behind : (kind : ActionKind) (action : Action) (f : Firing) → act kind action f ≡ behind f (act kind action (jobless f.sources))
act_behind Section action f = sym (same_jobs f (act Section action (jobless f.sources)) refl)
act_behind Mutex action f = sym (same_jobs f (act Mutex action (jobless f.sources)) refl)
act_behind Semaphore action f = signal_behind (Raise action.count) action.kernel.0 f
act_behind Event action f = signal_behind Set action.kernel.0 f

perform_behind : (kind : ActionKind) (says : SlotWord) (action : Option Action) (f : Firing) → perform kind says action f ≡ behind f (perform kind says action (jobless f.sources))
perform_behind kind says None f = sym (same_jobs f (jobless f.sources) refl)
perform_behind kind says (Some action) f =
    elim (is_performed says) as (λ b. cond b (act kind action f) f ≡ behind f (cond b (act kind action (jobless f.sources)) (jobless f.sources))) [
      | true ↦ act_behind kind action f
      | false ↦ sym (same_jobs f (jobless f.sources) refl)
    ]

-- ---- the actions in turn

perform_jobs : (kind : ActionKind) (says : SlotWord) (action : Option Action) (f : Firing) → (perform kind says action f).jobs ≡ f.jobs ++ (perform kind says action (jobless f.sources)).jobs
perform_jobs kind says action f = ap (λ (g : Firing). g.jobs) (perform_behind kind says action f)

module _ (kind : ActionKind) (says : SlotWord) (action : Option Action) (f : Firing) where
  -- what is made before it can be made
  pub perform_front : (objects : List ObjectRow) (made : ℕ) (c : Callbacks) → CanMake c objects (made + 1) (perform kind says action f).jobs → CanMake c objects (made + 1) f.jobs
  perform_front objects made c can =
      can_front c objects (made + 1) f.jobs (perform kind says action (jobless f.sources)).jobs (subst (λ js. CanMake c objects (made + 1) js) (perform_jobs kind says action f) can)

  pub young_front : (made most : ℕ) → made + length (perform kind says action f).jobs ≤ most → made + length f.jobs ≤ most
  young_front made most young = omega (arith, young, ap length (perform_jobs kind says action f), length-append f.jobs (perform kind says action (jobless f.sources)).jobs)

  module _ {objects : List ObjectRow} {made : ℕ} {c : Callbacks} {now : ℕ} {s t : SourceRows} {d : Callbacks} (before : IsFired f objects made now s t c d) where
    here : t.sources ≡ f.sources
    here = ap (λ (x : SourceRows). x.sources) before.sources

    -- and then its own
    pub perform_turn : CanMake c objects (made + 1) (perform kind says action f).jobs → CanMake d objects (now + 1) (perform kind says action (jobless t.sources)).jobs
    perform_turn can =
        let own = (perform kind says action (jobless f.sources)).jobs in
        subst (λ (x : Sources). CanMake d objects (now + 1) (perform kind says action (jobless x)).jobs) (sym here)
        (subst (λ (x : Callbacks). CanMake x objects (now + 1) own) (sym before.callbacks)
        (subst (λ n. CanMake (with_jobs c objects (made + 1) f.jobs) objects n own) (omega (arith, before.number))
        (can_behind c objects (made + 1) f.jobs own (subst (λ js. CanMake c objects (made + 1) js) (perform_jobs kind says action f) can))))

    pub young_turn : (most : ℕ) → made + length (perform kind says action f).jobs ≤ most → now + length (perform kind says action (jobless t.sources)).jobs ≤ most
    young_turn most young =
        omega (
          arith,
          young,
          before.number,
          ap length (perform_jobs kind says action f),
          length-append f.jobs (perform kind says action (jobless f.sources)).jobs,
          ap (λ (x : Sources). length (perform kind says action (jobless x)).jobs) here,
        )

    pub perform_next : {count : ℕ} {u : SourceRows} {e : Callbacks} → IsFired (perform kind says action (jobless t.sources)) objects now count t u d e → IsFired (perform kind says action f) objects made count s u c e
    perform_next {count} {u} {e} after =
        subst (λ g. IsFired g objects made count s u c e) (sym (perform_behind kind says action f))
        (fired_twice f (perform kind says action (jobless f.sources)) before (subst (λ (x : Sources). IsFired (perform kind says action (jobless x)) objects now count t u d e) here after))

-- ---- each may be performed in its turn

release_long : (count times kernel : ℕ) (f : Firing) → length f.sources.kernels ≡ count → length (release_times times kernel f).sources.kernels ≡ count
release_long count zero kernel f long = long
release_long count (suc n) kernel f long =
    release_long count n kernel (release_first kernel f)
    (elim (is_one_that is_signalled f.sources.kernels kernel) as (λ b. length (cond b (release_to kernel f (find (is_arming_on kernel) f.sources.armings)) f).sources.kernels ≡ count) [
      | true ↦ of_first (find (is_arming_on kernel) f.sources.armings)
      | false ↦ long
    ])
  where
    of_first : (first : Option Arming) → length (release_to kernel f first).sources.kernels ≡ count
    of_first None = long
    of_first (Some a) = changed_length taken f.sources.kernels kernel ∙ long

-- there are as many kernel objects as before
returning_long : (w : World) (words : ActionWords) (slots : Slots) → length (returning w words slots).sources.kernels ≡ length w.kernels
returning_long w words slots =
    performed_keeps (λ f. length f.sources.kernels ≡ length w.kernels)
    (λ how _ kernel f long. release_long (length w.kernels) (length f.sources.armings) kernel (record f { sources = with_state (state_after how) kernel f.sources }) (changed_length (state_after how) f.sources.kernels kernel ∙ long))
    (λ kernel f long. changed_length (state_after Leave) f.sources.kernels kernel ∙ long)
    words slots (jobless (sources_of w)) refl

-- a kernel object that is there, as another list of them has it
there_too : (test : KernelState → Bool) (ks js : List KernelRow) (kernel : ℕ) → is_one_that test ks kernel ≡ true → length js ≡ length ks → (row : KernelRow) × (numbered js kernel ≡ Some row)
there_too test ks js kernel passes long = of_row (numbered ks kernel) refl passes
  where
    of_row : (o : Option KernelRow) → numbered ks kernel ≡ o → option_map_or (λ (k : KernelRow). test k.state) o false ≡ true → (row : KernelRow) × (numbered js kernel ≡ Some row)
    of_row None is e = absurd cc
    of_row (Some row) is e =
        let at = numbered_some ks kernel row is in
        let within = slice_get_within ks (kernel - 1) row at.0 in
        let d : KernelRow = get_or js (kernel - 1) row in
        (d, numbered_at js kernel d at.1 (slice_get-get_or js (kernel - 1) row (omega (arith, within, long))))

-- and one that passes a test
passes_there : (test : KernelState → Bool) (ks : List KernelRow) (kernel : ℕ) → is_one_that test ks kernel ≡ true → (row : KernelRow) × ((numbered ks kernel ≡ Some row) × (test row.state ≡ true))
passes_there test ks kernel passes = of_row (numbered ks kernel) refl passes
  where
    of_row : (o : Option KernelRow) → numbered ks kernel ≡ o → option_map_or (λ (k : KernelRow). test k.state) o false ≡ true → (row : KernelRow) × ((numbered ks kernel ≡ Some row) × (test row.state ≡ true))
    of_row None is e = absurd cc
    of_row (Some row) is e = (row, (is, e))

may_alter : (s : Sources) (kernel : KernelId) (how : KernelChange) (row : KernelRow) → numbered s.kernels kernel.0 ≡ Some row → Suits how row.state → MayAlter s kernel how
may_alter s kernel how row stands suits = record { made = ap is_some stands; suits = subst (λ (o : Option KernelRow). IfSome o (λ (r : KernelRow). Suits how r.state)) (sym stands) suits }

-- the word of an action says whether it may be performed
performs : (w : World) (who : Who) (kind : ActionKind) (a : Action) → is_performed (word_of w who kind (Some a)) ≡ true → is_kernel_that (may_perform who kind a.count) w a.kernel.0 ≡ true
performs w who kind a does =
    elim (is_kernel_that (may_perform who kind a.count) w a.kernel.0) as (λ t. is_performed (cond t Performed (left_out kind)) ≡ true → t ≡ true) [ true ↦ λ _. refl | false ↦ λ h. sym (left_none kind) ∙ h ] does
  where
    left_none : (k : ActionKind) → is_performed (left_out k) ≡ false
    left_none Section = refl
    left_none Mutex = refl
    left_none Semaphore = refl
    left_none Event = refl

-- a lock may be given back, and an event set, as long as it is there
may_in_turn : (w : World) (s : Sources) (who : Who) (kind : ActionKind) → ((more : ℕ) (state : KernelState) → Suits (change_asked kind more) state) → (says : SlotWord) (action : Option Action) → says ≡ word_of w who kind action → length s.kernels ≡ length w.kernels
    → MayPerform s kind says action
may_in_turn w s who kind any says None told long = tt
may_in_turn w s who kind any says (Some a) told long = λ does.
    let row = there_too (may_perform who kind a.count) w.kernels s.kernels a.kernel.0 (performs w who kind a (sym (ap is_performed told) ∙ does)) long in
    may_alter s a.kernel (change_asked kind a.count) row.0 row.1 (any a.count row.0.state)

raise_suits : (more : ℕ) (s : KernelState) → may_raise more s ≡ true → passes_by more s ≡ false
raise_suits more (state.Event manual signalled) e = refl
raise_suits more (state.Semaphore count maximum) e = le-ltb maximum (count + more) (leb-true (count + more) maximum e)
raise_suits more (state.Mutex owner takings) e = refl
raise_suits more (state.Section owner takings) e = refl

-- a semaphore may be raised once the locks are given back
may_raise_in_turn : (w : World) (who : Who) (words : ActionWords) (slots : Slots) → words ≡ words_of w who slots → MayPerform (returning w words (locks_only slots)).sources Semaphore words.semaphore slots.semaphore
may_raise_in_turn w who words slots told = of_action slots.semaphore refl
  where
    f : Firing
    f = returning w words (locks_only slots)

    of_action : (action : Option Action) → slots.semaphore ≡ action → MayPerform f.sources Semaphore words.semaphore action
    of_action None none = tt
    of_action (Some a) asked = λ does.
        let row = passes_there (may_raise a.count) f.sources.kernels a.kernel.0 (may_raise_still w who words slots told a asked does) in
        may_alter f.sources a.kernel (Raise a.count) row.0 row.1.0 (raise_suits a.count row.0.state row.1.1)

pub may_all : (w : World) (who : Who) (words : ActionWords) (slots : Slots) → words ≡ words_of w who slots → MayPerformAll (sources_of w) words slots
may_all w who words slots told =
    record {
      section = may_in_turn w (sources_of w) who Section (λ more state. tt) words.section slots.section (ap (λ (ws : ActionWords). ws.section) told) refl;
      mutex = may_in_turn w (returning w words (section_only slots)).sources who Mutex (λ more state. tt) words.mutex slots.mutex (ap (λ (ws : ActionWords). ws.mutex) told) (returning_long w words (section_only slots));
      semaphore = may_raise_in_turn w who words slots told;
      event = may_in_turn w (returning w words (eventless slots)).sources who Event (λ more state. tt) words.event slots.event (ap (λ (ws : ActionWords). ws.event) told) (returning_long w words (eventless slots));
    }
