-- Actions on return where two workers change places.
use Rattle.std.proofs.Common.{◌≡◌, ℕ, true, false, cond, List, Option, Some, None, refl, ap, ap₂, ◌∙◌}
use Rattle.tp_base.specs.Actions.{is_for, is_performed, left_out, may_perform, may_raise}
use Rattle.tp_base.specs.Kernels.{is_event, is_lock, is_semaphore, state_after}
use Rattle.tp_base.specs.declared.answers.ActionKind.{ActionKind}
use Rattle.tp_base.specs.declared.answers.ActionKind.TheVariants as kind
use Rattle.tp_base.specs.declared.answers.SlotWord.{SlotWord}
use Rattle.tp_base.specs.declared.answers.SlotWord.TheVariants.{Performed}
use Rattle.tp_base.specs.declared.calls.Lock.{Lock}
use Rattle.tp_base.specs.declared.calls.Lock.TheVariants as lock
use Rattle.tp_base.specs.declared.ids.Who.{Who}
use Rattle.tp_base.specs.declared.plans.ActionWords.{ActionWords}
use Rattle.tp_base.specs.declared.plans.KernelChange.TheVariants.{Leave, Raise, Set}
use Rattle.tp_base.specs.declared.rows.Action.{Action}
use Rattle.tp_base.specs.declared.rows.KernelRow.{KernelRow}
use Rattle.tp_base.specs.declared.rows.KernelState.{KernelState}
use Rattle.tp_base.specs.declared.rows.KernelState.TheVariants.{Event, Mutex, Section, Semaphore}
use Rattle.tp_base.specs.declared.rows.Slots.{Slots}
use Rattle.tp_model.specs.World.{World}
use Rattle.tp_model.specs.Actions.{act, perform, returning, word_of, words_of}
use Rattle.tp_model.specs.Sources.{jobless, sources_of, Firing}
use Rattle.renamed_worlds.specs.Exchanged.{exchanged, exchanged_state, exchanged_who}
use Rattle.renamed_worlds.proofs.Exchange.Kernels.{exchanged_firing, kernel_exchanged, one_exchanged, owns_exchanged, signal_exchanged, state_exchanged}

-- what doesn't tell who owns a lock is the same
pub state_same : {X : Type 0} (at : ℕ) (read : KernelState → X) → ((owner other : Option Who) (takings : ℕ) → read (Mutex owner takings) ≡ read (Mutex other takings)) → ((owner other : Option Who) (takings : ℕ) → read (Section owner takings) ≡ read (Section other takings))
    → (s : KernelState) → read (exchanged_state at s) ≡ read s
state_same at read mutex section (Event manual signalled) = refl
state_same at read mutex section (Semaphore count maximum) = refl
state_same at read mutex section (Mutex owner takings) = mutex _ owner takings
state_same at read mutex section (Section owner takings) = section _ owner takings

module _ (at : ℕ) where
  may_perform_exchanged : (who : Who) (of : ActionKind) (more : ℕ) (s : KernelState) → may_perform (exchanged_who at who) of more (exchanged_state at s) ≡ may_perform who of more s
  may_perform_exchanged who kind.Section more s = owns_exchanged at who s
  may_perform_exchanged who kind.Mutex more s = owns_exchanged at who s
  may_perform_exchanged who kind.Semaphore more s = state_same at (may_raise more) (λ _ _ _. refl) (λ _ _ _. refl) s
  may_perform_exchanged who kind.Event more s = state_same at is_event (λ _ _ _. refl) (λ _ _ _. refl) s

  word_exchanged : (w : World) (who : Who) (of : ActionKind) (o : Option Action) → word_of (exchanged at w) (exchanged_who at who) of o ≡ word_of w who of o
  word_exchanged w who of None = refl
  word_exchanged w who of (Some action) =
      ap (λ b. cond b Performed (left_out of))
      (one_exchanged at (may_perform (exchanged_who at who) of action.count) (may_perform who of action.count) (may_perform_exchanged who of action.count) w.kernels action.kernel.0)

  pub words_exchanged : (w : World) (who : Who) (slots : Slots) → words_of (exchanged at w) (exchanged_who at who) slots ≡ words_of w who slots
  words_exchanged w who slots =
      ap₂ (λ (a b : SlotWord). record { section = a; mutex = b; semaphore = word_of (exchanged at w) (exchanged_who at who) kind.Semaphore slots.semaphore; event = word_of (exchanged at w) (exchanged_who at who) kind.Event slots.event })
      (word_exchanged w who kind.Section slots.section) (word_exchanged w who kind.Mutex slots.mutex)
      ∙ ap₂ (λ (c d : SlotWord). record { section = word_of w who kind.Section slots.section; mutex = word_of w who kind.Mutex slots.mutex; semaphore = c; event = d })
      (word_exchanged w who kind.Semaphore slots.semaphore) (word_exchanged w who kind.Event slots.event)

  -- ---- what they come to

  left_exchanged : (object : ℕ) (f : Firing) → act kind.Section (record { kernel = record { 0 = object }; count = 0 }) (exchanged_firing at f) ≡ exchanged_firing at (act kind.Section (record { kernel = record { 0 = object }; count = 0 }) f)
  left_exchanged object f =
      ap (λ (ks : List KernelRow). record f { sources = record f.sources { kernels = ks } }) (kernel_exchanged at (state_after Leave) (state_after Leave) (state_exchanged at Leave) f.sources.kernels object)

  act_exchanged : (of : ActionKind) (action : Action) (f : Firing) → act of action (exchanged_firing at f) ≡ exchanged_firing at (act of action f)
  act_exchanged kind.Section action f = left_exchanged action.kernel.0 f
  act_exchanged kind.Mutex action f = left_exchanged action.kernel.0 f
  act_exchanged kind.Semaphore action f = signal_exchanged at (Raise action.count) refl action.kernel.0 f
  act_exchanged kind.Event action f = signal_exchanged at Set refl action.kernel.0 f

  perform_exchanged : (of : ActionKind) (word : SlotWord) (o : Option Action) (f : Firing) → perform of word o (exchanged_firing at f) ≡ exchanged_firing at (perform of word o f)
  perform_exchanged of word None f = refl
  perform_exchanged of word (Some action) f =
      ap (λ g. cond (is_performed word) g (exchanged_firing at f)) (act_exchanged of action f)
      ∙ elim (is_performed word) as (λ b. cond b (exchanged_firing at (act of action f)) (exchanged_firing at f) ≡ exchanged_firing at (cond b (act of action f) f)) [ true ↦ refl | false ↦ refl ]

  pub returning_exchanged : (w : World) (words : ActionWords) (slots : Slots) → returning (exchanged at w) words slots ≡ exchanged_firing at (returning w words slots)
  returning_exchanged w words slots =
      let f : Firing = jobless (sources_of w) in
      let one : Firing = perform kind.Section words.section slots.section f in
      let two : Firing = perform kind.Mutex words.mutex slots.mutex one in
      let three : Firing = perform kind.Semaphore words.semaphore slots.semaphore two in
      ap (λ g. perform kind.Event words.event slots.event (perform kind.Semaphore words.semaphore slots.semaphore (perform kind.Mutex words.mutex slots.mutex g))) (perform_exchanged kind.Section words.section slots.section f)
      ∙ ap (λ g. perform kind.Event words.event slots.event (perform kind.Semaphore words.semaphore slots.semaphore g)) (perform_exchanged kind.Mutex words.mutex slots.mutex one)
      ∙ ap (perform kind.Event words.event slots.event) (perform_exchanged kind.Semaphore words.semaphore slots.semaphore two)
      ∙ perform_exchanged kind.Event words.event slots.event three

  pub is_lock_exchanged : (lock : Lock) (s : KernelState) → is_lock lock (exchanged_state at s) ≡ is_lock lock s
  is_lock_exchanged lock.Mutex s = state_same at (is_lock lock.Mutex) (λ _ _ _. refl) (λ _ _ _. refl) s
  is_lock_exchanged lock.Section s = state_same at (is_lock lock.Section) (λ _ _ _. refl) (λ _ _ _. refl) s

  pub is_for_exchanged : (of : ActionKind) (s : KernelState) → is_for of (exchanged_state at s) ≡ is_for of s
  is_for_exchanged kind.Section s = is_lock_exchanged lock.Section s
  is_for_exchanged kind.Mutex s = is_lock_exchanged lock.Mutex s
  is_for_exchanged kind.Semaphore s = state_same at is_semaphore (λ _ _ _. refl) (λ _ _ _. refl) s
  is_for_exchanged kind.Event s = state_same at is_event (λ _ _ _. refl) (λ _ _ _. refl) s
