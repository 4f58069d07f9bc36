-- What actions on return keep.
use Rattle.std.proofs.Common.{◌≡◌, ℕ, ◌==◌, slice_get, slice_set, eqb-true, eq-eqb, ◌-◌, Bool, true, false, cond, List, Option, Some, None, is_none, refl, sym, ap, ◌∙◌, subst}
use Rattle.std.specs.Option.{option_map_or}
use Rattle.tp_base.specs.declared.ids.Who.{Who}
use Rattle.tp_base.specs.declared.answers.ActionKind.{ActionKind}
use Rattle.tp_base.specs.declared.answers.ActionKind.TheVariants.{Section, Mutex, Semaphore, Event}
use Rattle.tp_base.specs.declared.answers.SlotWord.{SlotWord}
use Rattle.tp_base.specs.declared.answers.SlotWord.TheVariants.{Performed, OverMaximum}
use Rattle.tp_base.specs.declared.plans.ActionWords.{ActionWords}
use Rattle.tp_base.specs.declared.plans.KernelChange.TheVariants.{Leave}
use Rattle.tp_base.specs.declared.rows.Action.{Action}
use Rattle.tp_base.specs.declared.rows.Slots.{Slots}
use Rattle.tp_base.specs.declared.rows.KernelState.{KernelState}
use Rattle.tp_base.specs.declared.rows.KernelState.TheVariants as state
use Rattle.tp_base.specs.declared.rows.KernelRow.{KernelRow}
use Rattle.tp_base.specs.Kernels.{state_after}
use Rattle.tp_base.specs.Actions.{slot, may_perform, may_raise, left_out, word, is_unasked, is_performed}
use Rattle.tp_model.specs.Sources.{Firing, jobless, sources_of}
use Rattle.tp_model.specs.World.{World}
use Rattle.tp_model.specs.Counts.{numbered}
use Rattle.tp_model.specs.Kernels.{is_kernel_that, kernel_changed, with_row}
use Rattle.tp_model.specs.Actions.{word_of, words_of, act, perform}
use Rattle.tp_model.proofs.Lists.{get_set, get_set_other}
use Rattle.tp_model.proofs.Refusals.{false_true, numbered_some}

-- the word says whether the action was asked for
word_unasked : (w : World) (who : Who) (kind : ActionKind) (action : Option Action) → is_unasked (word_of w who kind action) ≡ is_none action
word_unasked w who kind None = refl
word_unasked w who kind (Some action) = of_test (is_kernel_that (may_perform who kind action.count) w action.kernel.0) kind
  where
    of_test : (t : Bool) (k : ActionKind) → is_unasked (cond t Performed (left_out k)) ≡ false
    of_test true k = refl
    of_test false Section = refl
    of_test false Mutex = refl
    of_test false Semaphore = refl
    of_test false Event = refl

pub words_unasked : (w : World) (who : Who) (slots : Slots) (kind : ActionKind) → is_unasked (word kind (words_of w who slots)) ≡ is_none (slot kind slots)
words_unasked w who slots Section = word_unasked w who Section slots.section
words_unasked w who slots Mutex = word_unasked w who Mutex slots.mutex
words_unasked w who slots Semaphore = word_unasked w who Semaphore slots.semaphore
words_unasked w who slots Event = word_unasked w who Event slots.event

-- ---- what the actions change

abbrev pub is_that : (KernelState → Bool) → List KernelRow → ℕ → Bool
is_that test kernels kernel = option_map_or (λ (k : KernelRow). test k.state) (numbered kernels kernel) false

-- a test that no change of this kind alters is as it was of all of them
that_kept : (test : KernelState → Bool) (f : KernelState → KernelState) → ((s : KernelState) → test (f s) ≡ test s) → (kernels : List KernelRow) (changed kernel : ℕ) → is_that test (kernel_changed f kernels changed) kernel ≡ is_that test kernels kernel
that_kept test f same kernels changed kernel = of_row (numbered kernels changed) refl
  where
    at : ℕ
    at = kernel - 1

    seen : Option KernelRow → Bool
    seen o = option_map_or (λ (k : KernelRow). test k.state) o false

    unless_none : (b : Bool) (o p : Option KernelRow) → seen o ≡ seen p → seen (cond b None o) ≡ seen (cond b None p)
    unless_none true o p e = refl
    unless_none false o p e = e

    of_row : (row : Option KernelRow) → numbered kernels changed ≡ row → is_that test (with_row f kernels changed row) kernel ≡ is_that test kernels kernel
    of_row None is = refl
    of_row (Some row) is = unless_none (kernel == 0) (slice_get (slice_set kernels (changed - 1) new) at) (slice_get kernels at) (of_place (changed - 1 == at) refl)
      where
        new : KernelRow
        new = record row { state = f row.state }

        stands : slice_get kernels (changed - 1) ≡ Some row
        stands = (numbered_some kernels changed row is).0

        of_place : (b : Bool) → (changed - 1 == at) ≡ b → seen (slice_get (slice_set kernels (changed - 1) new) at) ≡ seen (slice_get kernels at)
        of_place true here =
            let same_place : changed - 1 ≡ at = eqb-true (changed - 1) at here in
            ap (λ n. seen (slice_get (slice_set kernels (changed - 1) new) n)) (sym same_place)
            ∙ ap seen (get_set kernels (changed - 1) row new stands)
            ∙ same row.state
            ∙ sym (ap seen stands)
            ∙ ap (λ n. seen (slice_get kernels n)) same_place
        of_place false other = ap seen (get_set_other kernels (changed - 1) at new (λ e. false_true (sym other ∙ eq-eqb (changed - 1) at e)))

-- giving back a lock leaves semaphores as they are
leaves_raise : (more : ℕ) (s : KernelState) → may_raise more (state_after Leave s) ≡ may_raise more s
leaves_raise more (state.Event manual signalled) = refl
leaves_raise more (state.Semaphore count maximum) = refl
leaves_raise more (state.Mutex owner takings) = refl
leaves_raise more (state.Section owner takings) = refl

-- so that what may be performed before the actions may be so in its turn
abbrev gives : ActionKind → Bool
gives Section = true
gives Mutex = true
gives _ = false

still_raises : (more : ℕ) (kind : ActionKind) → gives kind ≡ true → (says : SlotWord) (action : Option Action) (f : Firing) (kernel : ℕ) → is_that (may_raise more) (perform kind says action f).sources.kernels kernel ≡ is_that (may_raise more) f.sources.kernels kernel
still_raises more kind lock says None f kernel = refl
still_raises more kind lock says (Some action) f kernel =
    elim (is_performed says) as (λ b. is_that (may_raise more) (cond b (act kind action f) f).sources.kernels kernel ≡ is_that (may_raise more) f.sources.kernels kernel) [
      | true ↦ of_kind kind lock
      | false ↦ refl
    ]
  where
    left : is_that (may_raise more) (kernel_changed (state_after Leave) f.sources.kernels action.kernel.0) kernel ≡ is_that (may_raise more) f.sources.kernels kernel
    left = that_kept (may_raise more) (state_after Leave) (leaves_raise more) f.sources.kernels action.kernel.0 kernel

    of_kind : (k : ActionKind) → gives k ≡ true → is_that (may_raise more) (act k action f).sources.kernels kernel ≡ is_that (may_raise more) f.sources.kernels kernel
    of_kind Section e = left
    of_kind Mutex e = left
    of_kind Semaphore e = absurd (false_true e)
    of_kind Event e = absurd (false_true e)

-- the word of a semaphore's action says whether it may be raised
pub raises : (w : World) (who : Who) (action : Option Action) (a : Action) → action ≡ Some a → is_performed (word_of w who Semaphore action) ≡ true → is_kernel_that (may_raise a.count) w a.kernel.0 ≡ true
raises w who None a is does = absurd cc
raises w who (Some b) a is does =
    let same : b ≡ a = cc in
    subst (λ (x : Action). is_kernel_that (may_raise x.count) w x.kernel.0 ≡ true) same
    (elim (is_kernel_that (may_raise b.count) w b.kernel.0) as (λ t. is_performed (cond t Performed OverMaximum) ≡ true → t ≡ true) [ true ↦ λ _. refl | false ↦ λ h. h ] does)

-- a semaphore may be raised after the locks were given back
pub may_raise_still : (w : World) (who : Who) (words : ActionWords) (slots : Slots) → words ≡ words_of w who slots → (a : Action) → slots.semaphore ≡ Some a → is_performed words.semaphore ≡ true
    → is_that (may_raise a.count) (perform Mutex words.mutex slots.mutex (perform Section words.section slots.section (jobless (sources_of w)))).sources.kernels a.kernel.0 ≡ true
may_raise_still w who words slots told a is does =
    still_raises a.count Mutex refl words.mutex slots.mutex (perform Section words.section slots.section (jobless (sources_of w))) a.kernel.0
    ∙ still_raises a.count Section refl words.section slots.section (jobless (sources_of w)) a.kernel.0
    ∙ raises w who slots.semaphore a is (sym (ap (λ (ws : ActionWords). is_performed ws.semaphore) told) ∙ does)
