-- What the actions of a return leave: all that each signal keeps.
use Rattle.std.proofs.Common.{◌≡◌, ℕ, ◌+◌, ◌≤◌, Bool, true, false, cond, length, Option, Some, None, refl, ◌∙◌, arith}
use Rattle.tp_base.specs.declared.answers.ActionKind.{ActionKind}
use Rattle.tp_base.specs.declared.answers.ActionKind.TheVariants.{Section, Mutex, Semaphore, Event}
use Rattle.tp_base.specs.declared.answers.SlotWord.{SlotWord}
use Rattle.tp_base.specs.declared.plans.ActionWords.{ActionWords}
use Rattle.tp_base.specs.declared.plans.KernelChange.{KernelChange}
use Rattle.tp_base.specs.declared.plans.KernelChange.TheVariants.{Set, Raise, Leave, Take}
use Rattle.tp_base.specs.declared.rows.Action.{Action}
use Rattle.tp_base.specs.declared.rows.Slots.{Slots}
use Rattle.tp_base.specs.Kernels.{state_after}
use Rattle.tp_base.specs.Actions.{is_performed}
use Rattle.tp_model.specs.World.{World}
use Rattle.tp_model.specs.Sources.{Firing, jobless, sources_of, with_state, signal}
use Rattle.tp_model.specs.Actions.{act, perform, performed, returning}
use Rattle.tp_model.specs.Support.Sound.{IsTimedOut, count_armed}
use Rattle.tp_model.proofs.Firing.{IsFiringOf, AreSourcesOf, signal_of, signal_now}
use Rattle.tp_model.proofs.Arming.{signal_within}
use Rattle.tp_model.proofs.Counted.{IsCounted, signal_counted, jobless_counted}

-- a change of a kernel object by which an actor takes it. No signal is one
abbrev pub takes : KernelChange → Bool
takes (Take who) = true
takes _ = false

-- what each signal keeps and each lock that is given back, a return keeps
module _ (P : Firing → Type 0) (signals : (how : KernelChange) → takes how ≡ false → (kernel : ℕ) (f : Firing) → P f → P (signal how kernel f)) (leaves : (kernel : ℕ) (f : Firing) → P f → P (record f { sources = with_state (state_after Leave) kernel f.sources })) where
  act_keeps : (kind : ActionKind) (action : Action) (f : Firing) → P f → P (act kind action f)
  act_keeps Section action f h = leaves action.kernel.0 f h
  act_keeps Mutex action f h = leaves action.kernel.0 f h
  act_keeps Semaphore action f h = signals (Raise action.count) refl action.kernel.0 f h
  act_keeps Event action f h = signals Set refl action.kernel.0 f h

  perform_keeps : (kind : ActionKind) (says : SlotWord) (action : Option Action) (f : Firing) → P f → P (perform kind says action f)
  perform_keeps kind says None f h = h
  perform_keeps kind says (Some action) f h = elim (is_performed says) as (λ b. P (cond b (act kind action f) f)) [ true ↦ act_keeps kind action f h | false ↦ h ]

  pub performed_keeps : (words : ActionWords) (slots : Slots) (f : Firing) → P f → P (performed words slots f)
  performed_keeps words slots f h =
      perform_keeps Event words.event slots.event _ (perform_keeps Semaphore words.semaphore slots.semaphore _
      (perform_keeps Mutex words.mutex slots.mutex _ (perform_keeps Section words.section slots.section f h)))

pub returning_of : (P R : ℕ → Type 0) → ((n : ℕ) → R n → P n) → (w : World) (words : ActionWords) (slots : Slots) → AreSourcesOf P R (sources_of w) → IsFiringOf P R (returning w words slots)
returning_of P R of w words slots all =
    performed_keeps (IsFiringOf P R) (λ how _. signal_of P R of how) (λ kernel f h. record { sources = record { settings = h.sources.settings; armings = h.sources.armings }; jobs = h.jobs }) words slots (jobless (sources_of w)) (record { sources = all; jobs = tt })

pub returning_counted : (o : ℕ) (w : World) (words : ActionWords) (slots : Slots) → IsTimedOut o w.settings w.armings → IsCounted o (count_armed o w.armings) (returning w words slots)
returning_counted o w words slots timed =
    performed_keeps (IsCounted o (count_armed o w.armings)) (λ how _. signal_counted o (count_armed o w.armings) how) (λ kernel f h. record { jobs = h.jobs; timed = record { few = h.timed.few; once = h.timed.once } }) words slots (jobless (sources_of w))
    (jobless_counted o (sources_of w) timed)

pub returning_now : (w : World) (words : ActionWords) (slots : Slots) → (returning w words slots).sources.now ≡ w.now
returning_now w words slots = performed_keeps (λ f. f.sources.now ≡ w.now) (λ how _ kernel f h. signal_now how kernel f ∙ h) (λ kernel f h. h) words slots (jobless (sources_of w)) refl

-- each callback has the slot of its arming
pub returning_within : (w : World) (words : ActionWords) (slots : Slots) → length (returning w words slots).jobs + length (returning w words slots).sources.armings ≤ length w.armings
returning_within w words slots =
    performed_keeps (λ f. length f.jobs + length f.sources.armings ≤ length w.armings) (λ how _ kernel f h. omega (arith, signal_within how kernel f, h)) (λ kernel f h. h) words slots (jobless (sources_of w)) (omega arith)
