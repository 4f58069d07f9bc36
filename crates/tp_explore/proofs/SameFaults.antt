-- Faults that are the same are one.
use Rattle.std.proofs.Common.{◌≡◌, ℕ, refl, ap, ◌∙◌, sym, subst, Bool, true, false, IsTrue, ◌↔◌, ◌==◌, ◌&&◌, eqb-true, eq-eqb}
use Rattle.tp_base.specs.contracts.answers.ActionKindPartialEq.TheImpl as action_eq
use Rattle.tp_base.specs.declared.answers.ActionKind.{ActionKind}
use Rattle.tp_base.specs.declared.answers.ActionKind.TheVariants.{Section, Mutex, Semaphore, Event}
use Rattle.tp_base.specs.declared.answers.Refusal.{Refusal}
use Rattle.tp_base.specs.declared.answers.Refusal.TheVariants as refusal
use Rattle.tp_base.specs.declared.ids.ObjectId.{ObjectId}
use Rattle.tp_model.proofs.Refusals.{both}
use Rattle.tp_model.specs.declared.Left.{Left as LeftAs}
use Rattle.tp_model.specs.declared.Left.TheVariants as left
use Rattle.tp_explore.specs.declared.fault.Fault.{Fault}
use Rattle.tp_explore.specs.declared.fault.FaultKind.{FaultKind}
use Rattle.tp_explore.specs.declared.fault.FaultKind.TheVariants.{Refused, Stalled, NotQuiet, UseAfterFree, FreedTwice, FreedInUse, Left}
use Rattle.tp_explore.specs.SameFaults.{is_same_fault, is_same_kind, is_same_left, is_same_refusal}

false_true : false ≡ true → ⊥
false_true e = cc

number_self : (a : ℕ) → (a == a) ≡ true
number_self a = eq-eqb a a refl

object_same : (a b : ObjectId) → (a.0 == b.0) ≡ true → a ≡ b
object_same a b e = let same : a.0 ≡ b.0 = eqb-true a.0 b.0 e in let objects : ℕ → ObjectId = λ n. record { 0 = n } in ap objects same

action_same : (a b : ActionKind) → action_eq.eq-value.it a b ≡ true → a ≡ b
action_same Section Section e = refl
action_same Mutex Mutex e = refl
action_same Semaphore Semaphore e = refl
action_same Event Event e = refl
action_same _ _ e = absurd (false_true e)

action_self : (a : ActionKind) → action_eq.eq-value.it a a ≡ true
action_self Section = refl
action_self Mutex = refl
action_self Semaphore = refl
action_self Event = refl

refusal_same : (a b : Refusal) → is_same_refusal a b ≡ true → a ≡ b
refusal_same refusal.NoSuch refusal.NoSuch e = refl
refusal_same refusal.WrongKind refusal.WrongKind e = refl
refusal_same refusal.Released refusal.Released e = refl
refusal_same refusal.PoolClosed refusal.PoolClosed e = refl
refusal_same refusal.GroupClosed refusal.GroupClosed e = refl
refusal_same refusal.DefaultPool refusal.DefaultPool e = refl
refusal_same refusal.NotWorker refusal.NotWorker e = refl
refusal_same refusal.NotRunning refusal.NotRunning e = refl
refusal_same refusal.StillRunning refusal.StillRunning e = refl
refusal_same refusal.InWait refusal.InWait e = refl
refusal_same refusal.NoWaitBegun refusal.NoWaitBegun e = refl
refusal_same refusal.OwnCallback refusal.OwnCallback e = refl
refusal_same (refusal.HasMembers x0) (refusal.HasMembers y0) e = ap (λ z. refusal.HasMembers z) (object_same x0 y0 e)
refusal_same refusal.NotStarted refusal.NotStarted e = refl
refusal_same refusal.NoOperation refusal.NoOperation e = refl
refusal_same (refusal.OperationsOutstanding x0) (refusal.OperationsOutstanding y0) e = ap (λ z. refusal.OperationsOutstanding z) (object_same x0 y0 e)
refusal_same (refusal.SlotTaken x0) (refusal.SlotTaken y0) e = ap (λ z. refusal.SlotTaken z) (action_same x0 y0 e)
refusal_same refusal.NotOwner refusal.NotOwner e = refl
refusal_same (refusal.OverMaximum x0) (refusal.OverMaximum y0) e = ap (λ z. refusal.OverMaximum z) (eqb-true x0 y0 e)
refusal_same refusal.NotWaitable refusal.NotWaitable e = refl
refusal_same refusal.ClockEnd refusal.ClockEnd e = refl
refusal_same refusal.ObjectLimit refusal.ObjectLimit e = refl
refusal_same refusal.CallbackLimit refusal.CallbackLimit e = refl
refusal_same refusal.NotAttached refusal.NotAttached e = refl
refusal_same refusal.AlreadyAttached refusal.AlreadyAttached e = refl
refusal_same _ _ e = absurd (false_true e)

refusal_self : (a : Refusal) → is_same_refusal a a ≡ true
refusal_self refusal.NoSuch = refl
refusal_self refusal.WrongKind = refl
refusal_self refusal.Released = refl
refusal_self refusal.PoolClosed = refl
refusal_self refusal.GroupClosed = refl
refusal_self refusal.DefaultPool = refl
refusal_self refusal.NotWorker = refl
refusal_self refusal.NotRunning = refl
refusal_self refusal.StillRunning = refl
refusal_self refusal.InWait = refl
refusal_self refusal.NoWaitBegun = refl
refusal_self refusal.OwnCallback = refl
refusal_self (refusal.HasMembers x0) = number_self x0.0
refusal_self refusal.NotStarted = refl
refusal_self refusal.NoOperation = refl
refusal_self (refusal.OperationsOutstanding x0) = number_self x0.0
refusal_self (refusal.SlotTaken x0) = action_self x0
refusal_self refusal.NotOwner = refl
refusal_self (refusal.OverMaximum x0) = number_self x0
refusal_self refusal.NotWaitable = refl
refusal_self refusal.ClockEnd = refl
refusal_self refusal.ObjectLimit = refl
refusal_self refusal.CallbackLimit = refl
refusal_self refusal.NotAttached = refl
refusal_self refusal.AlreadyAttached = refl

left_same : (a b : LeftAs) → is_same_left a b ≡ true → a ≡ b
left_same left.Expected left.Expected e = refl
left_same left.Issued left.Issued e = refl
left_same left.Pending left.Pending e = refl
left_same _ _ e = absurd (false_true e)

left_self : (a : LeftAs) → is_same_left a a ≡ true
left_self left.Expected = refl
left_self left.Issued = refl
left_self left.Pending = refl

kind_same : (a b : FaultKind) → is_same_kind a b ≡ true → a ≡ b
kind_same (Refused a) (Refused b) e = ap (λ z. Refused z) (refusal_same a b e)
kind_same Stalled Stalled e = refl
kind_same NotQuiet NotQuiet e = refl
kind_same UseAfterFree UseAfterFree e = refl
kind_same FreedTwice FreedTwice e = refl
kind_same FreedInUse FreedInUse e = refl
kind_same (Left a) (Left b) e = ap (λ z. Left z) (left_same a b e)
kind_same _ _ e = absurd (false_true e)

kind_self : (a : FaultKind) → is_same_kind a a ≡ true
kind_self (Refused a) = refusal_self a
kind_self Stalled = refl
kind_self NotQuiet = refl
kind_self UseAfterFree = refl
kind_self FreedTwice = refl
kind_self FreedInUse = refl
kind_self (Left a) = left_self a

fault_same : (a b : Fault) → is_same_fault a b ≡ true → a ≡ b
fault_same a b e =
    let parts = both _ _ e in
    let kind : a.kind ≡ b.kind = kind_same a.kind b.kind parts.0 in
    let line : a.line ≡ b.line = eqb-true a.line b.line parts.1 in
    let by_line : ◌≡◌ {A = Fault} a (record { kind = a.kind; line = b.line }) = ap (λ n. record { kind = a.kind; line = n }) line in
    let by_kind : ◌≡◌ {A = Fault} (record { kind = a.kind; line = b.line }) b = ap (λ k. record { kind = k; line = b.line }) kind in
    by_line ∙ by_kind

fault_self : (a : Fault) → is_same_fault a a ≡ true
fault_self a = ap (λ x. x && (a.line == a.line)) (kind_self a.kind) ∙ number_self a.line

pub same_faults : (a b : Fault) (is : Bool) → is ≡ is_same_fault a b → IsTrue is ↔ (a ≡ b)
same_faults a b is told = (λ yes. fault_same a b (sym told ∙ yes), λ same. told ∙ subst (λ x. is_same_fault a x ≡ true) same (fault_self a))
