-- Answers that are alike, field by field, are one.
use Rattle.std.proofs.Common.{◌≡◌, ℕ, refl, sym, ap, ◌∙◌, Bool, true, false, ◌==◌, ◌&&◌, eqb-true, eq-eqb}
use Rattle.tp_base.specs.contracts.answers.ActionKindPartialEq.TheImpl as action_eq
use Rattle.tp_base.specs.contracts.answers.AnswerPartialEq.TheImpl as answer_eq
use Rattle.tp_base.specs.contracts.answers.RefusalPartialEq.TheImpl as refusal_eq
use Rattle.tp_base.specs.contracts.answers.SlotWordPartialEq.TheImpl as slot_eq
use Rattle.tp_base.specs.contracts.answers.TakeResultPartialEq.TheImpl as result_eq
use Rattle.tp_base.specs.declared.ids.ObjectId.{ObjectId}
use Rattle.tp_base.specs.declared.ids.PoolId.{PoolId}
use Rattle.tp_base.specs.declared.ids.RoutineId.{RoutineId}
use Rattle.tp_base.specs.declared.answers.ActionKind.{ActionKind}
use Rattle.tp_base.specs.declared.answers.ActionKind.TheVariants.{Section, Mutex, Semaphore, Event}
use Rattle.tp_base.specs.declared.answers.Answer.{Answer}
use Rattle.tp_base.specs.declared.answers.Answer.TheVariants as answer
use Rattle.tp_base.specs.declared.answers.Outcome.TheVariants as outcome
use Rattle.tp_base.specs.declared.answers.Refusal.{Refusal}
use Rattle.tp_base.specs.declared.answers.Refusal.TheVariants as refusal
use Rattle.tp_base.specs.declared.answers.SlotWord.{SlotWord}
use Rattle.tp_base.specs.declared.answers.SlotWord.TheVariants.{Unasked, Performed, NotOwner, OverMaximum}
use Rattle.tp_base.specs.declared.answers.TakeResult.{TakeResult}
use Rattle.tp_base.specs.declared.answers.TakeResult.TheVariants as taken
use Rattle.tp_model.proofs.Refusals.{both}

pub false_true : false ≡ true → ⊥
false_true e = cc

conjoined : (a b : Bool) → a ≡ true → b ≡ true → (a && b) ≡ true
conjoined a b p q = ap (λ x. x && b) p ∙ q

number_same : (a b : ℕ) → (a == b) ≡ true → a ≡ b
number_same a b e = eqb-true a b e

number_self : (a : ℕ) → (a == a) ≡ true
number_self a = eq-eqb a a refl

object_same : (a b : ObjectId) → (a.0 == b.0) ≡ true → a ≡ b
object_same a b e = let same : a.0 ≡ b.0 = number_same a.0 b.0 e in let objects : ℕ → ObjectId = λ n. record { 0 = n } in ap objects same

routine_same : (a b : RoutineId) → (a.0 == b.0) ≡ true → a ≡ b
routine_same a b e = let same : a.0 ≡ b.0 = number_same a.0 b.0 e in let routines : ℕ → RoutineId = λ n. record { 0 = n } in ap routines same

pool_same : (a b : PoolId) → (a.0 == b.0) ≡ true → a ≡ b
pool_same a b e = let same : a.0 ≡ b.0 = number_same a.0 b.0 e in let pools : ℕ → PoolId = λ n. record { 0 = n } in ap pools same

flag_same : (a b : Bool) → answer_eq.eq-value.it (answer.Flag a) (answer.Flag b) ≡ true → a ≡ b
flag_same true true e = refl
flag_same false false e = refl
flag_same _ _ e = absurd (false_true e)

flag_self : (a : Bool) → answer_eq.eq-value.it (answer.Flag a) (answer.Flag a) ≡ true
flag_self true = refl
flag_self false = refl

slot_same : (a b : SlotWord) → slot_eq.eq-value.it a b ≡ true → a ≡ b
slot_same Unasked Unasked e = refl
slot_same Performed Performed e = refl
slot_same NotOwner NotOwner e = refl
slot_same OverMaximum OverMaximum e = refl
slot_same _ _ e = absurd (false_true e)

slot_self : (a : SlotWord) → slot_eq.eq-value.it a a ≡ true
slot_self Unasked = refl
slot_self Performed = refl
slot_self NotOwner = refl
slot_self OverMaximum = refl

action_same : (a b : ActionKind) → action_eq.eq-value.it a b ≡ true → a ≡ b
action_same Section Section e = refl
action_same Mutex Mutex e = refl
action_same Semaphore Semaphore e = refl
action_same Event Event e = refl
action_same _ _ e = absurd (false_true e)

action_self : (a : ActionKind) → action_eq.eq-value.it a a ≡ true
action_self Section = refl
action_self Mutex = refl
action_self Semaphore = refl
action_self Event = refl

result_same : (a b : TakeResult) → result_eq.eq-value.it a b ≡ true → a ≡ b
result_same taken.Plain taken.Plain e = refl
result_same taken.WaitObject0 taken.WaitObject0 e = refl
result_same taken.WaitTimeout taken.WaitTimeout e = refl
result_same (taken.Io x0 x1) (taken.Io y0 y1) e = let p0 = both _ _ e in let q0 : x0 ≡ y0 = number_same x0 y0 p0.0 in let q1 : x1 ≡ y1 = number_same x1 y1 p0.1 in cc
result_same _ _ e = absurd (false_true e)

result_self : (a : TakeResult) → result_eq.eq-value.it a a ≡ true
result_self taken.Plain = refl
result_self taken.WaitObject0 = refl
result_self taken.WaitTimeout = refl
result_self (taken.Io x0 x1) = conjoined _ _ (number_self x0) (number_self x1)

refusal_same : (a b : Refusal) → refusal_eq.eq-value.it a b ≡ true → a ≡ b
refusal_same refusal.NoSuch refusal.NoSuch e = refl
refusal_same refusal.WrongKind refusal.WrongKind e = refl
refusal_same refusal.Released refusal.Released e = refl
refusal_same refusal.PoolClosed refusal.PoolClosed e = refl
refusal_same refusal.GroupClosed refusal.GroupClosed e = refl
refusal_same refusal.DefaultPool refusal.DefaultPool e = refl
refusal_same refusal.NotWorker refusal.NotWorker e = refl
refusal_same refusal.NotRunning refusal.NotRunning e = refl
refusal_same refusal.StillRunning refusal.StillRunning e = refl
refusal_same refusal.InWait refusal.InWait e = refl
refusal_same refusal.NoWaitBegun refusal.NoWaitBegun e = refl
refusal_same refusal.OwnCallback refusal.OwnCallback e = refl
refusal_same (refusal.HasMembers x0) (refusal.HasMembers y0) e = ap (λ z. refusal.HasMembers z) (object_same x0 y0 e)
refusal_same refusal.NotStarted refusal.NotStarted e = refl
refusal_same refusal.NoOperation refusal.NoOperation e = refl
refusal_same (refusal.OperationsOutstanding x0) (refusal.OperationsOutstanding y0) e = ap (λ z. refusal.OperationsOutstanding z) (object_same x0 y0 e)
refusal_same (refusal.SlotTaken x0) (refusal.SlotTaken y0) e = ap (λ z. refusal.SlotTaken z) (action_same x0 y0 e)
refusal_same refusal.NotOwner refusal.NotOwner e = refl
refusal_same (refusal.OverMaximum x0) (refusal.OverMaximum y0) e = ap (λ z. refusal.OverMaximum z) (number_same x0 y0 e)
refusal_same refusal.NotWaitable refusal.NotWaitable e = refl
refusal_same refusal.ClockEnd refusal.ClockEnd e = refl
refusal_same refusal.ObjectLimit refusal.ObjectLimit e = refl
refusal_same refusal.CallbackLimit refusal.CallbackLimit e = refl
refusal_same refusal.NotAttached refusal.NotAttached e = refl
refusal_same refusal.AlreadyAttached refusal.AlreadyAttached e = refl
refusal_same _ _ e = absurd (false_true e)

refusal_self : (a : Refusal) → refusal_eq.eq-value.it a a ≡ true
refusal_self refusal.NoSuch = refl
refusal_self refusal.WrongKind = refl
refusal_self refusal.Released = refl
refusal_self refusal.PoolClosed = refl
refusal_self refusal.GroupClosed = refl
refusal_self refusal.DefaultPool = refl
refusal_self refusal.NotWorker = refl
refusal_self refusal.NotRunning = refl
refusal_self refusal.StillRunning = refl
refusal_self refusal.InWait = refl
refusal_self refusal.NoWaitBegun = refl
refusal_self refusal.OwnCallback = refl
refusal_self (refusal.HasMembers x0) = number_self x0.0
refusal_self refusal.NotStarted = refl
refusal_self refusal.NoOperation = refl
refusal_self (refusal.OperationsOutstanding x0) = number_self x0.0
refusal_self (refusal.SlotTaken x0) = action_self x0
refusal_self refusal.NotOwner = refl
refusal_self (refusal.OverMaximum x0) = number_self x0
refusal_self refusal.NotWaitable = refl
refusal_self refusal.ClockEnd = refl
refusal_self refusal.ObjectLimit = refl
refusal_self refusal.CallbackLimit = refl
refusal_self refusal.NotAttached = refl
refusal_self refusal.AlreadyAttached = refl

answer_same : (a b : Answer) → answer_eq.eq-value.it a b ≡ true → a ≡ b
answer_same answer.Done answer.Done e = refl
answer_same (answer.Made x0) (answer.Made y0) e = ap (λ z. answer.Made z) (number_same x0 y0 e)
answer_same (answer.Queued x0 x1) (answer.Queued y0 y1) e = let p0 = both _ _ e in let q0 : x0 ≡ y0 = number_same x0 y0 p0.0 in let q1 : x1 ≡ y1 = number_same x1 y1 p0.1 in cc
answer_same (answer.WasSet x0 x1 x2) (answer.WasSet y0 y1 y2) e = let p0 = both _ _ e in let p1 = both _ _ p0.1 in let q0 : x0 ≡ y0 = flag_same x0 y0 p0.0 in let q1 : x1 ≡ y1 = number_same x1 y1 p1.0 in let q2 : x2 ≡ y2 = number_same x2 y2 p1.1 in cc
answer_same (answer.Flag x0) (answer.Flag y0) e = ap (λ z. answer.Flag z) (flag_same x0 y0 e)
answer_same (answer.Closed x0) (answer.Closed y0) e = ap (λ z. answer.Closed z) (flag_same x0 y0 e)
answer_same (answer.Closing x0 x1 x2) (answer.Closing y0 y1 y2) e = let p0 = both _ _ e in let p1 = both _ _ p0.1 in let q0 : x0 ≡ y0 = number_same x0 y0 p0.0 in let q1 : x1 ≡ y1 = number_same x1 y1 p1.0 in let q2 : x2 ≡ y2 = number_same x2 y2 p1.1 in cc
answer_same (answer.Begun x0 x1) (answer.Begun y0 y1) e = let p0 = both _ _ e in let q0 : x0 ≡ y0 = number_same x0 y0 p0.0 in let q1 : x1 ≡ y1 = number_same x1 y1 p0.1 in cc
answer_same answer.Ended answer.Ended e = refl
answer_same answer.Exhausted answer.Exhausted e = refl
answer_same answer.Stalled answer.Stalled e = refl
answer_same (answer.Notice x0 x1 x2 x3) (answer.Notice y0 y1 y2 y3) e =
    let p0 = both _ _ e in
    let p1 = both _ _ p0.1 in
    let p2 = both _ _ p1.1 in
    let q0 : x0 ≡ y0 = object_same x0 y0 p0.0 in
    let q1 : x1 ≡ y1 = routine_same x1 y1 p1.0 in
    let q2 : x2 ≡ y2 = number_same x2 y2 p2.0 in
    let q3 : x3 ≡ y3 = number_same x3 y3 p2.1 in
    cc
answer_same (answer.Started x0) (answer.Started y0) e = ap (λ z. answer.Started z) (number_same x0 y0 e)
answer_same (answer.Operation x0) (answer.Operation y0) e = ap (λ z. answer.Operation z) (number_same x0 y0 e)
answer_same (answer.Cancelled x0) (answer.Cancelled y0) e = ap (λ z. answer.Cancelled z) (number_same x0 y0 e)
answer_same (answer.Count x0 x1 x2) (answer.Count y0 y1 y2) e = let p0 = both _ _ e in let p1 = both _ _ p0.1 in let q0 : x0 ≡ y0 = number_same x0 y0 p0.0 in let q1 : x1 ≡ y1 = number_same x1 y1 p1.0 in let q2 : x2 ≡ y2 = number_same x2 y2 p1.1 in cc
answer_same (answer.Advanced x0 x1 x2) (answer.Advanced y0 y1 y2) e = let p0 = both _ _ e in let p1 = both _ _ p0.1 in let q0 : x0 ≡ y0 = number_same x0 y0 p0.0 in let q1 : x1 ≡ y1 = number_same x1 y1 p1.0 in let q2 : x2 ≡ y2 = number_same x2 y2 p1.1 in cc
answer_same (answer.Attached x0) (answer.Attached y0) e = ap (λ z. answer.Attached z) (pool_same x0 y0 e)
answer_same (answer.Taken x0 x1 x2 x3 x4) (answer.Taken y0 y1 y2 y3 y4) e =
    let p0 = both _ _ e in
    let p1 = both _ _ p0.1 in
    let p2 = both _ _ p1.1 in
    let p3 = both _ _ p2.1 in
    let q0 : x0 ≡ y0 = number_same x0 y0 p0.0 in
    let q1 : x1 ≡ y1 = object_same x1 y1 p1.0 in
    let q2 : x2 ≡ y2 = routine_same x2 y2 p2.0 in
    let q3 : x3 ≡ y3 = number_same x3 y3 p3.0 in
    let q4 : x4 ≡ y4 = result_same x4 y4 p3.1 in
    cc
answer_same (answer.Returned x0 x1 x2 x3 x4 x5) (answer.Returned y0 y1 y2 y3 y4 y5) e =
    let p0 = both _ _ e in
    let p1 = both _ _ p0.1 in
    let p2 = both _ _ p1.1 in
    let p3 = both _ _ p2.1 in
    let p4 = both _ _ p3.1 in
    let q0 : x0 ≡ y0 = slot_same x0 y0 p0.0 in
    let q1 : x1 ≡ y1 = slot_same x1 y1 p1.0 in
    let q2 : x2 ≡ y2 = slot_same x2 y2 p2.0 in
    let q3 : x3 ≡ y3 = slot_same x3 y3 p3.0 in
    let q4 : x4 ≡ y4 = number_same x4 y4 p4.0 in
    let q5 : x5 ≡ y5 = number_same x5 y5 p4.1 in
    cc
answer_same (answer.Refused x0) (answer.Refused y0) e = ap (λ z. answer.Refused z) (refusal_same x0 y0 e)
answer_same _ _ e = absurd (false_true e)

answer_self : (a : Answer) → answer_eq.eq-value.it a a ≡ true
answer_self answer.Done = refl
answer_self (answer.Made x0) = number_self x0
answer_self (answer.Queued x0 x1) = conjoined _ _ (number_self x0) (number_self x1)
answer_self (answer.WasSet x0 x1 x2) = conjoined _ _ (flag_self x0) (conjoined _ _ (number_self x1) (number_self x2))
answer_self (answer.Flag x0) = flag_self x0
answer_self (answer.Closed x0) = flag_self x0
answer_self (answer.Closing x0 x1 x2) = conjoined _ _ (number_self x0) (conjoined _ _ (number_self x1) (number_self x2))
answer_self (answer.Begun x0 x1) = conjoined _ _ (number_self x0) (number_self x1)
answer_self answer.Ended = refl
answer_self answer.Exhausted = refl
answer_self answer.Stalled = refl
answer_self (answer.Notice x0 x1 x2 x3) = conjoined _ _ (number_self x0.0) (conjoined _ _ (number_self x1.0) (conjoined _ _ (number_self x2) (number_self x3)))
answer_self (answer.Started x0) = number_self x0
answer_self (answer.Operation x0) = number_self x0
answer_self (answer.Cancelled x0) = number_self x0
answer_self (answer.Count x0 x1 x2) = conjoined _ _ (number_self x0) (conjoined _ _ (number_self x1) (number_self x2))
answer_self (answer.Advanced x0 x1 x2) = conjoined _ _ (number_self x0) (conjoined _ _ (number_self x1) (number_self x2))
answer_self (answer.Attached x0) = number_self x0.0
answer_self (answer.Taken x0 x1 x2 x3 x4) = conjoined _ _ (number_self x0) (conjoined _ _ (number_self x1.0) (conjoined _ _ (number_self x2.0) (conjoined _ _ (number_self x3) (result_self x4))))
answer_self (answer.Returned x0 x1 x2 x3 x4 x5) = conjoined _ _ (slot_self x0) (conjoined _ _ (slot_self x1) (conjoined _ _ (slot_self x2) (conjoined _ _ (slot_self x3) (conjoined _ _ (number_self x4) (number_self x5)))))
answer_self (answer.Refused x0) = refusal_self x0

pub told_same : (told a : Answer) → answer_eq.eq-value.it told a ≡ true → outcome.Done told ≡ outcome.Done a
told_same told a e = ap (λ x. outcome.Done x) (answer_same told a e)

pub told_self : (told a : Answer) → outcome.Done told ≡ outcome.Done a → answer_eq.eq-value.it told a ≡ true
told_self told a e = let same : told ≡ a = cc in ap (λ x. answer_eq.eq-value.it told x) (sym same) ∙ answer_self told
