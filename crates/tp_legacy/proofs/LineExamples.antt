-- The definitions give the lines of small examples, by computation alone.
use Rattle.std.proofs.Common.{◌≡◌, ℕ, List, [], ◌∷◌, refl, true, false, None, Some}
use Rattle.std.specs.Fmt.{digits}
use Rattle.std.specs.Prelude.{codes, map}
use Rattle.tp_base.specs.declared.answers.Answer.TheVariants.{Ended}
use Rattle.tp_base.specs.declared.answers.Outcome.TheVariants.{Done}
use Rattle.tp_base.specs.declared.calls.Call.TheVariants.{Take}
use Rattle.tp_base.specs.declared.ids.Who.TheVariants.{Client, Worker}
use Rattle.tp_legacy.specs.Lines.{answer_text, line_of_legacy_call}
use Rattle.tp_legacy.specs.declared.LegacyAnswer.TheVariants as answer
use Rattle.tp_legacy.specs.declared.LegacyCall.TheVariants as call
use Rattle.tp_legacy.specs.declared.LegacyRefusal.TheVariants.{NoSuch, Released, OtherQueue}

-- each value has the text beside it
abbrev AreTexts : {V : Type 0} → (V → List ℕ) → List (V × List ℕ) → Type 0
AreTexts text_of rows = map (λ row. text_of (row.0)) rows ≡ map (λ row. row.1) rows

calls : AreTexts (line_of_legacy_call (Client 1))
    ((call.QueueItem (record { 0 = 2 }) 7 true, codes "c1 queue-item r2 x7 long")
    ∷ (call.QueueItem (record { 0 = 65535 }) 18446744073709551615 false, codes "c1 queue-item r65535 x18446744073709551615 short")
    ∷ (call.Register (record { 0 = 3 }) (record { 0 = 2 }) 7 None true, codes "c1 register 3 r2 x7 none once")
    ∷ (call.Register (record { 0 = 3 }) (record { 0 = 2 }) 7 (Some 4294967295) false, codes "c1 register 3 r2 x7 4294967295 repeat")
    ∷ (call.Unregister 4, codes "c1 unregister 4")
    ∷ (call.CreateQueue, codes "c1 create-queue")
    ∷ (call.CreateTimer 1 (record { 0 = 2 }) 7 5 0, codes "c1 create-timer 1 r2 x7 5 0")
    ∷ (call.ChangeTimer 1 2 10 4294967295, codes "c1 change-timer 1 2 10 4294967295")
    ∷ (call.DeleteTimer 1 2, codes "c1 delete-timer 1 2")
    ∷ (call.DeleteQueue 65535, codes "c1 delete-queue 65535") ∷ [])
unfolding digits
calls = refl

-- a call of the machine has its own line
of_machine : line_of_legacy_call (Worker 12) (call.Pool Take) ≡ codes "w12 take"
unfolding digits
of_machine = refl

answers : AreTexts answer_text
    ((answer.Pool (Done Ended), codes "ended")
    ∷ (answer.Registered 1, codes "registered 1")
    ∷ (answer.Queue 12, codes "queue 12")
    ∷ (answer.Timer 3, codes "timer 3")
    ∷ (answer.Changed true, codes "changed yes")
    ∷ (answer.Changed false, codes "changed no")
    ∷ (answer.Refused NoSuch, codes "refused no-such")
    ∷ (answer.Refused Released, codes "refused released")
    ∷ (answer.Refused OtherQueue, codes "refused other-queue")
    ∷ (answer.Full 2 3, codes "full 2 3") ∷ [])
unfolding digits
answers = refl
