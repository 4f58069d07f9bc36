-- The definitions give the lines of small examples, by computation alone.
use Rattle.std.proofs.Common.{◌≡◌, ℕ, List, [], ◌∷◌, refl, None, Some}
use Rattle.std.specs.Fmt.{digits}
use Rattle.std.specs.Prelude.{codes, map}
use Rattle.tp_base.specs.declared.answers.Answer.TheVariants.{Advanced, Ended, Refused}
use Rattle.tp_base.specs.declared.answers.Outcome.TheVariants.{Done}
use Rattle.tp_base.specs.declared.answers.Refusal.TheVariants.{ClockEnd}
use Rattle.tp_base.specs.declared.calls.Call.TheVariants.{Take}
use Rattle.tp_base.specs.declared.ids.Who.TheVariants.{Client}
use Rattle.tp_coalesce.specs.Lines.{line_of_sleep_call, output_of}
use Rattle.tp_coalesce.specs.declared.SleepCall.TheVariants as call
use Rattle.tp_coalesce.specs.declared.sleeping.Slept.TheVariants as slept

-- each value has the text beside it
abbrev AreTexts : {V : Type 0} → (V → List ℕ) → List (V × List ℕ) → Type 0
AreTexts text_of rows = map (λ row. text_of (row.0)) rows ≡ map (λ row. row.1) rows

calls : AreTexts (line_of_sleep_call (Client 1))
    ((call.Sleep 0, codes "c1 sleep 0")
    ∷ (call.Sleep 9223372036854775807, codes "c1 sleep 9223372036854775807")
    ∷ (call.Pool Take, codes "c1 take") ∷ [])
unfolding digits
calls = refl

-- a sleep that ends, one that is refused, and a call of the machine
told : output_of
    (record { outcomes = Done (Advanced 40000 1 2) ∷ Done (Advanced 100000 0 0) ∷ []; slept = Some (slept.Done 100000 2) }
    ∷ record { outcomes = Done (Refused ClockEnd) ∷ []; slept = Some (slept.Stopped 0 (Done (Refused ClockEnd))) }
    ∷ record { outcomes = Done Ended ∷ []; slept = None } ∷ [])
    ≡ codes "advanced 40000 1 2\nadvanced 100000 0 0\nslept 100000 2\nrefused clock-end\nstopped 0\nended\n"
unfolding digits
told = refl
