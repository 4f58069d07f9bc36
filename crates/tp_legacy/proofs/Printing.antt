-- The line of what a step came to.
use Rattle.std.proofs.Common.{◌≡◌, ℕ, List, [], ◌∷◌, ◌++◌, sym, ap, ap₂, ◌∙◌}
use Rattle.std.specs.Prelude.{Err, Ok, OnOk, Result}
use Rattle.std.proofs.lemmas.List.{append_assoc}
use Rattle.tp_base.specs.declared.ids.Who.{Who}
use Rattle.tp_legacy.specs.Legacy.{legacy_play, legacy_step}
use Rattle.tp_legacy.specs.Lines.{answer_text, output_of}
use Rattle.tp_legacy.specs.Old.{Stand}
use Rattle.tp_legacy.specs.declared.LegacyAnswer.{LegacyAnswer}
use Rattle.tp_legacy.specs.declared.LegacyCall.{LegacyCall}

-- the line of its answer, and what further lines come to
line_told : (s next : Stand) (who : Who) (call : LegacyCall) (answer : LegacyAnswer) (before after : List ℕ) → answer ≡ (legacy_step s who call).1 → next ≡ (legacy_step s who call).0
    → after ≡ before ++ (answer_text answer ++ 10 ∷ []) → (more : List (Who × LegacyCall)) → before ++ output_of (legacy_play s ((who, call) ∷ more)) ≡ after ++ output_of (legacy_play next more)
line_told s next who call answer before after answers leads prints more =
    ap₂ (λ (a : LegacyAnswer) (n : Stand). before ++ (answer_text a ++ 10 ∷ output_of (legacy_play n more))) (sym answers) (sym leads)
    ∙ ap (λ x. before ++ x) (sym (append_assoc (answer_text answer) (10 ∷ []) (output_of (legacy_play next more))))
    ∙ sym (append_assoc before (answer_text answer ++ 10 ∷ []) (output_of (legacy_play next more)))
    ∙ ap (λ x. x ++ output_of (legacy_play next more)) (sym prints)

-- the same of an answer that was printed, or not
pub step_told : {T E : Type 0} (result : Result T E) (s next : Stand) (who : Who) (call : LegacyCall) (answer : LegacyAnswer) (before after : List ℕ) → answer ≡ (legacy_step s who call).1
    → next ≡ (legacy_step s who call).0 → OnOk result (after ≡ before ++ (answer_text answer ++ 10 ∷ []))
    → OnOk result ((more : List (Who × LegacyCall)) → before ++ output_of (legacy_play s ((who, call) ∷ more)) ≡ after ++ output_of (legacy_play next more))
step_told (Ok value) s next who call answer before after answers leads prints = line_told s next who call answer before after answers leads prints
step_told (Err error) s next who call answer before after answers leads prints = tt
