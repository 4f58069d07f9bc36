-- The lines of what a step came to.
use Rattle.std.proofs.Common.{◌≡◌, ℕ, List, [], ◌∷◌, ◌++◌, sym, ap, ap₂, ◌∙◌, map}
use Rattle.std.specs.Prelude.{Err, Ok, OnOk, Result}
use Rattle.std.specs.List.{flat_map}
use Rattle.std.proofs.lemmas.List.{append-nil, append_assoc}
use Rattle.line_grammar.specs.Traces.{trace_text}
use Rattle.line_grammar.proofs.TraceFacts.{trace_text-append}
use Rattle.recorded.specs.Recordings.{made, outcome_behind, Recording}
use Rattle.tp_base.specs.declared.answers.Outcome.{Outcome}
use Rattle.tp_base.specs.declared.calls.Call.{Call}
use Rattle.tp_base.specs.declared.ids.Who.{Who}
use Rattle.tp_lines.specs.Answers.{text_of_outcome}
use Rattle.tp_coalesce.specs.Heard.{heard, IsSlept}
use Rattle.tp_coalesce.specs.Lines.{lines_of_told, output_of, slept_text}
use Rattle.tp_coalesce.specs.Sleeps.{sleep}
use Rattle.tp_coalesce.specs.Windows.{behind_call, told_of, windows_play}
use Rattle.tp_coalesce.specs.declared.SleepCall.{SleepCall}
use Rattle.tp_coalesce.specs.declared.SleepCall.TheVariants as call
use Rattle.tp_coalesce.specs.declared.sleeping.Slept.{Slept}

-- what lines are with an outcome more
abbrev printed : List ℕ → Outcome → List ℕ
printed text told = text ++ (text_of_outcome told ++ 10 ∷ [])

-- outcomes that are printed one after another
all_printed : (outcomes : List Outcome) (before : List ℕ) → heard printed before outcomes ≡ before ++ trace_text (map text_of_outcome outcomes)
all_printed [] before = sym (append-nil before)
all_printed (told ∷ outcomes) before =
    all_printed outcomes (printed before told)
    ∙ append_assoc before (text_of_outcome told ++ 10 ∷ []) (trace_text (map text_of_outcome outcomes))
    ∙ ap (λ x. before ++ x) (append_assoc (text_of_outcome told) (10 ∷ []) (trace_text (map text_of_outcome outcomes)))

-- the lines of a call, and what further lines come to
lines_told : (r next : Recording) (who : Who) (made_by : SleepCall) (before after : List ℕ) → next ≡ behind_call r who made_by → after ≡ before ++ trace_text (lines_of_told (told_of r who made_by))
    → (more : List (Who × SleepCall)) → before ++ output_of (windows_play r ((who, made_by) ∷ more)) ≡ after ++ output_of (windows_play next more)
lines_told r next who made_by before after leads prints more =
    ap (λ x. before ++ x) (trace_text-append (lines_of_told (told_of r who made_by)) (flat_map lines_of_told (windows_play (behind_call r who made_by) more)))
    ∙ sym (append_assoc before (trace_text (lines_of_told (told_of r who made_by))) (output_of (windows_play (behind_call r who made_by) more)))
    ∙ ap₂ (λ x (n : Recording). x ++ output_of (windows_play n more)) (sym prints) (sym leads)

-- ---- a call of the machine

pub pool_told : {T E : Type 0} (result : Result T E) (seen r next : Recording) → r ≡ seen → (who : Who) (made_by : SleepCall) (own : Call) → made_by ≡ call.Pool own → (told : Outcome) (before after : List ℕ) → told ≡ outcome_behind r who own → next ≡ made r (who, own)
    → OnOk result (after ≡ before ++ (text_of_outcome told ++ 10 ∷ []))
    → OnOk result ((more : List (Who × SleepCall)) → before ++ output_of (windows_play seen ((who, made_by) ∷ more)) ≡ after ++ output_of (windows_play next more))
pool_told (Ok value) seen r next view who made_by own is told before after answers leads prints =
    lines_told seen next who made_by before after (leads ∙ ap₂ (λ x m. behind_call x who m) view (sym is))
    (prints ∙ ap (λ o. before ++ (text_of_outcome o ++ 10 ∷ [])) answers ∙ ap₂ (λ x m. before ++ trace_text (lines_of_told (told_of x who m))) view (sym is))
pool_told (Err error) seen r next view who made_by own is told before after answers leads prints = tt

-- ---- a sleep

pub sleep_printed : {T E : Type 0} (result : Result T E) (seen r next : Recording) → r ≡ seen → (who : Who) (made_by : SleepCall) (ticks : ℕ) → made_by ≡ call.Sleep ticks → (slept : Slept) (before heard_to after : List ℕ) → IsSlept printed (sleep r who ticks) before next heard_to slept
    → OnOk result (after ≡ heard_to ++ (slept_text slept ++ 10 ∷ []))
    → OnOk result ((more : List (Who × SleepCall)) → before ++ output_of (windows_play seen ((who, made_by) ∷ more)) ≡ after ++ output_of (windows_play next more))
sleep_printed (Ok value) seen r next view who made_by ticks same slept before heard_to after is prints =
    let s = sleep r who ticks in
    let outcomes = map text_of_outcome s.outcomes in
    let ended : heard_to ++ (slept_text slept ++ 10 ∷ []) ≡ before ++ trace_text (outcomes ++ slept_text s.slept ∷ []) =
    ap₂ (λ x (e : Slept). x ++ (slept_text e ++ 10 ∷ [])) (is.listener ∙ all_printed s.outcomes before) is.ends
    ∙ append_assoc before (trace_text outcomes) (slept_text s.slept ++ 10 ∷ [])
    ∙ ap (λ x. before ++ x) (sym (trace_text-append outcomes (slept_text s.slept ∷ []))) in
    lines_told seen next who made_by before after (is.machine ∙ ap₂ (λ x m. behind_call x who m) view (sym same))
    (prints ∙ ended ∙ ap₂ (λ x m. before ++ trace_text (lines_of_told (told_of x who m))) view (sym same))
sleep_printed (Err error) seen r next view who made_by ticks same slept before heard_to after is prints = tt
