use Rattle.std.proofs.Common.{◌≡◌, ℕ, suc, ◌+◌, ◌<◌, List, [], ◌∷◌, ◌++◌, length, take, get_or, arith, sym, ap, ◌∙◌, append_assoc}
use Rattle.std.specs.Prelude.{map}
use Rattle.std.proofs.Math.Seq.{take-suc}
use Rattle.std.proofs.lemmas.List.{map-append}
use Rattle.line_grammar.specs.Traces.{trace_text}
use Rattle.tp_base.specs.declared.ids.ObjectId.{ObjectId}
use Rattle.tp_model.specs.Over.{row_of}
use Rattle.tp_model.specs.declared.Left.{Left}
use Rattle.tp_report.specs.Summaries.{left_line}
use Rattle.line_grammar.proofs.TraceFacts.{trace_text-append}
use Rattle.tp_report.proofs.summary.append_left.Goals as goal

-- the lines of one row more
rows_next : (rows : List (ℕ × ObjectId × Left)) (index : ℕ) (d : ℕ × ObjectId × Left) (old before after : List ℕ) → index < length rows
    → before ≡ old ++ trace_text (map left_line (map row_of (take index rows))) → after ≡ before ++ (left_line (row_of (get_or rows index d)) ++ 10 ∷ [])
    → after ≡ old ++ trace_text (map left_line (map row_of (take (index + 1) rows)))
rows_next rows index d old before after within e f =
    let row = get_or rows index d in
    let more : index + 1 ≡ suc index = omega arith in
    let longer : take (index + 1) rows ≡ take index rows ++ row ∷ [] = ap (λ n. take n rows) more ∙ take-suc rows index d within in
    let lines : map left_line (map row_of (take (index + 1) rows)) ≡ map left_line (map row_of (take index rows)) ++ left_line (row_of row) ∷ []
    = ap (λ rs. map left_line (map row_of rs)) longer ∙ ap (map left_line) (map-append row_of (take index rows) (row ∷ [])) ∙ map-append left_line (map row_of (take index rows)) (row_of row ∷ []) in
    f ∙ ap (λ t. t ++ (left_line (row_of row) ++ 10 ∷ [])) e
    ∙ append_assoc old (trace_text (map left_line (map row_of (take index rows)))) (left_line (row_of row) ++ 10 ∷ [])
    ∙ ap (λ t. old ++ t) (sym (ap trace_text lines ∙ trace_text-append (map left_line (map row_of (take index rows))) (left_line (row_of row) ∷ [])))

pub loop-row-preserved : goal.loop-row-preserved
loop-row-preserved c =
    let l = c.loop-row in
    rows_next c.args.rows.now l.row-index _ c.args.text.now.items l.text.items c.append_row.new.text.items c.loop-row-test.true l.invariant c.in_ok-append_row.ensures
