use Rattle.std.proofs.Common.{◌≡◌, ◌∙◌, ◌++◌, ◌∷◌, [], ap, arith, length}
use Rattle.std.specs.Prelude.{map, codes}
use Rattle.std.proofs.lemmas.List.{length-map}
use Rattle.line_grammar.specs.Traces.{trace_text}
use Rattle.tp_model.specs.Over.{row_of}
use Rattle.tp_report.specs.Summaries.{count_line, left_line}
use Rattle.tp_report.specs.Summing.{totals_told}
use Rattle.tp_report.proofs.Telling.{line_next, lines_next}
use Rattle.tp_report.proofs.summary.summary_lines.Goals as goal

pub returns : goal.returns
returns c =
    let totals = totals_told c.args.summary.now in
    let entries = count_line (codes "entries") totals.entries in
    let callbacks = count_line (codes "callbacks") totals.callbacks in
    let taken = count_line (codes "taken") totals.taken in
    let cancelled = count_line (codes "cancelled") totals.cancelled in
    let left = count_line (codes "left") (length totals.left) in
    let each = map left_line totals.left in
    let refused = count_line (codes "refused") totals.refused in
    let size : c.len.result ≡ length (map row_of c.args.summary.now.left.items) = omega (arith, c.len.ensures, length-map c.args.summary.now.left.items row_of) in
    let text_1 = line_next [] entries c.new-text.result.items c.append_count.new.text.items c.new-text.ensures.items (c.in_ok-append_count.ensures ∙ ap (λ n. c.new-text.result.items ++ (count_line (codes "entries") n ++ 10 ∷ [])) c.from.ensures) in
    let text_2 = line_next (entries ∷ []) callbacks c.append_count.new.text.items c.append_count-2.new.text.items text_1 c.in_ok-append_count-2.ensures in
    let text_3 = line_next (entries ∷ callbacks ∷ []) taken c.append_count-2.new.text.items c.append_count-3.new.text.items text_2 (c.in_ok-append_count-3.ensures ∙ ap (λ n. c.append_count-2.new.text.items ++ (count_line (codes "taken") n ++ 10 ∷ [])) c.from-2.ensures) in
    let text_4 = line_next (entries ∷ callbacks ∷ taken ∷ []) cancelled c.append_count-3.new.text.items c.append_count-4.new.text.items text_3 c.in_ok-append_count-4.ensures in
    let text_5 = line_next (entries ∷ callbacks ∷ taken ∷ cancelled ∷ []) left c.append_count-4.new.text.items c.append_count-5.new.text.items text_4 (c.in_ok-append_count-5.ensures ∙ ap (λ n. c.append_count-4.new.text.items ++ (count_line (codes "left") n ++ 10 ∷ [])) size) in
    let text_6 = lines_next (entries ∷ callbacks ∷ taken ∷ cancelled ∷ left ∷ []) each c.append_count-5.new.text.items c.append_left.new.text.items text_5
    (c.in_ok-append_left.ensures ∙ ap (λ rows. c.append_count-5.new.text.items ++ trace_text (map left_line (map row_of rows))) c.deref.ensures.value) in
    line_next (entries ∷ callbacks ∷ taken ∷ cancelled ∷ left ∷ each) refused c.append_left.new.text.items c.append_count-6.new.text.items text_6 (c.in_ok-append_count-6.ensures ∙ ap (λ n. c.append_left.new.text.items ++ (count_line (codes "refused") n ++ 10 ∷ [])) c.from-3.ensures)
