use Rattle.std.proofs.Common.{◌≡◌, [], ◌∷◌, List, ℕ, take, drop, length, sym, ap, ◌∙◌}
use Rattle.std.proofs.lemmas.Bool.{eqb-false}
use Rattle.std.proofs.lemmas.List.{take-append-drop}
use Rattle.script_lines.specs.Texts.{lines_of, without_first}
use Rattle.script_lines.proofs.TextFacts.{first_line}
use Rattle.script_lines.proofs.texts.next_line.Goals as goal

pub returns-clause-lines : goal.returns-clause-lines
returns-clause-lines c =
    let text = c.args.text.now in
    let size = c.size_before-size.result in
    let whole = take-append-drop size text in
    let some : text ≡ [] → ⊥ = λ e. eqb-false (length text) 0 (sym c.is_empty.ensures ∙ c.if-is_empty.false) (ap length e) in
    ap lines_of (sym whole)
    ∙ first_line (take size text) (drop size text) c.size_before-size.ensures.lacking c.size_before-size.ensures.ended (λ e. some (sym whole ∙ e))
    ∙ ap (λ (line : List ℕ). line ∷ lines_of (without_first (drop size text))) (sym c.split_at.ensures.front)
    ∙ ap (λ (rest : List ℕ). c.split_at.result.0.now ∷ lines_of rest) (ap without_first (sym c.split_at.ensures.back) ∙ sym c.without_first.ensures)
