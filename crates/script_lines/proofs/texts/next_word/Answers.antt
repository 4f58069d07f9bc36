use Rattle.std.proofs.Common.{◌≡◌, ℕ, ◌+◌, List, [], ◌++◌, length, take, false, IsTrue, sym, ap, subst, ◌∙◌}
use Rattle.std.proofs.lemmas.Bool.{eqb-false}
use Rattle.std.proofs.lemmas.List.{take-append-drop}
use Rattle.line_grammar.specs.Parts.{Opens}
use Rattle.line_grammar.specs.Words.{lacks}
use Rattle.script_lines.specs.Texts.{begins_with_space, words_from}
use Rattle.script_lines.proofs.TextFacts.{split_word}
use Rattle.script_lines.proofs.texts.next_word.Goals as goal

pub returns-clause-words : goal.returns-clause-words
returns-clause-words c =
    let column = c.args.column + c.leading_spaces-spaces.result in
    let behind = c.split_at.result.1.now in
    let spaces = c.split_at.ensures.back in
    let front = c.split_at-2.result.0.now in
    let rest = c.split_at-2.result.1.now in
    let whole : front ++ rest ≡ behind =
    ap (λ (l : List ℕ). l ++ rest) c.split_at-2.ensures.front ∙ ap (λ (l : List ℕ). take c.size_before-size.result behind ++ l) c.split_at-2.ensures.back ∙ take-append-drop c.size_before-size.result behind in
    let some : behind ≡ [] → ⊥ = λ e. eqb-false (length behind) 0 (sym c.is_empty.ensures ∙ c.if-is_empty.false) (ap length e) in
    let solid : begins_with_space (front ++ rest) ≡ false = ap begins_with_space (whole ∙ spaces) ∙ c.leading_spaces-spaces.ensures.ended in
    let lacking : IsTrue (lacks 32 front) = subst (λ (l : List ℕ). IsTrue (lacks 32 l)) (sym c.split_at-2.ensures.front) c.size_before-size.ensures.lacking in
    let opened : Opens 32 rest = subst (Opens 32) (sym c.split_at-2.ensures.back) c.size_before-size.ensures.ended in
    sym (c.leading_spaces-spaces.ensures.same c.args.column)
    ∙ ap (words_from column) (sym (whole ∙ spaces))
    ∙ split_word column front rest (λ e. some (sym whole ∙ e)) solid lacking opened
