use Rattle.std.proofs.Common.{MatchOption, sym, subst, ◌∙◌}
use Rattle.script_lines.specs.declared.line.Form.{Form}
use Rattle.script_lines.specs.declared.line.Token.{Token}
use Rattle.script_lines.specs.Tokens.{FitsForm}
use Rattle.script_lines.proofs.judge.judge.Goals as goal

pub returns-in-Number : goal.returns-in-Number
returns-in-Number c =
    let known = c.args.known.now in
    let text = c.args.word.now in
    let P : Form → Type 0 = λ form. MatchOption c.read_within.result ((said : Token) → FitsForm known c.args.field form text said → ⊥) (λ said. FitsForm known c.args.field form text said) in
    subst P (sym c.in-Number.is ∙ c.form_of.ensures) c.read_within.ensures

pub returns-in-Due : goal.returns-in-Due
returns-in-Due c =
    let known = c.args.known.now in
    let text = c.args.word.now in
    let P : Form → Type 0 = λ form. MatchOption c.read_due.result ((said : Token) → FitsForm known c.args.field form text said → ⊥) (λ said. FitsForm known c.args.field form text said) in
    subst P (sym c.in-Due.is ∙ c.form_of.ensures) c.read_due.ensures
