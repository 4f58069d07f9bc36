use Rattle.std.proofs.Common.{◌++◌, List, sym, ap, subst, ◌∙◌, append-nil}
use Rattle.std.proofs.lemmas.List.{drop_all}
use Rattle.tp_script.specs.declared.numbered.NumberedLine.{NumberedLine}
use Rattle.tp_script.specs.Kept.{AreRising}
use Rattle.tp_script.specs.Parsed.{marks_from}
use Rattle.tp_script.proofs.MarkFacts.{all_rising}
use Rattle.tp_script.proofs.numbered.marks_of.Goals as goal

pub returns-clause-rising : goal.returns-clause-rising
returns-clause-rising c =
    let rows = c.args.rows.now in
    let made = c.loop-row.marks.items in
    let none = drop_all c.loop-row.row-index rows c.loop-row-test.false in
    let all = sym (append-nil made) ∙ sym (ap (λ (left : List NumberedLine). made ++ marks_from c.loop-row.place left) none) ∙ c.loop-row.invariant.all in
    subst AreRising (sym all) (all_rising rows 0)
