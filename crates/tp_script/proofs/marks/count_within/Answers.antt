use Rattle.std.proofs.Common.{List, ◌++◌, take, sym, subst, ap, ◌∙◌, append-nil, ◌<◌}
use Rattle.tp_script.specs.declared.marks.Mark.{Mark}
use Rattle.tp_script.proofs.MarkFacts.{none_further}
use Rattle.tp_script.proofs.marks.count_within.Goals as goal

pub returns-then-last-from-clause-all : goal.returns-then-last-from-clause-all
returns-then-last-from-clause-all c =
    let marks = c.args.marks.now in
    let index = c.loop-index.index in
    let front = take index marks in
    let none = none_further marks index c.args.first c.args.last _ c.loop-index.invariant.rising (subst (λ n. c.args.last < n) c.from.ensures c.if-last-from.true) in
    c.loop-index.invariant.all ∙ ap (λ (rest : List Mark). front ++ rest) none ∙ append-nil front
