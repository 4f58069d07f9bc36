use Rattle.breadth_first.specs.Searched.{IsSearched}
use Rattle.breadth_first.proofs.search.Given as goal

abbrev pub invariant-loop-at : goal.invariant-loop-at
invariant-loop-at g l = IsSearched (g.S.System.rules l.fn.system) l.fn.most l.at l.search
