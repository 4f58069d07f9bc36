use Rattle.std.proofs.Common.{◌+◌}
use Rattle.breadth_first.specs.Searched.{origin_of, IsWithin}
use Rattle.breadth_first.proofs.searching.expand.Given as goal

abbrev pub invariant-loop-by : goal.invariant-loop-by
invariant-loop-by g l = IsWithin (g.S.System.rules l.fn.system) l.fn.search.most (origin_of l.fn.at l.by (l.fn.depth + 1)) l.fn.state.value l.search
