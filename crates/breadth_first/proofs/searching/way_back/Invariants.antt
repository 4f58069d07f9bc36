use Rattle.std.proofs.Common.{◌≡◌, ◌-◌, ◌++◌}
use mathlib.Core.List.{reverse}
use Rattle.breadth_first.specs.Searched.{way_to}
use Rattle.breadth_first.proofs.searching.way_back.Given as goal

abbrev pub invariant-loop : goal.invariant-loop
invariant-loop l = way_to l.fn.origins.entries l.fn.depth l.fn.at ≡ way_to l.fn.origins.entries (l.fn.depth - l.counter) l.place ++ reverse l.way.items
