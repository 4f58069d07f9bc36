use Rattle.std.proofs.Common.{◌≡◌, ◌++◌}
use Rattle.tp_library.specs.Seen.{was_unloaded}
use Rattle.tp_library.proofs.Printing.{unloaded_to}
use Rattle.tp_library.proofs.layer.print_unloaded.Given as goal

abbrev pub invariant-loop-number : goal.invariant-loop-number
invariant-loop-number g l = l.out ≡ l.fn.out ++ unloaded_to (was_unloaded l.book) l.number
