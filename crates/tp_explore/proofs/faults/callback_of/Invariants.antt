use Rattle.std.proofs.Common.{◌≡◌, drop, find}
use Rattle.tp_model.specs.Counts.{has_number}
use Rattle.tp_explore.proofs.faults.callback_of.Given as goal

abbrev pub invariant-loop-callback : goal.invariant-loop-callback
invariant-loop-callback l = find (has_number l.number) (drop l.callback-index l.callbacks) ≡ find (has_number l.number) l.callbacks
