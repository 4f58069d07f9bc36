use Rattle.std.proofs.Common.{◌≡◌, ◌++◌, drop, filter, map}
use Rattle.tp_base.specs.declared.rows.CallbackRow.{CallbackRow}
use Rattle.tp_model.specs.Counts.{is_operating}
use Rattle.tp_explore.specs.Faults.{left_fault}
use Rattle.tp_explore.proofs.faults.add_operating.Given as goal

abbrev pub invariant-loop-callback : goal.invariant-loop-callback
invariant-loop-callback l =
    l.faults.items ++ map (left_fault l.lines) (filter (λ (c : CallbackRow). is_operating c.status) (drop l.callback-index l.callbacks))
    ≡ l.initial.faults.items ++ map (left_fault l.lines) (filter (λ (c : CallbackRow). is_operating c.status) l.callbacks)
