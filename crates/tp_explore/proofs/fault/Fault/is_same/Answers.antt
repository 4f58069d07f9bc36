use Rattle.std.proofs.Common.{◌==◌, rules}
use Rattle.tp_explore.proofs.SameFaults.{same_faults}
use Rattle.tp_explore.proofs.fault.Fault.is_same.Goals as goal

pub returns-then-is_same_kind-clause-same : goal.returns-then-is_same_kind-clause-same
returns-then-is_same_kind-clause-same c = same_faults c.args.self.now c.args.other.now (c.args.self.now.line == c.args.other.now.line) (search rules)

pub returns-else-is_same_kind-clause-same : goal.returns-else-is_same_kind-clause-same
returns-else-is_same_kind-clause-same c = same_faults c.args.self.now c.args.other.now c.is_same_kind.result (search rules)
