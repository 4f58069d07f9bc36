use Rattle.worker_gate.proofs.OneHistory.{one_alone}
use Rattle.worker_gate.proofs.run.one_history_alone.Goals as goal

pub returns : goal.returns
returns c = one_alone
