use Rattle.worker_gate.proofs.DrawnRun.{one_drawn}
use Rattle.worker_gate.proofs.run.one_history_drawn.Goals as goal

pub returns : goal.returns
returns c = λ seed known limits capacity. one_drawn known limits capacity seed
