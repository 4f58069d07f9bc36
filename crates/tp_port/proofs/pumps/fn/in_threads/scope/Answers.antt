use Rattle.tp_port.proofs.Threads.{all_ended}
use Rattle.tp_port.proofs.pumps.fn.in_threads.scope.Goals as goal

pub returns : goal.returns
returns g c = record { took = c.take_some-book.ensures; ended = all_ended _ _ _ _ c.start_all-started.ensures c.finish_all-ended.ensures }
