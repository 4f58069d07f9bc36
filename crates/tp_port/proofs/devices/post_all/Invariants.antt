use Rattle.tp_port.specs.Ports.{number_of}
use Rattle.tp_port.proofs.Threads.{Posting}
use Rattle.tp_port.proofs.devices.post_all.Given as goal

abbrev pub invariant-loop-completion : goal.invariant-loop-completion
invariant-loop-completion g l = Posting l.port (number_of l.fn.pass) l.list.items l.completion-index l.pass
