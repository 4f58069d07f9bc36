use Rattle.std.proofs.Common.{◌≡◌, sum, take}
use Rattle.tp_port.proofs.port.open_quoted.Given as goal

abbrev pub invariant-loop-quota : goal.invariant-loop-quota
invariant-loop-quota g l = l.room ≡ sum (take l.quota-index l.fn.quotas.items)
