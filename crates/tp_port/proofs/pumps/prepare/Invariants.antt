use Rattle.std.proofs.Common.{◌≡◌, ◌≤◌, take, vec_capacity}
use Rattle.tp_port.specs.Pumps.{quotas_for}
use Rattle.tp_port.proofs.pumps.prepare.Given as goal

abbrev pub invariant-loop-list : goal.invariant-loop-list
invariant-loop-list l = record {
  made : l.quotas.items ≡ take l.list-index (quotas_for l.devices.items);
  fits : l.count ≤ vec_capacity l.quotas;
}
