use Rattle.std.proofs.Common.{◌≡◌, ◌≤◌, ◌++◌, length, vec_capacity}
use Rattle.std.specs.Vec.Iter.{into_iter_items, into_iter_len}
use Rattle.tp_port.specs.Devices.{AreFinished}
use Rattle.tp_port.proofs.devices.finish_all.Given as goal

abbrev pub invariant-loop-device : goal.invariant-loop-device
invariant-loop-device g l = record {
  goes : (goal.iterator-loop-device g).can_next l.device-iterator;
  ends : (goal.iterator-loop-device g).is_finite l.device-iterator;
  parts : l.fn.started.items ≡ l.yielded ++ into_iter_items l.device-iterator;
  sized : into_iter_len l.device-iterator ≡ length (into_iter_items l.device-iterator);
  finished : AreFinished l.yielded l.ended.items;
  fits : length l.fn.started.items ≤ vec_capacity l.ended;
}
