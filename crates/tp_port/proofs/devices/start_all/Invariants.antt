use Rattle.std.proofs.Common.{◌≡◌, ◌≤◌, ◌++◌, length, vec_capacity}
use Rattle.std.specs.Vec.Iter.{into_iter_items, into_iter_len}
use Rattle.tp_port.proofs.Threads.{Starting}
use Rattle.tp_port.proofs.devices.start_all.Given as goal

abbrev pub invariant-loop-pass : goal.invariant-loop-pass
invariant-loop-pass g l = record {
  goes : (goal.iterator-loop-pass g).can_next l.pass-iterator;
  ends : (goal.iterator-loop-pass g).is_finite l.pass-iterator;
  parts : l.fn.posts.items ≡ l.yielded ++ into_iter_items l.pass-iterator;
  sized : into_iter_len l.pass-iterator ≡ length (into_iter_items l.pass-iterator);
  started : Starting l.port l.devices.items (length l.yielded) l.started.items;
  fits : length l.fn.posts.items ≤ vec_capacity l.started;
}
