use Rattle.std.proofs.Common.{◌≡◌, ◌++◌, length, map}
use Rattle.std.specs.Vec.Iter.{into_iter_items, into_iter_len}
use Rattle.crossbeam_queue.specs.Passes.{view, IsPassOf}
use Rattle.tp_port.specs.declared.views.Part.TheVariants.{Takes}
use Rattle.tp_port.specs.Ports.{posted_by, quotas_of, taken_by}
use Rattle.tp_port.proofs.port.Port.gather.Given as goal

abbrev pub invariant-loop-post : goal.invariant-loop-post
invariant-loop-post l = record {
  goes : goal.iterator-loop-post.can_next l.post-iterator;
  ends : goal.iterator-loop-post.is_finite l.post-iterator;
  parts : l.fn.posts.items ≡ l.yielded ++ into_iter_items l.post-iterator;
  sized : into_iter_len l.post-iterator ≡ length (into_iter_items l.post-iterator);
  of : IsPassOf l.self.queue l.raw;
  knows : view l.raw ≡ Takes (quotas_of l.fn.pass) (length (quotas_of l.fn.pass)) (taken_by l.fn.pass) (map posted_by l.yielded);
}
