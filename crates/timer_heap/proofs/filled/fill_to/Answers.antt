use Rattle.std.proofs.Common.{◌∙◌, arith}
use Rattle.timer_heap.proofs.Behind.{pushed_same}
use Rattle.timer_heap.proofs.filled.fill_to.Goals as goal

pub loop-value-preserved : goal.loop-value-preserved
loop-value-preserved g c =
    let kept = c.loop-value.invariant in
    record {
      least = omega (arith, kept.least, c.push_reserved.ensures.len);
      many = omega (arith, kept.many, c.push_reserved.ensures.len, c.loop-value-test.true, c.len.ensures);
      same = λ k. rw c.push_reserved.ensures.items (pushed_same c.loop-value.items.items c.args.value k) ∙ kept.same k;
      capacity = c.push_reserved.ensures.capacity ∙ kept.capacity;
    }
