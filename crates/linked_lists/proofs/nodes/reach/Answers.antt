use Rattle.std.proofs.Common.{◌≡◌, ◌∙◌, length, arith}
use Rattle.linked_lists.proofs.Filling.{same_pushed}
use Rattle.linked_lists.proofs.nodes.reach.Goals as goal

pub loop-nodes-preserved : goal.loop-nodes-preserved
loop-nodes-preserved c =
    let kept = c.loop-nodes.invariant in
    let alone : c.len-alone.result ≡ length c.loop-nodes.nodes.items = omega (arith, c.len-alone.ensures) in
    record {
      least = omega (arith, kept.least, c.push_reserved.ensures.len);
      many = omega (arith, kept.many, c.push_reserved.ensures.len, c.loop-nodes-test.true, c.len.ensures);
      same = λ k. rw (c.push_reserved.ensures.items, alone) (same_pushed c.loop-nodes.nodes.items k) ∙ kept.same k;
      capacity = c.push_reserved.ensures.capacity ∙ kept.capacity;
    }
