use Rattle.std.proofs.Common.{◌+◌, vec_items, ◌∙◌, arith}
use Rattle.std.proofs.Math.Nat.{mod-lt}
use Rattle.std.proofs.lemmas.Grind.{common_steps}
use Rattle.std.proofs.lemmas.List.{length-set}
use Rattle.worker_gate.proofs.Crowds.{dealt_next}
use Rattle.worker_gate.proofs.run.deal.Goals as goal

pub loop-actor-preserved : goal.loop-actor-preserved
loop-actor-preserved g c =
    let so = c.loop-actor.invariant in
    let count = so.count in
    let next = so.next in
    record {
      goes = tt;
      ends = tt;
      parts = grind (arith, common_steps);
      dealt = dealt_next vec_items c.loop-actor.yielded c.loop-actor.crews.items c.loop-actor.next c.index_mut.result.now c.push.new.self c.in-Some.actor so.dealt (omega (arith, count, next)) c.index_mut.ensures.value c.in_ok-push.ensures.items;
      count = length-set c.loop-actor.crews.items c.loop-actor.next c.push.new.self ∙ so.count;
      next = mod-lt (c.loop-actor.next + 1) (omega (arith, next));
    }
