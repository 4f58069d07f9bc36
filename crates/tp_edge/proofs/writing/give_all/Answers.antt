use Rattle.std.proofs.Common.{arith, length-drop}
use Rattle.std.proofs.lemmas.List.{take_rest}
use Rattle.tp_edge.proofs.Pieces.{with_given-take}
use Rattle.tp_edge.proofs.writing.give_all.Goals as goal

pub loop-taken-preserved : goal.loop-taken-preserved
loop-taken-preserved g c =
    let gave = rw (take_rest c.args.bytes.now c.loop-taken.taken) at c.in-Bytes.ensures.gave in
    record {
      within = omega (arith, gave.1, length-drop c.loop-taken.taken c.args.bytes.now);
      given = rw (gave.2, c.loop-taken.invariant.given) (with_given-take _ _ _ _);
      never_falls = omega (arith, c.in-Bytes.ensures.never_falls, c.loop-taken.invariant.never_falls);
    }
