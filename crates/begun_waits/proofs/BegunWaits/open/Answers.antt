use Rattle.std.proofs.Common.{arith, rules}
use Rattle.std.proofs.lemmas.Grind.{common_steps}
use Rattle.begun_waits.proofs.Waiting.{nobody}
use Rattle.begun_waits.proofs.BegunWaits.open.Goals as goal

pub invariant_of-result : goal.invariant_of-result
invariant_of-result g c =
    record {
      in_range = search rules;
      actors = search rules;
      places = search rules;
      lists = grind (arith, common_steps);
      objects = search rules;
      counted = grind (arith, common_steps, nobody);
      purposed = grind (arith, common_steps);
      noticed = grind (arith, common_steps);
    }
