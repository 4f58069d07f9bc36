use Rattle.std.proofs.Common.{arith, refl}
use Rattle.live_callbacks.proofs.LiveCallbacks.open.Goals as goal

pub invariant_of-result : goal.invariant_of-result
invariant_of-result c =
    rw c.in_ok-rows.ensures.empty
    (record {
      rising = (0, omega arith);
      homes = tt;
      standing = rw c.places.ensures at c.in_ok-lists.ensures.empty;
      counted = refl;
      counted_persistent = refl;
    })

pub returns : goal.returns
returns c = rw (c.in_ok-rows.ensures.slots, c.in_ok-rows.ensures.empty, c.in_ok-lists.ensures.pools, c.in_ok-lists.ensures.objects) refl
