-- The world before the first call is one that calls lead to, and an allowed change leads to another.
use Rattle.std.proofs.Common.{ℕ, ◌+◌, refl, arith, subst}
use Rattle.std.proofs.lemmas.List.{length-replicate}
use Rattle.tp_base.specs.Ranges.{AreLimitsInRange}
use Rattle.tp_base.specs.declared.limits.Limits.{Limits}
use Rattle.tp_base.specs.declared.plans.Change.{Change}
use Rattle.tp_model.specs.Changes.{changed}
use Rattle.tp_model.specs.Support.Allowed.{news, IsAllowed}
use Rattle.tp_model.specs.Support.Remembered.{forget}
use Rattle.tp_model.specs.Support.Sound.{IsSound}
use Rattle.tp_model.specs.World.{opening, unattached, unfinished, World}
use Rattle.tp_model.proofs.Forgetting.{forget_sound, live_forgotten}
use Rattle.tp_model.proofs.Sound.{changed_sound, opening_sound}
use Rattle.plain_worlds.specs.Reachable.{IsReachable}
use Rattle.plain_worlds.proofs.Kept.{once_moved, once_opening}
use Rattle.plain_worlds.proofs.Within.{within_kept}

pub opening_reachable : (limits : Limits) → AreLimitsInRange limits → IsReachable 0 (opening limits)
opening_reachable limits in_range = record {
  sound = opening_sound limits;
  living = refl;
  within = record {
    limits = in_range;
    clients = length-replicate limits.clients unfinished;
    workers = length-replicate limits.workers unattached;
    pools = in_range.pools_least;
    groups = omega arith;
    objects = omega arith;
    kernels = omega arith;
    slots = omega arith;
  };
  once = once_opening limits;
}

pub change_reaches : (made : ℕ) (w : World) (ch : Change) → IsReachable made w → IsAllowed (made + 1) w ch → IsReachable (made + news ch) (forget (changed w ch))
change_reaches made w ch r a = record {
  sound = subst (λ n. IsSound n (forget (changed w ch))) (omega arith) (forget_sound (made + 1 + news ch) (changed w ch) (changed_sound (made + 1) w ch r.sound a));
  living = live_forgotten (changed w ch);
  within = within_kept (made + 1) w ch a r.living r.within;
  once = once_moved w ch r.once;
}
