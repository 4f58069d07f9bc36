use Rattle.std.proofs.Common.{sym, subst}
use Rattle.plain_worlds.specs.Reachable.{IsReachable}
use Rattle.plain_worlds.proofs.Reaching.{opening_reachable}
use Rattle.plain_worlds.proofs.PlainWorld.open.Goals as goal

pub invariant_of-result : goal.invariant_of-result
invariant_of-result c = subst (IsReachable 0) (sym c.in_ok-open.ensures) (opening_reachable c.args.limits c.requires)
