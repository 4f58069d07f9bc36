use Rattle.std.proofs.Common.{subst}
use Rattle.plain_worlds.specs.Plain.{Plain}
use Rattle.plain_worlds.specs.Reachable.{IsReachable}
use Rattle.plain_worlds.proofs.PlainWorld.is_reachable.Goals as goal

pub returns : goal.returns
returns c = subst (λ (p : Plain). IsReachable p.made p.world) c.self.view_is c.self.invariant
