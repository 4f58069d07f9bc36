use Rattle.std.proofs.Common.{sym, ◌∙◌}
use Rattle.sources.proofs.Released.{counted_there, none_there}
use Rattle.sources.proofs.LiveSources.count_released.Goals as goal

pub returns-in-None : goal.returns-in-None
returns-in-None c = none_there c.self.inside c.args.self.now c.args.how c.args.kernel.0 c.self.view_is c.self.invariant (sym c.kernel.ensures ∙ c.in-None.is)

pub returns-in-Some : goal.returns-in-Some
returns-in-Some c =
    counted_there c.self.inside c.args.self.now c.args.how c.args.kernel.0 c.self.view_is c.self.invariant c.in-Some.state c.most_released.result c.count_armed.result
    (sym c.kernel.ensures ∙ c.in-Some.is) c.most_released.ensures c.count_armed.ensures
