use Rattle.std.proofs.Common.{subst}
use Rattle.tp_explore.specs.Explored.{Explores}
use Rattle.tp_explore.specs.Scripts.{watched_but}
use Rattle.order_lines.proofs.Writing.{none_written}
use Rattle.order_lines.proofs.explored.seek.Goals as goal

pub returns-in_ok-write_none-in-None : goal.returns-in_ok-write_none-in-None
returns-in_ok-write_none-in-None g c =
    let k = watched_but c.args.passed.now c.args.script.now in
    none_written k c.args.text.now c.args.limits _ _ _ c.in-None.states (subst (λ a. Explores k c.args.limits a) c.in-None.is c.in_ok-explore.ensures.explores) c.in_ok-write_none-in-None.ensures

pub returns-in-Bad : goal.returns-in-Bad
returns-in-Bad g c = c.write_bad.ensures c.args.most
