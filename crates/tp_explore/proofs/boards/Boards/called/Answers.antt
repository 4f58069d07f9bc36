use Rattle.std.proofs.Common.{◌+◌, sym, ◌∙◌}
use Rattle.tp_model.proofs.Steps.{plan_allowed}
use Rattle.tp_explore.specs.Scenes.{ample}
use Rattle.tp_explore.proofs.boards.Boards.called.Goals as goal

pub planned-requires : goal.planned-requires
planned-requires g c = λ answer change is.
    (plan_allowed (g.V.Reads.made_of c.args.world.now + 1) ample (g.V.Reads.world_of c.args.world.now) c.args.who c.args.call.now answer change c.is_reachable.ensures.sound (sym c.plan_of-plan.ensures ∙ is)).allowed
