use Rattle.std.proofs.Common.{sym, ap, ◌∙◌, subst}
use Rattle.tp_base.specs.declared.plans.Change.TheVariants as change
use Rattle.tp_model.specs.Support.Allowed.{MayBegin}
use Rattle.live_world.specs.Live.{moved}
use Rattle.live_world.proofs.Beginnings.{all_settled, may_settled, begins}
use Rattle.live_world.proofs.LiveWorld.begin_wait.Goals as goal

pub cover_outstanding-requires-clause-settled : goal.cover_outstanding-requires-clause-settled
cover_outstanding-requires-clause-settled c = all_settled c.args.self.now c.settle.new.self c.in-Object.object c.args.cancel c.settle.ensures

pub cover_outstanding-requires-clause-allowed : goal.cover_outstanding-requires-clause-allowed
cover_outstanding-requires-clause-allowed c =
    may_settled c.args.self.now c.settle.new.self c.args.who c.in-Object.object c.args.cancel c.settle.ensures (subst (MayBegin c.args.self.now.world c.args.who) c.in-Object.is c.requires)

pub returns-in-Object : goal.returns-in-Object
returns-in-Object c =
    c.cover_outstanding.ensures
    ∙ begins c.args.self.now c.settle.new.self c.args.who c.in-Object.object c.args.cancel c.settle.ensures
    ∙ ap (λ t. moved c.args.self.now (change.BeginWait c.args.who t c.args.cancel)) (sym c.in-Object.is)
