use Rattle.std.proofs.Common.{ap, refl}
use Rattle.tp_base.specs.declared.plans.IoStep.TheVariants.{Issue}
use Rattle.tp_base.specs.declared.rows.WaitTarget.TheVariants.{Object}
use Rattle.tp_model.specs.Counts.{is_operating}
use Rattle.tp_model.specs.Waits.{is_held_for}
use Rattle.live_world.proofs.Moving.{found_here, goes_with}
use Rattle.live_world.proofs.Operations.{operated_by}
use Rattle.live_world.proofs.LiveWorld.issue.Goals as goal

pub change-requires : goal.change-requires
change-requires c =
    let d = c.args.callback in
    record {
      found = found_here c.self.inside c.args.self.now d c.self.view_is c.requires.found;
      goes = goes_with d d.long d.result _ (λ _. ap (is_held_for (Object d.object)) c.requires.status) (λ e. absurd cc) (λ _. ap is_operating c.requires.status);
    }

pub invariant_of-self : goal.invariant_of-self
invariant_of-self c = (operated_by c.self.inside c.args.self.now c.args.callback Issue c.change.new.self c.self.view_is c.self.invariant c.requires refl c.change.ensures.moved).keeps

pub returns : goal.returns
returns c = (operated_by c.self.inside c.args.self.now c.args.callback Issue c.change.new.self c.self.view_is c.self.invariant c.requires refl c.change.ensures.moved).becomes
