use Rattle.live_world.proofs.CallbackMoves.{marked_long}
use Rattle.live_world.proofs.Moving.{found_here, goes_with, runs_here}
use Rattle.live_world.proofs.LiveWorld.mark_long.Goals as goal

pub change-requires : goal.change-requires
change-requires c =
    let d = c.args.by.callback in
    record { found = found_here c.self.inside c.args.self.now d c.self.view_is c.requires.runs.found; goes = goes_with d _ d.result d.status (λ e. e) (λ e. e) (λ e. e) }

pub mark_long-requires : goal.mark_long-requires
mark_long-requires c = runs_here c.self.inside c.args.self.now c.args.by c.self.view_is c.requires.runs

pub invariant_of-self : goal.invariant_of-self
invariant_of-self c = (marked_long c.self.inside c.args.self.now c.args.by c.mark_long.new.self c.change.new.self c.self.view_is c.self.invariant c.requires c.mark_long.ensures c.change.ensures.moved).keeps

pub returns : goal.returns
returns c = (marked_long c.self.inside c.args.self.now c.args.by c.mark_long.new.self c.change.new.self c.self.view_is c.self.invariant c.requires c.mark_long.ensures c.change.ensures.moved).becomes
