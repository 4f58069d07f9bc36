use Rattle.std.proofs.Common.{◌+◌, arith}
use Rattle.tp_model.proofs.Callbacks.{found_bounds}
use Rattle.live_world.proofs.CallbackMoves.{taken_by}
use Rattle.live_world.proofs.Moving.{found_here, goes_with, idles_here, pending_tied}
use Rattle.live_world.proofs.LiveWorld.take.Goals as goal

pub change-requires : goal.change-requires
change-requires c =
    let d = c.args.callback in
    record {
      found = found_here c.self.inside c.args.self.now d c.self.view_is c.requires.found;
      goes = goes_with d d.long d.result _ (λ _. pending_tied d.object d.status c.requires.pending) (λ e. absurd cc) (λ e. absurd cc);
    }

pub take-requires-clause-a_callback : goal.take-requires-clause-a_callback
take-requires-clause-a_callback c =
    let found = found_here c.self.inside c.args.self.now c.args.callback c.self.view_is c.requires.found in
    omega (arith, (found_bounds c.args.callback.number 1 (c.self.inside.made + 1) c.args.callback c.self.inside.callbacks.rows c.self.invariant.sound.numbers found).0)

pub take-requires-clause-idle : goal.take-requires-clause-idle
take-requires-clause-idle c = idles_here c.self.inside c.args.self.now c.args.by c.self.view_is c.requires.idles

pub invariant_of-self : goal.invariant_of-self
invariant_of-self c = (taken_by c.self.inside c.args.self.now c.args.by c.args.callback c.take.new.self c.change.new.self c.self.view_is c.self.invariant c.requires c.take.ensures c.change.ensures.moved).keeps

pub returns-clause-after : goal.returns-clause-after
returns-clause-after c = (taken_by c.self.inside c.args.self.now c.args.by c.args.callback c.take.new.self c.change.new.self c.self.view_is c.self.invariant c.requires c.take.ensures c.change.ensures.moved).becomes
