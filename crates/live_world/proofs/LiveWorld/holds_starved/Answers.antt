use Rattle.std.proofs.Common.{◌+◌, None, Some, sym, ◌∙◌}
use Rattle.live_world.proofs.Along.{first_by_number}
use Rattle.live_world.proofs.Starving.{starved_by_pending}
use Rattle.live_world.specs.Waiting.{is_pending_for}
use Rattle.live_world.proofs.LiveWorld.holds_starved.Goals as goal

pub is_held_starved-requires-clause-found : goal.is_held_starved-requires-clause-found
is_held_starved-requires-clause-found c =
    first_by_number (c.args.self.now.made + 1) c.args.self.now.world.callbacks (is_pending_for c.args.object) c.in-Some.callback c.is_reachable.ensures.sound.numbers (sym c.first_pending.ensures ∙ c.in-Some.is)

pub returns-in-None : goal.returns-in-None
returns-in-None c = starved_by_pending c.args.self.now.world c.args.who c.args.object (c.args.self.now.made + 1) c.args.room c.is_reachable.ensures.sound c.requires.target None (sym c.in-None.is ∙ c.first_pending.ensures)

pub returns-in-Some : goal.returns-in-Some
returns-in-Some c =
    c.is_held_starved.ensures
    ∙ starved_by_pending c.args.self.now.world c.args.who c.args.object (c.args.self.now.made + 1) c.args.room c.is_reachable.ensures.sound c.requires.target (Some c.in-Some.callback) (sym c.in-Some.is ∙ c.first_pending.ensures)
