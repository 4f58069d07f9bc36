use Rattle.plain_worlds.proofs.Closed.{nobody_there, placed_at}
use Rattle.plain_worlds.proofs.closing.place_of.Goals as goal

pub returns-in-Some : goal.returns-in-Some
returns-in-Some c = placed_at c.args.number c.in-Some.index c.args.callbacks.now c.in-Some.ensures

pub returns-in-None : goal.returns-in-None
returns-in-None c = nobody_there c.args.number c.args.callbacks.now c.in-None.ensures
