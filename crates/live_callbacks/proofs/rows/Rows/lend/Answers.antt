use Rattle.live_callbacks.specs.Places.{live}
use Rattle.live_callbacks.proofs.Tied.{key_row, key_there}
use Rattle.live_callbacks.proofs.rows.Rows.lend.Goals as goal

pub index-requires : goal.index-requires
index-requires c = key_there c.self.inside.rows c.args.key (live c.self.inside.entries.items) c.self.invariant.tied (rw (← c.self.view_is) at c.requires)

pub returns : goal.returns
returns c = rw (← c.self.view_is) (key_row c.self.inside.rows c.args.key _ (live c.self.inside.entries.items) c.index.ensures (rw (← c.self.view_is) at c.requires))
