use Rattle.std.proofs.Common.{◌≡◌, ◌-◌, Some, sym, subst, arith}
use Rattle.std.proofs.lemmas.Option.{slice_get_within}
use Rattle.tp_model.specs.World.{unfinished}
use Rattle.tp_model.specs.Counts.{numbered}
use Rattle.tp_model.proofs.Refusals.{numbered_some}
use Rattle.live_world.specs.Live.{Live}
use Rattle.live_world.proofs.LiveWorld.finish.Goals as goal

pub index_mut-requires : goal.index_mut-requires
index_mut-requires c =
    let clients = c.self.inside.clients in
    let stands = subst (λ (x : Live). numbered x.world.clients c.args.client ≡ Some unfinished) (sym c.self.view_is) c.requires in
    omega (arith, slice_get_within clients.items (c.args.client - 1) unfinished (numbered_some clients.items c.args.client unfinished stands).0, clients.ok.0)
