use Rattle.std.proofs.Common.{◌+◌, ◌∙◌, ap, arith}
use Rattle.tp_explore.proofs.Closing.{place_none}
use Rattle.renamed_worlds.specs.Closed.{place_of}
use Rattle.tp_explore.proofs.boards.PlainBoard.close.Goals as goal

pub close-requires : goal.close-requires
close-requires g c =
    let next_number = g.V.Reads.made_of c.self.inside.world + 1 in
    ap (λ cs. place_of cs 0) c.callbacks.ensures ∙ place_none 1 next_number 0 (g.V.Reads.world_of c.self.inside.world).callbacks (omega arith) c.is_reachable.ensures.sound.numbers
