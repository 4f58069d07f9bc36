use Rattle.std.proofs.Common.{ap, ◌∙◌}
use Rattle.tp_explore.proofs.BoardsKept.{comes}
use Rattle.tp_explore.specs.Ended.{brought}
use Rattle.tp_explore.specs.Kept.{board_of}
use Rattle.tp_explore.specs.Scripts.{watched_but}
use Rattle.tp_explore.proofs.boards.Boards.behind.Goals as goal

pub returns : goal.returns
returns g c = λ w made.
    let k = watched_but c.args.self.now.passed.now c.args.self.now.script.now in
    let l = c.args.self.now.limits in
    let b = board_of w made c.args.places.now c.args.notes.now in
    c.unless.ensures k l
    ∙ comes k l b c.args.entry (g.V.Reads.world_of c.args.world) (g.V.Reads.made_of c.args.world) c.in_ok-places.places c.at-before.result c.at-after.result c.enter.new.notes c.deref.result.now
    c.in_ok-places.ensures
    c.at-before.ensures
    c.at-after.ensures
    (cc (c.in_ok-faults.ensures.noted, c.in_ok-notes.ensures))
    (c.deref.ensures.value ∙ c.in_ok-faults.ensures.faults ∙ ap (λ noted. brought k l (g.V.Reads.world_of c.args.world) (record { entry = c.args.entry; before = c.at-before.result; after = c.at-after.result }) noted) c.in_ok-notes.ensures)
