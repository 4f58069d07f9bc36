use Rattle.std.proofs.Common.{ap, sym, ◌∙◌}
use Rattle.std.proofs.lemmas.Result.{IfOk-weaker}
use Rattle.tp_explore.proofs.BoardsKept.{moves, stays}
use Rattle.tp_explore.specs.Closing.{closed_came}
use Rattle.tp_explore.specs.Scripts.{watched_but}
use Rattle.tp_explore.proofs.boards.BoardsSystem.after.Goals as goal

pub returns-in_ok-came-in-Some : goal.returns-in_ok-came-in-Some
returns-in_ok-came-in-Some g c =
    let w = g.V.Reads.world_of c.board.inside.world in
    let limits = c.args.self.now.limits in
    let same = moves (watched_but c.args.self.now.passed.now c.args.self.now.script.now) limits c.args.board.now w (g.V.Reads.made_of c.board.inside.world) c.board.inside.places c.board.inside.notes
    c.mover.result c.args.by c.in-Some.call (sym c.board.view_is) c.mover.ensures (c.in-Some.ensures.value w) in
    IfOk-weaker c.close.result _ _ (λ came is. is ∙ ap (closed_came limits) (c.in_ok-came-in-Some.ensures ∙ same)) c.close.ensures

pub returns-in-None : goal.returns-in-None
returns-in-None g c =
    let w = g.V.Reads.world_of c.board.inside.world in
    let limits = c.args.self.now.limits in
    ap (closed_came limits)
    (stays (watched_but c.args.self.now.passed.now c.args.self.now.script.now) limits c.args.board.now w (g.V.Reads.made_of c.board.inside.world) c.board.inside.places c.board.inside.notes
    c.args.by (sym c.board.view_is) (c.in-None.ensures.value w))
