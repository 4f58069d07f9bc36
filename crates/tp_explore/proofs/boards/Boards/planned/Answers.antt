use Rattle.std.proofs.Common.{◌+◌, ap, ◌∙◌}
use Rattle.std.proofs.lemmas.Result.{IfOk-weaker}
use Rattle.tp_model.specs.Changes.{changed}
use Rattle.tp_model.specs.Support.Allowed.{news}
use Rattle.tp_model.specs.Support.Remembered.{forget}
use Rattle.tp_explore.proofs.BoardsKept.{allowed_alike, by_change, by_refusal}
use Rattle.tp_explore.specs.Kept.{board_of}
use Rattle.tp_explore.specs.Scripts.{watched_but}
use Rattle.tp_explore.proofs.boards.Boards.planned.Goals as goal

pub apply-requires : goal.apply-requires
apply-requires g c = allowed_alike _ _ _ _ c.in-Does.change c.in_ok-copy-in-Does.ensures.made c.in_ok-copy-in-Does.ensures.world (c.requires c.in-Does.answer c.in-Does.change c.in-Does.is)

pub returns-in_ok-same-in-Refused : goal.returns-in_ok-same-in-Refused
returns-in_ok-same-in-Refused g c =
    let w = g.V.Reads.world_of c.args.world.now in
    let made = g.V.Reads.made_of c.args.world.now in
    let same = by_refusal (watched_but c.args.self.now.passed.now c.args.self.now.script.now) c.args.self.now.limits (board_of w made c.args.places.now c.args.notes.now) c.args.who c.args.call.now c.args.plan c.in-Refused.refusal c.entry-entry.result
    (g.V.Reads.world_of c.in_ok-same-in-Refused.same) (g.V.Reads.made_of c.in_ok-same-in-Refused.same)
    c.in-Refused.is c.entry-entry.ensures c.in_ok-same-in-Refused.ensures.world c.in_ok-same-in-Refused.ensures.made in
    IfOk-weaker c.behind.result _ _ (λ next is. is ∙ same) (c.behind.ensures w made)

pub returns-in_ok-next-in-Does : goal.returns-in_ok-next-in-Does
returns-in_ok-next-in-Does g c =
    let w = g.V.Reads.world_of c.args.world.now in
    let made = g.V.Reads.made_of c.args.world.now in
    let same = by_change (watched_but c.args.self.now.passed.now c.args.self.now.script.now) c.args.self.now.limits (board_of w made c.args.places.now c.args.notes.now) c.args.who c.args.call.now c.args.plan c.in-Does.answer c.in-Does.change c.entry.result
    (g.V.Reads.world_of c.in_ok-next-in-Does.next) (g.V.Reads.made_of c.in_ok-next-in-Does.next)
    c.in-Does.is c.entry.ensures
    (c.in_ok-next-in-Does.ensures.world ∙ ap (λ before. forget (changed before c.in-Does.change)) c.in_ok-copy-in-Does.ensures.world)
    (c.in_ok-next-in-Does.ensures.made ∙ ap (λ before. before + news c.in-Does.change) c.in_ok-copy-in-Does.ensures.made) in
    IfOk-weaker c.behind-in-Does.result _ _ (λ next is. is ∙ same) (c.behind-in-Does.ensures w made)
