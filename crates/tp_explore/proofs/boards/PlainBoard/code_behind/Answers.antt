use Rattle.std.proofs.Common.{◌++◌, ◌∙◌, ap, refl}
use Rattle.std.proofs.lemmas.Result.{IfOk-weaker}
use Rattle.short_codes.specs.Codes.{listed, number}
use Rattle.row_codes.specs.Worlds.{world_code}
use Rattle.renamed_worlds.specs.Ordered.{rearranged}
use Rattle.tp_explore.specs.Exchanging.{rearranged_board}
use Rattle.tp_explore.specs.Keys.{board_code, noted_code, place_code}
use Rattle.tp_explore.specs.Kept.{board_of}
use Rattle.tp_explore.proofs.Rearranged.{code_of}
use Rattle.tp_explore.proofs.boards.PlainBoard.code_behind.Goals as goal

pub returns : goal.returns
returns g c =
    let limits = c.args.limits.now in
    let order = c.args.order.now in
    let w = g.V.Reads.world_of c.self.inside.world in
    let made = g.V.Reads.made_of c.self.inside.world in
    let b = board_of w made c.self.inside.places c.self.inside.notes in
    let told =
    c.in_ok-put_notes.ensures
    ∙ ap (λ text. text ++ noted_code c.in_ok-notes.notes)
    (c.in_ok-put_places.ensures ∙ ap (λ text. text ++ listed place_code c.places-2.result.now) (c.in_ok-write_behind.ensures ∙ ap (λ text. text ++ world_code (rearranged order w) ++ number made) c.new-text.ensures.items))
    ∙ code_of limits order b (rearranged order w) c.in_ok-places.places c.places-2.result.now c.in_ok-notes.notes refl c.places-2.ensures c.in_ok-places.ensures c.in_ok-notes.ensures
    ∙ ap (λ before. board_code (rearranged_board limits order before)) c.self.view_is in
    IfOk-weaker c.from_slice.result _ _ (λ key is. is ∙ c.deref.ensures.value ∙ told) c.from_slice.ensures.items
