use Rattle.std.proofs.Common.{[], ◌∷◌, ◌++◌, sym, ap, ◌∙◌}
use Rattle.breadth_first.proofs.Found.{bad_found}
use Rattle.breadth_first.proofs.Moves.{led_nowhere, move_is, move_same}
use Rattle.breadth_first.proofs.searching.make.Goals as goal

pub returns-in-Nowhere : goal.returns-in-Nowhere
returns-in-Nowhere g c =
    let r = g.S.System.rules c.args.system.now in
    led_nowhere r c.args.search.now.most c.args.origin c.args.state.now.value c.args.search.now c.requires.within
    (move_same r c.args.state.now.value c.deref.result.now c.args.origin.by (sym c.deref.ensures) ∙ move_is r c.deref.result.now c.args.origin.by c.requires.width ∙ sym c.in_ok-after.ensures ∙ c.in-Nowhere.is)

pub returns-in_ok-push-in-Bad : goal.returns-in_ok-push-in-Bad
returns-in_ok-push-in-Bad g c =
    let r = g.S.System.rules c.args.system.now in
    let laws = g.met.S.System in
    let a = c.args.system.now in
    bad_found r (g.S.System.like a) (laws.like_itself a) (laws.like_kept a) (laws.keeps a) c.args.search.now.most c.args.origin c.args.state.now.value c.args.search.now c.requires.within
    (move_same r c.args.state.now.value c.deref.result.now c.args.origin.by (sym c.deref.ensures) ∙ move_is r c.deref.result.now c.args.origin.by c.requires.width ∙ sym c.in_ok-after.ensures ∙ c.in-Bad.is)
    c.push.new.self
    (c.in_ok-push-in-Bad.ensures.items ∙ ap (λ way. way ++ c.args.origin.by ∷ []) c.in_ok-path-in-Bad.ensures)
