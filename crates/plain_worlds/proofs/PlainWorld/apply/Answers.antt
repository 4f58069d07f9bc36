use Rattle.std.proofs.Common.{◌+◌, ◌∙◌, sym, ap, subst}
use Rattle.tp_model.specs.Support.Allowed.{news, IsAllowed}
use Rattle.tp_model.specs.Support.Remembered.{forget}
use Rattle.plain_worlds.specs.Plain.{Plain}
use Rattle.plain_worlds.specs.Reachable.{IsReachable}
use Rattle.plain_worlds.proofs.Reaching.{change_reaches}
use Rattle.plain_worlds.proofs.PlainWorld.apply.Goals as goal

pub invariant_of-result : goal.invariant_of-result
invariant_of-result c =
    let i = c.self.inside in
    let ch = c.args.change.now in
    let allowed = subst (λ (p : Plain). IsAllowed (p.made + 1) p.world ch) (sym c.self.view_is) c.requires in
    let rows = c.forget.ensures ∙ ap forget c.in_ok-change.ensures in
    subst (λ n. IsReachable n c.forget.new.self) (sym c.in_ok-made.ensures) (subst (IsReachable (i.made + news ch)) (sym rows) (change_reaches i.made i.rows ch c.self.invariant allowed))
