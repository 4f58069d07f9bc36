use Rattle.std.proofs.Common.{◌∙◌, ap, length, subst, sym}
use Rattle.tp_model.specs.Support.Remembered.{forget}
use Rattle.tp_model.specs.World.{World}
use Rattle.plain_worlds.specs.Closing.{closed_plain}
use Rattle.plain_worlds.specs.Reachable.{IsReachable}
use Rattle.plain_worlds.proofs.Closed.{closed_count, closed_reachable, plain_closed, rows_closed}
use Rattle.plain_worlds.proofs.PlainWorld.close.Goals as goal

pub invariant_of-result : goal.invariant_of-result
invariant_of-result c =
    let i = c.self.inside in
    let rows = c.close.ensures ∙ rows_closed i.made i.rows c.self.invariant in
    let made = c.count_callbacks-made.ensures ∙ ap (λ (w : World). length w.callbacks) rows ∙ closed_count i.rows in
    subst (λ n. IsReachable n c.close.new.self) (sym made)
    (subst (IsReachable (length (forget i.rows).callbacks)) (sym rows)
    (closed_reachable c.closed_worlds_are_sound.ensures.sound c.closed_worlds_are_sound.ensures.living i.made i.rows c.self.invariant))

pub returns : goal.returns
returns c =
    let i = c.self.inside in
    let rows = c.close.ensures ∙ rows_closed i.made i.rows c.self.invariant in
    let made = c.count_callbacks-made.ensures ∙ ap (λ (w : World). length w.callbacks) rows ∙ closed_count i.rows in
    plain_closed (record { world = i.rows; made = i.made }) (record { world = c.close.new.self; made = c.count_callbacks-made.result }) rows made ∙ ap closed_plain c.self.view_is
