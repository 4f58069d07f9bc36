use Rattle.std.proofs.Common.{◌≡◌, ◌+◌, Some, is_some, sym, ap, ap₂, ◌∙◌}
use Rattle.tp_base.specs.declared.rows.ObjectRow.{ObjectRow}
use Rattle.begun_waits.specs.declared.Closing.{Closing}
use Rattle.world_reads.specs.declared.waiting.Progress.TheVariants.{Notifies}
use Rattle.live_world.specs.View.{shown}
use Rattle.live_world.proofs.Progress.{IsNotice, is_notice, no_notice, told_notice}
use Rattle.live_world.proofs.LiveWorld.progress_free.Goals as goal
use Rattle.live_world.proofs.LiveWorld.progress_free.Goals.{In-Some}

-- the object of the first notice
notice : (c : In-Some) → IsNotice (shown c.self.inside).world c.args.who c.in-Some.object
notice c = is_notice (c.self.inside.made + 1) (shown c.self.inside).world c.args.who c.in-Some.object c.self.invariant.sound (sym c.first_notice.ensures ∙ c.in-Some.is)

pub returns-in_default : goal.returns-in_default
returns-in_default c =
    let begun = rw (← c.self.view_is) at c.requires in
    rw (← c.self.view_is) (no_notice (shown c.self.inside).world c.args.who begun (sym c.first_notice.ensures ∙ c.in_default.is))

pub unwrap-closing-requires : goal.unwrap-closing-requires
unwrap-closing-requires c = ap is_some (c.closing.ensures ∙ (notice (goal.at.unwrap-closing-requires c).In-Some).closes)

pub unwrap-row-requires : goal.unwrap-row-requires
unwrap-row-requires c =
    ap is_some (c.object.ensures ∙ (notice (goal.at.unwrap-row-requires c).In-Some).stands)

pub returns : goal.returns
returns c =
    let n = notice (goal.at.returns c).In-Some in
    let found : Some c.unwrap-row.result ≡ Some n.row = sym c.unwrap-row.ensures ∙ c.object.ensures ∙ n.stands in
    let closes : Some c.unwrap-closing.result ≡ Some (record { group = n.group; context = n.wait.cleanup }) = sym c.unwrap-closing.ensures ∙ c.closing.ensures ∙ n.closes in
    let row : c.unwrap-row.result ≡ n.row = cc in
    let closing : c.unwrap-closing.result ≡ record { group = n.group; context = n.wait.cleanup } = cc in
    rw (← c.self.view_is)
    (ap₂ (λ (r : ObjectRow) (k : Closing). Notifies c.in-Some.object r.env.cancel r.context k.context) row closing ∙ told_notice (shown c.self.inside).world c.args.who c.in-Some.object n)
