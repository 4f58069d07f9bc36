use Rattle.std.proofs.Common.{List, length, filter, ap, ◌∙◌}
use Rattle.tp_base.specs.declared.rows.ObjectRow.{ObjectRow}
use Rattle.tp_model.specs.World.{World}
use Rattle.tp_model.specs.Groups.{gets_notice}
use Rattle.plain_worlds.proofs.Passing.{notices_counted}
use Rattle.plain_worlds.proofs.rows.Rows.count_notices.Goals as goal

pub returns-then-cancel : goal.returns-then-cancel
returns-then-cancel c =
    let test = gets_notice c.args.group.0 in
    c.count_noticed.ensures ∙ ap (λ (objects : List ObjectRow). length (filter test objects)) c.deref.ensures.value ∙ ap (λ (w : World). length (filter test w.objects)) c.self.view_is
    ∙ notices_counted c.args.self.now c.args.group.0 c.args.cancel c.if-cancel.true
