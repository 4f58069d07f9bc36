use Rattle.std.proofs.Common.{List, length, filter, ap, ◌∙◌}
use Rattle.tp_base.specs.declared.rows.CallbackRow.{CallbackRow}
use Rattle.tp_model.specs.World.{World}
use Rattle.plain_worlds.specs.Counting.{is_covered_then}
use Rattle.plain_worlds.proofs.Passing.{covered_counted}
use Rattle.plain_worlds.proofs.rows.Rows.counts_for.Goals as goal

pub returns-clause-covered : goal.returns-clause-covered
returns-clause-covered c =
    let test = is_covered_then c.args.target c.args.cancel in
    c.count_covered.ensures ∙ ap (λ (callbacks : List CallbackRow). length (filter test callbacks)) c.deref.ensures.value ∙ ap (λ (w : World). length (filter test w.callbacks)) c.self.view_is
    ∙ covered_counted c.args.self.now c.args.target c.args.cancel
