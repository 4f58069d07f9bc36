use Rattle.std.proofs.Common.{not, ap, ◌∙◌, length, filter, rules}
use Rattle.tp_base.specs.Armings.{is_armed}
use Rattle.tp_base.specs.Timers.{expired}
use Rattle.tp_base.specs.declared.rows.TimerSetting.{TimerSetting}
use Rattle.sources.specs.Rows.{SourceRows}
use Rattle.sources.proofs.LiveSources.count_expiring.Goals as goal

pub returns : goal.returns
returns c =
    c.count_due_where.ensures (λ object. not (is_armed object c.self.inside.kernels.armed)) (λ object answer small post. search rules)
    ∙ ap (λ (r : SourceRows). length (filter (λ (s : TimerSetting). not (is_armed s.object.0 r.sources.armings)) (expired c.args.now r.sources.settings))) c.self.view_is
