use Rattle.std.proofs.Common.{◌∙◌, ap}
use Rattle.std.proofs.lemmas.Result.{IfOk-weaker}
use Rattle.serde_json.specs.Written.{compact_text, has_float}
use Rattle.tp_report.specs.Summing.{totals_told}
use Rattle.tp_report.proofs.Floatless.{json_whole}
use Rattle.tp_report.proofs.json.json_text.Goals as goal

pub returns : goal.returns
returns c =
    IfOk-weaker c.to_string.result _ _ (λ text h. h (ap has_float c.in_ok-value.ensures ∙ json_whole (totals_told c.args.summary.now)) ∙ ap compact_text c.in_ok-value.ensures) c.to_string.ensures.text
