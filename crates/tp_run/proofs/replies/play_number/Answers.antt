use Rattle.std.proofs.Common.{◌≡◌, Err, sym, subst, ap, ◌∙◌, arith}
use Rattle.std.proofs.lemmas.Result.{IfOk-weaker}
use Rattle.tp_run.specs.Played.{long_script}
use Rattle.tp_script.specs.Answers.{IsThat}
use Rattle.tp_script.specs.Scripts.{IsParsed, IsScript}
use Rattle.tp_run.proofs.replies.play_number.Goals as goal

-- the text is a script, and of such a one no fault is told
pub unreachable-requires : goal.unreachable-requires
unreachable-requires g c =
    let script = c.generated_is_script.ensures.script c.args.number 2000 (omega arith) (omega arith) in
    let text : c.deref.result.now ≡ long_script c.args.number = c.deref.ensures.value ∙ c.in_ok-text.ensures in
    let that : IsThat script.0 c.parse_script.result = c.parse_script.ensures.only script.0 (subst (λ t. IsScript t script.0) (sym text) script.1) in
    subst (IsThat script.0) (c.in-Err-At.is ∙ ap Err c.in-Err-At.field-0-is) that

-- the text is a script, and that one was played
pub returns : goal.returns
returns g c =
    let script = c.in-Ok.script in
    let text : c.deref.result.now ≡ long_script c.args.number = c.deref.ensures.value ∙ c.in_ok-text.ensures in
    let parsed : IsParsed (long_script c.args.number) script = subst (λ t. IsParsed t script) text c.in-Ok.ensures.parsed in
    IfOk-weaker c.play_unwritten.result _ _ (λ output played. (script, parsed, played)) (c.play_unwritten.ensures (long_script c.args.number))
