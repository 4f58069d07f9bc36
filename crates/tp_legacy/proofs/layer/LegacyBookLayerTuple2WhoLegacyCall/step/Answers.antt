use Rattle.tp_legacy.proofs.LinePart.{fits_range}
use Rattle.tp_legacy.proofs.Printing.{step_told}
use Rattle.tp_legacy.proofs.layer.LegacyBookLayerTuple2WhoLegacyCall.step.Goals as goal

pub step-answer-requires : goal.step-answer-requires
step-answer-requires g c = fits_range c.ranges_agree.ensures.fits c.args.made.1 c.requires.1.call_in_range

pub returns : goal.returns
returns g c =
    step_told c.print_answer.result c.args.self.now c.step-answer.new.self c.args.made.0 c.args.made.1 c.step-answer.result c.args.out.now c.print_answer.new.out
    c.step-answer.ensures.answer c.step-answer.ensures.stand c.print_answer.ensures
