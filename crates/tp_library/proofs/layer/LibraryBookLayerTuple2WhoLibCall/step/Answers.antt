use Rattle.tp_library.specs.Seen.{was_unloaded}
use Rattle.tp_library.proofs.Printing.{line_told, on_ok}
use Rattle.tp_library.proofs.layer.LibraryBookLayerTuple2WhoLibCall.step.Goals as goal

pub returns : goal.returns
returns g c =
    on_ok c.print_unloaded.result
    (λ ends.
    line_told c.args.self.now.stand c.step-answer.new.self.stand c.args.made.0 c.args.made.1 c.step-answer.result (was_unloaded c.step-answer.new.self) c.args.out.now c.print_answer.new.out c.print_unloaded.new.out
    c.step-answer.ensures.answer c.step-answer.ensures.stand c.step-answer.ensures.unloaded c.in_ok-print_answer.ensures ends)
    c.print_unloaded.ensures
