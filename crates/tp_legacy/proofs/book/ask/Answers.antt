use Rattle.std.proofs.Common.{sym, subst}
use Rattle.recorded.specs.Recordings.{Recording}
use Rattle.tp_legacy.specs.Growing.{GoesOn, IsNext}
use Rattle.tp_legacy.proofs.Growing.{made_on}
use Rattle.tp_legacy.proofs.book.ask.Goals as goal

pub returns-clause-goes_on : goal.returns-clause-goes_on
returns-clause-goes_on g c =
    let r = g.B.Recorded.recording c.args.book.now in
    subst (GoesOn r) (sym c.step.ensures.history) (made_on r c.requires.legal c.args.who c.args.call c.step.result (sym c.step.ensures.outcome)).goes_on

pub returns-clause-next : goal.returns-clause-next
returns-clause-next g c =
    let r = g.B.Recorded.recording c.args.book.now in
    subst (λ (next : Recording). IsNext r next c.args.call c.step.result) (sym c.step.ensures.history) (made_on r c.requires.legal c.args.who c.args.call c.step.result (sym c.step.ensures.outcome)).next
