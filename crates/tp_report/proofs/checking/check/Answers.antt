use Rattle.std.specs.Prelude.{Ok}
use Rattle.tp_report.specs.Verdicts.{limits_of}
use Rattle.tp_report.proofs.Clock.{legal_clocks}
use Rattle.tp_report.proofs.Migrating.{fault_again}
use Rattle.tp_report.proofs.SoFar.{legal_keeps}
use Rattle.tp_report.proofs.checking.check.Goals as goal

pub returns-in_err-verdict-clause-only : goal.returns-in_err-verdict-clause-only
returns-in_err-verdict-clause-only g c = λ header lines h.
    fault_again header lines g.B.Recorded.recording c.in_err-verdict.field-0.0 c.from_residual.result c.from_residual.ensures.1 (c.in_err-verdict.ensures.only header lines h)

pub returns-clause-only : goal.returns-clause-only
returns-clause-only g c = λ header lines h. (c.in_ok-verdict.ensures.only header lines h).0

pub returns-clause-laws : goal.returns-clause-laws
returns-clause-laws g c = λ header lines h.
    legal_keeps (limits_of header) header.events lines (Ok c.in_ok-verdict.verdict) (c.in_ok-verdict.ensures.only header lines h).0

pub returns-clause-clock : goal.returns-clause-clock
returns-clause-clock g c = λ header lines h.
    legal_clocks (limits_of header) header.events lines (Ok c.in_ok-verdict.verdict) (c.in_ok-verdict.ensures.only header lines h).0
