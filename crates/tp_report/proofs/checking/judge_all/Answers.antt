use Rattle.std.proofs.Common.{◌+◌, arith, refl, subst, sym}
use Rattle.line_grammar.specs.Faults.{IsPlace}
use Rattle.tp_report.specs.Histories.{IsHistoryFault}
use Rattle.tp_report.specs.Judging.{IsJudgedOn}
use Rattle.tp_report.proofs.Places.{header_place}
use Rattle.tp_report.proofs.SoFar.{result_ok, result_only, result_err, header_fault, header_no}
use Rattle.tp_report.proofs.checking.judge_all.Goals as goal

pub fault_behind-requires-clause-place : goal.fault_behind-requires-clause-place
fault_behind-requires-clause-place g c = omega (arith, header_place c.args.bytes.now c.in-Err.place c.in-Err.ensures)

pub returns-in-Err-clause-only : goal.returns-in-Err-clause-only
returns-in-Err-clause-only g c = λ header entries h. absurd (header_no c.args.bytes.now c.in-Err.place c.in-Err.ensures header entries h)

pub returns-in-Err-clause-err : goal.returns-in-Err-clause-err
returns-in-Err-clause-err g c =
    subst (λ f. IsPlace (IsHistoryFault c.args.bytes.now) f) (sym c.fault_behind.ensures) (header_fault c.args.bytes.now c.in-Err.place (c.in-Err.place + 1) c.in-Err.ensures refl)

pub returns-in-Ok-clause-ok : goal.returns-in-Ok-clause-ok
returns-in-Ok-clause-ok g c =
    result_ok c.args.bytes.now c.in-Ok.header c.in-Ok.size c.in-Ok.ensures c.split_at.result.1.now c.split_at.ensures.back c.judge_behind.result (λ judged. judged.1) c.judge_behind.ensures.ok

pub returns-in-Ok-clause-only : goal.returns-in-Ok-clause-only
returns-in-Ok-clause-only g c =
    result_only c.args.bytes.now c.in-Ok.header c.in-Ok.size c.in-Ok.ensures c.split_at.result.1.now c.split_at.ensures.back c.judge_behind.result
    (λ header lines judged. IsJudgedOn header lines (g.B.Recorded.recording judged.0) judged.1) c.judge_behind.ensures.only

pub returns-in-Ok-clause-err : goal.returns-in-Ok-clause-err
returns-in-Ok-clause-err g c =
    result_err c.args.bytes.now c.in-Ok.header c.in-Ok.size c.in-Ok.ensures c.split_at.result.1.now c.split_at.ensures.back c.judge_behind.result c.judge_behind.ensures.err
