use Rattle.std.proofs.Common.{arith, subst, sym, ◌∙◌}
use Rattle.line_grammar.specs.Faults.{IsPlace}
use Rattle.tp_report.specs.Judging.{IsJudgedOn, IsLinesFault}
use Rattle.tp_report.specs.Readings.{IsNext}
use Rattle.tp_report.proofs.Places.{next_place}
use Rattle.tp_report.proofs.SoFar.{checked_first, checked_next, checked_all, checked_only, checked_no, checked_fault, checked_few}
use Rattle.line_grammar.proofs.Unanswered.{or_no_memory}
use Rattle.tp_report.proofs.checking.judge_behind.Goals as goal

pub loop-book-init : goal.loop-book-init
loop-book-init g c = (
  checked_first c.args.header c.args.text.now (g.B.Recorded.recording c.in_ok-book.book) (c.in_ok-book.ensures.limits ∙ c.limits.ensures.value) c.in_ok-book.ensures.capacity c.in_ok-book.ensures.empty,
  c.first-stamp.ensures,
)

pub loop-book-preserved : goal.loop-book-preserved
loop-book-preserved g c =
    let l = c.loop-book in (
      rw c.split_at.ensures.back
          (checked_next c.args.header c.args.text.now (g.B.Recorded.recording l.book) l.now l.verdict l.len l.rest.now l.invariant.0 c.requires.events_most (g.B.Recorded.recording c.judge.new.book) c.judge.new.now c.judge.new.verdict
          c.read_next_line.new.line c.in-Another.size
          (subst (λ n. IsNext c.args.header l.len l.rest.now c.read_next_line.new.line n) c.in-Another.is c.in_ok-size.ensures.next) c.judge.ensures.same c.judge.ensures.judged),
      c.in_ok-size.ensures.stamp,
    )

pub returns-in-End-clause-ok : goal.returns-in-End-clause-ok
returns-in-End-clause-ok g c =
    let l = c.loop-book in
    checked_all c.args.header c.args.text.now (g.B.Recorded.recording l.book) l.now l.verdict l.len l.rest.now l.invariant.0 c.requires.events_most c.read_next_line.new.line
    (subst (λ n. IsNext c.args.header l.len l.rest.now c.read_next_line.new.line n) c.in-End.is c.in_ok-size.ensures.next)

pub returns-in-End-clause-only : goal.returns-in-End-clause-only
returns-in-End-clause-only g c =
    let l = c.loop-book in
    checked_only c.args.header c.args.text.now (g.B.Recorded.recording l.book) l.now l.verdict l.len l.rest.now l.invariant.0 c.requires.events_most c.read_next_line.new.line
    (subst (λ n. IsNext c.args.header l.len l.rest.now c.read_next_line.new.line n) c.in-End.is c.in_ok-size.ensures.next)

pub fault_behind-requires-clause-place : goal.fault_behind-requires-clause-place
fault_behind-requires-clause-place g c =
    let l = c.loop-book in
    let few = checked_few c.args.header c.args.text.now (g.B.Recorded.recording l.book) l.now l.verdict l.len l.rest.now l.invariant.0 c.requires.events_most in
    omega (
      arith,
      next_place c.args.header l.len (omega (arith, few.0)) l.rest.now c.in-Fault.place
          (subst (λ n. IsNext c.args.header l.len l.rest.now c.read_next_line.new.line n) c.in-Fault.is c.in_ok-size.ensures.next),
    )

pub returns-in-Fault-clause-only : goal.returns-in-Fault-clause-only
returns-in-Fault-clause-only g c = λ all a.
    let l = c.loop-book in
    absurd
    (checked_no c.args.header c.args.text.now (g.B.Recorded.recording l.book) l.now l.verdict l.len l.rest.now l.invariant.0 c.requires.events_most c.read_next_line.new.line c.in-Fault.place
    (subst (λ n. IsNext c.args.header l.len l.rest.now c.read_next_line.new.line n) c.in-Fault.is c.in_ok-size.ensures.next) all a)

pub returns-in-Fault-clause-err : goal.returns-in-Fault-clause-err
returns-in-Fault-clause-err g c =
    let l = c.loop-book in
    subst (λ f. IsPlace (IsLinesFault c.args.header c.args.text.now) f) (sym c.fault_behind.ensures)
    (checked_fault c.args.header c.args.text.now (g.B.Recorded.recording l.book) l.now l.verdict l.len l.rest.now l.invariant.0 c.requires.events_most c.read_next_line.new.line c.in-Fault.place
    (subst (λ n. IsNext c.args.header l.len l.rest.now c.read_next_line.new.line n) c.in-Fault.is c.in_ok-size.ensures.next))

pub returns-in_err-size-clause-only : goal.returns-in_err-size-clause-only
returns-in_err-size-clause-only g c = λ all a.
    let told = c.from_residual-in_err-size in
    or_no_memory (λ judged. IsJudgedOn c.args.header all (g.B.Recorded.recording judged.0) judged.1) told.result told.ensures.1
