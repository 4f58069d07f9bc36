use Rattle.std.proofs.Common.{[], ◌∷◌, ◌++◌, refl, sym, subst}
use Rattle.tp_report.specs.Judging.{IsJudgedTo}
use Rattle.tp_report.proofs.Alike.{false_true}
use Rattle.tp_report.proofs.Judging.{late, right, stays, wrong}
use Rattle.tp_report.proofs.verdict.judge.Goals as goal

pub returns-in_default-clause-judged : goal.returns-in_default-clause-judged
returns-in_default-clause-judged g c = λ lines j. stays (g.B.Recorded.recording c.args.book.now) lines c.args.line.now c.args.now.now c.args.verdict.now c.in_default.not-Legal j

pub returns-then-not-is_answer-clause-judged : goal.returns-then-not-is_answer-clause-judged
returns-then-not-is_answer-clause-judged g c = λ lines j.
    let old = g.B.Recorded.recording c.args.book.now in
    let new = g.B.Recorded.recording c.step_into.new.self in
    subst (λ v. IsJudgedTo new (lines ++ c.args.line.now ∷ []) c.args.now.now v) (sym c.put_not_legal.ensures)
    (wrong old lines c.args.line.now c.args.now.now new c.in-Legal.len c.step_into.new.outcome (subst (λ v. IsJudgedTo old lines c.args.now.now v) c.in-Legal.is j)
    c.step_into.ensures.history c.args.now.now c.step_into.ensures.outcome c.step_into.ensures.in_range (λ e. false_true (c.if-not-is_answer.ensures.1 e)))

pub returns-then-not-is_moment-clause-judged : goal.returns-then-not-is_moment-clause-judged
returns-then-not-is_moment-clause-judged g c = λ lines j.
    let old = g.B.Recorded.recording c.args.book.now in
    let new = g.B.Recorded.recording c.step_into.new.self in
    subst (λ v. IsJudgedTo new (lines ++ c.args.line.now ∷ []) c.clock_after.result v) (sym c.put_wrong_moment.ensures)
    (late old lines c.args.line.now c.args.now.now new c.in-Legal.len c.step_into.new.outcome (subst (λ v. IsJudgedTo old lines c.args.now.now v) c.in-Legal.is j)
    c.step_into.ensures.history (c.if-not-is_answer.ensures.0 refl) c.step_into.ensures.legal c.clock_after.result (c.clock_after.ensures c.args.line.now.entry.who) (λ e. false_true (c.if-not-is_moment.ensures.1 e)))

pub returns-clause-judged : goal.returns-clause-judged
returns-clause-judged g c = λ lines j.
    let old = g.B.Recorded.recording c.args.book.now in
    let new = g.B.Recorded.recording c.step_into.new.self in
    right old lines c.args.line.now c.args.now.now new c.in-Legal.len c.step_into.new.outcome (subst (λ v. IsJudgedTo old lines c.args.now.now v) c.in-Legal.is j)
    c.step_into.ensures.history (c.if-not-is_answer.ensures.0 refl) c.step_into.ensures.legal c.clock_after.result (c.clock_after.ensures c.args.line.now.entry.who) (c.if-not-is_moment.ensures.0 refl)
