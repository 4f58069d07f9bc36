use Rattle.std.proofs.Common.{◌≡◌, ◌+◌, ◌<◌, length, arith, refl, subst, sym, ◌∙◌}
use Rattle.std.proofs.lemmas.Bool.{eqb-false, eqb-true}
use Rattle.line_grammar.specs.Traces.{IsTraceFault}
use Rattle.tp_lines.specs.Calls.{IsLine}
use Rattle.line_grammar.specs.Faults.{IsPlace}
use Rattle.tp_report.specs.Playing.{IsPlayedOf, IsPlayedTo, size_of}
use Rattle.tp_report.proofs.Traced.{played_none, played_few, played_next, played_fault, played_no, played_all, played_only}
use Rattle.recorded.specs.Recordings.{outcome_behind}
use Rattle.line_grammar.proofs.Unanswered.{or_no_memory, no_place}
use Rattle.tp_report.proofs.playing.play_calls.Given.{Over}
use Rattle.tp_report.proofs.playing.play_calls.Goals as goal
use Rattle.tp_report.proofs.playing.play_calls.Goals.{After-split_at}

pub loop-rest-init : goal.loop-rest-init
loop-rest-init g c =
    played_none (size_of (g.B.Recorded.recording c.args.book.now)) (g.B.Recorded.recording c.args.book.now).limits.clients c.args.bytes.now (g.B.Recorded.recording c.args.book.now) c.new-text.result c.requires.limits refl c.requires.empty
    c.new-text.ensures

pub fault_behind-requires-clause-lines : goal.fault_behind-requires-clause-lines
fault_behind-requires-clause-lines g c =
    let l = c.loop-rest in omega (arith, c.requires.few, played_few (size_of (g.B.Recorded.recording c.args.book.now)) (g.B.Recorded.recording c.args.book.now).limits.clients c.args.bytes.now (g.B.Recorded.recording l.book) l.text l.greatest l.lines l.rest.now l.invariant)

pub overflow_add-lines : goal.overflow_add-lines
overflow_add-lines g c = let l = c.loop-rest in omega (arith, c.requires.few, played_few (size_of (g.B.Recorded.recording c.args.book.now)) (g.B.Recorded.recording c.args.book.now).limits.clients c.args.bytes.now (g.B.Recorded.recording l.book) l.text l.greatest l.lines l.rest.now l.invariant)

pub returns-in-Err-clause-only : goal.returns-in-Err-clause-only
returns-in-Err-clause-only g c = λ all trace.
    let l = c.loop-rest in
    let some : 0 < length l.rest.now = omega (arith, eqb-false (length l.rest.now) 0 (sym c.is_empty.ensures ∙ c.loop-rest-test.true)) in
    absurd (played_no (size_of (g.B.Recorded.recording c.args.book.now)) (g.B.Recorded.recording c.args.book.now).limits.clients c.args.bytes.now (g.B.Recorded.recording l.book) l.text l.greatest l.lines l.rest.now l.invariant c.in-Err.place some c.in-Err.ensures all trace)

pub returns-in-Err-clause-err : goal.returns-in-Err-clause-err
returns-in-Err-clause-err g c =
    let l = c.loop-rest in
    let some : 0 < length l.rest.now = omega (arith, eqb-false (length l.rest.now) 0 (sym c.is_empty.ensures ∙ c.loop-rest-test.true)) in
    subst (λ f. IsPlace (IsTraceFault IsLine c.args.bytes.now) f) (sym c.fault_behind.ensures)
    (played_fault (size_of (g.B.Recorded.recording c.args.book.now)) (g.B.Recorded.recording c.args.book.now).limits.clients c.args.bytes.now (g.B.Recorded.recording l.book) l.text l.greatest l.lines l.rest.now l.invariant c.in-Err.place some c.in-Err.ensures)

-- the call that was read is played
next : (g : Over) (c : After-split_at g) → IsPlayedTo (size_of (g.B.Recorded.recording c.args.book.now)) (g.B.Recorded.recording c.args.book.now).limits.clients c.args.bytes.now
    (g.B.Recorded.recording c.play_call.new.book) c.play_call.new.lines c.greater_client-greatest.result (c.loop-rest.lines + 1) c.split_at.result.1.now
next g c =
    let l = c.loop-rest in
    rw c.split_at.ensures.back
    (played_next (size_of (g.B.Recorded.recording c.args.book.now)) (g.B.Recorded.recording c.args.book.now).limits.clients c.args.bytes.now (g.B.Recorded.recording l.book) l.text l.greatest l.lines l.rest.now l.invariant
    (g.B.Recorded.recording c.play_call.new.book) c.read_call.new.made c.in-Ok.size c.greater_client-greatest.result (outcome_behind (g.B.Recorded.recording l.book) c.read_call.new.made.0 c.read_call.new.made.1)
    c.play_call.new.lines c.in-Ok.ensures c.play_call.ensures.recorded c.play_call.ensures.first c.in_ok-play_call-in-Ok.ensures.printed c.greater_client-greatest.ensures)

pub play_again-requires-clause-few : goal.play_again-requires-clause-few
play_again-requires-clause-few g c =
    omega (
      arith,
      c.requires.few,
      played_few (size_of (g.B.Recorded.recording c.args.book.now)) (g.B.Recorded.recording c.args.book.now).limits.clients c.args.bytes.now
          (g.B.Recorded.recording c.play_call.new.book) c.play_call.new.lines c.greater_client-greatest.result (c.loop-rest.lines + 1) c.split_at.result.1.now (next g (goal.at.play_again-requires-clause-few g c).After-split_at),
    )

pub loop-rest-preserved-then-not-may_follow : goal.loop-rest-preserved-then-not-may_follow
loop-rest-preserved-then-not-may_follow g c = next g (goal.at.loop-rest-preserved-then-not-may_follow g c).After-split_at

pub loop-rest-preserved : goal.loop-rest-preserved
loop-rest-preserved g c =
    c.in_ok-rest-in-Ok.ensures.plays (size_of (g.B.Recorded.recording c.args.book.now)) (g.B.Recorded.recording c.args.book.now).limits.clients c.args.bytes.now c.greater_client-greatest.result
    (omega (arith, c.greater_client-greatest.ensures)) (next g (goal.at.loop-rest-preserved g c).After-split_at)

pub returns-clause-ok : goal.returns-clause-ok
returns-clause-ok g c =
    let l = c.loop-rest in
    let none : length l.rest.now ≡ 0 = eqb-true (length l.rest.now) 0 (sym c.is_empty.ensures ∙ c.loop-rest-test.false) in
    played_all (size_of (g.B.Recorded.recording c.args.book.now)) (g.B.Recorded.recording c.args.book.now).limits.clients c.args.bytes.now (g.B.Recorded.recording l.book) l.text l.greatest l.lines l.rest.now l.invariant
    (record { text = c.into_text.result; clients = l.greatest }) c.into_text.ensures refl none

pub returns-clause-only : goal.returns-clause-only
returns-clause-only g c =
    let l = c.loop-rest in
    let none : length l.rest.now ≡ 0 = eqb-true (length l.rest.now) 0 (sym c.is_empty.ensures ∙ c.loop-rest-test.false) in
    played_only (size_of (g.B.Recorded.recording c.args.book.now)) (g.B.Recorded.recording c.args.book.now).limits.clients c.args.bytes.now (g.B.Recorded.recording l.book) l.text l.greatest l.lines l.rest.now l.invariant
    (record { text = c.into_text.result; clients = l.greatest }) c.into_text.ensures refl none

pub returns-in_err-play_call-in-Ok-clause-only : goal.returns-in_err-play_call-in-Ok-clause-only
returns-in_err-play_call-in-Ok-clause-only g c = λ all trace.
    let told = c.from_residual in or_no_memory (IsPlayedOf (size_of (g.B.Recorded.recording c.args.book.now)) (g.B.Recorded.recording c.args.book.now).limits.clients all (g.B.Recorded.recording c.play_call.new.book)) told.result told.ensures.1

pub returns-in_err-play_call-in-Ok-clause-err : goal.returns-in_err-play_call-in-Ok-clause-err
returns-in_err-play_call-in-Ok-clause-err g c = let told = c.from_residual in no_place (IsTraceFault IsLine c.args.bytes.now) told.result told.ensures.1
