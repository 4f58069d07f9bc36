use Rattle.std.proofs.Common.{sym, subst}
use Rattle.tp_run.specs.Ends.{IsOutput, IsReply}
use Rattle.tp_run.proofs.Checked.{check_of_fault, output_of_verdict}
use Rattle.tp_run.proofs.Scripted.{big_output, one_of, run_reply}
use Rattle.tp_run.proofs.replies.reply.Goals as goal

pub returns-in_err-verdict-in-Check : goal.returns-in_err-verdict-in-Check
returns-in_err-verdict-in-Check g c =
    subst (λ k. IsReply k c.args.bytes.now c.from_residual-in_err-verdict-in-Check.result) (sym c.in-Check.is)
    (check_of_fault c.args.bytes.now c.in_err-verdict-in-Check.field-0.0 c.from_residual-in_err-verdict-in-Check.result c.from_residual-in_err-verdict-in-Check.ensures.1
    c.in_err-verdict-in-Check.ensures.err c.in_err-verdict-in-Check.ensures.only)

pub returns-in_ok-output_of-in-Check : goal.returns-in_ok-output_of-in-Check
returns-in_ok-output_of-in-Check g c =
    let output = c.in_ok-output_of-in-Check in
    subst (λ k. IsOutput k c.args.bytes.now output.field-0.text.items output.field-0.ending) (sym c.in-Check.is)
    (output_of_verdict c.args.bytes.now output.field-0.text.items c.in_ok-verdict-in-Check.verdict output.field-0.ending
    c.in_ok-verdict-in-Check.ensures.ok c.in_ok-verdict-in-Check.ensures.only output.ensures.text output.ensures.ending)

pub returns-in-Run : goal.returns-in-Run
returns-in-Run g c =
    let made = c.in-Run in
    let told = c.play_turns.ensures in
    subst (λ k. IsReply k c.args.bytes.now c.play_turns.result) (sym made.is)
    (run_reply c.args.bytes.now made.threads made.seed made.machine made.json c.play_turns.result (one_of c.one_history_alone.ensures c.one_history_drawn.ensures made.seed) c.one_reading_a_text.ensures told.ok told.err)

pub returns-in_ok-output-in-Big : goal.returns-in_ok-output-in-Big
returns-in_ok-output-in-Big g c =
    let made = c.in-Big in
    let output = c.in_ok-output-in-Big in
    subst (λ k. IsOutput k c.args.bytes.now output.output.text.items output.output.ending) (sym made.is)
    (big_output c.args.bytes.now made.number made.machine made.json output.output c.one_history_alone-in-Big.ensures c.one_reading_a_text-in-Big.ensures output.ensures)
