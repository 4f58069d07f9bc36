use Rattle.std.proofs.Common.{◌++◌, ap, sym, ◌∙◌}
use Rattle.line_grammar.specs.Language.{IsStuck}
use Rattle.tp_report.specs.Readings.{MomentLines}
use Rattle.tp_report.proofs.LineFacts.{moment_stuck, place_told, space_missing, stamp_there}
use Rattle.tp_report.proofs.moments.read_other_moment.Goals as goal

pub returns-in_err-moment-clause-err : goal.returns-in_err-moment-clause-err
returns-in_err-moment-clause-err c =
    let place = c.in_err-moment.field-0.0 in
    place_told (λ k. IsStuck MomentLines c.args.text.now k) place c.from_residual.result c.from_residual.ensures.1 (moment_stuck c.args.text.now place c.in_err-moment.ensures)

pub returns-in_default-clause-err : goal.returns-in_default-clause-err
returns-in_default-clause-err c =
    space_missing c.args.text.now c.in_ok-moment.moment c.in_ok-moment.size c.in_ok-moment.ensures c.split_at.result.1.now c.split_at.ensures.back c.in_default.ensures

pub returns-clause-stamp : goal.returns-clause-stamp
returns-clause-stamp c =
    let read = c.in_ok-moment.ensures in
    let there = stamp_there c.args.text.now c.in_ok-moment.moment c.in_ok-moment.size read c.split_at.result.1.now c.in-Some.rest.now c.split_at.ensures.back c.in-Some.ensures in
    record { in_range = read.text_of.at_most; text_is = c.split_at-2.ensures.front ∙ there.0 }

pub returns-clause-split : goal.returns-clause-split
returns-clause-split c =
    let there = stamp_there c.args.text.now c.in_ok-moment.moment c.in_ok-moment.size c.in_ok-moment.ensures c.split_at.result.1.now c.in-Some.rest.now c.split_at.ensures.back c.in-Some.ensures in
    there.1 ∙ ap (λ l. l ++ c.in-Some.rest.now) (sym (c.split_at-2.ensures.front ∙ there.0))
