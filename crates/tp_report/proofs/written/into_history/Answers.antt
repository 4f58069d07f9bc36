use Rattle.std.proofs.Common.{length, ap, ◌∙◌}
use Rattle.recorded.specs.Recordings.{Recording}
use Rattle.tp_report.proofs.Telling.{read_back, text_all}
use Rattle.tp_report.proofs.written.into_history.Goals as goal

pub returns-in_err-append_end-clause-read_back : goal.returns-in_err-append_end-clause-read_back
returns-in_err-append_end-clause-read_back g c = read_back c.args.written

pub returns-clause-text : goal.returns-clause-text
returns-clause-text g c =
    text_all c.args.written c.len.result c.into_text-text.result.items c.append_end.new.out.items (c.len.ensures.len ∙ ap (λ (r : Recording). length r.history) c.into_parts-book.ensures.machine)
    (c.into_text-text.ensures ∙ c.into_parts-book.ensures.noted.text) c.in_ok-append_end.ensures.ok

pub returns-clause-read_back : goal.returns-clause-read_back
returns-clause-read_back g c = read_back c.args.written
