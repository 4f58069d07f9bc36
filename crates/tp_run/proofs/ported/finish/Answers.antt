use Rattle.std.proofs.Common.{ap, ◌∙◌, sym, map}
use Rattle.std.proofs.lemmas.List.{length-map}
use Rattle.std.specs.Global.{Vec}
use Rattle.port_facts.specs.Accepted.{call_of}
use Rattle.port_facts.specs.SetUp.{finishes}
use Rattle.port_lines.specs.Texts.{lists_of}
use Rattle.port_lines.specs.declared.lines.Operation.{Operation}
use Rattle.tp_run.specs.Ported.{history_of, limits_of}
use Rattle.tp_run.proofs.Devices.{finish_made, legal_there, ported}
use Rattle.tp_run.proofs.ported.finish.Goals as goal

pub returns : goal.returns
returns g c = λ posted each is.
    let devices = lists_of c.args.devices.now in
    let fits = c.port_text_fits.ensures in
    let legal = legal_there devices posted (fits.lists devices) (fits.port devices c.requires) (fits.in_order devices) each c.port_history_is_legal.ensures.legal in
    let count = length-map c.args.devices.now (λ (v : Vec Operation). v.items) in
    let calls = c.deref.ensures.value ∙ c.in_ok-calls.ensures.calls ∙ ap (λ n. map call_of (finishes 2 n)) (sym count) in
    let new = finish_made devices posted each legal c.args.book c.make_all.new.book c.deref.result.now is calls c.make_all.ensures c.legal_is_answered.ensures.all in
    ported devices posted each legal c.make_all.new.book c.in_ok-counted.counted c.in_ok-counted.history.items c.append_totals.new.text.items new c.in_ok-counted.ensures.machine c.in_ok-counted.ensures.text
    c.in_ok-append_totals.ensures.text (c.legal_keeps_laws.ensures.laws (limits_of devices) 65536 (history_of devices posted) legal)
