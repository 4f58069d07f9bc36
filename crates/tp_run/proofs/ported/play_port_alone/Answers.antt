use Rattle.std.proofs.Common.{◌≡◌, List, length, map, ap, ◌∙◌, arith}
use Rattle.std.proofs.lemmas.List.{length-map}
use Rattle.std.specs.Global.{Vec}
use Rattle.port_calls.specs.PortCalls.{completions_in, in_turn, numbered, objects_of}
use Rattle.port_facts.specs.Accepted.{call_of}
use Rattle.port_facts.specs.Completions.{completions}
use Rattle.port_facts.specs.declared.Completion.{Completion}
use Rattle.port_facts.specs.declared.Posted.{Posted}
use Rattle.port_lines.specs.Texts.{lists_of}
use Rattle.tp_run.proofs.Devices.{completed, listed_there, room_there}
use Rattle.tp_run.proofs.ported.play_port_alone.Goals as goal

pub completion_calls-requires : goal.completion_calls-requires
completion_calls-requires g c =
    let devices = lists_of c.args.devices.now in
    omega (arith, ap length c.in_ok-lists.ensures, length-map c.in_ok-lists.lists.items (λ (v : Vec Completion). v.items), c.port_text_fits.ensures.lists devices, c.requires.devices_most, ap (λ (l : List (Vec Completion)). length l) c.deref.ensures.value)

pub returns : goal.returns
returns g c =
    let devices = lists_of c.args.devices.now in
    let lists : List (List Completion) = numbered devices in
    let posted : List Posted = in_turn lists in
    let fits = c.port_text_fits.ensures in
    let port = fits.port devices c.requires in
    let book = c.in_ok-book.book in
    let each = fits.in_turn lists in
    let told : completions_in c.deref.result.now ≡ lists = ap completions_in c.deref.ensures.value ∙ c.in_ok-lists.ensures in
    let calls = c.deref-2.ensures.value ∙ c.in_ok-calls.ensures.calls ∙ ap (λ ls. map call_of (completions (in_turn ls))) told in
    let may = listed_there devices lists book (λ i. lists) (fits.lists devices) c.in_ok-book.ensures port (fits.in_order devices) c.set_up_is_accepted.ensures.listed in
    let room = room_there devices (c.set_up_is_accepted.ensures.accepted (length devices) (objects_of devices) port) lists book c.in_ok-book.ensures port (fits.count devices) in
    let have = c.completions_are_accepted.ensures.interleaved book lists posted c.len-len.ensures.legal may room each in
    c.finish.ensures posted each (completed devices posted book c.make_all.new.book c.deref-2.result.now c.in_ok-book.ensures calls c.make_all.ensures have)
