use Rattle.std.proofs.Common.{◌≡◌, List, length, ap, ◌∙◌, arith}
use Rattle.std.proofs.lemmas.List.{length-map}
use Rattle.std.specs.Global.{Vec}
use Rattle.port_calls.specs.PortCalls.{numbered, objects_of}
use Rattle.port_facts.specs.Interleaved.{listed}
use Rattle.port_facts.specs.declared.Completion.{Completion}
use Rattle.port_lines.specs.Texts.{lists_of}
use Rattle.tp_port.specs.Pumps.{lists_of as completion_lists}
use Rattle.tp_run.proofs.Devices.{listed_there, room_there}
use Rattle.tp_run.proofs.ported.play_port.Goals as goal

pub pump-book-requires-clause-few : goal.pump-book-requires-clause-few
pump-book-requires-clause-few g c = λ κs within.
    let devices = lists_of c.args.devices.now in
    omega (arith, ap length c.in_ok-lists.ensures, length-map c.in_ok-lists.lists.items (λ (v : Vec Completion). v.items), c.port_text_fits.ensures.lists devices, c.requires.devices_most)

pub pump-book-requires-clause-may : goal.pump-book-requires-clause-may
pump-book-requires-clause-may g c = λ κs within.
    let devices = lists_of c.args.devices.now in
    let lists : List (List Completion) = completion_lists c.in_ok-lists.lists.items in
    let are : lists ≡ numbered devices = c.in_ok-lists.ensures in
    let fits = c.port_text_fits.ensures in
    listed_there devices lists c.in_ok-book.book are (fits.lists devices) c.in_ok-book.ensures (fits.port devices c.requires) (fits.in_order devices) c.set_up_is_accepted.ensures.listed

pub pump-book-requires-clause-room : goal.pump-book-requires-clause-room
pump-book-requires-clause-room g c = λ κs within.
    let devices = lists_of c.args.devices.now in
    let lists : List (List Completion) = completion_lists c.in_ok-lists.lists.items in
    let are : lists ≡ numbered devices = c.in_ok-lists.ensures in
    let fits = c.port_text_fits.ensures in
    let port = fits.port devices c.requires in
    room_there devices (c.set_up_is_accepted.ensures.accepted (length devices) (objects_of devices) port) lists c.in_ok-book.book c.in_ok-book.ensures port (ap (λ ls. length (listed ls)) are ∙ fits.count devices)
