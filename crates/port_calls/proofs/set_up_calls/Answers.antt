use Rattle.std.proofs.Common.{◌≡◌, ◌+◌, ◌<◌, ◌++◌, [], ap, sym, subst, ◌∙◌, arith, drop, length, map, List}
use Rattle.std.proofs.lemmas.List.{get_or-map, length-map}
use Rattle.std.specs.Global.{Vec}
use Rattle.std.specs.Prelude.{All}
use Rattle.port_lines.specs.declared.lines.Operation.{Operation}
use Rattle.port_lines.specs.Texts.{lists_of}
use Rattle.port_calls.specs.PortCalls.{objects_from, objects_of, IsInRange}
use Rattle.port_calls.proofs.Making.{device_first, more, object_calls, operation_calls, is_set_up, set_up_in_range}
use Rattle.std.specs.List.{AllByRecursion}
use Rattle.port_facts.specs.SetUp.{IsDevice}
use Rattle.port_calls.proofs.Turns.{is_port}
use Rattle.port_calls.proofs.set_up_calls.Goals as goal

pub loop-operations-preserved : goal.loop-operations-preserved
loop-operations-preserved c =
    let all = lists_of c.args.devices.now in
    let l = c.loop-operations in
    let i = l.operations-index in
    let x = c.deref.result.now in
    let below : i < length all = omega (arith, c.loop-operations-test.true, length-map c.args.devices.now (λ (v : Vec Operation). v.items)) in
    let own : List Operation → List (_) = λ (operations : List Operation). operation_calls (map (λ (operation : Operation). record { 0 = l.object }) operations) in (
      more (λ (ds : List (List Operation)). operation_calls (objects_from l.object ds)) (λ (ds : List (List Operation)). operation_calls (objects_from (l.object + 1) ds)) all i [] x
          l.calls.items c.add_operations.new.calls.items (object_calls (length c.args.devices.now) ++ operation_calls (objects_of all)) (own x) below
          (c.deref.ensures.value ∙ (ap (λ (v : Vec Operation). v.items) c.operations-item.is ∙ sym (get_or-map (λ (v : Vec Operation). v.items) c.args.devices.now i c.operations-item.result [] c.loop-operations-test.true)))
          (device_first l.object x (drop (i + 1) all)) c.in_ok-add_operations.ensures l.invariant.0,
      omega (arith, l.invariant.1),
    )

pub returns-clause-in_range : goal.returns-clause-in_range
returns-clause-in_range c =
    let l = c.loop-operations in
    let all = lists_of c.args.devices.now in
    let count = length c.args.devices.now in
    let size : length all ≡ count = length-map c.args.devices.now (λ (v : Vec Operation). v.items) in
    let port = is_port all c.requires in
    let each = subst (λ n. AllByRecursion (IsDevice n) (objects_of all)) size port.each in
    subst (λ calls. All IsInRange calls)
    (sym (is_set_up count l.operations-index l.object all l.calls.items c.push.new.self.items (omega (arith, c.loop-operations-test.false, size)) l.invariant.0 c.in_ok-push.ensures.items))
    (set_up_in_range count (objects_of all) (omega (arith, port.few, size)) each)
