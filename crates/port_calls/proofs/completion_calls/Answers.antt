use Rattle.std.proofs.Common.{◌+◌, ◌<◌, [], ap, sym, ◌∙◌, arith, drop, length, map, List}
use Rattle.std.proofs.lemmas.List.{get_or-map, length-map}
use Rattle.std.specs.Global.{Vec}
use Rattle.port_facts.specs.declared.Completion.{Completion}
use Rattle.port_facts.specs.Accepted.{call_of}
use Rattle.port_facts.specs.Completions.{completions}
use Rattle.port_calls.specs.PortCalls.{completions_in, in_turn, posted_by, posted_from}
use Rattle.port_calls.proofs.Making.{list_first, more}
use Rattle.port_calls.proofs.completion_calls.Goals as goal

pub loop-list-preserved : goal.loop-list-preserved
loop-list-preserved c =
    let all = completions_in c.args.lists.now in
    let l = c.loop-list in
    let i = l.list-index in
    let x = c.deref.result.now in
    let below : i < length all = omega (arith, c.loop-list-test.true, length-map c.args.lists.now (λ (v : Vec Completion). v.items)) in (
      more (λ (ls : List (List Completion)). map call_of (completions (posted_from l.device ls))) (λ (ls : List (List Completion)). map call_of (completions (posted_from (l.device + 1) ls))) all i [] x
          l.calls.items c.add_completions.new.calls.items (map call_of (completions (in_turn all))) (map call_of (completions (posted_by l.device x))) below
          (c.deref.ensures.value ∙ (ap (λ (v : Vec Completion). v.items) c.list-item.is ∙ sym (get_or-map (λ (v : Vec Completion). v.items) c.args.lists.now i c.list-item.result [] c.loop-list-test.true)))
          (list_first l.device x (drop (i + 1) all)) c.in_ok-add_completions.ensures.calls l.invariant.0,
      omega (arith, l.invariant.1),
      c.in_ok-add_completions.ensures.in_range,
    )
