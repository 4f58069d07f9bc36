use Rattle.std.proofs.Common.{◌≡◌, ◌+◌, ◌<◌, ◌++◌, [], ◌∷◌, ap, sym, ◌∙◌, arith, drop, length, List}
use Rattle.std.proofs.lemmas.List.{at_drop_more, get_or-map, length-map, map-append}
use Rattle.std.specs.Global.{Vec}
use Rattle.port_lines.specs.declared.lines.Operation.{Operation}
use Rattle.port_lines.specs.Texts.{lists_of, operation_count}
use Rattle.port_facts.specs.declared.Completion.{Completion}
use Rattle.port_calls.specs.PortCalls.{completions_from, completions_in, numbered, numbered_from}
use Rattle.port_calls.proofs.Making.{more}
use Rattle.port_calls.proofs.completions_of.Goals as goal

pub loop-operations-preserved : goal.loop-operations-preserved
loop-operations-preserved c =
    let all = lists_of c.args.devices.now in
    let l = c.loop-operations in
    let i = l.operations-index in
    let x = c.operations-item.result.items in
    let below : i < length all = omega (arith, c.loop-operations-test.true, length-map c.args.devices.now (λ (v : Vec Operation). v.items)) in
    let is = ap (λ (v : Vec Operation). v.items) c.operations-item.is ∙ sym (get_or-map (λ (v : Vec Operation). v.items) c.args.devices.now i c.operations-item.result [] c.loop-operations-test.true) in
    let count = at_drop_more (λ (ds : List (List Operation)). operation_count ds) all i [] below ∙ ap (λ ops. operation_count (ops ∷ drop (i + 1) all)) (sym is) in
    let list : c.in_ok-completions_from.field-0.items ≡ completions_from l.callback x = c.in_ok-completions_from.ensures ∙ ap (λ ops. completions_from l.callback ops) c.deref.ensures.value in
    let added : completions_in c.push.new.self.items ≡ completions_in l.lists.items ++ completions_from l.callback x ∷ [] =
    ap (λ vs. completions_in vs) c.in_ok-push.ensures.items
    ∙ (map-append (λ (v : Vec Completion). v.items) l.lists.items (c.in_ok-completions_from.field-0 ∷ []) ∙ ap (λ list. completions_in l.lists.items ++ list ∷ []) list) in
    let len : c.len.result ≡ length x = omega (arith, c.len.ensures) in (
      more (λ (ds : List (List Operation)). numbered_from l.callback ds) (λ (ds : List (List Operation)). numbered_from (l.callback + c.len.result) ds) all i [] x
          (completions_in l.lists.items) (completions_in c.push.new.self.items) (numbered all) (completions_from l.callback x ∷ []) below is
          (ap (λ n. completions_from l.callback x ∷ numbered_from (l.callback + n) (drop (i + 1) all)) (sym len)) added l.invariant.0,
      omega (arith, l.invariant.1, count, len),
    )
