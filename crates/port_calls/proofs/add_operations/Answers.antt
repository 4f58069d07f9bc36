use Rattle.std.proofs.Common.{[], ◌∷◌, ◌++◌, map, drop, get_or, refl, ◌+◌}
use Rattle.tp_base.specs.declared.calls.Call.TheVariants.{IssueIo, StartIo}
use Rattle.tp_base.specs.declared.ids.Who.TheVariants.{Client}
use Rattle.port_lines.specs.declared.lines.Operation.{Operation}
use Rattle.port_calls.proofs.Making.{more, operation_calls, operation_first, two_more}
use Rattle.port_calls.proofs.add_operations.Goals as goal

pub loop-preserved : goal.loop-preserved
loop-preserved c =
    let all = c.args.operations.now in
    let i = c.loop.index in
    let object = c.args.object in
    let none : Operation = record { error = 0; bytes = 0 } in
    more (λ l. operation_calls (map (λ (operation : Operation). object) l)) (λ l. operation_calls (map (λ (operation : Operation). object) l)) all i none (get_or all i none)
    c.loop.calls.items c.push-in-loop.new.self.items (c.args.calls.now.items ++ operation_calls (map (λ (operation : Operation). object) all)) ((Client 1, StartIo object) ∷ (Client 1, IssueIo object) ∷ []) c.loop-test.true refl
    (operation_first object (map (λ (operation : Operation). object) (drop (i + 1) all)))
    (two_more c.loop.calls.items c.push.new.self.items c.push-in-loop.new.self.items (Client 1, StartIo object) (Client 1, IssueIo object) c.in_ok-push.ensures.items c.in_ok-push-2.ensures.items)
    c.loop.invariant
