use Rattle.std.proofs.Common.{◌≡◌, ◌+◌, ◌*◌, false, true, ◌||◌, ◌==◌, not, List, length, sym, ap, ◌∙◌, arith}
use Rattle.std.specs.List.{list_any}
use Rattle.std.proofs.lemmas.Bool.{ne_eqb}
use Rattle.tp_base.specs.declared.rows.CallbackRow.{CallbackRow}
use Rattle.tp_model.specs.Conditions.{is_operation_of}
use Rattle.tp_model.specs.Counts.{is_operating}
use Rattle.live_callbacks.specs.Held.{rows_of}
use Rattle.live_callbacks.specs.Lists.{line_of}
use Rattle.live_callbacks.proofs.Found.{any_line, any_some, filter_none}
use Rattle.live_callbacks.proofs.Lines.{any_operation, no_object}
use Rattle.live_callbacks.proofs.LiveCallbacks.is_operating.Goals as goal

pub returns-then-object-self : goal.returns-then-object-self
returns-then-object-self c =
    let i = c.self.inside in
    let p = is_operation_of c.args.object.0 in
    let cs = rows_of i.rows.held in
    let none = filter_none p cs (no_object i.lists.pools i.lists.objects c.args.object.0 c.if-object-self.true (λ (x : CallbackRow). is_operating x.status) cs c.self.invariant.homes) in
    rw (← c.self.view_is) (sym (ap (λ (ds : List CallbackRow). not (length ds == 0)) none) ∙ any_some p cs)

pub returns-then-len-ne0 : goal.returns-then-len-ne0
returns-then-len-ne0 c =
    let i = c.self.inside in
    let cs = rows_of i.rows.held in
    let line = line_of i.lists.pools i.lists.objects in
    let expected = 6 * i.lists.pools + 2 * c.args.object.0 in
    let issued = 6 * i.lists.pools + 2 * c.args.object.0 + 1 in
    let any = any_line line expected i.rows.held c.self.invariant.standing.by_line (omega (arith, c.if-object-self.false)) in
    let some : not (c.len.result == 0) ≡ true = ap not (ne_eqb c.len.result 0 c.if-len-ne0.true) in
    let known : list_any (λ x. line x == expected) cs ≡ true = sym any ∙ ap (λ n. not (n == 0)) (sym c.len.ensures) ∙ some in
    rw (← c.self.view_is)
    (some ∙ sym (any_operation i.lists.pools i.lists.objects c.args.object.0 c.if-object-self.false cs c.self.invariant.homes ∙ ap (λ b. b || list_any (λ x. line x == issued) cs) known))

pub returns-else-len-ne0 : goal.returns-else-len-ne0
returns-else-len-ne0 c =
    let i = c.self.inside in
    let cs = rows_of i.rows.held in
    let line = line_of i.lists.pools i.lists.objects in
    let expected = 6 * i.lists.pools + 2 * c.args.object.0 in
    let issued = 6 * i.lists.pools + 2 * c.args.object.0 + 1 in
    let none = any_line line expected i.rows.held c.self.invariant.standing.by_line (omega (arith, c.if-object-self.false)) in
    let any = any_line line issued i.rows.held c.self.invariant.standing.by_line (omega (arith, c.if-object-self.false)) in
    let known : list_any (λ x. line x == expected) cs ≡ false = sym none ∙ ap (λ n. not (n == 0)) (sym c.len.ensures ∙ c.if-len-ne0.false) in
    rw (← c.self.view_is)
    (ap (λ n. not (n == 0)) c.len-else-len-ne0.ensures
    ∙ any
    ∙ sym (any_operation i.lists.pools i.lists.objects c.args.object.0 c.if-object-self.false cs c.self.invariant.homes ∙ ap (λ b. b || list_any (λ x. line x == issued) cs) known))
