use Rattle.std.proofs.Common.{◌∙◌, ◌+◌, ◌*◌, ◌==◌, arith, sym}
use Rattle.tp_base.specs.declared.rows.CallbackRow.{CallbackRow}
use Rattle.tp_model.specs.Calls.Io.{is_issued_of}
use Rattle.tp_model.specs.Counts.{is_issued}
use Rattle.live_callbacks.specs.Held.{rows_of}
use Rattle.live_callbacks.specs.Lists.{line_of}
use Rattle.live_callbacks.proofs.Found.{find_none, find_same, first_is, found_held, found_row}
use Rattle.live_callbacks.proofs.Lines.{issued_agree, no_object}
use Rattle.live_callbacks.proofs.LiveCallbacks.first_issued.Goals as goal

pub returns-then-object-self : goal.returns-then-object-self
returns-then-object-self c =
    let i = c.self.inside in
    let cs = rows_of i.rows.held in
    rw (← c.self.view_is)
    (sym (find_none (is_issued_of c.args.object.0) cs (no_object i.lists.pools i.lists.objects c.args.object.0 c.if-object-self.true (λ (x : CallbackRow). is_issued x.status) cs c.self.invariant.homes)))

pub lent_under-requires : goal.lent_under-requires
lent_under-requires c =
    let i = c.self.inside in
    let line = line_of i.lists.pools i.lists.objects in
    let list = 6 * i.lists.pools + 2 * c.args.object.0 + 1 in
    let first = c.first_in.ensures ∙ first_is line list i.rows.held c.self.invariant.standing.by_line (omega (arith, c.if-object-self.false)) in
    found_held i.rows.held c.len-known.ensures.apart (λ x. line x == list) c.first_in.result first

pub returns : goal.returns
returns c =
    let i = c.self.inside in
    let line = line_of i.lists.pools i.lists.objects in
    let list = 6 * i.lists.pools + 2 * c.args.object.0 + 1 in
    let first = c.first_in.ensures ∙ first_is line list i.rows.held c.self.invariant.standing.by_line (omega (arith, c.if-object-self.false)) in
    rw (← c.self.view_is)
    (c.copied.ensures ∙ c.lent_under.ensures
    ∙ found_row i.rows.held c.len-known.ensures.apart (λ x. line x == list) c.first_in.result first
    ∙ find_same (λ x. line x == list) (is_issued_of c.args.object.0) (rows_of i.rows.held) (issued_agree i.lists.pools i.lists.objects c.args.object.0 c.if-object-self.false (rows_of i.rows.held) c.self.invariant.homes))
