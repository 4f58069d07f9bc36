use Rattle.std.proofs.Common.{◌∙◌, ◌==◌, arith, sym}
use Rattle.tp_base.specs.declared.rows.WaitTarget.TheVariants.{Object}
use Rattle.tp_model.specs.Waits.{is_outstanding_for}
use Rattle.live_callbacks.specs.Held.{rows_of}
use Rattle.live_callbacks.specs.Lists.{object_of}
use Rattle.live_callbacks.proofs.Found.{find_none, find_same, first_filtered, first_is, found_held, found_row}
use Rattle.live_callbacks.proofs.Lines.{outstanding_agree, outstanding_past}
use Rattle.live_callbacks.proofs.LiveCallbacks.first_outstanding.Goals as goal

pub returns-then-object-self : goal.returns-then-object-self
returns-then-object-self c =
    let i = c.self.inside in
    let cs = rows_of i.rows.held in
    let p = is_outstanding_for (Object c.args.object) in
    rw (← c.self.view_is)
    (sym (first_filtered p cs ∙ find_none p cs (outstanding_past i.lists.pools i.lists.objects c.args.object c.if-object-self.true cs c.self.invariant.homes)))

pub lent_under-requires : goal.lent_under-requires
lent_under-requires c =
    let i = c.self.inside in
    let first = c.first_in.ensures ∙ first_is (object_of i.lists.objects) c.args.object.0 i.rows.held c.self.invariant.standing.by_object (omega (arith, c.if-object-self.false)) in
    found_held i.rows.held c.len-known.ensures.apart (λ x. object_of i.lists.objects x == c.args.object.0) c.first_in.result first

pub returns : goal.returns
returns c =
    let i = c.self.inside in
    let p = is_outstanding_for (Object c.args.object) in
    let first = c.first_in.ensures ∙ first_is (object_of i.lists.objects) c.args.object.0 i.rows.held c.self.invariant.standing.by_object (omega (arith, c.if-object-self.false)) in
    rw (← c.self.view_is)
    (c.lent_under.ensures
    ∙ found_row i.rows.held c.len-known.ensures.apart (λ x. object_of i.lists.objects x == c.args.object.0) c.first_in.result first
    ∙ find_same (λ x. object_of i.lists.objects x == c.args.object.0) p (rows_of i.rows.held) (outstanding_agree i.lists.objects c.args.object c.if-object-self.false (rows_of i.rows.held))
    ∙ sym (first_filtered p (rows_of i.rows.held)))
