use Rattle.std.proofs.Common.{◌∙◌, ◌==◌, List, ap, arith, length, sym}
use Rattle.tp_base.specs.declared.rows.CallbackRow.{CallbackRow}
use Rattle.tp_base.specs.declared.rows.WaitTarget.TheVariants.{Object}
use Rattle.tp_model.specs.Waits.{is_outstanding_for}
use Rattle.live_callbacks.specs.Held.{rows_of}
use Rattle.live_callbacks.specs.Lists.{object_of}
use Rattle.live_callbacks.proofs.Found.{filter_none, filter_same, many_keys}
use Rattle.live_callbacks.proofs.Lines.{outstanding_agree, outstanding_past}
use Rattle.live_callbacks.proofs.LiveCallbacks.count_outstanding.Goals as goal

pub returns-then-object-self : goal.returns-then-object-self
returns-then-object-self c =
    let i = c.self.inside in
    let cs = rows_of i.rows.held in
    let none = filter_none (is_outstanding_for (Object c.args.object)) cs (outstanding_past i.lists.pools i.lists.objects c.args.object c.if-object-self.true cs c.self.invariant.homes) in
    rw (← c.self.view_is) (sym (ap (λ (ds : List CallbackRow). length ds) none))

pub len-requires : goal.len-requires
len-requires c = omega (arith, c.if-object-self.false, c.self.invariant.standing.by_object.many)

pub returns : goal.returns
returns c =
    let i = c.self.inside in
    let cs = rows_of i.rows.held in
    rw (← c.self.view_is)
    (c.len.ensures
    ∙ ap length (c.self.invariant.standing.by_object.listed c.args.object.0 (omega (arith, c.if-object-self.false)))
    ∙ many_keys (object_of i.lists.objects) c.args.object.0 i.rows.held
    ∙ ap (λ (ds : List CallbackRow). length ds) (filter_same (λ x. object_of i.lists.objects x == c.args.object.0) (is_outstanding_for (Object c.args.object)) cs (outstanding_agree i.lists.objects c.args.object c.if-object-self.false cs)))
