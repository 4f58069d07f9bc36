use Rattle.std.proofs.Common.{◌∙◌, ◌==◌, sym}
use Rattle.tp_base.specs.declared.rows.CallbackRow.{CallbackRow}
use Rattle.live_callbacks.specs.Held.{rows_of}
use Rattle.live_callbacks.specs.Lists.{group_of}
use Rattle.live_callbacks.proofs.Found.{find_same, first_is, found_held, found_row}
use Rattle.live_callbacks.proofs.Lines.{group_agree, listed_group}
use Rattle.live_callbacks.proofs.LiveCallbacks.first_of_group.Goals as goal

pub lent_under-requires : goal.lent_under-requires
lent_under-requires c =
    let i = c.self.inside in
    let has = sym c.if-not-has_list.ensures in
    let first = c.first_in.ensures ∙ first_is (group_of i.lists.groups) c.args.group.0 i.rows.held c.self.invariant.standing.in_group (listed_group i.lists.groups c.args.group.0 has) in
    found_held i.rows.held c.len-known.ensures.apart (λ x. group_of i.lists.groups x == c.args.group.0) c.first_in.result first

pub returns : goal.returns
returns c =
    let i = c.self.inside in
    let has = sym c.if-not-has_list.ensures in
    let first = c.first_in.ensures ∙ first_is (group_of i.lists.groups) c.args.group.0 i.rows.held c.self.invariant.standing.in_group (listed_group i.lists.groups c.args.group.0 has) in
    rw (← c.self.view_is)
    (c.lent_under.ensures
    ∙ found_row i.rows.held c.len-known.ensures.apart (λ x. group_of i.lists.groups x == c.args.group.0) c.first_in.result first
    ∙ find_same (λ x. group_of i.lists.groups x == c.args.group.0) (λ (x : CallbackRow). x.group.0 == c.args.group.0) (rows_of i.rows.held) (group_agree i.lists.groups c.args.group.0 has (rows_of i.rows.held)))
