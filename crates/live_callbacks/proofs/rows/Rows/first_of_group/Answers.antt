use Rattle.std.proofs.Common.{◌∙◌, ◌==◌, ap, sym}
use Rattle.std.specs.Prelude.{option_map}
use Rattle.tp_base.specs.declared.rows.CallbackRow.{CallbackRow}
use Rattle.live_callbacks.specs.declared.places.Entry.{Entry}
use Rattle.live_callbacks.specs.Places.{live, row_at}
use Rattle.live_callbacks.proofs.Tied.{found_by, leads}
use Rattle.live_callbacks.proofs.rows.Rows.first_of_group.Goals as goal

pub lent_row-requires : goal.lent_row-requires
lent_row-requires c =
    let s = c.self.inside.rows in
    let found = rw c.deref.ensures.value at c.first_of_group_from.ensures in
    leads s (λ (e : Entry). (row_at s e.key).group.0 == c.args.group.0) _ (live c.self.inside.entries.items) c.self.invariant.tied found

pub returns : goal.returns
returns c =
    let s = c.self.inside.rows in
    let found = rw c.deref.ensures.value at c.first_of_group_from.ensures in
    rw (← c.self.view_is)
    (c.lent_row.ensures ∙ ap (option_map (λ (e : Entry). row_at s e.key)) found ∙ sym (found_by s (λ (x : CallbackRow). x.group.0 == c.args.group.0) (live c.self.inside.entries.items)))
