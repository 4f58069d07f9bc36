use Rattle.std.proofs.Common.{◌∙◌, ◌==◌, ap, sym}
use Rattle.std.specs.Prelude.{filter, nat_lt, option_map}
use Rattle.tp_base.specs.declared.rows.CallbackRow.{CallbackRow}
use Rattle.tp_model.proofs.Lists.{all_filter}
use Rattle.live_callbacks.specs.declared.places.Entry.{Entry}
use Rattle.live_callbacks.specs.Places.{live, row_at}
use Rattle.live_callbacks.specs.Reserved.{IsTied}
use Rattle.live_callbacks.proofs.Numbers.{find_above_of}
use Rattle.live_callbacks.proofs.Tied.{leads, number_among}
use Rattle.live_callbacks.proofs.rows.Rows.next_of_group.Goals as goal

pub lent_row-requires : goal.lent_row-requires
lent_row-requires c =
    let s = c.self.inside.rows in
    let ls = live c.self.inside.entries.items in
    let test = λ (e : Entry). (row_at s e.key).group.0 == c.args.group.0 in
    let bound = rw c.deref.ensures.value at c.place_behind-place.ensures.bound in
    let parted = rw c.deref.ensures.value at c.place_behind-place.ensures.parted in
    let first = rw c.deref-2.ensures.value at c.first_of_group_from.ensures in
    leads s (λ (e : Entry). nat_lt c.args.number e.number) _ (filter test ls) (all_filter (IsTied s) test ls c.self.invariant.tied) (first ∙ sym (find_above_of c.args.number test c.self.inside.entries.items _ bound parted))

pub returns : goal.returns
returns c =
    let s = c.self.inside.rows in
    let ls = live c.self.inside.entries.items in
    let test = λ (e : Entry). (row_at s e.key).group.0 == c.args.group.0 in
    let bound = rw c.deref.ensures.value at c.place_behind-place.ensures.bound in
    let parted = rw c.deref.ensures.value at c.place_behind-place.ensures.parted in
    let first = rw c.deref-2.ensures.value at c.first_of_group_from.ensures in
    rw (← c.self.view_is)
    (c.lent_row.ensures
    ∙ ap (option_map (λ (e : Entry). row_at s e.key)) (first ∙ sym (find_above_of c.args.number test c.self.inside.entries.items _ bound parted))
    ∙ sym (number_among s (λ n. nat_lt c.args.number n) (λ (x : CallbackRow). x.group.0 == c.args.group.0) ls c.self.invariant.tied))
