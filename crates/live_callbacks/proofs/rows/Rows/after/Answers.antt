use Rattle.std.proofs.Common.{◌∙◌, ap, sym}
use Rattle.std.specs.Prelude.{nat_lt, option_map}
use Rattle.live_callbacks.specs.declared.places.Entry.{Entry}
use Rattle.live_callbacks.specs.Places.{live, row_at}
use Rattle.live_callbacks.proofs.Tied.{leads, number_found}
use Rattle.live_callbacks.proofs.rows.Rows.after.Goals as goal

pub lent_row-requires : goal.lent_row-requires
lent_row-requires c =
    let found = rw c.deref.ensures.value at c.entry_behind.ensures in
    leads c.self.inside.rows (λ (e : Entry). nat_lt c.args.number e.number) _ (live c.self.inside.entries.items) c.self.invariant.tied found

pub returns : goal.returns
returns c =
    let found = rw c.deref.ensures.value at c.entry_behind.ensures in
    let s = c.self.inside.rows in
    rw (← c.self.view_is)
    (c.copied.ensures ∙ c.lent_row.ensures ∙ ap (option_map (λ (e : Entry). row_at s e.key)) found ∙ sym (number_found s (λ n. nat_lt c.args.number n) (live c.self.inside.entries.items) c.self.invariant.tied))
