use Rattle.std.proofs.Common.{◌≡◌, ℕ, ◌-◌, List, length, cond, slice_get, Option, Some, None, Bor, refl, sym, ap, ◌∙◌, subst, ne_eqb}
use Rattle.std.specs.Option.{option_copied}
use Rattle.std.specs.Slice.{IsGetResult}
use Rattle.std.proofs.lemmas.Option.{slice_get_past, slice_get_read}
use Rattle.tp_base.specs.declared.rows.ClientRow.{ClientRow}
use Rattle.tp_model.specs.Counts.{numbered}
use Rattle.live_world.specs.Live.{Live}
use Rattle.live_world.proofs.LiveWorld.client.Goals as goal

-- what a look at a place finds
found_at : (rows : List ClientRow) (place : ℕ) (found : Option (Bor ClientRow)) → IsGetResult rows place place found → option_copied found ≡ slice_get rows place
found_at rows place None got = sym (slice_get_past rows place got.3)
found_at rows place (Some r) got = sym (slice_get_read rows (length rows) place r.now refl got.3.0 got.1)

pub returns : goal.returns
returns c =
    let rows = c.self.inside.clients.items in
    let place = c.args.number - 1 in
    let got : IsGetResult rows place place c.get.result = subst (λ (xs : List ClientRow). IsGetResult xs place place c.get.result) c.deref.ensures.value c.get.ensures.lookup in
    c.copied.ensures ∙ found_at rows place c.get.result got ∙ sym (ap (λ b. cond b None (slice_get rows place)) (ne_eqb c.args.number 0 c.if-number-eq0.false))
    ∙ ap (λ (l : Live). numbered l.world.clients c.args.number) c.self.view_is
