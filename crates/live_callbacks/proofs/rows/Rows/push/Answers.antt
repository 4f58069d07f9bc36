use Rattle.std.proofs.Common.{◌≡◌, ◌<◌, ◌++◌, ◌∷◌, [], ℕ, List, map, sym, ap, ap₂, ◌∙◌, arith, length, true, Some, None}
use Rattle.std.proofs.lemmas.List.{length-append, length-map, map-append}
use Rattle.std.proofs.lemmas.List.Elements.{All-from_recursion, filter-append, recursion_from_All}
use Rattle.std.proofs.lemmas.List.Quantifiers.{all_pairs_push}
use Rattle.tp_model.proofs.Lists.{all_append}
use Rattle.slab.specs.Slab.{Slab, Updates, get}
use Rattle.tp_base.specs.declared.rows.CallbackRow.{CallbackRow}
use Rattle.live_callbacks.specs.declared.places.Entry.{Entry}
use Rattle.live_callbacks.specs.Held.{Held}
use Rattle.live_callbacks.specs.Places.{live, row_at, row_or}
use Rattle.live_callbacks.specs.Reserved.{IsTied, held_by}
use Rattle.live_callbacks.proofs.Tied.{AreTied, all_below, all_held, all_tied, are_fresh}
use Rattle.live_callbacks.proofs.rows.Rows.push.Goals as goal

module _ (s new : Slab CallbackRow) (ls : List Entry) (row : CallbackRow) (key : ℕ) (tied : AreTied s ls) (none : get s key ≡ None) (capacity : new.capacity ≡ s.capacity) (updates : Updates s new key (Some row)) (within : key < new.capacity) where
  abbrev entry : Entry
  entry = record { number = row.number; key = key; there = true }

  is_row : row_at new key ≡ row
  is_row = ap row_or updates.changed

  tied_more : AreTied new (ls ++ entry ∷ [])
  tied_more =
      all_append (IsTied new) ls entry (all_tied s new key capacity updates.others ls (are_fresh s key none ls tied) tied)
      (record {
        here = updates.changed ∙ ap Some (sym is_row);
        same = ap (λ (c : CallbackRow). c.number) is_row;
        within = within;
      })

  held_more : map (held_by new) (ls ++ entry ∷ []) ≡ map (held_by s) ls ++ record { key = key; row = row } ∷ []
  held_more =
      map-append (held_by new) ls (entry ∷ [])
      ∙ ap₂ (λ (xs ys : List Held). xs ++ ys) (all_held s new key capacity updates.others ls (are_fresh s key none ls tied)) (ap (λ (c : CallbackRow). let h : Held = record { key = key; row = c } in h ∷ []) is_row)

pub make_place-requires-clause-last : goal.make_place-requires-clause-last
make_place-requires-clause-last c =
    let ls = live c.self.inside.entries.items in
    let n = c.args.row.number in
    let last = rw (← c.self.view_is) at c.requires.last in
    All-from_recursion (λ (e : Entry). e.number < n) ls (all_below c.self.inside.rows n ls c.self.invariant.tied (recursion_from_All (λ (h : Held). h.row.number < n) (map (held_by c.self.inside.rows) ls) last))

pub invariant_of-self : goal.invariant_of-self
invariant_of-self c =
    let k = c.self.invariant in
    let s = c.self.inside.rows in
    let ls = live c.self.inside.entries.items in
    let key = c.insert_reserved-key.result in
    let e : Entry = record { number = c.args.row.number; key = key; there = true } in
    let made = c.insert_reserved-key.ensures in
    let room = rw (← c.self.view_is, length-map ls (held_by s)) at c.requires.room in
    let lives : live c.push_reserved.new.self.items ≡ ls ++ e ∷ [] = ap live c.push_reserved.ensures.items ∙ filter-append (λ (x : Entry). x.there) c.make_place.new.entries.items (e ∷ []) ∙ ap (λ (xs : List Entry). xs ++ e ∷ []) c.make_place.ensures.kept in
    record {
      rising = rw c.push_reserved.ensures.items (all_pairs_push (λ (a b : Entry). a.number < b.number) c.make_place.new.entries.items e c.make_place.ensures.rises c.make_place.ensures.last);
      tied = rw lives (tied_more s c.insert_reserved-key.new.self ls c.args.row key k.tied made.was_vacant made.capacity made.updates made.key_in_range);
      counted = omega (arith, k.counted, made.len, ap length lives, length-append ls (e ∷ []));
      fits = k.fits;
      limited = omega (arith, k.counted, made.len, room);
      few = omega (arith, c.push_reserved.ensures.len, c.make_place.ensures.memory);
      reserved = omega (arith, k.reserved, c.push_reserved.ensures.capacity, c.make_place.ensures.capacity);
      backed = omega (arith, k.backed, made.capacity);
      keyed = omega (arith, k.keyed, made.capacity);
    }

pub returns-clause-fresh : goal.returns-clause-fresh
returns-clause-fresh c =
    rw (← c.self.view_is) (are_fresh c.self.inside.rows c.insert_reserved-key.result c.insert_reserved-key.ensures.was_vacant (live c.self.inside.entries.items) c.self.invariant.tied)

pub returns-clause-after : goal.returns-clause-after
returns-clause-after c =
    let s = c.self.inside.rows in
    let ls = live c.self.inside.entries.items in
    let key = c.insert_reserved-key.result in
    let e : Entry = record { number = c.args.row.number; key = key; there = true } in
    let made = c.insert_reserved-key.ensures in
    let lives : live c.push_reserved.new.self.items ≡ ls ++ e ∷ [] = ap live c.push_reserved.ensures.items ∙ filter-append (λ (x : Entry). x.there) c.make_place.new.entries.items (e ∷ []) ∙ ap (λ (xs : List Entry). xs ++ e ∷ []) c.make_place.ensures.kept in
    rw (← c.self.view_is, lives, made.capacity, held_more s c.insert_reserved-key.new.self ls c.args.row key c.self.invariant.tied made.was_vacant made.capacity made.updates made.key_in_range)
