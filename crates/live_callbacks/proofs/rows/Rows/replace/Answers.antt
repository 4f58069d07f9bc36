use Rattle.std.proofs.Common.{◌≡◌, ◌==◌, ℕ, List, [], ◌∷◌, None, true, false, map, refl, ap, ◌∙◌, sym, arith, eqb-true}
use Rattle.std.specs.Prelude.{Bool, Option, Some, is_some, find, if◌then◌else◌, option_map}
use Rattle.std.proofs.lemmas.List.Sums.{sum_by-set}
use Rattle.slab.specs.Slab.{ContainsKey, Slab, get, slab_len, with_value}
use Rattle.slab.proofs.SlabLemmas.{ContainsKey-within, Updates-with_value}
use Rattle.tp_base.specs.declared.rows.CallbackRow.{CallbackRow}
use Rattle.live_callbacks.specs.declared.places.Entry.{Entry}
use Rattle.live_callbacks.specs.Held.{Held}
use Rattle.live_callbacks.specs.Places.{live, row_at}
use Rattle.live_callbacks.specs.Reserved.{held_by}
use Rattle.live_callbacks.proofs.Tied.{AreTied, all_put, all_put_tied, live_rises, number_held, only_key}
use Rattle.live_callbacks.proofs.rows.Rows.replace.Goals as goal

-- the key is that of an entry, and leads to the row of the number
module _ (s : Slab CallbackRow) (n key : ℕ) where
  keyed : (ls : List Entry) → AreTied s ls → option_map (λ (h : Held). h.key) (find (λ h. h.row.number == n) (map (held_by s) ls)) ≡ Some key → option_map (λ (e : Entry). e.key) (find (λ e. e.number == n) ls) ≡ Some key
  keyed ls tied is = through (find (λ e. e.number == n) ls) (sym (ap (option_map (λ (h : Held). h.key)) (number_held s (λ m. m == n) ls tied)) ∙ is)
    where
      through : (o : Option Entry) → option_map (λ (h : Held). h.key) (option_map (held_by s) o) ≡ Some key → option_map (λ (e : Entry). e.key) o ≡ Some key
      through None e = absurd (cc)
      through (Some x) e = e

  keyed_row : (ls : List Entry) → AreTied s ls → option_map (λ (e : Entry). e.key) (find (λ e. e.number == n) ls) ≡ Some key → (ContainsKey s key) × ((row_at s key).number ≡ n)
  keyed_row [] tied is = absurd (cc)
  keyed_row (e ∷ ls) tied is =
      elim (e.number == n) as (λ b. (e.number == n) ≡ b → option_map (λ (f : Entry). f.key) (if b then Some e else find (λ f. f.number == n) ls) ≡ Some key → (ContainsKey s key) × ((row_at s key).number ≡ n)) [
        | true ↦ λ same here.
            let at : e.key ≡ key = cc in
            (rw (← at, tied.0.here) refl, rw (← at) (tied.0.same ∙ eqb-true e.number n same))
        | false ↦ λ _ later. keyed_row ls tied.1 later
      ] refl is

-- as many rows are there
same_len : (s : Slab CallbackRow) (key : ℕ) (row : CallbackRow) → ContainsKey s key → slab_len (with_value s key row) ≡ slab_len s
same_len s key row there =
    let one : Option CallbackRow → ℕ = λ (o : Option CallbackRow). if is_some o then 1 else 0 in
    let had : one (get s key) ≡ 1 = ap {B = ℕ} (λ (b : Bool). if b then 1 else 0) there in
    omega (arith, sum_by-set one s.slots key (Some row) None (ContainsKey-within s key there), had)

pub index_mut-requires : goal.index_mut-requires
index_mut-requires c =
    let ls = live c.self.inside.entries.items in
    (keyed_row c.self.inside.rows c.args.row.number c.args.key ls c.self.invariant.tied (keyed c.self.inside.rows c.args.row.number c.args.key ls c.self.invariant.tied (rw (← c.self.view_is) at c.requires))).0

pub invariant_of-self : goal.invariant_of-self
invariant_of-self c =
    let k = c.self.invariant in
    let s = c.self.inside.rows in
    let ls = live c.self.inside.entries.items in
    let n = c.args.row.number in
    let at = keyed_row s n c.args.key ls k.tied (keyed s n c.args.key ls k.tied (rw (← c.self.view_is) at c.requires)) in
    let written = Updates-with_value s c.args.key c.args.row at.0 in
    let many = same_len s c.args.key c.args.row at.0 in
    record {
      rising = k.rising;
      tied = all_put_tied s (with_value s c.args.key c.args.row) c.args.key refl written.others n at.1 c.args.row written.changed refl ls k.tied;
      counted = many ∙ k.counted;
      fits = k.fits;
      limited = omega (arith, k.limited, many);
      few = k.few;
      reserved = k.reserved;
      backed = k.backed;
      keyed = k.keyed;
    }

pub returns : goal.returns
returns c =
    let k = c.self.invariant in
    let s = c.self.inside.rows in
    let ls = live c.self.inside.entries.items in
    let n = c.args.row.number in
    let is = keyed s n c.args.key ls k.tied (rw (← c.self.view_is) at c.requires) in
    let at = keyed_row s n c.args.key ls k.tied is in
    let written = Updates-with_value s c.args.key c.args.row at.0 in
    let held = all_put s (with_value s c.args.key c.args.row) c.args.key refl written.others n at.1 c.args.row written.changed refl ls k.tied (only_key n c.args.key ls (live_rises c.self.inside.entries.items k.rising) is) in
    rw (← c.self.view_is, held)
