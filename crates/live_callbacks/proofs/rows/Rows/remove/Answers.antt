use Rattle.std.proofs.Common.{◌≡◌, ◌==◌, ℕ, List, [], ◌∷◌, None, map, refl, ap, ◌∙◌, sym, arith, get_or}
use Rattle.std.specs.Prelude.{Some, filter, find, not, option_map}
use Rattle.std.proofs.lemmas.Bool.Decides.{nat_tests}
use Rattle.slab.specs.Slab.{ContainsKey, Slab}
use Rattle.tp_base.specs.declared.rows.CallbackRow.{CallbackRow}
use Rattle.tp_model.proofs.Lists.{find_all}
use Rattle.live_callbacks.specs.declared.places.Entry.{Entry}
use Rattle.live_callbacks.specs.Held.{Held}
use Rattle.live_callbacks.specs.Places.{IsPlaceOfRow, live, row_at}
use Rattle.live_callbacks.specs.Reserved.{IsTied, held_by}
use Rattle.live_callbacks.proofs.Numbers.{filter_present, find_present, one_fewer}
use Rattle.live_callbacks.proofs.Rising.{rise_set}
use Rattle.live_callbacks.proofs.Tied.{AreTied, gone_held, gone_tied, leads, number_held}
use Rattle.live_callbacks.proofs.rows.Rows.remove.Goals as goal

-- the entry that is read is the one that is found, and it leads to the row of the number
module _ (s : Slab CallbackRow) (es : List Entry) (n place : ℕ) (own : Entry) (tied : AreTied s (live es)) (at : IsPlaceOfRow es n place) (read : own ≡ get_or es place own) where
  read_found : find (λ (e : Entry). e.number == n) (live es) ≡ Some own
  read_found = find_present n es place own at ∙ ap Some (sym read)

  read_leads : ContainsKey s own.key
  read_leads = leads s (λ (e : Entry). e.number == n) (Some own) (live es) tied (sym read_found)

  read_number : own.number ≡ n
  read_number = ap (λ (e : Entry). e.number) read ∙ at.entry.here own

  read_row : (row_at s own.key).number ≡ n
  read_row = let is : IsTied s own = find_all (IsTied s) (λ (e : Entry). e.number == n) own (live es) tied read_found in is.same ∙ read_number

pub remove-row-requires : goal.remove-row-requires
remove-row-requires c =
    let at = rw c.deref.ensures.value at c.in-Some.ensures in
    read_leads c.self.inside.rows c.self.inside.entries.items c.args.number _ c.index.result.now c.self.invariant.tied at c.index.ensures

pub invariant_of-self : goal.invariant_of-self
invariant_of-self c =
    let at = rw c.deref.ensures.value at c.in-Some.ensures in
    let k = c.self.invariant in
    let s = c.self.inside.rows in
    let es = c.self.inside.entries.items in
    let row = read_row s es c.args.number _ c.index.result.now k.tied at c.index.ensures in
    let gone = c.remove-row.ensures in
    let fewer = one_fewer c.args.number es _ c.index_mut.result.now at c.index_mut.ensures.value in
    let left = filter_present c.args.number es _ c.index_mut.result.now at c.index_mut.ensures.value in
    record {
      rising = rise_set es c.args.number _ _ k.rising at.entry (ap (λ (e : Entry). e.number) c.index_mut.ensures.value ∙ at.entry.here c.index_mut.result.now);
      tied = rw (← left) (gone_tied s c.remove-row.new.self c.index.result.now.key gone.capacity gone.updates.others c.args.number row (live es) k.tied);
      counted = omega (arith, k.counted, fewer, gone.len);
      fits = k.fits;
      limited = omega (arith, k.limited, gone.len);
      few = k.few;
      reserved = k.reserved;
      backed = omega (arith, k.backed, gone.capacity);
      keyed = omega (arith, k.keyed, gone.capacity);
    }

pub returns-in-Some-clause-key : goal.returns-in-Some-clause-key
returns-in-Some-clause-key c =
    let at = rw c.deref.ensures.value at c.in-Some.ensures in
    let s = c.self.inside.rows in
    let es = c.self.inside.entries.items in
    rw (← c.self.view_is, number_held s (λ n. n == c.args.number) (live es) c.self.invariant.tied)
    (ap (λ o. option_map (λ (h : Held). h.key) (option_map (held_by s) o)) (sym (read_found s es c.args.number _ c.index.result.now c.self.invariant.tied at c.index.ensures)))

pub returns-in-Some-clause-after : goal.returns-in-Some-clause-after
returns-in-Some-clause-after c =
    let at = rw c.deref.ensures.value at c.in-Some.ensures in
    let s = c.self.inside.rows in
    let es = c.self.inside.entries.items in
    let row = read_row s es c.args.number _ c.index.result.now c.self.invariant.tied at c.index.ensures in
    let gone = c.remove-row.ensures in
    let left = filter_present c.args.number es _ c.index_mut.result.now at c.index_mut.ensures.value in
    let held = gone_held s c.remove-row.new.self c.index.result.now.key gone.capacity gone.updates.others c.args.number row (live es) c.self.invariant.tied in
    rw (← c.self.view_is, ← left, held, gone.capacity)

pub returns-in-None-clause-key : goal.returns-in-None-clause-key
returns-in-None-clause-key c =
    let none = rw c.deref.ensures.value at c.in-None.ensures in
    let s = c.self.inside.rows in
    rw (← c.self.view_is, number_held s (λ n. n == c.args.number) (live c.self.inside.entries.items) c.self.invariant.tied)
    (ap (λ o. option_map (λ (h : Held). h.key) (option_map (held_by s) o)) (sym none))

pub returns-in-None-clause-after : goal.returns-in-None-clause-after
returns-in-None-clause-after c =
    let none = rw c.deref.ensures.value at c.in-None.ensures in
    let s = c.self.inside.rows in
    let missing = none_gone c.args.number (map (held_by s) (live c.self.inside.entries.items)) (number_held s (λ n. n == c.args.number) (live c.self.inside.entries.items) c.self.invariant.tied ∙ ap (option_map (held_by s)) none) in
    rw (← c.self.view_is, missing)
  where
    none_gone : (n : ℕ) (hs : List Held) → find (λ h. h.row.number == n) hs ≡ None → filter (λ h. not (h.row.number == n)) hs ≡ hs
    none_gone n [] none = refl
    none_gone n (h ∷ hs) none = grind (arith, nat_tests, none, λ (rest : find (λ g. g.row.number == n) hs ≡ None). none_gone n hs rest)
