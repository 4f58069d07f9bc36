-- What entries and the rows that they lead to tell of each other.
use Rattle.std.proofs.Common.{Bool, true, false, ◌≡◌, ◌≢◌, ℕ, ◌<◌, List, [], ◌∷◌, Some, None, Option, map, refl, sym, ap, ap₂, ◌∙◌, arith, suc, ⊎_elim}
use Rattle.std.specs.Prelude.{◌==◌, IfSome, IsSome, filter, find, if◌then◌else◌, not, option_map}
use Rattle.std.specs.List.{AllByRecursion}
use Rattle.std.proofs.lemmas.Bool.{cases_eq, eq-eqb, eqb-true, ne_eqb}
use Rattle.std.proofs.lemmas.Bool.Decides.{nat_tests}
use Rattle.std.proofs.lemmas.List.Elements.{recursion_from_All}
use Rattle.std.proofs.lemmas.List.Kept.{AllPairs-filter}
use Rattle.slab.specs.Slab.{ContainsKey, Slab, get}
use Rattle.tp_base.specs.declared.rows.CallbackRow.{CallbackRow}
use Rattle.live_callbacks.specs.declared.places.Entry.{Entry}
use Rattle.live_callbacks.specs.Held.{AreApart, Held, rows_of}
use Rattle.live_callbacks.specs.Places.{EntriesRise, live, row_at, row_or}
use Rattle.live_callbacks.specs.Reserved.{IsTied, held_by}

-- ---- rising entries

abbrev pub AreAbove : Entry → List Entry → Type 0
AreAbove e es = AllByRecursion (λ (f : Entry). e.number < f.number) es

abbrev pub Rises : List Entry → Type 0
Rises [] = Unit {0}
Rises (e ∷ es) = AreAbove e es × Rises es

rises : (es : List Entry) → EntriesRise es → Rises es
rises [] rising = tt
rises (e ∷ es) rising = (
  recursion_from_All (λ (f : Entry). e.number < f.number) es (λ k d lt. rising 0 (suc k) d (omega arith) (omega arith)),
  rises es (λ i j d lt within. rising (suc i) (suc j) d (omega arith) (omega arith)),
)

pub live_rises : (es : List Entry) → EntriesRise es → Rises (live es)
live_rises es rising = rises (live es) (AllPairs-filter (λ (a b : Entry). a.number < b.number) (λ (e : Entry). e.there) es rising)

-- ---- by a number, or by a key

module _ (s : Slab CallbackRow) where
  abbrev pub AreTied : List Entry → Type 0
  AreTied ls = AllByRecursion (IsTied s) ls

  pub found_by : (t : CallbackRow → Bool) (ls : List Entry) → find t (rows_of (map (held_by s) ls)) ≡ option_map (λ (e : Entry). row_at s e.key) (find (λ e. t (row_at s e.key)) ls)
  found_by t [] = refl
  found_by t (e ∷ ls) = grind (arith, found_by t ls)

  pub number_found : (t : ℕ → Bool) (ls : List Entry) → AreTied ls → find (λ c. t c.number) (rows_of (map (held_by s) ls)) ≡ option_map (λ (e : Entry). row_at s e.key) (find (λ e. t e.number) ls)
  number_found t [] tied = refl
  number_found t (e ∷ ls) tied = grind (arith, tied.0.same, number_found t ls tied.1)

  pub number_held : (t : ℕ → Bool) (ls : List Entry) → AreTied ls → find (λ h. t h.row.number) (map (held_by s) ls) ≡ option_map (held_by s) (find (λ e. t e.number) ls)
  number_held t [] tied = refl
  number_held t (e ∷ ls) tied = grind (arith, tied.0.same, number_held t ls tied.1)

  pub number_among : (t : ℕ → Bool) (g : CallbackRow → Bool) (ls : List Entry) → AreTied ls → find (λ c. t c.number) (filter g (rows_of (map (held_by s) ls))) ≡ option_map (λ (e : Entry). row_at s e.key) (find (λ e. t e.number) (filter (λ e. g (row_at s e.key)) ls))
  number_among t g [] tied = refl
  number_among t g (e ∷ ls) tied = grind (arith, tied.0.same, number_among t g ls tied.1)

  pub number_marked : (t marked : ℕ → Bool) (ls : List Entry) → AreTied ls → find t (map (λ (h : Held). h.row.number) (filter (λ (h : Held). marked h.key) (map (held_by s) ls))) ≡ option_map (λ (e : Entry). e.number) (find (λ e. t e.number) (filter (λ (e : Entry). marked e.key) ls))
  number_marked t marked [] tied = refl
  number_marked t marked (e ∷ ls) tied = grind (arith, tied.0.same, number_marked t marked ls tied.1)

  -- what is found leads to a row
  pub leads : (t : Entry → Bool) (o : Option Entry) (ls : List Entry) → AreTied ls → o ≡ find t ls → IfSome o (λ e. ContainsKey s e.key)
  leads t o [] tied is = rw is tt
  leads t o (e ∷ ls) tied is =
      elim (t e) as (λ b. o ≡ (if b then Some e else find t ls) → IfSome o (λ x. ContainsKey s x.key)) [
        | true ↦ λ here. rw here (rw tied.0.here refl)
        | false ↦ λ later. leads t o ls tied.1 later
      ] is

  pub key_there : (key : ℕ) (ls : List Entry) → AreTied ls → IsSome (find (λ h. h.key == key) (map (held_by s) ls)) → ContainsKey s key
  key_there key [] tied some = absurd (cc)
  key_there key (e ∷ ls) tied some = grind (arith, nat_tests, tied.0.here, some, λ (rest : IsSome (find (λ h. h.key == key) (map (held_by s) ls))). key_there key ls tied.1 rest)

  pub key_row : (key : ℕ) (r : CallbackRow) (ls : List Entry) → get s key ≡ Some r → IsSome (find (λ h. h.key == key) (map (held_by s) ls)) → Some r ≡ option_map (λ (h : Held). h.row) (find (λ h. h.key == key) (map (held_by s) ls))
  key_row key r [] is some = absurd (cc)
  key_row key r (e ∷ ls) is some =
      elim (e.key == key) as (λ b. (e.key == key) ≡ b → IsSome (if b then Some (held_by s e) else find (λ h. h.key == key) (map (held_by s) ls)) → Some r ≡ option_map (λ (h : Held). h.row) (if b then Some (held_by s e) else find (λ h. h.key == key) (map (held_by s) ls))) [
        | true ↦ λ same _. ap (λ o. Some (row_or o)) (sym is) ∙ ap (λ k. Some (row_at s k)) (sym (eqb-true e.key key same))
        | false ↦ λ _ rest. key_row key r ls is rest
      ] refl some

  -- ---- keys

  keys_differ : (e : Entry) (ls : List Entry) → AreAbove e ls → IsTied s e → AreTied ls → AllByRecursion (λ (g : Held). g.key ≢ e.key) (map (held_by s) ls)
  keys_differ e [] above own tied = tt
  keys_differ e (f ∷ ls) above own tied = (λ same. absurd (omega (arith, above.0, own.same, tied.0.same, ap (λ k. (row_at s k).number) same)), keys_differ e ls above.1 own tied.1)

  pub are_apart : (ls : List Entry) → Rises ls → AreTied ls → AreApart (map (held_by s) ls)
  are_apart [] rising tied = tt
  are_apart (e ∷ ls) rising tied = (keys_differ e ls rising.0 tied.0 tied.1, are_apart ls rising.1 tied.1)

  pub are_within : (ls : List Entry) → AreTied ls → AllByRecursion (λ (h : Held). h.key < s.capacity) (map (held_by s) ls)
  are_within [] tied = tt
  are_within (e ∷ ls) tied = (tied.0.within, are_within ls tied.1)

  pub are_fresh : (key : ℕ) → get s key ≡ None → (ls : List Entry) → AreTied ls → AllByRecursion (λ (h : Held). h.key ≢ key) (map (held_by s) ls)
  are_fresh key none [] tied = tt
  are_fresh key none (e ∷ ls) tied = (
    λ same. let no : Some (row_at s e.key) ≡ None = sym tied.0.here ∙ ap (get s) same ∙ none in absurd (cc),
    are_fresh key none ls tied.1,
  )

  -- what is above all rows is above all entries
  pub all_below : (n : ℕ) (ls : List Entry) → AreTied ls → AllByRecursion (λ (h : Held). h.row.number < n) (map (held_by s) ls) → AllByRecursion (λ (e : Entry). e.number < n) ls
  all_below n [] tied below = tt
  all_below n (e ∷ ls) tied below = (omega (arith, tied.0.same, below.0), all_below n ls tied.1 below.1)

-- ---- another row under one key

module _ (s new : Slab CallbackRow) (key : ℕ) (capacity : new.capacity ≡ s.capacity) (others : (k : ℕ) → k ≢ key → get new k ≡ get s k) where
  row_kept : (e : Entry) → e.key ≢ key → row_at new e.key ≡ row_at s e.key
  row_kept e apart = ap row_or (others e.key apart)

  tied_kept : (e : Entry) → e.key ≢ key → IsTied s e → IsTied new e
  tied_kept e apart tied = record {
    here = others e.key apart ∙ tied.here ∙ ap Some (sym (row_kept e apart));
    same = ap (λ (c : CallbackRow). c.number) (row_kept e apart) ∙ tied.same;
    within = omega (arith, tied.within, capacity);
  }

  held_kept : (e : Entry) → e.key ≢ key → held_by new e ≡ held_by s e
  held_kept e apart = ap (λ (c : CallbackRow). let h : Held = record { key = e.key; row = c } in h) (row_kept e apart)

  -- a key that nothing had
  pub all_tied : (ls : List Entry) → AllByRecursion (λ (h : Held). h.key ≢ key) (map (held_by s) ls) → AreTied s ls → AreTied new ls
  all_tied [] fresh tied = tt
  all_tied (e ∷ ls) fresh tied = (tied_kept e fresh.0 tied.0, all_tied ls fresh.1 tied.1)

  pub all_held : (ls : List Entry) → AllByRecursion (λ (h : Held). h.key ≢ key) (map (held_by s) ls) → map (held_by new) ls ≡ map (held_by s) ls
  all_held [] fresh = refl
  all_held (e ∷ ls) fresh = ap₂ (λ (h : Held) (hs : List Held). h ∷ hs) (held_kept e fresh.0) (all_held ls fresh.1)

  -- the key of the row of this number
  module _ (n : ℕ) (own : (row_at s key).number ≡ n) where
    key_apart : (e : Entry) → IsTied s e → e.number ≢ n → e.key ≢ key
    key_apart e tied other same = other (sym tied.same ∙ ap (λ k. (row_at s k).number) same ∙ own)

    -- that row leaves
    pub gone_tied : (ls : List Entry) → AreTied s ls → AreTied new (filter (λ e. not (e.number == n)) ls)
    gone_tied [] tied = tt
    gone_tied (e ∷ ls) tied =
        ⊎_elim
        (λ (same : e.number ≡ n). rw (eq-eqb e.number n same) (gone_tied ls tied.1))
        (λ (apart : e.number ≢ n). rw (ne_eqb e.number n apart) (tied_kept e (key_apart e tied.0 apart) tied.0, gone_tied ls tied.1))
        (cases_eq e.number n)

    pub gone_held : (ls : List Entry) → AreTied s ls → map (held_by new) (filter (λ e. not (e.number == n)) ls) ≡ filter (λ h. not (h.row.number == n)) (map (held_by s) ls)
    gone_held [] tied = refl
    gone_held (e ∷ ls) tied =
        ⊎_elim
        (λ (same : e.number ≡ n). rw (eq-eqb e.number n same, eq-eqb (row_at s e.key).number n (tied.0.same ∙ same)) (gone_held ls tied.1))
        (λ (apart : e.number ≢ n).
        rw (ne_eqb e.number n apart, ne_eqb (row_at s e.key).number n (λ same. apart (sym tied.0.same ∙ same)))
        (ap₂ (λ (h : Held) (hs : List Held). h ∷ hs) (held_kept e (key_apart e tied.0 apart)) (gone_held ls tied.1)))
        (cases_eq e.number n)

    -- or another row of its number comes in its place
    module _ (row : CallbackRow) (placed : get new key ≡ Some row) (number : row.number ≡ n) where
      abbrev pub put : Held → Held
      put = λ h. if h.row.number == n then record { key = h.key; row = row } else h

      put_tied : (e : Entry) → IsTied s e → IsTied new e
      put_tied e tied =
          ⊎_elim
          (λ (same : e.key ≡ key).
          let is : row_at new e.key ≡ row = ap (row_at new) same ∙ ap row_or placed in
          record {
            here = ap (get new) same ∙ placed ∙ ap Some (sym is);
            same = ap (λ (c : CallbackRow). c.number) is ∙ number ∙ sym own ∙ ap (λ k. (row_at s k).number) (sym same) ∙ tied.same;
            within = omega (arith, tied.within, capacity);
          })
          (λ (apart : e.key ≢ key). tied_kept e apart tied)
          (cases_eq e.key key)

      pub all_put_tied : (ls : List Entry) → AreTied s ls → AreTied new ls
      all_put_tied [] tied = tt
      all_put_tied (e ∷ ls) tied = (put_tied e tied.0, all_put_tied ls tied.1)

      put_held : (e : Entry) → IsTied s e → (e.number ≡ n → e.key ≡ key) → held_by new e ≡ put (held_by s e)
      put_held e tied one =
          ⊎_elim
          (λ (same : e.number ≡ n).
          rw (eq-eqb (row_at s e.key).number n (tied.same ∙ same))
          (ap (λ (c : CallbackRow). let h : Held = record { key = e.key; row = c } in h) (ap (row_at new) (one same) ∙ ap row_or placed)))
          (λ (apart : e.number ≢ n).
          rw (ne_eqb (row_at s e.key).number n (λ same. apart (sym tied.same ∙ same)))
          (held_kept e (key_apart e tied apart)))
          (cases_eq e.number n)

      pub all_put : (ls : List Entry) → AreTied s ls → AllByRecursion (λ (e : Entry). e.number ≡ n → e.key ≡ key) ls → map (held_by new) ls ≡ map put (map (held_by s) ls)
      all_put [] tied ones = refl
      all_put (e ∷ ls) tied ones = ap₂ (λ (h : Held) (hs : List Held). h ∷ hs) (put_held e tied.0 ones.0) (all_put ls tied.1 ones.1)

-- the entries of a number have the key that is found
pub only_key : (n key : ℕ) (ls : List Entry) → Rises ls → option_map (λ (e : Entry). e.key) (find (λ e. e.number == n) ls) ≡ Some key → AllByRecursion (λ (e : Entry). e.number ≡ n → e.key ≡ key) ls
only_key n key [] rising found = tt
only_key n key (e ∷ ls) rising found =
    elim (e.number == n) as (λ b. (e.number == n) ≡ b → option_map (λ (f : Entry). f.key) (if b then Some e else find (λ f. f.number == n) ls) ≡ Some key → AllByRecursion (λ (f : Entry). f.number ≡ n → f.key ≡ key) (e ∷ ls)) [
      | true ↦ λ same here. (λ _. cc, none_else (eqb-true e.number n same) ls rising.0)
      | false ↦ λ other later. (λ same. absurd (let no : true ≡ false = sym (eq-eqb e.number n same) ∙ other in cc), only_key n key ls rising.1 later)
    ] refl found
  where
    none_else : e.number ≡ n → (fs : List Entry) → AreAbove e fs → AllByRecursion (λ (f : Entry). f.number ≡ n → f.key ≡ key) fs
    none_else same [] above = tt
    none_else same (f ∷ fs) above = (λ is. absurd (omega (arith, is, same, above.0)), none_else same fs above.1)
