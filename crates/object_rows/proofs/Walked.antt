-- The members of a group, gone along one after another.
use Rattle.std.proofs.Common.{◌≡◌, ℕ, zero, suc, ◌+◌, ◌-◌, ◌<◌, ◌≤◌, Bool, true, false, cond, ◌&&◌, ◌==◌, List, [], ◌∷◌, length, slice_get, Option, None, Some, is_some, option_map, refl, sym, ap, ap₂, ◌∙◌, subst, arith, filter, find, eqb-true, ⊎_elim}
use Rattle.std.specs.List.{range_with_len}
use Rattle.std.specs.Option.{option_map_or}
use Rattle.std.proofs.Math.Nat.{eq-or-lt_of_le}
use Rattle.std.proofs.lemmas.Bool.{eqb-false}
use Rattle.std.proofs.lemmas.List.{length-map}
use Rattle.std.proofs.lemmas.Option.{slice_get-map}
use Rattle.std.proofs.lemmas.List.FromFn.{length-range_with_len}
use Rattle.std.proofs.lemmas.List.Sums.{length-filter, count_by-le-length}
use Rattle.tp_base.specs.declared.rows.ObjectRow.{ObjectRow}
use Rattle.linked_lists.specs.Linked.{AreOwned, Linked, list_of, owner_of, place_after, tally, times}
use Rattle.tp_model.specs.Counts.{numbered}
use Rattle.tp_model.specs.Groups.{gets_notice, has_cancel, is_member, is_object_that, numbers_in, object_id, objects_that}
use Rattle.tp_model.proofs.Refusals.{false_true, made, numbered_some}
use Rattle.tp_model.proofs.Releasing.{that_made}
use Rattle.object_rows.specs.Listed.{AreMembered}
use Rattle.object_rows.specs.Objects.{notices_among}

-- ---- numbers of a range that pass a test

first_passing : (p : ℕ → Bool) (ns : List ℕ) → find p ns ≡ slice_get (filter p ns) 0
first_passing p [] = refl
first_passing p (n ∷ ns) = elim (p n) as (λ b. cond b (Some n) (find p ns) ≡ slice_get (cond b (n ∷ filter p ns) (filter p ns)) 0) [ true ↦ refl | false ↦ first_passing p ns ]

-- one is among those that pass, and behind it stands the next
record IsAmong (p : ℕ → Bool) (number first count : ℕ) : Type 0 where
  listed : 1 ≤ times number (filter p (range_with_len first count))
  behind : (left : ℕ) → first + count ≡ number + 1 + left → place_after number (filter p (range_with_len first count)) ≡ find p (range_with_len (number + 1) left)

is_among : (p : ℕ → Bool) (number first count : ℕ) → p number ≡ true → first ≤ number → number < first + count → IsAmong p number first count
is_among p number first zero passes from within = absurd (omega (arith, from, within))
is_among p number first (suc count) passes from within = by_number (first == number) refl (λ above. is_among p number (first + 1) count passes above (omega (arith, within)))
  where
    others : List ℕ
    others = filter p (range_with_len (first + 1) count)

    below : (first ≡ number → ⊥) → first + 1 ≤ number
    below apart = ⊎_elim (λ same. absurd (apart same)) (λ less. omega (arith, less)) (eq-or-lt_of_le from)

    by_number : (b : Bool) → (first == number) ≡ b → (first + 1 ≤ number → IsAmong p number (first + 1) count) → IsAmong p number first (suc count)
    by_number true e behind_it =
        let same : first ≡ number = eqb-true first number e in
        let here : filter p (range_with_len first (suc count)) ≡ first ∷ others = ap (λ b. cond b (first ∷ others) others) (ap p same ∙ passes) in
        record {
          listed = omega (arith, ap (times number) here, ap tally e);
          behind = λ left ends.
              ap (place_after number) here
              ∙ ap (λ b. cond b (slice_get others 0) (place_after number others)) e
              ∙ sym (first_passing p (range_with_len (first + 1) count)) ∙ ap₂ (λ f c. find p (range_with_len (f + 1) c)) same (omega (arith, ends, same));
        }
    by_number false e behind_it =
        let later = behind_it (below (λ same. eqb-false first number e same)) in
        record {
          listed = elim (p first) as (λ b. 1 ≤ times number (cond b (first ∷ others) others)) [
            | true ↦ omega (arith, later.listed)
            | false ↦ later.listed
          ];
          behind = λ left ends.
              elim (p first) as (λ b. place_after number (cond b (first ∷ others) others) ≡ place_after number others) [
                | true ↦ ap (λ b. cond b (slice_get others 0) (place_after number others)) e
                | false ↦ refl
              ]
              ∙ later.behind left (omega (arith, ends));
        }

-- what is found: none before it passes, and so what is left are it and those behind it
record Found (p q : ℕ → Bool) (first count number : ℕ) : Type 0 where
  left : ℕ
  ends : first + count ≡ number + 1 + left
  from : first ≤ number
  passes : p number ≡ true
  rest : filter q (range_with_len first count) ≡ filter q (number ∷ range_with_len (number + 1) left)

found : (p q : ℕ → Bool) → ((n : ℕ) → p n ≡ false → q n ≡ false) → (first count number : ℕ) → find p (range_with_len first count) ≡ Some number → Found p q first count number
found p q over first zero number e = absurd cc
found p q over first (suc count) number e =
    elim (p first) as (λ b. p first ≡ b → cond b (Some first) (find p (range_with_len (first + 1) count)) ≡ Some number → Found p q first (suc count) number) [
      | true ↦ λ passes is.
          let same : first ≡ number = cc in
          record { left = count; ends = omega (arith, same); from = omega (arith, same); passes = ap p (sym same) ∙ passes; rest = ap (λ n. filter q (n ∷ range_with_len (n + 1) count)) same }
      | false ↦ λ fails is.
          let later = found p q over (first + 1) count number is in
          record {
            left = later.left;
            ends = omega (arith, later.ends);
            from = omega (arith, later.from);
            passes = later.passes;
            rest = ap (λ b. cond b (first ∷ filter q (range_with_len (first + 1) count)) (filter q (range_with_len (first + 1) count))) (over first fails) ∙ later.rest;
          }
    ] refl e

none_found : (p q : ℕ → Bool) → ((n : ℕ) → p n ≡ false → q n ≡ false) → (ns : List ℕ) → find p ns ≡ None → filter q ns ≡ []
none_found p q over [] e = refl
none_found p q over (n ∷ ns) e =
    elim (p n) as (λ b. p n ≡ b → cond b (Some n) (find p ns) ≡ None → filter q (n ∷ ns) ≡ []) [
      | true ↦ λ _ is. absurd cc
      | false ↦ λ fails is. ap (λ b. cond b (n ∷ filter q ns) (filter q ns)) (over n fails) ∙ none_found p q over ns is
    ] refl e

-- ---- as the lists give them

module _ (groups limit : ℕ) (os : List ObjectRow) (members : Linked) (group : ℕ) (k : AreMembered groups limit os members) (within : group ≤ groups) where
  abbrev p : ℕ → Bool
  p = is_object_that (is_member group) os

  pub first_listed : slice_get (list_of members group) 0 ≡ find p (numbers_in os)
  first_listed = ap (λ ns. slice_get ns 0) (k.membered group within) ∙ sym (first_passing p (numbers_in os))

  module _ (number : ℕ) (member : p number ≡ true) where
    there : (1 ≤ number) × (number ≤ length os)
    there = that_made (is_member group) os number member

    at : IsAmong p number 1 (length os)
    at = is_among p number 1 (length os) member there.0 (omega (arith, there.1))

    -- a member is in the group's list
    pub owner_listed : AreOwned members → owner_of members number ≡ group
    owner_listed owned =
        eqb-true (owner_of members number) group
        (tally_true (owner_of members number == group)
        (omega (arith, owned.once group number (omega (arith, within, k.lists)), ap (times number) (k.membered group within), at.listed)))
      where
        tally_true : (b : Bool) → 1 ≤ tally b → b ≡ true
        tally_true true h = refl
        tally_true false h = absurd (omega (arith, h))

    pub next_listed : AreOwned members → place_after number (list_of members (owner_of members number)) ≡ find p (range_with_len (number + 1) (length os - number))
    next_listed owned =
        ap (λ g. place_after number (list_of members g)) (owner_listed owned) ∙ ap (place_after number) (k.membered group within)
        ∙ at.behind (length os - number) (omega (arith, there.1))

-- one that was made is numbered among them
pub has_stood : {X : Type 0} (rows : List X) (number : ℕ) → is_some (numbered rows number) ≡ true → (1 ≤ number) × (number ≤ length rows)
has_stood {X} rows number is = known (numbered rows number) refl is
  where
    known : (o : Option X) → numbered rows number ≡ o → is_some o ≡ true → (1 ≤ number) × (number ≤ length rows)
    known None e h = absurd (false_true h)
    known (Some row) e h =
        let at = numbered_some rows number row e in
        (at.1, omega (arith, at.1, made rows (number - 1) (ap is_some at.0)))

-- ---- those that get a notice

-- how many numbers there are from the next one on
abbrev pub left_from : List ObjectRow → Option ℕ → ℕ
left_from os None = 0
left_from os (Some number) = length os + 1 - number

module _ (os : List ObjectRow) (group : ℕ) where
  abbrev is_here : ℕ → Bool
  is_here = is_object_that (is_member group) os

  abbrev is_noticed : ℕ → Bool
  is_noticed = is_object_that (gets_notice group) os

  -- none that is no member
  over : (n : ℕ) → is_here n ≡ false → is_noticed n ≡ false
  over n = of_row (numbered os n)
    where
      of_row : (o : Option ObjectRow) → option_map_or (is_member group) o false ≡ false → option_map_or (gets_notice group) o false ≡ false
      of_row None out = refl
      of_row (Some row) out = ap (λ b. b && has_cancel row) out

  -- so many were counted, and the next member is the first one from a number on
  pub record Counting (next : Option ℕ) (count : ℕ) : Type 0 where
    pub from : ℕ
    pub left : ℕ
    pub ends : from + left ≡ 1 + length os
    pub first : next ≡ find is_here (range_with_len from left)
    pub counted : count + length (filter is_noticed (range_with_len from left)) ≡ length (objects_that (gets_notice group) os)

  pub counting_first : (next : Option ℕ) → next ≡ find is_here (numbers_in os) → Counting next 0
  counting_first next is = record { from = 1; left = length os; ends = refl; first = is; counted = omega arith }

  -- one more
  pub record CountsOne (number : ℕ) (next : Option ℕ) (count : ℕ) : Type 0 where
    pub member : is_here number ≡ true
    pub goes_on : (after : Option ℕ) (more : ℕ) → after ≡ find is_here (range_with_len (number + 1) (length os - number)) → more ≡ count + cond (is_noticed number) 1 0 → Counting after more
    pub later : (after : Option ℕ) → after ≡ find is_here (range_with_len (number + 1) (length os - number)) → left_from os after < left_from os next

  pub counts_one : (number : ℕ) (next : Option ℕ) (count : ℕ) → next ≡ Some number → Counting next count → CountsOne number next count
  counts_one number next count is k =
      record {
        member = f.passes;
        goes_on = λ after more found one_more.
            record {
              from = number + 1;
              left = length os - number;
              ends = omega (arith, f.ends, k.ends);
              first = found;
              counted = one_on (is_noticed number) more (ap length f.rest ∙ ap (λ n. length (filter is_noticed (number ∷ range_with_len (number + 1) n))) behind) one_more;
            };
        later = λ after found. subst (λ o. left_from os after < left_from os o) (sym is) (fewer after (sym found));
      }
    where
      f : Found is_here is_noticed k.from k.left number
      f = found is_here is_noticed over k.from k.left number (sym k.first ∙ is)

      behind : f.left ≡ length os - number
      behind = omega (arith, f.ends, k.ends)

      one_on : (b : Bool) (more : ℕ) → length (filter is_noticed (range_with_len k.from k.left)) ≡ length (cond b (number ∷ filter is_noticed (range_with_len (number + 1) (length os - number))) (filter is_noticed (range_with_len (number + 1) (length os - number)))) → more ≡ count + cond b 1 0
          → more + length (filter is_noticed (range_with_len (number + 1) (length os - number))) ≡ length (objects_that (gets_notice group) os)
      one_on true more left e = omega (arith, e, left, k.counted)
      one_on false more left e = omega (arith, e, left, k.counted)

      fewer : (after : Option ℕ) → find is_here (range_with_len (number + 1) (length os - number)) ≡ after → left_from os after < length os + 1 - number
      fewer None e = omega (arith, f.ends, k.ends)
      fewer (Some n) e =
          let g = found is_here is_noticed over (number + 1) (length os - number) n e in
          omega (arith, g.from, g.ends, f.ends, k.ends)

  -- there are no more of them than objects
  pub few_counted : (next : Option ℕ) (count : ℕ) → Counting next count → count ≤ length os
  few_counted next count k = omega (arith, k.counted, length-filter is_noticed (numbers_in os), count_by-le-length is_noticed (numbers_in os), length-range_with_len 1 (length os))

  pub all_counted : (count : ℕ) → Counting None count → count ≡ length (notices_among os group true)
  all_counted count k = omega (arith, k.counted, ap length (none_found is_here is_noticed over (range_with_len k.from k.left) (sym k.first)), length-map (objects_that (gets_notice group) os) object_id)
