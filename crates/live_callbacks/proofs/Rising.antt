-- Entries that rise by number, as a search by halving sees them.
use Rattle.std.proofs.Common.{◌≡◌, ◌≢◌, ℕ, ◌+◌, ◌<◌, ◌≤◌, ◌∙◌, ◌-◌, List, length, get_or, set, arith, ap, ⊎_elim}
use Rattle.std.specs.List.{All}
use Rattle.std.specs.List.Sorted.{IsNonDecreasingBy, IsPartitionPoint}
use Rattle.std.proofs.lemmas.Bool.{cases_eq, cases_lt}
use Rattle.std.proofs.lemmas.List.{get_or_default, get_or-set_same, get_or-set_other, length-set}
use Rattle.live_callbacks.specs.declared.places.Entry.{Entry}
use Rattle.live_callbacks.specs.Places.{EntriesRise, IsPlaceOf}

-- what rises strictly doesn't fall
pub numbers_rise : (es : List Entry) → EntriesRise es → IsNonDecreasingBy (λ (e : Entry). e.number) es
numbers_rise es rising i j d le within =
    grind (arith, rising i j d, λ (same : i ≡ j). ap (λ (k : ℕ). (get_or es k d).number) same)

-- the number stands at one place alone
pub place_here : (es : List Entry) (n i : ℕ) → EntriesRise es → i < length es → (e : Entry) → (get_or es i e).number ≡ n → IsPlaceOf es n i
place_here es n i rising within e here = record {
  within = within;
  here = λ d. ap (λ (x : Entry). x.number) (get_or_default es i d e within) ∙ here;
  others = λ k d lt other same. grind (arith, rising i k d, rising k i d, ap (λ (x : Entry). x.number) (get_or_default es i d e within));
}

-- no entry has the number where the first that isn't below n has another
pub place_missing : (es : List Entry) (n i : ℕ) → IsPartitionPoint (λ (e : Entry). e.number < n) (λ (e : Entry). n ≤ e.number) es i → EntriesRise es → ((d : Entry) → i < length es → (get_or es i d).number ≢ n) → All (λ (e : Entry). e.number ≢ n) es
place_missing es n i parted rising other k d lt same =
    grind (arith, parted.0 k d, parted.1 i d, rising i k d, other d, λ (at : i ≡ k). ap (λ (j : ℕ). (get_or es j d).number) at)

-- another entry of the same number in its place
pub rise_set : (es : List Entry) (n i : ℕ) (new : Entry) → EntriesRise es → IsPlaceOf es n i → new.number ≡ n → EntriesRise (set es i new)
rise_set es n i new rising at same j k d lt within =
    let inside : k < length es = omega (arith, within, length-set es i new) in
    let old = rising j k d lt inside in
    ⊎_elim
    (λ (first : j ≡ i).
    let other = get_or-set_other es i k new d (λ e. omega arith) in
    let here = get_or-set_same es i new d at.within in
    let was = at.here d in
    rw (first, other, here, same) (rw (first, was) at old))
    (λ (apart : j ≢ i).
    let one = get_or-set_other es i j new d apart in
    ⊎_elim
    (λ (second : k ≡ i).
    let here = get_or-set_same es i new d at.within in
    let was = at.here d in
    rw (one, second, here, same) (rw (second, was) at old))
    (λ (other : k ≢ i). let two = get_or-set_other es i k new d other in rw (one, two) old)
    (cases_eq k i))
    (cases_eq j i)

-- where the last is below n, all are
pub below_last : (es : List Entry) (n : ℕ) (e : Entry) → EntriesRise es → (get_or es (length es - 1) e).number < n → All (λ (x : Entry). x.number < n) es
below_last es n e rising below k d lt =
    let last = ap (λ (x : Entry). x.number) (get_or_default es (length es - 1) d e (omega arith)) in
    ⊎_elim
    (λ (before : k < length es - 1). let less = rising k (length es - 1) d before (omega arith) in omega arith)
    (λ (at : length es - 1 ≤ k). let is : k ≡ length es - 1 = omega arith in rw is (omega arith))
    (cases_lt k (length es - 1))

-- where the first is above n, all are
pub above_first : (es : List Entry) (n : ℕ) (e : Entry) → EntriesRise es → n < (get_or es 0 e).number → All (λ (x : Entry). n < x.number) es
above_first es n e rising above k d lt =
    let first = ap (λ (x : Entry). x.number) (get_or_default es 0 d e (omega arith)) in
    ⊎_elim
    (λ (behind : 0 < k). let more = rising 0 k d behind lt in omega arith)
    (λ (at : k ≤ 0). let is : k ≡ 0 = omega arith in rw is (omega arith))
    (cases_lt 0 k)

-- the entries up to n end behind the one that has it
pub parted_behind : (es : List Entry) (n i : ℕ) (e : Entry) → EntriesRise es → i < length es → (get_or es i e).number ≡ n → IsPartitionPoint (λ (x : Entry). x.number ≤ n) (λ (x : Entry). n < x.number) es (i + 1)
parted_behind es n i e rising within here = (
  λ k d low high. grind (arith, rising k i d, ap (λ (x : Entry). x.number) (get_or_default es i d e within), here, λ (at : k ≡ i). ap (λ (j : ℕ). (get_or es j d).number) at),
  λ k d low high. grind (arith, rising i k d, ap (λ (x : Entry). x.number) (get_or_default es i d e within), here),
)
