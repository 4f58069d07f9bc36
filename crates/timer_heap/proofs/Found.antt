-- The least of the values of keys, found by going down a heap, is that of the entries.
use Rattle.std.proofs.Common.{◌≡◌, ◌+◌, ◌*◌, ◌^◌, ℕ, zero, suc, ◌≤◌, ◌<◌, true, false, List, [], ◌∷◌, Option, None, Some, filter, length, get_or, refl, sym, ap, ◌∙◌, arith, ⊎_elim}
use Rattle.std.specs.Prelude.{nat_lt}
use Rattle.std.proofs.lemmas.Bool.{cases_lt}
use Rattle.std.proofs.lemmas.Bool.Decides.{nat_tests}
use Rattle.timer_heap.specs.Counting.{under}
use Rattle.timer_heap.specs.Dues.{Entry, entry}
use Rattle.timer_heap.specs.Heap.{parent, rank_at, IsHeap}
use Rattle.timer_heap.specs.Held.{tally}
use Rattle.timer_heap.specs.Kept.{entries_of}
use Rattle.timer_heap.specs.Least.{falls_below, is_passed, least, lesser, IsAtMost, IsFound, IsNoEarlier}
use Rattle.timer_heap.proofs.Sums.{due_below, filter_entries, length_filter, range_list, range_same, under_none, under_root}

lesser_value : (value : ℕ) (other : Option ℕ) (bound : ℕ) → bound ≤ lesser value other → bound ≤ value
lesser_value value None bound at = at
lesser_value value (Some other) bound at = omega (arith, at)

lesser_other : (value : ℕ) (other : Option ℕ) (bound : ℕ) → bound ≤ lesser value other → IsAtMost bound other
lesser_other value None bound at = tt
lesser_other value (Some other) bound at = omega (arith, at)

lesser_both : (value : ℕ) (other : Option ℕ) (bound : ℕ) → bound ≤ value → IsAtMost bound other → bound ≤ lesser value other
lesser_both value None bound one two = one
lesser_both value (Some other) bound one two = omega (arith, one, two)

-- where no value is below it, what was there so far is found
pub found_none : (below : ℕ → ℕ) (so_far : Option ℕ) → ((bound : ℕ) → IsAtMost bound so_far → below bound ≡ 0) → IsFound below so_far so_far
found_none below so_far none = record { before = λ bound at. at; none = none; least = λ bound at _. at }

passed_bound : (due : ℕ) (so_far : Option ℕ) (bound : ℕ) → is_passed due so_far ≡ true → IsAtMost bound so_far → bound ≤ due
passed_bound due None bound passed at = absurd cc
passed_bound due (Some so_far) bound passed at = grind (arith, nat_tests)

module _ (dues held : List ℕ) (value : Entry → ℕ) where
  pub falls_past : (bound p : ℕ) → length held ≤ p → falls_below dues held value bound p ≡ 0
  falls_past bound p past =
      let not_here : nat_lt p (length held) ≡ false = grind (arith, nat_tests) in
      rw not_here refl

  falls_here : (bound p : ℕ) → p < length held → falls_below dues held value bound p ≡ tally (nat_lt (value (entry (get_or held p 0) (get_or dues (get_or held p 0) 0))) bound)
  falls_here bound p within =
      let here : nat_lt p (length held) ≡ true = grind (arith, nat_tests) in
      rw here refl

  not_below : (bound p : ℕ) → p < length held → bound ≤ value (entry (get_or held p 0) (get_or dues (get_or held p 0) 0)) → falls_below dues held value bound p ≡ 0
  not_below bound p within at =
      let fails : nat_lt (value (entry (get_or held p 0) (get_or dues (get_or held p 0) 0))) bound ≡ false = grind (arith, nat_tests) in
      falls_here bound p within ∙ ap tally fails

  none_below : (bound p : ℕ) → p < length held → falls_below dues held value bound p ≡ 0 → bound ≤ value (entry (get_or held p 0) (get_or dues (get_or held p 0) 0))
  none_below bound p within none =
      ⊎_elim
      (λ (lower : value (entry (get_or held p 0) (get_or dues (get_or held p 0) 0)) < bound).
      let falls : nat_lt (value (entry (get_or held p 0) (get_or dues (get_or held p 0) 0))) bound ≡ true = grind (arith, nat_tests) in
      let one = ap tally falls in
      absurd (omega (arith, falls_here bound p within, one, none)))
      (λ at. at)
      (cases_lt (value (entry (get_or held p 0) (get_or dues (get_or held p 0) 0))) bound)

  -- a place whose key comes due no earlier than at a moment, or past the last
  IsOver : ℕ → ℕ → Type 0
  IsOver bound p = p < length held → bound ≤ get_or dues (get_or held p 0) 0

  -- where the key at a place isn't due earlier, no value below it is less
  over_under : IsHeap (rank_at dues held) (length held) → ((p : ℕ) → p < length held → get_or held p 0 < 2 ^ 32) → IsNoEarlier value → (bound depth place : ℕ) → (place < length held → bound ≤ get_or dues (get_or held place 0) 0) → under (falls_below dues held value bound) depth place ≡ 0
  unfolding IsOver
  over_under heap small later bound depth place over =
      let none_at : (p : ℕ) → IsOver bound p → falls_below dues held value bound p ≡ 0
      = λ p at.
      ⊎_elim
      (λ (within : p < length held). not_below bound p within (omega (arith, at within, later (entry (get_or held p 0) (get_or dues (get_or held p 0) 0)))))
      (λ past. falls_past bound p past)
      (cases_lt p (length held))
      in
      let over_below : (p q : ℕ) → IsOver bound p → parent q ≡ p → 0 < q → IsOver bound q
      = λ p q at above some within. omega (arith, at (omega (arith, within, above, some)), due_below dues held heap small p q above some within)
      in
      under_none (falls_below dues held value bound) (IsOver bound) none_at (λ p at. over_below p (2 * p + 1) at (omega arith) (omega arith)) (λ p at. over_below p (2 * p + 2) at (omega arith) (omega arith)) depth place over

  pub found_passed : IsHeap (rank_at dues held) (length held) → ((p : ℕ) → p < length held → get_or held p 0 < 2 ^ 32) → IsNoEarlier value → (so_far : Option ℕ) (depth place : ℕ) → is_passed (get_or dues (get_or held place 0) 0) so_far ≡ true → IsFound (λ bound. under (falls_below dues held value bound) depth place) so_far so_far
  found_passed heap small later so_far depth place passed =
      found_none _ so_far (λ bound at. over_under heap small later bound depth place (λ within. passed_bound _ so_far bound passed at))

  -- the value at a place, and then those below it
  pub found_step : (so_far left right : Option ℕ) (here place depth : ℕ) → place < length held → length held ≤ place + depth → here ≡ lesser (value (entry (get_or held place 0) (get_or dues (get_or held place 0) 0))) so_far → ((d : ℕ) → length held ≤ 2 * place + 1 + d → IsFound (λ bound. under (falls_below dues held value bound) d (2 * place + 1)) (Some here) left) → ((d : ℕ) → length held ≤ 2 * place + 2 + d → IsFound (λ bound. under (falls_below dues held value bound) d (2 * place + 2)) left right) → IsFound (λ bound. under (falls_below dues held value bound) depth place) so_far right
  found_step so_far left right here place zero within deep is first second = absurd (omega arith)
  found_step so_far left right here place (suc depth) within deep is first second =
      let own = value (entry (get_or held place 0) (get_or dues (get_or held place 0) 0)) in
      let one = first depth (omega arith) in
      let two = second depth (omega arith) in
      let least_here : (bound : ℕ) → IsAtMost bound right → bound ≤ lesser own so_far
      = λ bound at. omega (arith, is, one.before bound (two.before bound at))
      in
      record {
        before = λ bound at. lesser_other own so_far bound (least_here bound at);
        none = λ bound at. omega (arith, not_below bound place within (lesser_value own so_far bound (least_here bound at)), one.none bound (two.before bound at), two.none bound at);
        least =
            λ bound at none.
            two.least bound
            (one.least bound (omega (arith, is, lesser_both own so_far bound (none_below bound place within (omega (arith, none))) at)) (omega (arith, none)))
            (omega (arith, none));
      }

  falls_list : (bound depth : ℕ) → length held ≤ depth → under (falls_below dues held value bound) depth 0 ≡ length (filter (λ e. nat_lt (value e) bound) (entries_of dues held))
  falls_list bound depth deep =
      under_root (falls_below dues held value bound) (length held) (falls_past bound) depth deep
      ∙ range_same (falls_below dues held value bound) (λ p. tally (nat_lt (value (entry (get_or held p 0) (get_or dues (get_or held p 0) 0))) bound)) (length held) (falls_here bound)
      ∙ range_list (λ k. nat_lt (value (entry k (get_or dues k 0))) bound) held
      ∙ sym (filter_entries (λ e. nat_lt (value e) bound) dues held)

least_found : (value : Entry → ℕ) (es : List Entry) → IsFound (λ bound. length (filter (λ e. nat_lt (value e) bound) es)) None (least value es)
least_found value [] = record { before = λ bound at. tt; none = λ bound at. refl; least = λ bound at none. tt }
least_found value (e ∷ es) =
    let rest = least_found value es in
    record {
      before = λ bound at. tt;
      none =
          λ bound at.
          let above = lesser_value (value e) (least value es) bound at in
          let fails : nat_lt (value e) bound ≡ false = grind (arith, nat_tests) in
          let own = ap tally fails in
          omega (arith, length_filter (λ e. nat_lt (value e) bound) e es, own, rest.none bound (lesser_other (value e) (least value es) bound at));
      least =
          λ bound at none.
          let split = length_filter (λ e. nat_lt (value e) bound) e es in
          ⊎_elim
          (λ (lower : value e < bound).
          let falls : nat_lt (value e) bound ≡ true = grind (arith, nat_tests) in
          let one = ap tally falls in
          absurd (omega (arith, split, one, none)))
          (λ above. lesser_both (value e) (least value es) bound above (rest.least bound tt (omega (arith, split, none))))
          (cases_lt (value e) bound);
    }

same_bounds : (x y : Option ℕ) → ((bound : ℕ) → IsAtMost bound x → IsAtMost bound y) → ((bound : ℕ) → IsAtMost bound y → IsAtMost bound x) → x ≡ y
same_bounds None None up down = refl
same_bounds None (Some m) up down = absurd (omega (arith, up (suc m) tt))
same_bounds (Some n) None up down = absurd (omega (arith, down (suc n) tt))
same_bounds (Some n) (Some m) up down = ap Some (omega (arith, up n (omega arith), down m (omega arith)))

-- what is found from the first place on is the least of the entries
pub found_least : (dues held : List ℕ) (value : Entry → ℕ) (depth : ℕ) (found : Option ℕ) → length held ≤ depth → IsFound (λ bound. under (falls_below dues held value bound) depth 0) None found → found ≡ least value (entries_of dues held)
found_least dues held value depth found deep is =
    let told = least_found value (entries_of dues held) in
    same_bounds found (least value (entries_of dues held))
    (λ bound at. told.least bound tt (sym (falls_list dues held value bound depth deep) ∙ is.none bound at))
    (λ bound at. is.least bound tt (falls_list dues held value bound depth deep ∙ told.none bound at))
