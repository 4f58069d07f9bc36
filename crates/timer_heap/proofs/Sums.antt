-- The sums over what is below the first place are those over all places.
use Rattle.std.proofs.Common.{◌≡◌, ◌+◌, ◌*◌, ◌^◌, ◌&&◌, ℕ, zero, suc, ◌≤◌, ◌<◌, Bool, true, false, List, [], ◌∷◌, filter, length, get_or, refl, sym, ap, ◌∙◌, arith, ⊎_elim}
use Rattle.std.specs.Prelude.{nat_lt, nat_le}
use Rattle.std.proofs.lemmas.Bool.{cases_lt}
use Rattle.std.proofs.lemmas.Bool.Decides.{nat_tests}
use Rattle.timer_heap.specs.Counting.{counts, is_wanted, under}
use Rattle.timer_heap.specs.Dues.{Entry, entry, comes_before, is_due, with_entry}
use Rattle.timer_heap.specs.Heap.{parent, rank_at, IsHeap}
use Rattle.timer_heap.specs.Held.{tally}
use Rattle.timer_heap.specs.Kept.{entries_of}
use Rattle.timer_heap.proofs.Told.{true_or_false}

-- the sum over so many places from one on
abbrev pub range : (ℕ → ℕ) → ℕ → ℕ → ℕ
range f a zero = 0
range f a (suc k) = range f a k + f (a + k)

range_zero : (f : ℕ → ℕ) (a k : ℕ) → ((p : ℕ) → a ≤ p → f p ≡ 0) → range f a k ≡ 0
range_zero f a zero none = refl
range_zero f a (suc k) none = omega (arith, range_zero f a k none, none (a + k) (omega arith))

range_join : (f : ℕ → ℕ) (a m k : ℕ) → range f a (m + k) ≡ range f a m + range f (a + m) k
range_join f a m zero = let e : m + 0 ≡ m = omega arith in rw e (omega arith)
range_join f a m (suc k) =
    let e : m + suc k ≡ suc (m + k) = omega arith in
    let same : f (a + (m + k)) ≡ f ((a + m) + k) = ap f (omega arith) in
    ap (range f a) e ∙ omega (arith, range_join f a m k, same)

range_front : (f : ℕ → ℕ) (k : ℕ) → range f 0 (suc k) ≡ f 0 + range (λ p. f (suc p)) 0 k
range_front f zero = omega arith
range_front f (suc k) =
    let same : f (0 + suc k) ≡ f (suc (0 + k)) = ap f (omega arith) in
    omega (arith, range_front f k, same)

pub range_same : (f g : ℕ → ℕ) (k : ℕ) → ((p : ℕ) → p < k → f p ≡ g p) → range f 0 k ≡ range g 0 k
range_same f g zero same = refl
range_same f g (suc k) same = omega (arith, range_same f g k (λ p lt. same p (omega arith)), same (0 + k) (omega arith))

range_most : (f : ℕ → ℕ) (k : ℕ) → ((p : ℕ) → f p ≤ 1) → range f 0 k ≤ k
range_most f zero most = omega arith
range_most f (suc k) most = omega (arith, range_most f k most, most (0 + k))

-- those below so many places are twice as many
range_below : (f : ℕ → ℕ) (depth a k : ℕ) → range (under f (suc depth)) a k ≡ range f a k + range (under f depth) (2 * a + 1) (2 * k)
range_below f depth a zero = refl
range_below f depth a (suc k) =
    let e : 2 * suc k ≡ suc (suc (2 * k)) = omega arith in
    let more = ap (range (under f depth) (2 * a + 1)) e in
    let left : under f depth (2 * (a + k) + 1) ≡ under f depth ((2 * a + 1) + 2 * k) = ap (under f depth) (omega arith) in
    let right : under f depth (2 * (a + k) + 2) ≡ under f depth ((2 * a + 1) + suc (2 * k)) = ap (under f depth) (omega arith) in
    omega (arith, range_below f depth a k, more, left, right)

module _ (f : ℕ → ℕ) (n : ℕ) (none : (p : ℕ) → n ≤ p → f p ≡ 0) where
  -- one level after another
  levels : (depth a m : ℕ) → n ≤ a + depth → n ≤ a + m → range (under f depth) a (suc a) ≡ range f a m
  levels zero a m deep far = range_zero (under f 0) a (suc a) (λ p le. refl) ∙ sym (range_zero f a m (λ p le. none p (omega arith)))
  levels (suc depth) a m deep far =
      let e : 2 * suc a ≡ suc (2 * a + 1) = omega arith in
      let below = ap (range (under f depth) (2 * a + 1)) e ∙ levels depth (2 * a + 1) m (omega arith) (omega arith) in
      let next : range f (2 * a + 1) m ≡ range f (a + suc a) m = ap (λ b. range f b m) (omega arith) in
      let order : range f a (suc a + m) ≡ range f a (m + suc a) = ap (range f a) (omega arith) in
      let past = range_zero f (a + m) (suc a) (λ p le. none p (omega arith)) in
      omega (arith, range_below f depth a (suc a), below, next, range_join f a (suc a) m, order, range_join f a m (suc a), past)

  pub under_root : (depth : ℕ) → n ≤ depth → under f depth 0 ≡ range f 0 n
  under_root depth deep =
      let all = levels depth 0 n (omega arith) (omega arith) in
      let own : under f depth (0 + 0) ≡ under f depth 0 = ap (under f depth) (omega arith) in
      omega (arith, all, own)

  pub under_past : (depth place : ℕ) → n ≤ place → under f depth place ≡ 0
  under_past zero place past = refl
  under_past (suc depth) place past =
      omega (arith, none place past, under_past depth (2 * place + 1) (omega arith), under_past depth (2 * place + 2) (omega arith))

  under_parent : (depth place : ℕ) → 0 < place → under f depth place ≤ under f (suc depth) (parent place)
  under_parent depth place some =
      ⊎_elim
      (λ (right : 2 * parent place + 1 < place).
      let own : under f depth place ≡ under f depth (2 * parent place + 2) = ap (under f depth) (omega arith) in
      omega (arith, own))
      (λ (left : place ≤ 2 * parent place + 1).
      let own : under f depth place ≡ under f depth (2 * parent place + 1) = ap (under f depth) (omega arith) in
      omega (arith, own))
      (cases_lt (2 * parent place + 1) place)

  -- there is no more below a place than there is at all
  under_all : (bound place depth : ℕ) → place ≤ bound → n ≤ depth → under f depth place ≤ range f 0 n
  under_all bound zero depth le deep = omega (arith, under_root depth deep)
  under_all zero (suc place) depth le deep = absurd (omega arith)
  under_all (suc bound) (suc place) depth le deep =
      omega (arith, under_parent depth (suc place) (omega arith), under_all bound (parent (suc place)) (suc depth) (omega arith) (omega arith))

  pub under_most : (place depth : ℕ) → n ≤ depth → ((p : ℕ) → f p ≤ 1) → under f depth place ≤ n
  under_most place depth deep most = omega (arith, under_all place place depth (omega arith) deep, range_most f n most)

-- where there is nothing at a place, and then nothing below it, the sum is nothing
pub under_none : (f : ℕ → ℕ) (N : ℕ → Type 0) → ((p : ℕ) → N p → f p ≡ 0) → ((p : ℕ) → N p → N (2 * p + 1)) → ((p : ℕ) → N p → N (2 * p + 2)) → (depth place : ℕ) → N place → under f depth place ≡ 0
under_none f N none left right zero place at = refl
under_none f N none left right (suc depth) place at =
    omega (arith, none place at, under_none f N none left right depth (2 * place + 1) (left place at), under_none f N none left right depth (2 * place + 2) (right place at))

-- a key comes due no earlier than the one above it
pub due_below : (dues held : List ℕ) → IsHeap (rank_at dues held) (length held) → ((p : ℕ) → p < length held → get_or held p 0 < 2 ^ 32) → (p q : ℕ) → parent q ≡ p → 0 < q → q < length held → get_or dues (get_or held p 0) 0 ≤ get_or dues (get_or held q 0) 0
due_below dues held heap small p q above some within =
    let edge = heap q some within in
    let over = ap (rank_at dues held) above in
    omega (arith, edge, over, small q within)

pub tally_most : (b : Bool) → tally b ≤ 1
tally_most true = omega arith
tally_most false = omega arith

and_false : (b : Bool) → (b && false) ≡ false
and_false true = refl
and_false false = refl

module _ (dues held : List ℕ) (t : ℕ) (passes : ℕ → Bool) where
  pub counts_most : (p : ℕ) → counts dues held t passes p ≤ 1
  counts_most p = tally_most (nat_lt p (length held) && is_wanted dues t passes (get_or held p 0))

  pub counts_past : (p : ℕ) → length held ≤ p → counts dues held t passes p ≡ 0
  counts_past p past =
      let not_here : nat_lt p (length held) ≡ false = grind (arith, nat_tests) in
      rw not_here refl

  pub counts_here : (p : ℕ) → p < length held → counts dues held t passes p ≡ tally (is_wanted dues t passes (get_or held p 0))
  counts_here p within =
      let here : nat_lt p (length held) ≡ true = grind (arith, nat_tests) in
      rw here refl

  -- a place whose key isn't due, or past the last
  IsLater : ℕ → Type 0
  IsLater p = p < length held → t < get_or dues (get_or held p 0) 0

  -- where the key at a place isn't due, none below it is
  pub not_due_under : IsHeap (rank_at dues held) (length held) → ((p : ℕ) → p < length held → get_or held p 0 < 2 ^ 32) → (depth place : ℕ) → (place < length held → t < get_or dues (get_or held place 0) 0) → under (counts dues held t passes) depth place ≡ 0
  unfolding IsLater
  not_due_under heap small depth place later =
      let later_at : (p : ℕ) → IsLater p → counts dues held t passes p ≡ 0
      = λ p at.
      ⊎_elim
      (λ (within : p < length held).
      let due = at within in
      let fails : nat_le (get_or dues (get_or held p 0) 0) t ≡ false = grind (arith, nat_tests) in
      counts_here p within ∙ rw fails (ap tally (and_false (passes (get_or held p 0)))))
      (λ past. counts_past p past)
      (cases_lt p (length held))
      in
      let later_below : (p q : ℕ) → IsLater p → parent q ≡ p → 0 < q → IsLater q
      = λ p q at above some within. omega (arith, at (omega (arith, within, above, some)), due_below dues held heap small p q above some within)
      in
      under_none (counts dues held t passes) IsLater later_at (λ p at. later_below p (2 * p + 1) at (omega arith) (omega arith)) (λ p at. later_below p (2 * p + 2) at (omega arith) (omega arith)) depth place later

-- how many keys pass
abbrev pub weigh : (ℕ → Bool) → List ℕ → ℕ
weigh h [] = 0
weigh h (x ∷ xs) = tally (h x) + weigh h xs

pub range_list : (h : ℕ → Bool) (xs : List ℕ) → range (λ p. tally (h (get_or xs p 0))) 0 (length xs) ≡ weigh h xs
range_list h [] = refl
range_list h (x ∷ xs) = range_front (λ p. tally (h (get_or (x ∷ xs) p 0))) (length xs) ∙ ap (λ n. tally (h x) + n) (range_list h xs)

pub length_filter : (q : Entry → Bool) (x : Entry) (xs : List Entry) → length (filter q (x ∷ xs)) ≡ tally (q x) + length (filter q xs)
length_filter q x xs =
    ⊎_elim
    (λ (passes : q x ≡ true). rw passes (omega arith))
    (λ (fails : q x ≡ false). rw fails (omega arith))
    (true_or_false (q x))

filter_with : (q : Entry → Bool) (e : Entry) (xs : List Entry) → length (filter q (with_entry e xs)) ≡ tally (q e) + length (filter q xs)
filter_with q e [] = length_filter q e []
filter_with q e (x ∷ xs) =
    ⊎_elim
    (λ (first : comes_before e x ≡ true). rw first (length_filter q e (x ∷ xs)))
    (λ (later : comes_before e x ≡ false).
    rw later (omega (arith, length_filter q x (with_entry e xs), filter_with q e xs, length_filter q x xs)))
    (true_or_false (comes_before e x))

pub filter_entries : (q : Entry → Bool) (dues held : List ℕ) → length (filter q (entries_of dues held)) ≡ weigh (λ k. q (entry k (get_or dues k 0))) held
filter_entries q dues [] = refl
filter_entries q dues (key ∷ held) = omega (arith, filter_with q (entry key (get_or dues key 0)) (entries_of dues held), filter_entries q dues held)

-- what is counted from the first place on are the entries that are due and pass
pub counted : (dues held : List ℕ) (t : ℕ) (passes : ℕ → Bool) (depth : ℕ) → length held ≤ depth → under (counts dues held t passes) depth 0 ≡ length (filter (λ e. passes e.key && is_due t e) (entries_of dues held))
counted dues held t passes depth deep =
    under_root (counts dues held t passes) (length held) (counts_past dues held t passes) depth deep
    ∙ range_same (counts dues held t passes) (λ p. tally (is_wanted dues t passes (get_or held p 0))) (length held) (counts_here dues held t passes)
    ∙ range_list (is_wanted dues t passes) held
    ∙ sym (filter_entries (λ e. passes e.key && is_due t e) dues held)

-- a place and what is below it, where that much was counted at each
pub step : (f : ℕ → ℕ) (n place here left right depth : ℕ) → place < n → n ≤ place + depth → here ≡ f place → ((d : ℕ) → n ≤ 2 * place + 1 + d → left ≡ under f d (2 * place + 1)) → ((d : ℕ) → n ≤ 2 * place + 2 + d → right ≡ under f d (2 * place + 2)) → here + left + right ≡ under f depth place
step f n place here left right zero within deep own first second = absurd (omega arith)
step f n place here left right (suc depth) within deep own first second = omega (arith, own, first depth (omega arith), second depth (omega arith))

pub step_most : (f : ℕ → ℕ) (n place here left right depth : ℕ) → place < n → n ≤ place + depth → here ≤ f place → ((d : ℕ) → n ≤ 2 * place + 1 + d → left ≤ under f d (2 * place + 1)) → ((d : ℕ) → n ≤ 2 * place + 2 + d → right ≤ under f d (2 * place + 2)) → here + left + right ≤ under f depth place
step_most f n place here left right zero within deep own first second = absurd (omega arith)
step_most f n place here left right (suc depth) within deep own first second = omega (arith, own, first depth (omega arith), second depth (omega arith))

and_true : (b : Bool) → (b && true) ≡ b
and_true true = refl
and_true false = refl

-- at a place whose key is due the test decides
pub counts_due : (dues held : List ℕ) (t : ℕ) (passes : ℕ → Bool) (p key : ℕ) → p < length held → key ≡ get_or held p 0 → get_or dues key 0 ≤ t → counts dues held t passes p ≡ tally (passes key)
counts_due dues held t passes p key within is due =
    let now : nat_le (get_or dues key 0) t ≡ true = grind (arith, nat_tests) in
    counts_here dues held t passes p within ∙ ap (λ k. tally (is_wanted dues t passes k)) (sym is) ∙ rw now (ap tally (and_true (passes key)))
