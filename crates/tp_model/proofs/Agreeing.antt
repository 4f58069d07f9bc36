-- What the entries tell of callbacks agrees with their statuses, and does so where rows are made or replaced.
use Rattle.std.proofs.Common.{◌≡◌, ℕ, suc, zero, ◌+◌, Bool, true, false, cond, ◌||◌, ◌==◌, List, [], ◌∷◌, ◌++◌, length, Option, Some, None, refl, sym, ap, ◌∙◌, subst, arith, filter, find, eqb-true, length-append}
use Rattle.std.specs.List.{range_with_len}
use Rattle.std.specs.Option.{option_to_list}
use Rattle.std.proofs.lemmas.List.{append-nil}
use Rattle.std.proofs.lemmas.List.Elements.{filter-append}
use Rattle.std.proofs.lemmas.List.Folds.{list_any-append}
use Rattle.tp_base.specs.declared.rows.Status.{Status}
use Rattle.tp_base.specs.declared.rows.Status.TheVariants.{Expected, Issued, Pending, Running, Returned, Cancelled}
use Rattle.tp_base.specs.declared.rows.CallbackRow.{CallbackRow}
use Rattle.tp_model.specs.Counts.{has_number, is_pending}
use Rattle.tp_model.specs.Changes.{replaced}
use Rattle.tp_model.specs.Support.Sound.{IsRising}
use Rattle.tp_model.specs.Laws.Entries.{Run, is_among, times, Event}
use Rattle.tp_model.specs.Support.Told.{Deed, nothing}
use Rattle.tp_model.specs.Support.Moves.{is_new}
use Rattle.tp_model.specs.Waits.{cancelled as cancelled_row, cancel_where}
use Rattle.tp_model.proofs.Cancelling.{IsPendingTest, cancelled_if, cancelled_found, length_cancelled, find_cancelled, count_uncancelled, count_cancelled as count_dropped}
use Rattle.tp_model.proofs.Callbacks.{find_appended, find_replaced, find_replaced_other, length_replaced, length_filter_replaced}
use Rattle.tp_model.proofs.Refusals.{false_true, or_false}

-- ---- what a status says

abbrev pub has_begun : Status → Bool
has_begun (Running worker associated slots) = true
has_begun Returned = true
has_begun _ = false

abbrev pub is_cancelled : Status → Bool
is_cancelled Cancelled = true
is_cancelled _ = false

abbrev pub begun : CallbackRow → Bool
begun c = has_begun c.status

abbrev pub dropped : CallbackRow → Bool
dropped c = is_cancelled c.status

pub pending_unbegun : (s : Status) → is_pending s ≡ true → has_begun s ≡ false
pending_unbegun Pending e = refl
pending_unbegun Expected e = refl
pending_unbegun Issued e = refl
pending_unbegun (Running worker associated slots) e = cc
pending_unbegun Returned e = cc
pending_unbegun Cancelled e = refl

pub pending_uncancelled : (s : Status) → is_pending s ≡ true → is_cancelled s ≡ false
pending_uncancelled Cancelled e = cc
pending_uncancelled _ e = refl

new_unbegun : (s : Status) → is_new s ≡ true → has_begun s ≡ false
new_unbegun Expected e = refl
new_unbegun Pending e = refl
new_unbegun Issued e = refl
new_unbegun Cancelled e = refl
new_unbegun (Running worker associated slots) e = cc
new_unbegun Returned e = cc

new_uncancelled : (s : Status) → is_new s ≡ true → is_cancelled s ≡ false
new_uncancelled Cancelled e = cc
new_uncancelled _ e = refl

abbrev pub one_if : Bool → ℕ
one_if b = cond b 1 0

abbrev pub times_begun : Option CallbackRow → ℕ
times_begun None = 0
times_begun (Some c) = cond (has_begun c.status) 1 0

-- ---- the entries and the statuses agree

pub record Agrees (made taken cancelled : List ℕ) (count : ℕ) (cs : List CallbackRow) : Type 0 where
  pub in_order : made ≡ range_with_len 1 (length cs)
  pub taken_begun : (n : ℕ) → times n taken ≡ times_begun (find (has_number n) cs)
  pub named_cancelled : (n : ℕ) → is_among n cancelled ≡ true → (c : CallbackRow) × (find (has_number n) cs ≡ Some c) × (is_cancelled c.status ≡ true)
  pub as_many_taken : length taken ≡ length (filter begun cs)
  pub as_many_cancelled : count + length cancelled ≡ length (filter dropped cs)

-- with what an entry tells of the callbacks that there are
abbrev pub AgreesWith : List ℕ → List ℕ → List ℕ → ℕ → Deed → List CallbackRow → Type 0
AgreesWith made taken cancelled count deed cs =
    Agrees made (taken ++ option_to_list deed.taken) (cancelled ++ option_to_list deed.cancelled) (count + deed.count) cs

range_more : (a n : ℕ) → range_with_len a n ++ (a + n) ∷ [] ≡ range_with_len a (n + 1)
range_more a zero = let next : a + 0 ≡ a = omega arith in ap (λ m. m ∷ []) next
range_more a (suc n) =
    let next : a + suc n ≡ a + 1 + n = omega arith in
    let longer : suc (n + 1) ≡ suc n + 1 = omega arith in
    ap (λ m. a ∷ (range_with_len (a + 1) n ++ m ∷ [])) next ∙ ap (λ t. a ∷ t) (range_more (a + 1) n) ∙ ap (λ m. range_with_len a m) longer

pub count_appended : (p : CallbackRow → Bool) (cs : List CallbackRow) (c : CallbackRow) → p c ≡ false → length (filter p (cs ++ c ∷ [])) ≡ length (filter p cs)
count_appended p [] c out = ap (λ b. length (cond b (c ∷ []) [])) out
count_appended p (d ∷ cs) c out =
    elim (p d) as (λ b. length (cond b (d ∷ filter p (cs ++ c ∷ [])) (filter p (cs ++ c ∷ []))) ≡ length (cond b (d ∷ filter p cs) (filter p cs))) [
      | true ↦ ap suc (count_appended p cs c out)
      | false ↦ count_appended p cs c out
    ]

begun_appended : (n : ℕ) (cs : List CallbackRow) (c : CallbackRow) → has_begun c.status ≡ false → times_begun (find (has_number n) (cs ++ c ∷ [])) ≡ times_begun (find (has_number n) cs)
begun_appended n [] c still =
    elim (has_number n c) as (λ b. times_begun (cond b (Some c) None) ≡ 0) [
      | true ↦ ap one_if still
      | false ↦ refl
    ]
begun_appended n (d ∷ cs) c still =
    elim (has_number n d) as (λ b. times_begun (cond b (Some d) (find (has_number n) (cs ++ c ∷ []))) ≡ times_begun (cond b (Some d) (find (has_number n) cs))) [
      | true ↦ refl
      | false ↦ begun_appended n cs c still
    ]

-- the rows found for one number are one
pub same_row : (n m : ℕ) (x y : CallbackRow) (cs : List CallbackRow) → n ≡ m → find (has_number n) cs ≡ Some x → find (has_number m) cs ≡ Some y → x ≡ y
same_row n m x y cs e fx fy = let both_found : Some x ≡ Some y = sym fx ∙ ap (λ k. find (has_number k) cs) e ∙ fy in cc

module _ (made taken cancelled : List ℕ) (count : ℕ) (cs : List CallbackRow) where
  pub agrees_same : Agrees made taken cancelled count cs → AgreesWith made taken cancelled count nothing cs
  agrees_same a =
      record {
        in_order = a.in_order;
        taken_begun = λ n. ap (times n) (append-nil taken) ∙ a.taken_begun n;
        named_cancelled = λ n named. a.named_cancelled n (ap (is_among n) (sym (append-nil cancelled)) ∙ named);
        as_many_taken = ap length (append-nil taken) ∙ a.as_many_taken;
        as_many_cancelled = omega (arith, ap length (append-nil cancelled), a.as_many_cancelled);
      }

  -- one callback more, which has not begun
  pub agrees_made : (c : CallbackRow) (next_number : ℕ) → Agrees made taken cancelled count cs → next_number ≡ length cs + 1 → c.number ≡ next_number → is_new c.status ≡ true → Agrees (made ++ c.number ∷ []) taken cancelled count (cs ++ c ∷ [])
  agrees_made c next_number a is number new =
      record {
        in_order = ap (λ t. t ++ c.number ∷ []) a.in_order ∙ ap (λ n. range_with_len 1 (length cs) ++ n ∷ []) (omega (arith, is, number)) ∙ range_more 1 (length cs) ∙ ap (range_with_len 1) (sym (length-append cs (c ∷ [])));
        taken_begun = λ n. a.taken_begun n ∙ sym (begun_appended n cs c (new_unbegun c.status new));
        named_cancelled = λ n named. let old = a.named_cancelled n named in (old.0, find_appended n cs old.0 c old.1, old.2);
        as_many_taken = a.as_many_taken ∙ sym (count_appended begun cs c (new_unbegun c.status new));
        as_many_cancelled = omega (arith, a.as_many_cancelled, count_appended dropped cs c (new_uncancelled c.status new));
      }

  -- a row in place of the one of its number: what the others agree on stays
  module _ (next_number : ℕ) (c d : CallbackRow) (rising : IsRising 1 next_number cs) (found : find (has_number d.number) cs ≡ Some c) where
    replaced_cancelled : ((n : ℕ) → is_among n cancelled ≡ true → (x : CallbackRow) × (find (has_number n) cs ≡ Some x) × (is_cancelled x.status ≡ true)) → (is_cancelled c.status ≡ true → is_cancelled d.status ≡ true)
        → (n : ℕ) → is_among n cancelled ≡ true → (x : CallbackRow) × (find (has_number n) (replaced d cs) ≡ Some x) × (is_cancelled x.status ≡ true)
    replaced_cancelled old kept n named =
        let before = old n named in
        elim (has_number n d) as (λ b. has_number n d ≡ b → (x : CallbackRow) × (find (has_number n) (replaced d cs) ≡ Some x) × (is_cancelled x.status ≡ true)) [
          | true ↦ λ e.
              let is : d.number ≡ n = eqb-true d.number n e in
              let same : before.0 ≡ c = same_row n d.number before.0 c cs (sym is) before.1 found in
              (d, ap (λ k. find (has_number k) (replaced d cs)) (sym is) ∙ find_replaced d c cs found, kept (ap (λ (y : CallbackRow). is_cancelled y.status) (sym same) ∙ before.2))
          | false ↦ λ e. (before.0, find_replaced_other d n cs e ∙ before.1, before.2)
        ] refl

    as_many : (p : CallbackRow → Bool) → p d ≡ p c → length (filter p cs) ≡ length (filter p (replaced d cs))
    as_many p same = omega (arith, length_filter_replaced p d c 1 next_number cs rising found, ap one_if same)

    begun_still : has_begun d.status ≡ has_begun c.status → (n : ℕ) → times_begun (find (has_number n) cs) ≡ times_begun (find (has_number n) (replaced d cs))
    begun_still same_begun n =
        elim (has_number n d) as (λ b. has_number n d ≡ b → times_begun (find (has_number n) cs) ≡ times_begun (find (has_number n) (replaced d cs))) [
          | true ↦ λ e.
              let is : d.number ≡ n = eqb-true d.number n e in
              subst (λ k. times_begun (find (has_number k) cs) ≡ times_begun (find (has_number k) (replaced d cs))) is
              (ap times_begun found ∙ ap one_if (sym same_begun) ∙ ap times_begun (sym (find_replaced d c cs found)))
          | false ↦ λ e. ap times_begun (sym (find_replaced_other d n cs e))
        ] refl

    -- a callback that begins nothing new, nor is cancelled; or is pending as its operation completes
    pub agrees_put : Agrees made taken cancelled count cs → has_begun d.status ≡ has_begun c.status → is_cancelled d.status ≡ is_cancelled c.status
        → AgreesWith made taken cancelled count nothing (replaced d cs)
    agrees_put a same_begun same_cancelled =
        record {
          in_order = a.in_order ∙ ap (range_with_len 1) (sym (length_replaced d cs));
          taken_begun = λ n. ap (times n) (append-nil taken) ∙ a.taken_begun n ∙ begun_still same_begun n;
          named_cancelled = λ n named. replaced_cancelled a.named_cancelled (λ e. same_cancelled ∙ e) n (ap (is_among n) (sym (append-nil cancelled)) ∙ named);
          as_many_taken = ap length (append-nil taken) ∙ a.as_many_taken ∙ as_many begun same_begun;
          as_many_cancelled = omega (arith, ap length (append-nil cancelled), a.as_many_cancelled, as_many dropped same_cancelled);
        }

    -- an operation is not issued, so that its callback is cancelled
    pub agrees_given_up : Agrees made taken cancelled count cs → has_begun d.status ≡ has_begun c.status → is_cancelled d.status ≡ true → is_cancelled c.status ≡ false
        → AgreesWith made taken cancelled count (record nothing { cancelled = Some d.number }) (replaced d cs)
    agrees_given_up a same_begun now before =
        record {
          in_order = a.in_order ∙ ap (range_with_len 1) (sym (length_replaced d cs));
          taken_begun = λ n. ap (times n) (append-nil taken) ∙ a.taken_begun n ∙ begun_still same_begun n;
          named_cancelled = λ n named. either n named (d.number == n) refl;
          as_many_taken = ap length (append-nil taken) ∙ a.as_many_taken ∙ as_many begun same_begun;
          as_many_cancelled = omega (arith, length-append cancelled (d.number ∷ []), a.as_many_cancelled, length_filter_replaced dropped d c 1 next_number cs rising found, ap one_if now, ap one_if before);
        }
      where
        front : (n : ℕ) (xs : List ℕ) → is_among n (xs ++ d.number ∷ []) ≡ true → (d.number == n) ≡ false → is_among n xs ≡ true
        front n xs named other = sym (or_false (is_among n xs)) ∙ sym (list_any-append (λ m. m == n) xs (d.number ∷ []) ∙ ap (λ b. is_among n xs || (b || false)) other) ∙ named

        either : (n : ℕ) → is_among n (cancelled ++ d.number ∷ []) ≡ true → (b : Bool) → (d.number == n) ≡ b → (x : CallbackRow) × (find (has_number n) (replaced d cs) ≡ Some x) × (is_cancelled x.status ≡ true)
        either n named true e = (d, ap (λ k. find (has_number k) (replaced d cs)) (sym (eqb-true d.number n e)) ∙ find_replaced d c cs found, now)
        either n named false e = replaced_cancelled a.named_cancelled (λ _. now) n (front n cancelled named e)

    -- a pending callback is taken
    pub agrees_taken : (run : Option Run) (happens : Option Event) → Agrees made taken cancelled count cs → is_pending c.status ≡ true → has_begun d.status ≡ true → is_cancelled d.status ≡ false
        → AgreesWith made taken cancelled count (record nothing { taken = Some d.number; run = run; event = happens }) (replaced d cs)
    agrees_taken run happens a waits begins uncancelled =
        record {
          in_order = a.in_order ∙ ap (range_with_len 1) (sym (length_replaced d cs));
          taken_begun = λ n. times_more n ∙ as_begun n;
          named_cancelled = λ n named. replaced_cancelled a.named_cancelled (λ e. absurd (false_true (sym (pending_uncancelled c.status waits) ∙ e))) n (ap (is_among n) (sym (append-nil cancelled)) ∙ named);
          as_many_taken = omega (arith, length-append taken (d.number ∷ []), a.as_many_taken, length_filter_replaced begun d c 1 next_number cs rising found, ap one_if begins, ap one_if (pending_unbegun c.status waits));
          as_many_cancelled = omega (arith, ap length (append-nil cancelled), a.as_many_cancelled, length_filter_replaced dropped d c 1 next_number cs rising found, ap one_if uncancelled, ap one_if (pending_uncancelled c.status waits));
        }
      where
        times_more : (n : ℕ) → times n (taken ++ d.number ∷ []) ≡ times n taken + cond (d.number == n) 1 0
        times_more n =
            ap length (filter-append (λ m. m == n) taken (d.number ∷ [])) ∙ length-append (filter (λ m. m == n) taken) (filter (λ m. m == n) (d.number ∷ []))
            ∙ elim (d.number == n) as (λ b. times n taken + length (cond b (d.number ∷ []) []) ≡ times n taken + cond b 1 0) [ true ↦ refl | false ↦ refl ]

        as_begun : (n : ℕ) → times n taken + cond (d.number == n) 1 0 ≡ times_begun (find (has_number n) (replaced d cs))
        as_begun n =
            elim (d.number == n) as (λ b. (d.number == n) ≡ b → times n taken + cond b 1 0 ≡ times_begun (find (has_number n) (replaced d cs))) [
              | true ↦ λ e.
                  let is : d.number ≡ n = eqb-true d.number n e in
                  let none : times n taken ≡ 0 = a.taken_begun n ∙ ap (λ k. times_begun (find (has_number k) cs)) (sym is) ∙ ap times_begun found ∙ ap one_if (pending_unbegun c.status waits) in
                  let one : times_begun (find (has_number n) (replaced d cs)) ≡ 1 = ap (λ k. times_begun (find (has_number k) (replaced d cs))) (sym is) ∙ ap times_begun (find_replaced d c cs found) ∙ ap one_if begins in
                  omega (arith, none, one)
              | false ↦ λ e.
                  let others : times n taken ≡ times_begun (find (has_number n) (replaced d cs)) = a.taken_begun n ∙ ap times_begun (sym (find_replaced_other d n cs e)) in
                  omega (arith, others)
            ] refl

-- pending callbacks are cancelled
module _ (made taken cancelled : List ℕ) (count : ℕ) (cs : List CallbackRow) (test : CallbackRow → Bool) (only : IsPendingTest test) where
  still_begun : (n : ℕ) (o : Option CallbackRow) → times_begun (cancelled_found test o) ≡ times_begun o
  still_begun n None = refl
  still_begun n (Some c) = of_test (test c) refl
    where
      of_test : (b : Bool) → test c ≡ b → times_begun (cancelled_found test (Some c)) ≡ times_begun (Some c)
      of_test true e = ap (λ t. one_if (has_begun (cond t (cancelled_row c) c).status)) e ∙ sym (ap one_if (pending_unbegun c.status (only c e)))
      of_test false e = ap (λ t. one_if (has_begun (cond t (cancelled_row c) c).status)) e

  stays_cancelled : (o : Option CallbackRow) (c : CallbackRow) → o ≡ Some c → is_cancelled c.status ≡ true → (x : CallbackRow) × (cancelled_found test o ≡ Some x) × (is_cancelled x.status ≡ true)
  stays_cancelled o c is named = (cancelled_if test c, ap (cancelled_found test) is, of_test (test c))
    where
      of_test : (b : Bool) → is_cancelled (cond b (cancelled_row c) c).status ≡ true
      of_test true = refl
      of_test false = named

  pub agrees_cancelled : Agrees made taken cancelled count cs → AgreesWith made taken cancelled count (record nothing { count = length (filter test cs) }) (cancel_where test cs)
  agrees_cancelled a =
      record {
        in_order = a.in_order ∙ ap (range_with_len 1) (sym (length_cancelled test cs));
        taken_begun = λ n. ap (times n) (append-nil taken) ∙ a.taken_begun n ∙ sym (ap times_begun (find_cancelled test cs n) ∙ still_begun n (find (has_number n) cs));
        named_cancelled = λ n named.
            let old = a.named_cancelled n (ap (is_among n) (sym (append-nil cancelled)) ∙ named) in
            let now = stays_cancelled (find (has_number n) cs) old.0 old.1 old.2 in
            (now.0, find_cancelled test cs n ∙ now.1, now.2);
        as_many_taken = ap length (append-nil taken) ∙ a.as_many_taken ∙ sym (count_uncancelled begun test (λ c e. sym (pending_unbegun c.status (only c e))) cs);
        as_many_cancelled = omega (arith, ap length (append-nil cancelled), a.as_many_cancelled, count_dropped dropped test (λ c e. (refl, pending_uncancelled c.status (only c e))) cs);
      }
