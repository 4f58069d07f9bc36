-- The members of a group, where one more object is made and where one is released.
use Rattle.std.proofs.Common.{◌≡◌, ℕ, zero, suc, ◌+◌, ◌-◌, ◌<◌, ◌≤◌, Bool, true, false, cond, not, ◌&&◌, ◌==◌, List, [], ◌∷◌, ◌++◌, length, get_or, slice_set, Option, Some, refl, sym, ap, ap₂, ◌∙◌, arith, filter, eqb-true, eq-eqb, option_map, length-append, length-set}
use Rattle.std.specs.List.{range_with_len}
use Rattle.std.specs.Option.{option_map_or}
use Rattle.std.proofs.lemmas.Option.{slice_get-get_or}
use Rattle.tp_base.specs.declared.rows.ObjectRow.{ObjectRow}
use Rattle.tp_model.specs.Counts.{numbered}
use Rattle.tp_model.specs.Groups.{is_member, is_object_that, numbers_in, objects_that}
use Rattle.tp_model.proofs.ObjectMoves.{appended_own}
use Rattle.tp_model.proofs.Refusals.{and_false, numbered_at}
use Rattle.tp_model.proofs.Releasing.{one_released, released_if, that_kept, that_stands}
use Rattle.tp_model.proofs.SoundObjects.{numbered_append}

-- ---- one more object

-- the numbers of a longer range that pass
longer_range : (p q : ℕ → Bool) (first count : ℕ) → ((n : ℕ) → first ≤ n → n < first + count → q n ≡ p n) → filter q (range_with_len first (suc count)) ≡ filter p (range_with_len first count) ++ cond (q (first + count)) ((first + count) ∷ []) []
longer_range p q first zero same =
    let last : first ≡ first + 0 = omega arith in
    ap (λ n. cond (q n) (n ∷ []) []) last
longer_range p q first (suc count) same =
    let last : first + 1 + count ≡ first + suc count = omega arith in
    let more : ℕ → List ℕ = λ n. cond (q n) (n ∷ []) [] in
    let later : filter q (range_with_len (first + 1) (suc count)) ≡ filter p (range_with_len (first + 1) count) ++ more (first + suc count)
    = longer_range p q (first + 1) count (λ n le lt. same n (omega (arith, le)) (omega (arith, lt))) ∙ ap (λ n. filter p (range_with_len (first + 1) count) ++ more n) last in
    ap₂ (λ b t. cond b (first ∷ t) t) (same first (omega arith) (omega arith)) later
    ∙ elim (p first) as (λ b. cond b (first ∷ (filter p (range_with_len (first + 1) count) ++ more (first + suc count))) (filter p (range_with_len (first + 1) count) ++ more (first + suc count))
    ≡ cond b (first ∷ filter p (range_with_len (first + 1) count)) (filter p (range_with_len (first + 1) count)) ++ more (first + suc count)) [ true ↦ refl | false ↦ refl ]

pub one_more : (test : ObjectRow → Bool) (os : List ObjectRow) (o : ObjectRow) → objects_that test (os ++ o ∷ []) ≡ objects_that test os ++ cond (test o) ((length os + 1) ∷ []) []
one_more test os o =
    let longer : length (os ++ o ∷ []) ≡ suc (length os) = omega (arith, length-append os (o ∷ [])) in
    let last : 1 + length os ≡ length os + 1 = omega arith in
    ap (λ n. filter (is_object_that test (os ++ o ∷ [])) (range_with_len 1 n)) longer
    ∙ longer_range (is_object_that test os) (is_object_that test (os ++ o ∷ [])) 1 (length os) kept
    ∙ ap (λ n. objects_that test os ++ cond (is_object_that test (os ++ o ∷ []) n) (n ∷ []) []) last
    ∙ ap (λ b. objects_that test os ++ cond b ((length os + 1) ∷ []) []) (that_stands test (os ++ o ∷ []) (length os + 1) o (appended_own os o))
  where
    kept : (n : ℕ) → 1 ≤ n → n < 1 + length os → is_object_that test (os ++ o ∷ []) n ≡ is_object_that test os n
    kept n from_one within =
        let row : ObjectRow = get_or os (n - 1) o in
        let here : numbered os n ≡ Some row = numbered_at os n row from_one (slice_get-get_or os (n - 1) o (omega (arith, from_one, within))) in
        that_stands test (os ++ o ∷ []) n row (numbered_append os o n row here) ∙ sym (that_stands test os n row here)

-- ---- one that is released

filter_less : (p q r : ℕ → Bool) → ((n : ℕ) → (q n && r n) ≡ p n) → (ns : List ℕ) → filter r (filter q ns) ≡ filter p ns
filter_less p q r same [] = refl
filter_less p q r same (n ∷ ns) =
    elim (q n) as (λ b. (b && r n) ≡ p n → filter r (cond b (n ∷ filter q ns) (filter q ns)) ≡ filter p (n ∷ ns)) [
      | true ↦ λ e. ap₂ (λ b t. cond b (n ∷ t) t) e (filter_less p q r same ns)
      | false ↦ λ e. filter_less p q r same ns ∙ ap (λ b. cond b (n ∷ filter p ns) (filter p ns)) e
    ] (same n)

pub one_less : (group number : ℕ) (os : List ObjectRow) (row : ObjectRow) → numbered os number ≡ Some row
    → objects_that (is_member group) (slice_set os (number - 1) (record row { released = true })) ≡ filter (λ n. not (n == number)) (objects_that (is_member group) os)
one_less group number os row is =
    ap (λ count. filter after (range_with_len 1 count)) (length-set os (number - 1) (record row { released = true }))
    ∙ sym (filter_less after (is_object_that (is_member group) os) (λ n. not (n == number)) (λ n. by_number n (n == number) refl) (numbers_in os))
  where
    after : ℕ → Bool
    after = is_object_that (is_member group) (slice_set os (number - 1) (record row { released = true }))

    own : after number ≡ false
    own = ap (λ o. option_map_or (is_member group) o false) (one_released os number row is number ∙ ap₂ (λ b (o : Option ObjectRow). option_map (released_if b) o) (eq-eqb number number refl) is)

    and_true : (b : Bool) → (b && true) ≡ b
    and_true true = refl
    and_true false = refl

    by_number : (n : ℕ) (b : Bool) → (n == number) ≡ b → (is_object_that (is_member group) os n && not (n == number)) ≡ after n
    by_number n true e = ap (λ b. is_object_that (is_member group) os n && not b) e ∙ and_false (is_object_that (is_member group) os n) ∙ sym (ap after (eqb-true n number e) ∙ own)
    by_number n false e =
        ap (λ b. is_object_that (is_member group) os n && not b) e ∙ and_true (is_object_that (is_member group) os n)
        ∙ sym (that_kept (is_member group) (λ m. m == number) os (slice_set os (number - 1) (record row { released = true })) (one_released os number row is) n e)
