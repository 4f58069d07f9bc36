-- What the two halves of a pool's queues come to together.
use Rattle.std.proofs.Common.{◌≡◌, ℕ, ◌+◌, ◌<◌, ◌≤◌, ◌⊎◌, Bool, true, false, not, ◌&&◌, ◌||◌, ◌==◌, nat_eq, List, [], ◌∷◌, ◌++◌, Option, Some, None, IfSome, inl, inr, filter, find, length, if◌then◌else◌, slice_get, refl, sym, ap, ap₂, ◌∙◌, arith}
use Rattle.std.specs.List.{AllByRecursion, list_any}
use Rattle.std.proofs.lemmas.Bool.Decides.{nat_tests}
use Rattle.tp_base.specs.declared.calls.Priority.{Priority}
use Rattle.tp_base.specs.declared.calls.Priority.TheVariants.{High, Normal, Low}
use Rattle.tp_base.specs.declared.rows.CallbackRow.{CallbackRow}
use Rattle.tp_model.specs.Counts.{is_high, is_low, is_normal, is_pending, is_pending_in}
use Rattle.tp_model.specs.Support.Sound.{IsRising}
use Rattle.tp_model.proofs.Lists.{find_all, find_passes}
use Rattle.live_callbacks.specs.Callbacks.{is_open, is_waiting, is_waiting_persistent, queue_among}
use Rattle.live_callbacks.specs.Lists.{priority_number}
use Rattle.live_callbacks.specs.Queues.{half_among, is_pending_half, is_queued, is_sooner, sooner_of}
use Rattle.live_callbacks.proofs.Found.{AllAgree, filter_same, first_filtered}

-- ---- one half alone

-- where the test holds of none, none is counted
pub no_waiting : (cs : List CallbackRow) → list_any is_waiting_persistent cs ≡ false → length (filter is_waiting_persistent cs) ≡ 0
no_waiting [] none = refl
no_waiting (c ∷ cs) none =
    elim (is_waiting_persistent c) as (λ (b : Bool). (b || list_any is_waiting_persistent cs) ≡ false → length (if b then c ∷ filter is_waiting_persistent cs else filter is_waiting_persistent cs) ≡ 0) [
      | true ↦ λ e. absurd cc
      | false ↦ λ e. no_waiting cs e
    ] none

-- it holds of none where none is counted
pub any_waiting : (cs : List CallbackRow) → nat_eq (length (filter is_waiting_persistent cs)) 0 ≡ not (list_any is_waiting_persistent cs)
any_waiting [] = refl
any_waiting (c ∷ cs) =
    elim (is_waiting_persistent c) as (λ (b : Bool). nat_eq (length (if b then c ∷ filter is_waiting_persistent cs else filter is_waiting_persistent cs)) 0 ≡ not (b || list_any is_waiting_persistent cs)) [
      | true ↦ grind (arith, nat_tests)
      | false ↦ any_waiting cs
    ]

-- where one half is asked alone, where only others are asked for or none is persistent that is pending
pub when_alone : (all : Bool) (waiting : ℕ) (cs : List CallbackRow) → waiting ≡ length (filter is_waiting_persistent cs) → (all ≡ false) ⊎ ((all ≡ true) × (waiting ≡ 0)) → all ≡ true → length (filter is_waiting_persistent cs) ≡ 0
when_alone all waiting cs counted (inl others) is = let no : false ≡ true = sym others ∙ is in absurd cc
when_alone all waiting cs counted (inr none) is = sym counted ∙ none.1

module _ (pool : ℕ) where
  -- by who takes no persistent ones
  others_open : (cs : List CallbackRow) → AllAgree (is_open pool false) (is_pending_half pool false) cs
  others_open [] = tt
  others_open (c ∷ cs) = (ap (λ b. is_pending_in pool c && b) (or_false (not c.persistent)), others_open cs)
    where
      or_false : (b : Bool) → (b || false) ≡ b
      or_false true = refl
      or_false false = refl

  -- or where none is persistent that is pending
  pub none_waiting : (cs : List CallbackRow) → length (filter is_waiting_persistent cs) ≡ 0 → AllByRecursion (λ (c : CallbackRow). is_waiting_persistent c ≡ false) cs
  none_waiting [] none = tt
  none_waiting (c ∷ cs) none =
      elim (is_waiting_persistent c) as (λ (b : Bool). is_waiting_persistent c ≡ b → length (if b then c ∷ filter is_waiting_persistent cs else filter is_waiting_persistent cs) ≡ 0 → AllByRecursion (λ (d : CallbackRow). is_waiting_persistent d ≡ false) (c ∷ cs)) [
        | true ↦ λ _ n. absurd (omega (arith, n))
        | false ↦ λ is n. (is, none_waiting cs n)
      ] refl none

  all_open : (cs : List CallbackRow) → AllByRecursion (λ (c : CallbackRow). is_waiting_persistent c ≡ false) cs → AllAgree (is_open pool true) (is_pending_half pool false) cs
  all_open [] none = tt
  all_open (c ∷ cs) none = (one (is_pending c.status) (c.pool.0 == pool) c.persistent none.0, all_open cs none.1)
    where
      one : (s p m : Bool) → (s && m) ≡ false → ((s && p) && (not m || true)) ≡ ((s && p) && not m)
      one true true true e = absurd cc
      one true true false e = refl
      one true false m e = refl
      one false p m e = refl

  -- what counts as much counts as much of each priority
  with_test : (all : Bool) (test : Priority → Bool) (cs : List CallbackRow) → AllAgree (is_open pool all) (is_pending_half pool false) cs → AllAgree (is_waiting pool all test) (is_queued pool false test) cs
  with_test all test [] agree = tt
  with_test all test (c ∷ cs) agree = (ap (λ b. b && test c.priority) agree.0, with_test all test cs agree.1)

  pub half_alone : (all : Bool) (cs : List CallbackRow) → AllAgree (is_open pool all) (is_pending_half pool false) cs → half_among cs pool false ≡ queue_among cs pool all
  half_alone all cs agree =
      let high = filter_same (is_waiting pool all is_high) (is_queued pool false is_high) cs (with_test all is_high cs agree) in
      let normal = filter_same (is_waiting pool all is_normal) (is_queued pool false is_normal) cs (with_test all is_normal cs agree) in
      let low = filter_same (is_waiting pool all is_low) (is_queued pool false is_low) cs (with_test all is_low cs agree) in
      sym
      (ap (λ (h : List CallbackRow). h ++ filter (is_waiting pool all is_normal) cs ++ filter (is_waiting pool all is_low) cs) high
      ∙ ap (λ (n : List CallbackRow). filter (is_queued pool false is_high) cs ++ n ++ filter (is_waiting pool all is_low) cs) normal
      ∙ ap (λ (l : List CallbackRow). filter (is_queued pool false is_high) cs ++ filter (is_queued pool false is_normal) cs ++ l) low)

  pub count_alone : (all : Bool) (cs : List CallbackRow) → AllAgree (is_open pool all) (is_pending_half pool false) cs → length (filter (is_pending_half pool false) cs) ≡ length (filter (is_open pool all) cs)
  count_alone all cs agree = sym (ap (λ (ds : List CallbackRow). length ds) (filter_same (is_open pool all) (is_pending_half pool false) cs agree))

  -- the half that is asked alone, where only others are asked for or none is persistent that is pending
  pub alone : (all : Bool) (cs : List CallbackRow) → (all ≡ true → length (filter is_waiting_persistent cs) ≡ 0) → AllAgree (is_open pool all) (is_pending_half pool false) cs
  alone true cs none = all_open cs (none_waiting cs (none refl))
  alone false cs none = others_open cs

  pub first_alone : (all : Bool) (cs : List CallbackRow) → (all ≡ true → length (filter is_waiting_persistent cs) ≡ 0) → slice_get (half_among cs pool false) 0 ≡ slice_get (queue_among cs pool all) 0
  first_alone all cs none = ap (λ (ds : List CallbackRow). slice_get ds 0) (half_alone all cs (alone all cs none))

  -- ---- both halves

  pub count_both : (cs : List CallbackRow) → length (filter (is_pending_half pool false) cs) + length (filter (is_pending_half pool true) cs) ≡ length (filter (is_open pool true) cs)
  count_both [] = omega arith
  count_both (c ∷ cs) = one (is_pending_in pool c) c.persistent _ _ _ (count_both cs)
    where
      one : (b m : Bool) (x y z : List CallbackRow) → length x + length y ≡ length z → length (if b && not m then c ∷ x else x) + length (if b && m then c ∷ y else y) ≡ length (if b && (not m || true) then c ∷ z else z)
      one true true x y z e = omega (arith, e)
      one true false x y z e = omega (arith, e)
      one false m x y z e = e

  pub count_pending : (cs : List CallbackRow) → length (filter (is_open pool true) cs) ≡ length (filter (is_pending_in pool) cs)
  count_pending cs = ap (λ (ds : List CallbackRow). length ds) (filter_same (is_open pool true) (is_pending_in pool) cs (agree cs))
    where
      one : (b m : Bool) → (b && (not m || true)) ≡ b
      one true true = refl
      one true false = refl
      one false m = refl

      agree : (ds : List CallbackRow) → AllAgree (is_open pool true) (is_pending_in pool) ds
      agree [] = tt
      agree (d ∷ ds) = (one (is_pending_in pool d) d.persistent, agree ds)

  later : (low above : ℕ) (cs : List CallbackRow) → IsRising low above cs → AllByRecursion (λ (c : CallbackRow). low ≤ c.number) cs
  later low above [] rising = tt
  later low above (c ∷ cs) rising = (rising.0, more (c.number + 1) (omega (arith, rising.0)) cs (later (c.number + 1) above cs rising.1))
    where
      more : (n : ℕ) → low ≤ n → (ds : List CallbackRow) → AllByRecursion (λ (d : CallbackRow). n ≤ d.number) ds → AllByRecursion (λ (d : CallbackRow). low ≤ d.number) ds
      more n le [] all = tt
      more n le (d ∷ ds) all = (omega (arith, le, all.0), more n le ds all.1)

-- of one priority the one of the least number
sooner_there : (a b : CallbackRow) → priority_number a.priority ≡ priority_number b.priority → a.number < b.number → is_sooner a b ≡ true
sooner_there a b same lt = grind (arith, nat_tests, same, lt)

not_sooner_there : (a b : CallbackRow) → priority_number a.priority ≡ priority_number b.priority → b.number < a.number → is_sooner a b ≡ false
not_sooner_there a b same lt = grind (arith, nat_tests, same, lt)

sooner_above : (a b : CallbackRow) → priority_number a.priority < priority_number b.priority → is_sooner a b ≡ true
sooner_above a b lt = grind (arith, nat_tests, lt)

not_sooner_above : (a b : CallbackRow) → priority_number b.priority < priority_number a.priority → is_sooner a b ≡ false
not_sooner_above a b lt = grind (arith, nat_tests, lt)

module _ (pool above : ℕ) (test : Priority → Bool) (rank : ℕ) (ranked : (p : Priority) → test p ≡ true → priority_number p ≡ rank) where
  of_rank : (persistent : Bool) (c : CallbackRow) → is_queued pool persistent test c ≡ true → priority_number c.priority ≡ rank
  of_rank persistent c is = ranked c.priority (right (is_pending_half pool persistent c) (test c.priority) is)
    where
      right : (a b : Bool) → (a && b) ≡ true → b ≡ true
      right true b e = e
      right false b e = absurd cc

  pub found_rank : (persistent : Bool) (cs : List CallbackRow) → IfSome (find (is_queued pool persistent test) cs) (λ c. priority_number c.priority ≡ rank)
  found_rank persistent cs = one (find (is_queued pool persistent test) cs) refl
    where
      one : (o : Option CallbackRow) → find (is_queued pool persistent test) cs ≡ o → IfSome o (λ c. priority_number c.priority ≡ rank)
      one None is = tt
      one (Some c) is = of_rank persistent c (find_passes (is_queued pool persistent test) c cs is)

  pub level : (low : ℕ) (cs : List CallbackRow) → IsRising low above cs → sooner_of (find (is_queued pool false test) cs) (find (is_queued pool true test) cs) ≡ find (is_waiting pool true test) cs
  level low [] rising = refl
  level low (c ∷ cs) rising = here (level (c.number + 1) cs rising.1) (is_pending_in pool c) c.persistent (test c.priority) refl
    where
      behind : (persistent : Bool) (d : CallbackRow) → find (is_queued pool persistent test) cs ≡ Some d → c.number < d.number
      behind persistent d is = let le : c.number + 1 ≤ d.number = find_all (λ (x : CallbackRow). c.number + 1 ≤ x.number) (is_queued pool persistent test) d cs (later pool (c.number + 1) above cs rising.1) is in omega (arith, le)

      before_marked : test c.priority ≡ true → (o : Option CallbackRow) → find (is_queued pool true test) cs ≡ o → sooner_of (Some c) o ≡ Some c
      before_marked own None is = refl
      before_marked own (Some d) is = ap (λ b. if b then Some c else Some d) (sooner_there c d (ranked c.priority own ∙ sym (of_rank true d (find_passes (is_queued pool true test) d cs is))) (behind true d is))

      before_others : test c.priority ≡ true → (o : Option CallbackRow) → find (is_queued pool false test) cs ≡ o → sooner_of o (Some c) ≡ Some c
      before_others own None is = refl
      before_others own (Some d) is = ap (λ b. if b then Some d else Some c) (not_sooner_there d c (of_rank false d (find_passes (is_queued pool false test) d cs is) ∙ sym (ranked c.priority own)) (behind false d is))

      here : sooner_of (find (is_queued pool false test) cs) (find (is_queued pool true test) cs) ≡ find (is_waiting pool true test) cs → (b m t : Bool) → test c.priority ≡ t
          → sooner_of (if (b && not m) && t then Some c else find (is_queued pool false test) cs) (if (b && m) && t then Some c else find (is_queued pool true test) cs) ≡ (if (b && (not m || true)) && t then Some c else find (is_waiting pool true test) cs)
      here rest true true true own = before_others own (find (is_queued pool false test) cs) refl
      here rest true false true own = before_marked own (find (is_queued pool true test) cs) refl
      here rest true true false own = rest
      here rest true false false own = rest
      here rest false m t own = rest

-- ---- the firsts of three queues

or_of : Option CallbackRow → Option CallbackRow → Option CallbackRow
or_of None b = b
or_of (Some a) b = Some a

first_of : (h n l : List CallbackRow) → slice_get (h ++ n ++ l) 0 ≡ or_of (slice_get h 0) (or_of (slice_get n 0) (slice_get l 0))
unfolding or_of
first_of [] [] l = refl
first_of [] (c ∷ n) l = refl
first_of (c ∷ h) n l = refl

abbrev IsRanked : (ℕ → Type 0) → Option CallbackRow → Type 0
IsRanked holds o = IfSome o (λ (c : CallbackRow). holds (priority_number c.priority))

-- what is first in both comes before the rest of both
or_sooner : (k : ℕ) (p q m n : Option CallbackRow) → IsRanked (λ r. r ≡ k) p → IsRanked (λ r. k < r) q → IsRanked (λ r. r ≡ k) m → IsRanked (λ r. k < r) n
    → sooner_of (or_of p q) (or_of m n) ≡ or_of (sooner_of p m) (sooner_of q n)
unfolding or_of
or_sooner k None q None n ip iq im in_rest = refl
or_sooner k None None (Some b) n ip iq im in_rest = refl
or_sooner k None (Some a) (Some b) n ip iq im in_rest = ap (λ x. if x then Some a else Some b) (not_sooner_above a b (omega (arith, iq, im)))
or_sooner k (Some a) q None None ip iq im in_rest = refl
or_sooner k (Some a) q None (Some b) ip iq im in_rest = ap (λ x. if x then Some a else Some b) (sooner_above a b (omega (arith, ip, in_rest)))
or_sooner k (Some a) q (Some b) n ip iq im in_rest = elim (is_sooner a b) as (λ x. (if x then Some a else Some b) ≡ or_of (if x then Some a else Some b) (sooner_of q n)) [ true ↦ refl | false ↦ refl ]

rest_ranked : (n l : Option CallbackRow) → IsRanked (λ r. r ≡ 1) n → IsRanked (λ r. r ≡ 2) l → IsRanked (λ r. 0 < r) (or_of n l)
unfolding or_of
rest_ranked None None ni li = tt
rest_ranked None (Some c) ni li = omega (arith, li)
rest_ranked (Some c) l ni li = omega (arith, ni)

low_ranked : (l : Option CallbackRow) → IsRanked (λ r. r ≡ 2) l → IsRanked (λ r. 1 < r) l
low_ranked None li = tt
low_ranked (Some c) li = omega (arith, li)

high_rank : (p : Priority) → is_high p ≡ true → priority_number p ≡ 0
high_rank High is = refl
high_rank Normal is = absurd cc
high_rank Low is = absurd cc

normal_rank : (p : Priority) → is_normal p ≡ true → priority_number p ≡ 1
normal_rank High is = absurd cc
normal_rank Normal is = refl
normal_rank Low is = absurd cc

low_rank : (p : Priority) → is_low p ≡ true → priority_number p ≡ 2
low_rank High is = absurd cc
low_rank Normal is = absurd cc
low_rank Low is = refl

module _ (pool above : ℕ) (cs : List CallbackRow) (rising : IsRising 0 above cs) where
  abbrev first_at : Bool → (Priority → Bool) → Option CallbackRow
  first_at persistent test = find (is_queued pool persistent test) cs

  half_first : (persistent : Bool) → slice_get (half_among cs pool persistent) 0 ≡ or_of (first_at persistent is_high) (or_of (first_at persistent is_normal) (first_at persistent is_low))
  half_first persistent =
      first_of _ _ _
      ∙ ap₂ or_of (first_filtered (is_queued pool persistent is_high) cs)
      (ap₂ or_of (first_filtered (is_queued pool persistent is_normal) cs) (first_filtered (is_queued pool persistent is_low) cs))

  pub first_of_both : sooner_of (slice_get (half_among cs pool false) 0) (slice_get (half_among cs pool true) 0) ≡ slice_get (queue_among cs pool true) 0
  first_of_both =
      let high = found_rank pool above is_high 0 high_rank in
      let normal = found_rank pool above is_normal 1 normal_rank in
      let low = found_rank pool above is_low 2 low_rank in
      let rest : sooner_of (or_of (first_at false is_normal) (first_at false is_low)) (or_of (first_at true is_normal) (first_at true is_low)) ≡ or_of (sooner_of (first_at false is_normal) (first_at true is_normal)) (sooner_of (first_at false is_low) (first_at true is_low)) =
      or_sooner 1 (first_at false is_normal) (first_at false is_low) (first_at true is_normal) (first_at true is_low) (normal false cs) (low_ranked _ (low false cs)) (normal true cs) (low_ranked _ (low true cs)) in
      ap₂ sooner_of (half_first false) (half_first true)
      ∙ or_sooner 0 (first_at false is_high) (or_of (first_at false is_normal) (first_at false is_low)) (first_at true is_high) (or_of (first_at true is_normal) (first_at true is_low)) (high false cs) (rest_ranked _ _ (normal false cs) (low false cs)) (high true cs) (rest_ranked _ _ (normal true cs) (low true cs))
      ∙ ap (or_of (sooner_of (first_at false is_high) (first_at true is_high))) rest
      ∙ ap₂ or_of (level pool above is_high 0 high_rank 0 cs rising)
      (ap₂ or_of (level pool above is_normal 1 normal_rank 0 cs rising) (level pool above is_low 2 low_rank 0 cs rising))
      ∙ sym
      (first_of _ _ _
      ∙ ap₂ or_of (first_filtered (is_waiting pool true is_high) cs)
      (ap₂ or_of (first_filtered (is_waiting pool true is_normal) cs) (first_filtered (is_waiting pool true is_low) cs)))
