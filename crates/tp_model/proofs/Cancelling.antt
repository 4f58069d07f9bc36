-- Callbacks that are cancelled where they wait.
use Rattle.std.proofs.Common.{◌≡◌, ℕ, suc, ◌+◌, Bool, true, false, cond, ◌&&◌, ◌||◌, ◌==◌, List, [], ◌∷◌, length, map, Option, Some, None, refl, sym, ap, ◌∙◌, arith, filter, find}
use Rattle.tp_base.specs.declared.rows.CallbackRow.{CallbackRow}
use Rattle.tp_base.specs.declared.rows.WaitTarget.{WaitTarget}
use Rattle.tp_model.specs.Counts.{has_number, is_pending, is_running}
use Rattle.tp_model.specs.Laws.Entries.{is_among}
use Rattle.tp_model.specs.Waits.{is_of, is_cancelled_by, cancelled, cancel_where}
use Rattle.tp_model.proofs.Callbacks.{pending_not_running}
use Rattle.tp_model.proofs.Refusals.{both, false_true}

-- only pending callbacks pass the test
abbrev pub IsPendingTest : (CallbackRow → Bool) → Type 0
IsPendingTest test = (c : CallbackRow) → test c ≡ true → is_pending c.status ≡ true

pub cancelled_pending : (target : WaitTarget) (cancel : Bool) → IsPendingTest (is_cancelled_by target cancel)
cancelled_pending target cancel c e = (both (is_pending c.status) (is_of target c) (both cancel (is_pending c.status && is_of target c) e).1).0

-- what runs doesn't pass it
pub running_passed : (test : CallbackRow → Bool) → IsPendingTest test → (c : CallbackRow) → is_running c.status ≡ true → test c ≡ false
running_passed test only c runs = known (test c) refl
  where
    known : (b : Bool) → test c ≡ b → test c ≡ false
    known false e = e
    known true e = absurd (false_true (sym (pending_not_running c.status (only c e)) ∙ runs))

abbrev pub cancelled_if : (CallbackRow → Bool) → CallbackRow → CallbackRow
cancelled_if test c = cond (test c) (cancelled c) c

pub cancelled_number : (test : CallbackRow → Bool) (c : CallbackRow) → (cancelled_if test c).number ≡ c.number
cancelled_number test c = elim (test c) as (λ b. (cond b (cancelled c) c).number ≡ c.number) [ true ↦ refl | false ↦ refl ]

pub length_cancelled : (test : CallbackRow → Bool) (cs : List CallbackRow) → length (cancel_where test cs) ≡ length cs
length_cancelled test [] = refl
length_cancelled test (c ∷ cs) = ap suc (length_cancelled test cs)

abbrev pub cancelled_found : (CallbackRow → Bool) → Option CallbackRow → Option CallbackRow
cancelled_found test None = None
cancelled_found test (Some c) = Some (cancelled_if test c)

pub find_cancelled : (test : CallbackRow → Bool) (cs : List CallbackRow) (n : ℕ) → find (has_number n) (cancel_where test cs) ≡ cancelled_found test (find (has_number n) cs)
find_cancelled test [] n = refl
find_cancelled test (c ∷ cs) n =
    ap (λ k. cond (k == n) (Some (cancelled_if test c)) (find (has_number n) (cancel_where test cs))) (cancelled_number test c)
    ∙ elim (c.number == n) as (λ b. cond b (Some (cancelled_if test c)) (find (has_number n) (cancel_where test cs)) ≡ cancelled_found test (cond b (Some c) (find (has_number n) cs))) [
      | true ↦ refl
      | false ↦ find_cancelled test cs n
    ]

pub find_uncancelled : (test : CallbackRow → Bool) (cs : List CallbackRow) (n : ℕ) (c : CallbackRow) → find (has_number n) cs ≡ Some c → test c ≡ false → find (has_number n) (cancel_where test cs) ≡ Some c
find_uncancelled test cs n c found out = find_cancelled test cs n ∙ ap (cancelled_found test) found ∙ ap (λ b. Some (cond b (cancelled c) c)) out

-- a count of what is neither pending nor cancelled stays the same
pub count_uncancelled : (p test : CallbackRow → Bool) → ((c : CallbackRow) → test c ≡ true → p (cancelled c) ≡ p c) → (cs : List CallbackRow) → length (filter p (cancel_where test cs)) ≡ length (filter p cs)
count_uncancelled p test same [] = refl
count_uncancelled p test same (c ∷ cs) =
    ap (λ b. length (cond b (cancelled_if test c ∷ filter p (cancel_where test cs)) (filter p (cancel_where test cs)))) (alike (test c) refl)
    ∙ elim (p c) as (λ b. length (cond b (cancelled_if test c ∷ filter p (cancel_where test cs)) (filter p (cancel_where test cs))) ≡ length (cond b (c ∷ filter p cs) (filter p cs))) [
      | true ↦ ap suc (count_uncancelled p test same cs)
      | false ↦ count_uncancelled p test same cs
    ]
  where
    alike : (b : Bool) → test c ≡ b → p (cancelled_if test c) ≡ p c
    alike true e = ap (λ t. p (cond t (cancelled c) c)) e ∙ same c e
    alike false e = ap (λ t. p (cond t (cancelled c) c)) e

-- and one of what is cancelled grows by as many as pass
pub count_cancelled : (p test : CallbackRow → Bool) → ((c : CallbackRow) → test c ≡ true → (p (cancelled c) ≡ true) × (p c ≡ false)) → (cs : List CallbackRow) → length (filter p (cancel_where test cs)) ≡ length (filter p cs) + length (filter test cs)
count_cancelled p test new [] = refl
count_cancelled p test new (c ∷ cs) = one (test c) refl (count_cancelled p test new cs)
  where
    one : (b : Bool) → test c ≡ b → length (filter p (cancel_where test cs)) ≡ length (filter p cs) + length (filter test cs) → length (filter p (cancelled_if test c ∷ cancel_where test cs)) ≡ length (filter p (c ∷ cs)) + length (filter test (c ∷ cs))
    one true e rest =
        let now : length (filter p (cancelled_if test c ∷ cancel_where test cs)) ≡ length (filter p (cancel_where test cs)) + 1
        = ap (λ t. length (cond (p (cond t (cancelled c) c)) (cond t (cancelled c) c ∷ filter p (cancel_where test cs)) (filter p (cancel_where test cs)))) e ∙ ap (λ t. length (cond t (cancelled c ∷ filter p (cancel_where test cs)) (filter p (cancel_where test cs)))) (new c e).0 ∙ omega arith in
        let was : length (filter p (c ∷ cs)) ≡ length (filter p cs) = ap (λ t. length (cond t (c ∷ filter p cs) (filter p cs))) (new c e).1 in
        let more : length (filter test (c ∷ cs)) ≡ length (filter test cs) + 1 = ap (λ t. length (cond t (c ∷ filter test cs) (filter test cs))) e ∙ omega arith in
        omega (arith, rest, now, was, more)
    one false e rest =
        let now : length (filter p (cancelled_if test c ∷ cancel_where test cs)) ≡ length (cond (p c) (c ∷ filter p (cancel_where test cs)) (filter p (cancel_where test cs)))
        = ap (λ t. length (cond (p (cond t (cancelled c) c)) (cond t (cancelled c) c ∷ filter p (cancel_where test cs)) (filter p (cancel_where test cs)))) e in
        let more : length (filter test (c ∷ cs)) ≡ length (filter test cs) = ap (λ t. length (cond t (c ∷ filter test cs) (filter test cs))) e in
        let same : length (cond (p c) (c ∷ filter p (cancel_where test cs)) (filter p (cancel_where test cs))) ≡ length (filter p (c ∷ cs)) + length (filter test cs)
        = elim (p c) as (λ b. length (cond b (c ∷ filter p (cancel_where test cs)) (filter p (cancel_where test cs))) ≡ length (cond b (c ∷ filter p cs) (filter p cs)) + length (filter test cs)) [ true ↦ omega (arith, rest) | false ↦ rest ] in
        omega (arith, now, more, same)

-- what is found after a cancellation doesn't pass its test
pub cancelled_found_out : (test : CallbackRow → Bool) → IsPendingTest test → (n : ℕ) (cs : List CallbackRow) (c : CallbackRow) → find (has_number n) (cancel_where test cs) ≡ Some c → test c ≡ false
cancelled_found_out test only n cs c found = of_row (find (has_number n) cs) (sym (find_cancelled test cs n) ∙ found)
  where
    unpassed : (d : CallbackRow) → test (cancelled d) ≡ false
    unpassed d = known (test (cancelled d)) refl
      where
        known : (b : Bool) → test (cancelled d) ≡ b → test (cancelled d) ≡ false
        known false e = e
        known true e = absurd (false_true (only (cancelled d) e))

    one : (d : CallbackRow) (b : Bool) → test d ≡ b → cancelled_if test d ≡ c → test c ≡ false
    one d true e is = ap test (sym is ∙ ap (λ t. cond t (cancelled d) d) e) ∙ unpassed d
    one d false e is = ap test (sym is ∙ ap (λ t. cond t (cancelled d) d) e) ∙ e

    of_row : (o : Option CallbackRow) → cancelled_found test o ≡ Some c → test c ≡ false
    of_row None e = absurd cc
    of_row (Some d) e = one d (test d) refl cc

-- the number of what is found and passes is among those of what passes
pub among_numbers : (p : CallbackRow → Bool) (n : ℕ) (c : CallbackRow) (cs : List CallbackRow) → find (has_number n) cs ≡ Some c → p c ≡ true → is_among n (map (λ (x : CallbackRow). x.number) (filter p cs)) ≡ true
among_numbers p n c [] found passes = absurd cc
among_numbers p n c (d ∷ cs) found passes =
    elim (has_number n d) as (λ b. has_number n d ≡ b → cond b (Some d) (find (has_number n) cs) ≡ Some c → is_among n (map (λ (x : CallbackRow). x.number) (filter p (d ∷ cs))) ≡ true) [
      | true ↦ λ here e.
          let same : d ≡ c = cc in
          ap (λ b. is_among n (map (λ (x : CallbackRow). x.number) (cond b (d ∷ filter p cs) (filter p cs)))) (ap p same ∙ passes) ∙ ap (λ b. b || is_among n (map (λ (x : CallbackRow). x.number) (filter p cs))) here
      | false ↦ λ other e.
          let rest : is_among n (map (λ (x : CallbackRow). x.number) (filter p cs)) ≡ true = among_numbers p n c cs e passes in
          elim (p d) as (λ b. is_among n (map (λ (x : CallbackRow). x.number) (cond b (d ∷ filter p cs) (filter p cs))) ≡ true) [ true ↦ ap (λ b. b || is_among n (map (λ (x : CallbackRow). x.number) (filter p cs))) other ∙ rest | false ↦ rest ]
    ] refl found
