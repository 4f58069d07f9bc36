-- The first and the last place of a run, and the one that follows another, by its links.
use Rattle.std.proofs.Common.{◌≡◌, ◌≢◌, ◌-◌, ℕ, zero, suc, ◌≤◌, ◌<◌, List, [], ◌∷◌, ◌++◌, None, Some, length, get_or, refl, sym, ap, ◌∙◌, arith, ⊎_elim}
use Rattle.std.specs.List.{slice_get}
use Rattle.std.proofs.lemmas.Bool.{cases_eq, eq-eqb, ne_eqb}
use Rattle.std.proofs.lemmas.Option.{slice_get-get_or}
use Rattle.linked_lists.specs.Linked.{place_after, put_behind, times}
use Rattle.linked_lists.specs.Rings.{Run}
use Rattle.linked_lists.proofs.Runs.{tally_same, tally_other}

-- what stands at an index is among these
pub held_at : (q : ℕ) (xs : List ℕ) (i : ℕ) → i < length xs → get_or xs i 0 ≡ q → 1 ≤ times q xs
held_at q [] i within is = absurd (omega arith)
held_at q (x ∷ xs) zero within is = omega (arith, tally_same x q is)
held_at q (x ∷ xs) (suc i) within is = omega (arith, held_at q xs i (omega arith) is)

-- where a place among these stands
pub index_of : (q : ℕ) (xs : List ℕ) → 1 ≤ times q xs → (i : ℕ) × (i < length xs) × (get_or xs i 0 ≡ q)
index_of q [] there = absurd (omega arith)
index_of q (x ∷ xs) there =
    ⊎_elim
    (λ (same : x ≡ q). (0, omega arith, same))
    (λ (apart : x ≢ q). let rest = index_of q xs (omega (arith, there, tally_other x q apart)) in (suc rest.0, omega (arith, rest.1), rest.2))
    (cases_eq x q)

-- behind the last place
pub put_behind_last : (p u : ℕ) (ps : List ℕ) → ((q : ℕ) → times q (u ∷ ps) ≤ 1) → put_behind (get_or (u ∷ ps) (length ps) 0) p u ps ≡ ps ++ p ∷ []
put_behind_last p u [] once = refl
put_behind_last p u (x ∷ xs) once =
    let apart : u ≢ get_or (x ∷ xs) (length xs) 0 = λ same.
    absurd (omega (arith, once u, tally_same u u refl, held_at u (x ∷ xs) (length xs) (omega arith) (sym same)))
    in
    rw (ne_eqb u (get_or (x ∷ xs) (length xs) 0) apart) (ap (λ ys. x ∷ ys) (put_behind_last p x xs (λ q. omega (arith, once q))))

module _ (after before : ℕ → ℕ) where
  pub first_none : (u e : ℕ) (ps : List ℕ) → Run after before u ps e → times e ps ≡ 0 → after u ≡ e → slice_get ps 0 ≡ None
  first_none u e [] run none is = refl
  first_none u e (x ∷ xs) run none is = absurd (omega (arith, none, tally_same x e (sym run.0.on ∙ is)))

  pub first_some : (u e : ℕ) (ps : List ℕ) → Run after before u ps e → after u ≢ e → slice_get ps 0 ≡ Some (after u)
  first_some u e [] run apart = absurd (apart run.on)
  first_some u e (x ∷ xs) run apart = ap Some (sym run.0.on)

  -- what follows the place before them all, and what follows one of them
  pub first_after : (u e : ℕ) (ps : List ℕ) → Run after before u ps e → after u ≡ get_or ps 0 e
  first_after u e [] run = run.on
  first_after u e (x ∷ xs) run = run.0.on

  pub step_after : (u e : ℕ) (ps : List ℕ) (i : ℕ) → Run after before u ps e → i < length ps → after (get_or ps i 0) ≡ get_or ps (suc i) e
  step_after u e [] i run within = absurd (omega arith)
  step_after u e (x ∷ xs) zero run within = first_after x e xs run.1
  step_after u e (x ∷ xs) (suc i) run within = step_after x e xs i run.1 (omega arith)

  pub last_before : (u e : ℕ) (ps : List ℕ) → Run after before u ps e → before e ≡ get_or (u ∷ ps) (length ps) 0
  last_before u e [] run = run.back
  last_before u e (x ∷ xs) run = last_before x e xs run.1

  pub step_before : (u e : ℕ) (ps : List ℕ) (i : ℕ) → Run after before u ps e → i < length ps → before (get_or ps i 0) ≡ get_or (u ∷ ps) i 0
  step_before u e [] i run within = absurd (omega arith)
  step_before u e (x ∷ xs) zero run within = run.0.back
  step_before u e (x ∷ xs) (suc i) run within = step_before x e xs i run.1 (omega arith)

  pub last_none : (u e : ℕ) (ps : List ℕ) → Run after before u ps e → times u ps ≡ 0 → before e ≡ u → slice_get ps (length ps - 1) ≡ None
  last_none u e [] run none is = refl
  last_none u e (x ∷ xs) run none is =
      absurd (omega (arith, none, held_at u (x ∷ xs) (length xs) (omega arith) (sym (last_before u e (x ∷ xs) run) ∙ is)))

  pub last_some : (u e : ℕ) (ps : List ℕ) → Run after before u ps e → before e ≢ u → slice_get ps (length ps - 1) ≡ Some (before e)
  last_some u e [] run apart = absurd (apart run.back)
  last_some u e (x ∷ xs) run apart =
      let here : length (x ∷ xs) - 1 ≡ length xs = omega arith in
      rw here (slice_get-get_or (x ∷ xs) (length xs) 0 (omega arith) ∙ ap Some (sym (last_before u e (x ∷ xs) run)))

  pub next_none : (u e p : ℕ) (ps : List ℕ) → Run after before u ps e → 0 < times p ps → times e ps ≡ 0 → after p ≡ e → place_after p ps ≡ None
  next_none u e p [] run there none is = absurd (omega arith)
  next_none u e p (x ∷ xs) run there none is =
      ⊎_elim
      (λ (same : x ≡ p). rw (eq-eqb x p same) (first_none x e xs run.1 (omega (arith, none)) (ap after same ∙ is)))
      (λ (apart : x ≢ p). rw (ne_eqb x p apart) (next_none x e p xs run.1 (omega (arith, there, tally_other x p apart)) (omega (arith, none)) is))
      (cases_eq x p)

  pub next_some : (u e p : ℕ) (ps : List ℕ) → Run after before u ps e → 0 < times p ps → after p ≢ e → place_after p ps ≡ Some (after p)
  next_some u e p [] run there apart = absurd (omega arith)
  next_some u e p (x ∷ xs) run there apart =
      ⊎_elim
      (λ (same : x ≡ p).
      rw (eq-eqb x p same) (first_some x e xs run.1 (λ far. apart (ap after (sym same) ∙ far)) ∙ ap (λ q. Some (after q)) same))
      (λ (other : x ≢ p). rw (ne_eqb x p other) (next_some x e p xs run.1 (omega (arith, there, tally_other x p other)) apart))
      (cases_eq x p)
