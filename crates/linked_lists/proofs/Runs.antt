-- Runs of places: what stands next to a place, and what is left of a run as a place comes in or goes out.
use Rattle.std.proofs.Common.{◌≡◌, ◌≢◌, ◌==◌, ◌+◌, ℕ, suc, ◌≤◌, ◌<◌, Bool, true, false, List, [], ◌∷◌, length, not, filter, refl, sym, ap, ◌∙◌, arith, ⊎_elim}
use Rattle.std.proofs.lemmas.Bool.{cases_eq, eq-eqb, ne_eqb}
use Rattle.linked_lists.specs.Linked.{tally, times, put_behind}
use Rattle.linked_lists.specs.Rings.{Edge, Run}

pub tally_same : (x place : ℕ) → x ≡ place → tally (x == place) ≡ 1
tally_same x place same = ap tally (eq-eqb x place same)

pub tally_other : (x place : ℕ) → x ≢ place → tally (x == place) ≡ 0
tally_other x place apart = ap tally (ne_eqb x place apart)

pub tally_most : (b : Bool) → tally b ≤ 1
tally_most true = omega arith
tally_most false = omega arith

-- the first is not among these
pub none_first : (x place rest : ℕ) → tally (x == place) + rest ≡ 0 → x ≢ place
none_first x place rest none = λ same. absurd (omega (arith, none, tally_same x place same))

-- ---- lists with one place more, or without one

pub times-put_behind : (q at place front : ℕ) (xs : List ℕ) → times q (put_behind at place front xs) ≡ times q xs + tally (place == q)
times-put_behind q at place front [] = omega arith
times-put_behind q at place front (x ∷ xs) =
    ⊎_elim
    (λ (same : front ≡ at). rw (eq-eqb front at same) (omega arith))
    (λ (apart : front ≢ at). rw (ne_eqb front at apart) (omega (arith, times-put_behind q at place x xs)))
    (cases_eq front at)

pub length-put_behind : (at place front : ℕ) (xs : List ℕ) → length (put_behind at place front xs) ≡ suc (length xs)
length-put_behind at place front [] = refl
length-put_behind at place front (x ∷ xs) =
    ⊎_elim
    (λ (same : front ≡ at). rw (eq-eqb front at same) refl)
    (λ (apart : front ≢ at). rw (ne_eqb front at apart) (ap suc (length-put_behind at place x xs)))
    (cases_eq front at)

-- without one place
abbrev pub without : ℕ → List ℕ → List ℕ
without place xs = filter (λ q. not (q == place)) xs

pub times-without_other : (q place : ℕ) (xs : List ℕ) → q ≢ place → times q (without place xs) ≡ times q xs
times-without_other q place [] apart = refl
times-without_other q place (x ∷ xs) apart =
    ⊎_elim
    (λ (same : x ≡ place).
    let other : x ≢ q = λ e. apart (cc) in
    rw (eq-eqb x place same) (omega (arith, tally_other x q other, times-without_other q place xs apart)))
    (λ (other : x ≢ place). rw (ne_eqb x place other) (omega (arith, times-without_other q place xs apart)))
    (cases_eq x place)

pub times-without_same : (place : ℕ) (xs : List ℕ) → times place (without place xs) ≡ 0
times-without_same place [] = refl
times-without_same place (x ∷ xs) =
    ⊎_elim
    (λ (same : x ≡ place). rw (eq-eqb x place same) (times-without_same place xs))
    (λ (other : x ≢ place). rw (ne_eqb x place other) (omega (arith, tally_other x place other, times-without_same place xs)))
    (cases_eq x place)

pub length-without : (place : ℕ) (xs : List ℕ) → length (without place xs) + times place xs ≡ length xs
length-without place [] = refl
length-without place (x ∷ xs) =
    ⊎_elim
    (λ (same : x ≡ place). rw (eq-eqb x place same) (omega (arith, length-without place xs)))
    (λ (other : x ≢ place). rw (ne_eqb x place other) (omega (arith, length-without place xs)))
    (cases_eq x place)

pub without_none : (place : ℕ) (xs : List ℕ) → times place xs ≡ 0 → without place xs ≡ xs
without_none place [] none = refl
without_none place (x ∷ xs) none =
    rw (ne_eqb x place (none_first x place (times place xs) none)) (ap (λ ys. x ∷ ys) (without_none place xs (omega (arith, none))))

-- ---- what stands next to a place

module _ (after before : ℕ → ℕ) where
  pub back_of : (u e a : ℕ) (ps : List ℕ) → Run after before u ps e → 0 < times a (u ∷ ps) → before (after a) ≡ a
  back_of u e a [] run there =
      ⊎_elim (λ (same : u ≡ a). cc) (λ (apart : u ≢ a). absurd (omega (arith, there, tally_other u a apart))) (cases_eq u a)
  back_of u e a (x ∷ xs) run there =
      ⊎_elim
      (λ (same : u ≡ a). cc)
      (λ (apart : u ≢ a). back_of x e a xs run.1 (omega (arith, there, tally_other u a apart)))
      (cases_eq u a)

  pub on_of : (u e b : ℕ) (ps : List ℕ) → Run after before u ps e → 0 < times b ps + tally (e == b) → after (before b) ≡ b
  on_of u e b [] run there =
      ⊎_elim (λ (same : e ≡ b). cc) (λ (apart : e ≢ b). absurd (omega (arith, there, tally_other e b apart))) (cases_eq e b)
  on_of u e b (x ∷ xs) run there =
      ⊎_elim
      (λ (same : x ≡ b). cc)
      (λ (apart : x ≢ b). on_of x e b xs run.1 (omega (arith, there, tally_other x b apart)))
      (cases_eq x b)

  pub after_there : (u e a : ℕ) (ps : List ℕ) → Run after before u ps e → 0 < times a (u ∷ ps) → 0 < times (after a) ps + tally (e == after a)
  after_there u e a [] run there =
      ⊎_elim
      (λ (same : u ≡ a). omega (arith, tally_same e (after a) (cc)))
      (λ (apart : u ≢ a). absurd (omega (arith, there, tally_other u a apart)))
      (cases_eq u a)
  after_there u e a (x ∷ xs) run there =
      ⊎_elim
      (λ (same : u ≡ a). omega (arith, tally_same x (after a) (cc)))
      (λ (apart : u ≢ a). omega (arith, after_there x e a xs run.1 (omega (arith, there, tally_other u a apart))))
      (cases_eq u a)

  pub before_there : (u e b : ℕ) (ps : List ℕ) → Run after before u ps e → 0 < times b ps + tally (e == b) → 0 < times (before b) (u ∷ ps)
  before_there u e b [] run there =
      ⊎_elim
      (λ (same : e ≡ b). omega (arith, tally_same u (before b) (cc)))
      (λ (apart : e ≢ b). absurd (omega (arith, there, tally_other e b apart)))
      (cases_eq e b)
  before_there u e b (x ∷ xs) run there =
      ⊎_elim
      (λ (same : x ≡ b). omega (arith, tally_same u (before b) (cc)))
      (λ (apart : x ≢ b). omega (arith, before_there x e b xs run.1 (omega (arith, there, tally_other x b apart))))
      (cases_eq x b)

-- ---- one place more

-- p has come between a and b
pub record Put (after before on back : ℕ → ℕ) (a p b : ℕ) : Type 0 where
  pub on_a : on a ≡ p
  pub on_p : on p ≡ b
  pub on_else : (x : ℕ) → x ≢ a → x ≢ p → on x ≡ after x
  pub back_p : back p ≡ a
  pub back_b : back b ≡ p
  pub back_else : (x : ℕ) → x ≢ b → x ≢ p → back x ≡ before x

module _ (after before on back : ℕ → ℕ) (a p b : ℕ) (edge : Edge after before a b) (put : Put after before on back a p b) where
  edge_kept : (x y : ℕ) → Edge after before x y → x ≢ a → x ≢ p → y ≢ p → Edge on back x y
  edge_kept x y old not_a not_p free =
      let not_b : y ≢ b = λ same. not_a (cc) in
      record { on = put.on_else x not_a not_p ∙ old.on; back = put.back_else y not_b free ∙ old.back }

  pub run_kept : (u e : ℕ) (ps : List ℕ) → Run after before u ps e → times a (u ∷ ps) ≡ 0 → times p (u ∷ ps) ≡ 0 → e ≢ p → Run on back u ps e
  run_kept u e [] run no_a no_p free = edge_kept u e run (none_first u a 0 no_a) (none_first u p 0 no_p) free
  run_kept u e (x ∷ xs) run no_a no_p free =
      (edge_kept u x run.0 (none_first u a (times a (x ∷ xs)) no_a) (none_first u p (times p (x ∷ xs)) no_p) (none_first x p (times p xs) (omega (arith, no_p))), run_kept x e xs run.1 (omega (arith, no_a)) (omega (arith, no_p)) free)

  first_half : (u : ℕ) → u ≡ a → Edge on back u p
  first_half u same = record { on = ap on same ∙ put.on_a; back = put.back_p ∙ sym same }

  second_half : (u x : ℕ) → u ≡ a → Edge after before u x → Edge on back p x
  second_half u x same old =
      let is : x ≡ b = sym old.on ∙ ap after same ∙ edge.on in
      record { on = put.on_p ∙ sym is; back = ap back is ∙ put.back_b }

  pub run_put : (u e : ℕ) (ps : List ℕ) → Run after before u ps e → times a (u ∷ ps) ≡ 1 → times p (u ∷ ps) ≡ 0 → e ≢ p → Run on back u (put_behind a p u ps) e
  run_put u e [] run once no_p free =
      ⊎_elim
      (λ (same : u ≡ a). (first_half u same, second_half u e same run))
      (λ (apart : u ≢ a). absurd (omega (arith, once, tally_other u a apart)))
      (cases_eq u a)
  run_put u e (x ∷ xs) run once no_p free =
      ⊎_elim
      (λ (same : u ≡ a).
      rw (eq-eqb u a same)
      (first_half u same, (second_half u x same run.0, run_kept x e xs run.1 (omega (arith, once, tally_same u a same)) (omega (arith, no_p)) free)))
      (λ (apart : u ≢ a).
      rw (ne_eqb u a apart)
      (edge_kept u x run.0 apart (none_first u p (times p (x ∷ xs)) no_p) (none_first x p (times p xs) (omega (arith, no_p))), run_put x e xs run.1 (omega (arith, once, tally_other u a apart)) (omega (arith, no_p)) free))
      (cases_eq u a)

-- ---- without one place

-- p, which stood between a and b, has gone
pub record Out (after before on back : ℕ → ℕ) (a b : ℕ) : Type 0 where
  pub on_a : on a ≡ b
  pub on_else : (x : ℕ) → x ≢ a → on x ≡ after x
  pub back_b : back b ≡ a
  pub back_else : (x : ℕ) → x ≢ b → back x ≡ before x

module _ (after before on back : ℕ → ℕ) (a p b : ℕ) (left : Edge after before a p) (right : Edge after before p b) (out : Out after before on back a b) where
  edge_left : (x y : ℕ) → Edge after before x y → x ≢ p → y ≢ p → Edge on back x y
  edge_left x y old not_x not_y =
      let not_a : x ≢ a = λ same. not_y (cc) in
      let not_b : y ≢ b = λ same. not_x (cc) in
      record { on = out.on_else x not_a ∙ old.on; back = out.back_else y not_b ∙ old.back }

  pub run_left : (u e : ℕ) (ps : List ℕ) → Run after before u ps e → times p (u ∷ ps) ≡ 0 → e ≢ p → Run on back u ps e
  run_left u e [] run none free = edge_left u e run (none_first u p 0 none) free
  run_left u e (x ∷ xs) run none free =
      (edge_left u x run.0 (none_first u p (times p (x ∷ xs)) none) (none_first x p (times p xs) (omega (arith, none))), run_left x e xs run.1 (omega (arith, none)) free)

  closed : (u y : ℕ) → Edge after before u p → Edge after before p y → Edge on back u y
  closed u y first second =
      let is_a : u ≡ a = sym first.back ∙ left.back in
      let is_b : y ≡ b = sym second.on ∙ right.on in
      record { on = ap on is_a ∙ out.on_a ∙ sym is_b; back = ap back is_b ∙ out.back_b ∙ sym is_a }

  -- from the place before p past it
  past : (u e : ℕ) (ps : List ℕ) → Edge after before u p → Run after before p ps e → times p ps ≡ 0 → e ≢ p → Run on back u ps e
  past u e [] first run none free = closed u e first run
  past u e (x ∷ xs) first run none free = (closed u x first run.0, run_left x e xs run.1 none free)

  pub run_out : (u e : ℕ) (ps : List ℕ) → Run after before u ps e → u ≢ p → times p ps ≤ 1 → e ≢ p → Run on back u (without p ps) e
  run_out u e [] run not_u once free = edge_left u e run not_u free
  run_out u e (x ∷ xs) run not_u once free =
      ⊎_elim
      (λ (same : x ≡ p).
      let none : times p xs ≡ 0 = omega (arith, once, tally_same x p same) in
      let first : Edge after before u p = rw same at run.0 in
      let rest : Run after before p xs e = rw same at run.1 in
      rw (eq-eqb x p same, without_none p xs none) (past u e xs first rest none free))
      (λ (other : x ≢ p).
      rw (ne_eqb x p other) (edge_left u x run.0 not_u other, run_out x e xs run.1 other (omega (arith, once, tally_other x p other)) free))
      (cases_eq x p)
