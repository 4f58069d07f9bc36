-- Each number stands in one view, where views are replaced, cut in two or made one.
use Rattle.std.proofs.Common.{◌≡◌, ◌≢◌, ◌⊎◌, ℕ, zero, suc, ◌+◌, ◌<◌, ◌≤◌, true, List, [], ◌∷◌, ◌++◌, map, length, get_or, set, All, refl, sym, ap, ◌∙◌, subst, ⊎_elim, inl, inr, arith}
use Rattle.std.proofs.lemmas.List.Elements.{All-nil, All-cons, All-head, All-tail}
use Rattle.std.specs.List.{range_with_len}
use mathlib.Core.Option.{some, some-injective, some-ne-none}
use mathlib.Core.Logic.{dite}
use native.Mathlib.Decide.{ℕ_discrete}
use lib.ListN.{get_elem?}
use Rattle.atomic_table.proofs.Lists.{at_set, set_else}
use Rattle.tp_base.specs.declared.answers.Entry.{Entry}
use Rattle.turn_lock.specs.declared.views.Part.{Part}
use Rattle.turn_lock.specs.declared.views.Setup.{Setup}
use Rattle.turn_lock.specs.declared.views.View.{View}
use Rattle.turn_lock.specs.Rule.{Stands, IsHeld}
use Rattle.turn_lock.specs.Views.{part, HasNumber, taking_in, spent_view}

-- ---- views in a list

pub at_itself : (views : List View) (id : ℕ) (v w : View) → get_elem? views id ≡ some v → get_elem? (set views id w) id ≡ some w
at_itself [] id v w at = absurd (some-ne-none v (sym at))
at_itself (x ∷ views) zero v w at = refl
at_itself (x ∷ views) (suc id) v w at = at_itself views id v w at

pub at_other : (views more : List View) (id : ℕ) (v : View) → get_elem? views id ≡ some v → get_elem? (views ++ more) id ≡ some v
at_other [] more id v at = absurd (some-ne-none v (sym at))
at_other (x ∷ views) more zero v at = at
at_other (x ∷ views) more (suc id) v at = at_other views more id v at

pub one_view : (views : List View) (i j : ℕ) (v w : View) → i ≡ j → get_elem? views i ≡ some v → get_elem? views j ≡ some w → v ≡ w
one_view views i j v w same p q = some-injective v w (sym p ∙ (ap (get_elem? views) same ∙ q))

-- what holds of each view, after one was replaced
pub each_set : (K : View → Type 0) (views : List View) (id : ℕ) (w : View) → K w → ((j : ℕ) (u : View) → j ≢ id → get_elem? views j ≡ some u → K u) → (j : ℕ) (u : View) → get_elem? (set views id w) j ≡ some u → K u
each_set K views id w mine others j u e =
    ⊎_elim
    (λ (t : (j ≡ id) × (w ≡ u)). subst K t.1 mine)
    (λ (t : (j ≢ id) × (get_elem? views j ≡ some u)). others j u t.0 t.1)
    (at_set views id j w u e)

abbrev pub Once : List View → Type 0
Once views = (i j : ℕ) (v w : View) (number : ℕ) → get_elem? views i ≡ some v → get_elem? views j ≡ some w → HasNumber number v.parts → HasNumber number w.parts → i ≡ j

-- a view of a number stands where one of that number stood
old_one : (number : ℕ) (views : List View) (id : ℕ) (v w : View) → get_elem? views id ≡ some v → (HasNumber number w.parts → HasNumber number v.parts) → (j : ℕ) (u : View) → get_elem? (set views id w) j ≡ some u → HasNumber number u.parts
    → (x : View) × (get_elem? views j ≡ some x) × HasNumber number x.parts
old_one number views id v w at fewer j u e has =
    ⊎_elim
    (λ (t : (j ≡ id) × (w ≡ u)). (v, subst (λ (k : ℕ). get_elem? views k ≡ some v) (sym t.0) at, fewer (subst (λ (x : View). HasNumber number x.parts) (sym t.1) has)))
    (λ (t : (j ≢ id) × (get_elem? views j ≡ some u)). (u, t.1, has))
    (at_set views id j w u e)

pub once_set : (views : List View) (id : ℕ) (v w : View) → get_elem? views id ≡ some v → ((number : ℕ) → HasNumber number w.parts → HasNumber number v.parts) → Once views → Once (set views id w)
once_set views id v w at fewer once i j x y number p q a b =
    let s = old_one number views id v w at (fewer number) i x p a in
    let t = old_one number views id v w at (fewer number) j y q b in
    once i j s.0 t.0 number s.1 t.1 s.2 t.2

pub held_set : (views : List View) (id : ℕ) (v w : View) (holder : ℕ) → get_elem? views id ≡ some v → (HasNumber holder v.parts → v.holds ≡ true → HasNumber holder w.parts × (w.holds ≡ true)) → IsHeld views holder → IsHeld (set views id w) holder
held_set views id v w holder at keeps_it h =
    dite (ℕ_discrete h.seat id)
    (λ same.
    let is : h.view ≡ v = one_view views h.seat id h.view v same h.at at in
    let now = keeps_it (subst (λ (x : View). HasNumber holder x.parts) is h.number) (subst (λ (x : View). x.holds ≡ true) is h.holds) in
    record { seat = id; view = w; at = at_itself views id v w at; number = now.0; holds = now.1 })
    (λ apart. record { seat = h.seat; view = h.view; at = set_else views id h.seat w apart ∙ h.at; number = h.number; holds = h.holds })

-- ---- numbers

pub has_at : (parts : List Part) (k : ℕ) (d : Part) → k < length parts → HasNumber (get_or parts k d).number parts
has_at [] k d inside = absurd (omega arith)
has_at (p ∷ parts) zero d inside = inl refl
has_at (p ∷ parts) (suc k) d inside = inr (has_at parts k d (omega arith))

pub has_stands : (setup : Setup) (history : List Entry) (parts : List Part) (number : ℕ) → HasNumber number parts → All (Stands setup history) parts → (1 ≤ number) × (number ≤ setup.seats)
has_stands setup history [] number has all = absurd has
has_stands setup history (p ∷ parts) number has all =
    ⊎_elim
    (λ (is : p.number ≡ number). let s = All-head (Stands setup history) p parts all in let least = s.least in let most = s.most in (omega arith, omega arith))
    (λ (there : HasNumber number parts). has_stands setup history parts number there (All-tail (Stands setup history) p parts all))
    has

has_either : (number : ℕ) (parts more : List Part) → HasNumber number (parts ++ more) → HasNumber number parts ⊎ HasNumber number more
has_either number [] more has = inr has
has_either number (p ∷ parts) more has =
    ⊎_elim (λ (is : p.number ≡ number). inl (inl is))
    (λ (there : HasNumber number (parts ++ more)). ⊎_elim (λ (x : HasNumber number parts). inl (inr x)) (λ (x : HasNumber number more). inr x) (has_either number parts more there))
    has

pub has_left : (number : ℕ) (parts more : List Part) → HasNumber number parts → HasNumber number (parts ++ more)
has_left number [] more has = absurd has
has_left number (p ∷ parts) more has = ⊎_elim (λ (is : p.number ≡ number). inl is) (λ (there : HasNumber number parts). inr (has_left number parts more there)) has

pub has_right : (number : ℕ) (parts more : List Part) → HasNumber number more → HasNumber number (parts ++ more)
has_right number [] more has = has
has_right number (p ∷ parts) more has = inr (has_right number parts more has)

-- so many numbers that are yet to be dealt, from the lowest on
abbrev pub dealt_from : ℕ → ℕ → List Part
dealt_from low count = map (λ number. part number []) (range_with_len low count)

pub dealt_above : (low count number : ℕ) → HasNumber number (dealt_from low count) → low ≤ number
dealt_above low zero number has = absurd has
dealt_above low (suc count) number has =
    ⊎_elim (λ (is : low ≡ number). omega arith) (λ (there : HasNumber number (dealt_from (low + 1) count)). let above = dealt_above (low + 1) count number there in omega arith) has

pub all_dealt : (setup : Setup) (low count : ℕ) → 1 ≤ low → low + count ≤ setup.seats + 1 → All (Stands setup []) (dealt_from low count)
all_dealt setup low zero least most = All-nil (Stands setup [])
all_dealt setup low (suc count) least most =
    All-cons (Stands setup []) (part low []) (dealt_from (low + 1) count) (record { least = least; most = omega arith; mine = refl }) (all_dealt setup (low + 1) count (omega arith) (omega arith))

-- ---- numbers, after views were cut in two or made one

at_end : (views : List View) (right : View) (j : ℕ) (u : View) → get_elem? (views ++ right ∷ []) j ≡ some u → (get_elem? views j ≡ some u) ⊎ ((j ≡ length views) × (right ≡ u))
at_end [] right zero u e = inr (refl, some-injective right u e)
at_end [] right (suc j) u e = absurd (some-ne-none u (sym e))
at_end (x ∷ views) right zero u e = inl e
at_end (x ∷ views) right (suc j) u e = ⊎_elim (λ (there : get_elem? views j ≡ some u). inl there) (λ (t : (j ≡ length views) × (right ≡ u)). inr (ap suc t.0, t.1)) (at_end views right j u e)

-- no number of the new view is in one of the others
not_there : (views : List View) (id : ℕ) (v left right : View) → get_elem? views id ≡ some v → ((n : ℕ) → HasNumber n right.parts → HasNumber n v.parts) → ((n : ℕ) → HasNumber n left.parts → HasNumber n right.parts → ⊥) → Once views
    → (i : ℕ) (x : View) (n : ℕ) → get_elem? (set views id left) i ≡ some x → HasNumber n x.parts → HasNumber n right.parts → ⊥
not_there views id v left right at from_right apart once i x n e has also =
    ⊎_elim
    (λ (t : (i ≡ id) × (left ≡ x)). apart n (subst (λ (y : View). HasNumber n y.parts) (sym t.1) has) also)
    (λ (t : (i ≢ id) × (get_elem? views i ≡ some x)). t.0 (once i id x v n t.1 at has (from_right n also)))
    (at_set views id i left x e)

pub once_split : (views : List View) (id : ℕ) (v left right : View) → get_elem? views id ≡ some v → ((n : ℕ) → HasNumber n left.parts → HasNumber n v.parts) → ((n : ℕ) → HasNumber n right.parts → HasNumber n v.parts) → ((n : ℕ) → HasNumber n left.parts → HasNumber n right.parts → ⊥) → Once views
    → Once (set views id left ++ right ∷ [])
once_split views id v left right at from_left from_right apart once i j x y n p q a b =
    let Last : ℕ → View → Type 0 = λ k u. (k ≡ length (set views id left)) × (right ≡ u) in
    let There : ℕ → View → Type 0 = λ k u. get_elem? (set views id left) k ≡ some u in
    let lacks = not_there views id v left right at from_right apart once in
    ⊎_elim
    (λ (s : There i x). ⊎_elim
    (λ (t : There j y). once_set views id v left at from_left once i j x y n s t a b)
    (λ (t : Last j y). absurd (lacks i x n s a (subst (λ (u : View). HasNumber n u.parts) (sym t.1) b)))
    (at_end (set views id left) right j y q))
    (λ (s : Last i x). ⊎_elim
    (λ (t : There j y). absurd (lacks j y n t b (subst (λ (u : View). HasNumber n u.parts) (sym s.1) a)))
    (λ (t : Last j y). s.0 ∙ sym t.0)
    (at_end (set views id left) right j y q))
    (at_end (set views id left) right i x p)

-- where a number stood before two views became one
record Stood (views : List View) (id other number i : ℕ) : Type 0 where
  pub place : ℕ
  pub view : View
  pub at : get_elem? views place ≡ some view
  pub has : HasNumber number view.parts
  pub is : (place ≡ i) ⊎ ((place ≡ other) × (i ≡ id))
  pub not_other : i ≢ other

stood_here : (views : List View) (id other number : ℕ) (v w : View) → get_elem? views id ≡ some v → get_elem? views other ≡ some w → other ≢ id → HasNumber number (taking_in v w).parts → Stood views id other number id
stood_here views id other number v w at there apart has =
    ⊎_elim
    (λ (x : HasNumber number v.parts). record { place = id; view = v; at = at; has = x; is = inl refl; not_other = λ e. apart (sym e) })
    (λ (x : HasNumber number w.parts). record { place = other; view = w; at = there; has = x; is = inr (refl, refl); not_other = λ e. apart (sym e) })
    (has_either number v.parts w.parts has)

stood : (views : List View) (id other number : ℕ) (v w : View) → get_elem? views id ≡ some v → get_elem? views other ≡ some w → other ≢ id → (i : ℕ) (x : View) → get_elem? (set (set views id (taking_in v w)) other spent_view) i ≡ some x → HasNumber number x.parts → Stood views id other number i
stood views id other number v w at there apart i x e has =
    ⊎_elim
    (λ (t : (i ≡ other) × (spent_view ≡ x)). absurd (subst (λ (y : View). HasNumber number y.parts) (sym t.1) has))
    (λ (t : (i ≢ other) × (get_elem? (set views id (taking_in v w)) i ≡ some x)). ⊎_elim
    (λ (u : (i ≡ id) × (taking_in v w ≡ x)). subst (Stood views id other number) (sym u.0) (stood_here views id other number v w at there apart (subst (λ (y : View). HasNumber number y.parts) (sym u.1) has)))
    (λ (u : (i ≢ id) × (get_elem? views i ≡ some x)). record { place = i; view = x; at = u.1; has = has; is = inl refl; not_other = t.0 })
    (at_set views id i (taking_in v w) x t.1))
    (at_set (set views id (taking_in v w)) other i spent_view x e)

pub once_joined : (views : List View) (id other : ℕ) (v w : View) → get_elem? views id ≡ some v → get_elem? views other ≡ some w → other ≢ id → Once views → Once (set (set views id (taking_in v w)) other spent_view)
once_joined views id other v w at there apart once i j x y n p q a b =
    let s = stood views id other n v w at there apart i x p a in
    let t = stood views id other n v w at there apart j y q b in
    let same : s.place ≡ t.place = once s.place t.place s.view t.view n s.at t.at s.has t.has in
    let s_other = s.not_other in
    let t_other = t.not_other in
    ⊎_elim
    (λ (k : s.place ≡ i). ⊎_elim (λ (l : t.place ≡ j). sym k ∙ (same ∙ l)) (λ (l : (t.place ≡ other) × (j ≡ id)). absurd (s_other (sym k ∙ (same ∙ l.0)))) t.is)
    (λ (k : (s.place ≡ other) × (i ≡ id)). ⊎_elim (λ (l : t.place ≡ j). absurd (t_other (sym l ∙ (sym same ∙ k.0)))) (λ (l : (t.place ≡ other) × (j ≡ id)). k.1 ∙ sym l.1) t.is)
    s.is
