-- No object is armed twice, and none is set twice: what a filter leaves of that.
use Rattle.std.proofs.Common.{◌≡◌, ℕ, ◌==◌, ◌||◌, Bool, true, false, cond, List, [], ◌∷◌, Some, ap, ◌∙◌, filter, find, eq-eqb}
use Rattle.tp_base.specs.declared.rows.Arming.{Arming}
use Rattle.tp_base.specs.Armings.{is_armed}
use Rattle.tp_model.proofs.Lists.{any_filter_none}
use Rattle.tp_model.proofs.Refusals.{or_true}
use Rattle.plain_worlds.specs.Once.{AreOnce}

pub once_filter : {X : Type 0} (number : X → ℕ) (p : X → Bool) (xs : List X) → AreOnce number xs → AreOnce number (filter p xs)
once_filter number p [] h = tt
once_filter {X} number p (x ∷ xs) h =
    elim (p x) as (λ b. AreOnce number (cond b (x ∷ filter p xs) (filter p xs))) [
      | true ↦ (any_filter_none (λ (y : X). number y == number x) p xs h.0, once_filter number p xs h.1)
      | false ↦ once_filter number p xs h.1
    ]

pub found_is_armed : (p : Arming → Bool) (armings : List Arming) (a : Arming) → find p armings ≡ Some a → is_armed a.object.0 armings ≡ true
found_is_armed p [] a found = absurd cc
found_is_armed p (x ∷ armings) a found =
    elim (p x) as (λ b. cond b (Some x) (find p armings) ≡ Some a → is_armed a.object.0 (x ∷ armings) ≡ true) [
      | true ↦ λ e. let same : x ≡ a = cc in ap (λ b. b || is_armed a.object.0 armings) (eq-eqb x.object.0 a.object.0 (ap (λ (y : Arming). y.object.0) same))
      | false ↦ λ e. ap (λ b. (x.object.0 == a.object.0) || b) (found_is_armed p armings a e) ∙ or_true (x.object.0 == a.object.0)
    ] found
