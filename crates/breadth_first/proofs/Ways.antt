-- The way back from a state, move by move.
use Rattle.std.proofs.Common.{◌≡◌, ℕ, zero, suc, None, Some, List, [], ◌∷◌, ◌++◌, slice_get, refl, sym, ap, ◌∙◌, append_assoc}
use Rattle.std.proofs.lemmas.List.{reverse-append}
use mathlib.Core.List.{reverse}
use Rattle.breadth_first.specs.Searched.{of_origin, way_to, Entry}

-- one move more of a way
pub way_on : (entries : List Entry) (left rest at : ℕ) (e : Entry) (done : List ℕ) → slice_get entries at ≡ Some e → left ≡ suc rest
    → way_to entries left at ++ reverse done ≡ way_to entries rest e.1.from ++ reverse (done ++ e.1.by ∷ [])
way_on entries left rest at e done here more =
    ap (λ (n : ℕ). way_to entries n at ++ reverse done) more
    ∙ ap (λ (way : List ℕ). way ++ reverse done) (ap (λ o. of_origin o (λ origin. way_to entries rest origin.from ++ origin.by ∷ [])) here)
    ∙ append_assoc (way_to entries rest e.1.from) (e.1.by ∷ []) (reverse done)
    ∙ ap (λ (way : List ℕ). way_to entries rest e.1.from ++ way) (sym (reverse-append done (e.1.by ∷ [])))

-- where nothing stands there is no way
pub way_none : (entries : List Entry) (left at : ℕ) → slice_get entries at ≡ None → way_to entries left at ≡ []
way_none entries zero at none = refl
way_none entries (suc left) at none = ap (λ o. of_origin o (λ origin. way_to entries left origin.from ++ origin.by ∷ [])) none
