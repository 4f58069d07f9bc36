-- The codes of items, one behind another.
use Rattle.std.proofs.Common.{◌≡◌, ℕ, List, [], ◌∷◌, ◌++◌, sym, ap, ◌∙◌, append-nil, append_assoc}
use Rattle.short_codes.specs.Codes.{each}

-- one more
pub each-push : {A : Type 0} (code : A → List ℕ) (xs : List A) (x : A) → each code (xs ++ x ∷ []) ≡ each code xs ++ code x
each-push code [] x = append-nil (code x)
each-push code (y ∷ xs) x = ap (λ (text : List ℕ). code y ++ text) (each-push code xs x) ∙ sym (append_assoc (code y) (each code xs) (code x))
