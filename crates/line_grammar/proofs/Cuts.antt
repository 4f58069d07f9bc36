-- How two cuts of one list lie.
use Rattle.std.proofs.Common.{◌≡◌, List, [], ◌∷◌, ◌++◌, refl, sym, ap, subst}

-- of `a ++ b ≡ c ++ d`: the left cut is further on, the right one is, or they are one
pub data Cut {A : Type 0} (a b c d : List A) : Type 0 where
  further : (x : A) (m : List A) → a ≡ c ++ x ∷ m → d ≡ x ∷ m ++ b → Cut a b c d
  nearer : (x : A) (m : List A) → c ≡ a ++ x ∷ m → b ≡ x ∷ m ++ d → Cut a b c d
  same : a ≡ c → b ≡ d → Cut a b c d

cut_behind : {A : Type 0} {a b c d : List A} (y : A) → Cut a b c d → Cut (y ∷ a) b (y ∷ c) d
cut_behind y (further x m e f) = further x m (ap (λ t. y ∷ t) e) f
cut_behind y (nearer x m e f) = nearer x m (ap (λ t. y ∷ t) e) f
cut_behind y (same e f) = same (ap (λ t. y ∷ t) e) f

pub cut : {A : Type 0} (a b c d : List A) → a ++ b ≡ c ++ d → Cut a b c d
cut [] b [] d e = same refl e
cut [] b (y ∷ c) d e = nearer y c refl e
cut (x ∷ a) b [] d e = further x a refl (sym e)
cut {A} (x ∷ a) b (y ∷ c) d e =
    let heads : x ≡ y = cc in
    let tails : a ++ b ≡ c ++ d = cc in
    let P : A → Type 0 = λ z. Cut (x ∷ a) b (z ∷ c) d in
    subst P heads (cut_behind x (cut a b c d tails))
