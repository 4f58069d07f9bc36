-- A loop that writes the elements of a list in place: what is written so far, and what becomes of the rest, is what becomes
-- of all.
use Rattle.std.proofs.Common.{◌≡◌, ℕ, ◌≤◌, List, [], ◌++◌, length, map, take, drop, sym, ap, ◌∙◌}
use Rattle.std.proofs.Math.ListN.{drop_of_length-le}
use Rattle.std.proofs.lemmas.List.{take-append-drop}

-- all are written
pub all_written : {A : Type 0} (f : A → A) (xs whole : List A) (i : ℕ) → length xs ≤ i → take i xs ++ map f (drop i xs) ≡ whole → xs ≡ whole
all_written f xs whole i h e =
    let d : drop i xs ≡ [] = drop_of_length-le xs h in
    sym (take-append-drop i xs) ∙ ap (λ v. take i xs ++ v) (d ∙ sym (ap (map f) d)) ∙ e
