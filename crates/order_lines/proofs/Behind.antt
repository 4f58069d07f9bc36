-- Lines behind other lines.
use Rattle.std.proofs.Common.{◌≡◌, ◌∙◌, ℕ, zero, suc, ◌+◌, List, [], ◌∷◌, ap, drop, sym}
use Rattle.std.proofs.lemmas.List.{drop-drop}

abbrev Texts : Type 0
Texts = List (List ℕ)

pub further : (k : ℕ) (all left rest : Texts) (line : List ℕ) → left ≡ drop k all → left ≡ line ∷ rest → rest ≡ drop (k + 1) all
further k all left rest line is parts = ap (drop 1) (sym parts ∙ is) ∙ drop-drop 1 k all

none_of_none : (k : ℕ) (all : Texts) → all ≡ [] → drop k all ≡ []
none_of_none zero all none = none
none_of_none (suc k) all none = ap (drop (suc k)) none

pub none_left : (k more : ℕ) (all left : Texts) → left ≡ drop k all → left ≡ [] → drop (k + more) all ≡ []
none_left k more all left is none = sym (drop-drop more k all) ∙ none_of_none more (drop k all) (sym is ∙ none)
