-- The lists that rings stand for, by as many steps as each has places.
use Rattle.std.proofs.Common.{◌≡◌, ◌+◌, ℕ, zero, suc, ◌<◌, List, [], ◌∷◌, length, set, get_or, refl, sym, ap, ◌∙◌, arith}
use Rattle.std.proofs.lemmas.List.{ext_get_or, length-set, get_or-set_same, get_or-set_other}
use Rattle.linked_lists.specs.Kept.{walk, lists_from}
use Rattle.linked_lists.specs.Rings.{Run}
use Rattle.linked_lists.proofs.Rings.{at_set}

pub length-walk : (after : ℕ → ℕ) (n place : ℕ) → length (walk after n place) ≡ n
length-walk after zero place = refl
length-walk after (suc n) place = ap suc (length-walk after n (after place))

walk_run : (after before : ℕ → ℕ) (u e : ℕ) (ps : List ℕ) → Run after before u ps e → walk after (length ps) u ≡ ps
walk_run after before u e [] run = refl
walk_run after before u e (x ∷ xs) run = rw run.0.on (ap (λ ys. x ∷ ys) (walk_run after before x e xs run.1))

pub length-lists_from : (after : ℕ → ℕ) (k : ℕ) (lens : List ℕ) → length (lists_from after k lens) ≡ length lens
length-lists_from after k [] = refl
length-lists_from after k (n ∷ ns) = ap suc (length-lists_from after (suc k) ns)

pub lists_from_at : (after : ℕ → ℕ) (k : ℕ) (lens : List ℕ) (s : ℕ) → s < length lens → get_or (lists_from after k lens) s [] ≡ walk after (get_or lens s 0) (k + s)
lists_from_at after k [] s within = absurd (omega arith)
lists_from_at after k (n ∷ ns) zero within = ap (λ place. walk after n place) (omega arith)
lists_from_at after k (n ∷ ns) (suc s) within =
    lists_from_at after (suc k) ns s (omega arith) ∙ ap (λ place. walk after (get_or ns s 0) place) (omega arith)

-- a list is as long as is noted
pub length_at : (after : ℕ → ℕ) (k : ℕ) (lens : List ℕ) (s : ℕ) → s < length lens → length (get_or (lists_from after k lens) s []) ≡ get_or lens s 0
length_at after k lens s within = ap length (lists_from_at after k lens s within) ∙ length-walk after (get_or lens s 0) (k + s)

-- rings of these lengths are what is shown
pub shown : (after before : ℕ → ℕ) (k : ℕ) (lists : List (List ℕ)) (lens : List ℕ) → ((s : ℕ) → s < length lists → Run after before (k + s) (get_or lists s []) (k + s)) → length lists ≡ length lens → ((s : ℕ) → s < length lens → length (get_or lists s []) ≡ get_or lens s 0) → lists_from after k lens ≡ lists
shown after before k lists lens rings long lengths =
    ext_get_or [] (lists_from after k lens) lists (length-lists_from after k lens ∙ sym long)
    (λ s lt.
    let within : s < length lens = omega (arith, lt, length-lists_from after k lens) in
    lists_from_at after k lens s within
    ∙ ap (λ n. walk after n (k + s)) (sym (lengths s within))
    ∙ walk_run after before (k + s) (k + s) (get_or lists s []) (rings s (omega (arith, within, long))))

-- the same lengths, as one list has changed
pub lengths_set :
    (lists : List (List ℕ)) (lens : List ℕ) (s n : ℕ) (xs : List ℕ)
    → s < length lists → length lists ≡ length lens → length xs ≡ n → ((t : ℕ) → t < length lens → length (get_or lists t []) ≡ get_or lens t 0)
    → (t : ℕ) → t < length (set lens s n) → length (get_or (set lists s xs) t []) ≡ get_or (set lens s n) t 0
lengths_set lists lens s n xs within long is lengths t lt =
    let in_t : t < length lens = rw length-set at lt in
    let in_s : s < length lens = omega (arith, within, long) in
    at_set lists s t xs (λ ys. length ys ≡ get_or (set lens s n) t 0) within
    (λ same. rw (same, get_or-set_same lens s n 0 in_s) is)
    (λ apart. rw (get_or-set_other lens s t n 0 apart) (lengths t in_t))
