-- A list of objects that is seen whole, and filled in part: none is there past that.
use Rattle.std.proofs.Common.{◌≡◌, ℕ, ◌-◌, ◌<◌, ◌≤◌, Bool, true, false, List, ◌++◌, length, replicate, set, get_or, refl, sym, ap, ◌∙◌, arith, ⊎_elim}
use Rattle.std.proofs.lemmas.Bool.{cases_lt}
use Rattle.std.proofs.lemmas.List.{ext_get_or, get_or_append_left, get_or-append_right, get_or_past, get_or-replicate, length-append, length-replicate, length-set, set-append_left}
use Rattle.timer_objects.specs.Kept.{padded}

get_or-fill : (n i : ℕ) → get_or (replicate n false) i false ≡ false
get_or-fill n i =
    ⊎_elim
    (λ (within : i < n). get_or-replicate n i false false within)
    (λ (past : n ≤ i). get_or_past (replicate n false) i false (omega (arith, past, length-replicate n false)))
    (cases_lt i n)

pub get_or_padded : (n : ℕ) (xs : List Bool) (i : ℕ) → get_or (padded n xs) i false ≡ get_or xs i false
get_or_padded n xs i =
    let fill = replicate (n - length xs) false in
    ⊎_elim
    (λ (within : i < length xs). get_or_append_left xs fill false i within)
    (λ (past : length xs ≤ i). get_or-append_right xs fill (length xs) i false refl past ∙ get_or-fill (n - length xs) (i - length xs) ∙ sym (get_or_past xs i false past))
    (cases_lt i (length xs))

pub length_padded : (n : ℕ) (xs : List Bool) → length xs ≤ n → length (padded n xs) ≡ n
length_padded n xs few =
    let fill = replicate (n - length xs) false in
    omega (arith, few, length-append xs fill, length-replicate (n - length xs) false)

-- a place that is filled is set
pub padded_set : (n : ℕ) (xs : List Bool) (i : ℕ) (v : Bool) → i < length xs → padded n (set xs i v) ≡ set (padded n xs) i v
padded_set n xs i v filled =
    ap (λ m. set xs i v ++ replicate (n - m) false) (length-set xs i v)
    ∙ sym (set-append_left xs (replicate (n - length xs) false) i v filled)

-- more are filled
pub padded_more : (n : ℕ) (old new : List Bool) → length old ≤ n → length new ≤ n → ((k : ℕ) → get_or new k false ≡ get_or old k false) → padded n new ≡ padded n old
padded_more n old new few_old few_new same =
    ext_get_or false (padded n new) (padded n old) (length_padded n new few_new ∙ sym (length_padded n old few_old)) (λ i lt. get_or_padded n new i ∙ same i ∙ sym (get_or_padded n old i))

-- an object that is there has a place that is filled
pub there_filled : (n : ℕ) (xs : List Bool) (i : ℕ) → get_or (padded n xs) i false ≡ true → get_or xs i false ≡ true
there_filled n xs i alive = sym (get_or_padded n xs i) ∙ alive

pub is_filled : (xs : List Bool) (i : ℕ) → get_or xs i false ≡ true → i < length xs
is_filled xs i alive =
    ⊎_elim
    (λ (within : i < length xs). within)
    (λ (past : length xs ≤ i). let both : false ≡ true = sym (get_or_past xs i false past) ∙ alive in absurd cc)
    (cases_lt i (length xs))
