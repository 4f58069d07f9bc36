-- Lists of a value for each number below another.
use Rattle.std.proofs.Common.{◌≡◌, ◌≢◌, ℕ, zero, suc, ◌≤◌, ◌<◌, List, [], ◌∷◌, ◌++◌, length, replicate, set, get_or, refl, sym, ◌∙◌, arith, ⊎_elim}
use Rattle.std.proofs.lemmas.Bool.{cases_eq, cases_lt}
use Rattle.std.proofs.lemmas.List.{ext_get_or, get_or_past, get_or-replicate, length-replicate, length-set, get_or-set_same, get_or-set_other}
use Rattle.std.proofs.lemmas.List.FromFn.{get_or-map-range_with_len, length-map-range_with_len}
use Rattle.linked_lists.specs.Filled.{padded}
use Rattle.linked_lists.specs.Nodes.{each}

pub length-each : (n : ℕ) (f : ℕ → ℕ) → length (each n f) ≡ n
length-each n f = length-map-range_with_len f 0 n

pub get_or-each : (n : ℕ) (f : ℕ → ℕ) (i d : ℕ) → i < n → get_or (each n f) i d ≡ f i
get_or-each n f i d within = get_or-map-range_with_len f 0 n i i d within (omega arith)

-- a list that has these values
pub each_is : (n : ℕ) (f : ℕ → ℕ) (xs : List ℕ) → length xs ≡ n → ((i : ℕ) → i < n → f i ≡ get_or xs i 0) → each n f ≡ xs
each_is n f xs many same =
    ext_get_or 0 (each n f) xs (length-each n f ∙ sym many)
    (λ i lt.
    let within : i < n = omega (arith, lt, length-each n f) in
    get_or-each n f i 0 within ∙ same i within)

-- one of the values is another
pub each_set : (n : ℕ) (f g : ℕ → ℕ) (i v : ℕ) → i < n → g i ≡ v → ((j : ℕ) → j ≢ i → g j ≡ f j) → each n g ≡ set (each n f) i v
each_set n f g i v within here other =
    let in_f : i < length (each n f) = omega (arith, within, length-each n f) in
    each_is n g (set (each n f) i v) (length-set (each n f) i v ∙ length-each n f)
    (λ j lt.
    ⊎_elim
    (λ (same : j ≡ i). rw (same, get_or-set_same (each n f) i v 0 in_f) here)
    (λ (apart : j ≢ i). rw (get_or-set_other (each n f) i j v 0 apart, get_or-each n f j 0 lt) (other j apart))
    (cases_eq j i))

-- ---- numbers that are filled on use

pub get_or-padded : (room fill : ℕ) (items : List ℕ) (i : ℕ) → length items ≤ room → get_or (each room (λ k. get_or items k fill)) i fill ≡ get_or items i fill
get_or-padded room fill items i within =
    ⊎_elim
    (λ (lt : i < room). get_or-each room (λ k. get_or items k fill) i fill lt)
    (λ (past : room ≤ i). get_or_past (each room (λ k. get_or items k fill)) i fill (omega (arith, past, length-each room (λ k. get_or items k fill))) ∙ sym (get_or_past items i fill (omega (arith, past, within))))
    (cases_lt i room)

pub padded_none : (room fill : ℕ) → padded room fill [] ≡ record { fill = fill; filled = 0; items = replicate room fill }
padded_none room fill =
    let same : each room (λ k. fill) ≡ replicate room fill = each_is room (λ k. fill) (replicate room fill) (length-replicate room fill) (λ i lt. sym (get_or-replicate room i fill 0 lt)) in
    rw same refl

-- one more of the fill
pub fill_pushed : (items : List ℕ) (fill k : ℕ) → get_or (items ++ fill ∷ []) k fill ≡ get_or items k fill
fill_pushed [] fill zero = refl
fill_pushed [] fill (suc k) = refl
fill_pushed (x ∷ xs) fill zero = refl
fill_pushed (x ∷ xs) fill (suc k) = fill_pushed xs fill k

-- another number, which is filled
pub padded_set : (room fill : ℕ) (items : List ℕ) (i v : ℕ) → i < room → i < length items → padded room fill (set items i v) ≡ record (padded room fill items) { items = set (each room (λ k. get_or items k fill)) i v }
padded_set room fill items i v within there =
    let is = each_set room (λ k. get_or items k fill) (λ k. get_or (set items i v) k fill) i v within (get_or-set_same items i v fill there) (λ j apart. get_or-set_other items i j v fill apart) in
    rw (is, length-set items i v) refl

-- more that are filled
pub padded_more : (room fill n : ℕ) (old new : List ℕ) → length new ≡ n → ((k : ℕ) → get_or new k fill ≡ get_or old k fill) → padded room fill new ≡ record (padded room fill old) { filled = n }
padded_more room fill n old new many same =
    let is = each_is room (λ k. get_or new k fill) (each room (λ k. get_or old k fill)) (length-each room (λ k. get_or old k fill)) (λ i lt. same i ∙ sym (get_or-each room (λ k. get_or old k fill) i 0 lt)) in
    rw (is, many) refl
