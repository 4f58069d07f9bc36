-- The callbacks that are counted above a number are those that were made since.
use Rattle.std.proofs.Common.{◌≡◌, ℕ, ◌+◌, ◌<◌, ◌≤◌, ◌==◌, ◌&&◌, Bool, true, false, cond, List, [], ◌∷◌, ◌++◌, length, Some, refl, sym, ap, ◌∙◌, subst, arith, slice_get, filter, zero, suc}
use Rattle.std.specs.Prelude.{map}
use Rattle.std.specs.List.{count_by, AllByRecursion}
use Rattle.std.proofs.lemmas.List.{map-append}
use Rattle.tp_base.specs.declared.rows.CallbackRow.{CallbackRow}
use Rattle.tp_model.specs.Laws.Once.{is_left, left}
use Rattle.tp_model.specs.Support.Sound.{IsRising}
use Rattle.tp_model.specs.World.{World}
use Rattle.tp_library.specs.Counted.{is_left_in, left_in}
use Rattle.tp_library.specs.Rows.{is_above, is_row_in, rows_in, Row}
use Rattle.tp_library.specs.Shelves.{library_of, Shelf}
use Rattle.tp_library.proofs.Above.{kept_row, left_out}
use Rattle.tp_library.proofs.Counting.{count_appended, count_cons}

abbrev row_at : CallbackRow → Row
row_at c = (c.number, c.object, c.status)

abbrev rows_of : List CallbackRow → List Row
rows_of cs = map row_at (filter (λ (c : CallbackRow). is_left c.status) cs)

filter_appended : {X : Type 0} (p : X → Bool) (xs ys : List X) → filter p (xs ++ ys) ≡ filter p xs ++ filter p ys
filter_appended p [] ys = refl
filter_appended {X} p (x ∷ xs) ys =
    elim (p x) as (λ b. cond b (x ∷ filter p (xs ++ ys)) (filter p (xs ++ ys)) ≡ cond b (x ∷ filter p xs) (filter p xs) ++ filter p ys) [
      | true ↦ ap (λ (zs : List X). x ∷ zs) (filter_appended p xs ys)
      | false ↦ filter_appended p xs ys
    ]

rows_parted : (s : Shelf) (library number : ℕ) (xs ys : List Row) → rows_in s library number (xs ++ ys) ≡ rows_in s library number xs + rows_in s library number ys
rows_parted s library number xs ys =
    ap (count_by (is_row_in s library)) (filter_appended (is_above number) xs ys)
    ∙ count_appended (is_row_in s library) (filter (is_above number) xs) (filter (is_above number) ys)

-- none of those that aren't above the number
rows_low : (s : Shelf) (library number : ℕ) (cs : List CallbackRow) → AllByRecursion (λ (c : CallbackRow). c.number ≤ number) cs → rows_in s library number (rows_of cs) ≡ 0
rows_low s library number [] low = refl
rows_low s library number (c ∷ cs) low =
    elim (is_left c.status) as (λ b. rows_in s library number (map row_at (cond b (c ∷ filter (λ (d : CallbackRow). is_left d.status) cs) (filter (λ (d : CallbackRow). is_left d.status) cs))) ≡ 0) [
      | true ↦ ap (count_by (is_row_in s library)) (left_out number (row_at c) (rows_of cs) low.0) ∙ rows_low s library number cs low.1
      | false ↦ rows_low s library number cs low.1
    ]

-- and all that may still run of those above it
rows_high : (s : Shelf) (library number : ℕ) (cs : List CallbackRow) → AllByRecursion (λ (c : CallbackRow). number < c.number) cs → rows_in s library number (rows_of cs) ≡ left_in s library cs
rows_high s library number [] high = refl
rows_high s library number (c ∷ cs) high =
    elim (is_left c.status) as (λ b. rows_in s library number (map row_at (cond b (c ∷ filter (λ (d : CallbackRow). is_left d.status) cs) (filter (λ (d : CallbackRow). is_left d.status) cs)))
    ≡ cond (b && (library_of s c == library)) 1 0 + left_in s library cs) [
      | true ↦
          ap (count_by (is_row_in s library)) (kept_row number (row_at c) (rows_of cs) high.0)
          ∙ count_cons (is_row_in s library) (row_at c) (filter (is_above number) (rows_of cs))
          ∙ ap (λ n. cond (library_of s c == library) 1 0 + n) (rows_high s library number cs high.1)
      | false ↦ rows_high s library number cs high.1 ∙ omega arith
    ]
    ∙ sym (count_cons (is_left_in s library) c cs)

-- ---- numbers

rising_at : (low next_number : ℕ) (xs : List CallbackRow) (y : CallbackRow) (ys : List CallbackRow) → IsRising low next_number (xs ++ y ∷ ys) → low ≤ y.number
rising_at low next_number [] y ys r = r.0
rising_at low next_number (x ∷ xs) y ys r = omega (arith, r.0, rising_at (x.number + 1) next_number xs y ys r.1)

rising_front : (low next_number number : ℕ) (xs : List CallbackRow) (y : CallbackRow) (ys : List CallbackRow) → y.number ≡ number + 1 → IsRising low next_number (xs ++ y ∷ ys) → AllByRecursion (λ (c : CallbackRow). c.number ≤ number) xs
rising_front low next_number number [] y ys is r = tt
rising_front low next_number number (x ∷ xs) y ys is r =
    (omega (arith, is, rising_at (x.number + 1) next_number xs y ys r.1), rising_front (x.number + 1) next_number number xs y ys is r.1)

all_got : (P : CallbackRow → Type 0) (cs : List CallbackRow) → ((place : ℕ) (c : CallbackRow) → slice_get cs place ≡ Some c → P c) → AllByRecursion P cs
all_got P [] each = tt
all_got P (c ∷ cs) each = (each zero c refl, all_got P cs (λ place d at. each (suc place) d at))

pub above_new : (s : Shelf) (library number next_number : ℕ) (after : World) (kept new : List CallbackRow) → after.callbacks ≡ kept ++ new → IsRising 1 next_number after.callbacks
    → ((place : ℕ) (c : CallbackRow) → slice_get new place ≡ Some c → c.number ≡ number + 1 + place) → 0 < length new → rows_in s library number (left after) ≡ left_in s library new
above_new s library number next_number after kept [] same rising numbered some = absurd (omega (arith, some))
above_new s library number next_number after kept (c ∷ cs) same rising numbered some =
    ap (λ ds. rows_in s library number (rows_of ds)) same
    ∙ ap (λ ds. rows_in s library number (map row_at ds)) (filter_appended (λ (d : CallbackRow). is_left d.status) kept (c ∷ cs))
    ∙ ap (rows_in s library number) (map-append row_at (filter (λ (d : CallbackRow). is_left d.status) kept) (filter (λ (d : CallbackRow). is_left d.status) (c ∷ cs)))
    ∙ rows_parted s library number (rows_of kept) (rows_of (c ∷ cs))
    ∙ omega (
      arith,
      rows_low s library number kept (rising_front 1 next_number number kept c cs (numbered zero c refl ∙ omega arith) (subst (IsRising 1 next_number) same rising)),
      rows_high s library number (c ∷ cs) (all_got (λ (d : CallbackRow). number < d.number) (c ∷ cs) (λ place d at. omega (arith, numbered place d at))),
    )
