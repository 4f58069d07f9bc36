-- The callbacks above a number, as they are gone through.
use Rattle.std.proofs.Common.{◌≡◌, ℕ, ◌+◌, ◌-◌, ◌<◌, ◌≤◌, true, false, cond, List, [], ◌∷◌, length, nat_lt, Some, None, refl, sym, ap, ◌∙◌, subst, arith, find, filter}
use Rattle.std.specs.List.{count_by}
use Rattle.std.proofs.lemmas.Bool.Decides.{nat_tests}
use Rattle.tp_model.specs.History.{IsLegal}
use Rattle.tp_model.specs.Laws.Once.{left}
use Rattle.recorded.specs.Recordings.{left_behind, world_behind, Recording}
use Rattle.recorded.proofs.Walks.{AreRising}
use Rattle.tp_base.specs.declared.ids.GroupId.{GroupId}
use Rattle.tp_library.specs.Counted.{one_in}
use Rattle.tp_library.specs.declared.told.Effect.{Effect}
use Rattle.tp_library.specs.declared.told.Effect.TheVariants.{Closes}
use Rattle.tp_library.specs.Rows.{counted_left, is_above, is_row_in, rows_in, Row}
use Rattle.tp_library.specs.Shelves.{library_at, Shelf}
use Rattle.tp_library.specs.Tallies.{at}
use Rattle.tp_library.proofs.Counting.{count_cons}
use Rattle.tp_library.proofs.EffectsOf.{reached}
use Rattle.tp_library.proofs.News.{left_rise}

lt_true : (a b : ℕ) → a < b → nat_lt a b ≡ true
lt_true a b h = grind (arith, h)

lt_false : (a b : ℕ) → b ≤ a → nat_lt a b ≡ false
lt_false a b h = grind (arith, h)

lt_from : (a b : ℕ) → nat_lt a b ≡ true → a < b
lt_from a b h = grind (arith, nat_tests, h)

le_from : (a b : ℕ) → nat_lt a b ≡ false → b ≤ a
le_from a b h = grind (arith, nat_tests, h)

pub kept_row : (number : ℕ) (row : Row) (rows : List Row) → number < row.0 → filter (is_above number) (row ∷ rows) ≡ row ∷ filter (is_above number) rows
kept_row number row rows h = ap (λ b. cond b (row ∷ filter (is_above number) rows) (filter (is_above number) rows)) (lt_true number row.0 h)

pub left_out : (number : ℕ) (row : Row) (rows : List Row) → row.0 ≤ number → filter (is_above number) (row ∷ rows) ≡ filter (is_above number) rows
left_out number row rows h = ap (λ b. cond b (row ∷ filter (is_above number) rows) (filter (is_above number) rows)) (lt_false number row.0 h)

pub all_above : (number low : ℕ) (rows : List Row) → AreRising low rows → number ≤ low → filter (is_above number) rows ≡ rows
all_above number low [] r h = refl
all_above number low (row ∷ rows) r h =
    kept_row number row rows (omega (arith, r.0, h)) ∙ ap (λ xs. row ∷ xs) (all_above number row.0 rows r.1 (omega (arith, r.0, h)))

found_above : (number : ℕ) (rows : List Row) (row : Row) → find (is_above number) rows ≡ Some row → number < row.0
found_above number [] row e = absurd cc
found_above number (x ∷ xs) row e =
    elim (nat_lt number x.0) as (λ b. nat_lt number x.0 ≡ b → cond b (Some x) (find (is_above number) xs) ≡ Some row → number < row.0) [
      | true ↦ λ is found. let same : x ≡ row = cc in subst (λ (y : Row). number < y.0) same (lt_from number x.0 is)
      | false ↦ λ is found. found_above number xs row found
    ] refl e

pub none_above : (number : ℕ) (rows : List Row) → find (is_above number) rows ≡ None → filter (is_above number) rows ≡ []
none_above number [] e = refl
none_above number (x ∷ xs) e =
    elim (nat_lt number x.0) as (λ b. cond b (Some x) (find (is_above number) xs) ≡ None → cond b (x ∷ filter (is_above number) xs) (filter (is_above number) xs) ≡ []) [
      | true ↦ λ found. absurd cc
      | false ↦ λ found. none_above number xs found
    ] e

pub next_above : (number low : ℕ) (rows : List Row) (row : Row) → AreRising low rows → find (is_above number) rows ≡ Some row → filter (is_above number) rows ≡ row ∷ filter (is_above row.0) rows
next_above number low [] row r e = absurd cc
next_above number low (x ∷ xs) row r e =
    elim (nat_lt number x.0) as (λ b. nat_lt number x.0 ≡ b → cond b (Some x) (find (is_above number) xs) ≡ Some row → filter (is_above number) (x ∷ xs) ≡ row ∷ filter (is_above row.0) (x ∷ xs)) [
      | true ↦ λ is found.
          let same : x ≡ row = cc in
          let lt = lt_from number x.0 is in
          subst (λ (y : Row). filter (is_above number) (x ∷ xs) ≡ y ∷ filter (is_above y.0) (x ∷ xs)) same
          (kept_row number x xs lt ∙ ap (λ ys. x ∷ ys) (all_above number x.0 xs r.1 (omega (arith, lt)) ∙ sym (left_out x.0 x xs (omega arith) ∙ all_above x.0 x.0 xs r.1 (omega arith))))
      | false ↦ λ is found.
          let le = le_from number x.0 is in
          left_out number x xs le
          ∙ next_above number x.0 xs row r.1 found
          ∙ ap (λ ys. row ∷ ys) (sym (left_out row.0 x xs (omega (arith, le, found_above number xs row found))))
    ] refl e

-- what is counted with the next one
rows_next : (s : Shelf) (library number low : ℕ) (rows : List Row) (row : Row) → AreRising low rows → find (is_above number) rows ≡ Some row
    → rows_in s library number rows ≡ one_in (library_at s row.0 row.1.0) library + rows_in s library row.0 rows
rows_next s library number low rows row r e =
    ap (count_by (is_row_in s library)) (next_above number low rows row r e) ∙ count_cons (is_row_in s library) row (filter (is_above row.0) rows)

rows_end : (s : Shelf) (library number : ℕ) (rows : List Row) → find (is_above number) rows ≡ None → rows_in s library number rows ≡ 0
rows_end s library number rows e = ap (count_by (is_row_in s library)) (none_above number rows e)

fewer_above : (number low : ℕ) (rows : List Row) (row : Row) → AreRising low rows → find (is_above number) rows ≡ Some row → length (filter (is_above row.0) rows) < length (filter (is_above number) rows)
fewer_above number low rows row r e = omega (arith, ap length (next_above number low rows row r e))

-- ---- behind a recording

module _ (r : Recording) (legal : IsLegal r.limits r.capacity r.history) where
  pub left_rises : AreRising 0 (left (world_behind r))
  left_rises = left_rise (length (world_behind r).callbacks + 1) (world_behind r) (reached r legal).sound

  pub next_behind : (s : Shelf) (library number : ℕ) (row : Row) → Some row ≡ left_behind r number → rows_in s library number (left (world_behind r)) ≡ one_in (library_at s row.0 row.1.0) library + rows_in s library row.0 (left (world_behind r))
  next_behind s library number row next = rows_next s library number 0 (left (world_behind r)) row left_rises (sym next)

  pub end_behind : (s : Shelf) (library number : ℕ) → None ≡ left_behind r number → rows_in s library number (left (world_behind r)) ≡ 0
  end_behind s library number none = rows_end s library number (left (world_behind r)) (sym none)

  pub fewer_behind : (number : ℕ) (row : Row) → Some row ≡ left_behind r number → length (filter (is_above row.0) (left (world_behind r))) < length (filter (is_above number) (left (world_behind r)))
  fewer_behind number row next = fewer_above number 0 (left (world_behind r)) row left_rises (sym next)

-- ---- what is counted after an effect

pub closes_recounts : (s : Shelf) (library : ℕ) (group : GroupId) (cancelled first count : ℕ) (rows : List Row) (tally : List ℕ) → 0 < cancelled
    → counted_left s library (Closes group cancelled) first count rows tally ≡ rows_in s library 0 rows
closes_recounts s library group cancelled first count rows tally h = ap (λ b. cond b (rows_in s library 0 rows) (at tally library)) (lt_true 0 cancelled h)

pub other_adds : (s : Shelf) (library : ℕ) (effect : Effect) (first count : ℕ) (rows : List Row) (tally : List ℕ) → ((group : GroupId) (cancelled : ℕ) → effect ≡ Closes group cancelled → ⊥) → 0 < count
    → counted_left s library effect first count rows tally ≡ at tally library + rows_in s library (first - 1) rows
other_adds s library (Closes group cancelled) first count rows tally not h = absurd (not group cancelled refl)
other_adds s library effect first count rows tally not h = ap (λ b. cond b (at tally library + rows_in s library (first - 1) rows) (at tally library)) (lt_true 0 count h)
