-- The callbacks that a call makes: their numbers, and how they are found among what is left.
use Rattle.std.proofs.Common.{◌≡◌, ℕ, zero, suc, ◌+◌, ◌<◌, Bool, true, false, cond, ◌&&◌, ◌==◌, List, [], ◌∷◌, ◌++◌, length, map, nat_lt, Some, refl, sym, ap, ap₂, ◌∙◌, arith, filter, find, eq-eqb, ne_eqb, slice_get}
use Rattle.std.specs.List.{AllByRecursion, count_by, range_with_len}
use Rattle.std.proofs.lemmas.List.FromFn.{length-range_with_len}
use Rattle.tp_base.specs.declared.ids.ObjectId.{ObjectId}
use Rattle.tp_base.specs.declared.rows.CallbackRow.{CallbackRow}
use Rattle.tp_base.specs.declared.rows.Status.{Status}
use Rattle.tp_base.specs.declared.rows.Status.TheVariants.{Expected, Pending}
use Rattle.tp_model.specs.Counts.{has_number, is_running}
use Rattle.tp_model.specs.Laws.Once.{is_left, left}
use Rattle.tp_model.specs.Support.Moves.{AreNew, is_new, numbers_of}
use Rattle.tp_model.specs.Support.Sound.{IsRising, IsSound}
use Rattle.tp_model.specs.World.{World}
use Rattle.tp_model.proofs.Callbacks.{found_bounds, rising_filter}
use Rattle.tp_model.proofs.Lists.{all_along}
use Rattle.tp_model.proofs.Refusals.{false_true}
use Rattle.recorded.proofs.Walks.{above, AreRising, lt_false, lt_true, row_at, rows_rise}
use Rattle.tp_library.specs.Counted.{is_left_in, is_run_in, left_in, runs_in}
use Rattle.tp_library.specs.Shelves.{library_of, Shelf}
use Rattle.tp_library.proofs.Counting.{count_agree, count_none}
use Rattle.tp_library.proofs.Effects.{IsNewAt}
use Rattle.tp_library.proofs.Moving.{some_same}

-- ---- rows by their places

slice_get_behind : {X : Type 0} (xs ys : List X) (i : ℕ) → slice_get (xs ++ ys) (length xs + i) ≡ slice_get ys i
slice_get_behind [] ys i = let same : 0 + i ≡ i = omega arith in ap (slice_get ys) same
slice_get_behind (x ∷ xs) ys i = let same : suc (length xs) + i ≡ suc (length xs + i) = omega arith in ap (slice_get (x ∷ (xs ++ ys))) same ∙ slice_get_behind xs ys i

-- what stands at a place is found by its number
place_found : (low next_number : ℕ) (cs : List CallbackRow) → IsRising low next_number cs → (i : ℕ) (c : CallbackRow) → slice_get cs i ≡ Some c → find (has_number c.number) cs ≡ Some c
place_found low next_number [] rises i c at = absurd cc
place_found low next_number (d ∷ cs) rises zero c at =
    let same : d ≡ c = some_same d c at in
    ap (λ b. cond b (Some d) (find (has_number c.number) cs)) (eq-eqb d.number c.number (ap (λ (x : CallbackRow). x.number) same)) ∙ at
place_found low next_number (d ∷ cs) rises (suc i) c at =
    let rest = place_found (d.number + 1) next_number cs rises.1 i c at in
    let bounds = found_bounds c.number (d.number + 1) next_number c cs rises.1 rest in
    ap (λ b. cond b (Some d) (find (has_number c.number) cs)) (ne_eqb d.number c.number (λ e. omega (arith, e, bounds.0))) ∙ rest

-- ---- what is left, by number

abbrev rows_left : List CallbackRow → List (ℕ × ObjectId × Status)
rows_left cs = map row_at (filter (λ (c : CallbackRow). is_left c.status) cs)

-- a row that is left is the first one above the number before its own
first_above : (low next_number : ℕ) (cs : List CallbackRow) → IsRising low next_number cs → (c : CallbackRow) → find (has_number c.number) cs ≡ Some c → is_left c.status ≡ true → (number : ℕ) → c.number ≡ number + 1
    → find (above number) (rows_left cs) ≡ Some (row_at c)
first_above low next_number [] rises c found stays number is = absurd cc
first_above low next_number (d ∷ cs) rises c found stays number is =
    of_number (has_number c.number d) refl found (λ later. first_above (d.number + 1) next_number cs rises.1 c later stays number is)
  where
    of_status : (b : Bool) → is_left d.status ≡ b → nat_lt number d.number ≡ false → find (above number) (rows_left cs) ≡ Some (row_at c)
        → find (above number) (map row_at (cond b (d ∷ filter (λ (x : CallbackRow). is_left x.status) cs) (filter (λ (x : CallbackRow). is_left x.status) cs))) ≡ Some (row_at c)
    of_status true here below rest = ap (λ b. cond b (Some (row_at d)) (find (above number) (rows_left cs))) below ∙ rest
    of_status false here below rest = rest

    of_number : (b : Bool) → has_number c.number d ≡ b → cond b (Some d) (find (has_number c.number) cs) ≡ Some c → (find (has_number c.number) cs ≡ Some c → find (above number) (rows_left cs) ≡ Some (row_at c))
        → find (above number) (rows_left (d ∷ cs)) ≡ Some (row_at c)
    of_number true same here rest =
        let it : d ≡ c = some_same d c here in
        let over : nat_lt number d.number ≡ true = lt_true number d.number (omega (arith, is, ap (λ (x : CallbackRow). x.number) it)) in
        ap (λ b. find (above number) (map row_at (cond b (d ∷ filter (λ (x : CallbackRow). is_left x.status) cs) (filter (λ (x : CallbackRow). is_left x.status) cs)))) (ap (λ (x : CallbackRow). is_left x.status) it ∙ stays)
        ∙ ap (λ b. cond b (Some (row_at d)) (find (above number) (rows_left cs))) over
        ∙ ap (λ (x : CallbackRow). Some (row_at x)) it
    of_number false other later rest =
        let bounds = found_bounds c.number (d.number + 1) next_number c cs rises.1 later in
        of_status (is_left d.status) refl (lt_false number d.number (omega (arith, is, bounds.0))) (rest later)

-- the numbers of what is left rise
pub left_rise : (next_number : ℕ) (w : World) → IsSound next_number w → AreRising 0 (left w)
left_rise next_number w sound =
    rows_rise 0 next_number (filter (λ (c : CallbackRow). is_left c.status) w.callbacks) (rising_filter (λ (c : CallbackRow). is_left c.status) 1 next_number w.callbacks sound.numbers)

-- ---- rows that are made

new_left : (s : Status) → is_new s ≡ true → (is_left s ≡ true) × (is_running s ≡ false)
new_left Expected e = (refl, refl)
new_left Pending e = (refl, refl)
new_left _ e = absurd (false_true e)

new_at : (first : ℕ) (cs : List CallbackRow) → AreNew first cs → (i : ℕ) (c : CallbackRow) → slice_get cs i ≡ Some c → (c.number ≡ first + i) × (is_left c.status ≡ true)
new_at first [] rows i c at = absurd cc
new_at first (d ∷ cs) rows zero c at =
    let same : d ≡ c = some_same d c at in
    (omega (arith, ap (λ (x : CallbackRow). x.number) same, rows.0.numbered), ap (λ (x : CallbackRow). is_left x.status) (sym same) ∙ (new_left d.status rows.0.unbegun).0)
new_at first (d ∷ cs) rows (suc i) c at =
    let rest = new_at (first + 1) cs rows.1 i c at in
    (omega (arith, rest.0), rest.1)

pub all_new : (first : ℕ) (cs : List CallbackRow) → AreNew first cs → AllByRecursion (λ (c : CallbackRow). (is_left c.status ≡ true) × (is_running c.status ≡ false)) cs
all_new first [] rows = tt
all_new first (c ∷ cs) rows = (new_left c.status rows.0.unbegun, all_new (first + 1) cs rows.1)

pub numbers_new : (first : ℕ) (cs : List CallbackRow) → AreNew first cs → numbers_of cs ≡ range_with_len first (length cs)
numbers_new first [] rows = refl
numbers_new first (c ∷ cs) rows = ap₂ (λ n ns. n ∷ ns) rows.0.numbered (numbers_new (first + 1) cs rows.1)

-- each of them is left behind the number before its own
pub new_told : (w after : World) (kept new : List CallbackRow) → IsSound (length after.callbacks + 1) after → after.callbacks ≡ kept ++ new → length kept ≡ length w.callbacks → AreNew (length w.callbacks + 1) new
    → (place : ℕ) (c : CallbackRow) → slice_get new place ≡ Some c → IsNewAt w after place c
new_told w after kept new sound callbacks same rows place c at =
    let here = new_at (length w.callbacks + 1) new rows place c at in
    let stands : slice_get after.callbacks (length kept + place) ≡ Some c = ap (λ (cs : List CallbackRow). slice_get cs (length kept + place)) callbacks ∙ slice_get_behind kept new place ∙ at in
    let found = place_found 1 (length after.callbacks + 1) after.callbacks sound.numbers (length kept + place) c stands in
    record {
      number = here.0;
      left = here.1;
      told = first_above 1 (length after.callbacks + 1) after.callbacks sound.numbers c found here.1 (length w.callbacks + place) (omega (arith, here.0));
    }

-- each is counted as left for its library, and none as running
pub made_left : (s : Shelf) (library first : ℕ) (cs : List CallbackRow) → AreNew first cs → left_in s library cs ≡ count_by (λ (c : CallbackRow). library_of s c == library) cs
made_left s library first cs rows = count_agree (is_left_in s library) (λ (c : CallbackRow). library_of s c == library) cs (all_along Fresh (λ (c : CallbackRow). is_left_in s library c ≡ (library_of s c == library)) one cs (all_new first cs rows))
  where
    Fresh : CallbackRow → Type 0
    Fresh c = (is_left c.status ≡ true) × (is_running c.status ≡ false)

    one : (c : CallbackRow) → Fresh c → is_left_in s library c ≡ (library_of s c == library)
    one c fresh = ap (λ b. b && (library_of s c == library)) fresh.0

pub made_runs : (s : Shelf) (library first : ℕ) (cs : List CallbackRow) → AreNew first cs → runs_in s library cs ≡ 0
made_runs s library first cs rows = count_none (is_run_in s library) cs (all_along Fresh (λ (c : CallbackRow). is_run_in s library c ≡ false) one cs (all_new first cs rows))
  where
    Fresh : CallbackRow → Type 0
    Fresh c = (is_left c.status ≡ true) × (is_running c.status ≡ false)

    one : (c : CallbackRow) → Fresh c → is_run_in s library c ≡ false
    one c fresh = ap (λ b. b && (library_of s c == library)) fresh.1

-- ---- numbers that are told

pub range_same : (first count other more : ℕ) → range_with_len first count ≡ range_with_len other more → (count ≡ more) × (0 < count → first ≡ other)
range_same first zero other zero e = (refl, λ some. absurd (omega (arith, some)))
range_same first zero other (suc more) e = absurd cc
range_same first (suc count) other zero e = absurd cc
range_same first (suc count) other (suc more) e =
    let heads : first ≡ other = cc in
    (sym (length-range_with_len first (suc count)) ∙ ap length e ∙ length-range_with_len other (suc more), λ _. heads)

pub no_numbers : (cs : List CallbackRow) → numbers_of cs ≡ [] → cs ≡ []
no_numbers [] e = refl
no_numbers (c ∷ cs) e = absurd cc
