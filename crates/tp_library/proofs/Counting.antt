-- Counts of callbacks by library: over longer lists, behind a row in place of another and behind a cancellation.
use Rattle.std.proofs.Common.{◌≡◌, ℕ, ◌+◌, Bool, true, false, cond, ◌&&◌, ◌==◌, List, [], ◌∷◌, ◌++◌, length, map, Some, refl, sym, ap, ap₂, ◌∙◌, arith, filter, find}
use Rattle.std.specs.List.{AllByRecursion, count_by}
use Rattle.std.proofs.lemmas.List.Sums.{length-filter, sum_by-append, sum_by-cons}
use Rattle.std.specs.Prelude.{if◌then◌else◌}
use Rattle.tp_base.specs.declared.ids.ObjectId.{ObjectId}
use Rattle.tp_base.specs.declared.rows.CallbackRow.{CallbackRow}
use Rattle.tp_base.specs.declared.rows.Status.{Status}
use Rattle.tp_base.specs.declared.rows.Status.TheVariants.{Cancelled, Expected, Issued, Pending, Returned, Running}
use Rattle.tp_model.specs.Changes.{replaced}
use Rattle.tp_model.specs.Counts.{has_number, is_live, is_pending, is_running}
use Rattle.tp_model.specs.Laws.Once.{is_left, left}
use Rattle.tp_model.specs.Support.Sound.{IsRising}
use Rattle.tp_model.specs.Waits.{cancel_where, cancelled}
use Rattle.tp_model.specs.World.{World}
use Rattle.tp_model.proofs.Callbacks.{length_filter_replaced, pending_not_running}
use Rattle.tp_model.proofs.Cancelling.{cancelled_if, IsPendingTest}
use Rattle.tp_model.proofs.Refusals.{and_false, and_true, false_true}
use Rattle.tp_library.specs.Counted.{is_left_in, is_run_in, left_in, runs_in}
use Rattle.tp_library.specs.Shelves.{callbacks_in, is_callback_in, library_at, library_of, Shelf}

-- ---- any count

abbrev pub as_one : Bool → ℕ
as_one b = if b then 1 else 0

pub count_cons : {X : Type 0} (p : X → Bool) (x : X) (xs : List X) → count_by p (x ∷ xs) ≡ cond (p x) 1 0 + count_by p xs
count_cons p x xs = sum_by-cons (λ y. cond (p y) 1 0) x xs

pub count_appended : {X : Type 0} (p : X → Bool) (xs ys : List X) → count_by p (xs ++ ys) ≡ count_by p xs + count_by p ys
count_appended p xs ys = sum_by-append (λ y. cond (p y) 1 0) xs ys

-- tests that agree on all count the same
pub count_agree : {X : Type 0} (p q : X → Bool) (xs : List X) → AllByRecursion (λ x. p x ≡ q x) xs → count_by p xs ≡ count_by q xs
count_agree p q [] all = refl
count_agree p q (x ∷ xs) all = count_cons p x xs ∙ ap₂ (λ b n. cond b 1 0 + n) all.0 (count_agree p q xs all.1) ∙ sym (count_cons q x xs)

pub count_none : {X : Type 0} (p : X → Bool) (xs : List X) → AllByRecursion (λ x. p x ≡ false) xs → count_by p xs ≡ 0
count_none p [] all = refl
count_none p (x ∷ xs) all = count_cons p x xs ∙ ap₂ (λ b n. cond b 1 0 + n) all.0 (count_none p xs all.1)

-- a row in place of the one of its number
pub count_replaced : (p : CallbackRow → Bool) (r c : CallbackRow) (low next_number : ℕ) (cs : List CallbackRow) → IsRising low next_number cs → find (has_number r.number) cs ≡ Some c →
    count_by p (replaced r cs) + cond (p c) 1 0 ≡ count_by p cs + cond (p r) 1 0
count_replaced p r c low next_number cs rises found =
    omega (arith, length_filter_replaced p r c low next_number cs rises found, length-filter p (replaced r cs), length-filter p cs)

-- as many as before, where the row passes as the one before it did
pub count_same : (p : CallbackRow → Bool) (r c : CallbackRow) (low next_number : ℕ) (cs : List CallbackRow) → IsRising low next_number cs → find (has_number r.number) cs ≡ Some c → p r ≡ p c →
    count_by p (replaced r cs) ≡ count_by p cs
count_same p r c low next_number cs rises found alike =
    omega (arith, count_replaced p r c low next_number cs rises found, ap as_one alike)

-- ---- what may still run, and what runs

pub pending_left : (s : Status) → is_pending s ≡ true → is_left s ≡ true
pending_left Pending e = refl
pending_left _ e = absurd (false_true e)

live_parts : (s : Status) (b : Bool) → cond (is_live s && b) 1 0 ≡ cond (is_left s && b) 1 0 + cond (is_running s && b) 1 0
live_parts Expected true = refl
live_parts Expected false = refl
live_parts Issued true = refl
live_parts Issued false = refl
live_parts Pending true = refl
live_parts Pending false = refl
live_parts (Running worker associated slots) true = refl
live_parts (Running worker associated slots) false = refl
live_parts Returned b = refl
live_parts Cancelled b = refl

live_counted : (s : Shelf) (library : ℕ) (cs : List CallbackRow) → count_by (is_callback_in s library) cs ≡ left_in s library cs + runs_in s library cs
live_counted s library [] = refl
live_counted s library (c ∷ cs) =
    omega (
      arith,
      count_cons (is_callback_in s library) c cs,
      count_cons (is_left_in s library) c cs,
      count_cons (is_run_in s library) c cs,
      live_parts c.status (library_of s c == library),
      live_counted s library cs,
    )

-- a callback of a library may still run, or runs
pub callbacks_parted : (w : World) (s : Shelf) (library : ℕ) → callbacks_in w s library ≡ left_in s library w.callbacks + runs_in s library w.callbacks
callbacks_parted w s library = live_counted s library w.callbacks

pub left_appended : (s : Shelf) (library : ℕ) (cs ds : List CallbackRow) → left_in s library (cs ++ ds) ≡ left_in s library cs + left_in s library ds
left_appended s library cs ds = count_appended (is_left_in s library) cs ds

pub runs_appended : (s : Shelf) (library : ℕ) (cs ds : List CallbackRow) → runs_in s library (cs ++ ds) ≡ runs_in s library cs + runs_in s library ds
runs_appended s library cs ds = count_appended (is_run_in s library) cs ds

-- a row as it is listed, by its library
abbrev pub is_row_in : Shelf → ℕ → ℕ × ObjectId × Status → Bool
is_row_in s library row = library_at s row.0 row.1.0 == library

listed : (s : Shelf) (library : ℕ) (cs : List CallbackRow) → left_in s library cs ≡ count_by (is_row_in s library) (map (λ (c : CallbackRow). (c.number, c.object, c.status)) (filter (λ (c : CallbackRow). is_left c.status) cs))
listed s library [] = refl
listed s library (c ∷ cs) = of_status (is_left c.status) refl (listed s library cs)
  where
    rows : List CallbackRow → List (ℕ × ObjectId × Status)
    rows ds = map (λ (d : CallbackRow). (d.number, d.object, d.status)) ds

    of_status : (b : Bool) → is_left c.status ≡ b → left_in s library cs ≡ count_by (is_row_in s library) (rows (filter (λ (d : CallbackRow). is_left d.status) cs))
        → left_in s library (c ∷ cs) ≡ count_by (is_row_in s library) (rows (cond (is_left c.status) (c ∷ filter (λ (d : CallbackRow). is_left d.status) cs) (filter (λ (d : CallbackRow). is_left d.status) cs)))
    of_status true is rest =
        let here : is_left_in s library c ≡ is_row_in s library (c.number, c.object, c.status) = ap (λ b. b && (library_of s c == library)) is in
        omega (
          arith,
          count_cons (is_left_in s library) c cs,
          ap as_one here,
          rest,
          ap (λ b. count_by (is_row_in s library) (rows (cond b (c ∷ filter (λ (d : CallbackRow). is_left d.status) cs) (filter (λ (d : CallbackRow). is_left d.status) cs)))) is,
          count_cons (is_row_in s library) (c.number, c.object, c.status) (rows (filter (λ (d : CallbackRow). is_left d.status) cs)),
        )
    of_status false is rest =
        omega (
          arith,
          count_cons (is_left_in s library) c cs,
          ap (λ b. as_one (b && (library_of s c == library))) is,
          rest,
          ap (λ b. count_by (is_row_in s library) (rows (cond b (c ∷ filter (λ (d : CallbackRow). is_left d.status) cs) (filter (λ (d : CallbackRow). is_left d.status) cs)))) is,
        )

-- what may still run of a library is counted along the list of what is left
pub left_listed : (w : World) (s : Shelf) (library : ℕ) → left_in s library w.callbacks ≡ count_by (is_row_in s library) (left w)
left_listed w s library = listed s library w.callbacks

-- ---- a cancellation

module _ (s : Shelf) (library : ℕ) (test : CallbackRow → Bool) (only : IsPendingTest test) where
  one_cut : (c : CallbackRow) (b : Bool) → test c ≡ b → cond (is_left_in s library (cond b (cancelled c) c)) 1 0 + cond (b && (library_of s c == library)) 1 0 ≡ cond (is_left_in s library c) 1 0
  one_cut c true is = omega (arith, ap (λ b. as_one (b && (library_of s c == library))) (pending_left c.status (only c is)))
  one_cut c false is = omega arith

  one_unrun : (c : CallbackRow) (b : Bool) → test c ≡ b → is_run_in s library (cond b (cancelled c) c) ≡ is_run_in s library c
  one_unrun c true is = sym (ap (λ b. b && (library_of s c == library)) (pending_not_running c.status (only c is)))
  one_unrun c false is = refl

  -- what is cancelled may not run any more
  pub left_cut : (cs : List CallbackRow) → left_in s library (cancel_where test cs) + count_by (λ c. test c && (library_of s c == library)) cs ≡ left_in s library cs
  left_cut [] = refl
  left_cut (c ∷ cs) =
      omega (
        arith,
        count_cons (is_left_in s library) (cancelled_if test c) (cancel_where test cs),
        count_cons (λ (d : CallbackRow). test d && (library_of s d == library)) c cs,
        count_cons (is_left_in s library) c cs,
        one_cut c (test c) refl,
        left_cut cs,
      )

  -- what runs isn't cancelled
  pub runs_uncut : (cs : List CallbackRow) → runs_in s library (cancel_where test cs) ≡ runs_in s library cs
  runs_uncut [] = refl
  runs_uncut (c ∷ cs) =
      count_cons (is_run_in s library) (cancelled_if test c) (cancel_where test cs)
      ∙ ap₂ (λ b n. cond b 1 0 + n) (one_unrun c (test c) refl) (runs_uncut cs)
      ∙ sym (count_cons (is_run_in s library) c cs)

-- where all that pass are of one library, all of them are counted for it, or none
pub count_all_of : (s : Shelf) (library mine : ℕ) (test : CallbackRow → Bool) → ((c : CallbackRow) → test c ≡ true → library_of s c ≡ mine) → (cs : List CallbackRow)
    → count_by (λ c. test c && (library_of s c == library)) cs ≡ (if mine == library then length (filter test cs) else 0)
count_all_of s library mine test of cs = of_library (mine == library) refl
  where
    one : (b : Bool) → (mine == library) ≡ b → (c : CallbackRow) (t : Bool) → test c ≡ t → (t && (library_of s c == library)) ≡ (t && b)
    one b is c true passes = ap (λ m. m == library) (of c passes) ∙ is
    one b is c false passes = refl

    all : (b : Bool) → (mine == library) ≡ b → (ds : List CallbackRow) → AllByRecursion (λ c. (test c && (library_of s c == library)) ≡ (test c && b)) ds
    all b is [] = tt
    all b is (d ∷ ds) = (one b is d (test d) refl, all b is ds)

    of_library : (b : Bool) → (mine == library) ≡ b → count_by (λ c. test c && (library_of s c == library)) cs ≡ (if b then length (filter test cs) else 0)
    of_library true is = count_agree (λ c. test c && (library_of s c == library)) (λ c. test c && true) cs (all true is cs) ∙ count_agree (λ c. test c && true) test cs (bare cs) ∙ sym (length-filter test cs)
      where
        bare : (ds : List CallbackRow) → AllByRecursion (λ c. (test c && true) ≡ test c) ds
        bare [] = tt
        bare (d ∷ ds) = (and_true (test d), bare ds)
    of_library false is = count_agree (λ c. test c && (library_of s c == library)) (λ c. test c && false) cs (all false is cs) ∙ count_none (λ c. test c && false) cs (bare cs)
      where
        bare : (ds : List CallbackRow) → AllByRecursion (λ c. (test c && false) ≡ false) ds
        bare [] = tt
        bare (d ∷ ds) = (and_false (test d), bare ds)

-- where none passes, none is cancelled
pub uncut : (test : CallbackRow → Bool) (cs : List CallbackRow) → length (filter test cs) ≡ 0 → cancel_where test cs ≡ cs
uncut test [] none = refl
uncut test (c ∷ cs) none = of_test (test c) refl none (λ e. uncut test cs e)
  where
    of_test : (b : Bool) → test c ≡ b → length (cond b (c ∷ filter test cs) (filter test cs)) ≡ 0 → (length (filter test cs) ≡ 0 → cancel_where test cs ≡ cs) → cond (test c) (cancelled c) c ∷ cancel_where test cs ≡ c ∷ cs
    of_test true is e rest = absurd (omega (arith, e))
    of_test false is e rest = ap₂ (λ b ds. cond b (cancelled c) c ∷ ds) is (rest e)
