-- The first of a list that passes a test, as a search finds it.
use Rattle.std.proofs.Common.{◌≡◌, ℕ, suc, Bool, true, false, not, ◌&&◌, ◌||◌, ◌==◌, cond, if◌then◌else◌, List, [], ◌∷◌, ◌++◌, filter, find, length, slice_get, None, Some, refl, ap, ◌∙◌, arith, append_assoc, ne_eqb}
use Rattle.std.specs.List.{list_any}
use Rattle.tp_base.specs.declared.calls.Priority.{Priority}
use Rattle.tp_base.specs.declared.calls.Priority.TheVariants.{High, Normal, Low}
use Rattle.tp_base.specs.declared.rows.CallbackRow.{CallbackRow}
use Rattle.tp_model.specs.World.{World, BegunWait}
use Rattle.tp_model.specs.Counts.{is_high, is_low, is_normal, is_open_to, next, waiting}
use Rattle.tp_model.specs.Waits.{held, is_held}
use Rattle.tp_model.specs.Calls.Waits.{holds_starved}
use Rattle.world_reads.specs.Progress.{progress_left, progress_with}
use Rattle.world_reads.specs.declared.waiting.Progress.TheVariants.{Starved, Holds}
use Rattle.tp_model.proofs.Lists.{slice_get_append}
use Rattle.plain_worlds.specs.Taking.{first_open, next_below_high}

pub first_passing : {X : Type 0} (p : X → Bool) (xs : List X) → slice_get (filter p xs) 0 ≡ find p xs
first_passing p [] = refl
first_passing p (x ∷ xs) = by_test (first_passing p xs) (p x)
  where
    by_test : slice_get (filter p xs) 0 ≡ find p xs → (b : Bool) → slice_get (cond b (x ∷ filter p xs) (filter p xs)) 0 ≡ cond b (Some x) (find p xs)
    by_test rest true = refl
    by_test rest false = rest

-- what passes a test goes before what passes another
first_here : {X : Type 0} (p : X → Bool) (xs ys : List X) (x : X) → find p xs ≡ Some x → slice_get (filter p xs ++ ys) 0 ≡ Some x
first_here p xs ys x e = slice_get_append (filter p xs) ys 0 x (first_passing p xs ∙ e)

later_by : {X : Type 0} (zs ys : List X) → slice_get zs 0 ≡ None → slice_get (zs ++ ys) 0 ≡ slice_get ys 0
later_by [] ys e = refl
later_by (z ∷ zs) ys e = absurd cc

first_later : {X : Type 0} (p : X → Bool) (xs ys : List X) → find p xs ≡ None → slice_get (filter p xs ++ ys) 0 ≡ slice_get ys 0
first_later p xs ys e = later_by (filter p xs) ys (first_passing p xs ∙ e)

pub any_passing : {X : Type 0} (p q : X → Bool) (xs : List X) → list_any p (filter q xs) ≡ list_any (λ x. q x && p x) xs
any_passing p q [] = refl
any_passing p q (x ∷ xs) = by_test (any_passing p q xs) (q x)
  where
    by_test : list_any p (filter q xs) ≡ list_any (λ y. q y && p y) xs → (b : Bool) → list_any p (cond b (x ∷ filter q xs) (filter q xs)) ≡ ((b && p x) || list_any (λ y. q y && p y) xs)
    by_test rest true = ap (λ b. p x || b) rest
    by_test rest false = rest

pub none_counted : {X : Type 0} (p : X → Bool) (xs : List X) → (length (filter p xs) == 0) ≡ not (list_any p xs)
none_counted p [] = refl
none_counted p (x ∷ xs) = by_test (none_counted p xs) (p x)
  where
    by_test : (length (filter p xs) == 0) ≡ not (list_any p xs) → (b : Bool) → (length (cond b (x ∷ filter p xs) (filter p xs)) == 0) ≡ not (b || list_any p xs)
    by_test rest true = ne_eqb (suc (length (filter p xs))) 0 (λ e. omega (arith, e))
    by_test rest false = rest

-- ---- what a worker takes next

module _ (w : World) (pool : ℕ) (persistent : Bool) where
  abbrev open_at : (Priority → Bool) → CallbackRow → Bool
  open_at test c = is_open_to w pool persistent c && test c.priority

  -- of high priority first, and then the others
  queued : next w pool persistent ≡ slice_get (waiting w pool persistent is_high ++ (waiting w pool persistent is_normal ++ waiting w pool persistent is_low)) 0
  queued = ap (λ cs. slice_get cs 0) (append_assoc (waiting w pool persistent is_high) (waiting w pool persistent is_normal) (waiting w pool persistent is_low))

  pub taken_high : (c : CallbackRow) → first_open w pool persistent High ≡ Some c → next w pool persistent ≡ Some c
  taken_high c e = queued ∙ first_here (open_at is_high) w.callbacks (waiting w pool persistent is_normal ++ waiting w pool persistent is_low) c e

  pub taken_below_high : first_open w pool persistent High ≡ None → next w pool persistent ≡ next_below_high w pool persistent
  taken_below_high e = queued ∙ first_later (open_at is_high) w.callbacks (waiting w pool persistent is_normal ++ waiting w pool persistent is_low) e

  pub taken_normal : (c : CallbackRow) → first_open w pool persistent Normal ≡ Some c → next_below_high w pool persistent ≡ Some c
  taken_normal c e = first_here (open_at is_normal) w.callbacks (waiting w pool persistent is_low) c e

  pub taken_low : first_open w pool persistent Normal ≡ None → next_below_high w pool persistent ≡ first_open w pool persistent Low
  taken_low e = first_later (open_at is_normal) w.callbacks (waiting w pool persistent is_low) e ∙ first_passing (open_at is_low) w.callbacks

-- ---- how far a wait has come, by the first callback that it holds

module _ (w : World) (room : ℕ) (b : BegunWait) where
  pub holds_none : find (is_held w b.target) b.covered ≡ None → progress_with w room b (held w b) ≡ progress_left w b.cleanup b.notices
  holds_none e = by (held w b) (first_passing (is_held w b.target) b.covered ∙ e)
    where
      by : (ns : List ℕ) → slice_get ns 0 ≡ None → progress_with w room b ns ≡ progress_left w b.cleanup b.notices
      by [] h = refl
      by (n ∷ ns) h = absurd cc

  by_first : (number : ℕ) → find (is_held w b.target) b.covered ≡ Some number
      → progress_with w room b (held w b) ≡ (if holds_starved w room (held w b) then Starved else Holds number)
  by_first number e = by (held w b) (first_passing (is_held w b.target) b.covered ∙ e)
    where
      by : (ns : List ℕ) → slice_get ns 0 ≡ Some number → progress_with w room b ns ≡ (if holds_starved w room ns then Starved else Holds number)
      by [] h = absurd cc
      by (n ∷ ns) h = let same : n ≡ number = cc in ap (λ k. if holds_starved w room (n ∷ ns) then Starved else Holds k) same

  pub holds_starving : (number : ℕ) → find (is_held w b.target) b.covered ≡ Some number → holds_starved w room (held w b) ≡ true → progress_with w room b (held w b) ≡ Starved
  holds_starving number e starved = by_first number e ∙ ap (λ t. if t then Starved else Holds number) starved

  pub holds_first : (number : ℕ) → find (is_held w b.target) b.covered ≡ Some number → holds_starved w room (held w b) ≡ false → progress_with w room b (held w b) ≡ Holds number
  holds_first number e starved = by_first number e ∙ ap (λ t. if t then Starved else Holds number) starved
