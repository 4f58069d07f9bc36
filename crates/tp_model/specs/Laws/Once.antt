-- The law Once: callbacks are numbered in order, each is taken at most once and only when it may be, and none is lost.
use Rattle.std.specs.Prelude.{◌≡◌, ℕ, ◌+◌, ◌≤◌, Bool, true, false, List, length, map, is_some, Some}
use Rattle.std.specs.List.{All, filter, range_with_len}
use Rattle.tp_base.specs.declared.ids.ObjectId.{ObjectId}
use Rattle.tp_base.specs.declared.rows.Status.{Status}
use Rattle.tp_base.specs.declared.rows.Status.TheVariants.{Expected, Issued, Pending}
use Rattle.tp_base.specs.declared.answers.Entry.{Entry}
use Rattle.tp_base.specs.declared.limits.Limits.{Limits}
use Rattle.tp_model.specs.World.{World}
use Rattle.tp_model.specs.History.{after}
use Rattle.tp_model.specs.Laws.Entries.{AtEach, is_among, times, numbers_made, numbers_taken, numbers_cancelled, count_cancelled, taken_by, ready}

abbrev pub is_left : Status → Bool
is_left Expected = true
is_left Issued = true
is_left Pending = true
is_left _ = false

-- the callbacks that may still run, by rising number: each as its number, its object and its status
abbrev pub left : World → List (ℕ × ObjectId × Status)
left w = map (λ c. (c.number, c.object, c.status)) (filter (λ c. is_left c.status) w.callbacks)

-- what the entry takes was made ready before
abbrev pub TakesReady : List Entry → Entry → Type 0
TakesReady before entry = (n : ℕ) → taken_by entry.answer ≡ Some n → is_some (ready before n) ≡ true

-- what the entry takes was not cancelled before
abbrev pub TakesUncancelled : List Entry → Entry → Type 0
TakesUncancelled before entry = (n : ℕ) → taken_by entry.answer ≡ Some n → is_among n (numbers_cancelled before) ≡ false

pub record AreOnce (limits : Limits) (history : List Entry) : Type 0 where
  -- the numbers made are 1, 2, 3, .. in order
  pub in_order : numbers_made history ≡ range_with_len 1 (length (numbers_made history))
  pub at_most_once : (n : ℕ) → times n (numbers_taken history) ≤ 1
  pub only_ready : AtEach TakesReady history
  pub none_cancelled : AtEach TakesUncancelled history
  pub none_left : All (λ l. is_among l.0 (numbers_taken history) ≡ false) (left (after limits history))
  -- those made were taken or cancelled, or are left
  pub none_lost : length (numbers_made history) ≡ length (numbers_taken history) + count_cancelled history + length (numbers_cancelled history) + length (left (after limits history))
