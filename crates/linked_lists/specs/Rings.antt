-- Lists of keys as rings: each goes from its end through its keys and back.
use Rattle.std.specs.Prelude.{◌≡◌, ℕ, ◌+◌, ◌<◌, ◌==◌, List, [], ◌∷◌, length, slice_index_or}
use Rattle.linked_lists.specs.Linked.{tally, times}

-- b follows a
pub record Edge (after before : ℕ → ℕ) (a b : ℕ) : Type 0 where
  pub on : after a ≡ b
  pub back : before b ≡ a

-- from one of them through these to another
abbrev pub Run : (ℕ → ℕ) → (ℕ → ℕ) → ℕ → List ℕ → ℕ → Type 0
Run after before from [] to = Edge after before from to
Run after before from (x ∷ xs) to = Edge after before from x × Run after before x xs to

-- each list is a ring, a key is once in the list that it is in and in no other, and the lists' ends are in none; those
-- count on from the keys
pub record AreRings (keys : ℕ) (after before own : ℕ → ℕ) (lists : List (List ℕ)) : Type 0 where
  pub ring : (s : ℕ) → s < length lists → Run after before (keys + s) (slice_index_or lists s []) (keys + s)
  pub once : (s q : ℕ) → s < length lists → times q (slice_index_or lists s []) ≡ tally (own q == s)
  pub ends : (s : ℕ) → s < length lists → own (keys + s) ≡ length lists
