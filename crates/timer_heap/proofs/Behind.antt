-- A list with more of what is found behind its end.
use Rattle.std.proofs.Common.{◌≡◌, ◌+◌, ℕ, zero, suc, max, List, [], ◌∷◌, ◌++◌, length, set, get_or, refl, arith}
use Rattle.std.proofs.lemmas.List.{length-set}
use Rattle.timer_heap.specs.Heap.{parent, rank_at, IsHeap}
use Rattle.timer_heap.specs.Kept.{entries_of}

pub pushed_same : {A : Type 0} (xs : List A) (x : A) (k : ℕ) → get_or (xs ++ x ∷ []) k x ≡ get_or xs k x
pushed_same [] x zero = refl
pushed_same [] x (suc k) = refl
pushed_same (y ∷ xs) x zero = refl
pushed_same (y ∷ xs) x (suc k) = pushed_same xs x k

-- the heap and its entries are told by the due times that are found
module _ (dues new : List ℕ) (same : (key : ℕ) → get_or new key 0 ≡ get_or dues key 0) where
  pub filled_heap : (held : List ℕ) → IsHeap (rank_at dues held) (length held) → IsHeap (rank_at new held) (length held)
  filled_heap held heap p some within = omega (arith, same (get_or held p 0), same (get_or held (parent p) 0), heap p some within)

  pub filled_entries : (held : List ℕ) → entries_of new held ≡ entries_of dues held
  filled_entries [] = refl
  filled_entries (key ∷ held) = rw (same key, filled_entries held) refl

pub filled_sized : (keys : ℕ) (dues new : List ℕ) (key due : ℕ) → keys ≡ length dues → length new ≡ max (length dues) (key + 1) → max keys (key + 1) ≡ length (set new key due)
filled_sized keys dues new key due sized many = omega (arith, length-set new key due)
