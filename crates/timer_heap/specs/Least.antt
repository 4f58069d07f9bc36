-- The least of the values that keys have by their due times.
use Rattle.std.specs.Prelude.{◌≡◌, ℕ, ◌≤◌, ◌<◌, ◌^◌, ◌&&◌, Bool, false, min, nat_le, nat_lt, IfSome, List, [], ◌∷◌, Option, None, Some, length, slice_index}
use Rattle.timer_heap.specs.Dues.{Entry, entry}
use Rattle.timer_heap.specs.Held.{tally}

-- the lesser of a value and another, if there is another
abbrev pub lesser : ℕ → Option ℕ → ℕ
lesser value None = value
lesser value (Some other) = min value other

-- the least of the values of entries, and None where there is no entry
abbrev pub least : (Entry → ℕ) → List Entry → Option ℕ
least value [] = None
least value (e ∷ es) = Some (lesser (value e) (least value es))

-- no value is below the due time
abbrev pub IsNoEarlier : (Entry → ℕ) → Type 0
IsNoEarlier value = (e : Entry) → e.due ≤ value e

-- what is told of a key and its due time is their value
abbrev pub TellsValues : (ℕ → ℕ → ℕ → Type 0) → ℕ → (Entry → ℕ) → Type 0
TellsValues post keys value = (key due answer : ℕ) → key < keys → due < 2 ^ 64 → post key due answer → answer ≡ value (entry key due)

-- a bound isn't above a value, if there is one
abbrev pub IsAtMost : ℕ → Option ℕ → Type 0
IsAtMost bound value = IfSome value (λ v. bound ≤ v)

-- what has such a due time has no value below the least so far
abbrev pub is_passed : ℕ → Option ℕ → Bool
is_passed due None = false
is_passed due (Some so_far) = nat_le so_far due

-- 1 for a place with a key of which the value is below a bound
abbrev pub falls_below : List ℕ → List ℕ → (Entry → ℕ) → ℕ → ℕ → ℕ
falls_below dues held value bound place = tally (nat_lt place (length held) && nat_lt (value (entry (slice_index held place) (slice_index dues (slice_index held place)))) bound)

-- what is found is the least of what was there so far and of some values, of which it is told how many are below a bound
pub record IsFound (below : ℕ → ℕ) (so_far found : Option ℕ) : Type 0 where
  pub before : (bound : ℕ) → IsAtMost bound found → IsAtMost bound so_far
  pub none : (bound : ℕ) → IsAtMost bound found → below bound ≡ 0
  pub least : (bound : ℕ) → IsAtMost bound so_far → below bound ≡ 0 → IsAtMost bound found
