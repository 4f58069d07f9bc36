-- What is counted at a place of a heap and below it.
use Rattle.std.specs.Prelude.{◌≡◌, ℕ, zero, suc, ◌+◌, ◌*◌, ◌<◌, ◌&&◌, Bool, nat_lt, nat_le, List, length, slice_index}
use Rattle.timer_heap.specs.Held.{tally}

-- the sum over a place and those below it, so many levels deep
abbrev pub under : (ℕ → ℕ) → ℕ → ℕ → ℕ
under f zero place = 0
under f (suc depth) place = f place + under f depth (2 * place + 1) + under f depth (2 * place + 2)

-- the key passes a test, and is due
abbrev pub is_wanted : List ℕ → ℕ → (ℕ → Bool) → ℕ → Bool
is_wanted dues t passes key = passes key && nat_le (slice_index dues key) t

-- 1 for a place with a key that passes the test and is due
abbrev pub counts : List ℕ → List ℕ → ℕ → (ℕ → Bool) → ℕ → ℕ
counts dues held t passes place = tally (nat_lt place (length held) && is_wanted dues t passes (slice_index held place))

-- a test of keys answers as this function does
abbrev pub Tests : (ℕ → Bool → Type 0) → ℕ → (ℕ → Bool) → Type 0
Tests post keys passes = (key : ℕ) (answer : Bool) → key < keys → post key answer → answer ≡ passes key
