-- Counts of faults.
use Rattle.std.specs.Prelude.{ℕ, ◌+◌, ◌-◌, ◌^◌, ◌≤◌, min}

-- one more, in 64 bits: a count stays at its highest
abbrev pub counted : ℕ → ℕ
counted n = min (n + 1) (2 ^ 64 - 1)

-- the count rose: one that stands at its highest counts as risen
abbrev pub Rose : ℕ → ℕ → Type 0
Rose before now = counted before ≤ now
