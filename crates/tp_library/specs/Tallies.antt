-- Tallies: a number for each library, from 0 on, which stands for none.
use Rattle.std.specs.Prelude.{ℕ, ◌+◌, ◌-◌, List, slice_index_or, slice_set}

abbrev pub at : List ℕ → ℕ → ℕ
at tally library = slice_index_or tally library 0

-- one more at a library
abbrev pub raised : List ℕ → ℕ → List ℕ
raised tally library = slice_set tally library (at tally library + 1)

-- so many less at a library, and not below 0
abbrev pub lowered : List ℕ → ℕ → ℕ → List ℕ
lowered tally library count = slice_set tally library (at tally library - count)
