-- Callbacks that may still run, as a machine tells them one after another, and how many are of a library.
use Rattle.std.specs.Prelude.{ℕ, ◌+◌, ◌-◌, ◌==◌, Bool, List, nat_lt, if◌then◌else◌}
use Rattle.std.specs.List.{count_by, filter}
use Rattle.tp_base.specs.declared.ids.ObjectId.{ObjectId}
use Rattle.tp_base.specs.declared.rows.Status.{Status}
use Rattle.tp_library.specs.Shelves.{library_at, Shelf}
use Rattle.tp_library.specs.Tallies.{at}
use Rattle.tp_library.specs.declared.told.Effect.{Effect}
use Rattle.tp_library.specs.declared.told.Effect.TheVariants.{Closes}

-- a callback's number, its object and how far it has come
abbrev pub Row : Type 0
Row = ℕ × ObjectId × Status

-- its number is above this one
abbrev pub is_above : ℕ → Row → Bool
is_above number row = nat_lt number row.0

-- it is of the library
abbrev pub is_row_in : Shelf → ℕ → Row → Bool
is_row_in s library row = library_at s row.0 row.1.0 == library

-- how many above a number are of a library
abbrev pub rows_in : Shelf → ℕ → ℕ → List Row → ℕ
rows_in s library number rows = count_by (is_row_in s library) (filter (is_above number) rows)

-- what is counted after an effect: all of them, where those of a group were cancelled, and else those that were made besides
abbrev pub counted_left : Shelf → ℕ → Effect → ℕ → ℕ → List Row → List ℕ → ℕ
counted_left s library (Closes group cancelled) first count rows tally = if nat_lt 0 cancelled then rows_in s library 0 rows else at tally library
counted_left s library effect first count rows tally = if nat_lt 0 count then at tally library + rows_in s library (first - 1) rows else at tally library
