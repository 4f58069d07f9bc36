-- A plain world with its names forgotten, as its rows come to it.
use Rattle.std.specs.Prelude.{ℕ, ◌+◌, Bool, false, List, [], ◌∷◌, length, map}
use Rattle.std.specs.List.{filter, find}
use Rattle.std.specs.Option.{option_map_or}
use Rattle.tp_base.specs.declared.rows.CallbackRow.{CallbackRow}
use Rattle.tp_base.specs.declared.rows.WaitTarget.{WaitTarget}
use Rattle.tp_model.specs.Counts.{has_number}
use Rattle.tp_model.specs.Support.Remembered.{forget}
use Rattle.tp_model.specs.Waits.{is_outstanding_for}
use Rattle.tp_model.specs.World.{BegunWait, World}
use Rattle.renamed_worlds.specs.Closed.{closed, place_of}
use Rattle.renamed_worlds.specs.Renamed.{renamed_worker}
use Rattle.plain_worlds.specs.Plain.{Plain}

-- the closed world, in which no more callbacks were ever made than live
abbrev pub closed_plain : Plain → Plain
closed_plain p = record { world = closed p.world; made = length (forget p.world).callbacks }

-- the callback of this number is outstanding for what a wait is for
abbrev pub is_held_among : List CallbackRow → WaitTarget → ℕ → Bool
is_held_among callbacks target number = option_map_or (is_outstanding_for target) (find (has_number number) callbacks) false

-- the wait covers what is outstanding of these callbacks, each by its place
abbrev pub closed_wait : List CallbackRow → BegunWait → BegunWait
closed_wait callbacks b = record b { covered = map (place_of callbacks) (filter (is_held_among callbacks b.target) b.covered) }

-- numbered one after another from this number on
abbrev pub numbered_from : ℕ → List CallbackRow → List CallbackRow
numbered_from number [] = []
numbered_from number (c ∷ cs) = record c { number = number } ∷ numbered_from (number + 1) cs

-- row by row
abbrev pub closed_rows : World → World
closed_rows w = record w {
  callbacks = numbered_from 1 w.callbacks;
  workers = map (renamed_worker (place_of w.callbacks)) w.workers;
  waits = map (closed_wait w.callbacks) w.waits;
}
