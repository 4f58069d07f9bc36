-- What a book keeps, of the parts inside it.
use Rattle.std.specs.Prelude.{◌≡◌, ℕ, ◌+◌, ◌≤◌, List, length, max}
use Rattle.tp_base.specs.declared.answers.Entry.{Entry}
use Rattle.tp_base.specs.declared.limits.Limits.{Limits}
use Rattle.tp_base.specs.Ranges.{AreLimitsInRange}
use Rattle.tp_model.specs.Counts.{owed}
use Rattle.tp_model.specs.History.{IsLegal, after}
use Rattle.tp_model.specs.Support.Remembered.{Remembered, StandsFor}
use Rattle.recorded.specs.Recordings.{Recording}
use Rattle.pool_book.specs.declared.Book.TheInside.{Inside}

abbrev pub recording : Inside → Recording
recording a = record { limits = a.limits; capacity = a.capacity; history = a.past }

-- the history is legal, and the engine stands for the world after it
pub record IsBook (engine : Remembered) (limits : Limits) (capacity len : ℕ) (history : List Entry) : Type 0 where
  pub in_range : AreLimitsInRange limits
  pub stands : StandsFor engine (after limits history)
  pub legal : IsLegal limits capacity history
  pub counts : len ≡ length history
  -- no more entries than steps are counted by the engine
  pub young : engine.age ≤ length history
  -- what is owed has its room, unless more clients have to finish than there is room for
  pub few : length history + owed (after limits history) ≤ max capacity limits.clients

abbrev pub IsKept : Inside → Type 0
IsKept a = IsBook a.engine a.limits a.capacity a.len a.past
