-- Histories of which something is noted.
use Rattle.std.specs.Prelude.{ℕ, ◌+◌, ◌<◌, ◌^◌, [], ◌∷◌, ◌++◌, length, max}
use Rattle.tp_base.specs.declared.answers.Entry.{Entry}
use Rattle.tp_base.specs.declared.limits.Limits.{Limits}
use Rattle.recorded.specs.Recordings.{Recording}

-- with no entries
abbrev pub opened : Limits → ℕ → Recording
opened limits capacity = record { limits = limits; capacity = capacity; history = [] }

-- with one entry more
abbrev pub with_entry : Recording → Entry → Recording
with_entry r entry = record r { history = r.history ++ entry ∷ [] }

-- a legal history can be longer than this one
pub record HasPlace (r : Recording) : Type 0 where
  pub below : length r.history < max r.capacity r.limits.clients
  pub few : length r.history + 1 < 2 ^ 32
