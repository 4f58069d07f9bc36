-- What a contract sees of `LiveSources`.
use Rattle.std.specs.Prelude.{ℕ, ◌+◌, Bool, false, List, [], replicate, slice_index_or, slice_set}
use Rattle.tp_base.specs.declared.ids.ObjectId.{ObjectId}
use Rattle.tp_model.specs.Sources.{Sources, disarmed}
-- a kernel object that may change so
pub use Rattle.kernel_events.specs.Kernels.{Suits}

-- the greatest number of an object, how many kernel objects there can be, for each number from 0 on whether there is an
-- object that may be set (a timer, or a wait object), and what the model has of the sources
pub record SourceRows : Type 0 where
  pub objects : ℕ
  pub most_kernels : ℕ
  pub there : List Bool
  pub sources : Sources

-- nothing is set, armed or made, and the clock is at its beginning
abbrev pub opened : ℕ → ℕ → SourceRows
opened kernels objects = record {
  objects = objects;
  most_kernels = kernels;
  there = replicate (objects + 1) false;
  sources = record { settings = []; armings = []; kernels = []; now = 0 };
}

-- there is an object of this number that may be set
abbrev pub is_there : SourceRows → ℕ → Bool
is_there rows object = slice_index_or rows.there object false

abbrev pub with_sources : SourceRows → Sources → SourceRows
with_sources rows s = record rows { sources = s }

-- an object is struck out: it is disarmed, and isn't set
abbrev pub without_object : SourceRows → ObjectId → SourceRows
without_object rows object = record rows { there = slice_set rows.there object.0 false; sources = disarmed object rows.sources }
