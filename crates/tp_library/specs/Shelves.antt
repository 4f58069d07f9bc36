-- What stands beside a machine: how often each library is loaded, and what was made in it.
use Rattle.std.specs.Prelude.{ℕ, ◌+◌, Bool, not, ◌&&◌, ◌==◌, List, if◌then◌else◌, slice_index_or}
use Rattle.std.specs.List.{count_by, find, zip}
use Rattle.std.specs.Option.{option_map_or, unwrap_or}
use Rattle.tp_base.specs.declared.rows.CallbackRow.{CallbackRow}
use Rattle.tp_base.specs.declared.rows.ObjectRow.{ObjectRow}
use Rattle.tp_model.specs.Counts.{is_live, numbered}
use Rattle.tp_model.specs.World.{World}
use Rattle.recorded.specs.Recordings.{world_behind, Recording}

pub record Shelf : Type 0 where
  -- by library, from 0 on, which stands for none: how often it was loaded and not freed since
  pub loads : List ℕ
  -- by object, from 1 on: its library, or 0
  pub of_object : List ℕ
  -- the simple callbacks that have a library, each with its own, in the order of making
  pub of_simple : List (ℕ × ℕ)
  -- by worker, from 1 on: the library that its callback frees at its return, or 0
  pub slots : List ℕ

-- a machine and what stands beside it
pub record Stand : Type 0 where
  pub recording : Recording
  pub shelf : Shelf

abbrev pub load : Shelf → ℕ → ℕ
load s library = slice_index_or s.loads library 0

abbrev pub library_of_object : Shelf → ℕ → ℕ
library_of_object s object = unwrap_or (numbered s.of_object object) 0

abbrev pub library_of_simple : Shelf → ℕ → ℕ
library_of_simple s callback = option_map_or (λ (made : ℕ × ℕ). made.1) (find (λ (made : ℕ × ℕ). made.0 == callback) s.of_simple) 0

-- a callback's library is its object's; one without an object has its own
abbrev pub library_at : Shelf → ℕ → ℕ → ℕ
library_at s callback object = if object == 0 then library_of_simple s callback else library_of_object s object

abbrev pub library_of : Shelf → CallbackRow → ℕ
library_of s c = library_at s c.number c.object.0

-- the object isn't released, and is of the library
abbrev pub is_object_in : ℕ → ObjectRow × ℕ → Bool
is_object_in library made = not made.0.released && (made.1 == library)

abbrev pub objects_in : World → Shelf → ℕ → ℕ
objects_in w s library = count_by (is_object_in library) (zip w.objects s.of_object)

-- the callback may still run or runs, and is of the library
abbrev pub is_callback_in : Shelf → ℕ → CallbackRow → Bool
is_callback_in s library c = is_live c.status && (library_of s c == library)

abbrev pub callbacks_in : World → Shelf → ℕ → ℕ
callbacks_in w s library = count_by (is_callback_in s library) w.callbacks

abbrev pub world_of : Stand → World
world_of t = world_behind t.recording

-- by how much a library is held: how often it is loaded, the objects of it that aren't released, and its callbacks that may
-- still run or run
abbrev pub holds : Stand → ℕ → ℕ
holds t library = load t.shelf library + objects_in (world_of t) t.shelf library + callbacks_in (world_of t) t.shelf library
