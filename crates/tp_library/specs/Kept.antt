-- What is kept between calls: all that stands beside a machine is that of the world behind its history.
use Rattle.std.specs.Prelude.{◌≡◌, ℕ, ◌+◌, ◌*◌, ◌<◌, ◌≤◌, ◌^◌, false, List, [], length, map, replicate, Option, None, Some}
use Rattle.std.specs.Option.{option_map_or}
use Rattle.tp_base.specs.declared.limits.Limits.{Limits}
use Rattle.tp_base.specs.declared.rows.CallbackRow.{CallbackRow}
use Rattle.tp_base.specs.declared.rows.ObjectRow.{ObjectRow}
use Rattle.tp_base.specs.Ranges.{AreLimitsInRange}
use Rattle.tp_model.specs.Counts.{callback_of}
use Rattle.tp_model.specs.History.{IsLegal}
use Rattle.tp_model.specs.World.{World}
use Rattle.recorded.specs.Recordings.{world_behind, Recording}
use Rattle.tp_library.specs.Acting.{opening_actors, Acting}
use Rattle.tp_library.specs.Counted.{finished_in, left_in, members_in, runs_in, runs_of, IsShelfOf}
use Rattle.tp_library.specs.Shelves.{load, objects_in, Shelf, Stand}
use Rattle.tp_library.specs.Tallied.{none_held, opening_counts, row_of, Tallied}
use Rattle.tp_library.specs.Tallies.{at}
use Rattle.tp_library.specs.declared.beside.Beside.{Beside}
use Rattle.tp_library.specs.declared.TheConstants.{LIBRARY_LIMIT}

-- a recording, and the shelf beside it
abbrev pub stand_of : Recording → Beside → Stand
stand_of r b = record { recording = r; shelf = b.shelf.shelf }

-- by how much a library is held, as it is counted
abbrev pub held_by : Beside → ℕ → ℕ
held_by b library = load b.shelf.shelf library + at b.counts.owned library + at b.counts.left library + at b.counts.running library

-- the object of a callback
abbrev pub object_at : World → ℕ → ℕ
object_at w callback = option_map_or (λ (c : CallbackRow). c.object.0) (callback_of w callback) 0

-- what a worker runs, with its object
abbrev pub run_in : World → Option ℕ → Option (ℕ × ℕ)
run_in w None = None
run_in w (Some callback) = Some (callback, object_at w callback)

-- the groups of the objects
abbrev pub groups_in : World → List ℕ
groups_in w = map (λ (o : ObjectRow). o.env.group.0) w.objects

-- the counts are those of a world and a shelf
pub record IsCounted (w : World) (s : Shelf) (c : Tallied) : Type 0 where
  pub owned : (library : ℕ) → library ≤ LIBRARY_LIMIT → at c.owned library ≡ objects_in w s library
  pub own : (group library : ℕ) → group < length c.own → library ≤ LIBRARY_LIMIT → at (row_of c.own group) library ≡ members_in w.objects s group library
  pub left : (library : ℕ) → library ≤ LIBRARY_LIMIT → at c.left library ≡ left_in s library w.callbacks
  pub running : (library : ℕ) → library ≤ LIBRARY_LIMIT → at c.running library ≡ runs_in s library w.callbacks
  pub groups : c.groups ≡ groups_in w

-- there is a number for each library
pub record AreFull (c : Tallied) : Type 0 where
  pub owned : length c.owned ≡ LIBRARY_LIMIT + 1
  pub left : length c.left ≡ LIBRARY_LIMIT + 1
  pub running : length c.running ≡ LIBRARY_LIMIT + 1
  pub own : (group : ℕ) → group < length c.own → length (row_of c.own group) ≡ LIBRARY_LIMIT + 1

-- the actors are those of a world
pub record AreActors (w : World) (a : Acting) : Type 0 where
  pub finished : a.finished ≡ finished_in w
  pub runs : a.runs ≡ map (run_in w) (runs_of w)

-- all of it, with room for what is still to come
pub record IsKept (r : Recording) (b : Beside) : Type 0 where
  pub legal : IsLegal r.limits r.capacity r.history
  pub limits : AreLimitsInRange r.limits
  pub clients : r.limits.clients ≤ r.capacity
  pub capacity : r.capacity < 2 ^ 32
  pub shelf : IsShelfOf b.shelf.shelf (world_behind r)
  pub objects_fit : r.limits.objects ≤ b.shelf.objects
  pub groups_fit : r.limits.objects ≤ b.counts.room
  pub simple_fit : r.capacity ≤ b.shelf.simple
  pub simple_few : length b.shelf.shelf.of_simple ≤ length r.history
  pub callbacks_few : length (world_behind r).callbacks ≤ 65535 * length r.history
  pub own : length b.counts.own ≡ r.limits.groups + 1
  pub full : AreFull b.counts
  pub counts : IsCounted (world_behind r) b.shelf.shelf b.counts
  pub actors : AreActors (world_behind r) b.actors
  pub before : length b.before.items ≡ LIBRARY_LIMIT + 1

-- beside a machine that has made no step
pub record AreOpened (limits : Limits) (capacity : ℕ) (b : Beside) : Type 0 where
  pub shelf : b.shelf ≡ record { shelf = record { loads = none_held; of_object = []; of_simple = []; slots = replicate limits.workers 0 }; objects = limits.objects; simple = capacity }
  pub counts : b.counts ≡ opening_counts limits.groups limits.objects
  pub actors : b.actors ≡ opening_actors limits.clients limits.workers
  pub before : b.before.items ≡ replicate (LIBRARY_LIMIT + 1) false
