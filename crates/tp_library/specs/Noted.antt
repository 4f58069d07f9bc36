-- What is kept beside a machine once it was told what an answer says.
use Rattle.std.specs.Prelude.{◌≡◌, ℕ, ◌-◌, ◌<◌, ◌≤◌, ◌^◌, ◌==◌, ◌++◌, All, [], ◌∷◌, length, if◌then◌else◌, Option, None, Some}
use Rattle.tp_base.specs.declared.ids.Who.{Who}
use Rattle.tp_library.specs.Acting.{run_of, with_finished, with_run}
use Rattle.tp_library.specs.Libraries.{freed_slot, slot_of, with_slot}
use Rattle.tp_library.specs.Shelved.{Stocked}
use Rattle.tp_library.specs.Shelves.{library_at, library_of_object, Shelf}
use Rattle.tp_library.specs.Tallied.{group_of, row_of, with_object, with_running, without_left, without_object, without_running, IsWithoutGroup, Tallied}
use Rattle.tp_library.specs.Tallies.{at}
use Rattle.tp_library.specs.declared.beside.Beside.{Beside}
use Rattle.tp_library.specs.declared.told.Effect.{Effect}
use Rattle.tp_library.specs.declared.told.Effect.TheVariants.{Nothing, Makes, Releases, Closes, Cancels, Submits, Takes, Returns, Finishes}
use Rattle.tp_library.specs.declared.TheConstants.{LIBRARY_LIMIT}

-- what has to hold before: what it names is there, there is room, and no count is at its end
abbrev pub CanNote : Beside → Effect → ℕ → Type 0
CanNote b (Makes group) library =
    (library ≤ LIBRARY_LIMIT)
    × (group.0 < length b.counts.own)
    × (length b.shelf.shelf.of_object < b.shelf.objects)
    × (length b.counts.groups < b.counts.room)
    × (at b.counts.owned library < 2 ^ 64 - 1)
    × (at (row_of b.counts.own group.0) library < 2 ^ 64 - 1)
CanNote b (Releases object) library = (1 ≤ object.0) × (object.0 ≤ length b.counts.groups) × (group_of b.counts.groups object.0 < length b.counts.own)
CanNote b (Closes group cancelled) library = group.0 < length b.counts.own
CanNote b (Submits callback) library =
    (library ≤ LIBRARY_LIMIT)
    × (length b.shelf.shelf.of_simple < b.shelf.simple)
    × All (λ (made : ℕ × ℕ). made.0 < callback) b.shelf.shelf.of_simple
CanNote b (Takes callback object) library = (l : ℕ) → l ≤ LIBRARY_LIMIT → at b.counts.running l < 2 ^ 64 - 1
CanNote b effect library = Unit {0}

-- with a simple callback that has a library, if it isn't 0
abbrev pub with_simple : Stocked → ℕ → ℕ → Stocked
with_simple s callback library = if library == 0 then s else record s { shelf = record s.shelf { of_simple = s.shelf.of_simple ++ (callback, library) ∷ [] } }

-- without a callback that ran, if there was one
abbrev pub without_run : Tallied → Shelf → Option (ℕ × ℕ) → Tallied
without_run c s None = c
without_run c s (Some run) = without_running c (library_at s run.0 run.1)

-- what holds then
abbrev pub IsNoted : Beside → Who → Effect → ℕ → Beside → Type 0
IsNoted b who (Makes group) library new = new ≡ record b {
  shelf = record b.shelf { shelf = record b.shelf.shelf { of_object = b.shelf.shelf.of_object ++ library ∷ [] } };
  counts = with_object b.counts group.0 library;
}
IsNoted b who (Releases object) library new = new ≡ record b { counts = without_object b.counts object.0 (library_of_object b.shelf.shelf object.0) }
IsNoted b who (Closes group cancelled) library new = (new ≡ record b { counts = new.counts }) × IsWithoutGroup b.counts group.0 new.counts
IsNoted b who (Cancels object count) library new = new ≡ record b { counts = without_left b.counts (library_of_object b.shelf.shelf object.0) count }
IsNoted b who (Submits callback) library new = new ≡ record b { shelf = with_simple b.shelf callback library }
IsNoted b who (Takes callback object) library new =
    let mine = library_at b.shelf.shelf callback object.0 in
    new ≡ record b { counts = with_running (without_left b.counts mine 1) mine; actors = with_run b.actors who (Some (callback, object.0)) }
IsNoted b who Returns library new = new ≡ record b {
  shelf = record b.shelf { shelf = with_slot (freed_slot b.shelf.shelf (slot_of b.shelf.shelf who)) who 0 };
  counts = without_run b.counts b.shelf.shelf (run_of b.actors who);
  actors = with_run b.actors who None;
}
IsNoted b who Finishes library new = new ≡ record b { actors = with_finished b.actors who }
IsNoted b who Nothing library new = new ≡ b
