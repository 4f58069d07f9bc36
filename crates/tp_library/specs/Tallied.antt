-- What is counted of each library.
use Rattle.std.specs.Prelude.{◌≡◌, ℕ, ◌+◌, ◌-◌, ◌≤◌, List, [], ◌∷◌, ◌++◌, length, replicate, slice_index_or, slice_set, get_or}
use Rattle.tp_library.specs.Tallies.{at, lowered, raised}
use Rattle.tp_library.specs.declared.TheConstants.{LIBRARY_LIMIT}

pub record Tallied : Type 0 where
  -- by library: the objects that aren't released, the callbacks that may still run, and those that run
  pub owned : List ℕ
  pub left : List ℕ
  pub running : List ℕ
  -- by group and library: the objects in the group that aren't released
  pub own : List (List ℕ)
  -- by object, from 1 on: its group, and for how many there is room
  pub groups : List ℕ
  pub room : ℕ

-- 0 for each library
abbrev pub none_held : List ℕ
none_held = replicate (LIBRARY_LIMIT + 1) 0

-- nothing was made
abbrev pub opening_counts : ℕ → ℕ → Tallied
opening_counts groups room = record { owned = none_held; left = none_held; running = none_held; own = replicate (groups + 1) none_held; groups = []; room = room }

-- ---- objects

-- those of a group
abbrev pub row_of : List (List ℕ) → ℕ → List ℕ
row_of own group = get_or own group []

-- the group of an object
abbrev pub group_of : List ℕ → ℕ → ℕ
group_of groups object = slice_index_or groups (object - 1) 0

-- one more, of a group and a library
abbrev pub with_object : Tallied → ℕ → ℕ → Tallied
with_object c group library = record c {
  owned = raised c.owned library;
  own = slice_set c.own group (raised (row_of c.own group) library);
  groups = c.groups ++ group ∷ [];
}

-- an object of a library is released
abbrev pub without_object : Tallied → ℕ → ℕ → Tallied
without_object c object library = record c {
  owned = lowered c.owned library 1;
  own = slice_set c.own (group_of c.groups object) (lowered (row_of c.own (group_of c.groups object)) library 1);
}

-- those of a group are released
pub record IsWithoutGroup (old : Tallied) (group : ℕ) (new : Tallied) : Type 0 where
  pub owned : (library : ℕ) → library ≤ LIBRARY_LIMIT → at new.owned library ≡ at old.owned library - at (row_of old.own group) library
  pub many : length new.owned ≡ LIBRARY_LIMIT + 1
  pub own : new.own ≡ slice_set old.own group none_held
  pub left : new.left ≡ old.left
  pub running : new.running ≡ old.running
  pub groups : new.groups ≡ old.groups
  pub room : new.room ≡ old.room

-- ---- callbacks

-- one of a library may run
abbrev pub with_left : Tallied → ℕ → Tallied
with_left c library = record c { left = raised c.left library }

-- so many of a library won't run
abbrev pub without_left : Tallied → ℕ → ℕ → Tallied
without_left c library count = record c { left = lowered c.left library count }

-- one of a library runs
abbrev pub with_running : Tallied → ℕ → Tallied
with_running c library = record c { running = raised c.running library }

-- one of a library runs no more
abbrev pub without_running : Tallied → ℕ → Tallied
without_running c library = record c { running = lowered c.running library 1 }
