-- The notices that actors have still to give: what is seen of `Notices`.
use Rattle.std.specs.Prelude.{◌≡◌, ℕ, ◌+◌, ◌==◌, ◌≤◌, Bool, List, [], length, map, slice_index_or, slice_set}
use Rattle.std.specs.List.{list_any}
use Rattle.linked_lists.specs.Linked.{Linked, owner_of}
use Rattle.tp_base.specs.declared.ids.ObjectId.{ObjectId}

-- the greatest number of an object, and for each actor the objects
pub record Told : Type 0 where
  pub objects : ℕ
  pub lists : List (List ObjectId)

abbrev pub told_at : Told → ℕ → List ObjectId
told_at told actor = slice_index_or told.lists actor []

abbrev pub with_told : Told → ℕ → List ObjectId → Told
with_told told actor objects = record told { lists = slice_set told.lists actor objects }

abbrev pub is_listed : ObjectId → List ObjectId → Bool
is_listed object objects = list_any (λ (o : ObjectId). o.0 == object.0) objects

-- ---- how they are kept

abbrev pub object_of : ℕ → ObjectId
object_of number = record { 0 = number }

abbrev pub objects_of : List ℕ → List ObjectId
objects_of numbers = map object_of numbers

-- an object's number is its key, and each is in the list of an actor or in none
pub record AreThreaded (objects : ℕ) (lists : Linked) : Type 0 where
  pub keys : length lists.numbers ≡ objects + 1
  pub owned : (object : ℕ) → owner_of lists object ≤ length lists.lists

-- a list has no object any more, and the others are as they were
pub record IsCleared (old new : Linked) (list : ℕ) : Type 0 where
  pub keys : length new.numbers ≡ length old.numbers
  pub lists : new.lists ≡ slice_set old.lists list []
  pub owned : (most : ℕ) → length old.lists ≤ most → ((object : ℕ) → owner_of old object ≤ most) → (object : ℕ) → owner_of new object ≤ most
