-- How what is armed is threaded through lists, by the numbers of objects.
use Rattle.std.specs.Prelude.{◌≡◌, ℕ, ◌+◌, ◌==◌, ◌≤◌, ◌<◌, ◌⊎◌, List, length, map, filter}
use Rattle.linked_lists.specs.Linked.{Linked, list_of, owner_of}
use Rattle.tp_base.specs.declared.ids.ObjectId.{ObjectId}
use Rattle.tp_base.specs.declared.rows.Arming.{Arming}

abbrev pub object_id : ℕ → ObjectId
object_id object = record { 0 = object }

-- an object is armed on the kernel object whose list it is in
abbrev pub arming_of : Linked → ℕ → Arming
arming_of own object = record { object = object_id object; kernel = record { 0 = owner_of own object } }

-- these, as they are armed
abbrev pub armings_of : Linked → List ℕ → List Arming
armings_of own objects = map (arming_of own) objects

-- those of them that are armed on a kernel object
abbrev pub objects_on : Linked → ℕ → List ℕ → List ℕ
objects_on own kernel objects = filter (λ object. owner_of own object == kernel) objects

-- an object is in no list, or in that of all and in that of a kernel object
abbrev pub ArePaired : ℕ → ℕ → ℕ → Type 0
ArePaired kernels owner own_owner = ((owner ≡ 1) × (own_owner ≡ kernels + 1)) ⊎ ((owner ≡ 0) × (own_owner ≤ kernels))

-- the list of a kernel object is that of all with the others left out, and object 0 isn't armed
pub record AreThreaded (kernels objects : ℕ) (order own : Linked) : Type 0 where
  pub one_list : length order.lists ≡ 1
  pub own_lists : length own.lists ≡ kernels + 1
  pub keys : length order.numbers ≡ objects + 1
  pub own_keys : length own.numbers ≡ objects + 1
  pub held : length order.owners ≡ objects + 1
  pub own_held : length own.owners ≡ objects + 1
  pub zero : owner_of order 0 ≡ 1
  pub beyond : (object : ℕ) → objects < object → owner_of order object ≡ 1
  pub paired : (object : ℕ) → ArePaired kernels (owner_of order object) (owner_of own object)
  pub threads : (kernel : ℕ) → list_of own kernel ≡ objects_on own kernel (list_of order 0)
