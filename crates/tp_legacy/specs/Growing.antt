-- What calls leave of how much a machine has made.
use Rattle.std.specs.Prelude.{◌≡◌, ℕ, ◌+◌, ◌≤◌, length, Option, None, Some}
use Rattle.tp_base.specs.declared.answers.Outcome.{Outcome}
use Rattle.tp_base.specs.declared.calls.Call.{Call}
use Rattle.tp_base.specs.declared.calls.Call.TheVariants.{Create, CreateGroup}
use Rattle.tp_base.specs.declared.ids.ObjectId.{ObjectId}
use Rattle.tp_model.specs.History.{IsLegal}
use Rattle.recorded.specs.Recordings.{world_behind, Recording}
use Rattle.tp_legacy.specs.Legacy.{number_made}

abbrev pub objects_made : Recording → ℕ
objects_made r = length (world_behind r).objects

abbrev pub groups_made : Recording → ℕ
groups_made r = length (world_behind r).groups

-- a legal history goes on legally on the same machine, with all that was made there, and no more than its limits allow
pub record GoesOn (r next : Recording) : Type 0 where
  pub legal : IsLegal next.limits next.capacity next.history
  pub limits : next.limits ≡ r.limits
  pub objects : objects_made r ≤ objects_made next
  pub groups : groups_made r ≤ groups_made next
  pub few_objects : objects_made next ≤ next.limits.objects
  pub few_groups : groups_made next ≤ next.limits.groups

-- an object that is made has the next number, and a group is one more
abbrev pub IsNextNumber : Option ℕ → Call → Recording → Recording → Type 0
IsNextNumber None call r next = Unit {0}
IsNextNumber (Some number) (Create kind routine context env) r next = (number ≡ objects_made r + 1) × (objects_made next ≡ objects_made r + 1)
IsNextNumber (Some number) CreateGroup r next = groups_made next ≡ groups_made r + 1
IsNextNumber (Some number) call r next = Unit {0}

abbrev pub IsNext : Recording → Recording → Call → Outcome → Type 0
IsNext r next call told = IsNextNumber (number_made told) call r next

-- the object is the next one, and was made between the two
pub record IsNewObject (r next : Recording) (object : ObjectId) : Type 0 where
  pub number : object.0 ≡ objects_made r + 1
  pub made : object.0 ≤ objects_made next
  pub most : object.0 ≤ 65535
