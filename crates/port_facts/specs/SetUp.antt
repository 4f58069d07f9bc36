-- What client 1 does before the devices: it makes an I/O object for each device, starts and issues the operations, and
-- finishes.
use Rattle.std.specs.Prelude.{◌≡◌, ℕ, ◌+◌, ◌*◌, ◌≤◌, false, List, [], ◌∷◌, ◌++◌, length, map, slice_get, Some}
use Rattle.std.specs.List.{range_with_len, AllByRecursion}
use Rattle.tp_base.specs.declared.answers.Answer.TheVariants.{Done, Made, Operation, Started}
use Rattle.tp_base.specs.declared.answers.Entry.{Entry}
use Rattle.tp_base.specs.declared.calls.Call.TheVariants.{Create, Finish, IssueIo, StartIo}
use Rattle.tp_base.specs.declared.calls.Environ.{Environ}
use Rattle.tp_base.specs.declared.calls.Kind.TheVariants.{Io}
use Rattle.tp_base.specs.declared.calls.Priority.TheVariants.{Normal}
use Rattle.tp_base.specs.declared.ids.ObjectId.{ObjectId}
use Rattle.tp_base.specs.declared.ids.Who.TheVariants.{Client}
use Rattle.tp_base.specs.declared.limits.Limits.{Limits}
use Rattle.tp_base.specs.declared.rows.CallbackRow.{CallbackRow}
use Rattle.tp_model.specs.Calls.Io.{issued_of}
use Rattle.tp_model.specs.World.{World}
use Rattle.recorded.specs.Recordings.{room_of, world_behind, Recording}
use Rattle.port_facts.specs.Accepted.{with_entries, AreAccepted, MayCall}

-- the default pool, no group, normal and short
abbrev pub environ : Environ
environ = record { pool = record { 0 = 0 }; group = record { 0 = 0 }; cancel = record { 0 = 0 }; priority = Normal; long = false; persistent = false }

-- a device's object is made, of routine 1 and with context 0
abbrev pub device_made : ℕ → Entry
device_made number = record { who = Client 1; call = Create Io (record { 0 = 1 }) 0 environ; answer = Made number }

-- an operation of an object, whose callback has this number
abbrev pub operation_started : ℕ → ObjectId → Entry
operation_started number object = record { who = Client 1; call = StartIo object; answer = Started number }

abbrev pub operation_issued : ℕ → ObjectId → Entry
operation_issued number object = record { who = Client 1; call = IssueIo object; answer = Operation number }

-- operations by their objects; the callbacks are numbered on
abbrev pub operations_from : ℕ → List ObjectId → List Entry
operations_from number [] = []
operations_from number (object ∷ objects) = operation_started number object ∷ operation_issued number object ∷ operations_from (number + 1) objects

abbrev pub finished : ℕ → Entry
finished client = record { who = Client client; call = Finish; answer = Done }

-- of so many clients, from one on
abbrev pub finishes : ℕ → ℕ → List Entry
finishes first count = map finished (range_with_len first count)

-- of so many devices, and of operations of these objects
abbrev pub set_up : ℕ → List ObjectId → List Entry
set_up devices objects = map device_made (range_with_len 1 devices) ++ (operations_from 1 objects ++ finished 1 ∷ [])

-- a new machine
abbrev pub no_history : Limits → ℕ → Recording
no_history limits capacity = record { limits = limits; capacity = capacity; history = [] }

abbrev pub IsDevice : ℕ → ObjectId → Type 0
IsDevice devices object = (1 ≤ object.0) × (object.0 ≤ devices)

-- the operation of a callback is under way, and is of this object
pub record IsOperationOf (w : World) (callback : ℕ) (object : ObjectId) : Type 0 where
  pub row : CallbackRow
  pub issued : issued_of w callback ≡ Some row
  pub object_is : row.object ≡ object

-- as many as a port has at most, each operation of one of the devices
pub record IsPort (devices : ℕ) (objects : List ObjectId) : Type 0 where
  pub few : devices ≤ 15
  pub short : length objects ≤ 8192
  pub each : AllByRecursion (IsDevice devices) objects

-- the recording behind the set-up on a new machine
abbrev pub behind_set_up : Limits → ℕ → ℕ → List ObjectId → Recording
behind_set_up limits capacity devices objects = with_entries (no_history limits capacity) (set_up devices objects)

-- a new machine answers so. Then each operation is under way, by its number, and no other callback was made; the other clients
-- may call; and all that isn't spent or owed is left
pub record IsSetUp (limits : Limits) (capacity devices : ℕ) (objects : List ObjectId) : Type 0 where
  pub accepted : AreAccepted (no_history limits capacity) (set_up devices objects)
  pub operations : (i : ℕ) (object : ObjectId) → slice_get objects i ≡ Some object → IsOperationOf (world_behind (behind_set_up limits capacity devices objects)) (i + 1) object
  pub count : length (world_behind (behind_set_up limits capacity devices objects)).callbacks ≡ length objects
  pub clients : (client : ℕ) → 2 ≤ client → client ≤ limits.clients → MayCall (world_behind (behind_set_up limits capacity devices objects)) client
  pub room : capacity ≡ devices + 2 * length objects + limits.clients + room_of (behind_set_up limits capacity devices objects)
