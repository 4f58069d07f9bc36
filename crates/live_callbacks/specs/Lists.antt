-- The lists of the callbacks: in which of each family a callback stands, and what a family has of all.
use Rattle.std.specs.Prelude.{◌≡◌, ◌≢◌, ℕ, ◌+◌, ◌*◌, ◌<◌, ◌≤◌, ◌==◌, ◌&&◌, Bool, List, [], ◌∷◌, filter, length, map, nat_le, nat_lt, slice_index, if◌then◌else◌}
use Rattle.std.specs.List.{AllByRecursion}
use Rattle.tp_base.specs.declared.calls.Priority.{Priority}
use Rattle.tp_base.specs.declared.calls.Priority.TheVariants.{High, Normal, Low}
use Rattle.tp_base.specs.declared.rows.Status.{Status}
use Rattle.tp_base.specs.declared.rows.Status.TheVariants.{Expected, Issued, Pending, Running, Returned, Cancelled}
use Rattle.tp_base.specs.declared.rows.CallbackRow.{CallbackRow}
use Rattle.linked_lists.specs.Linked.{AreInOrder, Linked, list_of, owner_of}
use Rattle.linked_lists.specs.Moved.{IsCommon, IsMoved}
use Rattle.live_callbacks.specs.Callbacks.{is_tied}
use Rattle.live_callbacks.specs.Held.{Held}

-- ---- the list of a callback in each family, or the number of lists

abbrev pub priority_number : Priority → ℕ
priority_number High = 0
priority_number Normal = 1
priority_number Low = 2

-- a queue of a pool for each priority, and three more for the persistent callbacks
abbrev pub first_of_half : Bool → ℕ
first_of_half persistent = if persistent then 3 else 0

abbrev pub queue_number : Bool → Priority → ℕ
queue_number persistent priority = first_of_half persistent + priority_number priority

-- six lines a pool, and two an object
abbrev pub lines : ℕ → ℕ → ℕ
lines pools objects = 6 * pools + 2 * (objects + 1)

abbrev pub line_by : ℕ → ℕ → ℕ → ℕ → Status → ℕ
line_by pools objects queue object Expected = 6 * pools + 2 * object
line_by pools objects queue object Issued = 6 * pools + 2 * object + 1
line_by pools objects queue object Pending = queue
line_by pools objects queue object (Running worker associated slots) = lines pools objects
line_by pools objects queue object Returned = lines pools objects
line_by pools objects queue object Cancelled = lines pools objects

-- what it waits for: a worker, that its operation begins, or that it ends
abbrev pub line_of : ℕ → ℕ → CallbackRow → ℕ
line_of pools objects c = line_by pools objects (6 * c.pool.0 + queue_number c.persistent c.priority) c.object.0 c.status

-- what it is outstanding for
abbrev pub object_of : ℕ → CallbackRow → ℕ
object_of objects c = if is_tied c then c.object.0 else objects + 1

-- whether a group has a list, where so many have one; group 0 stands for none
abbrev pub has_list : ℕ → ℕ → Bool
has_list groups group = nat_lt 0 group && nat_le group groups

abbrev pub group_of : ℕ → CallbackRow → ℕ
group_of groups c = if has_list groups c.group.0 then c.group.0 else groups + 1

-- a callback is of one of so many pools, and of an object up to this one
abbrev pub IsAtHome : ℕ → ℕ → CallbackRow → Type 0
IsAtHome pools objects c = (c.pool.0 < pools) × (c.object.0 ≤ objects)

-- ---- a family of lists

-- what a family has of a row: its key, its number and its list
pub record Mark : Type 0 where
  pub key : ℕ
  pub number : ℕ
  pub list : ℕ

abbrev pub mark : (CallbackRow → ℕ) → Held → Mark
mark line h = record { key = h.key; number = h.row.number; list = line h.row }

abbrev pub marks : (CallbackRow → ℕ) → List Held → List Mark
marks line held = map (mark line) held

-- the keys of a list
abbrev pub keys_in : ℕ → List Mark → List ℕ
keys_in list ms = map (λ m. m.key) (filter (λ m. m.list == list) ms)

-- the list of a key, or the number of lists
abbrev pub list_at : ℕ → ℕ → List Mark → ℕ
list_at lists key [] = lists
list_at lists key (m ∷ ms) = if m.key == key then m.list else list_at lists key ms

-- each list has exactly the rows of it, by rising number, and each key is in the list of its row, or in none
pub record AreListed (lists keys : ℕ) (ms : List Mark) (all : Linked) : Type 0 where
  pub sized : length all.numbers ≡ keys
  pub many : length all.lists ≡ lists
  pub bounded : AllByRecursion (λ m. m.list ≤ lists) ms
  pub listed : (list : ℕ) → list < lists → list_of all list ≡ keys_in list ms
  pub owned : (key : ℕ) → owner_of all key ≡ list_at lists key ms
  pub numbered : AllByRecursion (λ m. m.list < lists → slice_index all.numbers m.key ≡ m.number) ms

-- ---- a key comes to another list

pub record MaySettle (lists : ℕ) (all : Linked) (key list : ℕ) : Type 0 where
  pub many : length all.lists ≡ lists
  pub within : list ≤ lists
  pub common : IsCommon all key
  pub order : list < lists → AreInOrder all.numbers (list_of all list)

-- nothing changes where it is in that list already
pub record IsSettled (lists : ℕ) (old new : Linked) (key list number : ℕ) : Type 0 where
  pub stays : owner_of old key ≡ list → new ≡ old
  pub moves : owner_of old key ≢ list → IsMoved old new key list number
  pub none : list ≡ lists → IsMoved old new key list number

-- of three lists, from this one on, the first that isn't empty, or the last
abbrev pub first_queue_of : Linked → ℕ → ℕ
first_queue_of all high = if length (list_of all high) == 0 then (if length (list_of all (high + 1)) == 0 then high + 2 else high + 1) else high

-- how many these three have
abbrev pub count_queues_of : Linked → ℕ → ℕ
count_queues_of all high = length (list_of all high) + length (list_of all (high + 1)) + length (list_of all (high + 2))
