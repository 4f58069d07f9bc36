-- Cleanup groups: which objects are members of one, and what a close of one makes of them.
use Rattle.std.specs.Prelude.{ℕ, ◌-◌, Bool, true, false, not, ◌&&◌, ◌==◌, nat_lt, List, [], map, length, slice_set, is_some, if◌then◌else◌, Option, None, Some}
use Rattle.std.specs.List.{filter, find, list_any, range_with_len}
use Rattle.std.specs.Option.{option_map_or}
use Rattle.tp_base.specs.declared.ids.GroupId.{GroupId}
use Rattle.tp_base.specs.declared.ids.ObjectId.{ObjectId}
use Rattle.tp_base.specs.declared.rows.WaitTarget.TheVariants.{Group}
use Rattle.tp_base.specs.declared.rows.GroupRow.{GroupRow}
use Rattle.tp_base.specs.declared.rows.ObjectRow.{ObjectRow}
use Rattle.tp_base.specs.declared.rows.CallbackRow.{CallbackRow}
use Rattle.tp_base.specs.declared.rows.TimerSetting.{TimerSetting}
use Rattle.tp_base.specs.declared.rows.Arming.{Arming}
use Rattle.tp_model.specs.World.{World}
use Rattle.tp_model.specs.Counts.{numbered}
use Rattle.tp_model.specs.Waits.{is_outstanding_for}
use Rattle.tp_model.specs.Conditions.{has_operations}

-- group 0 stands for none
abbrev pub is_group : World → ℕ → Bool
is_group w group = is_some (numbered w.groups group)

abbrev pub new_group : GroupRow
new_group = record { closed = false }

abbrev pub close_row : List GroupRow → ℕ → Option GroupRow → List GroupRow
close_row groups group None = groups
close_row groups group (Some row) = slice_set groups (group - 1) (record row { closed = true })

-- ---- members

-- the object of a number stands and passes the test
abbrev pub is_object_that : (ObjectRow → Bool) → List ObjectRow → ℕ → Bool
is_object_that test objects object = option_map_or test (numbered objects object) false

-- the numbers of all objects, and of those that pass the test
abbrev pub numbers_in : List ObjectRow → List ℕ
numbers_in objects = range_with_len 1 (length objects)

abbrev pub objects_that : (ObjectRow → Bool) → List ObjectRow → List ℕ
objects_that test objects = filter (is_object_that test objects) (numbers_in objects)

-- an object that isn't released and was made with the group
abbrev pub is_member : ℕ → ObjectRow → Bool
is_member group o = not o.released && (o.env.group.0 == group)

abbrev pub members : World → ℕ → List ℕ
members w group = objects_that (is_member group) w.objects

-- the least of them
abbrev pub first_member : World → ℕ → Option ℕ
first_member w group = find (is_object_that (is_member group) w.objects) (numbers_in w.objects)

-- a callback that has no object is outstanding for the group
abbrev pub is_simple_of : GroupId → CallbackRow → Bool
is_simple_of group c = is_outstanding_for (Group group) c && (c.object.0 == 0)

abbrev pub has_simple : World → GroupId → Bool
has_simple w group = list_any (is_simple_of group) w.callbacks

-- a member of which a callback still waits for its operation, or for the end of it
abbrev pub is_operating_member : World → ℕ → ℕ → Bool
is_operating_member w group object = is_object_that (is_member group) w.objects object && has_operations w object

-- the least of them
abbrev pub first_operating : World → ℕ → Option ℕ
first_operating w group = find (is_operating_member w group) (numbers_in w.objects)

-- ---- a close of a group

-- a member that has a cancel routine
abbrev pub has_cancel : ObjectRow → Bool
has_cancel o = nat_lt 0 o.env.cancel.0

abbrev pub gets_notice : ℕ → ObjectRow → Bool
gets_notice group o = is_member group o && has_cancel o

abbrev pub object_id : ℕ → ObjectId
object_id object = record { 0 = object }

-- the objects that a close gives a notice of, by rising number
abbrev pub notices_of : World → ℕ → Bool → List ObjectId
notices_of w group cancel = if cancel then map object_id (objects_that (gets_notice group) w.objects) else []

abbrev pub released_from : ℕ → ObjectRow → ObjectRow
released_from group o = if is_member group o then record o { released = true } else o

-- the members are released: their timers are unset, and their waits disarmed
abbrev pub is_member_at : World → ℕ → ℕ → Bool
is_member_at w group object = is_object_that (is_member group) w.objects object

abbrev pub without_members : World → ℕ → World
without_members w group = record w {
  objects = map (released_from group) w.objects;
  settings = filter (λ (s : TimerSetting). not (is_member_at w group s.object.0)) w.settings;
  armings = filter (λ (a : Arming). not (is_member_at w group a.object.0)) w.armings;
}
