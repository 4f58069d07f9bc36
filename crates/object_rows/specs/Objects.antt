-- The groups and the objects that were made.
use Rattle.std.specs.Prelude.{ℕ, ◌-◌, Bool, true, ◌||◌, List, [], map, slice_set, if◌then◌else◌, Option, None, Some}
use Rattle.tp_base.specs.declared.ids.ObjectId.{ObjectId}
use Rattle.tp_base.specs.declared.calls.Kind.{Kind}
use Rattle.tp_base.specs.declared.calls.Kind.TheVariants.{Timer, Wait}
use Rattle.tp_base.specs.declared.rows.GroupRow.{GroupRow}
use Rattle.tp_base.specs.declared.rows.ObjectRow.{ObjectRow}
use Rattle.tp_model.specs.Conditions.{is_same_kind}
use Rattle.tp_model.specs.Groups.{gets_notice, object_id, objects_that}

-- how many of each may be made; and those that were, of which the one of number n is the n-th
pub record ObjectTable : Type 0 where
  pub group_limit : ℕ
  pub object_limit : ℕ
  pub groups : List GroupRow
  pub objects : List ObjectRow

-- an object of this kind may have a setting: a timer has its own, and an armed wait its timeout
abbrev pub is_timed_kind : Kind → Bool
is_timed_kind kind = is_same_kind kind Timer || is_same_kind kind Wait

-- the objects with the one of this number released, whose row is this
abbrev pub released_in : List ObjectRow → ℕ → Option ObjectRow → List ObjectRow
released_in objects object None = objects
released_in objects object (Some row) = slice_set objects (object - 1) (record row { released = true })

-- the objects that a close of the group gives a notice of, by rising number
abbrev pub notices_among : List ObjectRow → ℕ → Bool → List ObjectId
notices_among objects group cancel = if cancel then map object_id (objects_that (gets_notice group) objects) else []
