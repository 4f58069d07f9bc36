-- The members of groups, in a list for each.
use Rattle.std.specs.Prelude.{◌≡◌, ℕ, ◌+◌, ◌<◌, ◌≤◌, nat_le, List, [], ◌∷◌, ◌++◌, length, if◌then◌else◌}
use Rattle.linked_lists.specs.Linked.{IsFree, Linked, list_of, moved, owner_of}
use Rattle.linked_lists.specs.Moved.{without}
use Rattle.tp_base.specs.declared.ids.GroupId.{GroupId}
use Rattle.tp_base.specs.declared.rows.ObjectRow.{ObjectRow}
use Rattle.tp_model.specs.Groups.{is_member, objects_that}

-- there are so many groups and objects at most. A group's list has exactly the numbers of its members, in order, and those of
-- objects to come are in none
pub record AreMembered (groups limit : ℕ) (objects : List ObjectRow) (members : Linked) : Type 0 where
  pub lists : length members.lists ≡ groups + 1
  pub keys : length members.numbers ≡ limit + 1
  pub later : (number : ℕ) → length objects < number → owner_of members number ≡ length members.lists
  pub membered : (group : ℕ) → group ≤ groups → list_of members group ≡ objects_that (is_member group) objects

-- the object is in no list
pub record MayList (members : Linked) (groups object : ℕ) : Type 0 where
  pub lists : length members.lists ≡ groups + 1
  pub free : IsFree members object

-- one more object, last in the group's list, if the group is one of so many
abbrev pub with_member : Linked → ℕ → GroupId → ℕ → Linked
with_member members groups group object = if nat_le group.0 groups then moved members object group.0 group.0 (list_of members group.0 ++ object ∷ []) else members

-- the object is in no list
abbrev pub without_member : Linked → ℕ → ℕ → Linked
without_member members groups object = if nat_le (owner_of members object) groups then moved members object (length members.lists) (owner_of members object) (without object (list_of members (owner_of members object))) else members
