-- The three families of lists together.
use Rattle.std.specs.Prelude.{◌≡◌, ℕ, ◌+◌, ◌<◌, ◌≤◌, ◌^◌, ◌⊎◌, List, length}
use Rattle.linked_lists.specs.Linked.{owner_of}
use Rattle.tp_base.specs.declared.rows.CallbackRow.{CallbackRow}
use Rattle.live_callbacks.specs.declared.lists.Lists.{Lists}
use Rattle.live_callbacks.specs.declared.lists.Standing.{Standing}
use Rattle.live_callbacks.specs.Held.{Held}
use Rattle.live_callbacks.specs.Lists.{AreListed, IsSettled, group_of, line_of, lines, marks, object_of}

-- a number for each list, and one more
pub record HaveRoom (all : Lists) : Type 0 where
  pub lines_fit : lines all.pools all.objects < 2 ^ 32
  pub groups_fit : all.groups + 1 < 2 ^ 32

-- each family has its lists
pub record HaveLists (all : Lists) : Type 0 where
  pub lines_many : length all.lines.lists ≡ lines all.pools all.objects
  pub objects_many : length all.outstanding.lists ≡ all.objects + 1
  pub groups_many : length all.by_group.lists ≡ all.groups + 1

-- each family has the rows that stand in it, where there are so many keys
pub record StandIn (places : ℕ) (held : List Held) (all : Lists) : Type 0 where
  pub lines_fit : lines all.pools all.objects < 2 ^ 32
  pub groups_fit : all.groups + 1 < 2 ^ 32
  pub by_line : AreListed (lines all.pools all.objects) places (marks (line_of all.pools all.objects) held) all.lines
  pub by_object : AreListed (all.objects + 1) places (marks (object_of all.objects) held) all.outstanding
  pub in_group : AreListed (all.groups + 1) places (marks (group_of all.groups) held) all.by_group

-- the lists of a callback
pub record IsStanding (all : Lists) (c : CallbackRow) (to : Standing) : Type 0 where
  pub line : to.line ≡ line_of all.pools all.objects c
  pub line_within : to.line ≤ lines all.pools all.objects
  pub object : to.object ≡ object_of all.objects c
  pub object_within : to.object ≤ all.objects + 1
  pub group : to.group ≡ group_of all.groups c
  pub group_within : to.group ≤ all.groups + 1

pub record IsNowhere (all : Lists) (to : Standing) : Type 0 where
  pub line : to.line ≡ lines all.pools all.objects
  pub object : to.object ≡ all.objects + 1
  pub group : to.group ≡ all.groups + 1

-- a key is in this line and in the list of this object, and the groups are as they were
pub record AreSettledInGroup (old new : Lists) (key number : ℕ) (to : Standing) : Type 0 where
  pub pools : new.pools ≡ old.pools
  pub objects : new.objects ≡ old.objects
  pub groups : new.groups ≡ old.groups
  pub by_line : IsSettled (lines old.pools old.objects) old.lines new.lines key to.line number
  pub by_object : IsSettled (old.objects + 1) old.outstanding new.outstanding key to.object number
  pub in_group : new.by_group ≡ old.by_group

-- a key is in these lists
pub record AreSettled (old new : Lists) (key number : ℕ) (to : Standing) : Type 0 where
  pub pools : new.pools ≡ old.pools
  pub objects : new.objects ≡ old.objects
  pub groups : new.groups ≡ old.groups
  pub by_line : IsSettled (lines old.pools old.objects) old.lines new.lines key to.line number
  pub by_object : IsSettled (old.objects + 1) old.outstanding new.outstanding key to.object number
  pub in_group : IsSettled (old.groups + 1) old.by_group new.by_group key to.group number

-- a key comes to no line and to no other object's list
pub record OnlyLeaves (old : Lists) (key : ℕ) (to : Standing) : Type 0 where
  pub line : to.line ≡ lines old.pools old.objects
  pub object : (to.object ≡ old.objects + 1) ⊎ (owner_of old.outstanding key ≡ to.object)
