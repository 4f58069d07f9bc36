-- What the rows of objects and groups keep between calls.
use Rattle.std.specs.Prelude.{◌+◌, ◌<◌, ◌≤◌, ◌^◌, length}
use Rattle.std.specs.Vec.{vec_capacity}
use Rattle.object_rows.specs.Listed.{AreMembered}
use Rattle.object_rows.specs.declared.ObjectRows.TheInside.{Inside}

-- there is memory for as many as the limits say, and the members of each group are listed
pub record IsKept (a : Inside) : Type 0 where
  pub fits : a.group_limit + 1 + a.object_limit < 2 ^ 32
  pub groups_within : length a.groups.items ≤ a.group_limit
  pub groups_reserved : a.group_limit ≤ vec_capacity a.groups
  pub objects_within : length a.objects.items ≤ a.object_limit
  pub objects_reserved : a.object_limit ≤ vec_capacity a.objects
  pub membered : AreMembered a.group_limit a.object_limit a.objects.items a.members
