use Rattle.std.proofs.Common.{◌≡◌, ◌+◌, ◌-◌, ◌++◌, filter, length, map}
use Rattle.std.specs.List.{range_with_len}
use Rattle.tp_model.specs.Groups.{gets_notice, is_object_that, object_id, objects_that}
use Rattle.plain_worlds.proofs.groups.notices_of.Given as goal

abbrev pub invariant-loop-object : goal.invariant-loop-object
invariant-loop-object l = (l.number ≡ l.object-index)
    × (l.notices.items ++ map object_id (filter (is_object_that (gets_notice l.group.0) l.objects) (range_with_len (l.number + 1) (length l.objects - l.number))) ≡ map object_id (objects_that (gets_notice l.group.0) l.objects))
