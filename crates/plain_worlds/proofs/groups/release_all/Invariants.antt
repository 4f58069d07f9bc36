use Rattle.std.proofs.Common.{length, ◌≡◌, ◌++◌, take, drop, map}
use Rattle.tp_model.specs.Groups.{released_from}
use Rattle.plain_worlds.proofs.groups.release_all.Given as goal

abbrev pub invariant-loop-place : goal.invariant-loop-place
invariant-loop-place l =
    (length l.objects.items ≡ length l.initial.objects.items)
    × (take l.place l.objects.items ++ map (released_from l.group.0) (drop l.place l.objects.items) ≡ map (released_from l.group.0) (l.initial.objects.items))
