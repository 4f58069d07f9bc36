use Rattle.std.proofs.Common.{length, drop, ◌-◌, ◌≡◌, ◌≤◌, ◌==◌}
use Rattle.std.specs.List.{find}
use Rattle.live_callbacks.specs.declared.places.Entry.{Entry}
use Rattle.live_callbacks.specs.Places.{live, row_at}
use Rattle.live_callbacks.proofs.places.first_of_group_from.Given as goal

-- no row of the group is there before the place
abbrev pub invariant-loop-place : goal.invariant-loop-place
invariant-loop-place l =
    (l.place ≤ length l.entries)
    × (find (λ (e : Entry). (row_at l.rows e.key).group.0 == l.group.0) (live (drop l.place l.entries)) ≡ find (λ (e : Entry). (row_at l.rows e.key).group.0 == l.group.0) (live (drop l.from l.entries)))

abbrev pub decreases-loop-place : goal.decreases-loop-place
decreases-loop-place l = length l.entries - l.place
