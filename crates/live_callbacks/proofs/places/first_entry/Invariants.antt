use Rattle.std.proofs.Common.{length, drop, ◌-◌, ◌≡◌, ◌≤◌}
use Rattle.std.specs.List.{slice_get}
use Rattle.live_callbacks.specs.Places.{live}
use Rattle.live_callbacks.proofs.places.first_entry.Given as goal

-- no row is there before the place
abbrev pub invariant-loop-place : goal.invariant-loop-place
invariant-loop-place l = (l.place ≤ length l.entries) × (slice_get (live (drop l.place l.entries)) 0 ≡ slice_get (live (drop l.from l.entries)) 0)

abbrev pub decreases-loop-place : goal.decreases-loop-place
decreases-loop-place l = length l.entries - l.place
