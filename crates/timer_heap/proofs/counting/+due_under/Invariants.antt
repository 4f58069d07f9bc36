use Rattle.std.proofs.Common.{◌-◌, length}
use Rattle.timer_heap.proofs.counting.+due_under.Given as goal

abbrev pub decreases-due_under : goal.decreases-due_under
decreases-due_under g l = length l.places.now.held - l.place
