use Rattle.std.proofs.Common.{◌-◌, length}
use Rattle.timer_heap.proofs.least.+least_under.Given as goal

abbrev pub decreases-least_under : goal.decreases-least_under
decreases-least_under g l = length l.places.now.held - l.place
