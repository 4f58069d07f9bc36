use Rattle.std.proofs.Common.{length}
use Rattle.linked_lists.specs.Linked.{list_of}
use Rattle.begun_waits.proofs.Noticed.{IsClearing}
use Rattle.begun_waits.proofs.notices.clear_list.Given as goal

abbrev pub invariant-loop-object : goal.invariant-loop-object
invariant-loop-object l = IsClearing l.initial.lists l.lists l.list

abbrev pub decreases-loop-object : goal.decreases-loop-object
decreases-loop-object l = length (list_of l.lists l.list)
