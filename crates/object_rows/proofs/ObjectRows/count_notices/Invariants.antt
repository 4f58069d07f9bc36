use Rattle.object_rows.proofs.Walked.{Counting, left_from}
use Rattle.object_rows.proofs.ObjectRows.count_notices.Given as goal

abbrev pub invariant-loop-next : goal.invariant-loop-next
invariant-loop-next l = Counting l.self.objects l.group.0 l.next l.count

abbrev pub decreases-loop-next : goal.decreases-loop-next
decreases-loop-next l = left_from l.self.objects l.next
