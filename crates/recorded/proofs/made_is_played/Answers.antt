use Rattle.recorded.proofs.Playing.{all_capacity, all_legal, all_limits, all_played}
use Rattle.recorded.proofs.made_is_played.Goals as goal

pub returns-clause-history : goal.returns-clause-history
returns-clause-history c = all_played

pub returns-clause-limits : goal.returns-clause-limits
returns-clause-limits c = all_limits

pub returns-clause-capacity : goal.returns-clause-capacity
returns-clause-capacity c = all_capacity

pub returns-clause-legal : goal.returns-clause-legal
returns-clause-legal c = all_legal
