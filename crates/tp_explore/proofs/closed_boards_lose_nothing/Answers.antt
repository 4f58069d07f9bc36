use Rattle.tp_explore.proofs.Blind.{scripts_blind}
use Rattle.tp_explore.proofs.ClosedAlong.{closed_searches_tell}
use Rattle.tp_explore.proofs.closed_boards_lose_nothing.Goals as goal

pub returns-clause-orders : goal.returns-clause-orders
returns-clause-orders c = closed_searches_tell

pub returns-clause-scripts : goal.returns-clause-scripts
returns-clause-scripts c = scripts_blind
