use Rattle.port_calls.proofs.Turns.{in_order, is_in_turn, is_port, listed_count, lists_count}
use Rattle.port_calls.proofs.port_text_fits.Goals as goal

pub returns-clause-port : goal.returns-clause-port
returns-clause-port c = is_port

pub returns-clause-in_order : goal.returns-clause-in_order
returns-clause-in_order c = in_order

pub returns-clause-lists : goal.returns-clause-lists
returns-clause-lists c = lists_count

pub returns-clause-count : goal.returns-clause-count
returns-clause-count c = listed_count

pub returns-clause-in_turn : goal.returns-clause-in_turn
returns-clause-in_turn c = is_in_turn
