use Rattle.tp_lines.proofs.Feeds.{entry_feedless, line_feedless}
use Rattle.tp_lines.proofs.facts.lines_hold_no_feed.Goals as goal

pub returns-clause-calls : goal.returns-clause-calls
returns-clause-calls c = λ text line. line_feedless line.0 text line.1

pub returns-clause-entries : goal.returns-clause-entries
returns-clause-entries c = λ text entry. entry_feedless entry.0 text entry.1
