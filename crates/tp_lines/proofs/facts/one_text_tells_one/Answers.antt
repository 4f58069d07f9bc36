use Rattle.tp_lines.proofs.EntryFacts.{entries_part}
use Rattle.tp_lines.proofs.Outcomes.{one_outcome}
use Rattle.tp_lines.proofs.WhoFacts.{lines_part}
use Rattle.tp_lines.proofs.facts.one_text_tells_one.Goals as goal

pub returns-clause-call : goal.returns-clause-call
returns-clause-call c = λ one other text a b. lines_part.unique one other text a b

pub returns-clause-entry : goal.returns-clause-entry
returns-clause-entry c = λ one other text a b. entries_part.unique one other text a b

pub returns-clause-outcome : goal.returns-clause-outcome
returns-clause-outcome c = λ one other h k e. one_outcome one other h k e
