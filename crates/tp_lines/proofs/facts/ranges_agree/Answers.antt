use Rattle.tp_lines.proofs.Agree.{fits_range, range_fits}
use Rattle.tp_lines.proofs.facts.ranges_agree.Goals as goal

pub returns-clause-fits : goal.returns-clause-fits
returns-clause-fits c = λ made h. fits_range made h

pub returns-clause-in_range : goal.returns-clause-in_range
returns-clause-in_range c = λ made h. range_fits made h
