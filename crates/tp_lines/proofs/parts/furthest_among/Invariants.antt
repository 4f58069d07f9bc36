use Rattle.std.proofs.Common.{take}
use Rattle.line_grammar.specs.Language.{IsRead}
use Rattle.tp_lines.specs.Choices.{Met, default_word}
use Rattle.tp_lines.proofs.parts.furthest_among.Given as goal

abbrev pub invariant-loop-index : goal.invariant-loop-index
invariant-loop-index l = IsRead (Met l.field (default_word l.field) (take l.index l.words)) l.text l.best
