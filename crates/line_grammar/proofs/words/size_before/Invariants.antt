use Rattle.std.proofs.Common.{IsTrue, take}
use Rattle.line_grammar.specs.Words.{lacks}
use Rattle.line_grammar.proofs.words.size_before.Given as goal

abbrev pub invariant-loop-index : goal.invariant-loop-index
invariant-loop-index l = IsTrue (lacks l.separator (take l.index l.text))
