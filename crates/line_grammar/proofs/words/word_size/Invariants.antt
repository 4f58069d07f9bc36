use Rattle.std.proofs.Common.{IsTrue, take}
use Rattle.line_grammar.specs.Words.{is_solid}
use Rattle.line_grammar.proofs.words.word_size.Given as goal

abbrev pub invariant-loop-place : goal.invariant-loop-place
invariant-loop-place l = IsTrue (is_solid (take l.place l.text))
