use Rattle.std.proofs.Common.{length, ◌≡◌, ◌≤◌, take}
use Rattle.line_grammar.proofs.words.behind_word.Given as goal

abbrev pub invariant-loop-index : goal.invariant-loop-index
invariant-loop-index l = (l.index ≤ length l.word) × (take l.index l.text ≡ take l.index l.word)
