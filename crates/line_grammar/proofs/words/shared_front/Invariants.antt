use Rattle.std.proofs.Common.{length, ◌-◌, ◌≡◌, ◌≤◌, take}
use Rattle.line_grammar.proofs.words.shared_front.Given as goal

abbrev pub invariant-loop-size : goal.invariant-loop-size
invariant-loop-size l = record {
  in_word : l.size ≤ length l.word;
  in_text : l.size ≤ length l.text;
  shared : take l.size l.word ≡ take l.size l.text;
}

abbrev pub decreases-loop-size : goal.decreases-loop-size
decreases-loop-size l = length l.word - l.size
