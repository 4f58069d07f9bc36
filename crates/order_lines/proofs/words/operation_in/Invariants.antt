use Rattle.std.proofs.Common.{◌+◌, ◌≡◌, ◌<◌, ◌^◌, length, map}
use Rattle.script_lines.specs.Texts.{Spot, words_from}
use Rattle.order_lines.specs.Words.{operation_among, operation_in}
use Rattle.order_lines.proofs.words.operation_in.Given as goal

-- the operation is that of the words that are left
abbrev pub invariant-loop-spot : goal.invariant-loop-spot
invariant-loop-spot l = record {
  same : operation_among l.passes (map (λ (s : Spot). s.word) (words_from l.column l.rest)) ≡ operation_in l.line;
  fits : l.column + length l.rest < 2 ^ 32;
}

abbrev pub decreases-loop-spot : goal.decreases-loop-spot
decreases-loop-spot l = length l.rest
