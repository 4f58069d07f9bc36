use Rattle.std.proofs.Common.{◌≡◌, ◌+◌, ◌<◌, ◌^◌, length}
use Rattle.script_lines.specs.Texts.{words_from}
use Rattle.tp_script.specs.Named.{name_among}
use Rattle.tp_script.proofs.named.name_among.Given as goal

-- all words so far are `try`
abbrev pub invariant-loop-head : goal.invariant-loop-head
invariant-loop-head l = record {
  same : name_among (words_from l.column l.rest) ≡ name_among (words_from l.initial.column l.initial.rest);
  fits : l.column + length l.rest < 2 ^ 32;
}

abbrev pub decreases-loop-head : goal.decreases-loop-head
decreases-loop-head l = length l.rest
