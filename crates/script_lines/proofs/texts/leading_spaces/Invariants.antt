use Rattle.std.proofs.Common.{◌≡◌, ℕ, ◌+◌, drop}
use Rattle.script_lines.specs.Texts.{words_from}
use Rattle.script_lines.proofs.texts.leading_spaces.Given as goal

abbrev pub invariant-loop-index : goal.invariant-loop-index
invariant-loop-index l = (column : ℕ) → words_from (column + l.index) (drop l.index l.text) ≡ words_from column l.text
