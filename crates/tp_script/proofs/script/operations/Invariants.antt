use Rattle.std.proofs.Common.{◌≡◌, ◌+◌, drop}
use Rattle.tp_script.specs.Parts.{operations}
use Rattle.tp_script.proofs.script.operations.Given as goal

-- all lines so far are operations
abbrev pub invariant-loop-index : goal.invariant-loop-index
invariant-loop-index l = l.index + operations (drop l.index l.lines) ≡ operations l.lines
