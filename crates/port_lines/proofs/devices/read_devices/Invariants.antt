use Rattle.std.proofs.Common.{length}
use Rattle.port_lines.specs.Texts.{lists_of}
use Rattle.port_lines.proofs.SoFar.{IsReadSo}
use Rattle.port_lines.proofs.devices.read_devices.Given as goal

abbrev pub invariant-loop-rest : goal.invariant-loop-rest
invariant-loop-rest l = IsReadSo l.bytes (lists_of l.devices.items) l.operations l.rest

abbrev pub decreases-loop-rest : goal.decreases-loop-rest
decreases-loop-rest l = length l.rest
