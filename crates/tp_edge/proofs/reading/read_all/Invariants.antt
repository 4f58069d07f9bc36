use Rattle.std.proofs.Common.{◌≡◌, ◌+◌, ◌-◌, ◌≤◌, vec_len, take}
use Rattle.tp_edge.specs.Taken.{behind}
use Rattle.tp_edge.proofs.reading.read_all.Given as goal

abbrev pub invariant-loop-bytes : goal.invariant-loop-bytes
invariant-loop-bytes g l = record {
  there : l.len ≤ vec_len l.bytes;
  within : l.len ≤ l.limit;
  taken : g.S.Source.left l.fn.source ≡ behind (take l.len l.bytes.items) (g.S.Source.left l.source);
  never_falls : g.S.Source.failures l.fn.source ≤ g.S.Source.failures l.source;
}

abbrev pub decreases-loop-bytes : goal.decreases-loop-bytes
decreases-loop-bytes g l = l.limit + 1 - l.len
