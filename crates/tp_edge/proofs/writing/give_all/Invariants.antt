use Rattle.std.proofs.Common.{◌≡◌, ◌-◌, ◌≤◌, length, take}
use Rattle.tp_edge.specs.Given.{with_given}
use Rattle.tp_edge.proofs.writing.give_all.Given as goal

abbrev pub invariant-loop-taken : goal.invariant-loop-taken
invariant-loop-taken g l = record {
  within : l.taken ≤ length l.bytes;
  given : g.K.Sink.holds l.sink ≡ with_given (take l.taken l.bytes) (g.K.Sink.holds l.fn.sink);
  never_falls : g.K.Sink.failures l.fn.sink ≤ g.K.Sink.failures l.sink;
}

abbrev pub decreases-loop-taken : goal.decreases-loop-taken
decreases-loop-taken g l = length l.bytes - l.taken
