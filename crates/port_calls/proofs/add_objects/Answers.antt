use Rattle.std.proofs.Common.{◌+◌}
use Rattle.port_facts.specs.Accepted.{call_of}
use Rattle.port_facts.specs.SetUp.{device_made}
use Rattle.port_calls.proofs.Making.{object_added, object_calls, one_more}
use Rattle.port_calls.proofs.add_objects.Goals as goal

pub loop-preserved : goal.loop-preserved
loop-preserved c =
    let n = c.loop.counter in
    one_more c.args.calls.now.items c.loop.calls.items c.push.new.self.items (object_calls n) (object_calls (n + 1)) (call_of (device_made (1 + n))) c.in_ok-push.ensures.items c.loop.invariant (object_added n)
