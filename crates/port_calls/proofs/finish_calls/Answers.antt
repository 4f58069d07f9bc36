use Rattle.std.proofs.Common.{◌+◌, [], map, sym, subst}
use Rattle.std.specs.Prelude.{All}
use Rattle.std.proofs.lemmas.List.Elements.{All-push}
use Rattle.port_facts.specs.Accepted.{call_of}
use Rattle.port_facts.specs.SetUp.{finished, finishes}
use Rattle.port_calls.specs.PortCalls.{IsInRange}
use Rattle.port_calls.proofs.Making.{finish_added, one_more}
use Rattle.port_calls.proofs.finish_calls.Goals as goal

pub loop-place-preserved : goal.loop-place-preserved
loop-place-preserved c =
    let n = c.loop-place.place in
    let call = call_of (finished (n + 2)) in (
      one_more [] c.loop-place.calls.items c.push.new.self.items (map call_of (finishes 2 n)) (map call_of (finishes 2 (n + 1))) call c.in_ok-push.ensures.items c.loop-place.invariant.0 (finish_added n),
      subst (λ calls. All IsInRange calls) (sym c.in_ok-push.ensures.items) (All-push IsInRange c.loop-place.calls.items call c.loop-place.invariant.1 tt),
    )
