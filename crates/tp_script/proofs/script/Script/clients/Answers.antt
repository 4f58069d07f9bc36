use Rattle.std.proofs.Common.{ap, length, arith}
use Rattle.tp_script.specs.declared.script.Opening.TheVariants as opening
use Rattle.tp_script.proofs.Places.{few_places}
use Rattle.tp_script.proofs.script.Script.clients.Goals as goal

pub overflow_cast-result : goal.overflow_cast-result
overflow_cast-result c =
    let kept = c.self.invariant in
    omega (arith, c.len.ensures, c.self.inside.clients.ok.0, ap length kept.clients_of, few_places opening.Client 0 c.self.inside.lines.items, kept.few)
