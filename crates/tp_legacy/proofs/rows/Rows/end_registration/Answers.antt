use Rattle.std.proofs.Common.{List, sym, ap, ◌∙◌}
use Rattle.tp_model.specs.Counts.{numbered}
use Rattle.tp_legacy.specs.declared.rows.Registration.{Registration}
use Rattle.tp_legacy.proofs.RowFacts.{ended_kept}
use Rattle.tp_legacy.proofs.rows.Rows.end_registration.Goals as goal

pub invariant_of-self : goal.invariant_of-self
invariant_of-self c =
    let there = ap (λ (rows : List Registration). numbered rows c.args.number) (sym c.deref.ensures.value) ∙ sym c.numbered.ensures ∙ c.in-Some.is in
    ended_kept c.self.inside.registrations.items c.self.inside.queues.items c.self.inside.timers.items c.args.number c.in-Some.row c.self.invariant there
