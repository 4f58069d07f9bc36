use Rattle.std.proofs.Common.{subst}
use Rattle.tp_model.specs.History.{IsLegal}
use Rattle.tp_model.proofs.Laws.{keeps_laws}
use Rattle.tp_model.proofs.Stalling.{stays_stalled}
use Rattle.pool_book.proofs.Book.laws_are_kept.Goals as goal

pub returns-clause-laws : goal.returns-clause-laws
returns-clause-laws c = let a = c.self.inside in rw (← c.self.view_is) (keeps_laws a.limits a.capacity a.past c.self.invariant.legal)

pub returns-clause-stalls : goal.returns-clause-stalls
returns-clause-stalls c =
    let a = c.self.inside in
    rw (← c.self.view_is) (λ history more is. stays_stalled a.limits a.capacity history more (subst (IsLegal a.limits a.capacity) is c.self.invariant.legal))
