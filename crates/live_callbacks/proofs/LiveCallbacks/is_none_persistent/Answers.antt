use Rattle.std.proofs.Common.{◌∙◌, true, false, nat_eq, ap, sym, eqb-true}
use Rattle.live_callbacks.specs.Held.{rows_of}
use Rattle.live_callbacks.proofs.Halves.{alone, any_waiting, half_alone}
use Rattle.live_callbacks.proofs.LiveCallbacks.is_none_persistent.Goals as goal

pub returns-clause-value : goal.returns-clause-value
returns-clause-value c =
    rw (← c.self.view_is) (ap (λ n. nat_eq n 0) c.self.invariant.counted_persistent ∙ any_waiting (rows_of c.self.inside.rows.held))

pub returns-clause-alike : goal.returns-clause-alike
returns-clause-alike c pool none =
    let rows = rows_of c.self.inside.rows.held in
    let nowhere = sym c.self.invariant.counted_persistent ∙ eqb-true c.self.inside.persistent 0 none in
    rw (← c.self.view_is) (sym (half_alone pool true rows (alone pool true rows (λ _. nowhere))) ∙ half_alone pool false rows (alone pool false rows (λ _. nowhere)))
