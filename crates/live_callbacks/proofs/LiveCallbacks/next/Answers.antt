use Rattle.std.proofs.Common.{◌≡◌, ◌∙◌, ◌⊎◌, true, false, inl, inr, ap₂}
use Rattle.live_callbacks.specs.Held.{rows_of}
use Rattle.live_callbacks.specs.Queues.{sooner_of}
use Rattle.live_callbacks.proofs.Halves.{first_of_both, first_alone, no_waiting, when_alone}
use Rattle.live_callbacks.proofs.LiveCallbacks.next.Goals as goal
use Rattle.live_callbacks.proofs.LiveCallbacks.next.Goals.{then-not-all-via-then-not-all, then-not-all-via-else-not-all+then-self-eq0}

pub returns-then-not-all-clause-value : goal.returns-then-not-all-clause-value
returns-then-not-all-clause-value c =
    let k = c.self.invariant in
    let rows = rows_of c.self.inside.rows.held in
    let first = rw (← c.self.view_is) at c.first_of_half-first.ensures.value in
    let others : (c.args.all ≡ false) ⊎ ((c.args.all ≡ true) × (c.self.inside.persistent ≡ 0)) =
    elim c.then-not-all.branch [
      | then-not-all-via-then-not-all w ↦ inl w.if-not-all.true
      | then-not-all-via-else-not-all+then-self-eq0 w ↦ inr (w.if-not-all.false, w.if-self-eq0.true)
    ]
    in
    rw (← c.self.view_is) (first ∙ first_alone c.args.pool.0 c.args.all rows (when_alone c.args.all c.self.inside.persistent rows k.counted_persistent others))

pub returns-clause-value : goal.returns-clause-value
returns-clause-value c =
    let k = c.self.invariant in
    let rows = rows_of c.self.inside.rows.held in
    let first = rw (← c.self.view_is) at c.first_of_half-first.ensures.value in
    let other = rw (← c.self.view_is) at c.first_of_half.ensures.value in
    rw (← c.self.view_is, c.if-not-all.false) (c.sooner.ensures ∙ ap₂ sooner_of first other ∙ first_of_both c.args.pool.0 k.rising.0 rows k.rising.1)

pub returns-clause-fewer : goal.returns-clause-fewer
returns-clause-fewer c none =
    let k = c.self.invariant in
    let nowhere = no_waiting (rows_of c.self.inside.rows.held) (rw (← c.self.view_is) at none) in
    let some = c.if-self-eq0.false in
    absurd (some (k.counted_persistent ∙ nowhere))
