use Rattle.std.proofs.Common.{◌≡◌, ◌∙◌, ◌⊎◌, true, false, inl, inr, arith}
use Rattle.std.proofs.lemmas.List.{length-map}
use Rattle.live_callbacks.specs.Callbacks.{is_open}
use Rattle.live_callbacks.specs.Held.{Held, rows_of}
use Rattle.live_callbacks.proofs.Halves.{alone, count_alone, count_both, when_alone}
use Rattle.live_callbacks.proofs.Standing.{count_most}
use Rattle.live_callbacks.proofs.LiveCallbacks.takeable.Goals as goal
use Rattle.live_callbacks.proofs.LiveCallbacks.takeable.Goals.{then-not-all-via-then-not-all, then-not-all-via-else-not-all+then-self-eq0}

pub returns-then-not-all : goal.returns-then-not-all
returns-then-not-all c =
    let k = c.self.invariant in
    let rows = rows_of c.self.inside.rows.held in
    let count = rw (← c.self.view_is) at c.count_half-count.ensures in
    let others : (c.args.all ≡ false) ⊎ ((c.args.all ≡ true) × (c.self.inside.persistent ≡ 0)) =
    elim c.then-not-all.branch [
      | then-not-all-via-then-not-all w ↦ inl w.if-not-all.true
      | then-not-all-via-else-not-all+then-self-eq0 w ↦ inr (w.if-not-all.false, w.if-self-eq0.true)
    ]
    in
    rw (← c.self.view_is) (count ∙ count_alone c.args.pool.0 c.args.all rows (alone c.args.pool.0 c.args.all rows (when_alone c.args.all c.self.inside.persistent rows k.counted_persistent others)))

pub overflow_add-result : goal.overflow_add-result
overflow_add-result c =
    let i = c.self.inside in
    let count = rw (← c.self.view_is) at c.count_half-count.ensures in
    let other = rw (← c.self.view_is) at c.count_half.ensures in
    omega (
      arith,
      count,
      other,
      count_both c.args.pool.0 (rows_of i.rows.held),
      count_most (is_open c.args.pool.0 true) (rows_of i.rows.held),
      length-map i.rows.held (λ (h : Held). h.row),
      c.len-known.ensures.limited,
      c.len-known.ensures.fits,
    )

pub returns : goal.returns
returns c =
    let count = rw (← c.self.view_is) at c.count_half-count.ensures in
    let other = rw (← c.self.view_is) at c.count_half.ensures in
    rw (← c.self.view_is, c.if-not-all.false) (omega (arith, count, other, count_both c.args.pool.0 (rows_of c.self.inside.rows.held)))
