-- When a timer is due next: above now, whole periods after its last due time, and as soon as that.
use Rattle.std.proofs.Common.{◌≡◌, ℕ, ◌+◌, ◌-◌, ◌*◌, ◌/◌, ◌<◌, ◌≤◌, refl, arith}
use Rattle.std.proofs.Math.Nat.{lt-div-mul-add, mul-le-mul_right}
use Rattle.std.proofs.lemmas.Nat.{div_below}
use Rattle.tp_base.specs.Timers.{next_due, units_per_millisecond}

above_by : (base span now : ℕ) → 0 < span → now < base + ((now - base) / span + 1) * span
above_by base span now some = omega (arith, lt-div-mul-add {a = now - base} {b = span} some)

least_by : (base span now k : ℕ) → 0 < span → 1 ≤ k → now < base + k * span → base + ((now - base) / span + 1) * span ≤ base + k * span
least_by base span now k some one above =
    let some_periods : 1 * span ≤ k * span = mul-le-mul_right span one in
    let fewer : (now - base) / span < k = div_below (now - base) span k some (omega arith) in
    let no_more : ((now - base) / span + 1) * span ≤ k * span = mul-le-mul_right span (omega arith) in
    omega (arith, no_more)

module _ (base period now : ℕ) (repeats : 0 < period) where
  pub next_above : now < next_due base period now
  next_above = above_by base (units_per_millisecond * period) now (omega arith)

  pub next_whole : (k : ℕ) × (1 ≤ k) × (next_due base period now ≡ base + k * (units_per_millisecond * period))
  next_whole = ((now - base) / (units_per_millisecond * period) + 1, omega arith, refl)

  pub next_least : (k : ℕ) → 1 ≤ k → now < base + k * (units_per_millisecond * period) → next_due base period now ≤ base + k * (units_per_millisecond * period)
  next_least k one above = least_by base (units_per_millisecond * period) now k (omega arith) one above
