-- Totals that were counted are those of the history.
use Rattle.std.proofs.Common.{◌≡◌, ℕ, ◌-◌, List, length, arith, ap, ◌∙◌}
use Rattle.tp_base.specs.declared.ids.ObjectId.{ObjectId}
use Rattle.tp_base.specs.declared.rows.Status.{Status}
use Rattle.tp_report.specs.Summaries.{IsNoneLost, Totals}

-- what was made less what was taken and less what is left were cancelled
pub same_totals : (entries callbacks taken cancelled : ℕ) (left : List (ℕ × ObjectId × Status)) (refused : ℕ) (totals : Totals) → IsNoneLost totals
    → entries ≡ totals.entries → callbacks ≡ totals.callbacks → taken ≡ totals.taken → cancelled ≡ callbacks - taken - length left → left ≡ totals.left → refused ≡ totals.refused
    → ◌≡◌ {A = Totals} (record { entries = entries; callbacks = callbacks; taken = taken; cancelled = cancelled; left = left; refused = refused }) totals
same_totals entries callbacks taken cancelled left refused totals lost e c t d l r =
    let size : length left ≡ length totals.left = ap length l in
    let gone : cancelled ≡ totals.cancelled = omega (arith, lost, c, t, d, size) in
    ap (λ n. record { entries = n; callbacks = callbacks; taken = taken; cancelled = cancelled; left = left; refused = refused }) e
    ∙ ap (λ n. record { entries = totals.entries; callbacks = n; taken = taken; cancelled = cancelled; left = left; refused = refused }) c
    ∙ ap (λ n. record { entries = totals.entries; callbacks = totals.callbacks; taken = n; cancelled = cancelled; left = left; refused = refused }) t
    ∙ ap (λ n. record { entries = totals.entries; callbacks = totals.callbacks; taken = totals.taken; cancelled = n; left = left; refused = refused }) gone
    ∙ ap (λ n. record { entries = totals.entries; callbacks = totals.callbacks; taken = totals.taken; cancelled = totals.cancelled; left = n; refused = refused }) l
    ∙ ap (λ n. record { entries = totals.entries; callbacks = totals.callbacks; taken = totals.taken; cancelled = totals.cancelled; left = totals.left; refused = n }) r
