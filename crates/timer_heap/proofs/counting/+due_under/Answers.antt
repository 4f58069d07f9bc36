use Rattle.std.proofs.Common.{◌≡◌, ◌^◌, ◌<◌, ℕ, suc, true, List, get_or, length, refl, sym, ap, ◌∙◌, arith}
use Rattle.timer_heap.specs.Counting.{counts}
use Rattle.timer_heap.specs.Held.{tally, times}
use Rattle.timer_heap.proofs.Held.{held_at}
use Rattle.timer_heap.proofs.Sums.{counts_due, counts_most, counts_past, not_due_under, step, step_most, tally_most, under_most, under_past}
use Rattle.timer_heap.proofs.counting.+due_under.Goals as goal

small : (held : List ℕ) (keys : ℕ) → ((key : ℕ) → 0 < times key held → key < keys) → keys < 2 ^ 32 → (p : ℕ) → p < length held → get_or held p 0 < 2 ^ 32
small held keys keyed fits p within = omega (arith, keyed (get_or held p 0) (held_at (get_or held p 0) held p within refl), fits)

pub returns-then-place-len-clause-counted : goal.returns-then-place-len-clause-counted
returns-then-place-len-clause-counted g m c = λ passes tests depth deep.
    let held = c.args.places.now.held in
    sym (under_past (counts c.args.dues.now held c.args.t passes) (length held) (counts_past c.args.dues.now held c.args.t passes) depth c.args.place (omega (arith, c.if-place-len.true, c.len.ensures.value)))

pub returns-then-dues-key-clause-counted : goal.returns-then-dues-key-clause-counted
returns-then-dues-key-clause-counted g m c = λ passes tests depth deep.
    let held = c.args.places.now.held in
    let later : c.args.t < get_or c.args.dues.now (get_or held c.args.place 0) 0 = rw c.key_at-key.ensures.value at c.if-dues-key.true in
    sym (not_due_under c.args.dues.now held c.args.t passes c.requires.heap (small held c.args.places.now.keys c.len.ensures.keyed c.len.ensures.fits) depth c.args.place (λ within. later))

pub overflow_add-result : goal.overflow_add-result
overflow_add-result g m c =
    let held = c.args.places.now.held in
    let n = length held in
    let all = counts c.args.dues.now held c.args.t (λ _. true) in
    let within : c.args.place < n = omega (arith, c.if-place-len.false, c.len.ensures.value) in
    let here = counts_due c.args.dues.now held c.args.t (λ _. true) c.args.place c.key_at-key.result within c.key_at-key.ensures.value c.if-dues-key.false in
    let sum = under_most all n (counts_past c.args.dues.now held c.args.t (λ _. true)) c.args.place (suc n) (omega arith) (counts_most c.args.dues.now held c.args.t (λ _. true)) in
    let most = step_most all n c.args.place c.one_if.result c.due_under.result 0 (suc n) within (omega arith) (omega (arith, here, c.one_if.ensures, tally_most c.test.result)) c.due_under.ensures.most (λ d far. omega arith) in
    omega (arith, sum, most, c.len.ensures.limited, c.len.ensures.fits)

pub overflow_add-result-2 : goal.overflow_add-result-2
overflow_add-result-2 g m c =
    let held = c.args.places.now.held in
    let n = length held in
    let all = counts c.args.dues.now held c.args.t (λ _. true) in
    let within : c.args.place < n = omega (arith, c.if-place-len.false, c.len.ensures.value) in
    let here = counts_due c.args.dues.now held c.args.t (λ _. true) c.args.place c.key_at-key.result within c.key_at-key.ensures.value c.if-dues-key.false in
    let sum = under_most all n (counts_past c.args.dues.now held c.args.t (λ _. true)) c.args.place (suc n) (omega arith) (counts_most c.args.dues.now held c.args.t (λ _. true)) in
    let most = step_most all n c.args.place c.one_if.result c.due_under.result c.due_under-2.result (suc n) within (omega arith) (omega (arith, here, c.one_if.ensures, tally_most c.test.result)) c.due_under.ensures.most c.due_under-2.ensures.most in
    omega (arith, sum, most, c.len.ensures.limited, c.len.ensures.fits)

pub returns-clause-counted : goal.returns-clause-counted
returns-clause-counted g m c = λ passes tests depth deep.
    let held = c.args.places.now.held in
    let within : c.args.place < length held = omega (arith, c.if-place-len.false, c.len.ensures.value) in
    let here = counts_due c.args.dues.now held c.args.t passes c.args.place c.key_at-key.result within c.key_at-key.ensures.value c.if-dues-key.false in
    let told : c.test.result ≡ passes c.key_at-key.result = tests c.key_at-key.result c.test.result c.key_at-key.ensures.keyed c.test.ensures in
    step (counts c.args.dues.now held c.args.t passes) (length held) c.args.place c.one_if.result c.due_under.result c.due_under-2.result depth within deep
    (c.one_if.ensures ∙ ap (λ b. tally b) told ∙ sym here)
    (c.due_under.ensures.counted passes tests) (c.due_under-2.ensures.counted passes tests)

pub returns-clause-most : goal.returns-clause-most
returns-clause-most g m c = λ depth deep.
    let held = c.args.places.now.held in
    let within : c.args.place < length held = omega (arith, c.if-place-len.false, c.len.ensures.value) in
    let here = counts_due c.args.dues.now held c.args.t (λ _. true) c.args.place c.key_at-key.result within c.key_at-key.ensures.value c.if-dues-key.false in
    step_most (counts c.args.dues.now held c.args.t (λ _. true)) (length held) c.args.place c.one_if.result c.due_under.result c.due_under-2.result depth within deep
    (omega (arith, here, c.one_if.ensures, tally_most c.test.result))
    c.due_under.ensures.most c.due_under-2.ensures.most
