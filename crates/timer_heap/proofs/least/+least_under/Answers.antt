use Rattle.std.proofs.Common.{◌≡◌, ◌^◌, ◌<◌, ℕ, true, List, get_or, length, refl, sym, ap, ◌∙◌, arith}
use Rattle.timer_heap.specs.Dues.{entry}
use Rattle.timer_heap.specs.Held.{times}
use Rattle.timer_heap.specs.Least.{falls_below, is_passed, lesser}
use Rattle.timer_heap.proofs.Held.{held_at}
use Rattle.timer_heap.proofs.Found.{falls_past, found_none, found_passed, found_step}
use Rattle.timer_heap.proofs.Sums.{under_past}
use Rattle.timer_heap.proofs.least.+least_under.Goals as goal

small : (held : List ℕ) (keys : ℕ) → ((key : ℕ) → 0 < times key held → key < keys) → keys < 2 ^ 32 → (p : ℕ) → p < length held → get_or held p 0 < 2 ^ 32
small held keys keyed fits p within = omega (arith, keyed (get_or held p 0) (held_at (get_or held p 0) held p within refl), fits)

pub returns-then-place-len : goal.returns-then-place-len
returns-then-place-len g t c = λ worth later tells depth deep.
    let held = c.args.places.now.held in
    found_none _ c.args.so_far (λ bound at. under_past (falls_below c.args.dues.now held worth bound) (length held) (falls_past c.args.dues.now held worth bound) depth c.args.place (omega (arith, c.if-place-len.true, c.len.ensures.value)))

pub returns-then-is_passed : goal.returns-then-is_passed
returns-then-is_passed g t c = λ worth later tells depth deep.
    let held = c.args.places.now.held in
    let passed : is_passed (get_or c.args.dues.now (get_or held c.args.place 0) 0) c.args.so_far ≡ true = rw c.key_at-key.ensures.value at (sym c.is_passed.ensures ∙ c.if-is_passed.true) in
    found_passed c.args.dues.now held worth c.requires.heap (small held c.args.places.now.keys c.len.ensures.keyed c.len.ensures.fits) later c.args.so_far depth c.args.place passed

pub returns : goal.returns
returns g t c = λ worth later tells depth deep.
    let held = c.args.places.now.held in
    let within : c.args.place < length held = omega (arith, c.if-place-len.false, c.len.ensures.value) in
    let told : c.value.result ≡ worth (entry c.key_at-key.result (get_or c.args.dues.now c.key_at-key.result 0)) = tells c.key_at-key.result (get_or c.args.dues.now c.key_at-key.result 0) c.value.result c.key_at-key.ensures.keyed (c.type_inv.dues c.key_at-key.result).fits c.value.ensures in
    let here = c.lesser_of-here.ensures ∙ ap (λ v. lesser v c.args.so_far) told in
    found_step c.args.dues.now held worth c.args.so_far c.least_under-left.result c.least_under.result c.lesser_of-here.result c.args.place depth within deep
    (rw c.key_at-key.ensures.value at here)
    (c.least_under-left.ensures worth later tells) (c.least_under.ensures worth later tells)
