-- A step of a loop over numbers: what is made so far, and what the rest comes to.
use Rattle.std.proofs.Common.{◌≡◌, ℕ, suc, ◌+◌, ◌-◌, ◌<◌, List, ◌++◌, refl, arith, append_assoc}
use Rattle.std.specs.List.{flat_map, range_with_len}

pub next_number : {A : Type 0} (f : ℕ → List A) (ys : List A) (most i : ℕ) → i < most → (ys ++ f (i + 1)) ++ flat_map f (range_with_len (i + 1 + 1) (most - (i + 1))) ≡ ys ++ flat_map f (range_with_len (i + 1) (most - i))
next_number f ys most i h = let e : most - i ≡ suc (most - (i + 1)) = omega arith in rw (e, append_assoc) refl
