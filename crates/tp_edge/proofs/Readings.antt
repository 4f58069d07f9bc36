-- The answers of a reader, by their cases.
use Rattle.std.proofs.Common.{◌≡◌, ℕ, ◌+◌, List, length, refl, arith, Err}
use Rattle.tp_edge.specs.declared.reading.ReadFault.TheVariants.{TooLong}
use Rattle.tp_edge.specs.Reading.{IsRead}

pub IsRead-too_long : (limit : ℕ) (taken : List ℕ) → length taken ≡ limit + 1 → IsRead (Err TooLong) limit taken
IsRead-too_long limit taken e = record {
  all = tt;
  too_long = ((λ _. e), (λ _. refl));
  within = omega arith;
}
