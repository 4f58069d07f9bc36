-- Where no pool is in need or below its minimum, there is none to join.
use Rattle.std.proofs.Common.{◌≡◌, ℕ, Bool, true, false, cond, ◌||◌, List, [], ◌∷◌, length, Some, None, find, refl}
use Rattle.std.specs.List.{list_any, range_with_len}
use Rattle.std.specs.Option.{option_or}
use Rattle.tp_model.specs.Calls.Workers.{pool_to_join}
use Rattle.tp_model.specs.Counts.{is_below_minimum, is_in_need}
use Rattle.tp_model.specs.World.{World}

neither : (p q : ℕ → Bool) (ns : List ℕ) → list_any (λ n. p n || q n) ns ≡ false → option_or (find p ns) (find q ns) ≡ None
neither p q [] none = refl
neither p q (n ∷ ns) none =
    elim (p n) as (λ b. ((b || q n) || list_any (λ m. p m || q m) ns) ≡ false → option_or (cond b (Some n) (find p ns)) (cond (q n) (Some n) (find q ns)) ≡ None) [
      | true ↦ λ some. absurd cc
      | false ↦
          elim (q n) as (λ b. (b || list_any (λ m. p m || q m) ns) ≡ false → option_or (find p ns) (cond b (Some n) (find q ns)) ≡ None) [
            | true ↦ λ some. absurd cc
            | false ↦ neither p q ns
          ]
    ] none

pub none_to_join : (w : World) → list_any (λ pool. is_in_need w pool || is_below_minimum w pool) (range_with_len 0 (length w.pools)) ≡ false → pool_to_join w ≡ None
none_to_join w none = neither (is_in_need w) (is_below_minimum w) (range_with_len 0 (length w.pools)) none
