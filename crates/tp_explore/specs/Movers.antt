-- The actors of a machine in a row, and the moves of each.
use Rattle.std.proofs.Common.{◌≡◌, ℕ, suc, ◌+◌, ◌-◌, ◌*◌, ◌/◌, ◌%◌, ◌<◌, ◌≤◌, Bool, true, false, cond, nat_le, List, [], ◌∷◌, length, refl, ap, ◌∙◌, arith}
use Rattle.tp_base.specs.declared.ids.Who.{Who}
use Rattle.tp_base.specs.declared.ids.Who.TheVariants.{Client, Worker}
use Rattle.tp_base.specs.declared.limits.Limits.{Limits}
use Rattle.tp_model.specs.Stages.{IsActor}
use Rattle.part_places.specs.declared.place.Place.{Place}
use Rattle.tp_explore.specs.Boards.{actor_of, mover, place_in_row, width_of}
use Rattle.tp_explore.specs.Closing.{named_row}

module _ (limits : Limits) where
  pub within_row : (who : Who) → IsActor limits who → place_in_row limits who < limits.clients + limits.workers
  within_row (Client number) actor = omega (arith, actor)
  within_row (Worker number) actor = omega (arith, actor)

  -- the actor of a place in the row
  pub actor_at : (who : Who) → IsActor limits who → actor_of limits (place_in_row limits who + 1) ≡ who
  actor_at (Client n) is =
      let same : n - 1 + 1 ≡ n = omega arith in
      let below : nat_le (n - 1 + 1) limits.clients ≡ true = grind (arith, same) in
      ap (λ b. cond b (Client (n - 1 + 1)) (Worker (n - 1 + 1 - limits.clients))) below ∙ ap (λ m. Client m) same
  actor_at (Worker n) is =
      let same : limits.clients + (n - 1) + 1 - limits.clients ≡ n = omega arith in
      let above : nat_le (limits.clients + (n - 1) + 1) limits.clients ≡ false = grind arith in
      ap (λ b. cond b (Client (limits.clients + (n - 1) + 1)) (Worker (limits.clients + (n - 1) + 1 - limits.clients))) above ∙ ap (λ m. Worker m) same

  -- ---- moves

  pub mover_at : (who : Who) (number : ℕ) → IsActor limits who → number < 2 → mover limits (place_in_row limits who * 2 + number) ≡ who
  mover_at who number actor few = ap (actor_of limits) half ∙ actor_at who actor
    where
      half : (place_in_row limits who * 2 + number) / 2 + 1 ≡ place_in_row limits who + 1
      half = omega arith

  pub second_at : (who : Who) (number : ℕ) → number < 2 → (place_in_row limits who * 2 + number) % 2 ≡ number
  second_at who number few = omega (arith, few)

  pub within_width : (who : Who) (number : ℕ) → IsActor limits who → number < 2 → place_in_row limits who * 2 + number < width_of limits
  within_width who number actor few = omega (arith, within_row who actor, few)

  pub mover_acts : (by : ℕ) → by < width_of limits → IsActor limits (mover limits by)
  mover_acts by within = acts (by / 2 + 1) (omega arith) (omega (arith, within))
    where
      acts : (n : ℕ) → 1 ≤ n → n ≤ limits.clients + limits.workers → IsActor limits (actor_of limits n)
      acts n least most = known (nat_le n limits.clients) refl
        where
          known : (b : Bool) → nat_le n limits.clients ≡ b → IsActor limits (cond b (Client n) (Worker (n - limits.clients)))
          known true is = (least, grind (arith, is))
          known false is =
              let above : limits.clients < n = grind (arith, is) in
              (omega (arith, above), omega (arith, most))

  -- ---- the row

  pub row_length : (name : ℕ → ℕ) (front : ℕ) (places : List Place) → length (named_row limits name front places) ≡ length places
  row_length name front [] = refl
  row_length name front (p ∷ places) = ap suc (row_length name (front + 1) places)
