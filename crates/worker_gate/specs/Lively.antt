-- Rounds that aren't in vain.
use Rattle.std.specs.Prelude.{ℕ, suc, ◌+◌, ◌<◌, ◌≤◌, ◌≡◌, List, length}
use Rattle.std.specs.List.{filter}
use Rattle.tp_base.specs.declared.limits.Limits.{Limits}
use Rattle.worker_gate.specs.declared.role.Role.{Role}
use Rattle.part_places.specs.Places.{Given}
use Rattle.worker_gate.specs.Rounds.{rounds, HaveEnded, Scene}

-- how many of them have ended
abbrev pub count_ended : List Role → ℕ
count_ended roles = length (filter (λ (r : Role). r.ended) roles)

-- from a scene to a later one of the same roles one has moved, which is an entry; or one has ended; or all had ended before
pub data GoesOn (s t : Scene) : Type 0 where
  Moves : length s.history < length t.history → GoesOn s t
  Ends : count_ended s.roles < count_ended t.roles → GoesOn s t
  HadEnded : HaveEnded s.roles → GoesOn s t

module _ (g : Given) (limits : Limits) (capacity : ℕ) where
  -- some rounds lead from one scene to the other, and in any two of them in succession a role moves or ends, or all had ended
  pub record ArePlayedOn (s t : Scene) : Type 0 where
    pub count : ℕ
    pub lead : rounds g limits capacity count s ≡ t
    pub go_on : (n : ℕ) → n + 2 ≤ count → GoesOn (rounds g limits capacity n s) (rounds g limits capacity (suc (suc n)) s)
