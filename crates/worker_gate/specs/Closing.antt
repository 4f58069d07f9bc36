-- The end of a run: all actors have come back.
use Rattle.std.specs.Prelude.{◌≡◌, ℕ, ◌<◌, true, false, List, [], ◌∷◌, map, slice_get, Some, All}
use Rattle.tp_base.specs.declared.answers.Entry.{Entry}
use Rattle.tp_base.specs.declared.ids.Who.{Who}
use Rattle.tp_base.specs.declared.ids.Who.TheVariants.{Client}
use Rattle.tp_base.specs.declared.limits.Limits.{Limits}
use Rattle.tp_model.specs.Stages.{is_in_part, IsActor}
use Rattle.turn_lock.specs.Histories.{own, StartsWith}
use Rattle.turn_lock.specs.Seats.{mine_of, seen_of}
use Rattle.shared_pool.specs.declared.pool.SharedPool.{SharedPool}
use Rattle.shared_pool.specs.Pools.{pool_setup, setup_at, HaveAll}
use Rattle.worker_gate.specs.declared.actor.Actor.{Actor}
use Rattle.worker_gate.specs.declared.role.Role.{Role}
use Rattle.worker_gate.specs.Acting.{role_in, seat_in, GoesOn, IsReady}
use Rattle.part_places.specs.Places.{Given}
use Rattle.worker_gate.specs.Rounds.{HaveAllRoles}

module _ {B : Type 0} where
  -- ---- what client 1 has told the others

  -- another actor has seen all that the first one had, and knows its own entries of that
  pub record HasHeard (first a b : Actor B) : Type 0 where
    pub goes_on : GoesOn a b
    pub role_is : b.role ≡ a.role
    pub mine : mine_of b.seat ≡ mine_of a.seat
    pub told : StartsWith (seen_of b.seat) (seen_of first.seat)
    pub own_is : mine_of b.seat ≡ own b.role.who (seen_of b.seat)

  abbrev pub HaveHeard : Actor B → List (Actor B) → List (Actor B) → Type 0
  HaveHeard first [] [] = Unit {0}
  HaveHeard first (a ∷ others) (b ∷ later) = HasHeard first a b × HaveHeard first others later
  HaveHeard first _ _ = ⊥

  -- one has looked, and nothing else of it has changed
  pub record HasTold (a b : Actor B) : Type 0 where
    pub goes_on : GoesOn a b
    pub role_is : b.role ≡ a.role
    pub mine : mine_of b.seat ≡ mine_of a.seat
    pub own_is : mine_of b.seat ≡ own b.role.who (seen_of b.seat)

  -- ---- all are back

  -- no two of them are one
  abbrev pub AreApart : List (Actor B) → Type 0
  AreApart actors = (i j : ℕ) (a b : Actor B) → slice_get actors i ≡ Some a → slice_get actors j ≡ Some b → a.role.who ≡ b.role.who → i ≡ j

  -- the history begins with what these actors have made: they are one of each client and worker, and `front`, of which each has
  -- seen a beginning, has of each just what it has made
  pub record BeginsAsMade (limits : Limits) (history : List Entry) (actors : List (Actor B)) : Type 0 where
    pub each : HaveAllRoles limits (map role_in actors)
    pub once : AreApart actors
    pub front : List Entry
    pub starts : StartsWith history front
    pub made : All (λ (a : Actor B). mine_of a.seat ≡ own a.role.who front) actors
    pub seen : All (λ (a : Actor B). StartsWith front (seen_of a.seat)) actors

  -- client 1 has finished, when no other had made an entry: `front` is the history of that time
  pub record FirstTold (limits : Limits) (actors : List (Actor B)) : Type 0 where
    pub at : ℕ
    pub first : Actor B
    pub is_there : slice_get actors at ≡ Some first
    pub is_first : first.role.who ≡ Client 1
    pub ended : is_in_part first.role.place.stage ≡ false
    pub front : List Entry
    pub seen : StartsWith (seen_of first.seat) front
    pub mine : mine_of first.seat ≡ own (Client 1) front
    pub alone : (who : Who) → IsActor limits who → (who ≡ Client 1 → ⊥) → own who front ≡ []

  -- the pool has a seat for each actor, and the actors of all of them are here, each once
  pub record AllBack (g : Given) (pool : SharedPool B) (actors : List (Actor B)) : Type 0 where
    pub setup_is : setup_at pool ≡ pool_setup (setup_at pool).limits (setup_at pool).capacity
    pub some_client : 0 < (setup_at pool).limits.clients
    pub some_worker : 0 < (setup_at pool).limits.workers
    pub ready : All (IsReady g pool) actors
    pub all : HaveAll pool (map seat_in actors)
    pub once : AreApart actors

-- a part of the role was cut
abbrev pub IsCutIn : Role → Type 0
IsCutIn r = r.place.cut ≡ true

-- the same of the history and the roles
pub record IsFirstPlayed (limits : Limits) (history : List Entry) (roles : List Role) : Type 0 where
  pub at : ℕ
  pub first : Role
  pub is_there : slice_get roles at ≡ Some first
  pub is_first : first.who ≡ Client 1
  pub ended : is_in_part first.place.stage ≡ false
  pub front : List Entry
  pub starts : StartsWith history front
  pub mine : own (Client 1) history ≡ own (Client 1) front
  pub alone : (who : Who) → IsActor limits who → (who ≡ Client 1 → ⊥) → own who front ≡ []
