-- All actors of a pool, before any has made a call.
use Rattle.std.specs.Prelude.{◌≡◌, ℕ, ◌≤◌, List, [], map, All}
use Rattle.std.specs.List.{range_with_len}
use Rattle.tp_base.specs.declared.limits.Limits.{Limits}
use Rattle.tp_model.specs.Stages.{IsActor}
use Rattle.turn_lock.specs.declared.seats.Seat.{Seat}
use Rattle.turn_lock.specs.Seats.{actor_in, mine_of, number_of, setup_in}
use Rattle.shared_pool.specs.declared.pool.SharedPool.{SharedPool}
use Rattle.shared_pool.specs.Pools.{setup_at, IsPlayer}
use Rattle.worker_gate.specs.declared.actor.Actor.{Actor}
use Rattle.worker_gate.specs.Roles.{new_role}

module _ {B : Type 0} where
  -- a seat of an actor of these limits, who has made no call
  pub record IsNewSeat (limits : Limits) (seat : Seat B) : Type 0 where
    pub limits_are : (setup_in seat).limits ≡ limits
    pub numbered : 1 ≤ number_of seat
    pub actor : IsActor limits (actor_in seat)
    pub mine : mine_of seat ≡ []

  pub record IsNewActor (limits : Limits) (a : Actor B) : Type 0 where
    pub seat : IsNewSeat limits a.seat
    pub role : a.role ≡ new_role (actor_in a.seat)

  abbrev pub number_in : Actor B → ℕ
  number_in a = number_of a.seat

  -- the actors of all seats of a pool, in the order of their numbers
  pub record AreNew (pool : SharedPool B) (actors : List (Actor B)) : Type 0 where
    pub players : All (λ (a : Actor B). IsPlayer pool a.seat) actors
    pub new : All (IsNewActor (setup_at pool).limits) actors
    pub numbers : map number_in actors ≡ range_with_len 1 (setup_at pool).seats
