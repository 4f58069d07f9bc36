-- Whether any of a pool's callbacks goes on, or can be taken, and whether a worker goes on for certain.
use Rattle.std.specs.Prelude.{ℕ, Bool, not, ◌&&◌, ◌||◌, ◌==◌, nat_le, nat_lt}
use Rattle.tp_base.specs.declared.ids.Who.TheVariants.{Worker}
use Rattle.tp_model.specs.Conditions.{is_in_wait, runs_callback}
use Rattle.tp_model.specs.Counts.{idle, maximum, pending, running}
use Rattle.tp_model.specs.Stalled.{is_kept_waiting}
use Rattle.tp_model.specs.World.{World}

-- the history has no room for a callback of the pool to be run, where a worker is free in the world or none is
abbrev pub lacks_room_where : World → ℕ → Bool → ℕ → Bool
lacks_room_where w room free pool = nat_lt room 2 || ((idle w pool == 0) && (nat_lt room 4 || not free))

-- none of the pool's callbacks runs, and those that are pending never will
abbrev pub is_pool_over : World → ℕ → Bool → ℕ → Bool
is_pool_over w room free pool = (running w pool == 0) && ((pending w pool == 0) || lacks_room_where w room free pool)

-- none of the pool's pending callbacks can be taken
abbrev pub is_pool_blocked : World → ℕ → Bool → ℕ → Bool
is_pool_blocked w room free pool = (pending w pool == 0) || nat_le (maximum w pool) (running w pool) || is_kept_waiting w pool || lacks_room_where w room free pool

-- a worker that runs a callback and has no wait begun
abbrev pub is_worker_free : World → ℕ → Bool
is_worker_free w number = runs_callback w (Worker number) && not (is_in_wait w (Worker number))
