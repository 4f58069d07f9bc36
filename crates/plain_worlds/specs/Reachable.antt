-- What is true of every world that calls lead to, without what is over.
use Rattle.std.specs.Prelude.{◌≡◌, ℕ, ◌+◌, ◌≤◌, length}
use Rattle.tp_base.specs.Ranges.{AreLimitsInRange}
use Rattle.tp_model.specs.Support.Remembered.{forget}
use Rattle.tp_model.specs.Support.Sound.{IsSound}
use Rattle.tp_model.specs.World.{World}
use Rattle.plain_worlds.specs.Once.{IsOnce}

-- there are as many of each thing as the limits say, or no more
pub record IsWithin (w : World) : Type 0 where
  pub limits : AreLimitsInRange w.limits
  pub clients : length w.clients ≡ w.limits.clients
  pub workers : length w.workers ≡ w.limits.workers
  pub pools : length w.pools ≤ w.limits.pools
  pub groups : length w.groups ≤ w.limits.groups
  pub objects : length w.objects ≤ w.limits.objects
  pub kernels : length w.kernels ≤ w.limits.kernels
  -- a callback that lives has a slot, and so has an armed wait
  pub slots : length w.callbacks + length w.armings ≤ w.limits.slots

-- with how many callbacks were ever made
pub record IsReachable (made : ℕ) (w : World) : Type 0 where
  pub sound : IsSound (made + 1) w
  pub living : forget w ≡ w
  pub within : IsWithin w
  pub once : IsOnce w
