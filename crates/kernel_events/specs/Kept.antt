-- What kernel objects keep between calls.
use Rattle.std.specs.Prelude.{◌≡◌, ◌<◌, ◌≤◌, ◌^◌, All, length}
use Rattle.std.specs.Vec.{vec_capacity}
use Rattle.kernel_events.specs.declared.KernelTable.TheInside.{Inside}

-- there is memory for all kernel objects, and for what is armed on those that were made
pub record IsKept (a : Inside) : Type 0 where
  pub limited : length a.rows.items ≤ a.limit
  pub reserved : a.limit ≤ vec_capacity a.rows
  pub fits : a.limit < 2 ^ 32
  pub kernels : a.armings.kernels ≡ a.limit
  pub armed_least : All (λ b. 1 ≤ b.kernel.0) a.armings.armed
  pub armed_most : All (λ b. b.kernel.0 ≤ length a.rows.items) a.armings.armed
