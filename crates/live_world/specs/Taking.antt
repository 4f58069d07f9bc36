-- What becomes of the kernel objects as an actor's wait ends.
use Rattle.std.specs.Prelude.{◌≡◌, ℕ, ◌+◌, ◌<◌, ◌^◌, true, List, Option, None, Some, IsSome, IfSome}
use Rattle.tp_base.specs.declared.ids.Who.{Who}
use Rattle.tp_base.specs.declared.ids.KernelId.{KernelId}
use Rattle.tp_base.specs.declared.plans.WaitEnd.{WaitEnd}
use Rattle.tp_base.specs.declared.plans.WaitEnd.TheVariants.{Free, Exhausted, Stalled}
use Rattle.tp_base.specs.declared.rows.KernelRow.{KernelRow}
use Rattle.tp_base.specs.Kernels.{may_take, taken_by, takings_of}
use Rattle.tp_model.specs.Counts.{numbered}
use Rattle.tp_model.specs.Kernels.{kernel_changed}

-- the actor may take the kernel object of this number, and it wasn't taken too often
pub record IsFreeFor (who : Who) (rows : List KernelRow) (kernel : ℕ) : Type 0 where
  pub made : IsSome (numbered rows kernel)
  pub allowed : IfSome (numbered rows kernel) (λ (row : KernelRow). may_take who row.state ≡ true)
  pub few : IfSome (numbered rows kernel) (λ (row : KernelRow). takings_of row.state + 1 < 2 ^ 64)

-- the one that a wait is for, if it is for one, is taken at its end
abbrev pub rows_left : Who → WaitEnd → Option KernelId → List KernelRow → List KernelRow
rows_left who Free None rows = rows
rows_left who Free (Some kernel) rows = kernel_changed (taken_by who) rows kernel.0
rows_left who Exhausted wanted rows = rows
rows_left who Stalled wanted rows = rows
