-- Kernel objects and the wait objects that are armed on them: what a contract sees of `KernelTable`. What one may do with
-- one kernel object stands in tp_base's Kernels.
use Rattle.std.specs.Prelude.{◌≡◌, ℕ, ◌+◌, ◌-◌, ◌^◌, ◌<◌, ◌==◌, Bool, true, false, List, find, Option, None, Some, slice_get, slice_set, if◌then◌else◌}
use Rattle.std.specs.Option.{option_map, option_map_or}
use Rattle.tp_base.specs.declared.ids.ObjectId.{ObjectId}
use Rattle.tp_base.specs.declared.plans.KernelChange.{KernelChange}
use Rattle.tp_base.specs.declared.plans.KernelChange.TheVariants.{Raise, Take}
use Rattle.tp_base.specs.declared.rows.Arming.{Arming}
use Rattle.tp_base.specs.declared.rows.KernelRow.{KernelRow}
use Rattle.tp_base.specs.declared.rows.KernelState.{KernelState}
use Rattle.tp_base.specs.Armings.{is_arming_on, without_arming}
use Rattle.tp_base.specs.Kernels.{is_signalled, may_take, passes_by, taken, takings_of}
use Rattle.kernel_events.specs.Armed.{first_on}

-- how many can be made, the greatest number of a wait object, the kernel objects, number k at place k - 1, and the armed
-- wait objects in the order of arming
pub record Kernels : Type 0 where
  pub limit : ℕ
  pub objects : ℕ
  pub rows : List KernelRow
  pub armed : List Arming

-- the row of a number that counts from 1
abbrev pub numbered : {R : Type 0} → List R → ℕ → Option R
numbered rows number = if number == 0 then None else slice_get rows (number - 1)

-- the state of a kernel object, if it was made
abbrev pub state_of : Kernels → ℕ → Option KernelState
state_of kernels kernel = option_map (λ (row : KernelRow). row.state) (numbered kernels.rows kernel)

abbrev pub new_row : KernelState → KernelRow
new_row state = record { state = state }

-- the rows with another state of one of them
abbrev pub rows_with : (KernelState → KernelState) → List KernelRow → ℕ → List KernelRow
rows_with f rows kernel = option_map_or (λ row. slice_set rows (kernel - 1) (record row { state = f row.state })) (numbered rows kernel) rows

-- a count that is raised stays within the maximum; who takes it may take it, and it wasn't taken too often
abbrev pub Suits : KernelChange → KernelState → Type 0
Suits (Raise more) state = passes_by more state ≡ false
Suits (Take who) state = (may_take who state ≡ true) × (takings_of state + 1 < 2 ^ 64)
Suits _ state = Unit {0}

-- one of them is there and passes the test
abbrev pub is_one_that : (KernelState → Bool) → List KernelRow → ℕ → Bool
is_one_that test rows kernel = option_map_or (λ (row : KernelRow). test row.state) (numbered rows kernel) false

-- an armed wait takes the kernel object, and is disarmed
abbrev pub release_to : ℕ → Kernels → Option Arming → Kernels
release_to kernel kernels None = kernels
release_to kernel kernels (Some a) = record kernels { rows = rows_with taken kernels.rows kernel; armed = without_arming a.object.0 kernels.armed }

-- the earliest wait that is armed on a kernel object is released, if the object is signalled
abbrev pub release_first : ℕ → Kernels → Kernels
release_first kernel kernels = if is_one_that is_signalled kernels.rows kernel then release_to kernel kernels (find (is_arming_on kernel) kernels.armed) else kernels

-- and that is this one, if it is one
abbrev pub next_released : ℕ → Kernels → Option ObjectId
next_released kernel kernels = if is_one_that is_signalled kernels.rows kernel then first_on kernel kernels.armed else None
