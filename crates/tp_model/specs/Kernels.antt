-- The events, semaphores, mutexes and critical sections of a world, by number. What one may do with one of them stands in
-- tp_base's Kernels.
use Rattle.std.specs.Prelude.{ℕ, ◌-◌, Bool, false, List, slice_set, is_some, Option, None, Some}
use Rattle.std.specs.Option.{option_map_or}
use Rattle.tp_base.specs.declared.rows.KernelState.{KernelState}
use Rattle.tp_base.specs.declared.rows.KernelRow.{KernelRow}
use Rattle.tp_base.specs.Kernels.{count_of}
use Rattle.tp_model.specs.World.{World}
use Rattle.tp_model.specs.Counts.{numbered}

abbrev pub is_kernel : World → ℕ → Bool
is_kernel w kernel = is_some (numbered w.kernels kernel)

-- one of them is there and passes the test
abbrev pub is_one_that : (KernelState → Bool) → List KernelRow → ℕ → Bool
is_one_that test kernels kernel = option_map_or (λ (k : KernelRow). test k.state) (numbered kernels kernel) false

abbrev pub is_kernel_that : (KernelState → Bool) → World → ℕ → Bool
is_kernel_that test w kernel = is_one_that test w.kernels kernel

abbrev pub count_at : World → ℕ → ℕ
count_at w kernel = option_map_or (λ (k : KernelRow). count_of k.state) (numbered w.kernels kernel) 0

abbrev pub with_row : (KernelState → KernelState) → List KernelRow → ℕ → Option KernelRow → List KernelRow
with_row f kernels kernel None = kernels
with_row f kernels kernel (Some row) = slice_set kernels (kernel - 1) (record row { state = f row.state })

-- another state of one of them
abbrev pub kernel_changed : (KernelState → KernelState) → List KernelRow → ℕ → List KernelRow
kernel_changed f kernels kernel = with_row f kernels kernel (numbered kernels kernel)

abbrev pub new_kernel : KernelState → KernelRow
new_kernel state = record { state = state }
