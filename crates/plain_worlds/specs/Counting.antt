-- What a wait would cover, and how many waits a kernel object would release, as they are counted before.
use Rattle.std.specs.Prelude.{ℕ, ℤ, min, Bool, false, not, ◌&&◌, ◌||◌, if◌then◌else◌, Option, None, Some}
use Rattle.tp_base.specs.declared.ids.KernelId.{KernelId}
use Rattle.tp_base.specs.declared.plans.KernelChange.{KernelChange}
use Rattle.tp_base.specs.declared.rows.CallbackRow.{CallbackRow}
use Rattle.tp_base.specs.declared.rows.KernelState.{KernelState}
use Rattle.tp_base.specs.declared.rows.KernelState.TheVariants.{Event, Semaphore}
use Rattle.tp_base.specs.declared.rows.WaitTarget.{WaitTarget}
use Rattle.tp_base.specs.Kernels.{is_signalled, state_after}
use Rattle.tp_base.specs.Timers.{expires_at_once}
use Rattle.tp_model.specs.Kernels.{is_one_that}
use Rattle.tp_model.specs.Sources.{Sources}
use Rattle.tp_model.specs.Waits.{is_cancelled_by, is_covered_by}

-- the wait doesn't cancel the callback, and covers it
abbrev pub is_covered_then : WaitTarget → Bool → CallbackRow → Bool
is_covered_then target cancel c = not (is_cancelled_by target cancel c) && is_covered_by target cancel c

-- how many of so many waits a kernel object releases
abbrev pub releases : KernelState → ℕ → ℕ
releases (Event manual signalled) waits = if signalled then (if manual then waits else min 1 waits) else 0
releases (Semaphore count maximum) waits = min count waits
releases _ waits = 0

-- once it changed
abbrev pub released_by : KernelChange → KernelState → ℕ → ℕ
released_by how state waits = releases (state_after how state) waits

-- a wait that is set takes its kernel object or times out at once
abbrev pub fires_at_once : Sources → Option KernelId → Option ℤ → Bool
fires_at_once s None timeout = false
fires_at_once s (Some kernel) timeout = is_one_that is_signalled s.kernels kernel.0 || expires_at_once s.now timeout
