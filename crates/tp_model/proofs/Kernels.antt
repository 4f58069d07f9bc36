-- What changes of kernel objects keep.
use Rattle.std.proofs.Common.{◌≡◌, ℕ, ◌+◌, ◌-◌, Bool, true, false, List, arith, Option, Some, None, refl}
use Rattle.std.proofs.lemmas.Bool.{ltb-false}
use Rattle.std.specs.List.{AllByRecursion}
use Rattle.std.specs.Option.{option_map_or}
use Rattle.tp_base.specs.declared.ids.Who.{Who}
use Rattle.tp_base.specs.declared.plans.KernelChange.{KernelChange}
use Rattle.tp_base.specs.declared.plans.KernelChange.TheVariants.{Set, Reset, Raise, Leave, Take}
use Rattle.tp_base.specs.declared.rows.KernelState.{KernelState}
use Rattle.tp_base.specs.declared.rows.KernelState.TheVariants.{Event, Semaphore, Mutex, Section}
use Rattle.tp_base.specs.declared.rows.KernelRow.{KernelRow}
use Rattle.tp_base.specs.Kernels.{taken, taken_by, state_after}
use Rattle.tp_model.specs.World.{World}
use Rattle.tp_model.specs.Counts.{numbered}
use Rattle.tp_model.specs.Kernels.{is_kernel_that, with_row, kernel_changed}
use Rattle.tp_model.specs.Support.Allowed.{Suits}
use Rattle.tp_model.specs.Support.Ranged.{IsStateInRange}
use Rattle.tp_model.proofs.Lists.{all_get, all_set}
use Rattle.tp_model.proofs.Refusals.{false_true, numbered_some}

-- a kernel object that stands and passes a test
pub record Stands (test : KernelState → Bool) (w : World) (kernel : ℕ) : Type 0 where
  pub row : KernelRow
  pub stands : numbered w.kernels kernel ≡ Some row
  pub passes : test row.state ≡ true

pub that_stands : (test : KernelState → Bool) (w : World) (kernel : ℕ) → is_kernel_that test w kernel ≡ true → Stands test w kernel
that_stands test w kernel there = of_row (numbered w.kernels kernel) refl there
  where
    of_row : (row : Option KernelRow) → numbered w.kernels kernel ≡ row → option_map_or (λ (k : KernelRow). test k.state) row false ≡ true → Stands test w kernel
    of_row None is e = absurd (false_true e)
    of_row (Some row) is e = record { row = row; stands = is; passes = e }

-- what is true of every state stays so where one of them changes
pub all_changed : (P : KernelState → Type 0) (f : KernelState → KernelState) (kernels : List KernelRow) (kernel : ℕ) → ((row : KernelRow) → numbered kernels kernel ≡ Some row → P row.state → P (f row.state))
    → AllByRecursion (λ (k : KernelRow). P k.state) kernels → AllByRecursion (λ (k : KernelRow). P k.state) (kernel_changed f kernels kernel)
all_changed P f kernels kernel goes all = of_row (numbered kernels kernel) refl
  where
    of_row : (row : Option KernelRow) → numbered kernels kernel ≡ row → AllByRecursion (λ (k : KernelRow). P k.state) (with_row f kernels kernel row)
    of_row None is = all
    of_row (Some row) is =
        all_set (λ (k : KernelRow). P k.state) kernels (kernel - 1) (record row { state = f row.state })
        (goes row is (all_get (λ (k : KernelRow). P k.state) kernels (kernel - 1) row all (numbered_some kernels kernel row is).0)) all

-- ---- ranges

pub taken_ranged : (who : Who) (state : KernelState) → IsStateInRange state → IsStateInRange (taken_by who state)
taken_ranged who (Event manual signalled) r = tt
taken_ranged who (Semaphore count maximum) r = (omega (arith, r.0), r.1)
taken_ranged who (Mutex owner takings) r = tt
taken_ranged who (Section owner takings) r = tt

pub state_ranged : (how : KernelChange) (state : KernelState) → Suits how state → IsStateInRange state → IsStateInRange (state_after how state)
state_ranged Set (Event manual signalled) suits r = tt
state_ranged Reset (Event manual signalled) suits r = tt
state_ranged (Raise more) (Semaphore count maximum) suits r = (ltb-false maximum (count + more) suits.1, r.1)
state_ranged Leave (Mutex owner takings) suits r = tt
state_ranged Leave (Section owner takings) suits r = tt
state_ranged Set (Semaphore count maximum) suits r = r
state_ranged Set (Mutex owner takings) suits r = r
state_ranged Set (Section owner takings) suits r = r
state_ranged Reset (Semaphore count maximum) suits r = r
state_ranged Reset (Mutex owner takings) suits r = r
state_ranged Reset (Section owner takings) suits r = r
state_ranged (Raise more) (Event manual signalled) suits r = r
state_ranged (Raise more) (Mutex owner takings) suits r = r
state_ranged (Raise more) (Section owner takings) suits r = r
state_ranged Leave (Event manual signalled) suits r = r
state_ranged Leave (Semaphore count maximum) suits r = r
state_ranged (Take who) state suits r = taken_ranged who state r

pub taken_state_ranged : (state : KernelState) → IsStateInRange state → IsStateInRange (taken state)
taken_state_ranged (Event manual signalled) r = tt
taken_state_ranged (Semaphore count maximum) r = (omega (arith, r.0), r.1)
taken_state_ranged (Mutex owner takings) r = tt
taken_state_ranged (Section owner takings) r = tt
