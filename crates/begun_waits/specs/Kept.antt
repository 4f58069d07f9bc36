-- What begun waits keep between calls.
use Rattle.std.specs.Prelude.{◌≡◌, ℕ, ◌+◌, true, List, drop, filter, length, get_or, Option, None, Some, is_some, option_map}
use Rattle.std.specs.List.{AllByRecursion}
use Rattle.tp_base.specs.declared.ids.Who.{Who}
use Rattle.tp_base.specs.declared.limits.Limits.{Limits}
use Rattle.tp_base.specs.Ranges.{AreLimitsInRange}
use Rattle.tp_base.specs.declared.rows.WaitTarget.{WaitTarget}
use Rattle.tp_base.specs.declared.rows.WaitTarget.TheVariants.{Object, Group, Kernel}
use Rattle.tp_model.specs.World.{BegunWait}
use Rattle.begun_waits.specs.declared.Closing.{Closing}
use Rattle.begun_waits.specs.declared.Purpose.{Purpose}
use Rattle.begun_waits.specs.Begun.{notices_by, place_of, wait_among}
use Rattle.begun_waits.specs.Notices.{Told, told_at}

-- an actor of the machine waits
abbrev pub IsOfActor : Limits → BegunWait → Type 0
IsOfActor limits b = is_some (place_of limits b.actor) ≡ true

abbrev pub purpose_of : BegunWait → Purpose
purpose_of b = record { target = b.target; cleanup = b.cleanup }

-- which group a wait for this closes
abbrev pub closing_in : WaitTarget → ℕ → Option Closing
closing_in (Group group) cleanup = Some (record { group = group; context = cleanup })
closing_in (Object object) cleanup = None
closing_in (Kernel kernel) cleanup = None

abbrev pub closing_for : Option Purpose → Option Closing
closing_for None = None
closing_for (Some purpose) = closing_in purpose.target purpose.cleanup

-- how many of the places from this one on are for a wait
abbrev pub waiting_from : ℕ → List (Option Purpose) → ℕ
waiting_from first purposes = length (filter is_some (drop first purposes))

-- at each actor's place stands what the actor's wait is for, if one is begun, and of which objects it still has
-- notices; and those of workers are counted
pub record AreKept (limits : Limits) (purposes : List (Option Purpose)) (notices : Told) (waits : List BegunWait) (waiting : ℕ) : Type 0 where
  pub in_range : AreLimitsInRange limits
  pub actors : AllByRecursion (IsOfActor limits) waits
  pub places : length purposes ≡ limits.clients + limits.workers
  pub lists : length notices.lists ≡ limits.clients + limits.workers
  pub objects : notices.objects ≡ limits.objects
  pub counted : waiting ≡ waiting_from limits.clients purposes
  pub purposed : (who : Who) (place : ℕ) → place_of limits who ≡ Some place → get_or purposes place None ≡ option_map purpose_of (wait_among waits who)
  pub noticed : (who : Who) (place : ℕ) → place_of limits who ≡ Some place → told_at notices place ≡ notices_by (wait_among waits who)
