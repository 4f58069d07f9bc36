-- What the callbacks that live keep between calls: each list says of the rows what it is for.
use Rattle.std.specs.Prelude.{◌≡◌, ℕ, length}
use Rattle.std.specs.List.{AllByRecursion, filter}
use Rattle.tp_base.specs.declared.rows.CallbackRow.{CallbackRow}
use Rattle.tp_model.specs.Counts.{is_operating}
use Rattle.tp_model.specs.Support.Sound.{IsRising}
use Rattle.live_callbacks.specs.Callbacks.{is_waiting_persistent}
use Rattle.live_callbacks.specs.Families.{StandIn}
use Rattle.live_callbacks.specs.Held.{rows_of}
use Rattle.live_callbacks.specs.Lists.{IsAtHome}
use Rattle.live_callbacks.specs.declared.LiveCallbacks.TheInside.{Inside}

pub record IsKept (a : Inside) : Type 0 where
  pub rising : (above : ℕ) × IsRising 0 above (rows_of a.rows.held)
  pub homes : AllByRecursion (IsAtHome a.lists.pools a.lists.objects) (rows_of a.rows.held)
  pub standing : StandIn a.rows.places a.rows.held a.lists
  pub counted : a.operating ≡ length (filter (λ (c : CallbackRow). is_operating c.status) (rows_of a.rows.held))
  pub counted_persistent : a.persistent ≡ length (filter is_waiting_persistent (rows_of a.rows.held))
