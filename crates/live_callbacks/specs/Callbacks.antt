-- The callbacks that live: what a contract sees of `LiveCallbacks`, and which of them it asks for.
use Rattle.std.specs.Prelude.{◌≡◌, ℕ, ◌&&◌, ◌||◌, Bool, true, not, List, ◌++◌}
use Rattle.std.specs.List.{filter}
use Rattle.tp_base.specs.declared.calls.Priority.{Priority}
use Rattle.tp_base.specs.declared.ids.ObjectId.{ObjectId}
use Rattle.tp_base.specs.declared.rows.CallbackRow.{CallbackRow}
use Rattle.tp_base.specs.declared.rows.WaitTarget.TheVariants.{Object}
use Rattle.tp_model.specs.Counts.{is_expected, is_high, is_low, is_normal, is_operating, is_pending, is_pending_in}
use Rattle.tp_model.specs.Waits.{is_held_for, is_outstanding_for}

-- how many there may be, how many pools they may be of, the greatest number of their objects, and their rows
pub record Callbacks : Type 0 where
  pub slots : ℕ
  pub pools : ℕ
  pub objects : ℕ
  pub rows : List CallbackRow

-- a pending callback of the pool, among those that aren't persistent or among all
abbrev pub is_open : ℕ → Bool → CallbackRow → Bool
is_open pool all c = is_pending_in pool c && (not c.persistent || all)

-- of a priority that passes the test
abbrev pub is_waiting : ℕ → Bool → (Priority → Bool) → CallbackRow → Bool
is_waiting pool all test c = is_open pool all c && test c.priority

-- these callbacks of a pool in the order in which they are taken
abbrev pub queue_among : List CallbackRow → ℕ → Bool → List CallbackRow
queue_among rows pool all = filter (is_waiting pool all is_high) rows ++ filter (is_waiting pool all is_normal) rows ++ filter (is_waiting pool all is_low) rows

-- a persistent callback that waits for a worker
abbrev pub is_waiting_persistent : CallbackRow → Bool
is_waiting_persistent c = is_pending c.status && c.persistent

-- the callback is outstanding for its object; simple callbacks are of object 0
abbrev pub is_tied : CallbackRow → Bool
is_tied c = is_held_for (Object c.object) c.status

-- what is outstanding for an object, by rising number
abbrev pub outstanding_among : List CallbackRow → ObjectId → List CallbackRow
outstanding_among rows object = filter (is_outstanding_for (Object object)) rows

-- a callback stays what it is, and what it is for its object it was before
pub record MovesOn (before after : CallbackRow) : Type 0 where
  pub number : after.number ≡ before.number
  pub object : after.object ≡ before.object
  pub pool : after.pool ≡ before.pool
  pub group : after.group ≡ before.group
  pub priority : after.priority ≡ before.priority
  pub persistent : after.persistent ≡ before.persistent
  pub outstanding : is_tied after ≡ true → is_tied before ≡ true
  pub expected : is_expected after.status ≡ true → is_expected before.status ≡ true
  pub operating : is_operating after.status ≡ true → is_operating before.status ≡ true
