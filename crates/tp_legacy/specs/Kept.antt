-- What is kept between calls.
use Rattle.std.specs.Prelude.{ℕ, ◌<◌, ◌≤◌, All, List, length}
use Rattle.std.specs.List.{AllPairs}
use Rattle.tp_base.specs.Ranges.{AreLimitsInRange}
use Rattle.tp_model.specs.History.{IsLegal}
use Rattle.recorded.specs.Recordings.{world_behind, Recording}
use Rattle.tp_legacy.specs.Legacy.{IsMillis}
use Rattle.tp_legacy.specs.Old.{Old, Stand}
use Rattle.tp_legacy.specs.declared.rows.QueueTimer.{QueueTimer}
use Rattle.tp_legacy.specs.declared.rows.Registration.{Registration}
use Rattle.tp_legacy.specs.declared.rows.TimerQueue.{TimerQueue}

-- the rows, and for how many of each there is room
pub record Stocked : Type 0 where
  pub old : Old
  pub registrations : ℕ
  pub queues : ℕ
  pub timers : ℕ

abbrev pub stand_of : Recording → Stocked → Stand
stand_of r k = record { recording = r; old = k.old }

-- one registration comes before another
abbrev pub IsBefore : Registration → Registration → Type 0
IsBefore a b = a.object.0 < b.object.0

-- the numbers of a row can stand in a call of the machine
pub record IsRegistration (row : Registration) : Type 0 where
  pub object : row.object.0 ≤ 65535
  pub kernel : row.kernel.0 ≤ 65535
  pub millis : IsMillis row.millis

abbrev pub IsQueue : TimerQueue → Type 0
IsQueue row = row.group.0 ≤ 65535

abbrev pub IsTimer : QueueTimer → Type 0
IsTimer row = row.object.0 ≤ 65535

pub record AreRows (registrations : List Registration) (queues : List TimerQueue) (timers : List QueueTimer) : Type 0 where
  pub rising : AllPairs IsBefore registrations
  pub each_registration : All IsRegistration registrations
  pub each_queue : All IsQueue queues
  pub each_timer : All IsTimer timers

-- all of it, with room for what is still to come
pub record IsKept (r : Recording) (k : Stocked) : Type 0 where
  pub legal : IsLegal r.limits r.capacity r.history
  pub limits : AreLimitsInRange r.limits
  -- no registration's object was made behind the last one of the machine
  pub registrations : All (λ (row : Registration). row.object.0 ≤ length (world_behind r).objects) k.old.registrations
  pub few_registrations : length k.old.registrations ≤ length (world_behind r).objects
  pub few_queues : length k.old.queues ≤ length (world_behind r).groups
  pub few_timers : length k.old.timers ≤ length (world_behind r).objects
  pub registrations_fit : r.limits.objects ≤ k.registrations
  pub queues_fit : r.limits.groups ≤ k.queues
  pub timers_fit : r.limits.objects ≤ k.timers
