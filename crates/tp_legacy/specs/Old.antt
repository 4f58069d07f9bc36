-- What stands beside a machine for a program of the pool before Vista.
use Rattle.std.specs.Prelude.{List}
use Rattle.recorded.specs.Recordings.{Recording}
use Rattle.tp_legacy.specs.declared.rows.QueueTimer.{QueueTimer}
use Rattle.tp_legacy.specs.declared.rows.Registration.{Registration}
use Rattle.tp_legacy.specs.declared.rows.TimerQueue.{TimerQueue}

-- each numbered from 1 on in the order of making
pub record Old : Type 0 where
  pub registrations : List Registration
  pub queues : List TimerQueue
  pub timers : List QueueTimer

-- a machine and what stands beside it
pub record Stand : Type 0 where
  pub recording : Recording
  pub old : Old
