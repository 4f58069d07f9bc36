-- A world: all that the machine is at one moment, as plain lists.
use Rattle.std.specs.Prelude.{ℕ, List, [], ◌∷◌, replicate, false, None}
use Rattle.tp_base.specs.declared.ids.Who.{Who}
use Rattle.tp_base.specs.declared.ids.ObjectId.{ObjectId}
use Rattle.tp_base.specs.declared.limits.Limits.{Limits}
use Rattle.tp_base.specs.declared.rows.PoolRow.{PoolRow}
use Rattle.tp_base.specs.declared.rows.GroupRow.{GroupRow}
use Rattle.tp_base.specs.declared.rows.ObjectRow.{ObjectRow}
use Rattle.tp_base.specs.declared.rows.CallbackRow.{CallbackRow}
use Rattle.tp_base.specs.declared.rows.KernelRow.{KernelRow}
use Rattle.tp_base.specs.declared.rows.TimerSetting.{TimerSetting}
use Rattle.tp_base.specs.declared.rows.Arming.{Arming}
use Rattle.tp_base.specs.declared.rows.WorkerRow.{WorkerRow}
use Rattle.tp_base.specs.declared.rows.ClientRow.{ClientRow}
use Rattle.tp_base.specs.declared.rows.WaitTarget.{WaitTarget}

-- a wait that an actor has begun: for what, for which callbacks, and which objects' notices it still has to give
pub record BegunWait : Type 0 where
  pub actor : Who
  pub target : WaitTarget
  pub covered : List ℕ
  pub notices : List ObjectId
  pub cleanup : ℕ

-- Pools stand by number from 0, all else by number from 1. Every callback ever made has its row.
pub record World : Type 0 where
  pub limits : Limits
  pub pools : List PoolRow
  pub groups : List GroupRow
  pub objects : List ObjectRow
  pub callbacks : List CallbackRow
  pub kernels : List KernelRow
  -- of timers, and the timeouts of armed waits, in the order in which they expire
  pub settings : List TimerSetting
  -- in order of arming
  pub armings : List Arming
  pub workers : List WorkerRow
  pub clients : List ClientRow
  pub waits : List BegunWait
  pub now : ℕ
  -- the notices that waits never gave, because the machine was stalled
  pub given_up : ℕ

-- the default pool has no minimum, and as many callbacks may run in it as there are workers
abbrev pub new_pool : Limits → PoolRow
new_pool limits = record { minimum = 0; maximum = limits.workers; closed = false }

abbrev pub unattached : WorkerRow
unattached = record { pool = None; callback = None; persistent = false }

abbrev pub unfinished : ClientRow
unfinished = record { finished = false }

-- the world before the first call
abbrev pub opening : Limits → World
opening limits = record {
  limits = limits;
  pools = new_pool limits ∷ [];
  groups = [];
  objects = [];
  callbacks = [];
  kernels = [];
  settings = [];
  armings = [];
  workers = replicate limits.workers unattached;
  clients = replicate limits.clients unfinished;
  waits = [];
  now = 0;
  given_up = 0;
}
