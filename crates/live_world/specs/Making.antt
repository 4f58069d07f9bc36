-- Callbacks that are made one after another, of what fires.
use Rattle.std.specs.Prelude.{◌≡◌, ℕ, ◌+◌, ◌<◌, ◌≤◌, List, ◌++◌, length}
use Rattle.std.specs.List.{AllByRecursion}
use Rattle.tp_base.specs.declared.ids.ObjectId.{ObjectId}
use Rattle.tp_base.specs.declared.rows.CallbackRow.{CallbackRow}
use Rattle.tp_base.specs.declared.rows.ObjectRow.{ObjectRow}
use Rattle.live_callbacks.specs.Callbacks.{Callbacks}
use Rattle.sources.specs.Rows.{SourceRows, with_sources}
use Rattle.tp_model.specs.Sources.{Firing, Job, object_row, rows_of}
use Rattle.tp_model.specs.Support.Sound.{IsMade}

-- the object was made, and so was its pool
pub record IsUsable (callbacks : Callbacks) (objects : List ObjectRow) (object : ObjectId) : Type 0 where
  pub made : IsMade (length objects) object.0
  pub known : object.0 ≤ callbacks.objects
  pub pool : (object_row objects object).env.pool.0 < callbacks.pools

-- from this number on a callback can be made of each job: no callback has a higher number, and there is a slot for each
pub record CanMake (callbacks : Callbacks) (objects : List ObjectRow) (number : ℕ) (jobs : List Job) : Type 0 where
  pub room : length callbacks.rows + length jobs ≤ callbacks.slots
  pub last : AllByRecursion (λ (c : CallbackRow). c.number < number) callbacks.rows
  pub usable : AllByRecursion (λ (j : Job). IsUsable callbacks objects j.object) jobs

abbrev pub with_jobs : Callbacks → List ObjectRow → ℕ → List Job → Callbacks
with_jobs callbacks objects number jobs = record callbacks { rows = callbacks.rows ++ rows_of objects number jobs }

-- the sources and the callbacks are after this firing, and so many callbacks were made
pub record IsFired (f : Firing) (objects : List ObjectRow) (made count : ℕ) (s t : SourceRows) (c d : Callbacks) : Type 0 where
  pub sources : t ≡ with_sources s f.sources
  pub callbacks : d ≡ with_jobs c objects (made + 1) f.jobs
  pub number : count ≡ made + length f.jobs
