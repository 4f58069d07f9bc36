-- Where the rows of a world have an actor, and how a change moves it: what ties the stages that entries tell to the world.
use Rattle.std.specs.Prelude.{◌≡◌, ℕ, ◌+◌, Bool, true, List, length, if◌then◌else◌, Option, None, Some, option_map}
use Rattle.std.specs.List.{find}
use Rattle.std.specs.Option.{unwrap_or}
use Rattle.tp_base.specs.Actors.{is_same_actor}
use Rattle.tp_base.specs.declared.answers.Entry.{Entry}
use Rattle.tp_base.specs.declared.ids.PoolId.{PoolId}
use Rattle.tp_base.specs.declared.ids.RoutineId.{RoutineId}
use Rattle.tp_base.specs.declared.ids.Who.{Who}
use Rattle.tp_base.specs.declared.ids.Who.TheVariants.{Client, Worker}
use Rattle.tp_base.specs.declared.limits.Limits.{Limits}
use Rattle.tp_base.specs.declared.plans.Stage.{Stage}
use Rattle.tp_base.specs.declared.plans.Stage.TheVariants as stage
use Rattle.tp_base.specs.declared.rows.CallbackRow.{CallbackRow}
use Rattle.tp_base.specs.declared.rows.ClientRow.{ClientRow}
use Rattle.tp_base.specs.declared.rows.WorkerRow.{WorkerRow}
use Rattle.tp_model.specs.Conditions.{is_in_wait}
use Rattle.tp_model.specs.Counts.{has_number, numbered}
use Rattle.tp_model.specs.Stages.{IsActor, StageStep, is_in_part, stage_by, stage_of, waits_of}
use Rattle.tp_model.specs.Support.Sound.{IsSound}
use Rattle.tp_model.specs.World.{World}

abbrev pub client_stage : ClientRow → Stage
client_stage r = if r.finished then stage.Over else stage.Playing

-- the routine of the callback of a number
abbrev pub routine_at : List CallbackRow → ℕ → Option RoutineId
routine_at callbacks number = option_map (λ (c : CallbackRow). c.routine) (find (has_number number) callbacks)

abbrev pub worker_stage : List CallbackRow → Option PoolId → Option ℕ → Option Stage
worker_stage callbacks None None = Some stage.Away
worker_stage callbacks None (Some number) = None
worker_stage callbacks (Some pool) None = Some stage.Idle
worker_stage callbacks (Some pool) (Some number) = option_map (λ (routine : RoutineId). stage.Busy routine) (routine_at callbacks number)

abbrev pub stage_at : List CallbackRow → Option WorkerRow → Option Stage
stage_at callbacks None = None
stage_at callbacks (Some row) = worker_stage callbacks row.pool row.callback

-- the stage of an actor, read off the rows
abbrev pub stage_in : World → Who → Option Stage
stage_in w (Client number) = option_map client_stage (numbered w.clients number)
stage_in w (Worker number) = stage_at w.callbacks (numbered w.workers number)

-- ---- a change by an actor

abbrev pub moved_stage : Bool → StageStep → Option Stage → Option Stage
moved_stage own move at = option_map (λ (s : Stage). if own then stage_by s move else s) at

abbrev pub moved_wait : Bool → Option Bool → Bool → Bool
moved_wait own waiting waits = if own then unwrap_or waiting waits else waits

-- the actor goes the step, and begins a wait or ends it; nobody else does
pub record Moved (w : World) (actor : Who) (move : StageStep) (waiting : Option Bool) (after : World) : Type 0 where
  pub stages : (who : Who) → stage_in after who ≡ moved_stage (is_same_actor actor who) move (stage_in w who)
  pub waits : (who : Who) → is_in_wait after who ≡ moved_wait (is_same_actor actor who) waiting (is_in_wait w who)

-- ---- behind a history

-- a world has each actor where the entries before it say
pub record AreStanding (limits : Limits) (before : List Entry) (w : World) : Type 0 where
  pub sound : IsSound (length w.callbacks + 1) w
  pub stages : (who : Who) → IsActor limits who → stage_in w who ≡ Some (stage_of who before)
  pub waits : (who : Who) → is_in_wait w who ≡ waits_of who before
  pub calm : (who : Who) → IsActor limits who → waits_of who before ≡ true → is_in_part (stage_of who before) ≡ true
