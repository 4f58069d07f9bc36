-- Where an actor stands after its own entries, and what the machine then gives it.
use Rattle.std.specs.Prelude.{◌≡◌, ℕ, ◌≤◌, Bool, true, false, List, is_some, Option, None, Some}
use Rattle.std.specs.List.{filter, fold}
use Rattle.std.specs.Option.{unwrap_or}
use Rattle.tp_base.specs.Actors.{is_same_actor}
use Rattle.tp_base.specs.declared.answers.Answer.{Answer}
use Rattle.tp_base.specs.declared.answers.Answer.TheVariants as answer
use Rattle.tp_base.specs.declared.answers.Entry.{Entry}
use Rattle.tp_base.specs.declared.answers.Look.{Look}
use Rattle.tp_base.specs.declared.answers.Look.TheVariants as look
use Rattle.tp_base.specs.declared.answers.Outcome.{Outcome}
use Rattle.tp_base.specs.declared.answers.Outcome.TheVariants as outcome
use Rattle.tp_base.specs.declared.calls.Call.{Call}
use Rattle.tp_base.specs.declared.calls.Call.TheVariants.{Attach, BeginAcquire, Detach, End, Finish, Return, Take}
use Rattle.tp_base.specs.declared.ids.RoutineId.{RoutineId}
use Rattle.tp_base.specs.declared.ids.Who.{Who}
use Rattle.tp_base.specs.declared.ids.Who.TheVariants.{Client, Worker}
use Rattle.tp_base.specs.declared.limits.Limits.{Limits}
use Rattle.tp_base.specs.declared.plans.Busy.{Busy}
use Rattle.tp_base.specs.declared.plans.Idle.{Idle}
use Rattle.tp_base.specs.declared.plans.Stage.{Stage}
use Rattle.tp_base.specs.declared.plans.Stage.TheVariants as stage
use Rattle.tp_model.specs.Conditions.{busy_of, idle_of, is_actor, is_attached, is_finished, is_in_wait, runs_callback}
use Rattle.tp_model.specs.History.{after}
use Rattle.tp_model.specs.Laws.Entries.{attached_by, taken_by, words_by}
use Rattle.tp_model.specs.Over.{is_over}
use Rattle.tp_model.specs.Step.{outcome_of}
use Rattle.tp_model.specs.Table.{step}
use Rattle.tp_model.specs.World.{World}

-- ---- stages

-- what an entry does to the stage of its actor
pub data StageStep : Type 0 where
  Same : StageStep
  -- a client finishes
  Finishes : StageStep
  -- a worker joins a pool, and leaves it
  Joins : StageStep
  Leaves : StageStep
  -- it begins a callback of this routine, and returns from it
  Starts : (routine : RoutineId) → StageStep
  Returns : StageStep

abbrev pub done_step : Call → StageStep
done_step Finish = Finishes
done_step Detach = Leaves
done_step _ = Same

abbrev pub attached_step : Call → StageStep
attached_step Attach = Joins
attached_step _ = Same

abbrev pub taken_step : RoutineId → Call → StageStep
taken_step routine Take = Starts routine
taken_step routine _ = Same

abbrev pub returned_step : Call → StageStep
returned_step Return = Returns
returned_step _ = Same

abbrev pub stage_step : Answer → Call → StageStep
stage_step answer.Done made = done_step made
stage_step (answer.Attached pool) made = attached_step made
stage_step (answer.Taken callback object routine context result) made = taken_step routine made
stage_step (answer.Returned section mutex semaphore event first count) made = returned_step made
stage_step _ made = Same

abbrev pub stage_by : Stage → StageStep → Stage
stage_by stage.Playing Finishes = stage.Over
stage_by stage.Away Joins = stage.Idle
stage_by stage.Idle Leaves = stage.Away
stage_by stage.Idle (Starts routine) = stage.Busy routine
stage_by (stage.Busy routine) Returns = stage.Idle
stage_by at _ = at

-- the stage after a call that was made at a stage, and had this answer
abbrev pub stage_after : Stage → Call → Answer → Stage
stage_after at made told = stage_by at (stage_step told made)

-- the call that a client or a routine ends with
abbrev pub is_last_call : Call → Bool
is_last_call Finish = true
is_last_call Return = true
is_last_call _ = false

-- after an actor's entries
abbrev pub stage_from : Stage → List Entry → Stage
stage_from at entries = fold (λ (s : Stage) (entry : Entry). stage_after s entry.call entry.answer) at entries

abbrev pub first_stage : Who → Stage
first_stage (Client number) = stage.Playing
first_stage (Worker number) = stage.Away

-- ---- waits

abbrev pub done_waits : Call → Option Bool
done_waits (BeginAcquire kernel) = Some true
done_waits _ = None

-- whether an entry begins a wait of its actor, or ends it
abbrev pub waits_step : Answer → Call → Option Bool
waits_step (answer.Begun covered cancelled) made = Some true
waits_step (answer.Closing covered cancelled notices) made = Some true
waits_step answer.Done made = done_waits made
waits_step answer.Ended made = Some false
waits_step answer.Exhausted made = Some false
waits_step answer.Stalled made = Some false
waits_step _ made = None

-- whether a wait is begun after a call, by whether one was before it
abbrev pub waits_after : Bool → Call → Answer → Bool
waits_after waits made told = unwrap_or (waits_step told made) waits

abbrev pub waits_from : Bool → List Entry → Bool
waits_from waits entries = fold (λ (b : Bool) (entry : Entry). waits_after b entry.call entry.answer) waits entries

-- ---- in a world

abbrev pub IsActor : Limits → Who → Type 0
IsActor limits (Client number) = (1 ≤ number) × (number ≤ limits.clients)
IsActor limits (Worker number) = (1 ≤ number) × (number ≤ limits.workers)

abbrev pub is_over_stage : Stage → Bool
is_over_stage stage.Over = true
is_over_stage _ = false

-- attached to a pool
abbrev pub is_at_pool : Stage → Bool
is_at_pool stage.Idle = true
is_at_pool (stage.Busy routine) = true
is_at_pool _ = false

abbrev pub is_busy_stage : Stage → Bool
is_busy_stage (stage.Busy routine) = true
is_busy_stage _ = false

-- it may make the calls of a client, or of a routine
abbrev pub is_in_part : Stage → Bool
is_in_part stage.Playing = true
is_in_part (stage.Busy routine) = true
is_in_part _ = false

-- an attached worker that runs nothing
pub record IsIdleIn (w : World) (who : Who) : Type 0 where
  pub by : Idle
  pub is : idle_of w who ≡ Some by

-- a worker that runs a callback of this routine
pub record IsBusyWith (w : World) (who : Who) (routine : RoutineId) : Type 0 where
  pub by : Busy
  pub is : busy_of w who ≡ Some by
  pub routine_is : by.callback.routine ≡ routine

-- what the conditions of refusals find of an actor at a stage, with a wait begun or not
pub record IsAtStage (w : World) (who : Who) (at : Stage) (waits : Bool) : Type 0 where
  pub actor : is_actor w who ≡ true
  pub finished : is_finished w who ≡ is_over_stage at
  pub attached : is_attached w who ≡ is_at_pool at
  pub runs : runs_callback w who ≡ is_busy_stage at
  pub idle : at ≡ stage.Idle → IsIdleIn w who
  pub busy : (routine : RoutineId) → at ≡ stage.Busy routine → IsBusyWith w who routine
  pub wait : is_in_wait w who ≡ waits

-- ---- behind a history

-- the entries of an actor, in their order
abbrev pub own : Who → List Entry → List Entry
own who history = filter (λ entry. is_same_actor entry.who who) history

-- its stage, and whether it has a wait begun, as its own entries tell
abbrev pub stage_of : Who → List Entry → Stage
stage_of who history = stage_from (first_stage who) (own who history)

abbrev pub waits_of : Who → List Entry → Bool
waits_of who history = waits_from false (own who history)

-- what a call comes to behind a history, in a room
abbrev pub comes_to : Limits → List Entry → ℕ → Who → Call → Outcome
comes_to limits history left who made = outcome_of (step (after limits history) left who made)

abbrev pub is_return : Outcome → Bool
is_return (outcome.Done told) = is_some (words_by told)
is_return _ = false

abbrev pub is_wait_answer : Answer → Bool
is_wait_answer (answer.Notice object routine context cleanup) = true
is_wait_answer answer.Ended = true
is_wait_answer answer.Exhausted = true
is_wait_answer answer.Stalled = true
is_wait_answer _ = false

abbrev pub is_wait_look : Look → Bool
is_wait_look (look.NotYet callback) = true
is_wait_look (look.NotYetKernel kernel) = true
is_wait_look _ = false

-- a wait gives a notice or ends, or goes on
abbrev pub is_wait_outcome : Outcome → Bool
is_wait_outcome (outcome.Done told) = is_wait_answer told
is_wait_outcome (outcome.Look look) = is_wait_look look
is_wait_outcome (outcome.Full room cost) = false

-- What the machine gives an actor behind a legal history, by the actor's own entries of it. It is the same in every room.
pub record MachineFacts (limits : Limits) (history : List Entry) : Type 0 where
  -- the world has the actor where its entries say
  pub stands : (who : Who) → IsActor limits who → IsAtStage (after limits history) who (stage_of who history) (waits_of who history)
  -- only a client that plays, or a worker in a callback, has a wait begun
  pub calm : (who : Who) → IsActor limits who → waits_of who history ≡ true → is_in_part (stage_of who history) ≡ true
  -- a client may always finish and a callback return, but in a wait
  pub finishes : (who : Who) → IsActor limits who → stage_of who history ≡ stage.Playing → waits_of who history ≡ false → (left : ℕ) → comes_to limits history left who Finish ≡ outcome.Done answer.Done
  pub returns : (who : Who) (routine : RoutineId) → IsActor limits who → stage_of who history ≡ stage.Busy routine → waits_of who history ≡ false → (left : ℕ) → is_return (comes_to limits history left who Return) ≡ true
  -- the end of a wait that is begun is neither refused nor Full
  pub ends : (who : Who) → IsActor limits who → waits_of who history ≡ true → (left : ℕ) → is_wait_outcome (comes_to limits history left who End) ≡ true
  -- a worker that joins a pool, takes a callback or leaves is not refused
  pub attaches : (who : Who) → IsActor limits who → stage_of who history ≡ stage.Away → (left : ℕ) (told : Answer) → comes_to limits history left who Attach ≡ outcome.Done told → is_some (attached_by told) ≡ true
  pub takes : (who : Who) → IsActor limits who → stage_of who history ≡ stage.Idle → (left : ℕ) (told : Answer) → comes_to limits history left who Take ≡ outcome.Done told → is_some (taken_by told) ≡ true
  pub leaves : (who : Who) → IsActor limits who → stage_of who history ≡ stage.Idle → (left : ℕ) (told : Answer) → comes_to limits history left who Detach ≡ outcome.Done told → told ≡ answer.Done
  -- where all is over, each client has finished, and no worker runs a callback
  pub over_clients : (left : ℕ) → is_over (after limits history) left ≡ true → (number : ℕ) → IsActor limits (Client number) → stage_of (Client number) history ≡ stage.Over
  pub over_workers : (left : ℕ) → is_over (after limits history) left ≡ true → (number : ℕ) → IsActor limits (Worker number) → is_busy_stage (stage_of (Worker number) history) ≡ false
