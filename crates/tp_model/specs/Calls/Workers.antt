-- Calls of workers: they join a pool that needs one, take its callbacks, return from them, and leave. The functions of
-- the thread pool do this behind the program's back.
use Rattle.std.specs.Prelude.{ℕ, Bool, not, ◌||◌, ◌&&◌, ◌==◌, nat_lt, nat_le, is_some, List, [], ◌∷◌, length, if◌then◌else◌, Option, None, Some}
use Rattle.std.specs.Option.{option_or}
use Rattle.tp_base.specs.declared.ids.Who.{Who}
use Rattle.tp_base.specs.declared.ids.Who.TheVariants.{Worker}
use Rattle.tp_base.specs.declared.answers.Refusal.{Refusal}
use Rattle.tp_base.specs.declared.answers.Refusal.TheVariants.{NoSuch, Released, NotWorker, NotRunning, StillRunning, InWait, NotAttached, AlreadyAttached}
use Rattle.tp_base.specs.declared.answers.Answer.TheVariants as answer
use Rattle.tp_base.specs.declared.answers.Look.TheVariants as look
use Rattle.tp_base.specs.declared.plans.Idle.{Idle}
use Rattle.tp_base.specs.declared.plans.Busy.{Busy}
use Rattle.tp_base.specs.declared.plans.ActionWords.{ActionWords}
use Rattle.tp_base.specs.declared.plans.Plan.{Plan}
use Rattle.tp_base.specs.declared.plans.Plan.TheVariants.{Refused, Looked, Does}
use Rattle.tp_base.specs.declared.plans.Change.TheVariants as change
use Rattle.tp_base.specs.declared.rows.CallbackRow.{CallbackRow}
use Rattle.tp_model.specs.World.{World}
use Rattle.tp_model.specs.Actions.{slots_of, words_of, returning}
use Rattle.tp_model.specs.Calls.Timers.{first_of}
use Rattle.tp_model.specs.Counts.{attached, available, is_below_minimum, is_in_need, least_pool, maximum, minimum, next, running, takeable}
use Rattle.tp_model.specs.Conditions.{is_worker, is_actor, is_finished, is_attached, is_closed_pool, is_in_wait, runs_callback, idle_of, busy_of}
use Rattle.tp_model.specs.Refusing.{first_refusal, unless_refused}

-- ---- Attach: a worker joins a pool

abbrev pub attach_refusals : World → Who → List (Bool × Refusal)
attach_refusals w who =
    (not (is_actor w who), NoSuch)
    ∷ (is_finished w who, Released)
    ∷ (not (is_worker who), NotWorker)
    ∷ (runs_callback w who, StillRunning)
    ∷ (is_attached w who, AlreadyAttached)
    ∷ []

-- the least pool in need, and else the least one below its minimum
abbrev pub pool_to_join : World → Option ℕ
pool_to_join w = option_or (least_pool w (is_in_need w)) (least_pool w (is_below_minimum w))

abbrev pub attach_to : Who → Option ℕ → Plan
attach_to (Worker number) (Some pool) = Does (answer.Attached (record { 0 = pool })) (change.Attach number (record { 0 = pool }))
attach_to _ _ = Looked look.NoNeed

unfoldable pub attach_plan : World → Who → Plan
attach_plan w who = unless_refused (first_refusal (attach_refusals w who)) (attach_to who (pool_to_join w))

-- ---- Detach: a worker leaves its pool

-- of a worker that must be attached and run nothing
abbrev pub idle_refusals : World → Who → List (Bool × Refusal)
idle_refusals w who =
    (not (is_actor w who), NoSuch)
    ∷ (is_finished w who, Released)
    ∷ (not (is_worker who), NotWorker)
    ∷ (runs_callback w who, StillRunning)
    ∷ (not (is_attached w who), NotAttached)
    ∷ []

-- some pool but this one is in need
abbrev pub another_in_need : World → ℕ → Bool
another_in_need w pool = is_some (least_pool w (λ other. not (other == pool) && is_in_need w other))

-- it isn't the persistent worker of a pool that isn't closed
abbrev pub is_let_go : World → Idle → Bool
is_let_go w by = not by.persistent || is_closed_pool w by.pool.0

-- it is let go, and its pool has more workers than its maximum, or nothing that the worker may take, and then more workers
-- than its minimum, or another pool needs the worker
abbrev pub may_leave : World → Idle → Bool
may_leave w by =
    is_let_go w by
    && (nat_lt (maximum w by.pool.0) (attached w by.pool.0)
    || ((takeable w by.pool.0 by.persistent == 0) && (nat_lt (minimum w by.pool.0) (available w by.pool.0) || another_in_need w by.pool.0)))

abbrev pub detach : World → Option Idle → Plan
detach w None = Refused NotAttached
detach w (Some by) = if may_leave w by then Does answer.Done (change.Detach by) else Looked look.Stay

unfoldable pub detach_plan : World → Who → Plan
detach_plan w who = unless_refused (first_refusal (idle_refusals w who)) (detach w (idle_of w who))

-- ---- Take: a worker begins the next callback of its pool that it may take

abbrev pub take_callback : World → Idle → Option CallbackRow → Plan
take_callback w by None = Looked look.Empty
take_callback w by (Some c) =
    if nat_le (maximum w by.pool.0) (running w by.pool.0)
    then Looked (look.AtMaximum (running w by.pool.0))
    else Does (answer.Taken c.number c.object c.routine c.context c.result) (change.Take by c)

abbrev pub take : World → Option Idle → Plan
take w None = Refused NotAttached
take w (Some by) = take_callback w by (next w by.pool.0 by.persistent)

unfoldable pub take_plan : World → Who → Plan
take_plan w who = unless_refused (first_refusal (idle_refusals w who)) (take w (idle_of w who))

-- ---- Return: a worker's callback returns

abbrev pub return_refusals : World → Who → List (Bool × Refusal)
return_refusals w who =
    (not (is_actor w who), NoSuch)
    ∷ (is_finished w who, Released)
    ∷ (not (is_worker who), NotWorker)
    ∷ (not (runs_callback w who), NotRunning)
    ∷ (is_in_wait w who, InWait)
    ∷ []

-- its actions on return are performed, those of locks where the worker owns them, and that of a semaphore where its count
-- stays within its maximum
abbrev pub return_with : ℕ → Busy → ActionWords → ℕ → Plan
return_with next_number by words count = Does (answer.Returned words.section words.mutex words.semaphore words.event (first_of next_number count) count) (change.Return by words next_number count)

abbrev pub return_from : World → ℕ → Busy → ActionWords → Plan
return_from w next_number by words = return_with next_number by words (length (returning w words (slots_of by.callback.status)).jobs)

abbrev pub return : World → ℕ → Who → Option Busy → Plan
return w next_number who None = Refused NotRunning
return w next_number who (Some by) = return_from w next_number by (words_of w who (slots_of by.callback.status))

unfoldable pub return_plan : World → ℕ → Who → Plan
return_plan w next_number who = unless_refused (first_refusal (return_refusals w who)) (return w next_number who (busy_of w who))
