-- Waits for callbacks: WaitForThreadpoolWorkCallbacks and its like for the other kinds; and for kernel objects:
-- WaitForSingleObject and EnterCriticalSection. BeginWait and BeginAcquire are the entry of the function, and End its
-- return, which also asks whether the machine is stalled.
use Rattle.std.specs.Prelude.{ℕ, Bool, true, false, not, ◌||◌, ◌&&◌, ◌==◌, nat_lt, List, [], ◌∷◌, ◌++◌, length, if◌then◌else◌, Option, None, Some}
use Rattle.std.specs.List.{filter, list_any}
use Rattle.std.specs.Option.{option_map_or}
use Rattle.tp_base.specs.declared.ids.Who.{Who}
use Rattle.tp_base.specs.declared.ids.KernelId.{KernelId}
use Rattle.tp_base.specs.declared.ids.ObjectId.{ObjectId}
use Rattle.tp_base.specs.declared.calls.Kind.{Kind}
use Rattle.tp_base.specs.declared.answers.Refusal.{Refusal}
use Rattle.tp_base.specs.declared.answers.Refusal.TheVariants.{NoSuch, Released, NotRunning, InWait, NoWaitBegun, OwnCallback}
use Rattle.tp_base.specs.declared.answers.Answer.{Answer}
use Rattle.tp_base.specs.declared.answers.Answer.TheVariants as answer
use Rattle.tp_base.specs.declared.answers.Look.TheVariants as look
use Rattle.tp_base.specs.declared.plans.Awaited.TheVariants as awaited
use Rattle.tp_base.specs.declared.plans.KernelChange.TheVariants.{Take}
use Rattle.tp_base.specs.declared.plans.WaitEnd.TheVariants.{Free, Exhausted}
use Rattle.tp_base.specs.declared.plans.Plan.{Plan}
use Rattle.tp_base.specs.declared.plans.Plan.TheVariants.{Refused, Looked, Does}
use Rattle.tp_base.specs.declared.plans.Change.TheVariants as change
use Rattle.tp_base.specs.declared.rows.WaitTarget.{WaitTarget}
use Rattle.tp_base.specs.declared.rows.WaitTarget.TheVariants.{Object, Group, Kernel}
use Rattle.tp_base.specs.declared.rows.ObjectRow.{ObjectRow}
use Rattle.tp_base.specs.declared.rows.CallbackRow.{CallbackRow}
use Rattle.tp_model.specs.World.{World, BegunWait}
use Rattle.tp_model.specs.Counts.{attached, callback_of, is_pending}
use Rattle.tp_model.specs.Conditions.{is_actor, is_finished, is_without_callback, is_in_wait, runs_own}
use Rattle.tp_base.specs.Kernels.{may_take}
use Rattle.tp_model.specs.Kernels.{is_kernel, is_kernel_that}
use Rattle.tp_model.specs.Waits.{is_cancelled_by, cancel_where, covered_of, held}
use Rattle.tp_model.specs.Sources.{object_row}
use Rattle.tp_model.specs.Refusing.{first_refusal, unless_refused, object_refusals}

-- ---- BeginWait

abbrev pub begin_wait_refusals : World → Who → Kind → ℕ → List (Bool × Refusal)
begin_wait_refusals w who kind object = object_refusals w who kind object ++ (runs_own w who object, OwnCallback) ∷ []

-- how many callbacks the wait covers, and how many it cancels
abbrev pub count_covered : World → WaitTarget → Bool → ℕ
count_covered w target cancel = length (covered_of target cancel (cancel_where (is_cancelled_by target cancel) w.callbacks))

abbrev pub count_cancelled_by : World → WaitTarget → Bool → ℕ
count_cancelled_by w target cancel = length (filter (is_cancelled_by target cancel) w.callbacks)

unfoldable pub begin_wait_plan : World → Who → Kind → ObjectId → Bool → Plan
begin_wait_plan w who kind object cancel =
    unless_refused (first_refusal (begin_wait_refusals w who kind object.0))
    (Does (answer.Begun (count_covered w (Object object) cancel) (count_cancelled_by w (Object object) cancel)) (change.BeginWait who (awaited.Object object) cancel))

-- ---- BeginAcquire

abbrev pub begin_acquire_refusals : World → Who → ℕ → List (Bool × Refusal)
begin_acquire_refusals w who kernel =
    (not (is_actor w who) || not (is_kernel w kernel), NoSuch)
    ∷ (is_finished w who, Released)
    ∷ (is_without_callback w who, NotRunning)
    ∷ (is_in_wait w who, InWait)
    ∷ []

unfoldable pub begin_acquire_plan : World → Who → KernelId → Plan
begin_acquire_plan w who kernel =
    unless_refused (first_refusal (begin_acquire_refusals w who kernel.0)) (Does answer.Done (change.BeginWait who (awaited.Kernel kernel) false))

-- ---- TryAcquire: WaitForSingleObject with a time of 0, and TryEnterCriticalSection

-- the kernel object is taken, if the actor may take it now
abbrev pub try_acquire : World → Who → KernelId → Plan
try_acquire w who kernel =
    if is_kernel_that (may_take who) w kernel.0
    then Does (answer.Flag true) (change.ChangeKernel kernel (Take who))
    else Does (answer.Flag false) change.Keep

unfoldable pub try_acquire_plan : World → Who → KernelId → Plan
try_acquire_plan w who kernel = unless_refused (first_refusal (begin_acquire_refusals w who kernel.0)) (try_acquire w who kernel)

-- ---- End, but for the machine being stalled

-- the callback is pending, and the history has no room for it to be run: for a take and, where no worker is attached to
-- its pool, for the attach before it
abbrev pub is_starved : World → ℕ → CallbackRow → Bool
is_starved w room c = is_pending c.status && (nat_lt room 2 || (nat_lt room 4 && (attached w c.pool.0 == 0)))

abbrev pub holds_starved : World → ℕ → List ℕ → Bool
holds_starved w room numbers = list_any (λ n. option_map_or (is_starved w room) (callback_of w n) false) numbers

-- a notice tells the cancel routine and the context that the object was made with
abbrev pub notice_of : List ObjectRow → ℕ → ObjectId → Answer
notice_of objects cleanup object = answer.Notice object (object_row objects object).env.cancel (object_row objects object).context cleanup

-- the first notice that is left is given, and with none the wait ends
abbrev pub end_notices : World → Who → ℕ → List ObjectId → Plan
end_notices w who cleanup [] = Does answer.Ended (change.EndWait who Free)
end_notices w who cleanup (object ∷ objects) = Does (notice_of w.objects cleanup object) (change.GiveNotice who)

abbrev pub end_held : World → ℕ → Who → BegunWait → List ℕ → Plan
end_held w room who b [] = end_notices w who b.cleanup b.notices
end_held w room who b (number ∷ numbers) =
    if holds_starved w room (number ∷ numbers)
    then Does answer.Exhausted (change.EndWait who Exhausted)
    else Looked (look.NotYet number)

-- the kernel object is taken, as soon as the actor may take it
abbrev pub end_acquire : World → Who → KernelId → Plan
end_acquire w who kernel =
    if is_kernel_that (may_take who) w kernel.0 then Does answer.Ended (change.EndWait who Free) else Looked (look.NotYetKernel kernel)

abbrev pub end_for : World → ℕ → Who → BegunWait → WaitTarget → Plan
end_for w room who b (Object object) = end_held w room who b (held w b)
end_for w room who b (Group group) = end_held w room who b (held w b)
end_for w room who b (Kernel kernel) = end_acquire w who kernel

abbrev pub end_wait : World → ℕ → Who → Option BegunWait → Plan
end_wait w room who None = Refused NoWaitBegun
end_wait w room who (Some b) = end_for w room who b b.target
