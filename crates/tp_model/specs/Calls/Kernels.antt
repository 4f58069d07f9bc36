-- Calls on events, semaphores, mutexes and critical sections: CreateEvent, CreateSemaphore, CreateMutex and
-- InitializeCriticalSection, SetEvent, ResetEvent, ReleaseSemaphore, ReleaseMutex and LeaveCriticalSection. To take one,
-- an actor begins a wait for it.
use Rattle.std.specs.Prelude.{ℕ, ◌+◌, Bool, not, ◌||◌, ◌==◌, nat_lt, List, [], ◌∷◌, length}
use Rattle.tp_base.specs.declared.ids.Who.{Who}
use Rattle.tp_base.specs.declared.ids.KernelId.{KernelId}
use Rattle.tp_base.specs.declared.calls.Lock.{Lock}
use Rattle.tp_base.specs.declared.answers.Refusal.{Refusal}
use Rattle.tp_base.specs.declared.answers.Refusal.TheVariants.{NoSuch, WrongKind, Released, NotRunning, InWait, NotOwner, OverMaximum}
use Rattle.tp_base.specs.declared.answers.Answer.{Answer}
use Rattle.tp_base.specs.declared.answers.Answer.TheVariants as answer
use Rattle.tp_base.specs.declared.plans.KernelChange.{KernelChange}
use Rattle.tp_base.specs.declared.plans.KernelChange.TheVariants.{Reset, Leave}
use Rattle.tp_base.specs.declared.plans.Trigger.TheVariants.{SetEvent, ReleaseSemaphore}
use Rattle.tp_base.specs.declared.plans.Plan.{Plan}
use Rattle.tp_base.specs.declared.plans.Plan.TheVariants.{Does}
use Rattle.tp_base.specs.declared.plans.Change.TheVariants as change
use Rattle.tp_base.specs.declared.rows.KernelState.{KernelState}
use Rattle.tp_base.specs.declared.rows.KernelState.TheVariants.{Event, Semaphore}
use Rattle.tp_model.specs.World.{World}
use Rattle.tp_model.specs.Conditions.{is_actor, is_finished, is_without_callback, is_in_wait}
use Rattle.tp_base.specs.Kernels.{is_event, is_semaphore, is_lock, owns, passes_by, lock_made}
use Rattle.tp_model.specs.Kernels.{is_kernel, is_kernel_that, count_at}
use Rattle.tp_model.specs.Calls.Timers.{fire}
use Rattle.tp_model.specs.Refusing.{first_refusal, unless_refused, make}

-- ---- CreateEvent, CreateSemaphore, CreateMutex and InitializeCriticalSection

abbrev pub create_kernel : World → Who → List (Bool × Refusal) → KernelState → Plan
create_kernel w who own state = make w who own w.limits.kernels (length w.kernels) (length w.kernels + 1) (change.CreateKernel state)

unfoldable pub create_event_plan : World → Who → Bool → Bool → Plan
create_event_plan w who manual signalled = create_kernel w who [] (Event manual signalled)

-- a semaphore can be taken at least once, and not more often than its maximum says
unfoldable pub create_semaphore_plan : World → Who → ℕ → ℕ → Plan
create_semaphore_plan w who initial maximum =
    create_kernel w who ((nat_lt maximum initial || (maximum == 0), OverMaximum initial) ∷ []) (Semaphore initial maximum)

unfoldable pub create_lock_plan : World → Who → Lock → Bool → Plan
create_lock_plan w who lock owned = create_kernel w who [] (lock_made lock who owned)

-- ---- SetEvent, ResetEvent, ReleaseSemaphore, ReleaseMutex and LeaveCriticalSection

-- of a call on a kernel object that passes the test of its kind, before those of its own
abbrev pub kernel_refusals : World → Who → (KernelState → Bool) → ℕ → List (Bool × Refusal) → List (Bool × Refusal)
kernel_refusals w who kind kernel own =
    (not (is_actor w who) || not (is_kernel w kernel), NoSuch)
    ∷ (not (is_kernel_that kind w kernel), WrongKind)
    ∷ (is_finished w who, Released)
    ∷ (is_without_callback w who, NotRunning)
    ∷ (is_in_wait w who, InWait)
    ∷ own

abbrev pub change_kernel : World → Who → (KernelState → Bool) → KernelId → List (Bool × Refusal) → Answer → KernelChange → Plan
change_kernel w who kind kernel own told how =
    unless_refused (first_refusal (kernel_refusals w who kind kernel.0 own)) (Does told (change.ChangeKernel kernel how))

-- an armed wait takes the event at once, and an actor that waits for it when its wait ends
unfoldable pub set_event_plan : World → ℕ → Who → KernelId → Plan
set_event_plan w next_number who kernel = unless_refused (first_refusal (kernel_refusals w who is_event kernel.0 [])) (fire w next_number (SetEvent kernel) answer.Queued)

unfoldable pub reset_event_plan : World → Who → KernelId → Plan
reset_event_plan w who kernel = change_kernel w who is_event kernel [] answer.Done Reset

abbrev pub release_semaphore_refusals : World → Who → ℕ → ℕ → List (Bool × Refusal)
release_semaphore_refusals w who kernel more = kernel_refusals w who is_semaphore kernel ((is_kernel_that (passes_by more) w kernel, OverMaximum (count_at w kernel)) ∷ [])

-- the answer has the count before
unfoldable pub release_semaphore_plan : World → ℕ → Who → KernelId → ℕ → Plan
release_semaphore_plan w next_number who kernel more =
    unless_refused (first_refusal (release_semaphore_refusals w who kernel.0 more)) (fire w next_number (ReleaseSemaphore kernel more) (answer.Count (count_at w kernel.0)))

unfoldable pub release_lock_plan : World → Who → Lock → KernelId → Plan
release_lock_plan w who lock kernel =
    change_kernel w who (is_lock lock) kernel ((not (is_kernel_that (owns who) w kernel.0), NotOwner) ∷ []) answer.Done Leave
