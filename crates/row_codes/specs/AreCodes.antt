-- The codes of rows are codes: a row is made of its fields again, and an enum's number tells its variants apart.
use Rattle.std.proofs.Common.{◌≡◌, ℕ, List, ◌++◌, get_or, refl, ap, arith}
use Rattle.short_codes.specs.Codes.{IsCode}
use Rattle.short_codes.proofs.Codes.{flag_code, mapped_code, number_code, option_code, pair_code}
use Rattle.tp_base.specs.declared.answers.TakeResult.{TakeResult}
use Rattle.tp_base.specs.declared.answers.TakeResult.TheVariants.{Plain, WaitObject0, WaitTimeout, Io as IoEnd}
use Rattle.tp_base.specs.declared.calls.Environ.{Environ}
use Rattle.tp_base.specs.declared.calls.Kind.{Kind}
use Rattle.tp_base.specs.declared.calls.Kind.TheVariants.{Work, Timer, Wait, Io}
use Rattle.tp_base.specs.declared.calls.Priority.{Priority}
use Rattle.tp_base.specs.declared.calls.Priority.TheVariants.{High, Normal, Low}
use Rattle.tp_base.specs.declared.ids.Who.{Who}
use Rattle.tp_base.specs.declared.ids.Who.TheVariants.{Client, Worker}
use Rattle.tp_base.specs.declared.ids.GroupId.{GroupId}
use Rattle.tp_base.specs.declared.ids.KernelId.{KernelId}
use Rattle.tp_base.specs.declared.ids.ObjectId.{ObjectId}
use Rattle.tp_base.specs.declared.ids.PoolId.{PoolId}
use Rattle.tp_base.specs.declared.ids.RoutineId.{RoutineId}
use Rattle.tp_base.specs.declared.limits.Limits.{Limits}
use Rattle.tp_base.specs.declared.rows.Action.{Action}
use Rattle.tp_base.specs.declared.rows.Arming.{Arming}
use Rattle.tp_base.specs.declared.rows.CallbackRow.{CallbackRow}
use Rattle.tp_base.specs.declared.rows.ClientRow.{ClientRow}
use Rattle.tp_base.specs.declared.rows.GroupRow.{GroupRow}
use Rattle.tp_base.specs.declared.rows.KernelRow.{KernelRow}
use Rattle.tp_base.specs.declared.rows.KernelState.{KernelState}
use Rattle.tp_base.specs.declared.rows.KernelState.TheVariants.{Event, Semaphore, Mutex, Section}
use Rattle.tp_base.specs.declared.rows.ObjectRow.{ObjectRow}
use Rattle.tp_base.specs.declared.rows.PoolRow.{PoolRow}
use Rattle.tp_base.specs.declared.rows.Slots.{Slots}
use Rattle.tp_base.specs.declared.rows.Status.{Status}
use Rattle.tp_base.specs.declared.rows.Status.TheVariants.{Expected, Issued, Pending, Running, Returned, Cancelled}
use Rattle.tp_base.specs.declared.rows.TimerSetting.{TimerSetting}
use Rattle.tp_base.specs.declared.rows.WaitTarget.{WaitTarget}
use Rattle.tp_base.specs.declared.rows.WaitTarget.TheVariants.{Object, Group, Kernel}
use Rattle.tp_base.specs.declared.rows.WorkerRow.{WorkerRow}
use Rattle.row_codes.specs.Rows.{action_code, arming_code, callback_code, client_code, environ_code, group_code, group_id_code, kernel_code, kernel_id_code, kind_code, limits_code, object_code, object_id_code, pool_code, pool_id_code, priority_code, result_code, routine_id_code, setting_code, slots_code, state_code, status_code, target_code, who_code, worker_code}

-- the first byte of a text
abbrev first : List ℕ → ℕ
first text = get_or text 0 0

pub is_pool_id_code : IsCode pool_id_code
is_pool_id_code = mapped_code (λ (id : PoolId). id.0) (λ n. record { 0 = n }) (λ id. refl) number_code

pub is_group_id_code : IsCode group_id_code
is_group_id_code = mapped_code (λ (id : GroupId). id.0) (λ n. record { 0 = n }) (λ id. refl) number_code

pub is_object_id_code : IsCode object_id_code
is_object_id_code = mapped_code (λ (id : ObjectId). id.0) (λ n. record { 0 = n }) (λ id. refl) number_code

pub is_kernel_id_code : IsCode kernel_id_code
is_kernel_id_code = mapped_code (λ (id : KernelId). id.0) (λ n. record { 0 = n }) (λ id. refl) number_code

pub is_routine_id_code : IsCode routine_id_code
is_routine_id_code = mapped_code (λ (id : RoutineId). id.0) (λ n. record { 0 = n }) (λ id. refl) number_code

kind_code_tells : (x y : Kind) (s t : List ℕ) → kind_code x ++ s ≡ kind_code y ++ t → (x ≡ y) × (s ≡ t)
kind_code_tells Work Work s t h = (refl, cc)
kind_code_tells Timer Timer s t h = (refl, cc)
kind_code_tells Wait Wait s t h = (refl, cc)
kind_code_tells Io Io s t h = (refl, cc)
kind_code_tells x y s t h = absurd (omega (arith, ap first h))

pub is_kind_code : IsCode kind_code
is_kind_code = record { tells = kind_code_tells }

priority_code_tells : (x y : Priority) (s t : List ℕ) → priority_code x ++ s ≡ priority_code y ++ t → (x ≡ y) × (s ≡ t)
priority_code_tells High High s t h = (refl, cc)
priority_code_tells Normal Normal s t h = (refl, cc)
priority_code_tells Low Low s t h = (refl, cc)
priority_code_tells x y s t h = absurd (omega (arith, ap first h))

pub is_priority_code : IsCode priority_code
is_priority_code = record { tells = priority_code_tells }

who_code_tells : (x y : Who) (s t : List ℕ) → who_code x ++ s ≡ who_code y ++ t → (x ≡ y) × (s ≡ t)
who_code_tells (Client a) (Client b) s t h = let p = number_code.tells a b s t cc in (ap (λ q. Client q) p.0, p.1)
who_code_tells (Worker a) (Worker b) s t h = let p = number_code.tells a b s t cc in (ap (λ q. Worker q) p.0, p.1)
who_code_tells x y s t h = absurd (omega (arith, ap first h))

pub is_who_code : IsCode who_code
is_who_code = record { tells = who_code_tells }

result_code_tells : (x y : TakeResult) (s t : List ℕ) → result_code x ++ s ≡ result_code y ++ t → (x ≡ y) × (s ≡ t)
result_code_tells Plain Plain s t h = (refl, cc)
result_code_tells WaitObject0 WaitObject0 s t h = (refl, cc)
result_code_tells WaitTimeout WaitTimeout s t h = (refl, cc)
result_code_tells (IoEnd a0 a1) (IoEnd b0 b1) s t h = let p = (pair_code number_code number_code).tells (a0, a1) (b0, b1) s t cc in (ap (λ q. IoEnd q.0 q.1) p.0, p.1)
result_code_tells x y s t h = absurd (omega (arith, ap first h))

pub is_result_code : IsCode result_code
is_result_code = record { tells = result_code_tells }

target_code_tells : (x y : WaitTarget) (s t : List ℕ) → target_code x ++ s ≡ target_code y ++ t → (x ≡ y) × (s ≡ t)
target_code_tells (Object a) (Object b) s t h = let p = is_object_id_code.tells a b s t cc in (ap (λ q. Object q) p.0, p.1)
target_code_tells (Group a) (Group b) s t h = let p = is_group_id_code.tells a b s t cc in (ap (λ q. Group q) p.0, p.1)
target_code_tells (Kernel a) (Kernel b) s t h = let p = is_kernel_id_code.tells a b s t cc in (ap (λ q. Kernel q) p.0, p.1)
target_code_tells x y s t h = absurd (omega (arith, ap first h))

pub is_target_code : IsCode target_code
is_target_code = record { tells = target_code_tells }

pub is_action_code : IsCode action_code
is_action_code = mapped_code
    (λ (a : Action). (a.kernel, a.count))
    (λ q. record { kernel = q.0; count = q.1 })
    (λ a. refl)
    (pair_code is_kernel_id_code number_code)

pub is_slots_code : IsCode slots_code
is_slots_code = mapped_code
    (λ (s : Slots). (((s.section, s.mutex), s.semaphore), s.event))
    (λ q. record { section = q.0.0.0; mutex = q.0.0.1; semaphore = q.0.1; event = q.1 })
    (λ s. refl)
    (pair_code (pair_code (pair_code (option_code is_action_code) (option_code is_action_code)) (option_code is_action_code)) (option_code is_action_code))

status_code_tells : (x y : Status) (s t : List ℕ) → status_code x ++ s ≡ status_code y ++ t → (x ≡ y) × (s ≡ t)
status_code_tells Expected Expected s t h = (refl, cc)
status_code_tells Issued Issued s t h = (refl, cc)
status_code_tells Pending Pending s t h = (refl, cc)
status_code_tells (Running a0 a1 a2) (Running b0 b1 b2) s t h = let p = (pair_code (pair_code number_code flag_code) is_slots_code).tells ((a0, a1), a2) ((b0, b1), b2) s t cc in (ap (λ q. Running q.0.0 q.0.1 q.1) p.0, p.1)
status_code_tells Returned Returned s t h = (refl, cc)
status_code_tells Cancelled Cancelled s t h = (refl, cc)
status_code_tells x y s t h = absurd (omega (arith, ap first h))

pub is_status_code : IsCode status_code
is_status_code = record { tells = status_code_tells }

state_code_tells : (x y : KernelState) (s t : List ℕ) → state_code x ++ s ≡ state_code y ++ t → (x ≡ y) × (s ≡ t)
state_code_tells (Event a0 a1) (Event b0 b1) s t h = let p = (pair_code flag_code flag_code).tells (a0, a1) (b0, b1) s t cc in (ap (λ q. Event q.0 q.1) p.0, p.1)
state_code_tells (Semaphore a0 a1) (Semaphore b0 b1) s t h = let p = (pair_code number_code number_code).tells (a0, a1) (b0, b1) s t cc in (ap (λ q. Semaphore q.0 q.1) p.0, p.1)
state_code_tells (Mutex a0 a1) (Mutex b0 b1) s t h = let p = (pair_code (option_code is_who_code) number_code).tells (a0, a1) (b0, b1) s t cc in (ap (λ q. Mutex q.0 q.1) p.0, p.1)
state_code_tells (Section a0 a1) (Section b0 b1) s t h = let p = (pair_code (option_code is_who_code) number_code).tells (a0, a1) (b0, b1) s t cc in (ap (λ q. Section q.0 q.1) p.0, p.1)
state_code_tells x y s t h = absurd (omega (arith, ap first h))

pub is_state_code : IsCode state_code
is_state_code = record { tells = state_code_tells }

pub is_environ_code : IsCode environ_code
is_environ_code = mapped_code
    (λ (e : Environ). (((((e.pool, e.group), e.cancel), e.priority), e.long), e.persistent))
    (λ q. record { pool = q.0.0.0.0.0; group = q.0.0.0.0.1; cancel = q.0.0.0.1; priority = q.0.0.1; long = q.0.1; persistent = q.1 })
    (λ e. refl)
    (pair_code (pair_code (pair_code (pair_code (pair_code is_pool_id_code is_group_id_code) is_routine_id_code) is_priority_code) flag_code) flag_code)

pub is_limits_code : IsCode limits_code
is_limits_code = mapped_code
    (λ (l : Limits). ((((((l.clients, l.workers), l.pools), l.groups), l.objects), l.kernels), l.slots))
    (λ q. record { clients = q.0.0.0.0.0.0; workers = q.0.0.0.0.0.1; pools = q.0.0.0.0.1; groups = q.0.0.0.1; objects = q.0.0.1; kernels = q.0.1; slots = q.1 })
    (λ l. refl)
    (pair_code (pair_code (pair_code (pair_code (pair_code (pair_code number_code number_code) number_code) number_code) number_code) number_code) number_code)

pub is_pool_code : IsCode pool_code
is_pool_code = mapped_code
    (λ (p : PoolRow). ((p.minimum, p.maximum), p.closed))
    (λ q. record { minimum = q.0.0; maximum = q.0.1; closed = q.1 })
    (λ p. refl)
    (pair_code (pair_code number_code number_code) flag_code)

pub is_group_code : IsCode group_code
is_group_code = mapped_code
    (λ (g : GroupRow). g.closed)
    (λ q. record { closed = q })
    (λ g. refl)
    flag_code

pub is_object_code : IsCode object_code
is_object_code = mapped_code
    (λ (o : ObjectRow). ((((o.kind, o.released), o.routine), o.context), o.env))
    (λ q. record { kind = q.0.0.0.0; released = q.0.0.0.1; routine = q.0.0.1; context = q.0.1; env = q.1 })
    (λ o. refl)
    (pair_code (pair_code (pair_code (pair_code is_kind_code flag_code) is_routine_id_code) number_code) is_environ_code)

pub is_callback_code : IsCode callback_code
is_callback_code = mapped_code
    (λ (c : CallbackRow). ((((((((((c.number, c.context), c.object), c.routine), c.pool), c.group), c.result), c.status), c.priority), c.long), c.persistent))
    (λ q. record { number = q.0.0.0.0.0.0.0.0.0.0; context = q.0.0.0.0.0.0.0.0.0.1; object = q.0.0.0.0.0.0.0.0.1; routine = q.0.0.0.0.0.0.0.1; pool = q.0.0.0.0.0.0.1; group = q.0.0.0.0.0.1; result = q.0.0.0.0.1; status = q.0.0.0.1; priority = q.0.0.1; long = q.0.1; persistent = q.1 })
    (λ c. refl)
    (pair_code (pair_code (pair_code (pair_code (pair_code (pair_code (pair_code (pair_code (pair_code (pair_code number_code number_code) is_object_id_code) is_routine_id_code) is_pool_id_code) is_group_id_code) is_result_code) is_status_code) is_priority_code) flag_code) flag_code)

pub is_kernel_code : IsCode kernel_code
is_kernel_code = mapped_code
    (λ (k : KernelRow). k.state)
    (λ q. record { state = q })
    (λ k. refl)
    is_state_code

pub is_setting_code : IsCode setting_code
is_setting_code = mapped_code
    (λ (s : TimerSetting). (((s.object, s.due), s.period), s.window))
    (λ q. record { object = q.0.0.0; due = q.0.0.1; period = q.0.1; window = q.1 })
    (λ s. refl)
    (pair_code (pair_code (pair_code is_object_id_code number_code) number_code) number_code)

pub is_arming_code : IsCode arming_code
is_arming_code = mapped_code
    (λ (a : Arming). (a.object, a.kernel))
    (λ q. record { object = q.0; kernel = q.1 })
    (λ a. refl)
    (pair_code is_object_id_code is_kernel_id_code)

pub is_worker_code : IsCode worker_code
is_worker_code = mapped_code
    (λ (w : WorkerRow). ((w.pool, w.callback), w.persistent))
    (λ q. record { pool = q.0.0; callback = q.0.1; persistent = q.1 })
    (λ w. refl)
    (pair_code (pair_code (option_code is_pool_id_code) (option_code number_code)) flag_code)

pub is_client_code : IsCode client_code
is_client_code = mapped_code
    (λ (c : ClientRow). c.finished)
    (λ q. record { finished = q })
    (λ c. refl)
    flag_code
