-- What is true of reachable worlds stays true where a callback is made, taken, marked or cancelled, returns, or goes a
-- step of its operation.
use Rattle.std.proofs.Common.{◌≡◌, ℕ, ◌+◌, ◌-◌, ◌<◌, ◌≤◌, Bool, true, false, cond, ◌&&◌, ◌==◌, List, length, Some, None, refl, sym, ap, ap₂, ◌∙◌, subst, arith, find, ne_eqb}
use Rattle.std.specs.List.{AllByRecursion}
use Rattle.tp_base.specs.declared.ids.PoolId.{PoolId}
use Rattle.tp_base.specs.declared.plans.Mark.{Mark}
use Rattle.tp_base.specs.declared.plans.Mark.TheVariants.{Long, Loose, Asks}
use Rattle.tp_base.specs.Actions.{filled}
use Rattle.tp_base.specs.declared.plans.IoStep.{IoStep}
use Rattle.tp_base.specs.declared.plans.IoStep.TheVariants.{Issue, GiveUp, Complete}
use Rattle.tp_base.specs.declared.rows.Slots.{Slots}
use Rattle.tp_base.specs.declared.rows.Status.{Status}
use Rattle.tp_base.specs.declared.ids.ObjectId.{ObjectId}
use Rattle.tp_base.specs.declared.rows.Status.TheVariants.{Expected, Issued, Pending, Running, Returned, Cancelled}
use Rattle.tp_base.specs.declared.rows.ObjectRow.{ObjectRow}
use Rattle.tp_base.specs.declared.rows.CallbackRow.{CallbackRow}
use Rattle.tp_base.specs.declared.rows.WorkerRow.{WorkerRow}
use Rattle.tp_base.specs.declared.rows.WaitTarget.{WaitTarget}
use Rattle.tp_base.specs.declared.rows.WaitTarget.TheVariants.{Object, Group, Kernel}
use Rattle.tp_model.specs.Waits.{is_of, cancelled}
use Rattle.tp_model.specs.World.{World}
use Rattle.tp_model.specs.Counts.{numbered, has_number, is_pending, is_operating}
use Rattle.tp_model.specs.Changes.{with_new_callback, with_callback, with_worker, replaced, taken, loosened, marked, operated, status_before, returned}
use Rattle.tp_model.specs.Actions.{no_actions, asking}
use Rattle.tp_model.specs.Laws.Once.{is_left}
use Rattle.tp_model.specs.Support.Sound.{IsSound, RunsOn, IsWorkerSound, HasObject, IsCallbackSound, is_left_of, is_standing}
use Rattle.tp_model.proofs.Lists.{find_all, all_append, all_map}
use Rattle.tp_model.proofs.Callbacks.{rising_append, rising_replaced, find_replaced}
use Rattle.tp_model.proofs.Refusals.{both, false_true, and_false}
use Rattle.tp_model.proofs.Waits.{waits_still, waits_longer, left_replaced}
use Rattle.tp_model.proofs.SoundObjects.{OperationStands}
use Rattle.tp_model.proofs.SoundWorkers.{RunsWhere, workers_appended, workers_changed, workers_same}

pub sound_new_callback : (next_number : ℕ) (w : World) (c : CallbackRow) → c.number ≡ next_number → c.pool.0 < length w.pools → IsCallbackSound w.objects c → OperationStands w.objects c → IsSound next_number w → IsSound (next_number + 1) (with_new_callback w c)
sound_new_callback next_number w c number home object operation s =
    record {
      numbers = rising_append 1 next_number w.callbacks c number s.numbers;
      workers = workers_appended c w.callbacks 1 w.workers s.workers;
      object_pools = s.object_pools;
      apart = s.apart;
      timers = s.timers;
      armings = s.armings;
      timeouts = s.timeouts;
      clock = s.clock;
      waits = waits_longer next_number c w.callbacks number w.waits s.waits;
      callback_pools = all_append (λ (x : CallbackRow). x.pool.0 < length w.pools) w.callbacks c s.callback_pools home;
      callback_objects = all_append (IsCallbackSound w.objects) w.callbacks c s.callback_objects object;
      operations = all_append (OperationStands w.objects) w.callbacks c s.operations operation;
      notices = s.notices;
    }

-- what all callbacks have, they have where a row that has it is put in the place of another
all_replaced : (P : CallbackRow → Type 0) (r : CallbackRow) (cs : List CallbackRow) → P r → AllByRecursion P cs → AllByRecursion P (replaced r cs)
all_replaced P r cs here all = all_map P (λ c. cond (has_number r.number c) r c) (λ c h. elim (has_number r.number c) as (λ b. P (cond b r c)) [ true ↦ here | false ↦ h ]) cs all

-- a row of the same pool and object in the place of another
pools_replaced : (pools : ℕ) (r c : CallbackRow) (cs : List CallbackRow) → r.pool ≡ c.pool → find (has_number c.number) cs ≡ Some c → AllByRecursion (λ (x : CallbackRow). x.pool.0 < pools) cs → AllByRecursion (λ (x : CallbackRow). x.pool.0 < pools) (replaced r cs)
pools_replaced pools r c cs pool found all =
    all_replaced (λ x. x.pool.0 < pools) r cs (subst (λ (p : PoolId). p.0 < pools) (sym pool) (find_all (λ (x : CallbackRow). x.pool.0 < pools) (has_number c.number) c cs all found)) all

objects_replaced : (objects : List ObjectRow) (r c : CallbackRow) (cs : List CallbackRow) → r.pool ≡ c.pool → r.group ≡ c.group → r.object ≡ c.object → r.persistent ≡ c.persistent → find (has_number c.number) cs ≡ Some c
    → AllByRecursion (IsCallbackSound objects) cs → AllByRecursion (IsCallbackSound objects) (replaced r cs)
objects_replaced objects r c cs pool group object persistent found all =
    all_replaced (IsCallbackSound objects) r cs (λ named.
    let of : HasObject objects c = find_all (IsCallbackSound objects) (has_number c.number) c cs all found (λ none. named (ap (λ (o : ObjectId). o.0) object ∙ none)) in
    record { row = of.row; stands = ap (λ (o : ObjectId). numbered objects o.0) object ∙ of.stands; home = pool ∙ of.home; group = group ∙ of.group; persistent = persistent ∙ of.persistent }) all

operations_replaced : (objects : List ObjectRow) (r : CallbackRow) (cs : List CallbackRow) → OperationStands objects r → AllByRecursion (OperationStands objects) cs → AllByRecursion (OperationStands objects) (replaced r cs)
operations_replaced objects r cs here all = all_replaced (OperationStands objects) r cs here all

-- a worker begins a pending callback of its pool
pub sound_taken : (next_number : ℕ) (w : World) (worker : ℕ) (pool : PoolId) (persistent : Bool) (c : CallbackRow) → 1 ≤ worker → find (has_number c.number) w.callbacks ≡ Some c → is_pending c.status ≡ true → c.pool ≡ pool → IsSound next_number w
    → IsSound next_number (with_worker (with_callback w (taken c worker)) worker (record { pool = Some pool; callback = Some c.number; persistent = persistent }))
sound_taken next_number w worker pool persistent c from_one found waits home s =
    let r : CallbackRow = taken c worker in
    record {
      numbers = rising_replaced r 1 next_number w.callbacks s.numbers;
      workers = workers_changed r w.callbacks (record { pool = Some pool; callback = Some c.number; persistent = persistent }) 1 (worker - 1) w.workers
          (λ other _ p number runs. ne_eqb c.number number (λ e. not_pending runs.callback.status other runs.associated runs.slots runs.runs
          (let same : runs.callback ≡ c = same_found number c.number runs.callback c w.callbacks e runs.found found in ap (λ (x : CallbackRow). is_pending x.status) same ∙ waits)))
          (record { callback = r; associated = true; slots = no_actions; found = find_replaced r c w.callbacks found; runs = ap (λ n. Running n true no_actions) (omega (arith, from_one)); at_home = home })
          s.workers;
      object_pools = s.object_pools;
      apart = s.apart;
      timers = s.timers;
      armings = s.armings;
      timeouts = s.timeouts;
      clock = s.clock;
      waits = waits_still next_number w.callbacks (replaced r w.callbacks) (left_replaced r c w.callbacks found (λ target left. absurd (false_true (sym (and_false (is_of target r)) ∙ left)))) w.waits s.waits;
      callback_pools = pools_replaced (length w.pools) r c w.callbacks refl found s.callback_pools;
      callback_objects = objects_replaced w.objects r c w.callbacks refl refl refl refl found s.callback_objects;
      operations = operations_replaced w.objects r w.callbacks (λ operates. absurd (false_true operates)) s.operations;
      notices = s.notices;
    }
  where
    not_pending : (status : Status) (other : ℕ) (associated : Bool) (slots : Slots) → status ≡ Running other associated slots → is_pending status ≡ true → ⊥
    not_pending status other associated slots e p = false_true (sym (ap is_pending e) ∙ p)

    same_found : (m n : ℕ) (x y : CallbackRow) (cs : List CallbackRow) → n ≡ m → find (has_number m) cs ≡ Some x → find (has_number n) cs ≡ Some y → x ≡ y
    same_found m n x y cs e fx fy =
        let both_found : Some x ≡ Some y = sym fx ∙ ap (λ k. find (has_number k) cs) (sym e) ∙ fy in cc

-- a worker's callback returns
pub sound_returned : (next_number : ℕ) (w : World) (worker : ℕ) (row : WorkerRow) (pool : PoolId) (c : CallbackRow) → 1 ≤ worker → row.callback ≡ None → RunsOn w.callbacks worker pool c.number → find (has_number c.number) w.callbacks ≡ Some c → IsSound next_number w
    → IsSound next_number (with_worker (with_callback w (returned c)) worker row)
sound_returned next_number w worker row pool c from_one free runs found s =
    let r : CallbackRow = returned c in
    record {
      numbers = rising_replaced r 1 next_number w.callbacks s.numbers;
      workers = workers_changed r w.callbacks row 1 (worker - 1) w.workers
          (λ other apart p number others. ne_eqb c.number number (λ e. apart
          (same_worker other worker others.associated runs.associated others.slots runs.slots others.callback.status runs.callback.status others.runs runs.runs
          (ap (λ (x : CallbackRow). x.status) (same_found number c.number others.callback runs.callback w.callbacks e others.found runs.found)) ∙ omega (arith, from_one))))
          (subst (λ x. IsWorkerSound (replaced r w.callbacks) (1 + (worker - 1)) row.pool x) (sym free) tt) s.workers;
      object_pools = s.object_pools;
      apart = s.apart;
      timers = s.timers;
      armings = s.armings;
      timeouts = s.timeouts;
      clock = s.clock;
      waits = waits_still next_number w.callbacks (replaced r w.callbacks) (left_replaced r c w.callbacks found (λ target left. absurd (false_true (sym (and_false (is_of target r)) ∙ left)))) w.waits s.waits;
      callback_pools = pools_replaced (length w.pools) r c w.callbacks refl found s.callback_pools;
      callback_objects = objects_replaced w.objects r c w.callbacks refl refl refl refl found s.callback_objects;
      operations = operations_replaced w.objects r w.callbacks (λ operates. absurd (false_true operates)) s.operations;
      notices = s.notices;
    }
  where
    same_worker : (m n : ℕ) (a b : Bool) (s t : Slots) (x y : Status) → x ≡ Running m a s → y ≡ Running n b t → x ≡ y → m ≡ n
    same_worker m n a b s t x y ex ey e = let runs : Running m a s ≡ Running n b t = sym ex ∙ e ∙ ey in cc

    same_found : (m n : ℕ) (x y : CallbackRow) (cs : List CallbackRow) → n ≡ m → find (has_number m) cs ≡ Some x → find (has_number n) cs ≡ Some y → x ≡ y
    same_found m n x y cs e fx fy =
        let both_found : Some x ≡ Some y = sym fx ∙ ap (λ k. find (has_number k) cs) (sym e) ∙ fy in cc

-- a row of the same number, pool and object, and as persistent, which runs where the one before it ran, and may be run only where that might
sound_same : (next_number : ℕ) (w : World) (r c : CallbackRow) → r.number ≡ c.number → r.pool ≡ c.pool → r.group ≡ c.group → r.object ≡ c.object → r.persistent ≡ c.persistent → (is_operating r.status ≡ true → is_operating c.status ≡ true)
    → RunsWhere c.status r.status → ((target : WaitTarget) → is_left_of target r ≡ true → is_left_of target c ≡ true) → find (has_number c.number) w.callbacks ≡ Some c → IsSound next_number w
    → IsSound next_number (with_callback w r)
sound_same next_number w r c number pool group object persistent operating status left found s =
    let there : find (has_number r.number) w.callbacks ≡ Some c = ap (λ n. find (has_number n) w.callbacks) number ∙ found in
    record {
      numbers = rising_replaced r 1 next_number w.callbacks s.numbers;
      workers = workers_same r c w.callbacks 1 w.workers there status pool s.workers;
      object_pools = s.object_pools;
      apart = s.apart;
      timers = s.timers;
      armings = s.armings;
      timeouts = s.timeouts;
      clock = s.clock;
      waits = waits_still next_number w.callbacks (replaced r w.callbacks) (left_replaced r c w.callbacks there left) w.waits s.waits;
      callback_pools = pools_replaced (length w.pools) r c w.callbacks pool found s.callback_pools;
      callback_objects = objects_replaced w.objects r c w.callbacks pool group object persistent found s.callback_objects;
      operations = operations_replaced w.objects r w.callbacks (λ operates. ap (λ (x : ObjectId). is_standing w.objects x.0) object ∙ find_all (OperationStands w.objects) (has_number c.number) c w.callbacks s.operations found (operating operates)) s.operations;
      notices = s.notices;
    }

-- a pending callback is cancelled
pub sound_cancelled : (next_number : ℕ) (w : World) (c : CallbackRow) → find (has_number c.number) w.callbacks ≡ Some c → is_pending c.status ≡ true → IsSound next_number w → IsSound next_number (with_callback w (cancelled c))
sound_cancelled next_number w c found pends s =
    sound_same next_number w (cancelled c) c refl refl refl refl refl (λ e. absurd (false_true e)) (λ worker associated slots e. absurd (false_true (sym (ap is_pending e) ∙ pends))) (λ target left. absurd (false_true (sym (and_false (is_of target (cancelled c))) ∙ left))) found s

-- a row with another status that may be run where that of before may
left_same : (c : CallbackRow) (status : Status) → is_left status ≡ is_left c.status → (target : WaitTarget) → is_left_of target (record c { status = status }) ≡ true → is_left_of target c ≡ true
left_same c status same (Object object) left = ap (λ b. (c.object.0 == object.0) && b) (sym same) ∙ left
left_same c status same (Group group) left = ap (λ b. (c.group.0 == group.0) && b) (sym same) ∙ left
left_same c status same (Kernel kernel) left = left

-- what a callback says of itself leaves it running where it ran
pub sound_marked : (next_number : ℕ) (w : World) (mark : Mark) (c : CallbackRow) → find (has_number c.number) w.callbacks ≡ Some c → IsSound next_number w → IsSound next_number (with_callback w (marked mark c))
sound_marked next_number w Long c found s = sound_same next_number w (marked Long c) c refl refl refl refl refl (λ e. e) (λ worker associated slots e. (associated, slots, e)) (λ target left. same_left target left) found s
  where
    same_left : (target : WaitTarget) → is_left_of target (marked Long c) ≡ true → is_left_of target c ≡ true
    same_left (Object object) left = left
    same_left (Group group) left = left
    same_left (Kernel kernel) left = left
sound_marked next_number w Loose c found s = sound_same next_number w (marked Loose c) c refl refl refl refl refl (λ e. sym (idle c.status) ∙ e) (λ worker associated slots e. (false, slots, ap loosened e)) (λ target left. same_left target left) found s
  where
    idle : (status : Status) → is_operating (loosened status) ≡ is_operating status
    idle (Running worker associated slots) = refl
    idle _ = refl

    still : (status : Status) → is_left (loosened status) ≡ is_left status
    still Expected = refl
    still Issued = refl
    still Pending = refl
    still (Running worker associated slots) = refl
    still Returned = refl
    still Cancelled = refl

    same_left : (target : WaitTarget) → is_left_of target (marked Loose c) ≡ true → is_left_of target c ≡ true
    same_left = left_same c (loosened c.status) (still c.status)
sound_marked next_number w (Asks kind action) c found s =
    sound_same next_number w (marked (Asks kind action) c) c refl refl refl refl refl (λ e. sym (idle c.status) ∙ e)
    (λ worker associated slots e. (associated, filled kind action slots, ap (asking kind action) e))
    (λ target left. left_same c (asking kind action c.status) (still c.status) target left) found s
  where
    idle : (status : Status) → is_operating (asking kind action status) ≡ is_operating status
    idle (Running worker associated slots) = refl
    idle _ = refl

    still : (status : Status) → is_left (asking kind action status) ≡ is_left status
    still Expected = refl
    still Issued = refl
    still Pending = refl
    still (Running worker associated slots) = refl
    still Returned = refl
    still Cancelled = refl

-- an operation that goes a step runs nowhere, and its callback might be run before
pub sound_operated : (next_number : ℕ) (w : World) (how : IoStep) (c : CallbackRow) → find (has_number c.number) w.callbacks ≡ Some c → c.status ≡ status_before how → IsSound next_number w → IsSound next_number (with_callback w (operated how c))
sound_operated next_number w how c found comes s =
    sound_same next_number w (operated how c) c refl refl refl refl refl (λ _. ap is_operating comes ∙ operates how) (λ worker associated slots e. absurd (idle how (sym comes ∙ e)))
    (λ target left. might target (ap is_left comes ∙ left_before how) left) found s
  where
    idle : {worker : ℕ} {associated : Bool} {slots : Slots} → (step : IoStep) → status_before step ≡ Running worker associated slots → ⊥
    idle Issue e = cc
    idle GiveUp e = cc
    idle (Complete error bytes) e = cc

    operates : (step : IoStep) → is_operating (status_before step) ≡ true
    operates Issue = refl
    operates GiveUp = refl
    operates (Complete error bytes) = refl

    left_before : (step : IoStep) → is_left (status_before step) ≡ true
    left_before Issue = refl
    left_before GiveUp = refl
    left_before (Complete error bytes) = refl

    might : (target : WaitTarget) → is_left c.status ≡ true → is_left_of target (operated how c) ≡ true → is_left_of target c ≡ true
    might (Object object) l left = ap₂ (λ a b. a && b) (both (c.object.0 == object.0) (is_left (operated how c).status) left).0 l
    might (Group group) l left = ap₂ (λ a b. a && b) (both (c.group.0 == group.0) (is_left (operated how c).status) left).0 l
    might (Kernel kernel) l left = absurd (false_true left)
