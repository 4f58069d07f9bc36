-- What an old call comes to is made whole.
use Rattle.std.proofs.Common.{◌≡◌, ℕ, ◌≤◌, Bool, true, false, [], ◌∷◌, length, Option, None, Some, refl, arith}
use Rattle.std.specs.Prelude.{nat_le, is_some, if◌then◌else◌}
use Rattle.tp_base.specs.declared.answers.Outcome.{Outcome}
use Rattle.tp_base.specs.declared.answers.Outcome.TheVariants as outcome
use Rattle.tp_base.specs.declared.answers.Refusal.{Refusal}
use Rattle.tp_base.specs.declared.calls.Call.{Call}
use Rattle.tp_base.specs.declared.calls.Call.TheVariants.{BeginClose, CloseObject, Create, CreateGroup, IsTimerSet, SubmitSimple, Take}
use Rattle.tp_base.specs.declared.calls.Environ.{Environ}
use Rattle.tp_base.specs.declared.calls.Kind.{Kind}
use Rattle.tp_base.specs.declared.calls.Kind.TheVariants as kind
use Rattle.tp_base.specs.declared.ids.GroupId.{GroupId}
use Rattle.tp_base.specs.declared.ids.ObjectId.{ObjectId}
use Rattle.tp_base.specs.declared.ids.RoutineId.{RoutineId}
use Rattle.tp_base.specs.declared.ids.Who.{Who}
use Rattle.tp_base.specs.declared.plans.Idle.{Idle}
use Rattle.tp_base.specs.declared.plans.Plan.{Plan}
use Rattle.tp_base.specs.declared.rows.CallbackRow.{CallbackRow}
use Rattle.tp_base.specs.declared.plans.Trigger.TheVariants as trigger
use Rattle.callback_env.specs.Environ.{initialized}
use Rattle.tp_model.specs.Calls.Groups.{begin_close_plan, begin_close_refusals, create_group_plan}
use Rattle.tp_model.specs.Calls.Objects.{close_object_plan, close_object_refusals, create_plan, create_refusals}
use Rattle.tp_model.specs.Calls.Timers.{is_timer_set_plan, set_timer_plan, set_timer_refusals}
use Rattle.tp_model.specs.Calls.WaitObjects.{set_wait_plan, set_wait_refusals}
use Rattle.tp_model.specs.Calls.Work.{submit_simple_plan, submit_simple_refusals}
use Rattle.tp_model.specs.Calls.Workers.{idle_refusals, take, take_callback, take_plan}
use Rattle.tp_model.specs.Conditions.{idle_of}
use Rattle.tp_model.specs.Counts.{maximum, next, running}
use Rattle.tp_model.specs.History.{IsLegal}
use Rattle.tp_model.specs.Refusing.{first_refusal, make_refusals, object_refusals, unless_refused}
use Rattle.tp_model.specs.Table.{plan}
use Rattle.tp_model.specs.World.{World}
use Rattle.recorded.specs.Recordings.{made, outcome_behind, room_of, Recording, world_behind}
use Rattle.tp_legacy.specs.Legacy.{calls_with, change_calls, close_call, comes_to, cost_of, due_in, flag_told, group_of_queue, is_refused, is_repeated, is_take, kind_of, make_calls, number_made, object_id, object_of_registration, object_of_timer, object_taken, rearmed_by, rearming, registration_of, set_call, set_calls, taken_by, timeout_of, wait_of}
use Rattle.tp_legacy.specs.Old.{Old, Stand}
use Rattle.tp_legacy.specs.Whole.{of_the_row, outcomes_of, AreDone}
use Rattle.tp_legacy.specs.declared.LegacyCall.{LegacyCall}
use Rattle.tp_legacy.specs.declared.LegacyCall.TheVariants as call
use Rattle.tp_legacy.specs.declared.calls.Setting.{Setting}
use Rattle.tp_legacy.specs.declared.calls.Setting.TheVariants as setting
use Rattle.tp_legacy.specs.declared.rows.Registration.{Registration}
use Rattle.tp_legacy.proofs.Growing.{made_on}
use Rattle.tp_legacy.proofs.Pricing.{answered, costs, looks_or_costs, never, room_left, CostsAtMost, IsAnswered, NeverLooks}

-- ---- the plans of the calls that rows are made of

record IsPlain (most : ℕ) (p : Plan) : Type 0 where
  pub looks : NeverLooks p
  pub costs : CostsAtMost most p

module _ (w : World) (left : ℕ) (who : Who) where
  creates : (k : Kind) (routine : RoutineId) (context : ℕ) (env : Environ) → IsPlain 1 (plan w left who (Create k routine context env))
  unfolding create_plan
  creates k routine context env = record { looks = never (first_refusal (create_refusals w who env)) _ _; costs = costs (first_refusal (create_refusals w who env)) _ _ 1 (omega arith) }

  closes : (k : Kind) (object : ObjectId) → IsPlain 1 (plan w left who (CloseObject k object))
  unfolding close_object_plan
  closes k object = record { looks = never (first_refusal (close_object_refusals w who k object)) _ _; costs = costs (first_refusal (close_object_refusals w who k object)) _ _ 1 (omega arith) }

  submits : (routine : RoutineId) (context : ℕ) (env : Environ) → IsPlain 1 (plan w left who (SubmitSimple routine context env))
  unfolding submit_simple_plan
  submits routine context env = record { looks = never (first_refusal (submit_simple_refusals w who env)) _ _; costs = costs (first_refusal (submit_simple_refusals w who env)) _ _ 1 (omega arith) }

  creates_group : IsPlain 1 (plan w left who CreateGroup)
  unfolding create_group_plan
  creates_group = record { looks = never (first_refusal (make_refusals w who [] w.limits.groups (length w.groups))) _ _; costs = costs (first_refusal (make_refusals w who [] w.limits.groups (length w.groups))) _ _ 1 (omega arith) }

  asks : (object : ObjectId) → IsPlain 1 (plan w left who (IsTimerSet object))
  unfolding is_timer_set_plan
  asks object = record { looks = never (first_refusal (object_refusals w who kind.Timer object.0)) _ _; costs = costs (first_refusal (object_refusals w who kind.Timer object.0)) _ _ 1 (omega arith) }

  sets : (how : Setting) (object : ObjectId) → IsPlain 1 (plan w left who (set_call how object))
  unfolding set_wait_plan set_timer_plan
  sets (setting.Wait kernel timeout) object =
      record { looks = never (first_refusal (set_wait_refusals w who object (Some kernel) timeout)) _ _; costs = costs (first_refusal (set_wait_refusals w who object (Some kernel) timeout)) _ _ 1 (omega arith) }
  sets (setting.Timer due period) object =
      record {
        looks = never (first_refusal (set_timer_refusals w who object.0 (trigger.SetTimer object (Some due) period 0))) _ _;
        costs = costs (first_refusal (set_timer_refusals w who object.0 (trigger.SetTimer object (Some due) period 0))) _ _ 1 (omega arith);
      }

  begins_close : (group : GroupId) → IsPlain 2 (plan w left who (BeginClose group false 0))
  unfolding begin_close_plan
  begins_close group = record { looks = never (first_refusal (begin_close_refusals w who group.0)) _ _; costs = costs (first_refusal (begin_close_refusals w who group.0)) _ _ 2 (omega arith) }

  -- a take may look, and costs its entry and that of the return
  takes : CostsAtMost 2 (plan w left who Take)
  unfolding take_plan
  takes = of_refusal (first_refusal (idle_refusals w who))
    where
      of_callback : (by : Idle) (c : Option CallbackRow) → CostsAtMost 2 (take_callback w by c)
      of_callback by None = tt
      of_callback by (Some c) = looks_or_costs (nat_le (maximum w by.pool.0) (running w by.pool.0)) _ _ _ 2 (omega arith)

      of_idle : (by : Option Idle) → CostsAtMost 2 (take w by)
      of_idle None = tt
      of_idle (Some by) = of_callback by (next w by.pool.0 by.persistent)

      of_refusal : (r : Option Refusal) → CostsAtMost 2 (unless_refused r (take w (idle_of w who)))
      of_refusal (Some refusal) = tt
      of_refusal None = of_idle (idle_of w who)

-- ---- rows

module _ (r : Recording) (legal : IsLegal r.limits r.capacity r.history) (who : Who) where
  answered_by : (made_by : Call) (most : ℕ) → 1 ≤ most → most ≤ room_of r → IsPlain most (plan (world_behind r) (room_of r) who made_by) → IsAnswered r who made_by most
  answered_by made_by most one room p = answered r legal who made_by most one room p.looks p.costs

  one_done : (made_by : Call) (most : ℕ) → 1 ≤ most → most ≤ room_of r → IsPlain most (plan (world_behind r) (room_of r) who made_by) → AreDone (outcomes_of r ((who, made_by) ∷ []))
  one_done made_by most one room p = ((answered_by made_by most one room p).done, tt)

closed_done : (r : Recording) → IsLegal r.limits r.capacity r.history → (who : Who) (k : Kind) (object : ObjectId) → 1 ≤ room_of r → AreDone (outcomes_of r ((who, CloseObject k object) ∷ []))
closed_done r legal who k object room = one_done r legal who (CloseObject k object) 1 (omega arith) room (closes (world_behind r) (room_of r) who k object)

-- an object is set, and closed again where that is refused
set_done : (r : Recording) → IsLegal r.limits r.capacity r.history → (who : Who) (how : Setting) (number : ℕ) → 2 ≤ room_of r → AreDone (outcomes_of r (set_calls r who how number))
set_done r legal who how number room =
    let set : Call = set_call how (object_id number) in
    let a : IsAnswered r who set 1 = answered_by r legal who set 1 (omega arith) (omega (arith, room)) (sets (world_behind r) (room_of r) who how (object_id number)) in
    (a.done, closed (is_refused (outcome_behind r who set)) a)
  where
    closed : (b : Bool) → IsAnswered r who (set_call how (object_id number)) 1 → AreDone (outcomes_of (made r (who, set_call how (object_id number))) (if b then (who, close_call how (object_id number)) ∷ [] else []))
    closed false a = tt
    closed true a =
        let next : Recording = made r (who, set_call how (object_id number)) in
        closed_done next a.legal who (kind_of how) (object_id number) (omega (arith, room, a.room))

-- it is made before
make_done : (r : Recording) → IsLegal r.limits r.capacity r.history → (who : Who) (k : Kind) (routine : RoutineId) (context : ℕ) (env : Environ) (how : Setting) → 3 ≤ room_of r
    → AreDone (outcomes_of r (make_calls r who (Create k routine context env) how))
make_done r legal who k routine context env how room =
    let create : Call = Create k routine context env in
    let a : IsAnswered r who create 1 = answered_by r legal who create 1 (omega arith) (omega (arith, room)) (creates (world_behind r) (room_of r) who k routine context env) in
    (a.done, then_set (number_made (outcome_behind r who create)) a)
  where
    then_set : (o : Option ℕ) → IsAnswered r who (Create k routine context env) 1
        → AreDone (outcomes_of (made r (who, Create k routine context env)) (calls_with o (set_calls (made r (who, Create k routine context env)) who how)))
    then_set None a = tt
    then_set (Some number) a = set_done (made r (who, Create k routine context env)) a.legal who how number (omega (arith, room, a.room))

-- a timer is asked for, and set
change_done : (r : Recording) → IsLegal r.limits r.capacity r.history → (who : Who) (object : ObjectId) (how : Setting) → 2 ≤ room_of r
    → AreDone (outcomes_of r (change_calls who (IsTimerSet object) (set_call how object) (flag_told (outcome_behind r who (IsTimerSet object)))))
change_done r legal who object how room = of_flag (flag_told (outcome_behind r who (IsTimerSet object)))
  where
    a : IsAnswered r who (IsTimerSet object) 1
    a = answered_by r legal who (IsTimerSet object) 1 (omega arith) (omega (arith, room)) (asks (world_behind r) (room_of r) who object)

    of_flag : (flag : Option Bool) → AreDone (outcomes_of r (change_calls who (IsTimerSet object) (set_call how object) flag))
    of_flag None = (a.done, tt)
    of_flag (Some false) = (a.done, tt)
    of_flag (Some true) =
        let next : Recording = made r (who, IsTimerSet object) in
        (a.done, one_done next a.legal who (set_call how object) 1 (omega arith) (omega (arith, room, a.room)) (sets (world_behind next) (room_of next) who how object))

-- a registration is armed anew behind the take of its callback
rearmed_done : (r : Recording) → IsLegal r.limits r.capacity r.history → (o : Old) (who : Who) (object : Option ObjectId) → (is_some object ≡ true → 1 ≤ room_of r) → AreDone (outcomes_of r (rearmed_by o who object))
rearmed_done r legal o who None room = tt
rearmed_done r legal o who (Some object) room = of_row (registration_of o object)
  where
    of_repeated : (b : Bool) (row : Registration) → AreDone (outcomes_of r (if b then (who, set_call (wait_of row) row.object) ∷ [] else []))
    of_repeated false row = tt
    of_repeated true row = one_done r legal who (set_call (wait_of row) row.object) 1 (omega arith) (room refl) (sets (world_behind r) (room_of r) who (wait_of row) row.object)

    of_row : (row : Option Registration) → AreDone (outcomes_of r (rearming who row))
    of_row None = tt
    of_row (Some row) = of_repeated (is_repeated row) row

-- a take that takes leaves the room that it doesn't cost
take_leaves : (r : Recording) → IsLegal r.limits r.capacity r.history → (who : Who) → 3 ≤ room_of r → (told : Outcome) → outcome_behind r who Take ≡ told → is_some (object_taken told) ≡ true → 1 ≤ room_of (made r (who, Take))
take_leaves r legal who room (outcome.Done a) is some = omega (arith, room, room_left r legal who Take 2 (omega arith) (takes (world_behind r) (room_of r) who) a is)
take_leaves r legal who room (outcome.Look look) is some = let no : ⊥ = cc in absurd no
take_leaves r legal who room (outcome.Full left price) is some = let no : ⊥ = cc in absurd no

pool_done : (r : Recording) → IsLegal r.limits r.capacity r.history → (o : Old) (who : Who) (own : Call) → (if is_take own then 3 else 0) ≤ room_of r
    → AreDone (outcomes_of (made r (who, own)) (rearmed_by o who (taken_by own (outcome_behind r who own))))
pool_done r legal o who Take room =
    rearmed_done (made r (who, Take)) (made_on r legal who Take (outcome_behind r who Take) refl).goes_on.legal o who (object_taken (outcome_behind r who Take)) (take_leaves r legal who room (outcome_behind r who Take) refl)
pool_done r legal o who own room = tt

pub rows_done : (s : Stand) (who : Who) (made_by : LegacyCall) → IsLegal s.recording.limits s.recording.capacity s.recording.history → cost_of made_by ≤ room_of s.recording
    → AreDone (of_the_row made_by (outcomes_of s.recording (comes_to s who made_by).calls))
rows_done s who (call.QueueItem routine context long) legal room =
    let env : Environ = record initialized { long = long } in
    one_done s.recording legal who (SubmitSimple routine context env) 1 (omega arith) room (submits (world_behind s.recording) (room_of s.recording) who routine context env)
rows_done s who (call.Register kernel routine context millis once) legal room = make_done s.recording legal who kind.Wait routine context initialized (setting.Wait kernel (timeout_of millis)) room
rows_done s who (call.Unregister registration) legal room = closed_done s.recording legal who kind.Wait (object_of_registration s.old registration) room
rows_done s who call.CreateQueue legal room = one_done s.recording legal who CreateGroup 1 (omega arith) room (creates_group (world_behind s.recording) (room_of s.recording) who)
rows_done s who (call.CreateTimer queue routine context due period) legal room =
    make_done s.recording legal who kind.Timer routine context (record initialized { group = group_of_queue s.old queue }) (setting.Timer (due_in due) period) room
rows_done s who (call.ChangeTimer queue timer due period) legal room = change_done s.recording legal who (object_of_timer s.old timer) (setting.Timer (due_in due) period) room
rows_done s who (call.DeleteTimer queue timer) legal room = closed_done s.recording legal who kind.Timer (object_of_timer s.old timer) room
rows_done s who (call.DeleteQueue queue) legal room =
    let group : GroupId = group_of_queue s.old queue in
    one_done s.recording legal who (BeginClose group false 0) 2 (omega arith) room (begins_close (world_behind s.recording) (room_of s.recording) who group)
rows_done s who (call.Pool own) legal room = pool_done s.recording legal s.old who own room
