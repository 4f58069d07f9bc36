-- The facts of calls on objects of all kinds.
use Rattle.std.proofs.Common.{◌≡◌, ℕ, true, false, not, ◌||◌, length, Option, Some, None, is_some, refl, sym, ap, ap₂, arith, ◌+◌, ◌&&◌, ◌==◌, ◌∷◌, [], ◌++◌, nat_lt}
use Rattle.std.specs.Option.{option_map_or}
use Rattle.std.proofs.lemmas.Bool.{leb-false}
use Rattle.tp_base.specs.declared.ids.Who.{Who}
use Rattle.tp_base.specs.declared.ids.ObjectId.{ObjectId}
use Rattle.tp_base.specs.declared.ids.RoutineId.{RoutineId}
use Rattle.tp_base.specs.declared.calls.Kind.{Kind}
use Rattle.tp_base.specs.declared.calls.Environ.{Environ}
use Rattle.tp_base.specs.declared.calls.Call.TheVariants.{Create, CloseObject}
use Rattle.tp_base.specs.declared.answers.Answer.TheVariants as answer
use Rattle.tp_base.specs.declared.plans.Change.TheVariants as change
use Rattle.tp_base.specs.declared.plans.Plan.TheVariants as plan
use Rattle.tp_base.specs.declared.answers.Refusal.TheVariants.{OperationsOutstanding}
use Rattle.tp_base.specs.declared.rows.Status.{Status}
use Rattle.tp_base.specs.declared.rows.Status.TheVariants.{Expected, Issued}
use Rattle.tp_base.specs.declared.rows.CallbackRow.{CallbackRow}
use Rattle.tp_base.specs.declared.rows.ObjectRow.{ObjectRow}
use Rattle.tp_base.specs.declared.rows.WaitTarget.TheVariants.{Object}
use Rattle.tp_base.specs.Ranges.{IsCallInRange}
use Rattle.tp_model.specs.World.{World}
use Rattle.tp_model.specs.Counts.{numbered, is_live, is_operating}
use Rattle.tp_model.specs.Conditions.{is_actor, is_pool, is_finished, is_no_group_or_group, is_object, is_released, is_operation_of, has_operations}
use Rattle.tp_model.specs.Refusing.{first_refusal, unless_refused, object_refusals}
use Rattle.tp_model.specs.Sources.{new_object}
use Rattle.tp_model.specs.Calls.Objects.{create_refusals, create_plan, close_object_refusals, close_object_plan}
use Rattle.tp_model.specs.Support.Allowed.{IsUnreleased}
use Rattle.tp_model.specs.Support.Safe.{IsSafe}
use Rattle.tp_model.specs.Support.Remembered.{lives, forget}
use Rattle.tp_model.specs.Support.Ranged.{IsRanged, IsPlanInRange}
use Rattle.tp_model.proofs.Lists.{any_filter}
use Rattle.tp_model.proofs.Refusals.{neither, not_false, made, false_true}
use Rattle.tp_model.proofs.Forgetting.{outstanding_forget}
use Rattle.tp_model.proofs.Allowed.{safe_unless}
use Rattle.tp_model.proofs.Ranged.{ranged_unless, made_ranged}

-- ---- Create

pub create_safe : (next_number : ℕ) (w : World) (who : Who) (kind : Kind) (routine : RoutineId) (context : ℕ) (env : Environ) → IsSafe next_number w who (Create kind routine context env) (create_plan w who kind routine context env)
unfolding create_plan
create_safe next_number w who kind routine context env =
    safe_unless next_number w who (Create kind routine context env) (create_refusals w who env) _
    (λ none.
    let there = neither (not (is_actor w who) || not (is_pool w env.pool.0)) (not (is_no_group_or_group w env.group.0)) none.0 in
    let home = made w.pools env.pool.0 (not_false (is_pool w env.pool.0) (neither (not (is_actor w who)) (not (is_pool w env.pool.0)) there.0).1) in
    record { allowed = record { unreleased = refl; home = home; room = leb-false w.limits.objects (length w.objects) none.1.1.1.1.1.1.0 }; made_by = tt; accepted = refl; tells = refl })

pub create_forget : (w : World) (who : Who) (kind : Kind) (routine : RoutineId) (context : ℕ) (env : Environ) → create_plan (forget w) who kind routine context env ≡ create_plan w who kind routine context env
unfolding create_plan
create_forget w who kind routine context env = refl

pub create_ranged : (w : World) (who : Who) (kind : Kind) (routine : RoutineId) (context : ℕ) (env : Environ) → IsRanged w → IsCallInRange (Create kind routine context env) → IsPlanInRange (create_plan w who kind routine context env)
unfolding create_plan
create_ranged w who kind routine context env g c =
    made_ranged (create_refusals w who env) (plan.Does (answer.Made (length w.objects + 1)) (change.CreateObject (new_object kind routine context env))) _
    (λ none. ((omega arith, omega (arith, leb-false w.limits.objects (length w.objects) none.1.1.1.1.1.1.0, g.limits.objects_most)), record { routine = c.0; context = c.2; cancel = c.1.cancel_most }))

-- ---- CloseObject

-- the object of the number stands and isn't released
unreleased : (w : World) (object : ObjectId) → is_object w object.0 ≡ true → is_released w object.0 ≡ false → has_operations w object.0 ≡ false → IsUnreleased w object
unreleased w object there live idle = of_row (numbered w.objects object.0) refl there live
  where
    of_row : (row : Option ObjectRow) → numbered w.objects object.0 ≡ row → is_some row ≡ true → option_map_or (λ (o : ObjectRow). o.released) row false ≡ false → IsUnreleased w object
    of_row None is h l = absurd (false_true h)
    of_row (Some row) is h l = record { row = row; stands = is; unreleased = l; idle = idle }

pub close_object_safe : (next_number : ℕ) (w : World) (who : Who) (kind : Kind) (object : ObjectId) → IsSafe next_number w who (CloseObject kind object) (close_object_plan w who kind object)
unfolding close_object_plan
close_object_safe next_number w who kind object =
    safe_unless next_number w who (CloseObject kind object) (close_object_refusals w who kind object) _
    (λ none.
    let there = not_false (is_object w object.0) (neither (not (is_actor w who)) (not (is_object w object.0)) none.0).1 in
    let live = (neither (is_finished w who) (is_released w object.0) none.1.1.0).1 in
    record { allowed = unreleased w object there live none.1.1.1.1.1.0; made_by = tt; accepted = refl; tells = refl })

-- what is over has no operation under way
pub over_not_operation : (object : ℕ) (c : CallbackRow) → lives c ≡ false → is_operation_of object c ≡ false
over_not_operation object c dead = ap (λ b. b && (c.object.0 == object)) (idle c.status dead)
  where
    idle : (s : Status) → is_live s ≡ false → is_operating s ≡ false
    idle Expected e = absurd (false_true (sym e))
    idle Issued e = absurd (false_true (sym e))
    idle _ e = refl

pub close_object_forget : (w : World) (who : Who) (kind : Kind) (object : ObjectId) → close_object_plan (forget w) who kind object ≡ close_object_plan w who kind object
unfolding close_object_plan
close_object_forget w who kind object =
    ap₂ (λ b n. unless_refused (first_refusal (object_refusals w who kind object.0 ++ (b, OperationsOutstanding object) ∷ [])) (plan.Does (answer.Closed (nat_lt 0 n)) (change.ReleaseObject object)))
    (any_filter (is_operation_of object.0) lives (over_not_operation object.0) w.callbacks) (outstanding_forget w (Object object))

pub close_object_ranged : (w : World) (who : Who) (kind : Kind) (object : ObjectId) → IsCallInRange (CloseObject kind object) → IsPlanInRange (close_object_plan w who kind object)
unfolding close_object_plan
close_object_ranged w who kind object c = ranged_unless (close_object_refusals w who kind object) _ (tt, (tt, (tt, (tt, (tt, (c, tt)))))) (tt, tt)
