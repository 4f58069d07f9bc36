-- The facts of calls that make callbacks at once.
use Rattle.std.proofs.Common.{◌≡◌, ℕ, ◌<◌, ◌∙◌, true, false, not, ◌||◌, length, List, Option, Some, None, refl, ap, arith, ◌^◌, ne_eqb, sym, cond, ◌∷◌, []}
use Rattle.std.specs.Option.{option_map_or}
use Rattle.tp_base.specs.declared.ids.Who.{Who}
use Rattle.tp_base.specs.declared.calls.Kind.{Kind}
use Rattle.tp_base.specs.declared.calls.Kind.TheVariants.{Work, Timer, Wait, Io}
use Rattle.tp_base.specs.declared.ids.ObjectId.{ObjectId}
use Rattle.tp_base.specs.declared.ids.RoutineId.{RoutineId}
use Rattle.tp_base.specs.declared.calls.Environ.{Environ}
use Rattle.tp_base.specs.declared.calls.Call.TheVariants.{SubmitSimple, SubmitWork}
use Rattle.tp_base.specs.declared.answers.Answer.TheVariants as answer
use Rattle.tp_base.specs.declared.plans.Change.TheVariants as change
use Rattle.tp_base.specs.declared.plans.Plan.TheVariants as plan
use Rattle.tp_base.specs.declared.rows.ObjectRow.{ObjectRow}
use Rattle.tp_base.specs.Ranges.{IsCallInRange}
use Rattle.tp_model.specs.World.{World}
use Rattle.tp_model.specs.Counts.{numbered}
use Rattle.tp_model.specs.Conditions.{is_actor, is_pool, is_no_group_or_group, is_object_of, is_same_kind, lacks_slots_for, is_released, is_finished}
use Rattle.tp_model.specs.Refusing.{first_refusal, unless_refused}
use Rattle.tp_model.specs.Calls.Work.{submit_work_refusals, submit, submit_work_plan, submit_simple_refusals, submit_simple_plan, simple_callback}
use Rattle.tp_model.specs.Support.Sound.{IsSound, is_wait_at}
use Rattle.tp_model.specs.Support.Safe.{IsSafe}
use Rattle.tp_model.specs.Support.Remembered.{forget}
use Rattle.tp_model.specs.Support.Ranged.{IsObjectInRange, IsRanged, IsPlanInRange}
use Rattle.tp_model.proofs.Lists.{all_get}
use Rattle.tp_model.proofs.Refusals.{neither, not_false, false_true, made, numbered_some}
use Rattle.tp_model.proofs.Forgetting.{live_again}
use Rattle.tp_model.proofs.Allowed.{safe_unless, row_stands}
use Rattle.tp_model.proofs.Ranged.{ranged_unless}
use Rattle.tp_model.specs.Support.Told.{silent}

-- ---- SubmitWork

-- a work object is no wait object
work_apart : (objects : List ObjectRow) (object : ℕ) → option_map_or (λ (o : ObjectRow). is_same_kind o.kind Work) (numbered objects object) false ≡ true → is_wait_at objects object ≡ false
work_apart objects object work = of_row (numbered objects object) refl work
  where
    of_kind : (kind : Kind) → is_same_kind kind Work ≡ true → is_same_kind kind Wait ≡ false
    of_kind Work e = refl
    of_kind Timer e = absurd (false_true e)
    of_kind Wait e = absurd (false_true e)
    of_kind Io e = absurd (false_true e)

    of_row : (row : Option ObjectRow) → numbered objects object ≡ row → option_map_or (λ (o : ObjectRow). is_same_kind o.kind Work) row false ≡ true → is_wait_at objects object ≡ false
    of_row None is e = absurd (false_true e)
    of_row (Some row) is e = ap (λ (r : Option ObjectRow). option_map_or (λ (o : ObjectRow). is_same_kind o.kind Wait) r false) is ∙ of_kind row.kind e

pub submit_work_safe : (next_number : ℕ) (w : World) (who : Who) (object : ObjectId) → IsSound next_number w → IsSafe next_number w who (SubmitWork object) (submit_work_plan w next_number who object)
unfolding submit_work_plan
submit_work_safe next_number w who object s =
    safe_unless next_number w who (SubmitWork object) (submit_work_refusals w who object.0) _
    (λ none. submits (numbered w.objects object.0) refl (work_apart w.objects object.0 (not_false (is_object_of w Work object.0) none.1.0)) none.1.1.1.1.1.0 (neither (is_finished w who) (is_released w object.0) none.1.1.0).1)
  where
    submits : (row : Option ObjectRow) → numbered w.objects object.0 ≡ row → is_wait_at w.objects object.0 ≡ false → lacks_slots_for w 1 ≡ false → is_released w object.0 ≡ false → IsSafe next_number w who (SubmitWork object) (submit next_number object row)
    submits None is apart fits live = tt
    submits (Some row) is apart fits live =
        let at = numbered_some w.objects object.0 row is in
        let home = all_get (λ (o : ObjectRow). o.env.pool.0 < length w.pools) w.objects _ row s.object_pools at.0 in
        record {
          allowed = record { number = refl; pending = refl; object = λ _. record { row = row; stands = is; home = refl; group = refl; persistent = refl }; home = home; room = fits; stands = λ _. row_stands w.objects object.0 row is live };
          made_by = (apart, refl);
          accepted = refl;
          tells = ap (λ b. record silent { made = next_number ∷ []; queued = next_number ∷ []; simple = cond b (Some (record { group = row.env.group; pool = row.env.pool; persistent = row.env.persistent })) None }) (sym (ne_eqb object.0 0 (λ e. omega (arith, e, at.1))));
        }

pub submit_work_forget : (next_number : ℕ) (w : World) (who : Who) (object : ObjectId) → submit_work_plan (forget w) next_number who object ≡ submit_work_plan w next_number who object
unfolding submit_work_plan
submit_work_forget next_number w who object = ap (λ r. unless_refused r (submit next_number object (numbered w.objects object.0))) refused
  where
    refused : first_refusal (submit_work_refusals (forget w) who object.0) ≡ first_refusal (submit_work_refusals w who object.0)
    refused = rw (live_again w.callbacks)

pub submit_work_ranged : (next_number : ℕ) (w : World) (who : Who) (object : ObjectId) → next_number < 2 ^ 64 → IsRanged w → IsCallInRange (SubmitWork object) → IsPlanInRange (submit_work_plan w next_number who object)
unfolding submit_work_plan
submit_work_ranged next_number w who object few g c =
    ranged_unless (submit_work_refusals w who object.0) _ _ (submits (numbered w.objects object.0) refl)
  where
    submits : (row : Option ObjectRow) → numbered w.objects object.0 ≡ row → IsPlanInRange (submit next_number object row)
    submits None is = tt
    submits (Some row) is =
        let o = all_get IsObjectInRange w.objects _ row g.rows.objects (numbered_some w.objects object.0 row is).0 in
        ((few, omega arith), record { number = few; object = c; routine = o.routine; context = o.context; result = tt })

-- ---- SubmitSimple

pub submit_simple_safe : (next_number : ℕ) (w : World) (who : Who) (routine : RoutineId) (context : ℕ) (env : Environ) → IsSafe next_number w who (SubmitSimple routine context env) (submit_simple_plan w next_number who routine context env)
unfolding submit_simple_plan
submit_simple_safe next_number w who routine context env =
    safe_unless next_number w who (SubmitSimple routine context env) (submit_simple_refusals w who env) _
    (λ none.
    let there = neither (not (is_actor w who) || not (is_pool w env.pool.0)) (not (is_no_group_or_group w env.group.0)) none.0 in
    let home = made w.pools env.pool.0 (not_false (is_pool w env.pool.0) (neither (not (is_actor w who)) (not (is_pool w env.pool.0)) there.0).1) in
    record { allowed = record { number = refl; pending = refl; object = λ named. absurd (named refl); home = home; room = none.1.1.1.1.1.1.0; stands = λ named. absurd (named refl) }; made_by = (refl, refl); accepted = refl; tells = refl })

pub submit_simple_forget : (next_number : ℕ) (w : World) (who : Who) (routine : RoutineId) (context : ℕ) (env : Environ) → submit_simple_plan (forget w) next_number who routine context env ≡ submit_simple_plan w next_number who routine context env
unfolding submit_simple_plan
submit_simple_forget next_number w who routine context env =
    ap (λ r. unless_refused r (plan.Does (answer.Queued next_number 1) (change.QueueCallback (simple_callback next_number routine context env)))) refused
  where
    refused : first_refusal (submit_simple_refusals (forget w) who env) ≡ first_refusal (submit_simple_refusals w who env)
    refused = rw (live_again w.callbacks)

pub submit_simple_ranged : (next_number : ℕ) (w : World) (who : Who) (routine : RoutineId) (context : ℕ) (env : Environ) → next_number < 2 ^ 64 → IsCallInRange (SubmitSimple routine context env) → IsPlanInRange (submit_simple_plan w next_number who routine context env)
unfolding submit_simple_plan
submit_simple_ranged next_number w who routine context env few c =
    ranged_unless (submit_simple_refusals w who env) _ _
    ((few, omega arith), record { number = few; object = omega arith; routine = c.0; context = c.2; result = tt })
