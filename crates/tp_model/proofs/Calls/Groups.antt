-- The facts of calls on cleanup groups.
use Rattle.std.proofs.Common.{◌≡◌, ℕ, zero, suc, ◌+◌, ◌<◌, ◌≤◌, Bool, true, false, cond, not, ◌&&◌, ◌||◌, ◌==◌, List, [], ◌∷◌, length, Option, Some, None, is_some, refl, sym, ap, ap₂, arith, filter, find}
use Rattle.std.specs.List.{range_with_len}
use Rattle.std.specs.Option.{option_map_or, unwrap_or}
use Rattle.std.proofs.lemmas.List.{length-map}
use Rattle.std.proofs.lemmas.List.FromFn.{length-range_with_len}
use Rattle.tp_base.specs.declared.ids.Who.{Who}
use Rattle.tp_base.specs.declared.ids.GroupId.{GroupId}
use Rattle.tp_base.specs.declared.calls.Call.TheVariants.{CreateGroup, CloseGroup, BeginClose}
use Rattle.tp_base.specs.declared.answers.Answer.TheVariants as answer
use Rattle.tp_base.specs.declared.answers.Refusal.{Refusal}
use Rattle.tp_base.specs.declared.answers.Refusal.TheVariants.{NoSuch, Released, GroupClosed, NotRunning, InWait, OwnCallback, HasMembers, OperationsOutstanding}
use Rattle.tp_base.specs.declared.plans.Busy.{Busy}
use Rattle.tp_base.specs.declared.plans.Change.TheVariants as change
use Rattle.tp_base.specs.declared.plans.Plan.TheVariants as plan
use Rattle.tp_base.specs.declared.rows.CallbackRow.{CallbackRow}
use Rattle.tp_base.specs.declared.rows.WaitTarget.TheVariants.{Group}
use Rattle.tp_base.specs.Ranges.{IsCallInRange}
use Rattle.tp_model.specs.World.{World}
use Rattle.tp_model.specs.Conditions.{is_actor, is_finished, is_closed_group, is_without_callback, is_in_wait, is_operation_of}
use Rattle.tp_model.specs.Groups.{is_group, object_id, objects_that, numbers_in, is_object_that, is_member, gets_notice, first_member, is_simple_of, is_operating_member, first_operating, notices_of}
use Rattle.tp_model.specs.Refusing.{first_refusal, unless_refused}
use Rattle.tp_model.specs.Calls.Waits.{count_cancelled_by}
use Rattle.tp_model.specs.Calls.Groups.{create_group_plan, close_group_refusals, close_group_plan, begin_close_refusals, begin_close_plan}
use Rattle.tp_model.specs.Support.Sound.{IsSound}
use Rattle.tp_model.specs.Support.Safe.{IsSafe}
use Rattle.tp_model.specs.Support.Remembered.{lives, forget}
use Rattle.tp_model.specs.Support.Ranged.{IsRanged, IsPlanInRange}
use Rattle.tp_model.proofs.Lists.{any_filter, find_agree, filter_filter}
use Rattle.tp_model.proofs.Refusals.{neither, not_false, false_true}
use Rattle.tp_model.proofs.Forgetting.{busy_forget, covered_forget, over_not_cancelled, over_not_outstanding}
use Rattle.tp_model.proofs.Allowed.{safe_unless, make_safe}
use Rattle.tp_model.proofs.Ranged.{ranged_unless, make_ranged}
use Rattle.tp_model.proofs.Calls.Objects.{over_not_operation}
use Rattle.tp_model.proofs.Calls.Waits.{begun_ranged}

-- ---- CreateGroup

pub create_group_safe : (next_number : ℕ) (w : World) (who : Who) → IsSafe next_number w who CreateGroup (create_group_plan w who)
unfolding create_group_plan
create_group_safe next_number w who =
    make_safe next_number w who CreateGroup [] w.limits.groups (length w.groups) (length w.groups + 1) change.CreateGroup (λ room. record { allowed = room; made_by = tt; accepted = refl; tells = refl })

pub create_group_forget : (w : World) (who : Who) → create_group_plan (forget w) who ≡ create_group_plan w who
unfolding create_group_plan
create_group_forget w who = refl

pub create_group_ranged : (w : World) (who : Who) → IsRanged w → IsPlanInRange (create_group_plan w who)
unfolding create_group_plan
create_group_ranged w who g =
    make_ranged w who [] w.limits.groups (length w.groups) (length w.groups + 1) change.CreateGroup _ (λ _ room. ((omega arith, omega (arith, room, g.limits.groups_most)), tt))

-- ---- CloseGroup

pub close_group_safe : (next_number : ℕ) (w : World) (who : Who) (group : GroupId) → IsSafe next_number w who (CloseGroup group) (close_group_plan w who group)
unfolding close_group_plan
close_group_safe next_number w who group =
    safe_unless next_number w who (CloseGroup group) (close_group_refusals w who group) _
    (λ none. record { allowed = not_false (is_group w group.0) (neither (not (is_actor w who)) (not (is_group w group.0)) none.0).1; made_by = tt; accepted = refl; tells = refl })

pub close_group_forget : (w : World) (who : Who) (group : GroupId) → close_group_plan (forget w) who group ≡ close_group_plan w who group
unfolding close_group_plan
close_group_forget w who group =
    ap (λ b. unless_refused (first_refusal (with_simple b)) (plan.Does answer.Done (change.CloseGroup group))) (any_filter (is_simple_of group) lives over w.callbacks)
  where
    with_simple : Bool → List (Bool × Refusal)
    with_simple simple =
        (not (is_actor w who) || not (is_group w group.0), NoSuch)
        ∷ (is_finished w who, Released)
        ∷ (is_closed_group w group.0, GroupClosed)
        ∷ (is_without_callback w who, NotRunning)
        ∷ (is_in_wait w who, InWait)
        ∷ (is_some (first_member w group.0) || simple, HasMembers (object_id (unwrap_or (first_member w group.0) 0)))
        ∷ []

    over : (c : CallbackRow) → lives c ≡ false → is_simple_of group c ≡ false
    over c dead = ap (λ b. b && (c.object.0 == 0)) (over_not_outstanding (Group group) c dead)

-- what is found in a range is below its end
found_below : (p : ℕ → Bool) (first count : ℕ) → 1 ≤ first → unwrap_or (find p (range_with_len first count)) 0 < first + count
found_below p first zero least = omega (arith, least)
found_below p first (suc count) least =
    elim (p first) as (λ b. unwrap_or (cond b (Some first) (find p (range_with_len (first + 1) count))) 0 < first + suc count) [
      | true ↦ omega arith
      | false ↦ omega (arith, found_below p (first + 1) count (omega (arith, least)))
    ]

object_few : (w : World) (p : ℕ → Bool) → IsRanged w → unwrap_or (find p (numbers_in w.objects)) 0 ≤ 65535
object_few w p g = omega (arith, found_below p 1 (length w.objects) (omega arith), g.rows.few, g.limits.objects_most)

pub close_group_ranged : (w : World) (who : Who) (group : GroupId) → IsRanged w → IsPlanInRange (close_group_plan w who group)
unfolding close_group_plan
close_group_ranged w who group g =
    ranged_unless (close_group_refusals w who group) _ (tt, (tt, (tt, (tt, (tt, (object_few w (is_object_that (is_member group.0) w.objects) g, tt)))))) (tt, tt)

-- ---- BeginClose

pub begin_close_safe : (next_number : ℕ) (w : World) (who : Who) (group : GroupId) (cancel : Bool) (context : ℕ) → IsSafe next_number w who (BeginClose group cancel context) (begin_close_plan w who group cancel context)
unfolding begin_close_plan
begin_close_safe next_number w who group cancel context =
    safe_unless next_number w who (BeginClose group cancel context) (begin_close_refusals w who group.0) _ (λ none.
    let there = neither (not (is_actor w who)) (not (is_group w group.0)) none.0 in
    record {
      allowed = record { actor = not_false (is_actor w who) there.0; none = none.1.1.1.1.0; made = not_false (is_group w group.0) there.1; idle = none_of (first_operating w group.0) none.1.1.1.1.1.1.0; counted = refl };
      made_by = refl;
      accepted = refl;
      tells = refl;
    })
  where
    none_of : (o : Option ℕ) → is_some o ≡ false → o ≡ None
    none_of None e = refl
    none_of (Some n) e = absurd (false_true (sym e))

pub begin_close_forget : (next_number : ℕ) (w : World) (who : Who) (group : GroupId) (cancel : Bool) (context : ℕ) → IsSound next_number w → begin_close_plan (forget w) who group cancel context ≡ begin_close_plan w who group cancel context
unfolding begin_close_plan
begin_close_forget next_number w who group cancel context s =
    ap₂ (λ r a. unless_refused r (plan.Does a (change.BeginClose who group cancel context (length (notices_of w group.0 cancel)))))
    (ap₂ (λ by operating. first_refusal (with_both by operating)) (busy_forget next_number w who s) operating_forget)
    (ap₂ (λ m n. answer.Closing m n (length (notices_of w group.0 cancel))) (ap length (covered_forget w (Group group) cancel)) cancelled_forget)
  where
    with_both : Option Busy → Option ℕ → List (Bool × Refusal)
    with_both by operating =
        (not (is_actor w who) || not (is_group w group.0), NoSuch)
        ∷ (is_finished w who, Released)
        ∷ (is_closed_group w group.0, GroupClosed)
        ∷ (is_without_callback w who, NotRunning)
        ∷ (is_in_wait w who, InWait)
        ∷ (option_map_or (λ (x : Busy). x.callback.group.0 == group.0) by false, OwnCallback)
        ∷ (is_some operating, OperationsOutstanding (object_id (unwrap_or operating 0)))
        ∷ []

    operating_forget : first_operating (forget w) group.0 ≡ first_operating w group.0
    operating_forget =
        find_agree (is_operating_member (forget w) group.0) (is_operating_member w group.0)
        (λ n. ap (λ b. is_object_that (is_member group.0) w.objects n && b) (any_filter (is_operation_of n) lives (over_not_operation n) w.callbacks)) (numbers_in w.objects)

    cancelled_forget : count_cancelled_by (forget w) (Group group) cancel ≡ count_cancelled_by w (Group group) cancel
    cancelled_forget = ap length (filter_filter _ lives (over_not_cancelled (Group group) cancel) w.callbacks)

-- a close gives no more notices than there are objects
few_notices : (w : World) (group : ℕ) (cancel : Bool) → IsRanged w → length (notices_of w group cancel) ≤ 65535
few_notices w group false g = omega arith
few_notices w group true g =
    omega (
      arith,
      length-map (objects_that (gets_notice group) w.objects) object_id,
      shorter (is_object_that (gets_notice group) w.objects) (numbers_in w.objects),
      length-range_with_len 1 (length w.objects),
      g.rows.few,
      g.limits.objects_most,
    )
  where
    shorter : (p : ℕ → Bool) (ns : List ℕ) → length (filter p ns) ≤ length ns
    shorter p [] = omega arith
    shorter p (n ∷ ns) = elim (p n) as (λ b. length (cond b (n ∷ filter p ns) (filter p ns)) ≤ length (n ∷ ns)) [ true ↦ omega (arith, shorter p ns) | false ↦ omega (arith, shorter p ns) ]

pub begin_close_ranged : (w : World) (who : Who) (group : GroupId) (cancel : Bool) (context : ℕ) → IsRanged w → IsCallInRange (BeginClose group cancel context) → IsPlanInRange (begin_close_plan w who group cancel context)
unfolding begin_close_plan
begin_close_ranged w who group cancel context g c =
    let counts = begun_ranged w (Group group) cancel g in
    ranged_unless (begin_close_refusals w who group.0) _ (tt, (tt, (tt, (tt, (tt, (tt, (object_few w (is_operating_member w group.0) g, tt)))))))
    ((counts.0, counts.1, few_notices w group.0 cancel g), c.1)
