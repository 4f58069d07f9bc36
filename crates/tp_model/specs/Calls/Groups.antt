-- Cleanup groups: CreateThreadpoolCleanupGroup, CloseThreadpoolCleanupGroup, CloseThreadpoolCleanupGroupMembers. BeginClose is
-- the entry of the last, and End its return.
use Rattle.std.specs.Prelude.{ℕ, ◌+◌, Bool, false, not, ◌||◌, ◌==◌, List, [], ◌∷◌, length, is_some}
use Rattle.std.specs.Option.{option_map_or, unwrap_or}
use Rattle.tp_base.specs.declared.ids.Who.{Who}
use Rattle.tp_base.specs.declared.ids.GroupId.{GroupId}
use Rattle.tp_base.specs.declared.answers.Refusal.{Refusal}
use Rattle.tp_base.specs.declared.answers.Refusal.TheVariants.{NoSuch, Released, GroupClosed, NotRunning, InWait, OwnCallback, HasMembers, OperationsOutstanding}
use Rattle.tp_base.specs.declared.answers.Answer.TheVariants as answer
use Rattle.tp_base.specs.declared.plans.Busy.{Busy}
use Rattle.tp_base.specs.declared.plans.Plan.{Plan}
use Rattle.tp_base.specs.declared.plans.Plan.TheVariants.{Does}
use Rattle.tp_base.specs.declared.plans.Change.TheVariants as change
use Rattle.tp_base.specs.declared.rows.WaitTarget.TheVariants.{Group}
use Rattle.tp_model.specs.World.{World}
use Rattle.tp_model.specs.Groups.{is_group, object_id, first_member, has_simple, first_operating, notices_of}
use Rattle.tp_model.specs.Conditions.{is_actor, is_finished, is_closed_group, is_without_callback, is_in_wait, busy_of}
use Rattle.tp_model.specs.Calls.Waits.{count_covered, count_cancelled_by}
use Rattle.tp_model.specs.Refusing.{first_refusal, unless_refused, make}

-- ---- CreateGroup: CreateThreadpoolCleanupGroup

unfoldable pub create_group_plan : World → Who → Plan
create_group_plan w who = make w who [] w.limits.groups (length w.groups) (length w.groups + 1) change.CreateGroup

-- ---- CloseGroup: CloseThreadpoolCleanupGroup

-- the group has a member, or a simple callback is outstanding for it
abbrev pub has_members : World → GroupId → Bool
has_members w group = is_some (first_member w group.0) || has_simple w group

abbrev pub close_group_refusals : World → Who → GroupId → List (Bool × Refusal)
close_group_refusals w who group =
    (not (is_actor w who) || not (is_group w group.0), NoSuch)
    ∷ (is_finished w who, Released)
    ∷ (is_closed_group w group.0, GroupClosed)
    ∷ (is_without_callback w who, NotRunning)
    ∷ (is_in_wait w who, InWait)
    ∷ (has_members w group, HasMembers (object_id (unwrap_or (first_member w group.0) 0)))
    ∷ []

unfoldable pub close_group_plan : World → Who → GroupId → Plan
close_group_plan w who group = unless_refused (first_refusal (close_group_refusals w who group)) (Does answer.Done (change.CloseGroup group))

-- ---- BeginClose: CloseThreadpoolCleanupGroupMembers

-- the actor runs a callback of the group
abbrev pub runs_in_group : World → Who → ℕ → Bool
runs_in_group w who group = option_map_or (λ (by : Busy). by.callback.group.0 == group) (busy_of w who) false

abbrev pub begin_close_refusals : World → Who → ℕ → List (Bool × Refusal)
begin_close_refusals w who group =
    (not (is_actor w who) || not (is_group w group), NoSuch)
    ∷ (is_finished w who, Released)
    ∷ (is_closed_group w group, GroupClosed)
    ∷ (is_without_callback w who, NotRunning)
    ∷ (is_in_wait w who, InWait)
    ∷ (runs_in_group w who group, OwnCallback)
    ∷ (is_some (first_operating w group), OperationsOutstanding (object_id (unwrap_or (first_operating w group) 0)))
    ∷ []

unfoldable pub begin_close_plan : World → Who → GroupId → Bool → ℕ → Plan
begin_close_plan w who group cancel context =
    unless_refused (first_refusal (begin_close_refusals w who group.0))
    (Does
    (answer.Closing (count_covered w (Group group) cancel) (count_cancelled_by w (Group group) cancel) (length (notices_of w group.0 cancel)))
    (change.BeginClose who group cancel context (length (notices_of w group.0 cancel))))
