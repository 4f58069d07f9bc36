-- What End comes to, as far as a wait has come, is what the definitions say.
use Rattle.std.proofs.Common.{◌≡◌, ℕ, Bool, true, false, not, is_none, cond, List, [], ◌∷◌, Option, None, Some, refl}
use Rattle.tp_base.specs.declared.ids.ObjectId.{ObjectId}
use Rattle.tp_base.specs.declared.ids.Who.{Who}
use Rattle.tp_base.specs.declared.answers.Answer.TheVariants as answer
use Rattle.tp_base.specs.declared.answers.Refusal.TheVariants.{NoSuch, NoWaitBegun, NotRunning, Released}
use Rattle.tp_base.specs.declared.answers.Look.TheVariants as look
use Rattle.tp_base.specs.declared.plans.WaitEnd.TheVariants as how
use Rattle.tp_base.specs.declared.rows.WaitTarget.{WaitTarget}
use Rattle.tp_base.specs.declared.rows.WaitTarget.TheVariants.{Object, Group, Kernel}
use Rattle.tp_base.specs.declared.plans.Plan.TheVariants.{Looked, Does}
use Rattle.tp_base.specs.declared.plans.Change.TheVariants as change
use Rattle.world_reads.specs.declared.waiting.Progress.TheVariants.{Starved, Holds}
use Rattle.tp_model.specs.World.{World, BegunWait}
use Rattle.tp_model.specs.Waits.{held, wait_of}
use Rattle.tp_model.specs.Calls.Waits.{holds_starved, end_notices, end_held, end_for, end_wait}
use Rattle.tp_model.specs.Calls.End.{end_refusals, end_unless_stalled}
use Rattle.tp_model.specs.Conditions.{is_actor, is_finished, is_without_callback}
use Rattle.tp_model.specs.Refusing.{first_refusal, unless_refused}
use Rattle.world_reads.specs.Progress.{progress_left, progress_with, progress_for, progress_in, progress_of}
use Rattle.pool_plans.specs.Ending.{end_at}

with_left : (w : World) (room : ℕ) (who : Who) (cleanup : ℕ) (notices : List ObjectId) → end_at w room who (progress_left w cleanup notices) ≡ end_unless_stalled w room who (end_notices w who cleanup notices)
with_left w room who cleanup [] = refl
with_left w room who cleanup (o ∷ os) = refl

with_held : (w : World) (room : ℕ) (who : Who) (b : BegunWait) (numbers : List ℕ) → end_at w room who (progress_with w room b numbers) ≡ end_unless_stalled w room who (end_held w room who b numbers)
with_held w room who b [] = with_left w room who b.cleanup b.notices
with_held w room who b (n ∷ ns) =
    elim (holds_starved w room (n ∷ ns)) as (λ b. end_at w room who (cond b Starved (Holds n)) ≡ end_unless_stalled w room who (cond b (Does answer.Exhausted (change.EndWait who how.Exhausted)) (Looked (look.NotYet n)))) [ true ↦ refl | false ↦ refl ]

pub ends_at : (w : World) (room : ℕ) (who : Who) → end_at w room who (progress_of w room who) ≡ end_unless_stalled w room who (end_wait w room who (wait_of w who))
ends_at w room who = known (wait_of w who)
  where
    for_target : (b : BegunWait) (target : WaitTarget) → end_at w room who (progress_for w room b target) ≡ end_unless_stalled w room who (end_for w room who b target)
    for_target b (Object object) = with_held w room who b (held w b)
    for_target b (Group group) = with_held w room who b (held w b)
    for_target b (Kernel kernel) = refl

    known : (o : Option BegunWait) → end_at w room who (progress_in w room o) ≡ end_unless_stalled w room who (end_wait w room who o)
    known None = refl
    known (Some b) = for_target b b.target

-- whether a wait is begun needn't be asked before how far it has come
pub refused_last : (w : World) (room : ℕ) (who : Who)
    → unless_refused (first_refusal (end_refusals w who)) (end_at w room who (progress_of w room who))
    ≡ unless_refused (first_refusal ((not (is_actor w who), NoSuch) ∷ (is_finished w who, Released) ∷ (is_without_callback w who, NotRunning) ∷ [])) (end_at w room who (progress_of w room who))
refused_last w room who = by (not (is_actor w who)) (is_finished w who) (is_without_callback w who) (wait_of w who)
  where
    by : (stranger finished idle : Bool) (wait : Option BegunWait)
        → unless_refused (first_refusal ((stranger, NoSuch) ∷ (finished, Released) ∷ (idle, NotRunning) ∷ (is_none wait, NoWaitBegun) ∷ [])) (end_at w room who (progress_in w room wait))
        ≡ unless_refused (first_refusal ((stranger, NoSuch) ∷ (finished, Released) ∷ (idle, NotRunning) ∷ [])) (end_at w room who (progress_in w room wait))
    by true finished idle wait = refl
    by false true idle wait = refl
    by false false true wait = refl
    by false false false None = refl
    by false false false (Some b) = refl
