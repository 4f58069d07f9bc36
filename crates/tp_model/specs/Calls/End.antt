-- End: the return of a function that waits.
use Rattle.std.specs.Prelude.{ℕ, Bool, not, List, [], ◌∷◌, is_none, if◌then◌else◌}
use Rattle.tp_base.specs.declared.ids.Who.{Who}
use Rattle.tp_base.specs.declared.answers.Look.{Look}
use Rattle.tp_base.specs.declared.answers.Refusal.{Refusal}
use Rattle.tp_base.specs.declared.answers.Refusal.TheVariants.{NoSuch, Released, NotRunning, NoWaitBegun}
use Rattle.tp_base.specs.declared.answers.Answer.TheVariants as answer
use Rattle.tp_base.specs.declared.plans.WaitEnd.TheVariants.{Stalled}
use Rattle.tp_base.specs.declared.plans.Plan.{Plan}
use Rattle.tp_base.specs.declared.plans.Plan.TheVariants.{Refused, Looked, Does}
use Rattle.tp_base.specs.declared.plans.Change.TheVariants as change
use Rattle.tp_model.specs.World.{World}
use Rattle.tp_model.specs.Conditions.{is_actor, is_finished, is_without_callback}
use Rattle.tp_model.specs.Waits.{wait_of}
use Rattle.tp_model.specs.Refusing.{first_refusal, unless_refused}
use Rattle.tp_model.specs.Calls.Waits.{end_wait}
use Rattle.tp_model.specs.Stalled.{is_stalled}

abbrev pub end_refusals : World → Who → List (Bool × Refusal)
end_refusals w who =
    (not (is_actor w who), NoSuch)
    ∷ (is_finished w who, Released)
    ∷ (is_without_callback w who, NotRunning)
    ∷ (is_none (wait_of w who), NoWaitBegun)
    ∷ []

abbrev pub stall_or_look : World → ℕ → Who → Look → Plan
stall_or_look w room who seen = if is_stalled w room then Does answer.Stalled (change.EndWait who Stalled) else Looked seen

-- a wait that can't end yet ends nevertheless where nobody can go on
abbrev pub end_unless_stalled : World → ℕ → Who → Plan → Plan
end_unless_stalled w room who (Looked seen) = stall_or_look w room who seen
end_unless_stalled w room who (Refused refusal) = Refused refusal
end_unless_stalled w room who (Does told how) = Does told how

unfoldable pub end_plan : World → ℕ → Who → Plan
end_plan w room who = unless_refused (first_refusal (end_refusals w who)) (end_unless_stalled w room who (end_wait w room who (wait_of w who)))
