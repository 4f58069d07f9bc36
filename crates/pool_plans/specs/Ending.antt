-- What End comes to, as far as a wait has come.
use Rattle.std.specs.Prelude.{ℕ}
use Rattle.tp_base.specs.declared.ids.Who.{Who}
use Rattle.tp_base.specs.declared.answers.Refusal.TheVariants.{NoWaitBegun}
use Rattle.tp_base.specs.declared.answers.Answer.TheVariants as answer
use Rattle.tp_base.specs.declared.answers.Look.TheVariants as look
use Rattle.tp_base.specs.declared.plans.WaitEnd.TheVariants as how
use Rattle.tp_base.specs.declared.plans.Plan.{Plan}
use Rattle.tp_base.specs.declared.plans.Plan.TheVariants.{Refused, Does}
use Rattle.tp_base.specs.declared.plans.Change.TheVariants as change
use Rattle.world_reads.specs.declared.waiting.Progress.{Progress}
use Rattle.world_reads.specs.declared.waiting.Progress.TheVariants.{NotBegun, Free, Notifies, Starved, Holds, Acquires}
use Rattle.tp_model.specs.World.{World}
use Rattle.tp_model.specs.Calls.Waits.{end_acquire}
use Rattle.tp_model.specs.Calls.End.{end_unless_stalled, stall_or_look}

abbrev pub end_at : World → ℕ → Who → Progress → Plan
end_at w room who NotBegun = Refused NoWaitBegun
end_at w room who Free = Does answer.Ended (change.EndWait who how.Free)
end_at w room who (Notifies object routine context cleanup) = Does (answer.Notice object routine context cleanup) (change.GiveNotice who)
end_at w room who Starved = Does answer.Exhausted (change.EndWait who how.Exhausted)
end_at w room who (Holds callback) = stall_or_look w room who (look.NotYet callback)
end_at w room who (Acquires kernel) = end_unless_stalled w room who (end_acquire w who kernel)
