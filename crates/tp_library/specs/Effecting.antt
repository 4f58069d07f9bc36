-- What an answer says of what is kept beside a machine.
use Rattle.std.specs.Prelude.{ℕ}
use Rattle.tp_base.specs.declared.answers.Answer.{Answer}
use Rattle.tp_base.specs.declared.answers.Answer.TheVariants as answer
use Rattle.tp_base.specs.declared.calls.Call.{Call}
use Rattle.tp_base.specs.declared.calls.Call.TheVariants.{BeginClose, BeginWait, CancelIo, CloseObject, Create, Finish, SubmitSimple}
use Rattle.tp_library.specs.declared.told.Effect.{Effect}
use Rattle.tp_library.specs.declared.told.Effect.TheVariants.{Nothing, Makes, Releases, Closes, Cancels, Submits, Takes, Returns, Finishes}

abbrev pub of_done : Call → Effect
of_done Finish = Finishes
of_done call = Nothing

abbrev pub of_made : Call → Effect
of_made (Create kind routine context env) = Makes env.group
of_made call = Nothing

abbrev pub of_queued : Call → ℕ → Effect
of_queued (SubmitSimple routine context env) callback = Submits callback
of_queued call callback = Nothing

abbrev pub of_closed : Call → Effect
of_closed (CloseObject kind object) = Releases object
of_closed call = Nothing

abbrev pub of_closing : Call → ℕ → Effect
of_closing (BeginClose group cancel context) cancelled = Closes group cancelled
of_closing call cancelled = Nothing

abbrev pub of_begun : Call → ℕ → Effect
of_begun (BeginWait kind object cancel) count = Cancels object count
of_begun call count = Nothing

abbrev pub of_cancelled : Call → Effect
of_cancelled (CancelIo object) = Cancels object 1
of_cancelled call = Nothing

abbrev pub effect_of : Call → Answer → Effect
effect_of call answer.Done = of_done call
effect_of call (answer.Made number) = of_made call
effect_of call (answer.Queued first count) = of_queued call first
effect_of call (answer.Closed later) = of_closed call
effect_of call (answer.Closing covered cancelled notices) = of_closing call cancelled
effect_of call (answer.Begun covered cancelled) = of_begun call cancelled
effect_of call (answer.Cancelled callback) = of_cancelled call
effect_of call (answer.Taken callback object routine context result) = Takes callback object
effect_of call (answer.Returned section mutex semaphore event first count) = Returns
effect_of call told = Nothing
