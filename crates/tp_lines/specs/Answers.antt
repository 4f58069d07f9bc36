-- The rows of answers, looks and full, and the lines of entries.
use Rattle.std.specs.Prelude.{◌≡◌, ℕ, true, false, List, [], ◌∷◌, ◌++◌, codes}
use Rattle.line_grammar.specs.Language.{AnyOf}
use Rattle.tp_base.specs.declared.answers.Answer.{Answer}
use Rattle.tp_base.specs.declared.answers.Answer.TheVariants as answer
use Rattle.tp_base.specs.declared.answers.Entry.{Entry}
use Rattle.tp_base.specs.declared.answers.Look.{Look}
use Rattle.tp_base.specs.declared.answers.Look.TheVariants as look
use Rattle.tp_base.specs.declared.answers.Outcome.{Outcome}
use Rattle.tp_base.specs.declared.answers.Outcome.TheVariants as outcome
use Rattle.tp_base.specs.declared.answers.Refusal.{Refusal}
use Rattle.tp_base.specs.declared.answers.Refusal.TheVariants as refusal
use Rattle.tp_base.specs.declared.answers.TakeResult.{TakeResult}
use Rattle.tp_base.specs.declared.answers.TakeResult.TheVariants as taken
use Rattle.tp_lines.specs.declared.parts.Part.{Part}
use Rattle.tp_lines.specs.declared.parts.Part.TheVariants as part
use Rattle.tp_lines.specs.declared.words.Field.TheVariants as field
use Rattle.tp_lines.specs.declared.words.Word.{Word}
use Rattle.tp_lines.specs.declared.words.Word.TheVariants as word
use Rattle.tp_lines.specs.Calls.{FitsCall, IsWhoInRange, line_of_call}
use Rattle.tp_lines.specs.Parts.{AreFit, parts_of, row_text}

-- with what a callback is called
abbrev pub row_of_result : TakeResult → Word × List Part
row_of_result taken.Plain = (word.Plain, [])
row_of_result taken.WaitObject0 = (word.Object, [])
row_of_result taken.WaitTimeout = (word.Timeout, [])
row_of_result (taken.Io error bytes) = (word.Io, part.Small error ∷ part.Large bytes ∷ [])

-- why a call was refused
abbrev pub row_of_refusal : Refusal → Word × List Part
row_of_refusal refusal.NoSuch = (word.NoSuch, [])
row_of_refusal refusal.WrongKind = (word.WrongKind, [])
row_of_refusal refusal.Released = (word.Released, [])
row_of_refusal refusal.PoolClosed = (word.PoolClosed, [])
row_of_refusal refusal.GroupClosed = (word.GroupClosed, [])
row_of_refusal refusal.DefaultPool = (word.DefaultPool, [])
row_of_refusal refusal.NotWorker = (word.NotWorker, [])
row_of_refusal refusal.NotRunning = (word.NotRunning, [])
row_of_refusal refusal.StillRunning = (word.StillRunning, [])
row_of_refusal refusal.InWait = (word.InWait, [])
row_of_refusal refusal.NoWaitBegun = (word.NoWaitBegun, [])
row_of_refusal refusal.OwnCallback = (word.OwnCallback, [])
row_of_refusal (refusal.HasMembers object) = (word.HasMembers, part.Short object.0 ∷ [])
row_of_refusal refusal.NotStarted = (word.NotStarted, [])
row_of_refusal refusal.NoOperation = (word.NoOperation, [])
row_of_refusal (refusal.OperationsOutstanding io) = (word.OperationsOutstanding, part.Short io.0 ∷ [])
row_of_refusal (refusal.SlotTaken kind) = (word.SlotTaken, part.Word (word.Action kind) ∷ [])
row_of_refusal refusal.NotOwner = (word.NotOwner, [])
row_of_refusal (refusal.OverMaximum count) = (word.OverMaximum, part.Level count ∷ [])
row_of_refusal refusal.NotWaitable = (word.NotWaitable, [])
row_of_refusal refusal.ClockEnd = (word.ClockEnd, [])
row_of_refusal refusal.ObjectLimit = (word.ObjectLimit, [])
row_of_refusal refusal.CallbackLimit = (word.CallbackLimit, [])
row_of_refusal refusal.NotAttached = (word.NotAttached, [])
row_of_refusal refusal.AlreadyAttached = (word.AlreadyAttached, [])

-- the word and the parts of an answer
abbrev pub row_of_answer : Answer → Word × List Part
row_of_answer answer.Done = (word.Done, [])
row_of_answer (answer.Made number) = (word.Made, part.Made number ∷ [])
row_of_answer (answer.Queued first count) = (word.Queued, part.Large first ∷ part.Short count ∷ [])
row_of_answer (answer.WasSet was first count) = (word.Was, part.Word (word.YesNo was) ∷ part.Large first ∷ part.Short count ∷ [])
row_of_answer (answer.Flag value) = (word.Flag, part.Word (word.YesNo value) ∷ [])
row_of_answer (answer.Closed true) = (word.Later, [])
row_of_answer (answer.Closed false) = (word.Freed, [])
row_of_answer (answer.Closing covered cancelled notices) = (word.Closing, part.Short covered ∷ part.Short cancelled ∷ part.Short notices ∷ [])
row_of_answer (answer.Begun covered cancelled) = (word.Begun, part.Short covered ∷ part.Short cancelled ∷ [])
row_of_answer answer.Ended = (word.Ended, [])
row_of_answer answer.Exhausted = (word.Exhausted, [])
row_of_answer answer.Stalled = (word.Stalled, [])
row_of_answer (answer.Notice object routine context cleanup) = (word.Notice, part.Origin object.0 ∷ part.Routine routine.0 ∷ part.Context context ∷ part.Cleanup cleanup ∷ [])
row_of_answer (answer.Started callback) = (word.Started, part.Large callback ∷ [])
row_of_answer (answer.Operation callback) = (word.Operation, part.Large callback ∷ [])
row_of_answer (answer.Cancelled callback) = (word.Cancelled, part.Large callback ∷ [])
row_of_answer (answer.Count previous first count) = (word.Count, part.Level previous ∷ part.Large first ∷ part.Short count ∷ [])
row_of_answer (answer.Advanced now first count) = (word.Advanced, part.Time now ∷ part.Large first ∷ part.Short count ∷ [])
row_of_answer (answer.Attached pool) = (word.Attached, part.Short pool.0 ∷ [])
row_of_answer (answer.Taken callback object routine context result) = (word.Taken, part.Large callback ∷ part.Origin object.0 ∷ part.Routine routine.0 ∷ part.Context context ∷ parts_of (row_of_result result))
row_of_answer (answer.Returned section mutex semaphore event first count) = (word.Returned, part.Word (word.Slot section) ∷ part.Word (word.Slot mutex) ∷ part.Word (word.Slot semaphore) ∷ part.Word (word.Slot event) ∷ part.Large first ∷ part.Short count ∷ [])
row_of_answer (answer.Refused refusal) = (word.Refused, parts_of (row_of_refusal refusal))

abbrev pub row_of_state : Look → Word × List Part
row_of_state (look.NotYet callback) = (word.NotYet, part.Word word.Callback ∷ part.Large callback ∷ [])
row_of_state (look.NotYetKernel kernel) = (word.NotYet, part.Word word.Kernel ∷ part.Short kernel.0 ∷ [])
row_of_state look.Empty = (word.Empty, [])
row_of_state (look.AtMaximum running) = (word.AtMaximum, part.Short running ∷ [])
row_of_state look.NoNeed = (word.NoNeed, [])
row_of_state look.Stay = (word.Stay, [])

abbrev pub row_of_look : Look → Word × List Part
row_of_look seen = (word.Look, parts_of (row_of_state seen))

abbrev pub row_of_full : ℕ → ℕ → Word × List Part
row_of_full room cost = (word.Full, part.Large room ∷ part.Large cost ∷ [])

abbrev pub text_of_answer : Answer → List ℕ
text_of_answer given = row_text (row_of_answer given)

abbrev pub text_of_look : Look → List ℕ
text_of_look seen = row_text (row_of_look seen)

abbrev pub text_of_full : ℕ → ℕ → List ℕ
text_of_full room cost = row_text (row_of_full room cost)

abbrev pub text_of_outcome : Outcome → List ℕ
text_of_outcome (outcome.Done given) = text_of_answer given
text_of_outcome (outcome.Look seen) = text_of_look seen
text_of_outcome (outcome.Full room cost) = text_of_full room cost

-- the line of an entry, without its line feed
abbrev pub line_of_entry : Entry → List ℕ
line_of_entry entry = line_of_call entry.who entry.call ++ codes " -> " ++ text_of_answer entry.answer

-- a line can have the numbers and words of the answer
abbrev pub FitsAnswer : Answer → Type 0
FitsAnswer given = AreFit (field.Answer ∷ []) (parts_of (row_of_answer given))

-- a text can have the numbers and words of the outcome
abbrev pub FitsOutcome : Outcome → Type 0
FitsOutcome (outcome.Done given) = FitsAnswer given
FitsOutcome (outcome.Look seen) = AreFit (field.Look ∷ []) (parts_of (row_of_look seen))
FitsOutcome (outcome.Full room cost) = AreFit (field.Look ∷ []) (parts_of (row_of_full room cost))

-- the text is the line of this entry, and a line can have its numbers
pub record IsEntryLine (entry : Entry) (text : List ℕ) : Type 0 where
  pub who_in_range : IsWhoInRange entry.who
  pub call_in_range : FitsCall entry.call
  pub answer_in_range : FitsAnswer entry.answer
  pub split : text ≡ line_of_entry entry

abbrev pub EntryLines : Entry → List ℕ → Type 0
EntryLines entry text = IsEntryLine entry text

abbrev pub IsEntry : List ℕ → Type 0
IsEntry = AnyOf EntryLines
