-- The answers of rows.
use Rattle.std.specs.Prelude.{ℕ, true, false, List, Option, Some, None}
use Rattle.line_grammar.specs.Parts.{Led}
use Rattle.tp_base.specs.declared.answers.Answer.{Answer}
use Rattle.tp_base.specs.declared.answers.Answer.TheVariants as answer
use Rattle.tp_base.specs.declared.answers.Refusal.{Refusal}
use Rattle.tp_base.specs.declared.answers.Refusal.TheVariants as refusal
use Rattle.tp_base.specs.declared.answers.TakeResult.{TakeResult}
use Rattle.tp_base.specs.declared.answers.TakeResult.TheVariants as taken
use Rattle.tp_lines.specs.declared.parts.Part.{Part}
use Rattle.tp_lines.specs.declared.words.Field.TheVariants as field
use Rattle.tp_lines.specs.declared.words.Word.{Word}
use Rattle.tp_lines.specs.declared.words.Word.TheVariants as word
use Rattle.tp_lines.specs.Answers.{row_of_answer}
use Rattle.tp_lines.specs.Rows.{RowTexts}
use Rattle.tp_lines.specs.Values.{part_at, small_of, large_of, word_of, flag_of, slot_of, action_of}

-- the result of a row that stands behind four parts of an answer
abbrev pub result_at : Word → List Part → Option TakeResult
result_at word.Plain parts = Some taken.Plain
result_at word.Object parts = Some taken.WaitObject0
result_at word.Timeout parts = Some taken.WaitTimeout
result_at word.Io parts = Some (taken.Io (small_of (part_at parts 6)) (large_of (part_at parts 7)))
result_at _ parts = None

-- the refusal of a row that stands behind the word of an answer
abbrev pub refusal_at : Word → List Part → Option Refusal
refusal_at word.NoSuch parts = Some refusal.NoSuch
refusal_at word.WrongKind parts = Some refusal.WrongKind
refusal_at word.Released parts = Some refusal.Released
refusal_at word.PoolClosed parts = Some refusal.PoolClosed
refusal_at word.GroupClosed parts = Some refusal.GroupClosed
refusal_at word.DefaultPool parts = Some refusal.DefaultPool
refusal_at word.NotWorker parts = Some refusal.NotWorker
refusal_at word.NotRunning parts = Some refusal.NotRunning
refusal_at word.StillRunning parts = Some refusal.StillRunning
refusal_at word.InWait parts = Some refusal.InWait
refusal_at word.NoWaitBegun parts = Some refusal.NoWaitBegun
refusal_at word.OwnCallback parts = Some refusal.OwnCallback
refusal_at word.HasMembers parts = Some (refusal.HasMembers (record { 0 = small_of (part_at parts 2) }))
refusal_at word.NotStarted parts = Some refusal.NotStarted
refusal_at word.NoOperation parts = Some refusal.NoOperation
refusal_at word.OperationsOutstanding parts = Some (refusal.OperationsOutstanding (record { 0 = small_of (part_at parts 2) }))
refusal_at word.SlotTaken parts = Some (refusal.SlotTaken (action_of (part_at parts 2)))
refusal_at word.NotOwner parts = Some refusal.NotOwner
refusal_at word.OverMaximum parts = Some (refusal.OverMaximum (small_of (part_at parts 2)))
refusal_at word.NotWaitable parts = Some refusal.NotWaitable
refusal_at word.ClockEnd parts = Some refusal.ClockEnd
refusal_at word.ObjectLimit parts = Some refusal.ObjectLimit
refusal_at word.CallbackLimit parts = Some refusal.CallbackLimit
refusal_at word.NotAttached parts = Some refusal.NotAttached
refusal_at word.AlreadyAttached parts = Some refusal.AlreadyAttached
refusal_at _ parts = None

abbrev pub taken_with : List Part → Option TakeResult → Option Answer
taken_with parts (Some result) =
    Some (answer.Taken (large_of (part_at parts 1)) (record { 0 = small_of (part_at parts 2) }) (record { 0 = small_of (part_at parts 3) }) (large_of (part_at parts 4)) result)
taken_with parts None = None

abbrev pub refused_for : Option Refusal → Option Answer
refused_for (Some why) = Some (answer.Refused why)
refused_for None = None

-- the answer of a row, whose word stands at index 0
abbrev pub answer_at : Word → List Part → Option Answer
answer_at word.Done parts = Some answer.Done
answer_at word.Made parts = Some (answer.Made (small_of (part_at parts 1)))
answer_at word.Queued parts = Some (answer.Queued (large_of (part_at parts 1)) (small_of (part_at parts 2)))
answer_at word.Was parts = Some (answer.WasSet (flag_of (part_at parts 1)) (large_of (part_at parts 2)) (small_of (part_at parts 3)))
answer_at word.Flag parts = Some (answer.Flag (flag_of (part_at parts 1)))
answer_at word.Later parts = Some (answer.Closed true)
answer_at word.Freed parts = Some (answer.Closed false)
answer_at word.Closing parts = Some (answer.Closing (small_of (part_at parts 1)) (small_of (part_at parts 2)) (small_of (part_at parts 3)))
answer_at word.Begun parts = Some (answer.Begun (small_of (part_at parts 1)) (small_of (part_at parts 2)))
answer_at word.Ended parts = Some answer.Ended
answer_at word.Exhausted parts = Some answer.Exhausted
answer_at word.Stalled parts = Some answer.Stalled
answer_at word.Notice parts = Some (answer.Notice (record { 0 = small_of (part_at parts 1) }) (record { 0 = small_of (part_at parts 2) }) (large_of (part_at parts 3)) (large_of (part_at parts 4)))
answer_at word.Started parts = Some (answer.Started (large_of (part_at parts 1)))
answer_at word.Operation parts = Some (answer.Operation (large_of (part_at parts 1)))
answer_at word.Cancelled parts = Some (answer.Cancelled (large_of (part_at parts 1)))
answer_at word.Count parts = Some (answer.Count (small_of (part_at parts 1)) (large_of (part_at parts 2)) (small_of (part_at parts 3)))
answer_at word.Advanced parts = Some (answer.Advanced (large_of (part_at parts 1)) (large_of (part_at parts 2)) (small_of (part_at parts 3)))
answer_at word.Attached parts = Some (answer.Attached (record { 0 = small_of (part_at parts 1) }))
answer_at word.Taken parts = taken_with parts (result_at (word_of (part_at parts 5)) parts)
answer_at word.Returned parts = Some (answer.Returned (slot_of (part_at parts 1)) (slot_of (part_at parts 2)) (slot_of (part_at parts 3)) (slot_of (part_at parts 4)) (large_of (part_at parts 5)) (small_of (part_at parts 6)))
answer_at word.Refused parts = refused_for (refusal_at (word_of (part_at parts 1)) parts)
answer_at _ parts = None

-- the texts of answers with the space before them
abbrev pub AnswerTexts : Answer → List ℕ → Type 0
AnswerTexts = RowTexts field.Answer row_of_answer

-- an arrow, and an answer behind it
abbrev pub ArrowTexts : Answer → List ℕ → Type 0
ArrowTexts = Led 32 (Led 45 (Led 62 AnswerTexts))
