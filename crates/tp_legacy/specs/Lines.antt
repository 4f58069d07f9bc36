-- The lines of calls of the pool before Vista.
use Rattle.std.specs.Prelude.{◌≡◌, ℕ, List, [], ◌∷◌, ◌++◌, codes, decimal, map}
use Rattle.line_grammar.specs.Parts.{Pairs}
use Rattle.line_grammar.specs.Traces.{trace_text}
use Rattle.recorded.specs.ProgramLimits.{program_limits}
use Rattle.tp_base.specs.declared.answers.Outcome.TheVariants as outcome
use Rattle.tp_base.specs.declared.ids.RoutineId.{RoutineId}
use Rattle.tp_base.specs.declared.ids.Who.{Who}
use Rattle.tp_lines.specs.declared.parts.Part.{Part}
use Rattle.tp_lines.specs.declared.parts.Part.TheVariants as part
use Rattle.tp_lines.specs.declared.words.Field.{Field}
use Rattle.tp_lines.specs.declared.words.Field.TheVariants as field
use Rattle.tp_lines.specs.declared.words.Word.{Word}
use Rattle.tp_lines.specs.declared.words.Word.TheVariants as word
use Rattle.tp_lines.specs.Answers.{text_of_outcome}
use Rattle.tp_lines.specs.Calls.{row_of, IsCallLine, IsWhoInRange, WhoTexts}
use Rattle.tp_lines.specs.Parts.{parts_of, row_text, AreFit}
use Rattle.tp_lines.specs.Rows.{RowTexts}
use Rattle.tp_lines.specs.Values.{large_of, millis_of, once_of, part_at, small_of, span_of}
use Rattle.tp_lines.specs.Words.{text_of_flag, text_of_who}
use Rattle.tp_legacy.specs.Legacy.{legacy_play, opening}
use Rattle.tp_legacy.specs.declared.LegacyAnswer.{LegacyAnswer}
use Rattle.tp_legacy.specs.declared.LegacyAnswer.TheVariants as answer
use Rattle.tp_legacy.specs.declared.LegacyCall.{LegacyCall}
use Rattle.tp_legacy.specs.declared.LegacyCall.TheVariants as call
use Rattle.tp_legacy.specs.declared.LegacyRefusal.{LegacyRefusal}
use Rattle.tp_legacy.specs.declared.LegacyRefusal.TheVariants.{NoSuch, Released, OtherQueue}

-- the word and the parts of a call
abbrev pub legacy_row_of : LegacyCall → Word × List Part
legacy_row_of (call.QueueItem routine context long) = (word.QueueItem, part.Routine routine.0 ∷ part.Context context ∷ part.Word (word.Span long) ∷ [])
legacy_row_of (call.Register kernel routine context millis once) = (word.Register, part.Short kernel.0 ∷ part.Routine routine.0 ∷ part.Context context ∷ part.Millis millis ∷ part.Word (word.Times once) ∷ [])
legacy_row_of (call.Unregister registration) = (word.Unregister, part.Short registration ∷ [])
legacy_row_of call.CreateQueue = (word.CreateQueue, [])
legacy_row_of (call.CreateTimer queue routine context due period) = (word.CreateTimer, part.Short queue ∷ part.Routine routine.0 ∷ part.Context context ∷ part.Small due ∷ part.Small period ∷ [])
legacy_row_of (call.ChangeTimer queue timer due period) = (word.ChangeTimer, part.Short queue ∷ part.Short timer ∷ part.Small due ∷ part.Small period ∷ [])
legacy_row_of (call.DeleteTimer queue timer) = (word.DeleteTimer, part.Short queue ∷ part.Short timer ∷ [])
legacy_row_of (call.DeleteQueue queue) = (word.DeleteQueue, part.Short queue ∷ [])
legacy_row_of (call.Pool made) = row_of made

-- the line of a call, without its line feed
abbrev pub line_of_legacy_call : Who → LegacyCall → List ℕ
line_of_legacy_call who made = text_of_who who ++ 32 ∷ row_text (legacy_row_of made)

-- the table that its word stands in
abbrev pub table_of_call : LegacyCall → Field
table_of_call (call.Pool made) = field.Call
table_of_call other = field.OldCall

-- a line can have the numbers and words of the call
abbrev pub FitsLegacyCall : LegacyCall → Type 0
FitsLegacyCall made = AreFit (table_of_call made ∷ []) (parts_of (legacy_row_of made))

-- the text is the line of this call by this actor, and a line can have their numbers
pub record IsLegacyLine (who : Who) (made : LegacyCall) (text : List ℕ) : Type 0 where
  pub who_in_range : IsWhoInRange who
  pub call_in_range : FitsLegacyCall made
  pub split : text ≡ line_of_legacy_call who made

abbrev pub LegacyLines : (Who × LegacyCall) → List ℕ → Type 0
LegacyLines (who, made) text = IsLegacyLine who made text

-- who makes the call of a line
abbrev pub who_of : (Who × LegacyCall) → Who
who_of made = made.0

-- ---- part by part

-- the lines of calls of the machine
abbrev pub PoolLines : (Who × LegacyCall) → List ℕ → Type 0
PoolLines (who, call.Pool made) text = IsCallLine who made text
PoolLines (who, other) text = ⊥

-- old calls behind their actor
abbrev pub OldTexts : LegacyCall → List ℕ → Type 0
OldTexts = RowTexts field.OldCall legacy_row_of

-- and with it
abbrev pub OldLines : (Who × LegacyCall) → List ℕ → Type 0
OldLines = Pairs WhoTexts (λ who. OldTexts)

abbrev pub routine_at : List Part → ℕ → RoutineId
routine_at parts index = record { 0 = small_of (part_at parts index) }

-- the old call that parts tell, where their word is that of one, and `create-queue` where it isn't
abbrev pub old_call_at : Word → List Part → LegacyCall
old_call_at word.QueueItem parts = call.QueueItem (routine_at parts 1) (large_of (part_at parts 2)) (span_of (part_at parts 3))
old_call_at word.Register parts = call.Register (record { 0 = small_of (part_at parts 1) }) (routine_at parts 2) (large_of (part_at parts 3)) (millis_of (part_at parts 4)) (once_of (part_at parts 5))
old_call_at word.Unregister parts = call.Unregister (small_of (part_at parts 1))
old_call_at word.CreateTimer parts = call.CreateTimer (small_of (part_at parts 1)) (routine_at parts 2) (large_of (part_at parts 3)) (small_of (part_at parts 4)) (small_of (part_at parts 5))
old_call_at word.ChangeTimer parts = call.ChangeTimer (small_of (part_at parts 1)) (small_of (part_at parts 2)) (small_of (part_at parts 3)) (small_of (part_at parts 4))
old_call_at word.DeleteTimer parts = call.DeleteTimer (small_of (part_at parts 1)) (small_of (part_at parts 2))
old_call_at word.DeleteQueue parts = call.DeleteQueue (small_of (part_at parts 1))
old_call_at _ parts = call.CreateQueue

-- ---- answers

abbrev pub refusal_line : LegacyRefusal → List ℕ
refusal_line NoSuch = codes "refused no-such"
refusal_line Released = codes "refused released"
refusal_line OtherQueue = codes "refused other-queue"

abbrev pub answer_text : LegacyAnswer → List ℕ
answer_text (answer.Pool told) = text_of_outcome told
answer_text (answer.Registered number) = codes "registered " ++ decimal number
answer_text (answer.Queue number) = codes "queue " ++ decimal number
answer_text (answer.Timer number) = codes "timer " ++ decimal number
answer_text (answer.Changed value) = codes "changed " ++ text_of_flag value
answer_text (answer.Refused refusal) = refusal_line refusal
answer_text (answer.Full room cost) = text_of_outcome (outcome.Full room cost)

-- the lines of answers, one after another
abbrev pub output_of : List LegacyAnswer → List ℕ
output_of answers = trace_text (map answer_text answers)

-- what lines come to on a new machine of the program with so many clients and workers, and room for so many entries
abbrev pub lines_come_to : ℕ → ℕ → ℕ → List (Who × LegacyCall) → List ℕ
lines_come_to clients workers capacity calls = output_of (legacy_play (opening (program_limits clients workers) capacity) calls)
