-- The lines of calls with sleeps.
use Rattle.std.specs.Prelude.{◌≡◌, ℕ, ◌≤◌, List, [], ◌∷◌, ◌++◌, Option, None, Some, codes, decimal, map}
use Rattle.std.specs.List.{flat_map}
use Rattle.line_grammar.specs.Parts.{Pairs}
use Rattle.line_grammar.specs.Traces.{trace_text}
use Rattle.recorded.specs.ProgramLimits.{program_limits}
use Rattle.tp_base.specs.declared.ids.Who.{Who}
use Rattle.tp_base.specs.Ranges.{IsCallInRange}
use Rattle.tp_base.specs.Timers.{clock_end}
use Rattle.tp_lines.specs.declared.parts.Part.{Part}
use Rattle.tp_lines.specs.declared.parts.Part.TheVariants as part
use Rattle.tp_lines.specs.declared.words.Field.{Field}
use Rattle.tp_lines.specs.declared.words.Field.TheVariants as field
use Rattle.tp_lines.specs.declared.words.Word.{Word}
use Rattle.tp_lines.specs.declared.words.Word.TheVariants as word
use Rattle.tp_lines.specs.Answers.{text_of_outcome}
use Rattle.tp_lines.specs.Calls.{row_of, IsCallLine, IsWhoInRange, WhoTexts}
use Rattle.tp_lines.specs.Parts.{parts_of, row_text, AreFit}
use Rattle.tp_lines.specs.Rows.{RowTexts}
use Rattle.tp_lines.specs.Values.{large_of, part_at}
use Rattle.tp_lines.specs.Words.{text_of_who}
use Rattle.tp_coalesce.specs.Windows.{opening, windows_play, Told}
use Rattle.tp_coalesce.specs.declared.SleepCall.{SleepCall}
use Rattle.tp_coalesce.specs.declared.SleepCall.TheVariants as call
use Rattle.tp_coalesce.specs.declared.sleeping.Slept.{Slept}
use Rattle.tp_coalesce.specs.declared.sleeping.Slept.TheVariants.{Done, Stopped}

-- the word and the parts of a call
abbrev pub sleep_row_of : SleepCall → Word × List Part
sleep_row_of (call.Sleep ticks) = (word.Sleep, part.Time ticks ∷ [])
sleep_row_of (call.Pool made) = row_of made

-- the line of a call, without its line feed
abbrev pub line_of_sleep_call : Who → SleepCall → List ℕ
line_of_sleep_call who made = text_of_who who ++ 32 ∷ row_text (sleep_row_of made)

-- the table that its word stands in
abbrev pub table_of_call : SleepCall → Field
table_of_call (call.Sleep ticks) = field.SleepCall
table_of_call (call.Pool made) = field.Call

-- a line can have the numbers and words of the call
abbrev pub FitsSleepCall : SleepCall → Type 0
FitsSleepCall made = AreFit (table_of_call made ∷ []) (parts_of (sleep_row_of made))

-- the text is the line of this call by this actor, and a line can have their numbers
pub record IsSleepLine (who : Who) (made : SleepCall) (text : List ℕ) : Type 0 where
  pub who_in_range : IsWhoInRange who
  pub call_in_range : FitsSleepCall made
  pub split : text ≡ line_of_sleep_call who made

abbrev pub SleepLines : (Who × SleepCall) → List ℕ → Type 0
SleepLines (who, made) text = IsSleepLine who made text

-- who makes the call of a line
abbrev pub who_of : (Who × SleepCall) → Who
who_of made = made.0

-- the numbers of a call are those that a line can have
abbrev pub IsSleepCallInRange : SleepCall → Type 0
IsSleepCallInRange (call.Sleep ticks) = ticks ≤ clock_end
IsSleepCallInRange (call.Pool made) = IsCallInRange made

-- ---- part by part

-- the lines of calls of the machine
abbrev pub PoolLines : (Who × SleepCall) → List ℕ → Type 0
PoolLines (who, call.Pool made) text = IsCallLine who made text
PoolLines (who, call.Sleep ticks) text = ⊥

-- sleeps behind their actor
abbrev pub SleepTexts : SleepCall → List ℕ → Type 0
SleepTexts = RowTexts field.SleepCall sleep_row_of

-- and with it
abbrev pub OwnLines : (Who × SleepCall) → List ℕ → Type 0
OwnLines = Pairs WhoTexts (λ who. SleepTexts)

-- the sleep that parts tell
abbrev pub sleep_at : List Part → SleepCall
sleep_at parts = call.Sleep (large_of (part_at parts 1))

-- ---- what calls come to

-- the line of how a sleep ends
abbrev pub slept_text : Slept → List ℕ
slept_text (Done now wakes) = codes "slept " ++ decimal now ++ 32 ∷ decimal wakes
slept_text (Stopped wakes told) = codes "stopped " ++ decimal wakes

abbrev pub end_lines : Option Slept → List (List ℕ)
end_lines None = []
end_lines (Some slept) = slept_text slept ∷ []

-- the line of each outcome, and of a sleep the line of how it ends
abbrev pub lines_of_told : Told → List (List ℕ)
lines_of_told told = map text_of_outcome told.outcomes ++ end_lines told.slept

abbrev pub output_of : List Told → List ℕ
output_of all = trace_text (flat_map lines_of_told all)

-- what lines come to on a new machine of the program with so many clients and workers, and room for so many entries
abbrev pub lines_come_to : ℕ → ℕ → ℕ → List (Who × SleepCall) → List ℕ
lines_come_to clients workers capacity calls = output_of (windows_play (opening (program_limits clients workers) capacity) calls)
