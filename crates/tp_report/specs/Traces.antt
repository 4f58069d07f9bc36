-- Traces of calls, and what they come to.
use Rattle.std.specs.Prelude.{◌≡◌, ℕ, ◌≤◌, List, map, fold, max, All}
use Rattle.std.specs.Global.{Vec}
use Rattle.line_grammar.specs.Traces.{trace_text}
use Rattle.recorded.specs.ProgramLimits.{program_limits}
use Rattle.recorded.specs.Recordings.{entries_of}
use Rattle.tp_base.specs.declared.answers.Entry.{Entry}
use Rattle.tp_base.specs.declared.answers.Outcome.{Outcome}
use Rattle.tp_base.specs.declared.calls.Call.{Call}
use Rattle.tp_base.specs.declared.ids.Who.{Who}
use Rattle.tp_base.specs.declared.limits.Limits.{Limits}
use Rattle.tp_lines.specs.Answers.{text_of_outcome}
use Rattle.tp_lines.specs.Calls.{client_number, IsCallLine, line_of_call}
use Rattle.tp_model.specs.History.{play}
use Rattle.tp_report.specs.Histories.{history_text}
use Rattle.tp_report.specs.declared.headers.TheConstants.{EVENT_LIMIT}
use Rattle.tp_report.specs.declared.playing.MachineSize.{MachineSize}

-- a machine of a trace has from 1 to 64 workers, and room for 16 to 131,072 entries
pub record IsMachineSize (machine : MachineSize) : Type 0 where
  pub some_workers : 1 ≤ machine.workers
  pub most_workers : machine.workers ≤ 64
  pub least_events : 16 ≤ machine.events
  pub most_events : machine.events ≤ EVENT_LIMIT

abbrev pub line_of : (Who × Call) → List ℕ
line_of made = line_of_call made.0 made.1

-- the call has a line: its numbers are in the ranges of lines
abbrev pub HasLine : (Who × Call) → Type 0
HasLine made = IsCallLine made.0 made.1 (line_of made)

-- the bytes are the lines of these calls, each ended by a line feed
pub record IsTraceOf (bytes : List ℕ) (calls : List (Who × Call)) : Type 0 where
  pub have_lines : All HasLine calls
  pub split : bytes ≡ trace_text (map line_of calls)

-- one line for each outcome
abbrev pub answers_text : List Outcome → List ℕ
answers_text outcomes = trace_text (map text_of_outcome outcomes)

-- the greatest client number of the calls, or 0
abbrev pub clients_in : List (Who × Call) → ℕ
clients_in calls = fold (λ greatest (made : Who × Call). max greatest (client_number made.0)) 0 calls

-- the limits of a machine of this size for calls of these clients
abbrev pub limits_of : MachineSize → List (Who × Call) → Limits
limits_of machine calls = program_limits (clients_in calls) machine.workers

-- what each call of the trace comes to on a machine of this size that has made no step
abbrev pub output_of : MachineSize → List (Who × Call) → List ℕ
output_of machine calls = answers_text (play (limits_of machine calls) machine.events calls)

abbrev pub IsOutputOf : MachineSize → List (Who × Call) → Vec ℕ → Type 0
IsOutputOf machine calls text = text.items ≡ output_of machine calls

-- the bytes are a trace, and this is what it comes to on a machine of this size
pub record IsOutput (machine : MachineSize) (bytes output : List ℕ) : Type 0 where
  pub calls : List (Who × Call)
  pub is_trace : IsTraceOf bytes calls
  pub output_is : output ≡ output_of machine calls

-- ---- their history

-- the history that the calls of a trace make on a machine of this size that has made no step
abbrev pub history_of : MachineSize → List (Who × Call) → List Entry
history_of machine calls = entries_of calls (play (limits_of machine calls) machine.events calls)

abbrev pub history_output_of : MachineSize → List (Who × Call) → List ℕ
history_output_of machine calls = history_text (limits_of machine calls) machine.events (history_of machine calls)

abbrev pub IsHistoryOf : MachineSize → List (Who × Call) → Vec ℕ → Type 0
IsHistoryOf machine calls text = text.items ≡ history_output_of machine calls

-- the bytes are a trace, and this is its history
pub record IsHistoryOutput (machine : MachineSize) (bytes output : List ℕ) : Type 0 where
  pub calls : List (Who × Call)
  pub is_trace : IsTraceOf bytes calls
  pub output_is : output ≡ history_output_of machine calls
