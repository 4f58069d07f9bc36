-- What calls come to on a machine of some size and number of clients.
use Rattle.std.specs.Prelude.{◌≡◌, ℕ, ◌≤◌, List, ◌++◌, length, map, All}
use Rattle.line_grammar.specs.Traces.{trace_text}
use Rattle.recorded.specs.ProgramLimits.{program_limits}
use Rattle.recorded.specs.Recordings.{Recording, IsFirstOf, entries_of, outcomes_behind}
use Rattle.tp_base.specs.declared.answers.Outcome.{Outcome}
use Rattle.tp_base.specs.declared.answers.Outcome.TheVariants.{Done}
use Rattle.tp_base.specs.declared.calls.Call.{Call}
use Rattle.tp_base.specs.declared.ids.Who.{Who}
use Rattle.tp_base.specs.declared.limits.Limits.{Limits}
use Rattle.tp_model.specs.History.{play}
use Rattle.tp_report.specs.Traces.{line_of, HasLine, IsTraceOf, answers_text, clients_in, limits_of, output_of}
use Rattle.tp_report.specs.declared.playing.MachineSize.{MachineSize}
use Rattle.tp_report.specs.declared.playing.Played.{Played}

-- the book of a machine of these limits and this size, on which these calls were made and no others
abbrev pub book_of : Limits → ℕ → List (Who × Call) → Recording
book_of limits events calls = record { limits = limits; capacity = events; history = entries_of calls (play limits events calls) }

pub record IsPlayedOf (machine : MachineSize) (clients : ℕ) (calls : List (Who × Call)) (book : Recording) (played : Played) : Type 0 where
  pub book_is : book ≡ book_of (program_limits clients machine.workers) machine.events calls
  pub text_is : played.text.items ≡ answers_text (play (program_limits clients machine.workers) machine.events calls)
  pub greatest : played.clients ≡ clients_in calls

pub record IsPlayed (machine : MachineSize) (clients : ℕ) (bytes : List ℕ) (book : Recording) (played : Played) : Type 0 where
  pub calls : List (Who × Call)
  pub is_trace : IsTraceOf bytes calls
  pub is_played : IsPlayedOf machine clients calls book played

-- the machine has as many clients as make the calls
pub record ArePlayed (machine : MachineSize) (calls : List (Who × Call)) (book : Recording) (text : List ℕ) : Type 0 where
  pub book_is : book ≡ book_of (limits_of machine calls) machine.events calls
  pub text_is : text ≡ output_of machine calls

pub record AreCallsPlayed (machine : MachineSize) (bytes : List ℕ) (book : Recording) (text : List ℕ) : Type 0 where
  pub calls : List (Who × Call)
  pub is_trace : IsTraceOf bytes calls
  pub are_played : ArePlayed machine calls book text

-- how large the machine of a recording is
abbrev pub size_of : Recording → MachineSize
size_of recording = record { workers = recording.limits.workers; events = recording.capacity }

-- these calls were read, and this is left; and a trace of the bytes begins with them
pub record IsReadTo (bytes : List ℕ) (calls : List (Who × Call)) (rest : List ℕ) : Type 0 where
  pub have_lines : All HasLine calls
  pub split : bytes ≡ trace_text (map line_of calls) ++ rest
  pub only : (all : List (Who × Call)) → IsTraceOf bytes all → (tail : List (Who × Call)) × (all ≡ calls ++ tail) × IsTraceOf rest tail

-- the calls that were read were played on the book, and what they came to was printed; what further calls come to goes on
-- from there, and so does their history
pub record IsPlayedTo (machine : MachineSize) (clients : ℕ) (bytes : List ℕ) (book : Recording) (text : List ℕ) (greatest lines : ℕ) (rest : List ℕ) : Type 0 where
  pub calls : List (Who × Call)
  pub read : IsReadTo bytes calls rest
  pub counts : lines ≡ length calls
  pub told : (more : List (Who × Call)) → text ++ answers_text (outcomes_behind book more) ≡ answers_text (play (program_limits clients machine.workers) machine.events (calls ++ more))
  pub limits : book.limits ≡ program_limits clients machine.workers
  pub capacity : book.capacity ≡ machine.events
  pub written : (more : List (Who × Call)) → book.history ++ entries_of more (outcomes_behind book more) ≡ entries_of (calls ++ more) (play (program_limits clients machine.workers) machine.events (calls ++ more))
  pub greatest_is : greatest ≡ clients_in calls
  pub most : greatest ≤ 16

-- a call that came to no entry comes to the same when it is made again
abbrev pub IsSameAgain : Recording → Who → Call → Outcome → Type 0
IsSameAgain book who call (Done answer) = Unit {0}
IsSameAgain book who call told = IsFirstOf book book who call told
