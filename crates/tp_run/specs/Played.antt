-- What the runs of a script are, and what is made of one.
use Rattle.std.specs.Prelude.{◌≡◌, ◌↔◌, ◌&&◌, ℕ, Bool, true, false, List, [], ◌∷◌, ◌++◌, ◌⊎◌, if◌then◌else◌, Option, None, Some}
use Rattle.std.specs.List.{list_any}
use Rattle.recorded.specs.ProgramLimits.{program_limits}
use Rattle.recorded.specs.Recordings.{Recording}
use Rattle.script_generator.specs.Scripts.{generated}
use Rattle.tp_base.specs.declared.answers.Entry.{Entry}
use Rattle.tp_base.specs.declared.ids.ObjectId.{ObjectId}
use Rattle.tp_base.specs.declared.limits.Limits.{Limits}
use Rattle.tp_base.specs.declared.rows.Status.{Status}
use Rattle.tp_model.specs.Counts.{is_pending}
use Rattle.tp_model.specs.History.{after, IsLegal}
use Rattle.tp_model.specs.Laws.{KeepsLaws}
use Rattle.tp_model.specs.Laws.Once.{left}
use Rattle.tp_report.specs.EarlyEnds.{has_early_end}
use Rattle.tp_report.specs.Histories.{history_text}
use Rattle.tp_report.specs.Json.{json_text}
use Rattle.tp_report.specs.Summaries.{summary_text, totals_of, IsNoneLost}
use Rattle.tp_report.specs.declared.counts.EarlyEnd.TheVariants as early
use Rattle.tp_report.specs.declared.playing.MachineSize.{MachineSize}
use Rattle.tp_run.specs.declared.played.Layout.{Layout}
use Rattle.tp_run.specs.declared.replies.Output.{Output}
use Rattle.tp_run.specs.declared.status.Ending.{Ending}
use Rattle.tp_run.specs.declared.status.Ending.TheVariants.{Fine, NotLegal, Exhausted, Stalled, Bad, GaveUp}
use Rattle.order_lines.specs.Explored.{faults_text}
use Rattle.script_lines.specs.declared.line.Line.{Line}
use Rattle.tp_explore.specs.Scripts.{watched}
use Rattle.tp_explore.specs.Story.{told_of}
use Rattle.tp_explore.specs.declared.told.Told.{Told}
use Rattle.tp_script.specs.Nexts.{clients_of, next_at, progress_after}
use Rattle.tp_script.specs.Parsed.{Parsed}
use Rattle.tp_script.specs.Parts.{has_marks}
use Rattle.worker_gate.specs.Alone.{IsAlone}
use Rattle.worker_gate.specs.Drawn.{IsDrawn}
use Rattle.part_places.specs.Places.{given, Given}
use Rattle.worker_gate.specs.Runs.{IsCutShort, Runs}

-- ---- a script and its machine

-- the calls of the script's clients and routines
abbrev pub routines_of : List Line → Given
routines_of script = given next_at progress_after script

-- the machine has the script's clients
abbrev pub limits_for : List Line → MachineSize → Limits
limits_for script machine = program_limits (clients_of script) machine.workers

-- the long script of a number
abbrev pub long_script : ℕ → List ℕ
long_script number = generated number 2000

-- ---- a history that had too little room

-- of the callbacks that are left one is pending
abbrev pub is_pending_row : (ℕ × ObjectId × Status) → Bool
is_pending_row row = is_pending row.2

abbrev pub has_pending : List (ℕ × ObjectId × Status) → Bool
has_pending rows = list_any is_pending_row rows

-- the calls of a client or of a callback were cut short, a wait ended with `exhausted`, or a callback is left pending
abbrev pub RanOut : Given → Limits → List Entry → Type 0
RanOut g limits history = IsCutShort g limits history ⊎ (has_early_end early.Exhausted history ≡ true) ⊎ (has_pending (left (after limits history)) ≡ true)

-- ---- runs

-- the history that one thread makes: in rounds, or of turns that are drawn from a seed
abbrev pub IsOfOne : Option ℕ → Given → Limits → ℕ → List Entry → Type 0
IsOfOne None g limits capacity history = IsAlone g limits capacity history
IsOfOne (Some seed) g limits capacity history = IsDrawn seed g limits capacity history

-- a history that the script's clients and the workers have made, on so many threads
pub record IsRunOf (script : List Line) (threads : ℕ) (seed : Option ℕ) (limits : Limits) (capacity : ℕ) (history : List Entry) : Type 0 where
  -- each answer is the machine's
  pub legal : IsLegal limits capacity history
  pub laws : KeepsLaws limits history
  pub runs : Runs (routines_of script) limits capacity history
  -- with one thread there is one order of the calls
  pub alone : threads ≡ 1 → IsOfOne seed (routines_of script) limits capacity history
  -- each callback was taken or cancelled, or is left
  pub none_lost : IsNoneLost (totals_of limits history)

-- how a run ends
abbrev pub EndsRun : Given → Limits → List Entry → Ending → Type 0
EndsRun g limits history Fine = (RanOut g limits history → ⊥) × (has_early_end early.Stalled history ≡ false)
EndsRun g limits history Exhausted = RanOut g limits history
EndsRun g limits history Stalled = (RanOut g limits history → ⊥) × (has_early_end early.Stalled history ≡ true)
EndsRun g limits history NotLegal = ⊥
EndsRun g limits history Bad = ⊥
EndsRun g limits history GaveUp = ⊥

abbrev pub ending_by : Bool → Bool → Bool → Bool → Ending
ending_by true exhausted pending stalled = Exhausted
ending_by false true pending stalled = Exhausted
ending_by false false true stalled = Exhausted
ending_by false false false true = Stalled
ending_by false false false false = Fine

-- of a recording, where a role was cut or none was
abbrev pub ending_of_run : Bool → Recording → Ending
ending_of_run cut r = ending_by cut (has_early_end early.Exhausted r.history) (has_pending (left (after r.limits r.history))) (has_early_end early.Stalled r.history)

-- ---- what is written of a run

abbrev pub history_if : Bool → Limits → ℕ → List Entry → List ℕ
history_if true limits capacity history = history_text limits capacity history
history_if false limits capacity history = []

abbrev pub totals_text : Bool → Limits → List Entry → List ℕ
totals_text true limits history = json_text limits history
totals_text false limits history = summary_text limits history

-- the history, if it is wanted, and then the summary
abbrev pub printed : Layout → Limits → ℕ → List Entry → List ℕ
printed layout limits capacity history = history_if layout.history limits capacity history ++ totals_text layout.json limits history

-- what is written, and behind it a line for each fault
abbrev pub with_faults : List ℕ → List ℕ → List Told → List ℕ
with_faults written text [] = written
with_faults written text (told ∷ rest) = written ++ faults_text text (told ∷ rest)

-- the faults that are told of a run: where they are wanted, and the script has marks
abbrev pub told_in : Bool → Parsed → Limits → List Entry → List Told
told_in wanted script limits history = if wanted && has_marks script then told_of (watched script) limits history else []

-- a run with faults ends as bad, and another one as it does
abbrev pub Ends : List Told → Given → Limits → List Entry → Ending → Type 0
Ends [] g limits history ending = EndsRun g limits history ending
Ends (told ∷ rest) g limits history ending = ending ≡ Bad

-- the script of a text was played on a machine of these limits, and this was written of the run, and its ending
pub record IsPlayed (text : List ℕ) (script : Parsed) (threads : ℕ) (seed : Option ℕ) (limits : Limits) (capacity : ℕ) (layout : Layout) (output : List ℕ) (ending : Ending) : Type 0 where
  pub history : List Entry
  pub is_run : IsRunOf script.lines threads seed limits capacity history
  pub output_is : output ≡ with_faults (printed layout limits capacity history) text (told_in layout.faults script limits history)
  pub ends : Ends (told_in layout.faults script limits history) (routines_of script.lines) limits history ending

-- what one thread or several made of a script: the machine, with its history, and whether a role was cut
pub record IsRunWith (script : List Line) (threads : ℕ) (seed : Option ℕ) (limits : Limits) (capacity : ℕ) (r : Recording) (cut : Bool) : Type 0 where
  pub limits_are : r.limits ≡ limits
  pub capacity_is : r.capacity ≡ capacity
  pub runs : Runs (routines_of script) r.limits r.capacity r.history
  pub alone : threads ≡ 1 → IsOfOne seed (routines_of script) limits capacity r.history
  pub cut_is : (cut ≡ true) ↔ IsCutShort (routines_of script) r.limits r.history

-- of a recording, where these faults are told of the script of a text, and a role was cut or none was: what is written and the
-- ending, and no callback is lost
abbrev pub ending_told : List Told → Ending → Ending
ending_told [] ending = ending
ending_told (told ∷ rest) ending = Bad

pub record IsOutputOf (layout : Layout) (text : List ℕ) (told : List Told) (cut : Bool) (r : Recording) (output : Output) : Type 0 where
  pub text_is : output.text.items ≡ with_faults (printed layout r.limits r.capacity r.history) text told
  pub none_lost : IsNoneLost (totals_of r.limits r.history)
  pub ending : output.ending ≡ ending_told told (ending_of_run cut r)
