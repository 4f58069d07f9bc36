-- What a command makes of its input.
use Rattle.std.specs.Prelude.{◌≡◌, ℕ, ◌≤◌, Bool, true, false, List, [], Option, None, Some, is_some}
use Rattle.layers.specs.Playing.{output_of as layer_output}
use Rattle.line_grammar.specs.Language.{AnyOf}
use Rattle.line_grammar.specs.Lines.{AreLines}
use Rattle.line_grammar.specs.Traces.{IsTraceFault}
use Rattle.script_generator.specs.Scripts.{generated}
use Rattle.tp_base.specs.declared.calls.Call.{Call}
use Rattle.tp_base.specs.declared.ids.Who.{Who}
use Rattle.tp_edge.specs.Taken.{AreAll}
use Rattle.tp_lines.specs.Calls.{IsLine}
use Rattle.tp_coalesce.specs.Lines.{lines_come_to as sleep_lines_come_to, who_of as sleep_who_of, SleepLines}
use Rattle.tp_coalesce.specs.declared.SleepCall.{SleepCall}
use Rattle.tp_legacy.specs.Lines.{lines_come_to as legacy_lines_come_to, who_of as legacy_who_of, LegacyLines}
use Rattle.tp_legacy.specs.declared.LegacyCall.{LegacyCall}
use Rattle.tp_library.specs.Lines.{lines_come_to, who_of, LibLines}
use Rattle.tp_library.specs.declared.LibCall.{LibCall}
use Rattle.tp_run.specs.declared.command.Command.{Command}
use Rattle.tp_run.specs.declared.command.Command.TheVariants.{Trace, History, Libraries, Legacy, Windows, Check, Migrate, Port, Gen, Run, Explore, Big}
use Rattle.tp_run.specs.declared.played.Layout.{Layout}
use Rattle.tp_run.specs.declared.status.Ending.{Ending}
use Rattle.tp_run.specs.declared.status.Ending.TheVariants.{Fine, NotLegal}
use Rattle.tp_run.specs.Explored.{IsExplored}
use Rattle.tp_run.specs.Played.{IsPlayed, limits_for, long_script}
use Rattle.tp_run.specs.Ported.{IsPorted}
use Rattle.tp_report.specs.Histories.{IsHistory, IsHistoryFault}
use Rattle.tp_report.specs.Traces.{IsMachineSize, IsTraceOf, history_output_of, output_of}
use Rattle.tp_report.specs.Verdicts.{IsVerdict, limits_of, migrated_text, verdict_text}
use Rattle.tp_report.specs.declared.headers.Header.{Header}
use Rattle.tp_report.specs.declared.lines.Line.{Line as HistoryLine}
use Rattle.tp_report.specs.declared.playing.MachineSize.{MachineSize}
use Rattle.tp_report.specs.declared.verdict.Verdict.{Verdict}
use Rattle.tp_report.specs.declared.verdict.Verdict.TheVariants as verdict
use Rattle.port_lines.specs.Texts.{IsPortFault, IsPortText}
use Rattle.port_lines.specs.declared.lines.Operation.{Operation}
use Rattle.script_lines.specs.declared.fault.ScriptKind.{ScriptKind}
use Rattle.script_lines.specs.declared.line.Line.{Line}
use Rattle.tp_script.specs.Parsed.{Parsed}
use Rattle.tp_script.specs.Scripts.{IsFaultIn, IsParsed, IsScript}

abbrev pub ending_of : Verdict → Ending
ending_of (verdict.Legal len) = Fine
ending_of (verdict.NotLegal position outcome) = NotLegal
ending_of (verdict.WrongMoment position now) = NotLegal

-- what `check` and `migrate` write of a history on which this is the verdict
abbrev pub verdict_written : Header → List HistoryLine → Verdict → List ℕ
verdict_written header lines told = verdict_text told

abbrev pub migration_written : Header → List HistoryLine → Verdict → List ℕ
migration_written header lines (verdict.Legal len) = migrated_text header lines
migration_written header lines (verdict.NotLegal position outcome) = verdict_text (verdict.NotLegal position outcome)
migration_written header lines (verdict.WrongMoment position now) = verdict_text (verdict.WrongMoment position now)

-- the bytes are a history, this is what is written of it and of the machine's verdict on it, and the ending
pub record IsJudged (bytes output : List ℕ) (ending : Ending) (written : Header → List HistoryLine → Verdict → List ℕ) : Type 0 where
  pub header : Header
  pub lines : List HistoryLine
  pub told : Verdict
  pub is_history : IsHistory bytes header lines
  pub is_verdict : IsVerdict (limits_of header) header.events lines told
  pub output_is : output ≡ written header lines told
  pub ending_is : ending ≡ ending_of told

-- the text tells devices, and this is written of what they complete, and its ending
abbrev pub IsPortedOf : List ℕ → List ℕ → Ending → Type 0
IsPortedOf bytes output ending = (devices : List (List Operation)) × IsPortText bytes devices × IsPorted devices output ending

-- the text is no script, and this is the place of its first fault
abbrev pub IsScriptFaultAt : List ℕ → ℕ → ℕ → Type 0
IsScriptFaultAt text line column = (kind : ScriptKind) × IsFaultIn text line column kind

-- the text is a script, and this is written of a run of it, and its ending
abbrev pub IsPlayedOf : List ℕ → ℕ → Option ℕ → MachineSize → Layout → List ℕ → Ending → Type 0
IsPlayedOf text threads seed machine layout output ending = (script : Parsed) × IsParsed text script × IsPlayed text script threads seed (limits_for script.lines machine) machine.events layout output ending

-- the text is a script, and this is written of its orders with so many workers, where so many states may be met, of one fault or
-- of each, and its ending
abbrev pub IsExploredOf : List ℕ → ℕ → ℕ → Bool → List ℕ → Ending → Type 0
IsExploredOf text workers states each output ending = (script : Parsed) × IsParsed text script × IsExplored text script workers states each output ending

-- what is written of a run besides the summary, which may be JSON: the history and its faults, or nothing
abbrev pub whole_layout : Bool → Layout
whole_layout json = record { history = true; json = json; faults = true }

abbrev pub short_layout : Bool → Layout
short_layout json = record { history = false; json = json; faults = false }

-- the machine of a trace or a run is of a size that there is, and a run has a thread, and one alone where it has a seed
abbrev pub IsPlayable : Command → Type 0
IsPlayable (Trace machine) = IsMachineSize machine
IsPlayable (History machine) = IsMachineSize machine
IsPlayable (Libraries machine) = IsMachineSize machine
IsPlayable (Legacy machine) = IsMachineSize machine
IsPlayable (Windows machine) = IsMachineSize machine
IsPlayable Check = Unit {0}
IsPlayable Migrate = Unit {0}
IsPlayable Port = Unit {0}
IsPlayable (Gen number) = Unit {0}
IsPlayable (Run threads seed machine json) = (1 ≤ threads) × (is_some seed ≡ true → threads ≡ 1) × IsMachineSize machine
IsPlayable (Explore workers states each) = (1 ≤ workers) × (workers ≤ 64) × (1 ≤ states)
IsPlayable (Big number machine json) = IsMachineSize machine

-- what the lines of a trace with libraries come to on a machine of this size that has made no step, with as many clients as
-- they name
abbrev pub libraries_output : MachineSize → List (Who × LibCall) → List ℕ
libraries_output machine calls = layer_output who_of lines_come_to machine.workers machine.events calls

-- and those of a trace of calls of the pool before Vista
abbrev pub legacy_output : MachineSize → List (Who × LegacyCall) → List ℕ
legacy_output machine calls = layer_output legacy_who_of legacy_lines_come_to machine.workers machine.events calls

-- and those of a trace with sleeps
abbrev pub windows_output : MachineSize → List (Who × SleepCall) → List ℕ
windows_output machine calls = layer_output sleep_who_of sleep_lines_come_to machine.workers machine.events calls

-- whether a command has an input, which is what the source has
abbrev pub reads : Option Command → Bool
reads None = false
reads (Some (Trace machine)) = true
reads (Some (History machine)) = true
reads (Some (Libraries machine)) = true
reads (Some (Legacy machine)) = true
reads (Some (Windows machine)) = true
reads (Some Check) = true
reads (Some Migrate) = true
reads (Some Port) = true
reads (Some (Gen number)) = false
reads (Some (Run threads seed machine json)) = true
reads (Some (Explore workers states each)) = true
reads (Some (Big number machine json)) = false

-- the command's input, where the source tells what it has; that of a command which reads nothing is empty
abbrev pub IsInputIf : Bool → List ℕ → Option (List ℕ) → Type 0
IsInputIf true bytes left = AreAll bytes left
IsInputIf false bytes left = bytes ≡ []

abbrev pub IsInput : Option Command → List ℕ → Option (List ℕ) → Type 0
IsInput command bytes left = IsInputIf (reads command) bytes left

-- the source tells that this is the command's input
abbrev pub IsToldIf : Bool → List ℕ → Option (List ℕ) → Type 0
IsToldIf true bytes left = left ≡ Some bytes
IsToldIf false bytes left = bytes ≡ []

abbrev pub IsTold : Option Command → List ℕ → Option (List ℕ) → Type 0
IsTold command bytes left = IsToldIf (reads command) bytes left

-- the bytes are in the grammar of the command's input, and this is one of its outputs for them, and its ending
abbrev pub Gives : Option Command → List ℕ → List ℕ → Ending → Type 0
Gives None bytes output ending = ⊥
Gives (Some (Trace machine)) bytes output ending = (calls : List (Who × Call)) × IsTraceOf bytes calls × (output ≡ output_of machine calls) × (ending ≡ Fine)
Gives (Some (History machine)) bytes output ending = (calls : List (Who × Call)) × IsTraceOf bytes calls × (output ≡ history_output_of machine calls) × (ending ≡ Fine)
Gives (Some (Libraries machine)) bytes output ending = (calls : List (Who × LibCall)) × AreLines LibLines calls bytes × (output ≡ libraries_output machine calls) × (ending ≡ Fine)
Gives (Some (Legacy machine)) bytes output ending = (calls : List (Who × LegacyCall)) × AreLines LegacyLines calls bytes × (output ≡ legacy_output machine calls) × (ending ≡ Fine)
Gives (Some (Windows machine)) bytes output ending = (calls : List (Who × SleepCall)) × AreLines SleepLines calls bytes × (output ≡ windows_output machine calls) × (ending ≡ Fine)
Gives (Some Check) bytes output ending = IsJudged bytes output ending verdict_written
Gives (Some Migrate) bytes output ending = IsJudged bytes output ending migration_written
Gives (Some Port) bytes output ending = IsPortedOf bytes output ending
Gives (Some (Gen number)) bytes output ending = (output ≡ generated number 64) × (ending ≡ Fine)
Gives (Some (Run threads seed machine json)) bytes output ending = IsPlayedOf bytes threads seed machine (whole_layout json) output ending
Gives (Some (Explore workers states each)) bytes output ending = IsExploredOf bytes workers states each output ending
Gives (Some (Big number machine json)) bytes output ending = IsPlayedOf (long_script number) 1 None machine (short_layout json) output ending

-- the command goes through orders
abbrev pub IsExplore : Command → Type 0
IsExplore (Explore workers states each) = Unit {0}
IsExplore _ = ⊥

-- the command has one output for an input; a run on several threads may have more, by the order in which its actors have turns,
-- and so may devices, by the order in which they post; which of the shortest bad orders `explore` writes, and what it measured, isn't
-- told
abbrev pub IsDetermined : Option Command → Type 0
IsDetermined (Some Port) = ⊥
IsDetermined (Some (Run threads seed machine json)) = threads ≡ 1
IsDetermined (Some (Explore workers states each)) = ⊥
IsDetermined _ = Unit {0}

-- the bytes are in the grammar of the command's input
abbrev pub IsInGrammar : Option Command → List ℕ → Type 0
IsInGrammar None bytes = ⊥
IsInGrammar (Some (Trace machine)) bytes = (calls : List (Who × Call)) × IsTraceOf bytes calls
IsInGrammar (Some (History machine)) bytes = (calls : List (Who × Call)) × IsTraceOf bytes calls
IsInGrammar (Some (Libraries machine)) bytes = (calls : List (Who × LibCall)) × AreLines LibLines calls bytes
IsInGrammar (Some (Legacy machine)) bytes = (calls : List (Who × LegacyCall)) × AreLines LegacyLines calls bytes
IsInGrammar (Some (Windows machine)) bytes = (calls : List (Who × SleepCall)) × AreLines SleepLines calls bytes
IsInGrammar (Some Migrate) bytes = (header : Header) × (lines : List HistoryLine) × IsHistory bytes header lines
IsInGrammar (Some Port) bytes = (devices : List (List Operation)) × IsPortText bytes devices
IsInGrammar (Some Check) bytes = (header : Header) × (lines : List HistoryLine) × IsHistory bytes header lines
IsInGrammar (Some (Gen number)) bytes = Unit {0}
IsInGrammar (Some (Run threads seed machine json)) bytes = (script : List Line) × IsScript bytes script
IsInGrammar (Some (Explore workers states each)) bytes = (script : List Line) × IsScript bytes script
IsInGrammar (Some (Big number machine json)) bytes = Unit {0}

-- the bytes are not in the grammar of the command's input, and this is the place of their first fault
abbrev pub IsFaultyAt : Option Command → List ℕ → ℕ → ℕ → Type 0
IsFaultyAt None bytes line column = ⊥
IsFaultyAt (Some (Trace machine)) bytes line column = IsTraceFault IsLine bytes line column
IsFaultyAt (Some (History machine)) bytes line column = IsTraceFault IsLine bytes line column
IsFaultyAt (Some (Libraries machine)) bytes line column = IsTraceFault (AnyOf LibLines) bytes line column
IsFaultyAt (Some (Legacy machine)) bytes line column = IsTraceFault (AnyOf LegacyLines) bytes line column
IsFaultyAt (Some (Windows machine)) bytes line column = IsTraceFault (AnyOf SleepLines) bytes line column
IsFaultyAt (Some Check) bytes line column = IsHistoryFault bytes line column
IsFaultyAt (Some Migrate) bytes line column = IsHistoryFault bytes line column
IsFaultyAt (Some Port) bytes line column = IsPortFault bytes line column
IsFaultyAt (Some (Gen number)) bytes line column = ⊥
IsFaultyAt (Some (Run threads seed machine json)) bytes line column = IsScriptFaultAt bytes line column
IsFaultyAt (Some (Explore workers states each)) bytes line column = IsScriptFaultAt bytes line column
IsFaultyAt (Some (Big number machine json)) bytes line column = ⊥
