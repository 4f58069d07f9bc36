-- What stands between reading and the end of the program.
use Rattle.std.specs.Prelude.{◌≡◌, ℕ, ◌+◌, Bool, true, false, ◌≤◌, ◌↔◌, List, [], length, Option, Some, Result, Ok, Err}
use Rattle.tp_edge.specs.Given.{with_given, TookFirst}
use Rattle.tp_edge.specs.Taken.{behind, IsEnded}
use Rattle.tp_edge.specs.declared.reading.ReadFault.{ReadFault as SourceFault}
use Rattle.tp_edge.specs.declared.reading.ReadFault.TheVariants as source
use Rattle.port_lines.specs.declared.faults.PortFault.{PortFault}
use Rattle.port_lines.specs.declared.faults.PortFault.TheVariants as port
use Rattle.line_grammar.specs.declared.faults.TextFault.{TextFault}
use Rattle.line_grammar.specs.declared.faults.TextFault.TheVariants as text
use Rattle.tp_run.specs.Inputs.{Gives, IsDetermined, IsFaultyAt, IsInGrammar, IsScriptFaultAt, reads}
use Rattle.tp_run.specs.Runs.{IsWithin}
use Rattle.tp_run.specs.declared.top.TheConstants.{INPUT_LIMIT}
use Rattle.tp_run.specs.declared.command.Command.{Command}
use Rattle.tp_run.specs.declared.status.Ending.{Ending}
use Rattle.tp_run.specs.declared.status.Ending.TheVariants as ending
use Rattle.tp_run.specs.declared.status.Status.{Status}
use Rattle.tp_run.specs.declared.status.Status.TheVariants.{Fine, Words, BadLine, ReadFault, WriteFault, NoMemory, TooLong, NotLegal, Exhausted, Stalled, Bad, GaveUp}
use Rattle.tp_run.specs.declared.replies.Output.{Output}
use Rattle.script_lines.specs.declared.line.Line.{Line}
use Rattle.tp_script.specs.Scripts.{IsScript}
use Rattle.tp_script.specs.declared.fault.ScriptFault.{ScriptFault}
use Rattle.tp_script.specs.declared.fault.ScriptFault.TheVariants as script

-- the end that a fault of reading leads to
abbrev pub status_of_source : SourceFault → Status
status_of_source source.NoMemory = NoMemory
status_of_source source.Failed = ReadFault
status_of_source source.TooLong = TooLong

-- the end of the program where all was written
abbrev pub status_of : Ending → Status
status_of ending.Fine = Fine
status_of ending.NotLegal = NotLegal
status_of ending.Exhausted = Exhausted
status_of ending.Stalled = Stalled
status_of ending.Bad = Bad
status_of ending.GaveUp = GaveUp

-- the end that a fault of the input leads to
abbrev pub status_of_text : TextFault → Status
status_of_text text.NoMemory = NoMemory
status_of_text (text.At line column) = BadLine line column

-- the end that a fault of a text of devices leads to
abbrev pub status_of_port : PortFault → Status
status_of_port port.NoMemory = NoMemory
status_of_port (port.At line column) = BadLine line column

-- an end that a fault of a script leads to
abbrev pub status_of_script : ScriptFault → Status
status_of_script script.NoMemory = NoMemory
status_of_script (script.At line column kind) = BadLine line column

-- an output for the input and its ending; a command that has one output has no others
pub record IsOutput (command : Command) (bytes output : List ℕ) (ends : Ending) : Type 0 where
  pub gives : Gives (Some command) bytes output ends
  pub only : IsDetermined (Some command) → (other : List ℕ) (other_end : Ending) → Gives (Some command) bytes other other_end → (output ≡ other) × (ends ≡ other_end)

pub record IsFaulty (command : Command) (bytes : List ℕ) (line column : ℕ) : Type 0 where
  pub at : IsFaultyAt (Some command) bytes line column
  pub none : IsInGrammar (Some command) bytes → ⊥

-- how a run ends that isn't played: its text is no script, or memory was refused
abbrev pub IsScriptEnd : List ℕ → Status → Type 0
IsScriptEnd bytes (BadLine line column) = IsScriptFaultAt bytes line column × ((lines : List Line) → IsScript bytes lines → ⊥)
IsScriptEnd bytes NoMemory = Unit {0}
IsScriptEnd bytes _ = ⊥

-- what a command answers to bytes
abbrev pub IsReply : Command → List ℕ → Result Output Status → Type 0
IsReply command bytes (Ok output) = IsOutput command bytes output.text.items output.ending
IsReply command bytes (Err (BadLine line column)) = IsFaulty command bytes line column
IsReply command bytes (Err NoMemory) = Unit {0}
IsReply command bytes (Err _) = ⊥

-- the command's input was read to its end, of which this is left behind it; or it has none, and nothing was taken
abbrev pub IsReadIf : Bool → List ℕ → Option (List ℕ) → Type 0
IsReadIf true taken now = IsEnded now
IsReadIf false taken now = taken ≡ []

abbrev pub IsAllRead : Command → List ℕ → Option (List ℕ) → Type 0
IsAllRead command taken now = IsReadIf (reads (Some command)) taken now

-- what came of the bytes that were taken from a source, of which this is left
abbrev pub IsReplyTo : Command → List ℕ → Option (List ℕ) → Result Output Status → Type 0
IsReplyTo command taken now (Ok output) = IsAllRead command taken now × IsOutput command taken output.text.items output.ending
IsReplyTo command taken now (Err (BadLine line column)) = IsAllRead command taken now × IsFaulty command taken line column
IsReplyTo command taken now (Err NoMemory) = Unit {0}
IsReplyTo command taken now (Err ReadFault) = Unit {0}
IsReplyTo command taken now (Err TooLong) = Unit {0}
IsReplyTo command taken now (Err _) = ⊥

pub record IsTakenTo (command : Command) (left now : Option (List ℕ)) (answer : Result Output Status) : Type 0 where
  pub taken : List ℕ
  pub took : left ≡ behind taken now
  pub none : reads (Some command) ≡ false → taken ≡ []
  pub too_long : (answer ≡ Err TooLong) ↔ (length taken ≡ INPUT_LIMIT + 1)
  pub most : length taken ≤ INPUT_LIMIT + 1
  pub reply : IsReplyTo command taken now answer

-- what came of the bytes that were taken, and what the sink holds
abbrev pub Came : Command → List ℕ → Option (List ℕ) → Option (List ℕ) → Option (List ℕ) → Status → Type 0
Came command taken now held holds Fine = IsAllRead command taken now × ((output : List ℕ) × IsOutput command taken output ending.Fine × (holds ≡ with_given output held))
Came command taken now held holds NotLegal = IsAllRead command taken now × ((output : List ℕ) × IsOutput command taken output ending.NotLegal × (holds ≡ with_given output held))
Came command taken now held holds Exhausted = IsAllRead command taken now × ((output : List ℕ) × IsOutput command taken output ending.Exhausted × (holds ≡ with_given output held))
Came command taken now held holds Stalled = IsAllRead command taken now × ((output : List ℕ) × IsOutput command taken output ending.Stalled × (holds ≡ with_given output held))
Came command taken now held holds Bad = IsAllRead command taken now × ((output : List ℕ) × IsOutput command taken output ending.Bad × (holds ≡ with_given output held))
Came command taken now held holds GaveUp = IsAllRead command taken now × ((output : List ℕ) × IsOutput command taken output ending.GaveUp × (holds ≡ with_given output held))
Came command taken now held holds WriteFault = IsAllRead command taken now × ((output : List ℕ) × (ends : Ending) × IsOutput command taken output ends × TookFirst held holds output)
Came command taken now held holds (BadLine line column) = IsAllRead command taken now × IsFaulty command taken line column
Came command taken now held holds Words = ⊥
Came command taken now held holds _ = Unit {0}

pub record IsRun (command : Command) (left now held holds : Option (List ℕ)) (status : Status) : Type 0 where
  pub taken : List ℕ
  pub took : left ≡ behind taken now
  pub none : reads (Some command) ≡ false → taken ≡ []
  pub within : IsWithin status taken
  pub came : Came command taken now held holds status
