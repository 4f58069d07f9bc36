-- What is written of devices and their operations.
use Rattle.std.specs.Prelude.{◌≡◌, ℕ, ◌+◌, ◌++◌, true, false, List, length}
use Rattle.port_calls.specs.PortCalls.{numbered, objects_of}
use Rattle.port_facts.specs.Completions.{completions}
use Rattle.port_facts.specs.Interleaved.{port_history, IsInterleaving}
use Rattle.port_facts.specs.SetUp.{set_up}
use Rattle.port_facts.specs.declared.Posted.{Posted}
use Rattle.port_lines.specs.declared.lines.Operation.{Operation}
use Rattle.recorded.specs.ProgramLimits.{program_limits}
use Rattle.recorded.specs.Recordings.{Recording}
use Rattle.tp_base.specs.declared.answers.Entry.{Entry}
use Rattle.tp_base.specs.declared.limits.Limits.{Limits}
use Rattle.tp_model.specs.History.{IsLegal}
use Rattle.tp_model.specs.Laws.{KeepsLaws}
use Rattle.tp_run.specs.Played.{printed}
use Rattle.tp_run.specs.declared.status.Ending.{Ending}
use Rattle.tp_run.specs.declared.status.Ending.TheVariants.{Fine}

-- client 1 sets all up, and each device has a client of its own; four workers have nothing to do
abbrev pub limits_of : List (List Operation) → Limits
limits_of devices = program_limits (length devices + 1) 4

-- client 1 makes an object for each device, starts and issues the operations in the order of the text, and finishes; what was
-- posted is completed in this order; and the devices' clients finish
abbrev pub history_of : List (List Operation) → List Posted → List Entry
history_of devices posted = port_history (length devices) (objects_of devices) posted

-- what the machine has recorded behind the set-up and what was posted
abbrev pub behind_posted : List (List Operation) → List Posted → Recording
behind_posted devices posted = record { limits = limits_of devices; capacity = 65536; history = set_up (length devices) (objects_of devices) ++ completions posted }

-- the devices completed their operations, and this was written, and its ending
pub record IsPorted (devices : List (List Operation)) (output : List ℕ) (ending : Ending) : Type 0 where
  -- in the order in which they were completed
  pub posted : List Posted
  -- each operation once, and those of a device in the order of the text
  pub each : IsInterleaving (numbered devices) posted
  pub legal : IsLegal (limits_of devices) 65536 (history_of devices posted)
  pub laws : KeepsLaws (limits_of devices) (history_of devices posted)
  pub output_is : output ≡ printed (record { history = true; json = false; faults = false }) (limits_of devices) 65536 (history_of devices posted)
  pub ends : ending ≡ Fine
