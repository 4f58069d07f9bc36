-- What a machine has to know of a script that is played on it.
use Rattle.std.specs.Prelude.{◌≡◌, ◌≤◌, false, List, IfSome}
use Rattle.tp_base.specs.declared.answers.Answer.{Answer}
use Rattle.script_lines.specs.declared.line.Line.{Line}
use Rattle.tp_script.specs.declared.routines.Part.TheVariants.{Client}
use Rattle.tp_script.specs.Calls.{begins_wait_call}
use Rattle.tp_script.specs.Nexts.{clients_of, next_call}

-- it has from 1 to 16 clients
abbrev pub HasFewClients : List Line → Type 0
HasFewClients lines = (1 ≤ clients_of lines) × (clients_of lines ≤ 16)

-- whatever the answers are, no call of client 1 begins a wait
abbrev pub NeverWaitsAtFirst : List Line → Type 0
NeverWaitsAtFirst lines = (answers : List Answer) → IfSome (next_call lines (Client 1) answers) (λ made. begins_wait_call made ≡ false)
