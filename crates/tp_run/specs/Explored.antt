-- What `explore` writes of a script.
use Rattle.std.specs.Prelude.{◌≡◌, ℕ, Bool, true, false, List}
use Rattle.order_lines.specs.EachExplored.{IsEachExplored}
use Rattle.order_lines.specs.Explored.{IsExplored as IsExploredWithin}
use Rattle.order_lines.specs.declared.explored.Found.{Found}
use Rattle.order_lines.specs.declared.explored.Found.TheVariants as found
use Rattle.tp_base.specs.declared.limits.Limits.{Limits}
use Rattle.recorded.specs.ProgramLimits.{program_limits}
use Rattle.tp_run.specs.declared.status.Ending.{Ending}
use Rattle.tp_run.specs.declared.status.Ending.TheVariants.{Fine, Bad, GaveUp}
use Rattle.tp_script.specs.Nexts.{clients_of}
use Rattle.tp_script.specs.Parsed.{Parsed}

abbrev pub ending_found : Found → Ending
ending_found found.None = Fine
ending_found found.Bad = Bad
ending_found found.GaveUp = GaveUp

-- of one fault, or of each
abbrev pub IsExploredBy : Bool → Parsed → List ℕ → Limits → ℕ → List ℕ → Found → Type 0
IsExploredBy false script text limits states output found = IsExploredWithin script text limits states output found
IsExploredBy true script text limits states output found = IsEachExplored script text limits states output found

-- of the orders of the script's clients and so many workers, where no more states than this may be met, this is written, and the
-- ending
pub record IsExplored (text : List ℕ) (script : Parsed) (workers states : ℕ) (each : Bool) (output : List ℕ) (ending : Ending) : Type 0 where
  pub found : Found
  pub explored : IsExploredBy each script text (program_limits (clients_of script.lines) workers) states output found
  pub ends : ending ≡ ending_found found
