-- The key of a board: a text that tells all boards apart.
use Rattle.std.specs.Prelude.{ℕ, suc, ◌==◌, ◌&&◌, if◌then◌else◌, List, [], ◌∷◌, ◌++◌, length, take}
use Rattle.short_codes.specs.Codes.{flag, listed, number}
use Rattle.row_codes.specs.Rows.{routine_id_code, target_code, who_code}
use Rattle.row_codes.specs.Worlds.{world_code}
use Rattle.tp_base.specs.declared.plans.Stage.{Stage}
use Rattle.tp_base.specs.declared.plans.Stage.TheVariants.{Away, Busy, Idle, Over, Playing}
use Rattle.tp_script.specs.declared.routines.Progress.{Progress}
use Rattle.part_places.specs.declared.place.Place.{Place}
use Rattle.tp_explore.specs.declared.noted.Hush.{Hush}
use Rattle.tp_explore.specs.declared.noted.Use.{Use}
use Rattle.tp_explore.specs.Boards.{Board}
use Rattle.tp_explore.specs.Noted.{Noted}

abbrev pub stage_code : Stage → List ℕ
stage_code Playing = number 0
stage_code Over = number 1
stage_code Away = number 2
stage_code Idle = number 3
stage_code (Busy routine) = number 4 ++ routine_id_code routine

-- how many names there are before the zeros at the end
abbrev pub used : List ℕ → ℕ
used [] = 0
used (name ∷ names) = if (name == 0) && (used names == 0) then 0 else suc (used names)

-- how many names there are, and those before the zeros at the end
abbrev pub names_code : List ℕ → List ℕ
names_code names = number (length names) ++ listed number (take (used names) names)

abbrev pub progress_code : Progress → List ℕ
progress_code at = number at.op ++ number at.done ++ flag at.met ++ flag at.ending ++ names_code at.locals ++ names_code at.operations

abbrev pub place_code : Place → List ℕ
place_code p = stage_code p.stage ++ flag p.waits ++ progress_code p.at ++ flag p.cut

abbrev pub use_code : Use → List ℕ
use_code u = who_code u.who ++ number u.memory

abbrev pub hush_code : Hush → List ℕ
hush_code h = number h.line ++ target_code h.target

abbrev pub noted_code : Noted → List ℕ
noted_code noted = listed number noted.freed ++ listed use_code noted.held ++ listed use_code noted.leaving ++ listed hush_code noted.quiet ++ listed number noted.lines

abbrev pub board_code : Board → List ℕ
board_code b = world_code b.world ++ number b.made ++ listed place_code b.places ++ noted_code b.noted
