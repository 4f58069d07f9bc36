-- Legal histories whose room is never short.
use Rattle.std.specs.Prelude.{ℕ, ◌+◌, ◌≤◌, List, [], ◌∷◌}
use Rattle.tp_base.specs.declared.answers.Entry.{Entry}
use Rattle.tp_base.specs.declared.limits.Limits.{Limits}
use Rattle.tp_model.specs.History.{led_to, room, IsLegal}
use Rattle.tp_model.specs.World.{opening, World}
use Rattle.tp_explore.specs.Scenes.{ample}

-- it is legal with each capacity from some one on
abbrev pub IsLegalAtLast : Limits → List Entry → Type 0
IsLegalAtLast limits history = (least : ℕ) × ((capacity : ℕ) → least ≤ capacity → IsLegal limits capacity history)

-- before each entry there is a room of 4 or more
abbrev pub IsRoomyFrom : World → ℕ → ℕ → List Entry → Type 0
IsRoomyFrom w capacity entries [] = Unit {0}
IsRoomyFrom w capacity entries (e ∷ rest) = (ample ≤ room capacity w entries) × IsRoomyFrom (led_to w e) capacity (entries + 1) rest

abbrev pub IsRoomy : Limits → ℕ → List Entry → Type 0
IsRoomy limits capacity history = IsRoomyFrom (opening limits) capacity 0 history
