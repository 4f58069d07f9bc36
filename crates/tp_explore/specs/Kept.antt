-- A board by its parts.
use Rattle.std.specs.Prelude.{ℕ, List}
use Rattle.tp_model.specs.World.{World}
use Rattle.part_places.specs.declared.place.Place.{Place}
use Rattle.tp_explore.specs.Boards.{Board}
use Rattle.tp_explore.specs.Noted.{Noted}

abbrev pub board_of : World → ℕ → List Place → Noted → Board
board_of w made places noted = record { world = w; made = made; places = places; noted = noted }
