-- Boards whose workers have changed places, part by part.
use Rattle.std.proofs.Common.{◌≡◌, ℕ, List, [], ◌∷◌, ◌++◌, refl, sym, ap}
use Rattle.short_codes.specs.Codes.{listed, number}
use Rattle.row_codes.specs.Worlds.{world_code}
use Rattle.tp_base.specs.declared.limits.Limits.{Limits}
use Rattle.tp_model.specs.World.{World}
use Rattle.part_places.specs.declared.place.Place.{Place}
use Rattle.renamed_worlds.specs.Ordered.{rearranged}
use Rattle.tp_explore.specs.Boards.{Board}
use Rattle.tp_explore.specs.Exchanging.{exchanged_board, rearranged_board, rearranged_noted, rearranged_places}
use Rattle.tp_explore.specs.Keys.{board_code, noted_code, place_code}
use Rattle.tp_explore.specs.Kept.{board_of}
use Rattle.tp_explore.specs.Noted.{Noted}

module _ (limits : Limits) where
  by_parts : (order : List ℕ) (b : Board) → rearranged_board limits order b ≡ board_of (rearranged order b.world) b.made (rearranged_places limits order b.places) (rearranged_noted order b.noted)
  by_parts [] b = refl
  by_parts (at ∷ order) b = by_parts order (exchanged_board limits b at)

  -- the code of its parts
  pub code_of : (order : List ℕ) (b : Board) (w : World) (places row : List Place) (noted : Noted) → w ≡ rearranged order b.world → row ≡ places → places ≡ rearranged_places limits order b.places → noted ≡ rearranged_noted order b.noted
      → world_code w ++ number b.made ++ listed place_code row ++ noted_code noted ≡ board_code (rearranged_board limits order b)
  code_of order b w places row noted e1 e2 e3 e4 = rw (e1, e2, e3, e4) (ap board_code (sym (by_parts order b)))
