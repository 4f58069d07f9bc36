-- Places that are kept in a row, as a scene has them.
use Rattle.std.specs.Prelude.{◌≡◌, ◌+◌, false, List, length}
use Rattle.tp_base.specs.declared.ids.Who.{Who}
use Rattle.tp_base.specs.declared.ids.Who.TheVariants.{Client}
use Rattle.tp_base.specs.declared.limits.Limits.{Limits}
use Rattle.tp_model.specs.Stages.{is_over_stage, IsActor}
use Rattle.part_places.specs.declared.place.Place.{Place}
use Rattle.tp_explore.specs.Boards.{place_at}
use Rattle.tp_explore.specs.Scenes.{Scene}

-- a place for each actor, the clients before the workers
pub record AreInRow (limits : Limits) (s : Scene) (places : List Place) : Type 0 where
  pub count : length places ≡ limits.clients + limits.workers
  pub at : (who : Who) → IsActor limits who → place_at limits places who ≡ s.places who
  -- whether client 1 has finished; where there is no client, nobody has a turn
  pub first : is_over_stage ((place_at limits places (Client 1)).stage) ≡ is_over_stage ((s.places (Client 1)).stage)
  pub calm : limits.clients ≡ 0 → is_over_stage ((s.places (Client 1)).stage) ≡ false
