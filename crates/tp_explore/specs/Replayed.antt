-- What is played of moves on a machine.
use Rattle.std.specs.Prelude.{◌≡◌, ℕ, List, ◌++◌, length}
use Rattle.tp_base.specs.declared.answers.Entry.{Entry}
use Rattle.tp_model.specs.History.{IsLegalFrom}
use Rattle.recorded.specs.Recordings.{world_behind, Recording}
use Rattle.part_places.specs.declared.place.Place.{Place}
use Rattle.part_places.specs.Places.{Given}
use Rattle.tp_explore.specs.Explored.{IsMadeBy, IsMadeFrom}
use Rattle.tp_explore.specs.Legal.{IsRoomyFrom}
use Rattle.tp_explore.specs.Rows.{AreInRow}
use Rattle.tp_explore.specs.Scenes.{scene_behind, IsOrder, IsOrderFrom}

-- the limits and the capacity are as they were
pub record IsSameMachine (old new : Recording) : Type 0 where
  pub limits : new.limits ≡ old.limits
  pub capacity : new.capacity ≡ old.capacity

module _ (g : Given) where
  -- the history is the order that these moves make
  pub record IsReplayed (moves : List ℕ) (r : Recording) : Type 0 where
    pub order : IsOrder g r.limits r.history
    pub made : IsMadeBy g r.limits moves r.history

  -- and the places are those behind it
  pub record IsReplaying (moves : List ℕ) (r : Recording) (places : List Place) : Type 0 where
    pub replayed : IsReplayed moves r
    pub places_are : AreInRow r.limits (scene_behind g r.limits r.history) places

  -- these moves make these entries behind the history, and there is room enough for them
  pub record GoesOnBy (r : Recording) (moves : List ℕ) (rest : List Entry) : Type 0 where
    pub order : IsOrderFrom g r.limits (scene_behind g r.limits r.history) rest
    pub made : IsMadeFrom g r.limits (scene_behind g r.limits r.history) moves rest
    pub roomy : IsRoomyFrom (world_behind r) r.capacity (length r.history) rest
    pub legal : IsLegalFrom (world_behind r) r.capacity (length r.history) rest

  -- the first of these entries was made, and the others follow
  pub record HasGoneOn (old new : Recording) (moves : List ℕ) (rest : List Entry) : Type 0 where
    pub more : List Entry
    pub parts : old.history ++ rest ≡ new.history ++ more
    pub goes_on : GoesOnBy new moves more
