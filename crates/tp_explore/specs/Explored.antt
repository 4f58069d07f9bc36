-- What a search of boards has to say of orders.
use Rattle.std.specs.Prelude.{◌≡◌, ◌≢◌, ℕ, ◌≤◌, List, [], ◌∷◌, length, Some}
use Rattle.breadth_first.specs.declared.Answer.{Answer}
use Rattle.breadth_first.specs.declared.Answer.TheVariants.{Bad, GaveUp, None as NoneBad}
use Rattle.tp_base.specs.declared.answers.Entry.{Entry}
use Rattle.tp_base.specs.declared.limits.Limits.{Limits}
use Rattle.part_places.specs.Places.{Given}
use Rattle.tp_explore.specs.Boards.{call_by, mover}
use Rattle.tp_explore.specs.Faults.{faults_of}
use Rattle.tp_explore.specs.Scenes.{Scene, first_scene, scene_after, IsOrder}
use Rattle.tp_explore.specs.Watched.{Watched}

-- the entry is of the actor and the turn that the move names
pub record IsMove (g : Given) (limits : Limits) (s : Scene) (by : ℕ) (e : Entry) : Type 0 where
  pub actor : e.who ≡ mover limits by
  pub made : call_by g limits s by ≡ Some e.call

-- the entries are made by these moves, one by one
abbrev pub IsMadeFrom : Given → Limits → Scene → List ℕ → List Entry → Type 0
IsMadeFrom g limits s [] [] = Unit {0}
IsMadeFrom g limits s [] (e ∷ rest) = ⊥
IsMadeFrom g limits s (by ∷ moves) [] = ⊥
IsMadeFrom g limits s (by ∷ moves) (e ∷ rest) = IsMove g limits s by e × IsMadeFrom g limits (scene_after g s e) moves rest

abbrev pub IsMadeBy : Given → Limits → List ℕ → List Entry → Type 0
IsMadeBy g limits moves history = IsMadeFrom g limits (first_scene limits) moves history

module _ (k : Watched) (limits : Limits) where
  abbrev pub IsBad : List Entry → Type 0
  IsBad history = faults_of k limits history ≢ []

  -- an order that these moves make has a fault, and no shorter order has
  pub record IsShortest (moves : List ℕ) (history : List Entry) : Type 0 where
    pub order : IsOrder k.given limits history
    pub made : IsMadeBy k.given limits moves history
    pub bad : IsBad history
    pub shortest : (other : List Entry) → IsOrder k.given limits other → IsBad other → length history ≤ length other

  -- what an answer of a search says
  abbrev pub Explores : Answer → Type 0
  Explores (Bad path) = (history : List Entry) × IsShortest path.items history
  Explores (NoneBad states) = (history : List Entry) → IsOrder k.given limits history → faults_of k limits history ≡ []
  Explores (GaveUp states deep) = (history : List Entry) → IsOrder k.given limits history → length history ≤ deep → faults_of k limits history ≡ []
