-- Actors that one thread plays.
use Rattle.std.specs.Prelude.{◌≡◌, ℕ, ◌-◌, ◌<◌, Bool, true, List, [], ◌∷◌, ◌⊎◌, length, All}
use Rattle.std.specs.List.{sum_by}
use Rattle.turn_lock.specs.Seats.{met_of}
use Rattle.shared_pool.specs.declared.pool.SharedPool.{SharedPool}
use Rattle.worker_gate.specs.declared.actor.Actor.{Actor}
use Rattle.worker_gate.specs.declared.role.Turn.{Turn}
use Rattle.worker_gate.specs.declared.role.Turn.TheVariants.{Moved, Waiting, Ended}
use Rattle.worker_gate.specs.Acting.{due_by, has_ended, holds_up, made_by, most_of, GoesOn, HasMet, IsReady}
use Rattle.part_places.specs.Places.{Given}

module _ {B : Type 0} where
  -- how many entries an actor can still make, and a crew
  abbrev pub left_of : Actor B → ℕ
  left_of a = most_of a - made_by a

  abbrev pub spare : List (Actor B) → ℕ
  spare crew = sum_by left_of crew

  abbrev pub AllReady : Given → SharedPool B → List (Actor B) → Type 0
  AllReady g pool crew = All (IsReady g pool) crew

  -- why an actor makes no call: it has ended, it met another, or its due call, with its mark set or not, comes to a look or
  -- Full behind what it has seen
  abbrev pub HasCause : Given → Actor B → Actor B → Type 0
  HasCause g a b = (has_ended b ≡ true) ⊎ (HasMet a b ⊎ ((marked : Bool) × (holds_up b (due_by g b marked) ≡ true)))

  -- the same, wherever it began
  abbrev pub HasStopped : Given → Actor B → Type 0
  HasStopped g b = (has_ended b ≡ true) ⊎ ((0 < length (met_of b.seat)) ⊎ ((marked : Bool) × (holds_up b (due_by g b marked) ≡ true)))

  -- the same actors, in their order
  abbrev pub GoOn : List (Actor B) → List (Actor B) → Type 0
  GoOn [] [] = Unit {0}
  GoOn (a ∷ crew) (b ∷ later) = GoesOn a b × GoOn crew later
  GoOn _ _ = ⊥

  -- and each has a cause
  abbrev pub HaveCauses : Given → List (Actor B) → List (Actor B) → Type 0
  HaveCauses g [] [] = Unit {0}
  HaveCauses g (a ∷ crew) (b ∷ later) = HasCause g a b × HaveCauses g crew later
  HaveCauses g _ _ = ⊥

  pub record AreHandedBack (g : Given) (crew later : List (Actor B)) : Type 0 where
    pub go_on : GoOn crew later
    pub causes : HaveCauses g crew later

  -- and crew by crew
  abbrev pub AreCrewsBack : Given → List (List (Actor B)) → List (List (Actor B)) → Type 0
  AreCrewsBack g [] [] = Unit {0}
  AreCrewsBack g (crew ∷ crews) (later ∷ laters) = AreHandedBack g crew later × AreCrewsBack g crews laters
  AreCrewsBack g _ _ = ⊥

  -- ---- a round

  -- one has moved, and fewer entries are left; else each has its cause, and where the round ended each has ended
  abbrev pub RoundSaid : Given → List (Actor B) → List (Actor B) → Turn → Type 0
  RoundSaid g crew later Moved = spare later < spare crew
  RoundSaid g crew later Waiting = (spare later ≡ spare crew) × HaveCauses g crew later
  RoundSaid g crew later Ended = (spare later ≡ spare crew) × All (λ (b : Actor B). has_ended b ≡ true) later

  pub record HasPlayedRound (g : Given) (crew later : List (Actor B)) (round : Turn) : Type 0 where
    pub go_on : GoOn crew later
    pub said : RoundSaid g crew later round

-- what a round comes to, by its turns so far and one more
abbrev pub both : Turn → Turn → Turn
both Moved turn = Moved
both Waiting Moved = Moved
both Waiting Waiting = Waiting
both Waiting Ended = Waiting
both Ended turn = turn
