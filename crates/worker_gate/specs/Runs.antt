-- What a run of given routines is.
use Rattle.std.specs.Prelude.{◌≡◌, ℕ, Bool, true, false, List, [], ◌++◌, All}
use Rattle.tp_base.specs.declared.answers.Entry.{Entry}
use Rattle.tp_base.specs.declared.ids.Who.{Who}
use Rattle.tp_base.specs.declared.ids.Who.TheVariants.{Client}
use Rattle.tp_base.specs.declared.limits.Limits.{Limits}
use Rattle.tp_base.specs.Actors.{is_same_actor}
use Rattle.tp_model.specs.Stages.{is_in_part, IsActor}
use Rattle.recorded.specs.Recordings.{is_over_behind}
use Rattle.turn_lock.specs.Histories.{own}
use Rattle.part_places.specs.Places.{Given, opening, place_from}
use Rattle.worker_gate.specs.Walks.{Leads}

-- nothing more is to be done behind a history
abbrev pub is_over_in : Limits → ℕ → List Entry → Bool
is_over_in limits capacity history = is_over_behind (record { limits = limits; capacity = capacity; history = history })

module _ (g : Given) (limits : Limits) (capacity : ℕ) (history : List Entry) where
  -- the entries of an actor are its calls up to the last: a client has finished, and a worker's last callback has returned
  pub record Whole (who : Who) (entries : List Entry) : Type 0 where
    pub leads : Leads g limits capacity history who [] (opening who) entries
    pub ends : is_in_part ((place_from g who (opening who) entries).stage) ≡ false

-- client 1 has made its entries before all others
pub record ComesFirst (history : List Entry) : Type 0 where
  pub front : List Entry
  pub rest : List Entry
  pub parts : history ≡ front ++ rest
  pub first : All (λ (entry : Entry). is_same_actor entry.who (Client 1) ≡ true) front
  pub others : All (λ (entry : Entry). is_same_actor entry.who (Client 1) ≡ false) rest

-- the entries are of clients and workers of the machine
abbrev pub AreKnown : Limits → List Entry → Type 0
AreKnown limits history = All (λ (entry : Entry). IsActor limits entry.who) history

pub record Runs (g : Given) (limits : Limits) (capacity : ℕ) (history : List Entry) : Type 0 where
  pub known : AreKnown limits history
  -- those of each are its calls, up to the last
  pub each : (who : Who) → IsActor limits who → Whole g limits capacity history who (own who history)
  pub first : ComesFirst history
  -- and nothing more is to be done
  pub over : is_over_in limits capacity history ≡ true

-- some actor's calls of a part were cut, since the history had no room for the next one
abbrev pub IsCutShort : Given → Limits → List Entry → Type 0
IsCutShort g limits history = (who : Who) × IsActor limits who × ((place_from g who (opening who) (own who history)).cut ≡ true)
