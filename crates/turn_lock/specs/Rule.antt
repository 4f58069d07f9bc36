-- The rule of the lock. Word 0 is the length of the history, word 1 the number of the one who holds the turn, or 0; the slot has the book.
use Rattle.std.specs.Prelude.{◌≡◌, ◌≢◌, ℕ, ◌^◌, ◌<◌, ◌≤◌, true, false, List, [], ◌∷◌, length, All}
use mathlib.Core.Option.{Option, some}
use lib.ListN.{get_elem?}
use Rattle.atomic_table.specs.Table.{State}
use Rattle.tp_base.specs.declared.answers.Entry.{Entry}
use Rattle.tp_base.specs.declared.ids.Who.{Who}
use Rattle.tp_model.specs.History.{IsLegal}
use Rattle.recorded.specs.Recordings.{Recording}
use Rattle.turn_lock.specs.declared.views.Part.{Part}
use Rattle.turn_lock.specs.declared.views.Setup.{Setup}
use Rattle.turn_lock.specs.declared.views.View.{View}
use Rattle.turn_lock.specs.Histories.{actor_of, own, StartsWith}
use Rattle.turn_lock.specs.Views.{HasNumber, recording_of}

-- there is a seat for the actor
pub record IsSeated (setup : Setup) (who : Who) : Type 0 where
  pub number : ℕ
  pub least : 1 ≤ number
  pub most : number ≤ setup.seats
  pub is : who ≡ actor_of setup.limits number

-- the number is one of those that were dealt, and not this one
pub record IsAnother (setup : Setup) (number other : ℕ) : Type 0 where
  pub least : 1 ≤ other
  pub most : other ≤ setup.seats
  pub apart : other ≢ number

-- the number is one of those that were dealt, and these are its actor's entries
pub record Stands (setup : Setup) (history : List Entry) (p : Part) : Type 0 where
  pub least : 1 ≤ p.number
  pub most : p.number ≤ setup.seats
  pub mine : p.mine ≡ own (actor_of setup.limits p.number) history

-- it has the holder's number, and has seen the whole history
pub record Holds (history : List Entry) (holder : ℕ) (v : View) : Type 0 where
  pub some_holder : holder ≢ 0
  pub number : HasNumber holder v.parts
  pub seen : v.seen ≡ history
  pub there : v.spent ≡ false

-- what one seat knows is right
pub record Fits (setup : Setup) (history : List Entry) (holder : ℕ) (v : View) : Type 0 where
  pub setup_is : v.spent ≡ false → v.setup ≡ setup
  pub seen : StartsWith history v.seen
  pub told : StartsWith history v.told
  pub parts : All (Stands setup history) v.parts
  pub turn : v.holds ≡ true → Holds history holder v

-- a seat holds the turn
pub record IsHeld (views : List View) (holder : ℕ) : Type 0 where
  pub seat : ℕ
  pub view : View
  pub at : get_elem? views seat ≡ some view
  pub number : HasNumber holder view.parts
  pub holds : view.holds ≡ true

-- the book is at home
pub record IsHome {B : Type 0} (recording : B → Recording) (setup : Setup) (homes : List (Option B)) (history : List Entry) : Type 0 where
  pub book : B
  pub at : homes ≡ some book ∷ []
  pub recorded : recording book ≡ recording_of setup history

pub record Ruled {B : Type 0} (recording : B → Recording) (setup : Setup) (s : State B View) : Type 0 where
  pub history : List Entry
  pub holder : ℕ
  pub words : s.words ≡ length history ∷ holder ∷ []
  pub few : setup.seats < 2 ^ 32
  pub legal : IsLegal setup.limits setup.capacity history
  pub seated : All (λ (entry : Entry). IsSeated setup entry.who) history
  pub home : holder ≡ 0 → IsHome recording setup s.homes history
  pub held : holder ≢ 0 → IsHeld s.views holder
  pub each : (i : ℕ) (v : View) → get_elem? s.views i ≡ some v → Fits setup history holder v
  -- no number is in two seats
  pub once : (i j : ℕ) (v w : View) (number : ℕ) → get_elem? s.views i ≡ some v → get_elem? s.views j ≡ some w → HasNumber number v.parts → HasNumber number w.parts → i ≡ j
