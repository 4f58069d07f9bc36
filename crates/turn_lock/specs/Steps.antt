-- What each step tells: of the step, the seat before, the number found and the seat after. A seat here is what it knows, and the book that it has in hand.
use Rattle.std.specs.Prelude.{◌≡◌, ◌≢◌, ℕ, ◌^◌, ◌<◌, List, [], ◌∷◌, length, All}
use Rattle.atomic_table.specs.Table.{Me, Step, rest}
use Rattle.tp_base.specs.declared.answers.Entry.{Entry}
use Rattle.tp_model.specs.History.{IsLegal}
use Rattle.recorded.specs.Recordings.{Recording}
use Rattle.turn_lock.specs.declared.views.View.{View}
use Rattle.turn_lock.specs.Histories.{StartsWith}
use Rattle.turn_lock.specs.Rule.{IsAnother, IsSeated, Stands}
use Rattle.turn_lock.specs.Views.{informed, holding, let_go, has_met, entered, recording_of}

-- what is known of the history by a look at its length
pub record Informs (v : View) (history : List Entry) : Type 0 where
  pub seen : StartsWith history v.seen
  pub told : StartsWith history v.told
  pub legal : IsLegal v.setup.limits v.setup.capacity history
  pub parts : All (Stands v.setup history) v.parts
  pub seated : All (λ (entry : Entry). IsSeated v.setup entry.who) history

-- the length was read
pub record Fronted {S : Type 0} (m : Me S View) (found : ℕ) (n : Me S View) : Type 0 where
  pub seat : n ≡ (informed m.0 n.0.seen, m.1)
  pub count : found ≡ length n.0.seen
  pub informs : Informs m.0 n.0.seen

abbrev pub fronted : {S : Type 0} → Step S → Me S View → ℕ → Me S View → Type 0
fronted st m found n = Fronted m found n

-- the turn was free, and is taken with the book
pub record Took {B : Type 0} (recording : B → Recording) (m n : Me B View) : Type 0 where
  pub book : B
  pub seat : n ≡ (holding (informed m.0 n.0.seen), (0, book) ∷ m.1)
  pub recorded : recording book ≡ recording_of m.0.setup n.0.seen
  pub informs : Informs m.0 n.0.seen

-- another seat held it
pub record Missed {B : Type 0} (number : ℕ) (m : Me B View) (found : ℕ) (n : Me B View) : Type 0 where
  pub other : IsAnother m.0.setup number found
  pub small : found < 2 ^ 32
  pub seat : n ≡ (has_met m.0 found, m.1)

abbrev pub grabbed : {B : Type 0} → (B → Recording) → Step B → Me B View → ℕ → Me B View → Type 0
grabbed recording st m found n = (found ≡ 0 → Took recording m n) × (found ≢ 0 → Missed st.second m found n)

-- the history of the book in hand
abbrev pub history_in_hand : {B : Type 0} → (B → Recording) → List (ℕ × B) → List Entry
history_in_hand recording [] = []
history_in_hand recording (held ∷ more) = (recording held.1).history

-- the history has become that of the book in hand
abbrev pub appended : {B : Type 0} → (B → Recording) → Step B → Me B View → ℕ → Me B View → Type 0
appended recording st m found n = n ≡ (entered m.0 (history_in_hand recording m.1), m.1)

abbrev pub gave_back : {B : Type 0} → Step B → Me B View → ℕ → Me B View → Type 0
gave_back st m found n = n ≡ (let_go m.0, rest m.1)
