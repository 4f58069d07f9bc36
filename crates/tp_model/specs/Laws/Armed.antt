-- The law Armed: a wait object runs a callback only for a SetWait that names a kernel object, and one at most for each.
use Rattle.std.specs.Prelude.{◌≡◌, ℕ, true, List, [], ◌∷◌, ◌++◌, Some}
use Rattle.tp_base.specs.declared.ids.ObjectId.{ObjectId}
use Rattle.tp_base.specs.declared.answers.Entry.{Entry}
use Rattle.tp_model.specs.Laws.Entries.{run_by, is_among, made_by, is_wait_in, is_last_set, count_sets}

-- a callback of the object is taken
pub record IsRun (history : List Entry) (number : ℕ) (object : ObjectId) : Type 0 where
  pub before : List Entry
  pub entry : Entry
  pub later : List Entry
  pub place : before ++ entry ∷ later ≡ history
  pub takes : run_by entry.answer ≡ Some (record { number = number; object = object })

-- the callback is made
pub record IsBorn (history : List Entry) (number : ℕ) : Type 0 where
  pub before : List Entry
  pub entry : Entry
  pub later : List Entry
  pub place : before ++ entry ∷ later ≡ history
  pub makes : is_among number (made_by entry) ≡ true

-- the entries up to its birth, with the one that makes it
abbrev pub up_to : {history : List Entry} {number : ℕ} → IsBorn history number → List Entry
up_to b = b.before ++ b.entry ∷ []

pub record AreArmed (history : List Entry) : Type 0 where
  -- at its birth the last SetWait on its object names a kernel object
  pub named : (n : ℕ) (object : ObjectId) → is_wait_in object.0 history ≡ true → IsRun history n object → (b : IsBorn history n) → is_last_set object.0 (up_to b) ≡ true
  -- and it is that of no other run
  pub apart : (m n : ℕ) (object : ObjectId) → is_wait_in object.0 history ≡ true → IsRun history m object → IsRun history n object → (b : IsBorn history m) (c : IsBorn history n)
      → count_sets object.0 (up_to b) ≡ count_sets object.0 (up_to c) → m ≡ n
