-- What becomes of lists as a key moves from one to another.
use Rattle.std.specs.Prelude.{◌≡◌, ◌≢◌, ℕ, ◌≤◌, ◌<◌, ◌==◌, not, List, ◌∷◌, ◌++◌, filter, length, slice_index, if◌then◌else◌}
use Rattle.linked_lists.specs.Linked.{Linked, is_below, list_of, owner_of}

-- a key that there is, in a list or in none
pub record IsCommon (all : Linked) (key : ℕ) : Type 0 where
  pub there : key < length all.numbers
  pub owned : owner_of all key ≤ length all.lists

-- these without a key
abbrev pub without : ℕ → List ℕ → List ℕ
without key keys = filter (λ p. not (p == key)) keys

-- these and one more: behind those with numbers below this one, and before the others
abbrev pub with_key : List ℕ → ℕ → ℕ → List ℕ → List ℕ
with_key numbers number key keys = filter (is_below numbers number) keys ++ key ∷ filter (λ p. not (is_below numbers number p)) keys

-- the key is in no list
pub record IsLeft (old new : Linked) (key : ℕ) : Type 0 where
  pub keys : length new.numbers ≡ length old.numbers
  pub many : length new.lists ≡ length old.lists
  pub listed : (list : ℕ) → list < length old.lists → list_of new list ≡ without key (list_of old list)
  pub owners : (q : ℕ) → owner_of new q ≡ if q == key then length old.lists else owner_of old q
  pub numbers : new.numbers ≡ old.numbers

-- the key, which was in no list, has this number and is in this list
pub record IsEntered (old new : Linked) (key list number : ℕ) : Type 0 where
  pub keys : length new.numbers ≡ length old.numbers
  pub many : length new.lists ≡ length old.lists
  pub listed : (s : ℕ) → s < length old.lists → list_of new s ≡ if s == list then with_key old.numbers number key (list_of old s) else list_of old s
  pub owners : (q : ℕ) → owner_of new q ≡ if q == key then list else owner_of old q
  pub numbers : (q : ℕ) → q ≢ key → slice_index new.numbers q ≡ slice_index old.numbers q
  pub known : slice_index new.numbers key ≡ number

-- the key is in this list, or in none where there is no such list; in a list it has this number
pub record IsMoved (old new : Linked) (key list number : ℕ) : Type 0 where
  pub keys : length new.numbers ≡ length old.numbers
  pub many : length new.lists ≡ length old.lists
  pub listed : (s : ℕ) → s < length old.lists → list_of new s ≡ if s == list then with_key old.numbers number key (without key (list_of old s)) else without key (list_of old s)
  pub owners : (q : ℕ) → owner_of new q ≡ if q == key then list else owner_of old q
  pub numbers : (q : ℕ) → q ≢ key → slice_index new.numbers q ≡ slice_index old.numbers q
  pub known : list < length old.lists → slice_index new.numbers key ≡ number
