-- Lists of places: what a contract sees of `LinkedLists`.
use Rattle.std.specs.Prelude.{◌≡◌, ℕ, ◌+◌, ◌≤◌, ◌<◌, ◌==◌, ◌⊎◌, Bool, true, false, nat_lt, not, List, [], ◌∷◌, Option, None, filter, length, slice_get, slice_index, slice_index_or, slice_set, if◌then◌else◌}
use Rattle.std.specs.List.{AllPairs}

-- by key the numbers, and the lists that they are in; and the keys of each list, in order
pub record Linked : Type 0 where
  pub numbers : List ℕ
  pub owners : List ℕ
  pub lists : List (List ℕ)

abbrev pub list_of : Linked → ℕ → List ℕ
list_of all list = slice_index_or all.lists list []

-- the list that a place is in, or the number of lists where it's in none
abbrev pub owner_of : Linked → ℕ → ℕ
owner_of all place = slice_index_or all.owners place (length all.lists)

-- a key that is in no list
pub record IsFree (all : Linked) (key : ℕ) : Type 0 where
  pub there : key < length all.numbers
  pub in_none : owner_of all key ≡ length all.lists

-- the end of a list: the ends count on from the keys
abbrev pub end_at : Linked → ℕ → ℕ
end_at all list = length all.numbers + list

-- a key of this list, or the list's end
abbrev pub IsOf : Linked → ℕ → ℕ → Type 0
IsOf all list at = (at ≡ end_at all list) ⊎ (owner_of all at ≡ list)

abbrev pub tally : Bool → ℕ
tally true = 1
tally false = 0

-- how often a place is among these
abbrev pub times : ℕ → List ℕ → ℕ
times place [] = 0
times place (x ∷ xs) = tally (x == place) + times place xs

-- each key is once in the list that it is in, and in no other; a list's end is in none
pub record AreOwned (all : Linked) : Type 0 where
  pub once : (list key : ℕ) → list < length all.lists → times key (list_of all list) ≡ tally (owner_of all key == list)
  pub own : (list : ℕ) → list < length all.lists → owner_of all (end_at all list) ≡ length all.lists

-- the place that follows this one
abbrev pub place_after : ℕ → List ℕ → Option ℕ
place_after place [] = None
place_after place (x ∷ xs) = if x == place then slice_get xs 0 else place_after place xs

-- these with one more behind this place, which is among them or stands before them all
abbrev pub put_behind : ℕ → ℕ → ℕ → List ℕ → List ℕ
put_behind at place front [] = place ∷ []
put_behind at place front (x ∷ xs) = if front == at then place ∷ x ∷ xs else x ∷ put_behind at place x xs

-- the place gets this list, and the list these places
abbrev pub moved : Linked → ℕ → ℕ → ℕ → List ℕ → Linked
moved all place owner list places = record all { owners = slice_set all.owners place owner; lists = slice_set all.lists list places }

-- the place's number is below this one
abbrev pub is_below : List ℕ → ℕ → ℕ → Bool
is_below numbers number place = nat_lt (slice_index numbers place) number

-- how many of these places have a number below this one, and how many haven't
abbrev pub count_below : List ℕ → ℕ → List ℕ → ℕ
count_below numbers number places = length (filter (is_below numbers number) places)

abbrev pub count_others : List ℕ → ℕ → List ℕ → ℕ
count_others numbers number places = length (filter (λ p. not (is_below numbers number p)) places)

-- some of these places have a number below this one, and some haven't
pub record IsBetween (numbers : List ℕ) (number : ℕ) (places : List ℕ) : Type 0 where
  pub above_some : 0 < count_below numbers number places
  pub not_above_all : 0 < count_others numbers number places

-- the last of these places that passes, or the one before them all
abbrev pub last_passing : (ℕ → Bool) → ℕ → List ℕ → ℕ
last_passing test front [] = front
last_passing test front (x ∷ xs) = last_passing test (if test x then x else front) xs

-- no place has a greater number than one behind it
abbrev pub AreInOrder : List ℕ → List ℕ → Type 0
AreInOrder numbers places = AllPairs (λ a b. slice_index numbers a ≤ slice_index numbers b) places
