-- What linked lists keep between calls, and the lists that they stand for.
use Rattle.std.specs.Prelude.{◌≡◌, ℕ, zero, suc, ◌+◌, ◌<◌, ◌^◌, List, [], ◌∷◌, length, min, slice_index, slice_index_or}
use Rattle.linked_lists.specs.Filled.{Padded}
use Rattle.linked_lists.specs.Linked.{Linked, owner_of, times}
use Rattle.linked_lists.specs.Nodes.{Arena, IsPlaceIn, code}
use Rattle.linked_lists.specs.Rings.{AreRings}

abbrev pub after_in : Arena → ℕ → ℕ
after_in arena at = slice_index arena.after at

abbrev pub before_in : Arena → ℕ → ℕ
before_in arena at = slice_index arena.before at

-- so many on from this one
abbrev pub walk : (ℕ → ℕ) → ℕ → ℕ → List ℕ
walk after zero at = []
walk after (suc n) at = after at ∷ walk after n (after at)

-- the keys of lists that are so long, where the first has this end
abbrev pub lists_from : (ℕ → ℕ) → ℕ → List ℕ → List (List ℕ)
lists_from after end [] = []
lists_from after end (n ∷ ns) = walk after n end ∷ lists_from after (suc end) ns

abbrev pub lists_in : Arena → List ℕ → List (List ℕ)
lists_in arena lens = lists_from (after_in arena) (length arena.numbers) lens

-- what contracts see
abbrev pub linked_in : Arena → List ℕ → List ℕ → Linked
linked_in arena owners lens = record {
  numbers = arena.numbers;
  owners = owners;
  lists = lists_in arena lens;
}

-- a place, and the key or end at it
abbrev pub IsPlaceOf : Linked → ℕ → Type 0
IsPlaceOf all place = IsPlaceIn (length all.numbers) (length all.numbers + length all.lists) place

abbrev pub code_of : Linked → ℕ → ℕ
code_of all place = code (length all.numbers) place

-- the lists are rings, each is as long as it has keys, each key has an owner, none is the number of lists, and each key
-- and each end has what follows it and what stands before it
pub record AreKept (none : ℕ) (arena : Arena) (owners lens : List ℕ) : Type 0 where
  pub rings : AreRings (length arena.numbers) (after_in arena) (before_in arena) (owner_of (linked_in arena owners lens)) (lists_in arena lens)
  pub counted : (s : ℕ) → s < length lens → slice_index lens s ≡ times s owners
  pub sized : length owners ≡ length arena.numbers
  pub on_many : length arena.after ≡ length arena.numbers + length lens
  pub back_many : length arena.before ≡ length arena.numbers + length lens
  pub unlisted : none ≡ length lens
  pub keys_fit : length arena.numbers < 2 ^ 32
  pub lists_fit : length lens < 2 ^ 32

-- each key that is in a list has its turn among these, and so has its list
pub record AreReached (turns none : ℕ) (owners : List ℕ) : Type 0 where
  pub key : (key : ℕ) → slice_index_or owners key none < none → key < turns
  pub list : (key : ℕ) → slice_index_or owners key none < none → slice_index_or owners key none < turns

-- all are filled by the same turns, as far as there are keys and lists
pub record AreStored (nodes : Arena) (owners lens : Padded) : Type 0 where
  pub kept : AreKept owners.fill nodes owners.items lens.items
  pub owners_filled : owners.filled ≡ min (length owners.items) nodes.turns
  pub lens_filled : lens.filled ≡ min (length lens.items) nodes.turns
  pub reached : AreReached nodes.turns owners.fill owners.items
