-- Nodes by their places: what a contract sees of `Nodes`, and what it keeps between calls.
use Rattle.std.specs.Prelude.{◌≡◌, ℕ, ◌+◌, ◌-◌, ◌*◌, ◌/◌, ◌%◌, ◌≤◌, ◌<◌, ◌^◌, ◌==◌, List, length, map, nat_lt, slice_index, slice_index_or, slice_set, if◌then◌else◌}
use Rattle.std.specs.List.{range_with_len}
use Rattle.linked_lists.specs.declared.nodes.Node.{Node}

-- the numbers of the keys, and what follows each key or end, and what stands before it. The ends of lists count on from
-- the keys. A turn fills two places, those of a key and of a list's end
pub record Arena : Type 0 where
  pub numbers : List ℕ
  pub after : List ℕ
  pub before : List ℕ
  pub turns : ℕ

-- the key at a place, or the end
abbrev pub code : ℕ → ℕ → ℕ
code keys place = if place % 2 == 0 then place / 2 else keys + place / 2

-- and the place of a key or an end
abbrev pub place_at : ℕ → ℕ → ℕ
place_at keys c = if nat_lt c keys then 2 * c else 2 * (c - keys) + 1

-- the place of one of so many keys and ends
pub record IsPlaceIn (keys total place : ℕ) : Type 0 where
  pub back : place_at keys (code keys place) ≡ place
  pub within : code keys place < total

abbrev pub IsPlace : Arena → ℕ → Type 0
IsPlace arena place = IsPlaceIn (length arena.numbers) (length arena.after) place

-- the key or end at a place
abbrev pub here : Arena → ℕ → ℕ
here arena place = code (length arena.numbers) place

-- a node that was read: a key's has its number, and links lead to places that are filled
pub record IsRead (arena : Arena) (place : ℕ) (node : Node) : Type 0 where
  pub number : here arena place < length arena.numbers → node.number ≡ slice_index arena.numbers (here arena place)
  pub after : here arena node.after ≡ slice_index arena.after (here arena place)
  pub before : here arena node.before ≡ slice_index arena.before (here arena place)
  pub on : IsPlace arena node.after
  pub back : IsPlace arena node.before
  pub on_filled : node.after < 2 * arena.turns
  pub back_filled : node.before < 2 * arena.turns

-- the second follows the first
abbrev pub linked : ℕ → ℕ → Arena → Arena
linked before after arena = record arena { after = slice_set arena.after before after; before = slice_set arena.before after before }

-- ---- what is filled on use

-- a place that was never linked follows itself
abbrev pub alone : ℕ → Node
alone place = record { number = 0; before = place; after = place }

abbrev pub node_at : List Node → ℕ → Node
node_at nodes place = slice_index_or nodes place (alone place)

-- a value for each number below this one
abbrev pub each : ℕ → (ℕ → ℕ) → List ℕ
each n f = map f (range_with_len 0 n)

abbrev pub arena_of : ℕ → ℕ → List Node → Arena
arena_of keys lists nodes = record {
  numbers = each keys (λ key. (node_at nodes (2 * key)).number);
  after = each (keys + lists) (λ c. code keys (node_at nodes (place_at keys c)).after);
  before = each (keys + lists) (λ c. code keys (node_at nodes (place_at keys c)).before);
  turns = length nodes / 2;
}

-- places lead to places, and filled ones to filled ones, all turns are whole, and there is memory for all
pub record AreFilled (keys lists capacity : ℕ) (nodes : List Node) : Type 0 where
  pub on : (place : ℕ) → IsPlaceIn keys (keys + lists) place → IsPlaceIn keys (keys + lists) (node_at nodes place).after
  pub back : (place : ℕ) → IsPlaceIn keys (keys + lists) place → IsPlaceIn keys (keys + lists) (node_at nodes place).before
  pub on_filled : (place : ℕ) → place < length nodes → (node_at nodes place).after < length nodes
  pub back_filled : (place : ℕ) → place < length nodes → (node_at nodes place).before < length nodes
  pub whole : length nodes ≡ 2 * (length nodes / 2)
  pub keys_reserved : 2 * keys ≤ capacity
  pub lists_reserved : 2 * lists ≤ capacity
  pub keys_fit : keys ≤ 2 ^ 31
  pub lists_fit : lists ≤ 2 ^ 31
