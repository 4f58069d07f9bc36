-- What a search keeps: the states that were met, in the order in which they were, and what is gone through of them.
use Rattle.std.specs.Prelude.{◌≡◌, ◌≢◌, ◌⊎◌, ℕ, zero, suc, ◌+◌, ◌<◌, ◌≤◌, List, [], ◌∷◌, ◌++◌, Option, None, Some, drop, length, map, slice_get}
use Rattle.std.specs.Global.{Vec}
use Rattle.std.specs.List.{AllPairs}
use Rattle.breadth_first.specs.declared.Next.{Next}
use Rattle.breadth_first.specs.declared.Next.TheVariants.{Nowhere, Bad, To}
use Rattle.breadth_first.specs.declared.searching.Origin.{Origin}
use Rattle.breadth_first.specs.declared.searching.Search.{Search}
use Rattle.breadth_first.specs.declared.searching.Waiting.{Waiting}
use Rattle.breadth_first.specs.declared.searching.Waiting.TheVariants.{First, Behind}
use Rattle.breadth_first.specs.declared.Answer.{Answer}
use Rattle.breadth_first.specs.Answers.{Answers, GivesUpFor}
use Rattle.breadth_first.specs.Rules.{Rules, comes_to, move_of}

abbrev pub Entry : Type 0
Entry = Vec ℕ × Origin

-- what is told of the origin of an entry, if there is one
abbrev pub of_origin : Option Entry → (Origin → List ℕ) → List ℕ
of_origin None way = []
of_origin (Some e) way = way e.1

module _ (entries : List Entry) where
  -- the moves that came to the state at a place, at most so many, as the origins tell them
  abbrev pub way_to : ℕ → ℕ → List ℕ
  way_to zero at = []
  way_to (suc depth) at = of_origin (slice_get entries at) (λ origin. way_to depth origin.from ++ origin.by ∷ [])

-- a state that was met, and the moves that came to it
pub record Met (S : Type 0) : Type 0 where
  pub state : S
  pub path : List ℕ

abbrev pub keys_of : {S : Type 0} → Rules S → List (Met S) → List (List ℕ)
keys_of {S} r mets = map (λ (m : Met S). r.key m.state) mets

module _ {S : Type 0} (mets : List (Met S)) where
  -- an origin tells by which move the state was met, of which state before it, and how many moves that makes
  pub record Tells (origin : Origin) (met : Met S) : Type 0 where
    pub depth : origin.depth ≡ length met.path
    pub last : (met.path ≡ []) ⊎ ((before : Met S) × (slice_get mets origin.from ≡ Some before) × (met.path ≡ before.path ++ origin.by ∷ []))

  -- the map has the keys of what was met, each with its origin
  pub record IsHeld (r : Rules S) (entries : List Entry) : Type 0 where
    pub keys : map (λ (e : Entry). e.0.items) entries ≡ keys_of r mets
    pub told : (i : ℕ) (e : Entry) (m : Met S) → slice_get entries i ≡ Some e → slice_get mets i ≡ Some m → Tells e.1 m

module _ {S : Type 0} (r : Rules S) (mets : List (Met S)) where
  -- where a move leads to a state, one with its key was met by no more moves than this
  abbrev pub IsLedTo : ℕ → Next S → Type 0
  IsLedTo depth Nowhere = Unit {0}
  IsLedTo depth Bad = ⊥
  IsLedTo depth (To s) = (i : ℕ) × (m : Met S) × (slice_get mets i ≡ Some m) × (r.key s ≡ r.key m.state) × (length m.path ≤ depth)

  -- this move of this state was made: all of those before the state at hand, and of that itself the first ones
  abbrev pub IsMade : ℕ → ℕ → ℕ → ℕ → Type 0
  IsMade at by i move = (i < at) ⊎ ((i ≡ at) × (move < by))

  -- what is so of the states that were met
  pub record AreMet (at by : ℕ) : Type 0 where
    pub begun : slice_get mets 0 ≡ Some (record { state = r.first; path = [] })
    pub reached : (i : ℕ) (m : Met S) → slice_get mets i ≡ Some m → comes_to r m.path ≡ To m.state
    pub apart : AllPairs (λ a b. a ≢ b) (keys_of r mets)
    pub rising : (i j : ℕ) (m n : Met S) → i ≤ j → slice_get mets i ≡ Some m → slice_get mets j ≡ Some n → length m.path ≤ length n.path
    pub near : (i : ℕ) (m n : Met S) → slice_get mets at ≡ Some m → slice_get mets i ≡ Some n → length n.path ≤ length m.path + 1
    pub made : (i move : ℕ) (m : Met S) → IsMade at by i move → slice_get mets i ≡ Some m → IsLedTo (length m.path + 1) (move_of r m.state move)

-- what a waiting state comes to when it is made again
abbrev pub remade : {S : Type 0} → Rules S → Waiting S → Next S
remade {S} r First = To r.first
remade {S} r (Behind from by) = move_of r from.value by

-- these keys and origins, and what waits from a place on when it is made again, are those of what was met, which is no more than it may be
pub record IsOf {S : Type 0} (r : Rules S) (most from : ℕ) (search : Search S) (mets : List (Met S)) : Type 0 where
  pub limit : search.most ≡ most
  pub within : length mets ≤ most
  pub held : IsHeld mets r search.origins.entries
  pub queue : map (remade r) search.waiting.items ≡ map (λ (m : Met S). To m.state) (drop from mets)

-- A search between two states: all moves of the first `at` were made, and the others wait.
pub record IsSearched {S : Type 0} (r : Rules S) (most at : ℕ) (search : Search S) : Type 0 where
  pub mets : List (Met S)
  pub of : IsOf r most at search mets
  pub are : AreMet r mets at 0

-- A search within a state: of its moves those below that of `origin` were made, which tells of what the next one leads to.
pub record IsWithin {S : Type 0} (r : Rules S) (most : ℕ) (origin : Origin) (state : S) (search : Search S) : Type 0 where
  pub mets : List (Met S)
  pub of : IsOf r most (origin.from + 1) search mets
  pub are : AreMet r mets origin.from origin.by
  pub met : Met S
  pub here : slice_get mets origin.from ≡ Some met
  pub this : met.state ≡ state
  pub deep : length met.path + 1 ≡ origin.depth

abbrev pub origin_of : ℕ → ℕ → ℕ → Origin
origin_of from by depth = record { from = from; by = by; depth = depth }

-- that of the move behind it
abbrev pub next_origin : Origin → Origin
next_origin o = origin_of o.from (o.by + 1) o.depth

-- an answer that the search may give, by its limit of states alone
pub record IsFound {S : Type 0} (r : Rules S) (most : ℕ) (answer : Answer) : Type 0 where
  pub answers : Answers r answer
  pub gives_up : (deepest : ℕ) → GivesUpFor r most deepest answer
