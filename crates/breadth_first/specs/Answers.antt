-- What an answer says of the rules that a search goes by.
use Rattle.std.specs.Prelude.{◌≡◌, ◌≢◌, ◌⊎◌, ℕ, ◌<◌, ◌≤◌, List, All, length}
use Rattle.std.specs.List.{AllPairs}
use Rattle.breadth_first.specs.declared.Answer.{Answer}
use Rattle.breadth_first.specs.declared.Answer.TheVariants.{Bad as BadFor, None as NoneBad, GaveUp}
use Rattle.breadth_first.specs.declared.Next.TheVariants.{Bad, To}
use Rattle.breadth_first.specs.Rules.{Rules, comes_to}

module _ {S : Type 0} (r : Rules S) where
  -- these moves come to what is bad, and no fewer do
  pub record IsShortest (path : List ℕ) : Type 0 where
    pub bad : comes_to r path ≡ Bad
    pub shortest : (moves : List ℕ) → comes_to r moves ≡ Bad → length path ≤ length moves

  abbrev pub Answers : Answer → Type 0
  Answers (BadFor path) = IsShortest path.items
  Answers (NoneBad states) = (moves : List ℕ) → comes_to r moves ≢ Bad
  Answers (GaveUp states deep) = (moves : List ℕ) → length moves ≤ deep → comes_to r moves ≢ Bad

  -- some moves come to a state with this key
  abbrev pub IsKeyMet : List ℕ → Type 0
  IsKeyMet key = (moves : List ℕ) × (s : S) × (comes_to r moves ≡ To s) × (r.key s ≡ key)

  -- moves come to states with more keys than this
  pub record HasMoreKeys (most : ℕ) : Type 0 where
    pub keys : List (List ℕ)
    pub more : most < length keys
    pub apart : AllPairs (λ a b. a ≢ b) keys
    pub met : All IsKeyMet keys

  -- it gave up for a reason
  abbrev pub GivesUpFor : ℕ → ℕ → Answer → Type 0
  GivesUpFor most deepest (BadFor path) = Unit {0}
  GivesUpFor most deepest (NoneBad states) = Unit {0}
  GivesUpFor most deepest (GaveUp states deep) = HasMoreKeys most ⊎ (deep ≡ deepest)
