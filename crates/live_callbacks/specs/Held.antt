-- The rows of the callbacks that live, each under a key: what a contract sees of `Rows`.
use Rattle.std.specs.Prelude.{◌≢◌, ℕ, ◌==◌, List, [], ◌∷◌, IsSome, Option, Some, None, find, map, option_map}
use Rattle.std.specs.List.{AllByRecursion}
use Rattle.tp_base.specs.declared.rows.CallbackRow.{CallbackRow}

-- a row and its key
pub record Held : Type 0 where
  pub key : ℕ
  pub row : CallbackRow

-- how many rows there may be, below which number their keys are, and the rows, by rising number
pub record KeyedRows : Type 0 where
  pub slots : ℕ
  pub places : ℕ
  pub held : List Held

abbrev pub rows_of : List Held → List CallbackRow
rows_of held = map (λ h. h.row) held

-- no key is twice among these
abbrev pub AreApart : List Held → Type 0
AreApart [] = Unit {0}
AreApart (h ∷ hs) = AllByRecursion (λ (g : Held). g.key ≢ h.key) hs × AreApart hs

-- a row is under this key
abbrev pub IsHeldUnder : List Held → ℕ → Type 0
IsHeldUnder held key = IsSome (find (λ h. h.key == key) held)

abbrev pub row_under : List Held → Option ℕ → Option CallbackRow
row_under held None = None
row_under held (Some key) = option_map (λ h. h.row) (find (λ h. h.key == key) held)
