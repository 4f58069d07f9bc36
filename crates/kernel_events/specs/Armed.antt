-- The wait objects that are armed, each on a kernel object, in the order of arming.
use Rattle.std.specs.Prelude.{◌≢◌, ℕ, List, map, filter, find, Option}
use Rattle.std.specs.List.{AllPairs}
use Rattle.std.specs.Option.{option_map}
use Rattle.tp_base.specs.declared.ids.ObjectId.{ObjectId}
use Rattle.tp_base.specs.declared.rows.Arming.{Arming}
use Rattle.tp_base.specs.Armings.{is_arming_on}

-- the greatest numbers of a kernel object and of a wait object, and what is armed
pub record Armed : Type 0 where
  pub kernels : ℕ
  pub objects : ℕ
  pub armed : List Arming

-- what is armed on a kernel object
abbrev pub waits_on : ℕ → List Arming → List ObjectId
waits_on kernel armed = map (λ (a : Arming). a.object) (filter (is_arming_on kernel) armed)

-- the earliest that is armed on a kernel object
abbrev pub first_on : ℕ → List Arming → Option ObjectId
first_on kernel armed = option_map (λ (a : Arming). a.object) (find (is_arming_on kernel) armed)

-- no wait object is armed twice
abbrev pub HasDistinctObjects : List Arming → Type 0
HasDistinctObjects armed = AllPairs (λ a b. a.object.0 ≢ b.object.0) armed
