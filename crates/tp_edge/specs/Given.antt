-- What is given to a sink.
use Rattle.std.specs.Prelude.{◌≡◌, ℕ, ◌≤◌, List, ◌++◌, length, take, Option, Some, None}
use Rattle.tp_edge.specs.declared.sink.Gave.{Gave}
use Rattle.tp_edge.specs.declared.sink.Gave.TheVariants.{Bytes, Failed}

-- what is held once these bytes were given, where the sink tells it
abbrev pub with_given : List ℕ → Option (List ℕ) → Option (List ℕ)
with_given given None = None
with_given given (Some held) = Some (held ++ given)

-- an answer to one request: the first of the bytes were taken, at least one; or none were
abbrev pub IsGave : Option (List ℕ) → Option (List ℕ) → Gave → List ℕ → Type 0
IsGave before now (Bytes n) piece = (1 ≤ n) × (n ≤ length piece) × (now ≡ with_given (take n piece) before)
IsGave before now Failed piece = now ≡ before

-- the sink took the first of the bytes, as many as it took, and no others
abbrev pub TookFirst : Option (List ℕ) → Option (List ℕ) → List ℕ → Type 0
TookFirst before now bytes = (n : ℕ) × (n ≤ length bytes) × (now ≡ with_given (take n bytes) before)
