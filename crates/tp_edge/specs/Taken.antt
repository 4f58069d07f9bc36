-- What is taken from a source.
use Rattle.std.specs.Prelude.{◌≡◌, ℕ, ◌<◌, ◌≤◌, List, [], ◌++◌, length, take, Option, Some, None}
use Rattle.tp_edge.specs.declared.source.Took.{Took}
use Rattle.tp_edge.specs.declared.source.Took.TheVariants.{Bytes, End, Failed}

-- what was left before these bytes were taken, where the source tells it
abbrev pub behind : List ℕ → Option (List ℕ) → Option (List ℕ)
behind taken None = None
behind taken (Some rest) = Some (taken ++ rest)

-- these are all the bytes that are left, where the source tells them
abbrev pub AreAll : List ℕ → Option (List ℕ) → Type 0
AreAll bytes None = Unit {0}
AreAll bytes (Some left) = left ≡ bytes

-- more bytes than the limit are left, where the source tells them
abbrev pub IsAbove : ℕ → Option (List ℕ) → Type 0
IsAbove limit None = Unit {0}
IsAbove limit (Some left) = limit < length left

-- nothing is left, where the source tells it
abbrev pub IsEnded : Option (List ℕ) → Type 0
IsEnded left = AreAll [] left

-- an answer to one request: the next bytes, as many as fit the buffer; or the end, at which
-- nothing was left; or a failure. Only the bytes that were answered are gone
abbrev pub IsTook : Option (List ℕ) → Option (List ℕ) → Took → List ℕ → Type 0
IsTook before now (Bytes n) buffer = (1 ≤ n) × (n ≤ length buffer) × (before ≡ behind (take n buffer) now)
IsTook before now End buffer = IsEnded before × (before ≡ now)
IsTook before now Failed buffer = before ≡ now
