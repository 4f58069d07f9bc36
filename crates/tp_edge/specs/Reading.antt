-- Reading a source to its end.
use Rattle.std.specs.Prelude.{◌≡◌, ℕ, ◌+◌, ◌≤◌, ◌↔◌, List, length, Result, Err, IfOk}
use Rattle.std.specs.Global.{Vec}
use Rattle.tp_edge.specs.declared.reading.ReadFault.{ReadFault}
use Rattle.tp_edge.specs.declared.reading.ReadFault.TheVariants.{TooLong}

-- the answer where these are the bytes that were taken in all
pub record IsRead (answer : Result (Vec ℕ) ReadFault) (limit : ℕ) (taken : List ℕ) : Type 0 where
  -- all of them are answered
  pub all : IfOk answer (λ bytes. bytes.items ≡ taken)
  -- one byte more than the limit is too long, and no more than one are taken
  pub too_long : (answer ≡ Err TooLong) ↔ (length taken ≡ limit + 1)
  pub within : length taken ≤ limit + 1
