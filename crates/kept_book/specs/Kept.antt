-- What a machine with its entries keeps.
use Rattle.std.specs.Prelude.{◌≡◌, ℕ, ◌≤◌, List, max}
use Rattle.tp_base.specs.declared.answers.Entry.{Entry}
use Rattle.recorded.specs.Recordings.{Recording}

-- the list has the entries of the history, and room for the longest one
pub record IsKept (r : Recording) (entries : List Entry) (places : ℕ) : Type 0 where
  pub same : entries ≡ r.history
  pub room : max r.capacity r.limits.clients ≤ places
