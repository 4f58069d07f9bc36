-- What the rows keep between calls.
use Rattle.std.specs.Prelude.{◌≡◌, ◌<◌, ◌≤◌, ◌*◌, ◌^◌, List, Some, length, map, vec_len, vec_capacity}
use Rattle.std.specs.List.{AllByRecursion}
use Rattle.slab.specs.Slab.{Slab, get, slab_len}
use Rattle.tp_base.specs.declared.rows.CallbackRow.{CallbackRow}
use Rattle.live_callbacks.specs.declared.places.Entry.{Entry}
use Rattle.live_callbacks.specs.declared.rows.Rows.TheInside.{Inside}
use Rattle.live_callbacks.specs.Held.{Held}
use Rattle.live_callbacks.specs.Places.{EntriesRise, live, row_at}

abbrev pub held_by : Slab CallbackRow → Entry → Held
held_by rows e = record { key = e.key; row = row_at rows e.key }

-- the rows of the entries that haven't left
abbrev pub held_in : Slab CallbackRow → List Entry → List Held
held_in rows entries = map (held_by rows) (live entries)

-- the entry leads to a row, which has its number
pub record IsTied (rows : Slab CallbackRow) (e : Entry) : Type 0 where
  pub here : get rows e.key ≡ Some (row_at rows e.key)
  pub same : (row_at rows e.key).number ≡ e.number
  pub within : e.key < rows.capacity

-- the entries rise, each that hasn't left leads to its row, there are no other rows, and there is memory for two
-- entries a slot and for each row
pub record AreReserved (a : Inside) : Type 0 where
  pub rising : EntriesRise a.entries.items
  pub tied : AllByRecursion (IsTied a.rows) (live a.entries.items)
  pub counted : slab_len a.rows ≡ length (live a.entries.items)
  pub fits : a.slots < 2 ^ 32
  pub limited : slab_len a.rows ≤ a.slots
  pub few : vec_len a.entries ≤ 2 * a.slots
  pub reserved : 2 * a.slots ≤ vec_capacity a.entries
  pub backed : a.slots ≤ a.rows.capacity
  pub keyed : a.rows.capacity < 2 ^ 32
