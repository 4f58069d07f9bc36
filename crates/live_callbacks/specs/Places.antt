-- Where the entry of a number stands, which entries lead to a row, and to which.
use Rattle.std.specs.Prelude.{◌≡◌, ◌≢◌, ℕ, ◌<◌, List, true, false, filter, length, slice_index_or, AllPairs, Option, None, Some}
use Rattle.slab.specs.Slab.{Slab, get}
use Rattle.tp_base.specs.declared.answers.TakeResult.TheVariants.{Plain}
use Rattle.tp_base.specs.declared.calls.Priority.TheVariants.{Normal}
use Rattle.tp_base.specs.declared.rows.CallbackRow.{CallbackRow}
use Rattle.tp_base.specs.declared.rows.Status.TheVariants.{Returned}
use Rattle.live_callbacks.specs.declared.places.Entry.{Entry}

-- the entries whose rows haven't left
abbrev pub live : List Entry → List Entry
live entries = filter (λ e. e.there) entries

-- each number is above those before it, whether its row has left or not
abbrev pub EntriesRise : List Entry → Type 0
EntriesRise entries = AllPairs (λ a b. a.number < b.number) entries

-- the entry at this place has the number, and no other entry has it
pub record IsPlaceOf (entries : List Entry) (number place : ℕ) : Type 0 where
  pub within : place < length entries
  pub here : (d : Entry) → (slice_index_or entries place d).number ≡ number
  pub others : (k : ℕ) (d : Entry) → k < length entries → k ≢ place → (slice_index_or entries k d).number ≢ number

-- and its row is there
pub record IsPlaceOfRow (entries : List Entry) (number place : ℕ) : Type 0 where
  pub entry : IsPlaceOf entries number place
  pub there : (d : Entry) → (slice_index_or entries place d).there ≡ true

-- what is read where there is no row
abbrev pub no_row : CallbackRow
no_row = record {
  number = 0;
  object = record { 0 = 0 };
  routine = record { 0 = 0 };
  context = 0;
  pool = record { 0 = 0 };
  group = record { 0 = 0 };
  priority = Normal;
  long = false;
  persistent = false;
  result = Plain;
  status = Returned;
}

abbrev pub row_or : Option CallbackRow → CallbackRow
row_or (Some row) = row
row_or None = no_row

-- the row of a key
abbrev pub row_at : Slab CallbackRow → ℕ → CallbackRow
row_at rows key = row_or (get rows key)
