-- What timer objects keep between calls.
use Rattle.std.specs.Prelude.{◌≡◌, ℕ, ◌+◌, ◌-◌, ◌≤◌, ◌<◌, ◌^◌, ◌++◌, Bool, true, false, List, All, length, map, replicate, slice_index_or}
use Rattle.tp_base.specs.declared.rows.TimerSetting.{TimerSetting}
use Rattle.timer_heap.specs.Dues.{Entry, Dues}
use Rattle.timer_objects.specs.declared.Pace.{Pace}

-- a list of so many: no object is there past those that are filled
abbrev pub padded : ℕ → List Bool → List Bool
padded n items = items ++ replicate (n - length items) false

abbrev pub pace_of : List Pace → ℕ → Pace
pace_of paces key = slice_index_or paces key (record { period = 0; window = 0 })

-- the setting of the object that has this key
abbrev pub setting_of : List Pace → Entry → TimerSetting
setting_of paces e = record {
  object = record { 0 = e.key + 1 };
  due = e.due;
  period = (pace_of paces e.key).period;
  window = (pace_of paces e.key).window;
}

abbrev pub settings_of : List Pace → List Entry → List TimerSetting
settings_of paces entries = map (setting_of paces) entries

-- there is memory for a place of each number and for the paces of all, no object 0, a key for each object, only objects
-- have due times, and each of these has a pace
pub record IsKept (room capacity : ℕ) (there : List Bool) (dues : Dues) (paces : List Pace) : Type 0 where
  pub places : length there ≤ dues.keys + 1
  pub numbered : dues.keys + 1 ≤ room
  pub paced : All (λ e. e.key < length paces) dues.entries
  pub many : length paces ≤ dues.keys
  pub reserved : dues.keys ≤ capacity
  pub none_0 : slice_index_or there 0 false ≡ false
  pub alive : All (λ e. slice_index_or there (e.key + 1) false ≡ true) dues.entries
  pub fits : dues.keys < 2 ^ 32
