-- Timer objects and their settings: what a contract sees of `TimerObjects`. A setting may be that of a timer, or the
-- timeout of an armed wait.
use Rattle.std.specs.Prelude.{◌≡◌, ◌≢◌, ℕ, ◌≤◌, ◌==◌, Bool, true, false, List, [], ◌∷◌, Option, None, Some, slice_index_or, if◌then◌else◌}
use Rattle.std.specs.List.{AllPairs, list_any}
use Rattle.tp_base.specs.declared.ids.ObjectId.{ObjectId}
use Rattle.tp_base.specs.declared.rows.TimerSetting.{TimerSetting}
use Rattle.tp_base.specs.Timers.{expires_before, is_due, set_again}

-- the greatest number of an object, for each number from 0 on whether there is such an object, and the settings in the
-- order in which they expire
pub record Timers : Type 0 where
  pub limit : ℕ
  pub there : List Bool
  pub settings : List TimerSetting

abbrev pub is_there : Timers → ℕ → Bool
is_there timers object = slice_index_or timers.there object false

-- whether a timer is set
abbrev pub is_set : ℕ → List TimerSetting → Bool
is_set object settings = list_any (λ (s : TimerSetting). s.object.0 == object) settings

-- a test of objects answers as this function does
abbrev pub TestsObjects : (ObjectId → Bool → Type 0) → ℕ → (ℕ → Bool) → Type 0
TestsObjects post limit passes = (object : ObjectId) (answer : Bool) → object.0 ≤ limit → post object answer → answer ≡ passes object.0

-- each setting expires before all later ones
abbrev pub IsInOrder : List TimerSetting → Type 0
IsInOrder settings = AllPairs (λ s t. expires_before s t ≡ true) settings

-- no timer has two settings
abbrev pub HasDistinctObjects : List TimerSetting → Type 0
HasDistinctObjects settings = AllPairs (λ s t. s.object.0 ≢ t.object.0) settings

-- a setting as an expiration tells of it
abbrev pub told : TimerSetting → ℕ × ObjectId
told s = (s.due, s.object)

-- the first setting, if it is due
abbrev pub first_expired : ℕ → List TimerSetting → Option (ℕ × ObjectId)
first_expired now [] = None
first_expired now (s ∷ settings) = if is_due now s then Some (told s) else None

-- the settings after the first has expired, if it is due
abbrev pub after_first : ℕ → List TimerSetting → List TimerSetting
after_first now [] = []
after_first now (s ∷ settings) = if is_due now s then set_again now s settings else s ∷ settings
