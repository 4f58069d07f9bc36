-- What holds of each sleep behind a legal history.
use Rattle.std.specs.Prelude.{◌≡◌, ℕ, ◌≤◌, List, [], ◌∷◌}
use Rattle.std.specs.List.{All, Contains}
use Rattle.tp_base.specs.declared.calls.Call.{Call}
use Rattle.tp_base.specs.declared.ids.Who.{Who}
use Rattle.tp_base.specs.declared.rows.TimerSetting.{TimerSetting}
use Rattle.tp_base.specs.Timers.{deadline}
use Rattle.recorded.specs.Recordings.{all_made, made, now_behind, Recording, world_behind}
use Rattle.tp_coalesce.specs.Sleeps.{Sleep}

abbrev pub settings_behind : Recording → List TimerSetting
settings_behind r = (world_behind r).settings

-- what has expired when the clock is at a moment: from its due time on, and not behind its deadline
abbrev pub IsOnTime : ℕ → TimerSetting → Type 0
IsOnTime now s = s.due ≤ now → now ≤ deadline s

-- of each of these calls one after another: what expires there is on time
abbrev pub AreOnTime : Recording → List (Who × Call) → Type 0
AreOnTime r [] = Unit {0}
AreOnTime r (call ∷ calls) = All (IsOnTime (now_behind (made r call))) (settings_behind r) × AreOnTime (made r call) calls

-- the clock has come to the deadline of something that expires there
pub record IsFor (r next : Recording) : Type 0 where
  pub setting : TimerSetting
  pub stands : Contains (settings_behind r) setting
  pub due : setting.due ≤ now_behind next
  pub put_off : deadline setting ≡ now_behind next

-- of each of these calls but the last
abbrev pub AreFor : Recording → List (Who × Call) → Type 0
AreFor r [] = Unit {0}
AreFor r (call ∷ []) = Unit {0}
AreFor r (call ∷ later ∷ calls) = IsFor r (made r call) × AreFor (made r call) (later ∷ calls)

pub record IsLawful (r : Recording) (s : Sleep) : Type 0 where
  -- the history goes on by these calls alone
  pub grows : s.after ≡ all_made r s.calls
  pub on_time : AreOnTime r s.calls
  pub wakes_for : AreFor r s.calls
