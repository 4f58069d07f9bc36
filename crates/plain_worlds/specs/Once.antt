-- No object is armed twice, and none is set twice.
use Rattle.std.specs.Prelude.{◌≡◌, ℕ, ◌==◌, false, List, [], ◌∷◌}
use Rattle.std.specs.List.{list_any}
use Rattle.tp_base.specs.declared.rows.Arming.{Arming}
use Rattle.tp_base.specs.declared.rows.TimerSetting.{TimerSetting}
use Rattle.tp_model.specs.World.{World}

-- each has a number of its own
abbrev pub AreOnce : {X : Type 0} → (X → ℕ) → List X → Type 0
AreOnce number [] = Unit {0}
AreOnce number (x ∷ xs) = (list_any (λ y. number y == number x) xs ≡ false) × AreOnce number xs

abbrev pub AreArmedOnce : List Arming → Type 0
AreArmedOnce armings = AreOnce (λ (a : Arming). a.object.0) armings

abbrev pub AreSetOnce : List TimerSetting → Type 0
AreSetOnce settings = AreOnce (λ (s : TimerSetting). s.object.0) settings

pub record IsOnce (w : World) : Type 0 where
  pub armed : AreArmedOnce w.armings
  pub set : AreSetOnce w.settings
