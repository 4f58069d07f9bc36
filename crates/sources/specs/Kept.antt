-- What the parts of `LiveSources` show, and what they keep between calls.
use Rattle.std.specs.Prelude.{◌≡◌, ◌+◌, ◌<◌, ◌≤◌, ◌^◌, true, false, List, [], ◌∷◌, length}
use Rattle.std.specs.List.{AllByRecursion}
use Rattle.tp_base.specs.declared.rows.Arming.{Arming}
use Rattle.tp_base.specs.Armings.{is_armed}
use Rattle.tp_base.specs.Timers.{clock_end}
use Rattle.timer_objects.specs.Settings.{Timers, is_there}
use Rattle.sources.specs.Rows.{SourceRows}
use Rattle.sources.specs.declared.LiveSources.TheInside.{Inside}

abbrev pub shown : Inside → SourceRows
shown a = record {
  objects = a.timers.limit;
  most_kernels = a.kernels.limit;
  there = a.timers.there;
  sources = record { settings = a.timers.settings; armings = a.kernels.armed; kernels = a.kernels.rows; now = a.clock };
}

-- no object is armed twice
abbrev pub AreOnce : List Arming → Type 0
AreOnce [] = Unit {0}
AreOnce (a ∷ armings) = (is_armed a.object.0 armings ≡ false) × AreOnce armings

-- each object that is armed is there
abbrev pub AreThere : Timers → List Arming → Type 0
AreThere timers armings = AllByRecursion (λ (a : Arming). is_there timers a.object.0 ≡ true) armings

-- there are places for all objects, and each object may be armed; none is armed twice, each that is armed is there, and
-- the armed ones are counted
pub record IsKept (a : Inside) : Type 0 where
  pub objects : a.kernels.objects ≡ a.timers.limit
  pub fits : a.timers.limit < 2 ^ 32
  pub few : length a.kernels.rows ≤ a.kernels.limit
  pub places : length a.timers.there ≡ a.timers.limit + 1
  pub none_0 : is_there a.timers 0 ≡ false
  pub once : AreOnce a.kernels.armed
  pub counted : a.armed ≡ length a.kernels.armed
  pub armed : AreThere a.timers a.kernels.armed
  pub clock : a.clock ≤ clock_end
