-- Wait objects that are armed on kernel objects, in order of arming. The timeout of one is a setting of the timers, as of
-- a timer that expires once.
use Rattle.std.specs.Prelude.{ℕ, Bool, not, ◌==◌, List}
use Rattle.std.specs.List.{filter, list_any}
use Rattle.tp_base.specs.declared.rows.Arming.{Arming}
use Rattle.tp_base.specs.declared.rows.TimerSetting.{TimerSetting}

abbrev pub is_arming_of : ℕ → Arming → Bool
is_arming_of object a = a.object.0 == object

abbrev pub is_arming_on : ℕ → Arming → Bool
is_arming_on kernel a = a.kernel.0 == kernel

-- the wait object of this number is armed
abbrev pub is_armed : ℕ → List Arming → Bool
is_armed object armings = list_any (is_arming_of object) armings

abbrev pub without_arming : ℕ → List Arming → List Arming
without_arming object armings = filter (λ a. not (is_arming_of object a)) armings

-- one of the settings is of this object
abbrev pub is_set : ℕ → List TimerSetting → Bool
is_set object settings = list_any (λ (s : TimerSetting). s.object.0 == object) settings

-- the waits that stay armed where these settings expire
abbrev pub armed_behind : List TimerSetting → List Arming → List Arming
armed_behind expired armings = filter (λ (a : Arming). not (is_set a.object.0 expired)) armings
