-- The clock, and the timers that are set. Times are in units of 100 ns since the clock began.
use Rattle.std.specs.Prelude.{ℕ, ◌+◌, ◌-◌, ◌*◌, ◌/◌, ℤ, pos, negsuc, Bool, false, not, ◌&&◌, ◌||◌, ◌==◌, min, nat_le, nat_lt, List, [], ◌∷◌, if◌then◌else◌, Option, None, Some}
use Rattle.std.specs.List.{filter}
use Rattle.tp_base.specs.declared.ids.ObjectId.{ObjectId}
use Rattle.tp_base.specs.declared.rows.TimerSetting.{TimerSetting}

-- the last moment of the clock
abbrev pub clock_end : ℕ
clock_end = 9223372036854775807

abbrev pub units_per_millisecond : ℕ
units_per_millisecond = 10000

-- the moment that a due time of SetThreadpoolTimer stands for: below 0 it counts from now, above 0 it is a moment of the
-- clock, and 0 is now
abbrev pub moment_of : ℕ → ℤ → ℕ
moment_of now (pos moment) = if moment == 0 then now else moment
moment_of now (negsuc span) = now + (span + 1)

-- the least moment above now that is one or more whole periods, in milliseconds, after the base
abbrev pub next_due : ℕ → ℕ → ℕ → ℕ
next_due base period now = base + ((now - base) / (units_per_millisecond * period) + 1) * (units_per_millisecond * period)

-- ---- the timers that are set, in the order in which they expire: by due time, then by object number

-- the timer is due at a moment that isn't above this one
abbrev pub is_due : ℕ → TimerSetting → Bool
is_due now s = nat_le s.due now

abbrev pub expires_before : TimerSetting → TimerSetting → Bool
expires_before s t = nat_lt s.due t.due || ((s.due == t.due) && nat_lt s.object.0 t.object.0)

abbrev pub with_setting : TimerSetting → List TimerSetting → List TimerSetting
with_setting s [] = s ∷ []
with_setting s (t ∷ ts) = if expires_before s t then s ∷ t ∷ ts else t ∷ with_setting s ts

abbrev pub without_setting : ObjectId → List TimerSetting → List TimerSetting
without_setting object settings = filter (λ (s : TimerSetting). not (s.object.0 == object.0)) settings

-- what becomes of a timer that expired: with a period it is set anew, and without one it isn't set
abbrev pub set_again : ℕ → TimerSetting → List TimerSetting → List TimerSetting
set_again now s settings = if s.period == 0 then settings else with_setting (record s { due = next_due s.due s.period now }) settings

-- a timer is set; if it is due at once, it expires
abbrev pub set_or_expire : ℕ → TimerSetting → List TimerSetting → List TimerSetting
set_or_expire now s settings = if is_due now s then set_again now s settings else with_setting s settings

abbrev pub setting_for : ℕ → ObjectId → ℤ → ℕ → ℕ → TimerSetting
setting_for now object due period window = record { object = object; due = moment_of now due; period = period; window = window }

-- SetThreadpoolTimer: the old setting ends, and without a due time there is no new one
abbrev pub set_timer : ℕ → ObjectId → Option ℤ → ℕ → ℕ → List TimerSetting → List TimerSetting
set_timer now object None period window settings = without_setting object settings
set_timer now object (Some due) period window settings = set_or_expire now (setting_for now object due period window) (without_setting object settings)

-- whether the timer expires as it is set
abbrev pub expires_at_once : ℕ → Option ℤ → Bool
expires_at_once now None = false
expires_at_once now (Some due) = nat_le (moment_of now due) now

-- the clock comes to a moment: all that is due expires, in this order
abbrev pub expired : ℕ → List TimerSetting → List TimerSetting
expired now settings = filter (is_due now) settings

abbrev pub set_all_again : ℕ → List TimerSetting → List TimerSetting → List TimerSetting
set_all_again now [] settings = settings
set_all_again now (s ∷ ss) settings = set_all_again now ss (set_again now s settings)

abbrev pub after_expiry : ℕ → List TimerSetting → List TimerSetting
after_expiry now settings = set_all_again now (expired now settings) (filter (λ (s : TimerSetting). not (is_due now s)) settings)

-- ---- windows

-- the last moment to which an expiration may be put off: as much later as the window says, in milliseconds, and no later than
-- the clock's end. One that is due behind that never comes. A timeout of an armed wait is a setting of which the window is 0
abbrev pub deadline : TimerSetting → ℕ
deadline s = if nat_lt clock_end s.due then s.due else min (s.due + units_per_millisecond * s.window) clock_end

-- the least of the deadlines, and None where nothing with a time is set
abbrev pub lesser : ℕ → Option ℕ → ℕ
lesser moment None = moment
lesser moment (Some other) = min moment other

abbrev pub next_deadline : List TimerSetting → Option ℕ
next_deadline [] = None
next_deadline (s ∷ settings) = Some (lesser (deadline s) (next_deadline settings))
