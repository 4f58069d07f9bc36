-- A sleep: the clock goes on to a target by few wake-ups, each but the last at the least deadline of what is set with a time.
use Rattle.std.specs.Prelude.{ℕ, zero, suc, ◌+◌, ◌-◌, Bool, true, false, not, ◌&&◌, max, min, nat_le, nat_lt, List, [], ◌∷◌, length, if◌then◌else◌, Option, None, Some}
use Rattle.tp_base.specs.declared.answers.Answer.TheVariants.{Advanced}
use Rattle.tp_base.specs.declared.answers.Outcome.{Outcome}
use Rattle.tp_base.specs.declared.answers.Outcome.TheVariants as outcome
use Rattle.tp_base.specs.declared.calls.Call.{Call}
use Rattle.tp_base.specs.declared.calls.Call.TheVariants.{Advance}
use Rattle.tp_base.specs.declared.ids.Who.{Who}
use Rattle.tp_base.specs.Timers.{clock_end}
use Rattle.recorded.specs.Recordings.{made, next_deadline_behind, now_behind, outcome_behind, Recording}
use Rattle.tp_coalesce.specs.declared.sleeping.Slept.{Slept}
use Rattle.tp_coalesce.specs.declared.sleeping.Slept.TheVariants.{Done, Stopped}

-- its calls of the machine and what each comes to, the machine behind them, and how it ends
pub record Sleep : Type 0 where
  pub calls : List (Who × Call)
  pub outcomes : List Outcome
  pub after : Recording
  pub slept : Slept

abbrev pub is_advanced : Outcome → Bool
is_advanced (outcome.Done (Advanced now first count)) = true
is_advanced told = false

-- there is a deadline, and it is no later than the target
abbrev pub is_on_way : Option ℕ → ℕ → Bool
is_on_way None target = false
is_on_way (Some deadline) target = nat_le deadline target

-- where the clock goes on to
abbrev pub goal_of : Option ℕ → ℕ → ℕ
goal_of None target = target
goal_of (Some deadline) target = min deadline target

-- the next wake-up: the least deadline if it is on the way, else the target
abbrev pub waking : Recording → ℕ → Call
waking r target = Advance (goal_of (next_deadline_behind r) target - now_behind r)

-- nothing more is to be done: the clock is at the target, by a wake-up at least
abbrev pub is_there : Recording → ℕ → ℕ → Bool
is_there r target wakes = not (is_on_way (next_deadline_behind r) target) && (nat_le target (now_behind r) && nat_lt 0 wakes)

abbrev pub done : Recording → ℕ → Sleep
done r wakes = record { calls = []; outcomes = []; after = r; slept = Done (now_behind r) wakes }

abbrev pub stopped : Recording → ℕ → Outcome → Sleep
stopped r wakes told = record { calls = []; outcomes = []; after = r; slept = Stopped wakes told }

abbrev pub behind : Who → Call → Outcome → Sleep → Sleep
behind who call told s = record s { calls = (who, call) ∷ s.calls; outcomes = told ∷ s.outcomes }

-- wake-ups up to the target, so many at most
abbrev pub sleep_from : ℕ → Recording → Who → ℕ → ℕ → Sleep
sleep_from zero r who target wakes = done r wakes
sleep_from (suc more) r who target wakes =
    let call : Call = waking r target in
    let told : Outcome = outcome_behind r who call in
    let next : Recording = made r (who, call) in
    if is_there r target wakes then done r wakes
    else behind who call told (
    if not (is_advanced told) then stopped next wakes told
    else if is_on_way (next_deadline_behind r) target then sleep_from more next who target (wakes + 1)
    else done next (wakes + 1))

-- as many entries as the history can still have
abbrev pub most_wakes : Recording → ℕ
most_wakes r = max r.capacity r.limits.clients - length r.history

-- beyond the clock's end there is one call, which the machine refuses
abbrev pub sleep_beyond : Recording → Who → ℕ → Sleep
sleep_beyond r who ticks =
    let told : Outcome = outcome_behind r who (Advance ticks) in
    let next : Recording = made r (who, Advance ticks) in
    behind who (Advance ticks) told (if is_advanced told then done next 1 else stopped next 0 told)

abbrev pub sleep : Recording → Who → ℕ → Sleep
sleep r who ticks =
    if nat_lt clock_end (now_behind r + ticks) then sleep_beyond r who ticks
    else sleep_from (most_wakes r + 1) r who (now_behind r + ticks) 0
