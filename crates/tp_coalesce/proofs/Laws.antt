-- Wake-ups are on time, and each but the last is for something.
use Rattle.std.proofs.Common.{◌≡◌, ℕ, zero, suc, ◌+◌, ◌-◌, ◌*◌, ◌<◌, ◌≤◌, Bool, true, false, not, List, [], ◌∷◌, ◌++◌, get_or, min, nat_le, nat_lt, Option, None, Some, refl, sym, ap, ◌∙◌, subst, arith}
use Rattle.std.specs.Prelude.{if◌then◌else◌}
use Rattle.std.specs.List.{All, Contains}
use Rattle.std.proofs.lemmas.Bool.Decides.{nat_tests}
use Rattle.std.proofs.lemmas.List.{append-nil}
use Rattle.std.proofs.lemmas.List.Elements.{All-cons, All-nil}
use Rattle.tp_base.specs.declared.answers.Answer.{Answer}
use Rattle.tp_base.specs.declared.answers.Answer.TheVariants as answer
use Rattle.tp_base.specs.declared.answers.Entry.{Entry}
use Rattle.tp_base.specs.declared.answers.Outcome.{Outcome}
use Rattle.tp_base.specs.declared.answers.Outcome.TheVariants as outcome
use Rattle.tp_base.specs.declared.answers.Refusal.{Refusal}
use Rattle.tp_base.specs.declared.calls.Call.{Call}
use Rattle.tp_base.specs.declared.calls.Call.TheVariants.{Advance}
use Rattle.tp_base.specs.declared.ids.Who.{Who}
use Rattle.tp_base.specs.declared.plans.Plan.TheVariants.{Does}
use Rattle.tp_base.specs.declared.plans.Change.{Change}
use Rattle.tp_base.specs.declared.rows.TimerSetting.{TimerSetting}
use Rattle.tp_base.specs.Timers.{clock_end, deadline, lesser, next_deadline, units_per_millisecond}
use Rattle.tp_base.specs.declared.plans.Change.TheVariants as change
use Rattle.tp_base.specs.declared.plans.Trigger.TheVariants as trigger
use Rattle.tp_model.specs.Calls.Timers.{advance_plan, advance_refusals, first_of}
use Rattle.tp_model.specs.Sources.{count_fired}
use Rattle.tp_model.specs.History.{led_to, IsLegal}
use Rattle.tp_model.specs.Refusing.{first_refusal, unless_refused}
use Rattle.tp_model.specs.Table.{plan}
use Rattle.tp_model.specs.World.{opening, World}
use Rattle.tp_model.proofs.Advanced.{advanced_behind, HasAdvanced}
use Rattle.tp_model.proofs.Ahead.{lies_ahead}
use Rattle.tp_model.proofs.Entries.{Accepts, Entered, entered, next_number_in, Refuses}
use Rattle.recorded.specs.Recordings.{all_made, made, next_deadline_behind, now_behind, outcome_behind, recorded, room_of, Recording, world_behind}
use Rattle.recorded.proofs.Histories.{after_append, sound_behind}
use Rattle.recorded.proofs.Playing.{all_legal}
use Rattle.tp_coalesce.specs.Laws.{settings_behind, AreFor, AreOnTime, IsFor, IsLawful, IsOnTime}
use Rattle.tp_coalesce.specs.Sleeps.{behind, done, goal_of, is_advanced, is_on_way, is_there, most_wakes, sleep, sleep_beyond, sleep_from, stopped, waking, Sleep}

-- ---- where an advance leaves the clock

pub data Clock (r : Recording) (who : Who) (ticks : ℕ) : Type 0 where
  Went : is_advanced (outcome_behind r who (Advance ticks)) ≡ true → now_behind (made r (who, Advance ticks)) ≡ now_behind r + ticks → now_behind r + ticks ≤ clock_end → Clock r who ticks
  Stayed : is_advanced (outcome_behind r who (Advance ticks)) ≡ false → now_behind (made r (who, Advance ticks)) ≡ now_behind r → Clock r who ticks

-- an answer of it that isn't a refusal is Advanced
answers : (w : World) (left : ℕ) (who : Who) (ticks : ℕ) (a : Answer) (ch : Change) → plan w left who (Advance ticks) ≡ Does a ch → is_advanced (outcome.Done a) ≡ true
unfolding advance_plan
answers w left who ticks a ch is =
    let count : ℕ = count_fired w (trigger.Advance (w.now + ticks)) in
    of_refusal (first_refusal (advance_refusals w who (w.now + ticks))) (w.now + ticks) (first_of (next_number_in w) count) count (change.Fire (trigger.Advance (w.now + ticks)) (next_number_in w) count) is
  where
    of_refusal : (r : Option Refusal) (now first many : ℕ) (makes : Change) → unless_refused r (Does (answer.Advanced now first many) makes) ≡ Does a ch → is_advanced (outcome.Done a) ≡ true
    of_refusal (Some refusal) now first many makes e = absurd cc
    of_refusal None now first many makes e = let same : answer.Advanced now first many ≡ a = cc in ap (λ x. is_advanced (outcome.Done x)) (sym same)

module _ (r : Recording) (legal : IsLegal r.limits r.capacity r.history) (who : Who) (ticks : ℕ) where
  abbrev came : Outcome
  came = outcome_behind r who (Advance ticks)

  abbrev entry : Answer → Entry
  entry a = record { who = who; call = Advance ticks; answer = a }

  went : (now first count : ℕ) → came ≡ outcome.Done (answer.Advanced now first count) → Clock r who ticks
  went now first count told =
      let made_by : Entry = entry (answer.Advanced now first count) in
      let led : world_behind (recorded r who (Advance ticks) (outcome.Done (answer.Advanced now first count))) ≡ led_to (world_behind r) made_by = after_append (opening r.limits) r.history (made_by ∷ []) in
      let h : HasAdvanced (world_behind r) ticks now first count (led_to (world_behind r) made_by) = advanced_behind (world_behind r) (room_of r) who ticks now first count told in
      let clock : now_behind (made r (who, Advance ticks)) ≡ now = ap (λ o. now_behind (recorded r who (Advance ticks) o)) told ∙ ap (λ (v : World). v.now) led ∙ h.clock in
      Went (ap is_advanced told) (clock ∙ h.moment) (omega (arith, h.moment, h.within_end))

  -- nothing is written down, or what is changes nothing
  stayed : (told : Outcome) → came ≡ told → is_advanced told ≡ false → now_behind (recorded r who (Advance ticks) told) ≡ now_behind r → Clock r who ticks
  stayed told is none same = Stayed (ap is_advanced is ∙ none) (ap (λ o. now_behind (recorded r who (Advance ticks) o)) is ∙ same)

  unwritten : now_behind (record r { history = r.history ++ [] }) ≡ now_behind r
  unwritten = ap (λ h. now_behind (record r { history = h })) (append-nil r.history)

  refused : (a : Answer) → came ≡ outcome.Done a → is_advanced (outcome.Done a) ≡ false → Clock r who ticks
  refused a is none = stayed (outcome.Done a) is none (ap (λ (v : World). v.now) (after_append (opening r.limits) r.history (entry a ∷ [])) ∙ of_entry (entered (world_behind r) (room_of r) (entry a) (sound_behind r legal) is))
    where
      of_entry : Entered (world_behind r) (room_of r) (entry a) → (led_to (world_behind r) (entry a)).now ≡ now_behind r
      of_entry (Accepts e) = let no : ⊥ = cc (sym none ∙ answers (world_behind r) (room_of r) who ticks a e.change e.plan_is) in absurd no
      of_entry (Refuses refusal same stays) = ap (λ (v : World). v.now) stays

  pub clock : Clock r who ticks
  clock = of_outcome came refl
    where
      of_outcome : (told : Outcome) → came ≡ told → Clock r who ticks
      of_outcome (outcome.Done (answer.Advanced now first count)) is = went now first count is
      of_outcome (outcome.Done a) is = refused a is refl
      of_outcome (outcome.Look look) is = stayed (outcome.Look look) is refl unwritten
      of_outcome (outcome.Full room cost) is = stayed (outcome.Full room cost) is refl unwritten

-- ---- deadlines

-- no deadline is before its due time
pub due_first : (s : TimerSetting) → s.due ≤ deadline s
due_first s = elim (nat_lt clock_end s.due) as (λ b. nat_lt clock_end s.due ≡ b → s.due ≤ (if b then s.due else min (s.due + units_per_millisecond * s.window) clock_end)) [
  | true ↦ λ is. omega arith
  | false ↦ λ is. let within : s.due ≤ clock_end = grind (arith, nat_tests, is) in grind (arith, nat_tests, within)
] refl

lesser_most : (moment : ℕ) (other : Option ℕ) → lesser moment other ≤ moment
lesser_most moment None = omega arith
lesser_most moment (Some other) = grind (arith, nat_tests)

-- the least is no later than each
pub least_most : (settings : List TimerSetting) (target : ℕ) → All (λ (s : TimerSetting). goal_of (next_deadline settings) target ≤ deadline s) settings
least_most [] target = All-nil (λ (s : TimerSetting). goal_of None target ≤ deadline s)
least_most (s ∷ settings) target =
    All-cons (λ (t : TimerSetting). min (lesser (deadline s) (next_deadline settings)) target ≤ deadline t) s settings
    (omega (arith, min_left (lesser (deadline s) (next_deadline settings)) target, lesser_most (deadline s) (next_deadline settings)))
    (λ i d h. omega (arith, below (next_deadline settings), least_most settings target i d h))
  where
    min_left : (a b : ℕ) → min a b ≤ a
    min_left a b = grind (arith, nat_tests)

    below : (o : Option ℕ) → min (lesser (deadline s) o) target ≤ goal_of o target
    below None = grind (arith, nat_tests)
    below (Some other) = grind (arith, nat_tests)

-- and is that of one of them
pub record IsLeast (settings : List TimerSetting) (moment : ℕ) : Type 0 where
  pub setting : TimerSetting
  pub stands : Contains settings setting
  pub is : deadline setting ≡ moment

first_is : (s : TimerSetting) (settings : List TimerSetting) (moment : ℕ) → deadline s ≡ moment → IsLeast (s ∷ settings) moment
first_is s settings moment is = record { setting = s; stands = (zero, omega arith, refl); is = is }

later_is : (s : TimerSetting) (settings : List TimerSetting) (moment : ℕ) → IsLeast settings moment → IsLeast (s ∷ settings) moment
later_is s settings moment l = record { setting = l.setting; stands = (suc l.stands.0, omega (arith, l.stands.1), l.stands.2); is = l.is }

least_of : (s : TimerSetting) (settings : List TimerSetting) (moment : ℕ) → ((other : ℕ) → next_deadline settings ≡ Some other → IsLeast settings other) → (o : Option ℕ) → next_deadline settings ≡ o → lesser (deadline s) o ≡ moment
    → IsLeast (s ∷ settings) moment
least_of s settings moment rest None is same = first_is s settings moment same
least_of s settings moment rest (Some other) is same =
    elim (nat_le (deadline s) other) as (λ b. nat_le (deadline s) other ≡ b → IsLeast (s ∷ settings) moment) [
      | true ↦ λ le. first_is s settings moment (let at : min (deadline s) other ≡ deadline s = grind (arith, nat_tests, le) in sym at ∙ same)
      | false ↦ λ le. later_is s settings moment (let at : min (deadline s) other ≡ other = grind (arith, nat_tests, le) in subst (IsLeast settings) (sym at ∙ same) (rest other is))
    ] refl

pub least_stands : (settings : List TimerSetting) (moment : ℕ) → next_deadline settings ≡ Some moment → IsLeast settings moment
least_stands [] moment e = absurd cc
least_stands (s ∷ settings) moment e = least_of s settings moment (λ other is. least_stands settings other is) (next_deadline settings) refl (let same : lesser (deadline s) (next_deadline settings) ≡ moment = cc in same)

-- ---- wake-ups

module _ (r : Recording) (legal : IsLegal r.limits r.capacity r.history) (who : Who) where
  ahead : All (λ (s : TimerSetting). now_behind r < s.due) (settings_behind r)
  ahead = lies_ahead r.limits r.capacity r.history legal

  next_legal : (call : Call) → IsLegal (made r (who, call)).limits (made r (who, call)).capacity (made r (who, call)).history
  next_legal call = all_legal r ((who, call) ∷ []) legal

  -- a clock that stays puts nothing off
  none_off : (now : ℕ) → now ≡ now_behind r → All (IsOnTime now) (settings_behind r)
  none_off now same i d h due = omega (arith, same, ahead i d h, due)

  waking_on_time : (target : ℕ) → All (IsOnTime (now_behind (made r (who, waking r target)))) (settings_behind r)
  waking_on_time target = of_clock (clock r legal who (goal_of (next_deadline_behind r) target - now_behind r))
    where
      of_clock : Clock r who (goal_of (next_deadline_behind r) target - now_behind r) → All (IsOnTime (now_behind (made r (who, waking r target)))) (settings_behind r)
      of_clock (Stayed refused same) = none_off (now_behind (made r (who, waking r target))) same
      of_clock (Went advanced goes end) = λ i d h due. omega (arith, goes, ahead i d h, due_first (get_or (settings_behind r) i d), least_most (settings_behind r) target i d h)

  beyond_on_time : (ticks : ℕ) → clock_end < now_behind r + ticks → All (IsOnTime (now_behind (made r (who, Advance ticks)))) (settings_behind r)
  beyond_on_time ticks over = of_clock (clock r legal who ticks)
    where
      of_clock : Clock r who ticks → All (IsOnTime (now_behind (made r (who, Advance ticks)))) (settings_behind r)
      of_clock (Stayed refused same) = none_off (now_behind (made r (who, Advance ticks))) same
      of_clock (Went advanced goes end) = absurd (omega (arith, over, end))

  -- a deadline that is on the way is come to
  is_for : (target : ℕ) → is_on_way (next_deadline_behind r) target ≡ true → is_advanced (outcome_behind r who (waking r target)) ≡ true → IsFor r (made r (who, waking r target))
  is_for target on advanced = of_deadline (next_deadline_behind r) refl on
    where
      of_clock : (moment : ℕ) → goal_of (next_deadline_behind r) target ≡ moment → IsLeast (settings_behind r) moment → Clock r who (goal_of (next_deadline_behind r) target - now_behind r) → IsFor r (made r (who, waking r target))
      of_clock moment goal l (Stayed refused same) = let no : ⊥ = cc (sym refused ∙ advanced) in absurd no
      of_clock moment goal l (Went went goes end) =
          let first : now_behind r < l.setting.due = subst (λ (s : TimerSetting). now_behind r < s.due) l.stands.2 (ahead l.stands.0 l.setting l.stands.1) in
          let at : now_behind (made r (who, waking r target)) ≡ moment = omega (arith, goes, goal, first, due_first l.setting, l.is) in
          record { setting = l.setting; stands = l.stands; due = omega (arith, at, due_first l.setting, l.is); put_off = l.is ∙ sym at }

      of_deadline : (o : Option ℕ) → next_deadline_behind r ≡ o → is_on_way o target ≡ true → IsFor r (made r (who, waking r target))
      of_deadline None is way = absurd cc
      of_deadline (Some moment) is way =
          let least : min moment target ≡ moment = grind (arith, nat_tests, way) in
          of_clock moment (ap (λ d. goal_of d target) is ∙ least) (least_stands (settings_behind r) moment is) (clock r legal who (goal_of (next_deadline_behind r) target - now_behind r))

-- ---- sleeps

for_behind : (r : Recording) (call : Who × Call) (calls : List (Who × Call)) → IsFor r (made r call) → AreFor (made r call) calls → AreFor r (call ∷ calls)
for_behind r call [] is later = tt
for_behind r call (next ∷ calls) is later = (is, later)

-- nothing more is done
lawful_end : (r : Recording) (s : Sleep) → s.calls ≡ [] → s.after ≡ r → IsLawful r s
lawful_end r s none same = record {
  grows = same ∙ sym (ap (all_made r) none);
  on_time = subst (AreOnTime r) (sym none) tt;
  wakes_for = subst (AreFor r) (sym none) tt;
}

lawful_last : (r : Recording) (who : Who) (call : Call) (told : Outcome) (s : Sleep) → s.calls ≡ [] → s.after ≡ made r (who, call) → All (IsOnTime (now_behind (made r (who, call)))) (settings_behind r) → IsLawful r (behind who call told s)
lawful_last r who call told s none same on_time = record {
  grows = same ∙ sym (ap (all_made (made r (who, call))) none);
  on_time = (on_time, subst (AreOnTime (made r (who, call))) (sym none) tt);
  wakes_for = subst (λ calls. AreFor r ((who, call) ∷ calls)) (sym none) tt;
}

round_lawful : (r : Recording) (legal : IsLegal r.limits r.capacity r.history) (who : Who) (target wakes : ℕ) (rest : Sleep) → IsLawful (made r (who, waking r target)) rest → (there advanced on : Bool)
    → is_advanced (outcome_behind r who (waking r target)) ≡ advanced → is_on_way (next_deadline_behind r) target ≡ on
    → IsLawful r (if there then done r wakes else behind who (waking r target) (outcome_behind r who (waking r target)) (
    if not advanced then stopped (made r (who, waking r target)) wakes (outcome_behind r who (waking r target))
    else if on then rest
    else done (made r (who, waking r target)) (wakes + 1)))
round_lawful r legal who target wakes rest l true advanced on is way = lawful_end r (done r wakes) refl refl
round_lawful r legal who target wakes rest l false false on is way =
    lawful_last r who (waking r target) (outcome_behind r who (waking r target)) (stopped (made r (who, waking r target)) wakes (outcome_behind r who (waking r target))) refl refl (waking_on_time r legal who target)
round_lawful r legal who target wakes rest l false true false is way =
    lawful_last r who (waking r target) (outcome_behind r who (waking r target)) (done (made r (who, waking r target)) (wakes + 1)) refl refl (waking_on_time r legal who target)
round_lawful r legal who target wakes rest l false true true is way =
    record { grows = l.grows; on_time = (waking_on_time r legal who target, l.on_time); wakes_for = for_behind r (who, waking r target) rest.calls (is_for r legal who target way is) l.wakes_for }

from_lawful : (more : ℕ) (r : Recording) → IsLegal r.limits r.capacity r.history → (who : Who) (target wakes : ℕ) → IsLawful r (sleep_from more r who target wakes)
from_lawful zero r legal who target wakes = lawful_end r (done r wakes) refl refl
from_lawful (suc more) r legal who target wakes =
    round_lawful r legal who target wakes (sleep_from more (made r (who, waking r target)) who target (wakes + 1))
    (from_lawful more (made r (who, waking r target)) (next_legal r legal who (waking r target)) who target (wakes + 1))
    (is_there r target wakes) (is_advanced (outcome_behind r who (waking r target))) (is_on_way (next_deadline_behind r) target) refl refl

beyond_lawful : (r : Recording) → IsLegal r.limits r.capacity r.history → (who : Who) (ticks : ℕ) → clock_end < now_behind r + ticks → IsLawful r (sleep_beyond r who ticks)
beyond_lawful r legal who ticks over = of_end (is_advanced (outcome_behind r who (Advance ticks)))
  where
    of_end : (advanced : Bool) → IsLawful r (behind who (Advance ticks) (outcome_behind r who (Advance ticks)) (if advanced then done (made r (who, Advance ticks)) 1 else stopped (made r (who, Advance ticks)) 0 (outcome_behind r who (Advance ticks))))
    of_end true = lawful_last r who (Advance ticks) (outcome_behind r who (Advance ticks)) (done (made r (who, Advance ticks)) 1) refl refl (beyond_on_time r legal who ticks over)
    of_end false = lawful_last r who (Advance ticks) (outcome_behind r who (Advance ticks)) (stopped (made r (who, Advance ticks)) 0 (outcome_behind r who (Advance ticks))) refl refl (beyond_on_time r legal who ticks over)

pub sleep_lawful : (r : Recording) → IsLegal r.limits r.capacity r.history → (who : Who) (ticks : ℕ) → IsLawful r (sleep r who ticks)
sleep_lawful r legal who ticks =
    elim (nat_lt clock_end (now_behind r + ticks)) as (λ b. nat_lt clock_end (now_behind r + ticks) ≡ b → IsLawful r (if b then sleep_beyond r who ticks else sleep_from (most_wakes r + 1) r who (now_behind r + ticks) 0)) [
      | true ↦ λ over. beyond_lawful r legal who ticks (grind (arith, nat_tests, over))
      | false ↦ λ within. from_lawful (most_wakes r + 1) r legal who (now_behind r + ticks) 0
    ] refl
