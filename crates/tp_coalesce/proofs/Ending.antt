-- How a sleep goes on, round by round.
use Rattle.std.specs.Prelude.{◌&&◌, if◌then◌else◌, nat_le, nat_lt, Option}
use Rattle.std.proofs.Common.{◌≡◌, ℕ, zero, suc, ◌+◌, ◌-◌, ◌<◌, Bool, true, false, not, length, sym, ap, ap₂, ◌∙◌, arith, length-append}
use Rattle.tp_base.specs.declared.answers.Outcome.{Outcome}
use Rattle.tp_base.specs.declared.answers.Outcome.TheVariants as outcome
use Rattle.tp_base.specs.declared.calls.Call.{Call}
use Rattle.tp_base.specs.declared.calls.Call.TheVariants.{Advance}
use Rattle.tp_base.specs.declared.ids.Who.{Who}
use Rattle.recorded.specs.Recordings.{made, next_deadline_behind, now_behind, outcome_behind, recorded, Recording}
use Rattle.tp_coalesce.specs.Heard.{heard, IsSleeping, IsSlept}
use Rattle.tp_coalesce.specs.Sleeps.{behind, done, goal_of, is_advanced, is_on_way, is_there, sleep_from, stopped, waking, Sleep}
use Rattle.tp_coalesce.specs.declared.sleeping.Slept.{Slept}

-- ---- one round

module _ (r : Recording) (who : Who) (target wakes : ℕ) where
  abbrev pub told : Outcome
  told = outcome_behind r who (waking r target)

  abbrev pub next : Recording
  next = made r (who, waking r target)

  -- what is left of a sleep behind a wake-up
  abbrev left : Bool → Bool → ℕ → Sleep
  left advanced on_way more = if not advanced then stopped next wakes told else if on_way then sleep_from more next who target (wakes + 1) else done next (wakes + 1)

  pub there : (more : ℕ) → 0 < more → is_there r target wakes ≡ true → sleep_from more r who target wakes ≡ done r wakes
  there zero h is = absurd (omega (arith, h))
  there (suc more) h is = ap (λ b. if b then done r wakes else behind who (waking r target) told (left (is_advanced told) (is_on_way (next_deadline_behind r) target) more)) is

  round : (more : ℕ) → 0 < more → is_there r target wakes ≡ false → sleep_from more r who target wakes ≡ behind who (waking r target) told (left (is_advanced told) (is_on_way (next_deadline_behind r) target) (more - 1))
  round zero h is = absurd (omega (arith, h))
  round (suc more) h is =
      let same : more ≡ suc more - 1 = omega arith in
      ap (λ b. if b then done r wakes else behind who (waking r target) told (left (is_advanced told) (is_on_way (next_deadline_behind r) target) more)) is
      ∙ ap (λ m. behind who (waking r target) told (left (is_advanced told) (is_on_way (next_deadline_behind r) target) m)) same

  pub stops : (more : ℕ) → 0 < more → is_there r target wakes ≡ false → is_advanced told ≡ false → sleep_from more r who target wakes ≡ behind who (waking r target) told (stopped next wakes told)
  stops more h is refused = round more h is ∙ ap (λ b. behind who (waking r target) told (left b (is_on_way (next_deadline_behind r) target) (more - 1))) refused

  pub ends : (more : ℕ) → 0 < more → is_there r target wakes ≡ false → is_advanced told ≡ true → is_on_way (next_deadline_behind r) target ≡ false
      → sleep_from more r who target wakes ≡ behind who (waking r target) told (done next (wakes + 1))
  ends more h is advanced off = round more h is ∙ ap₂ (λ a b. behind who (waking r target) told (left a b (more - 1))) advanced off

  pub goes_on : (more : ℕ) → 0 < more → is_there r target wakes ≡ false → is_advanced told ≡ true → is_on_way (next_deadline_behind r) target ≡ true
      → sleep_from more r who target wakes ≡ behind who (waking r target) told (sleep_from (more - 1) next who target (wakes + 1))
  goes_on more h is advanced on = round more h is ∙ ap₂ (λ a b. behind who (waking r target) told (left a b (more - 1))) advanced on

-- ---- what was told and made so far

-- whether it is at its target, by what was asked
pub there_is : (r : Recording) (target wakes now : ℕ) (deadline : Option ℕ) (on_way came b : Bool) → deadline ≡ next_deadline_behind r → on_way ≡ is_on_way deadline target → now ≡ now_behind r
    → came ≡ (not on_way && (nat_le target now && nat_lt 0 wakes)) → came ≡ b → is_there r target wakes ≡ b
there_is r target wakes now deadline on_way came b asked on clock is same =
    let way : on_way ≡ is_on_way (next_deadline_behind r) target = on ∙ ap (λ d. is_on_way d target) asked in
    ap₂ (λ o n. not o && (nat_le target n && nat_lt 0 wakes)) (sym way) (sym clock) ∙ sym is ∙ same

-- a wake-up by its ticks
pub waking_is : (r : Recording) (target now ticks goal : ℕ) (deadline : Option ℕ) → deadline ≡ next_deadline_behind r → goal ≡ goal_of deadline target → now ≡ now_behind r → ticks ≡ goal - now → Advance ticks ≡ waking r target
waking_is r target now ticks goal deadline asked is clock spent = ap Advance (spent ∙ ap₂ (λ a b. a - b) (is ∙ ap (λ d. goal_of d target) asked) clock)

pub woken : (r q : Recording) (who : Who) (target ticks : ℕ) (told : Outcome) → Advance ticks ≡ waking r target → told ≡ outcome_behind r who (Advance ticks) → q ≡ recorded r who (Advance ticks) told
    → (q ≡ made r (who, waking r target)) × (told ≡ outcome_behind r who (waking r target))
woken r q who target ticks told same came is =
    let answer : told ≡ outcome_behind r who (waking r target) = came ∙ ap (outcome_behind r who) same in
    (is ∙ ap₂ (λ c o. recorded r who c o) same answer, answer)

-- an advance is an entry
pub one_more : (r : Recording) (who : Who) (call : Call) (told : Outcome) → is_advanced told ≡ true → length (recorded r who call told).history ≡ length r.history + 1
one_more r who call (outcome.Done answer) is = length-append r.history _
one_more r who call (outcome.Look look) is = absurd cc
one_more r who call (outcome.Full room cost) is = absurd cc

module _ {X : Type 0} (hears : X → Outcome → X) (whole : Sleep) (before : X) (r : Recording) (x : X) (who : Who) (target more wakes start : ℕ) (inv : IsSleeping hears whole before r x who target more wakes start) where
  -- what is left of the sleep is its end
  pub slept_by : (s : Sleep) → sleep_from more r who target wakes ≡ s → (q : Recording) (y : X) (slept : Slept) → q ≡ s.after → y ≡ heard hears x s.outcomes → slept ≡ s.slept → IsSlept hears whole before q y slept
  slept_by s is q y slept machine listener ends = record {
    machine = machine ∙ sym (ap (λ (t : Sleep). t.after) is) ∙ inv.machine;
    listener = listener ∙ sym (ap (λ (t : Sleep). heard hears x t.outcomes) is) ∙ inv.listener;
    ends = ends ∙ sym (ap (λ (t : Sleep). t.slept) is) ∙ inv.ends;
  }

  -- or goes on behind a wake-up
  pub sleeps_on : (call : Call) (came : Outcome) (later : Recording) (y : X) → sleep_from more r who target wakes ≡ behind who call came (sleep_from (more - 1) later who target (wakes + 1)) → y ≡ hears x came → length later.history ≡ start + (wakes + 1)
      → IsSleeping hears whole before later y who target (more - 1) (wakes + 1) start
  sleeps_on call came later y is listener entries = record {
    machine = sym (ap (λ (t : Sleep). t.after) is) ∙ inv.machine;
    listener = ap (λ z. heard hears z (sleep_from (more - 1) later who target (wakes + 1)).outcomes) listener ∙ sym (ap (λ (t : Sleep). heard hears x t.outcomes) is) ∙ inv.listener;
    ends = sym (ap (λ (t : Sleep). t.slept) is) ∙ inv.ends;
    entries = entries;
  }
