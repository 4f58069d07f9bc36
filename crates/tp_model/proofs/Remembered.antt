-- An engine that remembers a world without the callbacks that are over takes the world's steps.
use Rattle.std.proofs.Common.{◌≡◌, ℕ, ◌+◌, ◌-◌, ◌≤◌, true, false, cond, length, nat_lt, refl, sym, ap, ap₂, ◌∙◌, subst, arith}
use Rattle.tp_base.specs.declared.ids.Who.{Who}
use Rattle.tp_base.specs.declared.calls.Call.{Call}
use Rattle.tp_base.specs.declared.answers.Answer.TheVariants as answer
use Rattle.tp_base.specs.declared.answers.Outcome.{Outcome}
use Rattle.tp_base.specs.declared.answers.Outcome.TheVariants as outcome
use Rattle.tp_base.specs.declared.plans.Plan.{Plan}
use Rattle.tp_base.specs.declared.plans.Plan.TheVariants as plan
use Rattle.tp_model.specs.World.{World}
use Rattle.tp_model.specs.Counts.{owed}
use Rattle.tp_model.specs.Changes.{changed}
use Rattle.tp_model.specs.Step.{Step, Accepted, Refused, Looked, Full, stepped, unless_full, within, cost, outcome_of, world_after, is_accepted}
use Rattle.tp_model.specs.Table.{plan_at, unpriced, step}
use Rattle.tp_model.specs.Support.Sound.{IsSound}
use Rattle.tp_model.specs.Support.Safe.{IsSafe}
use Rattle.tp_model.specs.Support.Remembered.{Remembered, forget, made_by, step_of, remembered_after, StandsFor, Meets, Goes}
use Rattle.tp_model.proofs.Sound.{changed_sound}
use Rattle.tp_model.proofs.Growing.{grows}
use Rattle.tp_model.proofs.Calls.{plan_safe, plan_forget}
use Rattle.tp_model.proofs.Forgetting.{changed_forget, forget_sound, live_forgotten, owed_forget}

-- ---- steps of the two worlds

-- the same answer, and the same left to remember
abbrev pub AreAlike : World → World → Step → Step → Type 0
AreAlike v w (Accepted a after_v) (Accepted b after_w) = (a ≡ b) × (forget after_v ≡ forget after_w) × (length after_v.callbacks - length v.callbacks ≡ length after_w.callbacks - length w.callbacks) × (length w.callbacks ≤ length after_w.callbacks)
AreAlike v w (Refused a) (Refused b) = a ≡ b
AreAlike v w (Looked a) (Looked b) = a ≡ b
AreAlike v w (Full a m) (Full b n) = (a ≡ b) × (m ≡ n)
AreAlike v w _ _ = ⊥

-- the plan of a call leads to the same from both
plan_alike : (next_number : ℕ) (w : World) (who : Who) (call : Call) (p : Plan) → IsSound next_number w → IsSafe next_number w who call p → IsSafe next_number (forget w) who call p → AreAlike (forget w) w (stepped (forget w) p) (stepped w p)
plan_alike next_number w who call (plan.Refused refusal) s safe left = refl
plan_alike next_number w who call (plan.Looked look) s safe left = refl
plan_alike next_number w who call (plan.Does answer ch) s safe left =
    let more = grows next_number w ch safe.allowed in
    let left_more = grows next_number (forget w) ch left.allowed in
    (refl, changed_forget next_number w ch s safe.allowed, omega (arith, more, left_more), omega (arith, more))

unpriced_alike : (room : ℕ) (w : World) (who : Who) (call : Call) → IsSound (length w.callbacks + 1) w → AreAlike (forget w) w (stepped (forget w) (plan_at (forget w) (length w.callbacks + 1) room who call)) (unpriced w room who call)
unpriced_alike room w who call s =
    let next_number : ℕ = length w.callbacks + 1 in
    let same : plan_at (forget w) next_number room who call ≡ plan_at w next_number room who call = plan_forget next_number room w who call s in
    let left : IsSafe next_number (forget w) who call (plan_at w next_number room who call) = subst (IsSafe next_number (forget w) who call) same (plan_safe next_number room (forget w) who call (forget_sound next_number w s)) in
    subst (λ p. AreAlike (forget w) w (stepped (forget w) p) (unpriced w room who call)) (sym same)
    (plan_alike next_number w who call (plan_at w next_number room who call) s (plan_safe next_number room w who call s) left)

-- each step leads to a world of which the same is true
step_sound : (next_number : ℕ) (w : World) (who : Who) (call : Call) (p : Plan) → IsSound next_number w → IsSafe next_number w who call p → IsSound (next_number + made_by w (stepped w p)) (world_after w (stepped w p))
step_sound next_number w who call (plan.Refused refusal) s safe = subst (λ n. IsSound n w) (omega arith) s
step_sound next_number w who call (plan.Looked look) s safe = subst (λ n. IsSound n w) (omega arith) s
step_sound next_number w who call (plan.Does answer ch) s safe = subst (λ n. IsSound n (changed w ch)) (omega (arith, grows next_number w ch safe.allowed)) (changed_sound next_number w ch s safe.allowed)

unpriced_sound : (room : ℕ) (w : World) (who : Who) (call : Call) → IsSound (length w.callbacks + 1) w → IsSound (length w.callbacks + 1 + made_by w (unpriced w room who call)) (world_after w (unpriced w room who call))
unpriced_sound room w who call s = step_sound (length w.callbacks + 1) w who call (plan_at w (length w.callbacks + 1) room who call) s (plan_safe (length w.callbacks + 1) room w who call s)

-- ---- with the room of a history

cost_alike : (w after_v after_w : World) → forget after_v ≡ forget after_w → cost (forget w) after_v ≡ cost w after_w
cost_alike w after_v after_w same =
    let owed_after : owed after_v ≡ owed after_w = sym (owed_forget after_v) ∙ ap owed same ∙ owed_forget after_w in
    ap₂ (λ m n. (1 + m) - n) owed_after (owed_forget w)

full_alike : (v w : World) (room m n : ℕ) (e f : Step) → m ≡ n → AreAlike v w e f → AreAlike v w (unless_full room m e) (unless_full room n f)
full_alike v w room m n e f same h =
    subst (λ k. AreAlike v w (cond (nat_lt room k) (Full room k) e) (cond (nat_lt room n) (Full room n) f)) (sym same)
    (elim (nat_lt room n) as (λ b. AreAlike v w (cond b (Full room n) e) (cond b (Full room n) f)) [ true ↦ (refl, refl) | false ↦ h ])

within_alike : (w : World) (room : ℕ) (e f : Step) → AreAlike (forget w) w e f → AreAlike (forget w) w (within (forget w) room e) (within w room f)
within_alike w room (Accepted a after_v) (Accepted b after_w) h =
    full_alike (forget w) w room (cost (forget w) after_v) (cost w after_w) (Accepted a after_v) (Accepted b after_w) (cost_alike w after_v after_w h.1) h
within_alike w room (Refused a) (Refused b) h = full_alike (forget w) w room 1 1 (Refused a) (Refused b) refl h
within_alike w room (Looked a) (Looked b) h = h
within_alike w room (Full a m) (Full b n) h = h
within_alike w room (Accepted a after_v) (Refused b) h = absurd h
within_alike w room (Accepted a after_v) (Looked b) h = absurd h
within_alike w room (Accepted a after_v) (Full b n) h = absurd h
within_alike w room (Refused a) (Accepted b after_w) h = absurd h
within_alike w room (Refused a) (Looked b) h = absurd h
within_alike w room (Refused a) (Full b n) h = absurd h
within_alike w room (Looked a) (Accepted b after_w) h = absurd h
within_alike w room (Looked a) (Refused b) h = absurd h
within_alike w room (Looked a) (Full b n) h = absurd h
within_alike w room (Full a m) (Accepted b after_w) h = absurd h
within_alike w room (Full a m) (Refused b) h = absurd h
within_alike w room (Full a m) (Looked b) h = absurd h

sound_full : (next_number : ℕ) (w : World) (room cost : ℕ) (s : Step) → IsSound next_number w → IsSound (next_number + made_by w s) (world_after w s) → IsSound (next_number + made_by w (unless_full room cost s)) (world_after w (unless_full room cost s))
sound_full next_number w room cost s before sound =
    elim (nat_lt room cost) as (λ b. IsSound (next_number + made_by w (cond b (Full room cost) s)) (world_after w (cond b (Full room cost) s))) [
      | true ↦ subst (λ n. IsSound n w) (omega arith) before
      | false ↦ sound
    ]

pub sound_within : (next_number : ℕ) (w : World) (room : ℕ) (s : Step) → IsSound next_number w → IsSound (next_number + made_by w s) (world_after w s) → IsSound (next_number + made_by w (within w room s)) (world_after w (within w room s))
sound_within next_number w room (Accepted answer after) before sound = sound_full next_number w room (cost w after) (Accepted answer after) before sound
sound_within next_number w room (Refused refusal) before sound = sound_full next_number w room 1 (Refused refusal) before sound
sound_within next_number w room (Looked look) before sound = sound
sound_within next_number w room (Full left price) before sound = sound

-- ---- an engine that stands for a world takes the world's steps

-- the same outcome, the same left to remember, and as many callbacks made
pub record GoesAlike (v w : World) (e f : Step) : Type 0 where
  pub told : outcome_of e ≡ outcome_of f
  pub left : forget (world_after v e) ≡ forget (world_after w f)
  pub made : made_by v e ≡ made_by w f
  pub more : length w.callbacks + made_by w f ≡ length (world_after w f).callbacks
  pub accepted : is_accepted e ≡ is_accepted f

goes_alike : (w : World) (e f : Step) → AreAlike (forget w) w e f → GoesAlike (forget w) w e f
goes_alike w (Accepted a after_v) (Accepted b after_w) h = record { told = ap (λ x. outcome.Done x) h.0; left = h.1; made = h.2; more = omega (arith, h.3); accepted = refl }
goes_alike w (Refused a) (Refused b) h = record { told = ap (λ x. outcome.Done (answer.Refused x)) h; left = live_forgotten w; made = omega arith; more = omega arith; accepted = refl }
goes_alike w (Looked a) (Looked b) h = record { told = ap (λ x. outcome.Look x) h; left = live_forgotten w; made = omega arith; more = omega arith; accepted = refl }
goes_alike w (Full a m) (Full b n) h = record { told = ap₂ (λ x y. outcome.Full x y) h.0 h.1; left = live_forgotten w; made = omega arith; more = omega arith; accepted = refl }
goes_alike w (Accepted a after_v) (Refused b) h = absurd h
goes_alike w (Accepted a after_v) (Looked b) h = absurd h
goes_alike w (Accepted a after_v) (Full b n) h = absurd h
goes_alike w (Refused a) (Accepted b after_w) h = absurd h
goes_alike w (Refused a) (Looked b) h = absurd h
goes_alike w (Refused a) (Full b n) h = absurd h
goes_alike w (Looked a) (Accepted b after_w) h = absurd h
goes_alike w (Looked a) (Refused b) h = absurd h
goes_alike w (Looked a) (Full b n) h = absurd h
goes_alike w (Full a m) (Accepted b after_w) h = absurd h
goes_alike w (Full a m) (Refused b) h = absurd h
goes_alike w (Full a m) (Looked b) h = absurd h

-- the step of a world without the callbacks that are over
abbrev forgotten_step : World → ℕ → Who → Call → Step
forgotten_step w room who call = within (forget w) room (stepped (forget w) (plan_at (forget w) (length w.callbacks + 1) room who call))

step_alike : (w : World) (room : ℕ) (who : Who) (call : Call) → IsSound (length w.callbacks + 1) w → GoesAlike (forget w) w (forgotten_step w room who call) (step w room who call)
step_alike w room who call s =
    goes_alike w (forgotten_step w room who call) (step w room who call)
    (within_alike w room (stepped (forget w) (plan_at (forget w) (length w.callbacks + 1) room who call)) (unpriced w room who call) (unpriced_alike room w who call s))

-- what is remembered after a step is what lives after it, and how many were made
remembered_world : (e : Remembered) (s : Step) → forget e.world ≡ e.world → (remembered_after e s).world ≡ forget (world_after e.world s)
remembered_world e (Accepted answer after) whole = refl
remembered_world e (Refused refusal) whole = sym whole
remembered_world e (Looked look) whole = sym whole
remembered_world e (Full room cost) whole = sym whole

remembered_made : (e : Remembered) (s : Step) → (remembered_after e s).made ≡ e.made + made_by e.world s
remembered_made e (Accepted answer after) = refl
remembered_made e (Refused refusal) = omega arith
remembered_made e (Looked look) = omega arith
remembered_made e (Full room cost) = omega arith

remembered_age : (e : Remembered) (s : Step) → (remembered_after e s).age ≡ cond (is_accepted s) (e.age + 1) e.age
remembered_age e (Accepted answer after) = refl
remembered_age e (Refused refusal) = refl
remembered_age e (Looked look) = refl
remembered_age e (Full room cost) = refl

-- what the engine's step does to what it remembers meets the step of the world
pub meets : (old new : Remembered) (w : World) (room : ℕ) (who : Who) (call : Call) (told : Outcome) → Goes old new (step_of old room who call) told → StandsFor old w → Meets old new w (step w room who call) told
meets old new w room who call told goes stands =
    let is : new ≡ remembered_after old (step_of old room who call) = goes.keeps in
    let says : told ≡ outcome_of (step_of old room who call) = goes.tells in
    let next_number : ℕ = length w.callbacks + 1 in
    let sound : IsSound next_number w = subst (λ n. IsSound (n + 1) w) stands.counts stands.sound in
    let same : step_of old room who call ≡ forgotten_step w room who call = ap₂ (λ v m. within v room (stepped v (plan_at v (m + 1) room who call))) stands.remembers stands.counts in
    let alike : GoesAlike (forget w) w (forgotten_step w room who call) (step w room who call) = step_alike w room who call sound in
    let whole : forget old.world ≡ old.world = ap forget stands.remembers ∙ live_forgotten w ∙ sym stands.remembers in
    let left : forget (world_after old.world (step_of old room who call)) ≡ forget (world_after w (step w room who call)) = ap₂ (λ v s. forget (world_after v s)) stands.remembers same ∙ alike.left in
    let made : made_by old.world (step_of old room who call) ≡ made_by w (step w room who call) = ap₂ made_by stands.remembers same ∙ alike.made in
    let counted : new.made ≡ length (world_after w (step w room who call)).callbacks = ap (λ (r : Remembered). r.made) is ∙ remembered_made old (step_of old room who call) ∙ ap₂ (λ m n. m + n) stands.counts made ∙ alike.more in
    record {
      answer = says ∙ ap outcome_of same ∙ alike.told;
      stands = record {
        remembers = ap (λ (r : Remembered). r.world) is ∙ remembered_world old (step_of old room who call) whole ∙ left;
        counts = counted;
        sound = subst (λ n. IsSound n (world_after w (step w room who call))) (omega (arith, counted, alike.more))
            (sound_within next_number w room (unpriced w room who call) sound (unpriced_sound room w who call sound));
      };
      ages = ap (λ (r : Remembered). r.age) is ∙ remembered_age old (step_of old room who call) ∙ ap (λ b. cond b (old.age + 1) old.age) (ap is_accepted same ∙ alike.accepted);
    }
