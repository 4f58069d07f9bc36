-- What a call freely comes to, and what its entry leads to.
use Rattle.std.proofs.Common.{◌≡◌, ℕ, ◌+◌, true, cond, length, refl, sym, ap, ap₂, ◌∙◌, subst, arith}
use Rattle.tp_base.specs.declared.answers.Answer.{Answer}
use Rattle.tp_base.specs.declared.answers.Answer.TheVariants as answer
use Rattle.tp_base.specs.declared.answers.Entry.{Entry}
use Rattle.tp_base.specs.declared.answers.Outcome.TheVariants.{Done}
use Rattle.tp_base.specs.declared.calls.Call.{Call}
use Rattle.tp_base.specs.declared.ids.Who.{Who}
use Rattle.tp_base.specs.declared.plans.Change.{Change}
use Rattle.tp_base.specs.declared.plans.Plan.{Plan}
use Rattle.tp_base.specs.declared.plans.Plan.TheVariants.{Does, Looked, Refused}
use Rattle.tp_model.specs.Changes.{changed}
use Rattle.tp_model.specs.History.{change_told, is_refusal, led_by, led_to}
use Rattle.tp_model.specs.Step.{outcome_of, stepped}
use Rattle.tp_model.specs.Support.Allowed.{news}
use Rattle.tp_model.specs.Support.Remembered.{forget}
use Rattle.tp_model.specs.Support.Safe.{IsSafeChange}
use Rattle.tp_model.specs.Support.Sound.{IsSound}
use Rattle.tp_model.specs.Table.{plan, plan_at}
use Rattle.tp_model.specs.World.{World}
use Rattle.tp_model.proofs.Calls.{plan_forget}
use Rattle.tp_model.proofs.Entries.{next_number_in, told_change, Accepts, Entered, IsAccepted, Refuses}
use Rattle.tp_model.proofs.Forgetting.{changed_forget}
use Rattle.tp_model.proofs.Growing.{grows}
use Rattle.tp_model.proofs.Sound.{changed_sound}
use Rattle.tp_model.proofs.Steps.{plan_allowed}
use Rattle.tp_explore.specs.Scenes.{ample, freely}

-- the world has what each world behind a history has
abbrev pub IsWhole : World → Type 0
IsWhole w = IsSound (next_number_in w) w

-- the call is accepted, with this change
pub accepted : (w : World) (e : Entry) (ch : Change) → IsWhole w → plan w ample e.who e.call ≡ Does e.answer ch → IsAccepted w ample e
accepted w e ch whole is =
    let safe : IsSafeChange (next_number_in w) w e.who e.call e.answer ch = plan_allowed (next_number_in w) ample w e.who e.call e.answer ch whole is in
    record {
      change = ch;
      plan_is = is;
      safe = safe;
      leads = ap (λ b. cond b w (led_by w (change_told w e.who e.call e.answer))) safe.accepted ∙ ap (led_by w) (told_change w ample e.who e.call e.answer ch is);
    }

refused_leads : (w : World) (e : Entry) → (a : Answer) → e.answer ≡ a → is_refusal a ≡ true → led_to w e ≡ w
refused_leads w e a same is = ap (λ b. cond b w (led_by w (change_told w e.who e.call e.answer))) (ap is_refusal same ∙ is)

-- an entry with the answer that its call freely has is that of an accepted call, or of a refused one
pub freely_entered : (w : World) (e : Entry) → IsWhole w → freely w e.who e.call ≡ Done e.answer → Entered w ample e
freely_entered w e whole answers = of_plan (plan w ample e.who e.call) refl answers
  where
    of_plan : (p : Plan) → plan w ample e.who e.call ≡ p → outcome_of (stepped w p) ≡ Done e.answer → Entered w ample e
    of_plan (Looked look) is says = absurd cc
    of_plan (Refused refusal) is says =
        let same : answer.Refused refusal ≡ e.answer = cc in
        Refuses refusal (sym same) (refused_leads w e (answer.Refused refusal) (sym same) refl)
    of_plan (Does told ch) is says =
        let same : told ≡ e.answer = cc in
        Accepts (accepted w e ch whole (is ∙ ap (λ a. Does a ch) same))

-- where it leads to is whole again
pub led_whole : (w : World) (e : Entry) → IsWhole w → Entered w ample e → IsWhole (led_to w e)
led_whole w e whole (Accepts a) =
    subst IsWhole (sym a.leads) (subst (λ n. IsSound n (changed w a.change)) (omega (arith, grows (next_number_in w) w a.change a.safe.allowed)) (changed_sound (next_number_in w) w a.change whole a.safe.allowed))
led_whole w e whole (Refuses refusal same stays) = subst IsWhole (sym stays) whole

-- ---- worlds that differ in callbacks that are over alone

pub record SameLiving (v w : World) : Type 0 where
  pub worlds : forget v ≡ forget w
  pub counts : length v.callbacks ≡ length w.callbacks

module _ (v w : World) (whole_v : IsWhole v) (whole_w : IsWhole w) (same : SameLiving v w) where
  pub plans_same : (room : ℕ) (who : Who) (call : Call) → plan v room who call ≡ plan w room who call
  plans_same room who call =
      sym (plan_forget (next_number_in v) room v who call whole_v)
      ∙ ap₂ (λ u n. plan_at u (n + 1) room who call) same.worlds same.counts
      ∙ plan_forget (next_number_in w) room w who call whole_w

  outcome_same : (p : Plan) → outcome_of (stepped v p) ≡ outcome_of (stepped w p)
  outcome_same (Looked look) = refl
  outcome_same (Refused refusal) = refl
  outcome_same (Does told ch) = refl

  pub freely_same : (who : Who) (call : Call) → freely v who call ≡ freely w who call
  freely_same who call = outcome_same (plan v ample who call) ∙ ap (λ p. outcome_of (stepped w p)) (plans_same ample who call)

  -- they lead to such worlds
  pub led_same : (e : Entry) → freely v e.who e.call ≡ Done e.answer → SameLiving (led_to v e) (led_to w e)
  unfolding accepted
  led_same e answers = of_entry (freely_entered v e whole_v answers)
    where
      of_entry : Entered v ample e → SameLiving (led_to v e) (led_to w e)
      of_entry (Refuses refusal told stays) =
          let there : led_to w e ≡ w = refused_leads w e (answer.Refused refusal) told refl in
          record { worlds = ap forget stays ∙ same.worlds ∙ ap forget (sym there); counts = ap (λ (u : World). length u.callbacks) stays ∙ same.counts ∙ ap (λ (u : World). length u.callbacks) (sym there) }
      of_entry (Accepts a) =
          let b : IsAccepted w ample e = accepted w e a.change whole_w (sym (plans_same ample e.who e.call) ∙ a.plan_is) in
          record {
            worlds =
                ap forget a.leads
                ∙ sym (changed_forget (next_number_in v) v a.change whole_v a.safe.allowed)
                ∙ ap (λ u. forget (changed u a.change)) same.worlds
                ∙ changed_forget (next_number_in w) w a.change whole_w b.safe.allowed
                ∙ ap forget (sym b.leads);
            counts =
                ap (λ (u : World). length u.callbacks) a.leads
                ∙ grows (next_number_in v) v a.change a.safe.allowed
                ∙ ap (λ n. n + news a.change) same.counts
                ∙ sym (grows (next_number_in w) w a.change b.safe.allowed)
                ∙ ap (λ (u : World). length u.callbacks) (sym b.leads);
          }
