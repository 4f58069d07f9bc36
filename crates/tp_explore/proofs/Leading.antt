-- The world that an entry of a legal history leads to, as it is kept.
use Rattle.std.proofs.Common.{◌≡◌, ℕ, ◌+◌, true, cond, length, Option, None, Some, refl, sym, ap, ap₂, ◌∙◌, subst}
use Rattle.tp_base.specs.declared.answers.Answer.{Answer}
use Rattle.tp_base.specs.declared.answers.Entry.{Entry}
use Rattle.tp_base.specs.declared.answers.Outcome.TheVariants.{Done}
use Rattle.tp_base.specs.declared.calls.Call.{Call}
use Rattle.tp_base.specs.declared.calls.Call.TheVariants.{CreatePool, End}
use Rattle.tp_base.specs.declared.ids.Who.{Who}
use Rattle.tp_base.specs.declared.plans.Change.{Change}
use Rattle.tp_model.specs.Changes.{changed}
use Rattle.tp_model.specs.History.{change_of, change_told, is_refusal, led_to, wait_end}
use Rattle.tp_model.specs.Laws.Entries.{is_end_call}
use Rattle.tp_model.specs.Step.{outcome_of}
use Rattle.tp_model.specs.Support.Allowed.{news, IsAllowed}
use Rattle.tp_model.specs.Support.Remembered.{forget}
use Rattle.tp_model.specs.Support.Sound.{IsSound}
use Rattle.tp_model.specs.Table.{plan, plan_at, step}
use Rattle.tp_model.specs.World.{World}
use Rattle.tp_model.proofs.Calls.{plan_forget}
use Rattle.tp_model.proofs.Entries.{entered, entry_leads, next_number_in, told_change, Accepts, Entered, IsAccepted, Refuses}
use Rattle.tp_model.proofs.Forgetting.{changed_forget, forget_sound}
use Rattle.tp_model.proofs.Growing.{grows}
use Rattle.tp_model.proofs.Steps.{plan_allowed}
use Rattle.tp_explore.specs.Led.{accepted_change, change_by, kept_by, made_by, IsKept}

module _ (w kept : World) (made left : ℕ) (e : Entry) (is : IsKept w kept made) (answers : outcome_of (step w left e.who e.call) ≡ Done e.answer) where
  whole : IsSound (next_number_in w) w
  whole = subst (λ n. IsSound (n + 1) w) is.made_is is.sound

  plan_same : (room : ℕ) (who : Who) (call : Call) → plan_at kept (made + 1) room who call ≡ plan w room who call
  plan_same room who call = ap₂ (λ u n. plan_at u (n + 1) room who call) is.kept_is is.made_is ∙ plan_forget (next_number_in w) room w who call whole

  told_as : (call : Call) (who : Who) (told : Answer) → plan_at kept (made + 1) 0 who call ≡ plan w 0 who call
      → cond (is_end_call call) (wait_end who told) (change_of (plan_at kept (made + 1) 0 who call)) ≡ change_told w who call told
  told_as End who told same = refl
  told_as CreatePool who told same = ap change_of same
  told_as _ who told same = ap change_of same

  told_same : accepted_change kept (made + 1) e ≡ change_told w e.who e.call e.answer
  told_same = told_as e.call e.who e.answer (plan_same 0 e.who e.call)

  none_told : (told : Answer) → e.answer ≡ told → is_refusal told ≡ true → change_by kept (made + 1) e ≡ None
  none_told told same refuses = ap (λ b. cond b None (accepted_change kept (made + 1) e)) (ap is_refusal same ∙ refuses)

  some_told : (a : IsAccepted w left e) → change_by kept (made + 1) e ≡ Some a.change
  some_told a =
      ap (λ b. cond b None (accepted_change kept (made + 1) e)) a.safe.accepted
      ∙ told_same
      ∙ told_change w left e.who e.call e.answer a.change a.plan_is

  -- what is told may be made where the world is kept
  pub allowed : (change : Change) → change_by kept (made + 1) e ≡ Some change → IsAllowed (made + 1) kept change
  allowed change told = of_entry (entered w left e whole answers)
    where
      of_entry : Entered w left e → IsAllowed (made + 1) kept change
      of_entry (Refuses refusal same stays) =
          let wrong : Some change ≡ None = sym told ∙ none_told _ same refl in
          absurd cc
      of_entry (Accepts a) =
          let one : Some a.change ≡ Some change = sym (some_told a) ∙ told in
          let same : a.change ≡ change = cc in
          let sound : IsSound (made + 1) kept = subst (IsSound (made + 1)) (sym is.kept_is) (forget_sound (made + 1) w is.sound) in
          subst (IsAllowed (made + 1) kept) same (plan_allowed (made + 1) left kept e.who e.call e.answer a.change sound (plan_same left e.who e.call ∙ a.plan_is)).allowed

  abbrev next_kept : World
  next_kept = kept_by kept (change_by kept (made + 1) e)

  abbrev next_made : ℕ
  next_made = made_by made (change_by kept (made + 1) e)

  -- and what is kept then is what is kept of where the entry leads to
  pub keeps : IsKept (led_to w e) next_kept next_made
  keeps = of_entry (entered w left e whole answers)
    where
      -- by the change that is told
      By : Option Change → Type 0
      By told = IsKept (led_to w e) (kept_by kept told) (made_by made told)

      of_entry : Entered w left e → IsKept (led_to w e) next_kept next_made
      of_entry (Refuses refusal same stays) = subst By (sym (none_told _ same refl)) (subst (λ u. IsKept u kept made) (sym stays) is)
      of_entry (Accepts a) =
          let count : made + news a.change ≡ length (led_to w e).callbacks
          = ap (λ n. n + news a.change) is.made_is ∙ sym (grows (next_number_in w) w a.change a.safe.allowed) ∙ ap (λ (u : World). length u.callbacks) (sym a.leads) in
          subst By (sym (some_told a))
          (record {
            kept_is = ap (λ u. forget (changed u a.change)) is.kept_is ∙ changed_forget (next_number_in w) w a.change whole a.safe.allowed ∙ ap forget (sym a.leads);
            made_is = count;
            sound = subst (λ n. IsSound (n + 1) (led_to w e)) (sym count) (entry_leads w left e whole answers).sound;
          })
