-- What a machine does is told by its closed world, up to names.
use Rattle.std.proofs.Common.{◌≡◌, ℕ, ◌+◌, ◌==◌, ◌||◌, Bool, true, false, cond, List, [], ◌∷◌, ◌++◌, length, Option, Some, None, is_none, refl, sym, ap, ap₂, ◌∙◌, subst, filter, find, eqb-true, arith}
use Rattle.std.specs.List.{list_any}
use Rattle.std.proofs.lemmas.List.{length-map}
use Rattle.tp_base.specs.declared.answers.Answer.{Answer}
use Rattle.tp_base.specs.declared.answers.Refusal.TheVariants.{NoOperation}
use Rattle.tp_base.specs.declared.calls.Call.{Call}
use Rattle.tp_base.specs.declared.calls.Call.TheVariants.{CompleteIo}
use Rattle.tp_base.specs.declared.ids.Who.{Who}
use Rattle.tp_base.specs.declared.plans.Change.{Change}
use Rattle.tp_base.specs.declared.plans.Change.TheVariants as change
use Rattle.tp_base.specs.declared.plans.Plan.TheVariants.{Does}
use Rattle.tp_base.specs.declared.rows.CallbackRow.{CallbackRow}
use Rattle.tp_model.specs.World.{World}
use Rattle.tp_model.specs.Changes.{changed}
use Rattle.tp_model.specs.Counts.{callback_of, has_number}
use Rattle.tp_model.specs.Support.Allowed.{IsAllowed}
use Rattle.tp_model.specs.Support.Remembered.{forget, lives}
use Rattle.tp_model.specs.Support.Safe.{IsSafe, IsSafeChange}
use Rattle.tp_model.specs.Support.Sound.{IsRising, IsSound}
use Rattle.tp_model.specs.Table.{plan_at}
use Rattle.tp_model.specs.Refusing.{actor_refusals, first_refusal, unless_refused}
use Rattle.tp_model.specs.Calls.Io.{complete_io, complete_io_plan, issued_row}
use Rattle.tp_model.proofs.Calls.{plan_forget, plan_safe}
use Rattle.tp_model.proofs.Forgetting.{changed_forget, forget_sound}
use Rattle.tp_model.proofs.Refusals.{false_true}
use Rattle.renamed_worlds.specs.Closed.{closed, closed_call, closed_next, named_by_place, number_in, place_of, settled, tidied, ComesToOne}
use Rattle.renamed_worlds.specs.Renamed.{renamed, renamed_answer, renamed_call, renamed_change, renamed_plan, GoesOn, IsNaming, IsNumberedOn}
use Rattle.renamed_worlds.proofs.Behind.{tidied_behind}
use Rattle.renamed_worlds.proofs.Changes.{changed_renamed}
use Rattle.renamed_worlds.proofs.Closing.{closed_back, closed_renamed}
use Rattle.renamed_worlds.proofs.Places.{at_goes_on, at_naming, at_next, at_place, nobody, place_nobody}
use Rattle.renamed_worlds.proofs.Plans.{plan_renamed}
use Rattle.renamed_worlds.proofs.SettledPlans.{plan_settled}

-- an operation that no callback has completes like another one
complete_nobody : (w : World) (who : Who) (m n error bytes : ℕ) → callback_of w m ≡ callback_of w n → complete_io_plan w who m error bytes ≡ complete_io_plan w who n error bytes
unfolding complete_io_plan
complete_nobody w who m n error bytes same =
    ap (λ (o : Option CallbackRow). unless_refused (first_refusal (actor_refusals w who ++ (is_none (issued_row o), NoOperation) ∷ [])) (complete_io error bytes (issued_row o))) same

module _ (next_number : ℕ) (w : World) (s : IsSound next_number w) where
  abbrev living : List CallbackRow
  living = filter lives w.callbacks

  abbrev name : ℕ → ℕ
  name = number_in w next_number

  f : IsSound next_number (forget w)
  f = forget_sound next_number w s

  naming : IsNaming name
  naming = at_naming next_number living f.numbers

  -- ---- plans

  -- no callback has the number 0
  none_there : (cs : List CallbackRow) → IsRising 1 next_number cs → list_any (has_number 0) cs ≡ true → ⊥
  none_there cs rising there = of_found cs (nobody 1 next_number 0 cs (omega arith) rising) there
    where
      of_found : (ds : List CallbackRow) → find (has_number 0) ds ≡ None → list_any (has_number 0) ds ≡ true → ⊥
      of_found [] e h = false_true h
      of_found (d ∷ ds) e h =
          elim (has_number 0 d) as (λ b. cond b (Some d) (find (has_number 0) ds) ≡ None → (b || list_any (has_number 0) ds) ≡ true → ⊥) [
            | true ↦ λ g _. absurd cc
            | false ↦ λ g k. of_found ds g k
          ] e h

  -- a call with the number at the place of its number
  call_back : (room : ℕ) (who : Who) (call : Call) → plan_at (tidied w) next_number room who (renamed_call name (closed_call w call)) ≡ plan_at (tidied w) next_number room who call
  call_back room who (CompleteIo callback error bytes) = complete_nobody (tidied w) who (name (place_of living callback)) callback error bytes (known (callback == 0) refl (list_any (has_number callback) living) refl)
    where
      known : (none : Bool) → (callback == 0) ≡ none → (there : Bool) → list_any (has_number callback) living ≡ there → find (has_number (name (place_of living callback))) living ≡ find (has_number callback) living
      known none is false away = ap (λ p. find (has_number (name p)) living) (place_nobody living callback away) ∙ nobody 1 next_number 0 living (omega arith) f.numbers ∙ sym (not_found living away)
        where
          not_found : (cs : List CallbackRow) → list_any (has_number callback) cs ≡ false → find (has_number callback) cs ≡ None
          not_found [] e = refl
          not_found (c ∷ cs) e =
              elim (has_number callback c) as (λ b. (b || list_any (has_number callback) cs) ≡ false → cond b (Some c) (find (has_number callback) cs) ≡ None) [
                | true ↦ λ h. absurd cc
                | false ↦ λ h. not_found cs h
              ] e
      known true is true there = absurd (none_there living f.numbers (ap (λ n. list_any (has_number n) living) (sym (eqb-true callback 0 is)) ∙ there))
      known false is true there = ap (λ n. find (has_number n) living) (at_place next_number living callback (λ e. false_true (sym is ∙ ap (λ n. n == 0) e)) there)
  call_back room who call = refl

  plan_tidied : (room : ℕ) (who : Who) (call : Call) → plan_at (tidied w) next_number room who call ≡ plan_at w next_number room who call
  plan_tidied room who call = plan_settled (forget w) next_number room who call ∙ plan_forget next_number room w who call s

  -- what a call comes to is told by the closed world, up to names
  pub plan_closed : (room : ℕ) (who : Who) (call : Call) → plan_at w next_number room who call ≡ renamed_plan name (plan_at (closed w) (closed_next w) room who (closed_call w call))
  plan_closed room who call =
      sym (plan_tidied room who call)
      ∙ sym (call_back room who call)
      ∙ ap₂ (λ v n. plan_at v n room who (renamed_call name (closed_call w call))) (sym (closed_back next_number w s)) (sym (at_next next_number living))
      ∙ plan_renamed name naming (closed w) (closed_next w) room who (closed_call w call)

  -- ---- changes

  numbered_on : (how : Change) → IsAllowed next_number w (renamed_change name how) → IsNumberedOn name how
  numbered_on (change.Fire trigger first count) a = subst (GoesOn name) (naming.apart (closed_next w) first (at_next next_number living ∙ sym a.number)) (at_goes_on next_number living)
  numbered_on (change.Return by words first count) a = subst (GoesOn name) (naming.apart (closed_next w) first (at_next next_number living ∙ sym a.number)) (at_goes_on next_number living)
  numbered_on _ a = tt

  module _ (room : ℕ) (who : Who) (call : Call) (told : Answer) (how : Change) (does : plan_at (closed w) (closed_next w) room who (closed_call w call) ≡ Does told how) where
    made : plan_at w next_number room who call ≡ Does (renamed_answer name told) (renamed_change name how)
    made = plan_closed room who call ∙ ap (renamed_plan name) does

    safe : IsSafeChange next_number w who call (renamed_answer name told) (renamed_change name how)
    safe = subst (IsSafe next_number w who call) made (plan_safe next_number room w who call s)

    safe_left : IsSafeChange next_number (forget w) who call (renamed_answer name told) (renamed_change name how)
    safe_left = subst (IsSafe next_number (forget w) who call) (plan_forget next_number room w who call s ∙ made) (plan_safe next_number room (forget w) who call f)

    -- the world behind a change is what is behind the change of the closed world, up to names and to what waits covered
    pub renamed_behind : tidied (changed w (renamed_change name how)) ≡ tidied (renamed name (changed (closed w) how))
    renamed_behind =
        ap settled (sym (changed_forget next_number w (renamed_change name how) s safe.allowed))
        ∙ sym (tidied_behind next_number (forget w) who call (renamed_answer name told) f (renamed_change name how) safe_left)
        ∙ ap (λ v. tidied (changed v (renamed_change name how))) (sym (closed_back next_number w s))
        ∙ ap tidied (changed_renamed name naming (closed w) how (numbered_on how safe.allowed))

    -- and once it is closed, it is that
    pub changed_closed : closed (changed w (renamed_change name how)) ≡ closed (changed (closed w) how)
    changed_closed = ap named_by_place renamed_behind ∙ closed_renamed name naming (changed (closed w) how)

-- ---- two worlds

closed_next_same : (w other : World) → closed w ≡ closed other → closed_next w ≡ closed_next other
closed_next_same w other same =
    ap (λ n. n + 1) (sym (length-map (filter lives w.callbacks) _) ∙ ap (λ (v : World). length v.callbacks) same ∙ length-map (filter lives other.callbacks) _)

pub comes_to_one : (next_number other_number : ℕ) (w other : World) → IsSound next_number w → IsSound other_number other → closed w ≡ closed other
    → (room : ℕ) (who : Who) (call same : Call) → closed_call w call ≡ closed_call other same → ComesToOne next_number other_number w other room who call same
comes_to_one next_number other_number w other s t one room who call same calls =
    let plan_same : plan_at (closed w) (closed_next w) room who (closed_call w call) ≡ plan_at (closed other) (closed_next other) room who (closed_call other same)
    = ap₂ (λ v n. plan_at v n room who (closed_call w call)) one (closed_next_same w other one) ∙ ap (plan_at (closed other) (closed_next other) room who) calls in
    record {
      plan = plan_at (closed w) (closed_next w) room who (closed_call w call);
      here = plan_closed next_number w s room who call;
      there = plan_closed other_number other t room who same ∙ ap (renamed_plan (number_in other other_number)) (sym plan_same);
      behind = λ told how does.
          changed_closed next_number w s room who call told how does
          ∙ ap (λ v. closed (changed v how)) one
          ∙ sym (changed_closed other_number other t room who same told how (sym plan_same ∙ does));
    }
