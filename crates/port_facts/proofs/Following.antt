-- Entries that follow on a history one after another.
use Rattle.std.proofs.Common.{◌≡◌, ℕ, ◌+◌, ◌≤◌, List, [], ◌∷◌, ◌++◌, length, map, cond, refl, sym, ap, ap₂, ◌∙◌, subst, arith, append_assoc, append-nil, length-append}
use Rattle.tp_base.specs.declared.answers.Entry.{Entry}
use Rattle.tp_base.specs.declared.answers.Outcome.TheVariants as outcome
use Rattle.tp_base.specs.declared.plans.Change.{Change}
use Rattle.tp_base.specs.declared.plans.Plan.TheVariants.{Does}
use Rattle.tp_model.specs.Changes.{changed}
use Rattle.tp_model.specs.Counts.{owed}
use Rattle.tp_model.specs.History.{after_from, change_told, led_by, led_to, play_from, room, IsLegal, IsLegalFrom}
use Rattle.tp_model.specs.Step.{cost, outcome_of, stepped, within, Accepted}
use Rattle.tp_model.specs.Support.Allowed.{price}
use Rattle.tp_model.specs.Support.Sound.{IsSound}
use Rattle.tp_model.specs.Table.{plan, step}
use Rattle.tp_model.specs.World.{opening, World}
use Rattle.tp_model.proofs.Costs.{paid}
use Rattle.tp_model.proofs.Entries.{entry_leads, next_number_in, told_change}
use Rattle.tp_model.proofs.Fitting.{step_enters}
use Rattle.tp_model.proofs.Growing.{grows}
use Rattle.tp_model.proofs.Sound.{changed_sound}
use Rattle.tp_model.proofs.Steps.{cost_is, not_full, plan_allowed}
use Rattle.recorded.specs.Recordings.{all_made, made, outcome_behind, recorded, world_behind, Recording}
use Rattle.recorded.proofs.Histories.{after_append, legal_append, legal_split, sound_behind}
use Rattle.port_facts.specs.Accepted.{call_of, outcome_told, with_entries, AreAccepted, MayFollow}

-- ---- one entry

-- the machine answers with the entry, which leads to the next world and owes what that does
pub record Follows (w : World) (left : ℕ) (entry : Entry) (price : ℕ) (next : World) : Type 0 where
  pub answers : outcome_of (step w left entry.who entry.call) ≡ outcome.Done entry.answer
  pub leads : led_to w entry ≡ next
  pub sound : IsSound (next_number_in next) next
  pub owes : 1 + owed next ≡ owed w + price

-- the entry of a call whose plan is known, where there is room for its price
pub follows : (w : World) (left : ℕ) (entry : Entry) (ch : Change) → IsSound (next_number_in w) w → plan w left entry.who entry.call ≡ Does entry.answer ch → price ch ≤ left → Follows w left entry (price ch) (changed w ch)
follows w left entry ch sound is fits =
    let safe = plan_allowed (next_number_in w) left w entry.who entry.call entry.answer ch sound is in
    let costs : cost w (changed w ch) ≡ price ch = cost_is (next_number_in w) w ch sound safe.allowed in
    record {
      answers =
          ap (λ p. outcome_of (within w left (stepped w p))) is
          ∙ ap outcome_of (not_full left (cost w (changed w ch)) (Accepted entry.answer (changed w ch)) (omega (arith, costs, fits)));
      leads =
          ap (λ b. cond b w (led_by w (change_told w entry.who entry.call entry.answer))) safe.accepted
          ∙ ap (led_by w) (told_change w left entry.who entry.call entry.answer ch is);
      sound = subst (λ n. IsSound n (changed w ch)) (omega (arith, grows (next_number_in w) w ch safe.allowed)) (changed_sound (next_number_in w) w ch sound safe.allowed);
      owes = paid (next_number_in w) w ch sound safe.allowed;
    }

-- ---- one entry after another

pub record FollowAll (w : World) (capacity entries : ℕ) (told : List Entry) (next : World) : Type 0 where
  pub legal : IsLegalFrom w capacity entries told
  pub leads : after_from w told ≡ next
  pub sound : IsSound (next_number_in next) next

pub none_follow : (w : World) (capacity entries : ℕ) → IsSound (next_number_in w) w → FollowAll w capacity entries [] w
none_follow w capacity entries sound = record { legal = tt; leads = refl; sound = sound }

pub first_follows : (w between next : World) (capacity entries price : ℕ) (entry : Entry) (told : List Entry) → Follows w (room capacity w entries) entry price between → FollowAll between capacity (entries + 1) told next
    → FollowAll w capacity entries (entry ∷ told) next
first_follows w between next capacity entries price entry told first rest =
    record {
      legal = (first.answers, subst (λ v. IsLegalFrom v capacity (entries + 1) told) (sym first.leads) rest.legal);
      leads = ap (λ v. after_from v told) first.leads ∙ rest.leads;
      sound = rest.sound;
    }

pub then_follow : (w between next : World) (capacity entries count : ℕ) (told more : List Entry) → count ≡ entries + length told → FollowAll w capacity entries told between → FollowAll between capacity count more next
    → FollowAll w capacity entries (told ++ more) next
then_follow w between next capacity entries count told more is first rest =
    record {
      legal = legal_append w capacity entries told more first.legal (subst (λ n. IsLegalFrom (after_from w told) capacity n more) is (subst (λ v. IsLegalFrom v capacity count more) (sym first.leads) rest.legal));
      leads = after_append w told more ∙ (ap (λ v. after_from v more) first.leads ∙ rest.leads);
      sound = rest.sound;
    }

-- ---- behind a recording

-- the calls of a legal history's entries come to their answers
plays : (w : World) (capacity entries : ℕ) (told : List Entry) → IsSound (next_number_in w) w → IsLegalFrom w capacity entries told → play_from w capacity entries (map call_of told) ≡ map outcome_told told
plays w capacity entries [] sound legal = refl
plays w capacity entries (entry ∷ told) sound legal =
    let came = step w (room capacity w entries) entry.who entry.call in
    let enters = step_enters w (room capacity w entries) entry sound legal.0 in
    ap₂ (λ o l. o ∷ l) legal.0
    (ap₂ (λ v n. play_from v capacity (entries + n) (map call_of told)) enters.leads enters.one
    ∙ plays (led_to w entry) capacity (entries + 1) told (entry_leads w (room capacity w entries) entry sound legal.0).sound legal.1)

are_made : (r : Recording) (told : List Entry) → IsLegalFrom (world_behind r) r.capacity (length r.history) told → all_made r (map call_of told) ≡ with_entries r told
are_made r [] legal = ap (λ h. record r { history = h }) (sym (append-nil r.history))
are_made r (entry ∷ told) legal =
    let next : Recording = with_entries r (entry ∷ []) in
    let grown : length next.history ≡ length r.history + 1 = length-append r.history (entry ∷ []) in
    let one : made r (call_of entry) ≡ next = ap (recorded r entry.who entry.call) legal.0 in
    let rest : IsLegalFrom (world_behind next) r.capacity (length next.history) told =
    subst (λ n. IsLegalFrom (world_behind next) r.capacity n told) (sym grown) (subst (λ v. IsLegalFrom v r.capacity (length r.history + 1) told) (sym (after_append (opening r.limits) r.history (entry ∷ []))) legal.1) in
    ap (λ x. all_made x (map call_of told)) one ∙ (are_made next told rest ∙ ap (λ h. record r { history = h }) (append_assoc r.history (entry ∷ []) told))

-- ---- what is legal is accepted

legal_behind : (r : Recording) (told : List Entry) → MayFollow r told → IsLegal r.limits r.capacity r.history × IsLegalFrom (world_behind r) r.capacity (length r.history) told
legal_behind r told legal =
    let parts = legal_split (opening r.limits) r.capacity 0 r.history told legal in
    (parts.0, subst (λ n. IsLegalFrom (world_behind r) r.capacity n told) (omega arith) parts.1)

pub legal_accepted : (r : Recording) (told : List Entry) → MayFollow r told → AreAccepted r told
legal_accepted r told legal =
    let parts = legal_behind r told legal in
    record {
      legal = legal;
      outcomes = plays (world_behind r) r.capacity (length r.history) told (sound_behind r parts.0) parts.1;
      made = are_made r told parts.1;
    }

pub legal_first : (r : Recording) (entry : Entry) (more : List Entry) → MayFollow r (entry ∷ more) → outcome_behind r entry.who entry.call ≡ outcome.Done entry.answer
legal_first r entry more legal = (legal_behind r (entry ∷ more) legal).1.0

pub legal_rest : (r : Recording) (entry : Entry) (more : List Entry) → MayFollow r (entry ∷ more) → MayFollow (with_entries r (entry ∷ [])) more
legal_rest r entry more legal = subst (IsLegal r.limits r.capacity) (sym (append_assoc r.history (entry ∷ []) more)) legal

-- what follows on a legal history is accepted behind it
pub accepted : (r : Recording) (told : List Entry) (next : World) → IsLegal r.limits r.capacity r.history → FollowAll (world_behind r) r.capacity (length r.history) told next → AreAccepted r told
accepted r told next legal all =
    legal_accepted r told (legal_append (opening r.limits) r.capacity 0 r.history told legal (subst (λ n. IsLegalFrom (world_behind r) r.capacity n told) (omega arith) all.legal))

pub behind : (r : Recording) (told : List Entry) (next : World) → FollowAll (world_behind r) r.capacity (length r.history) told next → world_behind (with_entries r told) ≡ next
behind r told next all = after_append (opening r.limits) r.history told ∙ all.leads
