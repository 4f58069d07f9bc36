-- Calls that are made one after another are played.
use Rattle.std.proofs.Common.{◌≡◌, ◌+◌, List, [], ◌∷◌, ◌++◌, length, refl, sym, ap, ap₂, ◌∙◌, subst, arith, append_assoc, append-nil, length-append}
use Rattle.tp_base.specs.declared.answers.Answer.{Answer}
use Rattle.tp_base.specs.declared.answers.Entry.{Entry}
use Rattle.tp_base.specs.declared.answers.Outcome.{Outcome}
use Rattle.tp_base.specs.declared.answers.Outcome.TheVariants.{Done, Look, Full}
use Rattle.tp_base.specs.declared.calls.Call.{Call}
use Rattle.tp_base.specs.declared.ids.Who.{Who}
use Rattle.tp_model.specs.History.{play_from, room, IsLegal}
use Rattle.tp_model.specs.Step.{outcome_of, world_after, Step, entries_of as entries_in}
use Rattle.tp_model.specs.Table.{step}
use Rattle.tp_model.specs.World.{opening}
use Rattle.tp_model.proofs.Fitting.{step_enters}
use Rattle.recorded.specs.Recordings.{all_made, entries_of, entries_told, made, outcome_behind, outcomes_behind, recorded, room_of, world_behind, IsFirstOf, Recording}
use Rattle.recorded.proofs.Histories.{after_append, legal_append, sound_behind, stays}

-- the history goes on legally with the call, and so does what further calls come to
record IsMade (r : Recording) (who : Who) (call : Call) (told : Outcome) : Type 0 where
  legal : IsLegal r.limits r.capacity (recorded r who call told).history
  first : IsFirstOf r (recorded r who call told) who call told

module _ (r : Recording) (who : Who) (call : Call) (is_legal : IsLegal r.limits r.capacity r.history) where
  abbrev came : Step
  came = step (world_behind r) (room_of r) who call

  goes_on : (told : Outcome) (next : Recording) → next ≡ recorded r who call told → outcome_behind r who call ≡ told → world_after (world_behind r) came ≡ world_behind next → length r.history + entries_in came ≡ length next.history
      → IsFirstOf r next who call told
  goes_on told next is answers leads counts more =
      ap₂ (λ o os. o ∷ os) answers
      (ap (λ w. play_from w r.capacity (length r.history + entries_in came) more) leads
      ∙ ap (λ n. play_from (world_behind next) r.capacity n more) counts
      ∙ ap (λ c. play_from (world_behind next) c (length next.history) more) (sym (ap (λ (x : Recording). x.capacity) is)))

  unchanged : (told : Outcome) → outcome_behind r who call ≡ told → ((answer : Answer) → told ≡ Done answer → ⊥) → entries_told who call told ≡ [] → IsMade r who call told
  unchanged told answers none unwritten =
      let s = stays (world_behind r) came (λ answer e. none answer (sym answers ∙ e)) in
      let same : r.history ++ entries_told who call told ≡ r.history = ap (λ es. r.history ++ es) unwritten ∙ append-nil r.history in
      record {
        legal = subst (IsLegal r.limits r.capacity) (sym same) is_legal;
        first = goes_on told (recorded r who call told) refl answers
            (s.world ∙ ap (λ h. world_behind (record r { history = h })) (sym same)) (omega (arith, s.none, ap length same));
      }

  is_made : (told : Outcome) → outcome_behind r who call ≡ told → IsMade r who call told
  is_made (Look look) answers = unchanged (Look look) answers (λ answer e. let none : ⊥ = cc in none) refl
  is_made (Full room cost) answers = unchanged (Full room cost) answers (λ answer e. let none : ⊥ = cc in none) refl
  is_made (Done answer) answers =
      let entry : Entry = record { who = who; call = call; answer = answer } in
      let enters = step_enters (world_behind r) (room_of r) entry (sound_behind r is_legal) answers in
      let here : 0 + length r.history ≡ length r.history = omega arith in
      record {
        legal =
            legal_append (opening r.limits) r.capacity 0 r.history (entry ∷ []) is_legal
            (ap (λ n. outcome_of (step (world_behind r) (room r.capacity (world_behind r) n) who call)) here ∙ answers, tt);
        first = goes_on (Done answer) (recorded r who call (Done answer)) refl answers
            (enters.leads ∙ sym (after_append (opening r.limits) r.history (entry ∷ []))) (omega (arith, enters.one, length-append r.history (entry ∷ [])));
      }

pub all_played : (r : Recording) (calls : List (Who × Call)) → IsLegal r.limits r.capacity r.history → (all_made r calls).history ≡ r.history ++ entries_of calls (outcomes_behind r calls)
all_played r [] legal = sym (append-nil r.history)
all_played r (call ∷ calls) legal =
    let told = outcome_behind r call.0 call.1 in
    let one = is_made r call.0 call.1 legal told refl in
    all_played (made r call) calls one.legal
    ∙ append_assoc r.history (entries_told call.0 call.1 told) (entries_of calls (outcomes_behind (made r call) calls))
    ∙ ap (λ os. r.history ++ entries_of (call ∷ calls) os) (sym (one.first calls))

pub all_limits : (r : Recording) (calls : List (Who × Call)) → (all_made r calls).limits ≡ r.limits
all_limits r [] = refl
all_limits r (call ∷ calls) = all_limits (made r call) calls

pub all_capacity : (r : Recording) (calls : List (Who × Call)) → (all_made r calls).capacity ≡ r.capacity
all_capacity r [] = refl
all_capacity r (call ∷ calls) = all_capacity (made r call) calls

pub all_legal : (r : Recording) (calls : List (Who × Call)) → IsLegal r.limits r.capacity r.history → IsLegal (all_made r calls).limits (all_made r calls).capacity (all_made r calls).history
all_legal r [] legal = legal
all_legal r (call ∷ calls) legal = all_legal (made r call) calls (is_made r call.0 call.1 legal (outcome_behind r call.0 call.1) refl).legal
