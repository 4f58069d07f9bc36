-- A turn keeps what a role is.
use Rattle.std.proofs.Common.{◌≡◌, ℕ, ◌+◌, Bool, true, false, ◌||◌, List, [], ◌∷◌, ◌++◌, IfSome, refl, sym, ap, subst, ◌∙◌, append-nil}
use Rattle.std.specs.Prelude.{if◌then◌else◌}
use Rattle.tp_base.specs.declared.answers.Answer.{Answer}
use Rattle.tp_base.specs.declared.answers.Entry.{Entry}
use Rattle.tp_base.specs.declared.answers.Outcome.{Outcome}
use Rattle.tp_base.specs.declared.answers.Outcome.TheVariants as outcome
use Rattle.tp_base.specs.declared.calls.Call.{Call}
use Rattle.tp_base.specs.declared.ids.Who.{Who}
use Rattle.tp_base.specs.declared.limits.Limits.{Limits}
use Rattle.tp_base.specs.declared.plans.Stage.{Stage}
use Rattle.tp_base.specs.declared.plans.Stage.TheVariants.{Away, Busy, Idle, Over, Playing}
use Rattle.tp_model.specs.History.{led_to, IsLegal, IsLegalFrom}
use Rattle.tp_model.specs.World.{World}
use Rattle.tp_model.specs.World.{opening as model_opening}
use Rattle.tp_model.specs.Stages.{first_stage, is_in_part, is_over_stage, stage_from, waits_from, MachineFacts}
use Rattle.tp_model.proofs.Facts.{machine_facts}
use Rattle.tp_script.specs.Calls.{IsOfPart}
use Rattle.recorded.specs.Recordings.{entries_told, outcome_behind, recorded, Recording}
use Rattle.turn_lock.specs.Histories.{own, StartsWith}
use Rattle.turn_lock.proofs.Beginnings.{own_more}
use Rattle.part_places.specs.declared.place.Place.{Place}
use Rattle.worker_gate.specs.declared.role.Role.{Role}
use Rattle.worker_gate.specs.declared.role.Turn.{Turn}
use Rattle.part_places.specs.Places.{Given, next_call, opening, place_after}
use Rattle.worker_gate.specs.Roles.{due_of, ended_turn, ends, ends_at, is_idle_take, played_turn, took, turn_by, turned, HasTurned, IsOf, Turned}
use Rattle.worker_gate.specs.Runs.{is_over_in}
use Rattle.worker_gate.specs.Walks.{comes_to, is_full, FollowsAt, IsCut}
use Rattle.worker_gate.proofs.Stepping.{cut_by, goes_at, in_part_no_take, Goes, Stands}
use Rattle.worker_gate.proofs.Walking.{follows_grow, from_snoc, leads_grow, leads_snoc, stage_is, waits_is}

-- the due call of a role that hasn't ended, behind a history that has just these entries of its actor: what a turn on a
-- machine of its own and one on a pool rest on
abbrev pub StepKeeps : Type 0
StepKeeps =
    (g : Given) (limits : Limits) (capacity : ℕ) (history entries : List Entry) (r : Role) (told : Outcome) → MachineFacts limits history → own r.who history ≡ entries
    → IsOf g limits capacity history entries r → r.ended ≡ false → is_over_stage r.place.stage ≡ false → IfSome (next_call g r.who r.place) IsOfPart
    → comes_to limits capacity history r.who (due_of g r.who r.place r.marked) ≡ told
    → IsOf g limits capacity (history ++ entries_told r.who (due_of g r.who r.place r.marked) told) (entries ++ entries_told r.who (due_of g r.who r.place r.marked) told) (took g r (due_of g r.who r.place r.marked) told)

module _ (g : Given) (limits : Limits) (capacity : ℕ) (history entries : List Entry) (r : Role) (facts : MachineFacts limits history) (own_is : own r.who history ≡ entries)
    (of : IsOf g limits capacity history entries r) (going : r.ended ≡ false) (not_over : is_over_stage r.place.stage ≡ false) (part : IfSome (next_call g r.who r.place) IsOfPart) where
  abbrev due : Call
  due = due_of g r.who r.place r.marked

  stands : Stands g limits capacity history entries facts r.who of.actor own_is r.place r.marked
  stands =
      record {
        stage_is = ap (λ (p : Place). p.stage) of.place_is ∙ (stage_is g r.who (opening r.who) entries ∙ ap (stage_from (first_stage r.who)) (sym own_is));
        waits_is = ap (λ (p : Place). p.waits) of.place_is ∙ (waits_is g r.who (opening r.who) entries ∙ ap (waits_from false) (sym own_is));
        calm = of.calm;
        sorted = of.sorted;
        cut = of.cut;
        part = part;
        going = not_over;
      }

  -- it had an answer
  answered : (told : Answer) → comes_to limits capacity history r.who due ≡ outcome.Done told
      → IsOf g limits capacity (history ++ entries_told r.who due (outcome.Done told)) (entries ++ entries_told r.who due (outcome.Done told)) (took g r due (outcome.Done told))
  answered told came =
      let e : Entry = record { who = r.who; call = due; answer = told } in
      let later : List Entry = history ++ e ∷ [] in
      let more : StartsWith later history = record { rest = e ∷ []; is = refl } in
      let goes : Goes g limits capacity history entries facts r.who of.actor own_is r.place due told = goes_at g limits capacity history entries facts r.who of.actor own_is r.place r.marked told stands came in
      let follows : FollowsAt g limits capacity later r.who entries r.place r.place.stage e = follows_grow g limits capacity history later more r.who entries r.place r.place.stage e goes.follows in
      record {
        actor = of.actor;
        leads = leads_snoc g limits capacity later r.who [] (opening r.who) entries e (leads_grow g limits capacity history later more r.who [] (opening r.who) entries of.leads)
            (subst (λ (p : Place). FollowsAt g limits capacity later r.who entries p p.stage e) of.place_is follows);
        place_is = ap (λ (p : Place). place_after g r.who p due told) of.place_is ∙ sym (from_snoc g r.who (opening r.who) entries e);
        calm = goes.calm;
        sorted = goes.sorted;
        cut = λ within marked. let b : false ≡ true = marked in absurd cc;
        rests = λ ended. let b : false ≡ true = sym going ∙ ended in absurd cc;
      }

  -- nothing became of it
  stayed : (mark : Bool) → (is_in_part r.place.stage ≡ true → mark ≡ true → IsCut g limits capacity history r.who entries r.place)
      → IsOf g limits capacity (history ++ []) (entries ++ []) (record r { marked = mark })
  stayed mark cut =
      let same : IsOf g limits capacity history entries (record r { marked = mark }) = record { actor = of.actor; leads = of.leads; place_is = of.place_is; calm = of.calm; sorted = of.sorted; cut = cut; rests = of.rests } in
      subst (λ (es : List Entry). IsOf g limits capacity (history ++ []) es (record r { marked = mark })) (sym (append-nil entries))
      (subst (λ (h : List Entry). IsOf g limits capacity h entries (record r { marked = mark })) (sym (append-nil history)) same)

  keeps : (told : Outcome) → comes_to limits capacity history r.who due ≡ told → IsOf g limits capacity (history ++ entries_told r.who due told) (entries ++ entries_told r.who due told) (took g r due told)
  keeps (outcome.Done told) came = answered told came
  keeps (outcome.Look look) came = stayed (is_idle_take r.place.stage due) (λ within marked. let e : false ≡ true = sym (in_part_no_take r.place.stage due within) ∙ marked in absurd cc)
  keeps (outcome.Full room cost) came = stayed true (λ within marked. cut_by g limits capacity history entries facts r.who of.actor own_is r.place r.marked stands within (ap is_full came))

pub step_keeps : StepKeeps
step_keeps g limits capacity history entries r told facts own_is of going not_over part came = keeps g limits capacity history entries r facts own_is of going not_over part told came

-- ---- a turn on a machine of its own

legal_front_from : (w : World) (capacity entries : ℕ) (front rest : List Entry) → IsLegalFrom w capacity entries (front ++ rest) → IsLegalFrom w capacity entries front
legal_front_from w capacity entries [] rest legal = tt
legal_front_from w capacity entries (e ∷ front) rest legal = (legal.0, legal_front_from (led_to w e) capacity (entries + 1) front rest legal.1)

-- a front of a legal history is legal
pub legal_front : (limits : Limits) (capacity : ℕ) (front rest : List Entry) → IsLegal limits capacity (front ++ rest) → IsLegal limits capacity front
legal_front limits capacity front rest legal = legal_front_from (model_opening limits) capacity 0 front rest legal

pub own_told : (who : Who) (history : List Entry) (made : Call) (told : Outcome) → own who (history ++ entries_told who made told) ≡ own who history ++ entries_told who made told
own_told who history made (outcome.Done told) = own_more who history (record { who = who; call = made; answer = told }) refl
own_told who history made (outcome.Look look) = ap (own who) (append-nil history) ∙ sym (append-nil (own who history))
own_told who history made (outcome.Full room cost) = ap (own who) (append-nil history) ∙ sym (append-nil (own who history))

pub took_who : (g : Given) (r : Role) (made : Call) (told : Outcome) → (took g r made told).who ≡ r.who
took_who g r made (outcome.Done told) = refl
took_who g r made (outcome.Look look) = refl
took_who g r made (outcome.Full room cost) = refl

-- a role that doesn't end isn't known to have ended, and is no client that has finished
pub still_going : (stage : Stage) (ended over : Bool) → (ended || ends_at stage over) ≡ false → (ended ≡ false) × (is_over_stage stage ≡ false)
still_going Over true over is = absurd cc
still_going Over false over is = absurd cc
still_going Playing ended over is = (going_by ended is, refl)
  where
    going_by : (b : Bool) → (b || false) ≡ false → b ≡ false
    going_by true e = absurd cc
    going_by false e = refl
still_going (Busy routine) true over is = absurd cc
still_going (Busy routine) false over is = (refl, refl)
still_going Away true over is = absurd cc
still_going Away false over is = (refl, refl)
still_going Idle true over is = absurd cc
still_going Idle false over is = (refl, refl)

-- a turn whose due call is made
pub turned_by : (g : Given) (limits : Limits) (capacity : ℕ) (history : List Entry) (r : Role) (made : Call) (told : Outcome) → ends limits capacity history r ≡ false
    → made ≡ due_of g r.who r.place r.marked → told ≡ comes_to limits capacity history r.who made → turned g limits capacity history r ≡ played_turn g history r made told
turned_by g limits capacity history r made told going due came =
    let played : Call → Turned = λ call. played_turn g history r call (comes_to limits capacity history r.who call) in
    ap (λ b. if b then ended_turn history r else played (due_of g r.who r.place r.marked)) going ∙ ap played (sym due) ∙ ap (played_turn g history r made) (sym came)

module _ (g : Given) (old new : Recording) (r q : Role) (made : Call) (told : Outcome) where
  pub turn_keeps : IsOf g old.limits old.capacity old.history (own r.who old.history) r → ends old.limits old.capacity old.history r ≡ false → IfSome (next_call g r.who r.place) IsOfPart
      → made ≡ due_of g r.who r.place r.marked → told ≡ outcome_behind old r.who made → new ≡ recorded old r.who made told → IsLegal new.limits new.capacity new.history → q ≡ took g r made told
      → IsOf g new.limits new.capacity new.history (own q.who new.history) q
  turn_keeps of not_ending part made_is told_is new_is legal role_is =
      let entries : List Entry = entries_told r.who made told in
      let going = still_going r.place.stage r.ended (is_over_in old.limits old.capacity old.history) not_ending in
      let legal_new : IsLegal old.limits old.capacity (old.history ++ entries) = subst (λ (n : Recording). IsLegal n.limits n.capacity n.history) new_is legal in
      let facts = machine_facts old.limits old.capacity old.history (legal_front old.limits old.capacity old.history entries legal_new) in
      let came : comes_to old.limits old.capacity old.history r.who (due_of g r.who r.place r.marked) ≡ told = ap (outcome_behind old r.who) (sym made_is) ∙ sym told_is in
      let kept : IsOf g old.limits old.capacity (old.history ++ entries) (own r.who old.history ++ entries) (took g r made told) =
      subst (λ (m : Call). IsOf g old.limits old.capacity (old.history ++ entries_told r.who m told) (own r.who old.history ++ entries_told r.who m told) (took g r m told)) (sym made_is)
      (step_keeps g old.limits old.capacity old.history (own r.who old.history) r told facts refl of going.0 going.1 part came) in
      let own_is : own r.who old.history ++ entries ≡ own (took g r made told).who (old.history ++ entries) = sym (ap (λ (w : Who). own w (old.history ++ entries)) (took_who g r made told) ∙ own_told r.who old.history made told) in
      subst (λ (n : Recording). IsOf g n.limits n.capacity n.history (own q.who n.history) q) (sym new_is)
      (subst (λ (x : Role). IsOf g old.limits old.capacity (old.history ++ entries) (own x.who (old.history ++ entries)) x) (sym role_is)
      (subst (λ (es : List Entry). IsOf g old.limits old.capacity (old.history ++ entries) es (took g r made told)) own_is kept))

  -- what its call comes to is all that the turn has to hear of
  pub has_turned : (turn : Turn) → IsOf g old.limits old.capacity old.history (own r.who old.history) r → ends old.limits old.capacity old.history r ≡ false → IfSome (next_call g r.who r.place) IsOfPart
      → made ≡ due_of g r.who r.place r.marked → told ≡ outcome_behind old r.who made → new ≡ recorded old r.who made told → IsLegal new.limits new.capacity new.history → q ≡ took g r made told → turn ≡ turn_by told
      → HasTurned g old new r q turn
  has_turned turn of not_ending part made_is told_is new_is legal role_is turn_is =
      let is : turned g old.limits old.capacity old.history r ≡ played_turn g old.history r made told = turned_by g old.limits old.capacity old.history r made told not_ending made_is told_is in
      record {
        role_is = role_is ∙ sym (ap (λ (t : Turned). t.role) is);
        book_is = new_is ∙ sym (ap (λ (t : Turned). record old { history = t.history }) is);
        turn_is = turn_is ∙ sym (ap (λ (t : Turned). t.turn) is);
        of = turn_keeps of not_ending part made_is told_is new_is legal role_is;
        legal = λ played. legal;
      }
