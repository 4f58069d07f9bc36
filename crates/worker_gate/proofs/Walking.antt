-- Walks that go on, in histories that go on.
use Rattle.std.proofs.Common.{◌≡◌, ℕ, List, [], ◌∷◌, ◌++◌, inl, inr, refl, sym, subst, append_assoc, append-nil}
use Rattle.std.proofs.lemmas.List.Elements.{filter-append}
use Rattle.std.proofs.lemmas.List.Sums.{fold-append}
use Rattle.tp_base.specs.declared.calls.Call.{Call}
use Rattle.tp_base.specs.declared.answers.Entry.{Entry}
use Rattle.tp_base.specs.declared.ids.Who.{Who}
use Rattle.tp_base.specs.declared.limits.Limits.{Limits}
use Rattle.tp_base.specs.declared.plans.Stage.{Stage}
use Rattle.tp_base.specs.declared.plans.Stage.TheVariants.{Away, Busy, Idle, Over, Playing}
use Rattle.tp_base.specs.Actors.{is_same_actor}
use Rattle.tp_model.specs.Stages.{stage_from, waits_from}
use Rattle.turn_lock.specs.Histories.{own, StartsWith}
use Rattle.turn_lock.proofs.Beginnings.{starts_through}
use Rattle.part_places.specs.declared.place.Place.{Place}
use Rattle.part_places.specs.Places.{Given, place_after, place_from}
use Rattle.worker_gate.specs.Walks.{Closes, CutAt, FollowsAt, IsCut, Leads}

pub own_append : (who : Who) (history more : List Entry) → own who (history ++ more) ≡ own who history ++ own who more
own_append who history more = filter-append (λ (e : Entry). is_same_actor e.who who) history more

module _ (g : Given) (limits : Limits) (capacity : ℕ) (history later : List Entry) (more : StartsWith later history) (who : Who) where
  cut_grows : (entries : List Entry) (made : Call) → CutAt limits capacity history who entries made → CutAt limits capacity later who entries made
  cut_grows entries made cut = record { front = cut.front; starts = starts_through later history cut.front more cut.starts; own_is = cut.own_is; full = cut.full }

  pub is_cut_grows : (entries : List Entry) (p : Place) → IsCut g limits capacity history who entries p → IsCut g limits capacity later who entries p
  is_cut_grows entries p cut = (cut.0, cut.1, cut_grows entries cut.0 cut.2)

  closes_grow : (entries : List Entry) (p : Place) → Closes g limits capacity history who entries p → Closes g limits capacity later who entries p
  closes_grow entries p (inl whole) = inl whole
  closes_grow entries p (inr cut) = inr (is_cut_grows entries p cut)

  pub follows_grow : (entries : List Entry) (p : Place) (at : Stage) (e : Entry) → FollowsAt g limits capacity history who entries p at e → FollowsAt g limits capacity later who entries p at e
  follows_grow entries p Playing e (inl last) = inl (last.0, last.1, closes_grow entries p last.2)
  follows_grow entries p Playing e (inr next) = inr next
  follows_grow entries p (Busy routine) e (inl last) = inl (last.0, last.1, closes_grow entries p last.2)
  follows_grow entries p (Busy routine) e (inr next) = inr next
  follows_grow entries p Over e none = none
  follows_grow entries p Away e joins = joins
  follows_grow entries p Idle e takes = takes

  -- what has led somewhere still does where the history has gone on
  pub leads_grow : (before : List Entry) (p : Place) (entries : List Entry) → Leads g limits capacity history who before p entries → Leads g limits capacity later who before p entries
  leads_grow before p [] leads = tt
  leads_grow before p (e ∷ rest) leads = (follows_grow before p p.stage e leads.0, leads_grow (before ++ e ∷ []) (place_after g who p e.call e.answer) rest leads.1)

module _ (g : Given) (limits : Limits) (capacity : ℕ) (history : List Entry) (who : Who) where
  -- one entry more
  pub leads_snoc : (before : List Entry) (p : Place) (entries : List Entry) (e : Entry) → Leads g limits capacity history who before p entries
      → FollowsAt g limits capacity history who (before ++ entries) (place_from g who p entries) (place_from g who p entries).stage e → Leads g limits capacity history who before p (entries ++ e ∷ [])
  leads_snoc before p [] e leads follows = (subst (λ (x : List Entry). FollowsAt g limits capacity history who x p p.stage e) (append-nil before) follows, tt)
  leads_snoc before p (x ∷ rest) e leads follows =
      let next : Place = place_after g who p x.call x.answer in
      (leads.0, leads_snoc (before ++ x ∷ []) next rest e leads.1 (subst (λ (y : List Entry). FollowsAt g limits capacity history who y (place_from g who next rest) (place_from g who next rest).stage e) (sym (append_assoc before (x ∷ []) rest)) follows))

pub from_snoc : (g : Given) (who : Who) (p : Place) (entries : List Entry) (e : Entry) → place_from g who p (entries ++ e ∷ []) ≡ place_after g who (place_from g who p entries) e.call e.answer
from_snoc g who p entries e = fold-append (λ (at : Place) (entry : Entry). place_after g who at entry.call entry.answer) p entries (e ∷ [])

-- where an actor stands doesn't depend on the routines
pub stage_is : (g : Given) (who : Who) (p : Place) (entries : List Entry) → (place_from g who p entries).stage ≡ stage_from p.stage entries
stage_is g who p [] = refl
stage_is g who p (e ∷ rest) = stage_is g who (place_after g who p e.call e.answer) rest

pub waits_is : (g : Given) (who : Who) (p : Place) (entries : List Entry) → (place_from g who p entries).waits ≡ waits_from p.waits entries
waits_is g who p [] = refl
waits_is g who p (e ∷ rest) = waits_is g who (place_after g who p e.call e.answer) rest
