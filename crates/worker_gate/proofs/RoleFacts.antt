-- What a new role is, and which roles tell that a history has cut a part.
use Rattle.std.proofs.Common.{◌≡◌, ℕ, true, false, List, [], refl, sym, ap, subst, ◌∙◌}
use Rattle.std.specs.Prelude.{◌↔◌}
use Rattle.std.specs.List.{All, Any}
use Rattle.tp_base.specs.declared.answers.Entry.{Entry}
use Rattle.tp_base.specs.declared.ids.Who.{Who}
use Rattle.tp_base.specs.declared.ids.Who.TheVariants.{Client, Worker}
use Rattle.tp_base.specs.declared.limits.Limits.{Limits}
use Rattle.tp_model.specs.Stages.{first_stage, IsActor}
use Rattle.turn_lock.specs.Histories.{own}
use Rattle.part_places.specs.declared.place.Place.{Place}
use Rattle.worker_gate.specs.declared.role.Role.{Role}
use Rattle.part_places.specs.Places.{Given, opening, place_from}
use Rattle.worker_gate.specs.Roles.{is_stage_of, new_role, IsOf}
use Rattle.worker_gate.specs.Runs.{IsCutShort}

-- ---- new roles

first_of : (who : Who) → is_stage_of who (first_stage who) ≡ true
first_of (Client number) = refl
first_of (Worker number) = refl

module _ (g : Given) (limits : Limits) (capacity : ℕ) (history : List Entry) (who : Who) (actor : IsActor limits who) where
  -- a new role is of any routines, and stands for no entries
  pub new_is : IsOf g limits capacity history [] (new_role who)
  new_is = record {
    actor = actor;
    leads = tt;
    place_is = refl;
    calm = λ rests. refl;
    sorted = first_of who;
    cut = λ within marked. let b : false ≡ true = marked in absurd cc;
    rests = λ ended. let b : false ≡ true = ended in absurd cc;
  }

  -- so it is a role of its actor where that has made no entry
  pub new_stands : own who history ≡ [] → IsOf g limits capacity history (own who history) (new_role who)
  new_stands none = subst (λ (es : List Entry). IsOf g limits capacity history es (new_role who)) (sym none) new_is

-- ---- cuts

module _ (g : Given) (limits : Limits) (capacity : ℕ) (history : List Entry) where
  abbrev Stands : Role → Type 0
  Stands r = IsOf g limits capacity history (own r.who history) r

  -- whether a role's part was cut is told by the entries of its actor
  pub cut_is : (r : Role) → Stands r → r.place.cut ≡ (place_from g r.who (opening r.who) (own r.who history)).cut
  cut_is r of = ap (λ (p : Place). p.cut) of.place_is

  pub cut_short_by : (r : Role) → Stands r → r.place.cut ≡ true → IsCutShort g limits history
  cut_short_by r of cut = (r.who, of.actor, sym (cut_is r of) ∙ cut)

  some_cut : (roles : List Role) → All Stands roles → Any (λ (r : Role). r.place.cut ≡ true) roles → IsCutShort g limits history
  some_cut roles all (k, r, low, at, cut) = cut_short_by r (subst Stands at (all k r low)) cut

  cut_some : (who : Who) (roles : List Role) → All Stands roles → Any (λ (r : Role). r.who ≡ who) roles → (place_from g who (opening who) (own who history)).cut ≡ true → Any (λ (r : Role). r.place.cut ≡ true) roles
  cut_some who roles all (k, r, low, at, is) cut = (k, r, low, at, cut_is r (subst Stands at (all k r low)) ∙ (ap (λ (w : Who). (place_from g w (opening w) (own w history)).cut) is ∙ cut))

  -- where each actor has a role, those tell whether the history has cut a part
  pub cut_by_roles : (roles : List Role) → All Stands roles → ((who : Who) → IsActor limits who → Any (λ (r : Role). r.who ≡ who) roles) → Any (λ (r : Role). r.place.cut ≡ true) roles ↔ IsCutShort g limits history
  cut_by_roles roles all covers = (some_cut roles all, λ short. cut_some short.0 roles all (covers short.0 short.1) short.2)
