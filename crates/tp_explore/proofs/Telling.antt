-- What was told of a history so far, entry by entry.
use mathlib.Core.Path.{fun_ext}
use Rattle.std.proofs.Common.{◌≡◌, ℕ, ◌+◌, ◌≤◌, cond, List, [], ◌∷◌, ◌++◌, append_assoc, append-nil, drop, length, map, Some, refl, sym, ap, ap₂, ◌∙◌, subst}
use Rattle.std.specs.List.{flat_map}
use Rattle.std.proofs.lemmas.List.{map-append}
use Rattle.std.proofs.Math.ListN.{drop_of_length-le}
use Rattle.tp_base.specs.declared.answers.Entry.{Entry}
use Rattle.tp_base.specs.declared.ids.Who.{Who}
use Rattle.tp_base.specs.declared.limits.Limits.{Limits}
use Rattle.tp_base.specs.declared.plans.Change.{Change}
use Rattle.tp_model.specs.History.{IsLegal, IsLegalFrom}
use Rattle.tp_model.specs.Support.Sound.{IsSound}
use Rattle.tp_model.specs.Support.Allowed.{IsAllowed}
use Rattle.tp_model.specs.World.{World, opening}
use Rattle.tp_model.proofs.Sound.{opening_sound}
use Rattle.part_places.specs.declared.place.Place.{Place}
use Rattle.part_places.specs.Places.{place_after}
use Rattle.tp_explore.specs.Boards.{actors}
use Rattle.tp_explore.specs.declared.fault.Fault.{Fault}
use Rattle.tp_explore.specs.declared.passage.Passage.{Passage}
use Rattle.tp_explore.specs.declared.stands.Stand.{Stand}
use Rattle.tp_explore.specs.declared.told.Begun.{Begun}
use Rattle.tp_explore.specs.declared.told.Happened.{Happened}
use Rattle.tp_explore.specs.declared.told.Told.{Told}
use Rattle.tp_explore.specs.Ended.{brought, noted_by_entry}
use Rattle.tp_explore.specs.Faults.{deeds, faults_between, faults_from, faults_of, noted_between, shown}
use Rattle.tp_explore.specs.Led.{change_by, kept_by, made_by, IsKept}
use Rattle.tp_explore.specs.Noted.{Noted, nothing_noted}
use Rattle.tp_explore.specs.Scenes.{first_scene, scene_after, with_place, Scene}
use Rattle.tp_explore.specs.Stands.{passage_of, place_of, with_stand}
use Rattle.tp_explore.specs.Story.{begun_by, happened, happened_from, happened_of, is_stall, told, told_from, told_of, waiting_from, waiting_of}
use Rattle.tp_explore.specs.Watched.{Watched}
use Rattle.tp_explore.proofs.Leading.{allowed, keeps}
use Rattle.tp_explore.proofs.Standing.{at_own, placed}

-- ---- the faults of a story are those of its history

module _ (k : Watched) (limits : Limits) where
  same_faults : (number : ℕ) (who : Who) (faults : List Fault) → map (λ (t : Told). t.fault) (map (told number who) faults) ≡ faults
  same_faults number who [] = refl
  same_faults number who (fault ∷ faults) = ap (λ fs. fault ∷ fs) (same_faults number who faults)

  all_from : (s : Scene) (noted : Noted) (number : ℕ) (history : List Entry) → map (λ (t : Told). t.fault) (told_from k limits s noted number history) ≡ faults_from k limits s noted history
  all_from s noted number [] = refl
  all_from s noted number (e ∷ rest) =
      let t : Scene = scene_after k.given s e in
      let here : List Fault = faults_between k limits (shown s) (shown t) noted e in
      let more : Noted = noted_between k limits (shown s) (shown t) noted e in
      map-append (λ (t : Told). t.fault) (map (told number e.who) here) (told_from k limits t more (number + 1) rest)
      ∙ ap₂ (λ (xs ys : List Fault). xs ++ ys) (same_faults number e.who here) (all_from t more (number + 1) rest)

pub tells_all : (k : Watched) (limits : Limits) (history : List Entry) → map (λ (t : Told). t.fault) (told_of k limits history) ≡ faults_of k limits history
tells_all k limits history = all_from k limits (first_scene limits) nothing_noted 1 history

-- ---- what a walk along a history keeps, and what it has told

pub record Walk : Type 0 where
  pub number : ℕ
  pub kept : World
  pub made : ℕ
  pub stands : List Stand
  pub noted : Noted
  pub told_so : List Told
  pub happened_so : List Happened
  pub waiting_so : List Begun

module _ (k : Watched) (limits : Limits) where
  -- what an entry makes of it
  pub record IsNext (e : Entry) (p : Passage) (t u : Walk) : Type 0 where
    pub number_is : u.number ≡ t.number + 1
    pub passage_is : p ≡ passage_of k.given (place_of t.stands) e
    pub stands_are : u.stands ≡ with_stand e.who (passage_of k.given (place_of t.stands) e).after t.stands
    pub kept_is : u.kept ≡ kept_by t.kept (change_by t.kept (t.made + 1) e)
    pub made_is : u.made ≡ made_by t.made (change_by t.kept (t.made + 1) e)
    pub noted_is : u.noted ≡ noted_by_entry k limits p t.noted
    pub told_is : u.told_so ≡ t.told_so ++ map (told u.number e.who) (brought k limits u.kept p t.noted)
    pub happened_is : u.happened_so ≡ t.happened_so ++ map (happened u.number) (deeds k limits p.before p.after p.entry)
    pub waiting_is : u.waiting_so ≡ t.waiting_so ++ cond (is_stall e.answer) (flat_map (begun_by k (record { world = t.kept; places = place_of t.stands })) (actors limits)) []

  module _ (history : List Entry) where
    -- so many of the entries were gone through, and the rest tells what is missing
    pub record IsTold (i : ℕ) (t : Walk) : Type 0 where
      pub capacity : ℕ
      pub scene : Scene
      pub number_is : t.number ≡ i
      pub world : IsKept scene.world t.kept t.made
      pub places : (who : Who) → place_of t.stands who ≡ scene.places who
      pub legal : IsLegalFrom scene.world capacity i (drop i history)
      pub told_is : t.told_so ++ told_from k limits scene t.noted (i + 1) (drop i history) ≡ told_of k limits history
      pub happened_is : t.happened_so ++ happened_from k limits scene (i + 1) (drop i history) ≡ happened_of k limits history
      pub waiting_is : t.waiting_so ++ waiting_from k limits scene (drop i history) ≡ waiting_of k limits history

    module _ (i : ℕ) (t : Walk) (so_far : IsTold i t) (e : Entry) (rest : List Entry) (more : drop i history ≡ e ∷ rest) where
      abbrev s : Scene
      s = so_far.scene

      abbrev after : Scene
      after = scene_after k.given s e

      legal_on : IsLegalFrom s.world so_far.capacity i (e ∷ rest)
      legal_on = subst (IsLegalFrom s.world so_far.capacity i) more so_far.legal

      places_are : place_of t.stands ≡ s.places
      places_are = fun_ext so_far.places

      -- the change that the entry tells may be made
      pub may_lead : (change : Change) → change_by t.kept (t.made + 1) e ≡ Some change → IsAllowed (t.made + 1) t.kept change
      may_lead = allowed s.world t.kept t.made _ e so_far.world legal_on.0

      -- the passage, in the scene
      abbrev passing : Passage
      passing = record { entry = e; before = s.places e.who; after = after.places e.who }

      module _ (p : Passage) (u : Walk) (next : IsNext e p t u) where
        passage_is : p ≡ passing
        passage_is =
            next.passage_is
            ∙ ap (λ places. passage_of k.given places e) places_are
            ∙ ap (λ place. record { entry = e; before = s.places e.who; after = place }) (sym (at_own s.places e.who (place_after k.given e.who (s.places e.who) e.call e.answer)))

        after_is : (passage_of k.given (place_of t.stands) e).after ≡ place_after k.given e.who (s.places e.who) e.call e.answer
        after_is = ap (λ (places : Who → Place). place_after k.given e.who (places e.who) e.call e.answer) places_are

        world_after : IsKept after.world u.kept u.made
        world_after = subst (λ (x : World × ℕ). IsKept after.world x.0 x.1) (ap₂ (λ (a : World) (b : ℕ). (a, b)) (sym next.kept_is) (sym next.made_is)) (keeps s.world t.kept t.made _ e so_far.world legal_on.0)

        places_after : (who : Who) → place_of u.stands who ≡ after.places who
        places_after who =
            ap (λ stands. place_of stands who) next.stands_are
            ∙ placed e.who who (passage_of k.given (place_of t.stands) e).after t.stands
            ∙ ap₂ (λ places place. with_place places e.who place who) places_are after_is

        noted_after : u.noted ≡ noted_between k limits (shown s) (shown after) t.noted e
        noted_after = next.noted_is ∙ ap (λ q. noted_by_entry k limits q t.noted) passage_is

        number_after : u.number ≡ i + 1
        number_after = next.number_is ∙ ap (λ n. n + 1) so_far.number_is

        told_after : u.told_so ≡ t.told_so ++ map (told (i + 1) e.who) (faults_between k limits (shown s) (shown after) t.noted e)
        told_after =
            next.told_is
            ∙ ap (λ n. t.told_so ++ map (told n e.who) (brought k limits u.kept p t.noted)) number_after
            ∙ ap₂ (λ w q. t.told_so ++ map (told (i + 1) e.who) (brought k limits w q t.noted)) world_after.kept_is passage_is

        happened_after : u.happened_so ≡ t.happened_so ++ map (happened (i + 1)) (deeds k limits (s.places e.who) (after.places e.who) e)
        happened_after =
            next.happened_is
            ∙ ap₂ (λ n (q : Passage). t.happened_so ++ map (happened n) (deeds k limits q.before q.after q.entry)) number_after passage_is

        waiting_after : u.waiting_so ≡ t.waiting_so ++ cond (is_stall e.answer) (flat_map (begun_by k s) (actors limits)) []
        waiting_after =
            next.waiting_is
            ∙ ap₂ (λ w places. t.waiting_so ++ cond (is_stall e.answer) (flat_map (begun_by k (record { world = w; places = places })) (actors limits)) []) so_far.world.kept_is places_are

        pub goes_on : drop (i + 1) history ≡ rest → IsTold (i + 1) u
        goes_on left = record {
          capacity = so_far.capacity;
          scene = after;
          number_is = number_after;
          world = world_after;
          places = places_after;
          legal = subst (IsLegalFrom after.world so_far.capacity (i + 1)) (sym left) legal_on.1;
          told_is =
              ap₂ (λ noted es. u.told_so ++ told_from k limits after noted (i + 1 + 1) es) noted_after left
              ∙ ap (λ ts. ts ++ told_from k limits after (noted_between k limits (shown s) (shown after) t.noted e) (i + 1 + 1) rest) told_after
              ∙ append_assoc t.told_so (map (told (i + 1) e.who) (faults_between k limits (shown s) (shown after) t.noted e)) _
              ∙ ap (λ es. t.told_so ++ told_from k limits s t.noted (i + 1) es) (sym more)
              ∙ so_far.told_is;
          happened_is =
              ap₂ (λ hs es. hs ++ happened_from k limits after (i + 1 + 1) es) happened_after left
              ∙ append_assoc t.happened_so (map (happened (i + 1)) (deeds k limits (s.places e.who) (after.places e.who) e)) _
              ∙ ap (λ es. t.happened_so ++ happened_from k limits s (i + 1) es) (sym more)
              ∙ so_far.happened_is;
          waiting_is =
              ap₂ (λ ws es. ws ++ waiting_from k limits after es) waiting_after left
              ∙ append_assoc t.waiting_so (cond (is_stall e.answer) (flat_map (begun_by k s) (actors limits)) []) _
              ∙ ap (λ es. t.waiting_so ++ waiting_from k limits s es) (sym more)
              ∙ so_far.waiting_is;
        }

    -- ---- its beginning and its end

    pub begins : (capacity : ℕ) (t : Walk) → t.number ≡ 0 → t.kept ≡ opening limits → t.made ≡ 0 → t.stands ≡ [] → t.noted ≡ nothing_noted → t.told_so ≡ [] → t.happened_so ≡ [] → t.waiting_so ≡ [] → IsLegal limits capacity history → IsTold 0 t
    begins capacity t number_is kept_is made_is none_stand none_noted none_told none_happened none_waiting legal = record {
      capacity = capacity;
      scene = first_scene limits;
      number_is = number_is;
      world = record { kept_is = kept_is; made_is = made_is; sound = subst (λ n. IsSound (n + 1) (opening limits)) (sym made_is) (opening_sound limits) };
      places = λ who. ap (λ stands. place_of stands who) none_stand;
      legal = legal;
      told_is = ap₂ (λ ts noted. ts ++ told_from k limits (first_scene limits) noted 1 history) none_told none_noted;
      happened_is = ap (λ hs. hs ++ happened_from k limits (first_scene limits) 1 history) none_happened;
      waiting_is = ap (λ ws. ws ++ waiting_from k limits (first_scene limits) history) none_waiting;
    }

    module _ (i : ℕ) (t : Walk) (so_far : IsTold i t) (all : length history ≤ i) where
      none_left : drop i history ≡ []
      none_left = drop_of_length-le history all

      pub told_all : t.told_so ≡ told_of k limits history
      told_all = sym (append-nil t.told_so) ∙ ap (λ es. t.told_so ++ told_from k limits so_far.scene t.noted (i + 1) es) (sym none_left) ∙ so_far.told_is

      pub happened_all : t.happened_so ≡ happened_of k limits history
      happened_all = sym (append-nil t.happened_so) ∙ ap (λ es. t.happened_so ++ happened_from k limits so_far.scene (i + 1) es) (sym none_left) ∙ so_far.happened_is

      pub waiting_all : t.waiting_so ≡ waiting_of k limits history
      waiting_all = sym (append-nil t.waiting_so) ∙ ap (λ es. t.waiting_so ++ waiting_from k limits so_far.scene es) (sym none_left) ∙ so_far.waiting_is
