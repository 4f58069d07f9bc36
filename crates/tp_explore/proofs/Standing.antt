-- Places that are kept of those who have made calls, one by one.
use Rattle.std.proofs.Common.{◌≡◌, Bool, true, false, cond, not, List, [], ◌∷◌, filter, find, Option, None, Some, refl, sym, ap, ap₂, ◌∙◌}
use Rattle.std.proofs.lemmas.List.Folds.{find-append}
use Rattle.std.specs.Option.{option_map_or, option_or}
use Rattle.tp_base.specs.Actors.{is_same_actor}
use Rattle.tp_base.specs.declared.ids.Who.{Who}
use Rattle.tp_model.proofs.Lists.{find_filter}
use Rattle.tp_model.proofs.Refusals.{is_own_actor, same_actor_is}
use Rattle.part_places.specs.declared.place.Place.{Place}
use Rattle.part_places.specs.Places.{opening}
use Rattle.tp_explore.specs.declared.stands.Stand.{Stand}
use Rattle.tp_explore.specs.Scenes.{with_place}
use Rattle.tp_explore.specs.Stands.{is_of_actor, place_of, with_stand}

abbrev others : Who → List Stand → List Stand
others who stands = filter (λ (s : Stand). not (is_of_actor who s)) stands

-- who was taken out isn't found
none_of : (who : Who) (stands : List Stand) → find (is_of_actor who) (others who stands) ≡ None
none_of who [] = refl
none_of who (s ∷ ss) = of_first (is_of_actor who s) refl (none_of who ss)
  where
    of_first : (b : Bool) → is_of_actor who s ≡ b → find (is_of_actor who) (others who ss) ≡ None → find (is_of_actor who) (cond (not (is_of_actor who s)) (s ∷ others who ss) (others who ss)) ≡ None
    of_first true is rest = ap (λ b. find (is_of_actor who) (cond (not b) (s ∷ others who ss) (others who ss))) is ∙ rest
    of_first false is rest =
        ap (λ b. find (is_of_actor who) (cond (not b) (s ∷ others who ss) (others who ss))) is ∙ ap (λ b. cond b (Some s) (find (is_of_actor who) (others who ss))) is ∙ rest

or_none : (found : Option Stand) → option_or found None ≡ found
or_none None = refl
or_none (Some s) = refl

-- an actor is at its new place, and all others are where they were
pub placed : (who other : Who) (place : Place) (stands : List Stand) → place_of (with_stand who place stands) other ≡ with_place (place_of stands) who place other
placed who other place stands = known (is_same_actor who other) refl
  where
    last : Stand
    last = record { who = who; place = place }

    known : (b : Bool) → is_same_actor who other ≡ b → place_of (with_stand who place stands) other ≡ cond (is_same_actor who other) place (place_of stands other)
    known true is =
        let same : who ≡ other = same_actor_is who other is in
        ap (place_of (with_stand who place stands)) (sym same)
        ∙ ap (λ found. option_map_or (λ (s : Stand). s.place) found (opening who))
        (
        find-append (is_of_actor who) (others who stands) (last ∷ [])
        ∙ ap₂ (λ found b. option_or found (cond b (Some last) None)) (none_of who stands) (is_own_actor who)
        )
        ∙ sym (ap (λ b. cond b place (place_of stands other)) is)
    known false is =
        ap (λ found. option_map_or (λ (s : Stand). s.place) found (opening other))
        (
        find-append (is_of_actor other) (others who stands) (last ∷ [])
        ∙ ap₂ (λ found b. option_or found (cond b (Some last) None)) (find_filter (is_of_actor other) (λ s. not (is_of_actor who s)) apart stands) is
        ∙ or_none (find (is_of_actor other) stands)
        )
        ∙ sym (ap (λ b. cond b place (place_of stands other)) is)
      where
        apart : (s : Stand) → not (is_of_actor who s) ≡ false → is_of_actor other s ≡ false
        apart s out = of_known (is_of_actor who s) refl out
          where
            of_known : (b : Bool) → is_of_actor who s ≡ b → not b ≡ false → is_of_actor other s ≡ false
            of_known true here e = ap (λ w. is_same_actor w other) (same_actor_is s.who who here) ∙ is
            of_known false here e = absurd cc

pub at_own : (places : Who → Place) (who : Who) (place : Place) → with_place places who place who ≡ place
at_own places who place = ap (λ b. cond b place (places who)) (is_own_actor who)
