-- Places that are kept of those who have made calls, whoever they are: a history also tells of actors that there aren't.
use Rattle.std.specs.Prelude.{Bool, not, List, [], ◌∷◌, ◌++◌}
use Rattle.std.specs.List.{filter, find}
use Rattle.std.specs.Option.{option_map_or}
use Rattle.tp_base.specs.Actors.{is_same_actor}
use Rattle.tp_base.specs.declared.answers.Entry.{Entry}
use Rattle.tp_base.specs.declared.ids.Who.{Who}
use Rattle.part_places.specs.declared.place.Place.{Place}
use Rattle.part_places.specs.Places.{Given, opening, place_after}
use Rattle.tp_explore.specs.declared.passage.Passage.{Passage}
use Rattle.tp_explore.specs.declared.stands.Stand.{Stand}

abbrev pub is_of_actor : Who → Stand → Bool
is_of_actor who s = is_same_actor s.who who

-- where an actor is. Who has made no call is where all begin
abbrev pub place_of : List Stand → Who → Place
place_of stands who = option_map_or (λ (s : Stand). s.place) (find (is_of_actor who) stands) (opening who)

-- an actor is at another place now
abbrev pub with_stand : Who → Place → List Stand → List Stand
with_stand who place stands = filter (λ (s : Stand). not (is_of_actor who s)) stands ++ (record { who = who; place = place }) ∷ []

-- where the actor of an entry was, and where it is behind it
abbrev pub passage_of : Given → (Who → Place) → Entry → Passage
passage_of g places e = record { entry = e; before = places e.who; after = place_after g e.who (places e.who) e.call e.answer }
