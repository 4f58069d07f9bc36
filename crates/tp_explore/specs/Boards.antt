-- Boards: what is kept of a scene and of what was noted before it, and the moves from one to the next.
use Rattle.std.specs.Prelude.{ℕ, ◌+◌, ◌-◌, ◌*◌, ◌/◌, ◌%◌, nat_le, List, [], ◌∷◌, ◌++◌, map, slice_get, slice_set, if◌then◌else◌, Option, None, Some}
use Rattle.std.specs.List.{range_with_len}
use Rattle.std.specs.Option.{unwrap_or}
use Rattle.breadth_first.specs.declared.Next.{Next}
use Rattle.breadth_first.specs.declared.Next.TheVariants.{Nowhere, Bad, To}
use Rattle.breadth_first.specs.Rules.{Rules}
use Rattle.tp_base.specs.declared.answers.Answer.TheVariants as answer
use Rattle.tp_base.specs.declared.answers.Entry.{Entry}
use Rattle.tp_base.specs.declared.calls.Call.{Call}
use Rattle.tp_base.specs.declared.ids.Who.{Who}
use Rattle.tp_base.specs.declared.ids.Who.TheVariants.{Client, Worker}
use Rattle.tp_base.specs.declared.limits.Limits.{Limits}
use Rattle.tp_base.specs.declared.plans.Plan.{Plan}
use Rattle.tp_base.specs.declared.plans.Plan.TheVariants.{Does, Looked, Refused}
use Rattle.tp_model.specs.Changes.{changed}
use Rattle.tp_model.specs.Support.Allowed.{news}
use Rattle.tp_model.specs.Support.Remembered.{forget}
use Rattle.tp_model.specs.Table.{plan_at}
use Rattle.tp_model.specs.World.{World, opening as opening_world}
use Rattle.part_places.specs.declared.place.Place.{Place}
use Rattle.part_places.specs.Places.{Given, opening, place_after}
use Rattle.tp_explore.specs.declared.fault.Fault.{Fault}
use Rattle.tp_explore.specs.Faults.{faults_between, noted_between}
use Rattle.tp_explore.specs.Noted.{Noted, nothing_noted}
use Rattle.tp_explore.specs.Scenes.{Scene, ample, has_turn, turns_at}
use Rattle.tp_explore.specs.Watched.{Watched}

pub record Board : Type 0 where
  -- without the callbacks that are over
  pub world : World
  -- how many callbacks were ever made
  pub made : ℕ
  -- where each actor is: the clients, then the workers
  pub places : List Place
  pub noted : Noted

-- ---- actors in a row

abbrev pub actors : Limits → List Who
actors limits = map Client (range_with_len 1 limits.clients) ++ map Worker (range_with_len 1 limits.workers)

-- the actor of a number from 1, and its place in the row from 0
abbrev pub actor_of : Limits → ℕ → Who
actor_of limits number = if nat_le number limits.clients then Client number else Worker (number - limits.clients)

abbrev pub place_in_row : Limits → Who → ℕ
place_in_row limits (Client number) = number - 1
place_in_row limits (Worker number) = limits.clients + (number - 1)

abbrev pub place_at : Limits → List Place → Who → Place
place_at limits places who = unwrap_or (slice_get places (place_in_row limits who)) (opening who)

abbrev pub scene_of : Limits → Board → Scene
scene_of limits b = record { world = b.world; places = place_at limits b.places }

abbrev pub first_board : Limits → Board
first_board limits = record { world = opening_world limits; made = 0; places = map opening (actors limits); noted = nothing_noted }

-- ---- moves: two for each actor, for the first of its turns and for the second

abbrev pub width_of : Limits → ℕ
width_of limits = (limits.clients + limits.workers) * 2

abbrev pub mover : Limits → ℕ → Who
mover limits by = actor_of limits (by / 2 + 1)

-- the turn of an actor in a scene, by its number from 0
abbrev pub turn_in : Given → Scene → Who → ℕ → Option Call
turn_in g s who number = if has_turn s who then slice_get (turns_at g who (s.places who)) number else None

-- the call that a move makes in a scene
abbrev pub call_by : Given → Limits → Scene → ℕ → Option Call
call_by g limits s by = turn_in g s (mover limits by) (by % 2)

module _ (k : Watched) (limits : Limits) where
  abbrev pub to_board : Board → List Fault → Next Board
  to_board b [] = To b
  to_board b (fault ∷ faults) = Bad

  -- what comes of an entry that leads to this world, with so many callbacks made: the board behind it, unless it brings faults
  abbrev pub board_behind : Board → Entry → World → ℕ → Board
  board_behind b e w made =
      let places = slice_set b.places (place_in_row limits e.who) (place_after k.given e.who (place_at limits b.places e.who) e.call e.answer) in
      record {
        world = w;
        made = made;
        places = places;
        noted = noted_between k limits (scene_of limits b) (record { world = w; places = place_at limits places }) b.noted e;
      }

  abbrev pub moved : Board → Entry → World → ℕ → Next Board
  moved b e w made =
      let next = board_behind b e w made in
      to_board next (faults_between k limits (scene_of limits b) (scene_of limits next) b.noted e)

  -- what comes of a call with this plan. One that only looks is no move
  abbrev pub planned : Board → Who → Call → Plan → Next Board
  planned b who made (Looked look) = Nowhere
  planned b who made (Refused refusal) = moved b (record { who = who; call = made; answer = answer.Refused refusal }) b.world b.made
  planned b who made (Does told change) = moved b (record { who = who; call = made; answer = told }) (forget (changed b.world change)) (b.made + news change)

  abbrev pub called : Board → Who → Option Call → Next Board
  called b who None = Nowhere
  called b who (Some made) = planned b who made (plan_at b.world (b.made + 1) ample who made)

  abbrev pub after_board : Board → ℕ → Next Board
  after_board b by = called b (mover limits by) (call_by k.given limits (scene_of limits b) by)

  -- what a search of boards goes by, whatever its key is
  abbrev pub rules_of : (Board → List ℕ) → Rules Board
  rules_of key = record { first = first_board limits; width = width_of limits; after = after_board; key = key }
