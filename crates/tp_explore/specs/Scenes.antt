-- Scenes, the turns that actors have in them, and orders: the histories that come of such turns while room is never short.
use Rattle.std.specs.Prelude.{◌≡◌, ℕ, Bool, ◌||◌, true, List, [], ◌∷◌, Contains, if◌then◌else◌, Option}
use Rattle.std.specs.Option.{unwrap_or}
use Rattle.tp_base.specs.Actors.{is_same_actor}
use Rattle.tp_base.specs.declared.answers.Entry.{Entry}
use Rattle.tp_base.specs.declared.answers.Outcome.{Outcome}
use Rattle.tp_base.specs.declared.answers.Outcome.TheVariants.{Done}
use Rattle.tp_base.specs.declared.calls.Call.{Call}
use Rattle.tp_base.specs.declared.calls.Call.TheVariants.{Attach, Detach, Finish, Return, Take}
use Rattle.tp_base.specs.declared.ids.Who.{Who}
use Rattle.tp_base.specs.declared.ids.Who.TheVariants.{Client}
use Rattle.tp_base.specs.declared.limits.Limits.{Limits}
use Rattle.tp_base.specs.declared.plans.Stage.{Stage}
use Rattle.tp_base.specs.declared.plans.Stage.TheVariants as stage
use Rattle.tp_model.specs.History.{led_to}
use Rattle.tp_model.specs.Stages.{is_over_stage, IsActor}
use Rattle.tp_model.specs.Step.{outcome_of}
use Rattle.tp_model.specs.Table.{unpriced}
use Rattle.tp_model.specs.World.{World, opening as opening_world}
use Rattle.part_places.specs.declared.place.Place.{Place}
use Rattle.part_places.specs.Places.{Given, next_call, opening, place_after}

-- so much room is as good as any more: End alone reads the room, and only whether it is below 2 or 4
abbrev pub ample : ℕ
ample = 4

-- what a call comes to where room is not short, whatever it costs
abbrev pub freely : World → Who → Call → Outcome
freely w who made = outcome_of (unpriced w ample who made)

-- a world, and where each actor is in its work
pub record Scene : Type 0 where
  pub world : World
  pub places : Who → Place

-- before the first call
abbrev pub first_scene : Limits → Scene
first_scene limits = record { world = opening_world limits; places = opening }

-- behind an entry
abbrev pub with_place : (Who → Place) → Who → Place → Who → Place
with_place places who p other = if is_same_actor who other then p else places other

abbrev pub scene_after : Given → Scene → Entry → Scene
scene_after g s e = record {
  world = led_to s.world e;
  places = with_place s.places e.who (place_after g e.who (s.places e.who) e.call e.answer);
}

-- ---- turns

-- the calls that an actor at a stage may make, where its part goes on with this one
abbrev pub turns_in : Stage → Option Call → List Call
turns_in stage.Playing next = unwrap_or next Finish ∷ []
turns_in (stage.Busy routine) next = unwrap_or next Return ∷ []
turns_in stage.Away next = Attach ∷ []
turns_in stage.Idle next = Take ∷ Detach ∷ []
turns_in stage.Over next = []

abbrev pub turns_at : Given → Who → Place → List Call
turns_at g who p = turns_in p.stage (next_call g who p)

-- client 1 makes its calls before all others
abbrev pub has_turn : Scene → Who → Bool
has_turn s who = is_same_actor who (Client 1) || is_over_stage ((s.places (Client 1)).stage)

-- the entry is a turn of its actor, with the answer that its call freely has
pub record IsTurn (g : Given) (limits : Limits) (s : Scene) (e : Entry) : Type 0 where
  pub actor : IsActor limits e.who
  pub turn : has_turn s e.who ≡ true
  pub due : Contains (turns_at g e.who (s.places e.who)) e.call
  pub answers : freely s.world e.who e.call ≡ Done e.answer

-- ---- orders

abbrev pub IsOrderFrom : Given → Limits → Scene → List Entry → Type 0
IsOrderFrom g limits s [] = Unit {0}
IsOrderFrom g limits s (e ∷ rest) = IsTurn g limits s e × IsOrderFrom g limits (scene_after g s e) rest

-- each entry is a turn behind those before it. So no part is cut, and the last parts need not be whole
abbrev pub IsOrder : Given → Limits → List Entry → Type 0
IsOrder g limits history = IsOrderFrom g limits (first_scene limits) history

abbrev pub scene_from : Given → Scene → List Entry → Scene
scene_from g s [] = s
scene_from g s (e ∷ rest) = scene_from g (scene_after g s e) rest

abbrev pub scene_behind : Given → Limits → List Entry → Scene
scene_behind g limits history = scene_from g (first_scene limits) history
