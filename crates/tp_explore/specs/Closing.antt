-- Boards of which the names are forgotten: callbacks are named by their places, and a part that goes on names no other one.
use Rattle.std.specs.Prelude.{◌≡◌, ℕ, ◌+◌, List, [], ◌∷◌, length, map, Option, None, Some, option_map}
use Rattle.breadth_first.specs.declared.Next.{Next}
use Rattle.breadth_first.specs.declared.Next.TheVariants.{Nowhere, Bad, To}
use Rattle.breadth_first.specs.Rules.{Rules}
use Rattle.tp_base.specs.declared.answers.Answer.{Answer}
use Rattle.tp_base.specs.declared.answers.Answer.TheVariants.{Operation}
use Rattle.tp_base.specs.declared.ids.Who.{Who}
use Rattle.tp_base.specs.declared.limits.Limits.{Limits}
use Rattle.tp_model.specs.Support.Remembered.{forget}
use Rattle.tp_model.specs.World.{World}
use Rattle.tp_script.specs.declared.routines.Part.{Part}
use Rattle.tp_script.specs.declared.routines.Progress.{Progress}
use Rattle.tp_script.specs.Nexts.{first_progress}
use Rattle.part_places.specs.declared.place.Place.{Place}
use Rattle.part_places.specs.Places.{part_in}
use Rattle.renamed_worlds.specs.Closed.{closed, place_of}
use Rattle.renamed_worlds.specs.Renamed.{renamed_answer, renamed_call}
use Rattle.tp_explore.specs.Boards.{actor_of, after_board, first_board, width_of, Board}
use Rattle.tp_explore.specs.Watched.{Watched}

-- ---- what an actor's place names

-- other numbers for the operations that a part knows
abbrev pub named_progress : (ℕ → ℕ) → Progress → Progress
named_progress name at = record at { operations = map name at.operations }

-- who makes no calls of a part knows nothing
abbrev pub named_in : Option Part → (ℕ → ℕ) → Progress → Progress
named_in None name at = first_progress
named_in (Some part) name at = named_progress name at

abbrev pub named_place : (ℕ → ℕ) → Who → Place → Place
named_place name who p = record p { at = named_in (part_in p.stage who) name p.at }

-- the places of the actors in a row, of which so many stand in front
abbrev pub named_row : Limits → (ℕ → ℕ) → ℕ → List Place → List Place
named_row limits name front [] = []
named_row limits name front (p ∷ places) = named_place name (actor_of limits (front + 1)) p ∷ named_row limits name (front + 1) places

-- ---- boards

-- the place of the callback of a number, and 0 where it is over
abbrev pub closed_name : World → ℕ → ℕ
closed_name w = place_of (forget w).callbacks

-- the next callback gets the number behind those that are left
abbrev pub closed_board : Limits → Board → Board
closed_board limits b = record {
  world = closed b.world;
  made = length (forget b.world).callbacks;
  places = named_row limits (closed_name b.world) 0 b.places;
  noted = b.noted;
}

abbrev pub closed_came : Limits → Next Board → Next Board
closed_came limits Nowhere = Nowhere
closed_came limits Bad = Bad
closed_came limits (To b) = To (closed_board limits b)

-- a move is that of a board, which is closed then
abbrev pub after_closed : Watched → Limits → Board → ℕ → Next Board
after_closed k limits b by = closed_came limits (after_board k limits b by)

-- what a search of closed boards goes by, whatever its key is
abbrev pub rules_of_closed : Watched → Limits → (Board → List ℕ) → Rules Board
rules_of_closed k limits key = record { first = closed_board limits (first_board limits); width = width_of limits; after = after_closed k limits; key = key }

-- ---- scripts that read numbers as names

-- the names agree on an operation that is told
abbrev pub AgreeOn : (ℕ → ℕ) → (ℕ → ℕ) → Answer → Type 0
AgreeOn name other (Operation callback) = other callback ≡ name callback
AgreeOn name other _ = Unit {0}

-- a number that a part got for an operation is passed on as it is, and read nowhere else
pub record IsBlind (k : Watched) : Type 0 where
  pub next : (name : ℕ → ℕ) → name 0 ≡ 0 → (part : Part) (at : Progress) → k.given.next part (named_progress name at) ≡ option_map (renamed_call name) (k.given.next part at)
  pub after : (name other : ℕ → ℕ) → name 0 ≡ 0 → (part : Part) (at : Progress) (told : Answer) → AgreeOn name other told
      → k.given.after part (named_progress name at) (renamed_answer other told) ≡ named_progress name (k.given.after part at told)
  pub marks : (name : ℕ → ℕ) → name 0 ≡ 0 → (part : Part) (at : Progress) → k.marks part (named_progress name at) ≡ k.marks part at
