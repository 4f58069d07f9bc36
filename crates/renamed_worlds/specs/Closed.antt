-- A world of which the names are forgotten: living callbacks are numbered from 1 in their order, and a wait covers nothing
-- any more that isn't outstanding. So worlds that differ in names alone are one.
use Rattle.std.specs.Prelude.{◌≡◌, ℕ, zero, suc, ◌+◌, List, [], ◌∷◌, length, map, if◌then◌else◌}
use Rattle.tp_base.specs.declared.answers.Answer.{Answer}
use Rattle.tp_base.specs.declared.calls.Call.{Call}
use Rattle.tp_base.specs.declared.ids.Who.{Who}
use Rattle.tp_base.specs.declared.plans.Change.{Change}
use Rattle.tp_base.specs.declared.plans.Plan.{Plan}
use Rattle.tp_base.specs.declared.plans.Plan.TheVariants.{Does}
use Rattle.tp_base.specs.declared.rows.CallbackRow.{CallbackRow}
use Rattle.tp_model.specs.World.{World, BegunWait}
use Rattle.tp_model.specs.Changes.{changed}
use Rattle.tp_model.specs.Counts.{has_number}
use Rattle.tp_model.specs.Support.Remembered.{forget}
use Rattle.tp_model.specs.Table.{plan_at}
use Rattle.tp_model.specs.Waits.{held}
use Rattle.renamed_worlds.specs.Renamed.{renamed, renamed_call, renamed_change, renamed_plan}

-- ---- what waits covered and isn't outstanding any more

abbrev pub settled_wait : World → BegunWait → BegunWait
settled_wait w b = record b { covered = held w b }

abbrev pub settled : World → World
settled w = record w { waits = map (settled_wait w) w.waits }

-- neither callbacks that are over are left, nor what is covered of them
abbrev pub tidied : World → World
tidied w = settled (forget w)

-- ---- places

-- one place further; 0 is no place
abbrev pub further : ℕ → ℕ
further zero = 0
further (suc place) = suc (suc place)

-- the place from 1 of the callback of a number, and 0 where none has it
abbrev pub place_of : List CallbackRow → ℕ → ℕ
place_of [] number = 0
place_of (c ∷ cs) number = if has_number number c then 1 else further (place_of cs number)

-- the number at a place from 0: behind the last callback numbers go on from the next one
abbrev pub number_from : List CallbackRow → ℕ → ℕ → ℕ
number_from [] next_number place = next_number + place
number_from (c ∷ cs) next_number zero = c.number
number_from (c ∷ cs) next_number (suc place) = number_from cs next_number place

-- at a place from 1; at 0 there is none
abbrev pub number_at : List CallbackRow → ℕ → ℕ → ℕ
number_at cs next_number zero = 0
number_at cs next_number (suc place) = number_from cs next_number place

-- ---- closed worlds

-- callbacks are named by their places
abbrev pub named_by_place : World → World
named_by_place w = renamed (place_of w.callbacks) w

abbrev pub closed : World → World
closed w = named_by_place (tidied w)

-- a call in a closed world
abbrev pub closed_call : World → Call → Call
closed_call w call = renamed_call (place_of (forget w).callbacks) call

-- the number that the next callback gets there
abbrev pub closed_next : World → ℕ
closed_next w = length (forget w).callbacks + 1

-- back from the places to the numbers of the world
abbrev pub number_in : World → ℕ → ℕ → ℕ
number_in w next_number place = number_at (forget w).callbacks next_number place

-- ---- worlds that are one when closed

-- what a call comes to in each of two worlds is one plan, with the numbers of that world; and the worlds behind its change are
-- one when closed
pub record ComesToOne (next_number other_number : ℕ) (w other : World) (room : ℕ) (who : Who) (call same : Call) : Type 0 where
  pub plan : Plan
  pub here : plan_at w next_number room who call ≡ renamed_plan (number_in w next_number) plan
  pub there : plan_at other other_number room who same ≡ renamed_plan (number_in other other_number) plan
  pub behind : (told : Answer) (how : Change) → plan ≡ Does told how
      → closed (changed w (renamed_change (number_in w next_number) how)) ≡ closed (changed other (renamed_change (number_in other other_number) how))
