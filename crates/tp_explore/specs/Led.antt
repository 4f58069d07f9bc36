-- The world that an entry leads to, where the callbacks that are over aren't kept.
use Rattle.std.specs.Prelude.{◌≡◌, ℕ, ◌+◌, length, if◌then◌else◌, Option, None, Some}
use Rattle.tp_base.specs.declared.answers.Entry.{Entry}
use Rattle.tp_base.specs.declared.plans.Change.{Change}
use Rattle.tp_model.specs.Changes.{changed}
use Rattle.tp_model.specs.History.{change_of, is_refusal, wait_end}
use Rattle.tp_model.specs.Laws.Entries.{is_end_call}
use Rattle.tp_model.specs.Support.Allowed.{news}
use Rattle.tp_model.specs.Support.Remembered.{forget}
use Rattle.tp_model.specs.Support.Sound.{IsSound}
use Rattle.tp_model.specs.Table.{plan_at}
use Rattle.tp_model.specs.World.{World}

-- the change that an entry tells. The answer of End says what it did, and another call needs no room
abbrev pub accepted_change : World → ℕ → Entry → Option Change
accepted_change w next_number e = if is_end_call e.call then wait_end e.who e.answer else change_of (plan_at w next_number 0 e.who e.call)

abbrev pub change_by : World → ℕ → Entry → Option Change
change_by w next_number e = if is_refusal e.answer then None else accepted_change w next_number e

-- the world behind a change, if there is one, and how many callbacks were made
abbrev pub kept_by : World → Option Change → World
kept_by w None = w
kept_by w (Some change) = forget (changed w change)

abbrev pub made_by : ℕ → Option Change → ℕ
made_by made None = made
made_by made (Some change) = made + news change

-- what is kept of a world
pub record IsKept (w : World) (kept : World) (made : ℕ) : Type 0 where
  pub kept_is : kept ≡ forget w
  pub made_is : made ≡ length w.callbacks
  pub sound : IsSound (made + 1) w
