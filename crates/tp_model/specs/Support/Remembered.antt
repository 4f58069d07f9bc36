-- What an engine remembers of a world: all but the callbacks that returned or were cancelled.
use Rattle.std.specs.Prelude.{◌≡◌, ℕ, ◌+◌, ◌-◌, Bool, length, if◌then◌else◌}
use Rattle.std.specs.List.{filter}
use Rattle.tp_base.specs.declared.ids.Who.{Who}
use Rattle.tp_base.specs.declared.calls.Call.{Call}
use Rattle.tp_base.specs.declared.answers.Outcome.{Outcome}
use Rattle.tp_base.specs.declared.rows.CallbackRow.{CallbackRow}
use Rattle.tp_model.specs.World.{World}
use Rattle.tp_model.specs.Counts.{is_live}
use Rattle.tp_model.specs.Step.{Step, Accepted, Refused, Looked, Full, stepped, within, outcome_of, world_after, is_accepted}
use Rattle.tp_model.specs.Table.{plan_at}
use Rattle.tp_model.specs.Support.Sound.{IsSound}

-- whether the callback may still run, or runs
abbrev pub lives : CallbackRow → Bool
lives c = is_live c.status

abbrev pub forget : World → World
forget w = record w { callbacks = filter lives w.callbacks }

-- a world without the callbacks that are over, how many were ever made, and how many steps were accepted
pub record Remembered : Type 0 where
  pub world : World
  pub made : ℕ
  pub age : ℕ

-- the step, from what is remembered alone
abbrev pub step_of : Remembered → ℕ → Who → Call → Step
step_of e room who call = within e.world room (stepped e.world (plan_at e.world (e.made + 1) room who call))

abbrev pub made_by : World → Step → ℕ
made_by w s = length (world_after w s).callbacks - length w.callbacks

-- what is remembered once an accepted step led to this world
abbrev pub remembered_in : Remembered → World → Remembered
remembered_in e after = record {
  world = forget after;
  made = e.made + (length after.callbacks - length e.world.callbacks);
  age = e.age + 1;
}

-- nothing but an accepted step changes what is remembered
abbrev pub remembered_after : Remembered → Step → Remembered
remembered_after e (Accepted answer after) = remembered_in e after
remembered_after e (Refused refusal) = e
remembered_after e (Looked look) = e
remembered_after e (Full room cost) = e

-- what is remembered is what an engine that stands for the world remembers
pub record StandsFor (e : Remembered) (w : World) : Type 0 where
  pub remembers : e.world ≡ forget w
  pub counts : e.made ≡ length w.callbacks
  pub sound : IsSound (e.made + 1) w

-- the outcome is that of the step, the engine stands for the world after it, and its age counts accepted steps
pub record Meets (old new : Remembered) (w : World) (s : Step) (told : Outcome) : Type 0 where
  pub answer : told ≡ outcome_of s
  pub stands : StandsFor new (world_after w s)
  pub ages : new.age ≡ (if is_accepted s then old.age + 1 else old.age)

-- what is remembered goes on by the step, whose outcome is told
pub record Goes (old new : Remembered) (s : Step) (told : Outcome) : Type 0 where
  pub tells : told ≡ outcome_of s
  pub keeps : new ≡ remembered_after old s
