-- What a call comes to.
use Rattle.std.specs.Prelude.{ℕ, ◌+◌, ◌-◌, Bool, true, false, nat_lt, if◌then◌else◌}
use Rattle.tp_base.specs.declared.answers.Answer.{Answer}
use Rattle.tp_base.specs.declared.answers.Answer.TheVariants as answer
use Rattle.tp_base.specs.declared.answers.Refusal.{Refusal}
use Rattle.tp_base.specs.declared.answers.Look.{Look}
use Rattle.tp_base.specs.declared.answers.Outcome.{Outcome}
use Rattle.tp_base.specs.declared.answers.Outcome.TheVariants as outcome
use Rattle.tp_base.specs.declared.plans.Plan.{Plan}
use Rattle.tp_base.specs.declared.plans.Plan.TheVariants as plan
use Rattle.tp_model.specs.World.{World}
use Rattle.tp_model.specs.Changes.{changed}
use Rattle.tp_model.specs.Counts.{owed}

pub data Step : Type 0 where
  -- an entry of the history, and the world after it
  Accepted : (answer : Answer) → (after : World) → Step
  -- an entry of the history that changes nothing
  Refused : (refusal : Refusal) → Step
  -- nothing happened, and nothing is written down
  Looked : (look : Look) → Step
  -- the history has no room for the entry and for what it would owe
  Full : (room : ℕ) → (cost : ℕ) → Step

-- what a plan comes to
abbrev pub stepped : World → Plan → Step
stepped w (plan.Refused refusal) = Refused refusal
stepped w (plan.Looked look) = Looked look
stepped w (plan.Does answer change) = Accepted answer (changed w change)

-- one entry, and what is owed more than before
abbrev pub cost : World → World → ℕ
cost before after = (1 + owed after) - owed before

abbrev pub unless_full : ℕ → ℕ → Step → Step
unless_full room cost step = if nat_lt room cost then Full room cost else step

abbrev pub within : World → ℕ → Step → Step
within w room (Accepted answer after) = unless_full room (cost w after) (Accepted answer after)
within w room (Refused refusal) = unless_full room 1 (Refused refusal)
within w room (Looked look) = Looked look
within w room (Full left price) = Full left price

abbrev pub outcome_of : Step → Outcome
outcome_of (Accepted answer after) = outcome.Done answer
outcome_of (Refused refusal) = outcome.Done (answer.Refused refusal)
outcome_of (Looked look) = outcome.Look look
outcome_of (Full room cost) = outcome.Full room cost

abbrev pub world_after : World → Step → World
world_after w (Accepted answer after) = after
world_after w (Refused refusal) = w
world_after w (Looked look) = w
world_after w (Full room cost) = w

abbrev pub is_accepted : Step → Bool
is_accepted (Accepted answer after) = true
is_accepted _ = false

-- how many entries it makes
abbrev pub entries_of : Step → ℕ
entries_of (Accepted answer after) = 1
entries_of (Refused refusal) = 1
entries_of (Looked look) = 0
entries_of (Full room cost) = 0
