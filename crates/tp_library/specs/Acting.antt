-- What is known of who makes calls.
use Rattle.std.specs.Prelude.{ℕ, ◌-◌, Bool, true, false, List, replicate, slice_set, is_some, Option, None}
use Rattle.std.specs.Option.{unwrap_or}
use Rattle.tp_base.specs.declared.ids.Who.{Who}
use Rattle.tp_base.specs.declared.ids.Who.TheVariants.{Client, Worker}
use Rattle.tp_model.specs.Counts.{numbered}

pub record Acting : Type 0 where
  -- by client, from 1 on: whether it has finished
  pub finished : List Bool
  -- by worker, from 1 on: the callback that it runs, and its object
  pub runs : List (Option (ℕ × ℕ))

-- none has finished or runs anything
abbrev pub opening_actors : ℕ → ℕ → Acting
opening_actors clients workers = record { finished = replicate clients false; runs = replicate workers None }

-- there is such an actor
abbrev pub is_there : Acting → Who → Bool
is_there a (Client number) = is_some (numbered a.finished number)
is_there a (Worker number) = is_some (numbered a.runs number)

-- it is a client that has finished
abbrev pub has_finished : Acting → Who → Bool
has_finished a (Client number) = unwrap_or (numbered a.finished number) false
has_finished a (Worker number) = false

-- the callback that it runs, and its object
abbrev pub run_of : Acting → Who → Option (ℕ × ℕ)
run_of a (Client number) = None
run_of a (Worker number) = unwrap_or (numbered a.runs number) None

-- a client has finished
abbrev pub with_finished : Acting → Who → Acting
with_finished a (Client number) = record a { finished = slice_set a.finished (number - 1) true }
with_finished a (Worker number) = a

-- a worker runs this
abbrev pub with_run : Acting → Who → Option (ℕ × ℕ) → Acting
with_run a (Client number) run = a
with_run a (Worker number) run = record a { runs = slice_set a.runs (number - 1) run }
