-- A history as its actors see it.
use Rattle.std.specs.Prelude.{◌≡◌, ℕ, ◌-◌, List, ◌++◌, if◌then◌else◌, nat_le}
use Rattle.std.specs.List.{filter}
use Rattle.tp_base.specs.declared.answers.Entry.{Entry}
use Rattle.tp_base.specs.declared.ids.Who.{Who}
use Rattle.tp_base.specs.declared.ids.Who.TheVariants.{Client, Worker}
use Rattle.tp_base.specs.declared.limits.Limits.{Limits}
use Rattle.tp_base.specs.Actors.{is_same_actor}

-- the actor of a number: the clients come first, then the workers
abbrev pub actor_of : Limits → ℕ → Who
actor_of limits number = if nat_le number limits.clients then Client number else Worker (number - limits.clients)

-- the entries of an actor, in their order
abbrev pub own : Who → List Entry → List Entry
own who history = filter (λ entry. is_same_actor entry.who who) history

-- the history begins with this front
pub record StartsWith (history front : List Entry) : Type 0 where
  pub rest : List Entry
  pub is : history ≡ front ++ rest
