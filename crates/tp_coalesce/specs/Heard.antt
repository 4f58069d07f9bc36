-- What a listener is told of a sleep, and how far a sleep has come.
use Rattle.std.specs.Prelude.{◌≡◌, ℕ, ◌+◌, List, [], ◌∷◌, length}
use Rattle.tp_base.specs.declared.answers.Outcome.{Outcome}
use Rattle.tp_base.specs.declared.ids.Who.{Who}
use Rattle.recorded.specs.Recordings.{Recording}
use Rattle.tp_coalesce.specs.Sleeps.{sleep_from, Sleep}
use Rattle.tp_coalesce.specs.declared.sleeping.Slept.{Slept}

-- outcomes are told one after another
abbrev pub heard : {X : Type 0} → (X → Outcome → X) → X → List Outcome → X
heard hears x [] = x
heard hears x (told ∷ outcomes) = heard hears (hears x told) outcomes

-- the machine is where the sleep leads to, the listener was told its outcomes, and this is how it ends
pub record IsSlept {X : Type 0} (hears : X → Outcome → X) (s : Sleep) (before : X) (after : Recording) (now : X) (slept : Slept) : Type 0 where
  pub machine : after ≡ s.after
  pub listener : now ≡ heard hears before s.outcomes
  pub ends : slept ≡ s.slept

-- what is left of a sleep comes to the rest of it, and it has made so many entries
pub record IsSleeping {X : Type 0} (hears : X → Outcome → X) (whole : Sleep) (before : X) (r : Recording) (now : X) (who : Who) (target more wakes start : ℕ) : Type 0 where
  pub machine : (sleep_from more r who target wakes).after ≡ whole.after
  pub listener : heard hears now (sleep_from more r who target wakes).outcomes ≡ heard hears before whole.outcomes
  pub ends : (sleep_from more r who target wakes).slept ≡ whole.slept
  pub entries : length r.history ≡ start + wakes
