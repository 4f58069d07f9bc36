-- Rounds: turns of roles, one after another, on a machine of their own.
use Rattle.std.specs.Prelude.{◌≡◌, ℕ, zero, suc, Bool, true, false, List, [], ◌∷◌, ◌⊎◌, map, slice_get, Some, IfSome, All, Any}
use Rattle.std.specs.List.{fold}
use Rattle.tp_base.specs.declared.answers.Answer.{Answer}
use Rattle.tp_base.specs.declared.answers.Entry.{Entry}
use Rattle.tp_base.specs.declared.calls.Call.{Call}
use Rattle.tp_base.specs.declared.calls.Call.TheVariants.{BeginAcquire, BeginClose, BeginWait}
use Rattle.tp_base.specs.declared.ids.Who.{Who}
use Rattle.tp_base.specs.declared.ids.Who.TheVariants.{Client}
use Rattle.tp_base.specs.declared.limits.Limits.{Limits}
use Rattle.tp_base.specs.declared.plans.Stage.TheVariants as stage
use Rattle.tp_model.specs.Stages.{stage_of, IsActor}
use Rattle.tp_script.specs.declared.routines.Part.{Part}
use Rattle.tp_script.specs.declared.routines.Part.TheVariants as part
use Rattle.tp_script.specs.declared.routines.Progress.{Progress}
use Rattle.recorded.specs.Recordings.{Recording}
use Rattle.turn_lock.specs.Histories.{own}
use Rattle.worker_gate.specs.declared.role.Role.{Role}
use Rattle.part_places.specs.Places.{Given}
use Rattle.worker_gate.specs.Roles.{turned, IsOf}
use Rattle.worker_gate.specs.Runs.{is_over_in}

pub record Scene : Type 0 where
  pub history : List Entry
  pub roles : List Role

abbrev pub scene : List Entry → List Role → Scene
scene history roles = record { history = history; roles = roles }

module _ (g : Given) (limits : Limits) (capacity : ℕ) where
  -- one turn of each, in their order
  abbrev pub round_of : List Entry → List Role → Scene
  round_of history [] = record { history = history; roles = [] }
  round_of history (r ∷ roles) =
      let t = turned g limits capacity history r in
      let rest = round_of t.history roles in
      record { history = rest.history; roles = t.role ∷ rest.roles }

  -- so many rounds
  abbrev pub rounds : ℕ → Scene → Scene
  rounds zero s = s
  rounds (suc n) s = let t = rounds n s in round_of t.history t.roles

  -- some rounds lead from one to the other
  abbrev pub ArePlayed : Scene → Scene → Type 0
  ArePlayed s t = (n : ℕ) × (rounds n s ≡ t)

  -- the roles are of these routines, stand for their actors' entries, and no two are of one actor
  pub record AllOf (history : List Entry) (roles : List Role) : Type 0 where
    pub of : All (λ (r : Role). IsOf g limits capacity history (own r.who history) r) roles
    pub once : (i j : ℕ) (r q : Role) → slice_get roles i ≡ Some r → slice_get roles j ≡ Some q → r.who ≡ q.who → i ≡ j

-- a worker that had ended asks again
abbrev pub awake : Role → Role
awake r = record r { ended = false }

abbrev pub HasPlayed : Given → Limits → ℕ → List Entry → List Role → List Entry → List Role → Type 0
HasPlayed g limits capacity history roles later after =
    ArePlayed g limits capacity (scene history (map awake roles)) (scene later after)

-- each that has ended is a client that has finished, or all is over
abbrev pub EndedWell : Limits → ℕ → List Entry → List Role → Type 0
EndedWell limits capacity history roles =
    All (λ (r : Role). r.ended ≡ true → (r.place.stage ≡ stage.Over) ⊎ (is_over_in limits capacity history ≡ true)) roles

abbrev pub HaveEnded : List Role → Type 0
HaveEnded roles = All (λ (r : Role). r.ended ≡ true) roles

abbrev pub HasRole : List Role → Who → Type 0
HasRole roles who = Any (λ (r : Role). r.who ≡ who) roles

-- there is a role of each actor of the machine
abbrev pub HaveAllRoles : Limits → List Role → Type 0
HaveAllRoles limits roles = (who : Who) → IsActor limits who → HasRole roles who

-- there is one of each worker, and of each client that hasn't finished
abbrev pub HaveOpenRoles : Limits → List Entry → List Role → Type 0
HaveOpenRoles limits history roles = (who : Who) → IsActor limits who → (stage_of who history ≡ stage.Over) ⊎ HasRole roles who

-- the limits and the capacity are as they were
pub record IsSameMachine (old new : Recording) : Type 0 where
  pub limits : new.limits ≡ old.limits
  pub capacity : new.capacity ≡ old.capacity

-- ---- a part without waits

abbrev pub begins_wait : Call → Bool
begins_wait (BeginWait kind object cancel) = true
begins_wait (BeginAcquire kernel) = true
begins_wait (BeginClose group cancel context) = true
begins_wait _ = false

-- whatever the answers are, no call of the part begins a wait
abbrev pub NeverWaits : Given → Part → Progress → Type 0
NeverWaits g of at = (answers : List Answer) → IfSome (g.next of (fold (g.after of) at answers)) (λ made. begins_wait made ≡ false)

-- a client that waits for nothing, now or later
pub record PlaysAlone (g : Given) (r : Role) : Type 0 where
  pub number : ℕ
  pub client : r.who ≡ Client number
  pub calm : r.place.waits ≡ false
  pub never : NeverWaits g (part.Client number) r.place.at
