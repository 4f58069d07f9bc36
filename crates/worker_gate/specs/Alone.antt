-- What one thread plays: client 1 to its end, and then the others.
use Rattle.std.specs.Prelude.{◌≡◌, ℕ, ◌+◌, ◌-◌, true, List, [], ◌∷◌, map}
use Rattle.std.specs.List.{range_with_len}
use Rattle.tp_base.specs.declared.answers.Entry.{Entry}
use Rattle.tp_base.specs.declared.ids.Who.TheVariants.{Client}
use Rattle.tp_base.specs.declared.limits.Limits.{Limits}
use Rattle.turn_lock.specs.Histories.{actor_of}
use Rattle.worker_gate.specs.declared.role.Role.{Role}
use Rattle.part_places.specs.Places.{Given}
use Rattle.worker_gate.specs.Roles.{new_role}
use Rattle.worker_gate.specs.Rounds.{scene, ArePlayed, HaveEnded}

-- the roles of so many actors that have made no call, from the one of this number on: the clients come first, then the
-- workers
abbrev pub new_roles : Limits → ℕ → ℕ → List Role
new_roles limits first count = map (λ number. new_role (actor_of limits number)) (range_with_len first count)

-- those of all actors of a machine
abbrev pub all_roles : Limits → List Role
all_roles limits = new_roles limits 1 (limits.clients + limits.workers)

-- and of all but client 1
abbrev pub other_roles : Limits → List Role
other_roles limits = new_roles limits 2 (limits.clients + limits.workers - 1)

-- client 1 has turns, from the empty history on, until it has ended; then there are rounds of the other clients and of the
-- workers, in their order, until all of them have ended
pub record IsAlone (g : Given) (limits : Limits) (capacity : ℕ) (history : List Entry) : Type 0 where
  pub front : List Entry
  pub first : Role
  pub set_up : ArePlayed g limits capacity (scene [] (new_role (Client 1) ∷ [])) (scene front (first ∷ []))
  pub first_ended : first.ended ≡ true
  pub later : List Role
  pub rounds_of_others : ArePlayed g limits capacity (scene front (other_roles limits)) (scene history later)
  pub all_ended : HaveEnded later
