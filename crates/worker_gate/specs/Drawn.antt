-- What one thread plays where turns are drawn: client 1 to its end, and then one turn after another, each of an actor that
-- is drawn.
use Rattle.std.specs.Prelude.{◌≡◌, ℕ, zero, suc, ◌+◌, ◌*◌, ◌%◌, ◌<◌, ◌≤◌, ◌⊎◌, true, List, [], ◌∷◌, if◌then◌else◌, length, set, remove, slice_get, Option, None, Some}
use Rattle.rand_pcg.specs.Lcg.{increment_of, started, Lcg}
use Rattle.rand_pcg.specs.Pcg.{multiplier_64, pcg32}
use Rattle.tp_base.specs.declared.answers.Entry.{Entry}
use Rattle.tp_base.specs.declared.ids.Who.TheVariants.{Client}
use Rattle.tp_base.specs.declared.limits.Limits.{Limits}
use Rattle.tp_model.specs.History.{IsLegal}
use Rattle.worker_gate.specs.declared.role.Role.{Role}
use Rattle.worker_gate.specs.declared.role.Turn.{Turn}
use Rattle.worker_gate.specs.declared.role.Turn.TheVariants.{Moved, Waiting, Ended}
use Rattle.worker_gate.specs.Alone.{other_roles}
use Rattle.worker_gate.specs.Lively.{count_ended, GoesOn}
use Rattle.part_places.specs.Places.{Given}
use Rattle.worker_gate.specs.Roles.{new_role, turned}
use Rattle.worker_gate.specs.Rounds.{round_of, scene, AllOf, ArePlayed, EndedWell, HaveEnded, Scene}

-- ---- draws

-- the generator of a seed: PCG's of 32 bits, with the stream 0
abbrev pub seeded : ℕ → Lcg
seeded seed = started 64 multiplier_64 seed (increment_of 64 0)

-- an index below a count: what the next word leaves on division by it
abbrev pub index_drawn : Lcg → ℕ → ℕ
index_drawn draws count = (pcg32 draws).0 % count

-- ---- who may be drawn

-- the places of those that haven't ended, where this is the place of the first
abbrev pub open_from : ℕ → List Role → List ℕ
open_from place [] = []
open_from place (r ∷ roles) = if r.ended then open_from (suc place) roles else place ∷ open_from (suc place) roles

abbrev pub open_places : List Role → List ℕ
open_places roles = open_from 0 roles

-- these, or all where there are none
abbrev pub or_all : List ℕ → List ℕ → List ℕ
or_all [] all = all
or_all (place ∷ places) all = place ∷ places

-- behind a turn: where it was an entry all that haven't ended, and else the others that could be drawn before
abbrev pub left_after : Turn → List ℕ → List ℕ → List ℕ
left_after Moved others all = all
left_after Waiting others all = others
left_after Ended others all = others

-- the same, and where there are none again all
abbrev pub ready_after : Turn → List ℕ → List ℕ → List ℕ
ready_after turn others all = or_all (left_after turn others all) all

-- ---- turns

-- a scene, the places of those that may be drawn in their order, and the generator
pub record Drawing : Type 0 where
  pub history : List Entry
  pub roles : List Role
  pub ready : List ℕ
  pub draws : Lcg

abbrev pub scene_of : Drawing → Scene
scene_of d = scene d.history d.roles

-- all that haven't ended may be drawn
abbrev pub drawing : Lcg → Scene → Drawing
drawing draws s = record { history = s.history; roles = s.roles; ready = open_places s.roles; draws = draws }

-- from where all that haven't ended may be drawn, twice as many turns as there are of these bring the roles on
abbrev pub GoOnBy : ℕ → ℕ → Drawing → Drawing → Type 0
GoOnBy n later d e = d.ready ≡ open_places d.roles → later ≡ n + 2 * length d.ready → GoesOn (scene_of d) (scene_of e)

-- the entries, and those that have ended
abbrev pub progress : Scene → ℕ
progress s = length s.history + count_ended s.roles

module _ (g : Given) (limits : Limits) (capacity : ℕ) where
  -- a turn of the role at a place, which is the one at this index of those that may be drawn
  abbrev pub with_turn : ℕ → ℕ → Drawing → Option Role → Drawing
  with_turn index place d None = d
  with_turn index place d (Some r) =
      let t = turned g limits capacity d.history r in
      let roles = set d.roles place t.role in
      record { history = t.history; roles = roles; ready = ready_after t.turn (remove d.ready index) (open_places roles); draws = (pcg32 d.draws).1 }

  abbrev pub with_place : ℕ → Drawing → Option ℕ → Drawing
  with_place index d None = d
  with_place index d (Some place) = with_turn index place d (slice_get d.roles place)

  -- one of those that may be drawn is, and has a turn
  abbrev pub drawn_turn : Drawing → Drawing
  drawn_turn d = let index = index_drawn d.draws (length d.ready) in with_place index d (slice_get d.ready index)

  -- so many turns
  abbrev pub drawn_turns : ℕ → Drawing → Drawing
  drawn_turns zero d = d
  drawn_turns (suc n) d = drawn_turn (drawn_turns n d)

  -- some turns that are drawn from a seed lead from one scene to the other
  abbrev pub AreDrawn : ℕ → Scene → Scene → Type 0
  AreDrawn seed s t = (n : ℕ) × (scene_of (drawn_turns n (drawing (seeded seed) s)) ≡ t)

  -- ---- passes

  -- a legal history, and roles that stand for it
  pub record IsSound (s : Scene) : Type 0 where
    pub legal : IsLegal limits capacity s.history
    pub all : AllOf g limits capacity s.history s.roles
    pub well : EndedWell limits capacity s.history s.roles

  -- some turns lead from one scene to the other, in both of which all that haven't ended may be drawn
  pub record AreDrawnFrom (draws : Lcg) (s : Scene) (later : Lcg) (t : Scene) : Type 0 where
    pub count : ℕ
    pub lead : drawn_turns count (drawing draws s) ≡ drawing later t
    pub sound : (n : ℕ) → n ≤ count → IsSound (scene_of (drawn_turns n (drawing draws s)))

  -- in a pass there is an entry, or one ends; or it is a round in which there is none
  abbrev pub HasPassed : Scene → Scene → Type 0
  HasPassed s t = (progress s < progress t) ⊎ (t ≡ round_of g limits capacity s.history s.roles)

  -- some turns that are drawn from a seed lead from one scene to the other. Wherever all that haven't ended may be drawn, twice
  -- as many turns as there are of these, which are two passes if nothing happens in them, move a role or end one, or all had ended
  pub record AreDrawnOn (seed : ℕ) (s t : Scene) : Type 0 where
    pub count : ℕ
    pub lead : scene_of (drawn_turns count (drawing (seeded seed) s)) ≡ t
    pub go_on : (n later : ℕ) → later ≤ count → GoOnBy n later (drawn_turns n (drawing (seeded seed) s)) (drawn_turns later (drawing (seeded seed) s))

-- client 1 has turns, from the empty history on, until it has ended; then turns of the other clients and of the workers are
-- drawn from the seed, until all of them have ended
pub record IsDrawn (seed : ℕ) (g : Given) (limits : Limits) (capacity : ℕ) (history : List Entry) : Type 0 where
  pub front : List Entry
  pub first : Role
  pub set_up : ArePlayed g limits capacity (scene [] (new_role (Client 1) ∷ [])) (scene front (first ∷ []))
  pub first_ended : first.ended ≡ true
  pub later : List Role
  pub turns_of_others : AreDrawn g limits capacity seed (scene front (first ∷ other_roles limits)) (scene history later)
  pub all_ended : HaveEnded later
