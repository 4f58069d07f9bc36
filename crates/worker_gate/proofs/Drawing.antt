-- Turns that are drawn, and who may be drawn.
use Rattle.std.proofs.Common.{◌≡◌, ℕ, zero, suc, ◌+◌, ◌≤◌, Bool, true, false, cond, if◌then◌else◌, List, [], ◌∷◌, Option, None, Some}
use Rattle.std.proofs.Common.{length, map, set, slice_get, filter, refl, sym, ap, subst, ◌∙◌, append-nil, length-append, arith}
use Rattle.std.specs.List.{AllByRecursion}
use Rattle.tp_base.specs.declared.answers.Entry.{Entry}
use Rattle.tp_base.specs.declared.answers.Outcome.{Outcome}
use Rattle.tp_base.specs.declared.answers.Outcome.TheVariants as outcome
use Rattle.tp_base.specs.declared.calls.Call.{Call}
use Rattle.tp_base.specs.declared.ids.Who.{Who}
use Rattle.tp_base.specs.declared.limits.Limits.{Limits}
use Rattle.recorded.specs.Recordings.{entries_told}
use Rattle.worker_gate.specs.declared.role.Role.{Role}
use Rattle.worker_gate.specs.declared.role.Turn.{Turn}
use Rattle.worker_gate.specs.declared.role.Turn.TheVariants.{Moved, Waiting, Ended}
use Rattle.worker_gate.specs.Drawn.{drawn_turn, drawn_turns, index_drawn, open_from, scene_of, with_place, with_turn, Drawing}
use Rattle.worker_gate.specs.Lively.{count_ended}
use Rattle.part_places.specs.Places.{Given}
use Rattle.worker_gate.specs.Roles.{due_of, played_turn, turned, who_of, Turned}
use Rattle.worker_gate.specs.Rounds.{scene}
use Rattle.worker_gate.specs.Walks.{comes_to}
use Rattle.worker_gate.proofs.Ending.{by_actor, follows_itself, follows_through, same_actors, AreBy, Follows}
use Rattle.worker_gate.proofs.OneHistory.{ended_still}
use Rattle.worker_gate.proofs.Playing.{turned_adds, turned_is, turned_who}

-- ---- the places of those that haven't ended

-- one whose end is as it was
pub open_same : (at : ℕ) (roles : List Role) (k : ℕ) (r q : Role) → slice_get roles k ≡ Some r → q.ended ≡ r.ended → open_from at (set roles k q) ≡ open_from at roles
open_same at [] k r q there same = absurd cc
open_same at (x ∷ roles) zero r q there same =
    let is : x ≡ r = cc in
    ap (λ (b : Bool). if b then open_from (suc at) roles else at ∷ open_from (suc at) roles) (same ∙ sym (ap (λ (y : Role). y.ended) is))
open_same at (x ∷ roles) (suc k) r q there same = ap (λ (l : List ℕ). if x.ended then l else at ∷ l) (open_same (suc at) roles k r q there same)

pub open_few : (at : ℕ) (roles : List Role) → length (open_from at roles) ≤ length roles
open_few at [] = omega arith
open_few at (r ∷ roles) = by r.ended (open_few (suc at) roles)
  where
    by : (b : Bool) → length (open_from (suc at) roles) ≤ length roles → length (if b then open_from (suc at) roles else at ∷ open_from (suc at) roles) ≤ length (r ∷ roles)
    by true few = omega (arith, few)
    by false few = omega (arith, few)

-- where there are none all have ended
pub none_open_ended : (at : ℕ) (roles : List Role) → open_from at roles ≡ [] → AllByRecursion (λ (r : Role). r.ended ≡ true) roles
none_open_ended at [] none = tt
none_open_ended at (r ∷ roles) none = by r.ended refl (none_open_ended (suc at) roles) none
  where
    by : (b : Bool) → r.ended ≡ b → (open_from (suc at) roles ≡ [] → AllByRecursion (λ (x : Role). x.ended ≡ true) roles) → (if b then open_from (suc at) roles else at ∷ open_from (suc at) roles) ≡ [] → AllByRecursion (λ (x : Role). x.ended ≡ true) (r ∷ roles)
    by true is rest none = (is, rest none)
    by false is rest none = absurd cc

pub all_ended_none : (at : ℕ) (roles : List Role) → AllByRecursion (λ (r : Role). r.ended ≡ true) roles → open_from at roles ≡ []
all_ended_none at [] all = refl
all_ended_none at (r ∷ roles) all = ap (λ (b : Bool). if b then open_from (suc at) roles else at ∷ open_from (suc at) roles) all.0 ∙ all_ended_none (suc at) roles all.1

-- ---- how many have ended

ended_cons : (b : Bool) (r : Role) (more : List Role) → length (cond b (r ∷ more) more) ≡ length (cond b (r ∷ []) []) + length more
ended_cons true r more = omega arith
ended_cons false r more = omega arith

pub count_same : (roles : List Role) (k : ℕ) (r q : Role) → slice_get roles k ≡ Some r → q.ended ≡ r.ended → count_ended (set roles k q) ≡ count_ended roles
count_same [] k r q there same = absurd cc
count_same (x ∷ roles) zero r q there same =
    let is : x ≡ r = cc in
    let e : q.ended ≡ x.ended = same ∙ sym (ap (λ (y : Role). y.ended) is) in
    by q.ended x.ended e
  where
    by : (b c : Bool) → b ≡ c → length (cond b (q ∷ filter (λ (y : Role). y.ended) roles) (filter (λ (y : Role). y.ended) roles)) ≡ length (cond c (x ∷ filter (λ (y : Role). y.ended) roles) (filter (λ (y : Role). y.ended) roles))
    by true true e = refl
    by false false e = refl
    by true false e = absurd cc
    by false true e = absurd cc
count_same (x ∷ roles) (suc k) r q there same =
    let rest = count_same roles k r q there same in
    let a = ended_cons x.ended x (filter (λ (y : Role). y.ended) (set roles k q)) in
    let b = ended_cons x.ended x (filter (λ (y : Role). y.ended) roles) in
    omega (arith, rest, a, b)

pub count_more : (roles : List Role) (k : ℕ) (r q : Role) → slice_get roles k ≡ Some r → r.ended ≡ false → q.ended ≡ true → count_ended (set roles k q) ≡ suc (count_ended roles)
count_more [] k r q there off on = absurd cc
count_more (x ∷ roles) zero r q there off on =
    let is : x ≡ r = cc in
    let e : x.ended ≡ false = ap (λ (y : Role). y.ended) is ∙ off in
    ap (λ (b : Bool). length (cond b (q ∷ filter (λ (y : Role). y.ended) roles) (filter (λ (y : Role). y.ended) roles))) on
    ∙ sym (ap (λ (b : Bool). suc (length (cond b (x ∷ filter (λ (y : Role). y.ended) roles) (filter (λ (y : Role). y.ended) roles)))) e)
count_more (x ∷ roles) (suc k) r q there off on =
    let rest = count_more roles k r q there off on in
    let a = ended_cons x.ended x (filter (λ (y : Role). y.ended) (set roles k q)) in
    let b = ended_cons x.ended x (filter (λ (y : Role). y.ended) roles) in
    omega (arith, rest, a, b)

-- ---- what a turn comes to

-- an entry; or nothing; or an end
abbrev pub TurnSaid : List Entry → Role → Turned → Turn → Type 0
TurnSaid history r t Moved = (length t.history ≡ suc (length history)) × (t.role.ended ≡ r.ended)
TurnSaid history r t Waiting = (t.history ≡ history) × (t.role.ended ≡ r.ended)
TurnSaid history r t Ended = (t.history ≡ history) × (t.role.ended ≡ true)

module _ (g : Given) (limits : Limits) (capacity : ℕ) where
  played_said : (history : List Entry) (r : Role) (made : Call) (o : Outcome) → TurnSaid history r (played_turn g history r made o) (played_turn g history r made o).turn
  played_said history r made (outcome.Done answer) = (let n = length-append history (entries_told r.who made (outcome.Done answer)) in omega (arith, n), refl)
  played_said history r made (outcome.Look look) = (append-nil history, refl)
  played_said history r made (outcome.Full room cost) = (append-nil history, refl)

  pub turn_said : (history : List Entry) (r : Role) → TurnSaid history r (turned g limits capacity history r) (turned g limits capacity history r).turn
  turn_said history r =
      turned_is g limits capacity (λ (t : Turned). TurnSaid history r t t.turn) history r (λ ends. (refl, refl))
      (λ on. played_said history r (due_of g r.who r.place r.marked) (comes_to limits capacity history r.who (due_of g r.who r.place r.marked)))

-- ---- a turn that is drawn

module _ (g : Given) (limits : Limits) (capacity : ℕ) where
  abbrev turn_in : Drawing → Drawing
  turn_in d = drawn_turn g limits capacity d

  -- nobody may be drawn; or a role has a turn
  pub turn_by : (Q : Drawing → Type 0) (d : Drawing) → Q d → ((index place : ℕ) (r : Role) → slice_get d.roles place ≡ Some r → Q (with_turn g limits capacity index place d (Some r))) → Q (turn_in d)
  turn_by Q d none one = by_place (index_drawn d.draws (length d.ready)) (slice_get d.ready (index_drawn d.draws (length d.ready)))
    where
      by_role : (index place : ℕ) (o : Option Role) → slice_get d.roles place ≡ o → Q (with_turn g limits capacity index place d o)
      by_role index place None is = none
      by_role index place (Some r) is = one index place r is

      by_place : (index : ℕ) (o : Option ℕ) → Q (with_place g limits capacity index d o)
      by_place index None = none
      by_place index (Some place) = by_role index place (slice_get d.roles place) refl

  whos_set : (roles : List Role) (place : ℕ) (r q : Role) → slice_get roles place ≡ Some r → q.who ≡ r.who → map who_of (set roles place q) ≡ map who_of roles
  whos_set [] place r q there same = refl
  whos_set (x ∷ roles) zero r q there same = let is : x ≡ r = cc in ap (λ (w : Who). w ∷ map who_of roles) (same ∙ sym (ap who_of is))
  whos_set (x ∷ roles) (suc place) r q there same = ap (λ (l : List Who). x.who ∷ l) (whos_set roles place r q there same)

  turn_whos : (d : Drawing) → map who_of (turn_in d).roles ≡ map who_of d.roles
  turn_whos d =
      turn_by (λ (e : Drawing). map who_of e.roles ≡ map who_of d.roles) d refl
      (λ index place r there. whos_set d.roles place r (turned g limits capacity d.history r).role there (turned_who g limits capacity d.history r))

  pub turns_whos : (n : ℕ) (d : Drawing) → map who_of (drawn_turns g limits capacity n d).roles ≡ map who_of d.roles
  turns_whos zero d = refl
  turns_whos (suc n) d = turn_whos (drawn_turns g limits capacity n d) ∙ turns_whos n d

  actor_at : (P : Who → Type 0) (roles : List Role) (place : ℕ) (r : Role) → slice_get roles place ≡ Some r → AreBy P roles → P r.who
  actor_at P [] place r there actors = absurd cc
  actor_at P (x ∷ roles) zero r there actors = let is : x ≡ r = cc in subst P (ap who_of is) actors.0
  actor_at P (x ∷ roles) (suc place) r there actors = actor_at P roles place r there actors.1

  turn_follows : (P : Who → Type 0) (d : Drawing) → AreBy P d.roles → Follows P d.history (turn_in d).history
  turn_follows P d actors =
      turn_by (λ (e : Drawing). Follows P d.history e.history) d (follows_itself P d.history)
      (λ index place r there.
      let adds = turned_adds g limits capacity d.history r in
      record { more = adds.more; is = adds.is; known = by_actor P r.who adds.more (actor_at P d.roles place r there actors) adds.by })

  pub turns_follow : (P : Who → Type 0) (n : ℕ) (d : Drawing) → AreBy P d.roles → Follows P d.history (drawn_turns g limits capacity n d).history
  turns_follow P zero d actors = follows_itself P d.history
  turns_follow P (suc n) d actors =
      let e = drawn_turns g limits capacity n d in
      follows_through P d.history e.history (turn_in e).history (turns_follow P n d actors) (turn_follows P e (same_actors P d.roles e.roles (turns_whos n d) actors))

  pub turns_both : (m n k : ℕ) (d : Drawing) → k ≡ m + n → drawn_turns g limits capacity k d ≡ drawn_turns g limits capacity m (drawn_turns g limits capacity n d)
  turns_both zero n k d is = let same : k ≡ n = omega (arith, is) in ap (λ (x : ℕ). drawn_turns g limits capacity x d) same
  turns_both (suc m) n zero d is = absurd (omega (arith, is))
  turns_both (suc m) n (suc k) d is = ap turn_in (turns_both m n k d (omega (arith, is)))

  -- where all have ended nothing more happens
  set_same : (roles : List Role) (place : ℕ) (r : Role) → slice_get roles place ≡ Some r → set roles place r ≡ roles
  set_same [] place r there = refl
  set_same (x ∷ roles) zero r there = let is : x ≡ r = cc in ap (λ (y : Role). y ∷ roles) (sym is)
  set_same (x ∷ roles) (suc place) r there = ap (λ (l : List Role). x ∷ l) (set_same roles place r there)

  ended_at : (roles : List Role) (place : ℕ) (r : Role) → slice_get roles place ≡ Some r → AllByRecursion (λ (x : Role). x.ended ≡ true) roles → r.ended ≡ true
  ended_at [] place r there all = absurd cc
  ended_at (x ∷ roles) zero r there all = let is : x ≡ r = cc in sym (ap (λ (y : Role). y.ended) is) ∙ all.0
  ended_at (x ∷ roles) (suc place) r there all = ended_at roles place r there all.1

  pub turn_still : (d : Drawing) → AllByRecursion (λ (x : Role). x.ended ≡ true) d.roles → scene_of (turn_in d) ≡ scene_of d
  turn_still d all =
      turn_by (λ (e : Drawing). scene_of e ≡ scene_of d) d refl
      (λ index place r there.
      let ended : r.ended ≡ true = ended_at d.roles place r there all in
      let still = ended_still g limits capacity d.history r ended in
      let same : (turned g limits capacity d.history r).role ≡ r = ap (λ (t : Turned). t.role) still ∙ ap (λ (b : Bool). record r { ended = b }) (sym ended) in
      ap (λ (h : List Entry). scene h (set d.roles place (turned g limits capacity d.history r).role)) (ap (λ (t : Turned). t.history) still)
      ∙ (ap (λ (q : Role). scene d.history (set d.roles place q)) same ∙ ap (scene d.history) (set_same d.roles place r there)))
