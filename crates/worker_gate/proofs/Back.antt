-- A pool that is closed, with all its actors: what its history and their roles are.
use Rattle.std.proofs.Common.{◌≡◌, ℕ, ◌+◌, ◌-◌, ◌<◌, ◌≤◌, Bool, true, false, cond, nat_le, List, Some, map, get_or, slice_get, refl, sym, ap, subst, ◌∙◌, arith, All}
use Rattle.std.proofs.lemmas.Bool.Decides.{nat_tests}
use Rattle.std.proofs.lemmas.List.Elements.{All-map}
use Rattle.std.proofs.lemmas.Option.{get_or_from_slice_get, slice_get-get_or, slice_get-map, slice_get_within}
use Rattle.std.specs.Option.{option_map}
use Rattle.tp_base.specs.declared.answers.Entry.{Entry}
use Rattle.tp_base.specs.declared.ids.Who.{Who}
use Rattle.tp_base.specs.declared.ids.Who.TheVariants.{Client, Worker}
use Rattle.tp_base.specs.declared.limits.Limits.{Limits}
use Rattle.tp_model.specs.History.{IsLegal}
use Rattle.tp_model.specs.Stages.{IsActor}
use Rattle.recorded.specs.Recordings.{Recording}
use Rattle.turn_lock.specs.declared.views.Setup.{Setup}
use Rattle.turn_lock.specs.Histories.{actor_of, own, StartsWith}
use Rattle.turn_lock.specs.Rule.{IsSeated}
use Rattle.turn_lock.specs.Seats.{actor_in, mine_of, number_of, seen_of, setup_in, IsLast}
use Rattle.turn_lock.proofs.Beginnings.{starts_through}
use Rattle.shared_pool.specs.declared.pool.SharedPool.{SharedPool}
use Rattle.shared_pool.specs.Pools.{setup_at, IsSeatOf}
use Rattle.worker_gate.specs.declared.actor.Actor.{Actor}
use Rattle.worker_gate.specs.declared.role.Role.{Role}
use Rattle.worker_gate.specs.Acting.{role_in, seat_in, IsReady}
use Rattle.worker_gate.specs.Closing.{AllBack, BeginsAsMade, FirstTold, IsFirstPlayed}
use Rattle.part_places.specs.Places.{Given}
use Rattle.worker_gate.specs.Roles.{IsOf}
use Rattle.worker_gate.specs.Rounds.{AllOf, HaveAllRoles}
use Rattle.worker_gate.specs.Runs.{AreKnown}
use Rattle.worker_gate.proofs.Acting.{of_grows}
use Rattle.worker_gate.proofs.Playing.{at_place}

-- ---- numbers and actors

pub le_on : (a b : ℕ) → a ≤ b → nat_le a b ≡ true
le_on a b le = grind (arith, nat_tests)

le_off : (a b : ℕ) → b < a → nat_le a b ≡ false
le_off a b less = grind (arith, nat_tests)

actor_by : (limits : Limits) (n : ℕ) (x : Bool) → nat_le n limits.clients ≡ x → 1 ≤ n → n ≤ limits.clients + limits.workers → IsActor limits (cond x (Client n) (Worker (n - limits.clients)))
actor_by limits n true is least most = (least, grind (arith, nat_tests))
actor_by limits n false is least most = let more : limits.clients < n = grind (arith, nat_tests) in (omega (arith, more), omega (arith, most, more))

-- each number is that of an actor
pub is_actor_of : (limits : Limits) (n : ℕ) → 1 ≤ n → n ≤ limits.clients + limits.workers → IsActor limits (actor_of limits n)
is_actor_of limits n least most = actor_by limits n (nat_le n limits.clients) refl least most

-- and each actor has one
pub record HasNumber (limits : Limits) (who : Who) : Type 0 where
  pub number : ℕ
  pub least : 1 ≤ number
  pub most : number ≤ limits.clients + limits.workers
  pub is : actor_of limits number ≡ who

pub number_for : (limits : Limits) (who : Who) → IsActor limits who → HasNumber limits who
number_for limits (Client c) actor = record {
  number = c;
  least = actor.0;
  most = let most = actor.1 in omega (arith, most);
  is = ap (λ (x : Bool). cond x (Client c) (Worker (c - limits.clients))) (le_on c limits.clients actor.1);
}
number_for limits (Worker w) actor =
    let least = actor.0 in
    let most = actor.1 in
    let less : limits.clients < limits.clients + w = omega (arith, least) in
    let back : limits.clients + w - limits.clients ≡ w = omega arith in
    record {
      number = limits.clients + w;
      least = omega (arith, least);
      most = omega (arith, most);
      is = ap (λ (x : Bool). cond x (Client (limits.clients + w)) (Worker (limits.clients + w - limits.clients))) (le_off (limits.clients + w) limits.clients less) ∙ ap Worker back;
    }

-- ---- elements by their places

pub at_all : {X : Type 0} → (P : X → Type 0) (xs : List X) (k : ℕ) (x : X) → All P xs → slice_get xs k ≡ Some x → P x
at_all P xs k x all is = subst P (get_or_from_slice_get xs k x x is) (all k x (slice_get_within xs k x is))

pub mapped : {X Y : Type 0} → (f : X → Y) (xs : List X) (k : ℕ) (x : X) → slice_get xs k ≡ Some x → slice_get (map f xs) k ≡ Some (f x)
mapped f xs k x is = slice_get-map f xs k ∙ ap (option_map f) is

module _ {B : Type 0} where
  -- an actor that is back has a seat of its pool
  pub seats_of : (g : Given) (pool : SharedPool B) (actors : List (Actor B)) → All (IsReady g pool) actors → All (IsSeatOf pool) (map seat_in actors)
  seats_of g pool actors ready = All-map (IsSeatOf pool) seat_in actors (λ k d inside. record { of = (ready k d inside).player.of; idle = (ready k d inside).player.idle })

  module _ (g : Given) (pool : SharedPool B) (actors : List (Actor B)) (back : AllBack g pool actors) (last : Recording) (lasts : All (IsLast last) (map seat_in actors)) where
    last_at : (k : ℕ) (a : Actor B) → slice_get actors k ≡ Some a → IsLast last a.seat
    last_at k a is = at_all (IsLast last) (map seat_in actors) k a.seat lasts (mapped seat_in actors k a is)

    ready_at : (k : ℕ) (a : Actor B) → slice_get actors k ≡ Some a → IsReady g pool a
    ready_at k a is = at_all (IsReady g pool) actors k a back.ready is

    setup_same : (k : ℕ) (a : Actor B) → slice_get actors k ≡ Some a → setup_in a.seat ≡ setup_at pool
    setup_same k a is = (ready_at k a is).player.of.setup_is

    -- the actor of a number
    found : (number : ℕ) → 1 ≤ number → number ≤ (setup_at pool).seats → (k : ℕ) × (a : Actor B) × (slice_get actors k ≡ Some a) × (number_of a.seat ≡ number)
    found number least most =
        let any = back.all number least most in
        let at : slice_get (map seat_in actors) any.0 ≡ Some any.1 = slice_get-get_or (map seat_in actors) any.0 any.1 any.2 ∙ ap Some any.3 in
        let there = at_place seat_in actors any.0 any.1 at in
        (any.0, there.0, there.1, ap number_of there.2 ∙ any.4)

    seats_are : (setup_at pool).seats ≡ (setup_at pool).limits.clients + (setup_at pool).limits.workers
    seats_are = ap (λ (s : Setup). s.seats) back.setup_is

    one_there : 1 ≤ (setup_at pool).seats
    one_there = let s = seats_are in let c = back.some_client in omega (arith, s, c)

    -- the actor of number 1 tells what the machine is
    abbrev one : (k : ℕ) × (a : Actor B) × (slice_get actors k ≡ Some a) × (number_of a.seat ≡ 1)
    one = found 1 (omega arith) one_there

    pub limits_last : last.limits ≡ (setup_at pool).limits
    limits_last = (last_at one.0 one.1 one.2).limits ∙ ap (λ (s : Setup). s.limits) (setup_same one.0 one.1 one.2)

    pub capacity_last : last.capacity ≡ (setup_at pool).capacity
    capacity_last = (last_at one.0 one.1 one.2).capacity ∙ ap (λ (s : Setup). s.capacity) (setup_same one.0 one.1 one.2)

    pub legal_last : IsLegal last.limits last.capacity last.history
    legal_last = (last_at one.0 one.1 one.2).legal

    pub client_last : 1 ≤ last.limits.clients
    client_last = let c = back.some_client in let l = ap (λ (x : Limits). x.clients) limits_last in omega (arith, c, l)

    pub worker_last : 1 ≤ last.limits.workers
    worker_last = let c = back.some_worker in let l = ap (λ (x : Limits). x.workers) limits_last in omega (arith, c, l)

    seated_known : (who : Who) → IsSeated (setup_at pool) who → IsActor last.limits who
    seated_known who s =
        let all = seats_are in
        let most = s.most in
        subst (λ (l : Limits). IsActor l who) (sym limits_last) (subst (IsActor (setup_at pool).limits) (sym s.is) (is_actor_of (setup_at pool).limits s.number s.least (omega (arith, all, most))))

    pub known_last : AreKnown last.limits last.history
    known_last k d inside =
        let seated = (last_at one.0 one.1 one.2).seated k d inside in
        seated_known (get_or last.history k d).who (subst (λ (s : Setup). IsSeated s (get_or last.history k d).who) (setup_same one.0 one.1 one.2) seated)

    -- what it has made is what the history has of its actor
    mine_last : (k : ℕ) (a : Actor B) → slice_get actors k ≡ Some a → mine_of a.seat ≡ own a.role.who last.history
    mine_last k a is = (last_at k a is).mine (ready_at k a is).player.numbered ∙ ap (λ (w : Who). own w last.history) (sym a.is_its)

    -- a role stands for what the history has of its actor
    role_last : (k : ℕ) (a : Actor B) → slice_get actors k ≡ Some a → IsOf g last.limits last.capacity last.history (own a.role.who last.history) a.role
    role_last k a is =
        let l = last_at k a is in
        let r = ready_at k a is in
        let grown = of_grows g (setup_in a.seat).limits (setup_in a.seat).capacity (seen_of a.seat) last.history (mine_of a.seat) a.role l.seen r.of in
        subst (λ (x : Limits). IsOf g x last.capacity last.history (own a.role.who last.history) a.role) (sym l.limits) (
        subst (λ (n : ℕ). IsOf g (setup_in a.seat).limits n last.history (own a.role.who last.history) a.role) (sym l.capacity) (
        subst (λ (m : List Entry). IsOf g (setup_in a.seat).limits (setup_in a.seat).capacity last.history m a.role) (mine_last k a is) grown))

    once_last : (i j : ℕ) (r q : Role) → slice_get (map role_in actors) i ≡ Some r → slice_get (map role_in actors) j ≡ Some q → r.who ≡ q.who → i ≡ j
    once_last i j r q at_i at_j same =
        let a = at_place role_in actors i r at_i in
        let b = at_place role_in actors j q at_j in
        back.once i j a.0 b.0 a.1 b.1 (ap (λ (x : Role). x.who) a.2 ∙ (same ∙ sym (ap (λ (x : Role). x.who) b.2)))

    pub all_last : AllOf g last.limits last.capacity last.history (map role_in actors)
    all_last = record {
      of = All-map (λ (r : Role). IsOf g last.limits last.capacity last.history (own r.who last.history) r) role_in actors (λ k d inside. role_last k (get_or actors k d) (slice_get-get_or actors k d inside));
      once = once_last;
    }

    pub has_last : HaveAllRoles last.limits (map role_in actors)
    has_last who actor =
        let n = number_for (setup_at pool).limits who (subst (λ (l : Limits). IsActor l who) limits_last actor) in
        let most = n.most in
        let seats = seats_are in
        let at = found n.number n.least (omega (arith, most, seats)) in
        let a = at.1 in
        let role = mapped role_in actors at.0 a at.2 in
        let is : a.role.who ≡ who = a.is_its ∙ (ap (λ (s : Setup). actor_of s.limits (number_of a.seat)) (setup_same at.0 a at.2) ∙ (ap (actor_of (setup_at pool).limits) at.3 ∙ n.is)) in
        (at.0, a.role, slice_get_within (map role_in actors) at.0 a.role role, get_or_from_slice_get (map role_in actors) at.0 a.role a.role role, is)

    -- a history that goes on from there begins with what all of them have made
    pub made_last : (later : List Entry) → StartsWith later last.history → BeginsAsMade (setup_at pool).limits later actors
    made_last later more = record {
      each = subst (λ (l : Limits). HaveAllRoles l (map role_in actors)) limits_last has_last;
      once = back.once;
      front = last.history;
      starts = more;
      made = λ k d inside. mine_last k (get_or actors k d) (slice_get-get_or actors k d inside);
      seen = λ k d inside. (last_at k (get_or actors k d) (slice_get-get_or actors k d inside)).seen;
    }

    pub first_last : FirstTold (setup_at pool).limits actors → IsFirstPlayed last.limits last.history (map role_in actors)
    first_last first =
        let l = last_at first.at first.first first.is_there in
        let r = ready_at first.at first.first first.is_there in
        let who : actor_in first.first.seat ≡ Client 1 = sym first.first.is_its ∙ first.is_first in
        record {
          at = first.at;
          first = first.first.role;
          is_there = mapped role_in actors first.at first.first first.is_there;
          is_first = first.is_first;
          ended = first.ended;
          front = first.front;
          starts = starts_through last.history (seen_of first.first.seat) first.front l.seen first.seen;
          mine = sym (l.mine r.player.numbered ∙ ap (λ (w : Who). own w last.history) who) ∙ first.mine;
          alone = λ other actor apart. first.alone other (subst (λ (x : Limits). IsActor x other) limits_last actor) apart;
        }
