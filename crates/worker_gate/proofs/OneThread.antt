-- What one thread plays is a run.
use Rattle.std.proofs.Common.{◌≡◌, ℕ, zero, suc, ◌+◌, ◌-◌, ◌<◌, ◌≤◌, Bool, true, false, cond, ◌⊎◌, inl, List, [], ◌∷◌, Some, length, map, set, get_or, slice_get, refl, sym, ap, subst, ◌∙◌, arith}
use Rattle.std.specs.List.{range_with_len, AllByRecursion}
use Rattle.std.proofs.lemmas.List.Elements.{All-cons, All-from_recursion, All-tail}
use Rattle.std.proofs.lemmas.List.FromFn.{get_or-range_with_len, length-range_with_len}
use Rattle.std.proofs.lemmas.Option.{get_or_from_slice_get, slice_get-get_or, slice_get_within}
use Rattle.tp_base.specs.declared.answers.Entry.{Entry}
use Rattle.tp_base.specs.declared.ids.Who.{Who}
use Rattle.tp_base.specs.declared.ids.Who.TheVariants.{Client, Worker}
use Rattle.tp_base.specs.declared.limits.Limits.{Limits}
use Rattle.tp_base.specs.declared.plans.Stage.{Stage}
use Rattle.tp_base.specs.declared.plans.Stage.TheVariants.{Over}
use Rattle.tp_model.specs.History.{IsLegal}
use Rattle.tp_model.specs.Stages.{IsActor}
use Rattle.tp_script.specs.declared.routines.Part.TheVariants as part
use Rattle.tp_script.specs.Nexts.{first_progress}
use Rattle.recorded.specs.Recordings.{Recording}
use Rattle.turn_lock.specs.Histories.{actor_of, own}
use Rattle.turn_lock.proofs.Beginnings.{actors_apart, starts_itself}
use Rattle.worker_gate.specs.declared.role.Role.{Role}
use Rattle.worker_gate.specs.Alone.{all_roles, new_roles, other_roles, IsAlone}
use Rattle.worker_gate.specs.Closing.{IsFirstPlayed}
use Rattle.worker_gate.specs.Drawn.{AreDrawn, IsDrawn}
use Rattle.part_places.specs.Places.{Given}
use Rattle.worker_gate.specs.Roles.{ended_turn, ends_at, new_role, turned, who_of, IsOf, Turned}
use Rattle.worker_gate.specs.Rounds.{awake, round_of, rounds, scene, AllOf, ArePlayed, EndedWell, HasPlayed, HaveAllRoles, HaveEnded, IsSameMachine, NeverWaits, PlaysAlone, Scene}
use Rattle.worker_gate.specs.Runs.{is_over_in, AreKnown}
use Rattle.worker_gate.proofs.Back.{is_actor_of, le_on, mapped, number_for}
use Rattle.worker_gate.proofs.Ending.{by_actor, finished_client, played_follows}
use Rattle.worker_gate.proofs.Playing.{at_place, none_of, on_off, or_on, turned_is}
use Rattle.worker_gate.proofs.RoleFacts.{new_is, new_stands}

-- ---- the roles of all, by their numbers

pub first_actor : (limits : Limits) → 1 ≤ limits.clients → actor_of limits 1 ≡ Client 1
first_actor limits client = ap (λ (b : Bool). cond b (Client 1) (Worker (1 - limits.clients))) (le_on 1 limits.clients client)

range_split : (first count : ℕ) → 1 ≤ count → range_with_len first count ≡ first ∷ range_with_len (first + 1) (count - 1)
range_split first zero some = absurd (omega (arith, some))
range_split first (suc count) some = let e : count ≡ suc count - 1 = omega arith in ap (λ (n : ℕ). first ∷ range_with_len (first + 1) n) e

pub all_split : (limits : Limits) → 1 ≤ limits.clients → all_roles limits ≡ new_role (Client 1) ∷ other_roles limits
all_split limits client =
    ap (map (λ (number : ℕ). new_role (actor_of limits number))) (range_split 1 (limits.clients + limits.workers) (omega (arith, client)))
    ∙ ap (λ (who : Who). new_role who ∷ other_roles limits) (first_actor limits client)

module _ (limits : Limits) where
  abbrev count : ℕ
  count = limits.clients + limits.workers

  abbrev whos : List Who
  whos = map (actor_of limits) (range_with_len 1 count)

  new_whos : (numbers : List ℕ) → map who_of (map (λ (number : ℕ). new_role (actor_of limits number)) numbers) ≡ map (actor_of limits) numbers
  new_whos [] = refl
  new_whos (number ∷ numbers) = ap (λ (xs : List Who). actor_of limits number ∷ xs) (new_whos numbers)

  -- the actor at a place is that of the number behind the place
  who_is_at : (roles : List Role) → map who_of roles ≡ whos → (i : ℕ) (r : Role) → slice_get roles i ≡ Some r → (i < count) × (actor_of limits (1 + i) ≡ r.who)
  who_is_at roles are i r is =
      let there : slice_get whos i ≡ Some r.who = ap (λ (xs : List Who). slice_get xs i) (sym are) ∙ mapped who_of roles i r is in
      let at = at_place (actor_of limits) (range_with_len 1 count) i r.who there in
      let inside : i < length (range_with_len 1 count) = slice_get_within (range_with_len 1 count) i at.0 at.1 in
      let low : i < count = let n = length-range_with_len 1 count in omega (arith, inside, n) in
      (low, ap (actor_of limits) (sym (get_or-range_with_len 1 count i at.0 low) ∙ get_or_from_slice_get (range_with_len 1 count) i at.0 at.0 at.1) ∙ at.2)

  pub once_by_whos : (roles : List Role) → map who_of roles ≡ whos → (i j : ℕ) (r q : Role) → slice_get roles i ≡ Some r → slice_get roles j ≡ Some q → r.who ≡ q.who → i ≡ j
  once_by_whos roles are i j r q at_i at_j same =
      let a = who_is_at roles are i r at_i in
      let b = who_is_at roles are j q at_j in
      let e : 1 + i ≡ 1 + j = actors_apart limits (1 + i) (1 + j) (a.1 ∙ (same ∙ sym b.1)) in
      omega (arith, e)

  pub has_by_whos : (roles : List Role) → map who_of roles ≡ whos → HaveAllRoles limits roles
  has_by_whos roles are who actor =
      let n = number_for limits who actor in
      let least = n.least in
      let most = n.most in
      let k : ℕ = n.number - 1 in
      let low : k < count = omega (arith, least, most) in
      let one : 1 + k ≡ n.number = omega (arith, least) in
      let inside : k < length (range_with_len 1 count) = let l = length-range_with_len 1 count in omega (arith, low, l) in
      let number : slice_get (range_with_len 1 count) k ≡ Some n.number = slice_get-get_or (range_with_len 1 count) k 0 inside ∙ ap Some (get_or-range_with_len 1 count k 0 low ∙ one) in
      let there : slice_get (map who_of roles) k ≡ Some who = ap (λ (xs : List Who). slice_get xs k) are ∙ (mapped (actor_of limits) (range_with_len 1 count) k n.number number ∙ ap Some n.is) in
      let at = at_place who_of roles k who there in
      (k, at.0, slice_get_within roles k at.0 at.1, get_or_from_slice_get roles k at.0 at.0 at.1, at.2)

-- ---- client 1 is set up

module _ (g : Given) (limits : Limits) (capacity : ℕ) (client : 1 ≤ limits.clients) where
  first_is_actor : IsActor limits (Client 1)
  first_is_actor = (omega arith, client)

  pub first_of : IsOf g limits capacity [] [] (new_role (Client 1))
  first_of = new_is g limits capacity [] (Client 1) first_is_actor

  pub first_alone : NeverWaits g (part.Client 1) first_progress → PlaysAlone g (new_role (Client 1))
  first_alone calm = record { number = 1; client = refl; calm = refl; never = calm }

  -- behind it: client 1 has ended, and no other has made an entry
  module _ (front : List Entry) (first : Role) (played : ArePlayed g limits capacity (scene [] (new_role (Client 1) ∷ [])) (scene front (first ∷ [])))
      (of : IsOf g limits capacity front (own first.who front) first) (who : first.who ≡ Client 1) (ended : first.ended ≡ true) where
    abbrev everyone : List Role
    everyone = first ∷ other_roles limits

    by_first : AllByRecursion (λ (e : Entry). e.who ≡ Client 1) front
    by_first =
        let follows = played_follows (λ (w : Who). w ≡ Client 1) g limits capacity (scene [] (new_role (Client 1) ∷ [])) (scene front (first ∷ [])) (refl, tt) played in
        subst (AllByRecursion (λ (e : Entry). e.who ≡ Client 1)) (sym follows.is) follows.known

    none_yet : (other : Who) → (other ≡ Client 1 → ⊥) → own other front ≡ []
    none_yet other apart = none_of (Client 1) other front (λ is. apart (sym is)) by_first

    pub front_known : AreKnown limits front
    front_known = All-from_recursion (λ (e : Entry). IsActor limits e.who) front (by_actor (IsActor limits) (Client 1) front first_is_actor by_first)

    whos_are : map who_of everyone ≡ whos limits
    whos_are =
        ap (λ (w : Who). w ∷ map who_of (other_roles limits)) who
        ∙ (ap (map who_of) (sym (all_split limits client)) ∙ new_whos limits (range_with_len 1 (count limits)))

    -- the others, one after another, from one of a number above 1 on
    others_stand : (number more : ℕ) → 2 ≤ number → number + more ≤ count limits + 1 → AllByRecursion (λ (r : Role). IsOf g limits capacity front (own r.who front) r) (new_roles limits number more)
    others_stand number zero above within = tt
    others_stand number (suc more) above within =
        let actor : IsActor limits (actor_of limits number) = is_actor_of limits number (omega (arith, above)) (omega (arith, within)) in
        let apart : actor_of limits number ≡ Client 1 → ⊥ = λ (is : actor_of limits number ≡ Client 1). let e : number ≡ 1 = actors_apart limits number 1 (is ∙ sym (first_actor limits client)) in absurd (omega (arith, e, above)) in
        (new_stands g limits capacity front (actor_of limits number) actor (none_yet (actor_of limits number) apart), others_stand (number + 1) more (omega (arith, above)) (omega (arith, within)))

    pub all_stand : AllOf g limits capacity front everyone
    all_stand = record {
      of = All-cons (λ (r : Role). IsOf g limits capacity front (own r.who front) r) first (other_roles limits) of
          (All-from_recursion (λ (r : Role). IsOf g limits capacity front (own r.who front) r) (other_roles limits) (others_stand 2 (count limits - 1) (omega arith) (omega (arith, client))));
      once = once_by_whos limits everyone whos_are;
    }

    pub all_there : HaveAllRoles limits everyone
    all_there = has_by_whos limits everyone whos_are

    pub first_played : IsFirstPlayed limits front everyone
    first_played = record {
      at = 0;
      first = first;
      is_there = refl;
      is_first = who;
      ended = of.rests ended;
      front = front;
      starts = starts_itself front;
      mine = refl;
      alone = λ other actor apart. none_yet other apart;
    }

-- ---- who has finished takes no part in the rounds

awake_new : (limits : Limits) (numbers : List ℕ) → map awake (map (λ (number : ℕ). new_role (actor_of limits number)) numbers) ≡ map (λ (number : ℕ). new_role (actor_of limits number)) numbers
awake_new limits [] = refl
awake_new limits (number ∷ numbers) = ap (λ (roles : List Role). new_role (actor_of limits number) ∷ roles) (awake_new limits numbers)

module _ (g : Given) (limits : Limits) (capacity : ℕ) where
  over_turn : (history : List Entry) (r : Role) → r.place.stage ≡ Over → turned g limits capacity history r ≡ ended_turn history r
  over_turn history r over =
      turned_is g limits capacity (λ (t : Turned). t ≡ ended_turn history r) history r (λ ends. refl)
      (λ on. absurd (on_off _ (or_on r.ended (ends_at r.place.stage (is_over_in limits capacity history)) (ap (λ (at : Stage). ends_at at (is_over_in limits capacity history)) over)) on))

  record Beside (s t : Scene) : Type 0 where
    first : Role
    over : first.place.stage ≡ Over
    is : s ≡ scene t.history (first ∷ t.roles)

  beside : (n : ℕ) (history : List Entry) (r : Role) (roles : List Role) → r.place.stage ≡ Over → Beside (rounds g limits capacity n (scene history (r ∷ roles))) (rounds g limits capacity n (scene history roles))
  beside zero history r roles over = record { first = r; over = over; is = refl }
  beside (suc n) history r roles over =
      let b = beside n history r roles over in
      let u = rounds g limits capacity n (scene history roles) in
      record {
        first = record b.first { ended = true };
        over = b.over;
        is = ap (λ (t : Scene). round_of g limits capacity t.history t.roles) b.is
            ∙ ap (λ (t : Turned). let rest = round_of g limits capacity t.history u.roles in scene rest.history (t.role ∷ rest.roles)) (over_turn u.history b.first b.over);
      }

  record Others (history : List Entry) (roles : List Role) (later : List Entry) (after : List Role) : Type 0 where
    rest : List Role
    played : ArePlayed g limits capacity (scene history roles) (scene later rest)
    first : Role
    is : after ≡ first ∷ rest

  others_played : (history : List Entry) (r : Role) (roles : List Role) (later : List Entry) (after : List Role) → r.place.stage ≡ Over → ArePlayed g limits capacity (scene history (r ∷ roles)) (scene later after) → Others history roles later after
  others_played history r roles later after over played =
      let b = beside played.0 history r roles over in
      let u = rounds g limits capacity played.0 (scene history roles) in
      let both : scene later after ≡ scene u.history (b.first ∷ u.roles) = sym played.1 ∙ b.is in
      record {
        rest = u.roles;
        played = (played.0, ap (λ (h : List Entry). scene h u.roles) (sym (ap (λ (s : Scene). s.history) both)));
        first = b.first;
        is = ap (λ (s : Scene). s.roles) both;
      }

  pub alone_of : (front : List Entry) (first : Role) → ArePlayed g limits capacity (scene [] (new_role (Client 1) ∷ [])) (scene front (first ∷ [])) → IsOf g limits capacity front (own first.who front) first → first.who ≡ Client 1
      → first.ended ≡ true → (history : List Entry) (after : List Role) → HasPlayed g limits capacity front (first ∷ other_roles limits) history after → HaveEnded after → IsAlone g limits capacity history
  alone_of front first set_up of who ended history after played all_ended =
      let over : first.place.stage ≡ Over = finished_client 1 first.who first.place.stage who of.sorted (of.rests ended) in
      let awoken : map awake (other_roles limits) ≡ other_roles limits = awake_new limits (range_with_len 2 (limits.clients + limits.workers - 1)) in
      let others = others_played front (awake first) (map awake (other_roles limits)) history after over played in
      record {
        front = front;
        first = first;
        set_up = set_up;
        first_ended = ended;
        later = others.rest;
        rounds_of_others = subst (λ (roles : List Role). ArePlayed g limits capacity (scene front roles) (scene history others.rest)) awoken others.played;
        all_ended = All-tail (λ (r : Role). r.ended ≡ true) others.first others.rest (subst HaveEnded others.is all_ended);
      }

-- ---- in the program's words

abbrev opened : Limits → ℕ → Recording
opened limits capacity = record { limits = limits; capacity = capacity; history = [] }

recording_by : (now : Recording) (limits : Limits) (capacity : ℕ) (history : List Entry) → now.limits ≡ limits → now.capacity ≡ capacity → now.history ≡ history → now ≡ record { limits = limits; capacity = capacity; history = history }
recording_by now limits capacity history l c h =
    ap (λ (x : Limits). record { limits = x; capacity = now.capacity; history = now.history }) l
    ∙ (ap (λ (n : ℕ). record { limits = limits; capacity = n; history = now.history }) c ∙ ap (λ (xs : List Entry). record { limits = limits; capacity = capacity; history = xs }) h)

module _ (limits : Limits) (client : 1 ≤ limits.clients) (roles : List Role) (roles_are : roles ≡ all_roles limits) where
  parts_are : roles ≡ new_role (Client 1) ∷ other_roles limits
  parts_are = roles_are ∙ all_split limits client

  pub some_role : 0 < length roles
  some_role = let n : length roles ≡ suc (length (other_roles limits)) = ap length parts_are in omega (arith, n)

  pub first_is : (r : Role) → r ≡ get_or roles 0 r → r ≡ new_role (Client 1)
  first_is r at = at ∙ ap (λ (xs : List Role). get_or xs 0 r) parts_are

  first_set : (q : Role) → set roles 0 q ≡ q ∷ other_roles limits
  first_set q = ap (λ (xs : List Role). set xs 0 q) parts_are

module _ (g : Given) (limits : Limits) (capacity : ℕ) (client : 1 ≤ limits.clients) (roles : List Role) (roles_are : roles ≡ all_roles limits) (start : Recording) (limits_are : start.limits ≡ limits)
    (capacity_is : start.capacity ≡ capacity) (empty : start.history ≡ []) (r : Role) (at : r ≡ get_or roles 0 r) where
  start_is : start ≡ opened limits capacity
  start_is = recording_by start limits capacity [] limits_are capacity_is empty

  abbrev Stands : Recording → Role → Type 0
  Stands x q = IsOf g x.limits x.capacity x.history (own q.who x.history) q

  pub start_stands : Stands start r
  start_stands = subst (λ (x : Recording). Stands x r) (sym start_is) (subst (Stands (opened limits capacity)) (sym (first_is limits client roles roles_are r at)) (first_of g limits capacity client))

  pub start_alone : NeverWaits g (part.Client 1) first_progress → PlaysAlone g r
  start_alone calm = subst (PlaysAlone g) (sym (first_is limits client roles roles_are r at)) (first_alone g limits capacity client calm)

  module _ (now : Recording) (q : Role) (same : IsSameMachine start now) (played : ArePlayed g start.limits start.capacity (scene start.history (r ∷ [])) (scene now.history (q ∷ []))) (of : Stands now q) (who : q.who ≡ r.who)
      (ended : q.ended ≡ true) where
    pub now_limits : now.limits ≡ limits
    now_limits = same.limits ∙ limits_are

    pub now_capacity : now.capacity ≡ capacity
    now_capacity = same.capacity ∙ capacity_is

    now_is : now ≡ record { limits = limits; capacity = capacity; history = now.history }
    now_is = recording_by now limits capacity now.history now_limits now_capacity refl

    r_is : r ≡ new_role (Client 1)
    r_is = first_is limits client roles roles_are r at

    played' : ArePlayed g limits capacity (scene [] (new_role (Client 1) ∷ [])) (scene now.history (q ∷ []))
    played' =
        subst (λ (x : Recording). ArePlayed g x.limits x.capacity (scene x.history (new_role (Client 1) ∷ [])) (scene now.history (q ∷ []))) start_is
        (subst (λ (x : Role). ArePlayed g start.limits start.capacity (scene start.history (x ∷ [])) (scene now.history (q ∷ []))) r_is played)

    of' : IsOf g limits capacity now.history (own q.who now.history) q
    of' = subst (λ (x : Recording). Stands x q) now_is of

    who' : q.who ≡ Client 1
    who' = who ∙ ap who_of r_is

    abbrev later : List Role
    later = set roles 0 q

    later_is : later ≡ q ∷ other_roles limits
    later_is = first_set limits client roles roles_are q

    pub now_all : AllOf g now.limits now.capacity now.history later
    now_all = subst (λ (x : Recording). AllOf g x.limits x.capacity x.history later) (sym now_is) (subst (AllOf g limits capacity now.history) (sym later_is) (all_stand g limits capacity client now.history q played' of' who' ended))

    pub now_covers : HaveAllRoles now.limits later
    now_covers = subst (λ (l : Limits). HaveAllRoles l later) (sym now_limits) (subst (HaveAllRoles limits) (sym later_is) (all_there g limits capacity client now.history q played' of' who' ended))

    pub now_known : AreKnown now.limits now.history
    now_known = subst (λ (l : Limits). AreKnown l now.history) (sym now_limits) (front_known g limits capacity client now.history q played' of' who' ended)

    pub now_first : IsFirstPlayed now.limits now.history later
    now_first = subst (λ (l : Limits). IsFirstPlayed l now.history later) (sym now_limits) (subst (IsFirstPlayed limits now.history) (sym later_is) (first_played g limits capacity client now.history q played' of' who' ended))

    -- client 1 has finished, and no other has ended
    others_play : (numbers : List ℕ) → AllByRecursion (λ (r : Role). r.ended ≡ true → (r.place.stage ≡ Over) ⊎ (is_over_in limits capacity now.history ≡ true)) (map (λ (number : ℕ). new_role (actor_of limits number)) numbers)
    others_play [] = tt
    others_play (number ∷ numbers) = ((λ (on : false ≡ true). absurd cc), others_play numbers)

    pub now_well : EndedWell now.limits now.capacity now.history later
    now_well =
        let over : q.place.stage ≡ Over = finished_client 1 q.who q.place.stage who' of'.sorted (of'.rests ended) in
        subst (λ (x : Recording). EndedWell x.limits x.capacity x.history later) (sym now_is)
        (subst (EndedWell limits capacity now.history) (sym later_is)
        (All-from_recursion (λ (r : Role). r.ended ≡ true → (r.place.stage ≡ Over) ⊎ (is_over_in limits capacity now.history ≡ true)) (q ∷ other_roles limits) ((λ _. inl over), others_play (range_with_len 2 (limits.clients + limits.workers - 1)))))

    pub now_client : 1 ≤ now.limits.clients
    now_client = subst (λ (l : Limits). 1 ≤ l.clients) (sym now_limits) client

    pub now_worker : 1 ≤ limits.workers → 1 ≤ now.limits.workers
    now_worker worker = subst (λ (l : Limits). 1 ≤ l.workers) (sym now_limits) worker

    pub now_legal : (IsLegal start.limits start.capacity start.history → IsLegal now.limits now.capacity now.history) → IsLegal now.limits now.capacity now.history
    now_legal legal = legal (subst (λ (x : Recording). IsLegal x.limits x.capacity x.history) (sym start_is) tt)

    module _ (last : Recording) (after : List Role) (same_last : IsSameMachine now last) where
      pub last_limits : last.limits ≡ limits
      last_limits = same_last.limits ∙ now_limits

      pub last_capacity : last.capacity ≡ capacity
      last_capacity = same_last.capacity ∙ now_capacity

      pub last_legal : IsLegal last.limits last.capacity last.history → IsLegal limits capacity last.history
      last_legal legal = subst (λ (x : Recording). IsLegal x.limits x.capacity x.history) (recording_by last limits capacity last.history last_limits last_capacity refl) legal

      pub last_alone : HasPlayed g now.limits now.capacity now.history later last.history after → HaveEnded after → IsAlone g limits capacity last.history
      last_alone rounds_played all_ended =
          let rounds' : HasPlayed g limits capacity now.history (q ∷ other_roles limits) last.history after =
          subst (λ (xs : List Role). HasPlayed g limits capacity now.history xs last.history after) later_is (subst (λ (x : Recording). HasPlayed g x.limits x.capacity x.history later last.history after) now_is rounds_played) in
          alone_of g limits capacity now.history q played' of' who' ended last.history after rounds' all_ended

      pub last_drawn : (seed : ℕ) → AreDrawn g now.limits now.capacity seed (scene now.history later) (scene last.history after) → HaveEnded after → IsDrawn seed g limits capacity last.history
      last_drawn seed drawn all_ended = record {
        front = now.history;
        first = q;
        set_up = played';
        first_ended = ended;
        later = after;
        turns_of_others = subst (λ (xs : List Role). AreDrawn g limits capacity seed (scene now.history xs) (scene last.history after)) later_is
            (subst (λ (x : Recording). AreDrawn g x.limits x.capacity seed (scene now.history later) (scene last.history after)) now_is drawn);
        all_ended = all_ended;
      }
