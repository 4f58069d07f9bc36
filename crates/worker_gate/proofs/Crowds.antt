-- Actors that are dealt into crews, and gathered.
use Rattle.std.proofs.Common.{◌≡◌, ℕ, zero, suc, ◌+◌, ◌-◌, ◌<◌, ◌≤◌, inl, inr, Bool, true, false, eqb, eq-eqb, eqb-true, List, [], ◌∷◌, ◌++◌, Some, length, map, set, get_or, slice_get, refl, sym, ap, subst, ◌∙◌, append_assoc, arith, remove, All, IsPermutation}
use Rattle.std.specs.List.{flat_map, range_with_len, AllByRecursion, Contains, IsDistinct}
use Rattle.std.proofs.lemmas.List.{length-map, map-append}
use Rattle.std.proofs.lemmas.List.Elements.{All-append, All-cons, All-from_recursion, All-head, All-tail, recursion_from_All}
use Rattle.std.proofs.lemmas.List.FromFn.{get_or-range_with_len, length-range_with_len}
use Rattle.std.proofs.lemmas.List.Sorted.{All-permutation, Contains-permutation, IsPermutation-append_comm, IsPermutation-append_left, IsPermutation-append_right, IsPermutation-cons, IsPermutation-map, IsPermutation-refl, IsPermutation-trans}
use Rattle.std.proofs.lemmas.Map.Keys.{apart_from_distinct, IsDistinct-from_apart, IsDistinct-IsPermutation}
use Rattle.std.proofs.lemmas.Option.{get_or_from_slice_get, slice_get-get_or, slice_get_within}
use Rattle.tp_base.specs.declared.answers.Entry.{Entry}
use Rattle.tp_base.specs.declared.ids.Who.{Who}
use Rattle.tp_base.specs.declared.ids.Who.TheVariants.{Client}
use Rattle.tp_base.specs.declared.limits.Limits.{Limits}
use Rattle.tp_model.specs.Stages.{is_in_part, IsActor}
use Rattle.turn_lock.specs.declared.seats.Seat.{Seat}
use Rattle.turn_lock.specs.declared.views.Setup.{Setup}
use Rattle.turn_lock.specs.Locks.{AreDealt}
use Rattle.turn_lock.specs.Histories.{actor_of, own}
use Rattle.turn_lock.specs.Seats.{actor_in, mine_of, number_of, seen_of, setup_in}
use Rattle.turn_lock.proofs.Beginnings.{actors_apart}
use Rattle.shared_pool.specs.declared.pool.SharedPool.{SharedPool}
use Rattle.shared_pool.specs.Pools.{lock_in, pool_setup, setup_at, IsPlayer}
use Rattle.worker_gate.specs.declared.actor.Actor.{Actor}
use Rattle.worker_gate.specs.declared.role.Role.{Role}
use Rattle.worker_gate.specs.Acting.{has_ended, seat_in, GoesOn, IsReady}
use Rattle.worker_gate.specs.Closing.{AllBack, FirstTold, HasHeard, HasTold, HaveHeard}
use Rattle.worker_gate.specs.Crews.{AllReady, AreCrewsBack, GoOn, HasCause, HasStopped, HaveCauses}
use Rattle.worker_gate.specs.Crowds.{number_in, AreNew, IsNewActor, IsNewSeat}
use Rattle.part_places.specs.Places.{Given}
use Rattle.worker_gate.specs.Roles.{new_role, IsOf}
use Rattle.worker_gate.proofs.Acting.{asked_ready}
use Rattle.worker_gate.proofs.Back.{at_all, is_actor_of, mapped, number_for}
use Rattle.worker_gate.proofs.OneThread.{first_actor}
use Rattle.worker_gate.proofs.Playing.{at_place}
use Rattle.worker_gate.proofs.RoleFacts.{new_is}
use Rattle.worker_gate.proofs.Tellings.{own_seen}
use Rattle.worker_gate.proofs.Walking.{own_append}

-- ---- dealing

all_split : {A : Type 0} → (P : A → Type 0) (xs ys : List A) → AllByRecursion P (xs ++ ys) → AllByRecursion P xs × AllByRecursion P ys
all_split P [] ys all = (tt, all)
all_split P (x ∷ xs) ys all = let rest = all_split P xs ys all.1 in ((all.0, rest.0), rest.1)

pub one_of : {A : Type 0} → (P : A → Type 0) (xs : List A) (x : A) (ys : List A) → All P (xs ++ x ∷ ys) → P x
one_of P xs x ys all = (all_split P xs (x ∷ ys) (recursion_from_All P (xs ++ x ∷ ys) all)).1.0

-- one more element in one of the parts
module _ {X A : Type 0} (f : X → List A) where
  pub dealt_more : (xs : List X) (k : ℕ) (x y : X) (a : A) → k < length xs → x ≡ get_or xs k x → f y ≡ f x ++ a ∷ [] → IsPermutation (flat_map f xs ++ a ∷ []) (flat_map f (set xs k y))
  dealt_more [] k x y a inside at is = absurd (omega (arith, inside))
  dealt_more (z ∷ xs) zero x y a inside at is =
      let front : f z ++ a ∷ [] ≡ f y = sym (is ∙ ap (λ (w : X). f w ++ a ∷ []) at) in
      subst (λ (l : List A). IsPermutation l (f y ++ flat_map f xs)) (sym (append_assoc (f z) (flat_map f xs) (a ∷ [])))
      (subst (λ (l : List A). IsPermutation (f z ++ (flat_map f xs ++ a ∷ [])) (l ++ flat_map f xs)) front
      (subst (IsPermutation (f z ++ (flat_map f xs ++ a ∷ []))) (sym (append_assoc (f z) (a ∷ []) (flat_map f xs)))
      (IsPermutation-append_right (f z) (flat_map f xs ++ a ∷ []) (a ∷ flat_map f xs) (IsPermutation-append_comm (flat_map f xs) (a ∷ [])))))
  dealt_more (z ∷ xs) (suc k) x y a inside at is =
      subst (λ (l : List A). IsPermutation l (f z ++ flat_map f (set xs k y))) (sym (append_assoc (f z) (flat_map f xs) (a ∷ [])))
      (IsPermutation-append_right (f z) (flat_map f xs ++ a ∷ []) (flat_map f (set xs k y)) (dealt_more xs k x y a (omega (arith, inside)) at is))

  pub dealt_next : (done : List A) (xs : List X) (k : ℕ) (x y : X) (a : A) → IsPermutation done (flat_map f xs) → k < length xs → x ≡ get_or xs k x → f y ≡ f x ++ a ∷ [] → IsPermutation (done ++ a ∷ []) (flat_map f (set xs k y))
  dealt_next done xs k x y a so inside at is =
      IsPermutation-trans (done ++ a ∷ []) (flat_map f xs ++ a ∷ []) (flat_map f (set xs k y)) (IsPermutation-append_left (a ∷ []) done (flat_map f xs) so) (dealt_more xs k x y a inside at is)

  parts_by : (P : A → Type 0) (xs : List X) → AllByRecursion P (flat_map f xs) → AllByRecursion (All P) (map f xs)
  parts_by P [] all = tt
  parts_by P (x ∷ xs) all = let both = all_split P (f x) (flat_map f xs) all in (All-from_recursion P (f x) both.0, parts_by P xs both.1)

  -- what holds of all holds in each part
  pub all_parts : (P : A → Type 0) (xs : List X) → All P (flat_map f xs) → All (All P) (map f xs)
  all_parts P xs all = All-from_recursion (All P) (map f xs) (parts_by P xs (recursion_from_All P (flat_map f xs) all))

  whole_by : (P : A → Type 0) (xs : List X) → AllByRecursion (All P) (map f xs) → All P (flat_map f xs)
  whole_by P [] all = λ k d inside. absurd (omega (arith, inside))
  whole_by P (x ∷ xs) all = All-append P (f x) (flat_map f xs) all.0 (whole_by P xs all.1)

  -- and the other way round
  pub parts_all : (P : A → Type 0) (xs : List X) → All (All P) (map f xs) → All P (flat_map f xs)
  parts_all P xs all = whole_by P xs (recursion_from_All (All P) (map f xs) all)

  flat_mapped : (xs : List X) → flat_map (λ (l : List A). l) (map f xs) ≡ flat_map f xs
  flat_mapped [] = refl
  flat_mapped (x ∷ xs) = ap (λ (l : List A). f x ++ l) (flat_mapped xs)

-- ---- numbers

between : (i j : ℕ) → (i < j → ⊥) → (j < i → ⊥) → i ≡ j
between i j up down = omega (arith, up, down)

off_on : (b : Bool) → b ≡ false → b ≡ true → ⊥
off_on true off on = absurd (cc)
off_on false off on = absurd (cc)

eqb_off : (a b : ℕ) (x : Bool) → eqb a b ≡ x → (a ≡ b → ⊥) → x ≡ false
eqb_off a b true is apart = absurd (apart (eqb-true a b is))
eqb_off a b false is apart = refl

flips_by : (a b : ℕ) (x y : Bool) → eqb a b ≡ x → eqb b a ≡ y → x ≡ y
flips_by a b true y is other = sym (sym other ∙ eq-eqb b a (sym (eqb-true a b is)))
flips_by a b false true is other = sym is ∙ eq-eqb a b (sym (eqb-true b a other))
flips_by a b false false is other = refl

eqb_flips : (a b : ℕ) → eqb a b ≡ eqb b a
eqb_flips a b = flips_by a b (eqb a b) (eqb b a) refl refl

range_distinct : (first count : ℕ) → IsDistinct eqb (range_with_len first count)
range_distinct first count =
    IsDistinct-from_apart eqb (range_with_len first count) (λ i j d less inside.
    let n = length-range_with_len first count in
    let low : j < count = omega (arith, inside, n) in
    let a = get_or-range_with_len first count i d (omega (arith, less, low)) in
    let b = get_or-range_with_len first count j d low in
    eqb_off (get_or (range_with_len first count) i d) (get_or (range_with_len first count) j d) (eqb (get_or (range_with_len first count) i d) (get_or (range_with_len first count) j d)) refl (λ same. absurd (omega (arith, less, a, b, same))))

none_before : (xs ys : List Entry) → xs ++ ys ≡ [] → xs ≡ []
none_before [] ys none = refl
none_before (x ∷ xs) ys none = absurd (cc)

range_head : (count : ℕ) (n : ℕ) (rest : List ℕ) → n ∷ rest ≡ range_with_len 1 count → n ≡ 1
range_head zero n rest is = absurd (cc)
range_head (suc count) n rest is = cc

module _ {B : Type 0} where
  -- no two actors have one number, and each number has one, as before they were dealt
  module _ (actors : List (Actor B)) (count : ℕ) (moved : IsPermutation (range_with_len 1 count) (map number_in actors)) where
    distinct : IsDistinct eqb (map number_in actors)
    distinct = IsDistinct-IsPermutation eqb eqb_flips (range_with_len 1 count) (map number_in actors) moved (range_distinct 1 count)

    apart_at : (i j : ℕ) (a b : Actor B) → slice_get actors i ≡ Some a → slice_get actors j ≡ Some b → number_in a ≡ number_in b → i < j → ⊥
    apart_at i j a b at_i at_j same less =
        let x = mapped number_in actors i a at_i in
        let y = mapped number_in actors j b at_j in
        let off = apart_from_distinct eqb (map number_in actors) i j 0 distinct less (slice_get_within (map number_in actors) j (number_in b) y) in
        let p : get_or (map number_in actors) i 0 ≡ number_in a = get_or_from_slice_get (map number_in actors) i (number_in a) 0 x in
        let q : get_or (map number_in actors) j 0 ≡ number_in b = get_or_from_slice_get (map number_in actors) j (number_in b) 0 y in
        off_on (eqb (get_or (map number_in actors) i 0) (get_or (map number_in actors) j 0)) off (eq-eqb (get_or (map number_in actors) i 0) (get_or (map number_in actors) j 0) (p ∙ (same ∙ sym q)))

    pub once_by : (i j : ℕ) (a b : Actor B) → slice_get actors i ≡ Some a → slice_get actors j ≡ Some b → number_in a ≡ number_in b → i ≡ j
    once_by i j a b at_i at_j same = between i j (apart_at i j a b at_i at_j same) (apart_at j i b a at_j at_i (sym same))

    pub all_by : (number : ℕ) → 1 ≤ number → number ≤ count → (k : ℕ) × (a : Actor B) × (slice_get actors k ≡ Some a) × (number_in a ≡ number)
    all_by number least most =
        let n = length-range_with_len 1 count in
        let one : 1 + (number - 1) ≡ number = omega (arith, least) in
        let there : Contains (range_with_len 1 count) number = (number - 1, omega (arith, least, most, n), get_or-range_with_len 1 count (number - 1) number (omega (arith, least, most)) ∙ one) in
        let now = Contains-permutation (range_with_len 1 count) (map number_in actors) number moved there in
        let at : slice_get (map number_in actors) now.0 ≡ Some number = slice_get-get_or (map number_in actors) now.0 number now.1 ∙ ap Some now.2 in
        let a = at_place number_in actors now.0 number at in
        (now.0, a.0, a.1, a.2)

  -- ---- the same numbers, in their order

  told_numbers : (first : Actor B) (others later : List (Actor B)) → HaveHeard first others later → map number_in later ≡ map number_in others
  told_numbers first [] [] heard = refl
  told_numbers first (a ∷ others) (b ∷ later) heard =
      ap (λ (n : ℕ). n ∷ map number_in later) heard.0.goes_on.same.number ∙ ap (λ (l : List ℕ). number_in a ∷ l) (told_numbers first others later heard.1)
  told_numbers first [] (b ∷ later) heard = absurd heard
  told_numbers first (a ∷ others) [] heard = absurd heard

  crew_numbers : (crew later : List (Actor B)) → GoOn crew later → map number_in later ≡ map number_in crew
  crew_numbers [] [] on = refl
  crew_numbers (a ∷ crew) (b ∷ later) on = ap (λ (n : ℕ). n ∷ map number_in later) on.0.same.number ∙ ap (λ (l : List ℕ). number_in a ∷ l) (crew_numbers crew later on.1)
  crew_numbers [] (b ∷ later) on = absurd on
  crew_numbers (a ∷ crew) [] on = absurd on

  abbrev joined : List (List (Actor B)) → List (Actor B)
  joined crews = flat_map (λ (crew : List (Actor B)). crew) crews

  crews_numbers : (g : Given) (crews laters : List (List (Actor B))) → AreCrewsBack g crews laters → map number_in (joined laters) ≡ map number_in (joined crews)
  crews_numbers g [] [] back = refl
  crews_numbers g (crew ∷ crews) (later ∷ laters) back =
      map-append number_in later (joined laters)
      ∙ (ap (λ (l : List ℕ). l ++ map number_in (joined laters)) (crew_numbers crew later back.0.go_on)
      ∙ (ap (λ (l : List ℕ). map number_in crew ++ l) (crews_numbers g crews laters back.1) ∙ sym (map-append number_in crew (joined crews))))
  crews_numbers g [] (later ∷ laters) back = absurd back
  crews_numbers g (crew ∷ crews) [] back = absurd back

  -- ---- why they make no call

  has_stopped : (g : Given) (a b : Actor B) → HasCause g a b → HasStopped g b
  has_stopped g a b (inl ended) = inl ended
  has_stopped g a b (inr (inl met)) = inr (inl (omega (arith, met)))
  has_stopped g a b (inr (inr held)) = inr (inr held)

  crew_stopped : (g : Given) (crew later : List (Actor B)) → HaveCauses g crew later → AllByRecursion (HasStopped g) later
  crew_stopped g [] [] causes = tt
  crew_stopped g (a ∷ crew) (b ∷ later) causes = (has_stopped g a b causes.0, crew_stopped g crew later causes.1)
  crew_stopped g [] (b ∷ later) causes = absurd causes
  crew_stopped g (a ∷ crew) [] causes = absurd causes

  crews_stopped : (g : Given) (crews laters : List (List (Actor B))) → AreCrewsBack g crews laters → AllByRecursion (All (HasStopped g)) laters
  crews_stopped g [] [] back = tt
  crews_stopped g (crew ∷ crews) (later ∷ laters) back = (All-from_recursion (HasStopped g) later (crew_stopped g crew later back.0.causes), crews_stopped g crews laters back.1)
  crews_stopped g [] (later ∷ laters) back = absurd back
  crews_stopped g (crew ∷ crews) [] back = absurd back

  -- ---- new actors

  -- a new actor is one of any routines
  new_ready : (g : Given) (pool : SharedPool B) (a : Actor B) → IsPlayer pool a.seat → IsNewActor (setup_at pool).limits a → IsReady g pool a
  new_ready g pool a player new =
      let limits = (setup_in a.seat).limits in
      let actor : IsActor limits (actor_in a.seat) = subst (λ (l : Limits). IsActor l (actor_in a.seat)) (sym new.seat.limits_are) new.seat.actor in
      record {
        player = player;
        of = subst (IsOf g limits (setup_in a.seat).capacity (seen_of a.seat) (mine_of a.seat)) (sym new.role)
            (subst (λ (es : List Entry). IsOf g limits (setup_in a.seat).capacity (seen_of a.seat) es (new_role (actor_in a.seat))) (sym new.seat.mine) (new_is g limits (setup_in a.seat).capacity (seen_of a.seat) (actor_in a.seat) actor));
      }

  heard_ready : (g : Given) (pool : SharedPool B) (first a b : Actor B) → HasHeard first a b → IsReady g pool a → IsPlayer pool b.seat → IsReady g pool b
  heard_ready g pool first a b heard ready player = asked_ready g pool a b ready player heard.role_is (record { same = heard.goes_on.same; starts = heard.goes_on.starts; mine = heard.mine })

  told_ready : (g : Given) (pool : SharedPool B) (a b : Actor B) → HasTold a b → IsReady g pool a → IsPlayer pool b.seat → IsReady g pool b
  told_ready g pool a b told ready player = asked_ready g pool a b ready player told.role_is (record { same = told.goes_on.same; starts = told.goes_on.starts; mine = told.mine })

  all_heard : (g : Given) (pool : SharedPool B) (first : Actor B) (others later : List (Actor B)) → HaveHeard first others later → AllByRecursion (IsReady g pool) others → AllByRecursion (λ (b : Actor B). IsPlayer pool b.seat) later
      → AllByRecursion (IsReady g pool) later
  all_heard g pool first [] [] heard ready players = tt
  all_heard g pool first (a ∷ others) (b ∷ later) heard ready players = (heard_ready g pool first a b heard.0 ready.0 players.0, all_heard g pool first others later heard.1 ready.1 players.1)
  all_heard g pool first [] (b ∷ later) heard ready players = absurd heard
  all_heard g pool first (a ∷ others) [] heard ready players = absurd heard

  -- what the first had seen when it told the others has no entry of them
  heard_none : (limits : Limits) (first a b : Actor B) → HasHeard first a b → IsNewActor limits a → own (actor_in a.seat) (seen_of first.seat) ≡ []
  heard_none limits first a b heard new =
      let who : b.role.who ≡ actor_in a.seat = ap (λ (r : Role). r.who) (heard.role_is ∙ new.role) in
      let none : own (actor_in a.seat) (seen_of b.seat) ≡ [] = sym (ap (λ (w : Who). own w (seen_of b.seat)) who) ∙ (sym heard.own_is ∙ (heard.mine ∙ new.seat.mine)) in
      none_before (own (actor_in a.seat) (seen_of first.seat)) (own (actor_in a.seat) heard.told.rest)
      (sym (own_append (actor_in a.seat) (seen_of first.seat) heard.told.rest) ∙ (sym (ap (own (actor_in a.seat)) heard.told.is) ∙ none))

  all_none : (limits : Limits) (first : Actor B) (others later : List (Actor B)) → HaveHeard first others later → AllByRecursion (IsNewActor limits) others → AllByRecursion (λ (a : Actor B). own (actor_in a.seat) (seen_of first.seat) ≡ []) others
  all_none limits first [] [] heard new = tt
  all_none limits first (a ∷ others) (b ∷ later) heard new = (heard_none limits first a b heard.0 new.0, all_none limits first others later heard.1 new.1)
  all_none limits first [] (b ∷ later) heard new = absurd heard
  all_none limits first (a ∷ others) [] heard new = absurd heard

  -- ---- the seats of a new pool

  pub removed : (opened : List (Actor B)) (first : Actor B) (others : List (Actor B)) → 0 < length opened → first ≡ get_or opened 0 first → others ≡ remove opened 0 → opened ≡ first ∷ others
  removed [] first others some at rest = absurd (omega (arith, some))
  removed (a ∷ opened) first others some at rest = ap (λ (x : Actor B). x ∷ opened) (sym at) ∙ ap (λ (l : List (Actor B)). first ∷ l) (sym rest)

  pub some_opened : (pool : SharedPool B) (opened : List (Actor B)) → AreNew pool opened → 1 ≤ (setup_at pool).seats → 0 < length opened
  some_opened pool opened new seats =
      let n : length opened ≡ (setup_at pool).seats = sym (length-map opened number_in) ∙ (ap length new.numbers ∙ length-range_with_len 1 (setup_at pool).seats) in
      omega (arith, n, seats)

  module _ (pool : SharedPool B) (limits : Limits) (capacity : ℕ) (is : setup_at pool ≡ pool_setup limits capacity) where
    pub setup_its : setup_at pool ≡ pool_setup (setup_at pool).limits (setup_at pool).capacity
    setup_its = is ∙ (ap (λ (l : Limits). pool_setup l capacity) (sym (ap (λ (s : Setup). s.limits) is)) ∙ ap (pool_setup (setup_at pool).limits) (sym (ap (λ (s : Setup). s.capacity) is)))

    pub setup_client : 1 ≤ limits.clients → 1 ≤ (setup_at pool).limits.clients
    setup_client client = subst (λ (s : Setup). 1 ≤ s.limits.clients) (sym is) client

    pub setup_worker : 1 ≤ limits.workers → 1 ≤ (setup_at pool).limits.workers
    setup_worker worker = subst (λ (s : Setup). 1 ≤ s.limits.workers) (sym is) worker

    pub setup_seats : 1 ≤ limits.clients → 1 ≤ (setup_at pool).seats
    setup_seats client = subst (λ (s : Setup). 1 ≤ s.seats) (sym is) (omega (arith, client))

  -- the actors of a new pool's seats
  pub new_seats : (pool : SharedPool B) (limits : Limits) (capacity : ℕ) (seats : List (Seat B)) → setup_at pool ≡ pool_setup limits capacity → AreDealt (lock_in pool) seats → All (IsNewSeat limits) seats
  new_seats pool limits capacity seats is dealt k d inside =
      let new = dealt.each k d inside in
      let x : Seat B = get_or seats k d in
      let setup : setup_in x ≡ pool_setup limits capacity = new.setup_is ∙ is in
      let limits_are : (setup_in x).limits ≡ limits = ap (λ (s : Setup). s.limits) setup in
      let number : number_of x ≡ k + 1 = new.number_is in
      let most : length seats ≡ limits.clients + limits.workers = dealt.count ∙ ap (λ (s : Setup). s.seats) is in
      record {
        limits_are = limits_are;
        numbered = omega (arith, number);
        actor = subst (λ (l : Limits). IsActor limits (actor_of l (number_of x))) (sym limits_are) (is_actor_of limits (number_of x) (omega (arith, number)) (omega (arith, number, most, inside)));
        mine = new.mine;
      }

  new_numbers_from : (first : ℕ) (seats : List (Seat B)) → ((k : ℕ) (d : Seat B) → k < length seats → number_of (get_or seats k d) ≡ first + k) → map number_of seats ≡ range_with_len first (length seats)
  new_numbers_from first [] each = refl
  new_numbers_from first (seat ∷ seats) each =
      let head : number_of seat ≡ first = each 0 seat (omega arith) ∙ omega arith in
      ap (λ (n : ℕ). n ∷ map number_of seats) head
      ∙ ap (λ (l : List ℕ). first ∷ l) (new_numbers_from (first + 1) seats (λ k d inside. let at : number_of (get_or seats k d) ≡ first + suc k = each (suc k) d (omega (arith, inside)) in omega (arith, at)))

  new_numbers : (pool : SharedPool B) (seats : List (Seat B)) → AreDealt (lock_in pool) seats → map number_of seats ≡ range_with_len 1 (setup_at pool).seats
  new_numbers pool seats dealt =
      new_numbers_from 1 seats (λ k d inside. let at : number_of (get_or seats k d) ≡ k + 1 = (dealt.each k d inside).number_is in omega (arith, at)) ∙ ap (range_with_len 1) dealt.count

  seats_in : (actors : List (Actor B)) → map number_in actors ≡ map number_of (map seat_in actors)
  seats_in [] = refl
  seats_in (a ∷ actors) = ap (λ (l : List ℕ). number_in a ∷ l) (seats_in actors)

  players_by : (pool : SharedPool B) (actors : List (Actor B)) → AllByRecursion (IsPlayer pool) (map seat_in actors) → AllByRecursion (λ (a : Actor B). IsPlayer pool a.seat) actors
  players_by pool [] all = tt
  players_by pool (a ∷ actors) all = (all.0, players_by pool actors all.1)

  -- an actor with a new role on such a seat
  pub taken_one : (limits : Limits) (seat : Seat B) (a : Actor B) (number : ℕ) → IsNewSeat limits seat → a.seat ≡ seat → number ≡ number_of seat → a.role ≡ new_role (actor_of limits number) → IsNewActor limits a
  taken_one limits seat a number new seat_is number_is role_is =
      let a_new : IsNewSeat limits a.seat = subst (IsNewSeat limits) (sym seat_is) new in
      record {
        seat = a_new;
        role = role_is
            ∙ (ap (λ (n : ℕ). new_role (actor_of limits n)) (number_is ∙ sym (ap number_of seat_is)) ∙ ap (λ (l : Limits). new_role (actor_of l (number_of a.seat))) (sym a_new.limits_are));
      }

  pub taken_new : (pool : SharedPool B) (limits : Limits) (capacity : ℕ) (seats : List (Seat B)) (actors : List (Actor B)) → setup_at pool ≡ pool_setup limits capacity → AreDealt (lock_in pool) seats → All (IsPlayer pool) seats
      → map seat_in actors ≡ seats → All (IsNewActor limits) actors → AreNew pool actors
  taken_new pool limits capacity seats actors is dealt players seats_are new = record {
    players = All-from_recursion (λ (a : Actor B). IsPlayer pool a.seat) actors (players_by pool actors (recursion_from_All (IsPlayer pool) (map seat_in actors) (subst (All (IsPlayer pool)) (sym seats_are) players)));
    new = subst (λ (l : Limits). All (IsNewActor l) actors) (sym (ap (λ (s : Setup). s.limits) is)) new;
    numbers = seats_in actors ∙ (ap (map number_of) seats_are ∙ new_numbers pool seats dealt);
  }

  -- ---- all of it

  -- client 1 has finished on a new pool, and told the others
  module _ (g : Given) (pool : SharedPool B) (opened : List (Actor B)) (new : AreNew pool opened) (first finished told : Actor B) (others heard : List (Actor B)) (parts : opened ≡ first ∷ others)
      (setup_is : setup_at pool ≡ pool_setup (setup_at pool).limits (setup_at pool).capacity) (client : 1 ≤ (setup_at pool).limits.clients) (worker : 1 ≤ (setup_at pool).limits.workers) where
    abbrev limits : Limits
    limits = (setup_at pool).limits

    numbers_are : number_in first ∷ map number_in others ≡ range_with_len 1 (setup_at pool).seats
    numbers_are = ap (map number_in) (sym parts) ∙ new.numbers

    first_number : number_in first ≡ 1
    first_number = range_head (setup_at pool).seats (number_in first) (map number_in others) numbers_are

    all_players : All (λ (a : Actor B). IsPlayer pool a.seat) (first ∷ others)
    all_players = subst (All (λ (a : Actor B). IsPlayer pool a.seat)) parts new.players

    all_new : All (IsNewActor limits) (first ∷ others)
    all_new = subst (All (IsNewActor limits)) parts new.new

    first_new : IsNewActor limits first
    first_new = All-head (IsNewActor limits) first others all_new

    pub first_ready : IsReady g pool first
    first_ready = new_ready g pool first (All-head (λ (a : Actor B). IsPlayer pool a.seat) first others all_players) first_new

    pub others_players : All (λ (a : Actor B). IsPlayer pool a.seat) others
    others_players = All-tail (λ (a : Actor B). IsPlayer pool a.seat) first others all_players

    others_new : All (IsNewActor limits) others
    others_new = All-tail (IsNewActor limits) first others all_new

    others_by : (xs : List (Actor B)) → AllByRecursion (λ (a : Actor B). IsPlayer pool a.seat) xs → AllByRecursion (IsNewActor limits) xs → AllByRecursion (IsReady g pool) xs
    others_by [] players news = tt
    others_by (a ∷ xs) players news = (new_ready g pool a players.0 news.0, others_by xs players.1 news.1)

    first_is : first.role.who ≡ Client 1
    first_is =
        ap (λ (r : Role). r.who) first_new.role
        ∙ (ap (λ (l : Limits). actor_of l (number_in first)) first_new.seat.limits_are ∙ (ap (actor_of limits) first_number ∙ first_actor limits client))

    module _ (finishes : GoesOn first finished) (ready : IsReady g pool finished) (ended : is_in_part finished.role.place.stage ≡ false) (tells : HasTold finished told) (hears : HaveHeard finished others heard)
        (player : IsPlayer pool told.seat) (players : All (λ (a : Actor B). IsPlayer pool a.seat) heard) where
      told_is_ready : IsReady g pool told
      told_is_ready = told_ready g pool finished told tells ready player

      heard_are_ready : All (IsReady g pool) heard
      heard_are_ready =
          let players' = recursion_from_All (λ (a : Actor B). IsPlayer pool a.seat) others others_players in
          let ready' = others_by others players' (recursion_from_All (IsNewActor limits) others others_new) in
          All-from_recursion (IsReady g pool) heard (all_heard g pool finished others heard hears ready' (recursion_from_All (λ (a : Actor B). IsPlayer pool a.seat) heard players))

      told_who : told.role.who ≡ Client 1
      told_who = ap (λ (r : Role). r.who) tells.role_is ∙ (finishes.who_is ∙ first_is)

      told_number : number_in told ≡ number_in first
      told_number = tells.goes_on.same.number ∙ finishes.same.number

      -- no other had made an entry by then
      none_of_others : All (λ (a : Actor B). own (actor_in a.seat) (seen_of finished.seat) ≡ []) others
      none_of_others =
          All-from_recursion (λ (a : Actor B). own (actor_in a.seat) (seen_of finished.seat) ≡ []) others (all_none limits finished others heard hears (recursion_from_All (IsNewActor limits) others others_new))

      none_at : (who : Who) → (who ≡ Client 1 → ⊥) → (number : ℕ) → actor_of limits number ≡ who → (k : ℕ) (a : Actor B) → slice_get (first ∷ others) k ≡ Some a → number_in a ≡ number → own who (seen_of finished.seat) ≡ []
      none_at who apart number is zero a there at =
          let same : first ≡ a = cc in
          let one : number ≡ 1 = sym at ∙ (ap number_in (sym same) ∙ first_number) in
          absurd (apart (sym is ∙ (ap (actor_of limits) one ∙ first_actor limits client)))
      none_at who apart number is (suc k) a there at =
          let a_new : IsNewActor limits a = at_all (IsNewActor limits) others k a others_new there in
          let its : actor_in a.seat ≡ who = ap (λ (l : Limits). actor_of l (number_in a)) a_new.seat.limits_are ∙ (ap (actor_of limits) at ∙ is) in
          sym (ap (λ (w : Who). own w (seen_of finished.seat)) its) ∙ at_all (λ (x : Actor B). own (actor_in x.seat) (seen_of finished.seat) ≡ []) others k a none_of_others there

      seats_are : (setup_at pool).seats ≡ limits.clients + limits.workers
      seats_are = ap (λ (s : Setup). s.seats) setup_is

      none_yet : (who : Who) → IsActor limits who → (who ≡ Client 1 → ⊥) → own who (seen_of finished.seat) ≡ []
      none_yet who actor apart =
          let n = number_for limits who actor in
          let most = n.most in
          let seats = seats_are in
          let still : IsPermutation (range_with_len 1 (setup_at pool).seats) (map number_in (first ∷ others)) = subst (λ (l : List ℕ). IsPermutation l (map number_in (first ∷ others))) numbers_are (IsPermutation-refl (map number_in (first ∷ others))) in
          let a = all_by (first ∷ others) (setup_at pool).seats still n.number n.least (omega (arith, most, seats)) in
          none_at who apart n.number n.is a.0 a.1 a.2 a.3

      -- the others are dealt into crews, played, and gathered
      module _ {C : Type 0} (f : C → List (Actor B)) (crews : List C) (dealt : IsPermutation heard (flat_map f crews)) where
        pub crews_ready : All (AllReady g pool) (map f crews)
        crews_ready = all_parts f (IsReady g pool) crews (All-permutation (IsReady g pool) heard (flat_map f crews) dealt heard_are_ready)

        module _ (laters : List C) (actors : List (Actor B)) (later_ready : All (AllReady g pool) (map f laters)) (back : AreCrewsBack g (map f crews) (map f laters)) (gathered : IsPermutation (told ∷ flat_map f laters) actors) where
          crews_same : map number_in (flat_map f laters) ≡ map number_in (flat_map f crews)
          crews_same =
              ap (map number_in) (sym (flat_mapped f laters)) ∙ (crews_numbers g (map f crews) (map f laters) back ∙ ap (map number_in) (flat_mapped f crews))

          moved : IsPermutation (range_with_len 1 (setup_at pool).seats) (map number_in actors)
          moved =
              let start : number_in told ∷ map number_in heard ≡ range_with_len 1 (setup_at pool).seats = ap (λ (n : ℕ). n ∷ map number_in heard) told_number ∙ (ap (λ (l : List ℕ). number_in first ∷ l) (told_numbers finished others heard hears) ∙ numbers_are) in
              let out : IsPermutation (number_in told ∷ map number_in heard) (number_in told ∷ map number_in (flat_map f crews)) = IsPermutation-cons (number_in told) (map number_in heard) (map number_in (flat_map f crews)) (IsPermutation-map number_in heard (flat_map f crews) dealt) in
              let home : IsPermutation (number_in told ∷ map number_in (flat_map f laters)) (map number_in actors) = IsPermutation-map number_in (told ∷ flat_map f laters) actors gathered in
              subst (λ (l : List ℕ). IsPermutation l (map number_in actors)) start
              (IsPermutation-trans (number_in told ∷ map number_in heard) (number_in told ∷ map number_in (flat_map f crews)) (map number_in actors) out
              (subst (λ (l : List ℕ). IsPermutation (number_in told ∷ l) (map number_in actors)) crews_same home))

          all_ready : All (IsReady g pool) actors
          all_ready =
              All-permutation (IsReady g pool) (told ∷ flat_map f laters) actors gathered (All-cons (IsReady g pool) told (flat_map f laters) told_is_ready (parts_all f (IsReady g pool) laters later_ready))

          pub all_stopped : has_ended finished ≡ true → All (HasStopped g) actors
          all_stopped over =
              let crews_all = parts_all f (HasStopped g) laters (All-from_recursion (All (HasStopped g)) (map f laters) (crews_stopped g (map f crews) (map f laters) back)) in
              All-permutation (HasStopped g) (told ∷ flat_map f laters) actors gathered (All-cons (HasStopped g) told (flat_map f laters) (inl (ap (λ (r : Role). r.ended) tells.role_is ∙ over)) crews_all)

          its_actor : (k : ℕ) (a : Actor B) → slice_get actors k ≡ Some a → a.role.who ≡ actor_of limits (number_in a)
          its_actor k a at =
              let ready' : IsReady g pool a = at_all (IsReady g pool) actors k a all_ready at in
              a.is_its ∙ ap (λ (s : Setup). actor_of s.limits (number_in a)) ready'.player.of.setup_is

          pub all_are_back : AllBack g pool actors
          all_are_back = record {
            setup_is = setup_is;
            some_client = client;
            some_worker = worker;
            ready = all_ready;
            all = λ number least most.
                let a = all_by actors (setup_at pool).seats moved number least most in
                let there = mapped seat_in actors a.0 a.1 a.2 in
                (a.0, a.1.seat, slice_get_within (map seat_in actors) a.0 a.1.seat there, get_or_from_slice_get (map seat_in actors) a.0 a.1.seat a.1.seat there, a.3);
            once = λ i j a b at_i at_j same.
                once_by actors (setup_at pool).seats moved i j a b at_i at_j
                (actors_apart limits (number_in a) (number_in b) (sym (its_actor i a at_i) ∙ (same ∙ its_actor j b at_j)));
          }

          pub first_is_told : FirstTold limits actors
          first_is_told =
              let there = Contains-permutation (told ∷ flat_map f laters) actors told gathered (0, omega arith, refl) in
              record {
                at = there.0;
                first = told;
                is_there = slice_get-get_or actors there.0 told there.1 ∙ ap Some there.2;
                is_first = told_who;
                ended = ap (λ (r : Role). is_in_part r.place.stage) tells.role_is ∙ ended;
                front = seen_of finished.seat;
                seen = tells.goes_on.starts;
                mine = tells.mine ∙ (own_seen pool finished ready.player ∙ ap (λ (w : Who). own w (seen_of finished.seat)) (finishes.who_is ∙ first_is));
                alone = none_yet;
              }
