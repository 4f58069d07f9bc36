-- What came of several lists in some order has their items: each once, and no others.
use Rattle.std.proofs.Common.{◌≡◌, ◌≢◌, ℕ, zero, suc, ◌+◌, ◌≤◌, ◌==◌, eqb, Bool, true, false, cond, List, [], ◌∷◌, ◌++◌, length, map, None, Some, is_some, refl, sym, ap, ap₂, ◌∙◌, subst, arith, append_assoc, length-append, eq-eqb, eqb-true, ne_eqb, filter}
use Rattle.std.specs.List.{cons_option, AllByRecursion, IsDistinct}
use Rattle.tp_base.specs.Actors.{is_same_actor}
use Rattle.tp_base.specs.declared.ids.Who.TheVariants.{Client}
use Rattle.tp_model.specs.Calls.Io.{issued_of}
use Rattle.tp_model.specs.History.{IsLegal}
use Rattle.tp_model.specs.World.{World}
use Rattle.tp_model.proofs.Refusals.{eqb_sym}
use Rattle.recorded.specs.Recordings.{room_of, world_behind, Recording}
use Rattle.port_facts.specs.Accepted.{MayCall}
use Rattle.port_facts.specs.Completions.{callbacks, completions, HaveCompleted, IsCompletable}
use Rattle.port_facts.specs.Interleaved.{completions_by, list_of, listed, numbers, of, AreListed, IsInterleaving}
use Rattle.port_facts.specs.declared.Completion.{Completion}
use Rattle.port_facts.specs.declared.Posted.{Posted}
use Rattle.port_facts.proofs.Completing.{are_completed}

-- ---- without one item

numbers_without : (P : ℕ → Type 0) (front back : List Completion) (c : Completion) → AllByRecursion P (numbers (front ++ c ∷ back)) → P c.callback × AllByRecursion P (numbers (front ++ back))
numbers_without P [] back c all = all
numbers_without P (x ∷ front) back c all =
    let more = numbers_without P front back c all.1 in
    (more.0, (all.0, more.1))

-- it differs from all others
distinct_without : (front back : List Completion) (c : Completion) → IsDistinct eqb (numbers (front ++ c ∷ back)) → AllByRecursion (λ n. eqb c.callback n ≡ false) (numbers (front ++ back)) × IsDistinct eqb (numbers (front ++ back))
unfolding IsDistinct
distinct_without [] back c distinct = distinct
distinct_without (x ∷ front) back c distinct =
    let more = distinct_without front back c distinct.1 in
    let own = numbers_without (λ n. eqb x.callback n ≡ false) front back c distinct.0 in
    ((eqb_sym c.callback x.callback ∙ own.0, more.0), (own.1, more.1))

-- ---- the lists without the first item of one of them

record Removed (devices : List (List Completion)) (device : ℕ) (c : Completion) (rest : List Completion) : Type 0 where
  next : List (List Completion)
  own : list_of next device ≡ rest
  others : (other : ℕ) → device ≢ other → list_of next other ≡ list_of devices other
  front : List Completion
  back : List Completion
  were : listed devices ≡ front ++ c ∷ back
  are : listed next ≡ front ++ back
  count : length next ≡ length devices
  least : 1 ≤ device
  most : device ≤ length devices

removed : (devices : List (List Completion)) (device : ℕ) (c : Completion) (rest : List Completion) → list_of devices device ≡ c ∷ rest → Removed devices device c rest
removed devices zero c rest e = absurd cc
removed [] (suc device) c rest e = absurd cc
removed (list ∷ lists) (suc zero) c rest e =
    record {
      next = rest ∷ lists;
      own = refl;
      others = others;
      front = [];
      back = rest ++ listed lists;
      were = ap (λ l. l ++ listed lists) e;
      are = refl;
      count = refl;
      least = omega arith;
      most = omega arith;
    }
  where
    others : (other : ℕ) → suc zero ≢ other → list_of (rest ∷ lists) other ≡ list_of (list ∷ lists) other
    others zero apart = refl
    others (suc zero) apart = absurd (apart refl)
    others (suc (suc other)) apart = refl
removed (list ∷ lists) (suc (suc device)) c rest e =
    let more : Removed lists (suc device) c rest = removed lists (suc device) c rest e in
    record {
      next = list ∷ more.next;
      own = more.own;
      others = others more.next more.others;
      front = list ++ more.front;
      back = more.back;
      were = ap (λ l. list ++ l) more.were ∙ sym (append_assoc list more.front (c ∷ more.back));
      are = ap (λ l. list ++ l) more.are ∙ sym (append_assoc list more.front more.back);
      count = ap suc more.count;
      least = omega arith;
      most = omega (arith, more.most);
    }
  where
    others : (next : List (List Completion)) → ((other : ℕ) → suc device ≢ other → list_of next other ≡ list_of lists other)
        → (other : ℕ) → suc (suc device) ≢ other → list_of (list ∷ next) other ≡ list_of (list ∷ lists) other
    others next same zero apart = refl
    others next same (suc zero) apart = refl
    others next same (suc (suc other)) apart = same (suc other) (λ h. apart (ap suc h))

-- ---- what came first

of_own : (x : Posted) (posted : List Posted) → of x.device (x ∷ posted) ≡ x.completion ∷ of x.device posted
of_own x posted = ap (λ b. map (λ (y : Posted). y.completion) (cond b (x ∷ filter (λ (y : Posted). y.device == x.device) posted) (filter (λ (y : Posted). y.device == x.device) posted))) (eq-eqb x.device x.device refl)

of_other : (device : ℕ) (x : Posted) (posted : List Posted) → (x.device == device) ≡ false → of device (x ∷ posted) ≡ of device posted
of_other device x posted apart = ap (λ b. map (λ (y : Posted). y.completion) (cond b (x ∷ filter (λ (y : Posted). y.device == device) posted) (filter (λ (y : Posted). y.device == device) posted))) apart

-- it is the first of its device's list, and what came then is of the lists without it
record Came (devices : List (List Completion)) (x : Posted) (posted : List Posted) : Type 0 where
  without : Removed devices x.device x.completion (of x.device posted)
  rest : IsInterleaving without.next posted

came : (devices : List (List Completion)) (x : Posted) (posted : List Posted) → IsInterleaving devices (x ∷ posted) → Came devices x posted
came devices x posted is =
    let first = removed devices x.device x.completion (of x.device posted) (sym (is x.device) ∙ of_own x posted) in
    record { without = first; rest = λ device. each first device (x.device == device) refl }
  where
    each : (first : Removed devices x.device x.completion (of x.device posted)) (device : ℕ) (same : Bool) → (x.device == device) ≡ same → of device posted ≡ list_of first.next device
    each first device true e =
        let at : x.device ≡ device = eqb-true x.device device e in
        subst (λ d. of d posted ≡ list_of first.next d) at (sym first.own)
    each first device false e =
        sym (of_other device x posted e) ∙ (is device ∙ sym (first.others device (λ h. absurd (not_both (eq-eqb x.device device h) e))))
      where
        not_both : {b : Bool} → b ≡ true → b ≡ false → ⊥
        not_both t f = let same : true ≡ false = sym t ∙ f in absurd cc

-- nothing is left where nothing came
none_listed : (devices : List (List Completion)) → IsInterleaving devices [] → listed devices ≡ []
none_listed [] is = refl
none_listed (list ∷ lists) is = ap₂ (λ xs ys. xs ++ ys) (sym (is 1)) (none_listed lists rest)
  where
    rest : (device : ℕ) → [] ≡ list_of lists device
    rest zero = refl
    rest (suc device) = is (suc (suc device))

-- ---- all that came

length_posted : (devices : List (List Completion)) (posted : List Posted) → IsInterleaving devices posted → length posted ≡ length (listed devices)
length_posted devices [] is = sym (ap length (none_listed devices is))
length_posted devices (x ∷ posted) is =
    let c = came devices x posted is in
    let more : length posted ≡ length (listed c.without.next) = length_posted c.without.next posted c.rest in
    omega (arith, more, ap length c.without.are, ap length c.without.were, length-append c.without.front c.without.back, length-append c.without.front (x.completion ∷ c.without.back))

numbers_posted : (P : ℕ → Type 0) (devices : List (List Completion)) (posted : List Posted) → IsInterleaving devices posted → AllByRecursion P (numbers (listed devices)) → AllByRecursion P (callbacks posted)
numbers_posted P devices [] is all = tt
numbers_posted P devices (x ∷ posted) is all =
    let c = came devices x posted is in
    let parts = numbers_without P c.without.front c.without.back x.completion (subst (λ l. AllByRecursion P (numbers l)) c.without.were all) in
    (parts.0, numbers_posted P c.without.next posted c.rest (subst (λ l. AllByRecursion P (numbers l)) (sym c.without.are) parts.1))

distinct_posted : (devices : List (List Completion)) (posted : List Posted) → IsInterleaving devices posted → IsDistinct eqb (numbers (listed devices)) → IsDistinct eqb (callbacks posted)
unfolding IsDistinct
distinct_posted devices [] is distinct = tt
distinct_posted devices (x ∷ posted) is distinct =
    let c = came devices x posted is in
    let parts = distinct_without c.without.front c.without.back x.completion (subst (λ l. IsDistinct eqb (numbers l)) c.without.were distinct) in
    let apart : AllByRecursion (λ n. eqb x.completion.callback n ≡ false) (callbacks posted) =
    numbers_posted (λ n. eqb x.completion.callback n ≡ false) c.without.next posted c.rest (subst (λ l. AllByRecursion (λ n. eqb x.completion.callback n ≡ false) (numbers l)) (sym c.without.are) parts.0) in
    (apart, distinct_posted c.without.next posted c.rest (subst (λ l. IsDistinct eqb (numbers l)) (sym c.without.are) parts.1))

completable : (w : World) (devices : List (List Completion)) (posted : List Posted) → IsInterleaving devices posted → ((client : ℕ) → 2 ≤ client → client ≤ length devices + 1 → MayCall w client)
    → AllByRecursion (λ n. is_some (issued_of w n) ≡ true) (callbacks posted) → AllByRecursion (IsCompletable w) posted
completable w devices [] is may issued = tt
completable w devices (x ∷ posted) is may issued =
    let c = came devices x posted is in
    let own : MayCall w (x.device + 1) = may (x.device + 1) (omega (arith, c.without.least)) (omega (arith, c.without.most)) in
    (record { client = own; issued = issued.0 }, completable w c.without.next posted c.rest (λ client above below. may client above (omega (arith, below, c.without.count))) issued.1)

pub are_interleaved : (r : Recording) (devices : List (List Completion)) (posted : List Posted) → IsLegal r.limits r.capacity r.history → AreListed (world_behind r) devices → length (listed devices) ≤ room_of r → IsInterleaving devices posted → HaveCompleted r posted
are_interleaved r devices posted legal may fits is =
    let w : World = world_behind r in
    are_completed r posted legal
    (record {
      each = completable w devices posted is may.clients (numbers_posted (λ n. is_some (issued_of w n) ≡ true) devices posted is may.issued);
      distinct = distinct_posted devices posted is may.distinct;
    }) (omega (arith, length_posted devices posted is, fits))

-- ---- what the history has of a device

same_client : (a b : ℕ) (same : Bool) → (a == b) ≡ same → is_same_actor (Client (a + 1)) (Client (b + 1)) ≡ same
same_client a b true e = eq-eqb (a + 1) (b + 1) (ap (λ n. n + 1) (eqb-true a b e))
same_client a b false e = ne_eqb (a + 1) (b + 1) (λ h. of_bool (eq-eqb a b (omega (arith, h))))
  where
    of_bool : (a == b) ≡ true → ⊥
    of_bool t = let both : true ≡ false = sym t ∙ e in absurd cc

pub by_device : (device : ℕ) (posted : List Posted) → completions_by device (completions posted) ≡ of device posted
by_device device [] = refl
by_device device (x ∷ posted) = with_first (x.device == device) refl (by_device device posted)
  where
    with_first : (same : Bool) → (x.device == device) ≡ same → completions_by device (completions posted) ≡ of device posted → completions_by device (completions (x ∷ posted)) ≡ of device (x ∷ posted)
    with_first true e rest =
        ap (λ b. cons_option (cond b (Some x.completion) None) (completions_by device (completions posted))) (same_client x.device device true e)
        ∙ ap (λ l. x.completion ∷ l) rest
        ∙ sym (ap (λ b. map (λ (y : Posted). y.completion) (cond b (x ∷ filter (λ (y : Posted). y.device == device) posted) (filter (λ (y : Posted). y.device == device) posted))) e)
    with_first false e rest =
        ap (λ b. cons_option (cond b (Some x.completion) None) (completions_by device (completions posted))) (same_client x.device device false e)
        ∙ rest ∙ sym (of_other device x posted e)
