-- Which rows are of a list.
use Rattle.std.proofs.Common.{◌≡◌, ◌≢◌, ℕ, ◌+◌, ◌*◌, ◌<◌, ◌≤◌, Bool, true, false, not, ◌&&◌, ◌||◌, ◌==◌, List, [], ◌∷◌, if◌then◌else◌, refl, sym, ap, ◌∙◌, arith, ⊎_elim, eq-eqb}
use Rattle.std.specs.List.{AllByRecursion, list_any}
use Rattle.std.proofs.lemmas.Bool.{cases_eq, ne_eqb}
use Rattle.std.proofs.lemmas.Bool.Decides.{nat_tests}
use Rattle.tp_base.specs.declared.calls.Priority.{Priority}
use Rattle.tp_base.specs.declared.calls.Priority.TheVariants.{High, Normal, Low}
use Rattle.tp_base.specs.declared.ids.ObjectId.{ObjectId}
use Rattle.tp_base.specs.declared.rows.CallbackRow.{CallbackRow}
use Rattle.tp_base.specs.declared.rows.Status.{Status}
use Rattle.tp_base.specs.declared.rows.Status.TheVariants.{Expected, Issued, Pending, Running, Returned, Cancelled}
use Rattle.tp_base.specs.declared.rows.WaitTarget.TheVariants.{Object}
use Rattle.tp_model.specs.Calls.Io.{is_expected_of, is_issued_of}
use Rattle.tp_model.specs.Conditions.{is_operation_of}
use Rattle.tp_model.specs.Counts.{is_expected, is_issued, is_operating, is_pending, is_pending_in}
use Rattle.tp_model.specs.Waits.{is_held_for, is_outstanding_for}
use Rattle.live_callbacks.specs.Callbacks.{is_tied}
use Rattle.live_callbacks.specs.Lists.{IsAtHome, first_of_half, group_of, has_list, line_by, line_of, lines, object_of, priority_number, queue_number}
use Rattle.live_callbacks.specs.Queues.{is_queued}
use Rattle.live_callbacks.proofs.Found.{AllAgree}

eq_same : (a b c d : ℕ) → (a ≡ b → c ≡ d) → (c ≡ d → a ≡ b) → (a == b) ≡ (c == d)
eq_same a b c d to from =
    ⊎_elim
    (λ (same : c ≡ d). eq-eqb a b (from same) ∙ sym (eq-eqb c d same))
    (λ (other : c ≢ d). ne_eqb a b (λ e. other (to e)) ∙ sym (ne_eqb c d other))
    (cases_eq c d)

and_false : (b : Bool) → (b && false) ≡ false
and_false true = refl
and_false false = refl

pub priority_most : (p : Priority) → priority_number p ≤ 2
priority_most High = omega arith
priority_most Normal = omega arith
priority_most Low = omega arith

pub queue_most : (persistent : Bool) (p : Priority) → queue_number persistent p ≤ 5
queue_most true p = omega (arith, priority_most p)
queue_most false p = omega (arith, priority_most p)

module _ (pools objects : ℕ) where
  module _ (queue object own : ℕ) (in_queue : queue < 6 * pools) (mine : own ≤ objects) (within : object ≤ objects) where
    expected_by : (s : Status) → (line_by pools objects queue own s == 6 * pools + 2 * object) ≡ (is_expected s && (own == object))
    expected_by Expected = eq_same (6 * pools + 2 * own) (6 * pools + 2 * object) own object (λ e. omega (arith, e)) (λ e. omega (arith, e))
    expected_by Issued = ne_eqb (6 * pools + 2 * own + 1) (6 * pools + 2 * object) (λ e. absurd (omega (arith, e, within)))
    expected_by Pending = ne_eqb queue (6 * pools + 2 * object) (λ e. absurd (omega (arith, e, in_queue)))
    expected_by (Running worker associated slots) = ne_eqb (lines pools objects) (6 * pools + 2 * object) (λ e. absurd (omega (arith, e, within)))
    expected_by Returned = ne_eqb (lines pools objects) (6 * pools + 2 * object) (λ e. absurd (omega (arith, e, within)))
    expected_by Cancelled = ne_eqb (lines pools objects) (6 * pools + 2 * object) (λ e. absurd (omega (arith, e, within)))

    issued_by : (s : Status) → (line_by pools objects queue own s == 6 * pools + 2 * object + 1) ≡ (is_issued s && (own == object))
    issued_by Expected = ne_eqb (6 * pools + 2 * own) (6 * pools + 2 * object + 1) (λ e. absurd (omega (arith, e, mine)))
    issued_by Issued = eq_same (6 * pools + 2 * own + 1) (6 * pools + 2 * object + 1) own object (λ e. omega (arith, e)) (λ e. omega (arith, e))
    issued_by Pending = ne_eqb queue (6 * pools + 2 * object + 1) (λ e. absurd (omega (arith, e, in_queue)))
    issued_by (Running worker associated slots) = ne_eqb (lines pools objects) (6 * pools + 2 * object + 1) (λ e. absurd (omega (arith, e, within)))
    issued_by Returned = ne_eqb (lines pools objects) (6 * pools + 2 * object + 1) (λ e. absurd (omega (arith, e, within)))
    issued_by Cancelled = ne_eqb (lines pools objects) (6 * pools + 2 * object + 1) (λ e. absurd (omega (arith, e, within)))

  queue_same : (p pool k n : ℕ) → k ≤ 5 → n ≤ 5 → (6 * p + k == 6 * pool + n) ≡ ((p == pool) && (k == n))
  queue_same p pool k n kt nt =
      ⊎_elim
      (λ (same : p ≡ pool). eq_same (6 * p + k) (6 * pool + n) k n (λ e. omega (arith, e, same)) (λ e. omega (arith, e, same)) ∙ ap (λ b. b && (k == n)) (sym (eq-eqb p pool same)))
      (λ (other : p ≢ pool). ne_eqb (6 * p + k) (6 * pool + n) (λ e. other (omega (arith, e, kt, nt))) ∙ ap (λ b. b && (k == n)) (sym (ne_eqb p pool other)))
      (cases_eq p pool)

  module _ (p pool k n own : ℕ) (kt : k ≤ 5) (nt : n ≤ 5) (lt : pool < pools) where
    queue_by : (s : Status) → (line_by pools objects (6 * p + k) own s == 6 * pool + n) ≡ ((is_pending s && (p == pool)) && (k == n))
    queue_by Expected = ne_eqb (6 * pools + 2 * own) (6 * pool + n) (λ e. absurd (omega (arith, e, nt, lt)))
    queue_by Issued = ne_eqb (6 * pools + 2 * own + 1) (6 * pool + n) (λ e. absurd (omega (arith, e, nt, lt)))
    queue_by Pending = queue_same p pool k n kt nt
    queue_by (Running worker associated slots) = ne_eqb (lines pools objects) (6 * pool + n) (λ e. absurd (omega (arith, e, nt, lt)))
    queue_by Returned = ne_eqb (lines pools objects) (6 * pool + n) (λ e. absurd (omega (arith, e, nt, lt)))
    queue_by Cancelled = ne_eqb (lines pools objects) (6 * pool + n) (λ e. absurd (omega (arith, e, nt, lt)))

  abbrev pub AreAtHome : List CallbackRow → Type 0
  AreAtHome cs = AllByRecursion (IsAtHome pools objects) cs

  in_a_queue : (c : CallbackRow) → IsAtHome pools objects c → 6 * c.pool.0 + queue_number c.persistent c.priority < 6 * pools
  in_a_queue c home = omega (arith, home.0, queue_most c.persistent c.priority)

  pub expected_agree : (object : ℕ) → object ≤ objects → (cs : List CallbackRow) → AreAtHome cs → AllAgree (λ c. line_of pools objects c == 6 * pools + 2 * object) (is_expected_of object) cs
  expected_agree object within [] homes = tt
  expected_agree object within (c ∷ cs) homes =
      (expected_by (6 * c.pool.0 + queue_number c.persistent c.priority) object c.object.0 (in_a_queue c homes.0) homes.0.1 within c.status, expected_agree object within cs homes.1)

  pub issued_agree : (object : ℕ) → object ≤ objects → (cs : List CallbackRow) → AreAtHome cs → AllAgree (λ c. line_of pools objects c == 6 * pools + 2 * object + 1) (is_issued_of object) cs
  issued_agree object within [] homes = tt
  issued_agree object within (c ∷ cs) homes =
      (issued_by (6 * c.pool.0 + queue_number c.persistent c.priority) object c.object.0 (in_a_queue c homes.0) homes.0.1 within c.status, issued_agree object within cs homes.1)

  pub queue_agree : (pool n : ℕ) (persistent : Bool) (test : Priority → Bool) → n ≤ 2 → ((p : Priority) → (priority_number p == n) ≡ test p) → pool < pools → (cs : List CallbackRow)
      → AllAgree (λ c. line_of pools objects c == 6 * pool + (first_of_half persistent + n)) (is_queued pool persistent test) cs
  queue_agree pool n persistent test nt same lt [] = tt
  queue_agree pool n persistent test nt same lt (c ∷ cs) = (
    queue_by c.pool.0 pool (queue_number c.persistent c.priority) (first_of_half persistent + n) c.object.0 (queue_most c.persistent c.priority) (below persistent) lt c.status
        ∙ ap (λ b. (is_pending c.status && (c.pool.0 == pool)) && b) (of_half persistent c.persistent c.priority)
        ∙ and_assoc (is_pending_in pool c) (if persistent then c.persistent else not c.persistent) (test c.priority),
    queue_agree pool n persistent test nt same lt cs,
  )
    where
      below : (half : Bool) → first_of_half half + n ≤ 5
      below true = omega (arith, nt)
      below false = omega (arith, nt)

      of_half : (half own : Bool) (p : Priority) → (first_of_half own + priority_number p == first_of_half half + n) ≡ ((if half then own else not own) && test p)
      of_half true true p = eq_same (3 + priority_number p) (3 + n) (priority_number p) n (λ e. omega (arith, e)) (λ e. omega (arith, e)) ∙ same p
      of_half true false p = ne_eqb (0 + priority_number p) (3 + n) (λ e. absurd (omega (arith, e, priority_most p)))
      of_half false true p = ne_eqb (3 + priority_number p) (0 + n) (λ e. absurd (omega (arith, e, nt)))
      of_half false false p = eq_same (0 + priority_number p) (0 + n) (priority_number p) n (λ e. omega (arith, e)) (λ e. omega (arith, e)) ∙ same p

      and_assoc : (a b c : Bool) → (a && (b && c)) ≡ ((a && b) && c)
      and_assoc true b c = refl
      and_assoc false b c = refl

  -- no pool and no object is beyond these
  pub no_pool : (pool : ℕ) → pools ≤ pool → (p : CallbackRow → Bool) (cs : List CallbackRow) → AreAtHome cs → AllByRecursion (λ (c : CallbackRow). (p c && (c.pool.0 == pool)) ≡ false) cs
  no_pool pool past p [] homes = tt
  no_pool pool past p (c ∷ cs) homes = (ap (λ b. p c && b) (ne_eqb c.pool.0 pool (λ e. absurd (omega (arith, e, homes.0.0, past)))) ∙ and_false (p c), no_pool pool past p cs homes.1)

  pub no_object : (object : ℕ) → objects < object → (p : CallbackRow → Bool) (cs : List CallbackRow) → AreAtHome cs → AllByRecursion (λ (c : CallbackRow). (p c && (c.object.0 == object)) ≡ false) cs
  no_object object past p [] homes = tt
  no_object object past p (c ∷ cs) homes = (ap (λ b. p c && b) (ne_eqb c.object.0 object (λ e. absurd (omega (arith, e, homes.0.1, past)))) ∙ and_false (p c), no_object object past p cs homes.1)

  -- what operates expects its operation or has it under way
  operates : (s : Status) (b : Bool) → (is_operating s && b) ≡ ((is_expected s && b) || (is_issued s && b))
  operates Expected true = refl
  operates Expected false = refl
  operates Issued true = refl
  operates Issued false = refl
  operates Pending b = refl
  operates (Running worker associated slots) b = refl
  operates Returned b = refl
  operates Cancelled b = refl

  pub any_operation : (object : ℕ) → object ≤ objects → (cs : List CallbackRow) → AreAtHome cs
      → list_any (is_operation_of object) cs ≡ (list_any (λ c. line_of pools objects c == 6 * pools + 2 * object) cs || list_any (λ c. line_of pools objects c == 6 * pools + 2 * object + 1) cs)
  any_operation object within [] homes = refl
  any_operation object within (c ∷ cs) homes =
      let expected = (expected_agree object within (c ∷ []) (homes.0, tt)).0 in
      let issued = (issued_agree object within (c ∷ []) (homes.0, tt)).0 in
      let rest = any_operation object within cs homes.1 in
      rw (expected, issued, rest, operates c.status (c.object.0 == object))
      (swap (is_expected c.status && (c.object.0 == object)) (is_issued c.status && (c.object.0 == object)) (list_any (λ c. line_of pools objects c == 6 * pools + 2 * object) cs) (list_any (λ c. line_of pools objects c == 6 * pools + 2 * object + 1) cs))
    where
      swap : (a b x y : Bool) → ((a || b) || (x || y)) ≡ ((a || x) || (b || y))
      swap true b x y = refl
      swap false true true y = refl
      swap false true false y = refl
      swap false false x y = refl

-- ---- what is outstanding

-- which object it is makes no difference to what is held for it
pub held_alike : (a b : ObjectId) (s : Status) → is_held_for (Object a) s ≡ is_held_for (Object b) s
held_alike a b Expected = refl
held_alike a b Issued = refl
held_alike a b Pending = refl
held_alike a b (Running worker associated slots) = refl
held_alike a b Returned = refl
held_alike a b Cancelled = refl

pub outstanding_agree : (objects : ℕ) (object : ObjectId) → object.0 ≤ objects → (cs : List CallbackRow) → AllAgree (λ c. object_of objects c == object.0) (is_outstanding_for (Object object)) cs
outstanding_agree objects object within [] = tt
outstanding_agree objects object within (c ∷ cs) = (
  elim (is_tied c) as (λ b. ((if b then c.object.0 else objects + 1) == object.0) ≡ ((c.object.0 == object.0) && b)) [
    | true ↦ elim (c.object.0 == object.0) as (λ b. b ≡ (b && true)) [ true ↦ refl | false ↦ refl ]
    | false ↦ ne_eqb (objects + 1) object.0 (λ e. absurd (omega (arith, e, within))) ∙ elim (c.object.0 == object.0) as (λ b. false ≡ (b && false)) [ true ↦ refl | false ↦ refl ]
  ] ∙ ap (λ b. (c.object.0 == object.0) && b) (held_alike c.object object c.status),
  outstanding_agree objects object within cs,
)

-- nothing is outstanding for an object that can't be made
pub outstanding_past : (pools objects : ℕ) (object : ObjectId) → objects < object.0 → (cs : List CallbackRow) → AllByRecursion (IsAtHome pools objects) cs → AllByRecursion (λ c. is_outstanding_for (Object object) c ≡ false) cs
outstanding_past pools objects object past [] homes = tt
outstanding_past pools objects object past (c ∷ cs) homes = (
  ap (λ b. b && is_held_for (Object object) c.status) (ne_eqb c.object.0 object.0 (λ e. absurd (omega (arith, e, homes.0.1, past)))),
  outstanding_past pools objects object past cs homes.1,
)

-- ---- groups

pub listed_group : (groups group : ℕ) → has_list groups group ≡ true → group < groups + 1
listed_group groups group has = grind (arith, nat_tests, has)

pub group_agree : (groups group : ℕ) → has_list groups group ≡ true → (cs : List CallbackRow) → AllAgree (λ c. group_of groups c == group) (λ c. c.group.0 == group) cs
group_agree groups group has [] = tt
group_agree groups group has (c ∷ cs) = (
  elim (has_list groups c.group.0) as (λ b. has_list groups c.group.0 ≡ b → ((if b then c.group.0 else groups + 1) == group) ≡ (c.group.0 == group)) [
    | true ↦ λ _. refl
    | false ↦ λ none.
        let within : group < groups + 1 = listed_group groups group has in
        ne_eqb (groups + 1) group (λ e. absurd (omega (arith, e, within)))
        ∙ sym (ne_eqb c.group.0 group (λ e. let no : true ≡ false = sym has ∙ ap (has_list groups) (sym e) ∙ none in absurd (cc)))
  ] refl,
  group_agree groups group has cs,
)
