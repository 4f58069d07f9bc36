-- Where one of a pool's pending callbacks can be taken, a call of a worker that runs nothing is accepted.
use Rattle.std.proofs.Common.{◌≡◌, ℕ, ◌+◌, ◌<◌, ◌≤◌, Bool, true, false, cond, not, ◌&&◌, ◌||◌, ◌==◌, ◌⊎◌, inl, inr, nat_lt, nat_le}
use Rattle.std.proofs.Common.{List, [], ◌∷◌, length, Option, Some, None, is_none, is_some, slice_get, refl, sym, ap, ◌∙◌, arith, filter, eqb-true, eq-eqb, lt-ltb}
use Rattle.std.specs.List.{list_any}
use Rattle.std.specs.Option.{option_map_or, option_or}
use Rattle.std.proofs.lemmas.Bool.{and_from, eqb-false, leb-false, leb-true, ltb-false, ne_eqb, not-false, or_left, or_parts, or_right}
use Rattle.std.proofs.lemmas.Option.{slice_get_within}
use Rattle.tp_base.specs.declared.answers.Answer.{Answer}
use Rattle.tp_base.specs.declared.answers.Answer.TheVariants as answer
use Rattle.tp_base.specs.declared.answers.Outcome.{Outcome}
use Rattle.tp_base.specs.declared.answers.Outcome.TheVariants as outcome
use Rattle.tp_base.specs.declared.answers.Look.TheVariants as look
use Rattle.tp_base.specs.declared.answers.Refusal.{Refusal}
use Rattle.tp_base.specs.declared.answers.Refusal.TheVariants.{AlreadyAttached, NoSuch, NotAttached, NotWorker, Released, StillRunning}
use Rattle.tp_base.specs.declared.calls.Call.{Call}
use Rattle.tp_base.specs.declared.calls.Call.TheVariants.{Attach, Detach, Take}
use Rattle.tp_base.specs.declared.ids.PoolId.{PoolId}
use Rattle.tp_base.specs.declared.ids.Who.{Who}
use Rattle.tp_base.specs.declared.ids.Who.TheVariants.{Worker}
use Rattle.tp_base.specs.declared.plans.Change.{Change}
use Rattle.tp_base.specs.declared.plans.Change.TheVariants as change
use Rattle.tp_base.specs.declared.plans.Idle.{Idle}
use Rattle.tp_base.specs.declared.plans.Plan.{Plan}
use Rattle.tp_base.specs.declared.plans.Plan.TheVariants as plans
use Rattle.tp_base.specs.declared.rows.CallbackRow.{CallbackRow}
use Rattle.tp_base.specs.declared.rows.PoolRow.{PoolRow}
use Rattle.tp_base.specs.declared.rows.WorkerRow.{WorkerRow}
use Rattle.tp_model.specs.Calls.Workers.{another_in_need, attach_plan, attach_to, detach, detach_plan, is_let_go, may_leave, pool_to_join, take, take_callback, take_plan}
use Rattle.tp_model.specs.Changes.{changed}
use Rattle.tp_model.specs.Conditions.{idle_in, is_closed_pool}
use Rattle.tp_model.specs.Counts.{attached, available, callback_of, has_persistent, idle, is_attached_to, is_below_minimum, is_idle_in, is_in_need, is_open_to, is_pending_in, is_persistent_in, least_pool, maximum, minimum, next, numbered, pending, running, takeable}
use Rattle.tp_model.specs.Next.{IsNextOrNone}
use Rattle.tp_model.specs.Refusing.{first_refusal, unless_refused}
use Rattle.tp_model.specs.Stalled.{is_free, is_kept_waiting, is_pool_stuck, lacks_room_to_run}
use Rattle.tp_model.specs.Step.{Accepted, cost, outcome_of, stepped, within}
use Rattle.tp_model.specs.Support.Allowed.{price}
use Rattle.tp_model.specs.Support.Sound.{IsSound}
use Rattle.tp_model.specs.Table.{plan, step}
use Rattle.tp_model.specs.World.{World}
use Rattle.tp_model.proofs.Callbacks.{kept_found}
use Rattle.tp_model.proofs.Entries.{next_number_in}
use Rattle.tp_model.proofs.First.{next_first}
use Rattle.tp_model.proofs.Refusals.{both, false_true}
use Rattle.tp_model.proofs.Steps.{cost_is, not_full, plan_allowed}
use Rattle.worker_gate.specs.Walks.{is_full}
use Rattle.worker_gate.proofs.Elements.{any_at, counted, found_in, one_passes, passes_any, row_at, IsAt}

-- the call was made, and accepted or refused
abbrev pub is_done : Outcome → Bool
is_done (outcome.Done told) = true
is_done (outcome.Look look) = false
is_done (outcome.Full room cost) = false

-- ---- plans of workers that run nothing

abbrev pub idle_at : PoolId → Bool → WorkerRow
idle_at pool mark = record { pool = Some pool; callback = None; persistent = mark }

-- of no pool
abbrev pub away_at : Bool → WorkerRow
away_at mark = record { pool = None; callback = None; persistent = mark }

abbrev joining : Option WorkerRow → Option Refusal
joining o = first_refusal ((not (is_some o), NoSuch) ∷ (false, Released) ∷ (false, NotWorker) ∷ (option_map_or (λ (r : WorkerRow). is_some r.callback) o false, StillRunning) ∷ (option_map_or (λ (r : WorkerRow). is_some r.pool) o false, AlreadyAttached) ∷ [])

abbrev working : Option WorkerRow → Option Refusal
working o = first_refusal ((not (is_some o), NoSuch) ∷ (false, Released) ∷ (false, NotWorker) ∷ (option_map_or (λ (r : WorkerRow). is_some r.callback) o false, StillRunning) ∷ (not (option_map_or (λ (r : WorkerRow). is_some r.pool) o false), NotAttached) ∷ [])

module _ (w : World) (number : ℕ) where
  attach_is : (mark : Bool) → numbered w.workers number ≡ Some (away_at mark) → attach_plan w (Worker number) ≡ attach_to (Worker number) (pool_to_join w)
  unfolding attach_plan
  attach_is mark stands = ap (λ (o : Option WorkerRow). unless_refused (joining o) (attach_to (Worker number) (pool_to_join w))) stands

  module _ (pool : PoolId) (mark : Bool) (stands : numbered w.workers number ≡ Some (idle_at pool mark)) where
    abbrev by : Idle
    by = record { worker = number; pool = pool; persistent = mark }

    take_is : take_plan w (Worker number) ≡ take_callback w by (next w pool.0 mark)
    unfolding take_plan
    take_is = ap (λ (o : Option WorkerRow). unless_refused (working o) (take w (idle_in number o))) stands

    detach_is : detach_plan w (Worker number) ≡ detach w (Some by)
    unfolding detach_plan
    detach_is = ap (λ (o : Option WorkerRow). unless_refused (working o) (detach w (idle_in number o))) stands

-- ---- what is accepted

module _ (w : World) (room : ℕ) (s : IsSound (next_number_in w) w) where
  abbrev comes : Who → Call → Outcome
  comes who made = outcome_of (step w room who made)

  pub done : (who : Who) (made : Call) (a : Answer) (ch : Change) → plan w room who made ≡ plans.Does a ch → price ch ≤ room → is_done (comes who made) ≡ true
  done who made a ch is fits =
      let costs : cost w (changed w ch) ≡ price ch = cost_is (next_number_in w) w ch s (plan_allowed (next_number_in w) room w who made a ch s is).allowed in
      ap (λ (p : Plan). is_done (outcome_of (within w room (stepped w p)))) is ∙ ap (λ x. is_done (outcome_of x)) (not_full room (cost w (changed w ch)) (Accepted a (changed w ch)) (omega (arith, costs, fits)))

  -- a worker without a pool joins one, where some is in need
  attaches : (number pool : ℕ) (mark : Bool) → numbered w.workers number ≡ Some (away_at mark) → pool < length w.pools → is_in_need w pool ≡ true → 2 ≤ room → is_done (comes (Worker number) Attach) ≡ true
  attaches number pool mark stands made need fits = of_pool (pool_to_join w) refl (first_some (least_pool w (is_in_need w)) (found_in (is_in_need w) 0 (length w.pools) pool (omega arith) (omega (arith, made)) need))
    where
      first_some : (o : Option ℕ) → is_some o ≡ true → is_some (option_or o (least_pool w (is_below_minimum w))) ≡ true
      first_some None some = absurd (cc)
      first_some (Some p) some = refl

      of_pool : (o : Option ℕ) → pool_to_join w ≡ o → is_some o ≡ true → is_done (comes (Worker number) Attach) ≡ true
      of_pool None is some = absurd (cc)
      of_pool (Some p) is some =
          done (Worker number) Attach (answer.Attached (record { 0 = p })) (change.Attach number (record { 0 = p })) (attach_is w number mark stands ∙ ap (attach_to (Worker number)) is) fits

  -- some callback comes next of those that a worker may take
  next_some : (pool : ℕ) (mark : Bool) → (takeable w pool mark == 0) ≡ false → is_some (next w pool mark) ≡ true
  next_some pool mark some = of_first (filter (is_open_to w pool mark) w.callbacks) refl some
    where
      of_next : (c : CallbackRow) (o : Option CallbackRow) → IsNextOrNone w pool mark o → callback_of w c.number ≡ Some c → is_open_to w pool mark c ≡ true → is_some o ≡ true
      of_next c None none found waits = absurd (none c found waits)
      of_next c (Some d) is found waits = refl

      of_first : (cs : List CallbackRow) → filter (is_open_to w pool mark) w.callbacks ≡ cs → (length cs == 0) ≡ false → is_some (next w pool mark) ≡ true
      of_first [] are e = absurd (cc)
      of_first (c ∷ cs) are e =
          let kept = kept_found (is_open_to w pool mark) 1 (next_number_in w) w.callbacks 0 c s.numbers (ap (λ (l : List CallbackRow). slice_get l 0) are) in
          of_next c (next w pool mark) (next_first (next_number_in w) w pool mark s) kept.0 kept.1

  module _ (number : ℕ) (pool : PoolId) (mark : Bool) (stands : numbered w.workers number ≡ Some (idle_at pool mark)) where
    abbrev me : Idle
    me = by w number pool mark stands

    -- an idle worker takes a callback where it may take one and fewer run than may
    takes : (takeable w pool.0 mark == 0) ≡ false → nat_le (maximum w pool.0) (running w pool.0) ≡ false → 2 ≤ room → is_done (comes (Worker number) Take) ≡ true
    takes some below fits = of_next (next w pool.0 mark) refl (next_some pool.0 mark some)
      where
        of_next : (o : Option CallbackRow) → next w pool.0 mark ≡ o → is_some o ≡ true → is_done (comes (Worker number) Take) ≡ true
        of_next None is there = absurd (cc)
        of_next (Some c) is there =
            done (Worker number) Take (answer.Taken c.number c.object c.routine c.context c.result) (change.Take me c)
            (take_is w number pool mark stands ∙ (ap (take_callback w me) is
            ∙ ap (λ (b : Bool). cond b (plans.Looked (look.AtMaximum (running w pool.0))) (plans.Does (answer.Taken c.number c.object c.routine c.context c.result) (change.Take me c))) below))
            fits

    -- and leaves where it may
    leaves : may_leave w me ≡ true → is_done (comes (Worker number) Detach) ≡ true
    leaves may =
        done (Worker number) Detach answer.Done (change.Detach me)
        (detach_is w number pool mark stands ∙ ap (λ (b : Bool). cond b (plans.Does answer.Done (change.Detach me)) (plans.Looked look.Stay)) may) (omega arith)

    -- and never comes to Full by that
    pub leaves_unfilled : is_full (comes (Worker number) Detach) ≡ false
    leaves_unfilled = of_test (may_leave w me) refl
      where
        unfilled : (o : Outcome) → is_done o ≡ true → is_full o ≡ false
        unfilled (outcome.Done told) is = refl
        unfilled (outcome.Look look) is = refl
        unfilled (outcome.Full left price) is = absurd (cc)

        of_test : (b : Bool) → may_leave w me ≡ b → is_full (comes (Worker number) Detach) ≡ false
        of_test true may = unfilled (comes (Worker number) Detach) (leaves may)
        of_test false stays =
            let looks : detach_plan w (Worker number) ≡ plans.Looked look.Stay =
            detach_is w number pool mark stands ∙ ap (λ (b : Bool). cond b (plans.Does answer.Done (change.Detach me)) (plans.Looked look.Stay)) stays in
            ap (λ (p : Plan). is_full (outcome_of (within w room (stepped w p)))) looks

-- ---- what a worker may take

-- one with the mark may take no less than others
marked_more : (a b m d : Bool) → (a && (b || false || d)) ≡ true → (a && (b || m || d)) ≡ true
marked_more true true m d opens = refl
marked_more true false true d opens = refl
marked_more true false false d opens = opens
marked_more false b m d opens = absurd (false_true opens)

module _ (w : World) (pool : ℕ) where
  takes_more : (mark : Bool) → (takeable w pool false == 0) ≡ false → (takeable w pool mark == 0) ≡ false
  takes_more mark some =
      let at = one_passes (is_open_to w pool false) w.callbacks some in
      some_open mark at.place at.element at.there (marked_more (is_pending_in pool at.element) (not at.element.persistent) mark (not (has_persistent w pool)) at.tests)
    where
      some_open : (m : Bool) (i : ℕ) (c : CallbackRow) → slice_get w.callbacks i ≡ Some c → is_open_to w pool m c ≡ true → (takeable w pool m == 0) ≡ false
      some_open m i c there opens = let more = counted (is_open_to w pool m) w.callbacks i c there opens in ne_eqb (takeable w pool m) 0 (λ (none : takeable w pool m ≡ 0). omega (arith, more, none))

-- ---- a pool that can go on

-- a worker that runs nothing, one of whose calls is accepted
pub data Goes (w : World) (room number : ℕ) : Type 0 where
  Joins : (mark : Bool) → numbered w.workers number ≡ Some (away_at mark) → is_done (outcome_of (step w room (Worker number) Attach)) ≡ true → Goes w room number
  Works : (pool : PoolId) (mark : Bool) → numbered w.workers number ≡ Some (idle_at pool mark)
      → (is_done (outcome_of (step w room (Worker number) Take)) ≡ true) ⊎ (is_done (outcome_of (step w room (Worker number) Detach)) ≡ true) → Goes w room number

abbrev pub SomeGoes : World → ℕ → Type 0
SomeGoes w room = (number : ℕ) × Goes w room number

module _ (w : World) (room : ℕ) (s : IsSound (next_number_in w) w) (counts : (pool : ℕ) → attached w pool ≡ running w pool + idle w pool) where
  module _ (pool : ℕ) (below : nat_le (maximum w pool) (running w pool) ≡ false) (fits : 2 ≤ room) where
    -- an idle worker of the pool takes one of its callbacks, if there is one for it
    idle_takes : (i : ℕ) (row : WorkerRow) → slice_get w.workers i ≡ Some row → is_attached_to pool row ≡ true → is_none row.callback ≡ true → (takeable w pool row.persistent == 0) ≡ false → SomeGoes w room
    idle_takes i row there home rests some = of_row row.pool row.callback row.persistent there home rests some
      where
        of_row : (of : Option PoolId) (callback : Option ℕ) (mark : Bool) → slice_get w.workers i ≡ Some (record { pool = of; callback = callback; persistent = mark })
            → option_map_or (λ (p : PoolId). p.0 == pool) of false ≡ true → is_none callback ≡ true → (takeable w pool mark == 0) ≡ false → SomeGoes w room
        of_row None callback mark there home rests some = absurd (false_true home)
        of_row (Some p) (Some n) mark there home rests some = absurd (false_true rests)
        of_row (Some p) None mark there home rests some =
            let same : p.0 ≡ pool = eqb-true p.0 pool home in
            let stands = row_at w.workers i (idle_at p mark) there in
            (i + 1, Works p mark stands (inl (takes w room s (i + 1) p mark stands (ap (λ (n : ℕ). takeable w n mark == 0) same ∙ some) (ap (λ (n : ℕ). nat_le (maximum w n) (running w n)) same ∙ below) fits)))

    by_idle : (takeable w pool false == 0) ≡ false → IsAt (is_idle_in pool) true w.workers → SomeGoes w room
    by_idle some at =
        let is = both (is_attached_to pool at.element) (is_none at.element.callback) at.tests in
        idle_takes at.place at.element at.there is.0 is.1 (takes_more w pool at.element.persistent some)

    -- where all that is pending is for the persistent worker, and that one runs nothing, it takes
    module _ (some : (pending w pool == 0) ≡ false) (none_open : (takeable w pool false == 0) ≡ true) (unkept : is_kept_waiting w pool ≡ false) where
      pends : IsAt (is_pending_in pool) true w.callbacks
      pends = one_passes (is_pending_in pool) w.callbacks some

      marked_only : (b h : Bool) → (b || false || not h) ≡ false → h ≡ true
      marked_only true h shut = absurd (false_true (sym shut))
      marked_only false true shut = refl
      marked_only false false shut = absurd (false_true (sym shut))

      shut : is_open_to w pool false pends.element ≡ false
      shut = of_test (is_open_to w pool false pends.element) refl
        where
          of_test : (b : Bool) → is_open_to w pool false pends.element ≡ b → b ≡ false
          of_test false is = refl
          of_test true is =
              let more = counted (is_open_to w pool false) w.callbacks pends.place pends.element pends.there is in
              let none : takeable w pool false ≡ 0 = eqb-true (takeable w pool false) 0 none_open in
              absurd (omega (arith, more, none))

      has : has_persistent w pool ≡ true
      has = marked_only (not pends.element.persistent) (has_persistent w pool) (ap (λ (b : Bool). b && (not pends.element.persistent || false || not (has_persistent w pool))) (sym pends.tests) ∙ shut)

      worker : IsAt (is_persistent_in pool) true w.workers
      worker = any_at (is_persistent_in pool) w.workers has

      none_runs : list_any (λ (r : WorkerRow). is_persistent_in pool r && is_some r.callback) w.workers ≡ false
      none_runs = ap (λ (b : Bool). b && list_any (λ (r : WorkerRow). is_persistent_in pool r && is_some r.callback) w.workers) (sym none_open) ∙ unkept

      rests : is_none worker.element.callback ≡ true
      rests = of_callback worker.element.callback refl
        where
          of_callback : (o : Option ℕ) → worker.element.callback ≡ o → is_none o ≡ true
          of_callback None is = refl
          of_callback (Some n) is =
              let runs : (is_persistent_in pool worker.element && is_some worker.element.callback) ≡ true = and_from _ _ worker.tests (ap (λ (o : Option ℕ). is_some o) is) in
              absurd (false_true (sym none_runs ∙ passes_any (λ (r : WorkerRow). is_persistent_in pool r && is_some r.callback) w.workers worker.place worker.element worker.there runs))

      open_to_marked : (p b h : Bool) → p ≡ true → (p && (b || true || h)) ≡ true
      open_to_marked true true h is = refl
      open_to_marked true false h is = refl
      open_to_marked false b h is = absurd (false_true is)

      for_marked : (takeable w pool true == 0) ≡ false
      for_marked =
          let opens = open_to_marked (is_pending_in pool pends.element) (not pends.element.persistent) (not (has_persistent w pool)) pends.tests in
          let more = counted (is_open_to w pool true) w.callbacks pends.place pends.element pends.there opens in
          ne_eqb (takeable w pool true) 0 (λ (none : takeable w pool true ≡ 0). omega (arith, more, none))

      by_persistent : SomeGoes w room
      by_persistent =
          let is = both (is_attached_to pool worker.element) worker.element.persistent worker.tests in
          idle_takes worker.place worker.element worker.there is.0 rests (ap (λ (m : Bool). takeable w pool m == 0) is.1 ∙ for_marked)

  -- where it has none, the pool is in need: so one without a pool joins, and one that is idle elsewhere and may leave does so,
  -- unless it has work there
  module _ (pool : ℕ) (made : pool < length w.pools) (need : is_in_need w pool ≡ true) (none : idle w pool ≡ 0) (fits : 2 ≤ room) where
    elsewhere : (i : ℕ) (q : PoolId) (mark : Bool) → slice_get w.workers i ≡ Some (idle_at q mark) → (not mark || is_closed_pool w q.0) ≡ true → SomeGoes w room
    elsewhere i q mark there let_go = of_open (takeable w q.0 mark == 0) refl
      where
        stands : numbered w.workers (i + 1) ≡ Some (idle_at q mark)
        stands = row_at w.workers i (idle_at q mark) there

        here : 1 ≤ idle w q.0
        here = counted (is_idle_in q.0) w.workers i (idle_at q mark) there (ap (λ (b : Bool). b && true) (eq-eqb q.0 q.0 refl))

        apart : (pool == q.0) ≡ false
        apart = ne_eqb pool q.0 (λ (same : pool ≡ q.0). let e : idle w pool ≡ idle w q.0 = ap (idle w) same in absurd (omega (arith, here, none, e)))

        leaves_by : (nat_lt (maximum w q.0) (attached w q.0) || ((takeable w q.0 mark == 0) && (nat_lt (minimum w q.0) (available w q.0) || another_in_need w q.0))) ≡ true → SomeGoes w room
        leaves_by may = (i + 1, Works q mark stands (inr (leaves w room s (i + 1) q mark stands (and_from (is_let_go w (by w (i + 1) q mark stands)) _ let_go may))))

        of_maximum : (b : Bool) → nat_le (maximum w q.0) (running w q.0) ≡ b → (takeable w q.0 mark == 0) ≡ false → SomeGoes w room
        of_maximum false below some = (i + 1, Works q mark stands (inl (takes w room s (i + 1) q mark stands some below fits)))
        of_maximum true full some =
            let most = leb-true (maximum w q.0) (running w q.0) full in
            let more : maximum w q.0 < attached w q.0 = omega (arith, most, here, counts q.0) in
            leaves_by (or_left (nat_lt (maximum w q.0) (attached w q.0)) _ (lt-ltb (maximum w q.0) (attached w q.0) more))

        of_open : (b : Bool) → (takeable w q.0 mark == 0) ≡ b → SomeGoes w room
        of_open false some = of_maximum (nat_le (maximum w q.0) (running w q.0)) refl some
        of_open true empty =
            let other : another_in_need w q.0 ≡ true =
            found_in (λ (n : ℕ). not (n == q.0) && is_in_need w n) 0 (length w.pools) pool (omega arith) (omega (arith, made)) (ap (λ (b : Bool). not b && is_in_need w pool) apart ∙ need) in
            leaves_by (or_right (nat_lt (maximum w q.0) (attached w q.0)) _ (and_from (takeable w q.0 mark == 0) _ empty (or_right (nat_lt (minimum w q.0) (available w q.0)) _ other)))

    by_free : IsAt (is_free w) true w.workers → SomeGoes w room
    by_free at = of_row at.element.pool at.element.callback at.element.persistent at.there at.tests
      where
        of_row : (home : Option PoolId) (callback : Option ℕ) (mark : Bool) → slice_get w.workers at.place ≡ Some (record { pool = home; callback = callback; persistent = mark })
            → (is_none callback && (not mark || option_map_or (λ (p : PoolId). is_closed_pool w p.0) home true)) ≡ true → SomeGoes w room
        of_row home (Some n) mark there free = absurd (false_true free)
        of_row None None mark there free =
            let stands = row_at w.workers at.place (away_at mark) there in (at.place + 1, Joins mark stands (attaches w room s (at.place + 1) pool mark stands made need fits))
        of_row (Some q) None mark there free = elsewhere at.place q mark there free

  pub some_goes : (pool : ℕ) → is_pool_stuck w room pool ≡ false → SomeGoes w room
  some_goes pool moves = of_open (takeable w pool false == 0) refl
    where
      outer : (((pending w pool == 0) || nat_le (maximum w pool) (running w pool) || is_kept_waiting w pool) ≡ false) × (lacks_room_to_run w room pool ≡ false)
      outer = or_parts ((pending w pool == 0) || nat_le (maximum w pool) (running w pool) || is_kept_waiting w pool) (lacks_room_to_run w room pool) moves

      middle : (((pending w pool == 0) || nat_le (maximum w pool) (running w pool)) ≡ false) × (is_kept_waiting w pool ≡ false)
      middle = or_parts ((pending w pool == 0) || nat_le (maximum w pool) (running w pool)) (is_kept_waiting w pool) outer.0

      inner : ((pending w pool == 0) ≡ false) × (nat_le (maximum w pool) (running w pool) ≡ false)
      inner = or_parts (pending w pool == 0) (nat_le (maximum w pool) (running w pool)) middle.0

      roomy : (nat_lt room 2 ≡ false) × (((idle w pool == 0) && (nat_lt room 4 || not (list_any (is_free w) w.workers))) ≡ false)
      roomy = or_parts (nat_lt room 2) _ outer.1

      fits : 2 ≤ room
      fits = ltb-false room 2 roomy.0

      below : running w pool < maximum w pool
      below = leb-false (maximum w pool) (running w pool) inner.1

      made_by : (row : Option PoolRow) → slice_get w.pools pool ≡ row → running w pool < option_map_or (λ (p : PoolRow). p.maximum) row 0 → pool < length w.pools
      made_by None is few = absurd (omega (arith, few))
      made_by (Some row) is few = slice_get_within w.pools pool row is

      of_idle : (b : Bool) → (idle w pool == 0) ≡ b → (takeable w pool false == 0) ≡ false → SomeGoes w room
      of_idle false one some = by_idle pool inner.1 fits some (one_passes (is_idle_in pool) w.workers one)
      of_idle true none some =
          let no_idle : idle w pool ≡ 0 = eqb-true (idle w pool) 0 none in
          let few : attached w pool < maximum w pool = omega (arith, below, counts pool, no_idle) in
          let one : 0 < takeable w pool false = let apart = eqb-false (takeable w pool false) 0 some in omega (arith, apart) in
          let need : is_in_need w pool ≡ true = and_from (nat_lt 0 (takeable w pool false) && (idle w pool == 0)) _ (and_from (nat_lt 0 (takeable w pool false)) _ (lt-ltb 0 (takeable w pool false) one) none) (lt-ltb (attached w pool) (maximum w pool) few) in
          let crowd : (nat_lt room 4 || not (list_any (is_free w) w.workers)) ≡ false = ap (λ (b : Bool). b && (nat_lt room 4 || not (list_any (is_free w) w.workers))) (sym none) ∙ roomy.1 in
          let free = not-false (list_any (is_free w) w.workers) (or_parts (nat_lt room 4) _ crowd).1 in
          by_free pool (made_by (slice_get w.pools pool) refl below) need no_idle fits (any_at (is_free w) w.workers free)

      of_open : (b : Bool) → (takeable w pool false == 0) ≡ b → SomeGoes w room
      of_open false some = of_idle (idle w pool == 0) refl some
      of_open true none_open = by_persistent pool inner.1 fits inner.0 none_open middle.1
