-- A world in which nobody can go on: a stalled one is so, less room and a worker that joins a pool or leaves one keep it
-- so, and it accepts nothing else but an End that is answered with Stalled or Exhausted.
use Rattle.std.specs.List.{list_all, list_any, range_with_len}
use Rattle.std.specs.Option.{option_map_or}
use Rattle.std.proofs.Common.{◌≡◌, ◌≢◌, ℕ, suc, zero, ◌+◌, ◌-◌, ◌<◌, ◌≤◌, Bool, true, false, cond, not, ◌&&◌, ◌||◌, ◌==◌, nat_le, nat_lt, inl, inr, ◌⊎◌}
use Rattle.std.proofs.Common.{List, [], ◌∷◌, length, filter, find, Option, Some, None, is_none, is_some, refl, sym, ap, ap₂, ◌∙◌, subst, arith, lt-ltb, ltb-true, eqb-true, eq-eqb, slice_get, slice_set}
use Rattle.std.proofs.lemmas.Bool.{leb-true, or_cases}
use Rattle.std.proofs.lemmas.Option.{slice_get_within}
use Rattle.tp_base.specs.Actors.{is_same_actor}
use Rattle.tp_base.specs.Kernels.{may_take}
use Rattle.tp_base.specs.declared.answers.Answer.{Answer}
use Rattle.tp_base.specs.declared.answers.Answer.TheVariants as answer
use Rattle.tp_base.specs.declared.answers.Look.{Look}
use Rattle.tp_base.specs.declared.answers.Look.TheVariants as look
use Rattle.tp_base.specs.declared.ids.ObjectId.{ObjectId}
use Rattle.tp_base.specs.declared.ids.PoolId.{PoolId}
use Rattle.tp_base.specs.declared.ids.Who.{Who}
use Rattle.tp_base.specs.declared.ids.Who.TheVariants.{Client, Worker}
use Rattle.tp_base.specs.declared.plans.Change.{Change}
use Rattle.tp_base.specs.declared.plans.Change.TheVariants as change
use Rattle.tp_base.specs.declared.plans.Idle.{Idle}
use Rattle.tp_base.specs.declared.plans.Plan.TheVariants as plans
use Rattle.tp_base.specs.declared.plans.WaitEnd.TheVariants as how
use Rattle.tp_base.specs.declared.rows.CallbackRow.{CallbackRow}
use Rattle.tp_base.specs.declared.rows.WaitTarget.{WaitTarget}
use Rattle.tp_base.specs.declared.rows.WaitTarget.TheVariants.{Group, Kernel, Object}
use Rattle.tp_base.specs.declared.rows.WorkerRow.{WorkerRow}
use Rattle.tp_model.specs.Calls.End.{end_plan, end_refusals, end_unless_stalled, stall_or_look}
use Rattle.tp_model.specs.Calls.Waits.{end_for, end_held, end_notices, end_wait, holds_starved}
use Rattle.tp_model.specs.Changes.{with_worker}
use Rattle.tp_model.specs.Conditions.{is_actor, is_closed_pool, is_finished, is_without_callback, runs_callback}
use Rattle.tp_model.specs.Counts.{has_number, has_persistent, idle, is_idle_in, is_open_to, is_pending_in, is_persistent_in, maximum, numbered, pending, running, takeable}
use Rattle.tp_model.specs.Kernels.{is_kernel_that}
use Rattle.tp_model.specs.Stalled.{is_client_stuck, is_free, is_kept_waiting, is_look, is_pool_stuck, is_stalled, is_worker_stuck, lacks_room_to_run, waits_on}
use Rattle.tp_model.specs.Stalling.{is_given_up}
use Rattle.tp_model.specs.Support.Allowed.{MayDetach, MayTake}
use Rattle.tp_model.specs.Support.Sound.{IsSound}
use Rattle.tp_model.specs.Waits.{held, wait_of}
use Rattle.tp_model.specs.World.{BegunWait, World, unattached}
use Rattle.tp_model.proofs.Barred.{IsFree, passed}
use Rattle.tp_model.proofs.Entries.{next_number_in}
use Rattle.tp_model.proofs.Lists.{find_all, find_passes, get_set, length_filter_set}
use Rattle.tp_model.proofs.Refusals.{and_false, both, false_true, not_false, numbered_at, numbered_some, or_false, or_true}
use Rattle.tp_model.proofs.Releasing.{numbered_set_other}
use Rattle.tp_model.proofs.Sole.{AreSole, any_at}

-- ---- a world in which nobody can go on, whatever the room

-- the wait can't end freely: something that it covers is outstanding, or what it is for can't be taken
abbrev is_held_up : World → Who → BegunWait → WaitTarget → Bool
is_held_up w who b (Object object) = nat_lt 0 (length (held w b))
is_held_up w who b (Group group) = nat_lt 0 (length (held w b))
is_held_up w who b (Kernel kernel) = not (is_kernel_that (may_take who) w kernel.0)

abbrev IsHeldUp : World → Who → Option BegunWait → Type 0
IsHeldUp w who None = ⊥
IsHeldUp w who (Some b) = is_held_up w who b b.target ≡ true

-- each client that hasn't finished and each worker in a callback is in such a wait, and no pending callback can be taken
pub record IsStuck (w : World) (left : ℕ) : Type 0 where
  pub actors : (who : Who) → is_actor w who ≡ true → is_finished w who ≡ false → is_without_callback w who ≡ false → IsHeldUp w who (wait_of w who)
  pub pools : (pool : ℕ) → pool < length w.pools → is_pool_stuck w left pool ≡ true

-- ---- lists

found_any : {X : Type 0} (p q : X → Bool) (x : X) (xs : List X) → find p xs ≡ Some x → q x ≡ true → list_any q xs ≡ true
found_any p q x [] found passes = absurd cc
found_any p q x (y ∷ xs) found passes =
    elim (p y) as (λ b. cond b (Some y) (find p xs) ≡ Some x → (q y || list_any q xs) ≡ true) [
      | true ↦ λ e. let same : y ≡ x = cc in ap (λ b. b || list_any q xs) (ap q same ∙ passes)
      | false ↦ λ e. ap (λ b. q y || b) (found_any p q x xs e passes) ∙ or_true (q y)
    ] found

any_counts : {X : Type 0} (q : X → Bool) (xs : List X) → list_any q xs ≡ true → 1 ≤ length (filter q xs)
any_counts q [] e = absurd (false_true e)
any_counts {X} q (x ∷ xs) e =
    elim (q x) as (λ b. (b || list_any q xs) ≡ true → 1 ≤ length (cond b (x ∷ filter q xs) (filter q xs))) [
      | true ↦ λ h. omega arith
      | false ↦ λ h. any_counts q xs h
    ] e

all_at : {X : Type 0} (test : X → Bool) (xs : List X) (i : ℕ) (x : X) → list_all test xs ≡ true → slice_get xs i ≡ Some x → test x ≡ true
all_at test [] i x all e = absurd cc
all_at test (y ∷ xs) zero x all e = let same : y ≡ x = cc in ap test (sym same) ∙ (both (test y) (list_all test xs) all).0
all_at test (y ∷ xs) (suc i) x all e = all_at test xs i x (both (test y) (list_all test xs) all).1 e

all_in_range : (test : ℕ → Bool) (first n k : ℕ) → list_all test (range_with_len first n) ≡ true → first ≤ k → k < first + n → test k ≡ true
all_in_range test first zero k all low high = absurd (omega (arith, low, high))
all_in_range test first (suc n) k all low high =
    elim (first == k) as (λ b. (first == k) ≡ b → test k ≡ true) [
      | true ↦ λ is. subst (λ m. test m ≡ true) (eqb-true first k is) here.0
      | false ↦ λ apart. all_in_range test (first + 1) n k here.1 (above apart) (omega (arith, high))
    ] refl
  where
    here : (test first ≡ true) × (list_all test (range_with_len (first + 1) n) ≡ true)
    here = both (test first) (list_all test (range_with_len (first + 1) n)) all

    above : (first == k) ≡ false → first + 1 ≤ k
    above apart = let other : first ≢ k = λ e. false_true (sym apart ∙ eq-eqb first k e) in omega (arith, low, other)

or_else : (a b : Bool) → (a || b) ≡ true → a ≡ false → b ≡ true
or_else true b e free = absurd (false_true (sym free))
or_else false b e free = e

-- a row that is put in the place of one that doesn't pass the test leaves one that does
any_put : {X : Type 0} (test : X → Bool) (xs : List X) (i : ℕ) (old new : X) → slice_get xs i ≡ Some old → test old ≡ false → list_any test xs ≡ true → list_any test (slice_set xs i new) ≡ true
any_put test [] i old new at out any = absurd (false_true any)
any_put test (x ∷ xs) zero old new at out any =
    let same : x ≡ old = cc in
    ap (λ b. test new || b) (or_else (test x) (list_any test xs) any (ap test same ∙ out)) ∙ or_true (test new)
any_put test (x ∷ xs) (suc i) old new at out any =
    elim (test x) as (λ b. (b || list_any test xs) ≡ true → (b || list_any test (slice_set xs i new)) ≡ true) [
      | true ↦ λ h. refl
      | false ↦ λ h. any_put test xs i old new at out h
    ] any

any_also : {X : Type 0} (p q : X → Bool) → ((x : X) → p x ≡ true → q x ≡ true) → (xs : List X) → list_any p xs ≡ true → list_any q xs ≡ true
any_also p q f [] e = e
any_also p q f (x ∷ xs) e = of_first (any_also p q f xs) (p x) refl e
  where
    of_first : (list_any p xs ≡ true → list_any q xs ≡ true) → (b : Bool) → p x ≡ b → (b || list_any p xs) ≡ true → (q x || list_any q xs) ≡ true
    of_first later true is h = ap (λ b. b || list_any q xs) (f x is)
    of_first later false is h = ap (λ b. q x || b) (later h) ∙ or_true (q x)

-- a worker that passes a test
record IsPassing (test : WorkerRow → Bool) (rows : List WorkerRow) : Type 0 where
  place : ℕ
  row : WorkerRow
  at : slice_get rows place ≡ Some row
  passes : test row ≡ true

any_passing : (test : WorkerRow → Bool) (rows : List WorkerRow) → list_any test rows ≡ true → IsPassing test rows
any_passing test [] e = absurd (false_true e)
any_passing test (r ∷ rs) e = of_first (any_passing test rs) (test r) refl e
  where
    of_first : (list_any test rs ≡ true → IsPassing test rs) → (b : Bool) → test r ≡ b → (b || list_any test rs) ≡ true → IsPassing test (r ∷ rs)
    of_first later true is h = record { place = 0; row = r; at = refl; passes = is }
    of_first later false is h = let on = later h in record { place = suc on.place; row = on.row; at = on.at; passes = on.passes }

-- the number of a row
in_rows : {X : Type 0} (rows : List X) (n : ℕ) → is_some (numbered rows n) ≡ true → (1 ≤ n) × (n < 1 + length rows)
in_rows {X} rows n e = of_row (numbered rows n) refl e
  where
    of_row : (o : Option X) → numbered rows n ≡ o → is_some o ≡ true → (1 ≤ n) × (n < 1 + length rows)
    of_row None is h = absurd (false_true h)
    of_row (Some x) is h = let at = numbered_some rows n x is in (at.1, omega (arith, at.1, slice_get_within rows (n - 1) x at.0))

-- ---- a stalled world is one

look_held : (w : World) (left : ℕ) (who : Who) (o : Option BegunWait) → is_look (end_wait w left who o) ≡ true → IsHeldUp w who o
look_held w left who None e = absurd (false_true e)
look_held w left who (Some b) e = of_target b.target e
  where
    of_notices : (os : List ObjectId) → is_look (end_notices w who b.cleanup os) ≡ true → ⊥
    of_notices [] h = false_true h
    of_notices (o ∷ os) h = false_true h

    of_held : (numbers : List ℕ) → is_look (end_held w left who b numbers) ≡ true → nat_lt 0 (length numbers) ≡ true
    of_held [] h = absurd (of_notices b.notices h)
    of_held (n ∷ ns) h = lt-ltb 0 (length (n ∷ ns)) (omega arith)

    of_target : (t : WaitTarget) → is_look (end_for w left who b t) ≡ true → is_held_up w who b t ≡ true
    of_target (Object object) h = of_held (held w b) h
    of_target (Group group) h = of_held (held w b) h
    of_target (Kernel kernel) h =
        elim (is_kernel_that (may_take who) w kernel.0) as (λ t. is_look (cond t (plans.Does answer.Ended (change.EndWait who how.Free)) (plans.Looked (look.NotYetKernel kernel))) ≡ true → not t ≡ true) [
          | true ↦ λ g. absurd (false_true g)
          | false ↦ λ g. refl
        ] h

pub stalled_stuck : (w : World) (left : ℕ) → is_stalled w left ≡ true → IsStuck w left
stalled_stuck w left e = record { actors = actors; pools = λ pool made. all_in_range (is_pool_stuck w left) 0 (length w.pools) pool all.1 (omega arith) (omega (arith, made)) }
  where
    all : ((list_all (is_client_stuck w left) (range_with_len 1 (length w.clients)) && list_all (is_worker_stuck w left) (range_with_len 1 (length w.workers))) ≡ true) × (list_all (is_pool_stuck w left) (range_with_len 0 (length w.pools)) ≡ true)
    all = both (list_all (is_client_stuck w left) (range_with_len 1 (length w.clients)) && list_all (is_worker_stuck w left) (range_with_len 1 (length w.workers))) (list_all (is_pool_stuck w left) (range_with_len 0 (length w.pools))) e

    rows : (list_all (is_client_stuck w left) (range_with_len 1 (length w.clients)) ≡ true) × (list_all (is_worker_stuck w left) (range_with_len 1 (length w.workers)) ≡ true)
    rows = both (list_all (is_client_stuck w left) (range_with_len 1 (length w.clients))) (list_all (is_worker_stuck w left) (range_with_len 1 (length w.workers))) all.0

    actors : (who : Who) → is_actor w who ≡ true → is_finished w who ≡ false → is_without_callback w who ≡ false → IsHeldUp w who (wait_of w who)
    actors (Client n) actor finished without =
        let at = in_rows w.clients n (sym (or_false (is_some (numbered w.clients n))) ∙ actor) in
        look_held w left (Client n) (wait_of w (Client n))
        (or_else (is_finished w (Client n)) (waits_on w left (Client n)) (all_in_range (is_client_stuck w left) 1 (length w.clients) n rows.0 at.0 at.1) finished)
    actors (Worker n) actor finished without =
        let at = in_rows w.workers n actor in
        look_held w left (Worker n) (wait_of w (Worker n))
        (or_else (not (runs_callback w (Worker n))) (waits_on w left (Worker n)) (all_in_range (is_worker_stuck w left) 1 (length w.workers) n rows.1 at.0 at.1) (runs (numbered w.workers n) actor without))
      where
        of_callback : (c : Option ℕ) → is_none c ≡ false → not (is_some c) ≡ false
        of_callback None h = absurd (false_true (sym h))
        of_callback (Some number) h = refl

        runs : (row : Option WorkerRow) → is_some row ≡ true → option_map_or (λ (r : WorkerRow). is_none r.callback) row false ≡ false → not (option_map_or (λ (r : WorkerRow). is_some r.callback) row false) ≡ false
        runs None there h = absurd (false_true there)
        runs (Some r) there h = of_callback r.callback h

-- ---- what keeps it: less room, and a worker without a callback that joins a pool or leaves one

pool_kept : (a b b' l l' : Bool) → (b ≡ true → b' ≡ true) → (l ≡ true → l' ≡ true) → (a || b || l) ≡ true → (a || b' || l') ≡ true
pool_kept true b b' l l' f g e = refl
pool_kept false true b' l l' f g e = ap (λ x. x || l') (f refl)
pool_kept false false b' l l' f g e = ap (λ x. b' || x) (g e) ∙ or_true b'

-- the room lacks for two entries, or, where no worker of the pool is idle, for four, or nobody is free
abbrev any_free : World → Bool
any_free w = list_any (is_free w) w.workers

lacks : (w : World) (left pool : ℕ) → lacks_room_to_run w left pool ≡ true → (left < 2) ⊎ ((idle w pool ≡ 0) × ((left < 4) ⊎ (any_free w ≡ false)))
lacks w left pool e = of_or (or_cases (nat_lt left 2) ((idle w pool == 0) && (nat_lt left 4 || not (any_free w))) e)
  where
    not_true : (b : Bool) → not b ≡ true → b ≡ false
    not_true false h = refl
    not_true true h = absurd (false_true h)

    of_rest : (nat_lt left 4 ≡ true) ⊎ (not (any_free w) ≡ true) → (left < 4) ⊎ (any_free w ≡ false)
    of_rest (inl h) = inl (ltb-true left 4 h)
    of_rest (inr h) = inr (not_true (any_free w) h)

    of_or : (nat_lt left 2 ≡ true) ⊎ (((idle w pool == 0) && (nat_lt left 4 || not (any_free w))) ≡ true) → (left < 2) ⊎ ((idle w pool ≡ 0) × ((left < 4) ⊎ (any_free w ≡ false)))
    of_or (inl h) = inl (ltb-true left 2 h)
    of_or (inr h) =
        let two = both (idle w pool == 0) (nat_lt left 4 || not (any_free w)) h in
        inr (eqb-true (idle w pool) 0 two.0, of_rest (or_cases (nat_lt left 4) (not (any_free w)) two.1))

lacks_two : (w : World) (left pool : ℕ) → left < 2 → lacks_room_to_run w left pool ≡ true
lacks_two w left pool short = ap (λ b. b || ((idle w pool == 0) && (nat_lt left 4 || not (any_free w)))) (lt-ltb left 2 short)

lacks_four : (w : World) (left pool : ℕ) → left < 4 → idle w pool ≡ 0 → lacks_room_to_run w left pool ≡ true
lacks_four w left pool short none =
    ap (λ b. nat_lt left 2 || b) (ap₂ (λ a b. a && (b || not (any_free w))) (eq-eqb (idle w pool) 0 none) (lt-ltb left 4 short)) ∙ or_true (nat_lt left 2)

lacks_worker : (w : World) (left pool : ℕ) → idle w pool ≡ 0 → any_free w ≡ false → lacks_room_to_run w left pool ≡ true
lacks_worker w left pool none busy =
    ap (λ b. nat_lt left 2 || b) (ap₂ (λ a b. a && (nat_lt left 4 || not b)) (eq-eqb (idle w pool) 0 none) busy ∙ or_true (nat_lt left 4)) ∙ or_true (nat_lt left 2)

lacks_less : (w : World) (left less pool : ℕ) → less ≤ left → lacks_room_to_run w left pool ≡ true → lacks_room_to_run w less pool ≡ true
lacks_less w left less pool fewer e = of_case (lacks w left pool e)
  where
    of_case : (left < 2) ⊎ ((idle w pool ≡ 0) × ((left < 4) ⊎ (any_free w ≡ false))) → lacks_room_to_run w less pool ≡ true
    of_case (inl h) = lacks_two w less pool (omega (arith, h, fewer))
    of_case (inr h) = of_rest h.1
      where
        of_rest : (left < 4) ⊎ (any_free w ≡ false) → lacks_room_to_run w less pool ≡ true
        of_rest (inl short) = lacks_four w less pool (omega (arith, short, fewer)) h.0
        of_rest (inr busy) = lacks_worker w less pool h.0 busy

-- no pending callback of the pool could be taken in any room
abbrev is_barred : World → ℕ → Bool
is_barred w pool = (pending w pool == 0) || nat_le (maximum w pool) (running w pool)

pub stuck_less : (w : World) (left less : ℕ) → less ≤ left → IsStuck w left → IsStuck w less
stuck_less w left less fewer s = record {
  actors = s.actors;
  pools = λ pool made. pool_kept (is_barred w pool) (is_kept_waiting w pool) (is_kept_waiting w pool) (lacks_room_to_run w left pool) (lacks_room_to_run w less pool) (λ h. h) (lacks_less w left less pool fewer) (s.pools pool made);
}

-- a worker that is free
free_there : (w : World) (number : ℕ) (row : WorkerRow) → numbered w.workers number ≡ Some row → is_free w row ≡ true → any_free w ≡ true
free_there w number row there free = any_at (is_free w) w.workers (number - 1) row (numbered_some w.workers number row there).0 free

-- the persistent worker of the pool runs a callback
abbrev is_at_work : ℕ → WorkerRow → Bool
is_at_work pool r = is_persistent_in pool r && is_some r.callback

work_marks : (w : World) (pool : ℕ) → list_any (is_at_work pool) w.workers ≡ true → has_persistent w pool ≡ true
work_marks w pool e = any_also (is_at_work pool) (is_persistent_in pool) (λ r h. (both (is_persistent_in pool r) (is_some r.callback) h).0) w.workers e

module _ (w : World) (number : ℕ) (before after : WorkerRow) (there : numbered w.workers number ≡ Some before) (idles : before.callback ≡ None) (rests : after.callback ≡ None) where
  -- the worker, who runs nothing, is of another pool, or of none
  abbrev moved : World
  moved = with_worker w number after

  place : (slice_get w.workers (number - 1) ≡ Some before) × (1 ≤ number)
  place = numbered_some w.workers number before there

  -- a persistent worker that runs a callback is another one
  waiting_moved : (pool : ℕ) → is_kept_waiting w pool ≡ true → is_kept_waiting moved pool ≡ true
  waiting_moved pool e =
      let two = both (takeable w pool false == 0) (list_any (is_at_work pool) w.workers) e in
      let works : list_any (is_at_work pool) moved.workers ≡ true
      = any_put (is_at_work pool) w.workers (number - 1) before after place.0 (ap (λ (o : Option ℕ). is_persistent_in pool before && is_some o) idles ∙ and_false (is_persistent_in pool before)) two.1 in
      ap₂ (λ a b. a && b)
      (ap (λ b. length (filter (λ (c : CallbackRow). is_pending_in pool c && (not c.persistent || false || not b)) w.callbacks) == 0) (work_marks moved pool works ∙ sym (work_marks w pool two.1)) ∙ two.0) works

  stuck_moved : (left less : ℕ) → ((pool : ℕ) → lacks_room_to_run w left pool ≡ true → lacks_room_to_run moved less pool ≡ true) → IsStuck w left → IsStuck moved less
  stuck_moved left less keeps s =
      record {
        actors = actors;
        pools = λ pool made. pool_kept (is_barred w pool) (is_kept_waiting w pool) (is_kept_waiting moved pool) (lacks_room_to_run w left pool) (lacks_room_to_run moved less pool) (waiting_moved pool) (keeps pool) (s.pools pool made);
      }
    where
      actors : (who : Who) → is_actor moved who ≡ true → is_finished moved who ≡ false → is_without_callback moved who ≡ false → IsHeldUp moved who (wait_of moved who)
      actors (Client n) actor finished without = s.actors (Client n) actor finished without
      actors (Worker n) actor finished without =
          elim (n == number) as (λ b. (n == number) ≡ b → IsHeldUp moved (Worker n) (wait_of moved (Worker n))) [
            | true ↦ λ is.
                let put : numbered moved.workers number ≡ Some after = numbered_at moved.workers number _ place.1 (get_set w.workers (number - 1) _ _ place.0) in
                let same : numbered moved.workers n ≡ Some after = ap (numbered moved.workers) (eqb-true n number is) ∙ put in
                absurd (false_true (sym without ∙ ap (λ (o : Option WorkerRow). option_map_or (λ (r : WorkerRow). is_none r.callback) o false) same ∙ ap (λ (o : Option ℕ). is_none o) rests))
            | false ↦ λ apart.
                let same : numbered moved.workers n ≡ numbered w.workers n = numbered_set_other w.workers number n _ place.1 apart in
                s.actors (Worker n) (sym (ap (λ (o : Option WorkerRow). is_some o) same) ∙ actor) finished (sym (ap (λ (o : Option WorkerRow). option_map_or (λ (r : WorkerRow). is_none r.callback) o false) same) ∙ without)
          ] refl

-- a worker that joins a pool was free, and pays two entries
pub stuck_attached : (w : World) (worker : ℕ) (row : WorkerRow) (pool : PoolId) (left less : ℕ) → numbered w.workers worker ≡ Some row → row.pool ≡ None → row.callback ≡ None → less + 2 ≤ left → IsStuck w left
    → IsStuck (with_worker w worker (record { pool = Some pool; callback = None; persistent = false })) less
stuck_attached w worker row pool left less there away idles fewer s = stuck_moved w worker row new there idles refl left less (λ p e. of_case p (lacks w left p e)) s
  where
    new : WorkerRow
    new = record { pool = Some pool; callback = None; persistent = false }

    free : any_free w ≡ true
    free =
        free_there w worker row there
        (ap₂ (λ (c : Option ℕ) (q : Option PoolId). is_none c && (not row.persistent || option_map_or (λ (x : PoolId). is_closed_pool w x.0) q true)) idles away ∙ or_true (not row.persistent))

    of_case : (p : ℕ) → (left < 2) ⊎ ((idle w p ≡ 0) × ((left < 4) ⊎ (any_free w ≡ false))) → lacks_room_to_run (with_worker w worker new) less p ≡ true
    of_case p (inl h) = lacks_two (with_worker w worker new) less p (omega (arith, h, fewer))
    of_case p (inr h) = of_rest h.1
      where
        of_rest : (left < 4) ⊎ (any_free w ≡ false) → lacks_room_to_run (with_worker w worker new) less p ≡ true
        of_rest (inl short) = lacks_two (with_worker w worker new) less p (omega (arith, short, fewer))
        of_rest (inr busy) = absurd (false_true (sym busy ∙ free))

-- and one that leaves a pool was free, too, and leaves fewer idle
pub stuck_detached : (w : World) (by : Idle) (left less : ℕ) → MayDetach w by → less ≤ left → IsStuck w left → IsStuck (with_worker w by.worker unattached) less
stuck_detached w by left less may fewer s = stuck_moved w by.worker old unattached may.idles refl refl left less (λ p e. of_case p (lacks w left p e)) s
  where
    old : WorkerRow
    old = record { pool = Some by.pool; callback = None; persistent = by.persistent }

    gone : World
    gone = with_worker w by.worker unattached

    of_case : (p : ℕ) → (left < 2) ⊎ ((idle w p ≡ 0) × ((left < 4) ⊎ (any_free w ≡ false))) → lacks_room_to_run gone less p ≡ true
    of_case p (inl h) = lacks_two gone less p (omega (arith, h, fewer))
    of_case p (inr h) = of_rest h.1
      where
        of_rest : (left < 4) ⊎ (any_free w ≡ false) → lacks_room_to_run gone less p ≡ true
        of_rest (inl short) =
            let set = length_filter_set (is_idle_in p) w.workers (by.worker - 1) old unattached (numbered_some w.workers by.worker _ may.idles).0 in
            lacks_four gone less p (omega (arith, short, fewer)) (omega (arith, set, h.0))
        of_rest (inr busy) = absurd (false_true (sym busy ∙ free_there w by.worker old may.idles may.let_go))

-- ---- what it accepts

module _ (w : World) (left : ℕ) (who : Who) (sound : IsSound (next_number_in w) w) (stuck : IsStuck w left) where
  -- no actor is free to make a call of its own
  pub none_free : IsFree w who → ⊥
  none_free f = of_wait (wait_of w who) refl (stuck.actors who f.actor f.finished f.without)
    where
      of_wait : (o : Option BegunWait) → wait_of w who ≡ o → IsHeldUp w who o → ⊥
      of_wait None is h = absurd h
      of_wait (Some b) is h =
          let own : BegunWait → Bool = λ (x : BegunWait). is_same_actor x.actor who in
          false_true (sym f.waits ∙ found_any own own b w.waits is (find_passes own b w.waits is))

  -- no worker takes a callback
  pub none_taken : AreSole w.workers → (by : Idle) (c : CallbackRow) → MayTake w by c → 2 ≤ left → ⊥
  none_taken sole by c may fits = of_case (or_cases (is_barred w by.pool.0 || is_kept_waiting w by.pool.0) (lacks_room_to_run w left by.pool.0) (stuck.pools by.pool.0 made))
    where
      home : c.pool.0 ≡ by.pool.0
      home = ap (λ (p : PoolId). p.0) may.home

      made : by.pool.0 < length w.pools
      made = subst (λ n. n < length w.pools) home (find_all (λ (x : CallbackRow). x.pool.0 < length w.pools) (has_number c.number) c w.callbacks sound.callback_pools may.found)

      waits : is_pending_in by.pool.0 c ≡ true
      waits = (both (is_pending_in by.pool.0 c) (not c.persistent || by.persistent || not (has_persistent w by.pool.0)) may.open_to).0

      some : 1 ≤ pending w by.pool.0
      some = any_counts (is_pending_in by.pool.0) w.callbacks (found_any (has_number c.number) (is_pending_in by.pool.0) c w.callbacks may.found waits)

      row : WorkerRow
      row = record { pool = Some by.pool; callback = None; persistent = by.persistent }

      idles : 1 ≤ idle w by.pool.0
      idles =
          let set = length_filter_set (is_idle_in by.pool.0) w.workers (by.worker - 1) row unattached (numbered_some w.workers by.worker _ may.idles).0 in
          let own : cond {A = ℕ} (is_idle_in by.pool.0 row) 1 0 ≡ 1 = ap (λ b. cond {A = ℕ} (b && true) 1 0) (eq-eqb by.pool.0 by.pool.0 refl) in
          omega (arith, set, own)

      -- where the persistent worker runs a callback, and nothing is for others, the worker would be a second one
      of_waiting : is_kept_waiting w by.pool.0 ≡ true → ⊥
      of_waiting h = of_mark by.persistent refl (any_passing (is_at_work by.pool.0) w.workers two.1)
        where
          two : ((takeable w by.pool.0 false == 0) ≡ true) × (list_any (is_at_work by.pool.0) w.workers ≡ true)
          two = both (takeable w by.pool.0 false == 0) (list_any (is_at_work by.pool.0) w.workers) h

          -- what a worker without the mark may take is takeable
          closed_to : is_open_to w by.pool.0 false c ≡ true → ⊥
          closed_to open_to =
              omega (
                arith,
                any_counts (is_open_to w by.pool.0 false) w.callbacks (found_any (has_number c.number) (is_open_to w by.pool.0 false) c w.callbacks may.found open_to),
                eqb-true (takeable w by.pool.0 false) 0 two.0,
              )

          of_mark : (b : Bool) → by.persistent ≡ b → IsPassing (is_at_work by.pool.0) w.workers → ⊥
          of_mark false is on = closed_to (sym (ap (λ b. is_open_to w by.pool.0 b c) is) ∙ may.open_to)
          of_mark true is on =
              let works = both (is_persistent_in by.pool.0 on.row) (is_some on.row.callback) on.passes in
              let back : on.place ≡ on.place + 1 - 1 = omega arith in
              let its : numbered w.workers (on.place + 1) ≡ Some on.row = numbered_at w.workers (on.place + 1) on.row (omega arith) (subst (λ i. slice_get w.workers i ≡ Some on.row) back on.at) in
              let own : is_persistent_in by.pool.0 row ≡ true = ap₂ (λ a b. a && b) (eq-eqb by.pool.0 by.pool.0 refl) is in
              let same : by.worker ≡ on.place + 1 = sole by.pool.0 by.worker (on.place + 1) row on.row may.idles its own works.0 in
              let rows : Some row ≡ Some on.row = sym may.idles ∙ ap (numbered w.workers) same ∙ its in
              let one : row ≡ on.row = cc in
              false_true (ap (λ (r : WorkerRow). is_some r.callback) one ∙ works.1)

      of_barred : (is_barred w by.pool.0 ≡ true) ⊎ (is_kept_waiting w by.pool.0 ≡ true) → ⊥
      of_barred (inl h) = of_count (or_cases (pending w by.pool.0 == 0) (nat_le (maximum w by.pool.0) (running w by.pool.0)) h)
        where
          of_count : ((pending w by.pool.0 == 0) ≡ true) ⊎ (nat_le (maximum w by.pool.0) (running w by.pool.0) ≡ true) → ⊥
          of_count (inl g) = omega (arith, some, eqb-true (pending w by.pool.0) 0 g)
          of_count (inr g) = omega (arith, may.below, leb-true (maximum w by.pool.0) (running w by.pool.0) g)
      of_barred (inr h) = of_waiting h

      of_case : ((is_barred w by.pool.0 || is_kept_waiting w by.pool.0) ≡ true) ⊎ (lacks_room_to_run w left by.pool.0 ≡ true) → ⊥
      of_case (inl h) = of_barred (or_cases (is_barred w by.pool.0) (is_kept_waiting w by.pool.0) h)
      of_case (inr h) = of_lack (lacks w left by.pool.0 h)
        where
          of_lack : (left < 2) ⊎ ((idle w by.pool.0 ≡ 0) × ((left < 4) ⊎ (any_free w ≡ false))) → ⊥
          of_lack (inl g) = omega (arith, g, fits)
          of_lack (inr g) = omega (arith, g.0, idles)

  -- an End ends its wait as stalled or exhausted
  pub ends_given_up : (a : Answer) (ch : Change) → end_plan w left who ≡ plans.Does a ch → is_given_up a ≡ true
  unfolding end_plan
  ends_given_up a ch is =
      let behind = passed (end_refusals w who) _ a ch is in
      of_wait (wait_of w who) (stuck.actors who (not_false (is_actor w who) behind.0.0) behind.0.1.0 behind.0.1.1.0) behind.1
    where
      of_look : (seen : Look) → stall_or_look w left who seen ≡ plans.Does a ch → is_given_up a ≡ true
      of_look seen h =
          elim (is_stalled w left) as (λ b. cond b (plans.Does answer.Stalled (change.EndWait who how.Stalled)) (plans.Looked seen) ≡ plans.Does a ch → is_given_up a ≡ true) [
            | true ↦ λ g. let same : answer.Stalled ≡ a = cc in ap is_given_up (sym same)
            | false ↦ λ g. absurd cc
          ] h

      of_held : (b : BegunWait) (numbers : List ℕ) → nat_lt 0 (length numbers) ≡ true → end_unless_stalled w left who (end_held w left who b numbers) ≡ plans.Does a ch → is_given_up a ≡ true
      of_held b [] some h = absurd (omega (arith, ltb-true 0 0 some))
      of_held b (n ∷ ns) some h =
          elim (holds_starved w left (n ∷ ns)) as (λ t. end_unless_stalled w left who (cond t (plans.Does answer.Exhausted (change.EndWait who how.Exhausted)) (plans.Looked (look.NotYet n))) ≡ plans.Does a ch → is_given_up a ≡ true) [
            | true ↦ λ g. let same : answer.Exhausted ≡ a = cc in ap is_given_up (sym same)
            | false ↦ λ g. of_look (look.NotYet n) g
          ] h

      of_target : (b : BegunWait) (t : WaitTarget) → is_held_up w who b t ≡ true → end_unless_stalled w left who (end_for w left who b t) ≡ plans.Does a ch → is_given_up a ≡ true
      of_target b (Object object) up h = of_held b (held w b) up h
      of_target b (Group group) up h = of_held b (held w b) up h
      of_target b (Kernel kernel) up h =
          elim (is_kernel_that (may_take who) w kernel.0) as (λ t. not t ≡ true → end_unless_stalled w left who (cond t (plans.Does answer.Ended (change.EndWait who how.Free)) (plans.Looked (look.NotYetKernel kernel))) ≡ plans.Does a ch → is_given_up a ≡ true) [
            | true ↦ λ f g. absurd (false_true f)
            | false ↦ λ f g. of_look (look.NotYetKernel kernel) g
          ] up h

      of_wait : (o : Option BegunWait) → IsHeldUp w who o → end_unless_stalled w left who (end_wait w left who o) ≡ plans.Does a ch → is_given_up a ≡ true
      of_wait None up h = absurd up
      of_wait (Some b) up h = of_target b b.target up h
