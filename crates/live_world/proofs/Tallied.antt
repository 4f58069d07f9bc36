-- Workers and what they run, as callbacks and workers change.
use Rattle.std.proofs.Common.{◌≡◌, ◌≢◌, ℕ, suc, zero, ◌+◌, ◌-◌, ◌<◌, ◌≤◌, Bool, true, false, cond, not, ◌&&◌, ◌==◌, nat_lt, List, [], ◌∷◌, ◌++◌, length, map, slice_get, slice_set, Option, Some, None, refl, sym, ap, ap₂, ◌∙◌, subst, arith, filter, find, option_map, eqb-true, ne_eqb, lt-ltb}
use Rattle.std.specs.List.{AllByRecursion}
use Rattle.std.specs.Option.{option_map_or}
use Rattle.std.proofs.lemmas.Option.{slice_get-map}
use Rattle.tp_base.specs.declared.ids.PoolId.{PoolId}
use Rattle.tp_base.specs.declared.rows.Slots.{Slots}
use Rattle.tp_base.specs.declared.rows.Status.TheVariants.{Running}
use Rattle.tp_base.specs.declared.rows.CallbackRow.{CallbackRow}
use Rattle.tp_base.specs.declared.rows.WorkerRow.{WorkerRow}
use Rattle.pool_rows.specs.Pools.{Pools, worker_of, with_worker as with_kept_worker}
use Rattle.pool_rows.specs.Workers.{is_attached_to, runs_in, runs_long_in}
use Rattle.pool_rows.specs.declared.WorkerRow as kept
use Rattle.tp_model.specs.Counts.{numbered, has_number, is_running, is_running_in, is_running_long_in}
use Rattle.tp_model.specs.Changes.{replaced}
use Rattle.tp_model.specs.Support.Sound.{IsRising, IsWorkerSound, AreWorkersSound}
use Rattle.tp_model.specs.Support.Remembered.{lives}
use Rattle.tp_model.proofs.Lists.{all_set, find_kept, find_passes, length_filter_set, filter_filter}
use Rattle.tp_model.proofs.Callbacks.{find_appended, find_replaced, find_replaced_other, length_filter_replaced, over_not_running}
use Rattle.tp_model.proofs.Refusals.{numbered_some, false_true}
use Rattle.live_world.specs.Parts.{shown_worker}
use Rattle.live_world.specs.Invariant.{AreTallied, AreMarked, IsMarked}
use Rattle.live_world.proofs.Lists.{none_more, length_same, one_if}

-- ---- the row here behind a row of the world

pub record IsBehind (workers : List kept.WorkerRow) (number : ℕ) (pool : Option PoolId) (callback : Option ℕ) (persistent : Bool) : Type 0 where
  pub row : kept.WorkerRow
  pub at_place : slice_get workers (number - 1) ≡ Some row
  pub from_one : 1 ≤ number
  pub same_pool : row.pool ≡ pool
  pub same_callback : cond (row.callback == 0) None (Some row.callback) ≡ callback
  pub same_persistent : row.persistent ≡ persistent

pub is_behind : (workers : List kept.WorkerRow) (number : ℕ) (pool : Option PoolId) (callback : Option ℕ) (persistent : Bool)
    → numbered (map shown_worker workers) number ≡ Some (record { pool = pool; callback = callback; persistent = persistent }) → IsBehind workers number pool callback persistent
is_behind workers number pool callback persistent is =
    let shown : WorkerRow = record { pool = pool; callback = callback; persistent = persistent } in
    let place = numbered_some (map shown_worker workers) number shown is in
    at (slice_get workers (number - 1)) refl (sym (slice_get-map shown_worker workers (number - 1)) ∙ place.0) place.1
  where
    at : (o : Option kept.WorkerRow) → slice_get workers (number - 1) ≡ o → option_map shown_worker (slice_get workers (number - 1)) ≡ Some (record { pool = pool; callback = callback; persistent = persistent }) → 1 ≤ number → IsBehind workers number pool callback persistent
    at None e shows from_one = let h : option_map shown_worker None ≡ Some (record { pool = pool; callback = callback; persistent = persistent }) = ap (option_map shown_worker) (sym e) ∙ shows in absurd cc
    at (Some row) e shows from_one =
        let same : shown_worker row ≡ record { pool = pool; callback = callback; persistent = persistent } = some_same (shown_worker row) (record { pool = pool; callback = callback; persistent = persistent }) (ap (option_map shown_worker) (sym e) ∙ shows) in
        record { row = row; at_place = e; from_one = from_one; same_pool = ap (λ (x : WorkerRow). x.pool) same; same_callback = ap (λ (x : WorkerRow). x.callback) same; same_persistent = ap (λ (x : WorkerRow). x.persistent) same }
      where
        some_same : (x y : WorkerRow) → Some x ≡ Some y → x ≡ y
        some_same x y h = cc

pub runs_nothing : (n : ℕ) → cond (n == 0) None (Some n) ≡ None → n ≡ 0
runs_nothing n e =
    elim (n == 0) as (λ b. (n == 0) ≡ b → cond b None (Some n) ≡ None → n ≡ 0) [
      | true ↦ λ z _. eqb-true n 0 z
      | false ↦ λ _ h. absurd cc
    ] refl e

-- the number is that one, and not 0
pub runs_this : (n m : ℕ) → cond (n == 0) None (Some n) ≡ Some m → (n ≡ m) × (n ≢ 0)
runs_this n m e =
    elim (n == 0) as (λ b. (n == 0) ≡ b → cond b None (Some n) ≡ Some m → (n ≡ m) × (n ≢ 0)) [
      | true ↦ λ _ h. absurd cc
      | false ↦ λ z h. (some_same n m h, λ none. false_is_true (sym z ∙ ap (λ k. k == 0) none))
    ] refl e
  where
    some_same : (a b : ℕ) → Some a ≡ Some b → a ≡ b
    some_same a b h = cc

    false_is_true : false ≡ true → ⊥
    false_is_true h = cc

-- one worker's row is changed
pub worker_changed : (pools : Pools) (number : ℕ) (row : kept.WorkerRow) (f : kept.WorkerRow → kept.WorkerRow) → slice_get pools.workers (number - 1) ≡ Some row → 1 ≤ number
    → with_kept_worker number f pools ≡ record pools { workers = slice_set pools.workers (number - 1) (f row) }
worker_changed pools number row f is from_one =
    let found : worker_of number pools ≡ Some row = ap (λ b. cond b None (slice_get pools.workers (number - 1))) (ne_eqb number 0 (λ e. omega (arith, e, from_one))) ∙ is in
    ap (λ o. record pools { workers = option_map_or (λ w. slice_set pools.workers (number - 1) (f w)) o pools.workers }) found

-- ---- what rows count as

-- a worker that runs nothing is at work nowhere
pub rests : (row : kept.WorkerRow) → row.callback ≡ 0 → (p : ℕ) → runs_in p row ≡ false
rests row idle p = ap (λ n. is_attached_to p row && nat_lt 0 n) idle ∙ nothing (is_attached_to p row)
  where
    nothing : (b : Bool) → (b && nat_lt 0 0) ≡ false
    nothing true = refl
    nothing false = refl

-- a worker that runs a callback of its pool is at work where the callback runs
pub works : (row : kept.WorkerRow) (pool : PoolId) (c : CallbackRow) → row.pool ≡ Some pool → row.callback ≢ 0 → c.pool ≡ pool → is_running c.status ≡ true → (p : ℕ) → is_running_in p c ≡ runs_in p row
works row pool c at busy home ran p =
    ap₂ (λ a (q : PoolId). a && (q.0 == p)) ran home
    ∙ sym (ap₂ (λ (q : Option PoolId) (b : Bool). option_map_or (λ (x : PoolId). x.0 == p) q false && b) at (above row.callback busy) ∙ and_true (pool.0 == p))
  where
    above : (n : ℕ) → n ≢ 0 → nat_lt 0 n ≡ true
    above zero h = absurd (h refl)
    above (suc n) h = lt-ltb 0 (suc n) (omega arith)

    and_true : (b : Bool) → (b && true) ≡ b
    and_true true = refl
    and_true false = refl

-- ---- marks

marked_more : (c : CallbackRow) (cs : List CallbackRow) (ws : List kept.WorkerRow) → AreMarked cs ws → AreMarked (cs ++ c ∷ []) ws
marked_more c cs [] m = tt
marked_more c cs (w ∷ ws) m = ((λ runs. let had = m.0 runs in (had.0, find_appended w.callback cs had.0 c had.1, had.2)), marked_more c cs ws m.1)

-- each worker but the one at a place runs another callback
abbrev pub AreApart : ℕ → List kept.WorkerRow → Type 0
AreApart number ws = AllByRecursion (λ (w : kept.WorkerRow). w.callback ≢ 0 → w.callback ≢ number) ws

pub same_found : (m n : ℕ) (x y : CallbackRow) (cs : List CallbackRow) → n ≡ m → find (has_number m) cs ≡ Some x → find (has_number n) cs ≡ Some y → x ≡ y
same_found m n x y cs e fx fy =
    let both_found : Some x ≡ Some y = sym fx ∙ ap (λ k. find (has_number k) cs) (sym e) ∙ fy in cc

another_runs : (c : CallbackRow) (runner : ℕ) (associated : Bool) (slots : Slots) (cs : List CallbackRow) (at : ℕ) (w : kept.WorkerRow)
    → find (has_number c.number) cs ≡ Some c → c.status ≡ Running runner associated slots → at ≢ runner → IsWorkerSound cs at w.pool (cond (w.callback == 0) None (Some w.callback)) → w.callback ≢ 0 → w.callback ≢ c.number
another_runs c runner associated slots cs at w found runs apart s busy same = in_pool w.pool (subst (λ b. IsWorkerSound cs at w.pool (cond b None (Some w.callback))) (ne_eqb w.callback 0 busy) s)
  where
    same_worker : (m n : ℕ) (a b : Bool) (s t : Slots) → Running m a s ≡ Running n b t → m ≡ n
    same_worker m n a b s t e = cc

    in_pool : (pool : Option PoolId) → IsWorkerSound cs at pool (Some w.callback) → ⊥
    in_pool None h = h
    in_pool (Some p) h =
        let is : h.callback ≡ c = same_found w.callback c.number h.callback c cs (sym same) h.found found in
        let status : Running at h.associated h.slots ≡ Running runner associated slots = sym h.runs ∙ ap (λ (x : CallbackRow). x.status) is ∙ runs in
        apart (same_worker at runner h.associated associated h.slots slots status)

-- no worker runs a callback that doesn't run
pub still_apart : (c : CallbackRow) (cs : List CallbackRow) (at : ℕ) (ws : List kept.WorkerRow) → find (has_number c.number) cs ≡ Some c → is_running c.status ≡ false → AreWorkersSound cs at (map shown_worker ws) → AreApart c.number ws
still_apart c cs at [] found still s = tt
still_apart c cs at (w ∷ ws) found still s = ((λ busy same. in_pool w.pool same (subst (λ b. IsWorkerSound cs at w.pool (cond b None (Some w.callback))) (ne_eqb w.callback 0 busy) s.0)), still_apart c cs (at + 1) ws found still s.1)
  where
    in_pool : (pool : Option PoolId) → w.callback ≡ c.number → IsWorkerSound cs at pool (Some w.callback) → ⊥
    in_pool None same h = h
    in_pool (Some p) same h =
        let is : h.callback ≡ c = same_found w.callback c.number h.callback c cs (sym same) h.found found in
        false_true (sym still ∙ sym (ap (λ (x : CallbackRow). is_running x.status) is) ∙ ap is_running h.runs)

-- only one worker runs a callback, so once it runs nothing no worker does
pub others_apart : (c : CallbackRow) (runner : ℕ) (associated : Bool) (slots : Slots) (cs : List CallbackRow) (first place : ℕ) (ws : List kept.WorkerRow) (new : kept.WorkerRow)
    → find (has_number c.number) cs ≡ Some c → c.status ≡ Running runner associated slots → first + place ≡ runner → new.callback ≡ 0 → AreWorkersSound cs first (map shown_worker ws) → AreApart c.number (slice_set ws place new)
others_apart c runner associated slots cs first place [] new found runs is none s = tt
others_apart c runner associated slots cs first zero (w ∷ ws) new found runs is none s =
    ((λ busy. absurd (busy none)), rest (first + 1) ws (omega (arith, is)) s.1)
  where
    rest : (at : ℕ) (rows : List kept.WorkerRow) → runner < at → AreWorkersSound cs at (map shown_worker rows) → AreApart c.number rows
    rest at [] lt t = tt
    rest at (x ∷ xs) lt t = (another_runs c runner associated slots cs at x found runs (λ e. omega (arith, e, lt)) t.0, rest (at + 1) xs (omega (arith, lt)) t.1)
others_apart c runner associated slots cs first (suc place) (w ∷ ws) new found runs is none s = (
  another_runs c runner associated slots cs first w found runs (λ e. omega (arith, e, is)) s.0,
  others_apart c runner associated slots cs (first + 1) place ws new found runs (omega (arith, is)) none s.1,
)

-- a callback that no worker runs gets another row
pub marked_apart : (r : CallbackRow) (cs : List CallbackRow) (ws : List kept.WorkerRow) → AreApart r.number ws → AreMarked cs ws → AreMarked (replaced r cs) ws
marked_apart r cs [] apart m = tt
marked_apart r cs (w ∷ ws) apart m = (
  (λ runs. let had = m.0 runs in (had.0, find_replaced_other r w.callback cs (ne_eqb r.number w.callback (λ e. apart.0 runs (sym e))) ∙ had.1, had.2)),
  marked_apart r cs ws apart.1 m.1,
)

-- or a row with the same long mark
pub marked_replaced : (r c : CallbackRow) (cs : List CallbackRow) (ws : List kept.WorkerRow) → find (has_number r.number) cs ≡ Some c → r.long ≡ c.long → AreMarked cs ws → AreMarked (replaced r cs) ws
marked_replaced r c cs [] found same m = tt
marked_replaced r c cs (w ∷ ws) found same m = ((λ runs. one (m.0 runs)), marked_replaced r c cs ws found same m.1)
  where
    one : (d : CallbackRow) × (find (has_number w.callback) cs ≡ Some d) × (w.long ≡ d.long) → (d : CallbackRow) × (find (has_number w.callback) (replaced r cs) ≡ Some d) × (w.long ≡ d.long)
    one had =
        elim (has_number w.callback r) as (λ b. has_number w.callback r ≡ b → (d : CallbackRow) × (find (has_number w.callback) (replaced r cs) ≡ Some d) × (w.long ≡ d.long)) [
          | true ↦ λ e.
              let is : r.number ≡ w.callback = eqb-true r.number w.callback e in (
                r,
                ap (λ n. find (has_number n) (replaced r cs)) (sym is) ∙ find_replaced r c cs found,
                had.2 ∙ ap (λ (x : CallbackRow). x.long) (same_found w.callback r.number had.0 c cs is had.1 found) ∙ sym same,
              )
          | false ↦ λ e. (had.0, find_replaced_other r w.callback cs e ∙ had.1, had.2)
        ] refl

-- a callback that no worker runs is no longer kept
pub marked_others : (number : ℕ) (cs : List CallbackRow) (ws : List kept.WorkerRow) → AreApart number ws → AreMarked cs ws → AreMarked (filter (λ (c : CallbackRow). not (has_number number c)) cs) ws
marked_others number cs [] apart m = tt
marked_others number cs (w ∷ ws) apart m = ((λ runs. one (m.0 runs) (apart.0 runs)), marked_others number cs ws apart.1 m.1)
  where
    one : (d : CallbackRow) × (find (has_number w.callback) cs ≡ Some d) × (w.long ≡ d.long) → w.callback ≢ number → (d : CallbackRow) × (find (has_number w.callback) (filter (λ (c : CallbackRow). not (has_number number c)) cs) ≡ Some d) × (w.long ≡ d.long)
    one had other =
        let is : had.0.number ≡ w.callback = eqb-true had.0.number w.callback (find_passes (has_number w.callback) had.0 cs had.1) in
        (had.0, find_kept (has_number w.callback) (λ (c : CallbackRow). not (has_number number c)) had.0 (ap not (ne_eqb had.0.number number (λ e. other (sym is ∙ e)))) cs had.1, had.2)

pub marked_set : (cs : List CallbackRow) (ws : List kept.WorkerRow) (place : ℕ) (new : kept.WorkerRow) → IsMarked cs new → AreMarked cs ws → AreMarked cs (slice_set ws place new)
marked_set cs ws place new here m = all_set (IsMarked cs) ws place new here m

-- ---- tallies

-- a callback is made that doesn't run
pub tallied_more : (c : CallbackRow) (cs : List CallbackRow) (ws : List kept.WorkerRow) → is_running c.status ≡ false → AreTallied cs ws → AreTallied (cs ++ c ∷ []) ws
tallied_more c cs ws still k =
    record {
      marked = marked_more c cs ws k.marked;
      run = λ p. none_more (is_running_in p) cs c (ap (λ b. b && (c.pool.0 == p)) still) ∙ k.run p;
      run_long = λ p. none_more (is_running_long_in p) cs c (ap (λ b. (b && (c.pool.0 == p)) && c.long) still) ∙ k.run_long p;
    }

-- a worker that runs nothing joins a pool or leaves it
pub tallied_free : (cs : List CallbackRow) (ws : List kept.WorkerRow) (place : ℕ) (row new : kept.WorkerRow) → slice_get ws place ≡ Some row → row.callback ≡ 0 → new.callback ≡ 0 → AreTallied cs ws → AreTallied cs (slice_set ws place new)
tallied_free cs ws place row new is idle none k =
    record {
      marked = marked_set cs ws place new (λ runs. absurd (runs none)) k.marked;
      run = λ p. k.run p ∙ sym (length_same (runs_in p) ws place row new is (rests row idle p ∙ sym (rests new none p)));
      run_long = λ p. k.run_long p ∙ sym (length_same (runs_long_in p) ws place row new is (ap (λ b. b && row.long) (rests row idle p) ∙ sym (ap (λ b. b && new.long) (rests new none p))));
    }

-- the rows of a callback and of its worker count as the same before and after
pub record CountAlike (c : CallbackRow) (row : kept.WorkerRow) : Type 0 where
  pub run : (p : ℕ) → is_running_in p c ≡ runs_in p row
  pub run_long : (p : ℕ) → is_running_long_in p c ≡ runs_long_in p row

-- neither the callback nor the worker is at work
pub idle_alike : (c : CallbackRow) (row : kept.WorkerRow) → is_running c.status ≡ false → row.callback ≡ 0 → CountAlike c row
idle_alike c row still idle =
    record {
      run = λ p. ap (λ b. b && (c.pool.0 == p)) still ∙ sym (rests row idle p);
      run_long = λ p. ap (λ b. (b && (c.pool.0 == p)) && c.long) still ∙ sym (ap (λ b. b && row.long) (rests row idle p));
    }

-- the worker runs the callback
pub busy_alike : (c : CallbackRow) (row : kept.WorkerRow) (pool : PoolId) → row.pool ≡ Some pool → row.callback ≢ 0 → c.pool ≡ pool → is_running c.status ≡ true → c.long ≡ row.long → CountAlike c row
busy_alike c row pool at busy home ran long =
    record {
      run = works row pool c at busy home ran;
      run_long = λ p. ap₂ (λ a b. a && b) (works row pool c at busy home ran p) long;
    }

pub tallied_both : (next_number : ℕ) (r c : CallbackRow) (cs : List CallbackRow) (ws : List kept.WorkerRow) (place : ℕ) (row new : kept.WorkerRow)
    → IsRising 1 next_number cs → find (has_number r.number) cs ≡ Some c → slice_get ws place ≡ Some row → CountAlike c row → CountAlike r new
    → AreMarked (replaced r cs) (slice_set ws place new) → AreTallied cs ws → AreTallied (replaced r cs) (slice_set ws place new)
tallied_both next_number r c cs ws place row new rising found is before after marks k =
    record {
      marked = marks;
      run = λ p. counted (is_running_in p) (runs_in p) (before.run p) (after.run p) (k.run p);
      run_long = λ p. counted (is_running_long_in p) (runs_long_in p) (before.run_long p) (after.run_long p) (k.run_long p);
    }
  where
    counted : (of_callbacks : CallbackRow → Bool) (of_workers : kept.WorkerRow → Bool) → of_callbacks c ≡ of_workers row → of_callbacks r ≡ of_workers new
        → length (filter of_callbacks cs) ≡ length (filter of_workers ws) → length (filter of_callbacks (replaced r cs)) ≡ length (filter of_workers (slice_set ws place new))
    counted of_callbacks of_workers was now same =
        let callbacks_now : length (filter of_callbacks (replaced r cs)) + one_if (of_callbacks c) ≡ length (filter of_callbacks cs) + one_if (of_callbacks r) = length_filter_replaced of_callbacks r c 1 next_number cs rising found in
        let workers_now : length (filter of_workers (slice_set ws place new)) + one_if (of_workers row) ≡ length (filter of_workers ws) + one_if (of_workers new) = length_filter_set of_workers ws place row new is in
        omega (arith, callbacks_now, workers_now, ap one_if was, ap one_if now, same)

-- another row of a callback, which runs where the one before ran
pub tallied_still : (next_number : ℕ) (r c : CallbackRow) (cs : List CallbackRow) (ws : List kept.WorkerRow) → ((p : ℕ) → is_running_in p r ≡ is_running_in p c) → ((p : ℕ) → is_running_long_in p r ≡ is_running_long_in p c)
    → IsRising 1 next_number cs → find (has_number r.number) cs ≡ Some c → AreMarked (replaced r cs) ws → AreTallied cs ws → AreTallied (replaced r cs) ws
tallied_still next_number r c cs ws run run_long rising found marks k =
    record {
      marked = marks;
      run = λ p. counted (is_running_in p) (run p) ∙ k.run p;
      run_long = λ p. counted (is_running_long_in p) (run_long p) ∙ k.run_long p;
    }
  where
    counted : (test : CallbackRow → Bool) → test r ≡ test c → length (filter test (replaced r cs)) ≡ length (filter test cs)
    counted test same =
        let now : length (filter test (replaced r cs)) + one_if (test c) ≡ length (filter test cs) + one_if (test r) = length_filter_replaced test r c 1 next_number cs rising found in
        omega (arith, now, ap one_if same)

-- what is over is at work nowhere
pub tallied_lives : (cs : List CallbackRow) (ws : List kept.WorkerRow) → AreMarked (filter lives cs) ws → AreTallied cs ws → AreTallied (filter lives cs) ws
tallied_lives cs ws marks k =
    record {
      marked = marks;
      run = λ p. ap length (filter_filter (is_running_in p) lives (λ x e. ap (λ b. b && (x.pool.0 == p)) (over_not_running x.status e)) cs) ∙ k.run p;
      run_long = λ p. ap length (filter_filter (is_running_long_in p) lives (λ x e. ap (λ b. (b && (x.pool.0 == p)) && x.long) (over_not_running x.status e)) cs) ∙ k.run_long p;
    }
