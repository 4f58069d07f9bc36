-- Whether no callback goes on, told by the pools, and all is over, told by the clients' numbers besides.
use Rattle.std.proofs.Common.{◌≡◌, ℕ, suc, ◌<◌, Bool, true, false, cond, not, ◌&&◌, ◌||◌, ◌==◌, List, [], ◌∷◌, length, refl, sym, ap, ap₂, ◌∙◌, arith, filter, eqb-true, eq-eqb, ne_eqb}
use Rattle.std.specs.List.{AllByRecursion, list_all, list_any, range_with_len}
use Rattle.std.specs.Prelude.{get_or}
use Rattle.std.proofs.lemmas.List.Folds.{list_all_at}
use Rattle.std.proofs.lemmas.List.FromFn.{length-range_with_len, get_or-range_with_len}
use Rattle.tp_base.specs.declared.ids.Who.TheVariants.{Client}
use Rattle.tp_base.specs.declared.rows.CallbackRow.{CallbackRow}
use Rattle.tp_model.specs.Conditions.{is_finished}
use Rattle.tp_model.specs.Counts.{is_pending, is_running, is_pending_in, is_running_in}
use Rattle.tp_model.specs.Stalled.{is_free, lacks_room_to_run}
use Rattle.tp_model.specs.Over.{goes_on, is_over}
use Rattle.tp_model.specs.World.{World}
use Rattle.live_queries.specs.Resting.{is_pool_over}
use Rattle.live_queries.proofs.Numbered.{finished_by_number}

-- ---- of a test of pools and some callbacks

all_both : (p q r : ℕ → Bool) → ((n : ℕ) → p n ≡ (q n && r n)) → (ns : List ℕ) → list_all p ns ≡ (list_all q ns && list_all r ns)
all_both p q r each [] = refl
all_both p q r each (n ∷ ns) = ap₂ (λ a b. a && b) (each n) (all_both p q r each ns) ∙ swapped (q n) (r n) (list_all q ns) (list_all r ns)
  where
    swapped : (a b c d : Bool) → ((a && b) && (c && d)) ≡ ((a && c) && (b && d))
    swapped true true c d = refl
    swapped true false true d = refl
    swapped true false false d = refl
    swapped false b c d = refl

all_true : (ns : List ℕ) → list_all (λ _. true) ns ≡ true
all_true [] = refl
all_true (n ∷ ns) = all_true ns

some_not_none : (n : ℕ) → (suc n == 0) ≡ false
some_not_none n = ne_eqb (suc n) 0 (λ e. omega (arith, e))

module _ (short : ℕ → Bool) where
  abbrev pub goes : CallbackRow → Bool
  goes c = is_running c.status || (is_pending c.status && not (short c.pool.0))

  abbrev pub at_rest : List CallbackRow → ℕ → Bool
  at_rest cs pool = (length (filter (is_running_in pool) cs) == 0) && ((length (filter (is_pending_in pool) cs) == 0) || short pool)

  -- one callback more
  one_more : (c : CallbackRow) (cs : List CallbackRow) (pool : ℕ) → at_rest (c ∷ cs) pool ≡ (not (goes c && (c.pool.0 == pool)) && at_rest cs pool)
  one_more c cs pool = of_pool (c.pool.0 == pool) refl
    where
      rest_of : Bool → Bool → Bool → Bool → Bool
      rest_of here runs waits s =
          (length (cond (runs && here) (c ∷ filter (is_running_in pool) cs) (filter (is_running_in pool) cs)) == 0)
          && ((length (cond (waits && here) (c ∷ filter (is_pending_in pool) cs) (filter (is_pending_in pool) cs)) == 0) || s)

      settles : (a b : Bool) → (a && (false || true)) ≡ (a && (b || true))
      settles true true = refl
      settles true false = refl
      settles false b = refl

      stops : (a : Bool) → (a && (false || false)) ≡ false
      stops true = refl
      stops false = refl

      here_is : (runs waits s : Bool) → rest_of true runs waits s ≡ (not ((runs || (waits && not s)) && true) && ((length (filter (is_running_in pool) cs) == 0) && ((length (filter (is_pending_in pool) cs) == 0) || s)))
      here_is true waits s = ap (λ b. b && ((length (cond (waits && true) (c ∷ filter (is_pending_in pool) cs) (filter (is_pending_in pool) cs)) == 0) || s)) (some_not_none (length (filter (is_running_in pool) cs)))
      here_is false true true =
          ap (λ b. (length (filter (is_running_in pool) cs) == 0) && (b || true)) (some_not_none (length (filter (is_pending_in pool) cs)))
          ∙ settles (length (filter (is_running_in pool) cs) == 0) (length (filter (is_pending_in pool) cs) == 0)
      here_is false true false =
          ap (λ b. (length (filter (is_running_in pool) cs) == 0) && (b || false)) (some_not_none (length (filter (is_pending_in pool) cs)))
          ∙ stops (length (filter (is_running_in pool) cs) == 0)
      here_is false false s = refl

      there_is : (runs waits t : Bool) → rest_of false runs waits (short pool) ≡ (not ((runs || (waits && not t)) && false) && ((length (filter (is_running_in pool) cs) == 0) && ((length (filter (is_pending_in pool) cs) == 0) || short pool)))
      there_is true true t = refl
      there_is true false t = refl
      there_is false true true = refl
      there_is false true false = refl
      there_is false false t = refl

      of_pool : (here : Bool) → (c.pool.0 == pool) ≡ here → at_rest (c ∷ cs) pool ≡ (not (goes c && (c.pool.0 == pool)) && at_rest cs pool)
      of_pool true e =
          ap (λ b. rest_of b (is_running c.status) (is_pending c.status) (short pool)) e
          ∙ here_is (is_running c.status) (is_pending c.status) (short pool)
          ∙ ap₂ (λ s b. not ((is_running c.status || (is_pending c.status && not s)) && b) && at_rest cs pool) (ap short (sym (eqb-true c.pool.0 pool e))) (sym e)
      of_pool false e =
          ap (λ b. rest_of b (is_running c.status) (is_pending c.status) (short pool)) e
          ∙ there_is (is_running c.status) (is_pending c.status) (short c.pool.0)
          ∙ ap (λ b. not (goes c && b) && at_rest cs pool) (sym e)

  -- a callback of a pool that was made
  of_made : (pools : ℕ) (c : CallbackRow) → c.pool.0 < pools → list_all (λ pool. not (goes c && (c.pool.0 == pool))) (range_with_len 0 pools) ≡ not (goes c)
  of_made pools c made = known (goes c)
    where
      known : (b : Bool) → list_all (λ pool. not (b && (c.pool.0 == pool))) (range_with_len 0 pools) ≡ not b
      known false = all_true (range_with_len 0 pools)
      known true =
          list_all_at (λ pool. not (true && (c.pool.0 == pool))) (range_with_len 0 pools) c.pool.0 0 (omega (arith, made, length-range_with_len 0 pools))
          (ap not (eq-eqb c.pool.0 (get_or (range_with_len 0 pools) c.pool.0 0) (omega (arith, get_or-range_with_len 0 pools c.pool.0 0 made))))

  pub all_at_rest : (pools : ℕ) (cs : List CallbackRow) → AllByRecursion (λ (c : CallbackRow). c.pool.0 < pools) cs → list_all (at_rest cs) (range_with_len 0 pools) ≡ not (list_any goes cs)
  all_at_rest pools [] homes = all_true (range_with_len 0 pools)
  all_at_rest pools (c ∷ cs) homes =
      all_both (at_rest (c ∷ cs)) (λ pool. not (goes c && (c.pool.0 == pool))) (at_rest cs) (one_more c cs) (range_with_len 0 pools)
      ∙ ap₂ (λ a b. a && b) (of_made pools c homes.0) (all_at_rest pools cs homes.1)
      ∙ neither (goes c) (list_any goes cs)
    where
      neither : (a b : Bool) → (not a && not b) ≡ not (a || b)
      neither true b = refl
      neither false b = refl

-- ---- of a world

over_by_pools : (w : World) (room : ℕ) → AllByRecursion (λ (c : CallbackRow). c.pool.0 < length w.pools) w.callbacks
    → list_all (is_pool_over w room (list_any (is_free w) w.workers)) (range_with_len 0 (length w.pools)) ≡ not (list_any (goes_on w room) w.callbacks)
over_by_pools w room homes = all_at_rest (lacks_room_to_run w room) (length w.pools) w.callbacks homes

pub over_by_numbers : (w : World) (room : ℕ) → AllByRecursion (λ (c : CallbackRow). c.pool.0 < length w.pools) w.callbacks
    → is_over w room ≡ (list_all (λ number. is_finished w (Client number)) (range_with_len 1 (length w.clients)) && list_all (is_pool_over w room (list_any (is_free w) w.workers)) (range_with_len 0 (length w.pools)))
over_by_numbers w room homes = ap₂ (λ a b. a && b) (sym (finished_by_number w)) (sym (over_by_pools w room homes))
