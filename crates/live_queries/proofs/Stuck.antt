-- Whether no worker can take a callback, told by the workers' numbers and the pools.
use Rattle.std.proofs.Common.{◌≡◌, ◌<◌, ◌≤◌, ℕ, Bool, true, false, cond, arith, filter, find, not, ◌&&◌, ◌||◌, List, [], ◌∷◌, length, Option, Some, None, is_none, refl, sym, ap, ◌∙◌}
use Rattle.std.specs.List.{list_all, list_any, range_with_len}
use Rattle.std.proofs.Math.Bool.{and_assoc, and_comm}
use Rattle.tp_base.specs.Actors.{is_same_actor}
use Rattle.tp_base.specs.declared.ids.Who.{Who}
use Rattle.tp_base.specs.declared.ids.Who.TheVariants.{Worker}
use Rattle.tp_model.specs.Calls.Waits.{end_wait}
use Rattle.tp_model.specs.Conditions.{is_in_wait, runs_callback}
use Rattle.tp_model.specs.Stalled.{is_client_stuck, is_free, is_look, is_pool_stuck, is_stalled, is_worker_stuck, waits_on}
use Rattle.tp_model.specs.Waits.{wait_of}
use Rattle.tp_model.specs.World.{World, BegunWait}
use Rattle.tp_model.proofs.Refusals.{neither}
use Rattle.live_queries.specs.Resting.{is_pool_blocked, is_worker_free}

-- ---- the pools

-- none of the pools lets a worker take
pub stuck_by_pools : (w : World) (room : ℕ)
    → list_all (is_pool_blocked w room (list_any (is_free w) w.workers)) (range_with_len 0 (length w.pools)) ≡ list_all (is_pool_stuck w room) (range_with_len 0 (length w.pools))
stuck_by_pools w room = refl

-- whether a machine is stalled, in whichever order it is asked of its clients, its workers and its pools
pub stalled_by_pools : (w : World) (room : ℕ)
    → is_stalled w room
    ≡ (list_all (is_pool_stuck w room) (range_with_len 0 (length w.pools)) && list_all (is_worker_stuck w room) (range_with_len 1 (length w.workers)) && list_all (is_client_stuck w room) (range_with_len 1 (length w.clients)))
stalled_by_pools w room =
    by (list_all (is_client_stuck w room) (range_with_len 1 (length w.clients))) (list_all (is_worker_stuck w room) (range_with_len 1 (length w.workers))) (list_all (is_pool_stuck w room) (range_with_len 0 (length w.pools)))
  where
    by : (c w p : Bool) → (c && w && p) ≡ (p && w && c)
    by c w p = and_comm (c && w) p ∙ ap (λ b. p && b) (and_comm c w) ∙ sym (and_assoc p w c)

-- ---- a worker that waits for nothing

not_found : {X : Type 0} (p : X → Bool) (xs : List X) → not (list_any p xs) ≡ is_none (find p xs)
not_found p [] = refl
not_found p (x ∷ xs) = elim (p x) as (λ b. not (b || list_any p xs) ≡ is_none (cond b (Some x) (find p xs))) [ true ↦ refl | false ↦ not_found p xs ]

none_waits : (w : World) (room : ℕ) (who : Who) (wait : Option BegunWait) → is_none wait ≡ true → false ≡ is_look (end_wait w room who wait)
none_waits w room who None none = refl
none_waits w room who (Some b) none = cc

pub not_waiting : (w : World) (room : ℕ) (who : Who) → is_in_wait w who ≡ false → waits_on w room who ≡ false
not_waiting w room who none = sym (none_waits w room who (wait_of w who) (sym (not_found (λ (b : BegunWait). is_same_actor b.actor who) w.waits) ∙ ap not none))

-- where each worker that runs a callback waits, no more of them run one than wait
all_wait : (w : World) (ns : List ℕ) → list_any (is_worker_free w) ns ≡ false → length (filter (λ n. runs_callback w (Worker n)) ns) ≤ length (filter (λ n. is_in_wait w (Worker n)) ns)
all_wait w [] none = omega arith
all_wait w (n ∷ ns) none =
    let parts = neither (is_worker_free w n) (list_any (is_worker_free w) ns) none in
    by (runs_callback w (Worker n)) (is_in_wait w (Worker n)) (filter (λ m. runs_callback w (Worker m)) ns) (filter (λ m. is_in_wait w (Worker m)) ns) parts.0 (all_wait w ns parts.1)
  where
    by : (runs begun : Bool) (bs ws : List ℕ) → (runs && not begun) ≡ false → length bs ≤ length ws → length (cond runs (n ∷ bs) bs) ≤ length (cond begun (n ∷ ws) ws)
    by true true bs ws _ few = omega (arith, few)
    by true false bs ws free few = absurd cc
    by false true bs ws _ few = omega (arith, few)
    by false false bs ws _ few = few

-- so where more run one, one of them doesn't wait
pub some_free : (w : World) (ns : List ℕ) → length (filter (λ n. is_in_wait w (Worker n)) ns) < length (filter (λ n. runs_callback w (Worker n)) ns) → list_any (is_worker_free w) ns ≡ true
some_free w ns more =
    elim (list_any (is_worker_free w) ns) as (λ b. list_any (is_worker_free w) ns ≡ b → b ≡ true) [
      | true ↦ λ _. refl
      | false ↦ λ none. absurd (omega (arith, more, all_wait w ns none))
    ] refl

free_is_not_stuck : (w : World) (room number : ℕ) → is_worker_free w number ≡ true → is_worker_stuck w room number ≡ false
free_is_not_stuck w room number free =
    by (runs_callback w (Worker number)) (is_in_wait w (Worker number)) (waits_on w room (Worker number)) (not_waiting w room (Worker number)) free
  where
    by : (runs begun waits : Bool) → (begun ≡ false → waits ≡ false) → (runs && not begun) ≡ true → (not runs || waits) ≡ false
    by true false waits quiet free = quiet refl
    by true true waits quiet free = absurd cc
    by false begun waits quiet free = absurd cc

one_free : (w : World) (room : ℕ) (ns : List ℕ) → list_any (is_worker_free w) ns ≡ true → list_all (is_worker_stuck w room) ns ≡ false
one_free w room [] free = absurd cc
one_free w room (n ∷ ns) free =
    elim (is_worker_free w n) as (λ b. is_worker_free w n ≡ b → (b || list_any (is_worker_free w) ns) ≡ true → (is_worker_stuck w room n && list_all (is_worker_stuck w room) ns) ≡ false) [
      | true ↦ λ e _. ap (λ b. b && list_all (is_worker_stuck w room) ns) (free_is_not_stuck w room n e)
      | false ↦ λ _ rest. ap (λ b. is_worker_stuck w room n && b) (one_free w room ns rest) ∙ and_comm (is_worker_stuck w room n) false
    ] refl free

-- where one is, the machine isn't stalled
pub goes_on : (w : World) (room : ℕ) → list_any (is_worker_free w) (range_with_len 1 (length w.workers)) ≡ true → is_stalled w room ≡ false
goes_on w room free =
    ap (λ b. list_all (is_client_stuck w room) (range_with_len 1 (length w.clients)) && b && list_all (is_pool_stuck w room) (range_with_len 0 (length w.pools))) (one_free w room (range_with_len 1 (length w.workers)) free)
    ∙ ap (λ b. b && list_all (is_pool_stuck w room) (range_with_len 0 (length w.pools))) (and_comm (list_all (is_client_stuck w room) (range_with_len 1 (length w.clients))) false)
