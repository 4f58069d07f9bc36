-- Which callbacks the workers of a pool may take, and who is free, told by the rows here.
use Rattle.std.proofs.Common.{◌≡◌, ℕ, suc, zero, Bool, true, false, cond, not, ◌&&◌, ◌||◌, ◌==◌, List, [], ◌∷◌, ◌++◌, filter, length, map, nat_lt, Some, None, is_none, is_some, refl, sym, ap, ap₂, ◌∙◌, arith, ne_eqb, lt-ltb}
use Rattle.std.specs.List.{list_any}
use Rattle.std.specs.Option.{option_map_or}
use Rattle.tp_base.specs.declared.calls.Priority.{Priority}
use Rattle.tp_base.specs.declared.ids.PoolId.{PoolId}
use Rattle.tp_base.specs.declared.rows.CallbackRow.{CallbackRow}
use Rattle.tp_base.specs.declared.rows.WorkerRow.{WorkerRow}
use Rattle.live_callbacks.specs.Callbacks.{is_open, is_waiting, queue_among}
use Rattle.pool_rows.specs.Free.{is_free as is_free_kept}
use Rattle.pool_rows.specs.Workers.{is_occupied_in, is_persistent_in as is_persistent_kept}
use Rattle.pool_rows.specs.declared.WorkerRow as kept
use Rattle.tp_model.specs.Conditions.{is_closed_pool}
use Rattle.tp_model.specs.Counts.{has_persistent, is_high, is_low, is_normal, is_open_to, is_pending_in, is_persistent_in, queue, takeable}
use Rattle.tp_model.specs.Stalled.{is_free}
use Rattle.tp_model.specs.World.{World}
use Rattle.live_world.specs.Parts.{shown_worker}
use Rattle.world_reads.specs.Tally.{is_occupied}
use Rattle.live_world.proofs.Busy.{shows}

-- ---- the pool's persistent worker

none_persistent : (pool : ℕ) (ws : List kept.WorkerRow) → (length (filter (is_persistent_kept pool) ws) == 0) ≡ not (list_any (is_persistent_in pool) (map shown_worker ws))
none_persistent pool [] = refl
none_persistent pool (r ∷ ws) = elim (is_persistent_kept pool r) as (λ b. (length (cond b (r ∷ filter (is_persistent_kept pool) ws) (filter (is_persistent_kept pool) ws)) == 0) ≡ not (b || list_any (is_persistent_in pool) (map shown_worker ws))) [
  | true ↦ ne_eqb (suc (length (filter (is_persistent_kept pool) ws))) 0 (λ e. omega (arith, e))
  | false ↦ none_persistent pool ws
]

module _ (w : World) (ws : List kept.WorkerRow) (shown : w.workers ≡ map shown_worker ws) where
  pub lacks_persistent : (pool : ℕ) → (length (filter (is_persistent_kept pool) ws) == 0) ≡ not (has_persistent w pool)
  lacks_persistent pool = none_persistent pool ws ∙ ap (λ rs. not (list_any (is_persistent_in pool) rs)) (sym shown)

  pub occupied_shown : (pool : ℕ) → nat_lt 0 (length (filter (is_occupied_in pool) ws)) ≡ is_occupied w pool
  occupied_shown pool = along ws ∙ ap (λ rs. list_any (λ (r : WorkerRow). is_persistent_in pool r && is_some r.callback) rs) (sym shown)
    where
      along : (rs : List kept.WorkerRow) → nat_lt 0 (length (filter (is_occupied_in pool) rs)) ≡ list_any (λ (r : WorkerRow). is_persistent_in pool r && is_some r.callback) (map shown_worker rs)
      along [] = refl
      along (r ∷ rs) =
          (elim (is_occupied_in pool r) as (λ b. nat_lt 0 (length (cond b (r ∷ filter (is_occupied_in pool) rs) (filter (is_occupied_in pool) rs))) ≡ (b || nat_lt 0 (length (filter (is_occupied_in pool) rs)))) [
            | true ↦ lt-ltb 0 (suc (length (filter (is_occupied_in pool) rs))) (omega arith)
            | false ↦ refl
          ])
          ∙ ap₂ (λ a b. a || b) (ap (λ b. is_persistent_kept pool r && b) (shows r.callback)) (along rs)

  pub any_free_shown : list_any (is_free_kept w.pools) ws ≡ list_any (is_free w) w.workers
  any_free_shown = along ws ∙ ap (list_any (is_free w)) (sym shown)
    where
      idle : (n : ℕ) → not (nat_lt 0 n) ≡ is_none {T = ℕ} (cond (n == 0) None (Some n))
      idle zero = refl
      idle (suc n) =
          ap not (lt-ltb 0 (suc n) (omega arith)) ∙ sym (ap (λ b. is_none {T = ℕ} (cond b None (Some (suc n)))) (ne_eqb (suc n) 0 (λ e. omega (arith, e))))

      along : (rs : List kept.WorkerRow) → list_any (is_free_kept w.pools) rs ≡ list_any (is_free w) (map shown_worker rs)
      along [] = refl
      along (r ∷ rs) = ap₂ (λ a b. (a && (not r.persistent || option_map_or (λ (p : PoolId). is_closed_pool w p.0) r.pool true)) || b) (idle r.callback) (along rs)

-- ---- what a worker may take, who is the persistent one or isn't

module _ (w : World) (pool : ℕ) (persistent none : Bool) (lacks : none ≡ not (has_persistent w pool)) where
  open_same : (c : CallbackRow) → is_open pool (persistent || none) c ≡ is_open_to w pool persistent c
  open_same c = ap (λ b. is_pending_in pool c && b) (assoc (not c.persistent) persistent ∙ ap (λ b. (not c.persistent || persistent) || b) lacks)
    where
      assoc : (a b : Bool) → (a || (b || none)) ≡ ((a || b) || none)
      assoc true b = refl
      assoc false b = refl

  by : (p q : CallbackRow → Bool) → ((c : CallbackRow) → p c ≡ q c) → (cs : List CallbackRow) → filter p cs ≡ filter q cs
  by p q same [] = refl
  by p q same (c ∷ cs) = ap₂ (λ (b : Bool) (ds : List CallbackRow). cond b (c ∷ ds) ds) (same c) (by p q same cs)

  pub takeable_shown : (cs : List CallbackRow) → cs ≡ w.callbacks → length (filter (is_open pool (persistent || none)) cs) ≡ takeable w pool persistent
  takeable_shown cs is = ap (λ (ds : List CallbackRow). length ds) (by (is_open pool (persistent || none)) (is_open_to w pool persistent) open_same cs) ∙ ap (λ ds. length (filter (is_open_to w pool persistent) ds)) is

  waiting_shown : (test : Priority → Bool) (cs : List CallbackRow) → filter (is_waiting pool (persistent || none) test) cs ≡ filter (λ c. is_open_to w pool persistent c && test c.priority) cs
  waiting_shown test cs = by (is_waiting pool (persistent || none) test) (λ c. is_open_to w pool persistent c && test c.priority) (λ c. ap (λ b. b && test c.priority) (open_same c)) cs

  abbrev here : (Priority → Bool) → List CallbackRow → List CallbackRow
  here test cs = filter (is_waiting pool (persistent || none) test) cs

  abbrev there : (Priority → Bool) → List CallbackRow → List CallbackRow
  there test cs = filter (λ c. is_open_to w pool persistent c && test c.priority) cs

  pub queue_shown : (cs : List CallbackRow) → cs ≡ w.callbacks → queue_among cs pool (persistent || none) ≡ queue w pool persistent
  queue_shown cs is =
      ap (λ (h : List CallbackRow). h ++ here is_normal cs ++ here is_low cs) (waiting_shown is_high cs)
      ∙ ap (λ (n : List CallbackRow). there is_high cs ++ n ++ here is_low cs) (waiting_shown is_normal cs)
      ∙ ap (λ (l : List CallbackRow). there is_high cs ++ there is_normal cs ++ l) (waiting_shown is_low cs)
      ∙ ap (λ (ds : List CallbackRow). there is_high ds ++ there is_normal ds ++ there is_low ds) is
