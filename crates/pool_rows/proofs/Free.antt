-- How many workers are free, run a callback, or are held by a pool, which is told by the tallies.
use Rattle.std.proofs.Common.{◌≡◌, ℕ, ◌+◌, ◌-◌, ◌<◌, ◌≤◌, ◌^◌, ◌==◌, ◌&&◌, ◌||◌, Bool, true, false, not, cond, List, [], ◌∷◌, map, length, get_or, Option, None, Some, inl, inr, suc, zero, arith, refl, ap, sym, ◌∙◌, eq-eqb, ne_eqb, lt-ltb, le-ltb, ◌≢◌}
use Rattle.std.specs.Prelude.{filter, nat_lt}
use Rattle.std.specs.Int.{from_bool}
use Rattle.std.specs.List.{list_any}
use Rattle.std.specs.Option.{option_map_or}
use Rattle.std.proofs.lemmas.Bool.{cases_eq, cases_lt}
use Rattle.tp_base.specs.declared.ids.PoolId.{PoolId}
use Rattle.tp_base.specs.declared.rows.PoolRow.{PoolRow}
use Rattle.pool_rows.specs.declared.WorkerRow.{WorkerRow}
use Rattle.pool_rows.specs.declared.tallies.PoolEntry.{PoolEntry}
use Rattle.pool_rows.specs.Free.{is_closed, is_free, is_held}
use Rattle.pool_rows.specs.Tallies.{AreTallied, tally_of}
use Rattle.pool_rows.specs.Workers.{is_attached_to, is_occupied_in, is_persistent_in, runs}
use Rattle.pool_rows.proofs.Counting.{length-filter_le, length-kept}
use Rattle.pool_rows.proofs.Entries.{tally_at-get_or, tally_at_past}

-- held by one of the pools below a number
abbrev pub held_below : List PoolRow → ℕ → WorkerRow → Bool
held_below pools n worker = is_held pools worker && option_map_or (λ (pool : PoolId). nat_lt pool.0 n) worker.pool false

abbrev rests_in : ℕ → WorkerRow → Bool
rests_in pool worker = is_persistent_in pool worker && not (runs worker)

-- a test that holds of an element exactly where one of two does, and never both
sums : (a b c : WorkerRow → Bool) → ((r : WorkerRow) → from_bool (c r) ≡ from_bool (a r) + from_bool (b r)) → (ws : List WorkerRow)
    → length (filter c ws) ≡ length (filter a ws) + length (filter b ws)
sums a b c one [] = omega arith
sums a b c one (r ∷ ws) =
    omega (arith, length-kept (a r) r (filter a ws), length-kept (b r) r (filter b ws), length-kept (c r) r (filter c ws), one r, sums a b c one ws)

-- those that rest in a pool
pub rests : (pool : ℕ) (ws : List WorkerRow) → length (filter (is_persistent_in pool) ws) ≡ length (filter (is_occupied_in pool) ws) + length (filter (rests_in pool) ws)
rests pool ws = sums (is_occupied_in pool) (rests_in pool) (is_persistent_in pool) (λ r. one (is_persistent_in pool r) (runs r)) ws
  where
    one : (p q : Bool) → from_bool p ≡ from_bool (p && q) + from_bool (p && not q)
    one true true = refl
    one true false = refl
    one false q = refl

-- one pool more
module _ (pools : List PoolRow) (n : ℕ) where
  -- of a worker that rests in a pool, here or elsewhere
  in_this : (closed here shut now before : Bool) → here ≡ true → shut ≡ closed → now ≡ true → before ≡ false
      → from_bool (not shut && now) ≡ from_bool (not shut && before) + from_bool (here && not closed)
  in_this closed here shut now before h s n b = rw (h, s, n, b) (by closed)
    where
      by : (x : Bool) → from_bool (not x && true) ≡ from_bool (not x && false) + from_bool (not x)
      by true = refl
      by false = refl

  in_another : (closed here shut now before : Bool) → here ≡ false → now ≡ before
      → from_bool (not shut && now) ≡ from_bool (not shut && before) + from_bool (here && not closed)
  in_another closed here shut now before h n = rw (h, n) (omega arith)

  one_more : (closed : Bool) → is_closed pools n ≡ closed → (r : WorkerRow)
      → from_bool (held_below pools (n + 1) r) ≡ from_bool (held_below pools n r) + from_bool (rests_in n r && not closed)
  one_more closed is r = of r.pool (runs r) r.persistent
    where
      same_below : (p m : ℕ) → p ≢ m → nat_lt p (m + 1) ≡ nat_lt p m
      same_below p m other = elim (cases_lt p m) [
        | inl lt ↦ lt-ltb p (m + 1) (omega (arith, lt)) ∙ sym (lt-ltb p m lt)
        | inr le ↦ le-ltb p (m + 1) (omega (arith, le, other)) ∙ sym (le-ltb p m le)
      ]

      rests_not : (a b c : Bool) → from_bool (((a && b) && false) && c) ≡ 0
      rests_not true true c = refl
      rests_not true false c = refl
      rests_not false b c = refl

      marked_not : (a c : Bool) → from_bool (((a && false) && true) && c) ≡ 0
      marked_not true c = refl
      marked_not false c = refl

      marked : (a c : Bool) → ((((a && true) && true) && c)) ≡ (a && c)
      marked true c = refl
      marked false c = refl

      of : (o : Option PoolId) (busy persistent : Bool)
          → from_bool ((not busy && (persistent && option_map_or (λ (pool : PoolId). not (is_closed pools pool.0)) o false)) && option_map_or (λ (pool : PoolId). nat_lt pool.0 (n + 1)) o false)
          ≡ from_bool ((not busy && (persistent && option_map_or (λ (pool : PoolId). not (is_closed pools pool.0)) o false)) && option_map_or (λ (pool : PoolId). nat_lt pool.0 n) o false)
          + from_bool (((option_map_or (λ (pool : PoolId). pool.0 == n) o false && persistent) && not busy) && not closed)
      of None true persistent = refl
      of None false true = refl
      of None false false = refl
      of (Some pool) true persistent = ap (λ k. 0 + k) (sym (rests_not (pool.0 == n) persistent (not closed)))
      of (Some pool) false false = ap (λ k. 0 + k) (sym (marked_not (pool.0 == n) (not closed)))
      of (Some pool) false true =
          elim (cases_eq pool.0 n) [
            | inl same ↦ in_this closed (pool.0 == n) (is_closed pools pool.0) (nat_lt pool.0 (n + 1)) (nat_lt pool.0 n) (eq-eqb pool.0 n same) (ap (is_closed pools) same ∙ is) (lt-ltb pool.0 (n + 1) (omega arith)) (le-ltb pool.0 n (omega arith))
            | inr other ↦ in_another closed (pool.0 == n) (is_closed pools pool.0) (nat_lt pool.0 (n + 1)) (nat_lt pool.0 n) (ne_eqb pool.0 n other) (same_below pool.0 n other)
          ]
          ∙ ap (λ b. from_bool (not (is_closed pools pool.0) && nat_lt pool.0 n) + from_bool b) (sym (marked (pool.0 == n) (not closed)))

  pub next_held : (closed : Bool) → is_closed pools n ≡ closed → (ws : List WorkerRow)
      → length (filter (held_below pools (n + 1)) ws) ≡ length (filter (held_below pools n) ws) + length (filter (λ r. rests_in n r && not closed) ws)
  next_held closed is ws = sums (held_below pools n) (λ r. rests_in n r && not closed) (held_below pools (n + 1)) (one_more closed is) ws

  -- a closed pool holds nobody, and an open one those that rest
  pub held_by_closed : (ws : List WorkerRow) → length (filter (λ (r : WorkerRow). rests_in n r && not true) ws) ≡ 0
  held_by_closed [] = refl
  held_by_closed (r ∷ ws) = ap (λ b. length (cond b (r ∷ filter (λ (x : WorkerRow). rests_in n x && not true) ws) (filter (λ (x : WorkerRow). rests_in n x && not true) ws))) (and_false (rests_in n r)) ∙ held_by_closed ws
    where
      and_false : (b : Bool) → (b && false) ≡ false
      and_false true = refl
      and_false false = refl

  pub held_by_open : (ws : List WorkerRow) → length (filter (λ (r : WorkerRow). rests_in n r && not false) ws) ≡ length (filter (rests_in n) ws)
  held_by_open [] = refl
  held_by_open (r ∷ ws) = elim (rests_in n r) as (λ (b : Bool). length (cond (b && true) (r ∷ filter (λ (x : WorkerRow). rests_in n x && not false) ws) (filter (λ (x : WorkerRow). rests_in n x && not false) ws)) ≡ length (cond b (r ∷ filter (rests_in n) ws) (filter (rests_in n) ws))) [
    | true ↦ ap suc (held_by_open ws)
    | false ↦ held_by_open ws
  ]

pub none_held_below : (pools : List PoolRow) (ws : List WorkerRow) → length (filter (held_below pools 0) ws) ≡ 0
none_held_below pools [] = refl
none_held_below pools (r ∷ ws) = ap (λ b. length (cond b (r ∷ filter (held_below pools 0) ws) (filter (held_below pools 0) ws))) (none r.pool (is_held pools r)) ∙ none_held_below pools ws
  where
    none : (o : Option PoolId) (b : Bool) → (b && option_map_or (λ (pool : PoolId). nat_lt pool.0 0) o false) ≡ false
    none None true = refl
    none None false = refl
    none (Some pool) true = le-ltb pool.0 0 (omega arith)
    none (Some pool) false = refl

-- each is in a pool that was made
pub all_held : (pools : List PoolRow) (n : ℕ) (ws : List WorkerRow) → ((p : ℕ) → n ≤ p → length (filter (is_attached_to p) ws) ≡ 0)
    → length (filter (held_below pools n) ws) ≡ length (filter (is_held pools) ws)
all_held pools n [] none = refl
all_held pools n (r ∷ ws) none =
    let rest : length (filter (held_below pools n) ws) ≡ length (filter (is_held pools) ws) =
    all_held pools n ws (λ p le. omega (arith, none p le, length-kept (is_attached_to p r) r (filter (is_attached_to p) ws)))
    in
    ap (λ b. length (cond b (r ∷ filter (held_below pools n) ws) (filter (held_below pools n) ws))) (home r.pool refl (not (runs r)) r.persistent)
    ∙ (elim (is_held pools r) as (λ (b : Bool). length (cond b (r ∷ filter (held_below pools n) ws) (filter (held_below pools n) ws)) ≡ length (cond b (r ∷ filter (is_held pools) ws) (filter (is_held pools) ws))) [
      | true ↦ ap suc rest
      | false ↦ rest
    ])
  where
    home : (o : Option PoolId) → r.pool ≡ o → (idle persistent : Bool)
        → ((idle && (persistent && option_map_or (λ (pool : PoolId). not (is_closed pools pool.0)) o false)) && option_map_or (λ (pool : PoolId). nat_lt pool.0 n) o false)
        ≡ (idle && (persistent && option_map_or (λ (pool : PoolId). not (is_closed pools pool.0)) o false))
    home None is idle persistent = elim idle as (λ (a : Bool). ((a && (persistent && false)) && false) ≡ (a && (persistent && false))) [
      | true ↦ elim persistent as (λ (b : Bool). ((b && false) && false) ≡ (b && false)) [ true ↦ refl | false ↦ refl ]
      | false ↦ refl
    ]
    home (Some pool) is idle persistent = elim (cases_lt pool.0 n) [
      | inl lt ↦ ap (λ b. (idle && (persistent && not (is_closed pools pool.0))) && b) (lt-ltb pool.0 n lt) ∙ and_true (idle && (persistent && not (is_closed pools pool.0)))
      | inr past ↦
          let attached : is_attached_to pool.0 r ≡ true = ap (λ (o : Option PoolId). option_map_or (λ (p : PoolId). p.0 == pool.0) o false) is ∙ eq-eqb pool.0 pool.0 refl in
          let one : from_bool (is_attached_to pool.0 r) ≡ 1 = ap from_bool attached in
          absurd (omega (arith, one, none pool.0 past, length-kept (is_attached_to pool.0 r) r (filter (is_attached_to pool.0) ws)))
    ]
      where
        and_true : (b : Bool) → (b && true) ≡ b
        and_true true = refl
        and_true false = refl

pub nobody_past : (es : List PoolEntry) (ws : List WorkerRow) → AreTallied es ws → (p : ℕ) → length es ≤ p → length (filter (is_attached_to p) ws) ≡ 0
nobody_past es ws tallied p past = ap (λ t. t.attached) (sym (tallied p) ∙ tally_at_past es p past)

-- each worker runs, is held or is free
pub parted : (pools : List PoolRow) (ws : List WorkerRow)
    → length (filter runs ws) + length (filter (is_held pools) ws) + length (filter (is_free pools) ws) ≡ length ws
parted pools [] = refl
parted pools (r ∷ ws) =
    omega (
      arith,
      parted pools ws,
      length-kept (runs r) r (filter runs ws),
      length-kept (is_held pools r) r (filter (is_held pools) ws),
      length-kept (is_free pools r) r (filter (is_free pools) ws),
      one r.pool (runs r) r.persistent,
    )
  where
    one : (o : Option PoolId) (busy persistent : Bool)
        → from_bool busy + from_bool (not busy && (persistent && option_map_or (λ (pool : PoolId). not (is_closed pools pool.0)) o false))
        + from_bool (not busy && (not persistent || option_map_or (λ (pool : PoolId). is_closed pools pool.0) o true))
        ≡ 1
    one o true persistent = refl
    one o false false = refl
    one None false true = refl
    one (Some pool) false true = elim (is_closed pools pool.0) as (λ (b : Bool). 0 + from_bool (not b) + from_bool b ≡ 1) [ true ↦ refl | false ↦ refl ]

pub any_free : (pools : List PoolRow) (ws : List WorkerRow) → nat_lt 0 (length (filter (is_free pools) ws)) ≡ list_any (is_free pools) ws
any_free pools [] = refl
any_free pools (r ∷ ws) = elim (is_free pools r) as (λ (b : Bool). nat_lt 0 (length (cond b (r ∷ filter (is_free pools) ws) (filter (is_free pools) ws))) ≡ (b || list_any (is_free pools) ws)) [
  | true ↦ lt-ltb 0 (suc (length (filter (is_free pools) ws))) (omega arith)
  | false ↦ any_free pools ws
]

-- ---- along the entries

module _ (es : List PoolEntry) (ws : List WorkerRow) (tallied : AreTallied es ws) where
  abbrev rows : List PoolRow
  rows = map (λ (e : PoolEntry). e.row) es

  module _ (i : ℕ) (d e : PoolEntry) (within : i < length es) (is : e ≡ get_or es i d) where
    counted : e.tally ≡ tally_of i ws
    counted = ap (λ (x : PoolEntry). x.tally) is ∙ sym (tally_at-get_or es i d within) ∙ tallied i

    closed : is_closed rows i ≡ e.row.closed
    closed = here es i within ∙ ap (λ (x : PoolEntry). x.row.closed) (sym is)
      where
        here : (xs : List PoolEntry) (k : ℕ) → k < length xs → is_closed (map (λ (x : PoolEntry). x.row) xs) k ≡ (get_or xs k d).row.closed
        here [] k lt = absurd (omega arith)
        here (x ∷ xs) zero lt = refl
        here (x ∷ xs) (suc k) lt = here xs k (omega arith)

    -- no more are occupied than have the mark
    pub occupied_within : e.tally.occupied ≤ e.tally.persistent
    occupied_within = omega (arith, ap (λ t. t.occupied) counted, ap (λ t. t.persistent) counted, rests i ws)

    pub held_next_closed : (held : ℕ) → e.row.closed ≡ true → held ≡ length (filter (held_below rows i) ws) → held ≡ length (filter (held_below rows (i + 1)) ws)
    held_next_closed held shut so = omega (arith, so, next_held rows i true (closed ∙ shut) ws, held_by_closed rows i ws)

    pub held_next_open : (held : ℕ) → e.row.closed ≡ false → held ≡ length (filter (held_below rows i) ws) → held + (e.tally.persistent - e.tally.occupied) ≡ length (filter (held_below rows (i + 1)) ws)
    held_next_open held open_here so =
        omega (arith, so, next_held rows i false (closed ∙ open_here) ws, held_by_open rows i ws, ap (λ t. t.occupied) counted, ap (λ t. t.persistent) counted, rests i ws)

    pub held_fits : (held : ℕ) → length ws < 2 ^ 32 → e.row.closed ≡ false → held ≡ length (filter (held_below rows i) ws) → held + (e.tally.persistent - e.tally.occupied) < 2 ^ 32
    held_fits held few open_here so = omega (arith, held_next_open held open_here so, length-filter_le (held_below rows (i + 1)) ws)

  -- where all were gone along, who runs nothing and isn't held is free
  pub free_by : (held : ℕ) → held ≡ length (filter (held_below rows (length es)) ws) → nat_lt held (length ws - length (filter runs ws)) ≡ list_any (is_free rows) ws
  free_by held so =
      let all = all_held rows (length es) ws (nobody_past es ws tallied) in
      compare held (length ws - length (filter runs ws)) (length (filter (is_free rows) ws)) (omega (arith, so, all, parted rows ws)) ∙ any_free rows ws
    where
      compare : (a b n : ℕ) → b ≡ a + n → nat_lt a b ≡ nat_lt 0 n
      compare a b zero e = le-ltb a b (omega (arith, e)) ∙ sym (le-ltb 0 zero (omega arith))
      compare a b (suc n) e = lt-ltb a b (omega (arith, e)) ∙ sym (lt-ltb 0 (suc n) (omega arith))
