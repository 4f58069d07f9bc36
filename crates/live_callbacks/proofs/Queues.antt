-- What the queues of a pool tell of the rows.
use Rattle.std.proofs.Common.{◌≡◌, ℕ, ◌+◌, ◌*◌, ◌<◌, ◌≤◌, Bool, true, false, ◌&&◌, ◌==◌, List, [], ◌∷◌, ◌++◌, filter, find, length, if◌then◌else◌, slice_get, None, Some, refl, suc, sym, ap, ap₂, ◌∙◌, arith}
use Rattle.std.specs.List.{AllByRecursion}
use Rattle.std.proofs.lemmas.Bool.{ne_eqb}
use Rattle.tp_base.specs.declared.calls.Priority.{Priority}
use Rattle.tp_base.specs.declared.calls.Priority.TheVariants.{High, Normal, Low}
use Rattle.tp_base.specs.declared.rows.CallbackRow.{CallbackRow}
use Rattle.tp_model.specs.Counts.{is_high, is_low, is_normal, is_pending_in}
use Rattle.linked_lists.specs.Linked.{Linked, list_of}
use Rattle.live_callbacks.specs.Held.{Held, rows_of}
use Rattle.live_callbacks.specs.Lists.{AreListed, count_queues_of, first_of_half, first_queue_of, line_of, lines, marks, priority_number}
use Rattle.live_callbacks.specs.Queues.{half_among, is_pending_half, is_queued}
use Rattle.live_callbacks.proofs.Found.{filter_same, first_filtered, many_keys}
use Rattle.live_callbacks.proofs.Lines.{queue_agree}

as_high : (p : Priority) → (priority_number p == 0) ≡ is_high p
as_high High = refl
as_high Normal = refl
as_high Low = refl

as_normal : (p : Priority) → (priority_number p == 1) ≡ is_normal p
as_normal High = refl
as_normal Normal = refl
as_normal Low = refl

as_low : (p : Priority) → (priority_number p == 2) ≡ is_low p
as_low High = refl
as_low Normal = refl
as_low Low = refl

first_of_three : (h n l : List CallbackRow) → slice_get (h ++ n ++ l) 0 ≡ if length h == 0 then (if length n == 0 then slice_get l 0 else slice_get n 0) else slice_get h 0
first_of_three [] [] l = refl
first_of_three [] (c ∷ n) l = sym (ap (λ b. if b then slice_get l 0 else Some c) (ne_eqb (suc (length n)) 0 (λ e. absurd (omega (arith, e)))))
first_of_three (c ∷ h) n l = sym (ap (λ b. if b then (if length n == 0 then slice_get l 0 else slice_get n 0) else Some c) (ne_eqb (suc (length h)) 0 (λ e. absurd (omega (arith, e)))))

-- those of each priority are those of the half
split : (pool : ℕ) (persistent : Bool) (cs : List CallbackRow)
    → length (filter (is_queued pool persistent is_high) cs) + length (filter (is_queued pool persistent is_normal) cs) + length (filter (is_queued pool persistent is_low) cs) ≡ length (filter (is_pending_half pool persistent) cs)
split pool persistent [] = omega arith
split pool persistent (c ∷ cs) = one (is_pending_half pool persistent c) c.priority _ _ _ _ (split pool persistent cs)
  where
    one : (b : Bool) (p : Priority) (h n l r : List CallbackRow) → length h + length n + length l ≡ length r
        → length (if b && is_high p then c ∷ h else h) + length (if b && is_normal p then c ∷ n else n) + length (if b && is_low p then c ∷ l else l) ≡ length (if b then c ∷ r else r)
    one true High h n l r e = omega (arith, e)
    one true Normal h n l r e = omega (arith, e)
    one true Low h n l r e = omega (arith, e)
    one false p h n l r e = e

pub half_most : (persistent : Bool) → first_of_half persistent ≤ 3
half_most true = omega arith
half_most false = omega arith

module _ (pools objects pool : ℕ) (lt : pool < pools) (persistent : Bool) where
  of_line : (x n : ℕ) (test : Priority → Bool) → x ≡ 6 * pool + (first_of_half persistent + n) → n ≤ 2 → ((p : Priority) → (priority_number p == n) ≡ test p) → (cs : List CallbackRow) → filter (λ c. line_of pools objects c == x) cs ≡ filter (is_queued pool persistent test) cs
  of_line x n test is nt same cs = ap (λ y. filter (λ c. line_of pools objects c == y) cs) is ∙ filter_same (λ c. line_of pools objects c == 6 * pool + (first_of_half persistent + n)) (is_queued pool persistent test) cs (queue_agree pools objects pool n persistent test nt same lt cs)

  high : (cs : List CallbackRow) → filter (λ c. line_of pools objects c == 6 * pool + first_of_half persistent) cs ≡ filter (is_queued pool persistent is_high) cs
  high cs = of_line (6 * pool + first_of_half persistent) 0 is_high (omega arith) (omega arith) as_high cs

  normal : (cs : List CallbackRow) → filter (λ c. line_of pools objects c == 6 * pool + first_of_half persistent + 1) cs ≡ filter (is_queued pool persistent is_normal) cs
  normal cs = of_line (6 * pool + first_of_half persistent + 1) 1 is_normal (omega arith) (omega arith) as_normal cs

  low : (cs : List CallbackRow) → filter (λ c. line_of pools objects c == 6 * pool + first_of_half persistent + 2) cs ≡ filter (is_queued pool persistent is_low) cs
  low cs = of_line (6 * pool + first_of_half persistent + 2) 2 is_low (omega arith) (omega arith) as_low cs

  module _ {places : ℕ} {all : Linked} (hs : List Held) (are : AreListed (lines pools objects) places (marks (line_of pools objects) hs) all) where
    abbrev rows : List CallbackRow
    rows = rows_of hs

    len_of : (x : ℕ) → x < lines pools objects → length (list_of all x) ≡ length (filter (λ c. line_of pools objects c == x) rows)
    len_of x within = ap length (are.listed x within) ∙ many_keys (line_of pools objects) x hs

    high_len : length (list_of all (6 * pool + first_of_half persistent)) ≡ length (filter (is_queued pool persistent is_high) rows)
    high_len = len_of (6 * pool + first_of_half persistent) (omega (arith, lt, half_most persistent)) ∙ ap length (high rows)

    normal_len : length (list_of all (6 * pool + first_of_half persistent + 1)) ≡ length (filter (is_queued pool persistent is_normal) rows)
    normal_len = len_of (6 * pool + first_of_half persistent + 1) (omega (arith, lt, half_most persistent)) ∙ ap length (normal rows)

    low_len : length (list_of all (6 * pool + first_of_half persistent + 2)) ≡ length (filter (is_queued pool persistent is_low) rows)
    low_len = len_of (6 * pool + first_of_half persistent + 2) (omega (arith, lt, half_most persistent)) ∙ ap length (low rows)

    pub pending_len : count_queues_of all (6 * pool + first_of_half persistent) ≡ length (filter (is_pending_half pool persistent) rows)
    pending_len = omega (arith, high_len, normal_len, low_len, split pool persistent rows)

    pub queue_within : first_queue_of all (6 * pool + first_of_half persistent) < lines pools objects
    queue_within =
        elim (length (list_of all (6 * pool + first_of_half persistent)) == 0) as (λ a. (if a then (if length (list_of all (6 * pool + first_of_half persistent + 1)) == 0 then 6 * pool + first_of_half persistent + 2 else 6 * pool + first_of_half persistent + 1) else 6 * pool + first_of_half persistent) < lines pools objects) [
          | true ↦ elim (length (list_of all (6 * pool + first_of_half persistent + 1)) == 0) as (λ b. (if b then 6 * pool + first_of_half persistent + 2 else 6 * pool + first_of_half persistent + 1) < lines pools objects) [ true ↦ omega (arith, lt, half_most persistent) | false ↦ omega (arith, lt, half_most persistent) ]
          | false ↦ omega (arith, lt, half_most persistent)
        ]

    pub queue_first : find (λ c. line_of pools objects c == first_queue_of all (6 * pool + first_of_half persistent)) rows ≡ slice_get (half_among rows pool persistent) 0
    queue_first =
        sym (first_filtered (λ c. line_of pools objects c == first_queue_of all (6 * pool + first_of_half persistent)) rows)
        ∙ pick (length (list_of all (6 * pool + first_of_half persistent)) == 0) (length (list_of all (6 * pool + first_of_half persistent + 1)) == 0)
        ∙ ap₂ (λ (m n : ℕ). if m == 0 then (if n == 0 then slice_get (filter (is_queued pool persistent is_low) rows) 0 else slice_get (filter (is_queued pool persistent is_normal) rows) 0) else slice_get (filter (is_queued pool persistent is_high) rows) 0) high_len normal_len
        ∙ sym (first_of_three (filter (is_queued pool persistent is_high) rows) (filter (is_queued pool persistent is_normal) rows) (filter (is_queued pool persistent is_low) rows))
      where
        pick : (a b : Bool) → slice_get (filter (λ c. line_of pools objects c == (if a then (if b then 6 * pool + first_of_half persistent + 2 else 6 * pool + first_of_half persistent + 1) else 6 * pool + first_of_half persistent)) rows) 0
            ≡ if a then (if b then slice_get (filter (is_queued pool persistent is_low) rows) 0 else slice_get (filter (is_queued pool persistent is_normal) rows) 0) else slice_get (filter (is_queued pool persistent is_high) rows) 0
        pick true true = ap (λ (ds : List CallbackRow). slice_get ds 0) (low rows)
        pick true false = ap (λ (ds : List CallbackRow). slice_get ds 0) (normal rows)
        pick false b = ap (λ (ds : List CallbackRow). slice_get ds 0) (high rows)

-- nothing waits in a pool where nothing is pending
pub nowhere_first : (pool : ℕ) (persistent : Bool) (cs : List CallbackRow) → AllByRecursion (λ (c : CallbackRow). is_pending_in pool c ≡ false) cs → slice_get (half_among cs pool persistent) 0 ≡ None
nowhere_first pool persistent [] none = refl
nowhere_first pool persistent (c ∷ cs) none = rw none.0 (nowhere_first pool persistent cs none.1)

pub none_counted : (pool : ℕ) (persistent : Bool) (cs : List CallbackRow) → AllByRecursion (λ (c : CallbackRow). is_pending_in pool c ≡ false) cs → length (filter (is_pending_half pool persistent) cs) ≡ 0
none_counted pool persistent [] none = refl
none_counted pool persistent (c ∷ cs) none = rw none.0 (none_counted pool persistent cs none.1)
