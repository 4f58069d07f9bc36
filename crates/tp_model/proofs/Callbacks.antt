-- Rows of callbacks by their numbers: what is found after a change, and what a filter keeps.
use Rattle.std.proofs.Common.{◌≡◌, ℕ, suc, zero, ◌+◌, ◌<◌, ◌≤◌, Bool, true, false, cond, not, ◌==◌, List, [], ◌∷◌, ◌++◌, length, map, Some, None, refl, sym, ap, ◌∙◌, subst, arith, filter, find, slice_get, eqb-true, eq-eqb, ne_eqb}
use Rattle.tp_base.specs.declared.rows.Status.{Status}
use Rattle.tp_base.specs.declared.rows.Status.TheVariants.{Expected, Issued, Pending, Running, Returned, Cancelled}
use Rattle.tp_base.specs.declared.plans.IoStep.{IoStep}
use Rattle.tp_base.specs.declared.plans.IoStep.TheVariants.{Issue, GiveUp, Complete}
use Rattle.tp_base.specs.declared.rows.CallbackRow.{CallbackRow}
use Rattle.tp_model.specs.Counts.{has_number, is_pending, is_running, is_live}
use Rattle.tp_model.specs.Changes.{replaced, status_before, status_after}
use Rattle.tp_model.specs.Laws.Once.{is_left}
use Rattle.tp_model.specs.Support.Sound.{IsRising}
use Rattle.std.specs.List.{AllByRecursion}

-- ---- what is over is neither pending nor running, and won't be

pub over_not_left : (s : Status) → is_live s ≡ false → is_left s ≡ false
over_not_left Expected e = cc
over_not_left Issued e = cc
over_not_left Pending e = cc
over_not_left (Running worker associated slots) e = refl
over_not_left Returned e = refl
over_not_left Cancelled e = refl

pub over_not_pending : (s : Status) → is_live s ≡ false → is_pending s ≡ false
over_not_pending Expected e = refl
over_not_pending Issued e = refl
over_not_pending Pending e = cc
over_not_pending (Running worker associated slots) e = refl
over_not_pending Returned e = refl
over_not_pending Cancelled e = refl

pub over_not_running : (s : Status) → is_live s ≡ false → is_running s ≡ false
over_not_running Expected e = refl
over_not_running Issued e = refl
over_not_running Pending e = refl
over_not_running (Running worker associated slots) e = cc
over_not_running Returned e = refl
over_not_running Cancelled e = refl

-- an operation runs nothing, before a step and after it
pub before_idle : (how : IoStep) (s : Status) → s ≡ status_before how → is_running s ≡ false
before_idle Issue s e = ap is_running e
before_idle GiveUp s e = ap is_running e
before_idle (Complete error bytes) s e = ap is_running e

pub after_idle : (how : IoStep) → is_running (status_after how) ≡ false
after_idle Issue = refl
after_idle GiveUp = refl
after_idle (Complete error bytes) = refl

pub before_lives : (how : IoStep) (s : Status) → s ≡ status_before how → is_live s ≡ true
before_lives Issue s e = ap is_live e
before_lives GiveUp s e = ap is_live e
before_lives (Complete error bytes) s e = ap is_live e

pub pending_lives : (s : Status) → is_pending s ≡ true → is_live s ≡ true
pending_lives Expected e = refl
pending_lives Issued e = refl
pending_lives Pending e = refl
pending_lives (Running worker associated slots) e = refl
pending_lives Returned e = cc
pending_lives Cancelled e = cc

pub pending_not_running : (s : Status) → is_pending s ≡ true → is_running s ≡ false
pending_not_running Expected e = refl
pending_not_running Issued e = refl
pending_not_running Pending e = refl
pending_not_running (Running worker associated slots) e = cc
pending_not_running Returned e = refl
pending_not_running Cancelled e = refl

-- ---- rising numbers

pub rising_bound : (low next_number : ℕ) (cs : List CallbackRow) → IsRising low next_number cs → low ≤ next_number
rising_bound low next_number [] h = h
rising_bound low next_number (c ∷ cs) h = omega (arith, h.0, rising_bound (c.number + 1) next_number cs h.1)

pub rising_lower : (low lower next_number : ℕ) (cs : List CallbackRow) → lower ≤ low → IsRising low next_number cs → IsRising lower next_number cs
rising_lower low lower next_number [] le h = omega (arith, le, h)
rising_lower low lower next_number (c ∷ cs) le h = (omega (arith, le, h.0), h.1)

pub rising_append : (low next_number : ℕ) (cs : List CallbackRow) (c : CallbackRow) → c.number ≡ next_number → IsRising low next_number cs → IsRising low (next_number + 1) (cs ++ c ∷ [])
rising_append low next_number [] c e h = (omega (arith, e, h), omega (arith, e))
rising_append low next_number (d ∷ cs) c e h = (h.0, rising_append (d.number + 1) next_number cs c e h.1)

pub rising_filter : (p : CallbackRow → Bool) (low next_number : ℕ) (cs : List CallbackRow) → IsRising low next_number cs → IsRising low next_number (filter p cs)
rising_filter p low next_number [] h = h
rising_filter p low next_number (c ∷ cs) h =
    let tail : IsRising (c.number + 1) next_number (filter p cs) = rising_filter p (c.number + 1) next_number cs h.1 in
    elim (p c) as (λ b. IsRising low next_number (cond b (c ∷ filter p cs) (filter p cs))) [
      | true ↦ (h.0, tail)
      | false ↦ rising_lower (c.number + 1) low next_number (filter p cs) (omega (arith, h.0)) tail
    ]

pub rising_map : (f : CallbackRow → CallbackRow) → ((c : CallbackRow) → (f c).number ≡ c.number) → (low next_number : ℕ) (cs : List CallbackRow) → IsRising low next_number cs → IsRising low next_number (map f cs)
rising_map f same low next_number [] h = h
rising_map f same low next_number (c ∷ cs) h =
    (subst (λ n. low ≤ n) (sym (same c)) h.0, subst (λ n. IsRising (n + 1) next_number (map f cs)) (sym (same c)) (rising_map f same (c.number + 1) next_number cs h.1))

-- ---- a row in place of the one of its number

pub replaced_number : (r c : CallbackRow) → (cond (has_number r.number c) r c).number ≡ c.number
replaced_number r c =
    elim (has_number r.number c) as (λ b. has_number r.number c ≡ b → (cond b r c).number ≡ c.number) [
      | true ↦ λ e. sym (eqb-true c.number r.number e)
      | false ↦ λ _. refl
    ] refl

pub rising_replaced : (r : CallbackRow) (low next_number : ℕ) (cs : List CallbackRow) → IsRising low next_number cs → IsRising low next_number (replaced r cs)
rising_replaced r low next_number cs h = rising_map (λ c. cond (has_number r.number c) r c) (replaced_number r) low next_number cs h

pub length_replaced : (r : CallbackRow) (cs : List CallbackRow) → length (replaced r cs) ≡ length cs
length_replaced r [] = refl
length_replaced r (c ∷ cs) = ap suc (length_replaced r cs)

-- other numbers find what they found
pub find_replaced_other : (r : CallbackRow) (k : ℕ) (cs : List CallbackRow) → has_number k r ≡ false → find (has_number k) (replaced r cs) ≡ find (has_number k) cs
find_replaced_other r k [] other = refl
find_replaced_other r k (c ∷ cs) other =
    elim (has_number r.number c) as (λ b. has_number r.number c ≡ b → cond (has_number k (cond b r c)) (Some (cond b r c)) (find (has_number k) (replaced r cs)) ≡ find (has_number k) (c ∷ cs)) [
      | true ↦ λ e.
          let not_c : has_number k c ≡ false = subst (λ n. (n == k) ≡ false) (sym (eqb-true c.number r.number e)) other in
          ap (λ b. cond b (Some r) (find (has_number k) (replaced r cs))) other
          ∙ find_replaced_other r k cs other
          ∙ ap (λ b. cond b (Some c) (find (has_number k) cs)) (sym not_c)
      | false ↦ λ e. ap (λ t. cond (has_number k c) (Some c) t) (find_replaced_other r k cs other)
    ] refl

-- the row's number finds the row, where it found one before
pub find_replaced : (r c : CallbackRow) (cs : List CallbackRow) → find (has_number r.number) cs ≡ Some c → find (has_number r.number) (replaced r cs) ≡ Some r
find_replaced r c [] found = cc
find_replaced r c (d ∷ cs) found =
    elim (has_number r.number d) as (λ b. cond b (Some d) (find (has_number r.number) cs) ≡ Some c → has_number r.number d ≡ b → cond (has_number r.number (cond b r d)) (Some (cond b r d)) (find (has_number r.number) (replaced r cs)) ≡ Some r) [
      | true ↦ λ _ e. ap (λ b. cond b (Some r) (find (has_number r.number) (replaced r cs))) (eq-eqb r.number r.number refl)
      | false ↦ λ rest e. ap (λ b. cond b (Some d) (find (has_number r.number) (replaced r cs))) e ∙ find_replaced r c cs rest
    ] found refl

pub find_appended : (k : ℕ) (cs : List CallbackRow) (c d : CallbackRow) → find (has_number k) cs ≡ Some c → find (has_number k) (cs ++ d ∷ []) ≡ Some c
find_appended k [] c d found = cc
find_appended k (x ∷ cs) c d found =
    elim (has_number k x) as (λ b. cond b (Some x) (find (has_number k) cs) ≡ Some c → cond b (Some x) (find (has_number k) (cs ++ d ∷ [])) ≡ Some c) [
      | true ↦ λ e. e
      | false ↦ λ e. find_appended k cs c d e
    ] found

-- rows above a number have another
pub find_above : (k low next_number : ℕ) (cs : List CallbackRow) → k < low → IsRising low next_number cs → find (has_number k) cs ≡ None
find_above k low next_number [] lt h = refl
find_above k low next_number (c ∷ cs) lt h =
    let other : has_number k c ≡ false = ne_eqb c.number k (λ e. omega (arith, e, h.0, lt)) in
    ap (λ b. cond b (Some c) (find (has_number k) cs)) other ∙ find_above k (c.number + 1) next_number cs (omega (arith, h.0, lt)) h.1

-- ---- where a row leaves what a filter keeps

-- a row that fails p in place of another leaves what p keeps
pub filter_replaced_out : (p : CallbackRow → Bool) (r : CallbackRow) (cs : List CallbackRow) → p r ≡ false → filter p (replaced r cs) ≡ filter (λ c. not (has_number r.number c)) (filter p cs)
filter_replaced_out p r [] out = refl
filter_replaced_out p r (c ∷ cs) out =
    let others : CallbackRow → Bool = λ d. not (has_number r.number d) in
    elim (has_number r.number c) as (λ b. has_number r.number c ≡ b → cond (p (cond b r c)) (cond b r c ∷ filter p (replaced r cs)) (filter p (replaced r cs)) ≡ filter others (cond (p c) (c ∷ filter p cs) (filter p cs))) [
      | true ↦ λ e.
          ap (λ b. cond b (r ∷ filter p (replaced r cs)) (filter p (replaced r cs))) out
          ∙ filter_replaced_out p r cs out
          ∙ elim (p c) as (λ b. filter others (filter p cs) ≡ filter others (cond b (c ∷ filter p cs) (filter p cs))) [
            | true ↦ sym (ap (λ b. cond (not b) (c ∷ filter others (filter p cs)) (filter others (filter p cs))) e)
            | false ↦ refl
          ]
      | false ↦ λ e.
          ap (λ t. cond (p c) (c ∷ t) t) (filter_replaced_out p r cs out)
          ∙ elim (p c) as (λ b. cond b (c ∷ filter others (filter p cs)) (filter others (filter p cs)) ≡ filter others (cond b (c ∷ filter p cs) (filter p cs))) [
            | true ↦ sym (ap (λ b. cond (not b) (c ∷ filter others (filter p cs)) (filter others (filter p cs))) e)
            | false ↦ refl
          ]
    ] refl

-- ---- one row of each number

pub found_bounds : (k low next_number : ℕ) (c : CallbackRow) (cs : List CallbackRow) → IsRising low next_number cs → find (has_number k) cs ≡ Some c → (low ≤ k) × (k < next_number)
found_bounds k low next_number c [] h e = absurd cc
found_bounds k low next_number c (d ∷ cs) h e =
    elim (has_number k d) as (λ b. has_number k d ≡ b → cond b (Some d) (find (has_number k) cs) ≡ Some c → (low ≤ k) × (k < next_number)) [
      | true ↦ λ same _.
          let is_k : d.number ≡ k = eqb-true d.number k same in
          let above : d.number + 1 ≤ next_number = rising_bound (d.number + 1) next_number cs h.1 in
          let least : low ≤ d.number = h.0 in
          (omega (arith, is_k, least), omega (arith, is_k, above))
      | false ↦ λ _ found.
          let rest = found_bounds k (d.number + 1) next_number c cs h.1 found in
          let least : low ≤ d.number = h.0 in
          (omega (arith, rest.0, least), rest.1)
    ] refl e

-- what any test finds is found by its number
pub find_numbered : (p : CallbackRow → Bool) (low next_number : ℕ) (cs : List CallbackRow) (c : CallbackRow) → IsRising low next_number cs → find p cs ≡ Some c → find (has_number c.number) cs ≡ Some c
find_numbered p low next_number [] c h e = absurd cc
find_numbered p low next_number (d ∷ cs) c h e =
    elim (p d) as (λ b. cond b (Some d) (find p cs) ≡ Some c → find (has_number c.number) (d ∷ cs) ≡ Some c) [
      | true ↦ λ found.
          let same : d ≡ c = cc in
          ap (λ b. cond b (Some d) (find (has_number c.number) cs)) (eq-eqb d.number c.number (ap (λ (x : CallbackRow). x.number) same)) ∙ found
      | false ↦ λ found.
          let rest = find_numbered p (d.number + 1) next_number cs c h.1 found in
          let bounds = found_bounds c.number (d.number + 1) next_number c cs h.1 rest in
          ap (λ b. cond b (Some d) (find (has_number c.number) cs)) (ne_eqb d.number c.number (λ is. omega (arith, is, bounds.0))) ∙ rest
    ] e

pub replaced_above : (r : CallbackRow) (low next_number : ℕ) (cs : List CallbackRow) → r.number < low → IsRising low next_number cs → replaced r cs ≡ cs
replaced_above r low next_number [] lt h = refl
replaced_above r low next_number (c ∷ cs) lt h =
    let least : low ≤ c.number = h.0 in
    let other : has_number r.number c ≡ false = ne_eqb c.number r.number (λ e. omega (arith, e, least, lt)) in
    ap (λ b. cond b r c ∷ replaced r cs) other ∙ ap (λ t. c ∷ t) (replaced_above r (c.number + 1) next_number cs (omega (arith, least, lt)) h.1)

-- a filter keeps one more or one less, as the row and the one before it pass
pub length_filter_replaced : (p : CallbackRow → Bool) (r c : CallbackRow) (low next_number : ℕ) (cs : List CallbackRow) → IsRising low next_number cs → find (has_number r.number) cs ≡ Some c →
    length (filter p (replaced r cs)) + cond (p c) 1 0 ≡ length (filter p cs) + cond (p r) 1 0
length_filter_replaced p r c low next_number [] h e = absurd cc
length_filter_replaced p r c low next_number (d ∷ cs) h e =
    elim (has_number r.number d) as (λ b. has_number r.number d ≡ b → cond b (Some d) (find (has_number r.number) cs) ≡ Some c
    → length (cond (p (cond b r d)) (cond b r d ∷ filter p (replaced r cs)) (filter p (replaced r cs))) + cond (p c) 1 0 ≡ length (cond (p d) (d ∷ filter p cs) (filter p cs)) + cond (p r) 1 0) [
      | true ↦ λ same found.
          let is_c : d ≡ c = cc in
          let is_r : d.number ≡ r.number = eqb-true d.number r.number same in
          let rest : replaced r cs ≡ cs = replaced_above r (d.number + 1) next_number cs (omega (arith, is_r)) h.1 in
          subst (λ x. length (cond (p r) (r ∷ filter p (replaced r cs)) (filter p (replaced r cs))) + cond (p x) 1 0 ≡ length (cond (p d) (d ∷ filter p cs) (filter p cs)) + cond (p r) 1 0) is_c
          (subst (λ t. length (cond (p r) (r ∷ filter p t) (filter p t)) + cond (p d) 1 0 ≡ length (cond (p d) (d ∷ filter p cs) (filter p cs)) + cond (p r) 1 0) (sym rest)
          (elim (p r) as (λ b. length (cond b (r ∷ filter p cs) (filter p cs)) + cond (p d) 1 0 ≡ length (cond (p d) (d ∷ filter p cs) (filter p cs)) + cond b 1 0) [
            | true ↦ elim (p d) as (λ b. length (r ∷ filter p cs) + cond b 1 0 ≡ length (cond b (d ∷ filter p cs) (filter p cs)) + 1) [ true ↦ omega arith | false ↦ omega arith ]
            | false ↦ elim (p d) as (λ b. length (filter p cs) + cond b 1 0 ≡ length (cond b (d ∷ filter p cs) (filter p cs)) + 0) [ true ↦ omega arith | false ↦ omega arith ]
          ]))
      | false ↦ λ _ found.
          let rest = length_filter_replaced p r c (d.number + 1) next_number cs h.1 found in
          elim (p d) as (λ b. length (cond b (d ∷ filter p (replaced r cs)) (filter p (replaced r cs))) + cond (p c) 1 0 ≡ length (cond b (d ∷ filter p cs) (filter p cs)) + cond (p r) 1 0) [
            | true ↦ omega (arith, rest)
            | false ↦ rest
          ]
    ] refl e

-- what holds of the row found for a number holds of each row of that number
pub found_all : (P : CallbackRow → Type 0) (k : ℕ) (c : CallbackRow) (low next_number : ℕ) (cs : List CallbackRow) → IsRising low next_number cs → find (has_number k) cs ≡ Some c → P c → AllByRecursion (λ x. has_number k x ≡ true → P x) cs
found_all P k c low next_number [] h e holds = tt
found_all P k c low next_number (d ∷ cs) h e holds =
    elim (has_number k d) as (λ b. has_number k d ≡ b → cond b (Some d) (find (has_number k) cs) ≡ Some c → (b ≡ true → P d) × AllByRecursion (λ x. has_number k x ≡ true → P x) cs) [
      | true ↦ λ same found.
          let is_c : c ≡ d = cc in
          let is_k : d.number ≡ k = eqb-true d.number k same in
          ((λ _. subst P is_c holds), none_all P k (d.number + 1) next_number cs (omega (arith, is_k)) h.1)
      | false ↦ λ _ found. ((λ e. absurd cc), found_all P k c (d.number + 1) next_number cs h.1 found holds)
    ] refl e
  where
    none_all : (P : CallbackRow → Type 0) (k : ℕ) (low next_number : ℕ) (cs : List CallbackRow) → k < low → IsRising low next_number cs → AllByRecursion (λ x. has_number k x ≡ true → P x) cs
    none_all P k low next_number [] lt h = tt
    none_all P k low next_number (d ∷ cs) lt h =
        let least : low ≤ d.number = h.0 in
        ((λ e. absurd (omega (arith, eqb-true d.number k e, least, lt))), none_all P k (d.number + 1) next_number cs (omega (arith, least, lt)) h.1)

-- to filter by p before a row is replaced makes no difference to a filter by p after it
pub filter_replaced_filter : (p : CallbackRow → Bool) (r : CallbackRow) (cs : List CallbackRow) → AllByRecursion (λ c. has_number r.number c ≡ true → p c ≡ true) cs → filter p (replaced r (filter p cs)) ≡ filter p (replaced r cs)
filter_replaced_filter p r [] all = refl
filter_replaced_filter p r (c ∷ cs) all =
    elim (p c) as (λ b. p c ≡ b → filter p (replaced r (cond b (c ∷ filter p cs) (filter p cs))) ≡ filter p (replaced r (c ∷ cs))) [
      | true ↦ λ _. ap (λ t. cond (p (cond (has_number r.number c) r c)) (cond (has_number r.number c) r c ∷ t) t) (filter_replaced_filter p r cs all.1)
      | false ↦ λ out.
          let other : has_number r.number c ≡ false = not_true (has_number r.number c) (λ e. false_true (sym out ∙ all.0 e)) in
          filter_replaced_filter p r cs all.1
          ∙ sym (ap (λ b. cond (p (cond b r c)) (cond b r c ∷ filter p (replaced r cs)) (filter p (replaced r cs))) other ∙ ap (λ b. cond b (c ∷ filter p (replaced r cs)) (filter p (replaced r cs))) out)
    ] refl
  where
    false_true : false ≡ true → ⊥
    false_true e = cc

    not_true : (b : Bool) → (b ≡ true → ⊥) → b ≡ false
    not_true true h = absurd (h refl)
    not_true false h = refl

-- what a filter keeps is found by its number
pub kept_found : (p : CallbackRow → Bool) (low next_number : ℕ) (cs : List CallbackRow) (i : ℕ) (c : CallbackRow) → IsRising low next_number cs → slice_get (filter p cs) i ≡ Some c → (find (has_number c.number) cs ≡ Some c) × (p c ≡ true)
kept_found p low next_number [] i c h e = absurd cc
kept_found p low next_number (d ∷ cs) i c h e =
    elim (p d) as (λ b. p d ≡ b → slice_get (cond b (d ∷ filter p cs) (filter p cs)) i ≡ Some c → (find (has_number c.number) (d ∷ cs) ≡ Some c) × (p c ≡ true)) [
      | true ↦ λ passes got. at_place (λ j rest. kept_found p (d.number + 1) next_number cs j c h.1 rest) i passes got
      | false ↦ λ _ got. later (kept_found p (d.number + 1) next_number cs i c h.1 got)
    ] refl e
  where
    later : (find (has_number c.number) cs ≡ Some c) × (p c ≡ true) → (find (has_number c.number) (d ∷ cs) ≡ Some c) × (p c ≡ true)
    later found =
        let bounds = found_bounds c.number (d.number + 1) next_number c cs h.1 found.0 in
        let other : has_number c.number d ≡ false = ne_eqb d.number c.number (λ e. omega (arith, e, bounds.0)) in
        (ap (λ b. cond b (Some d) (find (has_number c.number) cs)) other ∙ found.0, found.1)

    at_place : ((j : ℕ) → slice_get (filter p cs) j ≡ Some c → (find (has_number c.number) cs ≡ Some c) × (p c ≡ true)) → (j : ℕ) → p d ≡ true → slice_get (d ∷ filter p cs) j ≡ Some c → (find (has_number c.number) (d ∷ cs) ≡ Some c) × (p c ≡ true)
    at_place rest zero passes got =
        let same : d ≡ c = cc in
        let here : has_number c.number d ≡ true = eq-eqb d.number c.number (ap (λ (x : CallbackRow). x.number) same) in
        (ap (λ b. cond b (Some d) (find (has_number c.number) cs)) here ∙ got, ap p (sym same) ∙ passes)
    at_place rest (suc j) passes got = later (rest j got)
