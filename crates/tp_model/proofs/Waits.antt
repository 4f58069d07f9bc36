-- What is true of begun waits, as callbacks change and as waits begin.
use Rattle.std.proofs.Common.{◌≡◌, ℕ, ◌+◌, ◌<◌, ◌≤◌, Bool, true, false, cond, not, ◌&&◌, ◌||◌, ◌==◌, List, [], ◌∷◌, ◌++◌, map, Option, Some, None, is_some, refl, sym, ap, ap₂, ◌∙◌, arith, filter, find, eqb-true, ne_eqb}
use Rattle.std.specs.List.{AllByRecursion}
use Rattle.std.specs.Option.{option_map_or}
use Rattle.tp_base.specs.declared.rows.Status.{Status}
use Rattle.tp_base.specs.declared.rows.Status.TheVariants.{Expected, Issued, Pending, Running, Returned, Cancelled}
use Rattle.tp_base.specs.declared.rows.CallbackRow.{CallbackRow}
use Rattle.tp_base.specs.declared.plans.Awaited.{Awaited}
use Rattle.tp_base.specs.declared.plans.Awaited.TheVariants as awaited
use Rattle.tp_base.specs.declared.rows.WaitTarget.{WaitTarget}
use Rattle.tp_base.specs.declared.rows.WaitTarget.TheVariants.{Group}
use Rattle.tp_base.specs.declared.ids.Who.{Who}
use Rattle.tp_base.specs.declared.ids.GroupId.{GroupId}
use Rattle.tp_base.specs.declared.ids.ObjectId.{ObjectId}
use Rattle.tp_model.specs.World.{World, BegunWait}
use Rattle.tp_model.specs.Counts.{numbered, has_number, is_running}
use Rattle.tp_model.specs.Changes.{replaced, new_wait, new_close}
use Rattle.tp_model.specs.Waits.{target_of, is_of, is_held_for, is_outstanding_for, is_object_target, is_covered_by, cancelled, cancel_where, covered_of}
use Rattle.tp_model.specs.Laws.Entries.{is_among}
use Rattle.tp_model.specs.Laws.Once.{is_left}
use Rattle.tp_model.specs.Support.Sound.{IsRising, IsNamed, IsWaitSound, is_left_of, is_left_among}
use Rattle.tp_model.specs.Support.Allowed.{IsTargetMade}
use Rattle.tp_model.proofs.Callbacks.{find_replaced, find_replaced_other, rising_bound}
use Rattle.tp_model.proofs.Cancelling.{cancelled_found, find_cancelled, among_numbers}
use Rattle.tp_model.proofs.Lists.{all_below}
use Rattle.tp_model.proofs.Refusals.{and_false, both, false_true}

-- ---- other callbacks

-- what may still be run might be so before
abbrev pub AreLeftOver : List CallbackRow → List CallbackRow → Type 0
AreLeftOver before now = (target : WaitTarget) (n : ℕ) → is_left_among now target n ≡ true → is_left_among before target n ≡ true

pub waits_still : (next_number : ℕ) (before now : List CallbackRow) → AreLeftOver before now → (bs : List BegunWait) → AllByRecursion (IsWaitSound next_number before) bs → AllByRecursion (IsWaitSound next_number now) bs
waits_still next_number before now over [] all = tt
waits_still next_number before now over (b ∷ bs) all = (
  record { named = all.0.named; made = all.0.made; closed = λ m n lt left_m left_n. all.0.closed m n lt (over b.target m left_m) (over b.target n left_n); settled = λ n left. all.0.settled n (over b.target n left); quiet = all.0.quiet },
  waits_still next_number before now over bs all.1,
)

-- another row in place of one of the same object and group, which may be run only where that might
pub left_replaced : (r c : CallbackRow) (cs : List CallbackRow) → find (has_number r.number) cs ≡ Some c → ((target : WaitTarget) → is_left_of target r ≡ true → is_left_of target c ≡ true) → AreLeftOver cs (replaced r cs)
left_replaced r c cs found only target n left =
    elim (has_number n r) as (λ b. has_number n r ≡ b → is_left_among cs target n ≡ true) [
      | true ↦ λ e.
          let is : r.number ≡ n = eqb-true r.number n e in
          let here : is_left_of target r ≡ true = ap (λ o. option_map_or (is_left_of target) o false) (sym (find_replaced r c cs found)) ∙ ap (is_left_among (replaced r cs) target) is ∙ left in
          ap (is_left_among cs target) (sym is) ∙ ap (λ o. option_map_or (is_left_of target) o false) found ∙ only target here
      | false ↦ λ e. ap (λ o. option_map_or (is_left_of target) o false) (sym (find_replaced_other r n cs e)) ∙ left
    ] refl

-- some are cancelled
pub left_cancelled : (test : CallbackRow → Bool) (cs : List CallbackRow) → AreLeftOver cs (cancel_where test cs)
left_cancelled test cs target n left = of_row (find (has_number n) cs) refl (ap (λ o. option_map_or (is_left_of target) o false) (sym (find_cancelled test cs n)) ∙ left)
  where
    of_row : (o : Option CallbackRow) → find (has_number n) cs ≡ o → option_map_or (is_left_of target) (cancelled_found test o) false ≡ true → option_map_or (is_left_of target) (find (has_number n) cs) false ≡ true
    of_row None is e = absurd (false_true e)
    of_row (Some c) is e =
        ap (λ o. option_map_or (is_left_of target) o false) is
        ∙ elim (test c) as (λ b. is_left_of target (cond b (cancelled c) c) ≡ true → is_left_of target c ≡ true) [ true ↦ λ h. absurd (false_true (sym (and_false (is_of target (cancelled c))) ∙ h)) | false ↦ λ h. h ] e

-- ---- one callback more

among_below : (bound n : ℕ) (ns : List ℕ) → AllByRecursion (λ m. m < bound) ns → is_among n ns ≡ true → n < bound
among_below bound n [] all e = absurd (false_true e)
among_below bound n (m ∷ ns) all e =
    elim (m == n) as (λ b. (m == n) ≡ b → (b || is_among n ns) ≡ true → n < bound) [
      | true ↦ λ is _. let same : m ≡ n = eqb-true m n is in omega (arith, same, all.0)
      | false ↦ λ _ h. among_below bound n ns all.1 h
    ] refl e

-- numbers below that of the last row find what they found
find_below : (n : ℕ) (c : CallbackRow) (cs : List CallbackRow) → n < c.number → find (has_number n) (cs ++ c ∷ []) ≡ find (has_number n) cs
find_below n c [] lt = ap (λ b. cond b (Some c) None) (ne_eqb c.number n (λ e. omega (arith, e, lt)))
find_below n c (d ∷ cs) lt = ap (λ t. cond (has_number n d) (Some d) t) (find_below n c cs lt)

pub waits_longer : (next_number : ℕ) (c : CallbackRow) (cs : List CallbackRow) → c.number ≡ next_number → (bs : List BegunWait) → AllByRecursion (IsWaitSound next_number cs) bs → AllByRecursion (IsWaitSound (next_number + 1) (cs ++ c ∷ [])) bs
waits_longer next_number c cs number [] all = tt
waits_longer next_number c cs number (b ∷ bs) all = (
  record {
    named = all.0.named;
    made = all_below (λ n. n) next_number (next_number + 1) (omega arith) b.covered all.0.made;
    closed = λ m n lt left_m left_n covered.
        let below : n < c.number = omega (arith, number, among_below next_number n b.covered all.0.made covered) in
        all.0.closed m n lt (was m (omega (arith, lt, below)) left_m) (was n below left_n) covered;
    settled = λ n left covered. all.0.settled n (was n (omega (arith, number, among_below next_number n b.covered all.0.made covered)) left) covered;
    quiet = all.0.quiet;
  },
  waits_longer next_number c cs number bs all.1,
)
  where
    was : (n : ℕ) → n < c.number → is_left_among (cs ++ c ∷ []) b.target n ≡ true → is_left_among cs b.target n ≡ true
    was n below left = ap (λ o. option_map_or (is_left_of b.target) o false) (sym (find_below n c cs below)) ∙ left

-- ---- a wait begins

pub target_named : (w : World) (awaited : Awaited) → IsTargetMade w awaited → IsNamed (target_of awaited)
target_named w (awaited.Object object) made = λ is. false_true (sym (ap (λ n. is_some (numbered w.objects n)) is) ∙ made)
target_named w (awaited.Kernel kernel) made = tt

-- the numbers of rows are below the next
numbers_below : (p : CallbackRow → Bool) (low next_number : ℕ) (cs : List CallbackRow) → IsRising low next_number cs → AllByRecursion (λ n. n < next_number) (map (λ (c : CallbackRow). c.number) (filter p cs))
numbers_below p low next_number [] rising = tt
numbers_below p low next_number (c ∷ cs) rising =
    let rest = numbers_below p (c.number + 1) next_number cs rising.1 in
    let above : c.number + 1 ≤ next_number = rising_bound (c.number + 1) next_number cs rising.1 in
    elim (p c) as (λ b. AllByRecursion (λ n. n < next_number) (map (λ (x : CallbackRow). x.number) (cond b (c ∷ filter p cs) (filter p cs)))) [ true ↦ (omega (arith, above), rest) | false ↦ rest ]

-- a row whose number is among those of what passes has passed
passed_among : (p : CallbackRow → Bool) (low next_number n : ℕ) (c : CallbackRow) (cs : List CallbackRow) → IsRising low next_number cs → find (has_number n) cs ≡ Some c → is_among n (map (λ (x : CallbackRow). x.number) (filter p cs)) ≡ true → p c ≡ true
passed_among p low next_number n c [] rising found among = absurd (false_true among)
passed_among p low next_number n c (d ∷ cs) rising found among =
    elim (has_number n d) as (λ b. has_number n d ≡ b → cond b (Some d) (find (has_number n) cs) ≡ Some c → is_among n (map (λ (x : CallbackRow). x.number) (filter p (d ∷ cs))) ≡ true → p c ≡ true) [
      | true ↦ λ here e h.
          let same : d ≡ c = cc in
          let is : d.number ≡ n = eqb-true d.number n here in
          ap p (sym same)
          ∙ elim (p d) as (λ b. is_among n (map (λ (x : CallbackRow). x.number) (cond b (d ∷ filter p cs) (filter p cs))) ≡ true → b ≡ true) [
            | true ↦ λ _. refl
            | false ↦ λ later. absurd (omega (arith, is, least n (d.number + 1) cs rising.1 later))
          ] h
      | false ↦ λ other e h.
          passed_among p (d.number + 1) next_number n c cs rising.1 e
          (elim (p d) as (λ b. is_among n (map (λ (x : CallbackRow). x.number) (cond b (d ∷ filter p cs) (filter p cs))) ≡ true → is_among n (map (λ (x : CallbackRow). x.number) (filter p cs)) ≡ true) [
            | true ↦ λ t. ap (λ b. b || is_among n (map (λ (x : CallbackRow). x.number) (filter p cs))) (sym other) ∙ t
            | false ↦ λ t. t
          ] h)
    ] refl found among
  where
    least : (k bound : ℕ) (ds : List CallbackRow) → IsRising bound next_number ds → is_among k (map (λ (x : CallbackRow). x.number) (filter p ds)) ≡ true → bound ≤ k
    least k bound [] r e = absurd (false_true e)
    least k bound (x ∷ xs) r e =
        elim (p x) as (λ b. is_among k (map (λ (y : CallbackRow). y.number) (cond b (x ∷ filter p xs) (filter p xs))) ≡ true → bound ≤ k) [
          | true ↦ λ h. elim (x.number == k) as (λ b. (x.number == k) ≡ b → (b || is_among k (map (λ (y : CallbackRow). y.number) (filter p xs))) ≡ true → bound ≤ k) [
            | true ↦ λ is _. let same : x.number ≡ k = eqb-true x.number k is in omega (arith, same, r.0)
            | false ↦ λ _ later. omega (arith, r.0, least k (x.number + 1) xs r.1 later)
          ] refl h
          | false ↦ λ later. omega (arith, r.0, least k (x.number + 1) xs r.1 later)
        ] e

-- what may still be run is outstanding, and doesn't run
left_outstanding : (target : WaitTarget) (c : CallbackRow) → is_left_of target c ≡ true → (is_outstanding_for target c ≡ true) × (is_running c.status ≡ false)
left_outstanding target c left =
    let parts = both (is_of target c) (is_left c.status) left in
    (ap₂ (λ a b. a && b) parts.0 (held target c.status parts.0 parts.1), runs_not c.status parts.1)
  where
    runs_not : (s : Status) → is_left s ≡ true → is_running s ≡ false
    runs_not Expected e = refl
    runs_not Issued e = refl
    runs_not Pending e = refl
    runs_not (Running worker associated slots) e = absurd (false_true e)
    runs_not Returned e = refl
    runs_not Cancelled e = refl

    held : (t : WaitTarget) (s : Status) → is_of t c ≡ true → is_left s ≡ true → is_held_for t s ≡ true
    held t Expected o e = refl
    held t Issued o e = refl
    held t Pending o e = refl
    held t (Running worker associated slots) o e = absurd (false_true e)
    held t Returned o e = absurd (false_true e)
    held t Cancelled o e = absurd (false_true e)

pub new_wait_sound : (next_number : ℕ) (who : Who) (target : WaitTarget) (cancel : Bool) (kept : List CallbackRow) → IsNamed target → IsRising 1 next_number kept → IsWaitSound next_number kept (new_wait who target cancel kept)
new_wait_sound next_number who target cancel kept named rising =
    record {
      named = named;
      made = numbers_below covers 1 next_number kept rising;
      closed = λ m n lt left_m left_n covered. closed m n left_m left_n covered;
      settled = λ n left covered. refl;
      quiet = λ _. refl;
    }
  where
    covers : CallbackRow → Bool
    covers = is_covered_by target cancel

    closed : (m n : ℕ) → is_left_among kept target m ≡ true → is_left_among kept target n ≡ true → is_among n (covered_of target cancel kept) ≡ true → is_among m (covered_of target cancel kept) ≡ true
    closed m n left_m left_n covered = of_rows (find (has_number m) kept) refl left_m (find (has_number n) kept) refl left_n
      where
        of_rows : (o : Option CallbackRow) → find (has_number m) kept ≡ o → option_map_or (is_left_of target) o false ≡ true → (p : Option CallbackRow) → find (has_number n) kept ≡ p → option_map_or (is_left_of target) p false ≡ true
            → is_among m (covered_of target cancel kept) ≡ true
        of_rows None at e p is h = absurd (false_true e)
        of_rows (Some c) at e None is h = absurd (false_true h)
        of_rows (Some c) at e (Some d) is h =
            let passes : covers d ≡ true = passed_among covers 1 next_number n d kept rising is covered in
            let all : not (cancel && is_object_target target) ≡ true
            = sym (ap (λ b. b || not (cancel && is_object_target target)) (left_outstanding target d h).1) ∙ (both (is_outstanding_for target d) (is_running d.status || not (cancel && is_object_target target)) passes).1 in
            let here = left_outstanding target c e in
            among_numbers covers m c kept at (ap₂ (λ a b. a && (b || not (cancel && is_object_target target))) here.0 here.1 ∙ all)

-- and one of a close of a group, where with cancel none of its callbacks may still be run
pub new_close_sound : (next_number : ℕ) (who : Who) (group : GroupId) (cancel : Bool) (context : ℕ) (notices : List ObjectId) (kept : List CallbackRow) → IsRising 1 next_number kept → (cancel ≡ false → notices ≡ [])
    → (cancel ≡ true → (n : ℕ) (c : CallbackRow) → find (has_number n) kept ≡ Some c → is_of (Group group) c ≡ true → is_left c.status ≡ false) → IsWaitSound next_number kept (new_close who group cancel context notices kept)
new_close_sound next_number who group cancel context notices kept rising quiet cut =
    let plain : IsWaitSound next_number kept (new_wait who (Group group) cancel kept) = new_wait_sound next_number who (Group group) cancel kept tt rising in
    record { named = tt; made = plain.made; closed = plain.closed; settled = λ n left _. of_cancel n left cancel refl; quiet = λ e. absurd (false_true (sym e)) }
  where
    of_row : (n : ℕ) → cancel ≡ true → (o : Option CallbackRow) → find (has_number n) kept ≡ o → option_map_or (is_left_of (Group group)) o false ≡ true → ⊥
    of_row n is None found e = false_true e
    of_row n is (Some c) found e = let parts = both (is_of (Group group) c) (is_left c.status) e in false_true (sym (cut is n c found parts.0) ∙ parts.1)

    of_cancel : (n : ℕ) → is_left_among kept (Group group) n ≡ true → (b : Bool) → cancel ≡ b → notices ≡ []
    of_cancel n left false is = quiet is
    of_cancel n left true is = absurd (of_row n is (find (has_number n) kept) refl left)
