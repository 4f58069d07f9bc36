-- The law Once: what the entries so far tell of each callback is what its status says.
use Rattle.std.proofs.Common.{◌≡◌, option_map, ◌&&◌, ℕ, ◌+◌, ◌≤◌, Bool, true, false, cond, not, ◌||◌, ◌==◌, List, [], ◌∷◌, ◌++◌, length, Option, Some, None, slice_get, get_or, refl, sym, ap, ◌∙◌, append_assoc, subst, arith, filter, find, length-append}
use Rattle.std.specs.List.{All, cons_option, list_any, range_with_len, filter_map}
use Rattle.std.specs.Option.{option_to_list}
use Rattle.std.proofs.lemmas.List.{append-nil, length-map}
use Rattle.std.proofs.lemmas.Grind.{flat_map-append}
use Rattle.std.proofs.lemmas.List.Elements.{filter_map-append, All-map}
use Rattle.std.proofs.lemmas.Option.{slice_get-get_or}
use Rattle.std.proofs.lemmas.List.Sums.{sum_by_push}
use Rattle.std.proofs.lemmas.List.FromFn.{length-range_with_len}
use Rattle.tp_base.specs.declared.ids.ObjectId.{ObjectId}
use Rattle.tp_base.specs.declared.plans.IoStep.{IoStep}
use Rattle.tp_base.specs.declared.plans.IoStep.TheVariants.{Issue, GiveUp, Complete}
use Rattle.tp_base.specs.declared.rows.Status.{Status}
use Rattle.tp_base.specs.declared.rows.Status.TheVariants.{Expected, Issued, Pending, Running, Returned, Cancelled}
use Rattle.tp_base.specs.declared.rows.CallbackRow.{CallbackRow}
use Rattle.tp_base.specs.declared.rows.WorkerRow.{WorkerRow}
use Rattle.tp_base.specs.declared.answers.Entry.{Entry}
use Rattle.tp_model.specs.World.{World}
use Rattle.tp_model.specs.Counts.{has_number, is_pending}
use Rattle.tp_model.specs.Changes.{replaced, taken as taken_row, operated, status_before, returned}
use Rattle.tp_model.specs.Support.Sound.{IsRising}
use Rattle.tp_model.specs.Laws.Entries.{is_among, times, numbers_made, numbers_taken, numbers_cancelled, count_cancelled, made_by, event, Runs as Taking, taken_by, cancelled_by, cancelled_count}
use Rattle.tp_model.specs.Laws.Once.{is_left, left, TakesUncancelled}
use Rattle.tp_model.specs.Support.Told.{Deed, deed_by, deed_of, nothing}
use Rattle.tp_model.specs.Support.Moves.{Asking, asked_slots, Move, Stay, Mark, Attach, Detach, Take, Return, Moves, run_of, AreNew, numbers_of, Amend, Operate, Cancel}
use Rattle.tp_model.specs.Waits.{cancel_where}
use Rattle.tp_model.proofs.Cancelling.{length_cancelled}
use Rattle.tp_model.proofs.Callbacks.{length_replaced, kept_found}
use Rattle.tp_model.proofs.Refusals.{false_true}
use Rattle.tp_model.proofs.Agreeing.{Agrees, agrees_cancelled, agrees_given_up, agrees_made, agrees_put, agrees_same, agrees_taken, AgreesWith, begun, dropped, has_begun, one_if, pending_uncancelled, same_row, times_begun}
pub use Rattle.tp_model.proofs.Agreeing.{is_cancelled}

-- ---- every move keeps it

move_agrees : (made taken cancelled : List ℕ) (count next_number : ℕ) (w : World) (entry : Entry) (kept : List CallbackRow) (staff : List WorkerRow) → IsRising 1 next_number w.callbacks
    → Agrees made taken cancelled count w.callbacks → Move w entry kept staff → AgreesWith made taken cancelled count (deed_by entry) kept
move_agrees made taken cancelled count next_number w entry kept staff rising a move = of_move move
  where
    to : (deed : Deed) (cs : List CallbackRow) → deed_by entry ≡ deed → kept ≡ cs → AgreesWith made taken cancelled count deed cs → AgreesWith made taken cancelled count (deed_by entry) kept
    to deed cs tells same here = subst (λ (t : Deed). AgreesWith made taken cancelled count t kept) (sym tells) (subst (λ l. AgreesWith made taken cancelled count deed l) (sym same) here)

    still : AgreesWith made taken cancelled count nothing w.callbacks
    still = agrees_same made taken cancelled count w.callbacks a

    of_move : Move w entry kept staff → AgreesWith made taken cancelled count (deed_by entry) kept
    of_move (Stay m) = to nothing w.callbacks m.tells m.callbacks still
    of_move (Mark m) =
        to nothing (replaced m.new w.callbacks) m.tells m.callbacks
        (agrees_put made taken cancelled count w.callbacks next_number m.old m.new rising m.found a (ap has_begun m.status) (ap is_cancelled m.status))
    of_move (Attach m) = to (record nothing { attached = Some m.pool.0 }) w.callbacks m.tells m.callbacks still
    of_move (Detach m) = to (record nothing { left = true }) w.callbacks m.tells m.callbacks still
    of_move (Take m) =
        let d : CallbackRow = taken_row m.callback m.worker in
        to (record nothing { taken = Some m.callback.number; run = Some (run_of m.callback); event = event m.callback.number (Taking m.callback.result) }) (replaced d w.callbacks) m.tells m.callbacks
        (agrees_taken made taken cancelled count w.callbacks next_number m.callback d rising m.found (Some (run_of m.callback)) (event m.callback.number (Taking m.callback.result)) a m.waits refl refl)
    of_move (Return m) =
        let d : CallbackRow = returned m.callback in
        to (record nothing { returned = true; words = Some m.words }) (replaced d w.callbacks) m.tells m.callbacks
        (agrees_put made taken cancelled count w.callbacks next_number m.callback d rising m.found a (sym (ap has_begun m.running)) (sym (ap is_cancelled m.running)))
    of_move (Amend m) =
        let d : CallbackRow = record m.callback { status = Running m.worker (m.associated && not m.loose) (asked_slots m.asks m.slots) } in
        to (record nothing { loosened = m.loose; asked = option_map (λ (a : Asking). a.kind) m.asks }) (replaced d w.callbacks) m.tells m.callbacks
        (agrees_put made taken cancelled count w.callbacks next_number m.callback d rising m.found a (sym (ap has_begun m.running)) (sym (ap is_cancelled m.running)))
    of_move (Operate m) = operates m.how m.callback m.found m.status m.tells m.callbacks
      where
        operates : (how : IoStep) (c : CallbackRow) → find (has_number c.number) w.callbacks ≡ Some c → c.status ≡ status_before how → deed_by entry ≡ deed_of c.number how → kept ≡ replaced (operated how c) w.callbacks
            → AgreesWith made taken cancelled count (deed_by entry) kept
        operates Issue c found comes tells same =
            to (deed_of c.number Issue) (replaced (operated Issue c) w.callbacks) tells same
            (agrees_put made taken cancelled count w.callbacks next_number c (operated Issue c) rising found a (sym (ap has_begun comes)) (sym (ap is_cancelled comes)))
        operates GiveUp c found comes tells same =
            to (deed_of c.number GiveUp) (replaced (operated GiveUp c) w.callbacks) tells same
            (agrees_given_up made taken cancelled count w.callbacks next_number c (operated GiveUp c) rising found a (sym (ap has_begun comes)) refl (ap is_cancelled comes))
        operates (Complete error bytes) c found comes tells same =
            to (deed_of c.number (Complete error bytes)) (replaced (operated (Complete error bytes) c) w.callbacks) tells same
            (agrees_put made taken cancelled count w.callbacks next_number c (operated (Complete error bytes) c) rising found a (sym (ap has_begun comes)) (sym (ap is_cancelled comes)))
    of_move (Cancel m) =
        to (record nothing { count = length (filter m.test w.callbacks) }) (cancel_where m.test w.callbacks) m.tells m.callbacks
        (agrees_cancelled made taken cancelled count w.callbacks m.test m.waits a)

-- as many callbacks as before
pub move_as_many : (w : World) (entry : Entry) (kept : List CallbackRow) (staff : List WorkerRow) → Move w entry kept staff → length kept ≡ length w.callbacks
move_as_many w entry kept staff (Stay m) = ap length m.callbacks
move_as_many w entry kept staff (Mark m) = ap length m.callbacks ∙ length_replaced m.new w.callbacks
move_as_many w entry kept staff (Attach m) = ap length m.callbacks
move_as_many w entry kept staff (Detach m) = ap length m.callbacks
move_as_many w entry kept staff (Take m) = ap length m.callbacks ∙ length_replaced (taken_row m.callback m.worker) w.callbacks
move_as_many w entry kept staff (Return m) = ap length m.callbacks ∙ length_replaced (returned m.callback) w.callbacks
move_as_many w entry kept staff (Amend m) = ap length m.callbacks ∙ length_replaced (record m.callback { status = Running m.worker (m.associated && not m.loose) (asked_slots m.asks m.slots) }) w.callbacks
move_as_many w entry kept staff (Operate m) = ap length m.callbacks ∙ length_replaced (operated m.how m.callback) w.callbacks
move_as_many w entry kept staff (Cancel m) = ap length m.callbacks ∙ length_cancelled m.test w.callbacks

-- the callbacks that are made, one by one
new_agree : (made taken cancelled : List ℕ) (count next_number : ℕ) (cs new : List CallbackRow) → next_number ≡ length cs + 1 → AreNew next_number new → Agrees made taken cancelled count cs
    → Agrees (made ++ numbers_of new) taken cancelled count (cs ++ new)
new_agree made taken cancelled count next_number cs [] is rows a =
    subst (λ m. Agrees m taken cancelled count (cs ++ [])) (sym (append-nil made)) (subst (Agrees made taken cancelled count) (sym (append-nil cs)) a)
new_agree made taken cancelled count next_number cs (c ∷ new) is rows a =
    let one : Agrees (made ++ c.number ∷ []) taken cancelled count (cs ++ c ∷ []) = agrees_made made taken cancelled count cs c next_number a is rows.0.numbered rows.0.unbegun in
    let longer : next_number + 1 ≡ length (cs ++ c ∷ []) + 1 = omega (arith, is, length-append cs (c ∷ [])) in
    let rest : Agrees ((made ++ c.number ∷ []) ++ numbers_of new) taken cancelled count ((cs ++ c ∷ []) ++ new)
    = new_agree (made ++ c.number ∷ []) taken cancelled count (next_number + 1) (cs ++ c ∷ []) new longer rows.1 one in
    subst (λ m. Agrees m taken cancelled count (cs ++ c ∷ new)) (append_assoc made (c.number ∷ []) (numbers_of new))
    (subst (Agrees ((made ++ c.number ∷ []) ++ numbers_of new) taken cancelled count) (append_assoc cs (c ∷ []) new) rest)

-- ---- along a history

abbrev pub AgreesAfter : List Entry → World → Type 0
AgreesAfter history w = Agrees (numbers_made history) (numbers_taken history) (numbers_cancelled history) (count_cancelled history) w.callbacks

-- one entry more tells what it tells besides
agrees_entry : (before : List Entry) (entry : Entry) (cs : List CallbackRow)
    → Agrees (numbers_made before ++ made_by entry) (numbers_taken before ++ option_to_list (taken_by entry.answer)) (numbers_cancelled before ++ option_to_list (cancelled_by entry.answer)) (count_cancelled before + cancelled_count entry.answer) cs
    → Agrees (numbers_made (before ++ entry ∷ [])) (numbers_taken (before ++ entry ∷ [])) (numbers_cancelled (before ++ entry ∷ [])) (count_cancelled (before ++ entry ∷ [])) cs
agrees_entry before entry cs a =
    subst (λ m. Agrees m (numbers_taken all) (numbers_cancelled all) (count_cancelled all) cs) (sym made)
    (subst (λ t. Agrees (numbers_made before ++ made_by entry) t (numbers_cancelled all) (count_cancelled all) cs) (sym (ones (λ (e : Entry). taken_by e.answer)))
    (subst (λ c. Agrees (numbers_made before ++ made_by entry) (numbers_taken before ++ option_to_list (taken_by entry.answer)) c (count_cancelled all) cs) (sym (ones (λ (e : Entry). cancelled_by e.answer)))
    (subst (λ s. Agrees (numbers_made before ++ made_by entry) (numbers_taken before ++ option_to_list (taken_by entry.answer)) (numbers_cancelled before ++ option_to_list (cancelled_by entry.answer)) s cs)
    (sym (sum_by_push (λ (e : Entry). cancelled_count e.answer) before entry)) a)))
  where
    all : List Entry
    all = before ++ entry ∷ []

    made : numbers_made all ≡ numbers_made before ++ made_by entry
    made = flat_map-append made_by before (entry ∷ []) ∙ ap (λ t. numbers_made before ++ t) (append-nil (made_by entry))

    single : (o : Option ℕ) → cons_option o [] ≡ option_to_list o
    single None = refl
    single (Some n) = refl

    ones : (f : Entry → Option ℕ) → filter_map f (before ++ entry ∷ []) ≡ filter_map f before ++ option_to_list (f entry)
    ones f = filter_map-append f before (entry ∷ []) ∙ ap (λ t. filter_map f before ++ t) (single (f entry))

pub agrees_on : (before : List Entry) (w : World) (entry : Entry) (after : World) → IsRising 1 (length w.callbacks + 1) w.callbacks → AgreesAfter before w → Moves (length w.callbacks + 1) w entry after → AgreesAfter (before ++ entry ∷ []) after
agrees_on before w entry after rising a moves =
    let moved = move_agrees (numbers_made before) (numbers_taken before) (numbers_cancelled before) (count_cancelled before) (length w.callbacks + 1) w entry moves.kept after.workers rising a moves.move in
    let longer : length w.callbacks + 1 ≡ length moves.kept + 1 = ap (λ n. n + 1) (sym (move_as_many w entry moves.kept after.workers moves.move)) in
    let made = new_agree (numbers_made before) (numbers_taken before ++ option_to_list (taken_by entry.answer)) (numbers_cancelled before ++ option_to_list (cancelled_by entry.answer)) (count_cancelled before + cancelled_count entry.answer)
    (length w.callbacks + 1) moves.kept moves.new longer moves.rows moved in
    agrees_entry before entry after.callbacks (subst (λ m. AgreesMade m after.callbacks) (sym moves.made) (subst (λ cs. AgreesMade (numbers_of moves.new) cs) (sym moves.callbacks) made))
  where
    AgreesMade : List ℕ → List CallbackRow → Type 0
    AgreesMade m cs = Agrees (numbers_made before ++ m) (numbers_taken before ++ option_to_list (taken_by entry.answer)) (numbers_cancelled before ++ option_to_list (cancelled_by entry.answer)) (count_cancelled before + cancelled_count entry.answer) cs

-- ---- what the law says of an entry

-- what an entry takes was pending
pub taken_waits : (w : World) (entry : Entry) (kept : List CallbackRow) (staff : List WorkerRow) (n : ℕ) → Move w entry kept staff → taken_by entry.answer ≡ Some n → (c : CallbackRow) × (find (has_number n) w.callbacks ≡ Some c) × (is_pending c.status ≡ true)
taken_waits w entry kept staff n (Take m) e =
    let is : m.callback.number ≡ n = number_is (ap (λ (t : Deed). t.taken) m.tells) in
    (m.callback, ap (λ k. find (has_number k) w.callbacks) (sym is) ∙ m.found, m.waits)
  where
    number_is : taken_by entry.answer ≡ Some m.callback.number → m.callback.number ≡ n
    number_is h = let both_told : Some m.callback.number ≡ Some n = sym h ∙ e in cc
taken_waits w entry kept staff n (Stay m) e = absurd (let h = sym (ap (λ (t : Deed). t.taken) m.tells) ∙ e in cc)
taken_waits w entry kept staff n (Mark m) e = absurd (let h = sym (ap (λ (t : Deed). t.taken) m.tells) ∙ e in cc)
taken_waits w entry kept staff n (Attach m) e = absurd (let h = sym (ap (λ (t : Deed). t.taken) m.tells) ∙ e in cc)
taken_waits w entry kept staff n (Detach m) e = absurd (let h = sym (ap (λ (t : Deed). t.taken) m.tells) ∙ e in cc)
taken_waits w entry kept staff n (Return m) e = absurd (let h = sym (ap (λ (t : Deed). t.taken) m.tells) ∙ e in cc)
taken_waits w entry kept staff n (Amend m) e = absurd (let h = sym (ap (λ (t : Deed). t.taken) m.tells) ∙ e in cc)
taken_waits w entry kept staff n (Operate m) e = absurd (let h = sym (ap (λ (t : Deed). t.taken) m.tells) ∙ e in cc)
taken_waits w entry kept staff n (Cancel m) e = absurd (let h = sym (ap (λ (t : Deed). t.taken) m.tells) ∙ e in cc)

pub takes_uncancelled : (before : List Entry) (w : World) (entry : Entry) (after : World) → AgreesAfter before w → Moves (length w.callbacks + 1) w entry after → TakesUncancelled before entry
takes_uncancelled before w entry after a moves n e =
    let taken = taken_waits w entry moves.kept after.workers n moves.move e in
    not_true (is_among n (numbers_cancelled before)) (λ named.
    let old = a.named_cancelled n named in
    let same : old.0 ≡ taken.0 = same_row n n old.0 taken.0 w.callbacks refl old.1 taken.1 in
    false_true (sym (pending_uncancelled taken.0.status taken.2) ∙ ap (λ (x : CallbackRow). is_cancelled x.status) (sym same) ∙ old.2))
  where
    not_true : (b : Bool) → (b ≡ true → ⊥) → b ≡ false
    not_true true h = absurd (h refl)
    not_true false h = refl

-- ---- what it says of a whole history

abbrev lefts : CallbackRow → Bool
lefts c = is_left c.status

left_unbegun : (s : Status) → is_left s ≡ true → has_begun s ≡ false
left_unbegun Expected e = refl
left_unbegun Issued e = refl
left_unbegun Pending e = refl
left_unbegun (Running worker associated slots) e = cc
left_unbegun Returned e = cc
left_unbegun Cancelled e = cc

-- a callback has begun, is cancelled or is left
one_of_three : (s : Status) → one_if (has_begun s) + one_if (is_cancelled s) + one_if (is_left s) ≡ 1
one_of_three Expected = refl
one_of_three Issued = refl
one_of_three Pending = refl
one_of_three (Running worker associated slots) = refl
one_of_three Returned = refl
one_of_three Cancelled = refl

none_missed : (cs : List CallbackRow) → length cs ≡ length (filter begun cs) + length (filter dropped cs) + length (filter lefts cs)
none_missed [] = refl
none_missed (c ∷ cs) = omega (arith, none_missed cs, one_of_three c.status, one_more begun, one_more dropped, one_more lefts)
  where
    one_more : (p : CallbackRow → Bool) → length (filter p (c ∷ cs)) ≡ length (filter p cs) + one_if (p c)
    one_more p = elim (p c) as (λ b. length (cond b (c ∷ filter p cs) (filter p cs)) ≡ length (filter p cs) + one_if b) [ true ↦ omega arith | false ↦ omega arith ]

none_among : {X : Type 0} (p : X → Bool) (xs : List X) → length (filter p xs) ≡ 0 → list_any p xs ≡ false
none_among p [] e = refl
none_among {X} p (x ∷ xs) e =
    elim (p x) as (λ b. length (cond b (x ∷ filter p xs) (filter p xs)) ≡ 0 → (b || list_any p xs) ≡ false) [
      | true ↦ λ h. absurd (omega (arith, h))
      | false ↦ λ h. none_among p xs h
    ] e

module _ (history : List Entry) (w : World) (rising : IsRising 1 (length w.callbacks + 1) w.callbacks) (a : AgreesAfter history w) where
  pub made_in_order : numbers_made history ≡ range_with_len 1 (length (numbers_made history))
  made_in_order = a.in_order ∙ ap (range_with_len 1) (sym (ap length a.in_order ∙ length-range_with_len 1 (length w.callbacks)))

  pub taken_once : (n : ℕ) → times n (numbers_taken history) ≤ 1
  taken_once n = subst (λ k. k ≤ 1) (sym (a.taken_begun n)) (at_most_one (find (has_number n) w.callbacks))
    where
      at_most_one : (o : Option CallbackRow) → times_begun o ≤ 1
      at_most_one None = omega arith
      at_most_one (Some c) = elim (has_begun c.status) as (λ b. cond b 1 0 ≤ 1) [ true ↦ omega arith | false ↦ omega arith ]

  pub left_untaken : All (λ l. is_among l.0 (numbers_taken history) ≡ false) (left w)
  left_untaken =
      All-map (λ l. is_among l.0 (numbers_taken history) ≡ false) (λ c. (c.number, c.object, c.status)) (filter lefts w.callbacks)
      (λ k d within. untaken k (get_or (filter lefts w.callbacks) k d) (slice_get-get_or (filter lefts w.callbacks) k d within))
    where
      untaken : (k : ℕ) (c : CallbackRow) → slice_get (filter lefts w.callbacks) k ≡ Some c → is_among c.number (numbers_taken history) ≡ false
      untaken k c is =
          let kept = kept_found lefts 1 (length w.callbacks + 1) w.callbacks k c rising is in
          none_among (λ m. m == c.number) (numbers_taken history) (a.taken_begun c.number ∙ ap times_begun kept.0 ∙ ap one_if (left_unbegun c.status kept.1))

  pub made_are : length (numbers_made history) ≡ length (numbers_taken history) + count_cancelled history + length (numbers_cancelled history) + length (left w)
  made_are =
      omega (arith, ap length a.in_order, length-range_with_len 1 (length w.callbacks), none_missed w.callbacks, a.as_many_taken, a.as_many_cancelled, length-map {B = ℕ × ObjectId × Status} (filter lefts w.callbacks) (λ c. (c.number, c.object, c.status)))
