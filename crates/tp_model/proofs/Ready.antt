-- What may be taken by what the entries tell was made, and has no operation under way; and what is pending may be taken.
use Rattle.std.proofs.Common.{◌≡◌, ◌≢◌, ℕ, suc, zero, ◌+◌, ◌<◌, ◌≤◌, Bool, true, false, cond, not, ◌||◌, ◌==◌, List, [], ◌∷◌, ◌++◌, length, map, is_some, Some, None, refl, sym, ap, ◌∙◌, subst, filter, find, ◌⊎◌, inl, inr, arith, eqb-true, eq-eqb, length-append, append-nil, lt-ltb}
use Rattle.std.proofs.Math.Dec.{ltb}
use Rattle.std.proofs.lemmas.Bool.{ltb-true}
use Rattle.std.proofs.lemmas.Grind.{flat_map-append}
use Rattle.tp_model.specs.Support.Sound.{IsRising}
use Rattle.std.proofs.lemmas.List.Folds.{list_any-append}
use Rattle.std.specs.List.{range_with_len, flat_map, list_any, position, position_or_len, prefix_len}
use Rattle.tp_base.specs.declared.answers.Entry.{Entry}
use Rattle.tp_base.specs.declared.answers.Answer.{Answer}
use Rattle.tp_base.specs.declared.answers.Answer.TheVariants as answer
use Rattle.tp_base.specs.declared.answers.Answer.TheVariants.{Queued, Operation, Taken, Refused}
use Rattle.tp_base.specs.declared.calls.Call.{Call}
use Rattle.tp_base.specs.declared.calls.Call.TheVariants.{CompleteIo, CompleteNext}
use Rattle.tp_base.specs.declared.rows.Status.{Status}
use Rattle.tp_base.specs.declared.rows.Status.TheVariants.{Expected, Issued, Pending, Running, Returned, Cancelled}
use Rattle.tp_base.specs.declared.plans.IoStep.{IoStep}
use Rattle.tp_base.specs.declared.plans.IoStep.TheVariants.{Issue, GiveUp, Complete}
use Rattle.tp_model.specs.Changes.{replaced, operated}
use Rattle.tp_base.specs.declared.rows.WorkerRow.{WorkerRow}
use Rattle.tp_base.specs.declared.rows.CallbackRow.{CallbackRow}
use Rattle.tp_model.specs.World.{World}
use Rattle.tp_model.specs.Counts.{has_number, is_operating, is_pending}
use Rattle.tp_model.specs.Laws.Entries.{is_among, event_by, numbers_made, numbers_started, queued_new, completed_by, completed_call, made_by, started_by, born, completed, ready, Happening, Starts, Issues, GivesUp, Completes, Runs, event, event_of, completion}
use Rattle.tp_model.specs.Laws.Io.{starts, happens_to, happening, happenings}
use Rattle.tp_model.specs.Laws.Once.{TakesReady}
use Rattle.tp_model.specs.History.{is_refusal}
use Rattle.tp_model.specs.Support.Told.{Deed, completed_of}
use Rattle.tp_model.specs.Support.Moves.{Move, Moves, Stay, Mark, Attach, Detach, Take, Return, Amend, Operate, Cancel, Leads}
use Rattle.tp_model.proofs.Callbacks.{found_bounds, find_replaced}
use Rattle.tp_model.proofs.Fates.{WasRow, row_was}
use Rattle.tp_model.proofs.Places.{new_above, waiting_above, waiting_pends, find_front}
use Rattle.tp_model.proofs.Once.{AgreesAfter, agrees_on, taken_waits, move_as_many}
use Rattle.tp_model.proofs.Io.{AreOnTheirWay, Came, CameTo, IsReady, Plainly, Done}
use Rattle.tp_model.proofs.Refusals.{or_true, or_false, false_true, neither}

-- those that may be taken from an entry on
abbrev pub ready_by : Entry → List ℕ
ready_by entry = completed_by entry ++ queued_new entry

abbrev pub numbers_ready : List Entry → List ℕ
numbers_ready history = flat_map ready_by history

pub record AreReady (history : List Entry) (w : World) : Type 0 where
  -- and were made
  pub past : (n : ℕ) → is_among n (numbers_ready history) ≡ true → n ≤ length w.callbacks
  pub ready : (n : ℕ) (c : CallbackRow) → is_among n (numbers_ready history) ≡ true → find (has_number n) w.callbacks ≡ Some c → is_operating c.status ≡ false

-- ---- lemmas on lists

pub among_front : (n : ℕ) (xs ys : List ℕ) → is_among n xs ≡ true → is_among n (xs ++ ys) ≡ true
among_front n xs ys e = list_any-append (λ m. m == n) xs ys ∙ ap (λ b. b || is_among n ys) e

pub among_back : (n : ℕ) (xs ys : List ℕ) → is_among n ys ≡ true → is_among n (xs ++ ys) ≡ true
among_back n xs ys e = list_any-append (λ m. m == n) xs ys ∙ ap (λ b. is_among n xs || b) e ∙ or_true (is_among n xs)

pub among_split : (n : ℕ) (xs ys : List ℕ) → is_among n (xs ++ ys) ≡ true → (is_among n xs ≡ true) ⊎ (is_among n ys ≡ true)
among_split n xs ys e = of_front (is_among n xs) refl (sym (list_any-append (λ m. m == n) xs ys) ∙ e)
  where
    of_front : (b : Bool) → is_among n xs ≡ b → (is_among n xs || is_among n ys) ≡ true → (is_among n xs ≡ true) ⊎ (is_among n ys ≡ true)
    of_front true is h = inl is
    of_front false is h = inr (sym (ap (λ b. b || is_among n ys) is) ∙ h)

pub in_range : (n first count : ℕ) → is_among n (range_with_len first count) ≡ true → n < first + count
in_range n first zero e = absurd (false_true e)
in_range n first (suc count) e =
    elim (first == n) as (λ b. (first == n) ≡ b → (b || is_among n (range_with_len (first + 1) count)) ≡ true → n < first + suc count) [
      | true ↦ λ is _. let same : first ≡ n = eqb-true first n is in omega (arith, same)
      | false ↦ λ _ h. omega (arith, in_range n (first + 1) count h)
    ] refl e

among_range : (n first count : ℕ) → first ≤ n → n < first + count → is_among n (range_with_len first count) ≡ true
among_range n first zero low high = absurd (omega (arith, low, high))
among_range n first (suc count) low high =
    elim (first == n) as (λ b. (first == n) ≡ b → (b || is_among n (range_with_len (first + 1) count)) ≡ true) [
      | true ↦ λ _. refl
      | false ↦ λ other. among_range n (first + 1) count (above other) (omega (arith, high))
    ] refl
  where
    above : (first == n) ≡ false → first + 1 ≤ n
    above other = let apart : first ≢ n = λ same. false_true (sym other ∙ eq-eqb first n same) in omega (arith, low, apart)

-- the numbers made are those of the callbacks that there are
pub made_past : (history : List Entry) (w : World) (n : ℕ) → AgreesAfter history w → is_among n (numbers_made history) ≡ true → n ≤ length w.callbacks
made_past history w n a e = omega (arith, in_range n 1 (length w.callbacks) (ap (is_among n) (sym a.in_order) ∙ e))

pub not_true : (a b : Bool) → (a ≡ true → b ≡ true) → b ≡ false → a ≡ false
not_true true b h e = absurd (false_true (sym e ∙ h refl))
not_true false b h e = refl

-- ---- operations that complete

-- the callback of an operation that completes was made before, and has no operation under way any more
record IsCompleted (w : World) (kept : List CallbackRow) (n : ℕ) : Type 0 where
  past : n ≤ length w.callbacks
  row : CallbackRow
  found : find (has_number n) kept ≡ Some row
  idle : is_operating row.status ≡ false

completed_is : (w : World) (entry : Entry) (kept : List CallbackRow) (staff : List WorkerRow) (n : ℕ) → IsRising 1 (length w.callbacks + 1) w.callbacks → Move w entry kept staff → is_among n (completed_by entry) ≡ true → IsCompleted w kept n
completed_is w entry kept staff n rising (Operate m) among = of_step m.how m.callback m.found m.callbacks (ap (is_among n) (sym (ap (λ (d : Deed). d.completed) m.tells)) ∙ among)
  where
    of_step : (how : IoStep) (c : CallbackRow) → find (has_number c.number) w.callbacks ≡ Some c → kept ≡ replaced (operated how c) w.callbacks → is_among n (completed_of c.number how) ≡ true → IsCompleted w kept n
    of_step Issue c found same among = absurd (false_true among)
    of_step GiveUp c found same among = absurd (false_true among)
    of_step (Complete error bytes) c found same among =
        let is : c.number ≡ n = eqb-true c.number n (sym (or_false (c.number == n)) ∙ among) in
        let bounds = found_bounds c.number 1 (length w.callbacks + 1) c w.callbacks rising found in
        record {
          past = omega (arith, is, bounds.1);
          row = operated (Complete error bytes) c;
          found = ap (find (has_number n)) same ∙ ap (λ k. find (has_number k) (replaced (operated (Complete error bytes) c) w.callbacks)) (sym is) ∙ find_replaced (operated (Complete error bytes) c) c w.callbacks found;
          idle = refl;
        }
completed_is w entry kept staff n rising (Stay m) among = absurd (false_true (ap (is_among n) (sym (ap (λ (d : Deed). d.completed) m.tells)) ∙ among))
completed_is w entry kept staff n rising (Mark m) among = absurd (false_true (ap (is_among n) (sym (ap (λ (d : Deed). d.completed) m.tells)) ∙ among))
completed_is w entry kept staff n rising (Attach m) among = absurd (false_true (ap (is_among n) (sym (ap (λ (d : Deed). d.completed) m.tells)) ∙ among))
completed_is w entry kept staff n rising (Detach m) among = absurd (false_true (ap (is_among n) (sym (ap (λ (d : Deed). d.completed) m.tells)) ∙ among))
completed_is w entry kept staff n rising (Take m) among = absurd (false_true (ap (is_among n) (sym (ap (λ (d : Deed). d.completed) m.tells)) ∙ among))
completed_is w entry kept staff n rising (Return m) among = absurd (false_true (ap (is_among n) (sym (ap (λ (d : Deed). d.completed) m.tells)) ∙ among))
completed_is w entry kept staff n rising (Amend m) among = absurd (false_true (ap (is_among n) (sym (ap (λ (d : Deed). d.completed) m.tells)) ∙ among))
completed_is w entry kept staff n rising (Cancel m) among = absurd (false_true (ap (is_among n) (sym (ap (λ (d : Deed). d.completed) m.tells)) ∙ among))

-- what may be taken could be before, or its operation completes, or it is made
data IsTold (before : List Entry) (x : Entry) (n : ℕ) : Type 0 where
  Old : is_among n (numbers_ready before) ≡ true → IsTold before x n
  Completed : is_among n (completed_by x) ≡ true → IsTold before x n
  New : is_among n (queued_new x) ≡ true → IsTold before x n

is_told : (before : List Entry) (x : Entry) (n : ℕ) → is_among n (numbers_ready (before ++ x ∷ [])) ≡ true → IsTold before x n
is_told before x n e = of_entry (among_split n (numbers_ready before) (ready_by x) (ap (is_among n) (sym longer) ∙ e))
  where
    longer : numbers_ready (before ++ x ∷ []) ≡ numbers_ready before ++ ready_by x
    longer = flat_map-append ready_by before (x ∷ []) ∙ ap (λ t. numbers_ready before ++ t) (append-nil (ready_by x))

    of_call : (is_among n (completed_by x) ≡ true) ⊎ (is_among n (queued_new x) ≡ true) → IsTold before x n
    of_call (inl completes) = Completed completes
    of_call (inr new) = New new

    of_entry : (is_among n (numbers_ready before) ≡ true) ⊎ (is_among n (ready_by x) ≡ true) → IsTold before x n
    of_entry (inl old) = Old old
    of_entry (inr told) = of_call (among_split n (completed_by x) (queued_new x) told)

-- ---- one entry more

module _ (w : World) (x : Entry) (after : World) (leads : Leads (length w.callbacks + 1) w x after) where
  -- the row of a number that was made before was there before
  pub past_row : (n : ℕ) (c : CallbackRow) → n ≤ length w.callbacks → find (has_number n) after.callbacks ≡ Some c → WasRow w n c
  past_row n c past found = of_either (row_was (length w.callbacks + 1) w x after n c leads.moves found)
    where
      of_either : WasRow w n c ⊎ (find (has_number n) leads.moves.new ≡ Some c) → WasRow w n c
      of_either (inl was) = was
      of_either (inr new) = absurd (let above : length w.callbacks + 1 ≤ n = new_above (length w.callbacks + 1) n leads.moves.new c leads.moves.rows new in omega (arith, past, above))

  pub longer : length w.callbacks ≤ length after.callbacks
  longer =
      let kept : length leads.moves.kept ≡ length w.callbacks = move_as_many w x leads.moves.kept after.workers leads.moves.move in
      omega (arith, kept, ap length leads.moves.callbacks, length-append leads.moves.kept leads.moves.new)

module _ (before : List Entry) (w : World) (x : Entry) (after : World) (rising : IsRising 1 (length w.callbacks + 1) w.callbacks) (agrees : AgreesAfter before w) (ready : AreReady before w) (leads : Leads (length w.callbacks + 1) w x after) where
  pub are_ready_more : AreReady (before ++ x ∷ []) after
  are_ready_more = record { past = λ n among. past n (is_told before x n among); ready = λ n c among found. idle n c found (is_told before x n among) }
    where
      completes : (n : ℕ) → is_among n (completed_by x) ≡ true → IsCompleted w leads.moves.kept n
      completes n among = completed_is w x leads.moves.kept after.workers n rising leads.moves.move among

      past : (n : ℕ) → IsTold before x n → n ≤ length after.callbacks
      past n (Old among) = omega (arith, ready.past n among, longer w x after leads)
      past n (Completed among) = omega (arith, (completes n among).past, longer w x after leads)
      past n (New among) = made_past (before ++ x ∷ []) after n (agrees_on before w x after rising agrees leads.moves) made
        where
          made : is_among n (numbers_made (before ++ x ∷ [])) ≡ true
          made =
              ap (is_among n) (flat_map-append made_by before (x ∷ []) ∙ ap (λ t. numbers_made before ++ t) (append-nil (made_by x)))
              ∙ among_back n (numbers_made before) (made_by x) (among_back n (started_by x.answer) (queued_new x) among)

      pending_idle : (s : Status) → is_pending s ≡ true → is_operating s ≡ false
      pending_idle Pending e = refl
      pending_idle Expected e = absurd (false_true e)
      pending_idle Issued e = absurd (false_true e)
      pending_idle (Running worker associated slots) e = refl
      pending_idle Returned e = refl
      pending_idle Cancelled e = refl

      old_idle : (n : ℕ) (c : CallbackRow) → is_among n (numbers_ready before) ≡ true → WasRow w n c ⊎ (find (has_number n) leads.moves.new ≡ Some c) → is_operating c.status ≡ false
      old_idle n c among (inl was) = not_true (is_operating c.status) (is_operating was.old.status) was.follows.operating (ready.ready n was.old among was.found)
      old_idle n c among (inr new) =
          let above : length w.callbacks + 1 ≤ n = new_above (length w.callbacks + 1) n leads.moves.new c leads.moves.rows new in
          absurd (omega (arith, above, ready.past n among))

      new_idle : (n : ℕ) (c : CallbackRow) → is_among n (queued_new x) ≡ true → WasRow w n c ⊎ (find (has_number n) leads.moves.new ≡ Some c) → is_operating c.status ≡ false
      new_idle n c among (inl was) =
          let above : length w.callbacks + 1 ≤ n = waiting_above (length w.callbacks + 1) n leads.moves.new leads.moves.rows (ap (is_among n) (sym leads.moves.queued) ∙ among) in
          let below = found_bounds n 1 (length w.callbacks + 1) was.old w.callbacks rising was.found in
          absurd (omega (arith, above, below.1))
      new_idle n c among (inr new) = pending_idle c.status (waiting_pends (length w.callbacks + 1) n leads.moves.new c leads.moves.rows new (ap (is_among n) (sym leads.moves.queued) ∙ among))

      idle : (n : ℕ) (c : CallbackRow) → find (has_number n) after.callbacks ≡ Some c → IsTold before x n → is_operating c.status ≡ false
      idle n c found (Old among) = old_idle n c among (row_was (length w.callbacks + 1) w x after n c leads.moves found)
      idle n c found (New among) = new_idle n c among (row_was (length w.callbacks + 1) w x after n c leads.moves found)
      idle n c found (Completed among) =
          let done : IsCompleted w leads.moves.kept n = completes n among in
          let both_found : Some done.row ≡ Some c = sym (ap (find (has_number n)) leads.moves.callbacks ∙ find_front n leads.moves.kept leads.moves.new done.row done.found) ∙ found in
          let same : done.row ≡ c = cc in
          ap (λ (r : CallbackRow). is_operating r.status) (sym same) ∙ done.idle

-- ---- the law's words

module _ {X : Type 0} (p : X → Bool) where
  -- a first place that passes is within the list
  passes_within : (xs : List X) → list_any p xs ≡ true → is_some (position p xs) ≡ true
  passes_within xs e = ap (λ b. is_some (cond b (Some (position_or_len p xs)) None)) (lt-ltb (position_or_len p xs) (length xs) (before_end xs e))
    where
      before_end : (ys : List X) → list_any p ys ≡ true → prefix_len (λ x. not (p x)) ys < length ys
      before_end [] h = absurd (false_true h)
      before_end (y ∷ ys) h =
          elim (p y) as (λ b. (b || list_any p ys) ≡ true → cond (not b) (1 + prefix_len (λ x. not (p x)) ys) 0 < length (y ∷ ys)) [
            | true ↦ λ _. omega arith
            | false ↦ λ rest. omega (arith, before_end ys rest)
          ] h

  -- and where there is one, one passes
  within_passes : (xs : List X) → is_some (position p xs) ≡ true → list_any p xs ≡ true
  within_passes xs e = of_any (list_any p xs) refl
    where
      at_end : (ys : List X) → list_any p ys ≡ false → prefix_len (λ x. not (p x)) ys ≡ length ys
      at_end [] h = refl
      at_end (y ∷ ys) h =
          elim (p y) as (λ b. (b || list_any p ys) ≡ false → cond (not b) (1 + prefix_len (λ x. not (p x)) ys) 0 ≡ length (y ∷ ys)) [
            | true ↦ λ none. absurd (false_true (sym none))
            | false ↦ λ none. omega (arith, at_end ys none)
          ] h

      found : (b : Bool) → ltb (position_or_len p xs) (length xs) ≡ b → is_some (cond b (Some (position_or_len p xs)) None) ≡ true → position_or_len p xs < length xs
      found true is h = ltb-true (position_or_len p xs) (length xs) is
      found false is h = absurd (false_true h)

      of_any : (b : Bool) → list_any p xs ≡ b → list_any p xs ≡ true
      of_any true is = is
      of_any false is = absurd (omega (arith, at_end xs is, found (ltb (position_or_len p xs) (length xs)) refl e))

-- what passes a test within lists does in one of them
any_within : {X Y : Type 0} (test : Y → Bool) (f : X → List Y) (xs : List X) → list_any test (flat_map f xs) ≡ list_any (λ x. list_any test (f x)) xs
any_within test f [] = refl
any_within test f (x ∷ xs) = list_any-append test (f x) (flat_map f xs) ∙ ap (λ b. list_any test (f x) || b) (any_within test f xs)

any_more : {X : Type 0} (p q : X → Bool) → ((x : X) → p x ≡ true → q x ≡ true) → (xs : List X) → list_any p xs ≡ true → list_any q xs ≡ true
any_more p q h [] e = e
any_more p q h (x ∷ xs) e =
    elim (p x) as (λ b. p x ≡ b → (b || list_any p xs) ≡ true → list_any q (x ∷ xs) ≡ true) [
      | true ↦ λ is _. ap (λ b. b || list_any q xs) (h x is)
      | false ↦ λ _ rest. ap (λ b. q x || b) (any_more p q h xs rest) ∙ or_true (q x)
    ] refl e

-- the place of a number that entries tell
place_among : (f : Entry → List ℕ) (n : ℕ) (history : List Entry) → is_some (position (λ entry. is_among n (f entry)) history) ≡ true → is_among n (flat_map f history) ≡ true
place_among f n history e = any_within (λ m. m == n) f history ∙ within_passes (λ entry. is_among n (f entry)) history e

among_place : (f : Entry → List ℕ) (n : ℕ) (history : List Entry) → is_among n (flat_map f history) ≡ true → is_some (position (λ entry. is_among n (f entry)) history) ≡ true
among_place f n history e = passes_within (λ entry. is_among n (f entry)) history (sym (any_within (λ m. m == n) f history) ∙ e)

pub born_among : (n : ℕ) (history : List Entry) → is_some (born history n) ≡ true → is_among n (numbers_made history) ≡ true
born_among n history e = place_among made_by n history e

-- what is made and never started is queued
made_queued : (n : ℕ) (history : List Entry) → is_among n (numbers_started history) ≡ false → is_among n (numbers_made history) ≡ true → is_among n (numbers_ready history) ≡ true
made_queued n [] none made = made
made_queued n (x ∷ rest) none made = of_made (λ later. made_queued n rest apart.1 later) (among_split n (made_by x) (numbers_made rest) made)
  where
    apart : (is_among n (started_by x.answer) ≡ false) × (is_among n (numbers_started rest) ≡ false)
    apart = neither (is_among n (started_by x.answer)) (is_among n (numbers_started rest)) (sym (list_any-append (λ m. m == n) (started_by x.answer) (numbers_started rest)) ∙ none)

    of_new : (is_among n (started_by x.answer) ≡ true) ⊎ (is_among n (queued_new x) ≡ true) → is_among n (numbers_ready (x ∷ rest)) ≡ true
    of_new (inl starts) = absurd (false_true (sym apart.0 ∙ starts))
    of_new (inr new) = among_front n (ready_by x) (numbers_ready rest) (among_back n (completed_by x) (queued_new x) new)

    of_made : (is_among n (numbers_made rest) ≡ true → is_among n (numbers_ready rest) ≡ true) → (is_among n (made_by x) ≡ true) ⊎ (is_among n (numbers_made rest) ≡ true) → is_among n (numbers_ready (x ∷ rest)) ≡ true
    of_made queued (inl here) = of_new (among_split n (started_by x.answer) (queued_new x) here)
    of_made queued (inr later) = among_back n (ready_by x) (numbers_ready rest) (queued later)

-- what is ready by the law is what may be taken
pub ready_among : (n : ℕ) (history : List Entry) → is_some (ready history n) ≡ true → is_among n (numbers_ready history) ≡ true
ready_among n history e = of_started (is_among n (numbers_started history)) refl e
  where
    of_started : (b : Bool) → is_among n (numbers_started history) ≡ b → is_some (cond b (completed history n) (born history n)) ≡ true → is_among n (numbers_ready history) ≡ true
    of_started true is there =
        any_within (λ m. m == n) ready_by history
        ∙ any_more (λ x. is_among n (completed_by x)) (λ x. is_among n (ready_by x)) (λ x completes. among_front n (completed_by x) (queued_new x) completes) history
        (within_passes (λ x. is_among n (completed_by x)) history there)
    of_started false is there = made_queued n history is (born_among n history there)

-- ---- what is pending is ready

abbrev is_start : Happening → Bool
is_start Starts = true
is_start _ = false

abbrev is_end : Happening → Bool
is_end (Completes error bytes) = true
is_end _ = false

starts_start : (n : ℕ) (numbers : List ℕ) → is_among n numbers ≡ true → list_any is_start (starts n numbers) ≡ true
starts_start n [] e = e
starts_start n (m ∷ numbers) e =
    elim (m == n) as (λ b. (b || is_among n numbers) ≡ true → list_any is_start (map (λ k. Starts) (cond b (m ∷ filter (λ k. k == n) numbers) (filter (λ k. k == n) numbers))) ≡ true) [
      | true ↦ λ _. refl
      | false ↦ λ rest. starts_start n numbers rest
    ] e

starts_endless : (n : ℕ) (numbers : List ℕ) → list_any is_end (starts n numbers) ≡ false
starts_endless n [] = refl
starts_endless n (m ∷ numbers) =
    elim (m == n) as (λ b. list_any is_end (map (λ k. Starts) (cond b (m ∷ filter (λ k. k == n) numbers) (filter (λ k. k == n) numbers))) ≡ false) [ true ↦ starts_endless n numbers | false ↦ starts_endless n numbers ]

-- an operation that starts does so in the entries that tell of it
has_start : (n : ℕ) (history : List Entry) → is_among n (numbers_started history) ≡ true → list_any is_start (happenings n history) ≡ true
has_start n history e =
    any_within is_start (happening n) history
    ∙ any_more (λ x. is_among n (started_by x.answer)) (λ x. list_any is_start (happening n x))
    (λ x starts_here. list_any-append is_start (starts n (started_by x.answer)) (happens_to n (event_by x)) ∙ ap (λ b. b || list_any is_start (happens_to n (event_by x))) (starts_start n (started_by x.answer) starts_here))
    history (sym (any_within (λ m. m == n) (λ (x : Entry). started_by x.answer) history) ∙ e)

-- and one that completes does so by the call of one of them
has_end : (n : ℕ) (history : List Entry) → list_any is_end (happenings n history) ≡ true → list_any (λ x. is_among n (completed_by x)) history ≡ true
has_end n history e = any_more (λ x. list_any is_end (happening n x)) (λ x. is_among n (completed_by x)) ends history (sym (any_within is_end (happening n) history) ∙ e)
  where
    endless : (number : ℕ) (what : Happening) → is_end what ≡ false → list_any is_end (happens_to n (event number what)) ≡ false
    endless number what none = elim (number == n) as (λ b. list_any is_end (cond b (what ∷ []) []) ≡ false) [ true ↦ ap (λ b. b || false) none | false ↦ refl ]

    of_number : (number error bytes : ℕ) → list_any is_end (happens_to n (event number (Completes error bytes))) ≡ true → is_among n (number ∷ []) ≡ true
    of_number number error bytes h =
        elim (number == n) as (λ b. list_any is_end (cond b (Completes error bytes ∷ []) []) ≡ true → (b || false) ≡ true) [ true ↦ λ _. refl | false ↦ λ none. none ] h

    of_call : (call : Call) (a : Answer) → list_any is_end (happens_to n (completion call a)) ≡ true → is_among n (completed_call call a) ≡ true
    of_call (CompleteIo callback error bytes) a h = of_number callback error bytes h
    of_call (CompleteNext object error bytes) (Queued first count) h = of_number first error bytes h
    of_call _ _ h = absurd (false_true h)

    of_answer : (a : Answer) (call : Call) → list_any is_end (happens_to n (event_of a call)) ≡ true → is_among n (cond (is_refusal a) [] (completed_call call a)) ≡ true
    of_answer (Operation callback) call h = absurd (false_true (sym (endless callback Issues refl) ∙ h))
    of_answer (answer.Cancelled callback) call h = absurd (false_true (sym (endless callback GivesUp refl) ∙ h))
    of_answer (Taken callback object routine context result) call h = absurd (false_true (sym (endless callback (Runs result) refl) ∙ h))
    of_answer (Refused refusal) call h = absurd (false_true h)
    of_answer a call h = of_call call a h

    ends : (x : Entry) → list_any is_end (happening n x) ≡ true → is_among n (completed_by x) ≡ true
    ends x h =
        of_answer x.answer x.call
        (ap (λ b. b || list_any is_end (happens_to n (event_by x))) (sym (starts_endless n (started_by x.answer)))
        ∙ sym (list_any-append is_end (starts n (started_by x.answer)) (happens_to n (event_by x))) ∙ h)

module _ (before : List Entry) (w : World) (rising : IsRising 1 (length w.callbacks + 1) w.callbacks) (agrees : AgreesAfter before w) (ways : AreOnTheirWay before w) where
  pending_ready : (n : ℕ) (c : CallbackRow) → find (has_number n) w.callbacks ≡ Some c → is_pending c.status ≡ true → is_some (ready before n) ≡ true
  pending_ready n c found waits = of_started (is_among n (numbers_started before)) refl
    where
      completes : IsReady c.result (happenings n before) → is_among n (numbers_started before) ≡ true → is_some (completed before n) ≡ true
      completes (Plainly plain none) starts_once = absurd (false_true (sym (ap (list_any is_start) none) ∙ has_start n before starts_once))
      completes (Done error bytes is way) _ = passes_within (λ x. is_among n (completed_by x)) before (has_end n before (ap (list_any is_end) way))

      is_ready : (s : Status) → is_pending s ≡ true → CameTo s c.result (happenings n before) → IsReady c.result (happenings n before)
      is_ready Pending _ way = way
      is_ready Expected e way = absurd (false_true e)
      is_ready Issued e way = absurd (false_true e)
      is_ready (Running worker associated slots) e way = absurd (false_true e)
      is_ready Returned e way = absurd (false_true e)
      is_ready Cancelled e way = absurd (false_true e)

      of_started : (b : Bool) → is_among n (numbers_started before) ≡ b → is_some (ready before n) ≡ true
      of_started true is =
          ap (λ b. is_some (cond b (completed before n) (born before n))) is
          ∙ completes (is_ready c.status waits (subst (λ o. Came o (happenings n before)) found (ways n))) is
      of_started false is =
          let bounds = found_bounds n 1 (length w.callbacks + 1) c w.callbacks rising found in
          ap (λ b. is_some (cond b (completed before n) (born before n))) is
          ∙ among_place made_by n before (ap (is_among n) agrees.in_order ∙ among_range n 1 (length w.callbacks) bounds.0 (omega (arith, bounds.1)))

  pub takes_ready : (entry : Entry) (after : World) → Moves (length w.callbacks + 1) w entry after → TakesReady before entry
  takes_ready entry after moves n e = let taken = taken_waits w entry moves.kept after.workers n moves.move e in pending_ready n taken.0 taken.1 taken.2
