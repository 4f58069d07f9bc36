-- The law Io: what the entries tell of a callback is the way on which its status has come.
use Rattle.std.proofs.Common.{◌≡◌, ℕ, ◌+◌, ◌<◌, ◌==◌, Bool, true, false, cond, not, ◌&&◌, List, [], ◌∷◌, ◌++◌, length, map, Option, Some, None, refl, sym, ap, ◌∙◌, subst, find, filter, arith, eqb-true, ne_eqb, append-nil}
use Rattle.std.proofs.lemmas.Grind.{flat_map-append}
use Rattle.tp_base.specs.declared.answers.Entry.{Entry}
use Rattle.tp_base.specs.declared.answers.TakeResult.{TakeResult}
use Rattle.tp_base.specs.declared.answers.TakeResult.TheVariants.{Io}
use Rattle.tp_base.specs.declared.plans.IoStep.{IoStep}
use Rattle.tp_base.specs.declared.plans.IoStep.TheVariants.{Issue, GiveUp, Complete}
use Rattle.tp_base.specs.declared.rows.Status.{Status}
use Rattle.tp_base.specs.declared.rows.Status.TheVariants.{Expected, Issued, Pending, Running, Returned, Cancelled}
use Rattle.tp_base.specs.declared.rows.CallbackRow.{CallbackRow}
use Rattle.tp_base.specs.declared.rows.WorkerRow.{WorkerRow}
use Rattle.tp_model.specs.World.{World}
use Rattle.tp_model.specs.Counts.{has_number, is_expected, is_pending}
use Rattle.tp_model.specs.Changes.{replaced, taken as taken_row, returned, operated, status_before}
use Rattle.tp_model.specs.Waits.{cancelled as cancelled_row}
use Rattle.tp_model.specs.Laws.Entries.{Happening, Starts, Issues, GivesUp, Completes, Runs, event_by, is_completion}
use Rattle.tp_model.specs.Laws.Io.{AreOperated, IsWay, Untaken, Plain, Started, GivenUp, Issued as IssuedWay, Completed, Taken, starts, happens_to, happening, happenings}
use Rattle.tp_model.specs.Support.Sound.{IsRising}
use Rattle.tp_model.specs.Support.Told.{Deed, happening_of}
use Rattle.tp_model.specs.Support.Moves.{asked_slots, Move, Stay, Mark, Attach, Detach, Take, Return, Amend, Operate, Cancel, Moves, AreNew, is_new, numbers_of, expecting_of}
use Rattle.tp_model.proofs.Callbacks.{find_replaced, find_replaced_other, found_bounds}
use Rattle.tp_model.proofs.Cancelling.{cancelled_found, find_cancelled}
use Rattle.tp_model.proofs.Fates.{WasRow, move_was}
use Rattle.tp_model.proofs.Places.{find_front}
use Rattle.tp_model.proofs.Refusals.{false_true}

-- ---- what a status says

-- a callback that waits for a worker has no operation and no result of one, or one that completed with its result
pub data IsReady (result : TakeResult) (h : List Happening) : Type 0 where
  Plainly : is_completion result ≡ false → h ≡ [] → IsReady result h
  Done : (error bytes : ℕ) → result ≡ Io error bytes → h ≡ Starts ∷ Issues ∷ Completes error bytes ∷ [] → IsReady result h

-- one that was taken was ready before, and one that was cancelled was ready or gave its operation up
pub record IsTaken (result : TakeResult) (h : List Happening) : Type 0 where
  pub front : List Happening
  pub ready : IsReady result front
  pub whole : h ≡ front ++ Runs result ∷ []

pub data IsDropped (h : List Happening) : Type 0 where
  Gave : h ≡ Starts ∷ GivesUp ∷ [] → IsDropped h
  Ready : (result : TakeResult) → IsReady result h → IsDropped h

abbrev pub CameTo : Status → TakeResult → List Happening → Type 0
CameTo Expected result h = h ≡ Starts ∷ []
CameTo Issued result h = h ≡ Starts ∷ Issues ∷ []
CameTo Pending result h = IsReady result h
CameTo (Running worker associated slots) result h = IsTaken result h
CameTo Returned result h = IsTaken result h
CameTo Cancelled result h = IsDropped h

abbrev pub Came : Option CallbackRow → List Happening → Type 0
Came None h = h ≡ []
Came (Some c) h = CameTo c.status c.result h

abbrev pub AreOnTheirWay : List Entry → World → Type 0
AreOnTheirWay history w = (n : ℕ) → Came (find (has_number n) w.callbacks) (happenings n history)

-- ---- a row in place of another

with_nothing : (o : Option CallbackRow) (h : List Happening) → Came o h → Came o (h ++ [])
with_nothing o h came = subst (Came o) (sym (append-nil h)) came

came_replaced : (cs : List CallbackRow) (r old : CallbackRow) (what : List Happening) (n : ℕ) (h : List Happening) → find (has_number r.number) cs ≡ Some old
    → (CameTo old.status old.result h → CameTo r.status r.result (h ++ what)) → Came (find (has_number n) cs) h → Came (find (has_number n) (replaced r cs)) (h ++ cond (r.number == n) what [])
came_replaced cs r old what n h found goes came =
    elim (has_number n r) as (λ b. has_number n r ≡ b → Came (find (has_number n) (replaced r cs)) (h ++ cond b what [])) [
      | true ↦ λ e.
          let is : r.number ≡ n = eqb-true r.number n e in
          let there : find (has_number n) cs ≡ Some old = ap (λ k. find (has_number k) cs) (sym is) ∙ found in
          subst (λ o. Came o (h ++ what)) (sym (ap (λ k. find (has_number k) (replaced r cs)) (sym is) ∙ find_replaced r old cs found)) (goes (subst (λ o. Came o h) there came))
      | false ↦ λ e. subst (λ o. Came o (h ++ [])) (sym (find_replaced_other r n cs e)) (with_nothing (find (has_number n) cs) h came)
    ] refl

-- ---- one entry more

module _ (w : World) (entry : Entry) (kept : List CallbackRow) (staff : List WorkerRow) (n : ℕ) (h : List Happening) where
  -- nothing happens to an operation
  quiet : event_by entry ≡ None → happens_to n (event_by entry) ≡ []
  quiet e = ap (happens_to n) e

  stays : event_by entry ≡ None → kept ≡ w.callbacks → Came (find (has_number n) w.callbacks) h → Came (find (has_number n) kept) (h ++ happens_to n (event_by entry))
  stays none same came =
      subst (λ l. Came (find (has_number n) kept) (h ++ l)) (sym (quiet none)) (with_nothing (find (has_number n) kept) h (subst (λ cs. Came (find (has_number n) cs) h) (sym same) came))

  put : (r old : CallbackRow) → event_by entry ≡ None → kept ≡ replaced r w.callbacks → find (has_number r.number) w.callbacks ≡ Some old → (CameTo old.status old.result h → CameTo r.status r.result h) → Came (find (has_number n) w.callbacks) h
      → Came (find (has_number n) kept) (h ++ happens_to n (event_by entry))
  put r old none same found goes came =
      subst (λ l. Came (find (has_number n) kept) (h ++ l)) (none_either (r.number == n) ∙ sym (quiet none))
      (subst (λ cs. Came (find (has_number n) cs) (h ++ cond (r.number == n) [] [])) (sym same)
      (came_replaced w.callbacks r old [] n h found (λ c. with_nothing (Some r) h (goes c)) came))
    where
      none_either : (b : Bool) → ◌≡◌ {A = List Happening} (cond b [] []) []
      none_either true = refl
      none_either false = refl

  happens : (r old : CallbackRow) (what : Happening) → event_by entry ≡ Some (record { number = r.number; what = what }) → kept ≡ replaced r w.callbacks → find (has_number r.number) w.callbacks ≡ Some old
      → (CameTo old.status old.result h → CameTo r.status r.result (h ++ what ∷ [])) → Came (find (has_number n) w.callbacks) h → Came (find (has_number n) kept) (h ++ happens_to n (event_by entry))
  happens r old what tells same found goes came =
      subst (λ e. Came (find (has_number n) kept) (h ++ happens_to n e)) (sym tells)
      (subst (λ cs. Came (find (has_number n) cs) (h ++ cond (r.number == n) (what ∷ []) [])) (sym same) (came_replaced w.callbacks r old (what ∷ []) n h found goes came))

  pending_is : (s : Status) → is_pending s ≡ true → s ≡ Pending
  pending_is Pending e = refl
  pending_is _ e = absurd (false_true e)

  move_came : Move w entry kept staff → Came (find (has_number n) w.callbacks) h → Came (find (has_number n) kept) (h ++ happens_to n (event_by entry))
  move_came (Stay m) came = stays (ap (λ (d : Deed). d.event) m.tells) m.callbacks came
  move_came (Attach m) came = stays (ap (λ (d : Deed). d.event) m.tells) m.callbacks came
  move_came (Detach m) came = stays (ap (λ (d : Deed). d.event) m.tells) m.callbacks came
  move_came (Mark m) came =
      put m.new m.old (ap (λ (d : Deed). d.event) m.tells) m.callbacks m.found
      (λ c. subst (λ s. CameTo s m.new.result h) (sym m.status) (subst (λ r. CameTo m.old.status r h) (sym m.result) c)) came
  move_came (Return m) came =
      put (returned m.callback) m.callback (ap (λ (d : Deed). d.event) m.tells) m.callbacks m.found (λ c. subst (λ s. CameTo s m.callback.result h) m.running c) came
  move_came (Amend m) came =
      put (record m.callback { status = Running m.worker (m.associated && not m.loose) (asked_slots m.asks m.slots) }) m.callback (ap (λ (d : Deed). d.event) m.tells) m.callbacks m.found
      (λ c. subst (λ s. CameTo s m.callback.result h) m.running c) came
  move_came (Take m) came =
      happens (taken_row m.callback m.worker) m.callback (Runs m.callback.result) (ap (λ (d : Deed). d.event) m.tells) m.callbacks m.found
      (λ c. record { front = h; ready = subst (λ s. CameTo s m.callback.result h) (pending_is m.callback.status m.waits) c; whole = refl }) came
  move_came (Operate m) came =
      happens (operated m.how m.callback) m.callback (happening_of m.how) (ap (λ (d : Deed). d.event) m.tells) m.callbacks m.found
      (λ c. goes m.how (subst (λ s. CameTo s m.callback.result h) m.status c)) came
    where
      goes : (how : IoStep) → CameTo (status_before how) m.callback.result h → CameTo (operated how m.callback).status (operated how m.callback).result (h ++ happening_of how ∷ [])
      goes Issue c = ap (λ l. l ++ Issues ∷ []) c
      goes GiveUp c = Gave (ap (λ l. l ++ GivesUp ∷ []) c)
      goes (Complete error bytes) c = Done error bytes refl (ap (λ l. l ++ Completes error bytes ∷ []) c)
  move_came (Cancel m) came =
      subst (λ l. Came (find (has_number n) kept) (h ++ l)) (sym (quiet (ap (λ (d : Deed). d.event) m.tells)))
      (with_nothing (find (has_number n) kept) h
      (subst (λ o. Came o h) (sym (ap (find (has_number n)) m.callbacks ∙ find_cancelled m.test w.callbacks n)) (drops (find (has_number n) w.callbacks) came)))
    where
      drops : (o : Option CallbackRow) → Came o h → Came (cancelled_found m.test o) h
      drops None c = c
      drops (Some r) c =
          elim (m.test r) as (λ b. m.test r ≡ b → Came (Some (cond b (cancelled_row r) r)) h) [
            | true ↦ λ e. Ready r.result (subst (λ s. CameTo s r.result h) (pending_is r.status (m.waits r e)) c)
            | false ↦ λ _. c
          ] refl

-- ---- callbacks that are made

-- what is made has higher numbers
starts_above : (next_number n : ℕ) (new : List CallbackRow) → n < next_number → AreNew next_number new → starts n (expecting_of new) ≡ []
starts_above next_number n [] below rows = refl
starts_above next_number n (c ∷ new) below rows =
    let rest : starts n (expecting_of new) ≡ [] = starts_above (next_number + 1) n new (omega (arith, below)) rows.1 in
    elim (is_expected c.status) as (λ b. starts n (numbers_with b) ≡ []) [
      | true ↦ ap (λ b. happened b) other ∙ rest
      | false ↦ rest
    ]
  where
    other : (c.number == n) ≡ false
    other = ne_eqb c.number n (λ is. omega (arith, is, below, rows.0.numbered))

    numbers_with : Bool → List ℕ
    numbers_with b = numbers_of (cond b (c ∷ filter (λ (x : CallbackRow). is_expected x.status) new) (filter (λ (x : CallbackRow). is_expected x.status) new))

    happened : Bool → List Happening
    happened b = map (λ m. Starts) (cond b (c.number ∷ filter (λ m. m == n) (expecting_of new)) (filter (λ m. m == n) (expecting_of new)))

new_came : (next_number n : ℕ) (new : List CallbackRow) → AreNew next_number new → Came (find (has_number n) new) (starts n (expecting_of new))
new_came next_number n [] rows = refl
new_came next_number n (c ∷ new) rows =
    elim (has_number n c) as (λ b. has_number n c ≡ b → Came (cond b (Some c) (find (has_number n) new)) (starts n (expecting_of (c ∷ new)))) [
      | true ↦ λ e.
          let is : c.number ≡ n = eqb-true c.number n e in
          own e (starts_above (next_number + 1) n new (omega (arith, is, rows.0.numbered)) rows.1) c.status refl rows.0.unbegun
      | false ↦ λ e. subst (Came (find (has_number n) new)) (sym (others e (is_expected c.status) refl)) (new_came (next_number + 1) n new rows.1)
    ] refl
  where
    numbers_with : Bool → List ℕ
    numbers_with b = numbers_of (cond b (c ∷ filter (λ (x : CallbackRow). is_expected x.status) new) (filter (λ (x : CallbackRow). is_expected x.status) new))

    happened : Bool → List Happening
    happened b = map (λ m. Starts) (cond b (c.number ∷ filter (λ m. m == n) (expecting_of new)) (filter (λ m. m == n) (expecting_of new)))

    own : has_number n c ≡ true → starts n (expecting_of new) ≡ [] → (s : Status) → c.status ≡ s → is_new c.status ≡ true → CameTo c.status c.result (starts n (expecting_of (c ∷ new)))
    own here none Expected is fresh_one =
        subst (λ s. CameTo s c.result (starts n (expecting_of (c ∷ new)))) (sym is) (ap (λ s. starts n (numbers_with (is_expected s))) is ∙ ap (λ b. happened b) here ∙ ap (λ l. Starts ∷ l) none)
    own here none Pending is fresh_one =
        subst (λ s. CameTo s c.result (starts n (expecting_of (c ∷ new)))) (sym is) (Plainly (rows.0.plain (ap is_pending is)) (ap (λ s. starts n (numbers_with (is_expected s))) is ∙ none))
    own here none Issued is fresh_one = absurd (false_true (sym (ap is_new is) ∙ fresh_one))
    own here none (Running worker associated slots) is fresh_one = absurd (false_true (sym (ap is_new is) ∙ fresh_one))
    own here none Returned is fresh_one = absurd (false_true (sym (ap is_new is) ∙ fresh_one))
    own here none Cancelled is fresh_one = absurd (false_true (sym (ap is_new is) ∙ fresh_one))

    others : has_number n c ≡ false → (b : Bool) → is_expected c.status ≡ b → starts n (expecting_of (c ∷ new)) ≡ starts n (expecting_of new)
    others other true is = ap (λ b. starts n (numbers_with b)) is ∙ ap (λ b. happened b) other
    others other false is = ap (λ b. starts n (numbers_with b)) is

-- ---- along a history

pub on_their_way_more : (before : List Entry) (w : World) (x : Entry) (after : World) → IsRising 1 (length w.callbacks + 1) w.callbacks → AreOnTheirWay before w → Moves (length w.callbacks + 1) w x after → AreOnTheirWay (before ++ x ∷ []) after
on_their_way_more before w x after rising on moves n =
    subst (Came (find (has_number n) after.callbacks)) (sym (flat_map-append (happening n) before (x ∷ []) ∙ ap (λ l. happenings n before ++ l) (append-nil (happening n x))))
    (subst (λ cs. Came (find (has_number n) cs) (happenings n before ++ happening n x)) (sym moves.callbacks)
    (subst (λ ns. Came (find (has_number n) (moves.kept ++ moves.new)) (happenings n before ++ (starts n ns ++ happens_to n (event_by x)))) (sym moves.started)
    (of_kept (find (has_number n) moves.kept) refl (move_came w x moves.kept after.workers n (happenings n before) moves.move (on n)))))
  where
    next_number : ℕ
    next_number = length w.callbacks + 1

    behind : (cs ds : List CallbackRow) → find (has_number n) cs ≡ None → find (has_number n) (cs ++ ds) ≡ find (has_number n) ds
    behind [] ds e = refl
    behind (c ∷ cs) ds e =
        elim (has_number n c) as (λ b. cond b (Some c) (find (has_number n) cs) ≡ None → cond b (Some c) (find (has_number n) (cs ++ ds)) ≡ find (has_number n) ds) [
          | true ↦ λ f. absurd cc
          | false ↦ λ f. behind cs ds f
        ] e

    none_front : (xs ys : List Happening) → xs ++ ys ≡ [] → xs ≡ []
    none_front [] ys e = refl
    none_front (a ∷ xs) ys e = absurd cc

    none_back : (xs ys : List Happening) → xs ++ ys ≡ [] → ys ≡ []
    none_back [] ys e = e
    none_back (a ∷ xs) ys e = absurd cc

    of_kept : (o : Option CallbackRow) → find (has_number n) moves.kept ≡ o → Came (find (has_number n) moves.kept) (happenings n before ++ happens_to n (event_by x))
        → Came (find (has_number n) (moves.kept ++ moves.new)) (happenings n before ++ (starts n (expecting_of moves.new) ++ happens_to n (event_by x)))
    of_kept (Some c) is came =
        let was : WasRow w n c = move_was w x moves.kept after.workers n c moves.move is in
        let below = found_bounds n 1 next_number was.old w.callbacks rising was.found in
        let none : starts n (expecting_of moves.new) ≡ [] = starts_above next_number n moves.new below.1 moves.rows in
        subst (λ l. Came (find (has_number n) (moves.kept ++ moves.new)) (happenings n before ++ (l ++ happens_to n (event_by x)))) (sym none)
        (subst (λ o. Came o (happenings n before ++ happens_to n (event_by x))) (is ∙ sym (find_front n moves.kept moves.new c is)) came)
    of_kept None is came =
        let nothing : happenings n before ++ happens_to n (event_by x) ≡ [] = subst (λ o. Came o (happenings n before ++ happens_to n (event_by x))) is came in
        subst (λ l. Came (find (has_number n) (moves.kept ++ moves.new)) (l ++ (starts n (expecting_of moves.new) ++ happens_to n (event_by x)))) (sym (none_front (happenings n before) (happens_to n (event_by x)) nothing))
        (subst (λ l. Came (find (has_number n) (moves.kept ++ moves.new)) (starts n (expecting_of moves.new) ++ l)) (sym (none_back (happenings n before) (happens_to n (event_by x)) nothing))
        (subst (Came (find (has_number n) (moves.kept ++ moves.new))) (sym (append-nil (starts n (expecting_of moves.new))))
        (subst (λ o. Came o (starts n (expecting_of moves.new))) (sym (behind moves.kept moves.new is)) (new_came next_number n moves.new moves.rows))))

-- ---- what the law says

ready_way : (result : TakeResult) (h : List Happening) → IsReady result h → IsWay h
ready_way result h (Plainly plain e) = Untaken e
ready_way result h (Done error bytes is e) = Completed error bytes e

taken_way : (result : TakeResult) (h : List Happening) → IsTaken result h → IsWay h
taken_way result h t = of_ready t.ready
  where
    of_ready : IsReady result t.front → IsWay h
    of_ready (Plainly plain e) = Plain result plain (t.whole ∙ ap (λ l. l ++ Runs result ∷ []) e)
    of_ready (Done error bytes is e) = Taken error bytes (t.whole ∙ ap (λ l. l ++ Runs result ∷ []) e ∙ ap (λ r. Starts ∷ Issues ∷ Completes error bytes ∷ Runs r ∷ []) is)

came_way : (o : Option CallbackRow) (h : List Happening) → Came o h → IsWay h
came_way None h came = Untaken came
came_way (Some c) h came = of_status c.status came
  where
    dropped : IsDropped h → IsWay h
    dropped (Gave e) = GivenUp e
    dropped (Ready result ready) = ready_way result h ready

    of_status : (s : Status) → CameTo s c.result h → IsWay h
    of_status Expected t = Started t
    of_status Issued t = IssuedWay t
    of_status Pending t = ready_way c.result h t
    of_status (Running worker associated slots) t = taken_way c.result h t
    of_status Returned t = taken_way c.result h t
    of_status Cancelled t = dropped t

pub are_operated_after : (history : List Entry) (w : World) → AreOnTheirWay history w → AreOperated history
are_operated_after history w on = record { ways = λ n. came_way (find (has_number n) w.callbacks) (happenings n history) (on n) }
