-- Each callback that was taken and has not returned is run by its worker.
use Rattle.std.proofs.Common.{◌≡◌, not, ℕ, Bool, true, false, ◌&&◌, ◌||◌, List, [], ◌∷◌, ◌++◌, Some, refl, sym, ap, ◌∙◌, subst, find, eqb-true, ap₂}
use Rattle.tp_base.specs.Actors.{is_same_actor}
use Rattle.std.proofs.lemmas.List.Folds.{list_any-append}
use Rattle.std.specs.List.{list_any}
use Rattle.tp_base.specs.declared.ids.Who.{Who}
use Rattle.tp_base.specs.declared.ids.Who.TheVariants.{Worker}
use Rattle.tp_base.specs.declared.answers.Entry.{Entry}
use Rattle.tp_base.specs.declared.rows.Slots.{Slots}
use Rattle.tp_base.specs.declared.rows.Status.TheVariants.{Running}
use Rattle.tp_base.specs.declared.rows.CallbackRow.{CallbackRow}
use Rattle.tp_base.specs.declared.rows.WorkerRow.{WorkerRow}
use Rattle.tp_model.specs.World.{World}
use Rattle.tp_model.specs.Counts.{has_number, is_running}
use Rattle.tp_model.specs.Changes.{replaced, taken as taken_row, operated, returned}
use Rattle.tp_model.specs.Actions.{no_actions}
use Rattle.tp_model.specs.Laws.Entries.{Run, run_by}
use Rattle.tp_model.specs.Laws.Covered.{returns, loosens}
use Rattle.tp_model.specs.Support.Told.{Deed}
use Rattle.tp_model.specs.Support.Moves.{asked_slots, Move, Stay, Mark, Attach, Detach, Take, Return, Amend, Operate, Cancel, Moves, run_of}
use Rattle.tp_model.proofs.Cancelling.{running_passed, find_uncancelled}
use Rattle.tp_model.proofs.Callbacks.{find_replaced, find_replaced_other, pending_not_running, before_idle}
use Rattle.tp_model.proofs.Places.{LastPlace, Here, Earlier, last_place, any_last, find_front}
use Rattle.tp_model.proofs.Refusals.{false_true, is_own_actor}

-- among these callbacks the actor is a worker that runs one, associated unless it was loosened
pub record IsRunning (cs : List CallbackRow) (who : Who) (run : Run) (loose : Bool) : Type 0 where
  pub worker : ℕ
  pub by : who ≡ Worker worker
  pub row : CallbackRow
  pub found : find (has_number run.number) cs ≡ Some row
  pub object : row.object ≡ run.object
  pub associated : Bool
  pub slots : Slots
  pub status : row.status ≡ Running worker associated slots
  pub tied : loose ≡ false → associated ≡ true

abbrev pub AreRunning : List Entry → World → Type 0
AreRunning history w =
    (earlier later : List Entry) (entry : Entry) (run : Run) → earlier ++ entry ∷ later ≡ history → run_by entry.answer ≡ Some run → list_any (returns entry.who) later ≡ false
    → IsRunning w.callbacks entry.who run (list_any (loosens entry.who) later)

-- ---- one entry more

-- the row stays as it is
goes_on : (cs ds : List CallbackRow) (who : Who) (run : Run) (loose after : Bool) (f : IsRunning cs who run loose) → (after ≡ false → loose ≡ false) → find (has_number run.number) ds ≡ Some f.row → IsRunning ds who run after
goes_on cs ds who run loose after f quiet found =
    record { worker = f.worker; by = f.by; row = f.row; found = found; object = f.object; associated = f.associated; slots = f.slots; status = f.status; tied = λ e. f.tied (quiet e) }

pub same_row : (n m : ℕ) (x y : CallbackRow) (cs : List CallbackRow) → m ≡ n → find (has_number n) cs ≡ Some x → find (has_number m) cs ≡ Some y → y ≡ x
same_row n m x y cs e fx fy = let both_found : Some y ≡ Some x = sym fy ∙ ap (λ k. find (has_number k) cs) e ∙ fx in cc

pub same_worker : (m n : ℕ) (a b : Bool) (s t : Slots) → Running m a s ≡ Running n b t → m ≡ n
same_worker m n a b s t e = cc

module _ (w : World) (entry : Entry) (kept : List CallbackRow) (staff : List WorkerRow) (who : Who) (run : Run) (loose : Bool) (f : IsRunning w.callbacks who run loose) (quiet : returns who entry ≡ false) where
  was_tied : (loose || (loosens who entry || false)) ≡ false → loose ≡ false
  was_tied e = front loose e
    where
      front : (b : Bool) → (b || (loosens who entry || false)) ≡ false → b ≡ false
      front true h = absurd (false_true (sym h))
      front false h = refl

  stays : (ds : List CallbackRow) → find (has_number run.number) ds ≡ Some f.row → IsRunning ds who run (loose || (loosens who entry || false))
  stays ds found = goes_on w.callbacks ds who run loose (loose || (loosens who entry || false)) f was_tied found

  -- a row that is put in another's place and is not the row that runs
  apart : (r : CallbackRow) → (has_number run.number r ≡ true → IsRunning (replaced r w.callbacks) who run (loose || (loosens who entry || false))) → IsRunning (replaced r w.callbacks) who run (loose || (loosens who entry || false))
  apart r here =
      elim (has_number run.number r) as (λ b. has_number run.number r ≡ b → IsRunning (replaced r w.callbacks) who run (loose || (loosens who entry || false))) [
        | true ↦ λ e. here e
        | false ↦ λ e. stays (replaced r w.callbacks) (find_replaced_other r run.number w.callbacks e ∙ f.found)
      ] refl

  kept_running : Move w entry kept staff → IsRunning kept who run (loose || (loosens who entry || false))
  kept_running (Stay m) = stays kept (ap (find (has_number run.number)) m.callbacks ∙ f.found)
  kept_running (Attach m) = stays kept (ap (find (has_number run.number)) m.callbacks ∙ f.found)
  kept_running (Detach m) = stays kept (ap (find (has_number run.number)) m.callbacks ∙ f.found)
  kept_running (Cancel m) =
      stays kept (ap (find (has_number run.number)) m.callbacks ∙ find_uncancelled m.test w.callbacks run.number f.row f.found (running_passed m.test m.waits f.row (ap is_running f.status)))
  kept_running (Mark m) =
      subst (λ cs. IsRunning cs who run (loose || (loosens who entry || false))) (sym m.callbacks)
      (apart m.new (λ e.
      let is : m.new.number ≡ run.number = eqb-true m.new.number run.number e in
      let same : m.old ≡ f.row = same_row run.number m.new.number f.row m.old w.callbacks is f.found m.found in
      record {
        worker = f.worker;
        by = f.by;
        row = m.new;
        found = ap (λ k. find (has_number k) (replaced m.new w.callbacks)) (sym is) ∙ find_replaced m.new m.old w.callbacks m.found;
        object = m.object ∙ ap (λ (x : CallbackRow). x.object) same ∙ f.object;
        associated = f.associated;
        slots = f.slots;
        status = m.status ∙ ap (λ (x : CallbackRow). x.status) same ∙ f.status;
        tied = λ h. f.tied (was_tied h);
      }))
  kept_running (Take m) =
      subst (λ cs. IsRunning cs who run (loose || (loosens who entry || false))) (sym m.callbacks)
      (apart (taken_row m.callback m.worker) (λ e.
      let is : m.callback.number ≡ run.number = eqb-true m.callback.number run.number e in
      let same : m.callback ≡ f.row = same_row run.number m.callback.number f.row m.callback w.callbacks is f.found m.found in
      absurd (false_true (sym (pending_not_running m.callback.status m.waits) ∙ ap (λ (x : CallbackRow). is_running x.status) same ∙ ap is_running f.status))))
  kept_running (Operate m) =
      subst (λ cs. IsRunning cs who run (loose || (loosens who entry || false))) (sym m.callbacks)
      (apart (operated m.how m.callback) (λ e.
      let is : m.callback.number ≡ run.number = eqb-true m.callback.number run.number e in
      let same : m.callback ≡ f.row = same_row run.number m.callback.number f.row m.callback w.callbacks is f.found m.found in
      absurd (false_true (sym (before_idle m.how m.callback.status m.status) ∙ ap (λ (x : CallbackRow). is_running x.status) same ∙ ap is_running f.status))))
  kept_running (Return m) =
      subst (λ cs. IsRunning cs who run (loose || (loosens who entry || false))) (sym m.callbacks)
      (apart (returned m.callback) (λ e.
      let is : m.callback.number ≡ run.number = eqb-true m.callback.number run.number e in
      let same : m.callback ≡ f.row = same_row run.number m.callback.number f.row m.callback w.callbacks is f.found m.found in
      let worker : m.worker ≡ f.worker = same_worker m.worker f.worker m.associated f.associated m.slots f.slots (sym m.running ∙ ap (λ (x : CallbackRow). x.status) same ∙ f.status) in
      let own : entry.who ≡ who = m.by ∙ ap (λ k. Worker k) worker ∙ sym f.by in
      absurd (false_true (sym quiet ∙ ap₂ (λ a b. a && b) (ap (λ x. is_same_actor x who) own ∙ is_own_actor who) (ap (λ (d : Deed). d.returned) m.tells)))))
  kept_running (Amend m) =
      subst (λ cs. IsRunning cs who run (loose || (loosens who entry || false))) (sym m.callbacks)
      (apart amended (λ e.
      let is : m.callback.number ≡ run.number = eqb-true m.callback.number run.number e in
      let same : m.callback ≡ f.row = same_row run.number m.callback.number f.row m.callback w.callbacks is f.found m.found in
      let was : Running f.worker f.associated f.slots ≡ Running m.worker m.associated m.slots = sym f.status ∙ sym (ap (λ (x : CallbackRow). x.status) same) ∙ m.running in
      let worker : m.worker ≡ f.worker = same_worker m.worker f.worker m.associated f.associated m.slots f.slots (sym was) in
      let tie : f.associated ≡ m.associated = cc in
      let own : entry.who ≡ who = m.by ∙ ap (λ k. Worker k) worker ∙ sym f.by in
      let loosened : loosens who entry ≡ m.loose = ap₂ (λ a b. a && b) (ap (λ x. is_same_actor x who) own ∙ is_own_actor who) (ap (λ (d : Deed). d.loosened) m.tells) in
      record {
        worker = f.worker;
        by = f.by;
        row = amended;
        found = ap (λ k. find (has_number k) (replaced amended w.callbacks)) (sym is) ∙ find_replaced amended m.callback w.callbacks m.found;
        object = ap (λ (x : CallbackRow). x.object) same ∙ f.object;
        associated = m.associated && not m.loose;
        slots = asked_slots m.asks m.slots;
        status = ap (λ k. Running k (m.associated && not m.loose) (asked_slots m.asks m.slots)) worker;
        tied = λ h. ap₂ (λ a b. a && not b) (sym tie ∙ f.tied (was_tied h)) (sym loosened ∙ not_loosened loose (loosens who entry) h);
      }))
    where
      amended : CallbackRow
      amended = record m.callback { status = Running m.worker (m.associated && not m.loose) (asked_slots m.asks m.slots) }

      not_loosened : (a b : Bool) → (a || (b || false)) ≡ false → b ≡ false
      not_loosened false false e = refl
      not_loosened false true e = absurd (false_true (sym e))
      not_loosened true b e = absurd (false_true (sym e))

-- a callback that is taken runs
taken_runs : (w : World) (entry : Entry) (kept : List CallbackRow) (staff : List WorkerRow) (run : Run) → Move w entry kept staff → run_by entry.answer ≡ Some run → IsRunning kept entry.who run false
taken_runs w entry kept staff run (Take m) e =
    let told : Some run ≡ Some (run_of m.callback) = sym e ∙ ap (λ (d : Deed). d.run) m.tells in
    let is : run_of m.callback ≡ run = cc in
    subst (λ r. IsRunning kept entry.who r false) is
    (record {
      worker = m.worker;
      by = m.actor.by;
      row = taken_row m.callback m.worker;
      found = ap (find (has_number m.callback.number)) m.callbacks ∙ find_replaced (taken_row m.callback m.worker) m.callback w.callbacks m.found;
      object = refl;
      associated = true;
      slots = no_actions;
      status = refl;
      tied = λ _. refl;
    })
taken_runs w entry kept staff run (Stay m) e = absurd (let h = sym (ap (λ (d : Deed). d.run) m.tells) ∙ e in cc)
taken_runs w entry kept staff run (Mark m) e = absurd (let h = sym (ap (λ (d : Deed). d.run) m.tells) ∙ e in cc)
taken_runs w entry kept staff run (Attach m) e = absurd (let h = sym (ap (λ (d : Deed). d.run) m.tells) ∙ e in cc)
taken_runs w entry kept staff run (Detach m) e = absurd (let h = sym (ap (λ (d : Deed). d.run) m.tells) ∙ e in cc)
taken_runs w entry kept staff run (Return m) e = absurd (let h = sym (ap (λ (d : Deed). d.run) m.tells) ∙ e in cc)
taken_runs w entry kept staff run (Amend m) e = absurd (let h = sym (ap (λ (d : Deed). d.run) m.tells) ∙ e in cc)
taken_runs w entry kept staff run (Operate m) e = absurd (let h = sym (ap (λ (d : Deed). d.run) m.tells) ∙ e in cc)
taken_runs w entry kept staff run (Cancel m) e = absurd (let h = sym (ap (λ (d : Deed). d.run) m.tells) ∙ e in cc)

pub runs_on_more : (next_number : ℕ) (before : List Entry) (w : World) (x : Entry) (after : World) → AreRunning before w → Moves next_number w x after → AreRunning (before ++ x ∷ []) after
runs_on_more next_number before w x after on moves earlier later entry run split takes quiet = of_place (last_place before x earlier entry later split)
  where
    in_after : (who : Who) (loose : Bool) → IsRunning moves.kept who run loose → IsRunning after.callbacks who run loose
    in_after who loose f =
        goes_on moves.kept after.callbacks who run loose loose f (λ e. e) (ap (find (has_number run.number)) moves.callbacks ∙ find_front run.number moves.kept moves.new f.row f.found)

    of_place : LastPlace before x earlier entry later → IsRunning after.callbacks entry.who run (list_any (loosens entry.who) later)
    of_place (Here front same none) =
        subst (λ l. IsRunning after.callbacks entry.who run (list_any (loosens entry.who) l)) (sym none)
        (subst (λ (e : Entry). IsRunning after.callbacks e.who run false) (sym same) (in_after x.who false (taken_runs w x moves.kept after.workers run moves.move (ap (λ (e : Entry). run_by e.answer) (sym same) ∙ takes))))
    of_place (Earlier rest back front) =
        let still = any_last (returns entry.who) rest x (ap (list_any (returns entry.who)) (sym back) ∙ quiet) in
        subst (IsRunning after.callbacks entry.who run) (sym (list_any-append (loosens entry.who) rest (x ∷ [])) ∙ ap (list_any (loosens entry.who)) (sym back))
        (in_after entry.who (list_any (loosens entry.who) rest || (loosens entry.who x || false))
        (kept_running w x moves.kept after.workers entry.who run (list_any (loosens entry.who) rest) (on earlier rest entry run front takes still.0) still.1 moves.move))
