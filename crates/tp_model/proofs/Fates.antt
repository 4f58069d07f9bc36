-- What becomes of one callback, whatever the move.
use Rattle.std.proofs.Common.{◌≡◌, ◌&&◌, not, ℕ, Bool, true, false, cond, List, Option, Some, None, refl, sym, ap, ◌∙◌, find, ◌⊎◌, inl, inr, eqb-true, subst}
use Rattle.tp_model.specs.Support.Told.{Deed}
use Rattle.tp_model.specs.Laws.Entries.{Run, run_by}
use Rattle.tp_base.specs.declared.answers.Entry.{Entry}
use Rattle.tp_base.specs.declared.rows.Status.{Status}
use Rattle.tp_base.specs.declared.rows.Status.TheVariants.{Expected, Issued, Pending, Running, Returned, Cancelled}
use Rattle.tp_base.specs.declared.plans.IoStep.{IoStep}
use Rattle.tp_base.specs.declared.plans.IoStep.TheVariants.{Issue, GiveUp, Complete}
use Rattle.tp_base.specs.declared.rows.CallbackRow.{CallbackRow}
use Rattle.tp_base.specs.declared.rows.WorkerRow.{WorkerRow}
use Rattle.tp_base.specs.declared.rows.WaitTarget.{WaitTarget}
use Rattle.tp_base.specs.declared.rows.WaitTarget.TheVariants.{Object, Group, Kernel}
use Rattle.tp_model.specs.World.{World}
use Rattle.tp_model.specs.Counts.{has_number, is_operating, is_pending}
use Rattle.tp_model.specs.Changes.{replaced, taken, returned, status_before, operated}
use Rattle.tp_model.specs.Waits.{is_held_for, cancelled, cancel_where}
use Rattle.tp_model.specs.Laws.Once.{is_left}
use Rattle.tp_model.specs.Support.Moves.{asked_slots, Move, Stay, Mark, Attach, Detach, Take, Return, Amend, Operate, Cancel, Moves, run_of}
use Rattle.tp_model.proofs.Cancelling.{cancelled_found, find_cancelled, cancelled_if}
use Rattle.tp_model.proofs.Callbacks.{find_replaced, find_replaced_other}
use Rattle.tp_model.proofs.Places.{find_either}
use Rattle.tp_model.proofs.Refusals.{both, false_true}

-- what never comes back: being held, being left to be run, having an operation
pub record Follows (old new : Status) : Type 0 where
  pub held : (target : WaitTarget) → is_held_for target new ≡ true → is_held_for target old ≡ true
  pub left : is_left new ≡ true → is_left old ≡ true
  pub operating : is_operating new ≡ true → is_operating old ≡ true

pub follows_same : (old new : Status) → new ≡ old → Follows old new
follows_same old new same =
    record {
      held = λ target h. ap (is_held_for target) (sym same) ∙ h;
      left = λ h. ap is_left (sym same) ∙ h;
      operating = λ h. ap is_operating (sym same) ∙ h;
    }

pub pending_held : (target : WaitTarget) (s : Status) → is_pending s ≡ true → is_held_for target s ≡ true
pending_held target Pending e = refl
pending_held target Expected e = refl
pending_held target Issued e = refl
pending_held target (Running worker associated slots) e = absurd (false_true e)
pending_held target Returned e = absurd (false_true e)
pending_held target Cancelled e = absurd (false_true e)

pub pending_left : (s : Status) → is_pending s ≡ true → is_left s ≡ true
pending_left Pending e = refl
pending_left Expected e = refl
pending_left Issued e = refl
pending_left (Running worker associated slots) e = absurd (false_true e)
pending_left Returned e = absurd (false_true e)
pending_left Cancelled e = absurd (false_true e)

-- of what is over nothing holds any more
follows_over : (old new : Status) → ((target : WaitTarget) → is_held_for target new ≡ false) → is_left new ≡ false → is_operating new ≡ false → Follows old new
follows_over old new unheld unleft idle =
    record {
      held = λ target h. absurd (false_true (sym (unheld target) ∙ h));
      left = λ h. absurd (false_true (sym unleft ∙ h));
      operating = λ h. absurd (false_true (sym idle ∙ h));
    }

-- an operation that goes a step was announced or under way
pub before_operates : (how : IoStep) (s : Status) → s ≡ status_before how → is_operating s ≡ true
before_operates Issue s e = ap is_operating e
before_operates GiveUp s e = ap is_operating e
before_operates (Complete error bytes) s e = ap is_operating e

operating_held : (target : WaitTarget) (s : Status) → is_operating s ≡ true → is_held_for target s ≡ true
operating_held target Expected e = refl
operating_held target Issued e = refl
operating_held target Pending e = refl
operating_held target (Running worker associated slots) e = absurd (false_true e)
operating_held target Returned e = absurd (false_true e)
operating_held target Cancelled e = absurd (false_true e)

pub operating_left : (s : Status) → is_operating s ≡ true → is_left s ≡ true
operating_left Expected e = refl
operating_left Issued e = refl
operating_left Pending e = refl
operating_left (Running worker associated slots) e = absurd (false_true e)
operating_left Returned e = absurd (false_true e)
operating_left Cancelled e = absurd (false_true e)

follows_operating : (old new : Status) → is_operating old ≡ true → Follows old new
follows_operating old new e = record { held = λ target _. operating_held target old e; left = λ _. operating_left old e; operating = λ _. e }

-- the row of a number was there before, with the same object, group and pool, and as persistent
pub record WasRow (w : World) (n : ℕ) (c : CallbackRow) : Type 0 where
  pub old : CallbackRow
  pub found : find (has_number n) w.callbacks ≡ Some old
  pub object : c.object ≡ old.object
  pub group : c.group ≡ old.group
  pub pool : c.pool ≡ old.pool
  pub persistent : c.persistent ≡ old.persistent
  pub follows : Follows old.status c.status

same_found : (w : World) (n : ℕ) (cs : List CallbackRow) (c : CallbackRow) → cs ≡ w.callbacks → find (has_number n) cs ≡ Some c → WasRow w n c
same_found w n cs c same found = record { old = c; found = ap (find (has_number n)) (sym same) ∙ found; object = refl; group = refl; pool = refl; persistent = refl; follows = follows_same c.status c.status refl }

replaced_found : (w : World) (n : ℕ) (r old c : CallbackRow) → find (has_number r.number) w.callbacks ≡ Some old → r.object ≡ old.object → r.group ≡ old.group → r.pool ≡ old.pool → r.persistent ≡ old.persistent → Follows old.status r.status
    → find (has_number n) (replaced r w.callbacks) ≡ Some c → WasRow w n c
replaced_found w n r old c was object group pool persistent follows found =
    elim (has_number n r) as (λ b. has_number n r ≡ b → WasRow w n c) [
      | true ↦ λ e.
          let is : r.number ≡ n = eqb-true r.number n e in
          let same : r ≡ c = one_row (ap (λ k. find (has_number k) (replaced r w.callbacks)) is ∙ found) in
          record {
            old = old;
            found = ap (λ k. find (has_number k) w.callbacks) (sym is) ∙ was;
            object = ap (λ (x : CallbackRow). x.object) (sym same) ∙ object;
            group = ap (λ (x : CallbackRow). x.group) (sym same) ∙ group;
            pool = ap (λ (x : CallbackRow). x.pool) (sym same) ∙ pool;
            persistent = ap (λ (x : CallbackRow). x.persistent) (sym same) ∙ persistent;
            follows = subst (λ (x : CallbackRow). Follows old.status x.status) same follows;
          }
      | false ↦ λ e. same_found w n w.callbacks c refl (sym (find_replaced_other r n w.callbacks e) ∙ found)
    ] refl
  where
    one_row : find (has_number r.number) (replaced r w.callbacks) ≡ Some c → r ≡ c
    one_row there = let both_found : Some r ≡ Some c = sym (find_replaced r old w.callbacks was) ∙ there in cc

cancelled_was : (w : World) (n : ℕ) (test : CallbackRow → Bool) (c : CallbackRow) → find (has_number n) (cancel_where test w.callbacks) ≡ Some c → WasRow w n c
cancelled_was w n test c found = of_row (find (has_number n) w.callbacks) refl (sym (find_cancelled test w.callbacks n) ∙ found)
  where
    of_test : (d : CallbackRow) (b : Bool) → find (has_number n) w.callbacks ≡ Some d → cond b (cancelled d) d ≡ c → WasRow w n c
    of_test d true was is =
        subst (WasRow w n) is (record { old = d; found = was; object = refl; group = refl; pool = refl; persistent = refl; follows = follows_over d.status Cancelled (λ target. refl) refl refl })
    of_test d false was is = subst (WasRow w n) is (record { old = d; found = was; object = refl; group = refl; pool = refl; persistent = refl; follows = follows_same d.status d.status refl })

    of_row : (o : Option CallbackRow) → find (has_number n) w.callbacks ≡ o → cancelled_found test o ≡ Some c → WasRow w n c
    of_row None was e = absurd cc
    of_row (Some d) was e = of_test d (test d) was cc

pub move_was : (w : World) (entry : Entry) (kept : List CallbackRow) (staff : List WorkerRow) (n : ℕ) (c : CallbackRow) → Move w entry kept staff → find (has_number n) kept ≡ Some c → WasRow w n c
move_was w entry kept staff n c (Stay m) found = same_found w n kept c m.callbacks found
move_was w entry kept staff n c (Mark m) found = replaced_found w n m.new m.old c m.found m.object m.group m.pool m.persistent (follows_same m.old.status m.new.status m.status) (ap (find (has_number n)) (sym m.callbacks) ∙ found)
move_was w entry kept staff n c (Attach m) found = same_found w n kept c m.callbacks found
move_was w entry kept staff n c (Detach m) found = same_found w n kept c m.callbacks found
move_was w entry kept staff n c (Take m) found =
    replaced_found w n (taken m.callback m.worker) m.callback c m.found refl refl refl refl
    (record { held = λ target _. pending_held target m.callback.status m.waits; left = λ h. absurd (false_true h); operating = λ h. absurd (false_true h) })
    (ap (find (has_number n)) (sym m.callbacks) ∙ found)
move_was w entry kept staff n c (Return m) found =
    replaced_found w n (returned m.callback) m.callback c m.found refl refl refl refl (follows_over m.callback.status Returned (λ target. refl) refl refl) (ap (find (has_number n)) (sym m.callbacks) ∙ found)
move_was w entry kept staff n c (Amend m) found =
    replaced_found w n (record m.callback { status = Running m.worker (m.associated && not m.loose) (asked_slots m.asks m.slots) }) m.callback c m.found refl refl refl refl
    (record { held = λ target h. still_held target h; left = λ h. absurd (false_true h); operating = λ h. absurd (false_true h) })
    (ap (find (has_number n)) (sym m.callbacks) ∙ found)
  where
    still_held : (target : WaitTarget) → is_held_for target (Running m.worker (m.associated && not m.loose) (asked_slots m.asks m.slots)) ≡ true → is_held_for target m.callback.status ≡ true
    still_held (Object object) h = ap (is_held_for (Object object)) m.running ∙ (both m.associated (not m.loose) h).0
    still_held (Group group) h = ap (is_held_for (Group group)) m.running
    still_held (Kernel kernel) h = absurd (false_true h)
move_was w entry kept staff n c (Operate m) found =
    replaced_found w n (operated m.how m.callback) m.callback c m.found refl refl refl refl
    (follows_operating m.callback.status (operated m.how m.callback).status (before_operates m.how m.callback.status m.status)) (ap (find (has_number n)) (sym m.callbacks) ∙ found)
move_was w entry kept staff n c (Cancel m) found = cancelled_was w n m.test c (ap (find (has_number n)) (sym m.callbacks) ∙ found)

-- and what was not there is new
pub row_was : (next_number : ℕ) (w : World) (entry : Entry) (after : World) (n : ℕ) (c : CallbackRow) → (moves : Moves next_number w entry after) → find (has_number n) after.callbacks ≡ Some c → WasRow w n c ⊎ (find (has_number n) moves.new ≡ Some c)
row_was next_number w entry after n c moves found = of_either (find_either n moves.kept moves.new c (ap (find (has_number n)) (sym moves.callbacks) ∙ found))
  where
    of_either : (find (has_number n) moves.kept ≡ Some c) ⊎ (find (has_number n) moves.new ≡ Some c) → WasRow w n c ⊎ (find (has_number n) moves.new ≡ Some c)
    of_either (inl old) = inl (move_was w entry moves.kept after.workers n c moves.move old)
    of_either (inr new) = inr new

-- the row that is taken
pub record TakenFrom (w : World) (run : Run) : Type 0 where
  pub row : CallbackRow
  pub found : find (has_number run.number) w.callbacks ≡ Some row
  pub object : row.object ≡ run.object
  pub waits : is_pending row.status ≡ true

pub taken_from : (w : World) (entry : Entry) (kept : List CallbackRow) (staff : List WorkerRow) (run : Run) → Move w entry kept staff → run_by entry.answer ≡ Some run → TakenFrom w run
taken_from w entry kept staff run (Take m) e =
    let told : Some run ≡ Some (run_of m.callback) = sym e ∙ ap (λ (d : Deed). d.run) m.tells in
    let is : run_of m.callback ≡ run = cc in
    subst (TakenFrom w) is (record { row = m.callback; found = m.found; object = refl; waits = m.waits })
taken_from w entry kept staff run (Stay m) e = absurd (let h = sym (ap (λ (d : Deed). d.run) m.tells) ∙ e in cc)
taken_from w entry kept staff run (Mark m) e = absurd (let h = sym (ap (λ (d : Deed). d.run) m.tells) ∙ e in cc)
taken_from w entry kept staff run (Attach m) e = absurd (let h = sym (ap (λ (d : Deed). d.run) m.tells) ∙ e in cc)
taken_from w entry kept staff run (Detach m) e = absurd (let h = sym (ap (λ (d : Deed). d.run) m.tells) ∙ e in cc)
taken_from w entry kept staff run (Return m) e = absurd (let h = sym (ap (λ (d : Deed). d.run) m.tells) ∙ e in cc)
taken_from w entry kept staff run (Amend m) e = absurd (let h = sym (ap (λ (d : Deed). d.run) m.tells) ∙ e in cc)
taken_from w entry kept staff run (Operate m) e = absurd (let h = sym (ap (λ (d : Deed). d.run) m.tells) ∙ e in cc)
taken_from w entry kept staff run (Cancel m) e = absurd (let h = sym (ap (λ (d : Deed). d.run) m.tells) ∙ e in cc)

-- the row of a number goes on, with the same object
pub record GoesOn (cs : List CallbackRow) (n : ℕ) (c : CallbackRow) : Type 0 where
  pub new : CallbackRow
  pub found : find (has_number n) cs ≡ Some new
  pub object : new.object ≡ c.object

same_goes_on : (cs ds : List CallbackRow) (n : ℕ) (c : CallbackRow) → ds ≡ cs → find (has_number n) cs ≡ Some c → GoesOn ds n c
same_goes_on cs ds n c same found = record { new = c; found = ap (find (has_number n)) same ∙ found; object = refl }

replaced_goes_on : (cs ds : List CallbackRow) (r old : CallbackRow) (n : ℕ) (c : CallbackRow) → ds ≡ replaced r cs → find (has_number r.number) cs ≡ Some old → r.object ≡ old.object → find (has_number n) cs ≡ Some c → GoesOn ds n c
replaced_goes_on cs ds r old n c is was object found =
    elim (has_number n r) as (λ b. has_number n r ≡ b → GoesOn ds n c) [
      | true ↦ λ e.
          let number : r.number ≡ n = eqb-true r.number n e in
          let same : old ≡ c = one_row (ap (λ k. find (has_number k) cs) number) in
          record { new = r; found = ap (find (has_number n)) is ∙ ap (λ k. find (has_number k) (replaced r cs)) (sym number) ∙ find_replaced r old cs was; object = object ∙ ap (λ (x : CallbackRow). x.object) same }
      | false ↦ λ e. record { new = c; found = ap (find (has_number n)) is ∙ find_replaced_other r n cs e ∙ found; object = refl }
    ] refl
  where
    one_row : find (has_number r.number) cs ≡ find (has_number n) cs → old ≡ c
    one_row h = let both_found : Some old ≡ Some c = sym was ∙ h ∙ found in cc

pub move_goes_on : (w : World) (entry : Entry) (kept : List CallbackRow) (staff : List WorkerRow) (n : ℕ) (c : CallbackRow) → Move w entry kept staff → find (has_number n) w.callbacks ≡ Some c → GoesOn kept n c
move_goes_on w entry kept staff n c (Stay m) found = same_goes_on w.callbacks kept n c m.callbacks found
move_goes_on w entry kept staff n c (Attach m) found = same_goes_on w.callbacks kept n c m.callbacks found
move_goes_on w entry kept staff n c (Detach m) found = same_goes_on w.callbacks kept n c m.callbacks found
move_goes_on w entry kept staff n c (Mark m) found = replaced_goes_on w.callbacks kept m.new m.old n c m.callbacks m.found m.object found
move_goes_on w entry kept staff n c (Take m) found = replaced_goes_on w.callbacks kept (taken m.callback m.worker) m.callback n c m.callbacks m.found refl found
move_goes_on w entry kept staff n c (Return m) found = replaced_goes_on w.callbacks kept (returned m.callback) m.callback n c m.callbacks m.found refl found
move_goes_on w entry kept staff n c (Amend m) found = replaced_goes_on w.callbacks kept (record m.callback { status = Running m.worker (m.associated && not m.loose) (asked_slots m.asks m.slots) }) m.callback n c m.callbacks m.found refl found
move_goes_on w entry kept staff n c (Operate m) found =
    replaced_goes_on w.callbacks kept (operated m.how m.callback) m.callback n c m.callbacks m.found refl found
move_goes_on w entry kept staff n c (Cancel m) found =
    record {
      new = cancelled_if m.test c;
      found = ap (find (has_number n)) m.callbacks ∙ find_cancelled m.test w.callbacks n ∙ ap (cancelled_found m.test) found;
      object = elim (m.test c) as (λ b. (cond b (cancelled c) c).object ≡ c.object) [ true ↦ refl | false ↦ refl ];
    }
