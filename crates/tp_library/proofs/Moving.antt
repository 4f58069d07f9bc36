-- What becomes of the callbacks and the workers that there are, by the moves of the machine.
use Rattle.std.proofs.Common.{◌≡◌, ℕ, zero, suc, ◌-◌, true, false, not, ◌&&◌, ◌||◌, ◌==◌, List, [], ◌∷◌, map, Option, Some, None, refl, sym, ap, ap₂, ◌∙◌, subst, arith, find, eqb-true, slice_get, slice_set}
use Rattle.std.proofs.lemmas.List.{map-set}
use Rattle.tp_base.specs.declared.answers.Answer.{Answer}
use Rattle.tp_base.specs.declared.answers.Answer.TheVariants as answer
use Rattle.tp_base.specs.declared.answers.Entry.{Entry}
use Rattle.tp_base.specs.declared.ids.ObjectId.{ObjectId}
use Rattle.tp_base.specs.declared.ids.Who.{Who}
use Rattle.tp_base.specs.declared.ids.Who.TheVariants.{Worker}
use Rattle.tp_base.specs.declared.plans.ActionWords.{ActionWords}
use Rattle.tp_base.specs.declared.plans.IoStep.{IoStep}
use Rattle.tp_base.specs.declared.plans.IoStep.TheVariants.{Complete, GiveUp, Issue}
use Rattle.tp_base.specs.declared.rows.CallbackRow.{CallbackRow}
use Rattle.tp_base.specs.declared.rows.Status.{Status}
use Rattle.tp_base.specs.declared.rows.Status.TheVariants.{Running}
use Rattle.tp_base.specs.declared.rows.WorkerRow.{WorkerRow}
use Rattle.tp_model.specs.Changes.{operated, replaced, returned, status_after, status_before, taken}
use Rattle.tp_model.specs.Counts.{has_number, is_running, numbered}
use Rattle.tp_model.specs.Laws.Entries.{cancelled_by, cancelled_count, Run, run_by, taken_by, words_by}
use Rattle.tp_model.specs.Laws.Once.{is_left}
use Rattle.tp_model.specs.Support.Moves.{asked_slots, Amend, Amends, Attach, Cancel, Cancels, Detach, IsFree, Mark, Move, Operate, Operates, put, Return, Returns, run_of, Stay, Take, Takes}
use Rattle.tp_model.specs.Support.Sound.{IsRising}
use Rattle.tp_model.specs.Support.Told.{Deed, deed_of}
use Rattle.tp_model.specs.World.{unattached, World}
use Rattle.tp_model.proofs.Callbacks.{pending_not_running}
use Rattle.tp_model.proofs.Lists.{find_passes}
use Rattle.tp_model.proofs.Refusals.{numbered_at, numbered_some}
use Rattle.tp_library.specs.Counted.{is_left_in, is_run_in, left_in, runs_in, runs_of, runs_told}
use Rattle.tp_library.specs.Shelves.{library_at, library_of, Shelf}
use Rattle.tp_library.proofs.Counting.{as_one, count_replaced, count_same, pending_left, runs_uncut, uncut}
use Rattle.tp_library.proofs.Effects.{IsGroupCut, IsReturned, IsSame, IsTaken}

pub some_same : {X : Type 0} (x y : X) → Some x ≡ Some y → x ≡ y
some_same x y e = cc

-- ---- rows in the place of others

-- the row found for a number has it
pub found_number : (n : ℕ) (c : CallbackRow) (cs : List CallbackRow) → find (has_number n) cs ≡ Some c → c.number ≡ n
found_number n c cs found = eqb-true c.number n (find_passes (has_number n) c cs found)

-- a row of the same number, object and status is counted as the one before it
module _ (w : World) (next_number : ℕ) (rises : IsRising 1 next_number w.callbacks) (new old : CallbackRow) (found : find (has_number new.number) w.callbacks ≡ Some old) (object : new.object ≡ old.object) where
  same_library : (s : Shelf) → library_of s new ≡ library_of s old
  same_library s = ap₂ (λ n (o : ObjectId). library_at s n o.0) (sym (found_number new.number old w.callbacks found)) object

  alike : is_left new.status ≡ is_left old.status → is_running new.status ≡ is_running old.status → IsSame w (replaced new w.callbacks)
  alike left runs = record {
    left = λ s library. count_same (is_left_in s library) new old 1 next_number w.callbacks rises found (ap₂ (λ b n. b && (n == library)) left (same_library s));
    runs = λ s library. count_same (is_run_in s library) new old 1 next_number w.callbacks rises found (ap₂ (λ b n. b && (n == library)) runs (same_library s));
  }

-- ---- workers

pub slice_get_map : {X Y : Type 0} (f : X → Y) (xs : List X) (i : ℕ) (x : X) → slice_get xs i ≡ Some x → slice_get (map f xs) i ≡ Some (f x)
slice_get_map f [] i x e = absurd cc
slice_get_map f (y ∷ xs) zero x e = let same : y ≡ x = cc in ap (λ z. Some (f z)) same
slice_get_map f (y ∷ xs) (suc i) x e = slice_get_map f xs i x e

-- what stands at a place, put there, changes nothing
pub set_same : {X : Type 0} (xs : List X) (i : ℕ) (x : X) → slice_get xs i ≡ Some x → slice_set xs i x ≡ xs
set_same [] i x e = refl
set_same (y ∷ xs) zero x e = let same : y ≡ x = cc in ap (λ z. z ∷ xs) (sym same)
set_same (y ∷ xs) (suc i) x e = ap (λ zs. y ∷ zs) (set_same xs i x e)

runs_quiet : (who : Who) (runs : List (Option ℕ)) (a : Answer) → taken_by a ≡ None → words_by a ≡ None → runs_told who a runs ≡ runs
runs_quiet who runs (answer.Taken callback object routine context result) taken words = absurd cc
runs_quiet who runs (answer.Returned section mutex semaphore event first count) taken words = absurd cc
runs_quiet who runs _ taken words = refl

runs_taken : (worker number : ℕ) (runs : List (Option ℕ)) (a : Answer) → taken_by a ≡ Some number → runs_told (Worker worker) a runs ≡ slice_set runs (worker - 1) (Some number)
runs_taken worker number runs (answer.Taken callback object routine context result) taken = let same : callback ≡ number = cc in ap (λ n. slice_set runs (worker - 1) (Some n)) same
runs_taken worker number runs _ taken = absurd cc

runs_returned : (worker : ℕ) (words : ActionWords) (runs : List (Option ℕ)) (a : Answer) → words_by a ≡ Some words → runs_told (Worker worker) a runs ≡ slice_set runs (worker - 1) None
runs_returned worker words runs (answer.Returned section mutex semaphore event first count) told = refl
runs_returned worker words runs _ told = absurd cc

-- ---- what is neither taken nor returns nor is given up

before_left : (how : IoStep) (s : Status) → s ≡ status_before how → (is_left s ≡ true) × (is_running s ≡ false)
before_left Issue s e = (ap is_left e, ap is_running e)
before_left GiveUp s e = (ap is_left e, ap is_running e)
before_left (Complete error bytes) s e = (ap is_left e, ap is_running e)

module _ (w : World) (next_number : ℕ) (rises : IsRising 1 next_number w.callbacks) (entry : Entry) (kept : List CallbackRow) (staff : List WorkerRow) where
  same_as : kept ≡ w.callbacks → IsSame w kept
  same_as same = record { left = λ s library. ap (left_in s library) same; runs = λ s library. ap (runs_in s library) same }

  same_by : (cs : List CallbackRow) → kept ≡ cs → IsSame w cs → IsSame w kept
  same_by cs is = subst (IsSame w) (sym is)

  operate_same : Operates w entry kept staff → cancelled_by entry.answer ≡ None → IsSame w kept
  operate_same m none = of_step m.how refl
    where
      of_step : (how : IoStep) → m.how ≡ how → IsSame w kept
      of_step Issue is = same_by (replaced (operated m.how m.callback) w.callbacks) m.callbacks
          (alike w next_number rises (operated m.how m.callback) m.callback m.found refl
          (ap (λ how. is_left (status_after how)) is ∙ sym (before_left m.how m.callback.status m.status).0)
          (ap (λ how. is_running (status_after how)) is ∙ sym (before_left m.how m.callback.status m.status).1))
      of_step (Complete error bytes) is = same_by (replaced (operated m.how m.callback) w.callbacks) m.callbacks
          (alike w next_number rises (operated m.how m.callback) m.callback m.found refl
          (ap (λ how. is_left (status_after how)) is ∙ sym (before_left m.how m.callback.status m.status).0)
          (ap (λ how. is_running (status_after how)) is ∙ sym (before_left m.how m.callback.status m.status).1))
      of_step GiveUp is =
          let named : cancelled_by entry.answer ≡ Some m.callback.number = ap (λ (d : Deed). d.cancelled) (m.tells ∙ ap (deed_of m.callback.number) is) in
          absurd (let no : None ≡ Some m.callback.number = sym none ∙ named in cc)

  amend_same : Amends w entry kept staff → IsSame w kept
  amend_same m =
      let now : CallbackRow = record m.callback { status = Running m.worker (m.associated && not m.loose) (asked_slots m.asks m.slots) } in
      same_by (replaced now w.callbacks) m.callbacks (alike w next_number rises now m.callback m.found refl (sym (ap is_left m.running)) (sym (ap is_running m.running)))

  uncounted : IsSame w kept → IsGroupCut w (cancelled_count entry.answer) kept
  uncounted same = record { left = λ _. same.left; runs = same.runs }

  cancel_cut : Cancels w entry kept staff → IsGroupCut w (cancelled_count entry.answer) kept
  cancel_cut m =
      record {
        left = λ none. (same_as (m.callbacks ∙ uncut m.test w.callbacks (sym (ap (λ (d : Deed). d.count) m.tells) ∙ none))).left;
        runs = λ s library. ap (runs_in s library) m.callbacks ∙ runs_uncut s library m.test m.waits w.callbacks;
      }

  -- nothing that runs becomes anything else, and what may still run is cancelled at most
  pub move_cut : Move w entry kept staff → taken_by entry.answer ≡ None → words_by entry.answer ≡ None → cancelled_by entry.answer ≡ None → IsGroupCut w (cancelled_count entry.answer) kept
  move_cut (Stay m) taken words given = uncounted (same_as m.callbacks)
  move_cut (Mark m) taken words given = uncounted (same_by (replaced m.new w.callbacks) m.callbacks (alike w next_number rises m.new m.old m.found m.object (ap is_left m.status) (ap is_running m.status)))
  move_cut (Attach m) taken words given = uncounted (same_as m.callbacks)
  move_cut (Detach m) taken words given = uncounted (same_as m.callbacks)
  move_cut (Take m) taken words given = absurd (let no : None ≡ Some m.callback.number = sym taken ∙ ap (λ (d : Deed). d.taken) m.tells in cc)
  move_cut (Return m) taken words given = absurd (let no : None ≡ Some m.words = sym words ∙ ap (λ (d : Deed). d.words) m.tells in cc)
  move_cut (Amend m) taken words given = uncounted (amend_same m)
  move_cut (Operate m) taken words given = uncounted (operate_same m given)
  move_cut (Cancel m) taken words given = cancel_cut m

  quiet_workers : staff ≡ w.workers → taken_by entry.answer ≡ None → words_by entry.answer ≡ None → map (λ (r : WorkerRow). r.callback) staff ≡ runs_told entry.who entry.answer (runs_of w)
  quiet_workers same taken words = ap (map (λ (r : WorkerRow). r.callback)) same ∙ sym (runs_quiet entry.who (runs_of w) entry.answer taken words)

  free_workers : (worker : ℕ) (now : WorkerRow) (actor : IsFree w entry worker) → now.callback ≡ None → staff ≡ put w worker now → taken_by entry.answer ≡ None → words_by entry.answer ≡ None
      → map (λ (r : WorkerRow). r.callback) staff ≡ runs_told entry.who entry.answer (runs_of w)
  free_workers worker now actor idle is taken words =
      let at : slice_get (runs_of w) (worker - 1) ≡ Some actor.row.callback = slice_get_map (λ (r : WorkerRow). r.callback) w.workers (worker - 1) actor.row (numbered_some w.workers worker actor.row actor.stands).0 in
      ap (map (λ (r : WorkerRow). r.callback)) is
      ∙ map-set (λ (r : WorkerRow). r.callback) w.workers (worker - 1) now
      ∙ set_same (runs_of w) (worker - 1) now.callback (at ∙ ap (λ c. Some c) (actor.free ∙ sym idle))
      ∙ sym (runs_quiet entry.who (runs_of w) entry.answer taken words)

  -- ---- a callback is taken, or returns

  untaken : {run : Run} → Some run ≡ None → ⊥
  untaken e = cc

  unreturned : {words : ActionWords} → Some words ≡ None → ⊥
  unreturned e = cc

  run_at : (worker : ℕ) (row : WorkerRow) → numbered w.workers worker ≡ Some row → numbered (runs_of w) worker ≡ Some row.callback
  run_at worker row stands =
      let at = numbered_some w.workers worker row stands in
      numbered_at (runs_of w) worker row.callback at.1 (slice_get_map (λ (r : WorkerRow). r.callback) w.workers (worker - 1) row at.0)

  take_taken : Takes w entry kept staff → (number : ℕ) (object : ObjectId) → run_by entry.answer ≡ Some (record { number = number; object = object }) → IsTaken w entry.who number object kept
  take_taken m number object told = of_run (some_same (run_of m.callback) (record { number = number; object = object }) (sym (ap (λ (d : Deed). d.run) m.tells) ∙ told))
    where
      of_run : run_of m.callback ≡ record { number = number; object = object } → IsTaken w entry.who number object kept
      of_run same =
          let number_is : m.callback.number ≡ number = ap (λ (r : Run). r.number) same in
          let object_is : m.callback.object ≡ object = ap (λ (r : Run). r.object) same in
          let lib : (s : Shelf) → library_of s m.callback ≡ library_at s number object.0 = λ s. ap₂ (λ n (o : ObjectId). library_at s n o.0) number_is object_is in
          record {
            worker = m.worker;
            callback = m.callback;
            by = m.actor.by;
            idle = run_at m.worker m.actor.row m.actor.stands ∙ ap (λ c. Some c) m.actor.free;
            found = ap (λ n. find (has_number n) w.callbacks) (sym number_is) ∙ m.found;
            of = object_is;
            left = λ s library. omega (
              arith,
              count_replaced (is_left_in s library) (taken m.callback m.worker) m.callback 1 next_number w.callbacks rises m.found,
              ap (left_in s library) m.callbacks,
              ap (λ b. as_one (b && (library_of s m.callback == library))) (pending_left m.callback.status m.waits),
              ap (λ n. as_one (n == library)) (lib s),
            );
            runs = λ s library. omega (
              arith,
              count_replaced (is_run_in s library) (taken m.callback m.worker) m.callback 1 next_number w.callbacks rises m.found,
              ap (runs_in s library) m.callbacks,
              ap (λ b. as_one (b && (library_of s m.callback == library))) (pending_not_running m.callback.status m.waits),
              ap (λ n. as_one (n == library)) (lib s),
            );
          }

  return_returned : Returns w entry kept staff → IsReturned w entry.who kept
  return_returned m = record {
    worker = m.worker;
    callback = m.callback;
    by = m.by;
    busy = run_at m.worker m.row m.stands ∙ ap (λ c. Some c) m.busy;
    found = m.found;
    left = λ s library. omega (
      arith,
      count_replaced (is_left_in s library) (returned m.callback) m.callback 1 next_number w.callbacks rises m.found,
      ap (left_in s library) m.callbacks,
      ap (λ (x : Status). as_one (is_left x && (library_of s m.callback == library))) m.running,
    );
    runs = λ s library. omega (
      arith,
      count_replaced (is_run_in s library) (returned m.callback) m.callback 1 next_number w.callbacks rises m.found,
      ap (runs_in s library) m.callbacks,
      ap (λ (x : Status). as_one (is_running x && (library_of s m.callback == library))) m.running,
    );
  }

  pub move_taken : Move w entry kept staff → (number : ℕ) (object : ObjectId) → run_by entry.answer ≡ Some (record { number = number; object = object }) → IsTaken w entry.who number object kept
  move_taken (Take m) number object told = take_taken m number object told
  move_taken (Stay m) number object told = absurd (untaken (sym told ∙ ap (λ (d : Deed). d.run) m.tells))
  move_taken (Mark m) number object told = absurd (untaken (sym told ∙ ap (λ (d : Deed). d.run) m.tells))
  move_taken (Attach m) number object told = absurd (untaken (sym told ∙ ap (λ (d : Deed). d.run) m.tells))
  move_taken (Detach m) number object told = absurd (untaken (sym told ∙ ap (λ (d : Deed). d.run) m.tells))
  move_taken (Return m) number object told = absurd (untaken (sym told ∙ ap (λ (d : Deed). d.run) m.tells))
  move_taken (Amend m) number object told = absurd (untaken (sym told ∙ ap (λ (d : Deed). d.run) m.tells))
  move_taken (Operate m) number object told = absurd (untaken (sym told ∙ ap (λ (d : Deed). d.run) m.tells))
  move_taken (Cancel m) number object told = absurd (untaken (sym told ∙ ap (λ (d : Deed). d.run) m.tells))

  pub move_returned : Move w entry kept staff → (words : ActionWords) → words_by entry.answer ≡ Some words → IsReturned w entry.who kept
  move_returned (Return m) words told = return_returned m
  move_returned (Stay m) words told = absurd (unreturned (sym told ∙ ap (λ (d : Deed). d.words) m.tells))
  move_returned (Mark m) words told = absurd (unreturned (sym told ∙ ap (λ (d : Deed). d.words) m.tells))
  move_returned (Attach m) words told = absurd (unreturned (sym told ∙ ap (λ (d : Deed). d.words) m.tells))
  move_returned (Detach m) words told = absurd (unreturned (sym told ∙ ap (λ (d : Deed). d.words) m.tells))
  move_returned (Take m) words told = absurd (unreturned (sym told ∙ ap (λ (d : Deed). d.words) m.tells))
  move_returned (Amend m) words told = absurd (unreturned (sym told ∙ ap (λ (d : Deed). d.words) m.tells))
  move_returned (Operate m) words told = absurd (unreturned (sym told ∙ ap (λ (d : Deed). d.words) m.tells))
  move_returned (Cancel m) words told = absurd (unreturned (sym told ∙ ap (λ (d : Deed). d.words) m.tells))

  -- ---- workers

  pub move_workers : Move w entry kept staff → map (λ (r : WorkerRow). r.callback) staff ≡ runs_told entry.who entry.answer (runs_of w)
  move_workers (Stay m) = quiet_workers m.workers (ap (λ (d : Deed). d.taken) m.tells) (ap (λ (d : Deed). d.words) m.tells)
  move_workers (Mark m) = quiet_workers m.workers (ap (λ (d : Deed). d.taken) m.tells) (ap (λ (d : Deed). d.words) m.tells)
  move_workers (Amend m) = quiet_workers m.workers (ap (λ (d : Deed). d.taken) m.tells) (ap (λ (d : Deed). d.words) m.tells)
  move_workers (Operate m) = quiet_workers m.workers (ap (λ (d : Deed). d.taken) m.tells) (ap (λ (d : Deed). d.words) m.tells)
  move_workers (Cancel m) = quiet_workers m.workers (ap (λ (d : Deed). d.taken) m.tells) (ap (λ (d : Deed). d.words) m.tells)
  move_workers (Attach m) = free_workers m.worker (record { pool = Some m.pool; callback = None; persistent = false }) m.actor refl m.workers (ap (λ (d : Deed). d.taken) m.tells) (ap (λ (d : Deed). d.words) m.tells)
  move_workers (Detach m) = free_workers m.worker unattached m.actor refl m.workers (ap (λ (d : Deed). d.taken) m.tells) (ap (λ (d : Deed). d.words) m.tells)
  move_workers (Take m) =
      ap (map (λ (r : WorkerRow). r.callback)) m.workers
      ∙ map-set (λ (r : WorkerRow). r.callback) w.workers (m.worker - 1) (record { pool = Some m.pool; callback = Some m.callback.number; persistent = m.actor.row.persistent || m.callback.persistent })
      ∙ sym (ap (λ (x : Who). runs_told x entry.answer (runs_of w)) m.actor.by ∙ runs_taken m.worker m.callback.number (runs_of w) entry.answer (ap (λ (d : Deed). d.taken) m.tells))
  move_workers (Return m) =
      ap (map (λ (r : WorkerRow). r.callback)) m.workers
      ∙ map-set (λ (r : WorkerRow). r.callback) w.workers (m.worker - 1) (record m.row { callback = None })
      ∙ sym (ap (λ (x : Who). runs_told x entry.answer (runs_of w)) m.by ∙ runs_returned m.worker m.words (runs_of w) entry.answer (ap (λ (d : Deed). d.words) m.tells))
