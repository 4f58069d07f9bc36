-- Each change moves callbacks and workers as its entry tells.
use Rattle.std.proofs.Common.{◌≡◌, option_map, ℕ, Bool, true, false, cond, ◌==◌, List, [], ◌∷◌, ◌++◌, length, slice_get, Option, Some, None, refl, sym, ap, ◌∙◌, subst, eqb-true, not, ◌&&◌, ◌+◌, ◌≤◌, arith, ◌≢◌}
use Rattle.tp_base.specs.declared.rows.CallbackRow.{CallbackRow}
use Rattle.tp_base.specs.declared.ids.Who.TheVariants.{Worker}
use Rattle.std.proofs.lemmas.List.{append-nil}
use Rattle.tp_base.specs.declared.rows.Slots.{Slots}
use Rattle.tp_base.specs.declared.plans.Mark.{Mark}
use Rattle.tp_base.specs.declared.plans.Mark.TheVariants.{Long, Loose, Asks}
use Rattle.tp_base.specs.Actions.{filled, word, is_unasked}
use Rattle.tp_model.specs.Actions.{asking, slots_of, returning}
use Rattle.tp_model.proofs.Performing.{returning_of, returning_counted}
use Rattle.tp_model.proofs.Actions.{words_unasked}
use Rattle.tp_base.specs.declared.plans.PoolChange.{PoolChange}
use Rattle.tp_base.specs.declared.plans.Busy.{Busy}
use Rattle.tp_base.specs.declared.plans.Change.{Change}
use Rattle.tp_base.specs.declared.plans.Change.TheVariants as change
use Rattle.tp_base.specs.declared.answers.Entry.{Entry}
use Rattle.tp_base.specs.declared.rows.ObjectRow.{ObjectRow}
use Rattle.tp_base.specs.declared.rows.WaitTarget.TheVariants.{Group}
use Rattle.tp_base.specs.declared.rows.PoolRow.{PoolRow}
use Rattle.tp_base.specs.declared.rows.Status.{Status}
use Rattle.tp_base.specs.declared.rows.Status.TheVariants.{Running, Pending}
use Rattle.std.specs.List.{range_with_len, AllByRecursion}
use Rattle.tp_base.specs.declared.ids.ObjectId.{ObjectId}
use Rattle.tp_model.specs.Sources.{Job, firing, sources_of, rows_of}
use Rattle.tp_model.specs.World.{World}
use Rattle.tp_model.specs.Counts.{is_expected, is_pending, numbered}
use Rattle.tp_model.specs.Changes.{returned, change_pool, pool_after, with_pool, marked, changed, replaced, loosened, release_object, end_wait}
use Rattle.tp_model.specs.Waits.{target_of, is_cancelled_by}
use Rattle.tp_model.specs.Support.Sound.{IsSound, is_wait_at, may_be_armed, count_armed, is_standing}
use Rattle.tp_model.specs.Support.Allowed.{IsAllowed, IsMadeBy, Runs, MayMark}
use Rattle.tp_model.specs.Laws.Entries.{made_by, queued_new, started_by, Sets, sets_by, set_on, Simple, simple_by, is_for_group}
use Rattle.tp_model.specs.Support.Told.{Told, deed_by, nothing, silent, told_by_change, told_by, simple_of}
use Rattle.tp_model.specs.Support.Moves.{Move, Stay, Mark as Marking, Attach, Detach, Take, Return, Moves, AreNew, is_new, numbers_of, Amend, Operate, Asking, IsFreeFor, asked_slots, Cancel, ArmsMove, count_rows, count_allowed}
use Rattle.tp_model.proofs.Firing.{IsFiringIn, numbers_rows, waiting_rows, expecting_rows, new_rows, fired_in, AreJobsOf, armable_stands}
use Rattle.tp_model.proofs.Arming.{armed_fewer}
use Rattle.tp_model.proofs.Counted.{count_rows_of}
use Rattle.tp_model.proofs.Cancelling.{cancelled_pending}
use Rattle.tp_model.proofs.Refusals.{false_true, and_false, and_true}
use Rattle.tp_model.specs.Groups.{is_member_at}
use Rattle.tp_model.proofs.Releasing.{armed_left}
use Rattle.tp_model.proofs.SoundSources.{fired_counted, sources_in}

none_front : (xs ys : List ℕ) → xs ++ ys ≡ [] → xs ≡ []
none_front [] ys e = refl
none_front (x ∷ xs) ys e = absurd cc

abbrev made_with : CallbackRow → Simple
made_with c = record { group = c.group; pool = c.pool; persistent = c.persistent }

-- the callbacks of jobs are of objects that aren't released
homes_rows : (objects : List ObjectRow) (next_number : ℕ) (jobs : List Job) → AreJobsOf (λ n. is_standing objects n ≡ true) jobs → AllByRecursion (λ (c : CallbackRow). c.object.0 ≢ 0 → is_standing objects c.object.0 ≡ true) (rows_of objects next_number jobs)
homes_rows objects next_number [] all = tt
homes_rows objects next_number (j ∷ js) all = ((λ _. all.0.0), homes_rows objects (next_number + 1) js all.1)

module _ (next_number : ℕ) (w : World) (entry : Entry) where
  -- a change that makes no simple callback
  unsimple : simple_by entry ≡ None → (cs : List CallbackRow) (group : ℕ) → is_for_group group (simple_by entry) ≡ true → AllByRecursion (λ (c : CallbackRow). (c.object.0 ≡ 0) × (c.group.0 ≡ group)) cs
  unsimple none cs group e = absurd (false_true (sym (ap (is_for_group group) none) ∙ e))

  unplaced : simple_by entry ≡ None → (cs : List CallbackRow) (s : Simple) → simple_by entry ≡ Some s → AllByRecursion (λ (c : CallbackRow). (c.pool ≡ s.pool) × (c.persistent ≡ s.persistent)) cs
  unplaced none cs s e = absurd (let no_simple = sym none ∙ e in cc)

  -- nothing is made
  unmade : (after : World) → made_by entry ≡ [] → queued_new entry ≡ [] → ArmsMove w entry after [] → Move w entry after.callbacks after.workers → Moves next_number w entry after
  unmade after made queued arms move =
      record { kept = after.callbacks; new = []; move = move; rows = tt; made = made; queued = queued; started = none_front (started_by entry.answer) (queued_new entry) made; callbacks = sym (append-nil after.callbacks); arms = arms; homes = tt; simples = λ group e. tt; placed = λ s e. tt }

  -- and no more is armed
  quiet : (after : World) → sets_by entry ≡ None → ((object : ℕ) → count_armed object after.armings ≤ count_armed object w.armings) → ArmsMove w entry after []
  quiet after sets fewer object wait = omega (arith, ap (λ (s : Option Sets). count_allowed (set_on object s) (count_armed object w.armings)) sets, fewer object)

  same_armed : (after : World) → sets_by entry ≡ None → after.armings ≡ w.armings → ArmsMove w entry after []
  same_armed after sets same = quiet after sets (λ object. omega (arith, ap (count_armed object) same))

  still : (after : World) → told_by entry ≡ silent → after.callbacks ≡ w.callbacks → after.workers ≡ w.workers → after.armings ≡ w.armings → Moves next_number w entry after
  still after tells callbacks workers armings =
      unmade after (ap (λ (t : Told). t.made) tells) (ap (λ (t : Told). t.queued) tells) (same_armed after (ap (λ (t : Told). t.sets) tells) armings)
      (Stay (record { tells = ap (λ (t : Told). t.deed) tells; callbacks = callbacks; workers = workers }))

  pool_moves : (pool : ℕ) (how : PoolChange) (row : Option PoolRow) → made_by entry ≡ [] → queued_new entry ≡ [] → deed_by entry ≡ nothing → sets_by entry ≡ None → Moves next_number w entry (change_pool w pool how row)
  pool_moves pool how None made queued tells sets = unmade w made queued (same_armed w sets refl) (Stay (record { tells = tells; callbacks = refl; workers = refl }))
  pool_moves pool how (Some row) made queued tells sets = unmade (with_pool w pool (pool_after how row)) made queued (same_armed (with_pool w pool (pool_after how row)) sets refl) (Stay (record { tells = tells; callbacks = refl; workers = refl }))

  -- a running callback with another status
  amends : (by : Busy) (runs : Runs w by) → entry.who ≡ Worker by.worker → (loose : Bool) (asks : Option Asking) → IsFreeFor asks runs.slots → (new : CallbackRow) → deed_by entry ≡ record nothing { loosened = loose; asked = option_map (λ (a : Asking). a.kind) asks }
      → new.status ≡ Running by.worker (runs.associated && not loose) (asked_slots asks runs.slots) → Move w entry (replaced (record by.callback { status = new.status }) w.callbacks) w.workers
  amends by runs actor loose asks free new tells is =
      Amend (record {
        worker = by.worker;
        row = record { pool = Some by.pool; callback = Some by.callback.number; persistent = by.persistent };
        callback = by.callback;
        associated = runs.associated;
        slots = runs.slots;
        loose = loose;
        asks = asks;
        by = actor;
        stands = runs.stands;
        busy = refl;
        tells = tells;
        found = runs.found;
        running = runs.running;
        free = free;
        callbacks = ap (λ s. replaced (record by.callback { status = s }) w.callbacks) is;
        workers = refl;
      })

  mark_moves : (by : Busy) (mark : Mark) → MayMark w by mark → entry.who ≡ Worker by.worker → told_by entry ≡ told_by_change next_number w (change.Mark by mark) → Moves next_number w entry (changed w (change.Mark by mark))
  mark_moves by Long may actor tells =
      unmade (changed w (change.Mark by Long)) (ap (λ (t : Told). t.made) tells) (ap (λ (t : Told). t.queued) tells) (same_armed (changed w (change.Mark by Long)) (ap (λ (t : Told). t.sets) tells) refl)
      (Marking (record { old = by.callback; new = marked Long by.callback; tells = ap (λ (t : Told). t.deed) tells; found = may.runs.found; status = refl; object = refl; group = refl; pool = refl; result = refl; persistent = refl; callbacks = refl; workers = refl }))
  mark_moves by Loose may actor tells =
      unmade (changed w (change.Mark by Loose)) (ap (λ (t : Told). t.made) tells) (ap (λ (t : Told). t.queued) tells) (same_armed (changed w (change.Mark by Loose)) (ap (λ (t : Told). t.sets) tells) refl)
      (amends by may.runs actor true None tt (record by.callback { status = loosened by.callback.status }) (ap (λ (t : Told). t.deed) tells)
      (ap loosened may.runs.running ∙ ap (λ b. Running by.worker b may.runs.slots) (sym (and_false may.runs.associated))))
  mark_moves by (Asks kind action) may actor tells =
      unmade (changed w (change.Mark by (Asks kind action))) (ap (λ (t : Told). t.made) tells) (ap (λ (t : Told). t.queued) tells) (same_armed (changed w (change.Mark by (Asks kind action))) (ap (λ (t : Told). t.sets) tells) refl)
      (amends by may.runs actor false (Some (record { kind = kind; action = action })) may.unasked (record by.callback { status = asking kind action by.callback.status }) (ap (λ (t : Told). t.deed) tells)
      (ap (asking kind action) may.runs.running ∙ ap (λ b. Running by.worker b (filled kind action may.runs.slots)) (sym (and_true may.runs.associated))))

  release_moves : (object : ObjectId) (row : Option ObjectRow) → told_by entry ≡ told_by_change next_number w (change.ReleaseObject object) → Moves next_number w entry (release_object w object row)
  release_moves object None tells =
      unmade w (ap (λ (t : Told). t.made) tells) (ap (λ (t : Told). t.queued) tells) (same_armed w (ap (λ (t : Told). t.sets) tells) refl)
      (Stay (record { tells = ap (λ (t : Told). t.deed) tells; callbacks = refl; workers = refl }))
  release_moves object (Some row) tells =
      unmade (release_object w object (Some row)) (ap (λ (t : Told). t.made) tells) (ap (λ (t : Told). t.queued) tells)
      (quiet (release_object w object (Some row)) (ap (λ (t : Told). t.sets) tells) (λ other. armed_fewer other object (sources_of w)))
      (Stay (record { tells = ap (λ (t : Told). t.deed) tells; callbacks = refl; workers = refl }))

  -- what is queued without an object is of the group that is told, and of the pool
  simple_made : (c : CallbackRow) → simple_by entry ≡ simple_of c → (group : ℕ) → is_for_group group (simple_by entry) ≡ true → (c.object.0 ≡ 0) × (c.group.0 ≡ group)
  simple_made c tells group e = of_object (c.object.0 == 0) refl
    where
      of_object : (b : Bool) → (c.object.0 == 0) ≡ b → (c.object.0 ≡ 0) × (c.group.0 ≡ group)
      of_object true is = (eqb-true c.object.0 0 is, eqb-true c.group.0 group (sym (ap (is_for_group group) (tells ∙ ap (λ b. cond b (Some (made_with c)) None) is)) ∙ e))
      of_object false is = absurd (false_true (sym (ap (is_for_group group) (tells ∙ ap (λ b. cond b (Some (made_with c)) None) is)) ∙ e))

  simple_placed : (c : CallbackRow) → simple_by entry ≡ simple_of c → (s : Simple) → simple_by entry ≡ Some s → (c.pool ≡ s.pool) × (c.persistent ≡ s.persistent)
  simple_placed c tells s e = of_object (c.object.0 == 0) (sym tells ∙ e)
    where
      of_object : (b : Bool) → cond b (Some (made_with c)) None ≡ Some s → (c.pool ≡ s.pool) × (c.persistent ≡ s.persistent)
      of_object true h = let is : made_with c ≡ s = cc in (ap (λ (x : Simple). x.pool) is, ap (λ (x : Simple). x.persistent) is)
      of_object false h = absurd cc

  pub change_moves : (ch : Change) → IsSound next_number w → IsAllowed next_number w ch → IsMadeBy w entry.who ch → told_by entry ≡ told_by_change next_number w ch → Moves next_number w entry (changed w ch)
  change_moves change.Keep s a by tells = still w tells refl refl refl
  change_moves change.CreatePool s a by tells = still (changed w change.CreatePool) tells refl refl refl
  change_moves (change.ChangePool pool how) s a by tells =
      pool_moves pool.0 how (slice_get w.pools pool.0) (ap (λ (t : Told). t.made) tells) (ap (λ (t : Told). t.queued) tells) (ap (λ (t : Told). t.deed) tells) (ap (λ (t : Told). t.sets) tells)
  change_moves (change.CreateObject row) s a by tells =
      unmade (changed w (change.CreateObject row)) (ap (λ (t : Told). t.made) tells) (ap (λ (t : Told). t.queued) tells) (same_armed (changed w (change.CreateObject row)) (ap (λ (t : Told). t.sets) tells) refl)
      (Stay (record { tells = ap (λ (t : Told). t.deed) tells; callbacks = refl; workers = refl }))
  change_moves (change.ReleaseObject object) s a by tells = release_moves object (numbered w.objects object.0) tells
  change_moves (change.QueueCallback c) s a by tells =
      let is_new_one : is_new c.status ≡ true = pending_new c.status a.pending in
      record {
        kept = w.callbacks;
        new = c ∷ [];
        move = Stay (record { tells = ap (λ (t : Told). t.deed) tells; callbacks = refl; workers = refl });
        rows = (record { numbered = a.number; unbegun = is_new_one; plain = λ _. by.1 }, tt);
        made = ap (λ (t : Told). t.made) tells ∙ ap (λ n. n ∷ []) (sym a.number);
        queued = ap (λ (t : Told). t.queued) tells ∙ ap (λ n. n ∷ []) (sym a.number) ∙ sym (ap (λ b. numbers_of (cond b (c ∷ []) [])) a.pending);
        started = ap (λ (t : Told). t.started) tells ∙ sym (ap (λ b. numbers_of (cond b (c ∷ []) [])) (pending_unexpected c.status a.pending));
        callbacks = refl;
        arms = λ object wait.
            let none : count_rows object (c ∷ []) ≡ 0 = ap (λ b. length (cond b (c ∷ []) [])) (apart object wait (c.object.0 == object) refl) in
            omega (arith, none, ap (λ (x : Option Sets). count_allowed (set_on object x) (count_armed object w.armings)) (ap (λ (t : Told). t.sets) tells));
        homes = (a.stands, tt);
        simples = λ group named. (simple_made c (ap (λ (t : Told). t.simple) tells) group named, tt);
        placed = λ made is. (simple_placed c (ap (λ (t : Told). t.simple) tells) made is, tt);
      }
    where
      apart : (object : ℕ) → is_wait_at w.objects object ≡ true → (b : Bool) → (c.object.0 == object) ≡ b → (c.object.0 == object) ≡ false
      apart object wait false is = is
      apart object wait true is = absurd (false_true (sym by.0 ∙ ap (is_wait_at w.objects) (eqb-true c.object.0 object is) ∙ wait))

      pending_new : (s : Status) → is_pending s ≡ true → is_new s ≡ true
      pending_new Pending e = refl
      pending_new _ e = absurd (false_true e)

      pending_unexpected : (s : Status) → is_pending s ≡ true → is_expected s ≡ false
      pending_unexpected Pending e = refl
      pending_unexpected _ e = absurd (false_true e)
  change_moves (change.ExpectCallback c) s a by tells =
      record {
        kept = w.callbacks;
        new = c ∷ [];
        move = Stay (record { tells = ap (λ (t : Told). t.deed) tells; callbacks = refl; workers = refl });
        rows = (record { numbered = a.number; unbegun = ap is_new a.expected; plain = λ pends. absurd (false_true (sym (ap is_pending a.expected) ∙ pends)) }, tt);
        made = ap (λ (t : Told). t.made) tells ∙ ap (λ n. n ∷ []) (sym a.number);
        queued = ap (λ (t : Told). t.queued) tells ∙ sym (ap (λ s. numbers_of (cond (is_pending s) (c ∷ []) [])) a.expected);
        started = ap (λ (t : Told). t.started) tells ∙ ap (λ n. n ∷ []) (sym a.number) ∙ sym (ap (λ s. numbers_of (cond (is_expected s) (c ∷ []) [])) a.expected);
        callbacks = refl;
        arms = λ object wait.
            let none : count_rows object (c ∷ []) ≡ 0 = ap (λ b. length (cond b (c ∷ []) [])) (apart object wait (c.object.0 == object) refl) in
            omega (arith, none, ap (λ (x : Option Sets). count_allowed (set_on object x) (count_armed object w.armings)) (ap (λ (t : Told). t.sets) tells));
        homes = ((λ _. a.stands), tt);
        simples = unsimple (ap (λ (t : Told). t.simple) tells) (c ∷ []);
        placed = unplaced (ap (λ (t : Told). t.simple) tells) (c ∷ []);
      }
    where
      apart : (object : ℕ) → is_wait_at w.objects object ≡ true → (b : Bool) → (c.object.0 == object) ≡ b → (c.object.0 == object) ≡ false
      apart object wait false is = is
      apart object wait true is = absurd (false_true (sym by ∙ ap (is_wait_at w.objects) (eqb-true c.object.0 object is) ∙ wait))
  change_moves (change.Operate c how) s a by tells =
      unmade (changed w (change.Operate c how)) (ap (λ (t : Told). t.made) tells) (ap (λ (t : Told). t.queued) tells) (same_armed (changed w (change.Operate c how)) (ap (λ (t : Told). t.sets) tells) refl)
      (Operate (record { callback = c; how = how; tells = ap (λ (t : Told). t.deed) tells; found = a.found; status = a.status; callbacks = refl; workers = refl }))
  change_moves (change.Fire trigger first count) s a by tells =
      let jobs : List Job = (firing trigger (sources_of w)).jobs in
      let told_range : range_with_len first count ≡ range_with_len first (length jobs) = ap (range_with_len first) a.counted in
      record {
        kept = w.callbacks;
        new = rows_of w.objects first jobs;
        move = Stay (record { tells = ap (λ (t : Told). t.deed) tells; callbacks = refl; workers = refl });
        rows = subst (λ n. AreNew n (rows_of w.objects first jobs)) a.number (new_rows (λ n. is_standing w.objects n ≡ true) w.objects first jobs (fired_in w trigger a.ready (sources_in next_number w s)).jobs);
        made = ap (λ (t : Told). t.made) tells ∙ told_range ∙ sym (numbers_rows w.objects first jobs);
        queued = ap (λ (t : Told). t.queued) tells ∙ told_range ∙ sym (waiting_rows w.objects first jobs);
        started = ap (λ (t : Told). t.started) tells ∙ sym (expecting_rows w.objects first jobs);
        callbacks = refl;
        arms = λ object wait.
            omega (
              arith,
              (fired_counted next_number w trigger a.ready s object wait).jobs,
              count_rows_of object w.objects first jobs,
              ap (λ (x : Option Sets). count_allowed (set_on object x) (count_armed object w.armings)) (ap (λ (t : Told). t.sets) tells),
            );
        homes = homes_rows w.objects first jobs (fired_in w trigger a.ready (sources_in next_number w s)).jobs;
        simples = unsimple (ap (λ (t : Told). t.simple) tells) (rows_of w.objects first jobs);
        placed = unplaced (ap (λ (t : Told). t.simple) tells) (rows_of w.objects first jobs);
      }
  change_moves (change.CreateKernel state) s a by tells = still (changed w (change.CreateKernel state)) tells refl refl refl
  change_moves (change.ChangeKernel kernel how) s a by tells = still (changed w (change.ChangeKernel kernel how)) tells refl refl refl
  change_moves (change.Attach worker pool) s a by tells =
      unmade (changed w (change.Attach worker pool)) (ap (λ (t : Told). t.made) tells) (ap (λ (t : Told). t.queued) tells) (same_armed (changed w (change.Attach worker pool)) (ap (λ (t : Told). t.sets) tells) refl)
      (Attach (record { worker = worker; pool = pool; actor = record { row = a.row; by = by; stands = a.stands; free = a.idle }; away = a.away; tells = ap (λ (t : Told). t.deed) tells; callbacks = refl; workers = refl }))
  change_moves (change.Detach at) s a by tells =
      unmade (changed w (change.Detach at)) (ap (λ (t : Told). t.made) tells) (ap (λ (t : Told). t.queued) tells) (same_armed (changed w (change.Detach at)) (ap (λ (t : Told). t.sets) tells) refl)
      (Detach (record {
        worker = at.worker;
        pool = at.pool;
        actor = record { row = record { pool = Some at.pool; callback = None; persistent = at.persistent }; by = by; stands = a.idles; free = refl };
        home = refl;
        let_go = a.let_go;
        tells = ap (λ (t : Told). t.deed) tells;
        callbacks = refl;
        workers = refl;
      }))
  change_moves (change.Take at c) s a by tells =
      unmade (changed w (change.Take at c)) (ap (λ (t : Told). t.made) tells) (ap (λ (t : Told). t.queued) tells) (same_armed (changed w (change.Take at c)) (ap (λ (t : Told). t.sets) tells) refl)
      (Take (record {
        worker = at.worker;
        pool = at.pool;
        callback = c;
        actor = record { row = record { pool = Some at.pool; callback = None; persistent = at.persistent }; by = by; stands = a.idles; free = refl };
        home = refl;
        tells = ap (λ (t : Told). t.deed) tells;
        found = a.found;
        waits = a.pending;
        pool_same = a.home;
        open_to = a.open_to;
        below = a.below;
        callbacks = refl;
        workers = refl;
      }))
  change_moves (change.Mark at mark) s a by tells = mark_moves at mark a by tells
  change_moves (change.Return at words first count) s a by tells =
      let of : Slots = slots_of at.callback.status in
      let jobs : List Job = (returning w words of).jobs in
      let made : IsFiringIn w.objects (returning w words of)
      = returning_of (λ n. is_standing w.objects n ≡ true) (λ n. may_be_armed w.objects n ≡ true) (λ n may. armable_stands w.objects n may) w words of (sources_in next_number w s) in
      let told_range : range_with_len first count ≡ range_with_len first (length jobs) = ap (range_with_len first) a.counted in
      record {
        kept = replaced (returned at.callback) w.callbacks;
        new = rows_of w.objects first jobs;
        move = Return (record {
          worker = at.worker;
          row = record { pool = Some at.pool; callback = Some at.callback.number; persistent = at.persistent };
          pool = at.pool;
          callback = at.callback;
          by = by;
          stands = a.runs.stands;
          busy = refl;
          home = refl;
          words = words;
          tells = ap (λ (t : Told). t.deed) tells;
          found = a.runs.found;
          associated = a.runs.associated;
          slots = a.runs.slots;
          running = a.runs.running;
          pool_same = a.runs.home;
          unasked = λ kind. ap (λ ws. is_unasked (word kind ws)) a.told ∙ words_unasked w (Worker at.worker) a.runs.slots kind;
          callbacks = refl;
          workers = refl;
        });
        rows = subst (λ n. AreNew n (rows_of w.objects first jobs)) a.number (new_rows (λ n. is_standing w.objects n ≡ true) w.objects first jobs made.jobs);
        made = ap (λ (t : Told). t.made) tells ∙ told_range ∙ sym (numbers_rows w.objects first jobs);
        queued = ap (λ (t : Told). t.queued) tells ∙ told_range ∙ sym (waiting_rows w.objects first jobs);
        started = ap (λ (t : Told). t.started) tells ∙ sym (expecting_rows w.objects first jobs);
        callbacks = refl;
        arms = λ object wait.
            omega (
              arith,
              (returning_counted object w words of (s.timeouts object wait)).jobs,
              count_rows_of object w.objects first jobs,
              ap (λ (x : Option Sets). count_allowed (set_on object x) (count_armed object w.armings)) (ap (λ (t : Told). t.sets) tells),
            );
        homes = homes_rows w.objects first jobs made.jobs;
        simples = unsimple (ap (λ (t : Told). t.simple) tells) (rows_of w.objects first jobs);
        placed = unplaced (ap (λ (t : Told). t.simple) tells) (rows_of w.objects first jobs);
      }
  change_moves (change.BeginWait who awaited cancel) s a by tells =
      let after : World = changed w (change.BeginWait who awaited cancel) in
      unmade after (ap (λ (t : Told). t.made) tells) (ap (λ (t : Told). t.queued) tells) (same_armed after (ap (λ (t : Told). t.sets) tells) refl)
      (Cancel (record { test = is_cancelled_by (target_of awaited) cancel; tells = ap (λ (t : Told). t.deed) tells; waits = cancelled_pending (target_of awaited) cancel; callbacks = refl; workers = refl }))
  change_moves change.CreateGroup s a by tells = still (changed w change.CreateGroup) tells refl refl refl
  change_moves (change.CloseGroup group) s a by tells = still (changed w (change.CloseGroup group)) tells refl refl refl
  change_moves (change.BeginClose who group cancel context notices) s a by tells =
      let after : World = changed w (change.BeginClose who group cancel context notices) in
      unmade after (ap (λ (t : Told). t.made) tells) (ap (λ (t : Told). t.queued) tells) (quiet after (ap (λ (t : Told). t.sets) tells) (λ object. armed_left (is_member_at w group.0) object w.armings))
      (Cancel (record { test = is_cancelled_by (Group group) cancel; tells = ap (λ (t : Told). t.deed) tells; waits = cancelled_pending (Group group) cancel; callbacks = refl; workers = refl }))
  change_moves (change.GiveNotice who) s a by tells =
      let after : World = changed w (change.GiveNotice who) in
      unmade after (ap (λ (t : Told). t.made) tells) (ap (λ (t : Told). t.queued) tells) (same_armed after (ap (λ (t : Told). t.sets) tells) refl)
      (Stay (record { tells = ap (λ (t : Told). t.deed) tells; callbacks = refl; workers = refl }))
  change_moves (change.EndWait who how) s a by tells =
      unmade (end_wait w who how) (ap (λ (t : Told). t.made) tells) (ap (λ (t : Told). t.queued) tells) (same_armed (end_wait w who how) (ap (λ (t : Told). t.sets) tells) refl) (Stay (record { tells = ap (λ (t : Told). t.deed) tells; callbacks = refl; workers = refl }))
  change_moves (change.Finish client) s a by tells =
      let after : World = changed w (change.Finish client) in
      unmade after (ap (λ (t : Told). t.made) tells) (ap (λ (t : Told). t.queued) tells) (same_armed after (ap (λ (t : Told). t.sets) tells) refl)
      (Stay (record { tells = ap (λ (t : Told). t.deed) tells; callbacks = refl; workers = refl }))
