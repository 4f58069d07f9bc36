-- The law Persistent: a worker that has run a persistent callback has its pool's mark until it leaves, and no other one has it.
use Rattle.std.specs.List.{list_any}
use Rattle.std.specs.Option.{option_map_or}
use Rattle.std.proofs.Common.{◌≡◌, ◌⊎◌, inl, inr, ℕ, suc, zero, ◌+◌, ◌-◌, ◌≤◌, Bool, true, false, not, ◌&&◌, ◌||◌, ◌==◌, List, [], ◌∷◌, ◌++◌, length, find, Option, Some, None, refl, sym, ap, ap₂, ◌∙◌, arith, eqb-true, eq-eqb}
use Rattle.std.proofs.lemmas.Bool.{or_cases}
use Rattle.std.proofs.lemmas.List.Folds.{list_any-append}
use Rattle.tp_base.specs.Actors.{is_same_actor}
use Rattle.tp_base.specs.declared.answers.Entry.{Entry}
use Rattle.tp_base.specs.declared.ids.PoolId.{PoolId}
use Rattle.tp_base.specs.declared.ids.Who.TheVariants.{Worker}
use Rattle.tp_base.specs.declared.limits.Limits.{Limits}
use Rattle.tp_base.specs.declared.rows.CallbackRow.{CallbackRow}
use Rattle.tp_base.specs.declared.rows.ObjectRow.{ObjectRow}
use Rattle.tp_base.specs.declared.rows.WorkerRow.{WorkerRow}
use Rattle.tp_model.specs.Conditions.{is_closed_pool}
use Rattle.tp_model.specs.Counts.{has_number, has_persistent, is_persistent_in, numbered}
use Rattle.tp_model.specs.Laws.Entries.{Creation, Run, Simple, closes_pool, completed_by, created_by, is_among, is_by, is_detached, queued_by, queued_new, run_by, simple_by}
use Rattle.tp_model.specs.Laws.Persistent.{RunsPersistent, creates_persistent, detaches, is_simple_persistent, makes_object, makes_persistent, makes_simple}
use Rattle.tp_model.specs.Support.Moves.{Amend, Attach, Cancel, Detach, Leads, Mark, Move, Operate, Return, Stay, Take, Takes, put, run_of}
use Rattle.tp_model.specs.Support.Sound.{HasObject, IsCallbackSound, IsSound}
use Rattle.tp_model.specs.Support.Told.{Deed}
use Rattle.tp_model.specs.World.{World, opening, unattached}
use Rattle.tp_model.proofs.Callbacks.{found_bounds}
use Rattle.tp_model.proofs.Fates.{WasRow, row_was}
use Rattle.tp_model.proofs.Lists.{find_all}
use Rattle.tp_model.proofs.Places.{Earlier, Here, LastPlace, any_last, last_place, no_place, waiting_above}
use Rattle.tp_model.proofs.Ready.{AreReady, among_back, among_front, numbers_ready, past_row, ready_by}
use Rattle.tp_model.proofs.Refusals.{both, false_true, is_own_actor, numbered_some, or_false, or_true, same_actor_is}
use Rattle.tp_model.proofs.Releasing.{numbered_set_other}
use Rattle.tp_model.proofs.Sole.{AreSole, any_at, mark_is_new, opening_sole, put_own, sole_more}
use Rattle.tp_model.proofs.Tied.{simple_new}

-- ---- lists of entries

-- one of a list and one element more
any_or_last : {X : Type 0} (p : X → Bool) (xs : List X) (x : X) → list_any p (xs ++ x ∷ []) ≡ true → (list_any p xs ≡ true) ⊎ (p x ≡ true)
any_or_last p xs x e = of_case (or_cases (list_any p xs) (p x || false) (sym (list_any-append p xs (x ∷ [])) ∙ e))
  where
    of_case : (list_any p xs ≡ true) ⊎ ((p x || false) ≡ true) → (list_any p xs ≡ true) ⊎ (p x ≡ true)
    of_case (inl h) = inl h
    of_case (inr h) = inr (sym (or_false (p x)) ∙ h)

pub any_front : {X : Type 0} (p : X → Bool) (xs ys : List X) → list_any p xs ≡ true → list_any p (xs ++ ys) ≡ true
any_front p xs ys e = list_any-append p xs ys ∙ ap (λ b. b || list_any p ys) e

any_two : {X : Type 0} (p q : X → Bool) (xs : List X) → list_any (λ x. p x || q x) xs ≡ true → (list_any p xs ≡ true) ⊎ (list_any q xs ≡ true)
any_two p q [] e = inl e
any_two p q (x ∷ xs) e = of_case (any_two p q xs) (or_cases (p x || q x) (list_any (λ y. p y || q y) xs) e)
  where
    of_first : (p x ≡ true) ⊎ (q x ≡ true) → ((p x || list_any p xs) ≡ true) ⊎ ((q x || list_any q xs) ≡ true)
    of_first (inl h) = inl (ap (λ b. b || list_any p xs) h)
    of_first (inr h) = inr (ap (λ b. b || list_any q xs) h)

    of_rest : (list_any p xs ≡ true) ⊎ (list_any q xs ≡ true) → ((p x || list_any p xs) ≡ true) ⊎ ((q x || list_any q xs) ≡ true)
    of_rest (inl h) = inl (ap (λ b. p x || b) h ∙ or_true (p x))
    of_rest (inr h) = inr (ap (λ b. q x || b) h ∙ or_true (q x))

    of_case : (list_any (λ y. p y || q y) xs ≡ true → (list_any p xs ≡ true) ⊎ (list_any q xs ≡ true)) → ((p x || q x) ≡ true) ⊎ (list_any (λ y. p y || q y) xs ≡ true) → ((p x || list_any p xs) ≡ true) ⊎ ((q x || list_any q xs) ≡ true)
    of_case on (inl h) = of_first (or_cases (p x) (q x) h)
    of_case on (inr h) = of_rest (on h)

-- the first entry that passes
pub record IsFirst (p : Entry → Bool) (entries : List Entry) : Type 0 where
  pub front : List Entry
  pub entry : Entry
  pub rest : List Entry
  pub split : front ++ entry ∷ rest ≡ entries
  pub none : list_any p front ≡ false
  pub passes : p entry ≡ true

pub first_any : (p : Entry → Bool) (entries : List Entry) → list_any p entries ≡ true → IsFirst p entries
first_any p [] e = absurd (false_true e)
first_any p (x ∷ xs) e = of_first (first_any p xs) (p x) refl e
  where
    of_first : (list_any p xs ≡ true → IsFirst p xs) → (b : Bool) → p x ≡ b → (b || list_any p xs) ≡ true → IsFirst p (x ∷ xs)
    of_first later true is h = record { front = []; entry = x; rest = xs; split = refl; none = refl; passes = is }
    of_first later false is h =
        let on = later h in
        record { front = x ∷ on.front; entry = on.entry; rest = on.rest; split = ap (λ l. x ∷ l) on.split; none = ap (λ b. b || list_any p on.front) is ∙ on.none; passes = on.passes }

-- ---- what stands with the mark

-- an object of a pool
pub record IsMarked (objects : List ObjectRow) (pool object : ℕ) : Type 0 where
  pub row : ObjectRow
  pub stands : numbered objects object ≡ Some row
  pub home : row.env.pool.0 ≡ pool
  pub persistent : row.env.persistent ≡ true

-- a worker of a pool
pub record IsKept (w : World) (worker pool : ℕ) : Type 0 where
  pub row : WorkerRow
  pub stands : numbered w.workers worker ≡ Some row
  pub marked : is_persistent_in pool row ≡ true

pub record ArePersistentIn (history : List Entry) (w : World) : Type 0 where
  -- objects stand as they were created, and simple callbacks as they were made
  pub objects : (pool object : ℕ) → list_any (makes_object pool object) history ≡ true → IsMarked w.objects pool object
  pub simples : (pool n : ℕ) (c : CallbackRow) → list_any (makes_simple pool n) history ≡ true → find (has_number n) w.callbacks ≡ Some c → (c.pool.0 ≡ pool) × (c.persistent ≡ true)
  -- a worker that ran such a callback and hasn't left the pool has its mark
  pub kept : (before later : List Entry) (run : Entry) (worker pool : ℕ) → before ++ run ∷ later ≡ history → RunsPersistent before run worker pool → list_any (detaches worker) later ≡ false → IsKept w worker pool
  pub sole : AreSole w.workers
  -- a pool that is closed was closed by an entry
  pub shut : (pool : ℕ) → is_closed_pool w pool ≡ true → list_any (closes_pool pool) history ≡ true

-- what is made without an object is queued
simple_queued : (pool n : ℕ) (x : Entry) → makes_simple pool n x ≡ true → is_among n (queued_new x) ≡ true
simple_queued pool n x e = of_simple (simple_by x) refl (both (is_simple_persistent pool (simple_by x)) (is_among n (queued_by x.answer)) e)
  where
    of_simple : (o : Option Simple) → simple_by x ≡ o → (is_simple_persistent pool (simple_by x) ≡ true) × (is_among n (queued_by x.answer) ≡ true) → is_among n (queued_new x) ≡ true
    of_simple None is h = absurd (false_true (sym (ap (is_simple_persistent pool) is) ∙ h.0))
    of_simple (Some s) is h =
        ap (is_among n) (simple_new s.group.0 x.call x.answer (ap (λ (o : Option Simple). option_map_or (λ (t : Simple). t.group.0 == s.group.0) o false) is ∙ eq-eqb s.group.0 s.group.0 refl)) ∙ h.1

-- a simple callback may be taken from where it is made
simples_ready : (pool n : ℕ) (history : List Entry) → list_any (makes_simple pool n) history ≡ true → is_among n (numbers_ready history) ≡ true
simples_ready pool n [] e = e
simples_ready pool n (x ∷ history) e = of_either (simples_ready pool n history) (or_cases (makes_simple pool n x) (list_any (makes_simple pool n) history) e)
  where
    of_either : (list_any (makes_simple pool n) history ≡ true → is_among n (numbers_ready history) ≡ true) → (makes_simple pool n x ≡ true) ⊎ (list_any (makes_simple pool n) history ≡ true) → is_among n (numbers_ready (x ∷ history)) ≡ true
    of_either behind (inl here) = among_front n (ready_by x) (numbers_ready history) (among_back n (completed_by x) (queued_new x) (simple_queued pool n x here))
    of_either behind (inr later) = among_back n (ready_by x) (numbers_ready history) (behind later)

-- ---- one entry more

module _ (before : List Entry) (w : World) (x : Entry) (after : World) (sound : IsSound (length w.callbacks + 1) w) (ready : AreReady before w) (h : ArePersistentIn before w) (leads : Leads (length w.callbacks + 1) w x after) where
  -- the entry's actor is the worker
  is_actor : (worker own : ℕ) → x.who ≡ Worker own → is_by worker x ≡ true → own ≡ worker
  is_actor worker own by is = let same : Worker own ≡ Worker worker = sym by ∙ same_actor_is x.who (Worker worker) is in cc

  -- what is made with the mark has it
  of_run : (c : CallbackRow) (pool : ℕ) (run : Run) → run_of c ≡ run → find (has_number c.number) w.callbacks ≡ Some c → list_any (makes_persistent pool run) before ≡ true → (c.pool.0 ≡ pool) × (c.persistent ≡ true)
  of_run c pool run same found made = of_made (any_two (makes_object pool run.object.0) (makes_simple pool run.number) before made)
    where
      number : c.number ≡ run.number
      number = ap (λ (r : Run). r.number) same

      object : c.object.0 ≡ run.object.0
      object = ap (λ (r : Run). r.object.0) same

      of_object : IsMarked w.objects pool run.object.0 → (c.pool.0 ≡ pool) × (c.persistent ≡ true)
      of_object m =
          let there : numbered w.objects c.object.0 ≡ Some m.row = ap (numbered w.objects) object ∙ m.stands in
          let of : HasObject w.objects c = find_all (IsCallbackSound w.objects) (has_number c.number) c w.callbacks sound.callback_objects found (λ none. nothing (ap (numbered w.objects) (sym none) ∙ there)) in
          let rows : Some of.row ≡ Some m.row = sym of.stands ∙ there in
          let is : of.row ≡ m.row = cc in
          (ap (λ (p : PoolId). p.0) of.home ∙ ap (λ (o : ObjectRow). o.env.pool.0) is ∙ m.home, of.persistent ∙ ap (λ (o : ObjectRow). o.env.persistent) is ∙ m.persistent)
        where
          nothing : numbered w.objects 0 ≡ Some m.row → ⊥
          nothing e = cc

      of_made : (list_any (makes_object pool run.object.0) before ≡ true) ⊎ (list_any (makes_simple pool run.number) before ≡ true) → (c.pool.0 ≡ pool) × (c.persistent ≡ true)
      of_made (inl e) = of_object (h.objects pool run.object.0 e)
      of_made (inr e) = h.simples pool run.number c e (ap (λ k. find (has_number k) w.callbacks) (sym number) ∙ found)

  -- ---- objects and simple callbacks

  object_more : (pool object : ℕ) → list_any (makes_object pool object) (before ++ x ∷ []) ≡ true → IsMarked after.objects pool object
  object_more pool object e = of_case (any_or_last (makes_object pool object) before x e)
    where
      of_old : IsMarked w.objects pool object → IsMarked after.objects pool object
      of_old m =
          let still = leads.groups.keeps object m.row m.stands in
          record { row = still.new; stands = still.stands; home = ap (λ e. e.pool.0) still.env ∙ m.home; persistent = ap (λ e. e.persistent) still.env ∙ m.persistent }

      of_new : (o : Option Creation) → created_by x ≡ o → creates_persistent pool object o ≡ true → IsMarked after.objects pool object
      of_new None is h = absurd (false_true h)
      of_new (Some c) is h =
          let own = leads.groups.creates c is in
          let parts = both (c.object == object) ((c.env.pool.0 == pool) && c.env.persistent) h in
          let placed = both (c.env.pool.0 == pool) c.env.persistent parts.1 in
          let same : c.object ≡ object = eqb-true c.object object parts.0 in
          record {
            row = own.row;
            stands = ap (numbered after.objects) (sym same) ∙ own.stands;
            home = ap (λ e. e.pool.0) own.env ∙ eqb-true c.env.pool.0 pool placed.0;
            persistent = ap (λ e. e.persistent) own.env ∙ placed.1;
          }

      of_case : (list_any (makes_object pool object) before ≡ true) ⊎ (makes_object pool object x ≡ true) → IsMarked after.objects pool object
      of_case (inl old) = of_old (h.objects pool object old)
      of_case (inr new) = of_new (created_by x) refl new

  simple_more : (pool n : ℕ) (c : CallbackRow) → list_any (makes_simple pool n) (before ++ x ∷ []) ≡ true → find (has_number n) after.callbacks ≡ Some c → (c.pool.0 ≡ pool) × (c.persistent ≡ true)
  simple_more pool n c e found = of_case (any_or_last (makes_simple pool n) before x e)
    where
      of_old : list_any (makes_simple pool n) before ≡ true → (c.pool.0 ≡ pool) × (c.persistent ≡ true)
      of_old old =
          let was : WasRow w n c = past_row w x after leads n c (ready.past n (simples_ready pool n before old)) found in
          let of = h.simples pool n was.old old was.found in
          (ap (λ (p : PoolId). p.0) was.pool ∙ of.0, was.persistent ∙ of.1)

      of_row : makes_simple pool n x ≡ true → WasRow w n c ⊎ (find (has_number n) leads.moves.new ≡ Some c) → (c.pool.0 ≡ pool) × (c.persistent ≡ true)
      of_row new (inl was) =
          let above : length w.callbacks + 1 ≤ n = waiting_above (length w.callbacks + 1) n leads.moves.new leads.moves.rows (ap (is_among n) (sym leads.moves.queued) ∙ simple_queued pool n x new) in
          let below = found_bounds n 1 (length w.callbacks + 1) was.old w.callbacks sound.numbers was.found in
          absurd (omega (arith, above, below.1))
      of_row new (inr there) = of_simple (simple_by x) refl (both (is_simple_persistent pool (simple_by x)) (is_among n (queued_by x.answer)) new).0
        where
          of_simple : (o : Option Simple) → simple_by x ≡ o → is_simple_persistent pool (simple_by x) ≡ true → (c.pool.0 ≡ pool) × (c.persistent ≡ true)
          of_simple None is e = absurd (false_true (sym (ap (is_simple_persistent pool) is) ∙ e))
          of_simple (Some s) is e =
              let parts = both (s.pool.0 == pool) s.persistent (sym (ap (is_simple_persistent pool) is) ∙ e) in
              let made = find_all (λ (r : CallbackRow). (r.pool ≡ s.pool) × (r.persistent ≡ s.persistent)) (has_number n) c leads.moves.new (leads.moves.placed s is) there in
              (ap (λ (p : PoolId). p.0) made.0 ∙ eqb-true s.pool.0 pool parts.0, made.1 ∙ parts.1)

      of_case : (list_any (makes_simple pool n) before ≡ true) ⊎ (makes_simple pool n x ≡ true) → (c.pool.0 ≡ pool) × (c.persistent ≡ true)
      of_case (inl old) = of_old old
      of_case (inr new) = of_row new (row_was (length w.callbacks + 1) w x after n c leads.moves found)

  -- ---- workers

  -- a run begins: the worker has the mark
  marked_by : (worker pool : ℕ) (staff : List WorkerRow) (kept : List CallbackRow) (run : Run) → Move w x kept staff → run_by x.answer ≡ Some run → is_by worker x ≡ true → list_any (makes_persistent pool run) before ≡ true → staff ≡ after.workers → IsKept after worker pool
  marked_by worker pool staff kept run (Take m) takes by made same =
      let told : Some run ≡ Some (run_of m.callback) = sym takes ∙ ap (λ (d : Deed). d.run) m.tells in
      let is : run_of m.callback ≡ run = cc in
      let of = of_run m.callback pool run is m.found made in
      let home : m.pool.0 ≡ pool = ap (λ (p : PoolId). p.0) (sym m.pool_same) ∙ of.0 in
      let new : WorkerRow = record { pool = Some m.pool; callback = Some m.callback.number; persistent = m.actor.row.persistent || m.callback.persistent } in
      record {
        row = new;
        stands = ap (λ ws. numbered ws worker) (sym same ∙ m.workers) ∙ ap (numbered (put w m.worker new)) (sym (is_actor worker m.worker m.actor.by by)) ∙ put_own w m.worker m.actor.row new m.actor.stands;
        marked = ap₂ (λ a b. a && b) (eq-eqb m.pool.0 pool home) (ap (λ b. m.actor.row.persistent || b) of.1 ∙ or_true m.actor.row.persistent);
      }
  marked_by worker pool staff kept run (Stay m) takes by made same = absurd (let e = sym (ap (λ (d : Deed). d.run) m.tells) ∙ takes in cc)
  marked_by worker pool staff kept run (Mark m) takes by made same = absurd (let e = sym (ap (λ (d : Deed). d.run) m.tells) ∙ takes in cc)
  marked_by worker pool staff kept run (Attach m) takes by made same = absurd (let e = sym (ap (λ (d : Deed). d.run) m.tells) ∙ takes in cc)
  marked_by worker pool staff kept run (Detach m) takes by made same = absurd (let e = sym (ap (λ (d : Deed). d.run) m.tells) ∙ takes in cc)
  marked_by worker pool staff kept run (Return m) takes by made same = absurd (let e = sym (ap (λ (d : Deed). d.run) m.tells) ∙ takes in cc)
  marked_by worker pool staff kept run (Amend m) takes by made same = absurd (let e = sym (ap (λ (d : Deed). d.run) m.tells) ∙ takes in cc)
  marked_by worker pool staff kept run (Operate m) takes by made same = absurd (let e = sym (ap (λ (d : Deed). d.run) m.tells) ∙ takes in cc)
  marked_by worker pool staff kept run (Cancel m) takes by made same = absurd (let e = sym (ap (λ (d : Deed). d.run) m.tells) ∙ takes in cc)

  -- a row in its worker's place leaves the mark
  kept_put : (worker pool own : ℕ) (old new : WorkerRow) → IsKept w worker pool → numbered w.workers own ≡ Some old → after.workers ≡ put w own new → (own ≡ worker → is_persistent_in pool old ≡ true → is_persistent_in pool new ≡ true) → IsKept after worker pool
  kept_put worker pool own old new k there same stays = of_case (worker == own) refl
    where
      of_case : (b : Bool) → (worker == own) ≡ b → IsKept after worker pool
      of_case true e =
          let is : worker ≡ own = eqb-true worker own e in
          let rows : Some old ≡ Some k.row = sym there ∙ ap (numbered w.workers) (sym is) ∙ k.stands in
          let one : old ≡ k.row = cc in
          record {
            row = new;
            stands = ap (λ ws. numbered ws worker) same ∙ ap (numbered (put w own new)) is ∙ put_own w own old new there;
            marked = stays (sym is) (ap (is_persistent_in pool) one ∙ k.marked);
          }
      of_case false e =
          record {
            row = k.row;
            stands = ap (λ ws. numbered ws worker) same ∙ numbered_set_other w.workers own worker new (numbered_some w.workers own old there).1 e ∙ k.stands;
            marked = k.marked;
          }

  kept_same : (worker pool : ℕ) → after.workers ≡ w.workers → IsKept w worker pool → IsKept after worker pool
  kept_same worker pool same k = record { row = k.row; stands = ap (λ ws. numbered ws worker) same ∙ k.stands; marked = k.marked }

  -- a pool that a row with the mark names
  marked_home : (pool : ℕ) (own : PoolId) (row : WorkerRow) → row.pool ≡ Some own → is_persistent_in pool row ≡ true → (own.0 ≡ pool) × (row.persistent ≡ true)
  marked_home pool own row home e =
      let parts = both (option_map_or (λ (p : PoolId). p.0 == pool) row.pool false) row.persistent e in
      (eqb-true own.0 pool (sym (ap (λ (o : Option PoolId). option_map_or (λ (p : PoolId). p.0 == pool) o false) home) ∙ parts.0), parts.1)

  goes_on : (worker pool : ℕ) → IsKept w worker pool → detaches worker x ≡ false → IsKept after worker pool
  goes_on worker pool k stays = of_move leads.moves.kept after.workers leads.moves.move refl
    where
      of_move : (kept : List CallbackRow) (staff : List WorkerRow) → Move w x kept staff → after.workers ≡ staff → IsKept after worker pool
      of_move kept staff (Stay m) same = kept_same worker pool (same ∙ m.workers) k
      of_move kept staff (Mark m) same = kept_same worker pool (same ∙ m.workers) k
      of_move kept staff (Amend m) same = kept_same worker pool (same ∙ m.workers) k
      of_move kept staff (Operate m) same = kept_same worker pool (same ∙ m.workers) k
      of_move kept staff (Cancel m) same = kept_same worker pool (same ∙ m.workers) k
      of_move kept staff (Attach m) same =
          kept_put worker pool m.worker m.actor.row (record { pool = Some m.pool; callback = None; persistent = false }) k m.actor.stands (same ∙ m.workers)
          (λ own e. absurd (false_true (ap (λ (o : Option PoolId). option_map_or (λ (p : PoolId). p.0 == pool) o false) (sym m.away) ∙ (both (option_map_or (λ (p : PoolId). p.0 == pool) m.actor.row.pool false) m.actor.row.persistent e).0)))
      of_move kept staff (Detach m) same =
          kept_put worker pool m.worker m.actor.row unattached k m.actor.stands (same ∙ m.workers)
          (λ own e. absurd (false_true (sym stays ∙ ap₂ (λ a b. is_same_actor a (Worker worker) && b) (m.actor.by ∙ ap (λ n. Worker n) own) (ap (λ (d : Deed). d.left) m.tells) ∙ ap (λ b. b && true) (is_own_actor (Worker worker)))))
      of_move kept staff (Return m) same = kept_put worker pool m.worker m.row (record m.row { callback = None }) k m.stands (same ∙ m.workers) (λ own e. e)
      of_move kept staff (Take m) same =
          kept_put worker pool m.worker m.actor.row (record { pool = Some m.pool; callback = Some m.callback.number; persistent = m.actor.row.persistent || m.callback.persistent }) k m.actor.stands (same ∙ m.workers)
          (λ own e.
          let at = marked_home pool m.pool m.actor.row m.home e in
          ap₂ (λ a b. a && (b || m.callback.persistent)) (eq-eqb m.pool.0 pool at.0) at.1)

  kept_more : (earlier later : List Entry) (run : Entry) (worker pool : ℕ) → earlier ++ run ∷ later ≡ before ++ x ∷ [] → RunsPersistent earlier run worker pool → list_any (detaches worker) later ≡ false → IsKept after worker pool
  kept_more earlier later run worker pool split runs stays = of_place (last_place before x earlier run later split)
    where
      of_place : LastPlace before x earlier run later → IsKept after worker pool
      of_place (Here front same none) =
          marked_by worker pool after.workers leads.moves.kept runs.run leads.moves.move (ap (λ (e : Entry). run_by e.answer) (sym same) ∙ runs.takes) (ap (is_by worker) (sym same) ∙ runs.by)
          (ap (list_any (makes_persistent pool runs.run)) (sym front) ∙ runs.made) refl
      of_place (Earlier rest back front) =
          let still = any_last (detaches worker) rest x (ap (list_any (detaches worker)) (sym back) ∙ stays) in
          goes_on worker pool (h.kept earlier rest run worker pool front runs still.0) still.1

  shut_more : (pool : ℕ) → is_closed_pool after pool ≡ true → list_any (closes_pool pool) (before ++ x ∷ []) ≡ true
  shut_more pool e = of_case (or_cases (is_closed_pool w pool) (closes_pool pool x) (sym (leads.closings pool) ∙ e))
    where
      of_case : (is_closed_pool w pool ≡ true) ⊎ (closes_pool pool x ≡ true) → list_any (closes_pool pool) (before ++ x ∷ []) ≡ true
      of_case (inl old) = any_front (closes_pool pool) before (x ∷ []) (h.shut pool old)
      of_case (inr new) = list_any-append (closes_pool pool) before (x ∷ []) ∙ ap (λ b. list_any (closes_pool pool) before || (b || false)) new ∙ or_true (list_any (closes_pool pool) before)

  pub persistent_more : ArePersistentIn (before ++ x ∷ []) after
  persistent_more =
      record {
        objects = object_more;
        simples = simple_more;
        kept = kept_more;
        sole = sole_more w x leads.moves.kept after.workers leads.moves.move h.sole;
        shut = shut_more;
      }

  -- ---- the law

  -- the persistent worker of a pool is the one that takes its next persistent callback
  pub takes_again : (a b pool : ℕ) → IsKept w a pool → RunsPersistent before x b pool → a ≡ b
  takes_again a b pool k runs = of_move leads.moves.kept after.workers leads.moves.move
    where
      of_take : (kept : List CallbackRow) (staff : List WorkerRow) → Takes w x kept staff → a ≡ b
      of_take kept staff m =
          let told : Some runs.run ≡ Some (run_of m.callback) = sym runs.takes ∙ ap (λ (d : Deed). d.run) m.tells in
          let is : run_of m.callback ≡ runs.run = cc in
          let of = of_run m.callback pool runs.run is m.found runs.made in
          let home : m.pool.0 ≡ pool = ap (λ (p : PoolId). p.0) (sym m.pool_same) ∙ of.0 in
          of_mark m.actor.row.persistent refl home of.1
        where
          of_mark : (own : Bool) → m.actor.row.persistent ≡ own → m.pool.0 ≡ pool → m.callback.persistent ≡ true → a ≡ b
          of_mark true marked home its =
              h.sole pool a m.worker k.row m.actor.row k.stands m.actor.stands k.marked
              (ap₂ (λ (o : Option PoolId) (p : Bool). option_map_or (λ (q : PoolId). q.0 == pool) o false && p) m.home marked ∙ ap (λ b. b && true) (eq-eqb m.pool.0 pool home))
              ∙ is_actor b m.worker m.actor.by runs.by
          of_mark false marked home its =
              absurd (false_true (sym (mark_is_new w m.pool.0 m.actor.row.persistent m.callback marked its m.open_to) ∙ ap (has_persistent w) home ∙ any_at (is_persistent_in pool) w.workers (a - 1) k.row (numbered_some w.workers a k.row k.stands).0 k.marked))

      of_move : (kept : List CallbackRow) (staff : List WorkerRow) → Move w x kept staff → a ≡ b
      of_move kept staff (Take m) = of_take kept staff m
      of_move kept staff (Stay m) = absurd (let e = sym (ap (λ (d : Deed). d.run) m.tells) ∙ runs.takes in cc)
      of_move kept staff (Mark m) = absurd (let e = sym (ap (λ (d : Deed). d.run) m.tells) ∙ runs.takes in cc)
      of_move kept staff (Attach m) = absurd (let e = sym (ap (λ (d : Deed). d.run) m.tells) ∙ runs.takes in cc)
      of_move kept staff (Detach m) = absurd (let e = sym (ap (λ (d : Deed). d.run) m.tells) ∙ runs.takes in cc)
      of_move kept staff (Return m) = absurd (let e = sym (ap (λ (d : Deed). d.run) m.tells) ∙ runs.takes in cc)
      of_move kept staff (Amend m) = absurd (let e = sym (ap (λ (d : Deed). d.run) m.tells) ∙ runs.takes in cc)
      of_move kept staff (Operate m) = absurd (let e = sym (ap (λ (d : Deed). d.run) m.tells) ∙ runs.takes in cc)
      of_move kept staff (Cancel m) = absurd (let e = sym (ap (λ (d : Deed). d.run) m.tells) ∙ runs.takes in cc)

  -- and leaves only a pool that was closed
  pub leaves_closed : (worker pool : ℕ) → IsKept w worker pool → detaches worker x ≡ true → list_any (closes_pool pool) before ≡ true
  leaves_closed worker pool k leaves = of_move leads.moves.kept after.workers leads.moves.move
    where
      parts : (is_by worker x ≡ true) × (is_detached x ≡ true)
      parts = both (is_by worker x) (is_detached x) leaves

      of_move : (kept : List CallbackRow) (staff : List WorkerRow) → Move w x kept staff → list_any (closes_pool pool) before ≡ true
      of_move kept staff (Detach m) =
          let same : m.worker ≡ worker = is_actor worker m.worker m.actor.by parts.0 in
          let rows : Some m.actor.row ≡ Some k.row = sym m.actor.stands ∙ ap (numbered w.workers) same ∙ k.stands in
          let one : m.actor.row ≡ k.row = cc in
          let at = marked_home pool m.pool m.actor.row m.home (ap (is_persistent_in pool) one ∙ k.marked) in
          h.shut pool (ap (is_closed_pool w) (sym at.0) ∙ sym (ap (λ b. not b || is_closed_pool w m.pool.0) at.1) ∙ m.let_go)
      of_move kept staff (Stay m) = absurd (false_true (sym (ap (λ (d : Deed). d.left) m.tells) ∙ parts.1))
      of_move kept staff (Mark m) = absurd (false_true (sym (ap (λ (d : Deed). d.left) m.tells) ∙ parts.1))
      of_move kept staff (Attach m) = absurd (false_true (sym (ap (λ (d : Deed). d.left) m.tells) ∙ parts.1))
      of_move kept staff (Take m) = absurd (false_true (sym (ap (λ (d : Deed). d.left) m.tells) ∙ parts.1))
      of_move kept staff (Return m) = absurd (false_true (sym (ap (λ (d : Deed). d.left) m.tells) ∙ parts.1))
      of_move kept staff (Amend m) = absurd (false_true (sym (ap (λ (d : Deed). d.left) m.tells) ∙ parts.1))
      of_move kept staff (Operate m) = absurd (false_true (sym (ap (λ (d : Deed). d.left) m.tells) ∙ parts.1))
      of_move kept staff (Cancel m) = absurd (false_true (sym (ap (λ (d : Deed). d.left) m.tells) ∙ parts.1))

-- ---- of the opening world

pub opening_persistent : (limits : Limits) → ArePersistentIn [] (opening limits)
opening_persistent limits =
    record {
      objects = λ pool object e. absurd (false_true e);
      simples = λ pool n c e. absurd (false_true e);
      kept = λ before later run worker pool split. absurd (no_place before run later split);
      sole = opening_sole limits.workers;
      shut = λ pool e. absurd (false_true (sym (open_at_first pool) ∙ e));
    }
  where
    open_at_first : (pool : ℕ) → is_closed_pool (opening limits) pool ≡ false
    open_at_first zero = refl
    open_at_first (suc pool) = refl
