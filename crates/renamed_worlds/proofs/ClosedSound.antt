-- A closed world is as sound as the world. Given back their numbers its callbacks are those of the world, in the same order: so
-- their numbers rise, and who names one finds it.
use Rattle.std.proofs.Common.{◌≡◌, ℕ, ◌+◌, ◌<◌, ◌==◌, ◌&&◌, true, false, List, [], ◌∷◌, length, map, Option, Some, None, option_map, refl, sym, ap, ap₂, ◌∙◌, filter, find, subst, eqb-true, arith}
use Rattle.std.specs.List.{AllByRecursion}
use Rattle.std.specs.Option.{option_map_or}
use Rattle.std.proofs.lemmas.Map.Views.{any-filter_same}
use Rattle.tp_base.specs.Actors.{is_same_actor}
use Rattle.tp_base.specs.declared.ids.ObjectId.{ObjectId}
use Rattle.tp_base.specs.declared.ids.PoolId.{PoolId}
use Rattle.tp_base.specs.declared.rows.CallbackRow.{CallbackRow}
use Rattle.tp_base.specs.declared.rows.Status.{Status}
use Rattle.tp_base.specs.declared.rows.Status.TheVariants.{Cancelled, Expected, Issued, Pending, Returned, Running}
use Rattle.tp_base.specs.declared.rows.WaitTarget.{WaitTarget}
use Rattle.tp_base.specs.declared.rows.WorkerRow.{WorkerRow}
use Rattle.tp_model.specs.World.{World, BegunWait}
use Rattle.tp_model.specs.Counts.{has_number, is_operating}
use Rattle.tp_model.specs.Groups.{is_object_that}
use Rattle.tp_model.specs.Laws.Entries.{is_among}
use Rattle.tp_model.specs.Laws.Once.{is_left}
use Rattle.tp_model.specs.Support.Remembered.{forget, lives}
use Rattle.tp_model.specs.Support.Sound.{is_left_among, is_left_of, is_standing, is_told, AreApart, AreWorkersSound, IsCallbackSound, IsRising, IsSound, IsWaitSound, IsWorkerSound, RunsOn}
use Rattle.tp_model.specs.Waits.{is_held, is_held_for, is_of, is_outstanding_for}
use Rattle.tp_model.proofs.Forgetting.{forget_sound, live_again}
use Rattle.tp_model.proofs.Lists.{all_filter}
use Rattle.tp_model.proofs.Refusals.{both, false_true}
use Rattle.renamed_worlds.specs.Closed.{closed, closed_next, number_at, place_of, settled, settled_wait}
use Rattle.renamed_worlds.specs.Renamed.{renamed, renamed_callback, renamed_wait, renamed_worker, IsNaming}
use Rattle.renamed_worlds.proofs.Closing.{closed_back}
use Rattle.renamed_worlds.proofs.Mapped.{any_map, filter_map, find_map, found_map}
use Rattle.renamed_worlds.proofs.Places.{at_before, at_naming, at_next, at_rises}
use Rattle.renamed_worlds.proofs.Queries.{same_name}
use Rattle.renamed_worlds.proofs.Waiting.{of_renamed}

-- what holds of all rows after holds of all before
all_back : {X Y : Type 0} (f : X → Y) (P : Y → Type 0) (Q : X → Type 0) → ((x : X) → P (f x) → Q x) → (xs : List X) → AllByRecursion P (map f xs) → AllByRecursion Q xs
all_back f P Q each [] all = tt
all_back f P Q each (x ∷ xs) all = (each x all.0, all_back f P Q each xs all.1)

-- ---- a world is sound if it is under names that rise with the numbers

module _ (name : ℕ → ℕ) (naming : IsNaming name) (rises : (m n : ℕ) → m < n → name m < name n) (before : (m n : ℕ) → name m < name n → m < n) where
  rising_back : (last next_number : ℕ) (cs : List CallbackRow) → IsRising (name last + 1) (name next_number) (map (renamed_callback name) cs) → IsRising (last + 1) next_number cs
  rising_back last next_number [] r = omega (arith, before last next_number (omega (arith, r)))
  rising_back last next_number (c ∷ cs) r = (omega (arith, before last c.number (omega (arith, r.0))), rising_back c.number next_number cs r.1)

  found_renamed : (cs : List CallbackRow) (n : ℕ) → find (has_number (name n)) (map (renamed_callback name) cs) ≡ option_map (renamed_callback name) (find (has_number n) cs)
  found_renamed cs n = find_map (renamed_callback name) (has_number (name n)) (has_number n) (λ c. same_name name naming c.number n) cs

  runs_back : (cs : List CallbackRow) (worker : ℕ) (pool : PoolId) (n : ℕ) → RunsOn (map (renamed_callback name) cs) worker pool (name n) → RunsOn cs worker pool n
  runs_back cs worker pool n s = of_row (find (has_number n) cs) refl
    where
      of_row : (o : Option CallbackRow) → find (has_number n) cs ≡ o → RunsOn cs worker pool n
      of_row None found = absurd (let none = sym s.found ∙ found_renamed cs n ∙ ap (option_map (renamed_callback name)) found in cc)
      of_row (Some c) found =
          let some : Some (renamed_callback name c) ≡ Some s.callback = sym (found_renamed cs n ∙ ap (option_map (renamed_callback name)) found) ∙ s.found in
          let same : renamed_callback name c ≡ s.callback = cc in
          record { callback = c; associated = s.associated; slots = s.slots; found = found; runs = ap (λ (d : CallbackRow). d.status) same ∙ s.runs; at_home = ap (λ (d : CallbackRow). d.pool) same ∙ s.at_home }

  worker_back : (cs : List CallbackRow) (worker : ℕ) (pool : Option PoolId) (callback : Option ℕ) → IsWorkerSound (map (renamed_callback name) cs) worker pool (option_map name callback) → IsWorkerSound cs worker pool callback
  worker_back cs worker pool None s = tt
  worker_back cs worker None (Some n) s = s
  worker_back cs worker (Some pool) (Some n) s = runs_back cs worker pool n s

  workers_back : (cs : List CallbackRow) (worker : ℕ) (rs : List WorkerRow) → AreWorkersSound (map (renamed_callback name) cs) worker (map (renamed_worker name) rs) → AreWorkersSound cs worker rs
  workers_back cs worker [] s = tt
  workers_back cs worker (r ∷ rs) s = (worker_back cs worker r.pool r.callback s.0, workers_back cs (worker + 1) rs s.1)

  apart_back : (bs : List BegunWait) → AreApart (map (renamed_wait name) bs) → AreApart bs
  apart_back [] s = tt
  apart_back (b ∷ bs) s = (
    sym (any_map (renamed_wait name) (λ (d : BegunWait). is_same_actor d.actor b.actor) (λ (d : BegunWait). is_same_actor d.actor b.actor) (λ _. refl) bs) ∙ s.0,
    apart_back bs s.1,
  )

  left_renamed : (cs : List CallbackRow) (target : WaitTarget) (n : ℕ) → is_left_among (map (renamed_callback name) cs) target (name n) ≡ is_left_among cs target n
  left_renamed cs target n =
      ap (λ o. option_map_or (is_left_of target) o false) (found_renamed cs n)
      ∙ found_map (renamed_callback name) (is_left_of target) (is_left_of target) (λ c. ap (λ b. b && is_left c.status) (of_renamed name target c)) (find (has_number n) cs) false

  among_renamed : (n : ℕ) (ns : List ℕ) → is_among (name n) (map name ns) ≡ is_among n ns
  among_renamed n ns = any_map name (λ m. m == name n) (λ m. m == n) (λ m. same_name name naming m n) ns

  wait_back : (next_number : ℕ) (cs : List CallbackRow) (b : BegunWait) → IsWaitSound (name next_number) (map (renamed_callback name) cs) (renamed_wait name b) → IsWaitSound next_number cs b
  wait_back next_number cs b s = record {
    named = s.named;
    made = all_back name (λ n. n < name next_number) (λ n. n < next_number) (λ n less. before n next_number less) b.covered s.made;
    closed = λ m n less m_left n_left among.
        sym (among_renamed m b.covered)
        ∙ s.closed (name m) (name n) (rises m n less) (left_renamed cs b.target m ∙ m_left) (left_renamed cs b.target n ∙ n_left) (among_renamed n b.covered ∙ among);
    settled = λ n left among. s.settled (name n) (left_renamed cs b.target n ∙ left) (among_renamed n b.covered ∙ among);
    quiet = s.quiet;
  }

  pub sound_back : (next_number : ℕ) (w : World) → IsSound (name next_number) (renamed name w) → IsSound next_number w
  sound_back next_number w s = record {
    numbers = rising_back 0 next_number w.callbacks (subst (λ n. IsRising (n + 1) (name next_number) (map (renamed_callback name) w.callbacks)) (sym naming.none) s.numbers);
    workers = workers_back w.callbacks 1 w.workers s.workers;
    object_pools = s.object_pools;
    apart = apart_back w.waits s.apart;
    timers = s.timers;
    armings = s.armings;
    timeouts = s.timeouts;
    clock = s.clock;
    waits = all_back (renamed_wait name) (IsWaitSound (name next_number) (map (renamed_callback name) w.callbacks)) (IsWaitSound next_number w.callbacks) (wait_back next_number w.callbacks) w.waits s.waits;
    callback_pools = all_back (renamed_callback name) (λ (c : CallbackRow). c.pool.0 < length w.pools) (λ (c : CallbackRow). c.pool.0 < length w.pools) (λ _ h. h) w.callbacks s.callback_pools;
    callback_objects = all_back (renamed_callback name) (IsCallbackSound w.objects) (IsCallbackSound w.objects) callback_back w.callbacks s.callback_objects;
    operations = all_back (renamed_callback name) (λ (c : CallbackRow). is_operating c.status ≡ true → is_standing w.objects c.object.0 ≡ true) (λ (c : CallbackRow). is_operating c.status ≡ true → is_standing w.objects c.object.0 ≡ true) (λ _ h. h) w.callbacks s.operations;
    notices = all_back (renamed_wait name) (λ (b : BegunWait). AllByRecursion (λ (o : ObjectId). is_object_that is_told w.objects o.0 ≡ true) b.notices) (λ (b : BegunWait). AllByRecursion (λ (o : ObjectId). is_object_that is_told w.objects o.0 ≡ true) b.notices) (λ _ h. h) w.waits s.notices;
  }
    where
      callback_back : (c : CallbackRow) → IsCallbackSound w.objects (renamed_callback name c) → IsCallbackSound w.objects c
      callback_back c s some = let h = s some in record { row = h.row; stands = h.stands; home = h.home; group = h.group; persistent = h.persistent }

-- ---- waits may forget what isn't outstanding

-- what may still be run is outstanding
left_held : (target : WaitTarget) (o : Option CallbackRow) → option_map_or (is_left_of target) o false ≡ true → option_map_or (is_outstanding_for target) o false ≡ true
left_held target None left = left
left_held target (Some c) left = let parts = both (is_of target c) (is_left c.status) left in ap₂ (λ a b. a && b) parts.0 (of_status c.status parts.1)
  where
    of_status : (s : Status) → is_left s ≡ true → is_held_for target s ≡ true
    of_status Expected e = refl
    of_status Issued e = refl
    of_status Pending e = refl
    of_status (Running worker associated slots) e = absurd (false_true e)
    of_status Returned e = absurd (false_true e)
    of_status Cancelled e = absurd (false_true e)

module _ (next_number : ℕ) (w : World) where
  among_held : (target : WaitTarget) (n : ℕ) (ns : List ℕ) → is_among n (filter (is_held w target) ns) ≡ (is_held w target n && is_among n ns)
  among_held target n ns = any-filter_same (λ m. m == n) (is_held w target) (is_held w target n) (λ m same. ap (is_held w target) (eqb-true m n same)) ns

  wait_settled : (b : BegunWait) → IsWaitSound next_number w.callbacks b → IsWaitSound next_number w.callbacks (settled_wait w b)
  wait_settled b s = record {
    named = s.named;
    made = all_filter (λ n. n < next_number) (is_held w b.target) b.covered s.made;
    closed = λ m n less m_left n_left among.
        among_held b.target m b.covered
        ∙ ap₂ (λ p q. p && q) (left_held b.target (find (has_number m) w.callbacks) m_left) (s.closed m n less m_left n_left (covered n among));
    settled = λ n left among. s.settled n left (covered n among);
    quiet = s.quiet;
  }
    where
      covered : (n : ℕ) → is_among n (filter (is_held w b.target) b.covered) ≡ true → is_among n b.covered ≡ true
      covered n among = (both (is_held w b.target n) (is_among n b.covered) (sym (among_held b.target n b.covered) ∙ among)).1

  pub settled_sound : IsSound next_number w → IsSound next_number (settled w)
  settled_sound s = record {
    numbers = s.numbers;
    workers = s.workers;
    object_pools = s.object_pools;
    apart = apart w.waits s.apart;
    timers = s.timers;
    armings = s.armings;
    timeouts = s.timeouts;
    clock = s.clock;
    waits = all_onto (settled_wait w) (IsWaitSound next_number w.callbacks) (IsWaitSound next_number w.callbacks) wait_settled w.waits s.waits;
    callback_pools = s.callback_pools;
    callback_objects = s.callback_objects;
    operations = s.operations;
    notices = all_onto (settled_wait w) (λ (b : BegunWait). AllByRecursion (λ (o : ObjectId). is_object_that is_told w.objects o.0 ≡ true) b.notices) (λ (b : BegunWait). AllByRecursion (λ (o : ObjectId). is_object_that is_told w.objects o.0 ≡ true) b.notices) (λ _ h. h) w.waits s.notices;
  }
    where
      all_onto : {X : Type 0} (f : X → X) (P Q : X → Type 0) → ((x : X) → P x → Q (f x)) → (xs : List X) → AllByRecursion P xs → AllByRecursion Q (map f xs)
      all_onto f P Q each [] all = tt
      all_onto f P Q each (x ∷ xs) all = (each x all.0, all_onto f P Q each xs all.1)

      apart : (bs : List BegunWait) → AreApart bs → AreApart (map (settled_wait w) bs)
      apart [] s = tt
      apart (b ∷ bs) s = (
        any_map (settled_wait w) (λ (d : BegunWait). is_same_actor d.actor b.actor) (λ (d : BegunWait). is_same_actor d.actor b.actor) (λ _. refl) bs ∙ s.0,
        apart bs s.1,
      )

-- ---- closed worlds

pub closed_sound : (next_number : ℕ) (w : World) → IsSound next_number w → IsSound (closed_next w) (closed w)
closed_sound next_number w s =
    let f : IsSound next_number (forget w) = forget_sound next_number w s in
    let cs : List CallbackRow = filter lives w.callbacks in
    let name : ℕ → ℕ = number_at cs next_number in
    sound_back name (at_naming next_number cs f.numbers) (at_rises next_number cs f.numbers) (at_before next_number cs f.numbers) (closed_next w) (closed w)
    (subst (λ n. IsSound n (renamed name (closed w))) (sym (at_next next_number cs))
    (subst (IsSound next_number) (sym (closed_back next_number w s)) (settled_sound next_number (forget w) f)))

-- all its callbacks live
pub closed_living : (w : World) → forget (closed w) ≡ closed w
closed_living w =
    let name : ℕ → ℕ = place_of (forget w).callbacks in
    ap (λ (cs : List CallbackRow). record (closed w) { callbacks = cs })
    (filter_map (renamed_callback name) lives lives (λ _. refl) (forget w).callbacks ∙ ap (map (renamed_callback name)) (live_again w.callbacks))
