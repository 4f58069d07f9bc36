-- Closing a world forgets names, and nothing else: given back their numbers the callbacks of a closed world are those of the
-- world.
use Rattle.std.proofs.Common.{◌≡◌, ◌≢◌, ℕ, ◌+◌, ◌≤◌, ◌||◌, Bool, true, false, cond, List, [], ◌∷◌, map, Option, Some, None, option_map, refl, sym, ap, ap₂, ◌∙◌, filter, find, eq-eqb, arith}
use Rattle.std.specs.List.{list_any, AllByRecursion}
use Rattle.std.specs.Option.{option_map_or}
use Rattle.tp_base.specs.declared.ids.PoolId.{PoolId}
use Rattle.tp_base.specs.declared.rows.CallbackRow.{CallbackRow}
use Rattle.tp_base.specs.declared.rows.WorkerRow.{WorkerRow}
use Rattle.tp_model.specs.World.{World, BegunWait}
use Rattle.tp_model.specs.Counts.{has_number}
use Rattle.tp_model.specs.Support.Remembered.{forget, lives}
use Rattle.tp_model.specs.Support.Sound.{AreWorkersSound, IsRising, IsSound, IsWorkerSound}
use Rattle.tp_model.specs.Waits.{is_outstanding_for}
use Rattle.tp_model.proofs.Forgetting.{forget_sound, live_again}
use Rattle.tp_model.proofs.Lists.{all_along, filter_filter, find_passes}
use Rattle.tp_model.proofs.Refusals.{false_true}
use Rattle.tp_model.proofs.Releasing.{any_found}
use Rattle.renamed_worlds.specs.Closed.{closed, named_by_place, number_at, place_of, settled, settled_wait, tidied}
use Rattle.renamed_worlds.specs.Renamed.{renamed, renamed_callback, renamed_wait, renamed_worker, IsNaming}
use Rattle.renamed_worlds.proofs.Mapped.{filter_map}
use Rattle.renamed_worlds.proofs.Places.{at_naming, at_place, nobody, place_renamed}
use Rattle.renamed_worlds.proofs.Tidied.{is_held_among, kept_by}
use Rattle.renamed_worlds.proofs.Waiting.{held_renamed}

-- ---- renamed twice

module _ (second first both : ℕ → ℕ) (is : (n : ℕ) → second (first n) ≡ both n) where
  callbacks_twice : (cs : List CallbackRow) → map (renamed_callback second) (map (renamed_callback first) cs) ≡ map (renamed_callback both) cs
  callbacks_twice [] = refl
  callbacks_twice (c ∷ cs) = ap₂ (λ (n : ℕ) xs. record c { number = n } ∷ xs) (is c.number) (callbacks_twice cs)

  option_twice : (o : Option ℕ) → option_map second (option_map first o) ≡ option_map both o
  option_twice None = refl
  option_twice (Some n) = ap Some (is n)

  workers_twice : (rs : List WorkerRow) → map (renamed_worker second) (map (renamed_worker first) rs) ≡ map (renamed_worker both) rs
  workers_twice [] = refl
  workers_twice (r ∷ rs) = ap₂ (λ (o : Option ℕ) xs. record r { callback = o } ∷ xs) (option_twice r.callback) (workers_twice rs)

  numbers_twice : (ns : List ℕ) → map second (map first ns) ≡ map both ns
  numbers_twice [] = refl
  numbers_twice (n ∷ ns) = ap₂ (λ x xs. x ∷ xs) (is n) (numbers_twice ns)

  waits_twice : (bs : List BegunWait) → map (renamed_wait second) (map (renamed_wait first) bs) ≡ map (renamed_wait both) bs
  waits_twice [] = refl
  waits_twice (b ∷ bs) = ap₂ (λ (ns : List ℕ) xs. record b { covered = ns } ∷ xs) (numbers_twice b.covered) (waits_twice bs)

  pub renamed_twice : (w : World) → renamed second (renamed first w) ≡ renamed both w
  renamed_twice w =
      ap₂ (λ (cs : List CallbackRow) (rs : List WorkerRow). record w { callbacks = cs; workers = rs; waits = map (renamed_wait second) (map (renamed_wait first) w.waits) }) (callbacks_twice w.callbacks) (workers_twice w.workers)
      ∙ ap (λ (bs : List BegunWait). record (renamed both w) { waits = bs }) (waits_twice w.waits)

-- ---- a renamed world is closed to the same

module _ (name : ℕ → ℕ) (naming : IsNaming name) where
  living_renamed : (cs : List CallbackRow) → filter lives (map (renamed_callback name) cs) ≡ map (renamed_callback name) (filter lives cs)
  living_renamed cs = filter_map (renamed_callback name) lives lives (λ _. refl) cs

  settled_renamed : (w : World) → settled (renamed name w) ≡ renamed name (settled w)
  settled_renamed w = ap (λ (bs : List BegunWait). record (renamed name w) { waits = bs }) (each w.waits)
    where
      each : (bs : List BegunWait) → map (settled_wait (renamed name w)) (map (renamed_wait name) bs) ≡ map (renamed_wait name) (map (settled_wait w) bs)
      each [] = refl
      each (b ∷ bs) = ap₂ (λ (ns : List ℕ) xs. record b { covered = ns } ∷ xs) (held_renamed name naming w b) (each bs)

  tidied_renamed : (w : World) → tidied (renamed name w) ≡ renamed name (tidied w)
  tidied_renamed w = ap (λ (cs : List CallbackRow). settled (record (renamed name w) { callbacks = cs })) (living_renamed w.callbacks) ∙ settled_renamed (forget w)

  pub closed_renamed : (w : World) → closed (renamed name w) ≡ closed w
  closed_renamed w =
      ap named_by_place (tidied_renamed w)
      ∙ renamed_twice (place_of (map (renamed_callback name) (forget w).callbacks)) name (place_of (forget w).callbacks) (place_renamed name naming (forget w).callbacks) (tidied w)

-- ---- back from places to numbers

module _ (next_number : ℕ) (cs : List CallbackRow) (rising : IsRising 1 next_number cs) where
  abbrev back : ℕ → ℕ
  back n = number_at cs next_number (place_of cs n)

  -- of a number that a callback has
  found_back : (n : ℕ) (c : CallbackRow) → find (has_number n) cs ≡ Some c → back n ≡ n
  found_back n c found = at_place next_number cs n some (any_found (has_number n) n c cs found (find_passes (has_number n) c cs found))
    where
      some : n ≢ 0
      some is = let none : find (has_number n) cs ≡ None = ap (λ k. find (has_number k) cs) is ∙ nobody 1 next_number 0 cs (omega arith) rising in absurd (let both = sym none ∙ found in cc)

  or_true : (b : Bool) → (b || true) ≡ true
  or_true true = refl
  or_true false = refl

  -- every row of a row has its number there
  rows_there : (ds : List CallbackRow) → AllByRecursion (λ (c : CallbackRow). list_any (has_number c.number) ds ≡ true) ds
  rows_there [] = tt
  rows_there (d ∷ ds) = (
    ap (λ b. b || list_any (has_number d.number) ds) (eq-eqb d.number d.number refl),
    all_along (λ (c : CallbackRow). list_any (has_number c.number) ds ≡ true) (λ (c : CallbackRow). list_any (has_number c.number) (d ∷ ds) ≡ true) (λ c e. ap (λ b. has_number c.number d || b) e ∙ or_true (has_number c.number d)) ds (rows_there ds),
  )

  above : (low : ℕ) (ds : List CallbackRow) → 1 ≤ low → IsRising low next_number ds → AllByRecursion (λ (c : CallbackRow). c.number ≢ 0) ds
  above low [] least r = tt
  above low (d ∷ ds) least r = ((λ e. absurd (omega (arith, e, least, r.0))), above (d.number + 1) ds (omega arith) r.1)

  callbacks_back : (ds : List CallbackRow) → AllByRecursion (λ (c : CallbackRow). list_any (has_number c.number) cs ≡ true) ds → AllByRecursion (λ (c : CallbackRow). c.number ≢ 0) ds
      → map (renamed_callback (number_at cs next_number)) (map (renamed_callback (place_of cs)) ds) ≡ ds
  callbacks_back [] there some = refl
  callbacks_back (d ∷ ds) there some = ap₂ (λ (n : ℕ) xs. record d { number = n } ∷ xs) (at_place next_number cs d.number some.0 there.0) (callbacks_back ds there.1 some.1)

  worker_back : (worker : ℕ) (pool : Option PoolId) (callback : Option ℕ) → IsWorkerSound cs worker pool callback → option_map (number_at cs next_number) (option_map (place_of cs) callback) ≡ callback
  worker_back worker pool None sound = refl
  worker_back worker None (Some n) sound = absurd sound
  worker_back worker (Some pool) (Some n) sound = ap Some (found_back n sound.callback sound.found)

  workers_back : (worker : ℕ) (rs : List WorkerRow) → AreWorkersSound cs worker rs → map (renamed_worker (number_at cs next_number)) (map (renamed_worker (place_of cs)) rs) ≡ rs
  workers_back worker [] sound = refl
  workers_back worker (r ∷ rs) sound = ap₂ (λ (o : Option ℕ) xs. record r { callback = o } ∷ xs) (worker_back worker r.pool r.callback sound.0) (workers_back (worker + 1) rs sound.1)

  kept_back : (b : BegunWait) (ns : List ℕ) → map (number_at cs next_number) (map (place_of cs) (filter (is_held_among cs b.target) ns)) ≡ filter (is_held_among cs b.target) ns
  kept_back b [] = refl
  kept_back b (n ∷ ns) =
      elim (is_held_among cs b.target n)
      as (λ t. is_held_among cs b.target n ≡ t → map (number_at cs next_number) (map (place_of cs) (cond t (n ∷ filter (is_held_among cs b.target) ns) (filter (is_held_among cs b.target) ns))) ≡ cond t (n ∷ filter (is_held_among cs b.target) ns) (filter (is_held_among cs b.target) ns)) [
        | true ↦ λ is. ap₂ (λ x xs. x ∷ xs) (of_row (find (has_number n) cs) refl is) (kept_back b ns)
        | false ↦ λ _. kept_back b ns
      ] refl
    where
      of_row : (o : Option CallbackRow) → find (has_number n) cs ≡ o → option_map_or (is_outstanding_for b.target) o false ≡ true → back n ≡ n
      of_row None found is = absurd (false_true is)
      of_row (Some c) found is = found_back n c found

  waits_back : (bs : List BegunWait) → map (renamed_wait (number_at cs next_number)) (map (renamed_wait (place_of cs)) (map (kept_by cs) bs)) ≡ map (kept_by cs) bs
  waits_back [] = refl
  waits_back (b ∷ bs) = ap₂ (λ (ns : List ℕ) xs. record b { covered = ns } ∷ xs) (kept_back b b.covered) (waits_back bs)

  pub rows_back : map (renamed_callback (number_at cs next_number)) (map (renamed_callback (place_of cs)) cs) ≡ cs
  rows_back = callbacks_back cs (rows_there cs) (above 1 cs (omega arith) rising)

pub closed_back : (next_number : ℕ) (w : World) → IsSound next_number w → renamed (number_at (forget w).callbacks next_number) (closed w) ≡ tidied w
closed_back next_number w s =
    let f : IsSound next_number (forget w) = forget_sound next_number w s in
    let cs : List CallbackRow = filter lives w.callbacks in
    ap₂ (λ (ds : List CallbackRow) (rs : List WorkerRow). record w { callbacks = ds; workers = rs; waits = map (renamed_wait (number_at cs next_number)) (map (renamed_wait (place_of cs)) (map (kept_by cs) w.waits)) })
    (rows_back next_number cs f.numbers) (workers_back next_number cs f.numbers 1 w.workers f.workers)
    ∙ ap (λ (bs : List BegunWait). record (forget w) { waits = bs }) (waits_back next_number cs f.numbers w.waits)

-- ---- a closed world is closed to itself

tidied_again : (w : World) → tidied (tidied w) ≡ tidied w
tidied_again w =
    ap (λ (cs : List CallbackRow). record w { callbacks = cs; waits = map (kept_by cs) (map (kept_by (filter lives w.callbacks)) w.waits) }) (live_again w.callbacks)
    ∙ ap (λ (bs : List BegunWait). record (forget w) { waits = bs }) (each w.waits)
  where
    each : (bs : List BegunWait) → map (kept_by (filter lives w.callbacks)) (map (kept_by (filter lives w.callbacks)) bs) ≡ map (kept_by (filter lives w.callbacks)) bs
    each [] = refl
    each (b ∷ bs) = ap₂ (λ (ns : List ℕ) xs. record b { covered = ns } ∷ xs) (filter_filter (is_held_among (filter lives w.callbacks) b.target) (is_held_among (filter lives w.callbacks) b.target) (λ _ e. e) b.covered) (each bs)

pub closed_again : (next_number : ℕ) (w : World) → IsSound next_number w → closed (closed w) ≡ closed w
closed_again next_number w s =
    let f : IsSound next_number (forget w) = forget_sound next_number w s in
    sym (closed_renamed (number_at (forget w).callbacks next_number) (at_naming next_number (forget w).callbacks f.numbers) (closed w))
    ∙ ap closed (closed_back next_number w s)
    ∙ ap named_by_place (tidied_again w)
