-- The calls of libraries alone.
use Rattle.std.proofs.Common.{◌≡◌, ℕ, ◌-◌, ◌==◌, ◌||◌, Bool, true, false, not, cond, List, [], ◌∷◌, Option, Some, None, is_some, slice_get, refl, sym, ap, ◌∙◌}
use Rattle.std.specs.Prelude.{map, option_map}
use Rattle.std.specs.Option.{option_map_or, unwrap_or}
use Rattle.std.proofs.lemmas.Option.{slice_get-map}
use Rattle.tp_base.specs.declared.ids.Who.{Who}
use Rattle.tp_base.specs.declared.ids.Who.TheVariants.{Client, Worker}
use Rattle.tp_base.specs.declared.rows.ClientRow.{ClientRow}
use Rattle.tp_base.specs.declared.rows.WorkerRow.{WorkerRow}
use Rattle.tp_model.specs.Conditions.{is_actor, is_finished, runs_callback}
use Rattle.tp_model.specs.Counts.{numbered}
use Rattle.tp_model.specs.World.{World}
use Rattle.tp_library.specs.Acting.{has_finished, is_there, run_of, Acting}
use Rattle.tp_library.specs.Counted.{runs_of}
use Rattle.tp_library.specs.Kept.{run_in, AreActors}
use Rattle.tp_library.specs.Stepped.{refused_actor}
use Rattle.tp_library.specs.Libraries.{first_of, slot_of, step_at, unless_refused, with_slot}
use Rattle.tp_library.specs.Shelves.{load, world_of, Shelf, Stand}
use Rattle.tp_library.specs.declared.LibAnswer.{LibAnswer}
use Rattle.tp_library.specs.declared.LibAnswer.TheVariants as answer
use Rattle.tp_library.specs.declared.LibCall.TheVariants.{FreeOnReturn}
use Rattle.tp_library.specs.declared.LibraryId.{LibraryId}
use Rattle.tp_library.specs.declared.LibRefusal.TheVariants.{NoLoadLeft, NoSuch, NotRunning, Released, SlotTaken}

-- ---- actors

pub numbered_map : {A B : Type 0} (f : A → B) (xs : List A) (number : ℕ) → numbered (map f xs) number ≡ option_map f (numbered xs number)
numbered_map {A} {B} f xs number =
    elim (number == 0) as (λ b. cond b None (slice_get (map f xs) (number - 1)) ≡ option_map f (cond b None (slice_get xs (number - 1)))) [
      | true ↦ refl
      | false ↦ slice_get-map f xs (number - 1)
    ]

pub some_map : {A B : Type 0} (f : A → B) (o : Option A) → is_some (option_map f o) ≡ is_some o
some_map f None = refl
some_map f (Some x) = refl

or_false : (b : Bool) → (b || false) ≡ b
or_false true = refl
or_false false = refl

finished_of : (o : Option ClientRow) → option_map_or (λ (r : ClientRow). r.finished) o false ≡ unwrap_or (option_map (λ (r : ClientRow). r.finished) o) false
finished_of None = refl
finished_of (Some row) = refl

module _ (w : World) (a : Acting) (are : AreActors w a) where
  client_there : (number : ℕ) → is_some (numbered a.finished number) ≡ is_some (numbered w.clients number)
  client_there number = ap (λ xs. is_some (numbered xs number)) are.finished ∙ ap is_some (numbered_map (λ (r : ClientRow). r.finished) w.clients number) ∙ some_map (λ (r : ClientRow). r.finished) (numbered w.clients number)

  run_numbered : (number : ℕ) → numbered a.runs number ≡ option_map (run_in w) (option_map (λ (r : WorkerRow). r.callback) (numbered w.workers number))
  run_numbered number = ap (λ xs. numbered xs number) are.runs ∙ numbered_map (run_in w) (runs_of w) number ∙ ap (option_map (run_in w)) (numbered_map (λ (r : WorkerRow). r.callback) w.workers number)

  worker_there : (number : ℕ) → is_some (numbered a.runs number) ≡ is_some (numbered w.workers number)
  worker_there number =
      ap is_some (run_numbered number)
      ∙ some_map (run_in w) (option_map (λ (r : WorkerRow). r.callback) (numbered w.workers number))
      ∙ some_map (λ (r : WorkerRow). r.callback) (numbered w.workers number)

  same_actor : (who : Who) → is_actor w who ≡ is_there a who
  same_actor (Client number) = or_false (is_some (numbered w.clients number)) ∙ sym (client_there number)
  same_actor (Worker number) = sym (worker_there number)

  same_finished : (who : Who) → is_finished w who ≡ has_finished a who
  same_finished (Client number) = finished_of (numbered w.clients number) ∙ sym (ap (λ o. unwrap_or o false) (ap (λ xs. numbered xs number) are.finished ∙ numbered_map (λ (r : ClientRow). r.finished) w.clients number))
  same_finished (Worker number) = refl

  run_held : (o : Option ℕ) → is_some (run_in w o) ≡ is_some o
  run_held None = refl
  run_held (Some number) = refl

  row_runs : (o : Option WorkerRow) → option_map_or (λ (r : WorkerRow). is_some r.callback) o false ≡ is_some (unwrap_or (option_map (run_in w) (option_map (λ (r : WorkerRow). r.callback) o)) None)
  row_runs None = refl
  row_runs (Some row) = sym (run_held row.callback)

  same_runs : (who : Who) → runs_callback w who ≡ is_some (run_of a who)
  same_runs (Client number) = refl
  same_runs (Worker number) = row_runs (numbered w.workers number) ∙ sym (ap (λ o. is_some (unwrap_or o None)) (run_numbered number))

-- ---- the refusals

-- a slot is all that is filled
pub slot_parts : (s : Shelf) (who : Who) (library : ℕ) → with_slot s who library ≡ record s { loads = (with_slot s who library).loads; slots = (with_slot s who library).slots }
slot_parts s (Client number) library = refl
slot_parts s (Worker number) library = refl

-- an actor that isn't refused
abbrev pub Acts : Acting → Who → Type 0
Acts a who = (is_there a who ≡ true) × (has_finished a who ≡ false)

pub acts : (a : Acting) (who : Who) → refused_actor a who ≡ None → Acts a who
acts a who = of_tests (is_there a who) (has_finished a who)
  where
    of_tests : (there finished : Bool) → cond there (cond finished (Some Released) None) (Some NoSuch) ≡ None → (there ≡ true) × (finished ≡ false)
    of_tests true true e = absurd cc
    of_tests true false e = (refl, refl)
    of_tests false finished e = absurd cc

module _ (t : Stand) (a : Acting) (who : Who) (library : LibraryId) (are : AreActors (world_of t) a) (can : Acts a who) where
  there : is_actor (world_of t) who ≡ true
  there = same_actor (world_of t) a are who ∙ can.0

  unfinished : is_finished (world_of t) who ≡ false
  unfinished = same_finished (world_of t) a are who ∙ can.1

  -- what is left of the refusals of a call that frees at a return
  left_over : Bool → Stand × LibAnswer
  left_over runs = unless_refused (cond (not runs) (Some NotRunning) (first_of ((not (slot_of t.shelf who == 0), SlotTaken) ∷ (load t.shelf library.0 == 0, NoLoadLeft) ∷ []))) t (record t { shelf = with_slot t.shelf who library.0 }, answer.Done)

  begins : (runs : Bool) → is_some (run_of a who) ≡ runs → step_at t who (FreeOnReturn library) ≡ left_over runs
  unfolding left_over
  begins runs is = rw (there, unfinished, same_runs (world_of t) a are who, is) refl

  pub not_running : is_some (run_of a who) ≡ false → step_at t who (FreeOnReturn library) ≡ (t, answer.Refused NotRunning)
  unfolding left_over
  not_running is = begins false is

  pub slot_taken : is_some (run_of a who) ≡ true → (slot_of t.shelf who == 0) ≡ false → step_at t who (FreeOnReturn library) ≡ (t, answer.Refused SlotTaken)
  unfolding left_over
  slot_taken is taken = begins true is ∙ rw taken refl

  pub no_load_left : is_some (run_of a who) ≡ true → (slot_of t.shelf who == 0) ≡ true → (load t.shelf library.0 == 0) ≡ true → step_at t who (FreeOnReturn library) ≡ (t, answer.Refused NoLoadLeft)
  unfolding left_over
  no_load_left is free none = begins true is ∙ rw (free, none) refl

  pub slot_filled : is_some (run_of a who) ≡ true → (slot_of t.shelf who == 0) ≡ true → (load t.shelf library.0 == 0) ≡ false → step_at t who (FreeOnReturn library) ≡ (record t { shelf = with_slot t.shelf who library.0 }, answer.Done)
  unfolding left_over
  slot_filled is free some = begins true is ∙ rw (free, some) refl
