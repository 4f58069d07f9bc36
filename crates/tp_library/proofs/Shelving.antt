-- A shelf behind a call has each callback that there was in the library that it was in.
use Rattle.std.proofs.Common.{◌≡◌, ℕ, ◌+◌, ◌<◌, true, false, cond, ◌&&◌, ◌==◌, List, [], ◌∷◌, length, Some, sym, ap, ap₂, ◌∙◌, subst, arith, find, length-append}
use Rattle.std.specs.List.{AllByRecursion}
use Rattle.tp_base.specs.declared.answers.Answer.{Answer}
use Rattle.tp_base.specs.declared.answers.Answer.TheVariants.{Made, Queued}
use Rattle.tp_base.specs.declared.calls.Call.{Call}
use Rattle.tp_base.specs.declared.calls.Call.TheVariants.{Create, SubmitSimple}
use Rattle.tp_base.specs.declared.ids.ObjectId.{ObjectId}
use Rattle.tp_base.specs.declared.ids.Who.{Who}
use Rattle.tp_base.specs.declared.rows.CallbackRow.{CallbackRow}
use Rattle.tp_model.specs.Counts.{has_number, is_running}
use Rattle.tp_model.specs.Laws.Entries.{created_answer}
use Rattle.tp_model.specs.Laws.Once.{is_left}
use Rattle.tp_model.specs.Support.Moves.{HasCreated, Moves}
use Rattle.tp_model.specs.Support.Sound.{IsMade, IsSound}
use Rattle.tp_model.specs.World.{World}
use Rattle.tp_model.proofs.Lists.{all_along, all_appended, all_below, find_all}
use Rattle.tp_model.proofs.Places.{find_front}
use Rattle.tp_library.specs.Counted.{is_left_in, is_run_in, IsShelfOf}
use Rattle.tp_library.specs.Libraries.{shelf_answered}
use Rattle.tp_library.specs.Shelves.{library_at, library_of, Shelf}
use Rattle.tp_library.proofs.Counting.{count_agree}
use Rattle.tp_library.proofs.Effects.{IsKeptRow, IsShelfKept, IsSimple}
use Rattle.tp_library.proofs.Growing.{answered, AreFrom, Grows, library_still, more_objects, more_simples}
use Rattle.tp_library.proofs.Moving.{found_number, some_same}
use Rattle.tp_library.proofs.Staying.{AllOf, AreStill, IsFoundAs, IsOfMade, move_still, rising_below, sound_made}

-- made before a number, and of no object or of one that was made
abbrev pub IsPlaced : ℕ → ℕ → ℕ → ObjectId → Type 0
IsPlaced next_number objects number object = (number < next_number) × IsOfMade objects number object

all_both : {X : Type 0} (P Q : X → Type 0) (xs : List X) → AllByRecursion P xs → AllByRecursion Q xs → AllByRecursion (λ x. P x × Q x) xs
all_both P Q [] all also = tt
all_both P Q (x ∷ xs) all also = ((all.0, also.0), all_both P Q xs all.1 also.1)

pub all_placed : (next_number : ℕ) (w : World) → IsSound next_number w → AllOf (IsPlaced next_number (length w.objects)) w.callbacks
all_placed next_number w sound =
    all_both (λ (c : CallbackRow). c.number < next_number) (λ (c : CallbackRow). IsOfMade (length w.objects) c.number c.object) w.callbacks
    (rising_below 1 next_number w.callbacks sound.numbers)
    (sound_made w.objects w.callbacks sound.callback_objects)

-- ---- one place more at most

-- as many objects as places
objects_more : (call : Call) (library : ℕ) (a : Answer) (before now : ℕ) → HasCreated (created_answer a call) before now → now ≡ before + length (more_objects call library a)
objects_more (Create kind routine context env) library (Made number) before now h = h.1
objects_more (Create kind routine context env) library _ before now h = omega (arith, h)
objects_more _ library (Made number) before now h = omega (arith, h)
objects_more call library a before now h = omega (arith, h)

simples_from : (w : World) (call : Call) (library : ℕ) (a : Answer) (new : List CallbackRow) → IsSimple w call a new → AreFrom (length w.callbacks + 1) (more_simples call library a)
simples_from w (SubmitSimple routine context env) library (Queued first count) new simple =
    elim (library == 0) as (λ b. AreFrom (length w.callbacks + 1) (cond b [] ((first, library) ∷ []))) [ true ↦ tt | false ↦ (omega (arith, simple.0), tt) ]
simples_from w call library a new simple = tt

simples_below : (w : World) (call : Call) (library : ℕ) (a : Answer) (new : List CallbackRow) (most : ℕ) → IsSimple w call a new → length w.callbacks + length new < most → AllByRecursion (λ (m : ℕ × ℕ). m.0 < most) (more_simples call library a)
simples_below w (SubmitSimple routine context env) library (Queued first count) new most simple below =
    elim (library == 0) as (λ b. AllByRecursion (λ (m : ℕ × ℕ). m.0 < most) (cond b [] ((first, library) ∷ []))) [ true ↦ tt | false ↦ (omega (arith, simple.0, simple.2, below), tt) ]
simples_below w call library a new most simple below = tt

-- ---- the shelf behind a call

module _ (w : World) (who : Who) (call : Call) (a : Answer) (after : World) (sound : IsSound (length w.callbacks + 1) w) (m : Moves (length w.callbacks + 1) w (record { who = who; call = call; answer = a }) after) where
  still : AreStill (IsPlaced (length w.callbacks + 1) (length w.objects)) w.callbacks m.kept
  still = move_still (IsPlaced (length w.callbacks + 1) (length w.objects)) w (all_placed (length w.callbacks + 1) w sound) (record { who = who; call = call; answer = a }) m.kept after.workers m.move

  pub kept_length : length m.kept ≡ length w.callbacks
  kept_length = still.length_same

  -- the row of a number is found, with its object
  pub kept_row : (number : ℕ) (c : CallbackRow) → find (has_number number) w.callbacks ≡ Some c → IsKeptRow after number c
  kept_row number c found =
      let f : IsFoundAs m.kept number c.object = still.found number c found in
      record { row = f.row; found = ap (find (has_number number)) m.callbacks ∙ find_front number m.kept m.new f.row f.found; object = f.same }

  module _ (s : Shelf) (library : ℕ) (fits : IsShelfOf s w) (simple : IsSimple w call a m.new) (counts : HasCreated (created_answer a call) (length w.objects) (length after.objects)) where
    abbrev now : Shelf
    now = shelf_answered s who call library a

    grown : Grows s now (more_objects call library a) (more_simples call library a)
    grown = answered s who call library a

    placed_same : (number : ℕ) (object : ObjectId) → IsPlaced (length w.callbacks + 1) (length w.objects) number object → library_at now number object.0 ≡ library_at s number object.0
    placed_same number object placed =
        library_still s now (more_objects call library a) (more_simples call library a) grown number (length w.callbacks + 1) object.0 placed.0
        (λ some. subst (λ n. IsMade n object.0) (sym fits.objects) (placed.1 some))
        (simples_from w call library a m.new simple)

    kept_same : AllByRecursion (λ (c : CallbackRow). library_of now c ≡ library_of s c) m.kept
    kept_same = all_along (λ (c : CallbackRow). IsPlaced (length w.callbacks + 1) (length w.objects) c.number c.object) (λ (c : CallbackRow). library_of now c ≡ library_of s c) (λ c placed. placed_same c.number c.object placed) m.kept still.all

    row_same : (number : ℕ) (c : CallbackRow) → find (has_number number) w.callbacks ≡ Some c → library_of now c ≡ library_of s c
    row_same number c found =
        placed_same c.number c.object
        (find_all (λ (d : CallbackRow). IsPlaced (length w.callbacks + 1) (length w.objects) d.number d.object) (has_number number) c w.callbacks (all_placed (length w.callbacks + 1) w sound) found)

    later_same : (number : ℕ) (c d : CallbackRow) → find (has_number number) w.callbacks ≡ Some c → find (has_number number) after.callbacks ≡ Some d → library_of now d ≡ library_of s c
    later_same number c d found there =
        let k : IsKeptRow after number c = kept_row number c found in
        let is : k.row ≡ d = some_same k.row d (sym k.found ∙ there) in
        let numbers : d.number ≡ c.number = found_number number d after.callbacks there ∙ sym (found_number number c w.callbacks found) in
        let objects : d.object ≡ c.object = ap (λ (x : CallbackRow). x.object) (sym is) ∙ k.object in
        ap₂ (λ n (o : ObjectId). library_at now n o.0) numbers objects ∙ row_same number c found

    all_fit : IsShelfOf now after
    all_fit = record {
      objects = ap length grown.of_object ∙ length-append s.of_object (more_objects call library a) ∙ ap (λ n. n + length (more_objects call library a)) fits.objects ∙ sym (objects_more call library a (length w.objects) (length after.objects) counts);
      simples =
          let long : length after.callbacks ≡ length w.callbacks + length m.new = ap length m.callbacks ∙ length-append m.kept m.new ∙ ap (λ n. n + length m.new) kept_length in
          subst (AllByRecursion (λ (x : ℕ × ℕ). x.0 < length after.callbacks + 1)) (sym grown.of_simple)
          (all_appended (λ (x : ℕ × ℕ). x.0 < length after.callbacks + 1) s.of_simple (more_simples call library a)
          (all_below (λ (x : ℕ × ℕ). x.0) (length w.callbacks + 1) (length after.callbacks + 1) (omega (arith, long)) s.of_simple fits.simples)
          (simples_below w call library a m.new (length after.callbacks + 1) simple (omega (arith, long))));
    }

    pub shelf_kept : IsShelfKept s (shelf_answered s who call library a) w after m.kept
    shelf_kept = record {
      left = λ l. count_agree (is_left_in now l) (is_left_in s l) m.kept (all_along (λ (c : CallbackRow). library_of now c ≡ library_of s c) (λ (c : CallbackRow). is_left_in now l c ≡ is_left_in s l c) (λ c same. ap (λ n. is_left c.status && (n == l)) same) m.kept kept_same);
      runs = λ l. count_agree (is_run_in now l) (is_run_in s l) m.kept (all_along (λ (c : CallbackRow). library_of now c ≡ library_of s c) (λ (c : CallbackRow). is_run_in now l c ≡ is_run_in s l c) (λ c same. ap (λ n. is_running c.status && (n == l)) same) m.kept kept_same);
      same = row_same;
      later = later_same;
      fits = all_fit;
    }
