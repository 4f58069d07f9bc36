-- What an answer tells of the callbacks that there were: which of them may still run, and which run.
use Rattle.std.proofs.Common.{◌≡◌, ℕ, ◌≤◌, Bool, true, cond, ◌&&◌, ◌==◌, List, [], ◌++◌, length, Some, None, refl, sym, ap, ◌∙◌, subst, arith, eqb-true, ne_eqb, if◌then◌else◌}
use Rattle.std.proofs.lemmas.List.{append-nil}
use Rattle.tp_base.specs.declared.answers.Answer.{Answer}
use Rattle.tp_base.specs.declared.answers.Answer.TheVariants as answer
use Rattle.tp_base.specs.declared.answers.Entry.{Entry}
use Rattle.tp_base.specs.declared.calls.Call.{Call}
use Rattle.tp_base.specs.declared.calls.Call.TheVariants.{BeginWait, CancelIo}
use Rattle.tp_base.specs.declared.ids.ObjectId.{ObjectId}
use Rattle.tp_base.specs.declared.ids.Who.{Who}
use Rattle.tp_base.specs.declared.plans.Change.{Change}
use Rattle.tp_base.specs.declared.plans.Change.TheVariants as change
use Rattle.tp_base.specs.declared.plans.IoStep.TheVariants.{GiveUp}
use Rattle.tp_base.specs.declared.rows.CallbackRow.{CallbackRow}
use Rattle.tp_base.specs.declared.rows.Status.{Status}
use Rattle.tp_base.specs.declared.rows.WaitTarget.TheVariants.{Object}
use Rattle.tp_model.specs.Changes.{changed, operated, replaced}
use Rattle.tp_model.specs.Counts.{has_number, is_operating, is_pending, is_running}
use Rattle.tp_model.specs.Laws.Once.{is_left}
use Rattle.tp_model.specs.Support.Allowed.{IsAllowed}
use Rattle.tp_model.specs.Support.Moves.{Moves, numbers_of}
use Rattle.tp_model.specs.Support.Sound.{IsMade, IsSound, is_standing}
use Rattle.tp_model.specs.Support.Told.{Told, told_by, told_by_change}
use Rattle.tp_model.specs.Waits.{is_cancelled_by}
use Rattle.tp_model.specs.World.{World}
use Rattle.tp_model.proofs.Cancelling.{cancelled_pending}
use Rattle.tp_model.proofs.Firing.{standing_made}
use Rattle.tp_model.proofs.Lists.{find_all}
use Rattle.tp_model.proofs.Refusals.{both}
use Rattle.tp_library.specs.Counted.{is_left_in, is_run_in, left_in, runs_in}
use Rattle.tp_library.specs.Shelves.{library_at, library_of, library_of_object, library_of_simple, Shelf}
use Rattle.tp_library.proofs.Changing.{Awaits, awaits, GivesUp, gives_up, is_releasing, none_cancelled}
use Rattle.tp_library.proofs.Counting.{as_one, count_all_of, count_replaced, count_same, left_cut, runs_uncut}
use Rattle.tp_library.proofs.Effects.{GivenUp, IsCut, IsKept, WaitedFor}
use Rattle.tp_library.proofs.Moving.{move_cut, move_returned, move_taken, some_same}
use Rattle.tp_library.proofs.News.{no_numbers}
use Rattle.tp_library.proofs.Telling.{Effect, effect_of, effect_told}

-- an object that was made isn't 0
object_library : (s : Shelf) (number object : ℕ) → 1 ≤ object → library_at s number object ≡ library_of_object s object
object_library s number object least = ap (λ b. cond b (library_of_simple s number) (library_of_object s object)) (ne_eqb object 0 (λ e. omega (arith, e, least)))

module _ (next_number : ℕ) (w : World) (sound : IsSound next_number w) (who : Who) (ch : Change) (allowed : IsAllowed next_number w ch) where
  -- what is kept, where nothing is made
  kept_all : (entry : Entry) (m : Moves next_number w entry (changed w ch)) → numbers_of m.new ≡ [] → m.kept ≡ (changed w ch).callbacks
  kept_all entry m none = sym (m.callbacks ∙ ap (λ cs. m.kept ++ cs) (no_numbers m.new none) ∙ append-nil m.kept)

  -- ---- an operation that is given up

  give_up_cut : (object : ObjectId) (kept : List CallbackRow) (row : CallbackRow) → ch ≡ change.Operate row GiveUp → row.object.0 ≡ object.0 → kept ≡ (changed w ch).callbacks → IsCut w object 1 kept
  give_up_cut object kept row is of same =
      let may = subst (IsAllowed next_number w) is allowed in
      let now : kept ≡ replaced (operated GiveUp row) w.callbacks = same ∙ ap (λ c. (changed w c).callbacks) is in
      let standing : is_standing w.objects row.object.0 ≡ true
      = find_all (λ (c : CallbackRow). is_operating c.status ≡ true → is_standing w.objects c.object.0 ≡ true) (has_number row.number) row w.callbacks sound.operations may.found (ap is_operating may.status) in
      let made : IsMade (length w.objects) object.0 = subst (IsMade (length w.objects)) of (standing_made w.objects row.object.0 standing) in
      record {
        stands = made;
        left = λ s library. omega (
          arith,
          count_replaced (is_left_in s library) (operated GiveUp row) row 1 next_number w.callbacks sound.numbers may.found,
          ap (left_in s library) now,
          ap (λ (x : Status). as_one (is_left x && (library_of s row == library))) may.status,
          ap (λ n. as_one (n == library)) (ap (library_at s row.number) of ∙ object_library s row.number object.0 made.0),
        );
        runs = λ s library.
            ap (runs_in s library) now
            ∙ count_same (is_run_in s library) (operated GiveUp row) row 1 next_number w.callbacks sound.numbers may.found (sym (ap (λ (x : Status). is_running x && (library_of s row == library)) may.status));
      }

  given_up : (call : Call) (number : ℕ) (m : Moves next_number w (record { who = who; call = call; answer = answer.Cancelled number }) (changed w ch)) → effect_told who call (answer.Cancelled number) ≡ effect_of ch
      → GivesUp w ch number → GivenUp w call m.kept
  given_up (CancelIo object) number m told g =
      let of : Some object.0 ≡ Some g.row.object.0 = ap (λ (e : Effect). e.given_up) (told ∙ ap effect_of g.is) in
      give_up_cut object m.kept g.row g.is (sym (some_same object.0 g.row.object.0 of)) (kept_all (record { who = who; call = CancelIo object; answer = answer.Cancelled number }) m (sym m.made))
  given_up _ number m told g = absurd (let no : None ≡ Some g.row.object.0 = ap (λ (e : Effect). e.given_up) (told ∙ ap effect_of g.is) in cc)

  -- ---- a wait with cancel

  wait_cut : (object : ObjectId) (cancel : Bool) (count : ℕ) (kept : List CallbackRow) → Awaits w ch object cancel → count ≡ (told_by_change next_number w ch).deed.count → kept ≡ (changed w ch).callbacks → IsCut w object count kept
  wait_cut object cancel count kept a counted same =
      record {
        stands = a.made;
        left = λ s library. omega (
          arith,
          left_cut s library test only w.callbacks,
          ap (left_in s library) (same ∙ a.callbacks),
          count_all_of s library (library_of_object s object.0) test (of s) w.callbacks,
          ap (λ n. if library_of_object s object.0 == library then n else 0) (counted ∙ a.count next_number),
        );
        runs = λ s library. ap (runs_in s library) (same ∙ a.callbacks) ∙ runs_uncut s library test only w.callbacks;
      }
    where
      test : CallbackRow → Bool
      test = is_cancelled_by (Object object) cancel

      only : (c : CallbackRow) → is_cancelled_by (Object object) cancel c ≡ true → is_pending c.status ≡ true
      only = cancelled_pending (Object object) cancel

      of : (s : Shelf) (c : CallbackRow) → is_cancelled_by (Object object) cancel c ≡ true → library_of s c ≡ library_of_object s object.0
      of s c passes =
          let here = both (is_pending c.status) (c.object.0 == object.0) (both cancel (is_pending c.status && (c.object.0 == object.0)) passes).1 in
          ap (library_at s c.number) (eqb-true c.object.0 object.0 here.1) ∙ object_library s c.number object.0 a.made.0

  waited_for : (call : Call) (covered cancelled : ℕ) (m : Moves next_number w (record { who = who; call = call; answer = answer.Begun covered cancelled }) (changed w ch)) → effect_told who call (answer.Begun covered cancelled) ≡ effect_of ch
      → cancelled ≡ (told_by_change next_number w ch).deed.count → WaitedFor w call cancelled m.kept
  waited_for (BeginWait kind object cancel) covered cancelled m told counted =
      wait_cut object cancel cancelled m.kept (awaits next_number w ch allowed object cancel (sym (ap (λ (e : Effect). e.awaited) told))) counted
      (kept_all (record { who = who; call = BeginWait kind object cancel; answer = answer.Begun covered cancelled }) m (sym m.made))
  waited_for call covered cancelled m told counted =
      let none : cancelled ≡ 0 = counted ∙ none_cancelled next_number w ch (sym (ap (λ (e : Effect). e.awaited) told)) (sym (ap (λ (e : Effect). is_releasing e.objects) told)) in
      let cut = move_cut w next_number sound.numbers (record { who = who; call = call; answer = answer.Begun covered cancelled }) m.kept (changed w ch).workers m.move refl refl refl in
      record { left = cut.left none; runs = cut.runs }

  -- ---- each answer

  pub kept_counts : (call : Call) (a : Answer) (m : Moves next_number w (record { who = who; call = call; answer = a }) (changed w ch)) → effect_told who call a ≡ effect_of ch
      → told_by (record { who = who; call = call; answer = a }) ≡ told_by_change next_number w ch → IsKept w who call a m.kept
  kept_counts call (answer.Taken number object routine context result) m told tells =
      move_taken w next_number sound.numbers (record { who = who; call = call; answer = answer.Taken number object routine context result }) m.kept (changed w ch).workers m.move number object refl
  kept_counts call (answer.Returned section mutex semaphore event first count) m told tells =
      move_returned w next_number sound.numbers (record { who = who; call = call; answer = answer.Returned section mutex semaphore event first count }) m.kept (changed w ch).workers m.move
      (record { section = section; mutex = mutex; semaphore = semaphore; event = event }) refl
  kept_counts call (answer.Cancelled number) m told tells = given_up call number m told (gives_up next_number w ch number (sym (ap (λ (t : Told). t.deed.cancelled) tells)))
  kept_counts call (answer.Begun covered cancelled) m told tells = waited_for call covered cancelled m told (ap (λ (t : Told). t.deed.count) tells)
  kept_counts call (answer.Closing covered cancelled notices) m told tells =
      move_cut w next_number sound.numbers (record { who = who; call = call; answer = answer.Closing covered cancelled notices }) m.kept (changed w ch).workers m.move refl refl refl
  kept_counts call a m told tells =
      let cut = move_cut w next_number sound.numbers (record { who = who; call = call; answer = a }) m.kept (changed w ch).workers m.move refl refl refl in
      record { left = cut.left refl; runs = cut.runs }
