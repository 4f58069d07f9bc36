-- What a call that is answered behind a legal history makes of the machine.
use Rattle.std.proofs.Common.{◌≡◌, ℕ, ◌+◌, ◌≤◌, Bool, true, false, cond, List, [], ◌∷◌, length, drop, None, refl, sym, ap, ◌∙◌, subst, arith, eq-eqb, length-append, if◌then◌else◌}
use Rattle.std.specs.List.{AllByRecursion, range_with_len}
use Rattle.std.proofs.lemmas.List.{drop_at, length-replicate}
use Rattle.std.proofs.lemmas.List.FromFn.{length-range_with_len}
use Rattle.tp_base.specs.Ranges.{IsAnswerInRange}
use Rattle.tp_base.specs.declared.answers.Answer.{Answer}
use Rattle.tp_base.specs.declared.answers.Answer.TheVariants.{Advanced, Closed, Count, Made, Queued, Refused, Returned, Started, WasSet}
use Rattle.tp_base.specs.declared.answers.Entry.{Entry}
use Rattle.tp_base.specs.declared.answers.Outcome.TheVariants as outcome
use Rattle.tp_base.specs.declared.answers.Refusal.{Refusal}
use Rattle.tp_base.specs.declared.calls.Call.{Call}
use Rattle.tp_base.specs.declared.calls.Call.TheVariants.{CloseObject, Create, SubmitSimple}
use Rattle.tp_base.specs.declared.ids.ObjectId.{ObjectId}
use Rattle.tp_base.specs.declared.ids.Who.{Who}
use Rattle.tp_base.specs.declared.limits.Limits.{Limits}
use Rattle.tp_base.specs.declared.plans.Awaited.TheVariants as awaited
use Rattle.tp_base.specs.declared.plans.Change.{Change}
use Rattle.tp_base.specs.declared.plans.Change.TheVariants as change
use Rattle.tp_base.specs.declared.plans.IoStep.TheVariants.{Complete, GiveUp, Issue}
use Rattle.tp_base.specs.declared.rows.CallbackRow.{CallbackRow}
use Rattle.tp_model.specs.Changes.{changed}
use Rattle.tp_model.specs.History.{IsLegal, is_refusal, led_to, room}
use Rattle.tp_model.specs.Laws.Entries.{created_answer, is_complete_call, is_for_group, made_by, simple_by, simple_call}
use Rattle.tp_model.specs.Step.{outcome_of}
use Rattle.tp_model.specs.Support.Allowed.{IsAllowed}
use Rattle.tp_model.specs.Support.Moves.{HasCreated, Moves}
use Rattle.tp_model.specs.Support.Sound.{IsSound}
use Rattle.tp_model.specs.Support.Told.{Told, told_by_change}
use Rattle.tp_model.specs.Table.{step}
use Rattle.tp_model.specs.World.{World, opening, unattached, unfinished}
use Rattle.tp_model.proofs.Entries as Along
use Rattle.tp_model.proofs.Entries.{Accepts, Entered, entered, entry_leads, IsAccepted, kept_to_end, LeadsOn, next_number_in, Refuses}
use Rattle.tp_model.proofs.Few.{AreFew, few_more, rows_same}
use Rattle.tp_model.proofs.Lists.{all_along}
use Rattle.tp_model.proofs.Sound.{opening_sound}
use Rattle.recorded.specs.Recordings.{outcome_behind, room_of, Recording, recorded, world_behind}
use Rattle.recorded.proofs.Histories.{after_append, legal_append}
use Rattle.tp_library.specs.Counted.{applied, Closes, finished_in, finished_told, objects_told, on_objects, with_finished}
use Rattle.tp_library.proofs.Answering.{kept_counts}
use Rattle.tp_library.proofs.Changing.{clients_changed, HasHomeBy, homes_changed, made_by_change, objects_changed}
use Rattle.tp_library.proofs.Effects.{Effects, HasHome, IsKept, IsNumberedOn, IsSame, IsSimple, IsUnreleased, Moved, WasUnreleased}
use Rattle.tp_library.proofs.Moving.{move_cut, move_workers}
use Rattle.tp_library.proofs.News.{made_left, made_runs, new_told, no_numbers, numbers_new, range_same}
use Rattle.tp_library.proofs.Shelving.{kept_length, kept_row, shelf_kept}
use Rattle.tp_library.proofs.Telling.{Effect, effect_of, effect_told, is_simple, is_simple_call, plan_tells, Tells}

-- ---- objects by their numbers

numbered_on : (w : World) (call : Call) (a : Answer) (now : ℕ) → HasCreated (created_answer a call) (length w.objects) now → IsNumberedOn w call a
numbered_on w (Create kind routine context env) (Made number) now h = h.0
numbered_on w call a now h = tt

-- a change that closes an object
closes : (next_number : ℕ) (w : World) (ch : Change) → IsAllowed next_number w ch → (object : ObjectId) → Closes object ≡ (effect_of ch).objects → IsUnreleased w object
closes next_number w (change.ReleaseObject other) a object e =
    let same : other ≡ object = cc in
    subst (IsUnreleased w) same (record { row = a.row; stands = a.stands; unreleased = a.unreleased })
closes next_number w (change.Operate c Issue) a object e = absurd cc
closes next_number w (change.Operate c GiveUp) a object e = absurd cc
closes next_number w (change.Operate c (Complete error bytes)) a object e = absurd cc
closes next_number w (change.BeginWait who (awaited.Object other) cancel) a object e = absurd cc
closes next_number w (change.BeginWait who (awaited.Kernel kernel) cancel) a object e = absurd cc
closes next_number w _ a object e = absurd cc

was_unreleased : (w : World) (call : Call) (a : Answer) → ((object : ObjectId) → Closes object ≡ on_objects call a → IsUnreleased w object) → WasUnreleased w call a
was_unreleased w (CloseObject kind object) (Closed later) of = of object refl
was_unreleased w call a of = tt

-- ---- callbacks that are made

-- a change that makes a simple callback makes one
one_made : (next_number : ℕ) (w : World) (ch : Change) → true ≡ (effect_of ch).simple → (told_by_change next_number w ch).made ≡ next_number ∷ []
one_made next_number w (change.QueueCallback c) e = refl
one_made next_number w (change.Operate c Issue) e = absurd cc
one_made next_number w (change.Operate c GiveUp) e = absurd cc
one_made next_number w (change.Operate c (Complete error bytes)) e = absurd cc
one_made next_number w (change.BeginWait who (awaited.Object other) cancel) e = absurd cc
one_made next_number w (change.BeginWait who (awaited.Kernel kernel) cancel) e = absurd cc
one_made next_number w _ e = absurd cc

simple_one : (w : World) (who : Who) (call : Call) (a : Answer) (new : List CallbackRow) → made_by (record { who = who; call = call; answer = a }) ≡ range_with_len (length w.callbacks + 1) (length new)
    → (true ≡ is_simple call a → made_by (record { who = who; call = call; answer = a }) ≡ (length w.callbacks + 1) ∷ []) → IsSimple w call a new
simple_one w who (SubmitSimple routine context env) (Queued first count) new numbers one =
    let here = range_same first count (length w.callbacks + 1) 1 (one refl) in
    let all = range_same first count (length w.callbacks + 1) (length new) numbers in
    (here.1 (omega (arith, here.0)), here.0, omega (arith, here.0, all.0))
simple_one w who call a new numbers one = tt

not_simple : (call : Call) (a : Answer) → is_simple_call call ≡ false → is_simple call a ≡ false
not_simple call (Queued first count) none = none
not_simple call _ none = refl

-- a simple callback has no object, and any other one has its own
at_home : (w : World) (who : Who) (call : Call) (a : Answer) (new : List CallbackRow) → is_refusal a ≡ false → AllByRecursion (HasHomeBy w (is_simple call a)) new
    → ((group : ℕ) → is_for_group group (simple_by (record { who = who; call = call; answer = a })) ≡ true → AllByRecursion (λ (c : CallbackRow). (c.object.0 ≡ 0) × (c.group.0 ≡ group)) new)
    → AllByRecursion (HasHome w call) new
at_home w who (SubmitSimple routine context env) a new taken all simples =
    all_along (λ (c : CallbackRow). (c.object.0 ≡ 0) × (c.group.0 ≡ env.group.0)) (λ (c : CallbackRow). c.object.0 ≡ 0) (λ c here. here.0) new
    (simples env.group.0 (ap (λ b. is_for_group env.group.0 (if b then None else simple_call (SubmitSimple routine context env))) taken ∙ eq-eqb env.group.0 env.group.0 refl))
at_home w who call a new taken all simples = subst (λ b. AllByRecursion (HasHomeBy w b) new) (not_simple call a refl) all

-- ---- an entry of a legal history

module _ (limits : Limits) (w : World) (left : ℕ) (who : Who) (call : Call) (a : Answer) (sound : IsSound (next_number_in w) w) (few : AreFew limits w) (told : outcome_of (step w left who call) ≡ outcome.Done a) where
  -- all that doesn't depend on what the change is
  moved : (after : World) → LeadsOn w (record { who = who; call = call; answer = a }) after → AreFew limits after → after.objects ≡ objects_told call a w.objects → WasUnreleased w call a → finished_in after ≡ finished_told who call a (finished_in w)
      → ((m : Moves (next_number_in w) w (record { who = who; call = call; answer = a }) after) → IsKept w who call a m.kept × AllByRecursion (HasHome w call) m.new × IsSimple w call a m.new)
      → Moved limits w who call a after
  moved after on few_after objects closed clients callbacks =
      let m : Moves (next_number_in w) w (record { who = who; call = call; answer = a }) after = on.leads.moves in
      let c = callbacks m in
      record {
        sound = sound;
        few = few;
        sound_after = on.sound;
        few_after = few_after;
        objects = objects;
        numbered_on = numbered_on w call a (length after.objects) on.leads.groups.counts;
        closed = closed;
        clients = clients;
        workers = move_workers w (next_number_in w) sound.numbers (record { who = who; call = call; answer = a }) m.kept after.workers m.move;
        kept = m.kept;
        new = m.new;
        callbacks = m.callbacks;
        kept_length = kept_length w who call a after sound m;
        counts = c.0;
        numbers = m.made ∙ numbers_new (next_number_in w) m.new m.rows;
        new_left = λ s library. made_left s library (next_number_in w) m.new m.rows;
        new_runs = λ s library. made_runs s library (next_number_in w) m.new m.rows;
        rows = new_told w after m.kept m.new on.sound m.callbacks (kept_length w who call a after sound m) m.rows;
        homes = c.1;
        simple = c.2;
        keeps = kept_row w who call a after sound m;
        shelf = λ s library fits. shelf_kept w who call a after sound m s library fits c.2 on.leads.groups.counts;
      }

  accepted : IsAccepted w left (record { who = who; call = call; answer = a }) → AreFew limits (led_to w (record { who = who; call = call; answer = a })) → Moved limits w who call a (led_to w (record { who = who; call = call; answer = a }))
  accepted e few_after =
      let on : LeadsOn w (record { who = who; call = call; answer = a }) (changed w e.change)
      = subst (LeadsOn w (record { who = who; call = call; answer = a })) e.leads (entry_leads w left (record { who = who; call = call; answer = a }) sound told) in
      subst (Moved limits w who call a) (sym e.leads)
      (moved (changed w e.change) on (subst (AreFew limits) e.leads few_after)
      (objects_changed w e.change ∙ sym (ap (λ (x : Effect). applied x.objects w.objects) effect))
      (was_unreleased w call a (λ object is. closes (next_number_in w) w e.change e.safe.allowed object (is ∙ ap (λ (x : Effect). x.objects) effect)))
      (clients_changed w e.change ∙ sym (ap (λ (x : Effect). with_finished x.finished (finished_in w)) effect))
      (λ m. (kept_counts (next_number_in w) w sound who e.change e.safe.allowed call a m effect e.safe.tells, homes m, simple_one w who call a m.new (m.made ∙ numbers_new (next_number_in w) m.new m.rows) one)))
    where
      effect : effect_told who call a ≡ effect_of e.change
      effect = subst (Tells who call) e.plan_is (plan_tells w left who call)

      one : true ≡ is_simple call a → made_by (record { who = who; call = call; answer = a }) ≡ next_number_in w ∷ []
      one is = ap (λ (t : Told). t.made) e.safe.tells ∙ one_made (next_number_in w) w e.change (is ∙ ap (λ (x : Effect). x.simple) effect)

      homes : (m : Moves (next_number_in w) w (record { who = who; call = call; answer = a }) (changed w e.change)) → AllByRecursion (HasHome w call) m.new
      homes m =
          let by_place : made_by_change w e.change ≡ m.new
          = ap (drop (length w.callbacks)) m.callbacks ∙ drop_at m.kept m.new (length w.callbacks) (kept_length w who call a (changed w e.change) sound m) in
          at_home w who call a m.new e.safe.accepted
          (subst (λ b. AllByRecursion (HasHomeBy w b) m.new) (sym (ap (λ (x : Effect). x.simple) effect)) (subst (AllByRecursion (HasHomeBy w (effect_of e.change).simple)) by_place (homes_changed (next_number_in w) w sound e.change e.safe.allowed)))
          m.simples

-- a refused call changes nothing
refused : (limits : Limits) (w : World) (left : ℕ) (who : Who) (call : Call) (refusal : Refusal) (sound : IsSound (next_number_in w) w) (few : AreFew limits w) → outcome_of (step w left who call) ≡ outcome.Done (Refused refusal)
    → LeadsOn w (record { who = who; call = call; answer = Refused refusal }) w → Moved limits w who call (Refused refusal) w
refused limits w left who call refusal sound few told on =
    moved limits w left who call (Refused refusal) sound few told w on few refl (was_unreleased w call (Refused refusal) (λ object e. absurd cc)) refl
    (λ m. (same m, subst (AllByRecursion (HasHome w call)) (sym (none m)) tt, simple_one w who call (Refused refusal) m.new (m.made ∙ numbers_new (next_number_in w) m.new m.rows) (λ e. absurd cc)))
  where
    made_none : (b : Bool) → ◌≡◌ {A = List ℕ} (cond b [] []) []
    made_none true = refl
    made_none false = refl

    none : (m : Moves (next_number_in w) w (record { who = who; call = call; answer = Refused refusal }) w) → m.new ≡ []
    none m = no_numbers m.new (sym m.made ∙ made_none (is_complete_call call))

    same : (m : Moves (next_number_in w) w (record { who = who; call = call; answer = Refused refusal }) w) → IsSame w m.kept
    same m =
        let cut = move_cut w (next_number_in w) sound.numbers (record { who = who; call = call; answer = Refused refusal }) m.kept w.workers m.move refl refl refl in
        record { left = cut.left refl; runs = cut.runs }

pub entry_moved : (limits : Limits) (w : World) (left : ℕ) (who : Who) (call : Call) (a : Answer) → IsSound (next_number_in w) w → AreFew limits w → outcome_of (step w left who call) ≡ outcome.Done a
    → Moved limits w who call a (led_to w (record { who = who; call = call; answer = a }))
entry_moved limits w left who call a sound few told = of_entry (entered w left (record { who = who; call = call; answer = a }) sound told)
  where
    on : LeadsOn w (record { who = who; call = call; answer = a }) (led_to w (record { who = who; call = call; answer = a }))
    on = entry_leads w left (record { who = who; call = call; answer = a }) sound told

    few_after : AreFew limits (led_to w (record { who = who; call = call; answer = a }))
    few_after = few_more limits w left (record { who = who; call = call; answer = a }) (led_to w (record { who = who; call = call; answer = a })) on.leads (rows_same w left (record { who = who; call = call; answer = a }) sound told) few told

    of_refusal : (refusal : Refusal) (b : Answer) → b ≡ Refused refusal → outcome_of (step w left who call) ≡ outcome.Done b → LeadsOn w (record { who = who; call = call; answer = b }) w → Moved limits w who call b w
    of_refusal refusal b same came leads =
        subst (λ (x : Answer). Moved limits w who call x w) (sym same)
        (refused limits w left who call refusal sound few (came ∙ ap (λ x. outcome.Done x) same) (subst (λ (x : Answer). LeadsOn w (record { who = who; call = call; answer = x }) w) same leads))

    of_entry : Entered w left (record { who = who; call = call; answer = a }) → Moved limits w who call a (led_to w (record { who = who; call = call; answer = a }))
    of_entry (Accepts e) = accepted limits w left who call a sound few told e few_after
    of_entry (Refuses refusal same stays) = subst (Moved limits w who call a) (sym stays) (of_refusal refusal a same told (subst (LeadsOn w (record { who = who; call = call; answer = a })) stays on))

-- ---- behind a recording

pub record Reached (r : Recording) : Type 0 where
  pub sound : IsSound (length (world_behind r).callbacks + 1) (world_behind r)
  pub few : AreFew r.limits (world_behind r)

record Holds (limits : Limits) (before : List Entry) (w : World) : Type 0 where
  pub sound : IsSound (next_number_in w) w
  pub few : AreFew limits w

pub opening_few : (limits : Limits) → AreFew limits (opening limits)
opening_few limits = record { limits_same = refl; objects = omega arith; clients = length-replicate limits.clients unfinished; workers = length-replicate limits.workers unattached }

keeps : (limits : Limits) → Along.IsKept (Holds limits)
keeps limits before w left entry h told =
    let on = entry_leads w left entry h.sound told in
    record { sound = on.sound; few = few_more limits w left entry (led_to w entry) on.leads (rows_same w left entry h.sound told) h.few told }

pub reached : (r : Recording) → IsLegal r.limits r.capacity r.history → Reached r
reached r legal =
    let h : Holds r.limits r.history (world_behind r)
    = kept_to_end (Holds r.limits) (keeps r.limits) r.capacity 0 [] r.history (opening r.limits) (record { sound = opening_sound r.limits; few = opening_few r.limits }) legal in
    record { sound = h.sound; few = h.few }

module _ (r : Recording) (legal : IsLegal r.limits r.capacity r.history) (who : Who) (call : Call) (a : Answer) (told : outcome_behind r who call ≡ outcome.Done a) where
  led : world_behind (recorded r who call (outcome.Done a)) ≡ led_to (world_behind r) (record { who = who; call = call; answer = a })
  led = after_append (opening r.limits) r.history (record { who = who; call = call; answer = a } ∷ [])

  pub effects_of : Effects r who call a
  effects_of =
      let h : Reached r = reached r legal in
      subst (Moved r.limits (world_behind r) who call a) (sym led) (entry_moved r.limits (world_behind r) (room_of r) who call a h.sound h.few told)

  pub legal_after : IsLegal r.limits r.capacity (recorded r who call (outcome.Done a)).history
  legal_after =
      let sum : length r.history ≡ 0 + length r.history = omega arith in
      legal_append (opening r.limits) r.capacity 0 r.history (record { who = who; call = call; answer = a } ∷ []) legal
      (subst (λ n. outcome_of (step (world_behind r) (room r.capacity (world_behind r) n) who call) ≡ outcome.Done a) sum told, tt)

-- ---- how many are made

either_few : (b : Bool) (numbers : List ℕ) → length numbers ≤ 65535 → length (if b then [] else numbers) ≤ 65535
either_few true numbers few = omega arith
either_few false numbers few = few

told_few : (who : Who) (call : Call) (a : Answer) → IsAnswerInRange a → length (made_by (record { who = who; call = call; answer = a })) ≤ 65535
told_few who call (Queued first count) within = either_few (is_complete_call call) (range_with_len first count) (omega (arith, within.1, length-range_with_len first count))
told_few who call (WasSet was first count) within = either_few (is_complete_call call) (range_with_len first count) (omega (arith, within.1, length-range_with_len first count))
told_few who call (Count previous first count) within = either_few (is_complete_call call) (range_with_len first count) (omega (arith, within.2, length-range_with_len first count))
told_few who call (Advanced now first count) within = either_few (is_complete_call call) (range_with_len first count) (omega (arith, within.2, length-range_with_len first count))
told_few who call (Returned section mutex semaphore event first count) within = either_few (is_complete_call call) (range_with_len first count) (omega (arith, within.1, length-range_with_len first count))
told_few who call (Started callback) within = elim (is_complete_call call) as (λ b. length (callback ∷ cond b [] []) ≤ 65535) [ true ↦ omega arith | false ↦ omega arith ]
told_few who call _ within = either_few (is_complete_call call) [] (omega arith)

-- a call makes no more callbacks than a line can tell
pub made_few : (limits : Limits) (w : World) (who : Who) (call : Call) (a : Answer) (after : World) (m : Moved limits w who call a after) → IsAnswerInRange a → length m.new ≤ 65535
made_few limits w who call a after m within = omega (arith, told_few who call a within, ap length m.numbers, length-range_with_len (length w.callbacks + 1) (length m.new))

-- and so all of them are no more than that for each entry
pub callbacks_few : (limits : Limits) (w : World) (who : Who) (call : Call) (a : Answer) (after : World) → Moved limits w who call a after → IsAnswerInRange a → length after.callbacks ≤ length w.callbacks + 65535
callbacks_few limits w who call a after m within =
    omega (arith, made_few limits w who call a after m within, m.kept_length, ap length m.callbacks, length-append m.kept m.new)
