-- Every legal history keeps the laws.
use Rattle.std.proofs.Common.{◌≡◌, ◌≢◌, ℕ, List, [], ◌∷◌, ◌++◌, refl, sym, subst, find, Some, true, cond, Bool, false, None, ap₂, ◌∙◌, ◌||◌, ap, append_assoc, append-nil, ◌≤◌, map, length, arith, ◌&&◌}
use Rattle.tp_model.proofs.First.{next_first}
use Rattle.tp_model.specs.Next.{IsNextOrNone}
use Rattle.tp_model.specs.Waits.{is_held_for, wait_of, held}
use Rattle.std.specs.List.{list_any, range_with_len}
use Rattle.tp_base.specs.declared.ids.ObjectId.{ObjectId}
use Rattle.tp_base.specs.declared.ids.Who.{Who}
use Rattle.tp_model.proofs.Refusals.{both, false_true, same_actor_is}
use Rattle.tp_model.proofs.Fates.{taken_from, pending_held, pending_left}
use Rattle.tp_model.specs.Counts.{has_number, is_pending, next}
use Rattle.tp_base.specs.declared.rows.CallbackRow.{CallbackRow}
use Rattle.tp_model.proofs.Ready.{AreReady, takes_ready, are_ready_more}
use Rattle.tp_model.proofs.Covered.{Promises, promises_more, run_at, NoneHeld, GoesOn, unheld, freed, Promised}
use Rattle.tp_model.specs.Laws.Covered.{AreCovered, AreClosed, is_spoken_for, is_spoken_of, lets_go, end_in, ends, IsCovered, AllLetGo, returns, loosens, NoneTakes}
use Rattle.tp_model.proofs.Running.{runs_on_more, AreRunning, IsRunning}
use Rattle.tp_model.proofs.Places.{no_place, any_either, find_behind}
use Rattle.tp_model.specs.Laws.Entries.{closes_pool, Run, run_by, Begins, is_taken, begins_by, Notice, notice_by, is_ending, is_freeing, is_end_call, is_ended_answer, is_last_answer}
use Rattle.tp_base.specs.declared.answers.Entry.{Entry}
use Rattle.tp_base.specs.declared.limits.Limits.{Limits}
use Rattle.tp_base.specs.declared.answers.Answer.TheVariants as answer
use Rattle.tp_base.specs.declared.rows.WaitTarget.TheVariants.{Object, Group, Kernel}
use Rattle.tp_model.specs.World.{World, opening, unattached, unfinished, BegunWait}
use Rattle.tp_model.specs.History.{IsLegal, after, led_to}
use Rattle.tp_model.specs.Support.Sound.{IsSound, IsCallbackSound}
use Rattle.tp_model.specs.Laws.{KeepsLaws}
use Rattle.tp_model.specs.Laws.Actions.{AreActions, count_asked}
use Rattle.tp_base.specs.declared.answers.ActionKind.{ActionKind}
use Rattle.tp_model.proofs.Acting.{AreActing, are_acting_more, return_tells, at_most_one}
use Rattle.tp_model.specs.Laws.Once.{AreOnce}
use Rattle.tp_model.specs.Laws.Maximum.{IsWithinMaximum}
use Rattle.tp_model.proofs.Sound.{opening_sound}
use Rattle.tp_model.proofs.Entries.{next_number_in, LeadsOn, entry_leads, IsKept, kept_to_end, kept_to_entry, Reached}
use Rattle.tp_model.proofs.Once.{AgreesAfter, agrees_on, takes_uncancelled, made_in_order, taken_once, left_untaken, made_are}
use Rattle.tp_model.specs.Laws.Io.{AreOperated}
use Rattle.tp_model.proofs.Io.{AreOnTheirWay, on_their_way_more, are_operated_after}
use Rattle.tp_model.specs.Laws.Armed.{AreArmed}
use Rattle.tp_model.proofs.Armed.{ArmedAfter, opening_armed, armed_more, are_armed_after}
use Rattle.tp_model.proofs.Maximum.{IsStaffed, is_staffed_on, takes_below, opening_staffed}
use Rattle.tp_base.specs.declared.rows.WaitTarget.{WaitTarget}
use Rattle.tp_base.specs.declared.ids.GroupId.{GroupId}
use Rattle.tp_model.specs.Conditions.{is_actor, is_in_wait}
use Rattle.tp_model.specs.Stages.{IsActor}
use Rattle.tp_model.proofs.Few.{AreFew, few_actor, few_more, rows_same}
use Rattle.tp_model.specs.Laws.Notices.{numbers_created, IsClosing, AreNoticed, IsFront, IsSettled, given, given_by, notices_due, due_to}
use Rattle.tp_model.proofs.Notices.{IsNoticing, AreDue, AreNumbered, AreNoticing, AreClosings, due_more, numbered_more, noticing_more, closings_more, AreClosedMade, closed_more}
use Rattle.tp_model.proofs.Tied.{IsTied, tied_more}
use Rattle.tp_model.specs.Laws.Persistent.{ArePersistent, RunsPersistent, detaches}
use Rattle.tp_model.proofs.Persistent.{ArePersistentIn, IsFirst, any_front, first_any, leaves_closed, opening_persistent, persistent_more, takes_again}
use Rattle.tp_model.specs.Support.Moves.{left_notices, GivesNotice, WaitsMove, End, Keep, Begin, Notify}
use Rattle.tp_model.specs.Support.Told.{notice_at}
use Rattle.std.proofs.lemmas.List.FromFn.{length-range_with_len}
use Rattle.std.proofs.lemmas.List.{length-replicate}
use Rattle.tp_base.specs.Actors.{is_same_actor}
use Rattle.tp_model.proofs.Lists.{find_all}

-- what holds of the world after a legal history
pub record Holds (limits : Limits) (history : List Entry) (w : World) : Type 0 where
  pub sound : IsSound (next_number_in w) w
  pub agrees : AgreesAfter history w
  pub staffed : IsStaffed limits history w
  pub runs : AreRunning history w
  pub ready : AreReady history w
  pub promises : Promises history w
  pub tied : IsTied history w
  pub closed : AreClosedMade history w
  pub due : AreDue history w
  pub numbered : AreNumbered history w
  pub noticing : AreNoticing history w
  pub closings : AreClosings history w
  pub acting : AreActing history w
  pub armed : ArmedAfter history w
  pub on_their_way : AreOnTheirWay history w
  pub few : AreFew limits w
  pub persistent : ArePersistentIn history w

-- before an entry that takes a callback, the callback is pending
record TakesPending (limits : Limits) (before : List Entry) (entry : Entry) (run : Run) : Type 0 where
  world : World
  holds : Holds limits before world
  row : CallbackRow
  found : find (has_number run.number) world.callbacks ≡ Some row
  object : row.object ≡ run.object
  waits : is_pending row.status ≡ true

opening_holds : (limits : Limits) → Holds limits [] (opening limits)
opening_holds limits =
    record {
      sound = opening_sound limits;
      agrees = record { in_order = refl; taken_begun = λ n. refl; named_cancelled = λ n named. absurd cc; as_many_taken = refl; as_many_cancelled = refl };
      staffed = opening_staffed limits;
      runs = λ earlier later entry run split. absurd (no_place earlier entry later split);
      ready = record { past = λ n among. absurd cc; ready = λ n c among found. absurd cc };
      promises = λ before between begin b split. absurd (no_place before begin between split);
      tied = record { objects = λ group n among. absurd cc; simples = λ group n c among found. absurd cc };
      closed = λ n e. absurd cc;
      due = λ group. refl;
      numbered = refl;
      noticing = λ before between begin b split. absurd (no_place before begin between split);
      closings = λ who wait object rest found. absurd cc;
      acting = λ before between taken split. absurd (no_place before taken between split);
      armed = opening_armed limits;
      on_their_way = λ n. refl;
      few = record { limits_same = refl; objects = omega arith; clients = length-replicate limits.clients unfinished; workers = length-replicate limits.workers unattached };
      persistent = opening_persistent limits;
    }

keeps : (limits : Limits) → IsKept (Holds limits)
keeps limits before w left entry h told =
    let on = entry_leads w left entry h.sound told in
    record {
      sound = on.sound;
      agrees = agrees_on before w entry (led_to w entry) h.sound.numbers h.agrees on.leads.moves;
      staffed = is_staffed_on limits before w entry (led_to w entry) h.sound h.staffed on.leads;
      runs = runs_on_more (next_number_in w) before w entry (led_to w entry) h.runs on.leads.moves;
      ready = are_ready_more before w entry (led_to w entry) h.sound.numbers h.agrees h.ready on.leads;
      promises = promises_more before w entry (led_to w entry) h.sound.numbers h.agrees h.ready h.tied on.leads
          (λ n c found. find_all (IsCallbackSound (led_to w entry).objects) (has_number n) c (led_to w entry).callbacks on.sound.callback_objects found) h.promises;
      tied = tied_more before w entry (led_to w entry) h.sound.numbers h.ready on.leads h.tied;
      closed = closed_more before w entry (led_to w entry) on.leads h.closed;
      due = due_more before w entry (led_to w entry) on.leads h.closed h.due;
      numbered = numbered_more before w entry (led_to w entry) on.leads h.numbered;
      noticing = noticing_more before w entry (led_to w entry) on.leads h.sound.notices h.due h.noticing;
      closings = closings_more before w entry (led_to w entry) on.leads h.closings;
      acting = are_acting_more (next_number_in w) before w entry (led_to w entry) on.leads.moves h.acting;
      armed = armed_more before w entry (led_to w entry) h.sound on.sound h.agrees h.armed on.leads;
      on_their_way = on_their_way_more before w entry (led_to w entry) h.sound.numbers h.on_their_way on.leads.moves;
      few = few_more limits w left entry (led_to w entry) on.leads (rows_same w left entry h.sound told) h.few told;
      persistent = persistent_more before w entry (led_to w entry) h.sound h.ready h.persistent on.leads;
    }

module _ (limits : Limits) (capacity : ℕ) (history : List Entry) (legal : IsLegal limits capacity history) where
  at_end : Holds limits history (after limits history)
  at_end = kept_to_end (Holds limits) (keeps limits) capacity 0 [] history (opening limits) (opening_holds limits) legal

  at_entry : (before later : List Entry) (entry : Entry) → before ++ entry ∷ later ≡ history → Reached (Holds limits) before entry
  at_entry before later entry is =
      kept_to_entry (Holds limits) (keeps limits) capacity 0 [] before later entry (opening limits) (opening_holds limits) (subst (λ h. IsLegal limits capacity h) (sym is) legal)

  leads_on : (before : List Entry) (entry : Entry) (r : Reached (Holds limits) before entry) → LeadsOn r.world entry (led_to r.world entry)
  leads_on before entry r = entry_leads r.world r.left entry r.holds.sound r.answers

  pub are_once : AreOnce limits history
  are_once =
      record {
        in_order = made_in_order history (after limits history) at_end.sound.numbers at_end.agrees;
        at_most_once = taken_once history (after limits history) at_end.sound.numbers at_end.agrees;
        only_ready = λ before later entry is.
            let r = at_entry before later entry is in
            takes_ready before r.world r.holds.sound.numbers r.holds.agrees r.holds.on_their_way entry (led_to r.world entry) (leads_on before entry r).leads.moves;
        none_cancelled = λ before later entry is.
            let r = at_entry before later entry is in
            takes_uncancelled before r.world entry (led_to r.world entry) r.holds.agrees (leads_on before entry r).leads.moves;
        none_left = left_untaken history (after limits history) at_end.sound.numbers at_end.agrees;
        none_lost = made_are history (after limits history) at_end.sound.numbers at_end.agrees;
      }

  pub is_within_maximum : IsWithinMaximum limits history
  is_within_maximum =
      record {
        at_each = λ before later entry is.
            let r = at_entry before later entry is in
            takes_below limits before r.world entry (led_to r.world entry) r.holds.sound r.holds.staffed (leads_on before entry r).leads.moves;
      }

  -- what is taken at an entry is pending before it
  takes_pending : (before later : List Entry) (entry : Entry) → before ++ entry ∷ later ≡ history → (run : Run) → run_by entry.answer ≡ Some run → TakesPending limits before entry run
  takes_pending before later entry is run takes =
      let r = at_entry before later entry is in
      let moves = (leads_on before entry r).leads.moves in
      let from = taken_from r.world entry moves.kept (led_to r.world entry).workers run moves.move takes in
      record { world = r.world; holds = r.holds; row = from.row; found = from.found; object = from.object; waits = from.waits }

  -- ---- waits for callbacks, and closes of groups

  spoken_at : (b : Begins) (before : List Entry) (n : ℕ) (c : CallbackRow) (run : Run) → run.number ≡ n → c.object ≡ run.object → is_spoken_of b before run ≡ true → is_spoken_of b before (run_at n c) ≡ true
  spoken_at b before n c run number object spoken = ap₂ (λ (k : ℕ) (o : ObjectId). is_spoken_of b before (record { number = k; object = o })) (sym number) object ∙ spoken

  unspoken : (t : Bool) → (t ≡ true → ⊥) → t ≡ false
  unspoken true h = absurd (h refl)
  unspoken false h = refl

  -- where no callback that is spoken of is held, each that was taken is let go
  all_let_go : (b : Begins) (before front : List Entry) (w : World) → AreRunning front w → NoneHeld (is_spoken_of b before) b.target w → AllLetGo b.target (is_spoken_of b before) front
  all_let_go b before front w running none earlier rest entry run place takes spoken = of_target b.target refl
    where
      unheld : (t : WaitTarget) → b.target ≡ t → (runs : IsRunning w.callbacks entry.who run (list_any (loosens entry.who) rest)) → is_held_for t runs.row.status ≡ true → ⊥
      unheld t is runs held = false_true (sym (none run.number runs.row runs.found (spoken_at b before run.number runs.row run refl runs.object spoken)) ∙ ap (λ u. is_held_for u runs.row.status) is ∙ held)

      of_object : (object : ObjectId) → b.target ≡ Object object → (t : Bool) → list_any (λ e. returns entry.who e || loosens entry.who e) rest ≡ t → list_any (λ e. returns entry.who e || loosens entry.who e) rest ≡ true
      of_object object is true e = e
      of_object object is false e =
          let neither_one = any_either (returns entry.who) (loosens entry.who) rest e in
          let runs : IsRunning w.callbacks entry.who run (list_any (loosens entry.who) rest) = running earlier rest entry run place takes neither_one.0 in
          absurd (unheld (Object object) is runs (ap (is_held_for (Object object)) runs.status ∙ runs.tied neither_one.1))

      of_group : (group : GroupId) → b.target ≡ Group group → (t : Bool) → list_any (returns entry.who) rest ≡ t → list_any (returns entry.who) rest ≡ true
      of_group group is true e = e
      of_group group is false e =
          let runs : IsRunning w.callbacks entry.who run (list_any (loosens entry.who) rest) = running earlier rest entry run place takes e in
          absurd (unheld (Group group) is runs (ap (is_held_for (Group group)) runs.status))

      of_target : (t : WaitTarget) → b.target ≡ t → list_any (lets_go b.target entry.who) rest ≡ true
      of_target (Object object) is = ap (λ t. list_any (lets_go t entry.who) rest) is ∙ of_object object is (list_any (λ e. returns entry.who e || loosens entry.who e) rest) refl
      of_target (Group group) is = ap (λ t. list_any (lets_go t entry.who) rest) is ∙ of_group group is (list_any (returns entry.who) rest) refl
      of_target (Kernel kernel) is = absurd (false_true (ap (λ t. is_spoken_for t b.cancel before run) (sym is) ∙ spoken))

  -- from where a wait with cancel begins, none that is spoken of is taken
  none_taken : (b : Begins) (before front later : List Entry) (begin : Entry) → (before ++ begin ∷ front) ++ later ≡ history → begins_by begin ≡ Some b → b.cancel ≡ true → NoneTakes (is_spoken_of b before) later
  none_taken b before front later begin split begins cancels earlier rest entry run place takes = unspoken (is_spoken_of b before run) (λ spoken.
      let whole : (before ++ begin ∷ (front ++ earlier)) ++ entry ∷ rest ≡ history =
      ap (λ l. l ++ entry ∷ rest) (sym (append_assoc before (begin ∷ front) earlier)) ∙ append_assoc (before ++ begin ∷ front) earlier (entry ∷ rest) ∙ ap (λ l. (before ++ begin ∷ front) ++ l) place ∙ split in
      let from : TakesPending limits (before ++ begin ∷ (front ++ earlier)) entry run = takes_pending (before ++ begin ∷ (front ++ earlier)) rest entry whole run takes in
      let promised : Promised b before (front ++ earlier) begin.who from.world = from.holds.promises before (front ++ earlier) begin b refl begins in
      let unleft = promised.cut cancels run.number from.row from.found (spoken_at b before run.number from.row run refl from.object spoken) in
      false_true (sym unleft ∙ pending_left from.row.status from.waits))

  covered : (before between later : List Entry) (begin end : Entry) (b : Begins) → (before ++ begin ∷ between) ++ end ∷ later ≡ history → begins_by begin ≡ Some b
      → end_in begin.who between ≡ None → ends begin.who end ≡ true → end.answer ≡ answer.Ended → IsCovered b before begin between later
  covered before between later begin end b split begins none is_end ended =
      record { let_go = all_let_go b before front r.world r.holds.runs none_held; none_later = none_later; none_between = none_between }
    where
      front : List Entry
      front = before ++ begin ∷ between

      r : Reached (Holds limits) front end
      r = at_entry front later end split

      none_held : NoneHeld (is_spoken_of b before) b.target r.world
      none_held =
          freed front r.world end (led_to r.world end) (leads_on front end r).leads (is_spoken_of b before) b.target begin.who
          ((r.holds.promises before between begin b refl begins).going none) is_end ended

      none_later : NoneTakes (is_spoken_of b before) later
      none_later earlier rest entry run place takes = unspoken (is_spoken_of b before run) (λ spoken.
          let whole : (front ++ end ∷ earlier) ++ entry ∷ rest ≡ history = append_assoc front (end ∷ earlier) (entry ∷ rest) ∙ ap (λ l. front ++ end ∷ l) place ∙ split in
          let from : TakesPending limits (front ++ end ∷ earlier) entry run = takes_pending (front ++ end ∷ earlier) rest entry whole run takes in
          let place_here : before ++ begin ∷ (between ++ end ∷ earlier) ≡ front ++ end ∷ earlier = sym (append_assoc before (begin ∷ between) (end ∷ earlier)) in
          let promised : Promised b before (between ++ end ∷ earlier) begin.who from.world = from.holds.promises before (between ++ end ∷ earlier) begin b place_here begins in
          let unheld = promised.done end (find_behind (ends begin.who) between end earlier none is_end) ended run.number from.row from.found (spoken_at b before run.number from.row run refl from.object spoken) in
          false_true (sym unheld ∙ pending_held b.target from.row.status from.waits))

      none_between : b.cancel ≡ true → NoneTakes (is_spoken_of b before) between
      none_between cancels earlier rest entry run place takes =
          none_taken b before [] (between ++ end ∷ later) begin (append_assoc before (begin ∷ []) (between ++ end ∷ later) ∙ sym (append_assoc before (begin ∷ between) (end ∷ later)) ∙ split) begins cancels
          earlier (rest ++ end ∷ later) entry run (sym (append_assoc earlier (entry ∷ rest) (end ∷ later)) ∙ ap (λ l. l ++ end ∷ later) place) takes

  pub are_covered : AreCovered history
  are_covered = record { at_each = λ before between later begin end b split begins of. covered before between later begin end b split begins }

  pub are_closed : AreClosed history
  are_closed = record { at_each = λ before between later begin end b split begins of. covered before between later begin end b split begins }

  -- ---- notices

  -- what a wait has given and has left, at any place before its end
  noticing_at : (before between later : List Entry) (begin : Entry) (b : Begins) → (before ++ begin ∷ between) ++ later ≡ history → begins_by begin ≡ Some b → end_in begin.who between ≡ None → IsFront (given begin.who between) (notices_due b before)
  noticing_at before between [] begin b split begins none =
      let n = at_end.noticing before between begin b (sym (append-nil (before ++ begin ∷ between)) ∙ split) begins none in
      record { rest = left_notices (after limits history).objects n.wait; split = n.all }
  noticing_at before between (next_one ∷ later) begin b split begins none =
      let r = at_entry (before ++ begin ∷ between) later next_one split in
      let n = r.holds.noticing before between begin b refl begins none in
      record { rest = left_notices r.world.objects n.wait; split = n.all }

  -- where it ends freely, none is left
  all_given : (before between later : List Entry) (begin end : Entry) (b : Begins) → (before ++ begin ∷ between) ++ end ∷ later ≡ history → begins_by begin ≡ Some b
      → end_in begin.who between ≡ None → ends begin.who end ≡ true → end.answer ≡ answer.Ended → given begin.who between ≡ notices_due b before
  all_given before between later begin end b split begins none is_end ended =
      let r = at_entry (before ++ begin ∷ between) later end split in
      let n = r.holds.noticing before between begin b refl begins none in
      sym (append-nil (given begin.who between)) ∙ ap (λ os. given begin.who between ++ map (notice_at r.world.objects n.wait.cleanup) os) (sym (of_move r n (leads_on (before ++ begin ∷ between) end r).leads.waits)) ∙ n.all
    where
      ending : (is_same_actor end.who begin.who ≡ true) × (is_ending end ≡ true)
      ending = both (is_same_actor end.who begin.who) (is_ending end) is_end

      of_move : (r : Reached (Holds limits) (before ++ begin ∷ between) end) (n : IsNoticing b before between begin.who r.world) → WaitsMove r.world end (led_to r.world end) → n.wait.notices ≡ []
      of_move r n (Keep m) = absurd (false_true (sym m.ends ∙ ending.1))
      of_move r n (Begin m) = absurd (false_true (sym m.ends ∙ ending.1))
      of_move r n (Notify m) = absurd (false_true (sym m.ends ∙ ending.1))
      of_move r n (End m) =
          let both_found : Some m.wait ≡ Some n.wait = sym m.found ∙ ap (wait_of r.world) (same_actor_is end.who begin.who ending.0) ∙ n.found in
          let same : m.wait ≡ n.wait = cc in
          ap (λ (x : BegunWait). x.notices) (sym same) ∙ m.unnoticed freed
        where
          freed : is_freeing end ≡ true
          freed = ap₂ (λ a b. a && b) (both (is_end_call end.call) (is_last_answer end.answer) ending.1).0 (ap is_ended_answer ended)

  -- an entry that gives a notice
  gives : (w : World) (entry : Entry) (notice : Notice) → LeadsOn w entry (led_to w entry) → notice_by entry.answer ≡ Some notice → GivesNotice w entry (led_to w entry)
  gives w entry notice on tells = of_move on.leads.waits
    where
      of_move : WaitsMove w entry (led_to w entry) → GivesNotice w entry (led_to w entry)
      of_move (Notify m) = m
      of_move (Keep m) = absurd (let none = sym m.quiet ∙ tells in cc)
      of_move (Begin m) = absurd (let none = sym m.quiet ∙ tells in cc)
      of_move (End m) = absurd (let none = sym m.quiet ∙ tells in cc)

  settled_at : (before between later : List Entry) (begin entry : Entry) (b : Begins) (notice : Notice) → (before ++ begin ∷ between) ++ entry ∷ later ≡ history → begins_by begin ≡ Some b
      → end_in begin.who between ≡ None → given_by begin.who entry ≡ Some notice → IsSettled b before begin between later
  settled_at before between later begin entry b notice split begins none tells =
      record {
        let_go = all_let_go b before front r.world r.holds.runs (unheld front r.world entry (led_to r.world entry) on.leads (is_spoken_of b before) b.target begin.who going nothing_held);
        none_later = none_taken b before (between ++ entry ∷ []) later begin longer begins (of_cancel b.cancel refl);
      }
    where
      front : List Entry
      front = before ++ begin ∷ between

      r : Reached (Holds limits) front entry
      r = at_entry front later entry split

      on : LeadsOn r.world entry (led_to r.world entry)
      on = leads_on front entry r

      longer : (before ++ begin ∷ (between ++ entry ∷ [])) ++ later ≡ history
      longer = ap (λ l. l ++ later) (sym (append_assoc before (begin ∷ between) (entry ∷ []))) ∙ append_assoc front (entry ∷ []) later ∙ split

      by_actor : (t : Bool) → cond t (notice_by entry.answer) None ≡ Some notice → (t ≡ true) × (notice_by entry.answer ≡ Some notice)
      by_actor true e = (refl, e)
      by_actor false e = absurd cc

      told : (is_same_actor entry.who begin.who ≡ true) × (notice_by entry.answer ≡ Some notice)
      told = by_actor (is_same_actor entry.who begin.who) tells

      by : entry.who ≡ begin.who
      by = same_actor_is entry.who begin.who told.0

      m : GivesNotice r.world entry (led_to r.world entry)
      m = gives r.world entry notice on told.1

      going : GoesOn (is_spoken_of b before) b.target begin.who r.world
      going = (r.holds.promises before between begin b refl begins).going none

      nothing_held : held r.world going.wait ≡ []
      nothing_held =
          let both_found : Some m.wait ≡ Some going.wait = sym m.found ∙ ap (wait_of r.world) by ∙ going.found in
          let same : m.wait ≡ going.wait = cc in
          ap (held r.world) (sym same) ∙ m.free

      n : IsNoticing b before between begin.who r.world
      n = r.holds.noticing before between begin b refl begins none

      some_left : n.wait.notices ≡ m.object ∷ m.rest
      some_left =
          let both_found : Some m.wait ≡ Some n.wait = sym m.found ∙ ap (wait_of r.world) by ∙ n.found in
          let same : m.wait ≡ n.wait = cc in
          ap (λ (x : BegunWait). x.notices) (sym same) ∙ m.left

      of_cancel : (t : Bool) → b.cancel ≡ t → b.cancel ≡ true
      of_cancel true is = is
      of_cancel false is =
          absurd (none_there (given begin.who between) (ap (λ os. given begin.who between ++ map (notice_at r.world.objects n.wait.cleanup) os) (sym some_left) ∙ n.all ∙ ap (λ t. cond t (due_to b.target b.cleanup before) []) is))
        where
          none_there : (xs : List Notice) → xs ++ map (notice_at r.world.objects n.wait.cleanup) (m.object ∷ m.rest) ≡ [] → ⊥
          none_there [] e = cc
          none_there (y ∷ ys) e = cc

  pub are_noticed : AreNoticed history
  are_noticed =
      record {
        in_order = at_end.numbered ∙ ap (range_with_len 1) (sym (length-range_with_len 1 (length (after limits history).objects)) ∙ sym (ap length at_end.numbered));
        first = noticing_at;
        all = λ before between later begin end b split begins none is_end ended. all_given before between later begin end b split begins none is_end ended;
        settled = settled_at;
        no_other = λ before later entry notice split tells.
            let r = at_entry before later entry split in
            let m = gives r.world entry notice (leads_on before entry r) tells in
            r.holds.closings entry.who m.wait m.object m.rest m.found m.left;
      }

  pub are_actions : AreActions history
  are_actions =
      record {
        once = once;
        told = λ before between later taken return kind split takes quiet returned.
            let r = at_entry (before ++ taken ∷ between) later return split in
            return_tells (next_number_in r.world) (before ++ taken ∷ between) r.world return (led_to r.world return) (leads_on (before ++ taken ∷ between) return r).leads.moves taken.who between kind
            (r.holds.acting before between taken refl takes quiet) returned;
      }
    where
      once : (before between later : List Entry) (taken : Entry) (kind : ActionKind) → (before ++ taken ∷ between) ++ later ≡ history → is_taken taken ≡ true → list_any (returns taken.who) between ≡ false → count_asked taken.who kind between ≤ 1
      once before between [] taken kind split takes quiet =
          at_most_one (after limits history) taken.who between kind (at_end.acting before between taken (sym (append-nil (before ++ taken ∷ between)) ∙ split) takes quiet)
      once before between (next_one ∷ later) taken kind split takes quiet =
          let r = at_entry (before ++ taken ∷ between) later next_one split in
          at_most_one r.world taken.who between kind (r.holds.acting before between taken refl takes quiet)

  pub are_armed : AreArmed history
  are_armed = are_armed_after history (after limits history) at_end.armed

  pub are_operated : AreOperated history
  are_operated = are_operated_after history (after limits history) at_end.on_their_way

  -- ---- the persistent callbacks of pools

  -- a worker that leaves for the first time since its run leaves a closed pool
  leaves_at : (before between later : List Entry) (run leave : Entry) (worker pool : ℕ) → (before ++ run ∷ between) ++ leave ∷ later ≡ history → RunsPersistent before run worker pool → detaches worker leave ≡ true → list_any (detaches worker) between ≡ false
      → list_any (closes_pool pool) (before ++ run ∷ between) ≡ true
  leaves_at before between later run leave worker pool split runs leaves stayed =
      let r = at_entry (before ++ run ∷ between) later leave split in
      leaves_closed (before ++ run ∷ between) r.world leave (led_to r.world leave) r.holds.sound r.holds.ready r.holds.persistent (leads_on (before ++ run ∷ between) leave r).leads worker pool
      (r.holds.persistent.kept before between run worker pool refl runs stayed) leaves

  pub are_persistent : ArePersistent history
  are_persistent = record { one = one; stays = stays }
    where
      one : (before between later : List Entry) (first second : Entry) (a b pool : ℕ) → (before ++ first ∷ between) ++ second ∷ later ≡ history → RunsPersistent before first a pool → RunsPersistent (before ++ first ∷ between) second b pool → a ≢ b
          → list_any (detaches a) between ≡ true
      one before between later first second a b pool split runs again apart = of_case (list_any (detaches a) between) refl
        where
          of_case : (t : Bool) → list_any (detaches a) between ≡ t → list_any (detaches a) between ≡ true
          of_case true e = e
          of_case false e =
              let r = at_entry (before ++ first ∷ between) later second split in
              absurd (apart
              (takes_again (before ++ first ∷ between) r.world second (led_to r.world second) r.holds.sound r.holds.ready r.holds.persistent (leads_on (before ++ first ∷ between) second r).leads a b pool
              (r.holds.persistent.kept before between first a pool refl runs e) again))

      stays : (before between later : List Entry) (run leave : Entry) (worker pool : ℕ) → (before ++ run ∷ between) ++ leave ∷ later ≡ history → RunsPersistent before run worker pool → detaches worker leave ≡ true → list_any (closes_pool pool) (before ++ run ∷ between) ≡ true
      stays before between later run leave worker pool split runs leaves = of_case (list_any (detaches worker) between) refl
        where
          earlier : IsFirst (detaches worker) between → list_any (closes_pool pool) (before ++ run ∷ between) ≡ true
          earlier f =
              let whole : (before ++ run ∷ f.front) ++ f.entry ∷ (f.rest ++ leave ∷ later) ≡ history =
              sym (append_assoc (before ++ run ∷ f.front) (f.entry ∷ f.rest) (leave ∷ later)) ∙ ap (λ l. l ++ leave ∷ later) (append_assoc before (run ∷ f.front) (f.entry ∷ f.rest))
              ∙ ap (λ l. (before ++ run ∷ l) ++ leave ∷ later) f.split ∙ split in
              let closed : list_any (closes_pool pool) (before ++ run ∷ f.front) ≡ true = leaves_at before f.front (f.rest ++ leave ∷ later) run f.entry worker pool whole runs f.passes f.none in
              ap (list_any (closes_pool pool)) (sym (append_assoc before (run ∷ f.front) (f.entry ∷ f.rest) ∙ ap (λ l. before ++ run ∷ l) f.split))
              ∙ any_front (closes_pool pool) (before ++ run ∷ f.front) (f.entry ∷ f.rest) closed

          of_case : (t : Bool) → list_any (detaches worker) between ≡ t → list_any (closes_pool pool) (before ++ run ∷ between) ≡ true
          of_case true e = earlier (first_any (detaches worker) between e)
          of_case false e = leaves_at before between later run leave worker pool split runs leaves e

  pub keeps_laws : KeepsLaws limits history
  keeps_laws = record { once = are_once; maximum = is_within_maximum; covered = are_covered; closed = are_closed; noticed = are_noticed; actions = are_actions; armed = are_armed; operated = are_operated; persistent = are_persistent }

  -- who has begun a close with cancel and not ended it is in a wait
  pub closing_waits : (who : Who) → IsClosing history who → is_in_wait (after limits history) who ≡ true
  closing_waits who c =
      let by : c.begin.who ≡ who = same_actor_is c.begin.who who c.by in
      let goes_on : IsNoticing c.b c.before c.between c.begin.who (after limits history) = at_end.noticing c.before c.between c.begin c.b c.place c.begins (subst (λ a. end_in a c.between ≡ None) (sym by) c.unended) in
      there (after limits history).waits (ap (wait_of (after limits history)) (sym by) ∙ goes_on.found)
    where
      there : {wait : BegunWait} (waits : List BegunWait) → find (λ (d : BegunWait). is_same_actor d.actor who) waits ≡ Some wait → list_any (λ (d : BegunWait). is_same_actor d.actor who) waits ≡ true
      there [] found = absurd cc
      there {wait} (d ∷ waits) found =
          elim (is_same_actor d.actor who) as (λ t. cond t (Some d) (find (λ (e : BegunWait). is_same_actor e.actor who) waits) ≡ Some wait → (t || list_any (λ (e : BegunWait). is_same_actor e.actor who) waits) ≡ true) [
            | true ↦ λ _. refl
            | false ↦ λ h. there waits h
          ] found

  -- an actor of the world is one of the limits
  pub actors : (who : Who) → is_actor (after limits history) who ≡ true → IsActor limits who
  actors who is = few_actor limits (after limits history) at_end.few who is

  -- and no more objects were made than the limits allow
  pub few_created : length (numbers_created history) ≤ limits.objects
  few_created = omega (arith, ap length at_end.numbered ∙ length-range_with_len 1 (length (after limits history).objects), at_end.few.objects)

  -- what a pool's worker takes next comes first of what it may take
  pub next_is_first : (pool : ℕ) (persistent : Bool) → IsNextOrNone (after limits history) pool persistent (next (after limits history) pool persistent)
  next_is_first pool persistent = next_first (next_number_in (after limits history)) (after limits history) pool persistent at_end.sound
