-- What the calls that wait come to, from what their Begin call and their Ends came to.
use Rattle.std.proofs.Common.{◌≡◌, ℕ, ◌+◌, ◌<◌, ◌≤◌, Bool, true, false, cond, ◌&&◌, ◌||◌, List, [], ◌∷◌, ◌++◌, length, map, find, is_some, Option, Some, None, refl, sym, ap, ◌∙◌, subst, arith, append_assoc, append-nil, length-append}
use Rattle.std.specs.List.{filter_map, fold, list_any}
use Rattle.std.specs.Option.{unwrap_or}
use Rattle.std.proofs.lemmas.List.{append_cancel_left, length-map, map-append}
use Rattle.std.proofs.lemmas.List.Elements.{filter-append, filter_map-append}
use Rattle.std.proofs.lemmas.List.Sums.{fold-append}
use Rattle.tp_base.specs.Actors.{is_same_actor}
use Rattle.tp_base.specs.declared.answers.Answer.{Answer}
use Rattle.tp_base.specs.declared.answers.Answer.TheVariants as answer
use Rattle.tp_base.specs.declared.answers.Entry.{Entry}
use Rattle.tp_base.specs.declared.answers.Outcome.{Outcome}
use Rattle.tp_base.specs.declared.answers.Outcome.TheVariants as outcome
use Rattle.tp_base.specs.declared.calls.Call.{Call}
use Rattle.tp_base.specs.declared.calls.Call.TheVariants.{BeginAcquire, BeginClose, BeginWait, End}
use Rattle.tp_base.specs.declared.calls.Kind.{Kind}
use Rattle.tp_base.specs.declared.ids.GroupId.{GroupId}
use Rattle.tp_base.specs.declared.ids.KernelId.{KernelId}
use Rattle.tp_base.specs.declared.ids.ObjectId.{ObjectId}
use Rattle.tp_base.specs.declared.ids.Who.{Who}
use Rattle.tp_base.specs.declared.limits.Limits.{Limits}
use Rattle.tp_base.specs.declared.rows.WaitTarget.{WaitTarget}
use Rattle.tp_base.specs.declared.rows.WaitTarget.TheVariants.{Object, Group, Kernel}
use Rattle.tp_model.specs.Conditions.{is_in_wait}
use Rattle.tp_model.specs.History.{is_refusal, after, IsLegal}
use Rattle.tp_model.specs.Laws.{KeepsLaws}
use Rattle.tp_model.specs.Waits.{is_group_target, is_object_target}
use Rattle.tp_model.specs.Laws.Covered.{ends, end_in, IsCovered}
use Rattle.tp_model.specs.Laws.Entries.{Begins, begins_by, begins_call, is_ending, Notice, notice_by}
use Rattle.tp_model.specs.Laws.Notices.{given, notices_due, numbers_created, created_number, IsClosing, IsFront}
use Rattle.tp_model.specs.Stages.{is_wait_answer, waits_after, waits_from, IsActor}
use Rattle.tp_model.proofs.Refusals.{is_own_actor}
use Rattle.recorded.specs.Recordings.{outcome_behind, room_of}
use Rattle.turn_lock.specs.declared.seats.Seat.{Seat}
use Rattle.turn_lock.specs.declared.views.Setup.{Setup}
use Rattle.turn_lock.specs.Histories.{own}
use Rattle.turn_lock.specs.Seats.{seen_of, mine_of, setup_in, actor_in}
use Rattle.turn_lock.specs.Views.{recording_of}
use Rattle.turn_lock.proofs.Beginnings.{own_more}
use Rattle.shared_pool.specs.declared.notices.Told.{Told}
use Rattle.shared_pool.specs.Calls.{entry_of, HasCalled}
use Rattle.shared_pool.specs.Waits.{notice_entry, notice_told, with_told, HasClosed, HasWaitedFor, IsAnswered, IsFreed, IsTelling, IsUnbegun, IsWaiting, IsWaitOver}
use Rattle.shared_pool.proofs.Begins.{beginning}
use Rattle.shared_pool.proofs.Calling.{actor_same, same_through, still_actor}
use Rattle.shared_pool.proofs.Entries.{all_given, begins_none, begins_of, closing_first, end_own, given_own, none_ends, notice_by_who, notices_few, still_waits}

told_none : (was : Option (List Told)) → was ≡ with_told [] was
told_none None = refl
told_none (Some held) = ap (λ l. Some l) (sym (append-nil held))

told_more : (was : Option (List Told)) (told : List Told) (t : Told) → with_told (t ∷ []) (with_told told was) ≡ with_told (told ++ t ∷ []) was
told_more None told t = refl
told_more (Some held) told t = ap (λ l. Some l) (append_assoc held told (t ∷ []))

and_off : (b : Bool) → (b && false) ≡ false
and_off true = refl
and_off false = refl

abbrev target_of : Option Begins → WaitTarget
target_of None = Kernel (record { 0 = 0 })
target_of (Some b) = b.target

module _ {B : Type 0} where
  pub answered : (begin : Call) (told : List Told) (x : Answer) (a m b : Seat B) → 0 < m.number → IsWaiting begin told a m → HasCalled End x m b → IsAnswered begin told x a b
  answered begin told x a m b some_number w h =
      let who : actor_in b ≡ actor_in m = actor_same m b h.same in
      let rest : List Entry = h.since.rest in
      let last : Entry = entry_of b End x in
      let first : entry_of m begin w.begun ≡ entry_of b begin w.begun = ap (λ (v : Who). record { who = v; call = begin; answer = w.begun }) (sym who) in
      let notices : map (notice_entry m) told ≡ map (notice_entry b) told = ap (λ (v : Who). map (notice_by_who v) told) (sym who) in
      let before : h.before ≡ w.before ++ entry_of b begin w.begun ∷ (w.between ++ rest) =
      h.since.is ∙ (ap (λ l. l ++ rest) w.seen ∙ (append_assoc w.before (entry_of m begin w.begun ∷ w.between) rest ∙ ap (λ e. w.before ++ e ∷ (w.between ++ rest)) first)) in
      let own_seen : mine_of m ≡ own (actor_in b) (seen_of m) = w.idle.whole.informed.own_is some_number ∙ ap (λ v. own v (seen_of m)) (sym who) in
      let own_more : own (actor_in b) (seen_of m) ++ [] ≡ own (actor_in b) (seen_of m) ++ own (actor_in b) rest =
      append-nil (own (actor_in b) (seen_of m)) ∙ (sym own_seen ∙ (h.own_before ∙ (ap (own (actor_in b)) h.since.is ∙ filter-append (λ (e : Entry). is_same_actor e.who (actor_in b)) (seen_of m) rest))) in
      let own_rest : [] ≡ own (actor_in b) rest = append_cancel_left (own (actor_in b) (seen_of m)) [] (own (actor_in b) rest) own_more in
      record {
        same = same_through a m b w.same h.same;
        idle = h.idle;
        before = w.before;
        since = w.since;
        legal_before = subst (λ (s : Setup). IsLegal s.limits s.capacity w.before) (sym h.same.setup) w.legal_before;
        begun = w.begun;
        came = ap (λ (p : Setup × Who). outcome_behind (recording_of p.0 w.before) p.1 begin) (λ i. (h.same.setup i, who i)) ∙ w.came;
        begins = w.begins;
        accepted = w.accepted;
        between = w.between ++ rest;
        seen = h.seen ∙ ap (λ l. l ++ last ∷ []) before;
        own_before = w.own_before ∙ ap (λ v. own v w.before) (sym who);
        own_between = filter-append (λ (e : Entry). is_same_actor e.who (actor_in b)) w.between rest
            ∙ (ap (λ l. own (actor_in b) w.between ++ l) (sym own_rest) ∙ (append-nil (own (actor_in b) w.between) ∙ (ap (λ v. own v w.between) who ∙ (w.own_between ∙ notices))));
        mine = h.mine ∙ (ap (λ l. l ++ last ∷ []) (w.mine ∙ (λ i. mine_of a ++ first i ∷ notices i)) ∙ append_assoc (mine_of a) (entry_of b begin w.begun ∷ map (notice_entry b) told) (last ∷ []));
        laws = h.laws;
      }

  -- the wait goes on behind a notice
  pub goes_on : (begin : Call) (told : List Told) (t : Told) (a b : Seat B) → IsActor (setup_in b).limits (actor_in b) → IsAnswered begin told (answer.Notice t.object t.routine t.context t.cleanup) a b → IsWaiting begin (told ++ t ∷ []) a b
  goes_on begin told t a b actor w =
      let last : Entry = notice_entry b t in
      let all : map (notice_entry b) told ++ last ∷ [] ≡ map (notice_entry b) (told ++ t ∷ []) = sym (map-append (notice_entry b) told (t ∷ [])) in
      let mine : mine_of b ≡ mine_of a ++ entry_of b begin w.begun ∷ map (notice_entry b) (told ++ t ∷ []) = w.mine ∙ ap (λ l. mine_of a ++ entry_of b begin w.begun ∷ l) all in
      record {
        same = w.same;
        idle = w.idle;
        in_wait = record {
          actor = actor;
          begun = ap (waits_from false) mine
              ∙ (fold-append (λ (s : Bool) (e : Entry). waits_after s e.call e.answer) false (mine_of a) (entry_of b begin w.begun ∷ map (notice_entry b) (told ++ t ∷ []))
              ∙ (ap (λ o. fold (λ (s : Bool) (e : Entry). waits_after s e.call e.answer) (unwrap_or o (waits_from false (mine_of a))) (map (notice_entry b) (told ++ t ∷ []))) w.begins
              ∙ still_waits (actor_in b) (told ++ t ∷ [])));
        };
        before = w.before;
        since = w.since;
        legal_before = w.legal_before;
        begun = w.begun;
        came = w.came;
        begins = w.begins;
        accepted = w.accepted;
        between = w.between ++ last ∷ [];
        seen = w.seen ∙ append_assoc w.before (entry_of b begin w.begun ∷ w.between) (last ∷ []);
        own_before = w.own_before;
        own_between = own_more (actor_in b) w.between last refl ∙ (ap (λ l. l ++ last ∷ []) w.own_between ∙ all);
        mine = mine;
        laws = w.laws;
      }

  -- what has been given are the first of the notices that are due
  given_first : (begin : Call) (told : List Told) (a b : Seat B) (w : IsWaiting begin told a b) (begins : Begins) → begins_by (entry_of b begin w.begun) ≡ Some begins → IsFront (map notice_told told) (notices_due begins w.before)
  given_first begin told a b w begins is =
      let none : end_in (actor_in b) w.between ≡ None = end_own (actor_in b) w.between ∙ (ap (find is_ending) w.own_between ∙ none_ends (actor_in b) told) in
      subst (λ l. IsFront l (notices_due begins w.before)) (given_own (actor_in b) w.between ∙ (ap (filter_map (λ (e : Entry). notice_by e.answer)) w.own_between ∙ all_given (actor_in b) told))
      (w.laws.noticed.first w.before w.between [] (entry_of b begin w.begun) begins (append-nil (w.before ++ entry_of b begin w.begun ∷ w.between) ∙ sym w.seen) is none)

  begins_as : (begin : Call) (x : Answer) (b : Seat B) → is_refusal x ≡ false → begins_by (entry_of b begin x) ≡ begins_call begin
  begins_as begin x b accepted = ap (λ r. cond r None (begins_call begin)) accepted

  -- a wait for the callbacks of an object gives none
  pub no_notice : (kind : Kind) (object : ObjectId) (cancel : Bool) (t : Told) (a b : Seat B) → IsWaiting (BeginWait kind object cancel) (t ∷ []) a b → ⊥
  no_notice kind object cancel t a b w = of_cancel cancel front.rest front.split
    where
      begins : Begins
      begins = record { target = Object object; cancel = cancel; cleanup = 0 }

      front : IsFront (notice_told t ∷ []) (notices_due begins w.before)
      front = given_first (BeginWait kind object cancel) (t ∷ []) a b w begins (begins_as (BeginWait kind object cancel) w.begun b w.accepted)

      of_cancel : (c : Bool) (rest : List Notice) → notice_told t ∷ rest ≡ cond c [] [] → ⊥
      of_cancel true rest e = cc
      of_cancel false rest e = cc

  -- and a close as many as there are objects, at most
  pub within_limit : (group : GroupId) (cancel : Bool) (context : ℕ) (told : List Told) (a b : Seat B)
      → ((limits : Limits) (capacity : ℕ) (history : List Entry) → IsLegal limits capacity history → length (numbers_created history) ≤ limits.objects)
      → IsWaiting (BeginClose group cancel context) told a b → length told ≤ (setup_in b).limits.objects
  within_limit group cancel context told a b few w =
      let begins : Begins = record { target = Group group; cancel = cancel; cleanup = context } in
      let front : IsFront (map notice_told told) (notices_due begins w.before) = given_first (BeginClose group cancel context) told a b w begins (begins_as (BeginClose group cancel context) w.begun b w.accepted) in
      let made : numbers_created (seen_of b) ≡ numbers_created w.before ++ numbers_created (entry_of b (BeginClose group cancel context) w.begun ∷ w.between) =
      ap numbers_created w.seen ∙ filter_map-append created_number w.before (entry_of b (BeginClose group cancel context) w.begun ∷ w.between) in
      let legal : IsLegal (setup_in b).limits (setup_in b).capacity (seen_of b) = w.idle.whole.informed.legal in
      omega (
        arith,
        length-map told notice_told,
        ap length front.split,
        length-append (map notice_told told) front.rest,
        notices_few begins w.before,
        ap length made,
        length-append (numbers_created w.before) (numbers_created (entry_of b (BeginClose group cancel context) w.begun ∷ w.between)),
        few (setup_in b).limits (setup_in b).capacity (seen_of b) legal,
      )

  -- ---- where the wait is over

  pub over : ((limits : Limits) (capacity : ℕ) (history : List Entry) → IsLegal limits capacity history → KeepsLaws limits history)
      → (begin : Call) (told : List Told) (last : Answer) (a b : Seat B) → IsAnswered begin told last a b → IsWaitOver begin told last a b
  over keeps begin told last a b w = record { answered = w; freed = freed }
    where
      first : Entry
      first = entry_of b begin w.begun

      final : Entry
      final = entry_of b End last

      none : end_in (actor_in b) w.between ≡ None
      none = end_own (actor_in b) w.between ∙ (ap (find is_ending) w.own_between ∙ none_ends (actor_in b) told)

      all : given (actor_in b) w.between ≡ map notice_told told
      all = given_own (actor_in b) w.between ∙ (ap (filter_map (λ (e : Entry). notice_by e.answer)) w.own_between ∙ all_given (actor_in b) told)

      ends_it : last ≡ answer.Ended → ends (actor_in b) final ≡ true
      ends_it is = ap (λ x. is_same_actor (actor_in b) (actor_in b) && is_ending (entry_of b End x)) is ∙ ap (λ t. t && true) (is_own_actor (actor_in b))

      covered : last ≡ answer.Ended → (begins : Begins) → begins_by first ≡ Some begins → (later : List Entry) → IsLegal (setup_in b).limits (setup_in b).capacity (seen_of b ++ later) → IsCovered begins w.before first w.between later
      covered is begins by later legal = of_target begins.target refl
        where
          laws : KeepsLaws (setup_in b).limits (seen_of b ++ later)
          laws = keeps (setup_in b).limits (setup_in b).capacity (seen_of b ++ later) legal

          place : (w.before ++ first ∷ w.between) ++ final ∷ later ≡ seen_of b ++ later
          place = sym (append_assoc (w.before ++ first ∷ w.between) (final ∷ []) later) ∙ ap (λ l. l ++ later) (sym w.seen)

          of_target : (t : WaitTarget) → begins.target ≡ t → IsCovered begins w.before first w.between later
          of_target (Object object) e = laws.covered.at_each w.before w.between later first final begins place by (ap is_object_target e) none (ends_it is) is
          of_target (Group group) e = laws.closed.at_each w.before w.between later first final begins place by (ap is_group_target e) none (ends_it is) is
          of_target (Kernel kernel) e = absurd (no_kernel begin (is_refusal w.begun) by)
            where
              no_kernel : (c : Call) (r : Bool) → cond r None (begins_call c) ≡ Some begins → ⊥
              no_kernel c true h = cc
              no_kernel (BeginWait kind object cancel) false h = let same : Object object ≡ Kernel kernel = ap (λ o. target_of o) h ∙ e in cc
              no_kernel (BeginClose group cancel context) false h = let same : Group group ≡ Kernel kernel = ap (λ o. target_of o) h ∙ e in cc
              no_kernel _ false h = cc

      freed : last ≡ answer.Ended → (begins : Begins) → begins_by first ≡ Some begins → IsFreed begins told w.before first w.between b
      freed is begins by = record {
        covered = covered is begins by;
        noticed = sym all ∙ w.laws.noticed.all w.before w.between [] first final begins (sym w.seen) by none (ends_it is) is;
      }

  -- ---- what a close tells

  pub tells_nothing : (begin : Call) (was : Option (List Told)) (spare : ℕ) (a m : Seat B) → IsWaiting begin [] a m → IsTelling begin was was spare spare a m
  tells_nothing begin was spare a m w = record { told = []; waiting = w; heard = told_none was; spare = omega arith }

  noticed : (begin : Call) (told : List Told) (t : Told) (a m b : Seat B) → 0 < m.number → IsWaiting begin told a m → HasCalled End (answer.Notice t.object t.routine t.context t.cleanup) m b → IsWaiting begin (told ++ t ∷ []) a b
  noticed begin told t a m b some_number w h = goes_on begin told t a b (still_actor m b h.same w.in_wait.actor) (answered begin told (answer.Notice t.object t.routine t.context t.cleanup) a m b some_number w h)

  pub tells_on : (begin : Call) (t : Told) (was now next : Option (List Told)) (spare_was spare_now spare_next : ℕ) (a m b : Seat B) → 0 < m.number → IsTelling begin was now spare_was spare_now a m
      → HasCalled End (answer.Notice t.object t.routine t.context t.cleanup) m b → next ≡ with_told (t ∷ []) now → spare_next + 1 ≡ spare_now → IsTelling begin was next spare_was spare_next a b
  tells_on begin t was now next spare_was spare_now spare_next a m b some_number w h hears lowers = record {
    told = w.told ++ t ∷ [];
    waiting = noticed begin w.told t a m b some_number w.waiting h;
    heard = hears ∙ (ap (with_told (t ∷ [])) w.heard ∙ told_more was w.told t);
    spare = omega (arith, lowers, w.spare, length-append w.told (t ∷ []));
  }

  pub has_room : (group : GroupId) (cancel : Bool) (context : ℕ) (t : Told) (was now : Option (List Told)) (spare_was spare_now : ℕ) (a m b : Seat B) → 0 < m.number
      → ((limits : Limits) (capacity : ℕ) (history : List Entry) → IsLegal limits capacity history → length (numbers_created history) ≤ limits.objects)
      → (setup_in b).limits.objects ≤ spare_was → IsTelling (BeginClose group cancel context) was now spare_was spare_now a m → HasCalled End (answer.Notice t.object t.routine t.context t.cleanup) m b → 0 < spare_now
  has_room group cancel context t was now spare_was spare_now a m b some_number few spare w h =
      omega (arith, within_limit group cancel context (w.told ++ t ∷ []) a b few (noticed (BeginClose group cancel context) w.told t a m b some_number w.waiting h), length-append w.told (t ∷ []), w.spare, spare)

  -- the answer of a last End
  last_as : (begin : Call) (told : List Told) (x : Answer) (a b : Seat B) → is_wait_answer x ≡ true → ((t : Told) → x ≡ answer.Notice t.object t.routine t.context t.cleanup → ⊥) → IsWaitOver begin told x a b → HasWaitedFor begin told (outcome.Done x) a b
  last_as begin told answer.Ended a b of_wait apart w = w
  last_as begin told answer.Exhausted a b of_wait apart w = w
  last_as begin told answer.Stalled a b of_wait apart w = w
  last_as begin told (answer.Notice object routine context cleanup) a b of_wait apart w = absurd (apart (record { object = object; routine = routine; context = context; cleanup = cleanup }) refl)
  last_as begin told _ a b of_wait apart w = absurd cc

  pub has_closed : ((limits : Limits) (capacity : ℕ) (history : List Entry) → IsLegal limits capacity history → KeepsLaws limits history)
      → (begin : Call) (x : Answer) (was now : Option (List Told)) (spare_was spare_now : ℕ) (a m b : Seat B) → 0 < m.number → IsTelling begin was now spare_was spare_now a m
      → HasCalled End x m b → is_wait_answer x ≡ true → ((t : Told) → x ≡ answer.Notice t.object t.routine t.context t.cleanup → ⊥) → HasClosed begin (outcome.Done x) was now spare_was spare_now a b
  has_closed keeps begin x was now spare_was spare_now a m b some_number w h of_wait apart = record {
    told = w.told;
    waited = last_as begin w.told x a b of_wait apart (over keeps begin w.told x a b (answered begin w.told x a m b some_number w.waiting h));
    heard = w.heard;
    spare = w.spare;
  }

  -- where no wait was begun
  pub not_begun : (begin : Call) (came : Outcome) (a m : Seat B) → IsUnbegun begin came a m → HasWaitedFor begin [] came a m
  not_begun begin (outcome.Done (answer.Refused refusal)) a m h = (h, refl)
  not_begun begin (outcome.Full room cost) a m h = (h, refl)
  not_begun begin (outcome.Look look) a m h = absurd h
  not_begun begin (outcome.Done _) a m h = absurd h

  pub closed_nothing : (begin : Call) (came : Outcome) (was : Option (List Told)) (spare : ℕ) (a m : Seat B) → IsUnbegun begin came a m → HasClosed begin came was was spare spare a m
  closed_nothing begin came was spare a m h = record { told = []; waited = not_begun begin came a m h; heard = told_none was; spare = omega arith }

  -- a wait for the callbacks of an object
  pub has_waited : ((limits : Limits) (capacity : ℕ) (history : List Entry) → IsLegal limits capacity history → KeepsLaws limits history)
      → (kind : Kind) (object : ObjectId) (cancel : Bool) (x : Answer) (a m b : Seat B) → 0 < m.number → IsWaiting (BeginWait kind object cancel) [] a m → HasCalled End x m b → is_wait_answer x ≡ true
      → HasWaitedFor (BeginWait kind object cancel) [] (outcome.Done x) a b
  has_waited keeps kind object cancel x a m b some_number w h of_wait =
      last_as (BeginWait kind object cancel) [] x a b of_wait
      (λ t is. no_notice kind object cancel t a b (noticed (BeginWait kind object cancel) [] t a m b some_number w (subst (λ y. HasCalled End y m b) is h)))
      (over keeps (BeginWait kind object cancel) [] x a b (answered (BeginWait kind object cancel) [] x a m b some_number w h))

  -- a wait for a kernel object gives no notice
  pub has_acquired : ((limits : Limits) (capacity : ℕ) (history : List Entry) → IsLegal limits capacity history → KeepsLaws limits history)
      → ((limits : Limits) (capacity : ℕ) (history : List Entry) → IsLegal limits capacity history → (who : Who) → IsClosing history who → is_in_wait (after limits history) who ≡ true)
      → (kernel : KernelId) (x : Answer) (a m b : Seat B) → 0 < m.number → IsWaiting (BeginAcquire kernel) [] a m → HasCalled End x m b → is_wait_answer x ≡ true
      → HasWaitedFor (BeginAcquire kernel) [] (outcome.Done x) a b
  has_acquired keeps closes kernel x a m b some_number w h of_wait =
      last_as (BeginAcquire kernel) [] x a b of_wait (λ t is. noisy t is (answered (BeginAcquire kernel) [] x a m b some_number w h))
      (over keeps (BeginAcquire kernel) [] x a b (answered (BeginAcquire kernel) [] x a m b some_number w h))
    where
      noisy : (t : Told) → x ≡ answer.Notice t.object t.routine t.context t.cleanup → IsAnswered (BeginAcquire kernel) [] x a b → ⊥
      noisy t is n =
          let who : Who = actor_in b in
          let first : Entry = entry_of b (BeginAcquire kernel) n.begun in
          let place : (n.before ++ first ∷ n.between) ++ entry_of b End x ∷ [] ≡ seen_of b = sym n.seen in
          let closing : IsClosing (n.before ++ first ∷ n.between) who = n.laws.noticed.no_other (n.before ++ first ∷ n.between) [] (entry_of b End x) (notice_told t) place (ap notice_by is) in
          let none : list_any (begins_of who) (first ∷ n.between) ≡ false =
          ap (λ o. (is_same_actor who who && is_some o) || list_any (begins_of who) n.between) (ap (λ r. cond r None (begins_call (BeginAcquire kernel))) n.accepted)
          ∙ (ap (λ l. l || list_any (begins_of who) n.between) (and_off (is_same_actor who who)) ∙ begins_none who n.between n.own_between) in
          let inside : is_in_wait (after (setup_in b).limits n.before) who ≡ true = closes (setup_in b).limits (setup_in b).capacity n.before n.legal_before who (closing_first who n.before (first ∷ n.between) closing none) in
          let outside : is_in_wait (after (setup_in b).limits n.before) who ≡ false =
          (beginning (after (setup_in b).limits n.before) (room_of (recording_of (setup_in b) n.before)) who (BeginAcquire kernel) refl).free kernel refl n.begun n.came n.accepted in
          let both : true ≡ false = sym inside ∙ outside in
          cc
