-- Each change begins, ends or leaves waits as its entry tells.
use Rattle.std.proofs.Common.{◌≡◌, ℕ, Bool, true, false, cond, List, [], ◌∷◌, slice_get, Option, Some, None, refl, sym, ap, ◌∙◌, filter, find, not, ap₂, ◌&&◌, ◌≢◌, map, inl, inr, ◌⊎◌}
use Rattle.tp_base.specs.declared.rows.CallbackRow.{CallbackRow}
use Rattle.std.specs.Option.{option_or}
use Rattle.tp_base.specs.declared.plans.Mark.TheVariants.{Long, Loose, Asks}
use Rattle.tp_base.specs.declared.plans.Change.{Change}
use Rattle.tp_base.specs.declared.plans.Change.TheVariants as change
use Rattle.tp_base.specs.declared.answers.Entry.{Entry}
use Rattle.tp_base.specs.declared.ids.Who.{Who}
use Rattle.tp_base.specs.declared.plans.WaitEnd.{WaitEnd}
use Rattle.tp_base.specs.declared.plans.WaitEnd.TheVariants.{Free, Exhausted, Stalled}
use Rattle.tp_base.specs.declared.rows.ObjectRow.{ObjectRow}
use Rattle.tp_base.specs.declared.plans.Awaited.{Awaited}
use Rattle.tp_base.specs.declared.plans.Awaited.TheVariants as awaited
use Rattle.tp_base.specs.declared.rows.WaitTarget.{WaitTarget}
use Rattle.tp_base.specs.declared.rows.WaitTarget.TheVariants.{Object, Group, Kernel}
use Rattle.tp_base.specs.declared.rows.PoolRow.{PoolRow}
use Rattle.tp_model.specs.World.{World, BegunWait}
use Rattle.tp_model.specs.Counts.{is_pending, numbered, has_number, is_operating}
use Rattle.tp_model.specs.Changes.{change_pool, changed, release_object, new_wait, end_wait, new_close, give_notice}
use Rattle.tp_base.specs.Actors.{is_same_actor}
use Rattle.tp_model.specs.Conditions.{is_in_wait}
use Rattle.tp_model.specs.Waits.{is_of, is_cancelled_by, cancel_where, is_covered_by, wait_of, cancelled}
use Rattle.tp_model.specs.Support.Sound.{IsSound}
use Rattle.tp_model.specs.Support.Allowed.{IsAllowed, IsMadeBy, MayEnd, MayClose, MayNotify}
use Rattle.tp_model.specs.Laws.Entries.{begins_by, is_ending, Notice, notice_by}
use Rattle.tp_model.specs.Support.Told.{Told, told_by_change, told_by, is_free, notice_at, next_notice, first_left}
use Rattle.tp_model.specs.Support.Moves.{WaitsMove, Keep, Begin, End, due_from, Notify}
use Rattle.tp_model.proofs.Cancelling.{cancelled_pending, cancelled_found_out, among_numbers, cancelled_found, find_cancelled}
use Rattle.tp_model.proofs.Lists.{find_more}
use Rattle.tp_model.proofs.Refusals.{false_true}
use Rattle.tp_base.specs.declared.ids.GroupId.{GroupId}
use Rattle.tp_model.specs.Groups.{is_member_at, released_from, notices_of, object_id, objects_that, gets_notice}
use Rattle.tp_model.proofs.Releasing.{members_released}
use Rattle.tp_model.specs.Laws.Notices.{notice_for}
use Rattle.tp_model.proofs.Due.{notices_are}
use Rattle.std.proofs.lemmas.List.Folds.{find-append}
use Rattle.tp_model.proofs.SoundWaits.{group_idle}

-- what a cancellation leaves with an operation was there before
kept_operating : (test : CallbackRow → Bool) (n : ℕ) (cs : List CallbackRow) (c : CallbackRow) → find (has_number n) (cancel_where test cs) ≡ Some c → is_operating c.status ≡ true → find (has_number n) cs ≡ Some c
kept_operating test n cs c found operates = of_row (find (has_number n) cs) refl (sym (find_cancelled test cs n) ∙ found)
  where
    of_test : (d : CallbackRow) (b : Bool) → find (has_number n) cs ≡ Some d → cond b (cancelled d) d ≡ c → find (has_number n) cs ≡ Some c
    of_test d true there is = absurd (false_true (ap (λ (x : CallbackRow). is_operating x.status) is ∙ operates))
    of_test d false there is = there ∙ ap (λ x. Some x) is

    of_row : (o : Option CallbackRow) → find (has_number n) cs ≡ o → cancelled_found test o ≡ Some c → find (has_number n) cs ≡ Some c
    of_row None there e = absurd cc
    of_row (Some d) there e = of_test d (test d) there cc

-- with cancel nothing of what a wait is for is left pending
uncancelled : (target : WaitTarget) (cancel : Bool) (cs : List CallbackRow) → cancel ≡ true → (n : ℕ) (c : CallbackRow) → find (has_number n) (cancel_where (is_cancelled_by target cancel) cs) ≡ Some c → is_of target c ≡ true → is_pending c.status ≡ false
uncancelled target cancel cs on n c found of = known (is_pending c.status) refl
  where
    none_left : (test : CallbackRow → Bool) → test c ≡ false → test c ≡ true → ⊥
    none_left test out passes = false_true (sym out ∙ passes)

    known : (b : Bool) → is_pending c.status ≡ b → is_pending c.status ≡ false
    known false e = e
    known true e = absurd (none_left (is_cancelled_by target cancel) (cancelled_found_out (is_cancelled_by target cancel) (cancelled_pending target cancel) n cs c found) (ap₂ (λ a b. a && (b && is_of target c)) on e ∙ of))

module _ (next_number : ℕ) (w : World) (entry : Entry) where
  -- no change but four touches them
  waits_same : (ch : Change) → (told_by_change next_number w ch).begun ≡ None → (told_by_change next_number w ch).ending ≡ false → (told_by_change next_number w ch).notice ≡ None → told_by entry ≡ told_by_change next_number w ch → (changed w ch).waits ≡ w.waits → WaitsMove w entry (changed w ch)
  waits_same ch none still silent_of tells same =
      Keep (record {
        begins = ap (λ (t : Told). t.begun) tells ∙ none;
        ends = ap (λ (t : Told). t.ending) tells ∙ still;
        quiet = ap (λ (t : Told). t.notice) tells ∙ silent_of;
        stay = λ who wait found. ap (λ bs. find (λ (b : BegunWait). is_same_actor b.actor who) bs) same ∙ found;
        was = λ who wait found. inl (sym (ap (λ bs. find (λ (b : BegunWait). is_same_actor b.actor who) bs) same) ∙ found);
      })

  begin_moves : (who : Who) (awaited : Awaited) (cancel : Bool) → IsSound next_number w → is_in_wait w who ≡ false → entry.who ≡ who → told_by entry ≡ told_by_change next_number w (change.BeginWait who awaited cancel)
      → WaitsMove w entry (changed w (change.BeginWait who awaited cancel))
  begin_moves who (awaited.Kernel kernel) cancel s none by tells =
      Keep (record {
        begins = ap (λ (t : Told). t.begun) tells;
        ends = ap (λ (t : Told). t.ending) tells;
        quiet = ap (λ (t : Told). t.notice) tells;
        stay = λ other wait found. find_more (λ (b : BegunWait). is_same_actor b.actor other) wait w.waits (new_wait who (Kernel kernel) cancel (cancel_where (is_cancelled_by (Kernel kernel) cancel) w.callbacks) ∷ []) found;
        was = λ other wait found. of_found other wait (find (λ (b : BegunWait). is_same_actor b.actor other) w.waits) refl (sym (find-append (λ (b : BegunWait). is_same_actor b.actor other) w.waits (begun ∷ [])) ∙ found);
      })
    where
      begun : BegunWait
      begun = new_wait who (Kernel kernel) cancel (cancel_where (is_cancelled_by (Kernel kernel) cancel) w.callbacks)

      of_own : (wait : BegunWait) (b : Bool) → cond b (Some begun) None ≡ Some wait → wait.notices ≡ []
      of_own wait false e = absurd cc
      of_own wait true e = let is : begun ≡ wait = cc in ap (λ (b : BegunWait). b.notices) (sym is)

      of_found : (other : Who) (wait : BegunWait) (o : Option BegunWait) → find (λ (b : BegunWait). is_same_actor b.actor other) w.waits ≡ o → option_or o (cond (is_same_actor begun.actor other) (Some begun) None) ≡ Some wait
          → (wait_of w other ≡ Some wait) ⊎ (wait.notices ≡ [])
      of_found other wait (Some b) there e = inl (there ∙ e)
      of_found other wait None there e = inr (of_own wait (is_same_actor begun.actor other) e)
  begin_moves who (awaited.Object object) cancel s none by tells =
      let kept : List CallbackRow = cancel_where (is_cancelled_by (Object object) cancel) w.callbacks in
      Begin (record {
        wait = new_wait who (Object object) cancel kept;
        begun = record { target = Object object; cancel = cancel; cleanup = 0 };
        begins = ap (λ (t : Told). t.begun) tells;
        ends = ap (λ (t : Told). t.ending) tells;
        quiet = ap (λ (t : Told). t.notice) tells;
        actor = sym by;
        target = refl;
        notices = elim cancel as (λ b. ◌≡◌ {A = List Notice} [] (cond b [] [])) [ true ↦ refl | false ↦ refl ];
        none = ap (is_in_wait w) by ∙ none;
        waits = refl;
        covers = λ n c found covered. among_numbers (is_covered_by (Object object) cancel) n c kept found covered;
        cuts = λ with_cancel n c found of. uncancelled (Object object) cancel w.callbacks with_cancel n c found of;
        idle = λ e. absurd (false_true e);
      })

  close_moves : (who : Who) (group : GroupId) (cancel : Bool) (context notices : ℕ) → IsSound next_number w → MayClose w who group cancel notices → entry.who ≡ who → told_by entry ≡ told_by_change next_number w (change.BeginClose who group cancel context notices)
      → WaitsMove w entry (changed w (change.BeginClose who group cancel context notices))
  close_moves who group cancel context notices s a by tells =
      let test : CallbackRow → Bool = is_cancelled_by (Group group) cancel in
      let kept : List CallbackRow = cancel_where test w.callbacks in
      Begin (record {
        wait = new_close who group cancel context (notices_of w group.0 cancel) kept;
        begun = record { target = Group group; cancel = cancel; cleanup = context };
        begins = ap (λ (t : Told). t.begun) tells;
        ends = ap (λ (t : Told). t.ending) tells;
        quiet = ap (λ (t : Told). t.notice) tells;
        actor = sym by;
        target = refl;
        notices = elim cancel as (λ b. map (notice_at (map (released_from group.0) w.objects) context) (cond b (map object_id (objects_that (gets_notice group.0) w.objects)) [])
            ≡ cond b (map (notice_for context) (due_from group.0 1 w.objects)) []) [
              | true ↦ notices_are (is_member_at w group.0) w.objects (map (released_from group.0) w.objects) (members_released w group.0) group.0 context
              | false ↦ refl
            ];
        none = ap (is_in_wait w) by ∙ a.none;
        waits = refl;
        covers = λ n c found covered. among_numbers (is_covered_by (Group group) cancel) n c kept found covered;
        cuts = λ with_cancel n c found of. uncancelled (Group group) cancel w.callbacks with_cancel n c found of;
        idle = λ _ n c found of. at_rest n c found of (is_operating c.status) refl;
      })
    where
      at_rest : (n : ℕ) (c : CallbackRow) → find (has_number n) (cancel_where (is_cancelled_by (Group group) cancel) w.callbacks) ≡ Some c → is_of (Group group) c ≡ true → (b : Bool) → is_operating c.status ≡ b → is_operating c.status ≡ false
      at_rest n c found of false e = e
      at_rest n c found of true e = group_idle next_number w group.0 a.idle s n c (kept_operating (is_cancelled_by (Group group) cancel) n w.callbacks c found e) of

  notify_moves : (who : Who) → MayNotify w who → entry.who ≡ who → told_by entry ≡ told_by_change next_number w (change.GiveNotice who) → WaitsMove w entry (changed w (change.GiveNotice who))
  notify_moves who a by tells =
      Notify (record {
        wait = a.wait;
        begins = ap (λ (t : Told). t.begun) tells;
        ends = ap (λ (t : Told). t.ending) tells;
        found = ap (wait_of w) by ∙ a.begun;
        object = a.object;
        rest = a.rest;
        left = a.left;
        tells = ap (λ (t : Told). t.notice) tells ∙ ap (next_notice w.objects) a.begun ∙ ap (first_left w.objects a.wait.cleanup) a.left;
        free = a.free;
        waits = ap (λ x. give_notice x w.waits) (sym by);
      })

  end_moves : (who : Who) (how : WaitEnd) → MayEnd w who how → entry.who ≡ who → told_by entry ≡ told_by_change next_number w (change.EndWait who how) → WaitsMove w entry (end_wait w who how)
  end_moves who how a by tells =
      End (record {
        wait = a.wait;
        begins = ap (λ (t : Told). t.begun) tells;
        ends = ap (λ (t : Told). t.ending) tells;
        quiet = ap (λ (t : Told). t.notice) tells;
        unnoticed = λ freed. a.unnoticed (free_not_stalled how (how_free how (sym (ap (λ (t : Told). t.freeing) tells) ∙ freed)));
        found = ap (wait_of w) by ∙ a.begun;
        free = λ freed. a.free (how_free how (sym (ap (λ (t : Told). t.freeing) tells) ∙ freed));
        waits = ap (λ x. filter (λ (b : BegunWait). not (is_same_actor b.actor x)) w.waits) (sym by);
      })
    where
      how_free : (h : WaitEnd) → is_free h ≡ true → h ≡ Free
      how_free Free e = refl
      how_free Exhausted e = absurd (false_true e)
      how_free Stalled e = absurd (false_true e)

      free_not_stalled : (h : WaitEnd) → h ≡ Free → h ≢ Stalled
      free_not_stalled h free stalled = let same : Free ≡ Stalled = sym free ∙ stalled in cc

  pub change_waits : (ch : Change) → IsSound next_number w → IsAllowed next_number w ch → IsMadeBy w entry.who ch → told_by entry ≡ told_by_change next_number w ch → WaitsMove w entry (changed w ch)
  change_waits (change.BeginWait who awaited cancel) s a by tells = begin_moves who awaited cancel s a.none by tells
  change_waits change.CreateGroup s a by tells = waits_same change.CreateGroup refl refl refl tells refl
  change_waits (change.CloseGroup group) s a by tells = waits_same (change.CloseGroup group) refl refl refl tells refl
  change_waits (change.BeginClose who group cancel context notices) s a by tells = close_moves who group cancel context notices s a by tells
  change_waits (change.GiveNotice who) s a by tells = notify_moves who a by tells
  change_waits (change.EndWait who how) s a by tells = end_moves who how a by tells
  change_waits (change.ChangePool pool how) s a by tells = of_row (slice_get w.pools pool.0) (ap (λ (t : Told). t.begun) tells) (ap (λ (t : Told). t.ending) tells) (ap (λ (t : Told). t.notice) tells)
    where
      of_row : (row : Option PoolRow) → begins_by entry ≡ None → is_ending entry ≡ false → notice_by entry.answer ≡ None → WaitsMove w entry (change_pool w pool.0 how row)
      of_row None none unending silent_of = Keep (record { begins = none; ends = unending; quiet = silent_of; stay = λ who wait found. found; was = λ who wait found. inl found })
      of_row (Some row) none unending silent_of = Keep (record { begins = none; ends = unending; quiet = silent_of; stay = λ who wait found. found; was = λ who wait found. inl found })
  change_waits (change.ReleaseObject object) s a by tells = of_row (numbered w.objects object.0) (ap (λ (t : Told). t.begun) tells) (ap (λ (t : Told). t.ending) tells) (ap (λ (t : Told). t.notice) tells)
    where
      of_row : (row : Option ObjectRow) → begins_by entry ≡ None → is_ending entry ≡ false → notice_by entry.answer ≡ None → WaitsMove w entry (release_object w object row)
      of_row None none unending silent_of = Keep (record { begins = none; ends = unending; quiet = silent_of; stay = λ who wait found. found; was = λ who wait found. inl found })
      of_row (Some row) none unending silent_of = Keep (record { begins = none; ends = unending; quiet = silent_of; stay = λ who wait found. found; was = λ who wait found. inl found })
  change_waits (change.Mark at Long) s a by tells = waits_same (change.Mark at Long) refl refl refl tells refl
  change_waits (change.Mark at Loose) s a by tells = waits_same (change.Mark at Loose) refl refl refl tells refl
  change_waits (change.Mark at (Asks kind action)) s a by tells = waits_same (change.Mark at (Asks kind action)) refl refl refl tells refl
  change_waits change.Keep s a by tells = waits_same change.Keep refl refl refl tells refl
  change_waits (change.Fire trigger first count) s a by tells = waits_same (change.Fire trigger first count) refl refl refl tells refl
  change_waits change.CreatePool s a by tells = waits_same change.CreatePool refl refl refl tells refl
  change_waits (change.CreateObject row) s a by tells = waits_same (change.CreateObject row) refl refl refl tells refl
  change_waits (change.QueueCallback c) s a by tells = waits_same (change.QueueCallback c) refl refl refl tells refl
  change_waits (change.ExpectCallback c) s a by tells = waits_same (change.ExpectCallback c) refl refl refl tells refl
  change_waits (change.Operate c how) s a by tells = waits_same (change.Operate c how) refl refl refl tells refl
  change_waits (change.CreateKernel state) s a by tells = waits_same (change.CreateKernel state) refl refl refl tells refl
  change_waits (change.ChangeKernel kernel how) s a by tells = waits_same (change.ChangeKernel kernel how) refl refl refl tells refl
  change_waits (change.Attach worker pool) s a by tells = waits_same (change.Attach worker pool) refl refl refl tells refl
  change_waits (change.Detach at) s a by tells = waits_same (change.Detach at) refl refl refl tells refl
  change_waits (change.Take at c) s a by tells = waits_same (change.Take at c) refl refl refl tells refl
  change_waits (change.Return at words first count) s a by tells = waits_same (change.Return at words first count) refl refl refl tells refl
  change_waits (change.Finish client) s a by tells = waits_same (change.Finish client) refl refl refl tells refl
