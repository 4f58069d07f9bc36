-- Each change leaves to each object what it was made with, and to each group what is due, as its entry tells.
use Rattle.std.proofs.Common.{◌≡◌, option_map, ℕ, Bool, true, false, cond, ◌==◌, List, [], ◌∷◌, ◌++◌, length, slice_get, slice_set, Option, Some, None, refl, sym, ap, ◌∙◌, subst, eq-eqb, not, ap₂, ◌&&◌, ◌+◌, ◌-◌, ◌≤◌, length-append, map, length-set}
use Rattle.std.proofs.lemmas.List.{length-map}
use Rattle.tp_base.specs.declared.plans.Mark.TheVariants.{Long, Loose, Asks}
use Rattle.tp_base.specs.declared.plans.Change.{Change}
use Rattle.tp_base.specs.declared.plans.Change.TheVariants as change
use Rattle.tp_base.specs.declared.answers.Entry.{Entry}
use Rattle.tp_base.specs.declared.ids.Who.{Who}
use Rattle.tp_base.specs.declared.rows.ObjectRow.{ObjectRow}
use Rattle.tp_base.specs.declared.plans.Awaited.{Awaited}
use Rattle.tp_base.specs.declared.plans.Awaited.TheVariants as awaited
use Rattle.tp_base.specs.declared.rows.WaitTarget.{WaitTarget}
use Rattle.tp_base.specs.declared.rows.WaitTarget.TheVariants.{Object, Group, Kernel}
use Rattle.tp_base.specs.declared.rows.PoolRow.{PoolRow}
use Rattle.tp_base.specs.declared.ids.ObjectId.{ObjectId}
use Rattle.tp_model.specs.World.{World}
use Rattle.tp_model.specs.Counts.{numbered}
use Rattle.tp_model.specs.Changes.{change_pool, pool_after, with_pool, with_object, changed, release_object}
use Rattle.tp_model.specs.Waits.{is_group_target}
use Rattle.tp_model.specs.Support.Allowed.{IsAllowed, IsUnreleased}
use Rattle.tp_model.specs.Laws.Entries.{begins_by, Begins, Creation, created_by, closed_by}
use Rattle.tp_model.specs.Support.Told.{Told, told_by_change, told_by, creation_of, begins_of}
use Rattle.tp_model.specs.Support.Moves.{due_from, GroupsMove, HasCreated, IsCreated, IsObjectStill, with_created, without_closed, without_released, due_after}
use Rattle.tp_model.proofs.Firing.{numbered_made}
use Rattle.tp_model.proofs.Refusals.{false_true, numbered_some}
use Rattle.tp_base.specs.declared.ids.GroupId.{GroupId}
use Rattle.tp_model.specs.Groups.{is_member_at, released_from, is_member}
use Rattle.tp_model.proofs.Releasing.{members_released, Releases, released_if, one_released, numbered_map}
use Rattle.tp_model.specs.Laws.Notices.{is_close_of}
use Rattle.tp_model.proofs.Due.{due_made, due_closed, due_cleared}
use Rattle.tp_model.proofs.ObjectMoves.{appended_own}
use Rattle.tp_model.proofs.SoundObjects.{numbered_append}

-- a BeginWait is for no group
of_no_group : (t : Awaited) (cancel : Bool) (x : Begins) → begins_of t cancel ≡ Some x → is_group_target x.target ≡ false
of_no_group (awaited.Object object) cancel x e = let is : record { target = Object object; cancel = cancel; cleanup = 0 } ≡ x = cc in ap (λ (y : Begins). is_group_target y.target) (sym is)
of_no_group (awaited.Kernel kernel) cancel x e = absurd cc

module _ (next_number : ℕ) (w : World) (entry : Entry) where
  unclosed_due : (b : Option Begins) → ((x : Begins) → b ≡ Some x → is_group_target x.target ≡ false) → (group : ℕ) (due : List Creation) → without_released group b due ≡ due
  unclosed_due None other group due = refl
  unclosed_due (Some x) other group due = of_target x.target (other x refl)
    where
      of_target : (t : WaitTarget) → is_group_target t ≡ false → cond (is_close_of group t) [] due ≡ due
      of_target (Object object) e = refl
      of_target (Group g) e = absurd (false_true (sym e))
      of_target (Kernel kernel) e = refl

  -- the objects stay, and the entry begins no close
  same_groups : (after : World) → after.objects ≡ w.objects → created_by entry ≡ None → closed_by entry ≡ None → ((x : Begins) → begins_by entry ≡ Some x → is_group_target x.target ≡ false) → GroupsMove w entry after
  same_groups after same none closes other =
      record {
        keeps = λ n row is. record { new = row; stands = ap (λ os. numbered os n) same ∙ is; env = refl; context = refl; released = λ e. e };
        creates = λ c e. absurd (let nothing_made = sym none ∙ e in cc);
        closes = λ object e. absurd (let nothing_closed = sym closes ∙ e in cc);
        counts = subst (λ (o : Option Creation). HasCreated o (length w.objects) (length after.objects)) (sym none) (ap length same);
        clears = λ b group e at. absurd (false_true (sym (other b e) ∙ ap is_group_target at));
        dues = λ group.
            ap (due_from group 1) same ∙ sym (unclosed_due (begins_by entry) other group (due_from group 1 w.objects))
            ∙ sym (ap₂ (λ (c : Option Creation) (o : Option ObjectId). with_created group c (without_closed o (without_released group (begins_by entry) (due_from group 1 w.objects)))) none closes);
      }

  -- nothing that begins
  unbegun : begins_by entry ≡ None → (x : Begins) → begins_by entry ≡ Some x → is_group_target x.target ≡ false
  unbegun none x e = absurd (let nothing_begun = sym none ∙ e in cc)

  quiet_groups : (after : World) → (ch : Change) → told_by entry ≡ told_by_change next_number w ch
      → (told_by_change next_number w ch).created ≡ None → (told_by_change next_number w ch).closed ≡ None → (told_by_change next_number w ch).begun ≡ None
      → after.objects ≡ w.objects → GroupsMove w entry after
  quiet_groups after ch tells none closes still_one same =
      same_groups after same (ap (λ (t : Told). t.created) tells ∙ none) (ap (λ (t : Told). t.closed) tells ∙ closes) (unbegun (ap (λ (t : Told). t.begun) tells ∙ still_one))

  made_groups : (row : ObjectRow) → row.released ≡ false → told_by entry ≡ told_by_change next_number w (change.CreateObject row) → GroupsMove w entry (with_object w row)
  made_groups row unreleased tells =
      let makes : created_by entry ≡ Some (creation_of (length w.objects + 1) row) = ap (λ (t : Told). t.created) tells in
      record {
        keeps = λ n old is. record { new = old; stands = numbered_append w.objects row n old is; env = refl; context = refl; released = λ e. e };
        creates = λ c e.
            let both_told : Some (creation_of (length w.objects + 1) row) ≡ Some c = sym makes ∙ e in
            let is : creation_of (length w.objects + 1) row ≡ c = cc in
            subst (IsCreated (w.objects ++ row ∷ [])) is (record { row = row; stands = appended_own w.objects row; env = refl });
        closes = λ object e. absurd (let nothing_closed = sym (ap (λ (t : Told). t.closed) tells) ∙ e in cc);
        counts = subst (λ (o : Option Creation). HasCreated o (length w.objects) (length (w.objects ++ row ∷ []))) (sym makes) (refl, length-append w.objects (row ∷ []));
        clears = λ b group e. absurd (let nothing_begun = sym (ap (λ (t : Told). t.begun) tells) ∙ e in cc);
        dues = λ group. due_made group w.objects row unreleased ∙ sym (told_due group makes (ap (λ (t : Told). t.closed) tells) (ap (λ (t : Told). t.begun) tells));
      }
    where
      told_due : (group : ℕ) → created_by entry ≡ Some (creation_of (length w.objects + 1) row) → closed_by entry ≡ None → begins_by entry ≡ None → due_after group (due_from group 1 w.objects) entry ≡ with_created group (Some (creation_of (length w.objects + 1) row)) (due_from group 1 w.objects)
      told_due group c o b =
          ap (λ (x : Option Creation). with_created group x (without_closed (closed_by entry) (without_released group (begins_by entry) (due_from group 1 w.objects)))) c
          ∙ ap₂ (λ (x : Option ObjectId) (y : Option Begins). with_created group (Some (creation_of (length w.objects + 1) row)) (without_closed x (without_released group y (due_from group 1 w.objects)))) o b

  -- where some are released, the rows keep what they were made with
  still_rows : (gone : ℕ → Bool) (after : List ObjectRow) → Releases gone w.objects after → (n : ℕ) (row : ObjectRow) → numbered w.objects n ≡ Some row → IsObjectStill after n row
  still_rows gone after rel n row is =
      record {
        new = released_if (gone n) row;
        stands = rel n ∙ ap (option_map (released_if (gone n))) is;
        env = elim (gone n) as (λ b. (released_if b row).env ≡ row.env) [ true ↦ refl | false ↦ refl ];
        context = elim (gone n) as (λ b. (released_if b row).context ≡ row.context) [ true ↦ refl | false ↦ refl ];
        released = λ e. elim (gone n) as (λ b. (released_if b row).released ≡ true) [ true ↦ refl | false ↦ e ];
      }

  closed_groups : (object : ObjectId) (row : Option ObjectRow) → numbered w.objects object.0 ≡ row → IsUnreleased w object → told_by entry ≡ told_by_change next_number w (change.ReleaseObject object) → GroupsMove w entry (release_object w object row)
  closed_groups object None is a tells = absurd (let there = sym is ∙ a.stands in cc)
  closed_groups object (Some row) is a tells =
      let at = numbered_some w.objects object.0 row is in
      let closes : closed_by entry ≡ Some object = ap (λ (t : Told). t.closed) tells in
      let makes : created_by entry ≡ None = ap (λ (t : Told). t.created) tells in
      let begins : begins_by entry ≡ None = ap (λ (t : Told). t.begun) tells in
      record {
        keeps = still_rows (λ n. n == object.0) (slice_set w.objects (object.0 - 1) (record row { released = true })) (one_released w.objects object.0 row is);
        creates = λ c e. absurd (let nothing_made = sym makes ∙ e in cc);
        closes = λ other e.
            let both_told : Some object ≡ Some other = sym closes ∙ e in
            let same : object ≡ other = cc in
            subst (λ (o : ObjectId). o.0 ≤ length w.objects) same (numbered_made w.objects object.0 row is).1;
        counts = subst (λ (o : Option Creation). HasCreated o (length w.objects) (length (slice_set w.objects (object.0 - 1) (record row { released = true })))) (sym makes) (length-set w.objects (object.0 - 1) (record row { released = true }));
        clears = λ b group e. absurd (let nothing_begun = sym begins ∙ e in cc);
        dues = λ group. due_closed group object.0 w.objects row at.1 at.0 ∙ sym (told_due group makes closes begins);
      }
    where
      told_due : (group : ℕ) → created_by entry ≡ None → closed_by entry ≡ Some object → begins_by entry ≡ None → due_after group (due_from group 1 w.objects) entry ≡ without_closed (Some object) (due_from group 1 w.objects)
      told_due group c o b =
          ap (λ (x : Option Creation). with_created group x (without_closed (closed_by entry) (without_released group (begins_by entry) (due_from group 1 w.objects)))) c
          ∙ ap₂ (λ (x : Option ObjectId) (y : Option Begins). without_closed x (without_released group y (due_from group 1 w.objects))) o b

  cleared_groups : (who : Who) (of : GroupId) (cancel : Bool) (context notices : ℕ) → told_by entry ≡ told_by_change next_number w (change.BeginClose who of cancel context notices) → GroupsMove w entry (changed w (change.BeginClose who of cancel context notices))
  cleared_groups who of cancel context notices tells =
      let begins : begins_by entry ≡ Some begun = ap (λ (t : Told). t.begun) tells in
      let makes : created_by entry ≡ None = ap (λ (t : Told). t.created) tells in
      record {
        keeps = still_rows (is_member_at w of.0) (map (released_from of.0) w.objects) (members_released w of.0);
        creates = λ c e. absurd (let nothing_made = sym makes ∙ e in cc);
        closes = λ object e. absurd (let nothing_closed = sym (ap (λ (t : Told). t.closed) tells) ∙ e in cc);
        counts = subst (λ (o : Option Creation). HasCreated o (length w.objects) (length (map (released_from of.0) w.objects))) (sym makes) (length-map w.objects (released_from of.0));
        clears = λ b group e at.
            let both_told : Some begun ≡ Some b = sym begins ∙ e in
            let is : begun ≡ b = cc in
            let its : Group of ≡ Group group = ap (λ (x : Begins). x.target) is ∙ at in
            let same : of ≡ group = cc in
            subst (λ (g : GroupId). (n : ℕ) (row : ObjectRow) → numbered (map (released_from of.0) w.objects) n ≡ Some row → row.env.group.0 ≡ g.0 → row.released ≡ true) same cleared;
        dues = λ group. due_cleared group of.0 1 w.objects ∙ sym (told_due group makes (ap (λ (t : Told). t.closed) tells) begins);
      }
    where
      begun : Begins
      begun = record { target = Group of; cancel = cancel; cleanup = context }

      told_due : (group : ℕ) → created_by entry ≡ None → closed_by entry ≡ None → begins_by entry ≡ Some begun → due_after group (due_from group 1 w.objects) entry ≡ cond (of.0 == group) [] (due_from group 1 w.objects)
      told_due group c o b =
          ap (λ (x : Option Creation). with_created group x (without_closed (closed_by entry) (without_released group (begins_by entry) (due_from group 1 w.objects)))) c
          ∙ ap₂ (λ (x : Option ObjectId) (y : Option Begins). without_closed x (without_released group y (due_from group 1 w.objects))) o b

      released_one : (o row : ObjectRow) (b : Bool) → is_member of.0 o ≡ b → cond b (record o { released = true }) o ≡ row → row.env.group.0 ≡ of.0 → row.released ≡ true
      released_one o row true member is its = ap (λ (x : ObjectRow). x.released) (sym is)
      released_one o row false member is its = ap (λ (x : ObjectRow). x.released) (sym is) ∙ released_before o.released refl
        where
          released_before : (b : Bool) → o.released ≡ b → o.released ≡ true
          released_before true e = e
          released_before false e = absurd (false_true (sym member ∙ ap₂ (λ x y. not x && y) e (eq-eqb o.env.group.0 of.0 (ap (λ (x : ObjectRow). x.env.group.0) is ∙ its))))

      cleared : (n : ℕ) (row : ObjectRow) → numbered (map (released_from of.0) w.objects) n ≡ Some row → row.env.group.0 ≡ of.0 → row.released ≡ true
      cleared n row is its = of_old (numbered w.objects n) (sym (numbered_map (released_from of.0) w.objects n) ∙ is)
        where
          of_old : (o : Option ObjectRow) → option_map (released_from of.0) o ≡ Some row → row.released ≡ true
          of_old None e = absurd cc
          of_old (Some o) e = let same : released_from of.0 o ≡ row = cc in released_one o row (is_member of.0 o) refl same its

  pub change_groups : (ch : Change) → IsAllowed next_number w ch → told_by entry ≡ told_by_change next_number w ch → GroupsMove w entry (changed w ch)
  change_groups (change.CreateObject row) a tells = made_groups row a.unreleased tells
  change_groups (change.ReleaseObject object) a tells = closed_groups object (numbered w.objects object.0) refl a tells
  change_groups (change.BeginClose who group cancel context notices) a tells = cleared_groups who group cancel context notices tells
  change_groups (change.BeginWait who awaited cancel) a tells =
      same_groups (changed w (change.BeginWait who awaited cancel)) refl (ap (λ (t : Told). t.created) tells) (ap (λ (t : Told). t.closed) tells) (λ x e. of_no_group awaited cancel x (sym (ap (λ (t : Told). t.begun) tells) ∙ e))
  change_groups (change.ChangePool pool how) a tells = of_row (slice_get w.pools pool.0)
    where
      of_row : (row : Option PoolRow) → GroupsMove w entry (change_pool w pool.0 how row)
      of_row None = quiet_groups w (change.ChangePool pool how) tells refl refl refl refl
      of_row (Some row) = quiet_groups (with_pool w pool.0 (pool_after how row)) (change.ChangePool pool how) tells refl refl refl refl
  change_groups (change.Mark at Long) a tells = quiet_groups (changed w (change.Mark at Long)) (change.Mark at Long) tells refl refl refl refl
  change_groups (change.Mark at Loose) a tells = quiet_groups (changed w (change.Mark at Loose)) (change.Mark at Loose) tells refl refl refl refl
  change_groups (change.Mark at (Asks kind action)) a tells = quiet_groups (changed w (change.Mark at (Asks kind action))) (change.Mark at (Asks kind action)) tells refl refl refl refl
  change_groups change.Keep a tells = quiet_groups (changed w change.Keep) change.Keep tells refl refl refl refl
  change_groups change.CreatePool a tells = quiet_groups (changed w change.CreatePool) change.CreatePool tells refl refl refl refl
  change_groups change.CreateGroup a tells = quiet_groups (changed w change.CreateGroup) change.CreateGroup tells refl refl refl refl
  change_groups (change.CloseGroup group) a tells = quiet_groups (changed w (change.CloseGroup group)) (change.CloseGroup group) tells refl refl refl refl
  change_groups (change.QueueCallback c) a tells = quiet_groups (changed w (change.QueueCallback c)) (change.QueueCallback c) tells refl refl refl refl
  change_groups (change.ExpectCallback c) a tells = quiet_groups (changed w (change.ExpectCallback c)) (change.ExpectCallback c) tells refl refl refl refl
  change_groups (change.Operate c how) a tells = quiet_groups (changed w (change.Operate c how)) (change.Operate c how) tells refl refl refl refl
  change_groups (change.Fire trigger first count) a tells = quiet_groups (changed w (change.Fire trigger first count)) (change.Fire trigger first count) tells refl refl refl refl
  change_groups (change.CreateKernel state) a tells = quiet_groups (changed w (change.CreateKernel state)) (change.CreateKernel state) tells refl refl refl refl
  change_groups (change.ChangeKernel kernel how) a tells = quiet_groups (changed w (change.ChangeKernel kernel how)) (change.ChangeKernel kernel how) tells refl refl refl refl
  change_groups (change.Attach worker pool) a tells = quiet_groups (changed w (change.Attach worker pool)) (change.Attach worker pool) tells refl refl refl refl
  change_groups (change.Detach at) a tells = quiet_groups (changed w (change.Detach at)) (change.Detach at) tells refl refl refl refl
  change_groups (change.Take at c) a tells = quiet_groups (changed w (change.Take at c)) (change.Take at c) tells refl refl refl refl
  change_groups (change.Return at words first count) a tells = quiet_groups (changed w (change.Return at words first count)) (change.Return at words first count) tells refl refl refl refl
  change_groups (change.GiveNotice who) a tells = quiet_groups (changed w (change.GiveNotice who)) (change.GiveNotice who) tells refl refl refl refl
  change_groups (change.EndWait who how) a tells = quiet_groups (changed w (change.EndWait who how)) (change.EndWait who how) tells refl refl refl refl
  change_groups (change.Finish client) a tells = quiet_groups (changed w (change.Finish client)) (change.Finish client) tells refl refl refl refl
