-- Each change makes a wait object exactly where its entry tells of one.
use Rattle.std.proofs.Common.{◌≡◌, ℕ, suc, zero, ◌<◌, Bool, true, false, cond, ◌==◌, List, [], ◌∷◌, ◌++◌, length, slice_get, get_or, Option, Some, None, refl, sym, ap, ◌∙◌, eqb-true, eq-eqb, ◌+◌, ◌-◌, ◌≤◌, ◌||◌, nat_lt, arith, ne_eqb, ltb-true, ltb-false, length-append, map}
use Rattle.std.specs.Option.{option_map_or}
use Rattle.std.proofs.lemmas.Option.{slice_get-get_or, slice_get_past}
use Rattle.std.proofs.lemmas.List.{get_or_push}
use Rattle.tp_base.specs.declared.plans.Mark.TheVariants.{Long, Loose, Asks}
use Rattle.tp_base.specs.declared.plans.Change.{Change}
use Rattle.tp_base.specs.declared.plans.Change.TheVariants as change
use Rattle.tp_base.specs.declared.answers.Entry.{Entry}
use Rattle.tp_base.specs.declared.rows.ObjectRow.{ObjectRow}
use Rattle.tp_base.specs.declared.rows.PoolRow.{PoolRow}
use Rattle.tp_model.specs.World.{World}
use Rattle.tp_model.specs.Counts.{numbered}
use Rattle.tp_model.specs.Changes.{change_pool, pool_after, with_pool, with_object, changed, release_object}
use Rattle.tp_base.specs.declared.calls.Kind.{Kind}
use Rattle.tp_base.specs.declared.calls.Kind.TheVariants.{Work, Timer, Wait, Io}
use Rattle.tp_model.specs.Conditions.{is_same_kind}
use Rattle.tp_model.specs.Support.Sound.{IsMade, is_wait_at}
use Rattle.tp_model.specs.Laws.Entries.{wait_made, wait_numbered}
use Rattle.tp_model.specs.Support.Told.{Told, told_by_change, told_by}
use Rattle.tp_model.specs.Support.Moves.{ObjectsMove}
use Rattle.tp_model.proofs.Firing.{numbered_made}
use Rattle.tp_model.proofs.Refusals.{false_true, or_false, numbered_at}
use Rattle.tp_model.specs.Groups.{is_member_at, released_from}
use Rattle.tp_model.proofs.Releasing.{that_released, members_released}
use Rattle.tp_model.proofs.SoundObjects.{kind_released, numbered_append, wait_row}

-- the object that is made is a wait object of this number
abbrev is_numbered : Kind → ℕ → ℕ → Bool
is_numbered kind number object = option_map_or (λ (n : ℕ). n == object) (wait_numbered kind number) false

number_other : (kind : Kind) (number object : ℕ) → (number == object) ≡ false → is_numbered kind number object ≡ false
number_other Wait number object apart = apart
number_other Work number object apart = refl
number_other Timer number object apart = refl
number_other Io number object apart = refl

number_own : (kind : Kind) (number object : ℕ) → (number == object) ≡ true → is_numbered kind number object ≡ is_same_kind kind Wait
number_own Wait number object same = same
number_own Work number object same = refl
number_own Timer number object same = refl
number_own Io number object same = refl

-- the row of a further object, and none behind it
pub appended_own : (objects : List ObjectRow) (row : ObjectRow) → numbered (objects ++ row ∷ []) (length objects + 1) ≡ Some row
appended_own objects row =
    let longer : length (objects ++ row ∷ []) ≡ length objects + 1 = length-append objects (row ∷ []) in
    numbered_at (objects ++ row ∷ []) (length objects + 1) row (omega arith)
    (slice_get-get_or (objects ++ row ∷ []) (length objects + 1 - 1) row (omega (arith, longer)) ∙ ap (λ o. Some o) (get_or_push objects row row (length objects + 1 - 1) (omega arith)))

appended_none : (objects : List ObjectRow) (row : ObjectRow) (object : ℕ) → numbered objects object ≡ None → (length objects + 1 == object) ≡ false → numbered (objects ++ row ∷ []) object ≡ None
appended_none objects row zero none apart = refl
appended_none objects row (suc n) none apart = ap (λ b. cond b None (slice_get (objects ++ row ∷ []) (suc n - 1))) above ∙ slice_get_past (objects ++ row ∷ []) (suc n - 1) (omega (arith, length-append objects (row ∷ []), beyond))
  where
    above : (suc n == 0) ≡ false
    above = ne_eqb (suc n) 0 (λ h. omega (arith, h))

    none_there : (i : ℕ) → slice_get objects i ≡ None → i < length objects → ⊥
    none_there i e within = let there : None ≡ Some (get_or objects i row) = sym e ∙ slice_get-get_or objects i row within in cc

    beyond : length objects < n
    beyond = of_order (nat_lt (length objects) n) refl
      where
        less : (a b : ℕ) → a ≤ b → (a == b) ≡ false → a < b
        less a b most other = known (nat_lt a b) refl
          where
            known : (t : Bool) → nat_lt a b ≡ t → a < b
            known true e = ltb-true a b e
            known false e = absurd (false_true (sym other ∙ eq-eqb a b (omega (arith, ltb-false a b e, most))))

        of_order : (b : Bool) → nat_lt (length objects) n ≡ b → length objects < n
        of_order true e = ltb-true (length objects) n e
        of_order false e =
            let most : n ≤ length objects = ltb-false (length objects) n e in
            elim (n == length objects) as (λ b. (n == length objects) ≡ b → length objects < n) [
              | true ↦ λ same. absurd (false_true (sym apart ∙ eq-eqb (length objects + 1) (suc n) (omega (arith, eqb-true n (length objects) same))))
              | false ↦ λ other. absurd (none_there n (ap (slice_get objects) (omega arith) ∙ sym (ap (λ b. cond b None (slice_get objects (suc n - 1))) above) ∙ none) (less n (length objects) most other))
            ] refl

wait_appended : (objects : List ObjectRow) (row : ObjectRow) (object : ℕ) → is_wait_at (objects ++ row ∷ []) object ≡ (is_wait_at objects object || is_numbered row.kind (length objects + 1) object)
wait_appended objects row object = of_row (numbered objects object) refl
  where
    of_row : (old : Option ObjectRow) → numbered objects object ≡ old → is_wait_at (objects ++ row ∷ []) object ≡ (is_wait_at objects object || is_numbered row.kind (length objects + 1) object)
    of_row (Some o) is =
        let made : IsMade (length objects) object = numbered_made objects object o is in
        let apart : (length objects + 1 == object) ≡ false = ne_eqb (length objects + 1) object (λ h. omega (arith, h, made.1)) in
        ap wait_row (numbered_append objects row object o is ∙ sym is) ∙ sym (or_false (is_wait_at objects object)) ∙ ap (λ b. is_wait_at objects object || b) (sym (number_other row.kind (length objects + 1) object apart))
    of_row None is =
        elim (length objects + 1 == object) as (λ b. (length objects + 1 == object) ≡ b → is_wait_at (objects ++ row ∷ []) object ≡ (is_wait_at objects object || is_numbered row.kind (length objects + 1) object)) [
          | true ↦ λ same.
              ap (is_wait_at (objects ++ row ∷ [])) (sym (eqb-true (length objects + 1) object same)) ∙ ap wait_row (appended_own objects row)
              ∙ sym (ap (λ b. b || is_numbered row.kind (length objects + 1) object) (ap wait_row is) ∙ number_own row.kind (length objects + 1) object same)
          | false ↦ λ apart.
              ap wait_row (appended_none objects row object is apart ∙ sym is) ∙ sym (or_false (is_wait_at objects object)) ∙ ap (λ b. is_wait_at objects object || b) (sym (number_other row.kind (length objects + 1) object apart))
        ] refl

module _ (next_number : ℕ) (w : World) (entry : Entry) where
  same_objects : (after : World) → wait_made entry ≡ None → ((object : ℕ) → is_wait_at after.objects object ≡ is_wait_at w.objects object) → ObjectsMove w entry after
  same_objects after none same =
      record {
        waits = λ object. same object ∙ sym (or_false (is_wait_at w.objects object)) ∙ ap (λ (o : Option ℕ). is_wait_at w.objects object || option_map_or (λ n. n == object) o false) (sym none);
        new = λ object makes. absurd (false_true (sym (ap (λ (o : Option ℕ). option_map_or (λ n. n == object) o false) none) ∙ makes));
      }

  object_made : (row : ObjectRow) → wait_made entry ≡ wait_numbered row.kind (length w.objects + 1) → ObjectsMove w entry (with_object w row)
  object_made row tells =
      record {
        waits = λ object. wait_appended w.objects row object ∙ ap (λ (o : Option ℕ). is_wait_at w.objects object || option_map_or (λ n. n == object) o false) (sym tells);
        new = λ object makes. unmade_yet object (length w.objects + 1 == object) refl (sym (ap (λ (o : Option ℕ). option_map_or (λ n. n == object) o false) tells) ∙ makes);
      }
    where
      unmade_yet : (object : ℕ) (b : Bool) → (length w.objects + 1 == object) ≡ b → is_numbered row.kind (length w.objects + 1) object ≡ true → numbered w.objects object ≡ None
      unmade_yet object false apart numbers = absurd (false_true (sym (number_other row.kind (length w.objects + 1) object apart) ∙ numbers))
      unmade_yet object true same numbers = of_row (numbered w.objects object) refl
        where
          of_row : (old : Option ObjectRow) → numbered w.objects object ≡ old → numbered w.objects object ≡ None
          of_row None is = is
          of_row (Some o) is = absurd (omega (arith, (numbered_made w.objects object o is).1, eqb-true (length w.objects + 1) object same))

  pub change_objects : (ch : Change) → told_by entry ≡ told_by_change next_number w ch → ObjectsMove w entry (changed w ch)
  change_objects (change.CreateObject row) tells = object_made row (ap (λ (t : Told). t.wait) tells)
  change_objects (change.ReleaseObject object) tells = of_row (numbered w.objects object.0) refl (ap (λ (t : Told). t.wait) tells)
    where
      of_row : (row : Option ObjectRow) → numbered w.objects object.0 ≡ row → wait_made entry ≡ None → ObjectsMove w entry (release_object w object row)
      of_row None is none = same_objects w none (λ n. refl)
      of_row (Some row) is none = same_objects (release_object w object (Some row)) none (λ n. kind_released w.objects object row n is)
  change_objects (change.ChangePool pool how) tells = of_row (slice_get w.pools pool.0) (ap (λ (t : Told). t.wait) tells)
    where
      of_row : (row : Option PoolRow) → wait_made entry ≡ None → ObjectsMove w entry (change_pool w pool.0 how row)
      of_row None none = same_objects w none (λ n. refl)
      of_row (Some row) none = same_objects (with_pool w pool.0 (pool_after how row)) none (λ n. refl)
  change_objects (change.Mark at Long) tells = same_objects (changed w (change.Mark at Long)) (ap (λ (t : Told). t.wait) tells) (λ n. refl)
  change_objects (change.Mark at (Asks kind action)) tells = same_objects (changed w (change.Mark at (Asks kind action))) (ap (λ (t : Told). t.wait) tells) (λ n. refl)
  change_objects (change.Mark at Loose) tells = same_objects (changed w (change.Mark at Loose)) (ap (λ (t : Told). t.wait) tells) (λ n. refl)
  change_objects change.Keep tells = same_objects (changed w change.Keep) (ap (λ (t : Told). t.wait) tells) (λ n. refl)
  change_objects change.CreatePool tells = same_objects (changed w change.CreatePool) (ap (λ (t : Told). t.wait) tells) (λ n. refl)
  change_objects (change.QueueCallback c) tells = same_objects (changed w (change.QueueCallback c)) (ap (λ (t : Told). t.wait) tells) (λ n. refl)
  change_objects (change.ExpectCallback c) tells = same_objects (changed w (change.ExpectCallback c)) (ap (λ (t : Told). t.wait) tells) (λ n. refl)
  change_objects (change.Operate c how) tells = same_objects (changed w (change.Operate c how)) (ap (λ (t : Told). t.wait) tells) (λ n. refl)
  change_objects (change.Fire trigger first count) tells = same_objects (changed w (change.Fire trigger first count)) (ap (λ (t : Told). t.wait) tells) (λ n. refl)
  change_objects (change.CreateKernel state) tells = same_objects (changed w (change.CreateKernel state)) (ap (λ (t : Told). t.wait) tells) (λ n. refl)
  change_objects (change.ChangeKernel kernel how) tells = same_objects (changed w (change.ChangeKernel kernel how)) (ap (λ (t : Told). t.wait) tells) (λ n. refl)
  change_objects (change.Attach worker pool) tells = same_objects (changed w (change.Attach worker pool)) (ap (λ (t : Told). t.wait) tells) (λ n. refl)
  change_objects (change.Detach at) tells = same_objects (changed w (change.Detach at)) (ap (λ (t : Told). t.wait) tells) (λ n. refl)
  change_objects (change.Take at c) tells = same_objects (changed w (change.Take at c)) (ap (λ (t : Told). t.wait) tells) (λ n. refl)
  change_objects (change.Return at words first count) tells = same_objects (changed w (change.Return at words first count)) (ap (λ (t : Told). t.wait) tells) (λ n. refl)
  change_objects (change.BeginWait who awaited cancel) tells = same_objects (changed w (change.BeginWait who awaited cancel)) (ap (λ (t : Told). t.wait) tells) (λ n. refl)
  change_objects change.CreateGroup tells = same_objects (changed w change.CreateGroup) (ap (λ (t : Told). t.wait) tells) (λ n. refl)
  change_objects (change.CloseGroup group) tells = same_objects (changed w (change.CloseGroup group)) (ap (λ (t : Told). t.wait) tells) (λ n. refl)
  change_objects (change.BeginClose who group cancel context notices) tells =
      same_objects (changed w (change.BeginClose who group cancel context notices)) (ap (λ (t : Told). t.wait) tells)
      (λ n. that_released (λ (o : ObjectRow). is_same_kind o.kind Wait) (is_member_at w group.0) w.objects (map (released_from group.0) w.objects) (members_released w group.0) (λ o. refl) n)
  change_objects (change.GiveNotice who) tells = same_objects (changed w (change.GiveNotice who)) (ap (λ (t : Told). t.wait) tells) (λ n. refl)
  change_objects (change.EndWait who how) tells = same_objects (changed w (change.EndWait who how)) (ap (λ (t : Told). t.wait) tells) (λ n. refl)
  change_objects (change.Finish client) tells = same_objects (changed w (change.Finish client)) (ap (λ (t : Told). t.wait) tells) (λ n. refl)
