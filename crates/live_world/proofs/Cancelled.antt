-- Callbacks that are cancelled one after another, and those of an object.
use Rattle.std.proofs.Common.{◌≡◌, ℕ, ◌<◌, Bool, true, false, cond, not, ◌&&◌, ◌==◌, List, [], ◌∷◌, nat_lt, slice_get, Option, Some, None, refl, sym, ap, ap₂, ◌∙◌, subst, arith, filter, find, eq-eqb, ne_eqb}
use Rattle.std.specs.List.{AllByRecursion}
use Rattle.std.proofs.lemmas.Bool.{ltb-true}
use Rattle.tp_base.specs.declared.ids.ObjectId.{ObjectId}
use Rattle.tp_base.specs.declared.rows.CallbackRow.{CallbackRow}
use Rattle.tp_base.specs.declared.rows.WaitTarget.{WaitTarget}
use Rattle.tp_base.specs.declared.rows.WaitTarget.TheVariants.{Object}
use Rattle.tp_model.specs.Counts.{has_number}
use Rattle.tp_model.specs.Changes.{replaced, with_callback}
use Rattle.tp_model.specs.Support.Sound.{IsRising}
use Rattle.tp_model.specs.Support.Remembered.{lives, forget}
use Rattle.tp_model.specs.Waits.{is_outstanding_for, is_cancelled_by, cancelled, cancel_where}
use Rattle.tp_model.proofs.Lists.{filter_filter, find_kept, find_passes}
use Rattle.tp_model.proofs.Callbacks.{found_all, filter_replaced_out, over_not_pending}
use Rattle.tp_model.proofs.Cancelling.{cancelled_pending, cancelled_if}
use Rattle.tp_model.proofs.Forgetting.{cancel_forget, over_not_outstanding}
use Rattle.tp_model.proofs.Refusals.{and_false}
use Rattle.live_world.specs.Invariant.{is_pending_callback}
use Rattle.live_world.specs.Live.{Live, with_world, without_pending}
use Rattle.live_world.specs.Waiting.{is_pending_for, outstanding_of, pending_of}
use Rattle.live_world.proofs.Lists.{none_passes}
use Rattle.live_world.proofs.Walks.{rest, IsAmong, rest_without, passing_without}
use Rattle.live_world.proofs.Along.{number_of, first_passes, first_by_number, Seeking, Seeks, seeking_first, seeks}

pub none_where : (cs : List CallbackRow) (t : CallbackRow → Bool) → AllByRecursion (λ c. t c ≡ false) cs → cancel_where t cs ≡ cs
none_where [] t all = refl
none_where (c ∷ cs) t all = ap₂ (λ b ds. cond b (cancelled c) c ∷ ds) all.0 (none_where cs t all.1)

-- ---- one callback is cancelled

-- what is pending of a target cancelled
abbrev pub settled_for : WaitTarget → Live → Live
settled_for target l = with_world l (record l.world { callbacks = cancel_where (is_cancelled_by target true) l.world.callbacks })

-- where nothing is left to cancel, all of it is
pub nothing_left : (target : WaitTarget) (now : Live) → forget now.world ≡ now.world → filter (is_cancelled_by target true) now.world.callbacks ≡ [] → now ≡ settled_for target now
nothing_left target now living none =
    ap (λ w. record { world = w; made = now.made }) (sym living)
    ∙ ap (λ cs. with_world now (record now.world { callbacks = cs })) (sym (none_where now.world.callbacks (is_cancelled_by target true) (none_passes (is_cancelled_by target true) now.world.callbacks none)))

-- without it there is as much left to cancel, but for it
pub settles_alike : (target : WaitTarget) (next_number : ℕ) (now : Live) (c : CallbackRow) → IsRising 1 next_number now.world.callbacks → is_cancelled_by target true c ≡ true → find (has_number c.number) now.world.callbacks ≡ Some c
    → (new : Live) → new ≡ with_world now (with_callback now.world (cancelled c)) → settled_for target new ≡ settled_for target now
settles_alike target next_number now c rising passes there new is =
    ap (settled_for target) is
    ∙ ap (λ ds. record { world = record now.world { callbacks = ds }; made = now.made })
    (cancel_forget lives t (cancelled_pending target true) (λ x e. e) (replaced (cancelled c) now.world.callbacks) ∙ ap (filter lives) (each now.world.callbacks (found_all (λ x. x ≡ c) c.number c 1 next_number now.world.callbacks rising there refl)))
  where
    t : CallbackRow → Bool
    t = is_cancelled_by target true

    each : (ds : List CallbackRow) → AllByRecursion (λ x. has_number c.number x ≡ true → x ≡ c) ds → cancel_where t (replaced (cancelled c) ds) ≡ cancel_where t ds
    each [] same = refl
    each (d ∷ ds) same =
        ap₂ (λ (x : CallbackRow) (xs : List CallbackRow). x ∷ xs)
        (elim (has_number c.number d) as (λ b. has_number c.number d ≡ b → cancelled_if t (cond b (cancelled c) d) ≡ cancelled_if t d) [
          | true ↦ λ e. sym (ap (λ (x : CallbackRow). cancelled_if t x) (same.0 e) ∙ ap (λ b. cond b (cancelled c) c) passes)
          | false ↦ λ e. refl
        ] refl)
        (each ds same.1)

-- what follows it is behind it
pub behind : (c : CallbackRow) (ys : List CallbackRow) (after : Option CallbackRow) → after ≡ find (λ (x : CallbackRow). nat_lt c.number x.number) ys → (d : CallbackRow) → after ≡ Some d → c.number < d.number
behind c ys after is d some = ltb-true c.number d.number (find_passes (λ (x : CallbackRow). nat_lt c.number x.number) d ys (sym is ∙ some))

-- and is there without it
pub still_among : (c : CallbackRow) (ys : List CallbackRow) (after : Option CallbackRow) → ((d : CallbackRow) → after ≡ Some d → c.number < d.number) → IsAmong number_of ys after → IsAmong number_of (filter (λ (x : CallbackRow). not (has_number c.number x)) ys) after
still_among c ys None past there = tt
still_among c ys (Some d) past there = find_kept (λ (x : CallbackRow). x.number == d.number) (λ (x : CallbackRow). not (has_number c.number x)) d (ap not (ne_eqb d.number c.number (λ same. omega (arith, same, past d refl)))) ys there

-- ---- what is pending of an object is cancelled

-- what is left to cancel leads to where all of it leads, and none of it stands before the next
pub record Cancelling (object : ObjectId) (before now : Live) (next : Option CallbackRow) : Type 0 where
  pub leads : without_pending now object ≡ without_pending before object
  pub seeks : Seeking object now.world next

pub cancelling_first : (object : ObjectId) (next_number : ℕ) (now : Live) (next : Option CallbackRow) → IsRising 1 next_number now.world.callbacks → next ≡ slice_get (outstanding_of now.world object) 0 → Cancelling object now now next
cancelling_first object next_number now next rising is = record { leads = refl; seeks = seeking_first now.world next_number object next rising is }

-- where nothing is left, all of it is cancelled
pub cancelling_ended : (object : ObjectId) (before now : Live) (next : Option CallbackRow) → next ≡ None → forget now.world ≡ now.world → Cancelling object before now next → now ≡ without_pending before object
cancelling_ended object before now next ends living k =
    let none : pending_of now.world object ≡ [] = sym k.seeks.left ∙ ap (λ o. filter is_pending_callback (rest number_of (outstanding_of now.world object) o)) ends in
    nothing_left (Object object) now living none ∙ k.leads

-- ---- one of them

-- it is passed over or cancelled
pub record CancelsNext (object : ObjectId) (before now : Live) (c : CallbackRow) (next : Option CallbackRow) : Type 0 where
  pub seeks : Seeks object now.world c next
  pub found : is_pending_callback c ≡ true → find (has_number c.number) now.world.callbacks ≡ Some c
  pub passes : is_pending_callback c ≡ false → (after : Option CallbackRow) → after ≡ find (λ (x : CallbackRow). nat_lt c.number x.number) (outstanding_of now.world c.object) → Cancelling object before now after
  pub cancels : is_pending_callback c ≡ true → (after : Option CallbackRow) → after ≡ find (λ (x : CallbackRow). nat_lt c.number x.number) (outstanding_of now.world c.object)
      → (new : Live) → new ≡ with_world now (with_callback now.world (cancelled c)) → Cancelling object before new after
  -- as much is left without it
  pub same : (after : Option CallbackRow) → after ≡ find (λ (x : CallbackRow). nat_lt c.number x.number) (outstanding_of now.world c.object)
      → (new : Live) → new ≡ with_world now (with_callback now.world (cancelled c)) → rest number_of (outstanding_of new.world object) after ≡ rest number_of (outstanding_of now.world object) after

module _ (object : ObjectId) (next_number : ℕ) (now : Live) (c : CallbackRow) (rising : IsRising 1 next_number now.world.callbacks) where
  abbrev cs : List CallbackRow
  cs = now.world.callbacks

  abbrev r : CallbackRow
  r = cancelled c

  abbrev ys : List CallbackRow
  ys = outstanding_of now.world object

  -- what passes a test of callbacks that aren't over, without this one
  others : (p : CallbackRow → Bool) → ((x : CallbackRow) → lives x ≡ false → p x ≡ false) → p r ≡ false → (new : Live) → new ≡ with_world now (with_callback now.world r) → filter p new.world.callbacks ≡ filter (λ (x : CallbackRow). not (has_number c.number x)) (filter p cs)
  others p over out new is = ap (λ (l : Live). filter p l.world.callbacks) is ∙ filter_filter p lives over (replaced r cs) ∙ filter_replaced_out p r cs out

  outstanding_others : (new : Live) → new ≡ with_world now (with_callback now.world r) → outstanding_of new.world object ≡ filter (λ (x : CallbackRow). not (has_number c.number x)) ys
  outstanding_others new is = others (is_outstanding_for (Object object)) (over_not_outstanding (Object object)) (and_false (c.object.0 == object.0)) new is

  same_rest : (after : Option CallbackRow) → after ≡ find (λ (x : CallbackRow). nat_lt c.number x.number) (outstanding_of now.world c.object) → (new : Live) → new ≡ with_world now (with_callback now.world r) → rest number_of (outstanding_of new.world object) after ≡ rest number_of ys after
  same_rest after found new is = ap (λ xs. rest number_of xs after) (outstanding_others new is) ∙ rest_without number_of c.number ys after (behind c (outstanding_of now.world c.object) after found)

  pub cancels_next : (before : Live) (next : Option CallbackRow) → next ≡ Some c → Cancelling object before now next → CancelsNext object before now c next
  cancels_next before next is k =
      let s = seeks now.world next_number object c next rising is k.seeks in
      record {
        seeks = s;
        found = λ pends. first_by_number next_number cs (is_pending_for object) c rising (s.first pends);
        passes = λ passed after found. record { leads = k.leads; seeks = s.others passed after found };
        cancels = λ pends after found new becomes. record {
          leads = settles_alike (Object object) next_number now c rising (first_passes (is_pending_for object) c cs (s.first pends)) (first_by_number next_number cs (is_pending_for object) c rising (s.first pends)) new becomes ∙ k.leads;
          seeks = record { left = left s k pends after found new becomes; among = subst (λ xs. IsAmong number_of xs after) (sym (outstanding_others new becomes)) (still_among c ys after (behind c (outstanding_of now.world c.object) after found) (s.at.among after found)) };
        };
        same = same_rest;
      }
    where
      left : Seeks object now.world c next → Cancelling object before now next → is_pending_callback c ≡ true → (after : Option CallbackRow)
          → after ≡ find (λ (x : CallbackRow). nat_lt c.number x.number) (outstanding_of now.world c.object) → (new : Live) → new ≡ with_world now (with_callback now.world r)
          → filter is_pending_callback (rest number_of (outstanding_of new.world object) after) ≡ pending_of new.world object
      left s k pends after found new becomes =
          let tail : List CallbackRow = filter is_pending_callback (rest number_of ys after) in
          let whole : c ∷ tail ≡ pending_of now.world object = ap (λ b. cond b (c ∷ tail) tail) (sym pends) ∙ ap (filter is_pending_callback) (sym (s.at.step after found)) ∙ k.seeks.left in
          ap (filter is_pending_callback) (same_rest after found new becomes)
          ∙ sym (passing_without number_of c.number is_pending_callback ys after (behind c (outstanding_of now.world c.object) after found))
          ∙ ap (λ b. cond b (c ∷ filter (λ (x : CallbackRow). not (has_number c.number x)) tail) (filter (λ (x : CallbackRow). not (has_number c.number x)) tail)) (sym (ap not (eq-eqb c.number c.number refl)))
          ∙ ap (filter (λ (x : CallbackRow). not (has_number c.number x))) whole
          ∙ sym (others (is_pending_for object) (λ x e. ap (λ b. b && (x.object.0 == object.0)) (over_not_pending x.status e)) refl new becomes)
