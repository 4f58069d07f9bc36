-- What entries tell of groups is what the objects and the callbacks are of.
use Rattle.std.proofs.Common.{◌≡◌, ℕ, ◌+◌, ◌≤◌, Bool, true, false, cond, ◌||◌, ◌==◌, List, [], ◌∷◌, ◌++◌, length, Option, Some, None, refl, sym, ap, ◌∙◌, subst, find, ◌⊎◌, inl, inr, arith, eqb-true, append-nil}
use Rattle.std.proofs.lemmas.Grind.{flat_map-append}
use Rattle.tp_base.specs.declared.calls.Call.{Call}
use Rattle.tp_base.specs.declared.calls.Call.TheVariants.{CompleteIo, CompleteNext}
use Rattle.tp_base.specs.declared.answers.Answer.{Answer}
use Rattle.tp_base.specs.declared.answers.Entry.{Entry}
use Rattle.tp_base.specs.declared.rows.ObjectRow.{ObjectRow}
use Rattle.tp_base.specs.declared.rows.CallbackRow.{CallbackRow}
use Rattle.tp_model.specs.World.{World}
use Rattle.tp_model.specs.Counts.{numbered, has_number}
use Rattle.tp_model.specs.History.{is_refusal}
use Rattle.tp_model.specs.Laws.Entries.{Creation, created_by, object_in, objects_of, is_for_group, simple_call, simple_by, simples_in, simples_of, is_among, is_complete_call, completed_by, queued_by, queued_new}
use Rattle.tp_model.specs.Support.Sound.{IsRising}
use Rattle.tp_model.specs.Support.Moves.{Leads}
use Rattle.tp_model.proofs.Lists.{find_all}
use Rattle.tp_model.proofs.Callbacks.{found_bounds}
use Rattle.tp_model.proofs.Fates.{WasRow, row_was}
use Rattle.tp_model.proofs.Places.{waiting_above}
use Rattle.tp_model.proofs.Ready.{AreReady, ready_by, numbers_ready, among_front, among_back, among_split, past_row}
use Rattle.tp_model.proofs.Refusals.{false_true}

-- an object that was made with a group
pub record IsInGroup (objects : List ObjectRow) (group n : ℕ) : Type 0 where
  pub row : ObjectRow
  pub stands : numbered objects n ≡ Some row
  pub group_is : row.env.group.0 ≡ group

pub record IsTied (history : List Entry) (w : World) : Type 0 where
  pub objects : (group n : ℕ) → is_among n (objects_of group history) ≡ true → IsInGroup w.objects group n
  pub simples : (group n : ℕ) (c : CallbackRow) → is_among n (simples_of group history) ≡ true → find (has_number n) w.callbacks ≡ Some c → (c.object.0 ≡ 0) × (c.group.0 ≡ group)

no_simple : (group : ℕ) (b : Bool) → is_for_group group (cond b None None) ≡ true → ⊥
no_simple group true h = false_true h
no_simple group false h = false_true h

-- a SubmitSimple completes no operation
pub simple_new : (group : ℕ) (call : Call) (a : Answer) → is_for_group group (cond (is_refusal a) None (simple_call call)) ≡ true → cond (is_complete_call call) [] (queued_by a) ≡ queued_by a
simple_new group (CompleteIo callback error bytes) a e = absurd (no_simple group (is_refusal a) e)
simple_new group (CompleteNext object error bytes) a e = absurd (no_simple group (is_refusal a) e)
simple_new group _ a e = refl

-- a simple callback may be taken from where it is made
pub simples_ready : (group n : ℕ) (history : List Entry) → is_among n (simples_of group history) ≡ true → is_among n (numbers_ready history) ≡ true
simples_ready group n [] e = e
simples_ready group n (x ∷ history) e = of_either (simples_ready group n history) (among_split n (simples_in group x) (simples_of group history) e)
  where
    of_group : (b : Bool) → is_for_group group (simple_by x) ≡ b → is_among n (cond b (queued_by x.answer) []) ≡ true → is_among n (queued_new x) ≡ true
    of_group true its h = ap (is_among n) (simple_new group x.call x.answer its) ∙ h
    of_group false its h = absurd (false_true h)

    of_either : (is_among n (simples_of group history) ≡ true → is_among n (numbers_ready history) ≡ true) → (is_among n (simples_in group x) ≡ true) ⊎ (is_among n (simples_of group history) ≡ true) → is_among n (numbers_ready (x ∷ history)) ≡ true
    of_either behind (inl here) = among_front n (ready_by x) (numbers_ready history) (among_back n (completed_by x) (queued_new x) (of_group (is_for_group group (simple_by x)) refl here))
    of_either behind (inr later) = among_back n (ready_by x) (numbers_ready history) (behind later)

module _ (before : List Entry) (w : World) (x : Entry) (after : World) (rising : IsRising 1 (length w.callbacks + 1) w.callbacks) (ready : AreReady before w) (leads : Leads (length w.callbacks + 1) w x after) where
  still_in : (group n : ℕ) → IsInGroup w.objects group n → IsInGroup after.objects group n
  still_in group n i = let o = leads.groups.keeps n i.row i.stands in record { row = o.new; stands = o.stands; group_is = ap (λ e. e.group.0) o.env ∙ i.group_is }

  -- of the entries before
  pub tied_still : IsTied before w → IsTied before after
  tied_still t =
      record {
        objects = λ group n among. still_in group n (t.objects group n among);
        simples = λ group n c among found.
            let was : WasRow w n c = past_row w x after leads n c (ready.past n (simples_ready group n before among)) found in
            let of = t.simples group n was.old among was.found in
            (ap (λ o. o.0) was.object ∙ of.0, ap (λ g. g.0) was.group ∙ of.1);
      }

  pub tied_more : IsTied before w → IsTied (before ++ x ∷ []) after
  tied_more t =
      record {
        objects = λ group n among. object_of group n (among_split n (objects_of group before) (object_in group (created_by x)) (ap (is_among n) (sym (objects_longer group)) ∙ among));
        simples = λ group n c among found. simple_of group n c found (among_split n (simples_of group before) (simples_in group x) (ap (is_among n) (sym (simples_longer group)) ∙ among));
      }
    where
      objects_longer : (group : ℕ) → objects_of group (before ++ x ∷ []) ≡ objects_of group before ++ object_in group (created_by x)
      objects_longer group = flat_map-append (λ (e : Entry). object_in group (created_by e)) before (x ∷ []) ∙ ap (λ l. objects_of group before ++ l) (append-nil (object_in group (created_by x)))

      simples_longer : (group : ℕ) → simples_of group (before ++ x ∷ []) ≡ simples_of group before ++ simples_in group x
      simples_longer group = flat_map-append (simples_in group) before (x ∷ []) ∙ ap (λ l. simples_of group before ++ l) (append-nil (simples_in group x))

      created_in : (group n : ℕ) (c : Option Creation) → created_by x ≡ c → is_among n (object_in group c) ≡ true → IsInGroup after.objects group n
      created_in group n None is e = absurd (false_true e)
      created_in group n (Some c) is e = of_group (c.env.group.0 == group) refl e
        where
          of_group : (b : Bool) → (c.env.group.0 == group) ≡ b → is_among n (cond b (c.object ∷ []) []) ≡ true → IsInGroup after.objects group n
          of_group false _ h = absurd (false_true h)
          of_group true its h =
              let made = leads.groups.creates c is in
              let same : c.object ≡ n = eqb-true c.object n (only (c.object == n) h) in
              subst (IsInGroup after.objects group) same (record { row = made.row; stands = made.stands; group_is = ap (λ e. e.group.0) made.env ∙ eqb-true c.env.group.0 group its })
            where
              only : (b : Bool) → (b || false) ≡ true → b ≡ true
              only true k = refl
              only false k = k

      object_of : (group n : ℕ) → (is_among n (objects_of group before) ≡ true) ⊎ (is_among n (object_in group (created_by x)) ≡ true) → IsInGroup after.objects group n
      object_of group n (inl old) = still_in group n (t.objects group n old)
      object_of group n (inr new) = created_in group n (created_by x) refl new

      simple_of : (group n : ℕ) (c : CallbackRow) → find (has_number n) after.callbacks ≡ Some c → (is_among n (simples_of group before) ≡ true) ⊎ (is_among n (simples_in group x) ≡ true) → (c.object.0 ≡ 0) × (c.group.0 ≡ group)
      simple_of group n c found (inl old) = (tied_still t).simples group n c old found
      simple_of group n c found (inr new) = of_group (is_for_group group (simple_by x)) refl new
        where
          of_row : is_for_group group (simple_by x) ≡ true → is_among n (queued_by x.answer) ≡ true → WasRow w n c ⊎ (find (has_number n) leads.moves.new ≡ Some c) → (c.object.0 ≡ 0) × (c.group.0 ≡ group)
          of_row its among (inl was) =
              let queued : is_among n (queued_new x) ≡ true = ap (is_among n) (simple_new group x.call x.answer its) ∙ among in
              let above : length w.callbacks + 1 ≤ n = waiting_above (length w.callbacks + 1) n leads.moves.new leads.moves.rows (ap (is_among n) (sym leads.moves.queued) ∙ queued) in
              let below = found_bounds n 1 (length w.callbacks + 1) was.old w.callbacks rising was.found in
              absurd (omega (arith, above, below.1))
          of_row its among (inr there) = find_all (λ (r : CallbackRow). (r.object.0 ≡ 0) × (r.group.0 ≡ group)) (has_number n) c leads.moves.new (leads.moves.simples group its) there

          of_group : (b : Bool) → is_for_group group (simple_by x) ≡ b → is_among n (cond b (queued_by x.answer) []) ≡ true → (c.object.0 ≡ 0) × (c.group.0 ≡ group)
          of_group false its h = absurd (false_true h)
          of_group true its h = of_row its h (row_was (length w.callbacks + 1) w x after n c leads.moves found)
