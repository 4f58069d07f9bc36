-- What entries tell of waits: an actor's own ones, the notices that are due, and closes that go on.
use Rattle.std.proofs.Common.{◌≡◌, ℕ, ◌≤◌, Bool, true, false, cond, ◌&&◌, ◌||◌, List, [], ◌∷◌, ◌++◌, length, map, find, is_some, Option, Some, None, ◌⊎◌, inl, inr, option_map, refl, sym, ap, ◌∙◌, arith, eq-eqb}
use Rattle.std.specs.List.{filter_map, cons_option, fold, list_any}
use Rattle.std.proofs.lemmas.List.{length-map}
use Rattle.std.proofs.lemmas.List.Elements.{filter-append}
use Rattle.tp_base.specs.Actors.{is_same_actor}
use Rattle.tp_base.specs.declared.answers.Answer.TheVariants as answer
use Rattle.tp_base.specs.declared.answers.Entry.{Entry}
use Rattle.tp_base.specs.declared.calls.Call.TheVariants.{End}
use Rattle.tp_base.specs.declared.ids.Who.{Who}
use Rattle.tp_base.specs.declared.ids.Who.TheVariants.{Client, Worker}
use Rattle.tp_base.specs.declared.rows.WaitTarget.{WaitTarget}
use Rattle.tp_base.specs.declared.rows.WaitTarget.TheVariants.{Object, Group, Kernel}
use Rattle.tp_model.specs.Laws.Covered.{ends, end_in}
use Rattle.tp_model.specs.Laws.Entries.{Begins, begins_by, is_ending, notice_by, Creation, created_by}
use Rattle.tp_model.specs.Laws.Notices.{given, notices_due, due_among, due_of, due_to, is_due_behind, numbers_created, notice_for, IsClosing}
use Rattle.tp_model.specs.Stages.{waits_after}
use Rattle.tp_model.proofs.Refusals.{is_own_actor}
use Rattle.turn_lock.specs.Histories.{own}
use Rattle.shared_pool.specs.declared.notices.Told.{Told}
use Rattle.shared_pool.specs.Waits.{notice_told}

-- ---- an actor's own entries

pub end_own : (who : Who) (entries : List Entry) → end_in who entries ≡ find is_ending (own who entries)
end_own who [] = refl
end_own who (e ∷ es) =
    elim (is_same_actor e.who who) as (λ b. cond (b && is_ending e) (Some e) (end_in who es) ≡ find is_ending (cond b (e ∷ own who es) (own who es))) [
      | true ↦ ap (λ o. cond (is_ending e) (Some e) o) (end_own who es)
      | false ↦ end_own who es
    ]

pub given_own : (who : Who) (entries : List Entry) → given who entries ≡ filter_map (λ (e : Entry). notice_by e.answer) (own who entries)
given_own who [] = refl
given_own who (e ∷ es) =
    elim (is_same_actor e.who who) as (λ b. cons_option (cond b (notice_by e.answer) None) (given who es) ≡ filter_map (λ (x : Entry). notice_by x.answer) (cond b (e ∷ own who es) (own who es))) [
      | true ↦ ap (cons_option (notice_by e.answer)) (given_own who es)
      | false ↦ given_own who es
    ]

-- the entry that a notice is
abbrev pub notice_by_who : Who → Told → Entry
notice_by_who who t = record { who = who; call = End; answer = answer.Notice t.object t.routine t.context t.cleanup }

pub none_ends : (who : Who) (told : List Told) → find is_ending (map (notice_by_who who) told) ≡ None
none_ends who [] = refl
none_ends who (t ∷ told) = none_ends who told

pub all_given : (who : Who) (told : List Told) → filter_map (λ (e : Entry). notice_by e.answer) (map (notice_by_who who) told) ≡ map notice_told told
all_given who [] = refl
all_given who (t ∷ told) = ap (λ l. notice_told t ∷ l) (all_given who told)

pub still_waits : (who : Who) (told : List Told) → fold (λ (b : Bool) (e : Entry). waits_after b e.call e.answer) true (map (notice_by_who who) told) ≡ true
still_waits who [] = refl
still_waits who (t ∷ told) = still_waits who told

-- ---- how many notices there are

due_few : (group : ℕ) (before later : List Entry) → length (due_among group before later) ≤ length (numbers_created later)
due_few group before [] = omega arith
due_few group before (e ∷ later) = of_created (due_few group before later) (created_by e)
  where
    of_created : length (due_among group before later) ≤ length (numbers_created later) → (o : Option Creation) → length (due_of group before later o ++ due_among group before later) ≤ length (cons_option (option_map (λ (c : Creation). c.object) o) (numbers_created later))
    of_created few None = few
    of_created few (Some c) =
        elim (is_due_behind group before later c) as (λ b. length (cond b (c ∷ []) [] ++ due_among group before later) ≤ length (c.object ∷ numbers_created later)) [
          | true ↦ omega (arith, few)
          | false ↦ omega (arith, few)
        ]

due_to_few : (target : WaitTarget) (cleanup : ℕ) (before : List Entry) → length (due_to target cleanup before) ≤ length (numbers_created before)
due_to_few (Object object) cleanup before = omega arith
due_to_few (Kernel kernel) cleanup before = omega arith
due_to_few (Group group) cleanup before = omega (arith, length-map (due_among group.0 before before) (notice_for cleanup), due_few group.0 before before)

pub notices_few : (b : Begins) (before : List Entry) → length (notices_due b before) ≤ length (numbers_created before)
notices_few b before =
    elim b.cancel as (λ c. length (cond c (due_to b.target b.cleanup before) []) ≤ length (numbers_created before)) [
      | true ↦ due_to_few b.target b.cleanup before
      | false ↦ omega arith
    ]

-- ---- closes that go on

-- a close that goes on behind more entries, of which none begins one, goes on behind the first ones
abbrev pub begins_of : Who → Entry → Bool
begins_of who e = is_same_actor e.who who && is_some (begins_by e)

place_of : (h more xs : List Entry) (e : Entry) (ys : List Entry) → xs ++ e ∷ ys ≡ h ++ more → ((rest : List Entry) × (ys ≡ rest ++ more) × (xs ++ e ∷ rest ≡ h)) ⊎ ((zs : List Entry) × (more ≡ zs ++ e ∷ ys))
place_of [] more xs e ys is = inr (xs, sym is)
place_of (y ∷ h) more [] e ys is =
    let head : e ≡ y = cc in
    let back : ys ≡ h ++ more = cc in
    inl (h, back, ap (λ x. x ∷ h) head)
place_of (y ∷ h) more (x ∷ xs) e ys is =
    let head : x ≡ y = cc in
    let back : xs ++ e ∷ ys ≡ h ++ more = cc in
    longer head (place_of h more xs e ys back)
  where
    longer : x ≡ y → ((rest : List Entry) × (ys ≡ rest ++ more) × (xs ++ e ∷ rest ≡ h)) ⊎ ((zs : List Entry) × (more ≡ zs ++ e ∷ ys)) → ((rest : List Entry) × (ys ≡ rest ++ more) × ((x ∷ xs) ++ e ∷ rest ≡ y ∷ h)) ⊎ ((zs : List Entry) × (more ≡ zs ++ e ∷ ys))
    longer head (inl found) = inl (found.0, found.1, (λ i. head i ∷ found.2 i))
    longer head (inr found) = inr found

none_of : (p : Entry → Bool) (zs : List Entry) (e : Entry) (ys : List Entry) → p e ≡ true → list_any p (zs ++ e ∷ ys) ≡ false → ⊥
none_of p [] e ys is off = let both : true ≡ false = ap (λ t. t || list_any p ys) (sym is) ∙ off in cc
none_of p (z ∷ zs) e ys is off =
    elim (p z) as (λ t. (t || list_any p (zs ++ e ∷ ys)) ≡ false → ⊥) [
      | true ↦ λ h. let no : true ≡ false = h in cc
      | false ↦ λ h. none_of p zs e ys is h
    ] off

none_found : (p : Entry → Bool) (xs ys : List Entry) → find p (xs ++ ys) ≡ None → find p xs ≡ None
none_found p [] ys e = refl
none_found p (x ∷ xs) ys e =
    elim (p x) as (λ t. cond t (Some x) (find p (xs ++ ys)) ≡ None → cond t (Some x) (find p xs) ≡ None) [
      | true ↦ λ h. absurd cc
      | false ↦ λ h. none_found p xs ys h
    ] e

pub closing_first : (who : Who) (h more : List Entry) → IsClosing (h ++ more) who → list_any (begins_of who) more ≡ false → IsClosing h who
closing_first who h more c off = of_place (place_of h more c.before c.begin c.between c.place)
  where
    of_place : ((rest : List Entry) × (c.between ≡ rest ++ more) × (c.before ++ c.begin ∷ rest ≡ h)) ⊎ ((zs : List Entry) × (more ≡ zs ++ c.begin ∷ c.between)) → IsClosing h who
    of_place (inl found) = record {
      before = c.before;
      begin = c.begin;
      between = found.0;
      b = c.b;
      place = found.2;
      begins = c.begins;
      by = c.by;
      group = c.group;
      cancels = c.cancels;
      unended = none_found (ends who) found.0 more (ap (find (ends who)) (sym found.1) ∙ c.unended);
    }
    of_place (inr found) =
        absurd (none_of (begins_of who) found.0 c.begin c.between ((λ i. c.by i && is_some (c.begins i))) (ap (list_any (begins_of who)) (sym found.1) ∙ off))

-- an actor that has no entries begins nothing
pub begins_none : (who : Who) (entries : List Entry) → own who entries ≡ [] → list_any (begins_of who) entries ≡ false
begins_none who [] none = refl
begins_none who (e ∷ es) none =
    elim (is_same_actor e.who who) as (λ t. cond t (e ∷ own who es) (own who es) ≡ [] → ((t && is_some (begins_by e)) || list_any (begins_of who) es) ≡ false) [
      | true ↦ λ h. absurd cc
      | false ↦ λ h. begins_none who es h
    ] none
