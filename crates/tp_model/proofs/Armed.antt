-- The law Armed: each callback of a wait object takes the place of its arming, and each arming is of a SetWait of its own.
use Rattle.std.proofs.Common.{◌≡◌, ℕ, suc, zero, ◌+◌, ◌<◌, ◌≤◌, Bool, true, false, cond, ◌||◌, ◌==◌, List, [], ◌∷◌, ◌++◌, length, Option, Some, None, is_some, refl, sym, ap, ap₂, ◌∙◌, arith, filter, find, ◌⊎◌, inl, inr, eqb-true, eq-eqb, length-append}
use Rattle.std.specs.Option.{option_map_or, unwrap_or}
use Rattle.std.proofs.lemmas.Grind.{flat_map-append}
use Rattle.std.proofs.lemmas.List.Elements.{filter-append}
use Rattle.std.proofs.lemmas.List.Sums.{fold-append}
use Rattle.std.proofs.lemmas.List.Folds.{list_any-append}
use Rattle.tp_base.specs.declared.ids.ObjectId.{ObjectId}
use Rattle.tp_base.specs.declared.rows.Arming.{Arming}
use Rattle.tp_base.specs.declared.rows.ObjectRow.{ObjectRow}
use Rattle.tp_base.specs.declared.rows.CallbackRow.{CallbackRow}
use Rattle.tp_base.specs.declared.answers.Entry.{Entry}
use Rattle.tp_base.specs.declared.limits.Limits.{Limits}
use Rattle.tp_base.specs.Armings.{is_armed}
use Rattle.tp_base.specs.declared.calls.Kind.TheVariants.{Wait}
use Rattle.tp_model.specs.Conditions.{is_same_kind}
use Rattle.tp_model.specs.World.{World, opening}
use Rattle.tp_model.specs.Counts.{numbered, has_number}
use Rattle.tp_model.specs.Laws.Entries.{run_by, is_among, made_by, numbers_made, makes_wait, is_wait_in, set_by, set_after, count_sets, is_last_set}
use Rattle.tp_model.specs.Laws.Armed.{IsRun, IsBorn, up_to, AreArmed}
use Rattle.tp_model.specs.Support.Sound.{IsSound, HasObject, is_wait_at, may_be_armed, count_armed}
use Rattle.tp_model.specs.Support.Moves.{Leads, AreNew, numbers_of, count_rows, count_allowed}
use Rattle.tp_model.proofs.Arming.{one_if, armed_has, armed_most, count_one, count_last}
use Rattle.tp_model.proofs.Callbacks.{found_bounds}
use Rattle.tp_model.proofs.Fates.{WasRow, row_was, TakenFrom, taken_from, move_goes_on}
use Rattle.tp_model.proofs.Firing.{armable_wait}
use Rattle.tp_model.proofs.Lists.{find_all}
use Rattle.tp_model.proofs.Once.{AgreesAfter}
use Rattle.tp_model.proofs.Places.{LastPlace, Here, Earlier, last_place, no_place, new_above, find_front}
use Rattle.tp_model.proofs.Ready.{among_front, made_past}
use Rattle.tp_model.proofs.Refusals.{false_true, or_true, or_false}

-- the callback is there, and is of the object
pub record IsRowOf (w : World) (number object : ℕ) : Type 0 where
  pub row : CallbackRow
  pub found : find (has_number number) w.callbacks ≡ Some row
  pub of : row.object.0 ≡ object

-- what the entries so far tell of armed waits and their callbacks
pub record ArmedAfter (history : List Entry) (w : World) : Type 0 where
  pub waits : (o : ℕ) → is_wait_in o history ≡ is_wait_at w.objects o
  pub ran : (n : ℕ) (object : ObjectId) → IsRun history n object → IsRowOf w n object.0
  -- of an armed wait the last SetWait names a kernel object, and each of its callbacks was made before it
  pub last : (o : ℕ) → 1 ≤ count_armed o w.armings → is_last_set o history ≡ true
  pub past : (m o : ℕ) → 1 ≤ count_armed o w.armings → IsRowOf w m o → (b : IsBorn history m) → count_sets o (up_to b) < count_sets o history
  pub named : (n o : ℕ) → is_wait_at w.objects o ≡ true → IsRowOf w n o → (b : IsBorn history n) → is_last_set o (up_to b) ≡ true
  pub apart : (m n o : ℕ) → is_wait_at w.objects o ≡ true → IsRowOf w m o → IsRowOf w n o → (b : IsBorn history m) (c : IsBorn history n) → count_sets o (up_to b) ≡ count_sets o (up_to c) → m ≡ n

-- ---- rows that are made

one_row : (n o : ℕ) (c : CallbackRow) (cs : List CallbackRow) → find (has_number n) cs ≡ Some c → c.object.0 ≡ o → 1 ≤ count_rows o cs
one_row n o c [] found of = absurd cc
one_row n o c (d ∷ cs) found of =
    elim (has_number n d) as (λ b. cond b (Some d) (find (has_number n) cs) ≡ Some c → 1 ≤ count_rows o (d ∷ cs)) [
      | true ↦ λ e. let same : d ≡ c = cc in omega (arith, count_one (λ (x : CallbackRow). x.object.0 == o) d cs, ap one_if (is_own d same))
      | false ↦ λ e. omega (arith, count_one (λ (x : CallbackRow). x.object.0 == o) d cs, one_row n o c cs e of)
    ] found
  where
    is_own : (x : CallbackRow) → x ≡ c → (x.object.0 == o) ≡ true
    is_own x same = eq-eqb x.object.0 o (ap (λ (y : CallbackRow). y.object.0) same ∙ of)

two_rows : (m n o : ℕ) (c d : CallbackRow) (cs : List CallbackRow) → (m == n) ≡ false → find (has_number m) cs ≡ Some c → find (has_number n) cs ≡ Some d → c.object.0 ≡ o → d.object.0 ≡ o → 2 ≤ count_rows o cs
two_rows m n o c d [] apart fc fd oc od = absurd cc
two_rows m n o c d (e ∷ cs) apart fc fd oc od =
    elim (has_number m e) as (λ b. has_number m e ≡ b → cond b (Some e) (find (has_number m) cs) ≡ Some c → 2 ≤ count_rows o (e ∷ cs)) [
      | true ↦ λ is found.
          let same : e ≡ c = cc in
          let rest : find (has_number n) cs ≡ Some d = sym (ap (λ b. cond b (Some e) (find (has_number n) cs)) (other is)) ∙ fd in
          omega (arith, count_one (λ (x : CallbackRow). x.object.0 == o) e cs, ap one_if (own same oc), one_row n o d cs rest od)
      | false ↦ λ _ found. elim (has_number n e) as (λ b. cond b (Some e) (find (has_number n) cs) ≡ Some d → 2 ≤ count_rows o (e ∷ cs)) [
        | true ↦ λ there. let same : e ≡ d = cc in omega (arith, count_one (λ (x : CallbackRow). x.object.0 == o) e cs, ap one_if (own same od), one_row m o c cs found oc)
        | false ↦ λ there. omega (arith, count_one (λ (x : CallbackRow). x.object.0 == o) e cs, two_rows m n o c d cs apart found there oc od)
      ] fd
    ] refl fc
  where
    own : {x : CallbackRow} → e ≡ x → x.object.0 ≡ o → (e.object.0 == o) ≡ true
    own same of = eq-eqb e.object.0 o (ap (λ (y : CallbackRow). y.object.0) same ∙ of)

    other : has_number m e ≡ true → has_number n e ≡ false
    other is = known (has_number n e) refl
      where
        known : (b : Bool) → has_number n e ≡ b → has_number n e ≡ false
        known false h = h
        known true h = absurd (false_true (sym apart ∙ eq-eqb m n (sym (eqb-true e.number m is) ∙ eqb-true e.number n h)))

made_above : (next_number n : ℕ) (cs : List CallbackRow) → AreNew next_number cs → is_among n (numbers_of cs) ≡ true → next_number ≤ n
made_above next_number n [] rows e = absurd (false_true e)
made_above next_number n (c ∷ cs) rows e =
    elim (c.number == n) as (λ b. (c.number == n) ≡ b → (b || is_among n (numbers_of cs)) ≡ true → next_number ≤ n) [
      | true ↦ λ is _. omega (arith, rows.0.numbered, eqb-true c.number n is)
      | false ↦ λ _ h. omega (arith, made_above (next_number + 1) n cs rows.1 h)
    ] refl e

-- ---- counts of entries

sets_up_to : (o : ℕ) {history : List Entry} {n : ℕ} (b : IsBorn history n) → count_sets o (up_to b) ≤ count_sets o history
sets_up_to o {history} b =
    let sets : Entry → Bool = λ (e : Entry). is_some (set_by o e) in
    let whole : length (filter sets (b.before ++ b.entry ∷ b.later)) ≡ length (filter sets b.before) + length (filter sets (b.entry ∷ b.later)) = ap length (filter-append sets b.before (b.entry ∷ b.later)) ∙ length-append (filter sets b.before) (filter sets (b.entry ∷ b.later)) in
    omega (arith, ap (count_sets o) b.place, whole, count_one sets b.entry b.later, count_last sets b.before b.entry)

born_made : {history : List Entry} (n : ℕ) (b : IsBorn history n) → is_among n (numbers_made history) ≡ true
born_made n b =
    ap (λ h. is_among n (numbers_made h)) (sym b.place) ∙ ap (is_among n) (flat_map-append made_by b.before (b.entry ∷ b.later))
    ∙ list_any-append (λ m. m == n) (numbers_made b.before) (numbers_made (b.entry ∷ b.later))
    ∙ ap (λ t. is_among n (numbers_made b.before) || t) (among_front n (made_by b.entry) (numbers_made b.later) b.makes) ∙ or_true (is_among n (numbers_made b.before))

armed_is : (o : ℕ) (armings : List Arming) → 1 ≤ count_armed o armings → is_armed o armings ≡ true
armed_is o armings e = known (is_armed o armings) refl
  where
    known : (b : Bool) → is_armed o armings ≡ b → is_armed o armings ≡ true
    known true is = is
    known false is = absurd (omega (arith, e, ap one_if is))

-- ---- one entry more

module _ (before : List Entry) (w : World) (x : Entry) (after : World) (sound : IsSound (length w.callbacks + 1) w) (sound_after : IsSound (length after.callbacks + 1) after) (agrees : AgreesAfter before w) (h : ArmedAfter before w) (leads : Leads (length w.callbacks + 1) w x after) where
  abbrev all : List Entry
  all = before ++ x ∷ []

  abbrev new : List CallbackRow
  new = leads.moves.new

  last_more : (o : ℕ) → is_last_set o all ≡ unwrap_or (set_by o x) (is_last_set o before)
  last_more o = fold-append (set_after o) false before (x ∷ [])

  sets_more : (o : ℕ) → count_sets o all ≡ count_sets o before + one_if (is_some (set_by o x))
  sets_more o = count_last (λ (e : Entry). is_some (set_by o e)) before x

  -- it was armed, or is set now
  data Cause (o : ℕ) : Type 0 where
    Was : 1 ≤ count_armed o w.armings → is_last_set o all ≡ is_last_set o before → count_sets o all ≡ count_sets o before → Cause o
    Now : is_last_set o all ≡ true → count_sets o all ≡ count_sets o before + 1 → Cause o

  cause : (o : ℕ) → is_wait_at after.objects o ≡ true → 1 ≤ count_rows o new + count_armed o after.armings → Cause o
  cause o wait some = of_told (set_by o x) refl
    where
      of_told : (told : Option Bool) → set_by o x ≡ told → Cause o
      of_told None is =
          Was (omega (arith, some, leads.moves.arms o wait, ap (λ t. count_allowed t (count_armed o w.armings)) is)) (last_more o ∙ ap (λ t. unwrap_or t (is_last_set o before)) is)
          (omega (arith, sets_more o, ap (λ t. one_if (is_some t)) is))
      of_told (Some true) is = Now (last_more o ∙ ap (λ t. unwrap_or t (is_last_set o before)) is) (omega (arith, sets_more o, ap (λ t. one_if (is_some t)) is))
      of_told (Some false) is = absurd (omega (arith, some, leads.moves.arms o wait, ap (λ t. count_allowed t (count_armed o w.armings)) is))

  at_most : (o : ℕ) → is_wait_at after.objects o ≡ true → count_rows o new + count_armed o after.armings ≤ 1
  at_most o wait = of_told (set_by o x) refl
    where
      of_told : (told : Option Bool) → set_by o x ≡ told → count_rows o new + count_armed o after.armings ≤ 1
      of_told None is = omega (arith, leads.moves.arms o wait, ap (λ t. count_allowed t (count_armed o w.armings)) is, armed_most o w.armings)
      of_told (Some true) is = omega (arith, leads.moves.arms o wait, ap (λ t. count_allowed t (count_armed o w.armings)) is)
      of_told (Some false) is = omega (arith, leads.moves.arms o wait, ap (λ t. count_allowed t (count_armed o w.armings)) is)

  armed_waits : (o : ℕ) → 1 ≤ count_armed o after.armings → is_wait_at after.objects o ≡ true
  armed_waits o armed = armable_wait after.objects o (armed_has (λ n. may_be_armed after.objects n ≡ true) o after.armings sound_after.armings (armed_is o after.armings armed))

  -- a row was there, or is made
  data RowKind (n o : ℕ) : Type 0 where
    Old : IsRowOf w n o → n ≤ length w.callbacks → RowKind n o
    New : (c : CallbackRow) → find (has_number n) new ≡ Some c → c.object.0 ≡ o → length w.callbacks + 1 ≤ n → RowKind n o

  row_kind : (n o : ℕ) → IsRowOf after n o → RowKind n o
  row_kind n o r = of_either (row_was (length w.callbacks + 1) w x after n r.row leads.moves r.found)
    where
      of_either : WasRow w n r.row ⊎ (find (has_number n) new ≡ Some r.row) → RowKind n o
      of_either (inl was) =
          Old (record { row = was.old; found = was.found; of = ap (λ (i : ObjectId). i.0) (sym was.object) ∙ r.of }) (omega (arith, (found_bounds n 1 (length w.callbacks + 1) was.old w.callbacks sound.numbers was.found).1))
      of_either (inr found) = New r.row found r.of (new_above (length w.callbacks + 1) n new r.row leads.moves.rows found)

  -- and so is its birth
  data Birth (n : ℕ) (b : IsBorn all n) : Type 0 where
    WasBorn : (old : IsBorn before n) → up_to b ≡ up_to old → n ≤ length w.callbacks → Birth n b
    IsLast : up_to b ≡ all → length w.callbacks + 1 ≤ n → Birth n b

  birth : (n : ℕ) (b : IsBorn all n) → Birth n b
  birth n b = of_place (last_place before x b.before b.entry b.later b.place)
    where
      of_place : LastPlace before x b.before b.entry b.later → Birth n b
      of_place (Here front same none) =
          IsLast (ap₂ (λ l e. l ++ e ∷ []) front same) (made_above (length w.callbacks + 1) n new leads.moves.rows (ap (is_among n) (sym leads.moves.made ∙ ap made_by (sym same)) ∙ b.makes))
      of_place (Earlier rest back front) =
          let old : IsBorn before n = record { before = b.before; entry = b.entry; later = rest; place = front; makes = b.makes } in
          WasBorn old refl (made_past before w n agrees (born_made n old))

  -- an object of which there is a row was there
  wait_before : (n o : ℕ) → IsRowOf w n o → is_wait_at after.objects o ≡ true → is_wait_at w.objects o ≡ true
  wait_before n o r wait = known (is_wait_at w.objects o) (makes_wait o x) refl refl
    where
      unmade : (number : ℕ) → number ≡ o → makes_wait o x ≡ true → ((number ≡ 0 → ⊥) → HasObject w.objects r.row) → r.row.object.0 ≡ number → ⊥
      unmade zero is makes has of = false_true (ap (is_wait_at after.objects) is ∙ wait)
      unmade (suc k) is makes has of =
          let there : HasObject w.objects r.row = has (λ e. omega (arith, e)) in
          none_there (sym (leads.objects.new o makes) ∙ ap (numbered w.objects) (sym is ∙ sym of) ∙ there.stands)
        where
          none_there : {row : ObjectRow} → None ≡ Some row → ⊥
          none_there e = cc

      known : (b m : Bool) → is_wait_at w.objects o ≡ b → makes_wait o x ≡ m → is_wait_at w.objects o ≡ true
      known true m is _ = is
      known false false is makes = absurd (false_true (sym (ap₂ (λ p q. p || q) is makes) ∙ sym (leads.objects.waits o) ∙ wait))
      known false true is makes =
          absurd (unmade r.row.object.0 r.of makes (λ named. find_all (λ (c : CallbackRow). (c.object.0 ≡ 0 → ⊥) → HasObject w.objects c) (has_number n) r.row w.callbacks sound.callback_objects r.found named) refl)

  row_more : (n o : ℕ) → IsRowOf w n o → IsRowOf after n o
  row_more n o r =
      let on = move_goes_on w x leads.moves.kept after.workers n r.row leads.moves.move r.found in
      record { row = on.new; found = ap (find (has_number n)) leads.moves.callbacks ∙ find_front n leads.moves.kept new on.new on.found; of = ap (λ (i : ObjectId). i.0) on.object ∙ r.of }

  ran_more : (n : ℕ) (object : ObjectId) → IsRun all n object → IsRowOf after n object.0
  ran_more n object r = of_place (last_place before x r.before r.entry r.later r.place)
    where
      of_place : LastPlace before x r.before r.entry r.later → IsRowOf after n object.0
      of_place (Here front same none) =
          let from : TakenFrom w (record { number = n; object = object }) = taken_from w x leads.moves.kept after.workers (record { number = n; object = object }) leads.moves.move (ap (λ (e : Entry). run_by e.answer) (sym same) ∙ r.takes) in
          row_more n object.0 (record { row = from.row; found = from.found; of = ap (λ (i : ObjectId). i.0) from.object })
      of_place (Earlier rest back front) = row_more n object.0 (h.ran n object (record { before = r.before; entry = r.entry; later = rest; place = front; takes = r.takes }))

  last_armed : (o : ℕ) → 1 ≤ count_armed o after.armings → is_last_set o all ≡ true
  last_armed o armed = of_cause (cause o (armed_waits o armed) (omega (arith, armed)))
    where
      of_cause : Cause o → is_last_set o all ≡ true
      of_cause (Was was same _) = same ∙ h.last o was
      of_cause (Now set _) = set

  past_more : (m o : ℕ) → 1 ≤ count_armed o after.armings → IsRowOf after m o → (b : IsBorn all m) → count_sets o (up_to b) < count_sets o all
  past_more m o armed r b = of_kind (row_kind m o r) (birth m b)
    where
      wait : is_wait_at after.objects o ≡ true
      wait = armed_waits o armed

      of_kind : RowKind m o → Birth m b → count_sets o (up_to b) < count_sets o all
      of_kind (New c found of above) _ = absurd (omega (arith, at_most o wait, armed, one_row m o c new found of))
      of_kind (Old old below) (IsLast _ above) = absurd (omega (arith, below, above))
      of_kind (Old old below) (WasBorn was same _) = of_cause (cause o wait (omega (arith, armed)))
        where
          of_cause : Cause o → count_sets o (up_to b) < count_sets o all
          of_cause (Was armed_before _ sets) = omega (arith, ap (count_sets o) same, h.past m o armed_before old was, sets)
          of_cause (Now _ sets) = omega (arith, ap (count_sets o) same, sets_up_to o was, sets)

  named_more : (n o : ℕ) → is_wait_at after.objects o ≡ true → IsRowOf after n o → (b : IsBorn all n) → is_last_set o (up_to b) ≡ true
  named_more n o wait r b = of_kind (row_kind n o r) (birth n b)
    where
      of_kind : RowKind n o → Birth n b → is_last_set o (up_to b) ≡ true
      of_kind (Old old below) (IsLast _ above) = absurd (omega (arith, below, above))
      of_kind (New c found of above) (WasBorn _ _ below) = absurd (omega (arith, below, above))
      of_kind (Old old below) (WasBorn was same _) = ap (is_last_set o) same ∙ h.named n o (wait_before n o old wait) old was
      of_kind (New c found of above) (IsLast same _) = ap (is_last_set o) same ∙ of_cause (cause o wait (omega (arith, one_row n o c new found of)))
        where
          of_cause : Cause o → is_last_set o all ≡ true
          of_cause (Was was last _) = last ∙ h.last o was
          of_cause (Now set _) = set

  -- a row that was there is of an earlier SetWait than one that is made
  old_apart : (m n o : ℕ) → is_wait_at after.objects o ≡ true → IsRowOf w m o → (was : IsBorn before m) → (c : CallbackRow) → find (has_number n) new ≡ Some c → c.object.0 ≡ o → count_sets o (up_to was) < count_sets o all
  old_apart m n o wait old was c found of = of_cause (cause o wait (omega (arith, one_row n o c new found of)))
    where
      of_cause : Cause o → count_sets o (up_to was) < count_sets o all
      of_cause (Was armed _ sets) = omega (arith, h.past m o armed old was, sets)
      of_cause (Now _ sets) = omega (arith, sets_up_to o was, sets)

  apart_more : (m n o : ℕ) → is_wait_at after.objects o ≡ true → IsRowOf after m o → IsRowOf after n o → (b : IsBorn all m) (c : IsBorn all n) → count_sets o (up_to b) ≡ count_sets o (up_to c) → m ≡ n
  apart_more m n o wait r s b c same = of_kinds (row_kind m o r) (row_kind n o s) (birth m b) (birth n c)
    where
      of_kinds : RowKind m o → RowKind n o → Birth m b → Birth n c → m ≡ n
      of_kinds (Old old below) _ (IsLast _ above) _ = absurd (omega (arith, below, above))
      of_kinds (New d found of above) _ (WasBorn _ _ below) _ = absurd (omega (arith, below, above))
      of_kinds _ (Old old below) _ (IsLast _ above) = absurd (omega (arith, below, above))
      of_kinds _ (New d found of above) _ (WasBorn _ _ below) = absurd (omega (arith, below, above))
      of_kinds (Old old _) (Old other _) (WasBorn was is _) (WasBorn other_was other_is _) =
          h.apart m n o (wait_before m o old wait) old other was other_was (ap (count_sets o) (sym is) ∙ same ∙ ap (count_sets o) other_is)
      of_kinds (Old old _) (New d found of _) (WasBorn was is _) (IsLast whole _) =
          absurd (omega (arith, old_apart m n o wait old was d found of, ap (count_sets o) is, ap (count_sets o) whole, same))
      of_kinds (New d found of _) (Old old _) (IsLast whole _) (WasBorn was is _) =
          absurd (omega (arith, old_apart n m o wait old was d found of, ap (count_sets o) is, ap (count_sets o) whole, same))
      of_kinds (New d found of _) (New e other_found other_of _) (IsLast _ _) (IsLast _ _) = known (m == n) refl
        where
          known : (t : Bool) → (m == n) ≡ t → m ≡ n
          known true is = eqb-true m n is
          known false is = absurd (omega (arith, at_most o wait, two_rows m n o d e new is found other_found of other_of))

  pub armed_more : ArmedAfter all after
  armed_more =
      record {
        waits = λ o. list_any-append (makes_wait o) before (x ∷ []) ∙ ap₂ (λ p q. p || q) (h.waits o) (or_false (makes_wait o x)) ∙ sym (leads.objects.waits o);
        ran = ran_more;
        last = last_armed;
        past = past_more;
        named = named_more;
        apart = apart_more;
      }

pub opening_armed : (limits : Limits) → ArmedAfter [] (opening limits)
opening_armed limits =
    record {
      waits = λ o. none_there o;
      ran = λ n object r. absurd (no_place r.before r.entry r.later r.place);
      last = λ o armed. absurd (omega (arith, armed));
      past = λ m o armed r b. absurd (no_place b.before b.entry b.later b.place);
      named = λ n o wait r b. absurd (no_place b.before b.entry b.later b.place);
      apart = λ m n o wait r s b c same. absurd (no_place b.before b.entry b.later b.place);
    }
  where
    none_there : (o : ℕ) → false ≡ is_wait_at [] o
    none_there o = elim (o == 0) as (λ b. false ≡ option_map_or (λ (r : ObjectRow). is_same_kind r.kind Wait) (cond b None None) false) [ true ↦ refl | false ↦ refl ]

pub are_armed_after : (history : List Entry) (w : World) → ArmedAfter history w → AreArmed history
are_armed_after history w a =
    record {
      named = λ n object wait run b. a.named n object.0 (sym (a.waits object.0) ∙ wait) (a.ran n object run) b;
      apart = λ m n object wait run other b c same. a.apart m n object.0 (sym (a.waits object.0) ∙ wait) (a.ran m object run) (a.ran n object other) b c same;
    }
