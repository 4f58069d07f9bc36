-- What is left of objects, settings, armings and operations where objects are released, and where one is made.
use Rattle.std.proofs.Common.{◌≡◌, ℕ, zero, suc, ◌+◌, ◌-◌, ◌<◌, ◌≤◌, Bool, true, false, cond, not, ◌&&◌, ◌||◌, ◌==◌, List, [], ◌∷◌, length, map, slice_get, slice_set, Option, Some, None, option_map, refl, sym, ap, ap₂, ◌∙◌, subst, arith, filter, find, eqb-true, eq-eqb, nat_lt, ltb-true, ltb-false}
use Rattle.std.specs.List.{AllByRecursion, list_any, range_with_len}
use Rattle.std.specs.Option.{option_map_or}
use Rattle.std.proofs.lemmas.Option.{slice_get-map}
use Rattle.tp_base.specs.declared.rows.ObjectRow.{ObjectRow}
use Rattle.tp_base.specs.declared.rows.CallbackRow.{CallbackRow}
use Rattle.tp_base.specs.declared.rows.TimerSetting.{TimerSetting}
use Rattle.tp_base.specs.declared.rows.Arming.{Arming}
use Rattle.tp_base.specs.Armings.{is_armed, is_arming_of}
use Rattle.tp_model.specs.World.{World}
use Rattle.tp_model.specs.Counts.{numbered, has_number, is_operating}
use Rattle.tp_model.specs.Conditions.{is_operation_of}
use Rattle.tp_model.specs.Groups.{is_object_that, is_member, is_member_at, released_from}
use Rattle.tp_model.specs.Support.Sound.{IsMade, is_standing, count_set, count_armed, IsTimedOut}
use Rattle.tp_model.proofs.Firing.{numbered_made}
use Rattle.tp_model.proofs.Lists.{any_filter, all_filter, filter_filter, get_set, get_set_other}
use Rattle.tp_model.proofs.Refusals.{false_true, neither, not_false, numbered_at, numbered_some}

-- ---- objects by a test

pub that_row : (test : ObjectRow → Bool) (objects : List ObjectRow) (n : ℕ) → is_object_that test objects n ≡ true → (row : ObjectRow) × (numbered objects n ≡ Some row) × (test row ≡ true)
that_row test objects n e = of_row (numbered objects n) refl e
  where
    of_row : (o : Option ObjectRow) → numbered objects n ≡ o → option_map_or test o false ≡ true → (row : ObjectRow) × (numbered objects n ≡ Some row) × (test row ≡ true)
    of_row None is h = absurd (false_true h)
    of_row (Some row) is h = (row, is, h)

pub that_stands : (test : ObjectRow → Bool) (objects : List ObjectRow) (n : ℕ) (row : ObjectRow) → numbered objects n ≡ Some row → is_object_that test objects n ≡ test row
that_stands test objects n row is = ap (λ o. option_map_or test o false) is

pub that_made : (test : ObjectRow → Bool) (objects : List ObjectRow) (n : ℕ) → is_object_that test objects n ≡ true → IsMade (length objects) n
that_made test objects n e = let row = that_row test objects n e in numbered_made objects n row.0 row.1

-- ---- some are released

abbrev pub released_if : Bool → ObjectRow → ObjectRow
released_if gone o = cond gone (record o { released = true }) o

-- those of the numbers that pass are released, and the others stay as they are
abbrev pub Releases : (ℕ → Bool) → List ObjectRow → List ObjectRow → Type 0
Releases gone objects after = (n : ℕ) → numbered after n ≡ option_map (released_if (gone n)) (numbered objects n)

-- a test that doesn't ask whether an object is released
pub that_released : (test : ObjectRow → Bool) (gone : ℕ → Bool) (objects after : List ObjectRow) → Releases gone objects after → ((o : ObjectRow) → test (record o { released = true }) ≡ test o) → (n : ℕ) → is_object_that test after n ≡ is_object_that test objects n
that_released test gone objects after rel same n = ap (λ o. option_map_or test o false) (rel n) ∙ of_row (numbered objects n)
  where
    of_row : (o : Option ObjectRow) → option_map_or test (option_map (released_if (gone n)) o) false ≡ option_map_or test o false
    of_row None = refl
    of_row (Some o) = elim (gone n) as (λ b. test (released_if b o) ≡ test o) [ true ↦ same o | false ↦ refl ]

-- and any test of an object that stays
pub that_kept : (test : ObjectRow → Bool) (gone : ℕ → Bool) (objects after : List ObjectRow) → Releases gone objects after → (n : ℕ) → gone n ≡ false → is_object_that test after n ≡ is_object_that test objects n
that_kept test gone objects after rel n stays =
    ap (λ o. option_map_or test o false) (rel n ∙ ap (λ b. option_map (released_if b) (numbered objects n)) stays) ∙ of_row (numbered objects n)
  where
    of_row : (o : Option ObjectRow) → option_map_or test (option_map (released_if false) o) false ≡ option_map_or test o false
    of_row None = refl
    of_row (Some o) = refl

-- the rows of other numbers stay where one is put in another's place
pub numbered_set_other : {X : Type 0} (objects : List X) (m n : ℕ) (row : X) → 1 ≤ m → (n == m) ≡ false → numbered (slice_set objects (m - 1) row) n ≡ numbered objects n
numbered_set_other objects m n row from_one apart =
    elim (n == 0) as (λ b. (n == 0) ≡ b → cond b None (slice_get (slice_set objects (m - 1) row) (n - 1)) ≡ cond b None (slice_get objects (n - 1))) [
      | true ↦ λ _. refl
      | false ↦ λ named. get_set_other objects (m - 1) (n - 1) row (λ same. false_true (sym apart ∙ eq-eqb n m (is_one n named same)))
    ] refl
  where
    is_one : (k : ℕ) → (k == 0) ≡ false → m - 1 ≡ k - 1 → k ≡ m
    is_one zero named same = absurd (false_true (sym named))
    is_one (suc k) named same = omega (arith, from_one, same)

-- one object is
pub one_released : (objects : List ObjectRow) (object : ℕ) (row : ObjectRow) → numbered objects object ≡ Some row → Releases (λ n. n == object) objects (slice_set objects (object - 1) (record row { released = true }))
one_released objects object row is n =
    elim (n == object) as (λ b. (n == object) ≡ b → numbered (slice_set objects (object - 1) (record row { released = true })) n ≡ option_map (released_if b) (numbered objects n)) [
      | true ↦ λ same.
          let own : n ≡ object = eqb-true n object same in
          subst (λ k. numbered (slice_set objects (object - 1) (record row { released = true })) k ≡ option_map (released_if true) (numbered objects k)) (sym own)
          (numbered_at (slice_set objects (object - 1) (record row { released = true })) object (record row { released = true }) at.1 (get_set objects (object - 1) row (record row { released = true }) at.0)
          ∙ sym (ap (option_map (released_if true)) is))
      | false ↦ λ apart. numbered_set_other objects object n (record row { released = true }) at.1 apart ∙ same_row (numbered objects n)
    ] refl
  where
    at : (slice_get objects (object - 1) ≡ Some row) × (1 ≤ object)
    at = numbered_some objects object row is

    same_row : (o : Option ObjectRow) → o ≡ option_map (released_if false) o
    same_row None = refl
    same_row (Some o) = refl

pub numbered_map : (f : ObjectRow → ObjectRow) (objects : List ObjectRow) (n : ℕ) → numbered (map f objects) n ≡ option_map f (numbered objects n)
numbered_map f objects n =
    elim (n == 0) as (λ b. cond b None (slice_get (map f objects) (n - 1)) ≡ option_map f (cond b None (slice_get objects (n - 1)))) [ true ↦ refl | false ↦ slice_get-map f objects (n - 1) ]

-- the members of a group are
pub members_released : (w : World) (group : ℕ) → Releases (is_member_at w group) w.objects (map (released_from group) w.objects)
members_released w group n = numbered_map (released_from group) w.objects n ∙ of_row (numbered w.objects n) refl
  where
    of_row : (o : Option ObjectRow) → numbered w.objects n ≡ o → option_map (released_from group) o ≡ option_map (released_if (is_member_at w group n)) o
    of_row None is = refl
    of_row (Some o) is = ap (λ r. Some (released_if (option_map_or (is_member group) r false) o)) (sym is)

-- ---- what they leave

pub all_passing : {X : Type 0} (P Q : X → Type 0) (p : X → Bool) → ((x : X) → p x ≡ true → P x → Q x) → (xs : List X) → AllByRecursion P xs → AllByRecursion Q (filter p xs)
all_passing P Q p h [] all = tt
all_passing {X} P Q p h (x ∷ xs) all =
    elim (p x) as (λ b. p x ≡ b → AllByRecursion Q (cond b (x ∷ filter p xs) (filter p xs))) [
      | true ↦ λ passes. (h x passes all.0, all_passing P Q p h xs all.1)
      | false ↦ λ _. all_passing P Q p h xs all.1
    ] refl

pub not_true_false : (b : Bool) → not b ≡ true → b ≡ false
not_true_false true e = absurd (false_true e)
not_true_false false e = refl

abbrev one_if : Bool → ℕ
one_if b = cond b 1 0

module _ (gone : ℕ → Bool) where
  -- the settings and the armings of the others
  abbrev pub settings_left : List TimerSetting → List TimerSetting
  settings_left settings = filter (λ (s : TimerSetting). not (gone s.object.0)) settings

  abbrev pub armings_left : List Arming → List Arming
  armings_left armings = filter (λ (a : Arming). not (gone a.object.0)) armings

  -- an object that is released has no setting left
  none_set : (n : ℕ) → gone n ≡ true → (settings : List TimerSetting) → count_set n (settings_left settings) ≡ 0
  none_set n is [] = refl
  none_set n is (s ∷ settings) =
      elim (gone s.object.0) as (λ b. gone s.object.0 ≡ b → count_set n (cond (not b) (s ∷ settings_left settings) (settings_left settings)) ≡ 0) [
        | true ↦ λ _. none_set n is settings
        | false ↦ λ out. elim (s.object.0 == n) as (λ b. (s.object.0 == n) ≡ b → length (cond b (s ∷ filter (λ (t : TimerSetting). t.object.0 == n) (settings_left settings)) (filter (λ (t : TimerSetting). t.object.0 == n) (settings_left settings))) ≡ 0) [
          | true ↦ λ same. absurd (false_true (sym out ∙ ap gone (eqb-true s.object.0 n same) ∙ is))
          | false ↦ λ _. none_set n is settings
        ] refl
      ] refl

  other_of : (k n : ℕ) → gone n ≡ false → not (gone k) ≡ false → (k == n) ≡ false
  other_of k n stays out = known (k == n) refl
    where
      known : (b : Bool) → (k == n) ≡ b → (k == n) ≡ false
      known false e = e
      known true e = absurd (false_true (sym stays ∙ ap gone (sym (eqb-true k n e)) ∙ not_false (gone k) out))

  same_set : (n : ℕ) → gone n ≡ false → (settings : List TimerSetting) → count_set n (settings_left settings) ≡ count_set n settings
  same_set n stays settings = ap length (filter_filter (λ (s : TimerSetting). s.object.0 == n) (λ (s : TimerSetting). not (gone s.object.0)) (λ s out. other_of s.object.0 n stays out) settings)

  same_armed : (n : ℕ) → gone n ≡ false → (armings : List Arming) → is_armed n (armings_left armings) ≡ is_armed n armings
  same_armed n stays armings = any_filter (is_arming_of n) (λ (a : Arming). not (gone a.object.0)) (λ a out. other_of a.object.0 n stays out) armings

  none_armed : (n : ℕ) → gone n ≡ true → (armings : List Arming) → is_armed n (armings_left armings) ≡ false
  none_armed n is [] = refl
  none_armed n is (a ∷ armings) =
      elim (gone a.object.0) as (λ b. gone a.object.0 ≡ b → is_armed n (cond (not b) (a ∷ armings_left armings) (armings_left armings)) ≡ false) [
        | true ↦ λ _. none_armed n is armings
        | false ↦ λ out. elim (is_arming_of n a) as (λ b. is_arming_of n a ≡ b → (b || is_armed n (armings_left armings)) ≡ false) [
          | true ↦ λ same. absurd (false_true (sym out ∙ ap gone (eqb-true a.object.0 n same) ∙ is))
          | false ↦ λ _. none_armed n is armings
        ] refl
      ] refl

  pub armed_left : (n : ℕ) (armings : List Arming) → count_armed n (armings_left armings) ≤ count_armed n armings
  armed_left n armings = of_gone (gone n) refl
    where
      of_gone : (b : Bool) → gone n ≡ b → count_armed n (armings_left armings) ≤ count_armed n armings
      of_gone true is = omega (arith, ap one_if (none_armed n is armings))
      of_gone false stays = omega (arith, ap one_if (same_armed n stays armings))

  pub timed_left : (n : ℕ) (settings : List TimerSetting) (armings : List Arming) → IsTimedOut n settings armings → IsTimedOut n (settings_left settings) (armings_left armings)
  timed_left n settings armings timed = record { few = of_gone (gone n) refl; once = all_filter (λ (s : TimerSetting). s.object.0 ≡ n → s.period ≡ 0) (λ (s : TimerSetting). not (gone s.object.0)) settings timed.once }
    where
      of_gone : (b : Bool) → gone n ≡ b → count_set n (settings_left settings) ≤ count_armed n (armings_left armings)
      of_gone true is = omega (arith, none_set n is settings)
      of_gone false stays = omega (arith, same_set n stays settings, ap one_if (same_armed n stays armings), timed.few)

  -- the objects of operations stand, where none is of an object that is released
  pub operations_left : (objects after : List ObjectRow) → Releases gone objects after → (cs : List CallbackRow) → ((n : ℕ) → gone n ≡ true → list_any (is_operation_of n) cs ≡ false)
      → AllByRecursion (λ (c : CallbackRow). is_operating c.status ≡ true → is_standing objects c.object.0 ≡ true) cs → AllByRecursion (λ (c : CallbackRow). is_operating c.status ≡ true → is_standing after c.object.0 ≡ true) cs
  operations_left objects after rel [] idle all = tt
  operations_left objects after rel (c ∷ cs) idle all = (
    λ operates. that_kept (λ (o : ObjectRow). not o.released) gone objects after rel c.object.0 (stays operates (gone c.object.0) refl) ∙ all.0 operates,
    operations_left objects after rel cs (λ n is. (neither (is_operation_of n c) (list_any (is_operation_of n) cs) (idle n is)).1) all.1,
  )
    where
      stays : is_operating c.status ≡ true → (b : Bool) → gone c.object.0 ≡ b → gone c.object.0 ≡ false
      stays operates false is = is
      stays operates true is = absurd (false_true (sym (neither (is_operation_of c.object.0 c) (list_any (is_operation_of c.object.0) cs) (idle c.object.0 is)).0 ∙ ap₂ (λ a b. a && b) operates (eq-eqb c.object.0 c.object.0 refl)))

-- ---- what is found in a range, and among callbacks

pub none_in_range : (p : ℕ → Bool) (first count n : ℕ) → find p (range_with_len first count) ≡ None → first ≤ n → n < first + count → p n ≡ false
none_in_range p first zero n none least most = absurd (omega (arith, least, most))
none_in_range p first (suc count) n none least most =
    elim (p first) as (λ b. p first ≡ b → cond b (Some first) (find p (range_with_len (first + 1) count)) ≡ None → p n ≡ false) [
      | true ↦ λ _ e. absurd cc
      | false ↦ λ out e. elim (first == n) as (λ b. (first == n) ≡ b → p n ≡ false) [
        | true ↦ λ same. ap p (sym (eqb-true first n same)) ∙ out
        | false ↦ λ other. none_in_range p (first + 1) count n e (above first n least other) (omega (arith, most))
      ] refl
    ] refl none
  where
    above : (a b : ℕ) → a ≤ b → (a == b) ≡ false → a + 1 ≤ b
    above a b le other = known (nat_lt a b) refl
      where
        known : (t : Bool) → nat_lt a b ≡ t → a + 1 ≤ b
        known true e = omega (arith, ltb-true a b e)
        known false e = absurd (false_true (sym other ∙ eq-eqb a b (omega (arith, ltb-false a b e, le))))

pub any_found : (p : CallbackRow → Bool) (n : ℕ) (c : CallbackRow) (cs : List CallbackRow) → find (has_number n) cs ≡ Some c → p c ≡ true → list_any p cs ≡ true
any_found p n c [] found passes = absurd cc
any_found p n c (d ∷ cs) found passes =
    elim (has_number n d) as (λ b. cond b (Some d) (find (has_number n) cs) ≡ Some c → (p d || list_any p cs) ≡ true) [
      | true ↦ λ e. let same : d ≡ c = cc in ap (λ b. b || list_any p cs) (ap p same ∙ passes)
      | false ↦ λ e. or_behind (p d) (any_found p n c cs e passes)
    ] found
  where
    or_behind : (b : Bool) → list_any p cs ≡ true → (b || list_any p cs) ≡ true
    or_behind true h = refl
    or_behind false h = h
