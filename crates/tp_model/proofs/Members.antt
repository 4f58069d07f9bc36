-- To release one member of a group, and then the members that are left, is to release all of them.
use Rattle.std.proofs.Common.{◌≡◌, ℕ, zero, suc, ◌+◌, ◌-◌, Bool, true, false, cond, not, ◌==◌, List, [], ◌∷◌, length, map, slice_get, slice_set, Some, None, refl, sym, ap, ap₂, ◌∙◌, arith, filter, eqb-true}
use Rattle.tp_base.specs.declared.rows.ObjectRow.{ObjectRow}
use Rattle.tp_base.specs.declared.rows.TimerSetting.{TimerSetting}
use Rattle.tp_base.specs.declared.rows.Arming.{Arming}
use Rattle.tp_base.specs.Timers.{without_setting}
use Rattle.tp_base.specs.Armings.{without_arming}
use Rattle.tp_model.specs.World.{World}
use Rattle.tp_model.specs.Counts.{numbered}
use Rattle.tp_model.specs.Changes.{release_object}
use Rattle.tp_model.specs.Groups.{object_id, is_object_that, is_member, is_member_at, first_member, released_from, without_members}
use Rattle.tp_model.proofs.Releasing.{Releases, one_released, that_stands, that_kept, that_made, not_true_false, none_in_range}
use Rattle.tp_model.proofs.Refusals.{not_false, false_true, numbered_some, numbered_at}

-- ---- lists

map_set : {X Y : Type 0} (f : X → Y) (xs : List X) (i : ℕ) (old new : X) → slice_get xs i ≡ Some old → f new ≡ f old → map f (slice_set xs i new) ≡ map f xs
map_set f [] i old new at same = refl
map_set f (x ∷ xs) zero old new at same = let is : x ≡ old = cc in ap (λ y. y ∷ map f xs) (same ∙ ap f (sym is))
map_set f (x ∷ xs) (suc i) old new at same = ap (λ l. f x ∷ l) (map_set f xs i old new at same)

map_same : {X : Type 0} (f : X → X) (xs : List X) → ((i : ℕ) (x : X) → slice_get xs i ≡ Some x → f x ≡ x) → map f xs ≡ xs
map_same f [] same = refl
map_same f (x ∷ xs) same = ap₂ (λ y l. y ∷ l) (same 0 x refl) (map_same f xs (λ i. same (suc i)))

-- what passes one test and then another
filter_both : {X : Type 0} (p q r : X → Bool) → ((x : X) → q x ≡ false → r x ≡ false) → ((x : X) → q x ≡ true → p x ≡ r x) → (xs : List X) → filter p (filter q xs) ≡ filter r xs
filter_both p q r out within [] = refl
filter_both {X} p q r out within (x ∷ xs) =
    elim (q x) as (λ b. q x ≡ b → filter p (cond b (x ∷ filter q xs) (filter q xs)) ≡ cond (r x) (x ∷ filter r xs) (filter r xs)) [
      | true ↦ λ is. ap₂ (λ b l. cond b (x ∷ l) l) (within x is) (filter_both p q r out within xs)
      | false ↦ λ is. filter_both p q r out within xs ∙ sym (ap (λ b. cond b (x ∷ filter r xs) (filter r xs)) (out x is))
    ] refl

filter_whole : {X : Type 0} (p : X → Bool) (xs : List X) → ((x : X) → p x ≡ true) → filter p xs ≡ xs
filter_whole p [] all = refl
filter_whole p (x ∷ xs) all = ap (λ b. cond b (x ∷ filter p xs) (filter p xs)) (all x) ∙ ap (λ l. x ∷ l) (filter_whole p xs all)

-- ---- one member

module _ (w : World) (group n : ℕ) (row : ObjectRow) (stands : numbered w.objects n ≡ Some row) (member : is_member group row ≡ true) where
  after : World
  after = release_object w (object_id n) (Some row)

  gone_row : ObjectRow
  gone_row = record row { released = true }

  rel : Releases (λ k. k == n) w.objects (slice_set w.objects (n - 1) gone_row)
  unfolding gone_row
  rel = one_released w.objects n row stands

  other_same : (k : ℕ) → (k == n) ≡ false → is_object_that (is_member group) (slice_set w.objects (n - 1) gone_row) k ≡ is_member_at w group k
  other_same k apart = that_kept (is_member group) (λ m. m == n) w.objects (slice_set w.objects (n - 1) gone_row) rel k apart

  own_out : (k : ℕ) → (k == n) ≡ true → not (is_member_at w group k) ≡ false
  own_out k is = ap not (ap (is_member_at w group) (eqb-true k n is) ∙ that_stands (is_member group) w.objects n row stands ∙ member)

  rows_same : map (released_from group) (slice_set w.objects (n - 1) gone_row) ≡ map (released_from group) w.objects
  unfolding gone_row
  rows_same =
      map_set (released_from group) w.objects (n - 1) row (record row { released = true }) (numbered_some w.objects n row stands).0
      (sym (ap (λ b. cond b (record row { released = true }) row) member))

  settings_same : filter (λ (s : TimerSetting). not (is_object_that (is_member group) (slice_set w.objects (n - 1) gone_row) s.object.0)) (without_setting (object_id n) w.settings) ≡ filter (λ (s : TimerSetting). not (is_member_at w group s.object.0)) w.settings
  settings_same =
      filter_both (λ (s : TimerSetting). not (is_object_that (is_member group) (slice_set w.objects (n - 1) gone_row) s.object.0)) (λ (s : TimerSetting). not (s.object.0 == n)) (λ (s : TimerSetting). not (is_member_at w group s.object.0))
      (λ s out. own_out s.object.0 (not_false (s.object.0 == n) out)) (λ s within. ap not (other_same s.object.0 (not_true_false (s.object.0 == n) within))) w.settings

  armings_same : filter (λ (a : Arming). not (is_object_that (is_member group) (slice_set w.objects (n - 1) gone_row) a.object.0)) (without_arming n w.armings) ≡ filter (λ (a : Arming). not (is_member_at w group a.object.0)) w.armings
  armings_same =
      filter_both (λ (a : Arming). not (is_object_that (is_member group) (slice_set w.objects (n - 1) gone_row) a.object.0)) (λ (a : Arming). not (a.object.0 == n)) (λ (a : Arming). not (is_member_at w group a.object.0))
      (λ a out. own_out a.object.0 (not_false (a.object.0 == n) out)) (λ a within. ap not (other_same a.object.0 (not_true_false (a.object.0 == n) within))) w.armings

  pub release_goes_on : without_members (release_object w (object_id n) (Some row)) group ≡ without_members w group
  unfolding gone_row
  release_goes_on =
      ap₂ (λ os ss. record w { objects = os; settings = ss; armings = filter (λ (a : Arming). not (is_object_that (is_member group) (slice_set w.objects (n - 1) (record row { released = true })) a.object.0)) (without_arming n w.armings) }) rows_same settings_same
      ∙ ap (λ arms. record w { objects = map (released_from group) w.objects; settings = filter (λ (s : TimerSetting). not (is_member_at w group s.object.0)) w.settings; armings = arms }) armings_same

-- ---- and none

module _ (w : World) (group : ℕ) (none : first_member w group ≡ None) where
  no_member : (n : ℕ) → is_member_at w group n ≡ false
  no_member n = known (is_member_at w group n) refl
    where
      known : (b : Bool) → is_member_at w group n ≡ b → is_member_at w group n ≡ false
      known false e = e
      known true e =
          let made = that_made (is_member group) w.objects n e in
          absurd (false_true (sym (none_in_range (is_object_that (is_member group) w.objects) 1 (length w.objects) n none made.0 (omega (arith, made.1))) ∙ e))

  row_same : (i : ℕ) (o : ObjectRow) → slice_get w.objects i ≡ Some o → released_from group o ≡ o
  row_same i o at =
      let stands : numbered w.objects (i + 1) ≡ Some o = numbered_at w.objects (i + 1) o (omega arith) (ap (slice_get w.objects) (omega arith) ∙ at) in
      ap (λ b. cond b (record o { released = true }) o) (sym (that_stands (is_member group) w.objects (i + 1) o stands) ∙ no_member (i + 1))

  pub released_all : without_members w group ≡ w
  released_all =
      ap₂ (λ os ss. record w { objects = os; settings = ss; armings = filter (λ (a : Arming). not (is_member_at w group a.object.0)) w.armings })
      (map_same (released_from group) w.objects row_same) (filter_whole (λ (s : TimerSetting). not (is_member_at w group s.object.0)) w.settings (λ s. ap not (no_member s.object.0)))
      ∙ ap (λ arms. record w { armings = arms }) (filter_whole (λ (a : Arming). not (is_member_at w group a.object.0)) w.armings (λ a. ap not (no_member a.object.0)))
