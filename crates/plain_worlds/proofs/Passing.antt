-- What is counted of callbacks and objects, one by one.
use Rattle.std.proofs.Common.{◌≡◌, ℕ, suc, ◌+◌, ◌-◌, ◌≤◌, Bool, true, false, cond, not, ◌&&◌, ◌||◌, List, [], ◌∷◌, length, filter, slice_get, Some, None, refl, sym, ap, ◌∙◌, arith, ne_eqb}
use Rattle.std.specs.List.{range_with_len}
use Rattle.std.proofs.lemmas.List.{length-map}
use Rattle.tp_base.specs.declared.rows.CallbackRow.{CallbackRow}
use Rattle.tp_base.specs.declared.rows.ObjectRow.{ObjectRow}
use Rattle.tp_base.specs.declared.rows.Status.TheVariants.{Cancelled}
use Rattle.tp_base.specs.declared.rows.WaitTarget.{WaitTarget}
use Rattle.tp_base.specs.declared.rows.WaitTarget.TheVariants.{Object, Group, Kernel}
use Rattle.tp_model.specs.Counts.{numbered}
use Rattle.tp_model.specs.World.{World}
use Rattle.tp_model.specs.Groups.{gets_notice, is_object_that, notices_of, object_id, objects_that}
use Rattle.tp_model.specs.Calls.Waits.{count_covered}
use Rattle.tp_model.specs.Waits.{cancel_where, cancelled, is_cancelled_by, is_covered_by, is_held_for, is_object_target, is_of}
use Rattle.tp_model.proofs.Refusals.{and_false}
use Rattle.tp_model.proofs.Releasing.{that_stands}
use Rattle.plain_worlds.specs.Counting.{is_covered_then}

-- no more pass a test than there are
pub few : {X : Type 0} (p : X → Bool) (xs : List X) → length (filter p xs) ≤ length xs
few p [] = omega arith
few {X} p (x ∷ xs) = elim (p x) as (λ b. length (cond b (x ∷ filter p xs) (filter p xs)) ≤ length (x ∷ xs)) [ true ↦ omega (arith, few p xs) | false ↦ omega (arith, few p xs) ]

-- ---- waits

not_held : (target : WaitTarget) → is_held_for target Cancelled ≡ false
not_held (Object object) = refl
not_held (Group group) = refl
not_held (Kernel kernel) = refl

-- what is cancelled isn't covered
not_covered : (target : WaitTarget) (cancel : Bool) (c : CallbackRow) → is_covered_by target cancel (cancelled c) ≡ false
not_covered target cancel c =
    ap (λ b. (is_of target (cancelled c) && b) && (false || not (cancel && is_object_target target))) (not_held target)
    ∙ ap (λ b. b && (false || not (cancel && is_object_target target))) (and_false (is_of target (cancelled c)))

passed : (target : WaitTarget) (cancel : Bool) (cs : List CallbackRow) → length (filter (is_covered_then target cancel) cs) ≡ length (filter (is_covered_by target cancel) (cancel_where (is_cancelled_by target cancel) cs))
passed target cancel [] = refl
passed target cancel (c ∷ cs) =
    let rest = passed target cancel cs in
    let here : List CallbackRow = filter (is_covered_then target cancel) cs in
    let then : List CallbackRow = filter (is_covered_by target cancel) (cancel_where (is_cancelled_by target cancel) cs) in
    elim (is_cancelled_by target cancel c) as (λ b. length (cond (not b && is_covered_by target cancel c) (c ∷ here) here) ≡ length (cond (is_covered_by target cancel (cond b (cancelled c) c)) (cond b (cancelled c) c ∷ then) then)) [
      | true ↦ rest ∙ sym (ap (λ b. length (cond b (cancelled c ∷ then) then)) (not_covered target cancel c))
      | false ↦ elim (is_covered_by target cancel c) as (λ b. length (cond b (c ∷ here) here) ≡ length (cond b (c ∷ then) then)) [ true ↦ ap suc rest | false ↦ rest ]
    ]

pub covered_counted : (w : World) (target : WaitTarget) (cancel : Bool) → length (filter (is_covered_then target cancel) w.callbacks) ≡ count_covered w target cancel
covered_counted w target cancel =
    passed target cancel w.callbacks ∙ sym (length-map (filter (is_covered_by target cancel) (cancel_where (is_cancelled_by target cancel) w.callbacks)) (λ (c : CallbackRow). c.number))

-- ---- objects

-- the objects that pass a test are as many as their numbers
counted_from : (test : ObjectRow → Bool) (objects : List ObjectRow) (n : ℕ) (rows : List ObjectRow) → ((i : ℕ) → slice_get rows i ≡ numbered objects (n + i)) → length (filter test rows) ≡ length (filter (is_object_that test objects) (range_with_len n (length rows)))
counted_from test objects n [] at = refl
counted_from test objects n (o ∷ os) at =
    let here : numbered objects n ≡ Some o = ap (numbered objects) (omega arith) ∙ sym (at 0) in
    let rest : length (filter test os) ≡ length (filter (is_object_that test objects) (range_with_len (n + 1) (length os))) = counted_from test objects (n + 1) os (λ i. at (suc i) ∙ ap (numbered objects) (omega arith)) in
    let others : List ℕ = filter (is_object_that test objects) (range_with_len (n + 1) (length os)) in
    elim (test o) as (λ b. length (cond b (o ∷ filter test os) (filter test os)) ≡ length (cond b (n ∷ others) others)) [ true ↦ ap suc rest | false ↦ rest ]
    ∙ ap (λ b. length (cond b (n ∷ others) others)) (sym (that_stands test objects n o here))

objects_counted : (test : ObjectRow → Bool) (objects : List ObjectRow) → length (filter test objects) ≡ length (objects_that test objects)
objects_counted test objects = counted_from test objects 1 objects first
  where
    first : (i : ℕ) → slice_get objects i ≡ numbered objects (1 + i)
    first i = ap (slice_get objects) (omega arith) ∙ sym (ap (λ b. cond b None (slice_get objects (1 + i - 1))) (ne_eqb (1 + i) 0 (λ e. omega (arith, e))))

-- and as the notices of a close with cancel
pub notices_counted : (w : World) (group : ℕ) (cancel : Bool) → cancel ≡ true → length (filter (gets_notice group) w.objects) ≡ length (notices_of w group cancel)
notices_counted w group cancel is =
    objects_counted (gets_notice group) w.objects ∙ sym (length-map (objects_that (gets_notice group) w.objects) object_id) ∙ ap (λ b. length (notices_of w group b)) (sym is)
