-- Whether one of the callbacks passes a test, as they are gone along.
use Rattle.std.proofs.Common.{◌≡◌, ℕ, ◌<◌, Bool, true, false, cond, ◌&&◌, ◌||◌, ◌==◌, List, [], ◌∷◌, length, nat_lt, slice_get, Option, Some, refl, sym, ap, ap₂, ◌∙◌, subst, filter, find}
use Rattle.std.specs.List.{AllByRecursion, list_any}
use Rattle.tp_base.specs.declared.ids.GroupId.{GroupId}
use Rattle.tp_base.specs.declared.rows.Status.{Status}
use Rattle.tp_base.specs.declared.rows.Status.TheVariants.{Expected, Issued, Pending, Running, Returned, Cancelled}
use Rattle.tp_base.specs.declared.rows.CallbackRow.{CallbackRow}
use Rattle.tp_base.specs.declared.rows.WaitTarget.TheVariants.{Group}
use Rattle.tp_model.specs.Counts.{is_live}
use Rattle.tp_model.specs.Groups.{is_simple_of}
use Rattle.tp_model.specs.Waits.{is_held_for}
use Rattle.tp_model.specs.Support.Remembered.{lives}
use Rattle.live_world.specs.Closing.{is_of_group}
use Rattle.live_world.proofs.Lists.{all_pass}
use Rattle.live_world.proofs.Walks.{Rises, rest, IsAmong, rest_first, first_among, onward}

-- a callback of the group that has no object and is kept is outstanding for the group, disassociated or not
pub simple_live : (group : GroupId) (cs : List CallbackRow) → filter lives cs ≡ cs → list_any (λ c. c.object.0 == 0) (filter (is_of_group group) cs) ≡ list_any (is_simple_of group) cs
simple_live group cs living = each cs (subst (AllByRecursion (λ c. lives c ≡ true)) living (all_pass lives cs))
  where
    alike : (b o : Bool) (s : Status) → is_live s ≡ true → (b && o) ≡ ((b && is_held_for (Group group) s) && o)
    alike false o s e = refl
    alike true o Expected e = refl
    alike true o Issued e = refl
    alike true o Pending e = refl
    alike true o (Running worker associated slots) e = refl
    alike true o Returned e = absurd cc
    alike true o Cancelled e = absurd cc

    each : (ds : List CallbackRow) → AllByRecursion (λ c. lives c ≡ true) ds → list_any (λ c. c.object.0 == 0) (filter (is_of_group group) ds) ≡ list_any (is_simple_of group) ds
    each [] all = refl
    each (d ∷ ds) all =
        let left : List CallbackRow = filter (is_of_group group) ds in
        elim (is_of_group group d) as (λ b. list_any (λ (c : CallbackRow). c.object.0 == 0) (cond b (d ∷ left) left) ≡ ((b && (d.object.0 == 0)) || list_any (λ (c : CallbackRow). c.object.0 == 0) left)) [ true ↦ refl | false ↦ refl ]
        ∙ ap₂ (λ a b. a || b) (alike (d.group.0 == group.0) (d.object.0 == 0) d.status all.0) (each ds all.1)

module _ {X : Type 0} (key : X → ℕ) (t : X → Bool) (xs : List X) where
  -- none passes before the next
  pub record Looking (next : Option X) : Type 0 where
    pub left : list_any t (rest key xs next) ≡ list_any t xs
    pub among : IsAmong key xs next

  pub looking_first : (low : ℕ) (next : Option X) → Rises key low xs → next ≡ slice_get xs 0 → Looking next
  looking_first low next rises is =
      record {
        left = ap (λ o. list_any t (rest key xs o)) is ∙ ap (list_any t) (rest_first key low xs rises);
        among = subst (IsAmong key xs) (sym is) (first_among key xs);
      }

  -- the next passes, or it is passed over
  pub record Looks (x : X) (next : Option X) : Type 0 where
    pub passes : t x ≡ true → list_any t xs ≡ true
    pub others : t x ≡ false → (after : Option X) → after ≡ find (λ y. nat_lt (key x) (key y)) xs → Looking after
    pub later : (after : Option X) → after ≡ find (λ y. nat_lt (key x) (key y)) xs → length (rest key xs after) < length (rest key xs next)

  pub looks : (low : ℕ) (x : X) (next : Option X) → Rises key low xs → next ≡ Some x → Looking next → Looks x next
  looks low x next rises is k =
      let at = onward key low xs x next rises is k.among in
      let behind : Option X = find (λ y. nat_lt (key x) (key y)) xs in
      record {
        passes = λ e. sym k.left ∙ ap (list_any t) (at.step behind refl) ∙ ap (λ b. b || list_any t (rest key xs behind)) e;
        others = λ e after found. record { left = ap (λ b. b || list_any t (rest key xs after)) (sym e) ∙ ap (list_any t) (sym (at.step after found)) ∙ k.left; among = at.among after found };
        later = at.later;
      }
