-- The lists of members, as an object is made and as one is released.
use Rattle.std.proofs.Common.{◌≡◌, ◌≢◌, ℕ, ◌+◌, ◌-◌, ◌<◌, ◌≤◌, Bool, true, false, cond, not, ◌&&◌, ◌==◌, List, [], ◌∷◌, ◌++◌, length, get_or, if◌then◌else◌}
use Rattle.std.proofs.Common.{nat_le, slice_set, Some, refl, sym, ap, ap₂, ◌∙◌, subst, arith, filter, eqb-true, eq-eqb, ne_eqb, leb-true, ⊎_elim, length-append, length-set, get_or-set_same, get_or-set_other}
use Rattle.std.proofs.lemmas.Bool.{cases_eq, le-leb}
use Rattle.std.proofs.lemmas.List.{append-nil}
use Rattle.linked_lists.specs.Linked.{AreOwned, Linked, list_of, moved, owner_of, tally, times}
use Rattle.linked_lists.specs.Moved.{without}
use Rattle.linked_lists.proofs.Moving.{left_taken, without_none}
use Rattle.tp_base.specs.declared.rows.ObjectRow.{ObjectRow}
use Rattle.tp_model.specs.Counts.{numbered}
use Rattle.tp_model.specs.Groups.{is_member, objects_that}
use Rattle.tp_model.proofs.Refusals.{false_true}
use Rattle.object_rows.specs.Listed.{AreMembered, with_member, without_member}
use Rattle.object_rows.proofs.MembersChanged.{one_less, one_more}

-- one list has other objects
set_list : (lists : List (List ℕ)) (own group : ℕ) (keys : List ℕ) → group < length lists → get_or (slice_set lists own keys) group [] ≡ cond (own == group) keys (get_or lists group [])
set_list lists own group keys within =
    ⊎_elim
    (λ (same : own ≡ group). rw (eq-eqb own group same) (subst (λ n. get_or (slice_set lists n keys) group [] ≡ keys) (sym same) (get_or-set_same lists group keys [] within)))
    (λ (apart : own ≢ group). rw (ne_eqb own group apart) (get_or-set_other lists own group keys [] (λ e. apart (sym e))))
    (cases_eq own group)

module _ (groups limit : ℕ) (os : List ObjectRow) (members : Linked) (k : AreMembered groups limit os members) where
  -- ---- one more object

  pub membered_created : (o : ObjectRow) → o.released ≡ false → (number : ℕ) → number ≡ length os + 1 → AreMembered groups limit (os ++ o ∷ []) (with_member members groups o.env.group number)
  membered_created o unreleased number here = by_group (nat_le own groups) refl
    where
      own : ℕ
      own = o.env.group.0

      more : (group : ℕ) → group ≤ groups → objects_that (is_member group) (os ++ o ∷ []) ≡ list_of members group ++ cond (own == group) (number ∷ []) []
      more group le =
          one_more (is_member group) os o ∙ ap (λ b. objects_that (is_member group) os ++ cond (not b && (own == group)) ((length os + 1) ∷ []) []) unreleased
          ∙ ap₂ (λ (xs : List ℕ) (n : ℕ). xs ++ cond (own == group) (n ∷ []) []) (sym (k.membered group le)) (sym here)

      longer : length (os ++ o ∷ []) ≡ number
      longer = omega (arith, length-append os (o ∷ []), here)

      put : (b : Bool) (group : ℕ) → (own == group) ≡ b → cond b (list_of members own ++ number ∷ []) (list_of members group) ≡ list_of members group ++ cond b (number ∷ []) []
      put true group e = ap (λ g. list_of members g ++ number ∷ []) (eqb-true own group e)
      put false group e = sym (append-nil (list_of members group))

      by_group : (b : Bool) → nat_le own groups ≡ b → AreMembered groups limit (os ++ o ∷ []) (cond b (moved members number own own (list_of members own ++ number ∷ [])) members)
      by_group true e =
          let many = length-set members.lists own (list_of members own ++ number ∷ []) in
          record {
            lists = many ∙ k.lists;
            keys = k.keys;
            later = λ n lt.
                get_or-set_other members.owners number n own (length (slice_set members.lists own (list_of members own ++ number ∷ []))) (λ same. absurd (omega (arith, same, lt, longer)))
                ∙ ap (λ d. get_or members.owners n d) many ∙ k.later n (omega (arith, lt, longer, here)) ∙ sym many;
            membered = λ group le. set_list members.lists own group (list_of members own ++ number ∷ []) (omega (arith, le, k.lists)) ∙ put (own == group) group refl ∙ sym (more group le);
          }
      by_group false e = record {
        lists = k.lists;
        keys = k.keys;
        later = λ n lt. k.later n (omega (arith, lt, longer, here));
        membered = λ group le.
            sym (more group le ∙ ap (λ b. list_of members group ++ cond b (number ∷ []) []) (ne_eqb own group (λ same. false_true (sym e ∙ le-leb own groups (omega (arith, same, le))))) ∙ append-nil (list_of members group));
      }

  -- ---- one that is released

  pub membered_released : (number : ℕ) (row : ObjectRow) → numbered os number ≡ Some row → AreOwned members → AreMembered groups limit (slice_set os (number - 1) (record row { released = true })) (without_member members groups number)
  membered_released number row is owned = by_owner (nat_le owner groups) refl
    where
      after : List ObjectRow
      after = slice_set os (number - 1) (record row { released = true })

      owner : ℕ
      owner = owner_of members number

      less : (group : ℕ) → group ≤ groups → without number (list_of members group) ≡ objects_that (is_member group) after
      less group le = ap (without number) (k.membered group le) ∙ sym (one_less group number os row is)

      as_many : length after ≡ length os
      as_many = length-set os (number - 1) (record row { released = true })

      by_owner : (b : Bool) → nat_le owner groups ≡ b → AreMembered groups limit after (cond b (moved members number (length members.lists) owner (without number (list_of members owner))) members)
      by_owner true e =
          let left = left_taken members number owned (omega (arith, leb-true owner groups e, k.lists)) in
          record {
            lists = left.many ∙ k.lists;
            keys = k.keys;
            later = λ n lt.
                left.owners n
                ∙ elim (n == number) as (λ b. (if b then length members.lists else owner_of members n) ≡ length members.lists) [ true ↦ refl | false ↦ k.later n (omega (arith, lt, as_many)) ]
                ∙ sym left.many;
            membered = λ group le. left.listed group (omega (arith, le, k.lists)) ∙ less group le;
          }
      by_owner false e = record {
        lists = k.lists;
        keys = k.keys;
        later = λ n lt. k.later n (omega (arith, lt, as_many));
        membered = λ group le.
            let none : times number (list_of members group) ≡ 0
            = owned.once group number (omega (arith, le, k.lists)) ∙ ap tally (ne_eqb owner group (λ same. false_true (sym e ∙ le-leb owner groups (omega (arith, same, le))))) in
            sym (without_none number (list_of members group) none) ∙ less group le;
      }
