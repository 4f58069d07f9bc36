use Rattle.std.proofs.Common.{◌≡◌, ℕ, ◌<◌, ◌≤◌, [], replicate, get_or, sym, subst, ◌∙◌, ap, arith, ⊎_elim}
use Rattle.std.proofs.lemmas.Bool.{cases_lt}
use Rattle.std.proofs.lemmas.List.{get_or-replicate, get_or_past, length-replicate}
use Rattle.linked_lists.specs.Linked.{Linked}
use Rattle.live_callbacks.specs.Lists.{AreListed}
use Rattle.live_callbacks.proofs.lists.Lists.open.Goals as goal

-- where all keys are in no list, and no row has one
opened : (lists keys : ℕ) (all : Linked) → all ≡ record { numbers = replicate keys 0; owners = replicate keys lists; lists = replicate lists [] } → AreListed lists keys [] all
opened lists keys all is =
    subst (AreListed lists keys []) (sym is)
    (record {
      sized = length-replicate keys 0;
      many = length-replicate lists [];
      bounded = tt;
      listed = λ list lt. get_or-replicate lists list [] [] lt;
      owned = λ key. ap (get_or (replicate keys lists) key) (length-replicate lists []) ∙ none key;
      numbered = tt;
    })
  where
    none : (key : ℕ) → get_or (replicate keys lists) key lists ≡ lists
    none key =
        ⊎_elim
        (λ (lt : key < keys). get_or-replicate keys key lists lists lt)
        (λ (le : keys ≤ key). get_or_past (replicate keys lists) key lists (omega (arith, le, length-replicate keys lists)))
        (cases_lt key keys)

pub returns-clause-empty : goal.returns-clause-empty
returns-clause-empty c = record {
  lines_fit = omega (arith, c.if-max.false, c.max.ensures);
  groups_fit = omega (arith, c.if-max.false, c.max.ensures);
  by_line = opened _ _ _ c.in_ok-open.ensures;
  by_object = opened _ _ _ c.in_ok-open-2.ensures;
  in_group = opened _ _ _ c.in_ok-open-3.ensures;
}
