-- What calls read of the lists.
use Rattle.std.proofs.Common.{◌≡◌, ◌≢◌, ◌==◌, ◌+◌, ◌-◌, ℕ, ◌<◌, ◌≤◌, Bool, true, false, nat_le, [], Option, None, Some, if◌then◌else◌, length, option_map, refl, sym, ap, ◌∙◌, arith, ⊎_elim}
use Rattle.std.specs.List.{All, slice_get}
use Rattle.std.proofs.lemmas.Bool.{cases_eq, cases_lt, eq-eqb, eqb-false, le-leb, lt-leb, ne_eqb}
use Rattle.std.proofs.lemmas.List.{get_or_past, length-map}
use Rattle.std.proofs.lemmas.Option.{slice_get-map}
use Rattle.linked_lists.specs.Linked.{AreOwned, Linked, list_of, owner_of, tally, times}
use Rattle.tp_base.specs.Armings.{is_armed}
use Rattle.kernel_events.specs.Armed.{HasDistinctObjects, first_on, waits_on}
use Rattle.kernel_events.specs.Threaded.{AreThreaded, armings_of, object_id, objects_on}
use Rattle.kernel_events.proofs.Rows.{armed_is, distinct, each, first_is, waits_are}

module _ (kernels objects : ℕ) (order own : Linked) (are : AreThreaded kernels objects order own) where
  -- ---- on one kernel object

  pub shown_first : (k : ℕ) → option_map object_id (slice_get (list_of own k) 0) ≡ first_on k (armings_of own (list_of order 0))
  shown_first k = ap (λ xs. option_map object_id (slice_get xs 0)) (are.threads k) ∙ sym (first_is own k (list_of order 0))

  pub shown_count : (k : ℕ) → length (waits_on k (armings_of own (list_of order 0))) ≡ length (list_of own k)
  shown_count k =
      ap length (waits_are own k (list_of order 0))
      ∙ length-map (objects_on own k (list_of order 0)) object_id
      ∙ ap length (sym (are.threads k))

  -- a kernel object that can't be made has no list
  pub past_list : (k : ℕ) → kernels < k → list_of own k ≡ []
  past_list k far = get_or_past own.lists k [] (omega (arith, far, are.own_lists))

  -- ---- on the whole

  module _ (owns : AreOwned order) where
    once : (o : ℕ) → times o (list_of order 0) ≡ tally (owner_of order o == 0)
    once o = owns.once 0 o (omega (arith, are.one_list))

    pub shown_armed : (o : ℕ) → is_armed o (armings_of own (list_of order 0)) ≡ (owner_of order o == 0)
    shown_armed o = armed_is own o (list_of order 0) (owner_of order o == 0) (once o)

    at_most_one : (b : Bool) → tally b ≤ 1
    at_most_one true = omega arith
    at_most_one false = omega arith

    pub shown_distinct : HasDistinctObjects (armings_of own (list_of order 0))
    shown_distinct = distinct own (list_of order 0) (λ o. omega (arith, once o, at_most_one (owner_of order o == 0)))

    -- what has no number from 1 to the greatest has no owner
    pub within : (o : ℕ) → 1 ≤ times o (list_of order 0) → (1 ≤ o) × (o ≤ objects)
    within o there =
        ⊎_elim
        (λ (zero : o ≡ 0). absurd (none (ap (owner_of order) zero ∙ are.zero)))
        (λ (more : o ≢ 0).
        ⊎_elim
        (λ (past : objects < o). absurd (none (are.beyond o past)))
        (λ (most : o ≤ objects). (omega (arith, more), most))
        (cases_lt objects o))
        (cases_eq o 0)
      where
        none : owner_of order o ≡ 1 → ⊥
        none is = omega (arith, there, once o, ap (λ n. tally (n == 0)) is)

    pub shown_least : All (λ a. 1 ≤ a.object.0) (armings_of own (list_of order 0))
    shown_least = each own (λ o. 1 ≤ o) (list_of order 0) (λ o there. (within o there).0)

    pub shown_most : All (λ a. a.object.0 ≤ objects) (armings_of own (list_of order 0))
    shown_most = each own (λ o. o ≤ objects) (list_of order 0) (λ o there. (within o there).1)

    -- ---- one object

    -- one that isn't armed
    pub record IsFree (o : ℕ) : Type 0 where
      pub none : times o (list_of order 0) ≡ 0
      pub owner : owner_of order o ≡ length order.lists
      pub own_owner : owner_of own o ≡ length own.lists

    pub free : (o : ℕ) → is_armed o (armings_of own (list_of order 0)) ≡ false → IsFree o
    free o not_armed =
        let no : (owner_of order o == 0) ≡ false = sym (shown_armed o) ∙ not_armed in
        let owners : (owner_of order o ≡ 1) × (owner_of own o ≡ kernels + 1) =
        ⊎_elim (λ (both : (owner_of order o ≡ 1) × (owner_of own o ≡ kernels + 1)). both) (λ (both : (owner_of order o ≡ 0) × (owner_of own o ≤ kernels)). absurd (eqb-false (owner_of order o) 0 no both.0)) (are.paired o)
        in
        record {
          none = once o ∙ ap (λ b. tally b) no;
          owner = owners.0 ∙ sym are.one_list;
          own_owner = owners.1 ∙ sym are.own_lists;
        }

    -- one that is armed
    pub record IsHeld (o : ℕ) : Type 0 where
      pub least : 1 ≤ o
      pub most : o ≤ objects
      pub owner : owner_of order o ≡ 0
      pub own_owner : owner_of own o ≤ kernels
      pub armed : is_armed o (armings_of own (list_of order 0)) ≡ true

    module _ (o owner : ℕ) (is : owner ≡ owner_of order o) where
      told : is_armed o (armings_of own (list_of order 0)) ≡ (owner == 0)
      told = shown_armed o ∙ ap (λ n. n == 0) (sym is)

      pub not_held : owner ≢ 0 → is_armed o (armings_of own (list_of order 0)) ≡ false
      not_held some = told ∙ ne_eqb owner 0 some

      pub held : owner ≡ 0 → IsHeld o
      held none =
          let armed = told ∙ eq-eqb owner 0 none in
          let there : 1 ≤ times o (list_of order 0) = omega (arith, once o, ap (λ b. tally b) (sym (shown_armed o) ∙ armed)) in
          let bounds = within o there in
          let all : owner_of order o ≡ 0 = sym is ∙ none in
          record {
            least = bounds.0;
            most = bounds.1;
            owner = all;
            own_owner = ⊎_elim (λ (both : (owner_of order o ≡ 1) × (owner_of own o ≡ kernels + 1)). absurd (omega (arith, both.0, all))) (λ (both : (owner_of order o ≡ 0) × (owner_of own o ≤ kernels)). both.1) (are.paired o);
            armed = armed;
          }
