-- The lists stay threaded as one object is armed or disarmed.
use Rattle.std.proofs.Common.{◌≡◌, ◌≢◌, ◌==◌, ◌+◌, ℕ, ◌<◌, ◌≤◌, true, false, List, [], ◌∷◌, ◌++◌, length, map, slice_index_or, inl, inr, refl, sym, ap, ◌∙◌, arith, ⊎_elim}
use Rattle.std.proofs.lemmas.Bool.{cases_eq, cases_lt, eq-eqb, ne_eqb}
use Rattle.std.proofs.lemmas.List.{append-nil, length-set, get_or_past, get_or-set_same, get_or-set_other, map-append}
use Rattle.std.proofs.lemmas.List.Elements.{filter-append}
use Rattle.linked_lists.specs.Linked.{Linked, list_of, moved, owner_of, times}
use Rattle.tp_base.specs.declared.rows.Arming.{Arming}
use Rattle.tp_base.specs.Armings.{without_arming}
use Rattle.kernel_events.specs.Armed.{Armed}
use Rattle.kernel_events.specs.Threaded.{AreThreaded, ArePaired, arming_of, armings_of, objects_on}
use Rattle.kernel_events.proofs.Rows.{armings_left, left_other, left_own, same_armings, same_objects, without}

abbrev pub armed_as : ℕ → ℕ → List Arming → Armed
armed_as kernels objects armed = record { kernels = kernels; objects = objects; armed = armed }

-- ---- a key has moved

module _ (all : Linked) (place owner list : ℕ) (places : List ℕ) where
  pub owner_here : place < length all.owners → owner_of (moved all place owner list places) place ≡ owner
  owner_here within = get_or-set_same all.owners place owner _ within

  pub owner_there : (p : ℕ) → p ≢ place → owner_of (moved all place owner list places) p ≡ owner_of all p
  owner_there p apart = rw (length-set all.lists list places) (get_or-set_other all.owners place p owner _ apart)

  pub list_here : list < length all.lists → list_of (moved all place owner list places) list ≡ places
  list_here within = get_or-set_same all.lists list places [] within

  pub list_there : (l : ℕ) → l ≢ list → list_of (moved all place owner list places) l ≡ list_of all l
  list_there l apart = get_or-set_other all.lists list l places [] apart

-- what is in a list is a key
pub in_list : (all : Linked) (key : ℕ) → owner_of all key < length all.lists → key < length all.owners
in_list all key owned =
    ⊎_elim
    (λ (within : key < length all.owners). within)
    (λ (past : length all.owners ≤ key). absurd (omega (arith, owned, get_or_past all.owners key (length all.lists) past)))
    (cases_lt key (length all.owners))

-- ---- an object in the list of all, and in those of kernel objects

module _ (kernels objects : ℕ) (order own : Linked) (are : AreThreaded kernels objects order own) (object : ℕ) (least : 1 ≤ object) (most : object ≤ objects) where
  held : object < length order.owners
  held = omega (arith, most, are.held)

  own_held : object < length own.owners
  own_held = omega (arith, most, are.own_held)

  module _ (owner own_owner list : ℕ) (order_places own_places : List ℕ) where
    abbrev order_new : Linked
    order_new = moved order object owner 0 order_places

    abbrev own_new : Linked
    own_new = moved own object own_owner list own_places

    there : (o : ℕ) → o ≢ object → owner_of own_new o ≡ owner_of own o
    there o apart = owner_there own object own_owner list own_places o apart

    here : owner_of own_new object ≡ own_owner
    here = owner_here own object own_owner list own_places own_held

    other : (o : ℕ) → o ≢ object → owner_of order_new o ≡ owner_of order o
    other o apart = owner_there order object owner 0 order_places o apart

    all_now : list_of order_new 0 ≡ order_places
    all_now = list_here order object owner 0 order_places (omega (arith, are.one_list))

    kept : ArePaired kernels owner own_owner → ((k : ℕ) → list_of own_new k ≡ objects_on own_new k order_places) → AreThreaded kernels objects order_new own_new
    kept pair threads = record {
      one_list = length-set order.lists 0 order_places ∙ are.one_list;
      own_lists = length-set own.lists list own_places ∙ are.own_lists;
      keys = are.keys;
      own_keys = are.own_keys;
      held = length-set order.owners object owner ∙ are.held;
      own_held = length-set own.owners object own_owner ∙ are.own_held;
      zero = other 0 (λ same. absurd (omega (arith, same, least))) ∙ are.zero;
      beyond = λ o past. other o (λ same. absurd (omega (arith, same, past, most))) ∙ are.beyond o past;
      paired = λ o.
          ⊎_elim
          (λ (is : o ≡ object). rw (is, owner_here order object owner 0 order_places held, here) pair)
          (λ (apart : o ≢ object). rw (other o apart, there o apart) (are.paired o))
          (cases_eq o object);
      threads = λ k. rw all_now (threads k);
    }

  -- ---- it is armed

  module _ (kernel : ℕ) (known : kernel ≤ kernels) (none : times object (list_of order 0) ≡ 0) where
    abbrev order_with : Linked
    order_with = moved order object 0 0 (list_of order 0 ++ object ∷ [])

    abbrev own_with : Linked
    own_with = moved own object kernel kernel (list_of own kernel ++ object ∷ [])

    there_with : (o : ℕ) → o ≢ object → owner_of own_with o ≡ owner_of own o
    there_with = there 0 kernel kernel (list_of order 0 ++ object ∷ []) (list_of own kernel ++ object ∷ [])

    here_with : owner_of own_with object ≡ kernel
    here_with = here 0 kernel kernel (list_of order 0 ++ object ∷ []) (list_of own kernel ++ object ∷ [])

    with_objects : (k : ℕ) → objects_on own_with k (list_of order 0 ++ object ∷ []) ≡ objects_on own k (list_of order 0) ++ objects_on own_with k (object ∷ [])
    with_objects k =
        filter-append (λ o. owner_of own_with o == k) (list_of order 0) (object ∷ [])
        ∙ ap (λ xs. xs ++ objects_on own_with k (object ∷ [])) (same_objects object own own_with there_with k (list_of order 0) none)

    pub armed_with : AreThreaded kernels objects order_with own_with
    armed_with =
        kept 0 kernel kernel (list_of order 0 ++ object ∷ []) (list_of own kernel ++ object ∷ []) (inr (refl, known))
        (λ k.
        ⊎_elim
        (λ (is : k ≡ kernel).
        let on : (owner_of own_with object == k) ≡ true = eq-eqb _ _ (here_with ∙ sym is) in
        rw (with_objects k, on)
        (ap (λ l. list_of own_with l) is
        ∙ list_here own object kernel kernel (list_of own kernel ++ object ∷ []) (omega (arith, known, are.own_lists))
        ∙ ap (λ l. list_of own l ++ object ∷ []) (sym is)
        ∙ ap (λ xs. xs ++ object ∷ []) (are.threads k)))
        (λ (apart : k ≢ kernel).
        let off : (owner_of own_with object == k) ≡ false = ne_eqb _ _ (λ same. apart (sym same ∙ here_with)) in
        rw (with_objects k, off, append-nil (objects_on own k (list_of order 0)))
        (list_there own object kernel kernel (list_of own kernel ++ object ∷ []) k apart ∙ are.threads k))
        (cases_eq k kernel))

    pub armings_with : armings_of own_with (list_of order_with 0) ≡ armings_of own (list_of order 0) ++ record { object = record { 0 = object }; kernel = record { 0 = kernel } } ∷ []
    armings_with =
        ap (armings_of own_with) (all_now 0 kernel kernel (list_of order 0 ++ object ∷ []) (list_of own kernel ++ object ∷ []))
        ∙ map-append (arming_of own_with) (list_of order 0) (object ∷ [])
        ∙ ap (λ xs. xs ++ arming_of own_with object ∷ []) (same_armings object own own_with there_with (list_of order 0) none)
        ∙ ap (λ k. armings_of own (list_of order 0) ++ arming k ∷ []) here_with
      where
        arming : ℕ → Arming
        arming k = record { object = record { 0 = object }; kernel = record { 0 = k } }

  -- ---- it is disarmed

  module _ (kernel : ℕ) (known : kernel ≤ kernels) (on : owner_of own object ≡ kernel) where
    abbrev order_without : Linked
    order_without = moved order object (length order.lists) 0 (without object (list_of order 0))

    abbrev own_without : Linked
    own_without = moved own object (length own.lists) kernel (without object (list_of own kernel))

    there_without : (o : ℕ) → o ≢ object → owner_of own_without o ≡ owner_of own o
    there_without = there (length order.lists) (length own.lists) kernel (without object (list_of order 0)) (without object (list_of own kernel))

    pub disarmed : AreThreaded kernels objects order_without own_without
    disarmed =
        kept (length order.lists) (length own.lists) kernel (without object (list_of order 0)) (without object (list_of own kernel)) (inl (are.one_list, are.own_lists))
        (λ k.
        ⊎_elim
        (λ (is : k ≡ kernel).
        ap (λ l. list_of own_without l) is
        ∙ list_here own object (length own.lists) kernel (without object (list_of own kernel)) (omega (arith, known, are.own_lists))
        ∙ ap (λ l. without object (list_of own l)) (sym is)
        ∙ ap (without object) (are.threads k)
        ∙ left_own object own own_without there_without k (list_of order 0))
        (λ (apart : k ≢ kernel).
        list_there own object (length own.lists) kernel (without object (list_of own kernel)) k apart
        ∙ are.threads k
        ∙ left_other object own own_without there_without k (ne_eqb _ _ (λ same. apart (sym same ∙ on))) (list_of order 0))
        (cases_eq k kernel))

    pub armings_without : armings_of own_without (list_of order_without 0) ≡ without_arming object (armings_of own (list_of order 0))
    armings_without =
        ap (armings_of own_without) (all_now (length order.lists) (length own.lists) kernel (without object (list_of order 0)) (without object (list_of own kernel)))
        ∙ armings_left object own own_without there_without (list_of order 0)
