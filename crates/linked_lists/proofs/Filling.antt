-- What nodes show, as they are filled, linked and numbered.
use Rattle.std.proofs.Common.{◌≡◌, ◌≢◌, ℕ, ◌+◌, ◌*◌, ◌/◌, ◌≤◌, ◌<◌, max, List, [], ◌∷◌, ◌++◌, length, set, get_or, replicate, refl, sym, ap, ◌∙◌, arith, ⊎_elim}
use Rattle.std.specs.List.{range_with_len}
use Rattle.std.proofs.lemmas.Bool.{cases_eq, cases_lt}
use Rattle.std.proofs.lemmas.List.{get_or_append_left, get_or_past, get_or_push, get_or-replicate, get_or-set_same, get_or-set_other, length_push, length-replicate, length-set}
use Rattle.std.proofs.lemmas.List.FromFn.{get_or-range_with_len, length-range_with_len}
use Rattle.linked_lists.specs.declared.nodes.Node.{Node}
use Rattle.linked_lists.specs.Nodes.{AreFilled, Arena, IsPlace, IsPlaceIn, IsRead, alone, arena_of, code, each, here, linked, node_at, place_at}
use Rattle.linked_lists.proofs.Each.{each_is, each_set, get_or-each, length-each}
use Rattle.linked_lists.proofs.Places.{code_back, key_place}

-- one more that follows itself
pub same_pushed : (nodes : List Node) (k : ℕ) → node_at (nodes ++ alone (length nodes) ∷ []) k ≡ node_at nodes k
same_pushed nodes k =
    let node = alone (length nodes) in
    ⊎_elim
    (λ (within : k < length nodes). get_or_append_left nodes (node ∷ []) (alone k) k within)
    (λ (far : length nodes ≤ k).
    ⊎_elim
    (λ (last : k ≡ length nodes). get_or_push nodes node (alone k) k (sym last) ∙ ap alone (sym last) ∙ sym (get_or_past nodes k (alone k) far))
    (λ (apart : k ≢ length nodes). get_or_past (nodes ++ node ∷ []) k (alone k) (omega (arith, length_push nodes node, far, apart)) ∙ sym (get_or_past nodes k (alone k) far))
    (cases_eq k (length nodes)))
    (cases_lt k (length nodes))

-- a node in the array is written
pub node_set : (nodes : List Node) (i : ℕ) (node : Node) → i < length nodes → node_at (set nodes i node) i ≡ node
node_set nodes i node within = get_or-set_same nodes i node (alone i) within

pub node_set_else : (nodes : List Node) (i x : ℕ) (node : Node) → x ≢ i → node_at (set nodes i node) x ≡ node_at nodes x
node_set_else nodes i x node apart = get_or-set_other nodes i x node (alone x) apart

-- a field that is written as it was
pub field_kept : (f : Node → ℕ) (nodes : List Node) (i : ℕ) (node : Node) → i < length nodes → f node ≡ f (node_at nodes i) → (x : ℕ) → f (node_at (set nodes i node) x) ≡ f (node_at nodes x)
field_kept f nodes i node within same x =
    ⊎_elim
    (λ (is : x ≡ i). rw is (ap f (node_set nodes i node within) ∙ same))
    (λ (apart : x ≢ i). ap f (node_set_else nodes i x node apart))
    (cases_eq x i)

-- two nodes in the array are linked
module _ (nodes : List Node) (a b : ℕ) (first second : Node) (in_a : a < length nodes) (in_b : b < length nodes) (first_is : first ≡ node_at nodes a) where
  half : Node
  half = record first { after = b }

  left : List Node
  left = set nodes a half

  module _ (second_is : second ≡ node_at (set nodes a (record first { after = b })) b) where
    abbrev new : List Node
    new = set (set nodes a (record first { after = b })) b (record second { before = a })

    in_left : b < length left
    unfolding left
    in_left = rw (length-set nodes a half) in_b

    pub on_a : (node_at new a).after ≡ b
    unfolding half left
    on_a = field_kept (λ n. n.after) left b (record second { before = a }) in_left (ap (λ (n : Node). n.after) second_is) a ∙ ap (λ (n : Node). n.after) (node_set nodes a half in_a)

    pub on_else : (x : ℕ) → x ≢ a → (node_at new x).after ≡ (node_at nodes x).after
    unfolding half left
    on_else x apart = field_kept (λ n. n.after) left b (record second { before = a }) in_left (ap (λ (n : Node). n.after) second_is) x ∙ ap (λ (n : Node). n.after) (node_set_else nodes a x half apart)

    pub back_b : (node_at new b).before ≡ a
    unfolding half left
    back_b = ap (λ (n : Node). n.before) (node_set left b (record second { before = a }) in_left)

    pub back_else : (x : ℕ) → x ≢ b → (node_at new x).before ≡ (node_at nodes x).before
    unfolding half left
    back_else x apart =
        ap (λ (n : Node). n.before) (node_set_else left b x (record second { before = a }) apart)
        ∙ field_kept (λ n. n.before) nodes a half in_a (ap (λ (n : Node). n.before) first_is) x

    pub numbers_kept : (x : ℕ) → (node_at new x).number ≡ (node_at nodes x).number
    unfolding half left
    numbers_kept x =
        field_kept (λ n. n.number) left b (record second { before = a }) in_left (ap (λ (n : Node). n.number) second_is) x
        ∙ field_kept (λ n. n.number) nodes a half in_a (ap (λ (n : Node). n.number) first_is) x

module _ (keys lists : ℕ) where
  -- ---- none is filled

  pub shows_opened : arena_of keys lists [] ≡ record { numbers = replicate keys 0; after = range_with_len 0 (keys + lists); before = range_with_len 0 (keys + lists); turns = 0 }
  shows_opened =
      let total = keys + lists in
      let f : ℕ → ℕ = λ c. code keys (place_at keys c) in
      let numbers : each keys (λ key. 0) ≡ replicate keys 0 = each_is keys (λ key. 0) (replicate keys 0) (length-replicate keys 0) (λ i lt. sym (get_or-replicate keys i 0 0 lt)) in
      let codes : each total f ≡ range_with_len 0 total = each_is total f (range_with_len 0 total) (length-range_with_len 0 total) (λ i lt. code_back keys i ∙ sym (get_or-range_with_len 0 total i 0 lt ∙ omega arith)) in
      rw (numbers, codes) refl

  module _ (nodes : List Node) where
    abbrev arena : Arena
    arena = arena_of keys lists nodes

    pub keys_many : length arena.numbers ≡ keys
    keys_many = length-each keys (λ key. (node_at nodes (2 * key)).number)

    pub total_many : length arena.after ≡ keys + lists
    total_many = length-each (keys + lists) (λ c. code keys (node_at nodes (place_at keys c)).after)

    pub place_in : (p : ℕ) → IsPlace arena p → IsPlaceIn keys (keys + lists) p
    place_in p is = rw (keys_many, total_many) at is

    pub in_place : (p : ℕ) → IsPlaceIn keys (keys + lists) p → IsPlace arena p
    in_place p is = rw (keys_many, total_many) is

    pub here_is : (p : ℕ) → here arena p ≡ code keys p
    here_is p = ap (λ k. code k p) keys_many

    -- ---- what is read

    pub number_at : (p : ℕ) → IsPlaceIn keys (keys + lists) p → code keys p < keys → (node_at nodes p).number ≡ get_or arena.numbers (code keys p) 0
    number_at p is lt =
        let f : ℕ → ℕ = λ key. (node_at nodes (2 * key)).number in
        let at : 2 * code keys p ≡ p = sym (key_place keys (code keys p) lt) ∙ is.back in
        sym (get_or-each keys f (code keys p) 0 lt ∙ ap (λ q. (node_at nodes q).number) at)

    pub after_at : (p : ℕ) → IsPlaceIn keys (keys + lists) p → code keys (node_at nodes p).after ≡ get_or arena.after (code keys p) 0
    after_at p is =
        let f : ℕ → ℕ = λ c. code keys (node_at nodes (place_at keys c)).after in
        sym (get_or-each (keys + lists) f (code keys p) 0 is.within ∙ ap (λ q. code keys (node_at nodes q).after) is.back)

    pub before_at : (p : ℕ) → IsPlaceIn keys (keys + lists) p → code keys (node_at nodes p).before ≡ get_or arena.before (code keys p) 0
    before_at p is =
        let f : ℕ → ℕ = λ c. code keys (node_at nodes (place_at keys c)).before in
        sym (get_or-each (keys + lists) f (code keys p) 0 is.within ∙ ap (λ q. code keys (node_at nodes q).before) is.back)

    pub read_of : (capacity : ℕ) → AreFilled keys lists capacity nodes → (p : ℕ) → IsPlace arena p → p < length nodes → IsRead arena p (node_at nodes p)
    read_of capacity filled p is lt =
        let there = place_in p is in
        record {
          number = λ few. rw (here_is p) (number_at p there (omega (arith, rw (here_is p, keys_many) at few)));
          after = rw (here_is p, here_is (node_at nodes p).after) (after_at p there);
          before = rw (here_is p, here_is (node_at nodes p).before) (before_at p there);
          on = in_place (node_at nodes p).after (filled.on p there);
          back = in_place (node_at nodes p).before (filled.back p there);
          on_filled = omega (arith, filled.on_filled p lt, filled.whole);
          back_filled = omega (arith, filled.back_filled p lt, filled.whole);
        }

    -- ---- what is written

    -- more that follow themselves
    module _ (new : List Node) (turn : ℕ) (same : (k : ℕ) → node_at new k ≡ node_at nodes k) (many : length new ≡ max (length nodes) (2 * turn + 1 + 1)) where
      pub shows_reached : (whole : length nodes ≡ 2 * (length nodes / 2)) → arena_of keys lists new ≡ record arena { turns = max arena.turns (turn + 1) }
      shows_reached whole =
          let numbers = each_is keys (λ k. (node_at new (2 * k)).number) arena.numbers keys_many
          (λ i lt. ap (λ (n : Node). n.number) (same (2 * i)) ∙ sym (get_or-each keys (λ k. (node_at nodes (2 * k)).number) i 0 lt))
          in
          let after = each_is (keys + lists) (λ c. code keys (node_at new (place_at keys c)).after) arena.after total_many
          (λ i lt. ap (λ (n : Node). code keys n.after) (same (place_at keys i)) ∙ sym (get_or-each (keys + lists) (λ c. code keys (node_at nodes (place_at keys c)).after) i 0 lt))
          in
          let before = each_is (keys + lists) (λ c. code keys (node_at new (place_at keys c)).before) arena.before (length-each (keys + lists) (λ c. code keys (node_at nodes (place_at keys c)).before))
          (λ i lt. ap (λ (n : Node). code keys n.before) (same (place_at keys i)) ∙ sym (get_or-each (keys + lists) (λ c. code keys (node_at nodes (place_at keys c)).before) i 0 lt))
          in
          let turns : length new / 2 ≡ max (length nodes / 2) (turn + 1) = omega (arith, many, whole) in
          rw (numbers, after, before, turns) refl

      -- a link of one that is new
      own_link : (f : Node → ℕ) → ((p : ℕ) → f (alone p) ≡ p) → ((p : ℕ) → p < length nodes → f (node_at nodes p) < length nodes) → (p : ℕ) → p < length new → f (node_at new p) < length new
      own_link f own old p lt =
          ⊎_elim
          (λ (within : p < length nodes). omega (arith, ap f (same p), old p within, many))
          (λ (far : length nodes ≤ p). omega (arith, ap f (same p ∙ get_or_past nodes p (alone p) far) ∙ own p, lt))
          (cases_lt p (length nodes))

      pub filled_reached : (capacity : ℕ) → AreFilled keys lists capacity nodes → AreFilled keys lists capacity new
      filled_reached capacity filled = record {
        on = λ p is_p. rw (same p) (filled.on p is_p);
        back = λ p is_p. rw (same p) (filled.back p is_p);
        on_filled = own_link (λ n. n.after) (λ p. refl) filled.on_filled;
        back_filled = own_link (λ n. n.before) (λ p. refl) filled.back_filled;
        whole = omega (arith, many, filled.whole);
        keys_reserved = filled.keys_reserved;
        lists_reserved = filled.lists_reserved;
        keys_fit = filled.keys_fit;
        lists_fit = filled.lists_fit;
      }

    -- another number
    module _
        (new : List Node) (key number : ℕ) (many : length new ≡ length nodes) (within : key < keys)
        (is : (node_at new (2 * key)).number ≡ number) (same : (x : ℕ) → x ≢ 2 * key → (node_at new x).number ≡ (node_at nodes x).number)
        (on : (x : ℕ) → (node_at new x).after ≡ (node_at nodes x).after) (back : (x : ℕ) → (node_at new x).before ≡ (node_at nodes x).before) where
      pub shows_numbered : arena_of keys lists new ≡ record arena { numbers = set arena.numbers key number }
      shows_numbered =
          let numbers = each_set keys (λ k. (node_at nodes (2 * k)).number) (λ k. (node_at new (2 * k)).number) key number within is (λ j apart. same (2 * j) (λ e. apart (omega (arith, e)))) in
          let after = each_is (keys + lists) (λ c. code keys (node_at new (place_at keys c)).after) arena.after total_many
          (λ i lt. ap (code keys) (on (place_at keys i)) ∙ sym (get_or-each (keys + lists) (λ c. code keys (node_at nodes (place_at keys c)).after) i 0 lt))
          in
          let before = each_is (keys + lists) (λ c. code keys (node_at new (place_at keys c)).before) arena.before (length-each (keys + lists) (λ c. code keys (node_at nodes (place_at keys c)).before))
          (λ i lt. ap (code keys) (back (place_at keys i)) ∙ sym (get_or-each (keys + lists) (λ c. code keys (node_at nodes (place_at keys c)).before) i 0 lt))
          in
          rw (numbers, after, before, many) refl

      pub filled_numbered : (capacity : ℕ) → AreFilled keys lists capacity nodes → AreFilled keys lists capacity new
      filled_numbered capacity filled = record {
        on = λ p is_p. rw (on p) (filled.on p is_p);
        back = λ p is_p. rw (back p) (filled.back p is_p);
        on_filled = λ p lt. rw (on p, many) (filled.on_filled p (rw many at lt));
        back_filled = λ p lt. rw (back p, many) (filled.back_filled p (rw many at lt));
        whole = rw many filled.whole;
        keys_reserved = filled.keys_reserved;
        lists_reserved = filled.lists_reserved;
        keys_fit = filled.keys_fit;
        lists_fit = filled.lists_fit;
      }

    -- a link
    module _
        (new : List Node) (a b : ℕ) (many : length new ≡ length nodes) (in_a : a < length nodes) (in_b : b < length nodes) (is_a : IsPlaceIn keys (keys + lists) a) (is_b : IsPlaceIn keys (keys + lists) b)
        (on_a : (node_at new a).after ≡ b) (on_else : (x : ℕ) → x ≢ a → (node_at new x).after ≡ (node_at nodes x).after)
        (back_b : (node_at new b).before ≡ a) (back_else : (x : ℕ) → x ≢ b → (node_at new x).before ≡ (node_at nodes x).before)
        (numbers : (x : ℕ) → (node_at new x).number ≡ (node_at nodes x).number) where
      apart_place : (j p : ℕ) → j ≢ code keys p → place_at keys j ≢ p
      apart_place j p apart e = apart (sym (code_back keys j) ∙ ap (code keys) e)

      pub shows_linked : arena_of keys lists new ≡ linked (code keys a) (code keys b) arena
      shows_linked =
          let same = each_is keys (λ k. (node_at new (2 * k)).number) arena.numbers keys_many
          (λ i lt. numbers (2 * i) ∙ sym (get_or-each keys (λ k. (node_at nodes (2 * k)).number) i 0 lt))
          in
          let after = each_set (keys + lists) (λ c. code keys (node_at nodes (place_at keys c)).after) (λ c. code keys (node_at new (place_at keys c)).after) (code keys a) (code keys b) is_a.within
          (ap (λ q. code keys (node_at new q).after) is_a.back ∙ ap (code keys) on_a)
          (λ j apart. ap (code keys) (on_else (place_at keys j) (apart_place j a apart)))
          in
          let before = each_set (keys + lists) (λ c. code keys (node_at nodes (place_at keys c)).before) (λ c. code keys (node_at new (place_at keys c)).before) (code keys b) (code keys a) is_b.within
          (ap (λ q. code keys (node_at new q).before) is_b.back ∙ ap (code keys) back_b)
          (λ j apart. ap (code keys) (back_else (place_at keys j) (apart_place j b apart)))
          in
          rw (same, after, before, many) refl

      pub filled_linked : (capacity : ℕ) → AreFilled keys lists capacity nodes → AreFilled keys lists capacity new
      filled_linked capacity filled = record {
        on = λ p is_p.
            ⊎_elim
            (λ (same : p ≡ a). rw (same, on_a) is_b)
            (λ (apart : p ≢ a). rw (on_else p apart) (filled.on p is_p))
            (cases_eq p a);
        back = λ p is_p.
            ⊎_elim
            (λ (same : p ≡ b). rw (same, back_b) is_a)
            (λ (apart : p ≢ b). rw (back_else p apart) (filled.back p is_p))
            (cases_eq p b);
        on_filled = λ p lt.
            ⊎_elim
            (λ (same : p ≡ a). rw (same, on_a, many) in_b)
            (λ (apart : p ≢ a). rw (on_else p apart, many) (filled.on_filled p (rw many at lt)))
            (cases_eq p a);
        back_filled = λ p lt.
            ⊎_elim
            (λ (same : p ≡ b). rw (same, back_b, many) in_a)
            (λ (apart : p ≢ b). rw (back_else p apart, many) (filled.back_filled p (rw many at lt)))
            (cases_eq p b);
        whole = rw many filled.whole;
        keys_reserved = filled.keys_reserved;
        lists_reserved = filled.lists_reserved;
        keys_fit = filled.keys_fit;
        lists_fit = filled.lists_fit;
      }
