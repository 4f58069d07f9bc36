-- Forgetting names row by row gives the closed world, which is one like those that calls lead to.
use Rattle.std.proofs.Common.{◌≡◌, ℕ, zero, suc, ◌+◌, ◌<◌, ◌≤◌, Bool, true, false, not, ◌||◌, nat_lt, cond, List, [], ◌∷◌, ◌++◌, length, map, take, drop, get_or, append_assoc, Some, None, refl, sym, ap, ap₂, ◌∙◌, ne_eqb, eq-eqb, ltb-true, ltb-false, arith}
use Rattle.std.specs.List.{list_any, position, position_or_len}
use Rattle.std.proofs.Math.ListN.{drop_of_length-le, set}
use Rattle.std.proofs.Math.Seq.{drop-cons}
use Rattle.std.proofs.lemmas.List.{drop-set-lt, length-map, take_more_set, take-append-drop}
use Rattle.tp_base.specs.declared.rows.CallbackRow.{CallbackRow}
use Rattle.tp_model.specs.Counts.{has_number}
use Rattle.tp_model.specs.Support.Remembered.{forget}
use Rattle.tp_model.specs.Support.Sound.{IsRising, IsSound}
use Rattle.tp_model.specs.World.{BegunWait, World}
use Rattle.renamed_worlds.specs.Closed.{closed, closed_next, further, named_by_place, place_of, settled, settled_wait}
use Rattle.renamed_worlds.specs.Renamed.{renamed_callback, renamed_wait, renamed_worker}
use Rattle.plain_worlds.specs.Closing.{closed_plain, closed_rows, closed_wait, numbered_from}
use Rattle.plain_worlds.specs.Plain.{Plain}
use Rattle.plain_worlds.specs.Reachable.{IsReachable}

-- ---- places

some_further : (number index place : ℕ) → place ≡ index + 1 → further place ≡ (1 + index) + 1
some_further number index zero e = absurd (omega (arith, e))
some_further number index (suc place) e = omega (arith, e)

-- the place of a number and the index of its callback are one further apart
place_by_index : (number : ℕ) (cs : List CallbackRow) → (position_or_len (has_number number) cs < length cs → place_of cs number ≡ position_or_len (has_number number) cs + 1) × (length cs ≤ position_or_len (has_number number) cs → place_of cs number ≡ 0)
place_by_index number [] = ((λ h. absurd (omega (arith, h))), λ _. refl)
place_by_index number (c ∷ cs) =
    elim (has_number number c) as (λ b.
    (cond (not b) (1 + position_or_len (has_number number) cs) 0 < length (c ∷ cs) → cond b 1 (further (place_of cs number)) ≡ cond (not b) (1 + position_or_len (has_number number) cs) 0 + 1)
    × (length (c ∷ cs) ≤ cond (not b) (1 + position_or_len (has_number number) cs) 0 → cond b 1 (further (place_of cs number)) ≡ 0)) [
      | true ↦ ((λ _. refl), λ h. absurd (omega (arith, h)))
      | false ↦ (
        (λ h. some_further number (position_or_len (has_number number) cs) (place_of cs number) ((place_by_index number cs).0 (omega (arith, h)))),
        λ h. ap further ((place_by_index number cs).1 (omega (arith, h))),
      )
    ]

pub placed_at : (number index : ℕ) (cs : List CallbackRow) → Some index ≡ position (has_number number) cs → index + 1 ≡ place_of cs number
placed_at number index cs = by_test (nat_lt (position_or_len (has_number number) cs) (length cs)) refl
  where
    by_test : (b : Bool) → nat_lt (position_or_len (has_number number) cs) (length cs) ≡ b → Some index ≡ cond b (Some (position_or_len (has_number number) cs)) None → index + 1 ≡ place_of cs number
    by_test true less e =
        let same : index ≡ position_or_len (has_number number) cs = cc in
        ap (λ k. k + 1) same ∙ sym ((place_by_index number cs).0 (ltb-true (position_or_len (has_number number) cs) (length cs) less))
    by_test false most e = absurd cc

pub nobody_there : (number : ℕ) (cs : List CallbackRow) → None ≡ position (has_number number) cs → 0 ≡ place_of cs number
nobody_there number cs = by_test (nat_lt (position_or_len (has_number number) cs) (length cs)) refl
  where
    by_test : (b : Bool) → nat_lt (position_or_len (has_number number) cs) (length cs) ≡ b → None ≡ cond b (Some (position_or_len (has_number number) cs)) None → 0 ≡ place_of cs number
    by_test true less e = absurd cc
    by_test false most e = sym ((place_by_index number cs).1 (ltb-false (position_or_len (has_number number) cs) (length cs) most))

-- ---- numbering

pub all_numbered : (xs whole : List CallbackRow) (i : ℕ) → length xs ≤ i → take i xs ++ numbered_from (i + 1) (drop i xs) ≡ whole → xs ≡ whole
all_numbered xs whole i h e =
    let d : drop i xs ≡ [] = drop_of_length-le xs h in
    sym (take-append-drop i xs) ∙ ap (λ v. take i xs ++ v) (d ∙ sym (ap (numbered_from (i + 1)) d)) ∙ e

-- one more row is numbered
pub one_numbered : (cs whole : List CallbackRow) (i : ℕ) (old default : CallbackRow) → i < length cs → old ≡ get_or cs i default → take i cs ++ numbered_from (i + 1) (drop i cs) ≡ whole
    → take (i + 1) (set cs i (record old { number = i + 1 })) ++ numbered_from (i + 1 + 1) (drop (i + 1) (set cs i (record old { number = i + 1 }))) ≡ whole
one_numbered cs whole i old default less is e =
    let new : CallbackRow = record old { number = i + 1 } in
    let next : suc i ≡ i + 1 = omega arith in
    let rest : drop i cs ≡ old ∷ drop (i + 1) cs = drop-cons cs i default less ∙ ap₂ (λ r n. r ∷ drop n cs) (sym is) next in
    ap₂ (λ front back. front ++ numbered_from (i + 1 + 1) back) (take_more_set cs i new less) (drop-set-lt (i + 1) cs i new (omega arith))
    ∙ append_assoc (take i cs) (new ∷ []) (numbered_from (i + 1 + 1) (drop (i + 1) cs))
    ∙ ap (λ v. take i cs ++ v) (sym (ap (numbered_from (i + 1)) rest))
    ∙ e

-- a number that a callback of the row has gets a place
place_there : (cs : List CallbackRow) (number : ℕ) → list_any (has_number number) cs ≡ true → 1 ≤ place_of cs number
place_there [] number there = absurd cc
place_there (c ∷ cs) number there =
    elim (has_number number c) as (λ b. (b || list_any (has_number number) cs) ≡ true → 1 ≤ cond b 1 (further (place_of cs number))) [
      | true ↦ λ _. omega arith
      | false ↦ λ later. one_further (place_of cs number) (place_there cs number later)
    ] there
  where
    one_further : (place : ℕ) → 1 ≤ place → 1 ≤ further place
    one_further zero least = absurd (omega (arith, least))
    one_further (suc place) least = omega arith

further_some : (place : ℕ) → 1 ≤ place → further place ≡ place + 1
further_some zero least = absurd (omega (arith, least))
further_some (suc place) least = omega arith

-- the rows from some row on, whose numbers rise, are numbered on where each gets the place that it has among them, so many
-- places further
numbered_on : (name : ℕ → ℕ) (low next_number front : ℕ) (cs : List CallbackRow) → IsRising low next_number cs
    → ((number : ℕ) → low ≤ number → list_any (has_number number) cs ≡ true → name number ≡ place_of cs number + front)
    → numbered_from (front + 1) cs ≡ map (renamed_callback name) cs
numbered_on name low next_number front [] rising places = refl
numbered_on name low next_number front (c ∷ cs) rising places =
    ap₂ (λ (n : ℕ) xs. record c { number = n } ∷ xs) (sym here) (numbered_on name (c.number + 1) next_number (front + 1) cs rising.1 later)
  where
    own : has_number c.number c ≡ true
    own = eq-eqb c.number c.number refl

    here : name c.number ≡ front + 1
    here =
        places c.number rising.0 (ap (λ b. b || list_any (has_number c.number) cs) own)
        ∙ ap (λ b. cond b 1 (further (place_of cs c.number)) + front) own
        ∙ omega arith

    later : (number : ℕ) → c.number + 1 ≤ number → list_any (has_number number) cs ≡ true → name number ≡ place_of cs number + (front + 1)
    later number above there =
        let other : has_number number c ≡ false = ne_eqb c.number number (λ e. absurd (omega (arith, e, above))) in
        places number (omega (arith, above, rising.0)) (ap (λ b. b || list_any (has_number number) cs) other ∙ there)
        ∙ ap (λ b. cond b 1 (further (place_of cs number)) + front) other
        ∙ ap (λ p. p + front) (further_some (place_of cs number) (place_there cs number there))
        ∙ omega arith

numbered_by_place : (next_number : ℕ) (cs : List CallbackRow) → IsRising 1 next_number cs → numbered_from 1 cs ≡ map (renamed_callback (place_of cs)) cs
numbered_by_place next_number cs rising = numbered_on (place_of cs) 1 next_number 0 cs rising (λ number _ _. omega arith)

-- ---- worlds

pub rows_closed : (made : ℕ) (w : World) → IsReachable made w → closed_rows w ≡ closed w
rows_closed made w r =
    ap₂ (λ (cs : List CallbackRow) (bs : List BegunWait). record w { callbacks = cs; workers = map (renamed_worker (place_of w.callbacks)) w.workers; waits = bs })
    (numbered_by_place (made + 1) w.callbacks r.sound.numbers) (sym (each w.waits))
    ∙ ap (λ (v : World). named_by_place (settled v)) (sym r.living)
  where
    each : (bs : List BegunWait) → map (renamed_wait (place_of w.callbacks)) (map (settled_wait w) bs) ≡ map (closed_wait w.callbacks) bs
    each [] = refl
    each (b ∷ bs) = ap (λ xs. closed_wait w.callbacks b ∷ xs) (each bs)

pub closed_reachable : ((next_number : ℕ) (w : World) → IsSound next_number w → IsSound (closed_next w) (closed w)) → ((w : World) → forget (closed w) ≡ closed w)
    → (made : ℕ) (w : World) → IsReachable made w → IsReachable (length (forget w).callbacks) (closed w)
closed_reachable sound living made w r = record {
  sound = sound (made + 1) w r.sound;
  living = living w;
  within = record {
    limits = r.within.limits;
    clients = r.within.clients;
    workers = length-map w.workers (renamed_worker (place_of (forget w).callbacks)) ∙ r.within.workers;
    pools = r.within.pools;
    groups = r.within.groups;
    objects = r.within.objects;
    kernels = r.within.kernels;
    slots =
        let same : length (closed w).callbacks ≡ length w.callbacks
        = length-map (forget w).callbacks (renamed_callback (place_of (forget w).callbacks)) ∙ ap (λ (v : World). length v.callbacks) r.living in
        omega (arith, same, r.within.slots);
  };
  once = record { armed = r.once.armed; set = r.once.set };
}

-- as many rows as there are callbacks left
pub closed_count : (w : World) → length (closed w).callbacks ≡ length (forget w).callbacks
closed_count w = length-map (forget w).callbacks (renamed_callback (place_of (forget w).callbacks))

abbrev of_parts : World → ℕ → Plain
of_parts w n = record { world = w; made = n }

pub plain_closed : (p q : Plain) → q.world ≡ closed p.world → q.made ≡ length (forget p.world).callbacks → q ≡ closed_plain p
plain_closed p q world made = ap₂ of_parts world made
