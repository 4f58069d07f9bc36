-- The actors of a machine in a row, with their places, and the moves of each.
use Rattle.std.proofs.Common.{◌≡◌, ℕ, zero, suc, ◌+◌, ◌-◌, ◌/◌, ◌%◌, ◌<◌, ◌≤◌, Bool, true, false, cond, nat_le, ◌||◌, List, [], ◌∷◌, ◌++◌, append_assoc, length, map, slice_get, slice_set, get_or, Contains, Option, Some, None, refl, sym, ap, ◌∙◌, ap₂, subst, length-set, eq-eqb, eqb-true, arith, length-append}
use Rattle.std.specs.List.{range_with_len}
use Rattle.std.specs.Option.{unwrap_or}
use Rattle.std.proofs.lemmas.List.{get_or-map, get_or-append_right, get_or-set_same, get_or-set_other, get_or_append_left, length-map, map-append}
use Rattle.std.proofs.lemmas.List.FromFn.{get_or-map-range_with_len, length-range_with_len, map-range_with_len_more}
use Rattle.std.proofs.lemmas.Option.{get_or_from_slice_get, slice_get_read, slice_get_within, unwrap_or-slice_get}
use Rattle.tp_base.specs.Actors.{is_same_actor}
use Rattle.tp_base.specs.declared.answers.Answer.{Answer}
use Rattle.tp_base.specs.declared.answers.Entry.{Entry}
use Rattle.tp_base.specs.declared.answers.Outcome.TheVariants.{Done}
use Rattle.tp_base.specs.declared.calls.Call.{Call}
use Rattle.tp_base.specs.declared.ids.Who.{Who}
use Rattle.tp_base.specs.declared.ids.Who.TheVariants.{Client, Worker}
use Rattle.tp_base.specs.declared.limits.Limits.{Limits}
use Rattle.tp_base.specs.declared.plans.Stage.{Stage}
use Rattle.tp_base.specs.declared.plans.Stage.TheVariants.{Away, Busy, Idle, Over, Playing}
use Rattle.tp_model.specs.World.{World}
use Rattle.tp_model.specs.Stages.{first_stage, is_over_stage, IsActor}
use Rattle.part_places.specs.declared.place.Place.{Place}
use Rattle.part_places.specs.Places.{opening, place_after, Given}
use Rattle.tp_explore.specs.Movers.{mover_acts, within_row}
use Rattle.tp_explore.specs.Boards.{actors, call_by, mover, place_at, place_in_row, turn_in, width_of}
use Rattle.tp_explore.specs.Rows.{AreInRow}
use Rattle.tp_explore.specs.Scenes.{first_scene, freely, has_turn, scene_after, turns_at, turns_in, with_place, IsTurn, Scene}

same_actor : (a b : Who) → is_same_actor a b ≡ true → a ≡ b
same_actor (Client a) (Client b) is = ap (λ n. Client n) (eqb-true a b is)
same_actor (Worker a) (Worker b) is = ap (λ n. Worker n) (eqb-true a b is)
same_actor (Client a) (Worker b) is = absurd cc
same_actor (Worker a) (Client b) is = absurd cc

-- nobody has finished before the first call
fresh : (who : Who) → is_over_stage (first_stage who) ≡ false
fresh (Client number) = refl
fresh (Worker number) = refl

none_over : (whos : List Who) (i : ℕ) (other : Who) → is_over_stage ((unwrap_or (slice_get (map opening whos) i) (opening other)).stage) ≡ false
none_over [] i other = fresh other
none_over (who ∷ whos) zero other = fresh who
none_over (who ∷ whos) (suc i) other = none_over whos i other

module _ (limits : Limits) where
  -- two actors stand in two places
  row_same : (a b : Who) → IsActor limits a → IsActor limits b → place_in_row limits b ≡ place_in_row limits a → is_same_actor a b ≡ true
  row_same (Client m) (Client n) first second is = let same : m ≡ n = omega arith in eq-eqb m n same
  row_same (Worker m) (Worker n) first second is = let same : m ≡ n = omega arith in eq-eqb m n same
  row_same (Client m) (Worker n) first second is = absurd (omega arith)
  row_same (Worker m) (Client n) first second is = absurd (omega arith)

  -- ---- places in the row

  pub row_after : (places : List Place) (who other : Who) (p : Place) → length places ≡ limits.clients + limits.workers → IsActor limits who → IsActor limits other
      → place_at limits (slice_set places (place_in_row limits who) p) other ≡ with_place (place_at limits places) who p other
  row_after places who other p row actor of = known (is_same_actor who other) refl
    where
      known : (b : Bool) → is_same_actor who other ≡ b → place_at limits (slice_set places (place_in_row limits who) p) other ≡ cond b p (place_at limits places other)
      known true is =
          let same : who ≡ other = same_actor who other is in
          let within : place_in_row limits who < length places = omega (arith, within_row limits who actor, row) in
          unwrap_or-slice_get (slice_set places (place_in_row limits who) p) (place_in_row limits other) (opening other)
          ∙ ap (λ n. get_or (slice_set places (place_in_row limits who) p) n (opening other)) (ap (place_in_row limits) (sym same))
          ∙ get_or-set_same places (place_in_row limits who) p (opening other) within
      known false is =
          unwrap_or-slice_get (slice_set places (place_in_row limits who) p) (place_in_row limits other) (opening other)
          ∙ get_or-set_other places (place_in_row limits who) (place_in_row limits other) p (opening other) (λ e. let wrong : true ≡ false = sym (row_same who other actor of e) ∙ is in absurd cc)
          ∙ sym (unwrap_or-slice_get places (place_in_row limits other) (opening other))

  first_length : length (map opening (actors limits)) ≡ limits.clients + limits.workers
  first_length =
      length-map (actors limits) opening
      ∙ length-append (map Client (range_with_len 1 limits.clients)) (map Worker (range_with_len 1 limits.workers))
      ∙ ap₂ (λ m n. m + n) (length-map (range_with_len 1 limits.clients) Client ∙ length-range_with_len 1 limits.clients) (length-map (range_with_len 1 limits.workers) Worker ∙ length-range_with_len 1 limits.workers)

  first_row : (who : Who) → IsActor limits who → place_at limits (map opening (actors limits)) who ≡ opening who
  first_row who actor =
      unwrap_or-slice_get (map opening (actors limits)) (place_in_row limits who) (opening who)
      ∙ get_or-map opening (actors limits) (place_in_row limits who) who (opening who) (omega (arith, within_row limits who actor, sym (length-map (actors limits) opening), first_length))
      ∙ ap opening (at_row who actor)
    where
      at_row : (a : Who) → IsActor limits a → get_or (actors limits) (place_in_row limits a) a ≡ a
      at_row (Client n) is =
          let count : length (map Client (range_with_len 1 limits.clients)) ≡ limits.clients = length-map (range_with_len 1 limits.clients) Client ∙ length-range_with_len 1 limits.clients in
          get_or_append_left (map Client (range_with_len 1 limits.clients)) (map Worker (range_with_len 1 limits.workers)) (Client n) (n - 1) (omega (arith, count))
          ∙ get_or-map-range_with_len Client 1 limits.clients (n - 1) n (Client n) (omega arith) (omega arith)
      at_row (Worker n) is =
          let count : length (map Client (range_with_len 1 limits.clients)) ≡ limits.clients = length-map (range_with_len 1 limits.clients) Client ∙ length-range_with_len 1 limits.clients in
          get_or-append_right (map Client (range_with_len 1 limits.clients)) (map Worker (range_with_len 1 limits.workers)) limits.clients (limits.clients + (n - 1)) (Worker n) count (omega arith)
          ∙ get_or-map-range_with_len Worker 1 limits.workers (limits.clients + (n - 1) - limits.clients) n (Worker n) (omega arith) (omega arith)

-- an actor has two turns at most
pub few_turns : (at : Stage) (next : Option Call) → length (turns_in at next) ≤ 2
few_turns Playing next = omega arith
few_turns (Busy routine) next = omega arith
few_turns Away next = omega arith
few_turns Idle next = omega arith
few_turns Over next = omega arith

pub contained : {X : Type 0} (xs : List X) (x : X) (has : Contains xs x) → slice_get xs has.0 ≡ Some x
contained xs x has = slice_get_read xs (length xs) has.0 x refl has.1 (sym has.2)

-- ---- a row of places and a scene

pub clients_more : (n : ℕ) → map opening (map Client (range_with_len 1 (n + 1))) ≡ map opening (map Client (range_with_len 1 n)) ++ opening (Client (n + 1)) ∷ []
clients_more n = ap (map opening) (map-range_with_len_more Client 1 n (n + 1) (omega arith)) ∙ map-append opening (map Client (range_with_len 1 n)) (Client (n + 1) ∷ [])

pub workers_more : (clients : List Who) (n : ℕ) → map opening (clients ++ map Worker (range_with_len 1 (n + 1))) ≡ map opening (clients ++ map Worker (range_with_len 1 n)) ++ opening (Worker (n + 1)) ∷ []
workers_more clients n =
    ap (λ workers. map opening (clients ++ workers)) (map-range_with_len_more Worker 1 n (n + 1) (omega arith))
    ∙ ap (map opening) (sym (append_assoc clients (map Worker (range_with_len 1 n)) (Worker (n + 1) ∷ [])))
    ∙ map-append opening (clients ++ map Worker (range_with_len 1 n)) (Worker (n + 1) ∷ [])

pub first_in_row : (limits : Limits) → AreInRow limits (first_scene limits) (map opening (actors limits))
first_in_row limits = record { count = first_length limits; at = first_row limits; first = none_over (actors limits) (place_in_row limits (Client 1)) (Client 1); calm = λ none. refl }

module _ (g : Given) (limits : Limits) (s : Scene) (places : List Place) (stand : AreInRow limits s places) where
  -- the turns are those of the scene, whatever the world is
  pub turns_same : (w : World) (who : Who) (number : ℕ) → IsActor limits who → turn_in g (record { world = w; places = place_at limits places }) who number ≡ turn_in g s who number
  turns_same w who number actor = ap₂ (λ t p. cond t (slice_get (turns_at g who p) number) None) (ap (λ t. is_same_actor who (Client 1) || t) stand.first) (stand.at who actor)

  module _ (e : Entry) (actor : IsActor limits e.who) (turn : has_turn s e.who ≡ true) where
    -- where there is no client, there is no turn
    has_client : 1 ≤ limits.clients
    has_client = first (is_same_actor e.who (Client 1)) refl
      where
        count : (n : ℕ) → limits.clients ≡ n → is_over_stage ((s.places (Client 1)).stage) ≡ true → 1 ≤ limits.clients
        count zero none over = let wrong : true ≡ false = sym over ∙ stand.calm none in absurd cc
        count (suc n) some over = omega (arith, some)

        first : (t : Bool) → is_same_actor e.who (Client 1) ≡ t → 1 ≤ limits.clients
        first true same = let one : IsActor limits (Client 1) = subst (IsActor limits) (same_actor e.who (Client 1) same) actor in one.1
        first false other = count limits.clients refl (sym (ap (λ t. t || is_over_stage ((s.places (Client 1)).stage)) other) ∙ turn)

    -- and behind a turn
    abbrev pub row_behind : List Place
    row_behind = slice_set places (place_in_row limits e.who) (place_after g e.who (place_at limits places e.who) e.call e.answer)

    pub at_behind : (who : Who) → IsActor limits who → place_at limits row_behind who ≡ (scene_after g s e).places who
    at_behind who of =
        row_after limits places e.who who (place_after g e.who (place_at limits places e.who) e.call e.answer) stand.count actor of
        ∙ ap₂ (λ p q. cond (is_same_actor e.who who) p q) (ap (λ p. place_after g e.who p e.call e.answer) (stand.at e.who actor)) (stand.at who of)

    pub in_row_behind : AreInRow limits (scene_after g s e) row_behind
    in_row_behind = record {
      count = length-set places (place_in_row limits e.who) (place_after g e.who (place_at limits places e.who) e.call e.answer) ∙ stand.count;
      at = at_behind;
      first = ap (λ (p : Place). is_over_stage p.stage) (at_behind (Client 1) (omega arith, has_client));
      calm = λ none. absurd (omega (arith, has_client, none));
    }

-- ---- turns that are due

-- the entry of a move's call, with the answer that it freely has
pub turn_told : (g : Given) (limits : Limits) (s : Scene) (by : ℕ) (made : Call) (told : Answer) → by < width_of limits → call_by g limits s by ≡ Some made → freely s.world (mover limits by) made ≡ Done told
    → IsTurn g limits s (record { who = mover limits by; call = made; answer = told })
turn_told g limits s by made told within is answers = record { actor = mover_acts limits by within; turn = has.0; due = contains has.1; answers = answers }
  where
    due : List Call
    due = turns_at g (mover limits by) (s.places (mover limits by))

    parts : (t : Bool) → has_turn s (mover limits by) ≡ t → cond t (slice_get due (by % 2)) None ≡ Some made → (has_turn s (mover limits by) ≡ true) × (slice_get due (by % 2) ≡ Some made)
    parts true same at = (same, at)
    parts false same at = absurd cc

    has : (has_turn s (mover limits by) ≡ true) × (slice_get due (by % 2) ≡ Some made)
    has = parts (has_turn s (mover limits by)) refl is

    contains : slice_get due (by % 2) ≡ Some made → Contains due made
    contains at = (by % 2, slice_get_within due (by % 2) made at, get_or_from_slice_get due (by % 2) made made at)

-- only an actor's move is below the width
pub mover_within : (limits : Limits) (by : ℕ) → IsActor limits (mover limits by) → by < width_of limits
mover_within limits by actor = known (nat_le (by / 2 + 1) limits.clients) refl actor
  where
    known : (t : Bool) → nat_le (by / 2 + 1) limits.clients ≡ t → IsActor limits (cond t (Client (by / 2 + 1)) (Worker (by / 2 + 1 - limits.clients))) → by < width_of limits
    known true is acts = omega (arith, acts)
    known false is acts = omega (arith, acts)
