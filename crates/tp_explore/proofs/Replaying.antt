-- Moves that are played one by one on a machine.
use Rattle.std.proofs.Common.{◌≡◌, ℕ, ◌+◌, ◌%◌, ◌<◌, ◌≤◌, true, false, cond, nat_lt, List, [], ◌∷◌, ◌++◌, append_assoc, append-nil, take_all, drop, get_or, length, length-append, map, slice_set, take, Option, Some, refl, sym, ap, ap₂, ◌∙◌, subst, arith}
use Rattle.std.proofs.lemmas.List.{drop_more, take_more}
use Rattle.std.proofs.Math.ListN.{drop_of_length-le}
use Rattle.tp_base.specs.Ranges.{AreLimitsInRange}
use Rattle.tp_base.specs.declared.answers.Answer.{Answer}
use Rattle.tp_base.specs.declared.answers.Answer.TheVariants as answer
use Rattle.tp_base.specs.declared.answers.Entry.{Entry}
use Rattle.tp_base.specs.declared.answers.Outcome.TheVariants.{Done}
use Rattle.tp_base.specs.declared.calls.Call.{Call}
use Rattle.tp_base.specs.declared.ids.Who.{Who}
use Rattle.tp_base.specs.declared.limits.Limits.{Limits}
use Rattle.tp_base.specs.declared.plans.Plan.{Plan}
use Rattle.tp_base.specs.declared.plans.Plan.TheVariants.{Does, Looked, Refused}
use Rattle.tp_model.specs.Changes.{changed}
use Rattle.tp_model.specs.History.{after_from, led_to, IsLegal, IsLegalFrom}
use Rattle.tp_model.specs.Stages.{IsActor}
use Rattle.tp_model.specs.Step as step
use Rattle.tp_model.specs.Step.{cost, outcome_of, stepped, within}
use Rattle.tp_model.specs.Table as table
use Rattle.tp_model.specs.Table.{plan}
use Rattle.tp_model.specs.World.{World}
use Rattle.tp_model.proofs.Entries.{next_number_in}
use Rattle.recorded.specs.Recordings.{outcome_behind, recorded, room_of, world_behind, Recording}
use Rattle.part_places.specs.declared.place.Place.{Place}
use Rattle.part_places.specs.Places.{opening as opening_place, place_after, Given}
use Rattle.tp_explore.specs.Movers.{mover_acts}
use Rattle.tp_explore.specs.Boards.{actors, call_by, mover, place_at, place_in_row, width_of}
use Rattle.tp_explore.specs.Explored.{IsMadeBy, IsMadeFrom, IsMove}
use Rattle.tp_explore.specs.Legal.{IsRoomy, IsRoomyFrom}
use Rattle.tp_explore.specs.Replayed.{GoesOnBy, HasGoneOn, IsReplayed, IsReplaying, IsSameMachine}
use Rattle.tp_explore.specs.Rows.{AreInRow}
use Rattle.tp_explore.specs.Scenes.{ample, first_scene, freely, scene_after, scene_behind, scene_from, IsOrder, IsOrderFrom, IsTurn, Scene}
use Rattle.tp_explore.proofs.Alike.{order_append}
use Rattle.tp_explore.proofs.Ample.{plan_same}
use Rattle.tp_explore.proofs.BoardsRow.{first_in_row, in_row_behind, mover_within, turn_told, turns_same}

-- ---- what a call comes to where there is room, it freely comes to

freely_within : (w : World) (left : ℕ) (p : Plan) (told : Answer) → outcome_of (within w left (stepped w p)) ≡ Done told → outcome_of (stepped w p) ≡ Done told
freely_within w left (Looked look) told is = is
freely_within w left (Refused refusal) told is =
    elim (nat_lt left 1) as (λ b. outcome_of (cond b (step.Full left 1) (step.Refused refusal)) ≡ Done told → Done (answer.Refused refusal) ≡ Done told) [
      | true ↦ λ e. absurd cc
      | false ↦ λ e. e
    ] is
freely_within w left (Does known change) told is =
    elim (nat_lt left (cost w (changed w change))) as (λ b. outcome_of (cond b (step.Full left (cost w (changed w change))) (step.Accepted known (changed w change))) ≡ Done told → Done known ≡ Done told) [
      | true ↦ λ e. absurd cc
      | false ↦ λ e. e
    ] is

pub freely_told : (w : World) (left : ℕ) (who : Who) (made : Call) (told : Answer) → ample ≤ left → outcome_of (table.step w left who made) ≡ Done told → freely w who made ≡ Done told
freely_told w left who made told enough is =
    freely_within w left (plan w ample who made) told (ap (λ p. outcome_of (within w left (stepped w p))) (sym (plan_same w left enough (next_number_in w) who made)) ∙ is)

-- ---- one entry more

module _ (g : Given) (limits : Limits) where
  world_from : (s : Scene) (history : List Entry) → (scene_from g s history).world ≡ after_from s.world history
  world_from s [] = refl
  world_from s (e ∷ rest) = world_from (scene_after g s e) rest

  scene_more : (s : Scene) (history : List Entry) (e : Entry) → scene_from g s (history ++ e ∷ []) ≡ scene_after g (scene_from g s history) e
  scene_more s [] e = refl
  scene_more s (d ∷ rest) e = scene_more (scene_after g s d) rest e

  made_more : (s : Scene) (moves : List ℕ) (history : List Entry) (by : ℕ) (e : Entry) → IsMadeFrom g limits s moves history → IsMove g limits (scene_from g s history) by e → IsMadeFrom g limits s (moves ++ by ∷ []) (history ++ e ∷ [])
  made_more s [] [] by e made move = (move, tt)
  made_more s [] (d ∷ rest) by e made move = absurd made
  made_more s (m ∷ moves) [] by e made move = absurd made
  made_more s (m ∷ moves) (d ∷ rest) by e made move = (made.0, made_more (scene_after g s d) moves rest by e made.1 move)

module _ (g : Given) (r : Recording) where
  abbrev here : Scene
  here = scene_behind g r.limits r.history

  here_world : here.world ≡ world_behind r
  here_world = world_from g r.limits (first_scene r.limits) r.history

  abbrev more_by : Entry → Recording
  more_by e = record r { history = r.history ++ e ∷ [] }

  here_more : (e : Entry) → scene_behind g r.limits (r.history ++ e ∷ []) ≡ scene_after g here e
  here_more e = scene_more g r.limits (first_scene r.limits) r.history e

  world_more : (e : Entry) → led_to (world_behind r) e ≡ world_behind (more_by e)
  world_more e = ap (λ w. led_to w e) (sym here_world) ∙ ap (λ (s : Scene). s.world) (sym (here_more e)) ∙ world_from g r.limits (first_scene r.limits) (r.history ++ e ∷ [])

  one_more : (e : Entry) → length (r.history ++ e ∷ []) ≡ length r.history + 1
  one_more e = omega (arith, length-append r.history (e ∷ []))

  -- ---- a move that is played

  module _ (moves : List ℕ) (places : List Place) (playing : IsReplaying g moves r places) (by : ℕ) where
    -- the call of the move in the scene is that of the places
    pub call_here : (w : World) → by < width_of r.limits → call_by g r.limits (record { world = w; places = place_at r.limits places }) by ≡ call_by g r.limits here by
    call_here w within = turns_same g r.limits here places playing.places_are w (mover r.limits by) (by % 2) (mover_acts r.limits by within)

    pub plays : (call : Call) (told : Answer) (w : World) → by < width_of r.limits → ample ≤ room_of r → call_by g r.limits (record { world = w; places = place_at r.limits places }) by ≡ Some call → outcome_behind r (mover r.limits by) call ≡ Done told
        → IsReplaying g (moves ++ by ∷ []) (more_by (record { who = mover r.limits by; call = call; answer = told }))
        (slice_set places (place_in_row r.limits (mover r.limits by)) (place_after g (mover r.limits by) (place_at r.limits places (mover r.limits by)) call told))
    plays call told w within enough is answers =
        record {
          replayed = record {
            order = order_append g r.limits (first_scene r.limits) r.history (e ∷ []) playing.replayed.order (turn, tt);
            made = made_more g r.limits (first_scene r.limits) moves r.history by e playing.replayed.made (record { actor = refl; made = due });
          };
          places_are = subst (λ s. AreInRow r.limits s after) (sym (here_more e)) (in_row_behind g r.limits here places playing.places_are e turn.actor turn.turn);
        }
      where
        e : Entry
        e = record { who = mover r.limits by; call = call; answer = told }

        after : List Place
        after = slice_set places (place_in_row r.limits (mover r.limits by)) (place_after g (mover r.limits by) (place_at r.limits places (mover r.limits by)) call told)

        due : call_by g r.limits here by ≡ Some call
        due = sym (call_here w within) ∙ is

        turn : IsTurn g r.limits here e
        turn = turn_told g r.limits here by call told within due
            (ap (λ v. freely v (mover r.limits by) call) here_world ∙ freely_told (world_behind r) (room_of r) (mover r.limits by) call told enough answers)

  -- ---- a move that goes on

  -- the first of the entries that moves make
  pub record IsNext (by : ℕ) (more : List ℕ) (rest : List Entry) : Type 0 where
    pub entry : Entry
    pub within : by < width_of r.limits
    pub enough : ample ≤ room_of r
    pub actor : entry.who ≡ mover r.limits by
    pub call : call_by g r.limits here by ≡ Some entry.call
    pub answers : outcome_behind r entry.who entry.call ≡ Done entry.answer
    pub gone : HasGoneOn g r (more_by entry) more rest

  pub next_of : (by : ℕ) (more : List ℕ) (rest : List Entry) → GoesOnBy g r (by ∷ more) rest → IsNext by more rest
  next_of by more [] on = absurd on.made
  next_of by more (e ∷ rest) on = record {
    entry = e;
    within = mover_within r.limits by (subst (IsActor r.limits) on.made.0.actor on.order.0.actor);
    enough = on.roomy.0;
    actor = on.made.0.actor;
    call = on.made.0.made;
    answers = on.legal.0;
    gone = record {
      more = rest;
      parts = sym (append_assoc r.history (e ∷ []) rest);
      goes_on = record {
        order = subst (λ s. IsOrderFrom g r.limits s rest) (sym (here_more e)) on.order.1;
        made = subst (λ s. IsMadeFrom g r.limits s more rest) (sym (here_more e)) on.made.1;
        roomy = subst (λ n. IsRoomyFrom (world_behind (more_by e)) r.capacity n rest) (sym (one_more e)) (subst (λ w. IsRoomyFrom w r.capacity (length r.history + 1) rest) (world_more e) on.roomy.1);
        legal = subst (λ n. IsLegalFrom (world_behind (more_by e)) r.capacity n rest) (sym (one_more e)) (subst (λ w. IsLegalFrom w r.capacity (length r.history + 1) rest) (world_more e) on.legal.1);
      };
    };
  }

-- ---- as the code has it: the limits are the machine's, and the call is found in the row

module _ (g : Given) (r : Recording) (limits : Limits) (same : limits ≡ r.limits) (moves : List ℕ) (places : List Place) (playing : IsReplaying g moves r places) (by : ℕ) where
  -- what is found is the call of the move
  abbrev pub IsFound : Option Call → Type 0
  IsFound found = (w : World) → found ≡ call_by g limits (record { world = w; places = place_at limits places }) by

  found_in : (found : Option Call) → IsFound found → (w : World) → found ≡ call_by g r.limits (record { world = w; places = place_at r.limits places }) by
  found_in found value w = value w ∙ ap (λ l. call_by g l (record { world = w; places = place_at l places }) by) same

  -- a turn that was made
  pub record IsStepped (who : Who) (call : Call) (told : Answer) (new : Recording) : Type 0 where
    pub mover_is : who ≡ mover limits by
    pub found : IsFound (Some call)
    pub answers : outcome_behind r who call ≡ Done told
    pub goes : new ≡ recorded r who call (Done told)

  who_is : (who : Who) → who ≡ mover limits by → who ≡ mover r.limits by
  who_is who is = is ∙ ap (λ l. mover l by) same

  pub played : (who : Who) (call : Call) (told : Answer) (new : Recording) (after : List Place) → IsStepped who call told new → by < width_of limits → ample ≤ room_of r → after ≡ slice_set places (place_in_row limits who) (place_after g who (place_at limits places who) call told)
      → IsReplaying g (moves ++ by ∷ []) new after
  played who call told new after stepped_on within enough places_are =
      subst (λ (x : Recording × List Place). IsReplaying g (moves ++ by ∷ []) x.0 x.1) (ap₂ (λ (a : Recording) (b : List Place). (a, b)) (sym stepped_on.goes) (sym places_are))
      (subst (λ l. Of l who) (sym same) (subst (Of r.limits) (sym mine) base))
    where
      Of : Limits → Who → Type 0
      Of l v = IsReplaying g (moves ++ by ∷ []) (recorded r v call (Done told)) (slice_set places (place_in_row l v) (place_after g v (place_at l places v) call told))

      mine : who ≡ mover r.limits by
      mine = who_is who stepped_on.mover_is

      base : Of r.limits (mover r.limits by)
      base =
          plays g r moves places playing by call told (world_behind r) (subst (λ l. by < width_of l) same within) enough (sym (found_in (Some call) stepped_on.found (world_behind r)))
          (ap (λ v. outcome_behind r v call) (sym mine) ∙ stepped_on.answers)

  module _ (more : List ℕ) (rest : List Entry) (on : GoesOnBy g r (by ∷ more) rest) where
    abbrev pub next : IsNext g r by more rest
    next = next_of g r by more rest on

    pub fits : (by < width_of limits) × (ample ≤ room_of r)
    fits = (subst (λ l. by < width_of l) (sym same) next.within, next.enough)

    pub found_next : (found : Option Call) → IsFound found → found ≡ Some next.entry.call
    found_next found value = found_in found value (world_behind r) ∙ call_here g r moves places playing by (world_behind r) next.within ∙ next.call

    -- some answer is to come
    pub answers_next : (who : Who) (call : Call) → who ≡ mover limits by → IsFound (Some call) → outcome_behind r who call ≡ Done next.entry.answer
    answers_next who call is value =
        let calls : Some call ≡ Some next.entry.call = found_next (Some call) value in
        let one : call ≡ next.entry.call = cc in
        ap₂ (λ v x. outcome_behind r v x) (who_is who is ∙ sym next.actor) one ∙ next.answers

    pub gone : (who : Who) (call : Call) (told : Answer) (new : Recording) → IsStepped who call told new → HasGoneOn g r new more rest
    gone who call told new stepped_on =
        let calls : Some call ≡ Some next.entry.call = found_next (Some call) stepped_on.found in
        let one : call ≡ next.entry.call = cc in
        let answers : Done told ≡ Done next.entry.answer = sym stepped_on.answers ∙ answers_next who call stepped_on.mover_is stepped_on.found in
        let told_is : told ≡ next.entry.answer = cc in
        let entry_is : record { who = who; call = call; answer = told } ≡ next.entry
        = ap₂ (λ v x. record { who = v; call = x; answer = told }) (who_is who stepped_on.mover_is ∙ sym next.actor) one ∙ ap (λ a. record { who = next.entry.who; call = next.entry.call; answer = a }) told_is in
        subst (λ x. HasGoneOn g r x more rest) (sym (stepped_on.goes ∙ ap (λ (e : Entry). record r { history = r.history ++ e ∷ [] }) entry_is)) next.gone

-- ---- moves one after another

-- so many of the moves were played
module _ (g : Given) (old : Recording) (moves : List ℕ) where
  pub record IsAlong (i : ℕ) (r : Recording) (limits : Limits) (places : List Place) : Type 0 where
    pub machine : IsSameMachine old r
    pub limits_are : limits ≡ r.limits
    pub in_range : AreLimitsInRange limits
    pub playing : IsReplaying g (take i moves) r places
    pub goes_on : (order : List Entry) → IsOrder g old.limits order → IsMadeBy g old.limits moves order → IsRoomy old.limits old.capacity order → IsLegal old.limits old.capacity order → HasGoneOn g old r (drop i moves) order

  pub begins : (limits : Limits) (places : List Place) → old.history ≡ [] → limits ≡ old.limits → AreLimitsInRange limits → places ≡ map opening_place (actors limits) → IsAlong 0 old limits places
  begins limits places none same in_range places_are = record {
    machine = record { limits = refl; capacity = refl };
    limits_are = same;
    in_range = in_range;
    playing = record {
      replayed = record { order = subst (λ h. IsOrder g old.limits h) (sym none) tt; made = subst (λ h. IsMadeBy g old.limits [] h) (sym none) tt };
      places_are = subst (λ h. AreInRow old.limits (scene_behind g old.limits h) places) (sym none) (subst (AreInRow old.limits (first_scene old.limits)) (sym (places_are ∙ ap (λ l. map opening_place (actors l)) same)) (first_in_row old.limits));
    };
    goes_on = λ order is made roomy legal. record {
      more = order;
      parts = refl;
      goes_on = record {
        order = subst (λ h. IsOrderFrom g old.limits (scene_behind g old.limits h) order) (sym none) is;
        made = subst (λ h. IsMadeFrom g old.limits (scene_behind g old.limits h) moves order) (sym none) made;
        roomy = subst (λ h. IsRoomyFrom (world_behind (record old { history = h })) old.capacity (length h) order) (sym none) roomy;
        legal = subst (λ h. IsLegalFrom (world_behind (record old { history = h })) old.capacity (length h) order) (sym none) legal;
      };
    };
  }

  module _ (i : ℕ) (r : Recording) (limits : Limits) (places : List Place) (along : IsAlong i r limits places) (less : i < length moves) where
    -- what goes on does so with the next move
    on_next : (order : List Entry) (on : HasGoneOn g old r (drop i moves) order) → GoesOnBy g r (get_or moves i 0 ∷ drop (i + 1) moves) on.more
    on_next order on = subst (λ ms. GoesOnBy g r ms on.more) (drop_more moves i 0 less) on.goes_on

    pub steps : (new : Recording) (after : List Place) → IsSameMachine r new → ((ms : List ℕ) → IsReplaying g ms r places → IsReplaying g (ms ++ get_or moves i 0 ∷ []) new after)
        → ((ms more : List ℕ) (rest : List Entry) → IsReplaying g ms r places → GoesOnBy g r (get_or moves i 0 ∷ more) rest → HasGoneOn g r new more rest) → IsAlong (i + 1) new limits after
    steps new after machine plays_on on_by = record {
      machine = record { limits = machine.limits ∙ along.machine.limits; capacity = machine.capacity ∙ along.machine.capacity };
      limits_are = along.limits_are ∙ sym machine.limits;
      in_range = along.in_range;
      playing = subst (λ ms. IsReplaying g ms new after) (sym (take_more moves i 0 less)) (plays_on (take i moves) along.playing);
      goes_on = λ order is made roomy legal.
          let on : HasGoneOn g old r (drop i moves) order = along.goes_on order is made roomy legal in
          let next_on : HasGoneOn g r new (drop (i + 1) moves) on.more = on_by (take i moves) (drop (i + 1) moves) on.more along.playing (on_next order on) in
          record { more = next_on.more; parts = on.parts ∙ next_on.parts; goes_on = next_on.goes_on };
    }

    -- where the move isn't played, none of them is an order for which there is room
    pub stops : ((ms more : List ℕ) (rest : List Entry) → IsReplaying g ms r places → GoesOnBy g r (get_or moves i 0 ∷ more) rest → ⊥)
        → (order : List Entry) → IsOrder g old.limits order → IsMadeBy g old.limits moves order → IsRoomy old.limits old.capacity order → IsLegal old.limits old.capacity order → ⊥
    stops never order is made roomy legal =
        let on : HasGoneOn g old r (drop i moves) order = along.goes_on order is made roomy legal in
        never (take i moves) (drop (i + 1) moves) on.more along.playing (on_next order on)

  module _ (i : ℕ) (r : Recording) (limits : Limits) (places : List Place) (along : IsAlong i r limits places) (all : length moves ≤ i) where
    pub ends : IsReplayed g moves r
    ends = subst (λ ms. IsReplayed g ms r) (take_all i moves all) along.playing.replayed

    pub is_whole : old.history ≡ [] → (order : List Entry) → IsOrder g old.limits order → IsMadeBy g old.limits moves order → IsRoomy old.limits old.capacity order → IsLegal old.limits old.capacity order → r.history ≡ order
    is_whole none order is made roomy legal =
        let on : HasGoneOn g old r (drop i moves) order = along.goes_on order is made roomy legal in
        let left : GoesOnBy g r [] on.more = subst (λ ms. GoesOnBy g r ms on.more) (drop_of_length-le moves all) on.goes_on in
        sym (sym (ap (λ h. h ++ order) none) ∙ on.parts ∙ ap (λ rest. r.history ++ rest) (nothing_left on.more left.made) ∙ append-nil r.history)
      where
        nothing_left : (rest : List Entry) → IsMadeFrom g r.limits (scene_behind g r.limits r.history) [] rest → rest ≡ []
        nothing_left [] made_of = refl
        nothing_left (e ∷ rest) made_of = absurd made_of

-- ---- moves make one order alone

one_entry : (g : Given) (limits : Limits) (s : Scene) (by : ℕ) (d e : Entry) → IsTurn g limits s d → IsMove g limits s by d → IsTurn g limits s e → IsMove g limits s by e → d ≡ e
one_entry g limits s by d e first first_move second second_move =
    let calls : Some d.call ≡ Some e.call = sym first_move.made ∙ second_move.made in
    let call_is : d.call ≡ e.call = cc in
    let who_is : d.who ≡ e.who = first_move.actor ∙ sym second_move.actor in
    let answers : Done d.answer ≡ Done e.answer = sym first.answers ∙ ap₂ (λ who made. freely s.world who made) who_is call_is ∙ second.answers in
    let answer_is : d.answer ≡ e.answer = cc in
    ap₂ (λ who made. record { who = who; call = made; answer = d.answer }) who_is call_is ∙ ap (λ told. record { who = e.who; call = e.call; answer = told }) answer_is

pub one_order : (g : Given) (limits : Limits) (s : Scene) (moves : List ℕ) (a b : List Entry) → IsOrderFrom g limits s a → IsMadeFrom g limits s moves a → IsOrderFrom g limits s b → IsMadeFrom g limits s moves b → a ≡ b
one_order g limits s [] [] [] order made other other_made = refl
one_order g limits s [] [] (e ∷ b) order made other other_made = absurd other_made
one_order g limits s [] (d ∷ a) b order made other other_made = absurd made
one_order g limits s (by ∷ moves) [] b order made other other_made = absurd made
one_order g limits s (by ∷ moves) (d ∷ a) [] order made other other_made = absurd other_made
one_order g limits s (by ∷ moves) (d ∷ a) (e ∷ b) order made other other_made =
    let same : d ≡ e = one_entry g limits s by d e order.0 made.0 other.0 other_made.0 in
    let rest : a ≡ b
    = one_order g limits (scene_after g s d) moves a b order.1 made.1 (subst (λ x. IsOrderFrom g limits (scene_after g s x) b) (sym same) other.1) (subst (λ x. IsMadeFrom g limits (scene_after g s x) moves b) (sym same) other_made.1) in
    ap₂ (λ x xs. x ∷ xs) same rest

-- so what was played of them is that order
pub is_only : (g : Given) (old new : Recording) (moves : List ℕ) (order : List Entry) → IsSameMachine old new → IsReplayed g moves new → IsOrder g old.limits order → IsMadeBy g old.limits moves order → new.history ≡ order
is_only g old new moves order machine replayed is made =
    one_order g old.limits (first_scene old.limits) moves new.history order
    (subst (λ l. IsOrder g l new.history) machine.limits replayed.order) (subst (λ l. IsMadeBy g l moves new.history) machine.limits replayed.made) is made
