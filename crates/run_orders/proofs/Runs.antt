-- A run whose room is never short, and of which no part was cut, is an order.
use Rattle.std.proofs.Common.{◌≡◌, Option, Some, None, ℕ, ◌+◌, ◌≤◌, Bool, true, false, cond, ◌&&◌, ◌||◌, nat_lt, List, [], ◌∷◌, ◌++◌, All, Contains, is_some, inl, inr, refl, sym, ap, ap₂, ◌∙◌, subst, arith, append-nil}
use Rattle.std.specs.Option.{unwrap_or}
use Rattle.std.proofs.lemmas.List.Elements.{All-head, All-tail}
use Rattle.tp_base.specs.Actors.{is_same_actor}
use Rattle.tp_base.specs.declared.answers.Answer.{Answer}
use Rattle.tp_base.specs.declared.answers.Answer.TheVariants as answer
use Rattle.tp_base.specs.declared.answers.Entry.{Entry}
use Rattle.tp_base.specs.declared.answers.Outcome.TheVariants.{Done}
use Rattle.tp_base.specs.declared.calls.Call.{Call}
use Rattle.tp_base.specs.declared.answers.Refusal.{Refusal}
use Rattle.tp_base.specs.declared.calls.Call.TheVariants.{Attach, Finish, Return}
use Rattle.tp_base.specs.declared.ids.Who.{Who}
use Rattle.tp_base.specs.declared.ids.Who.TheVariants.{Client, Worker}
use Rattle.tp_base.specs.declared.limits.Limits.{Limits}
use Rattle.tp_base.specs.declared.plans.Stage.{Stage}
use Rattle.tp_base.specs.declared.plans.Stage.TheVariants.{Away, Busy, Idle, Over, Playing}
use Rattle.tp_model.specs.History.{room, IsLegal, IsLegalFrom}
use Rattle.tp_model.specs.Stages.{is_in_part, is_over_stage, stage_by, stage_from, stage_step, Finishes, IsActor, StageStep}
use Rattle.tp_model.specs.Step.{outcome_of, stepped}
use Rattle.tp_model.specs.World.{World, opening as opening_world}
use Rattle.tp_model.specs.Calls.Workers.{attach_plan, attach_refusals, attach_to, pool_to_join}
use Rattle.tp_model.specs.Counts.{attached, available, is_below_minimum, maximum}
use Rattle.tp_model.specs.Laws.Entries.{attached_by}
use Rattle.tp_model.specs.Refusing.{first_refusal, unless_refused}
use Rattle.tp_model.proofs.Refusals.{is_own_actor, same_actor_is}
use Rattle.turn_lock.specs.Histories.{own}
use Rattle.part_places.specs.declared.place.Place.{Place}
use Rattle.part_places.specs.Places.{is_last, next_call, opening, place_after, place_from, Given}
use Rattle.worker_gate.specs.Roles.{is_of_client}
use Rattle.worker_gate.specs.Runs.{AreKnown, ComesFirst, IsCutShort, Runs}
use Rattle.worker_gate.specs.Walks.{Closes, FollowsAt, Leads}
use Rattle.worker_gate.proofs.Walking.{own_append, stage_is}
use Rattle.tp_explore.specs.Legal.{IsRoomy, IsRoomyFrom}
use Rattle.tp_explore.specs.Scenes.{first_scene, freely, has_turn, scene_after, scene_from, turns_at, turns_in, IsOrder, IsOrderFrom, Scene}
use Rattle.tp_explore.proofs.Replaying.{freely_told}

true_false : (b : Bool) → b ≡ true → b ≡ false → ⊥
true_false true is not = let none : ⊥ = cc in none
true_false false is not = let none : ⊥ = cc in none

or_left : (a b : Bool) → (a || b) ≡ false → a ≡ false
or_left false b is = refl
or_left true b is = is

or_right : (a b : Bool) → (a || b) ≡ false → b ≡ false
or_right false b is = is
or_right true b is = let none : ⊥ = cc in absurd none

-- ---- client 1 comes first

of_client_by : (at : Stage) (by : StageStep) → is_of_client at ≡ true → is_of_client (stage_by at by) ≡ true
of_client_by Playing Finishes is = refl
of_client_by Playing _ is = refl
of_client_by Over _ is = refl
of_client_by Away by is = let none : ⊥ = cc in absurd none
of_client_by Idle by is = let none : ⊥ = cc in absurd none
of_client_by (Busy routine) by is = let none : ⊥ = cc in absurd none

of_client_from : (at : Stage) (entries : List Entry) → is_of_client at ≡ true → is_of_client (stage_from at entries) ≡ true
of_client_from at [] is = is
of_client_from at (e ∷ rest) is = of_client_from (stage_by at (stage_step e.answer e.call)) rest (of_client_by at (stage_step e.answer e.call) is)

over_client : (at : Stage) → is_of_client at ≡ true → is_in_part at ≡ false → is_over_stage at ≡ true
over_client Over is rests = refl
over_client Playing is rests = let none : ⊥ = cc in absurd none
over_client Away is rests = let none : ⊥ = cc in absurd none
over_client Idle is rests = let none : ⊥ = cc in absurd none
over_client (Busy routine) is rests = let none : ⊥ = cc in absurd none

module _ (g : Given) where
  -- each entry is of one that has a turn
  HasTurns : Scene → List Entry → Type 0
  HasTurns s [] = Unit {0}
  HasTurns s (e ∷ rest) = (has_turn s e.who ≡ true) × HasTurns (scene_after g s e) rest

  abbrev IsFirst : Entry → Type 0
  IsFirst e = is_same_actor e.who (Client 1) ≡ true

  abbrev IsOther : Entry → Type 0
  IsOther e = is_same_actor e.who (Client 1) ≡ false

  first_turns : (s : Scene) (front : List Entry) → All IsFirst front → HasTurns s front
  unfolding HasTurns
  first_turns s [] first = tt
  first_turns s (e ∷ rest) first =
      (ap (λ b. b || is_over_stage (s.places (Client 1)).stage) (All-head IsFirst e rest first), first_turns (scene_after g s e) rest (All-tail IsFirst e rest first))

  or_over : (a b : Bool) → b ≡ true → (a || b) ≡ true
  or_over true b is = refl
  or_over false b is = is

  other_turns : (s : Scene) (rest : List Entry) → is_over_stage (s.places (Client 1)).stage ≡ true → All IsOther rest → HasTurns s rest
  unfolding HasTurns
  other_turns s [] over others = tt
  other_turns s (e ∷ rest) over others =
      let stays : (scene_after g s e).places (Client 1) ≡ s.places (Client 1)
      = ap (λ b. cond b (place_after g e.who (s.places e.who) e.call e.answer) (s.places (Client 1))) (All-head IsOther e rest others) in (
        or_over (is_same_actor e.who (Client 1)) (is_over_stage (s.places (Client 1)).stage) over,
        other_turns (scene_after g s e) rest (ap (λ (p : Place). is_over_stage p.stage) stays ∙ over) (All-tail IsOther e rest others),
      )

  turns_append : (s : Scene) (front rest : List Entry) → HasTurns s front → HasTurns (scene_from g s front) rest → HasTurns s (front ++ rest)
  unfolding HasTurns
  turns_append s [] rest first others = others
  turns_append s (e ∷ front) rest first others = (first.0, turns_append (scene_after g s e) front rest first.1 others)

  -- an actor's place is where its own entries lead
  place_step : (s : Scene) (e : Entry) (who : Who) (rest : List Entry) → place_from g who ((scene_after g s e).places who) (own who rest) ≡ place_from g who (s.places who) (own who (e ∷ rest))
  place_step s e who rest =
      elim (is_same_actor e.who who) as (λ b. is_same_actor e.who who ≡ b → place_from g who (cond b (place_after g e.who (s.places e.who) e.call e.answer) (s.places who)) (own who rest) ≡ place_from g who (s.places who) (cond b (e ∷ own who rest) (own who rest))) [
        | true ↦ λ is. ap (λ (a : Who). place_from g who (place_after g a (s.places a) e.call e.answer) (own who rest)) (same_actor_is e.who who is)
        | false ↦ λ is. refl
      ] refl

  place_behind : (s : Scene) (who : Who) (entries : List Entry) → (scene_from g s entries).places who ≡ place_from g who (s.places who) (own who entries)
  place_behind s who [] = refl
  place_behind s who (e ∷ rest) = place_behind (scene_after g s e) who rest ∙ place_step s e who rest

  none_own : (rest : List Entry) → All IsOther rest → own (Client 1) rest ≡ []
  none_own [] others = refl
  none_own (e ∷ rest) others = ap (λ b. cond b (e ∷ own (Client 1) rest) (own (Client 1) rest)) (All-head IsOther e rest others) ∙ none_own rest (All-tail IsOther e rest others)

  module _ (limits : Limits) (history : List Entry) (first : ComesFirst history) (ends : is_in_part (place_from g (Client 1) (opening (Client 1)) (own (Client 1) history)).stage ≡ false) where
    own_front : own (Client 1) history ≡ own (Client 1) first.front
    own_front = ap (own (Client 1)) first.parts ∙ own_append (Client 1) first.front first.rest ∙ ap (λ es. own (Client 1) first.front ++ es) (none_own first.rest first.others) ∙ append-nil (own (Client 1) first.front)

    over_behind : is_over_stage ((scene_from g (first_scene limits) first.front).places (Client 1)).stage ≡ true
    over_behind =
        let at : ((scene_from g (first_scene limits) first.front).places (Client 1)).stage ≡ (place_from g (Client 1) (opening (Client 1)) (own (Client 1) history)).stage
        = ap (λ (p : Place). p.stage) (place_behind (first_scene limits) (Client 1) first.front) ∙ ap (λ es. (place_from g (Client 1) (opening (Client 1)) es).stage) (sym own_front) in
        let of_client : is_of_client (place_from g (Client 1) (opening (Client 1)) (own (Client 1) history)).stage ≡ true
        = ap is_of_client (stage_is g (Client 1) (opening (Client 1)) (own (Client 1) history)) ∙ of_client_from Playing (own (Client 1) history) refl in
        ap is_over_stage at ∙ over_client (place_from g (Client 1) (opening (Client 1)) (own (Client 1) history)).stage of_client ends

    turns_in_run : HasTurns (first_scene limits) history
    turns_in_run =
        subst (HasTurns (first_scene limits)) (sym first.parts)
        (turns_append (first_scene limits) first.front first.rest (first_turns (first_scene limits) first.front first.first) (other_turns (scene_from g (first_scene limits) first.front) first.rest over_behind first.others))

  -- ---- the entries of an actor are due one after another

  module _ (who : Who) where
    AllDue : Place → List Entry → Type 0
    AllDue p [] = Unit {0}
    AllDue p (e ∷ rest) = Contains (turns_at g who p) e.call × AllDue (place_after g who p e.call e.answer) rest

    uncut_before : (p : Place) (entries : List Entry) → (place_from g who p entries).cut ≡ false → p.cut ≡ false
    uncut_before p [] uncut = uncut
    uncut_before p (e ∷ rest) uncut = or_left p.cut (is_last e.call && is_some (next_call g who p)) (uncut_before (place_after g who p e.call e.answer) rest uncut)

    module _ (limits : Limits) (capacity : ℕ) (history : List Entry) where
      last_due : (last : Call) (before : List Entry) (p : Place) (e : Entry) → is_last last ≡ true → e.call ≡ last → Closes g limits capacity history who before p → (is_last e.call && is_some (next_call g who p)) ≡ false → Contains (unwrap_or (next_call g who p) last ∷ []) e.call
      last_due last before p e ends is (inl whole) uncut = (0, omega arith, ap (λ next. unwrap_or next last) whole ∙ sym is)
      last_due last before p e ends is (inr cut) uncut =
          absurd (true_false (is_last e.call && is_some (next_call g who p)) (ap₂ (λ a b. a && b) (ap is_last is ∙ ends) (ap is_some cut.1)) uncut)

      due_at : (at : Stage) (before : List Entry) (p : Place) (e : Entry) → FollowsAt g limits capacity history who before p at e → (is_last e.call && is_some (next_call g who p)) ≡ false → Contains (turns_in at (next_call g who p)) e.call
      due_at Playing before p e (inl last) uncut = last_due Finish before p e refl last.0 last.2 uncut
      due_at Playing before p e (inr next) uncut = (0, omega arith, ap (λ n. unwrap_or n Finish) next.0)
      due_at (Busy routine) before p e (inl last) uncut = last_due Return before p e refl last.0 last.2 uncut
      due_at (Busy routine) before p e (inr next) uncut = (0, omega arith, ap (λ n. unwrap_or n Return) next.0)
      due_at Over before p e none uncut = absurd none
      due_at Away before p e joins uncut = (0, omega arith, sym joins.0)
      due_at Idle before p e (inl takes) uncut = (0, omega arith, sym takes.0)
      due_at Idle before p e (inr leaves) uncut = (1, omega arith, sym leaves.0)

      due_from : (before : List Entry) (p : Place) (entries : List Entry) → Leads g limits capacity history who before p entries → (place_from g who p entries).cut ≡ false → AllDue p entries
      unfolding AllDue
      due_from before p [] leads uncut = tt
      due_from before p (e ∷ rest) leads uncut =
          let here : (p.cut || (is_last e.call && is_some (next_call g who p))) ≡ false = uncut_before (place_after g who p e.call e.answer) rest uncut in (
            due_at p.stage before p e leads.0 (or_right p.cut (is_last e.call && is_some (next_call g who p)) here),
            due_from (before ++ e ∷ []) (place_after g who p e.call e.answer) rest leads.1 uncut,
          )

  due_step : (s : Scene) (e : Entry) (who : Who) (rest : List Entry) → AllDue who (s.places who) (own who (e ∷ rest)) → AllDue who ((scene_after g s e).places who) (own who rest)
  unfolding AllDue
  due_step s e who rest due =
      elim (is_same_actor e.who who) as (λ b. is_same_actor e.who who ≡ b → AllDue who (s.places who) (cond b (e ∷ own who rest) (own who rest)) → AllDue who (cond b (place_after g e.who (s.places e.who) e.call e.answer) (s.places who)) (own who rest)) [
        | true ↦ λ is all. subst (λ (a : Who). AllDue who (place_after g a (s.places a) e.call e.answer) (own who rest)) (sym (same_actor_is e.who who is)) all.1
        | false ↦ λ is all. all
      ] refl due

  due_here : (s : Scene) (e : Entry) (rest : List Entry) → AllDue e.who (s.places e.who) (own e.who (e ∷ rest)) → Contains (turns_at g e.who (s.places e.who)) e.call
  unfolding AllDue
  due_here s e rest due = (subst (λ b. AllDue e.who (s.places e.who) (cond b (e ∷ own e.who rest) (own e.who rest))) (is_own_actor e.who) due).0

  module _ (limits : Limits) (capacity : ℕ) where
    order_from : (s : Scene) (entries : ℕ) (rest : List Entry) → AreKnown limits rest → HasTurns s rest → ((who : Who) → IsActor limits who → AllDue who (s.places who) (own who rest)) → IsLegalFrom s.world capacity entries rest → IsRoomyFrom s.world capacity entries rest
        → IsOrderFrom g limits s rest
    unfolding HasTurns
    order_from s entries [] known turns due legal roomy = tt
    order_from s entries (e ∷ rest) known turns due legal roomy =
        let actor : IsActor limits e.who = All-head (λ (x : Entry). IsActor limits x.who) e rest known in (
          record {
            actor = actor;
            turn = turns.0;
            due = due_here s e rest (due e.who actor);
            answers = freely_told s.world (room capacity s.world entries) e.who e.call e.answer roomy.0 legal.0;
          },
          order_from (scene_after g s e) (entries + 1) rest (All-tail (λ (x : Entry). IsActor limits x.who) e rest known) turns.1 (λ who is. due_step s e who rest (due who is)) legal.1 roomy.1,
        )

    module _ (history : List Entry) (uncut : IsCutShort g limits history → ⊥) where
      not_cut : (who : Who) → IsActor limits who → (place_from g who (opening who) (own who history)).cut ≡ false
      not_cut who actor = known (place_from g who (opening who) (own who history)).cut refl
        where
          known : (b : Bool) → (place_from g who (opening who) (own who history)).cut ≡ b → (place_from g who (opening who) (own who history)).cut ≡ false
          known true is = absurd (uncut (who, actor, is))
          known false is = is

-- ---- where there is no client, nobody makes a call

below_none : (n : ℕ) → nat_lt n 0 ≡ false
below_none n = grind arith

none_to_join : (limits : Limits) → pool_to_join (opening_world limits) ≡ None
none_to_join limits =
    let w : World = opening_world limits in
    let calm : is_below_minimum w 0 ≡ false = ap (λ b. b && nat_lt (attached w 0) (maximum w 0)) (below_none (available w 0)) in
    ap (λ b. cond b (Some 0) None) calm

attaches_not : (w : World) (number : ℕ) (told : Answer) → pool_to_join w ≡ None → freely w (Worker number) Attach ≡ Done told → is_some (attached_by told) ≡ true → ⊥
unfolding attach_plan
attaches_not w number told none is attached =
    of_refusal (first_refusal (attach_refusals w (Worker number))) (ap (λ p. outcome_of (stepped w (unless_refused (first_refusal (attach_refusals w (Worker number))) (attach_to (Worker number) p)))) (sym none) ∙ is)
  where
    of_refusal : (r : Option Refusal) → outcome_of (stepped w (unless_refused r (attach_to (Worker number) None))) ≡ Done told → ⊥
    of_refusal None e = let never : ⊥ = cc in never
    of_refusal (Some refusal) e =
        let same : answer.Refused refusal ≡ told = cc in
        true_false (is_some (attached_by told)) attached (ap (λ a. is_some (attached_by a)) (sym same))

client_there : (g : Given) (limits : Limits) (capacity : ℕ) (e : Entry) (rest : List Entry) → Runs g limits capacity (e ∷ rest) → IsLegal limits capacity (e ∷ rest) → IsRoomy limits capacity (e ∷ rest) → 1 ≤ limits.clients
client_there g limits capacity e rest run legal roomy = of_who e.who refl (All-head (λ (x : Entry). IsActor limits x.who) e rest run.known)
  where
    of_who : (who : Who) → e.who ≡ who → IsActor limits who → 1 ≤ limits.clients
    of_who (Client number) is actor = omega (arith, actor.0, actor.1)
    of_who (Worker number) is actor =
        let owned : own (Worker number) (e ∷ rest) ≡ e ∷ own (Worker number) rest = ap (λ b. cond b (e ∷ own (Worker number) rest) (own (Worker number) rest)) (ap (λ a. is_same_actor a (Worker number)) is ∙ is_own_actor (Worker number)) in
        let leads : Leads g limits capacity (e ∷ rest) (Worker number) [] (opening (Worker number)) (e ∷ own (Worker number) rest) = subst (Leads g limits capacity (e ∷ rest) (Worker number) [] (opening (Worker number))) owned (run.each (Worker number) actor).leads in
        let came : freely (opening_world limits) e.who e.call ≡ Done e.answer = freely_told (opening_world limits) (room capacity (opening_world limits) 0) e.who e.call e.answer roomy.0 legal.0 in
        absurd (attaches_not (opening_world limits) number e.answer (none_to_join limits) (ap₂ (λ a c. freely (opening_world limits) a c) (sym is) (sym leads.0.0) ∙ came) leads.0.1)

pub run_is_order : (g : Given) (limits : Limits) (capacity : ℕ) (history : List Entry) → Runs g limits capacity history → IsLegal limits capacity history → IsRoomy limits capacity history → (IsCutShort g limits history → ⊥) → IsOrder g limits history
run_is_order g limits capacity [] run legal roomy uncut = tt
run_is_order g limits capacity (e ∷ rest) run legal roomy uncut =
    let client : 1 ≤ limits.clients = client_there g limits capacity e rest run legal roomy in
    order_from g limits capacity (first_scene limits) 0 (e ∷ rest) run.known
    (turns_in_run g limits (e ∷ rest) run.first (run.each (Client 1) (omega arith, client)).ends)
    (λ who actor. due_from g who limits capacity (e ∷ rest) [] (opening who) (own who (e ∷ rest)) (run.each who actor).leads (not_cut g limits capacity (e ∷ rest) uncut who actor))
    legal roomy
