-- A turn of an actor with a seat keeps what it is.
use Rattle.std.proofs.Common.{◌≡◌, ℕ, ◌<◌, ◌≤◌, true, false, List, [], ◌∷◌, ◌++◌, inl, inr, IfSome, length, max, not, refl, sym, ap, subst, ◌∙◌, append-nil, arith}
use Rattle.std.proofs.Math.Nat.{le-max_left, le-max_right}
use Rattle.std.proofs.lemmas.List.Filters.{length-filter_both}
use Rattle.tp_base.specs.declared.answers.Answer.{Answer}
use Rattle.tp_base.specs.declared.answers.Entry.{Entry}
use Rattle.tp_base.specs.declared.answers.Outcome.{Outcome}
use Rattle.tp_base.specs.declared.answers.Outcome.TheVariants as outcome
use Rattle.tp_base.specs.declared.calls.Call.{Call}
use Rattle.tp_base.specs.declared.ids.Who.{Who}
use Rattle.tp_base.specs.declared.limits.Limits.{Limits}
use Rattle.tp_base.specs.declared.plans.Stage.{Stage}
use Rattle.tp_base.specs.declared.plans.Stage.TheVariants as stage
use Rattle.tp_base.specs.Actors.{is_same_actor}
use Rattle.tp_model.specs.Stages.{is_in_part, is_over_stage}
use Rattle.tp_model.proofs.Facts.{machine_facts}
use Rattle.tp_model.proofs.Fitting.{legal_fits}
use Rattle.tp_script.specs.Calls.{IsOfPart}
use Rattle.turn_lock.specs.declared.seats.Seat.{Seat}
use Rattle.turn_lock.specs.declared.views.Setup.{Setup}
use Rattle.turn_lock.specs.Histories.{actor_of, own, StartsWith}
use Rattle.turn_lock.specs.Seats.{actor_in, met_of, mine_of, seen_of, setup_in, IsIdle, Same}
use Rattle.turn_lock.proofs.Beginnings.{starts_longer}
use Rattle.shared_pool.specs.declared.pool.SharedPool.{SharedPool}
use Rattle.shared_pool.specs.declared.pool.Tried.{Tried}
use Rattle.shared_pool.specs.declared.pool.Tried.TheVariants as tried
use Rattle.shared_pool.specs.Calls.{HasCalled, HasEnded, HasLookedFor, HasTried}
use Rattle.shared_pool.specs.Calls.{comes_to as seat_comes_to}
use Rattle.shared_pool.specs.Pools.{IsPlayer}
use Rattle.worker_gate.specs.declared.role.Role.{Role}
use Rattle.part_places.specs.Places.{Given, next_call, opening}
use Rattle.worker_gate.specs.Roles.{due_of, took, IsOf}
use Rattle.worker_gate.specs.Walks.{comes_to}
use Rattle.worker_gate.specs.declared.actor.Actor.{Actor}
use Rattle.worker_gate.specs.declared.role.Turn.{Turn}
use Rattle.worker_gate.specs.Acting.{due_by, is_held_up, GoesOn, HasSeenMore, IsReady, MayPlay, NeedsNoTurn, Said}
use Rattle.worker_gate.specs.Roles.{turn_by}
use Rattle.worker_gate.proofs.Turning.{StepKeeps}
use Rattle.worker_gate.proofs.Walking.{is_cut_grows, leads_grow}

-- what a role is stays so in a history that has gone on
pub of_grows : (g : Given) (limits : Limits) (capacity : ℕ) (history later entries : List Entry) (r : Role) → StartsWith later history → IsOf g limits capacity history entries r → IsOf g limits capacity later entries r
of_grows g limits capacity history later entries r more of = record {
  actor = of.actor;
  leads = leads_grow g limits capacity history later more r.who [] (opening r.who) entries of.leads;
  place_is = of.place_is;
  calm = of.calm;
  sorted = of.sorted;
  cut = λ plays marked. is_cut_grows g limits capacity history later more r.who entries r.place (of.cut plays marked);
  rests = of.rests;
}

-- what a role is by what a seat of its actor has seen and made
abbrev IsAt : Given → Setup → List Entry → List Entry → Role → Type 0
IsAt g setup seen mine r = IsOf g setup.limits setup.capacity seen mine r

-- what a try told, where no other seat had the turn
abbrev pub Tells : Tried → Outcome → Type 0
Tells (tried.Done answer) told = told ≡ outcome.Done answer
Tells (tried.Look look) told = told ≡ outcome.Look look
Tells (tried.Full room cost) told = told ≡ outcome.Full room cost
Tells (tried.Busy holder) told = ⊥

took_who : (g : Given) (r : Role) (made : Call) (told : Outcome) → (took g r made told).who ≡ r.who
took_who g r made (outcome.Done answer) = refl
took_who g r made (outcome.Look look) = refl
took_who g r made (outcome.Full room cost) = refl

over_rests : (at : Stage) → is_over_stage at ≡ true → is_in_part at ≡ false
over_rests stage.Playing is = absurd (cc)
over_rests stage.Over is = refl
over_rests stage.Away is = refl
over_rests stage.Idle is = refl
over_rests (stage.Busy routine) is = absurd (cc)

module _ {B : Type 0} where
  abbrev pub IsOfSeat : Given → Seat B → Role → Type 0
  IsOfSeat g seat r = IsAt g (setup_in seat) (seen_of seat) (mine_of seat) r

  same_actor_in : (a b : Seat B) → Same a b → actor_in b ≡ actor_in a
  same_actor_in a b same = ap (λ (s : Setup). actor_of s.limits b.number) same.setup ∙ ap (actor_of (setup_in a).limits) same.number

  -- the seat has seen more, and made no call since
  pub of_seat : (g : Given) (a b : Seat B) (r : Role) → Same a b → StartsWith (seen_of b) (seen_of a) → mine_of b ≡ mine_of a → IsOfSeat g a r → IsOfSeat g b r
  of_seat g a b r same more mine of =
      let grown : IsAt g (setup_in a) (seen_of b) (mine_of a) r = of_grows g (setup_in a).limits (setup_in a).capacity (seen_of a) (seen_of b) (mine_of a) r more of in
      subst (λ (s : Setup). IsAt g s (seen_of b) (mine_of b) r) (sym same.setup) (subst (λ (m : List Entry). IsAt g (setup_in a) (seen_of b) m r) (sym mine) grown)

  module _ (keeps : StepKeeps) (g : Given) (a b : Seat B) (r : Role) (its : r.who ≡ actor_in a) (of : IsOfSeat g a r) (going : r.ended ≡ false) (not_over : is_over_stage r.place.stage ≡ false) (part : IfSome (next_call g r.who r.place) IsOfPart) where
    abbrev due : Call
    due = due_of g r.who r.place r.marked

    its_later : Same a b → actor_in b ≡ r.who
    its_later same = same_actor_in a b same ∙ sym its

    of_later : (seen : List Entry) → Same a b → StartsWith seen (seen_of a) → IsAt g (setup_in b) seen (mine_of a) r
    of_later seen same more = subst (λ (s : Setup). IsAt g s seen (mine_of a) r) (sym same.setup) (of_grows g (setup_in a).limits (setup_in a).capacity (seen_of a) seen (mine_of a) r more of)

    -- the due call became the history's last entry
    of_called : (told : Answer) → HasCalled due told a b → IsOfSeat g b (took g r due (outcome.Done told))
    of_called told h =
        let limits = (setup_in b).limits in
        let capacity = (setup_in b).capacity in
        let is : actor_in b ≡ r.who = its_later h.same in
        let own_is : own r.who h.before ≡ mine_of a = sym (h.own_before ∙ ap (λ (w : Who). own w h.before) is) in
        let came : comes_to limits capacity h.before r.who due ≡ outcome.Done told = subst (λ (w : Who). comes_to limits capacity h.before w due ≡ outcome.Done told) is h.came in
        let kept = keeps g limits capacity h.before (mine_of a) r (outcome.Done told) (machine_facts limits capacity h.before h.legal_before) own_is (of_later h.before h.same h.since) going not_over part came in
        let entries : Who → List Entry = λ w. record { who = w; call = due; answer = told } ∷ [] in
        let seen : seen_of b ≡ h.before ++ entries r.who = h.seen ∙ ap (λ (w : Who). h.before ++ entries w) is in
        let mine : mine_of b ≡ mine_of a ++ entries r.who = h.mine ∙ ap (λ (w : Who). mine_of a ++ entries w) is in
        subst (λ (s : List Entry). IsAt g (setup_in b) s (mine_of b) (took g r due (outcome.Done told))) (sym seen) (subst (λ (m : List Entry). IsAt g (setup_in b) (h.before ++ entries r.who) m (took g r due (outcome.Done told))) (sym mine) kept)

    -- it came to a look or Full
    looked_at : (told : Outcome) (numbered : 0 < b.number) → HasLookedFor due told a b → IsAt g (setup_in b) (seen_of b) (mine_of a) r × (own r.who (seen_of b) ≡ mine_of a) × (comes_to (setup_in b).limits (setup_in b).capacity (seen_of b) r.who due ≡ told)
    looked_at told numbered h =
        let is : actor_in b ≡ r.who = its_later h.same in (
          of_later (seen_of b) h.same h.seen,
          ap (λ (w : Who). own w (seen_of b)) (sym is) ∙ (sym (h.idle.whole.informed.own_is numbered) ∙ h.mine),
          subst (λ (w : Who). comes_to (setup_in b).limits (setup_in b).capacity (seen_of b) w due ≡ told) is h.came,
        )

    of_stayed : (told : Outcome) (numbered : 0 < b.number) → HasLookedFor due told a b → IsAt g (setup_in b) (seen_of b ++ []) (mine_of a ++ []) (took g r due told) → IsOfSeat g b (took g r due told)
    of_stayed told numbered h kept =
        subst (λ (s : List Entry). IsAt g (setup_in b) s (mine_of b) (took g r due told)) (append-nil (seen_of b)) (
        subst (λ (m : List Entry). IsAt g (setup_in b) (seen_of b ++ []) m (took g r due told)) (append-nil (mine_of a) ∙ sym h.mine) kept)

    -- and so, whatever it came to
    pub of_ended : (told : Outcome) (numbered : 0 < b.number) → HasEnded due told a b → IsOfSeat g b (took g r due told)
    of_ended (outcome.Done told) numbered h = of_called told h
    of_ended (outcome.Look look) numbered h =
        let l = looked_at (outcome.Look look) numbered h in
        of_stayed (outcome.Look look) numbered h (keeps g (setup_in b).limits (setup_in b).capacity (seen_of b) (mine_of a) r (outcome.Look look) (machine_facts (setup_in b).limits (setup_in b).capacity (seen_of b) h.idle.whole.informed.legal) l.1 l.0 going not_over part l.2)
    of_ended (outcome.Full room cost) numbered h =
        let l = looked_at (outcome.Full room cost) numbered h in
        of_stayed (outcome.Full room cost) numbered h (keeps g (setup_in b).limits (setup_in b).capacity (seen_of b) (mine_of a) r (outcome.Full room cost) (machine_facts (setup_in b).limits (setup_in b).capacity (seen_of b) h.idle.whole.informed.legal) l.1 l.0 going not_over part l.2)

  -- ---- a call of an actor

  pub tried_ended : (made : Call) (try : Tried) (told : Outcome) (a b : Seat B) → Tells try told → HasTried made try a b → HasEnded made told a b × (met_of b ≡ met_of a)
  tried_ended made (tried.Done answer) told a b is h = subst (λ (t : Outcome). HasEnded made t a b × (met_of b ≡ met_of a)) (sym is) h
  tried_ended made (tried.Look look) told a b is h = subst (λ (t : Outcome). HasEnded made t a b × (met_of b ≡ met_of a)) (sym is) h
  tried_ended made (tried.Full room cost) told a b is h = subst (λ (t : Outcome). HasEnded made t a b × (met_of b ≡ met_of a)) (sym is) h
  tried_ended made (tried.Busy holder) told a b none h = absurd none

  -- an actor has made no more entries than its history has, and those fit
  within_most : (seat : Seat B) → IsIdle seat → 0 < seat.number → length (mine_of seat) ≤ max (setup_in seat).capacity (setup_in seat).limits.clients
  within_most seat idle numbered =
      let limits = (setup_in seat).limits in
      let capacity = (setup_in seat).capacity in
      let most = max capacity limits.clients in
      let who = actor_in seat in
      let fits = legal_fits limits capacity most (seen_of seat) (le-max_left capacity limits.clients) (le-max_right capacity limits.clients) idle.whole.informed.legal in
      let fewer = length-filter_both (λ (e : Entry). is_same_actor e.who who) (λ (e : Entry). not (is_same_actor e.who who)) (λ e. refl) (seen_of seat) in
      let own_is : length (mine_of seat) ≡ length (own who (seen_of seat)) = ap length (idle.whole.informed.own_is numbered) in
      omega (arith, fits, fewer, own_is)

  module _ (keeps : StepKeeps) (g : Given) (pool : SharedPool B) (a b : Actor B) (made : Call) (told : Outcome) (is_due : made ≡ due_by g a a.role.marked)
      (ready : IsReady g pool a) (may : MayPlay a) (part : IfSome (next_call g a.role.who a.role.place) IsOfPart)
      (player : IsPlayer pool b.seat) (heard : b.role ≡ took g a.role made told) where
    pub played_ready : HasEnded made told a.seat b.seat → IsReady g pool b
    played_ready ended =
        let due = due_by g a a.role.marked in
        let of = of_ended keeps g a.seat b.seat a.role a.is_its ready.of may.going may.not_over part told player.numbered (subst (λ (x : Call). HasEnded x told a.seat b.seat) is_due ended) in
        let role : b.role ≡ took g a.role due told = heard ∙ ap (λ (x : Call). took g a.role x told) is_due in
        record { player = player; of = subst (λ (r : Role). IsOfSeat g b.seat r) (sym role) of }

    goes_by : (t : Outcome) → HasEnded made t a.seat b.seat → Same a.seat b.seat × StartsWith (seen_of b.seat) (seen_of a.seat) × StartsWith (mine_of b.seat) (mine_of a.seat)
    goes_by (outcome.Done answer) h =
        let entry : Entry = record { who = actor_in b.seat; call = made; answer = answer } in
        (h.same, subst (λ (s : List Entry). StartsWith s (seen_of a.seat)) (sym h.seen) (starts_longer h.before (seen_of a.seat) (entry ∷ []) h.since), record { rest = entry ∷ []; is = h.mine })
    goes_by (outcome.Look look) h = (h.same, h.seen, record { rest = []; is = h.mine ∙ sym (append-nil (mine_of a.seat)) })
    goes_by (outcome.Full room cost) h = (h.same, h.seen, record { rest = []; is = h.mine ∙ sym (append-nil (mine_of a.seat)) })

    pub played_goes_on : HasEnded made told a.seat b.seat × (met_of b.seat ≡ met_of a.seat) → GoesOn a b
    played_goes_on h =
        let by = goes_by told h.0 in record {
          same = by.0;
          who_is = ap (λ (r : Role). r.who) heard ∙ took_who g a.role made told;
          starts = by.1;
          mine_more = by.2;
          met_more = let met = ap length h.1 in omega (arith, met);
        }

    said_by : (t : Outcome) → b.role ≡ took g a.role made t → HasEnded made t a.seat b.seat → Said g a b (turn_by t)
    said_by (outcome.Done answer) role h = record {
      may = may;
      answer = answer;
      mine = h.mine ∙ ap (λ (e : Entry). mine_of a.seat ++ e ∷ []) (ap (λ (w : Who). record { who = w; call = made; answer = answer }) (same_actor_in a.seat b.seat h.same) ∙ ap (λ (x : Call). record { who = actor_in a.seat; call = x; answer = answer }) is_due);
      within = within_most b.seat h.idle player.numbered;
    }
    said_by (outcome.Look look) role h = record {
      may = may;
      mine = h.mine;
      place = ap (λ (r : Role). r.place) role;
      cause = inr (ap is_held_up (ap (seat_comes_to b.seat (seen_of b.seat)) (sym is_due) ∙ h.came));
    }
    said_by (outcome.Full room cost) role h = record {
      may = may;
      mine = h.mine;
      place = ap (λ (r : Role). r.place) role;
      cause = inr (ap is_held_up (ap (seat_comes_to b.seat (seen_of b.seat)) (sym is_due) ∙ h.came));
    }

    pub played_said : (turn : Turn) → turn ≡ turn_by told → HasEnded made told a.seat b.seat → Said g a b turn
    played_said turn is h = subst (λ (t : Turn). Said g a b t) (sym is) (said_by told heard h)

  -- ---- a turn in which it makes no call

  pub asked_ready : (g : Given) (pool : SharedPool B) (a b : Actor B) → IsReady g pool a → IsPlayer pool b.seat → b.role ≡ a.role → HasSeenMore a b → IsReady g pool b
  asked_ready g pool a b ready player role more = record {
    player = player;
    of = subst (λ (r : Role). IsOfSeat g b.seat r) (sym role) (of_seat g a.seat b.seat a.role more.same more.starts more.mine ready.of);
  }

  -- it pauses
  pub paused_ready : (g : Given) (pool : SharedPool B) (a b : Actor B) → IsReady g pool a → b.seat ≡ a.seat → b.role ≡ a.role → IsReady g pool b
  paused_ready g pool a b ready seat role = record {
    player = subst (λ (s : Seat B). IsPlayer pool s) (sym seat) ready.player;
    of = subst (λ (s : Seat B). IsOfSeat g s b.role) (sym seat) (subst (λ (r : Role). IsOfSeat g a.seat r) (sym role) ready.of);
  }

  needs_rests : (g : Given) (pool : SharedPool B) (a b : Actor B) → IsReady g pool a → NeedsNoTurn a b → is_in_part a.role.place.stage ≡ false
  needs_rests g pool a b ready (inl ended) = ready.of.rests ended
  needs_rests g pool a b ready (inr (inl over)) = over_rests a.role.place.stage over
  needs_rests g pool a b ready (inr (inr rests)) = rests.0

  -- and makes none from here on
  of_done : (g : Given) (seat : Seat B) (r : Role) → IsOfSeat g seat r → is_in_part r.place.stage ≡ false → IsOfSeat g seat (record r { ended = true })
  of_done g seat r of rests = record { actor = of.actor; leads = of.leads; place_is = of.place_is; calm = of.calm; sorted = of.sorted; cut = of.cut; rests = λ ended. rests }

  module _ (g : Given) (pool : SharedPool B) (a b d : Actor B) (ready : IsReady g pool a) (player : IsPlayer pool b.seat) (role : b.role ≡ a.role) (more : HasSeenMore a b)
      (why : NeedsNoTurn a b) (seat_is : d.seat ≡ b.seat) (role_is : d.role ≡ record b.role { ended = true }) where
    b_rests : is_in_part b.role.place.stage ≡ false
    b_rests = ap (λ (r : Role). is_in_part r.place.stage) role ∙ needs_rests g pool a b ready why

    pub done_ready : IsReady g pool d
    done_ready =
        let next = asked_ready g pool a b ready player role more in record {
          player = subst (λ (s : Seat B). IsPlayer pool s) (sym seat_is) player;
          of = subst (λ (s : Seat B). IsOfSeat g s d.role) (sym seat_is) (subst (λ (r : Role). IsOfSeat g b.seat r) (sym role_is) (of_done g b.seat b.role next.of b_rests));
        }
