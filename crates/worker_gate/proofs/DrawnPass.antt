-- A pass: turns that are drawn until each that hasn't ended has had one since the last entry.
use Rattle.std.proofs.Common.{◌≡◌, ℕ, zero, suc, ◌+◌, ◌-◌, ◌<◌, ◌≤◌, Bool, true, false, if◌then◌else◌, List, [], ◌∷◌, ◌⊎◌, inl, inr, Some}
use Rattle.std.proofs.Common.{length, set, get_or, slice_get, refl, sym, ap, subst, ◌∙◌, arith}
use Rattle.std.specs.Prelude.{remove}
use Rattle.std.proofs.lemmas.Bool.{cases_lt}
use Rattle.std.proofs.lemmas.List.{length-set}
use Rattle.std.proofs.lemmas.Option.{get_or_from_slice_get, slice_get-get_or, slice_get_within}
use Rattle.tp_base.specs.declared.answers.Entry.{Entry}
use Rattle.tp_base.specs.declared.limits.Limits.{Limits}
use Rattle.tp_model.specs.History.{IsLegal}
use Rattle.tp_model.proofs.Fitting.{legal_fits}
use Rattle.rand_pcg.specs.Lcg.{Lcg}
use Rattle.rand_pcg.specs.Pcg.{pcg32}
use Rattle.recorded.specs.Recordings.{Recording}
use Rattle.turn_lock.specs.Histories.{own}
use Rattle.worker_gate.specs.declared.role.Role.{Role}
use Rattle.worker_gate.specs.declared.role.Turn.{Turn}
use Rattle.worker_gate.specs.declared.role.Turn.TheVariants.{Moved, Waiting, Ended}
use Rattle.worker_gate.specs.Drawn.{drawing, drawn_turn, drawn_turns, index_drawn, left_after, open_places, or_all, progress, ready_after, scene_of, with_place, with_turn, AreDrawnFrom, Drawing, HasPassed, IsSound}
use Rattle.part_places.specs.Places.{Given}
use Rattle.worker_gate.specs.Roles.{is_last_turn, turned, who_of, IsOf, Turned}
use Rattle.worker_gate.specs.Rounds.{scene, AllOf, EndedWell, IsSameMachine, Scene}
use Rattle.worker_gate.proofs.Drawing.{count_more, count_same, open_few, open_same, turn_said, TurnSaid}
use Rattle.worker_gate.proofs.Lasting.{few_ended}
use Rattle.worker_gate.proofs.PassLots.{all_begin, all_open, calm_round, few_among, found, length_removed, loosened, past_off, taken, Among, IsFound, IsLeft, IsPast}
use Rattle.worker_gate.proofs.Playing.{turn_stands, AreStanding}

-- ---- how many turns there may still be

-- so many times one more than a number
abbrev pub weight : ℕ → ℕ → ℕ
weight n zero = 0
weight n (suc k) = suc n + weight n k

weight_more : (n a b : ℕ) → a < b → weight n a + suc n ≤ weight n b
weight_more n a zero less = absurd (omega (arith, less))
weight_more n a (suc b) less = by (cases_lt a b) (weight_more n a b)
  where
    by : (a < b) ⊎ (b ≤ a) → (a < b → weight n a + suc n ≤ weight n b) → weight n a + suc n ≤ suc n + weight n b
    by (inl below) rest = let more = rest below in omega (arith, more)
    by (inr above) rest = let same : a ≡ b = omega (arith, less, above) in let e : weight n a ≡ weight n b = ap (weight n) same in omega (arith, e)

-- the most that the progress comes to
abbrev pub most_progress : Limits → ℕ → List Role → ℕ
most_progress limits capacity roles = capacity + limits.clients + length roles

-- each step forward brings all that haven't ended among those that may be drawn, and each other turn leaves one fewer
abbrev pub turns_left : Limits → ℕ → Scene → List ℕ → ℕ
turns_left limits capacity s ready = weight (length s.roles) (most_progress limits capacity s.roles - progress s) + length ready

fewer_turns : (limits : Limits) (capacity : ℕ) (s t : Scene) (ready others : List ℕ) → length t.roles ≡ length s.roles → progress s < progress t → progress t ≤ most_progress limits capacity t.roles → length others ≤ length t.roles
    → turns_left limits capacity t others < turns_left limits capacity s ready
fewer_turns limits capacity s t ready others same further most few =
    let n = length s.roles in
    let e : turns_left limits capacity t others ≡ weight n (most_progress limits capacity s.roles - progress t) + length others = ap (λ (k : ℕ). weight k (capacity + limits.clients + k - progress t) + length others) same in
    let more = weight_more n (most_progress limits capacity s.roles - progress t) (most_progress limits capacity s.roles - progress s) (omega (arith, same, further, most)) in
    omega (arith, e, more, few, same)

-- ---- a pass so far

module _ (g : Given) where
  -- calm: no entry so far, and none has ended
  abbrev Stood : Bool → Scene → Scene → Type 0
  Stood true s t = t.history ≡ s.history
  Stood false s t = progress s < progress t

  abbrev now_drawing : List Entry → List Role → List ℕ → Lcg → Drawing
  now_drawing history later ready draws = record { history = history; roles = later; ready = or_all ready (open_places later); draws = draws }

  pub record PassSoFar (start now : Recording) (roles later : List Role) (ready : List ℕ) (first draws : Lcg) : Type 0 where
    pub same : IsSameMachine start now
    pub stands : AreStanding g now later
    pub count : length roles ≡ length later
    pub calm : Bool
    pub among : Among g now.limits now.capacity start.history calm 0 roles later ready
    pub least : progress (scene start.history roles) ≤ progress (scene now.history later)
    pub stood : Stood calm (scene start.history roles) (scene now.history later)
    pub turns : ℕ
    pub drawn : drawn_turns g now.limits now.capacity turns (drawing first (scene start.history roles)) ≡ now_drawing now.history later ready draws
    pub sound : (n : ℕ) → n ≤ turns → IsSound g now.limits now.capacity (scene_of (drawn_turns g now.limits now.capacity n (drawing first (scene start.history roles))))

  -- one turn more
  sound_more : (limits : Limits) (capacity : ℕ) (d : Drawing) (turns : ℕ) → ((n : ℕ) → n < turns → IsSound g limits capacity (scene_of (drawn_turns g limits capacity n d))) → IsSound g limits capacity (scene_of (drawn_turns g limits capacity turns d))
      → (n : ℕ) → n ≤ turns → IsSound g limits capacity (scene_of (drawn_turns g limits capacity n d))
  sound_more limits capacity d turns before last n low = by (cases_lt n turns)
    where
      by : (n < turns) ⊎ (turns ≤ n) → IsSound g limits capacity (scene_of (drawn_turns g limits capacity n d))
      by (inl less) = before n less
      by (inr most) = let is : turns ≡ n = omega (arith, low, most) in subst (λ (k : ℕ). IsSound g limits capacity (scene_of (drawn_turns g limits capacity k d))) is last

  or_itself : (places : List ℕ) → or_all places places ≡ places
  or_itself [] = refl
  or_itself (p ∷ places) = refl

  pub pass_begins : (start : Recording) (roles : List Role) (first : Lcg) → AreStanding g start roles → PassSoFar start start roles roles (open_places roles) first first
  pass_begins start roles first stands = record {
    same = record { limits = refl; capacity = refl };
    stands = stands;
    count = refl;
    calm = true;
    among = all_begin g start.limits start.capacity start.history 0 roles;
    least = omega arith;
    stood = refl;
    turns = 0;
    drawn = ap (λ (l : List ℕ). record { history = start.history; roles = roles; ready = l; draws = first }) (sym (or_itself (open_places roles)));
    sound = sound_more start.limits start.capacity (drawing first (scene start.history roles)) 0 (λ n less. absurd (omega (arith, less))) (record { legal = stands.legal; all = stands.all; well = stands.well });
  }

  module _ (start now : Recording) (roles later : List Role) (ready : List ℕ) (first draws : Lcg) (so : PassSoFar start now roles later ready first draws) (index place : ℕ) (r : Role)
      (index_is : index ≡ index_drawn draws (length ready)) (at : slice_get ready index ≡ Some place) (role_at : slice_get later place ≡ Some r) where
    abbrev then_is : Turned
    then_is = turned g now.limits now.capacity now.history r

    abbrev turned_to : Recording
    turned_to = record now { history = then_is.history }

    abbrev behind : List Role
    behind = set later place then_is.role

    f : IsFound g now.limits now.capacity start.history so.calm 0 roles later place
    f = found g now.limits now.capacity start.history so.calm 0 roles later ready so.among index place at

    further_is : f.further ≡ place
    further_is = let is = f.place_is in omega (arith, is)

    now_is : f.now ≡ r
    now_is = let e : Some f.now ≡ Some r = sym f.now_at ∙ (ap (slice_get later) further_is ∙ role_at) in cc

    pub goes : r.ended ≡ false
    goes = sym (ap (λ (q : Role). q.ended) now_is) ∙ f.left.going

    some_ready : (places : List ℕ) → slice_get places index ≡ Some place → or_all places (open_places later) ≡ places
    some_ready [] there = absurd cc
    some_ready (p ∷ places) there = refl

    -- the drawn turn of the definition
    drawn_more : drawn_turns g now.limits now.capacity (suc so.turns) (drawing first (scene start.history roles))
        ≡ record { history = then_is.history; roles = behind; ready = ready_after then_is.turn (remove ready index) (open_places behind); draws = (pcg32 draws).1 }
    drawn_more =
        let d : Drawing = record { history = now.history; roles = later; ready = ready; draws = draws } in
        let now_is_d : now_drawing now.history later ready draws ≡ d = ap (λ (l : List ℕ). record { history = now.history; roles = later; ready = l; draws = draws }) (some_ready ready at) in
        ap (drawn_turn g now.limits now.capacity) (so.drawn ∙ now_is_d)
        ∙ (ap (λ (i : ℕ). with_place g now.limits now.capacity i d (slice_get ready i)) (sym index_is)
        ∙ (ap (with_place g now.limits now.capacity index d) at ∙ ap (with_turn g now.limits now.capacity index place d) role_at))

    role_there : slice_get roles place ≡ Some f.role
    role_there = sym (ap (slice_get roles) further_is) ∙ f.role_at

    at_sum : slice_get ready index ≡ Some (0 + place)
    at_sum = let more : place ≡ 0 + place = omega arith in at ∙ ap Some more

    count_then : length roles ≡ length behind
    count_then = so.count ∙ sym (length-set later place then_is.role)

    abbrev rest : Turn → List ℕ
    rest turn = left_after turn (remove ready index) (open_places behind)

    abbrev before_it : Scene
    before_it = scene now.history later

    abbrev behind_it : Scene
    behind_it = scene then_is.history behind

    -- an entry or an end is a step forward
    still_progress : TurnSaid now.history r then_is Waiting → progress behind_it ≡ progress before_it
    still_progress said =
        let n : length then_is.history ≡ length now.history = ap length said.0 in
        let ended = count_same later place r then_is.role role_at said.1 in
        omega (arith, n, ended)

    moved_progress : TurnSaid now.history r then_is Moved → progress before_it < progress behind_it
    moved_progress said =
        let n = said.0 in
        let ended = count_same later place r then_is.role role_at said.1 in
        omega (arith, n, ended)

    ended_progress : TurnSaid now.history r then_is Ended → progress before_it < progress behind_it
    ended_progress said =
        let n : length then_is.history ≡ length now.history = ap length said.0 in
        let ended = count_more later place r then_is.role role_at goes said.1 in
        omega (arith, n, ended)

    -- how the pass stands behind the turn
    record IsBehind (turn : Turn) : Type 0 where
      calm : Bool
      among : Among g now.limits now.capacity start.history calm 0 roles behind (left_after turn (remove ready index) (open_places behind))
      least : progress (scene start.history roles) ≤ progress behind_it
      stood : Stood calm (scene start.history roles) behind_it
      fewer : progress behind_it ≤ most_progress now.limits now.capacity behind
          → turns_left now.limits now.capacity behind_it (left_after turn (remove ready index) (open_places behind)) < turns_left now.limits now.capacity before_it ready

    taken_by : (calm : Bool) → Among g now.limits now.capacity start.history calm 0 roles later ready → IsPast g now.limits now.capacity start.history calm f.role then_is.role
        → Among g now.limits now.capacity start.history calm 0 roles behind (remove ready index)
    taken_by calm among past = taken g now.limits now.capacity start.history calm 0 roles later ready among index place f.role then_is.role at_sum role_there past

    one_fewer : suc (length (remove ready index)) ≡ length ready
    one_fewer = length_removed ready index place at

    fewer_ready : progress behind_it ≡ progress before_it → turns_left now.limits now.capacity behind_it (remove ready index) < turns_left now.limits now.capacity before_it ready
    fewer_ready same =
        let e : turns_left now.limits now.capacity behind_it (remove ready index) ≡ weight (length later) (most_progress now.limits now.capacity later - progress before_it) + length (remove ready index) =
        ap (λ (k : ℕ). weight k (now.capacity + now.limits.clients + k - progress behind_it) + length (remove ready index)) (length-set later place then_is.role)
        ∙ ap (λ (k : ℕ). weight (length later) (most_progress now.limits now.capacity later - k) + length (remove ready index)) same in
        omega (arith, e, one_fewer)

    waits : (calm : Bool) → Among g now.limits now.capacity start.history calm 0 roles later ready → Stood calm (scene start.history roles) before_it → IsLeft g now.limits now.capacity start.history calm f.role f.now
        → TurnSaid now.history r then_is Waiting → IsBehind Waiting
    waits true among stood left said =
        let role_is : r ≡ f.role = sym now_is ∙ left.same refl in
        let same : then_is ≡ turned g now.limits now.capacity start.history f.role =
        ap (λ (h : List Entry). turned g now.limits now.capacity h r) stood ∙ ap (turned g now.limits now.capacity start.history) role_is in
        record {
          calm = true;
          among = taken_by true among (record { role_is = λ _. ap (λ (t : Turned). t.role) same; adds_nothing = λ _. sym (ap (λ (t : Turned). t.history) same) ∙ (said.0 ∙ stood) });
          least = let e = still_progress said in let least = so.least in omega (arith, e, least);
          stood = said.0 ∙ stood;
          fewer = λ most. let e = still_progress said in fewer_ready e;
        }
    waits false among stood left said = record {
      calm = false;
      among = taken_by false among (past_off g now.limits now.capacity start.history f.role then_is.role);
      least = let e = still_progress said in let least = so.least in omega (arith, e, least);
      stood = let e = still_progress said in omega (arith, e, stood);
      fewer = λ most. let e = still_progress said in fewer_ready e;
    }

    goes_further : progress before_it < progress behind_it → (turn : Turn) → Among g now.limits now.capacity start.history false 0 roles behind (left_after turn (remove ready index) (open_places behind))
        → length (left_after turn (remove ready index) (open_places behind)) ≤ length behind → IsBehind turn
    goes_further more turn among few = record {
      calm = false;
      among = among;
      least = let least = so.least in omega (arith, more, least);
      stood = let least = so.least in omega (arith, more, least);
      fewer = λ most. fewer_turns now.limits now.capacity before_it behind_it ready (left_after turn (remove ready index) (open_places behind)) (length-set later place then_is.role) more most few;
    }

    behind_by : (turn : Turn) → TurnSaid now.history r then_is turn → IsBehind turn
    behind_by Moved said = goes_further (moved_progress said) Moved (all_open g now.limits now.capacity start.history 0 roles behind count_then) (open_few 0 behind)
    behind_by Waiting said = waits so.calm so.among so.stood f.left said
    behind_by Ended said =
        goes_further (ended_progress said) Ended
        (taken_by false (loosened g now.limits now.capacity start.history so.calm 0 roles later ready so.among) (past_off g now.limits now.capacity start.history f.role then_is.role))
        (let few = few_among g now.limits now.capacity start.history so.calm 0 roles later ready so.among in let n = length-set later place then_is.role in omega (arith, one_fewer, few, n))

    its : IsBehind then_is.turn
    its = behind_by then_is.turn (turn_said g now.limits now.capacity now.history r)

    module _ (of : IsOf g now.limits now.capacity then_is.history (own then_is.role.who then_is.history) then_is.role) where
      stands_then : AreStanding g turned_to behind
      stands_then = turn_stands g now later place r (slice_get_within later place r role_at) so.stands (sym (get_or_from_slice_get later place r r role_at)) of

      pub goes_on : PassSoFar start turned_to roles behind (left_after then_is.turn (remove ready index) (open_places behind)) first (pcg32 draws).1
      goes_on = record {
        same = record { limits = so.same.limits; capacity = so.same.capacity };
        stands = stands_then;
        count = count_then;
        calm = its.calm;
        among = its.among;
        least = its.least;
        stood = its.stood;
        turns = suc so.turns;
        drawn = drawn_more;
        sound = sound_more now.limits now.capacity (drawing first (scene start.history roles)) (suc so.turns) (λ n less. so.sound n (omega (arith, less)))
            (subst (IsSound g now.limits now.capacity) (sym (ap scene_of drawn_more)) (record { legal = stands_then.legal; all = stands_then.all; well = stands_then.well }));
      }

      pub goes_less : turns_left now.limits now.capacity behind_it (left_after then_is.turn (remove ready index) (open_places behind)) < turns_left now.limits now.capacity before_it ready
      goes_less = its.fewer
          (let fits = legal_fits now.limits now.capacity (now.capacity + now.limits.clients) then_is.history (omega arith) (omega arith) stands_then.legal in
          let few = few_ended g now.limits now.capacity behind in
          omega (arith, fits, few))

  -- ---- the pass is over

  pub record PassPlayed (start now : Recording) (roles later : List Role) (first draws : Lcg) : Type 0 where
    pub same : IsSameMachine start now
    pub stands : AreStanding g now later
    pub drawn : AreDrawnFrom g start.limits start.capacity first (scene start.history roles) draws (scene now.history later)
    pub passed : HasPassed g start.limits start.capacity (scene start.history roles) (scene now.history later)

  passed_by : (limits : Limits) (capacity : ℕ) (calm : Bool) (start now : List Entry) (roles later : List Role) → Among g limits capacity start calm 0 roles later [] → Stood calm (scene start roles) (scene now later)
      → HasPassed g limits capacity (scene start roles) (scene now later)
  passed_by limits capacity true start now roles later among stood = inr (ap (λ (h : List Entry). scene h later) stood ∙ sym (calm_round g limits capacity start 0 roles later among))
  passed_by limits capacity false start now roles later among stood = inl stood

  pub pass_ends : (start now : Recording) (roles later : List Role) (ready : List ℕ) (first draws : Lcg) → ready ≡ [] → PassSoFar start now roles later ready first draws → PassPlayed start now roles later first draws
  pass_ends start now roles later ready first draws none so =
      let among = subst (Among g now.limits now.capacity start.history so.calm 0 roles later) none so.among in
      let drawn : AreDrawnFrom g now.limits now.capacity first (scene start.history roles) draws (scene now.history later) =
      record { count = so.turns; lead = so.drawn ∙ ap (λ (l : List ℕ). now_drawing now.history later l draws) none; sound = so.sound } in
      let passed = passed_by now.limits now.capacity so.calm start.history now.history roles later among so.stood in
      record {
        same = so.same;
        stands = so.stands;
        drawn = subst (λ (l : Limits). AreDrawnFrom g l start.capacity first (scene start.history roles) draws (scene now.history later)) so.same.limits
            (subst (λ (n : ℕ). AreDrawnFrom g now.limits n first (scene start.history roles) draws (scene now.history later)) so.same.capacity drawn);
        passed = subst (λ (l : Limits). HasPassed g l start.capacity (scene start.history roles) (scene now.history later)) so.same.limits
            (subst (λ (n : ℕ). HasPassed g now.limits n (scene start.history roles) (scene now.history later)) so.same.capacity passed);
      }

  -- ---- in the program's words

  pub pass_first : (start : Recording) (roles : List Role) (ready : List ℕ) (first draws : Lcg) → IsLegal start.limits start.capacity start.history → AllOf g start.limits start.capacity start.history roles
      → EndedWell start.limits start.capacity start.history roles → ready ≡ open_places roles → draws ≡ first → PassSoFar start start roles roles ready first draws
  pass_first start roles ready first draws legal all well ready_is draws_is =
      subst (λ (l : List ℕ). PassSoFar start start roles roles l first draws) (sym ready_is)
      (subst (PassSoFar start start roles roles (open_places roles) first) (sym draws_is) (pass_begins start roles first (record { legal = legal; all = all; well = well })))

  module _ (start now : Recording) (roles later : List Role) (places ready : List ℕ) (first draws : Lcg) (so : PassSoFar start now roles later ready first draws) (going : places ≡ open_places later) (index place : ℕ)
      (below : index < length ready) (index_is : index ≡ index_drawn draws (length ready)) (at : place ≡ get_or ready index place) where
    ready_at : slice_get ready index ≡ Some place
    ready_at = slice_get-get_or ready index place below ∙ ap Some (sym at)

    pub place_there : place < length later
    place_there =
        let f = found g now.limits now.capacity start.history so.calm 0 roles later ready so.among index place ready_at in
        let is = f.place_is in
        let inside = slice_get_within later f.further f.now f.now_at in
        omega (arith, is, inside)

    module _ (r : Role) (role_at : r ≡ get_or later place r) where
      later_at : slice_get later place ≡ Some r
      later_at = slice_get-get_or later place r place_there ∙ ap Some (sym role_at)

      pub role_of : IsOf g now.limits now.capacity now.history (own (who_of r) now.history) r
      role_of = subst (λ (q : Role). IsOf g now.limits now.capacity now.history (own q.who now.history) q) (sym role_at) (so.stands.all.of place r place_there)

      abbrev its_turn : Turned
      its_turn = turned g now.limits now.capacity now.history r

      left_same : (turn : Turn) → TurnSaid now.history r its_turn turn → left_after turn (remove ready index) places ≡ left_after turn (remove ready index) (open_places (set later place its_turn.role))
      left_same Moved said = going ∙ sym (open_same 0 later place r its_turn.role later_at said.1)
      left_same Waiting said = refl
      left_same Ended said = refl

      open_then : (turn : Turn) → TurnSaid now.history r its_turn turn → (if is_last_turn turn then open_places (set later place its_turn.role) else places) ≡ open_places (set later place its_turn.role)
      open_then Moved said = going ∙ sym (open_same 0 later place r its_turn.role later_at said.1)
      open_then Waiting said = going ∙ sym (open_same 0 later place r its_turn.role later_at said.1)
      open_then Ended said = refl

      module _ (new : Recording) (q : Role) (turn : Turn) (role_is : q ≡ its_turn.role) (book_is : new ≡ record now { history = its_turn.history }) (turn_is : turn ≡ its_turn.turn)
          (of : IsOf g new.limits new.capacity new.history (own (who_of q) new.history) q) (others : List ℕ) (others_are : others ≡ left_after turn (remove ready index) places) (next : Lcg) (next_is : next ≡ (pcg32 draws).1) where
        of_then : IsOf g now.limits now.capacity its_turn.history (own its_turn.role.who its_turn.history) its_turn.role
        of_then =
            subst (λ (x : Role). IsOf g now.limits now.capacity its_turn.history (own x.who its_turn.history) x) role_is
            (subst (λ (x : Recording). IsOf g x.limits x.capacity x.history (own q.who x.history) q) book_is of)

        others_then : others ≡ left_after its_turn.turn (remove ready index) (open_places (set later place its_turn.role))
        others_then = others_are ∙ (ap (λ (t : Turn). left_after t (remove ready index) places) turn_is ∙ left_same its_turn.turn (turn_said g now.limits now.capacity now.history r))

        pub pass_goes_on : PassSoFar start new roles (set later place q) others first next
        pass_goes_on =
            subst (λ (x : Recording). PassSoFar start x roles (set later place q) others first next) (sym book_is)
            (subst (λ (x : Role). PassSoFar start (record now { history = its_turn.history }) roles (set later place x) others first next) (sym role_is)
            (subst (λ (l : List ℕ). PassSoFar start (record now { history = its_turn.history }) roles (set later place its_turn.role) l first next) (sym others_then)
            (subst (PassSoFar start (record now { history = its_turn.history }) roles (set later place its_turn.role) (left_after its_turn.turn (remove ready index) (open_places (set later place its_turn.role))) first) (sym next_is)
            (goes_on start now roles later ready first draws so index place r index_is ready_at later_at of_then))))

        pub pass_less : turns_left new.limits new.capacity (scene new.history (set later place q)) others < turns_left now.limits now.capacity (scene now.history later) ready
        pass_less =
            subst (λ (x : Recording). turns_left x.limits x.capacity (scene x.history (set later place q)) others < turns_left now.limits now.capacity (scene now.history later) ready) (sym book_is)
            (subst (λ (x : Role). turns_left now.limits now.capacity (scene its_turn.history (set later place x)) others < turns_left now.limits now.capacity (scene now.history later) ready) (sym role_is)
            (subst (λ (l : List ℕ). turns_left now.limits now.capacity (scene its_turn.history (set later place its_turn.role)) l < turns_left now.limits now.capacity (scene now.history later) ready) (sym others_then)
            (goes_less start now roles later ready first draws so index place r index_is ready_at later_at of_then)))

        pub pass_open : (open_then_are all_roles : List ℕ) → open_then_are ≡ (if is_last_turn turn then all_roles else places) → all_roles ≡ open_places (set later place q) → open_then_are ≡ open_places (set later place q)
        pass_open open_then_are all_roles are all_are =
            are ∙ (ap (λ (t : Turn). if is_last_turn t then all_roles else places) turn_is
            ∙ (ap (λ (l : List ℕ). if is_last_turn its_turn.turn then l else places) (all_are ∙ ap (λ (x : Role). open_places (set later place x)) role_is)
            ∙ (open_then its_turn.turn (turn_said g now.limits now.capacity now.history r) ∙ ap (λ (x : Role). open_places (set later place x)) (sym role_is))))
