-- Drawn turns aren't in vain: two passes in which nothing happens are two rounds in which nothing happens.
use Rattle.std.proofs.Common.{◌≡◌, ℕ, zero, suc, ◌+◌, ◌<◌, ◌≤◌, Bool, true, false, List, [], ◌∷◌, ◌⊎◌, inl, inr, Some, length, set, get_or, slice_get, refl, sym, ap, subst, ◌∙◌, length-append, arith}
use Rattle.std.specs.Prelude.{remove}
use Rattle.std.proofs.Math.Nat.{mod-lt}
use Rattle.std.proofs.lemmas.Bool.{cases_lt}
use Rattle.std.proofs.lemmas.List.{nil_from_length}
use Rattle.std.proofs.lemmas.List.Elements.{recursion_from_All}
use Rattle.std.proofs.lemmas.Option.{slice_get-get_or}
use Rattle.tp_base.specs.declared.answers.Entry.{Entry}
use Rattle.tp_base.specs.declared.limits.Limits.{Limits}
use Rattle.tp_model.specs.Stages.{IsActor}
use Rattle.rand_pcg.specs.Pcg.{pcg32}
use Rattle.turn_lock.specs.Histories.{own}
use Rattle.worker_gate.specs.declared.role.Role.{Role}
use Rattle.worker_gate.specs.declared.role.Turn.{Turn}
use Rattle.worker_gate.specs.declared.role.Turn.TheVariants.{Moved, Waiting, Ended}
use Rattle.worker_gate.specs.Drawn.{drawn_turn, drawn_turns, index_drawn, open_places, or_all, progress, ready_after, scene_of, with_place, with_turn, Drawing, GoOnBy}
use Rattle.worker_gate.specs.Lively.{count_ended, Ends, GoesOn, Moves}
use Rattle.part_places.specs.Places.{Given}
use Rattle.worker_gate.specs.Roles.{turned, IsOf, Turned}
use Rattle.worker_gate.specs.Rounds.{round_of, scene, Scene}
use Rattle.worker_gate.proofs.Drawing.{count_more, count_same, open_same, turn_by, turn_said, turns_both, turns_follow, TurnSaid}
use Rattle.worker_gate.proofs.Ending.{actors_of}
use Rattle.worker_gate.proofs.PassLots.{all_begin, calm_round, found, length_removed, taken, Among, IsFound}
use Rattle.worker_gate.proofs.TwoRounds.{goes_on, IsFit}

module _ (g : Given) (limits : Limits) (capacity : ℕ) where
  abbrev turns : ℕ → Drawing → Drawing
  turns n d = drawn_turns g limits capacity n d

  -- ---- a turn takes nothing back

  turn_grows : (d : Drawing) → progress (scene_of d) ≤ progress (scene_of (drawn_turn g limits capacity d))
  turn_grows d = turn_by g limits capacity (λ (e : Drawing). progress (scene_of d) ≤ progress (scene_of e)) d (omega arith) (λ index place r there. by_turn place r there (turned g limits capacity d.history r).turn (turn_said g limits capacity d.history r))
    where
      by_end : (place : ℕ) (r : Role) → slice_get d.roles place ≡ Some r → (b : Bool) → r.ended ≡ b → (turned g limits capacity d.history r).role.ended ≡ true → count_ended d.roles ≤ count_ended (set d.roles place (turned g limits capacity d.history r).role)
      by_end place r there true was ended = let e = count_same d.roles place r (turned g limits capacity d.history r).role there (ended ∙ sym was) in omega (arith, e)
      by_end place r there false was ended = let e = count_more d.roles place r (turned g limits capacity d.history r).role there was ended in omega (arith, e)

      by_turn : (place : ℕ) (r : Role) → slice_get d.roles place ≡ Some r → (turn : Turn) → TurnSaid d.history r (turned g limits capacity d.history r) turn
          → progress (scene_of d) ≤ progress (scene (turned g limits capacity d.history r).history (set d.roles place (turned g limits capacity d.history r).role))
      by_turn place r there Moved said = let n = said.0 in let e = count_same d.roles place r (turned g limits capacity d.history r).role there said.1 in omega (arith, n, e)
      by_turn place r there Waiting said =
          let n : length (turned g limits capacity d.history r).history ≡ length d.history = ap length said.0 in
          let e = count_same d.roles place r (turned g limits capacity d.history r).role there said.1 in
          omega (arith, n, e)
      by_turn place r there Ended said =
          let n : length (turned g limits capacity d.history r).history ≡ length d.history = ap length said.0 in
          let e = by_end place r there r.ended refl said.1 in
          omega (arith, n, e)

  turns_grow : (n : ℕ) (d : Drawing) → progress (scene_of d) ≤ progress (scene_of (turns n d))
  turns_grow zero d = omega arith
  turns_grow (suc n) d = let rest = turns_grow n d in let one = turn_grows (turns n d) in omega (arith, rest, one)

  -- ---- a pass in which nothing has happened so far

  record IsCalm (e d : Drawing) (done : ℕ) : Type 0 where
    ready : List ℕ
    among : Among g limits capacity e.history true 0 e.roles d.roles ready
    history_is : d.history ≡ e.history
    ready_is : d.ready ≡ or_all ready (open_places d.roles)
    open_is : open_places d.roles ≡ open_places e.roles
    left : done + length ready ≡ length e.ready
    least : progress (scene_of e) ≤ progress (scene_of d)

  -- after so many turns something has happened, or nothing
  abbrev Went : Drawing → Drawing → ℕ → Type 0
  Went e d done = (progress (scene_of e) < progress (scene_of d)) ⊎ IsCalm e d done

  begins : (e : Drawing) → e.ready ≡ open_places e.roles → IsCalm e e 0
  begins e full = record {
    ready = e.ready;
    among = subst (Among g limits capacity e.history true 0 e.roles e.roles) (sym full) (all_begin g limits capacity e.history 0 e.roles);
    history_is = refl;
    ready_is = full ∙ (sym (or_itself (open_places e.roles)) ∙ ap (λ (l : List ℕ). or_all l (open_places e.roles)) (sym full));
    open_is = refl;
    left = omega arith;
    least = omega arith;
  }
    where
      or_itself : (places : List ℕ) → or_all places places ≡ places
      or_itself [] = refl
      or_itself (p ∷ places) = refl

  module _ (e d : Drawing) (done : ℕ) (so : IsCalm e d done) (some : done < length e.ready) where
    or_some : (places all : List ℕ) → 0 < length places → or_all places all ≡ places
    or_some [] all there = absurd (omega (arith, there))
    or_some (p ∷ places) all there = refl

    some_ready : 0 < length so.ready
    some_ready = let n = so.left in omega (arith, n, some)

    ready_now : d.ready ≡ so.ready
    ready_now = so.ready_is ∙ or_some so.ready (open_places d.roles) some_ready

    abbrev index : ℕ
    index = index_drawn d.draws (length so.ready)

    abbrev place : ℕ
    place = get_or so.ready index 0

    at : slice_get so.ready index ≡ Some place
    at = slice_get-get_or so.ready index 0 (mod-lt (pcg32 d.draws).0 some_ready)

    f : IsFound g limits capacity e.history true 0 e.roles d.roles place
    f = found g limits capacity e.history true 0 e.roles d.roles so.ready so.among index place at

    further_is : f.further ≡ place
    further_is = let is = f.place_is in omega (arith, is)

    now_at : slice_get d.roles place ≡ Some f.now
    now_at = sym (ap (slice_get d.roles) further_is) ∙ f.now_at

    role_at : slice_get e.roles place ≡ Some f.role
    role_at = sym (ap (slice_get e.roles) further_is) ∙ f.role_at

    abbrev t : Turned
    t = turned g limits capacity d.history f.now

    abbrev behind : Turn → Drawing
    behind turn = record { history = t.history; roles = set d.roles place t.role; ready = ready_after turn (remove so.ready index) (open_places (set d.roles place t.role)); draws = (pcg32 d.draws).1 }

    is_behind : drawn_turn g limits capacity d ≡ behind t.turn
    is_behind =
        let c : Drawing = record d { ready = so.ready } in
        ap (λ (l : List ℕ). drawn_turn g limits capacity (record d { ready = l })) ready_now
        ∙ (ap (with_place g limits capacity index c) at ∙ ap (with_turn g limits capacity index place c) now_at)

    by_turn : (turn : Turn) → TurnSaid d.history f.now t turn → Went e (behind turn) (suc done)
    by_turn Moved said =
        let n = said.0 in
        let ended = count_same d.roles place f.now t.role now_at said.1 in
        let least = so.least in
        inl (omega (arith, n, ended, least))
    by_turn Ended said =
        let n : length t.history ≡ length d.history = ap length said.0 in
        let ended = count_more d.roles place f.now t.role now_at f.left.going said.1 in
        let least = so.least in
        inl (omega (arith, n, ended, least))
    by_turn Waiting said =
        let same : t ≡ turned g limits capacity e.history f.role = ap (λ (h : List Entry). turned g limits capacity h f.now) so.history_is ∙ ap (turned g limits capacity e.history) (f.left.same refl) in
        let one = length_removed so.ready index place at in
        let all = so.left in
        let least = so.least in
        let n : length t.history ≡ length d.history = ap length said.0 in
        let ended = count_same d.roles place f.now t.role now_at said.1 in
        let sum : place ≡ 0 + place = omega arith in
        inr (record {
          ready = remove so.ready index;
          among = taken g limits capacity e.history true 0 e.roles d.roles so.ready so.among index place f.role t.role (at ∙ ap Some sum) role_at
              (record { role_is = λ _. ap (λ (x : Turned). x.role) same; adds_nothing = λ _. sym (ap (λ (x : Turned). x.history) same) ∙ (said.0 ∙ so.history_is) });
          history_is = said.0 ∙ so.history_is;
          ready_is = refl;
          open_is = open_same 0 d.roles place f.now t.role now_at said.1 ∙ so.open_is;
          left = omega (arith, one, all);
          least = omega (arith, n, ended, least);
        })

    step : Went e (drawn_turn g limits capacity d) (suc done)
    step = subst (λ (x : Drawing). Went e x (suc done)) (sym is_behind) (by_turn t.turn (turn_said g limits capacity d.history f.now))

  went : (e : Drawing) → e.ready ≡ open_places e.roles → (n : ℕ) → n ≤ length e.ready → Went e (turns n e) n
  went e full zero low = inr (begins e full)
  went e full (suc n) low = by (went e full n (omega (arith, low)))
    where
      by : Went e (turns n e) n → Went e (turns (suc n) e) (suc n)
      by (inl further) = let more = turn_grows (turns n e) in inl (omega (arith, further, more))
      by (inr calm) = step e (turns n e) n calm (omega (arith, low))

  -- ---- a whole pass

  record IsRound (e d : Drawing) : Type 0 where
    round : scene_of d ≡ round_of g limits capacity e.history e.roles
    full : d.ready ≡ open_places d.roles
    count : length d.ready ≡ length e.ready
    least : progress (scene_of e) ≤ progress (scene_of d)

  calm_pass : (e d : Drawing) → e.ready ≡ open_places e.roles → IsCalm e d (length e.ready) → IsRound e d
  calm_pass e d full so =
      let left = so.left in
      let none : so.ready ≡ [] = nil_from_length so.ready (omega (arith, left)) in
      let again : d.ready ≡ open_places d.roles = so.ready_is ∙ ap (λ (l : List ℕ). or_all l (open_places d.roles)) none in
      let among = subst (Among g limits capacity e.history true 0 e.roles d.roles) none so.among in
      record {
        round = ap (λ (h : List Entry). scene h d.roles) so.history_is ∙ sym (calm_round g limits capacity e.history 0 e.roles d.roles among);
        full = again;
        count = ap length (again ∙ (so.open_is ∙ sym full));
        least = so.least;
      }

  abbrev two : Scene → Scene
  two s = let t = round_of g limits capacity s.history s.roles in round_of g limits capacity t.history t.roles

  -- in two of them the roles go on
  module _ (e : Drawing) (full : e.ready ≡ open_places e.roles) (fit : IsFit g limits capacity (scene_of e)) where
    abbrev one_pass : Drawing
    one_pass = turns (length e.ready) e

    abbrev both_passes : Drawing
    both_passes = turns (length e.ready) one_pass

    longer : (n : ℕ) → length e.history ≤ length (turns n e).history
    longer n =
        let more = turns_follow g limits capacity (IsActor limits) n e (actors_of g limits capacity e.history e.roles (recursion_from_All (λ (r : Role). IsOf g limits capacity e.history (own r.who e.history) r) e.roles fit.all.of)) in
        let many = ap length more.is in
        omega (arith, many, length-append e.history more.more)

    further : (d : Drawing) → length e.history ≤ length d.history → progress (scene_of e) < progress (scene_of d) → GoesOn (scene_of e) (scene_of d)
    further d as_long more = by (cases_lt (length e.history) (length d.history))
      where
        by : (length e.history < length d.history) ⊎ (length d.history ≤ length e.history) → GoesOn (scene_of e) (scene_of d)
        by (inl less) = Moves less
        by (inr few) = Ends (omega (arith, more, few))

    as_long : length e.history ≤ length both_passes.history
    as_long =
        let both = turns_both g limits capacity (length e.ready) (length e.ready) (length e.ready + length e.ready) e refl in
        let all = longer (length e.ready + length e.ready) in
        subst (λ (d : Drawing). length e.history ≤ length d.history) both all

    pub passes : GoesOn (scene_of e) (scene_of both_passes)
    passes = by_first (went e full (length e.ready) (omega arith))
      where
        by_second : (first : IsRound e one_pass) → Went one_pass (turns (length one_pass.ready) one_pass) (length one_pass.ready) → GoesOn (scene_of e) (scene_of (turns (length one_pass.ready) one_pass))
        by_second first (inl more) =
            let least = first.least in
            let same = first.count in
            further (turns (length one_pass.ready) one_pass) (subst (λ (n : ℕ). length e.history ≤ length (turns n one_pass).history) (sym same) as_long) (omega (arith, more, least))
        by_second first (inr calm) =
            let second = calm_pass one_pass (turns (length one_pass.ready) one_pass) first.full calm in
            subst (GoesOn (scene_of e)) (sym (second.round ∙ ap (λ (s : Scene). round_of g limits capacity s.history s.roles) first.round)) (goes_on g limits capacity (scene_of e) fit)

        by_first : Went e one_pass (length e.ready) → GoesOn (scene_of e) (scene_of both_passes)
        by_first (inl more) = let rest = turns_grow (length e.ready) one_pass in further both_passes as_long (omega (arith, more, rest))
        by_first (inr calm) =
            let first = calm_pass e one_pass full calm in
            subst (λ (n : ℕ). GoesOn (scene_of e) (scene_of (turns n one_pass))) first.count (by_second first (went one_pass first.full (length one_pass.ready) (omega arith)))

  pub two_passes : (n later : ℕ) (d : Drawing) → (n ≤ later → IsFit g limits capacity (scene_of (turns n d))) → GoOnBy n later (turns n d) (turns later d)
  two_passes n later d fit full is =
      let e = turns n d in
      let k = length e.ready in
      let one : k + n ≡ k + n = refl in
      let both : turns later d ≡ turns k (turns k e) = turns_both g limits capacity k (k + n) later d (omega (arith, is)) ∙ ap (turns k) (turns_both g limits capacity k n (k + n) d one) in
      subst (λ (x : Drawing). GoesOn (scene_of e) (scene_of x)) (sym both) (passes e full (fit (omega (arith, is))))
