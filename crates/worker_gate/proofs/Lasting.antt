-- Rounds of roles until all have ended.
use Rattle.std.proofs.Common.{◌≡◌, ℕ, zero, suc, ◌+◌, ◌-◌, ◌*◌, ◌<◌, ◌≤◌, Bool, true, false, cond, nat_lt, List, [], ◌∷◌, ◌++◌}
use Rattle.std.proofs.Common.{◌⊎◌, inl, inr, Some, length, map, get_or, slice_get, filter, refl, sym, ap, subst, ◌∙◌, append-nil, append_assoc, arith, lt-ltb}
use Rattle.std.proofs.lemmas.Bool.{cases_lt, ltb-false, ltb-true}
use Rattle.std.proofs.lemmas.List.{length-map}
use Rattle.std.proofs.lemmas.List.Elements.{All-from_recursion, All-map, recursion_from_All}
use Rattle.std.proofs.lemmas.List.Folds.{fold_stays}
use Rattle.std.proofs.lemmas.List.Sums.{fold-append}
use Rattle.std.specs.List.{AllByRecursion}
use Rattle.std.proofs.lemmas.Option.{get_or_from_slice_get, slice_get-get_or, slice_get_within}
use Rattle.tp_base.specs.declared.answers.Entry.{Entry}
use Rattle.tp_base.specs.declared.ids.Who.{Who}
use Rattle.tp_base.specs.declared.ids.Who.TheVariants.{Worker}
use Rattle.tp_base.specs.declared.limits.Limits.{Limits}
use Rattle.tp_base.specs.declared.plans.Stage.{Stage}
use Rattle.tp_base.specs.declared.plans.Stage.TheVariants.{Over}
use Rattle.tp_model.specs.History.{IsLegal}
use Rattle.tp_model.specs.Stages.{first_stage, is_over_stage, stage_after, stage_by, stage_from, stage_of, stage_step, IsActor, StageStep}
use Rattle.tp_model.proofs.Facts.{machine_facts}
use Rattle.tp_model.proofs.Fitting.{legal_fits}
use Rattle.recorded.specs.Recordings.{Recording}
use Rattle.turn_lock.specs.Histories.{own}
use Rattle.worker_gate.specs.declared.role.Role.{Role}
use Rattle.worker_gate.specs.Lively.{count_ended, ArePlayedOn, Ends, GoesOn, HadEnded, Moves}
use Rattle.part_places.specs.Places.{Given}
use Rattle.worker_gate.specs.Roles.{is_stage_of, turned, who_of, IsOf}
use Rattle.worker_gate.specs.Rounds.{awake, round_of, rounds, scene, AllOf, ArePlayed, EndedWell, HasRole, HaveEnded, HaveOpenRoles, IsSameMachine, Scene}
use Rattle.worker_gate.specs.Runs.{is_over_in}
use Rattle.worker_gate.proofs.Playing.{legal_turned, once_by, turned_adds, turned_who, who_at}
use Rattle.worker_gate.proofs.TwoRounds.{ended_more, ended_on, goes_on, round_longer, IsFit}
use Rattle.worker_gate.proofs.Walking.{own_append}

-- ---- a round keeps what there is

over_step : (move : StageStep) → stage_by Over move ≡ Over
over_step _ = refl

pub over_grows : (who : Who) (history more : List Entry) → stage_of who history ≡ Over → stage_of who (history ++ more) ≡ Over
over_grows who history more over =
    ap (stage_from (first_stage who)) (own_append who history more) ∙ (fold-append step (first_stage who) (own who history) (own who more)
    ∙ (ap (λ (at : Stage). stage_from at (own who more)) over ∙ fold_stays step Over (λ e. over_step (stage_step e.answer e.call)) (own who more)))
  where
    step : Stage → Entry → Stage
    step at e = stage_after at e.call e.answer

pub same_whos : (roles : List Role) → map who_of (map awake roles) ≡ map who_of roles
same_whos [] = refl
same_whos (r ∷ roles) = ap (λ (l : List Who). r.who ∷ l) (same_whos roles)

-- who was there is
pub role_kept : (roles later : List Role) (who : Who) → map who_of later ≡ map who_of roles → HasRole roles who → HasRole later who
role_kept roles later who same has =
    let k = has.0 in
    let r = has.1 in
    let at : slice_get roles k ≡ Some r = slice_get-get_or roles k r has.2 ∙ ap Some has.3 in
    let found = who_at later roles k r (sym same) at in
    (k, found.0, slice_get_within later k found.0 found.1, get_or_from_slice_get later k found.0 found.0 found.1, found.2 ∙ has.4)

-- whether the next round leaves all as it is
abbrev pub idle_ahead : Bool → ℕ
idle_ahead true = 0
idle_ahead false = 1

module _ (g : Given) (limits : Limits) (capacity : ℕ) where
  round_whos : (history : List Entry) (roles : List Role) → map who_of (round_of g limits capacity history roles).roles ≡ map who_of roles
  round_whos history [] = refl
  round_whos history (r ∷ roles) =
      let t = turned g limits capacity history r in
      ap (λ (w : Who). w ∷ map who_of (round_of g limits capacity t.history roles).roles) (turned_who g limits capacity history r) ∙ ap (λ (l : List Who). r.who ∷ l) (round_whos t.history roles)

  pub legal_round : (history : List Entry) (roles : List Role) → IsLegal limits capacity history → IsLegal limits capacity (round_of g limits capacity history roles).history
  legal_round history [] legal = legal
  legal_round history (r ∷ roles) legal = legal_round (turned g limits capacity history r).history roles (legal_turned g limits capacity history r legal)

  round_more : (history : List Entry) (roles : List Role) → (more : List Entry) × ((round_of g limits capacity history roles).history ≡ history ++ more)
  round_more history [] = ([], sym (append-nil history))
  round_more history (r ∷ roles) =
      let adds = turned_adds g limits capacity history r in
      let rest = round_more (turned g limits capacity history r).history roles in
      (adds.more ++ rest.0, rest.1 ∙ (ap (λ (h : List Entry). h ++ rest.0) adds.is ∙ append_assoc history adds.more rest.0))

  -- who has finished stays so
  open_round : (history : List Entry) (roles : List Role) → HaveOpenRoles limits history roles → HaveOpenRoles limits (round_of g limits capacity history roles).history (round_of g limits capacity history roles).roles
  open_round history roles open_roles who actor = of_role (open_roles who actor)
    where
      of_role : (stage_of who history ≡ Over) ⊎ HasRole roles who → (stage_of who (round_of g limits capacity history roles).history ≡ Over) ⊎ HasRole (round_of g limits capacity history roles).roles who
      of_role (inl over) = let more = round_more history roles in inl (ap (stage_of who) more.1 ∙ over_grows who history more.0 over)
      of_role (inr has) = inr (role_kept roles (round_of g limits capacity history roles).roles who (round_whos history roles) has)

  ended_round : (history : List Entry) (roles : List Role) → AllByRecursion (λ (r : Role). r.ended ≡ true) roles → AllByRecursion (λ (r : Role). r.ended ≡ true) (round_of g limits capacity history roles).roles
  ended_round history [] all = tt
  ended_round history (r ∷ roles) all = (ended_on g limits capacity history r all.0, ended_round (turned g limits capacity history r).history roles all.1)

  rounds_whos : (n : ℕ) (s : Scene) → map who_of (rounds g limits capacity n s).roles ≡ map who_of s.roles
  rounds_whos zero s = refl
  rounds_whos (suc n) s =
      let t = rounds g limits capacity n s in
      round_whos t.history t.roles ∙ rounds_whos n s

  pub played_whos : (s t : Scene) → ArePlayed g limits capacity s t → map who_of t.roles ≡ map who_of s.roles
  played_whos s t played = ap (λ (x : Scene). map who_of x.roles) (sym played.1) ∙ rounds_whos played.0 s

  one_more : (n : ℕ) (s t last : Scene) → rounds g limits capacity n s ≡ t → last ≡ round_of g limits capacity t.history t.roles → rounds g limits capacity (suc n) s ≡ last
  one_more n s t last lead is = ap (λ (x : Scene). round_of g limits capacity x.history x.roles) lead ∙ sym is

  pub played_more : (s t last : Scene) → ArePlayed g limits capacity s t → last ≡ round_of g limits capacity t.history t.roles → ArePlayed g limits capacity s last
  played_more s t last played is = (suc played.0, one_more played.0 s t last played.1 is)

  awake_of : (history : List Entry) (r : Role) → IsOf g limits capacity history (own r.who history) r → IsOf g limits capacity history (own r.who history) (awake r)
  awake_of history r of = record { actor = of.actor; leads = of.leads; place_is = of.place_is; calm = of.calm; sorted = of.sorted; cut = of.cut; rests = λ (ended : false ≡ true). absurd (cc) }

  pub awake_all : (history : List Entry) (roles : List Role) → AllOf g limits capacity history roles → AllOf g limits capacity history (map awake roles)
  awake_all history roles all = record {
    of = All-map (λ (r : Role). IsOf g limits capacity history (own r.who history) r) awake roles (λ k d inside. awake_of history (get_or roles k d) (all.of k d inside));
    once = once_by roles (map awake roles) (same_whos roles) all.once;
  }

  pub awake_well : (history : List Entry) (roles : List Role) → EndedWell limits capacity history (map awake roles)
  awake_well history roles = All-map (λ (r : Role). r.ended ≡ true → (r.place.stage ≡ Over) ⊎ (is_over_in limits capacity history ≡ true)) awake roles (λ k d inside (ended : false ≡ true). absurd (cc))

  worker_over : (number : ℕ) (who : Who) (at : Stage) (over : Bool) → who ≡ Worker number → is_stage_of who at ≡ true → (at ≡ Over) ⊎ (over ≡ true) → over ≡ true
  worker_over number who at over is sorted (inl finished) = let x : is_stage_of (Worker number) Over ≡ true = sym (ap (λ (w : Who). is_stage_of w Over) is) ∙ (sym (ap (is_stage_of who) finished) ∙ sorted) in absurd (cc)
  worker_over number who at over is sorted (inr all) = all

  -- a worker has ended, so all is over
  pub over_by : (history : List Entry) (roles : List Role) (number : ℕ) → HasRole roles (Worker number) → AllOf g limits capacity history roles → EndedWell limits capacity history roles → HaveEnded roles → is_over_in limits capacity history ≡ true
  over_by history roles number has all well ended =
      let k = has.0 in
      let r = get_or roles k has.1 in
      let of = all.of k has.1 has.2 in
      worker_over number r.who r.place.stage (is_over_in limits capacity history) (ap who_of has.3 ∙ has.4) of.sorted (well k has.1 has.2 (ended k has.1 has.2))

  -- ---- how many rounds there may still be

  abbrev next_scene : Scene → Scene
  next_scene s = round_of g limits capacity s.history s.roles

  -- the entries that the history may still get, and the roles that haven't ended
  abbrev pub left : Scene → ℕ
  left s = (capacity + limits.clients - length s.history) + (length s.roles - count_ended s.roles)

  -- twice as many rounds, since one of two may leave all as it is, but for the marks
  abbrev pub rounds_left : Scene → ℕ
  rounds_left s = 2 * left s + idle_ahead (nat_lt (left (next_scene s)) (left s))

  pub few_ended : (roles : List Role) → count_ended roles ≤ length roles
  few_ended [] = omega arith
  few_ended (r ∷ roles) = by r.ended (few_ended roles)
    where
      by : (b : Bool) → count_ended roles ≤ length roles → length (cond b (r ∷ filter (λ (x : Role). x.ended) roles) (filter (λ (x : Role). x.ended) roles)) ≤ length (r ∷ roles)
      by true few = omega (arith, few)
      by false few = omega (arith, few)

  as_many : (s : Scene) → length (next_scene s).roles ≡ length s.roles
  as_many s = sym (length-map (next_scene s).roles who_of) ∙ (ap length (round_whos s.history s.roles) ∙ length-map s.roles who_of)

  no_more_left : (s : Scene) → left (next_scene s) ≤ left s
  no_more_left s = omega (arith, round_longer g limits capacity s.history s.roles, ended_more g limits capacity s.history s.roles, as_many s)

  fewer_left : (s : Scene) → IsFit g limits capacity s → (HaveEnded s.roles → ⊥) → left (next_scene (next_scene s)) < left s
  fewer_left s fit going = of_kind (goes_on g limits capacity s fit)
    where
      fits : length (next_scene (next_scene s)).history ≤ capacity + limits.clients
      fits =
          omega (
            arith,
            legal_fits limits capacity (capacity + limits.clients) (next_scene (next_scene s)).history (omega arith) (omega arith)
                (legal_round (next_scene s).history (next_scene s).roles (legal_round s.history s.roles fit.legal)),
          )

      of_kind : GoesOn s (next_scene (next_scene s)) → left (next_scene (next_scene s)) < left s
      of_kind (Moves more) =
          omega (arith, more, fits, as_many s, as_many (next_scene s), ended_more g limits capacity s.history s.roles, ended_more g limits capacity (next_scene s).history (next_scene s).roles)
      of_kind (Ends more) =
          omega (arith, more, as_many s, as_many (next_scene s), few_ended (next_scene (next_scene s)).roles, round_longer g limits capacity s.history s.roles, round_longer g limits capacity (next_scene s).history (next_scene s).roles)
      of_kind (HadEnded all) = absurd (going all)

  pub fewer_rounds : (s : Scene) → IsFit g limits capacity s → (HaveEnded s.roles → ⊥) → rounds_left (next_scene s) < rounds_left s
  fewer_rounds s fit going = by (nat_lt (left (next_scene s)) (left s)) refl
    where
      one_most : (b : Bool) → idle_ahead b ≤ 1
      one_most true = omega arith
      one_most false = omega arith

      by : (b : Bool) → nat_lt (left (next_scene s)) (left s) ≡ b → rounds_left (next_scene s) < 2 * left s + idle_ahead b
      by true is =
          let fewer = ltb-true (left (next_scene s)) (left s) is in
          let one = one_most (nat_lt (left (next_scene (next_scene s))) (left (next_scene s))) in
          omega (arith, fewer, one)
      by false is =
          let same = ltb-false (left (next_scene s)) (left s) is in
          let fewer = fewer_left s fit going in
          let less : left (next_scene (next_scene s)) < left (next_scene s) = omega (arith, same, fewer) in
          let none : idle_ahead (nat_lt (left (next_scene (next_scene s))) (left (next_scene s))) ≡ 0 = ap idle_ahead (lt-ltb (left (next_scene (next_scene s))) (left (next_scene s)) less) in
          let most = no_more_left s in
          omega (arith, none, most)

-- ---- rounds so far

module _ (g : Given) where
  abbrev first_scene : Recording → List Role → Scene
  first_scene start roles = scene start.history (map awake roles)

  pub record RoundsSoFar (start now : Recording) (roles later : List Role) : Type 0 where
    pub same : IsSameMachine start now
    pub legal : IsLegal now.limits now.capacity now.history
    pub played : ArePlayed g start.limits start.capacity (first_scene start roles) (scene now.history later)
    pub all : AllOf g now.limits now.capacity now.history later
    pub well : EndedWell now.limits now.capacity now.history later
    pub fits : (n : ℕ) → n ≤ played.0 → IsFit g start.limits start.capacity (rounds g start.limits start.capacity n (first_scene start roles))

  same_fit : (old new : Recording) (s t : Scene) → IsSameMachine old new → s ≡ t → IsFit g old.limits old.capacity s → IsFit g new.limits new.capacity t
  same_fit old new s t same is fit =
      subst (λ (l : Limits). IsFit g l new.capacity t) (sym same.limits) (subst (λ (n : ℕ). IsFit g old.limits n t) (sym same.capacity) (subst (IsFit g old.limits old.capacity) is fit))

  other_way : (old new : Recording) → IsSameMachine old new → IsSameMachine new old
  other_way old new same = record { limits = sym same.limits; capacity = sym same.capacity }

  pub rounds_begin : (start : Recording) (roles later : List Role) → IsLegal start.limits start.capacity start.history → AllOf g start.limits start.capacity start.history roles → HaveOpenRoles start.limits start.history roles → 1 ≤ start.limits.workers
      → later ≡ map awake roles → RoundsSoFar start start roles later
  rounds_begin start roles later legal all open_roles worker is = subst (RoundsSoFar start start roles) (sym is) (record {
    same = record { limits = refl; capacity = refl };
    legal = legal;
    played = (0, refl);
    all = awake_all g start.limits start.capacity start.history roles all;
    well = awake_well g start.limits start.capacity start.history roles;
    fits = λ n low.
        let none : 0 ≡ n = omega (arith, low) in
        subst (λ (k : ℕ). IsFit g start.limits start.capacity (rounds g start.limits start.capacity k (first_scene start roles))) none
        (record {
          legal = legal;
          all = awake_all g start.limits start.capacity start.history roles all;
          well = awake_well g start.limits start.capacity start.history roles;
          open_roles = λ who actor. awake_open who (open_roles who actor);
          worker = worker;
        });
  })
    where
      awake_open : (who : Who) → (stage_of who start.history ≡ Over) ⊎ HasRole roles who → (stage_of who start.history ≡ Over) ⊎ HasRole (map awake roles) who
      awake_open who (inl over) = inl over
      awake_open who (inr has) = inr (role_kept roles (map awake roles) who (same_whos roles) has)

  fit_now : (start now : Recording) (roles later : List Role) → RoundsSoFar start now roles later → IsFit g now.limits now.capacity (scene now.history later)
  fit_now start now roles later so = same_fit start now (rounds g start.limits start.capacity so.played.0 (first_scene start roles)) (scene now.history later) so.same so.played.1 (so.fits so.played.0 (omega arith))

  module _ (start now last : Recording) (roles later after : List Role) (so : RoundsSoFar start now roles later) (same : IsSameMachine now last)
      (played : scene last.history after ≡ round_of g now.limits now.capacity now.history later) (all : AllOf g last.limits last.capacity last.history after)
      (legal : IsLegal last.limits last.capacity last.history) (well : EndedWell last.limits last.capacity last.history after) where
    all_same : IsSameMachine start last
    all_same = record { limits = same.limits ∙ so.same.limits; capacity = same.capacity ∙ so.same.capacity }

    -- one round more leads from the first scene
    lead : rounds g start.limits start.capacity (suc so.played.0) (first_scene start roles) ≡ scene last.history after
    lead =
        one_more g start.limits start.capacity so.played.0 (first_scene start roles) (scene now.history later) (scene last.history after) so.played.1
        (played ∙ (ap (λ (l : Limits). round_of g l now.capacity now.history later) so.same.limits ∙ ap (λ (n : ℕ). round_of g start.limits n now.history later) so.same.capacity))

    now_fit : IsFit g now.limits now.capacity (scene now.history later)
    now_fit = fit_now start now roles later so

    last_fit : IsFit g last.limits last.capacity (scene last.history after)
    last_fit =
        let open_roles = open_round g now.limits now.capacity now.history later now_fit.open_roles in
        record {
          legal = legal;
          all = all;
          well = well;
          open_roles = subst (λ (l : Limits). HaveOpenRoles l last.history after) (sym same.limits) (subst (λ (s : Scene). HaveOpenRoles now.limits s.history s.roles) (sym played) open_roles);
          worker = subst (λ (l : Limits). 1 ≤ l.workers) (sym same.limits) now_fit.worker;
        }

    fits_more : (n : ℕ) → n ≤ suc so.played.0 → IsFit g start.limits start.capacity (rounds g start.limits start.capacity n (first_scene start roles))
    fits_more n low = by (cases_lt n (suc so.played.0))
      where
        by : (n < suc so.played.0) ⊎ (suc so.played.0 ≤ n) → IsFit g start.limits start.capacity (rounds g start.limits start.capacity n (first_scene start roles))
        by (inl before) = so.fits n (omega (arith, before))
        by (inr end) =
            let is : suc so.played.0 ≡ n = omega (arith, low, end) in
            subst (λ (k : ℕ). IsFit g start.limits start.capacity (rounds g start.limits start.capacity k (first_scene start roles))) is
            (same_fit last start (scene last.history after) (rounds g start.limits start.capacity (suc so.played.0) (first_scene start roles)) (other_way start last all_same) (sym lead) last_fit)

    pub rounds_go_on : RoundsSoFar start last roles after
    rounds_go_on = record { same = all_same; legal = legal; played = (suc so.played.0, lead); all = all; well = well; fits = fits_more }

    -- fewer rounds are left, unless all have ended
    pub rounds_fewer : (HaveEnded after → ⊥) → rounds_left g last.limits last.capacity (scene last.history after) < rounds_left g now.limits now.capacity (scene now.history later)
    rounds_fewer going =
        let before : HaveEnded later → ⊥ = λ (ended : HaveEnded later).
        going (ap_ended (All-from_recursion (λ (r : Role). r.ended ≡ true) (round_of g now.limits now.capacity now.history later).roles (ended_round g now.limits now.capacity now.history later (recursion_from_All (λ (r : Role). r.ended ≡ true) later ended)))) in
        subst (λ (l : Limits). rounds_left g l last.capacity (scene last.history after) < rounds_left g now.limits now.capacity (scene now.history later)) (sym same.limits)
        (subst (λ (n : ℕ). rounds_left g now.limits n (scene last.history after) < rounds_left g now.limits now.capacity (scene now.history later)) (sym same.capacity)
        (subst (λ (s : Scene). rounds_left g now.limits now.capacity s < rounds_left g now.limits now.capacity (scene now.history later)) (sym played) (fewer_rounds g now.limits now.capacity (scene now.history later) now_fit before)))
      where
        ap_ended : HaveEnded (round_of g now.limits now.capacity now.history later).roles → HaveEnded after
        ap_ended ended = subst (λ (s : Scene). HaveEnded s.roles) (sym played) ended

  module _ (start now : Recording) (roles later : List Role) (so : RoundsSoFar start now roles later) where
    pub rounds_over : HaveEnded later → is_over_in now.limits now.capacity now.history ≡ true
    rounds_over ended =
        let fit = fit_now start now roles later so in
        let actor : IsActor now.limits (Worker 1) = (omega arith, fit.worker) in
        of_role actor (fit.open_roles (Worker 1) actor)
      where
        of_role : IsActor now.limits (Worker 1) → (stage_of (Worker 1) now.history ≡ Over) ⊎ HasRole later (Worker 1) → is_over_in now.limits now.capacity now.history ≡ true
        of_role actor (inl over) =
            let e : false ≡ true = ((machine_facts now.limits now.capacity now.history so.legal).stands (Worker 1) actor).finished ∙ ap is_over_stage over in
            absurd (cc)
        of_role actor (inr has) = over_by g now.limits now.capacity now.history later 1 has so.all so.well ended

    pub rounds_played : ArePlayedOn g start.limits start.capacity (first_scene start roles) (scene now.history later)
    rounds_played = record {
      count = so.played.0;
      lead = so.played.1;
      go_on = λ n within. goes_on g start.limits start.capacity (rounds g start.limits start.capacity n (first_scene start roles)) (so.fits n (omega (arith, within)));
    }
