-- Passes until all have ended, and the one history that they make.
use Rattle.std.proofs.Common.{◌≡◌, ℕ, zero, suc, ◌+◌, ◌-◌, ◌<◌, ◌≤◌, Bool, true, false, nat_le, nat_lt, List, [], ◌∷◌, ◌++◌, ◌⊎◌, inl, inr, length, map, refl, sym, ap, subst, ◌∙◌, arith}
use Rattle.std.proofs.lemmas.Bool.{cases_lt}
use Rattle.std.proofs.lemmas.Bool.Decides.{nat_tests}
use Rattle.std.proofs.lemmas.List.{length-map}
use Rattle.std.proofs.lemmas.List.Elements.{All-from_recursion, recursion_from_All}
use Rattle.tp_base.specs.declared.answers.Entry.{Entry}
use Rattle.tp_base.specs.declared.ids.Who.TheVariants.{Worker}
use Rattle.tp_base.specs.declared.limits.Limits.{Limits}
use Rattle.tp_base.specs.declared.plans.Stage.TheVariants.{Over}
use Rattle.tp_model.specs.History.{IsLegal}
use Rattle.tp_model.specs.Stages.{is_over_stage, stage_of, IsActor}
use Rattle.tp_model.proofs.Facts.{machine_facts}
use Rattle.tp_model.proofs.Fitting.{legal_fits}
use Rattle.rand_pcg.specs.Lcg.{Lcg}
use Rattle.recorded.specs.Recordings.{Recording}
use Rattle.turn_lock.specs.Histories.{own}
use Rattle.worker_gate.specs.declared.role.Role.{Role}
use Rattle.worker_gate.specs.Alone.{other_roles}
use Rattle.worker_gate.specs.Drawn.{drawing, drawn_turns, open_places, scene_of, seeded, AreDrawn, AreDrawnFrom, AreDrawnOn, Drawing, HasPassed, IsDrawn, IsSound}
use Rattle.part_places.specs.Places.{Given}
use Rattle.worker_gate.specs.Roles.{who_of, IsOf}
use Rattle.worker_gate.specs.Rounds.{round_of, scene, AllOf, EndedWell, HasRole, HaveEnded, HaveOpenRoles, IsSameMachine, Scene}
use Rattle.worker_gate.specs.Runs.{is_over_in}
use Rattle.worker_gate.proofs.Drawing.{all_ended_none, none_open_ended, turn_still, turns_both, turns_follow, turns_whos}
use Rattle.worker_gate.proofs.DrawnLively.{two_passes}
use Rattle.worker_gate.proofs.Ending.{actors_of, AreBy, Follows}
use Rattle.worker_gate.proofs.Lasting.{few_ended, fewer_rounds, idle_ahead, left, over_by, over_grows, role_kept, rounds_left}
use Rattle.worker_gate.proofs.OneHistory.{all_of_one, ends_same}
use Rattle.worker_gate.proofs.Playing.{AreStanding}
use Rattle.worker_gate.proofs.TwoRounds.{IsFit}

-- ---- what drawn turns add

module _ (g : Given) (limits : Limits) (capacity : ℕ) (seed : ℕ) (history later : List Entry) (roles after : List Role) (drawn : AreDrawn g limits capacity seed (scene history roles) (scene later after)) where
  abbrev start : Drawing
  start = drawing (seeded seed) (scene history roles)

  pub drawn_whos : map who_of after ≡ map who_of roles
  drawn_whos = sym (ap (λ (s : Scene). map who_of s.roles) drawn.1) ∙ turns_whos g limits capacity drawn.0 start

  pub drawn_more : AllOf g limits capacity history roles → Follows (IsActor limits) history later
  drawn_more all =
      subst (λ (s : Scene). Follows (IsActor limits) history s.history) drawn.1
      (turns_follow g limits capacity (IsActor limits) drawn.0 start (actors_of g limits capacity history roles (recursion_from_All (λ (r : Role). IsOf g limits capacity history (own r.who history) r) roles all.of)))

-- ---- passes so far

module _ (g : Given) where
  pub record PassesSoFar (start now : Recording) (roles later : List Role) (seed : ℕ) (draws : Lcg) : Type 0 where
    pub same : IsSameMachine start now
    pub stands : AreStanding g now later
    pub drawn : AreDrawnFrom g start.limits start.capacity (seeded seed) (scene start.history roles) draws (scene now.history later)
    pub open_roles : HaveOpenRoles now.limits now.history later
    pub worker : 1 ≤ now.limits.workers

  pub passes_begin : (start : Recording) (roles : List Role) (seed : ℕ) (draws : Lcg) → draws ≡ seeded seed → IsLegal start.limits start.capacity start.history → AllOf g start.limits start.capacity start.history roles
      → EndedWell start.limits start.capacity start.history roles → HaveOpenRoles start.limits start.history roles → 1 ≤ start.limits.workers → PassesSoFar start start roles roles seed draws
  passes_begin start roles seed draws seeded_is legal all well open_roles worker = record {
    same = record { limits = refl; capacity = refl };
    stands = record { legal = legal; all = all; well = well };
    drawn = record {
      count = 0;
      lead = ap (λ (x : Lcg). drawing x (scene start.history roles)) (sym seeded_is);
      sound = λ n low.
          let none : 0 ≡ n = omega (arith, low) in
          subst (λ (k : ℕ). IsSound g start.limits start.capacity (scene_of (drawn_turns g start.limits start.capacity k (drawing (seeded seed) (scene start.history roles))))) none (record { legal = legal; all = all; well = well });
    };
    open_roles = open_roles;
    worker = worker;
  }

  -- who had finished has, and who was there is
  open_kept : (limits : Limits) (history later : List Entry) (roles after : List Role) → map who_of after ≡ map who_of roles → Follows (IsActor limits) history later → HaveOpenRoles limits history roles → HaveOpenRoles limits later after
  open_kept limits history later roles after whos more open_roles who actor = of_role (open_roles who actor)
    where
      of_role : (stage_of who history ≡ Over) ⊎ HasRole roles who → (stage_of who later ≡ Over) ⊎ HasRole after who
      of_role (inl over) = inl (ap (stage_of who) more.is ∙ over_grows who history more.more over)
      of_role (inr has) = inr (role_kept roles after who whos has)

  module _ (start now last : Recording) (roles later after : List Role) (seed : ℕ) (draws next : Lcg) (so : PassesSoFar start now roles later seed draws) (same : IsSameMachine now last)
      (drawn : AreDrawnFrom g now.limits now.capacity draws (scene now.history later) next (scene last.history after)) (stands : AreStanding g last after) where
    abbrev from_now : Drawing
    from_now = drawing draws (scene now.history later)

    whos : map who_of after ≡ map who_of later
    whos = sym (ap (λ (d : Drawing). map who_of d.roles) drawn.lead) ∙ turns_whos g now.limits now.capacity drawn.count from_now

    actors : AreBy (IsActor now.limits) later
    actors = actors_of g now.limits now.capacity now.history later (recursion_from_All (λ (r : Role). IsOf g now.limits now.capacity now.history (own r.who now.history) r) later so.stands.all.of)

    more : Follows (IsActor now.limits) now.history last.history
    more = subst (λ (d : Drawing). Follows (IsActor now.limits) now.history d.history) drawn.lead (turns_follow g now.limits now.capacity (IsActor now.limits) drawn.count from_now actors)

    drawn_there : AreDrawnFrom g start.limits start.capacity draws (scene now.history later) next (scene last.history after)
    drawn_there =
        subst (λ (l : Limits). AreDrawnFrom g l start.capacity draws (scene now.history later) next (scene last.history after)) so.same.limits
        (subst (λ (n : ℕ). AreDrawnFrom g now.limits n draws (scene now.history later) next (scene last.history after)) so.same.capacity drawn)

    abbrev from_start : Drawing
    from_start = drawing (seeded seed) (scene start.history roles)

    abbrev all_turns : ℕ
    all_turns = drawn_there.count + so.drawn.count

    both_turns : (k n : ℕ) → k ≡ n + so.drawn.count → drawn_turns g start.limits start.capacity k from_start ≡ drawn_turns g start.limits start.capacity n (drawing draws (scene now.history later))
    both_turns k n is = turns_both g start.limits start.capacity n so.drawn.count k from_start is ∙ ap (drawn_turns g start.limits start.capacity n) so.drawn.lead

    all_sound : (k : ℕ) → k ≤ all_turns → IsSound g start.limits start.capacity (scene_of (drawn_turns g start.limits start.capacity k from_start))
    all_sound k low = by (cases_lt k so.drawn.count)
      where
        by : (k < so.drawn.count) ⊎ (so.drawn.count ≤ k) → IsSound g start.limits start.capacity (scene_of (drawn_turns g start.limits start.capacity k from_start))
        by (inl before) = so.drawn.sound k (omega (arith, before))
        by (inr behind) =
            let is : k ≡ k - so.drawn.count + so.drawn.count = omega (arith, behind) in
            subst (λ (d : Drawing). IsSound g start.limits start.capacity (scene_of d)) (sym (both_turns k (k - so.drawn.count) is)) (drawn_there.sound (k - so.drawn.count) (omega (arith, low, behind)))

    pub passes_go_on : PassesSoFar start last roles after seed next
    passes_go_on = record {
      same = record { limits = same.limits ∙ so.same.limits; capacity = same.capacity ∙ so.same.capacity };
      stands = stands;
      drawn = record { count = all_turns; lead = both_turns all_turns drawn_there.count refl ∙ drawn_there.lead; sound = all_sound };
      open_roles = subst (λ (l : Limits). HaveOpenRoles l last.history after) (sym same.limits) (open_kept now.limits now.history last.history later after whos more so.open_roles);
      worker = subst (λ (l : Limits). 1 ≤ l.workers) (sym same.limits) so.worker;
    }

    fit : IsFit g now.limits now.capacity (scene now.history later)
    fit = record { legal = so.stands.legal; all = so.stands.all; well = so.stands.well; open_roles = so.open_roles; worker = so.worker }

    one_most : (b : Bool) → idle_ahead b ≤ 1
    one_most true = omega arith
    one_most false = omega arith

    abbrev before_it : Scene
    before_it = scene now.history later

    abbrev behind_it : Scene
    behind_it = scene last.history after

    fewer_by : HasPassed g now.limits now.capacity before_it behind_it → (HaveEnded later → ⊥) → rounds_left g now.limits now.capacity behind_it < rounds_left g now.limits now.capacity before_it
    fewer_by (inr is) going = subst (λ (s : Scene). rounds_left g now.limits now.capacity s < rounds_left g now.limits now.capacity before_it) (sym is) (fewer_rounds g now.limits now.capacity before_it fit going)
    fewer_by (inl further) going =
        let legal : IsLegal now.limits now.capacity last.history = subst (λ (l : Limits). IsLegal l now.capacity last.history) same.limits (subst (λ (n : ℕ). IsLegal last.limits n last.history) same.capacity stands.legal) in
        let fits = legal_fits now.limits now.capacity (now.capacity + now.limits.clients) last.history (omega arith) (omega arith) legal in
        let few = few_ended g now.limits now.capacity after in
        let many : length after ≡ length later = sym (length-map after who_of) ∙ (ap length whos ∙ length-map later who_of) in
        let less : left g now.limits now.capacity behind_it < left g now.limits now.capacity before_it = omega (arith, further, fits, few, many, few_ended g now.limits now.capacity later) in
        let one = one_most (nat_lt (left g now.limits now.capacity (round_of g now.limits now.capacity last.history after)) (left g now.limits now.capacity behind_it)) in
        omega (arith, less, one)

    pub passes_fewer : HasPassed g now.limits now.capacity before_it behind_it → (open_places later ≡ [] → ⊥) → rounds_left g last.limits last.capacity behind_it < rounds_left g now.limits now.capacity before_it
    passes_fewer passed some =
        let going : HaveEnded later → ⊥ = λ ended. some (all_ended_none 0 later (recursion_from_All (λ (r : Role). r.ended ≡ true) later ended)) in
        subst (λ (l : Limits). rounds_left g l last.capacity behind_it < rounds_left g now.limits now.capacity before_it) (sym same.limits)
        (subst (λ (n : ℕ). rounds_left g now.limits n behind_it < rounds_left g now.limits now.capacity before_it) (sym same.capacity) (fewer_by passed going))

  -- ---- all have ended

  module _ (start now : Recording) (roles later : List Role) (seed : ℕ) (draws : Lcg) (so : PassesSoFar start now roles later seed draws) (none : open_places later ≡ []) where
    pub passes_ended : HaveEnded later
    passes_ended = All-from_recursion (λ (r : Role). r.ended ≡ true) later (none_open_ended 0 later none)

    pub passes_over : is_over_in now.limits now.capacity now.history ≡ true
    passes_over = of_role (so.open_roles (Worker 1) actor)
      where
        actor : IsActor now.limits (Worker 1)
        actor = (omega arith, so.worker)

        of_role : (stage_of (Worker 1) now.history ≡ Over) ⊎ HasRole later (Worker 1) → is_over_in now.limits now.capacity now.history ≡ true
        of_role (inl over) =
            let e : false ≡ true = ((machine_facts now.limits now.capacity now.history so.stands.legal).stands (Worker 1) actor).finished ∙ ap is_over_stage over in
            absurd (cc)
        of_role (inr has) = over_by g now.limits now.capacity now.history later 1 has so.stands.all so.stands.well passes_ended

    pub passes_drawn : AreDrawn g start.limits start.capacity seed (scene start.history roles) (scene now.history later)
    passes_drawn = (so.drawn.count, ap scene_of so.drawn.lead)

    pub passes_lively : HaveOpenRoles start.limits start.history roles → 1 ≤ start.limits.workers → AreDrawnOn g start.limits start.capacity seed (scene start.history roles) (scene now.history later)
    passes_lively open_roles worker = record {
      count = so.drawn.count;
      lead = ap scene_of so.drawn.lead;
      go_on = λ n after within. two_passes g start.limits start.capacity n after (drawing (seeded seed) (scene start.history roles)) (fit_at n after within);
    }
      where
        at : ℕ → Scene
        at n = scene_of (drawn_turns g start.limits start.capacity n (drawing (seeded seed) (scene start.history roles)))

        actors : AreBy (IsActor start.limits) roles
        actors =
            actors_of g start.limits start.capacity start.history roles (recursion_from_All (λ (r : Role). IsOf g start.limits start.capacity start.history (own r.who start.history) r) roles (so.drawn.sound 0 (omega arith)).all.of)

        fit_at : (n after : ℕ) → after ≤ so.drawn.count → n ≤ after → IsFit g start.limits start.capacity (at n)
        fit_at n after within low =
            let sound = so.drawn.sound n (omega (arith, within, low)) in
            record {
              legal = sound.legal;
              all = sound.all;
              well = sound.well;
              open_roles = open_kept start.limits start.history (at n).history roles (at n).roles (turns_whos g start.limits start.capacity n (drawing (seeded seed) (scene start.history roles)))
                  (turns_follow g start.limits start.capacity (IsActor start.limits) n (drawing (seeded seed) (scene start.history roles)) actors) open_roles;
              worker = worker;
            }

-- ---- one history

module _ (g : Given) (limits : Limits) (capacity : ℕ) where
  turns_still : (d : Drawing) (n k m : ℕ) → m ≡ n + k → HaveEnded (drawn_turns g limits capacity n d).roles → scene_of (drawn_turns g limits capacity m d) ≡ scene_of (drawn_turns g limits capacity n d)
  turns_still d n zero m is ended = let same : m ≡ n = omega (arith, is) in ap (λ (x : ℕ). scene_of (drawn_turns g limits capacity x d)) same
  turns_still d n (suc k) zero is ended = absurd (omega (arith, is))
  turns_still d n (suc k) (suc m) is ended =
      let rest = turns_still d n k m (omega (arith, is)) ended in
      let e = drawn_turns g limits capacity m d in
      let there : HaveEnded e.roles = subst (λ (s : Scene). HaveEnded s.roles) (sym rest) ended in
      turn_still g limits capacity e (recursion_from_All (λ (r : Role). r.ended ≡ true) e.roles there) ∙ rest

  same_by : (d : Drawing) (n m : ℕ) (b : Bool) → nat_le n m ≡ b → HaveEnded (drawn_turns g limits capacity n d).roles → HaveEnded (drawn_turns g limits capacity m d).roles
      → scene_of (drawn_turns g limits capacity n d) ≡ scene_of (drawn_turns g limits capacity m d)
  same_by d n m true is first next = let le : n ≤ m = grind (arith, nat_tests) in sym (turns_still d n (m - n) m (omega (arith, le)) first)
  same_by d n m false is first next = let less : m < n = grind (arith, nat_tests) in turns_still d m (n - m) n (omega (arith, less)) next

  drawn_same : (seed : ℕ) (s t u : Scene) → AreDrawn g limits capacity seed s t → AreDrawn g limits capacity seed s u → HaveEnded t.roles → HaveEnded u.roles → t ≡ u
  drawn_same seed s t u first next t_ended u_ended =
      sym first.1
      ∙ (same_by (drawing (seeded seed) s) first.0 next.0 (nat_le first.0 next.0) refl (subst (λ (x : Scene). HaveEnded x.roles) (sym first.1) t_ended) (subst (λ (x : Scene). HaveEnded x.roles) (sym next.1) u_ended) ∙ next.1)

  pub one_drawn : (seed : ℕ) (history later : List Entry) → IsDrawn seed g limits capacity history → IsDrawn seed g limits capacity later → history ≡ later
  one_drawn seed history later a b =
      let fronts : scene a.front (a.first ∷ []) ≡ scene b.front (b.first ∷ []) =
      ends_same g limits capacity _ (scene a.front (a.first ∷ [])) (scene b.front (b.first ∷ [])) a.set_up b.set_up (all_of_one g limits capacity a.first a.first_ended) (all_of_one g limits capacity b.first b.first_ended) in
      let whole : scene a.front (a.first ∷ other_roles limits) ≡ scene b.front (b.first ∷ other_roles limits) = ap (λ (s : Scene). scene s.history (firsts s.roles)) fronts in
      let drawn : AreDrawn g limits capacity seed (scene b.front (b.first ∷ other_roles limits)) (scene history a.later) = subst (λ (s : Scene). AreDrawn g limits capacity seed s (scene history a.later)) whole a.turns_of_others in
      ap (λ (s : Scene). s.history) (drawn_same seed (scene b.front (b.first ∷ other_roles limits)) (scene history a.later) (scene later b.later) drawn b.turns_of_others a.all_ended b.all_ended)
    where
      firsts : List Role → List Role
      firsts roles = roles ++ other_roles limits
