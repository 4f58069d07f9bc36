-- The turns of a client that waits for nothing: each adds an entry, or comes to Full, and then the client finishes.
use Rattle.std.proofs.Common.{◌≡◌, ℕ, ◌+◌, ◌-◌, ◌*◌, ◌<◌, ◌≤◌, Bool, true, false, if◌then◌else◌, List, [], ◌∷◌, ◌++◌, Option, None, Some, IfSome, length, refl, sym, ap, subst, ◌∙◌, append-nil, arith}
use Rattle.std.proofs.lemmas.List.{length-append}
use Rattle.tp_base.specs.declared.answers.Answer.{Answer}
use Rattle.tp_base.specs.declared.answers.Answer.TheVariants as answer
use Rattle.tp_base.specs.declared.answers.Entry.{Entry}
use Rattle.tp_base.specs.declared.answers.Outcome.{Outcome}
use Rattle.tp_base.specs.declared.answers.Outcome.TheVariants as outcome
use Rattle.tp_base.specs.declared.calls.Call.{Call}
use Rattle.tp_base.specs.declared.calls.Call.TheVariants.{Finish}
use Rattle.tp_base.specs.declared.ids.Who.{Who}
use Rattle.tp_base.specs.declared.ids.Who.TheVariants.{Client}
use Rattle.tp_base.specs.declared.limits.Limits.{Limits}
use Rattle.tp_base.specs.declared.plans.Stage.{Stage}
use Rattle.tp_base.specs.declared.plans.Stage.TheVariants.{Away, Busy, Idle, Over, Playing}
use Rattle.tp_model.specs.History.{after, IsLegal}
use Rattle.tp_model.specs.Stages.{is_over_stage, stage_of, waits_of, IsActor, MachineFacts}
use Rattle.tp_model.proofs.Facts.{machine_facts}
use Rattle.tp_model.proofs.Fitting.{legal_fits}
use Rattle.tp_script.specs.declared.routines.Part.TheVariants as part
use Rattle.tp_script.specs.declared.routines.Progress.{Progress}
use Rattle.tp_script.specs.Nexts.{first_progress}
use Rattle.recorded.specs.Recordings.{entries_told, room_of, Recording}
use Rattle.turn_lock.specs.Histories.{own}
use Rattle.part_places.specs.declared.place.Place.{Place}
use Rattle.worker_gate.specs.declared.role.Role.{Role}
use Rattle.worker_gate.specs.declared.role.Turn.{Turn}
use Rattle.part_places.specs.Places.{is_last, is_taken, opening, Given}
use Rattle.worker_gate.specs.Roles.{due_of, due_or, is_last_turn, is_of_client, is_stage_of, took, turned, IsOf, Turned}
use Rattle.worker_gate.specs.Rounds.{begins_wait, scene, ArePlayed, IsSameMachine, NeverWaits, PlaysAlone}
use Rattle.worker_gate.specs.Runs.{is_over_in}
use Rattle.worker_gate.specs.Walks.{comes_to}
use Rattle.worker_gate.proofs.Lasting.{played_more}
use Rattle.worker_gate.proofs.Playing.{legal_turned, turned_is, turned_who}
use Rattle.worker_gate.proofs.Quiet.{is_quiet, step_quiet, waits_quiet, IsQuiet}
use Rattle.worker_gate.proofs.Turning.{legal_front, still_going}
use Rattle.worker_gate.proofs.Walking.{stage_is, waits_is}

-- how much a client may still do, alone: entries, and a mark
abbrev pub spare_at : ℕ → List Entry → Bool → ℕ
spare_at most history marked = (most - length history) * 2 + (if marked then 0 else 1)

abbrev pub spare_of : Recording → Role → ℕ
spare_of now r = spare_at (now.capacity + now.limits.clients) now.history r.marked

fewer : (most made later : ℕ) (marked : Bool) → later ≡ made + 1 → later ≤ most → (most - later) * 2 + 1 < (most - made) * 2 + (if marked then 0 else 1)
fewer most made later true one within = omega (arith, one, within)
fewer most made later false one within = omega (arith, one, within)

not_taken : (told : Answer) → is_quiet told ≡ true → is_taken told ≡ false
not_taken (answer.Taken callback object routine context result) quiet = absurd cc
not_taken _ quiet = refl

calm_due : (marked : Bool) (next : Option Call) → IfSome next (λ made. begins_wait made ≡ false) → begins_wait (due_or Finish marked next) ≡ false
calm_due marked None calm = refl
calm_due true (Some next) calm = refl
calm_due false (Some next) calm = calm

last_due : (marked : Bool) (next : Option Call) → marked ≡ true → due_or Finish marked next ≡ Finish
last_due marked None is = refl
last_due true (Some next) is = refl
last_due false (Some next) is = absurd cc

plays_on : (at : Stage) → is_of_client at ≡ true → is_over_stage at ≡ false → at ≡ Playing
plays_on Playing sorted going = refl
plays_on Over sorted going = absurd cc
plays_on (Busy routine) sorted going = absurd cc
plays_on Away sorted going = absurd cc
plays_on Idle sorted going = absurd cc

abbrev role_at : Who → Stage → Bool → Progress → Bool → Bool → Bool → Role
role_at who stage waits at cut marked ended = record { who = who; place = record { stage = stage; waits = waits; at = at; cut = cut }; marked = marked; ended = ended }

module _ (g : Given) (limits : Limits) (capacity : ℕ) (history : List Entry) where
  abbrev most : ℕ
  most = capacity + limits.clients

  -- a turn keeps that it waits for nothing, and leaves less to do
  abbrev LeavesLess : Role → List Entry → Role → Type 0
  LeavesLess r later q = PlaysAlone g q × (spare_at most later q.marked < spare_at most history r.marked)

  -- by what its call comes to
  abbrev GoesBy : Role → Call → Outcome → Type 0
  GoesBy r made told = comes_to limits capacity history r.who made ≡ told → IsLegal limits capacity (history ++ entries_told r.who made told) → LeavesLess r (history ++ entries_told r.who made told) (took g r made told)

  module _ (number : ℕ) (at : Progress) (cut marked ended : Bool) (facts : MachineFacts limits history) (actor : IsActor limits (Client number))
      (playing : stage_of (Client number) history ≡ Playing) (free : waits_of (Client number) history ≡ false) (never : NeverWaits g (part.Client number) at) where
    abbrev client : Role
    client = role_at (Client number) Playing false at cut marked ended

    abbrev left : ℕ
    left = room_of (record { limits = limits; capacity = capacity; history = history })

    never_after : (made : Call) (told : Answer) → is_quiet told ≡ true → NeverWaits g (part.Client number) (took g client made (outcome.Done told)).place.at
    never_after made told quiet =
        subst (λ (b : Bool). NeverWaits g (part.Client number) (if b then first_progress else (if is_last made then at else g.after (part.Client number) at told))) (sym (not_taken told quiet))
        (elim (is_last made) as (λ b. NeverWaits g (part.Client number) (if b then at else g.after (part.Client number) at told)) [ true ↦ never | false ↦ λ answers. never (told ∷ answers) ])

    marks : (b : Bool) (made : Call) (room cost : ℕ) → marked ≡ b → (marked ≡ true → made ≡ Finish) → comes_to limits capacity history (Client number) made ≡ outcome.Full room cost → marked ≡ false
    marks false made room cost is last came = is
    marks true made room cost is last came =
        let always : comes_to limits capacity history (Client number) Finish ≡ outcome.Done answer.Done = facts.finishes (Client number) actor playing free left in
        let e : outcome.Done answer.Done ≡ outcome.Full room cost = sym always ∙ (ap (comes_to limits capacity history (Client number)) (sym (last is)) ∙ came) in
        absurd cc

    goes_by : (made : Call) (told : Outcome) → begins_wait made ≡ false → (marked ≡ true → made ≡ Finish) → IsQuiet told → GoesBy client made told
    goes_by made (outcome.Done told) calm last quiet came legal =
        let e : Entry = record { who = Client number; call = made; answer = told } in
        let fits = legal_fits limits capacity most (history ++ e ∷ []) (omega arith) (omega arith) legal in
        let one : length (history ++ e ∷ []) ≡ length history + 1 = length-append history (e ∷ []) in (
          record { number = number; client = refl; calm = waits_quiet told made quiet calm; never = never_after made told quiet },
          fewer most (length history) (length (history ++ e ∷ [])) marked one (omega (arith, fits)),
        )
    goes_by made (outcome.Look look) calm last quiet came legal = absurd quiet
    goes_by made (outcome.Full room cost) calm last quiet came legal =
        let same : length (history ++ []) ≡ length history = ap length (append-nil history) in
        let unmarked : marked ≡ false = marks marked made room cost refl last came in (
          record { number = number; client = refl; calm = refl; never = never },
          subst (λ (b : Bool). (most - length (history ++ [])) * 2 + 0 < (most - length history) * 2 + (if b then 0 else 1)) (sym unmarked) (omega (arith, same)),
        )

    goes : GoesBy client (due_of g (Client number) client.place marked) (comes_to limits capacity history (Client number) (due_of g (Client number) client.place marked))
    goes =
        let next : Option Call = g.next (part.Client number) at in
        let calm : begins_wait (due_or Finish marked next) ≡ false = calm_due marked next (never []) in
        goes_by (due_or Finish marked next) (comes_to limits capacity history (Client number) (due_or Finish marked next)) calm (last_due marked next)
        (step_quiet (after limits history) left (Client number) (due_or Finish marked next) calm ((facts.stands (Client number) actor).wait ∙ free) refl)

  abbrev GoesOn : Role → Type 0
  GoesOn r = GoesBy r (due_of g r.who r.place r.marked) (comes_to limits capacity history r.who (due_of g r.who r.place r.marked))

  -- the same of any role that is one
  goes_as : (number : ℕ) (who : Who) (stage : Stage) (waits : Bool) (at : Progress) (cut marked ended : Bool) → MachineFacts limits history → IsActor limits who → stage ≡ stage_of who history → waits ≡ waits_of who history
      → NeverWaits g (part.Client number) at → who ≡ Client number → stage ≡ Playing → waits ≡ false → GoesOn (role_at who stage waits at cut marked ended)
  goes_as number who stage waits at cut marked ended facts actor stage_at waits_at never who_is playing free =
      subst (λ (x : Who). GoesOn (role_at x stage waits at cut marked ended)) (sym who_is)
      (subst (λ (x : Stage). GoesOn (role_at (Client number) x waits at cut marked ended)) (sym playing)
      (subst (λ (x : Bool). GoesOn (role_at (Client number) Playing x at cut marked ended)) (sym free)
      (goes number at cut marked ended facts (subst (IsActor limits) who_is actor) (ap (λ (x : Who). stage_of x history) (sym who_is) ∙ (sym stage_at ∙ playing)) (ap (λ (x : Who). waits_of x history) (sym who_is) ∙ (sym waits_at ∙ free)) never)))

  module _ (r : Role) (of : IsOf g limits capacity history (own r.who history) r) (alone : PlaysAlone g r) where
    abbrev Less : Turned → Type 0
    Less t = is_last_turn t.turn ≡ false → IsLegal limits capacity t.history → LeavesLess r t.history t.role

    pub alone_turned : Less (turned g limits capacity history r)
    alone_turned =
        turned_is g limits capacity Less history r (λ ended more. let e : true ≡ false = more in absurd cc)
        (λ on more legal.
        let going = still_going r.place.stage r.ended (is_over_in limits capacity history) on in
        let sorted : is_of_client r.place.stage ≡ true = subst (λ (w : Who). is_stage_of w r.place.stage ≡ true) alone.client of.sorted in
        let facts = machine_facts limits capacity history (legal_front limits capacity history (entries_told r.who (due_of g r.who r.place r.marked) (comes_to limits capacity history r.who (due_of g r.who r.place r.marked))) legal) in
        goes_as alone.number r.who r.place.stage r.place.waits r.place.at r.place.cut r.marked r.ended facts of.actor
        (ap (λ (p : Place). p.stage) of.place_is ∙ stage_is g r.who (opening r.who) (own r.who history))
        (ap (λ (p : Place). p.waits) of.place_is ∙ waits_is g r.who (opening r.who) (own r.who history))
        alone.never alone.client (plays_on r.place.stage sorted going.1) alone.calm refl legal)

-- ---- turn by turn

module _ (g : Given) where
  pub record AloneSoFar (start now : Recording) (first r : Role) : Type 0 where
    pub same : IsSameMachine start now
    pub played : ArePlayed g start.limits start.capacity (scene start.history (first ∷ [])) (scene now.history (r ∷ []))
    pub of : IsOf g now.limits now.capacity now.history (own r.who now.history) r
    pub alone : PlaysAlone g r
    pub legal : IsLegal start.limits start.capacity start.history → IsLegal now.limits now.capacity now.history
    pub who : r.who ≡ first.who

  pub alone_begins : (start : Recording) (r : Role) → IsOf g start.limits start.capacity start.history (own r.who start.history) r → PlaysAlone g r → AloneSoFar start start r r
  alone_begins start r of alone = record { same = record { limits = refl; capacity = refl }; played = (0, refl); of = of; alone = alone; legal = λ legal. legal; who = refl }

  module _ (start now last : Recording) (first r q : Role) (so : AloneSoFar start now first r) (role_is : q ≡ (turned g now.limits now.capacity now.history r).role)
      (book_is : last ≡ record now { history = (turned g now.limits now.capacity now.history r).history }) where
    pub alone_same : IsSameMachine start last
    alone_same = record { limits = ap (λ (n : Recording). n.limits) book_is ∙ so.same.limits; capacity = ap (λ (n : Recording). n.capacity) book_is ∙ so.same.capacity }

    pub alone_played : ArePlayed g start.limits start.capacity (scene start.history (first ∷ [])) (scene last.history (q ∷ []))
    alone_played =
        let next : scene last.history (q ∷ []) ≡ scene (turned g now.limits now.capacity now.history r).history ((turned g now.limits now.capacity now.history r).role ∷ []) =
        ap (λ (h : List Entry). scene h (q ∷ [])) (ap (λ (n : Recording). n.history) book_is) ∙ ap (λ (x : Role). scene (turned g now.limits now.capacity now.history r).history (x ∷ [])) role_is in
        played_more g start.limits start.capacity (scene start.history (first ∷ [])) (scene now.history (r ∷ [])) (scene last.history (q ∷ [])) so.played
        (next ∙ (ap (λ (l : Limits). let t = turned g l now.capacity now.history r in scene t.history (t.role ∷ [])) so.same.limits
        ∙ ap (λ (n : ℕ). let t = turned g start.limits n now.history r in scene t.history (t.role ∷ [])) so.same.capacity))

    pub alone_legal : IsLegal start.limits start.capacity start.history → IsLegal last.limits last.capacity last.history
    alone_legal legal = subst (λ (n : Recording). IsLegal n.limits n.capacity n.history) (sym book_is) (legal_turned g now.limits now.capacity now.history r (so.legal legal))

    pub alone_who : q.who ≡ first.who
    alone_who = ap (λ (x : Role). x.who) role_is ∙ (turned_who g now.limits now.capacity now.history r ∙ so.who)

    module _ (turn : Turn) (turn_is : turn ≡ (turned g now.limits now.capacity now.history r).turn) (more : is_last_turn turn ≡ false) (legal : IsLegal last.limits last.capacity last.history) where
      less : LeavesLess g now.limits now.capacity now.history r (turned g now.limits now.capacity now.history r).history (turned g now.limits now.capacity now.history r).role
      less = alone_turned g now.limits now.capacity now.history r so.of so.alone (sym (ap is_last_turn turn_is) ∙ more) (subst (λ (n : Recording). IsLegal n.limits n.capacity n.history) book_is legal)

      pub alone_goes_on : IsOf g last.limits last.capacity last.history (own q.who last.history) q → AloneSoFar start last first q
      alone_goes_on of = record { same = alone_same; played = alone_played; of = of; alone = subst (PlaysAlone g) (sym role_is) less.0; legal = alone_legal; who = alone_who }

      pub alone_less : spare_of last q < spare_of now r
      alone_less =
          subst (λ (n : Recording). spare_of n q < spare_of now r) (sym book_is)
          (subst (λ (x : Role). spare_of (record now { history = (turned g now.limits now.capacity now.history r).history }) x < spare_of now r) (sym role_is) less.1)
