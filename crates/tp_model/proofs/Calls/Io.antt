-- The facts of calls on I/O objects.
use Rattle.std.proofs.Common.{◌≡◌, ℕ, ◌+◌, ◌<◌, ◌^◌, ◌&&◌, ◌||◌, ◌==◌, ◌∙◌, Bool, not, true, false, cond, length, List, [], ◌∷◌, ◌++◌, Option, Some, None, is_none, refl, sym, ap, subst, find, filter, eqb-true, arith}
use Rattle.std.specs.Option.{option_map_or}
use Rattle.tp_base.specs.declared.ids.Who.{Who}
use Rattle.tp_base.specs.declared.ids.ObjectId.{ObjectId}
use Rattle.tp_base.specs.declared.calls.Kind.TheVariants.{Wait, Io}
use Rattle.tp_base.specs.declared.calls.Call.{Call}
use Rattle.tp_base.specs.declared.calls.Call.TheVariants.{StartIo, IssueIo, CancelIo, CompleteIo, CompleteNext}
use Rattle.tp_base.specs.declared.answers.Answer.{Answer}
use Rattle.tp_base.specs.declared.answers.Answer.TheVariants as answer
use Rattle.tp_base.specs.declared.answers.Refusal.{Refusal}
use Rattle.tp_base.specs.declared.answers.Refusal.TheVariants.{NoSuch, WrongKind, Released, NotRunning, InWait, NotStarted, NoOperation}
use Rattle.tp_base.specs.declared.plans.IoStep.{IoStep}
use Rattle.tp_base.specs.declared.plans.IoStep.TheVariants.{Issue, GiveUp}
use Rattle.tp_base.specs.declared.plans.Change.TheVariants as change
use Rattle.tp_base.specs.declared.plans.Plan.{Plan}
use Rattle.tp_base.specs.declared.plans.Plan.TheVariants.{Does}
use Rattle.tp_base.specs.declared.rows.Status.{Status}
use Rattle.tp_base.specs.declared.rows.Status.TheVariants.{Expected, Issued}
use Rattle.tp_base.specs.declared.rows.ObjectRow.{ObjectRow}
use Rattle.tp_base.specs.declared.rows.CallbackRow.{CallbackRow}
use Rattle.tp_base.specs.Ranges.{IsCallInRange}
use Rattle.tp_model.specs.World.{World}
use Rattle.tp_model.specs.Counts.{numbered, has_number, is_expected, is_issued, is_live, callback_of}
use Rattle.tp_model.specs.Conditions.{is_actor, is_finished, is_in_wait, is_object, is_released, is_object_of, is_same_kind, is_without_callback}
use Rattle.tp_model.specs.Refusing.{first_refusal, unless_refused, actor_refusals, object_refusals}
use Rattle.tp_model.specs.Calls.Io.{start_io_refusals, start_io, start_io_plan, is_expected_of, first_expected, expected_refusals, operate, operate_first, issue_io_plan, cancel_io_plan, issued_row, issued_of, complete_io_refusals, complete_io, complete_io_plan, is_issued_of, first_issued, complete_next_refusals, complete_next_plan}
use Rattle.tp_model.specs.Laws.Entries.{event, Completes}
use Rattle.tp_model.specs.Support.Told.{silent, nothing}
use Rattle.tp_model.specs.Support.Sound.{IsSound, IsRising}
use Rattle.tp_model.specs.Support.Allowed.{IsObjectOf}
use Rattle.tp_model.specs.Support.Safe.{IsSafe}
use Rattle.tp_model.specs.Support.Remembered.{lives, forget}
use Rattle.tp_model.specs.Support.Ranged.{IsCallbackInRange, IsObjectInRange, IsRanged, IsPlanInRange}
use Rattle.tp_model.proofs.Lists.{all_get, find_all, find_filter, find_passes}
use Rattle.tp_model.proofs.Callbacks.{find_numbered, find_above}
use Rattle.tp_model.proofs.Refusals.{both, neither, not_false, false_true, numbered_some}
use Rattle.tp_model.proofs.Forgetting.{live_again}
use Rattle.tp_model.proofs.Allowed.{safe_unless, row_stands}
use Rattle.tp_model.proofs.Ranged.{ranged_unless}
use Rattle.tp_model.proofs.Calls.Timers.{object_stands}

-- ---- StartIo

module _ (next_number : ℕ) (w : World) (who : Who) (object : ObjectId) where
  pub start_io_safe : IsSound next_number w → IsSafe next_number w who (StartIo object) (start_io_plan w next_number who object)
  unfolding start_io_plan
  start_io_safe s =
      safe_unless next_number w who (StartIo object) (start_io_refusals w who object.0) _
      (λ none.
      let of : IsObjectOf Io w object = object_stands w Io object (not_false (is_object_of w Io object.0) none.1.0) (neither (is_finished w who) (is_released w object.0) none.1.1.0).1 in
      let home = all_get (λ (o : ObjectRow). o.env.pool.0 < length w.pools) w.objects _ of.row s.object_pools (numbered_some w.objects object.0 of.row of.stands).0 in
      subst (λ row. IsSafe next_number w who (StartIo object) (start_io next_number object row)) (sym of.stands)
      (record {
        allowed = record {
          number = refl;
          expected = refl;
          object = λ _. record { row = of.row; stands = of.stands; home = refl; group = refl; persistent = refl };
          home = home;
          room = none.1.1.1.1.1.0;
          stands = row_stands w.objects object.0 of.row of.stands (neither (is_finished w who) (is_released w object.0) none.1.1.0).1;
        };
        made_by = ap (λ (r : Option ObjectRow). option_map_or (λ (o : ObjectRow). is_same_kind o.kind Wait) r false) of.stands ∙ ap (λ k. is_same_kind k Wait) of.kind;
        accepted = refl;
        tells = refl;
      }))

  pub start_io_forget : start_io_plan (forget w) next_number who object ≡ start_io_plan w next_number who object
  unfolding start_io_plan
  start_io_forget = ap (λ r. unless_refused r (start_io next_number object (numbered w.objects object.0))) refused
    where
      refused : first_refusal (start_io_refusals (forget w) who object.0) ≡ first_refusal (start_io_refusals w who object.0)
      refused = rw (live_again w.callbacks)

  pub start_io_ranged : next_number < 2 ^ 64 → IsRanged w → IsCallInRange (StartIo object) → IsPlanInRange (start_io_plan w next_number who object)
  unfolding start_io_plan
  start_io_ranged few g c = ranged_unless (start_io_refusals w who object.0) _ _ (starts (numbered w.objects object.0) refl)
    where
      starts : (row : Option ObjectRow) → numbered w.objects object.0 ≡ row → IsPlanInRange (start_io next_number object row)
      starts None is = tt
      starts (Some row) is =
          let o = all_get IsObjectInRange w.objects _ row g.rows.objects (numbered_some w.objects object.0 row is).0 in
          (few, record { number = few; object = c; routine = o.routine; context = o.context; result = tt })

-- ---- IssueIo and CancelIo

expected_is : (s : Status) → is_expected s ≡ true → s ≡ Expected
expected_is Expected e = refl
expected_is _ e = absurd (false_true e)

issued_is : (s : Status) → is_issued s ≡ true → s ≡ Issued
issued_is Issued e = refl
issued_is _ e = absurd (false_true e)

-- the first callback that expects an operation stands, and does so
record IsExpected (w : World) (c : CallbackRow) : Type 0 where
  found : callback_of w c.number ≡ Some c
  status : c.status ≡ Expected

first_stands : (next_number : ℕ) (w : World) (object : ℕ) (c : CallbackRow) → IsSound next_number w → first_expected w object ≡ Some c → IsExpected w c
first_stands next_number w object c s is =
    record {
      found = find_numbered (is_expected_of object) 1 next_number w.callbacks c s.numbers is;
      status = expected_is c.status (both (is_expected c.status) (c.object.0 == object) (find_passes (is_expected_of object) c w.callbacks is)).0;
    }

over_not_expected : (object : ℕ) (c : CallbackRow) → lives c ≡ false → is_expected_of object c ≡ false
over_not_expected object c dead = ap (λ b. b && (c.object.0 == object)) (of_status c.status dead)
  where
    of_status : (s : Status) → lives (record c { status = s }) ≡ false → is_expected s ≡ false
    of_status Expected e = absurd (false_true (sym e))
    of_status _ e = refl

first_forget : (w : World) (object : ℕ) → first_expected (forget w) object ≡ first_expected w object
first_forget w object = find_filter (is_expected_of object) lives (over_not_expected object) w.callbacks

module _ (w : World) (who : Who) (object : ObjectId) where
  -- a plan for the first callback that expects an operation is the same in a world without the callbacks that are over
  expected_forget : (by : Option CallbackRow → Plan) → unless_refused (first_refusal (expected_refusals (forget w) who object.0)) (by (first_expected (forget w) object.0)) ≡ unless_refused (first_refusal (expected_refusals w who object.0)) (by (first_expected w object.0))
  expected_forget by = ap (λ c. unless_refused (first_refusal (object_refusals w who Io object.0 ++ (is_none c, NotStarted) ∷ [])) (by c)) (first_forget w object.0)

  -- and its number is in range
  first_ranged : (c : CallbackRow) → IsRanged w → first_expected w object.0 ≡ Some c → c.number < 2 ^ 64
  first_ranged c g is = (find_all IsCallbackInRange (is_expected_of object.0) c w.callbacks g.rows.callbacks is).number

  -- what a step with it comes to
  operate_safe : (next_number : ℕ) (call : Call) (told : ℕ → Answer) (how : IoStep) → IsSound next_number w → ((c : CallbackRow) → IsExpected w c → IsSafe next_number w who call (Does (told c.number) (change.Operate c how))) → IsSafe next_number w who call (operate_first w who object told how)
  operate_safe next_number call told how s safe = safe_unless next_number w who call (expected_refusals w who object.0) _ (λ _. operates (first_expected w object.0) refl)
    where
      operates : (first : Option CallbackRow) → first_expected w object.0 ≡ first → IsSafe next_number w who call (operate told how first)
      operates None is = tt
      operates (Some c) is = safe c (first_stands next_number w object.0 c s is)

  operate_ranged : (told : ℕ → Answer) (how : IoStep) → IsRanged w → ((c : CallbackRow) → c.number < 2 ^ 64 → IsPlanInRange (Does (told c.number) (change.Operate c how))) → IsPlanInRange (operate_first w who object told how)
  operate_ranged told how g within = ranged_unless (expected_refusals w who object.0) _ _ (operates (first_expected w object.0) refl)
    where
      operates : (first : Option CallbackRow) → first_expected w object.0 ≡ first → IsPlanInRange (operate told how first)
      operates None is = tt
      operates (Some c) is = within c (first_ranged c g is)

  pub issue_io_safe : (next_number : ℕ) → IsSound next_number w → IsSafe next_number w who (IssueIo object) (issue_io_plan w who object)
  unfolding issue_io_plan
  issue_io_safe next_number s = operate_safe next_number (IssueIo object) answer.Operation Issue s (λ c of. record { allowed = record { found = of.found; status = of.status }; made_by = tt; accepted = refl; tells = refl })

  pub issue_io_forget : issue_io_plan (forget w) who object ≡ issue_io_plan w who object
  unfolding issue_io_plan
  issue_io_forget = expected_forget (operate answer.Operation Issue)

  pub issue_io_ranged : IsRanged w → IsPlanInRange (issue_io_plan w who object)
  unfolding issue_io_plan
  issue_io_ranged g = operate_ranged answer.Operation Issue g (λ c number. (number, tt))

  pub cancel_io_safe : (next_number : ℕ) → IsSound next_number w → IsSafe next_number w who (CancelIo object) (cancel_io_plan w who object)
  unfolding cancel_io_plan
  cancel_io_safe next_number s = operate_safe next_number (CancelIo object) answer.Cancelled GiveUp s (λ c of. record { allowed = record { found = of.found; status = of.status }; made_by = tt; accepted = refl; tells = refl })

  pub cancel_io_forget : cancel_io_plan (forget w) who object ≡ cancel_io_plan w who object
  unfolding cancel_io_plan
  cancel_io_forget = expected_forget (operate answer.Cancelled GiveUp)

  pub cancel_io_ranged : IsRanged w → IsPlanInRange (cancel_io_plan w who object)
  unfolding cancel_io_plan
  cancel_io_ranged g = operate_ranged answer.Cancelled GiveUp g (λ c number. (number, tt))

-- ---- CompleteIo

-- the callback whose operation completes stands, and its operation is under way
record IsUnderWay (w : World) (callback : ℕ) (c : CallbackRow) : Type 0 where
  found : callback_of w callback ≡ Some c
  status : c.status ≡ Issued

under_way : (w : World) (callback : ℕ) (c : CallbackRow) → issued_of w callback ≡ Some c → IsUnderWay w callback c
under_way w callback c is = of_row (callback_of w callback) refl is
  where
    of_row : (row : Option CallbackRow) → callback_of w callback ≡ row → issued_row row ≡ Some c → IsUnderWay w callback c
    of_row None there e = absurd cc
    of_row (Some d) there e =
        elim (is_issued d.status) as (λ b. is_issued d.status ≡ b → cond b (Some d) None ≡ Some c → IsUnderWay w callback c) [
          | true ↦ λ issued f. (let same : d ≡ c = cc in subst (IsUnderWay w callback) same (record { found = there; status = issued_is d.status issued }))
          | false ↦ λ _ f. absurd cc
        ] refl e

unissued : (s : Status) → is_live s ≡ false → is_issued s ≡ false
unissued Issued e = absurd (false_true (sym e))
unissued _ e = refl

-- what lives of the callbacks has the same operations under way
issued_forget : (low next_number callback : ℕ) (cs : List CallbackRow) → IsRising low next_number cs → issued_row (find (has_number callback) (filter lives cs)) ≡ issued_row (find (has_number callback) cs)
issued_forget low next_number callback [] r = refl
issued_forget low next_number callback (c ∷ cs) r =
    elim (lives c) as (λ t. lives c ≡ t → issued_row (find (has_number callback) (cond t (c ∷ filter lives cs) (filter lives cs))) ≡ issued_row (cond (has_number callback c) (Some c) (find (has_number callback) cs))) [
      | true ↦ λ _. elim (has_number callback c) as (λ b. issued_row (cond b (Some c) (find (has_number callback) (filter lives cs))) ≡ issued_row (cond b (Some c) (find (has_number callback) cs))) [
        | true ↦ refl
        | false ↦ issued_forget (c.number + 1) next_number callback cs r.1
      ]
      | false ↦ λ dead. issued_forget (c.number + 1) next_number callback cs r.1 ∙ elim (has_number callback c) as (λ b. has_number callback c ≡ b → issued_row (find (has_number callback) cs) ≡ issued_row (cond b (Some c) (find (has_number callback) cs))) [
        | true ↦ λ e.
            let same : c.number ≡ callback = eqb-true c.number callback e in
            ap issued_row (find_above callback (c.number + 1) next_number cs (omega (arith, same)) r.1) ∙ sym (ap (λ b. cond b (Some c) None) (unissued c.status dead))
        | false ↦ λ _. refl
      ] refl
    ] refl

module _ (w : World) (who : Who) (callback error bytes : ℕ) where
  pub complete_io_safe : (next_number : ℕ) → IsSafe next_number w who (CompleteIo callback error bytes) (complete_io_plan w who callback error bytes)
  unfolding complete_io_plan
  complete_io_safe next_number = safe_unless next_number w who (CompleteIo callback error bytes) (complete_io_refusals w who callback) _ (λ _. completes (issued_of w callback) refl)
    where
      completes : (row : Option CallbackRow) → issued_of w callback ≡ row → IsSafe next_number w who (CompleteIo callback error bytes) (complete_io error bytes row)
      completes None is = tt
      completes (Some c) is =
          let of : IsUnderWay w callback c = under_way w callback c is in
          let same : c.number ≡ callback = eqb-true c.number callback (find_passes (has_number callback) c w.callbacks of.found) in
          record {
            allowed = record { found = ap (callback_of w) same ∙ of.found; status = of.status };
            made_by = tt;
            accepted = refl;
            tells = ap (λ n. record silent { deed = record nothing { completed = n ∷ []; event = event n (Completes error bytes) } }) (sym same);
          }

  pub complete_io_forget : (next_number : ℕ) → IsSound next_number w → complete_io_plan (forget w) who callback error bytes ≡ complete_io_plan w who callback error bytes
  unfolding complete_io_plan
  complete_io_forget next_number s =
      ap (λ c. unless_refused (first_refusal (actor_refusals w who ++ (is_none c, NoOperation) ∷ [])) (complete_io error bytes c))
      (issued_forget 1 next_number callback w.callbacks s.numbers)

  pub complete_io_ranged : IsRanged w → IsCallInRange (CompleteIo callback error bytes) → IsPlanInRange (complete_io_plan w who callback error bytes)
  unfolding complete_io_plan
  complete_io_ranged g c = ranged_unless (complete_io_refusals w who callback) _ _ (completes (issued_of w callback) refl)
    where
      completes : (row : Option CallbackRow) → issued_of w callback ≡ row → IsPlanInRange (complete_io error bytes row)
      completes None is = tt
      completes (Some d) is =
          let r : IsCallbackInRange d = find_all IsCallbackInRange (has_number callback) d w.callbacks g.rows.callbacks (under_way w callback d is).found in
          ((r.number, omega arith), (c.1, c.2))

-- ---- CompleteNext

first_under_way : (next_number : ℕ) (w : World) (object : ℕ) (c : CallbackRow) → IsSound next_number w → first_issued w object ≡ Some c → IsUnderWay w c.number c
first_under_way next_number w object c s is =
    record {
      found = find_numbered (is_issued_of object) 1 next_number w.callbacks c s.numbers is;
      status = issued_is c.status (both (is_issued c.status) (c.object.0 == object) (find_passes (is_issued_of object) c w.callbacks is)).0;
    }

over_not_issued : (object : ℕ) (c : CallbackRow) → lives c ≡ false → is_issued_of object c ≡ false
over_not_issued object c dead = ap (λ b. b && (c.object.0 == object)) (unissued c.status dead)

module _ (w : World) (who : Who) (object : ObjectId) (error bytes : ℕ) where
  pub complete_next_safe : (next_number : ℕ) → IsSound next_number w → IsSafe next_number w who (CompleteNext object error bytes) (complete_next_plan w who object error bytes)
  unfolding complete_next_plan
  complete_next_safe next_number s = safe_unless next_number w who (CompleteNext object error bytes) (complete_next_refusals w who object.0) _ (λ _. completes (first_issued w object.0) refl)
    where
      completes : (row : Option CallbackRow) → first_issued w object.0 ≡ row → IsSafe next_number w who (CompleteNext object error bytes) (complete_io error bytes row)
      completes None is = tt
      completes (Some c) is =
          let of : IsUnderWay w c.number c = first_under_way next_number w object.0 c s is in
          record { allowed = record { found = of.found; status = of.status }; made_by = tt; accepted = refl; tells = refl }

  pub complete_next_forget : complete_next_plan (forget w) who object error bytes ≡ complete_next_plan w who object error bytes
  unfolding complete_next_plan
  complete_next_forget =
      ap (λ c. unless_refused (first_refusal (next_refusals c)) (complete_io error bytes c))
      (find_filter (is_issued_of object.0) lives (over_not_issued object.0) w.callbacks)
    where
      next_refusals : Option CallbackRow → List (Bool × Refusal)
      next_refusals c =
          (not (is_actor w who) || not (is_object w object.0), NoSuch)
          ∷ (not (is_object_of w Io object.0), WrongKind)
          ∷ (is_finished w who, Released)
          ∷ (is_without_callback w who, NotRunning)
          ∷ (is_in_wait w who, InWait)
          ∷ (is_none c, NoOperation)
          ∷ []

  pub complete_next_ranged : IsRanged w → IsCallInRange (CompleteNext object error bytes) → IsPlanInRange (complete_next_plan w who object error bytes)
  unfolding complete_next_plan
  complete_next_ranged g c = ranged_unless (complete_next_refusals w who object.0) _ _ (completes (first_issued w object.0) refl)
    where
      completes : (row : Option CallbackRow) → first_issued w object.0 ≡ row → IsPlanInRange (complete_io error bytes row)
      completes None is = tt
      completes (Some d) is =
          let r : IsCallbackInRange d = find_all IsCallbackInRange (is_issued_of object.0) d w.callbacks g.rows.callbacks is in
          ((r.number, omega arith), (c.1, c.2))
