-- A stalled machine stays so: the law of what comes after a stall.
use Rattle.std.specs.List.{list_all}
use Rattle.std.proofs.Common.{◌≡◌, ℕ, ◌+◌, ◌≤◌, Bool, true, false, cond, ◌&&◌, ◌||◌, List, [], ◌∷◌, ◌++◌, length, nat_le, nat_lt, Option, Some, None, refl, sym, ap, ◌∙◌, subst, arith, ltb-false}
use Rattle.tp_base.specs.Kernels.{may_take}
use Rattle.tp_base.specs.declared.answers.Answer.{Answer}
use Rattle.tp_base.specs.declared.answers.Answer.TheVariants as answer
use Rattle.tp_base.specs.declared.answers.Entry.{Entry}
use Rattle.tp_base.specs.declared.answers.Look.TheVariants as look
use Rattle.tp_base.specs.declared.answers.Outcome.TheVariants as outcome
use Rattle.tp_base.specs.declared.answers.Refusal.{Refusal}
use Rattle.tp_base.specs.declared.calls.Call.{Call}
use Rattle.tp_base.specs.declared.calls.Call.TheVariants.{Attach, Detach, End, Take}
use Rattle.tp_base.specs.declared.ids.ObjectId.{ObjectId}
use Rattle.tp_base.specs.declared.ids.Who.{Who}
use Rattle.tp_base.specs.declared.ids.Who.TheVariants.{Client, Worker}
use Rattle.tp_base.specs.declared.limits.Limits.{Limits}
use Rattle.tp_base.specs.declared.plans.Change.{Change}
use Rattle.tp_base.specs.declared.plans.Change.TheVariants as change
use Rattle.tp_base.specs.declared.plans.Idle.{Idle}
use Rattle.tp_base.specs.declared.plans.Plan.{Plan}
use Rattle.tp_base.specs.declared.plans.Plan.TheVariants as plans
use Rattle.tp_base.specs.declared.plans.WaitEnd.TheVariants as how
use Rattle.tp_base.specs.declared.rows.CallbackRow.{CallbackRow}
use Rattle.tp_base.specs.declared.rows.WaitTarget.{WaitTarget}
use Rattle.tp_base.specs.declared.rows.WaitTarget.TheVariants.{Group, Kernel, Object}
use Rattle.tp_model.specs.Calls.End.{end_plan, end_refusals, end_unless_stalled}
use Rattle.tp_model.specs.Calls.Waits.{end_for, end_held, end_notices, end_wait, holds_starved}
use Rattle.tp_model.specs.Calls.Workers.{attach_plan, attach_refusals, attach_to, detach, detach_plan, idle_refusals, may_leave, pool_to_join, take, take_callback, take_plan}
use Rattle.tp_model.specs.Changes.{changed}
use Rattle.tp_model.specs.Conditions.{idle_of}
use Rattle.tp_model.specs.Counts.{maximum, next, owed, running}
use Rattle.tp_model.specs.History.{IsLegal, IsLegalFrom, after, after_from, is_refusal, led_to, room}
use Rattle.tp_model.specs.Kernels.{is_kernel_that}
use Rattle.tp_model.specs.Refusing.{first_refusal, unless_refused}
use Rattle.tp_model.specs.Stalled.{is_stalled}
use Rattle.tp_model.specs.Stalling.{StaysStalled, before_the_end, is_given_up, is_move, moves_only}
use Rattle.tp_model.specs.Step.{Accepted, Full, Refused, cost, outcome_of, stepped, within}
use Rattle.tp_model.specs.Support.Allowed.{IsAllowed, MayAttach, price}
use Rattle.tp_model.specs.Support.Sound.{IsSound}
use Rattle.tp_model.specs.Table.{plan, step}
use Rattle.tp_model.specs.Waits.{held, wait_of}
use Rattle.tp_model.specs.World.{BegunWait, World, opening}
use Rattle.tp_model.proofs.Barred.{accepted_free, is_apart, passed}
use Rattle.tp_model.proofs.Costs.{paid}
use Rattle.tp_model.proofs.Entries.{Accepts, Entered, IsAccepted, Refuses, entered, entry_leads, next_number_in}
use Rattle.tp_model.proofs.Refusals.{false_true, or_true}
use Rattle.tp_model.proofs.Sound.{opening_sound}
use Rattle.tp_model.proofs.Sole.{AreSole, opening_sole, sole_more}
use Rattle.tp_model.proofs.Steps.{cost_is}
use Rattle.tp_model.proofs.Stuck.{IsStuck, stalled_stuck, stuck_less, stuck_attached, stuck_detached, none_free, none_taken, ends_given_up}

-- ---- what a stuck world accepts

-- a call that is accepted costs no more than the room
fits : (w : World) (left : ℕ) (who : Who) (made : Call) (a told : Answer) (ch : Change) → plan w left who made ≡ plans.Does a ch → outcome_of (step w left who made) ≡ outcome.Done told → cost w (changed w ch) ≤ left
fits w left who made a told ch is answers = of_room (nat_lt left (cost w (changed w ch))) refl (sym (ap (λ p. outcome_of (within w left (stepped w p))) is) ∙ answers)
  where
    of_room : (b : Bool) → nat_lt left (cost w (changed w ch)) ≡ b → outcome_of (cond b (Full left (cost w (changed w ch))) (Accepted a (changed w ch))) ≡ outcome.Done told → cost w (changed w ch) ≤ left
    of_room true short h = absurd cc
    of_room false short h = ltb-false left (cost w (changed w ch)) short

-- an entry that ends no wait as stalled or exhausted is a refusal or a move of a worker, and leads to a stuck world
record IsIdled (capacity entries : ℕ) (entry : Entry) (after : World) : Type 0 where
  only : moves_only entry ≡ true
  stuck : IsStuck after (room capacity after (entries + 1))

-- the entry's answer is the machine's
abbrev IsAnswered : World → ℕ → Entry → Type 0
IsAnswered w left entry = outcome_of (step w left entry.who entry.call) ≡ outcome.Done entry.answer

module _ (w : World) (capacity entries : ℕ) (entry : Entry) (sound : IsSound (next_number_in w) w) (sole : AreSole w.workers) (stuck : IsStuck w (room capacity w entries)) (answers : IsAnswered w (room capacity w entries) entry) (goes_on : is_given_up entry.answer ≡ false) where
  abbrev left : ℕ
  left = room capacity w entries

  abbrev Idled : Type 0
  Idled = IsIdled capacity entries entry (led_to w entry)

  module _ (e : IsAccepted w left entry) where
    -- its plan's change is this one
    abbrev Makes : Change → Type 0
    Makes ch = ch ≡ e.change

    abbrev Plans : Plan → Type 0
    Plans p = p ≡ plans.Does entry.answer e.change

    allowed : (ch : Change) → Makes ch → IsAllowed (next_number_in w) w ch
    allowed ch same = subst (IsAllowed (next_number_in w) w) (sym same) e.safe.allowed

    pays : (ch : Change) → Makes ch → 1 + owed (changed w ch) ≡ owed w + price ch
    pays ch same = subst (λ c. 1 + owed (changed w c) ≡ owed w + price c) (sym same) (paid (next_number_in w) w e.change sound e.safe.allowed)

    costs : (ch : Change) → Makes ch → price ch ≤ left
    costs ch same =
        subst (λ c. price c ≤ left) (sym same)
        (omega (arith, fits w left entry.who entry.call entry.answer entry.answer e.change e.plan_is answers, cost_is (next_number_in w) w e.change sound e.safe.allowed))

    moves : is_move entry.call ≡ true → (ch : Change) → Makes ch → IsStuck (changed w ch) (room capacity (changed w ch) (entries + 1)) → Idled
    moves is ch same s =
        record {
          only = ap (λ b. is_refusal entry.answer || b) is ∙ or_true (is_refusal entry.answer);
          stuck = subst (λ v. IsStuck v (room capacity v (entries + 1))) (ap (changed w) same ∙ sym e.leads) s;
        }

    attaches : is_move entry.call ≡ true → (who : Who) (pool : Option ℕ) → Plans (attach_to who pool) → Idled
    attaches is (Worker n) (Some pool) h =
        let ch : Change = change.Attach n (record { 0 = pool }) in
        let same : Makes ch = cc in
        let may : MayAttach w n (record { 0 = pool }) = allowed ch same in
        moves is ch same (stuck_attached w n may.row (record { 0 = pool }) left (room capacity (changed w ch) (entries + 1)) may.stands may.away may.idle (omega (arith, pays ch same, costs ch same)) stuck)
    attaches is (Worker n) None h = absurd cc
    attaches is (Client n) (Some pool) h = absurd cc
    attaches is (Client n) None h = absurd cc

    detaches : is_move entry.call ≡ true → (o : Option Idle) → Plans (detach w o) → Idled
    detaches is None h = absurd cc
    detaches is (Some by) h =
        elim (may_leave w by) as (λ b. Plans (cond b (plans.Does answer.Done (change.Detach by)) (plans.Looked look.Stay)) → Idled) [
          | true ↦ λ g.
              let ch : Change = change.Detach by in
              let same : Makes ch = cc in
              moves is ch same (stuck_detached w by left (room capacity (changed w ch) (entries + 1)) (allowed ch same) (omega (arith, pays ch same)) stuck)
          | false ↦ λ g. absurd cc
        ] h

    takes : (o : Option Idle) → Plans (take w o) → ⊥
    takes None h = cc
    takes (Some by) h = of_next (next w by.pool.0 by.persistent) h
      where
        of_next : (o : Option CallbackRow) → Plans (take_callback w by o) → ⊥
        of_next None g = cc
        of_next (Some c) g =
            elim (nat_le (maximum w by.pool.0) (running w by.pool.0))
            as (λ b. Plans (cond b (plans.Looked (look.AtMaximum (running w by.pool.0))) (plans.Does (answer.Taken c.number c.object c.routine c.context c.result) (change.Take by c))) → ⊥) [
              | true ↦ λ f. cc
              | false ↦ λ f. let same : Makes (change.Take by c) = cc in none_taken w left entry.who sound stuck sole by c (allowed (change.Take by c) same) (costs (change.Take by c) same)
            ] g

    of_apart : (made : Call) → entry.call ≡ made → is_apart made ≡ true → Plans (plan w left entry.who made) → Idled
    unfolding attach_plan detach_plan take_plan
    of_apart Attach is h p = attaches (ap is_move is) entry.who (pool_to_join w) (passed (attach_refusals w entry.who) _ entry.answer e.change p).1
    of_apart Detach is h p = detaches (ap is_move is) (idle_of w entry.who) (passed (idle_refusals w entry.who) _ entry.answer e.change p).1
    of_apart Take is h p = absurd (takes (idle_of w entry.who) (passed (idle_refusals w entry.who) _ entry.answer e.change p).1)
    of_apart End is h p = absurd (false_true (sym goes_on ∙ ends_given_up w left entry.who sound stuck entry.answer e.change p))
    of_apart _ is h p = absurd (false_true h)

    accepted : Idled
    accepted =
        elim (is_apart entry.call) as (λ b. is_apart entry.call ≡ b → Idled) [
          | true ↦ λ h. of_apart entry.call refl h e.plan_is
          | false ↦ λ h. absurd (none_free w left entry.who sound stuck (accepted_free w entry.who entry.answer e.change (next_number_in w) left entry.call h e.plan_is))
        ] refl

  idled : Entered w left entry → Idled
  idled (Accepts e) = accepted e
  idled (Refuses refusal same stays) =
      record {
        only = ap (λ a. is_refusal a || is_move entry.call) same;
        stuck = subst (λ v. IsStuck v (room capacity v (entries + 1))) (sym stays) (stuck_less w left (room capacity w (entries + 1)) (omega arith) stuck);
      }

-- ---- along a history

stays : (capacity entries : ℕ) (w : World) (more : List Entry) → IsSound (next_number_in w) w → AreSole w.workers → IsStuck w (room capacity w entries) → IsLegalFrom w capacity entries more → list_all moves_only (before_the_end more) ≡ true
stays capacity entries w [] sound sole stuck legal = refl
stays capacity entries w (entry ∷ more) sound sole stuck legal =
    elim (is_given_up entry.answer) as (λ b. is_given_up entry.answer ≡ b → list_all moves_only (cond b [] (entry ∷ before_the_end more)) ≡ true) [
      | true ↦ λ _. refl
      | false ↦ λ on.
          let next = idled w capacity entries entry sound sole stuck legal.0 on (entered w (room capacity w entries) entry sound legal.0) in
          let led = entry_leads w (room capacity w entries) entry sound legal.0 in
          ap (λ b. b && list_all moves_only (before_the_end more)) next.only
          ∙ stays capacity (entries + 1) (led_to w entry) more led.sound (sole_more w entry led.leads.moves.kept (led_to w entry).workers led.leads.moves.move sole) next.stuck legal.1
    ] refl

-- a history that goes on is legal up to a place, and on from the world there
split : (capacity entries : ℕ) (w : World) (before more : List Entry) → IsSound (next_number_in w) w → AreSole w.workers → IsLegalFrom w capacity entries (before ++ more)
    → IsSound (next_number_in (after_from w before)) (after_from w before) × (AreSole (after_from w before).workers × IsLegalFrom (after_from w before) capacity (entries + length before) more)
split capacity entries w [] more sound sole legal = (sound, (sole, subst (λ n. IsLegalFrom w capacity n more) (omega arith) legal))
split capacity entries w (entry ∷ before) more sound sole legal =
    let led = entry_leads w (room capacity w entries) entry sound legal.0 in
    let rest = split capacity (entries + 1) (led_to w entry) before more led.sound (sole_more w entry led.leads.moves.kept (led_to w entry).workers led.leads.moves.move sole) legal.1 in
    (rest.0, (rest.1.0, subst (λ n. IsLegalFrom (after_from (led_to w entry) before) capacity n more) (omega arith) rest.1.1))

-- ---- an End that is answered with Stalled

abbrev stalls : Plan → Bool
stalls (plans.Does answer.Stalled ch) = true
stalls _ = false

-- the machine is stalled where an End is answered so
module _ (w : World) (left : ℕ) (who : Who) where
  stepped_stalled : (p : Plan) → outcome_of (within w left (stepped w p)) ≡ outcome.Done answer.Stalled → stalls p ≡ true
  stepped_stalled (plans.Does a ch) e =
      elim (nat_lt left (cost w (changed w ch))) as (λ b. outcome_of (cond b (Full left (cost w (changed w ch))) (Accepted a (changed w ch))) ≡ outcome.Done answer.Stalled → stalls (plans.Does a ch) ≡ true) [
        | true ↦ λ h. absurd cc
        | false ↦ λ h. let same : answer.Stalled ≡ a = cc in ap (λ x. stalls (plans.Does x ch)) (sym same)
      ] e
  stepped_stalled (plans.Refused refusal) e =
      elim (nat_lt left 1) as (λ b. outcome_of (cond b (Full left 1) (Refused refusal)) ≡ outcome.Done answer.Stalled → false ≡ true) [ true ↦ λ h. absurd cc | false ↦ λ h. absurd cc ] e
  stepped_stalled (plans.Looked look) e = absurd cc

  waits_on_calmly : (o : Option BegunWait) → stalls (end_wait w left who o) ≡ false
  waits_on_calmly None = refl
  waits_on_calmly (Some b) = of_target b.target
    where
      of_notices : (os : List ObjectId) → stalls (end_notices w who b.cleanup os) ≡ false
      of_notices [] = refl
      of_notices (o ∷ os) = refl

      of_held : (numbers : List ℕ) → stalls (end_held w left who b numbers) ≡ false
      of_held [] = of_notices b.notices
      of_held (n ∷ ns) = elim (holds_starved w left (n ∷ ns)) as (λ t. stalls (cond t (plans.Does answer.Exhausted (change.EndWait who how.Exhausted)) (plans.Looked (look.NotYet n))) ≡ false) [ true ↦ refl | false ↦ refl ]

      of_target : (t : WaitTarget) → stalls (end_for w left who b t) ≡ false
      of_target (Object object) = of_held (held w b)
      of_target (Group group) = of_held (held w b)
      of_target (Kernel kernel) = elim (is_kernel_that (may_take who) w kernel.0) as (λ t. stalls (cond t (plans.Does answer.Ended (change.EndWait who how.Free)) (plans.Looked (look.NotYetKernel kernel))) ≡ false) [ true ↦ refl | false ↦ refl ]

  of_end : (p : Plan) → stalls p ≡ false → stalls (end_unless_stalled w left who p) ≡ true → is_stalled w left ≡ true
  of_end (plans.Looked seen) calm e =
      elim (is_stalled w left) as (λ b. stalls (cond b (plans.Does answer.Stalled (change.EndWait who how.Stalled)) (plans.Looked seen)) ≡ true → b ≡ true) [ true ↦ λ _. refl | false ↦ λ h. absurd (false_true h) ] e
  of_end (plans.Refused refusal) calm e = absurd (false_true e)
  of_end (plans.Does told ch) calm e = absurd (false_true (sym calm ∙ e))

  answered_stalled : outcome_of (step w left who End) ≡ outcome.Done answer.Stalled → is_stalled w left ≡ true
  unfolding end_plan
  answered_stalled e = of_refusal (first_refusal (end_refusals w who)) (stepped_stalled (end_plan w left who) e)
    where
      of_refusal : (r : Option Refusal) → stalls (unless_refused r (end_unless_stalled w left who (end_wait w left who (wait_of w who)))) ≡ true → is_stalled w left ≡ true
      of_refusal (Some refusal) h = absurd (false_true h)
      of_refusal None h = of_end (end_wait w left who (wait_of w who)) (waits_on_calmly (wait_of w who)) h

pub stays_stalled : (limits : Limits) (capacity : ℕ) (history more : List Entry) → IsLegal limits capacity (history ++ more) → StaysStalled limits capacity history more
stays_stalled limits capacity history more legal who stalled =
    let here = split capacity 0 (opening limits) history more (opening_sound limits) (opening_sole limits.workers) legal in
    let left : ℕ = room capacity (after limits history) (length history) in
    stays capacity (length history) (after limits history) more here.0 here.1.0 (stalled_stuck (after limits history) left (answered_stalled (after limits history) left who stalled))
    (subst (λ n. IsLegalFrom (after limits history) capacity n more) (omega arith) here.1.1)
