-- What an entry of a legal history leads to, and what is kept along a history.
use Rattle.std.proofs.Common.{◌≡◌, ℕ, ◌+◌, Bool, true, false, cond, List, [], ◌∷◌, ◌++◌, length, nat_lt, Some, refl, sym, ap, ◌∙◌, append_assoc, subst, arith, ap₂, Option, None, inl}
use Rattle.std.proofs.lemmas.List.{append-nil}
use Rattle.tp_base.specs.declared.rows.WaitTarget.{WaitTarget}
use Rattle.tp_base.specs.declared.rows.WaitTarget.TheVariants.{Object, Group, Kernel}
use Rattle.tp_base.specs.Kernels.{may_take}
use Rattle.tp_model.specs.Kernels.{is_kernel_that}
use Rattle.tp_base.specs.declared.ids.Who.{Who}
use Rattle.tp_base.specs.declared.calls.Call.{Call}
use Rattle.tp_base.specs.declared.calls.Call.TheVariants.{CreatePool, End}
use Rattle.tp_base.specs.declared.answers.Answer.{Answer}
use Rattle.tp_base.specs.declared.answers.Answer.TheVariants as answer
use Rattle.tp_base.specs.declared.answers.Refusal.{Refusal}
use Rattle.tp_base.specs.declared.answers.Outcome.TheVariants as outcome
use Rattle.tp_base.specs.declared.answers.Entry.{Entry}
use Rattle.tp_base.specs.declared.plans.Change.{Change}
use Rattle.tp_base.specs.declared.plans.Plan.{Plan}
use Rattle.tp_base.specs.declared.plans.Plan.TheVariants as plans
use Rattle.tp_model.specs.World.{World, BegunWait}
use Rattle.tp_model.specs.Changes.{changed}
use Rattle.tp_model.specs.Step.{Accepted, Refused, Full, stepped, within, cost, outcome_of}
use Rattle.tp_model.specs.Table.{plan, step}
use Rattle.tp_model.specs.History.{is_refusal, change_of, change_told, led_by, led_to, after_from, room, IsLegalFrom, wait_end}
use Rattle.tp_model.specs.Support.Sound.{IsSound, is_wait_at}
use Rattle.tp_model.specs.Support.Safe.{IsSafeChange}
use Rattle.tp_model.specs.Laws.Entries.{is_return_call, is_disassociate_call, is_end_call, is_complete_call}
use Rattle.tp_model.specs.Refusing.{first_refusal, unless_refused}
use Rattle.tp_model.specs.Waits.{wait_of, held}
use Rattle.tp_model.specs.Calls.Waits.{end_for, end_held, end_wait, holds_starved, end_notices, notice_of}
use Rattle.tp_model.specs.Calls.End.{end_plan, end_refusals, end_unless_stalled}
use Rattle.tp_model.specs.Conditions.{is_closed_pool}
use Rattle.tp_model.specs.Stalled.{is_stalled}
use Rattle.tp_base.specs.declared.answers.Look.TheVariants as look
use Rattle.tp_base.specs.declared.plans.WaitEnd.TheVariants as how
use Rattle.tp_base.specs.declared.plans.Change.TheVariants as changes
use Rattle.tp_model.specs.Support.Told.{deed_by, nothing}
use Rattle.tp_model.specs.Support.Moves.{Stay, Keep, Leads}
use Rattle.tp_model.proofs.Growing.{grows}
use Rattle.tp_model.proofs.Sound.{changed_sound}
use Rattle.tp_model.proofs.Steps.{plan_allowed}
use Rattle.tp_model.proofs.Moves.{change_leads}
use Rattle.tp_model.proofs.Refusals.{and_false, or_false, false_true}
use Rattle.tp_base.specs.declared.ids.ObjectId.{ObjectId}

-- the number that the next callback gets
abbrev pub next_number_in : World → ℕ
next_number_in w = length w.callbacks + 1

-- an entry leads to a sound world, as its call moves what there is
pub record LeadsOn (w : World) (entry : Entry) (after : World) : Type 0 where
  pub leads : Leads (next_number_in w) w entry after
  pub sound : IsSound (next_number_in after) after

refused_leads : (w : World) (who : Who) (call : Call) (refusal : Refusal) → Leads (next_number_in w) w (record { who = who; call = call; answer = answer.Refused refusal }) w
refused_leads w who call refusal =
    record {
      moves = record {
        kept = w.callbacks;
        new = [];
        move = Stay (record { tells = deed_refused; callbacks = refl; workers = refl });
        rows = tt;
        made = none_either (is_complete_call call);
        queued = none_either (is_complete_call call);
        started = refl;
        callbacks = sym (append-nil w.callbacks);
        arms = λ object wait. omega arith;
        homes = tt;
        simples = λ group e. tt;
        placed = λ s e. tt;
      };
      waits = Keep (record { begins = refl; ends = and_false (is_end_call call); quiet = refl; stay = λ other wait found. found; was = λ other wait found. inl found });
      limits = refl;
      objects = record { waits = λ object. sym (or_false (is_wait_at w.objects object)); new = λ object makes. absurd (false_true makes) };
      groups = record {
        keeps = λ n row is. record { new = row; stands = is; env = refl; context = refl; released = λ e. e };
        creates = λ c e. absurd cc;
        closes = λ object e. absurd cc;
        counts = refl;
        clears = λ b group e. absurd cc;
        dues = λ group. refl;
      };
      maxima = λ pool. refl;
      closings = λ pool. sym (or_false (is_closed_pool w pool));
    }
  where
    none_either : (b : Bool) → ◌≡◌ {A = List ℕ} (cond b [] []) []
    none_either true = refl
    none_either false = refl

    deed_refused : deed_by (record { who = who; call = call; answer = answer.Refused refusal }) ≡ nothing
    deed_refused =
        ap₂ (λ b c. record nothing { returned = b; loosened = c }) (and_false (is_return_call call)) (and_false (is_disassociate_call call))

-- the answer of End tells how the wait ends
told_end : (w : World) (left : ℕ) (who : Who) (a : Answer) (ch : Change) → end_plan w left who ≡ plans.Does a ch → wait_end who a ≡ Some ch
unfolding end_plan
told_end w left who a ch is = of_refusal (first_refusal (end_refusals w who)) is
  where
    told_as : (b : Answer) (c : Change) → wait_end who b ≡ Some c → plans.Does b c ≡ plans.Does a ch → wait_end who a ≡ Some ch
    told_as b c here e =
        let answers : b ≡ a = cc in
        let changes : c ≡ ch = cc in
        ap (wait_end who) (sym answers) ∙ here ∙ ap (λ x. Some x) changes

    of_notices : (cleanup : ℕ) (os : List ObjectId) → end_notices w who cleanup os ≡ plans.Does a ch → wait_end who a ≡ Some ch
    of_notices cleanup [] e = told_as answer.Ended (changes.EndWait who how.Free) refl e
    of_notices cleanup (o ∷ os) e = told_as (notice_of w.objects cleanup o) (changes.GiveNotice who) refl e

    of_held : (b : BegunWait) (numbers : List ℕ) → end_held w left who b numbers ≡ plans.Does a ch → wait_end who a ≡ Some ch
    of_held b [] e = of_notices b.cleanup b.notices e
    of_held b (n ∷ ns) e =
        elim (holds_starved w left (n ∷ ns)) as (λ b. cond b (plans.Does answer.Exhausted (changes.EndWait who how.Exhausted)) (plans.Looked (look.NotYet n)) ≡ plans.Does a ch → wait_end who a ≡ Some ch) [
          | true ↦ λ h. told_as answer.Exhausted (changes.EndWait who how.Exhausted) refl h
          | false ↦ λ h. absurd cc
        ] e

    of_wait : (b : Option BegunWait) → end_wait w left who b ≡ plans.Does a ch → wait_end who a ≡ Some ch
    of_wait None e = absurd cc
    of_wait (Some b) e = of_target b.target e
      where
        of_target : (t : WaitTarget) → end_for w left who b t ≡ plans.Does a ch → wait_end who a ≡ Some ch
        of_target (Object object) h = of_held b (held w b) h
        of_target (Group group) h = of_held b (held w b) h
        of_target (Kernel kernel) h =
            elim (is_kernel_that (may_take who) w kernel.0) as (λ t. cond t (plans.Does answer.Ended (changes.EndWait who how.Free)) (plans.Looked (look.NotYetKernel kernel)) ≡ plans.Does a ch → wait_end who a ≡ Some ch) [
              | true ↦ λ g. told_as answer.Ended (changes.EndWait who how.Free) refl g
              | false ↦ λ g. absurd cc
            ] h

    of_plan : (p : Plan) → (p ≡ plans.Does a ch → wait_end who a ≡ Some ch) → end_unless_stalled w left who p ≡ plans.Does a ch → wait_end who a ≡ Some ch
    of_plan (plans.Refused refusal) told e = absurd cc
    of_plan (plans.Does b c) told e = told e
    of_plan (plans.Looked seen) told e =
        elim (is_stalled w left) as (λ t. cond t (plans.Does answer.Stalled (changes.EndWait who how.Stalled)) (plans.Looked seen) ≡ plans.Does a ch → wait_end who a ≡ Some ch) [
          | true ↦ λ h. told_as answer.Stalled (changes.EndWait who how.Stalled) refl h
          | false ↦ λ h. absurd cc
        ] e

    of_refusal : (r : Option Refusal) → unless_refused r (end_unless_stalled w left who (end_wait w left who (wait_of w who))) ≡ plans.Does a ch → wait_end who a ≡ Some ch
    of_refusal (Some refusal) e = absurd cc
    of_refusal None e = of_plan (end_wait w left who (wait_of w who)) (of_wait (wait_of w who)) e

-- an entry's answer tells the change of its plan
pub told_change : (w : World) (left : ℕ) (who : Who) (call : Call) (a : Answer) (ch : Change) → plan w left who call ≡ plans.Does a ch → change_told w who call a ≡ Some ch
told_change w left who End a ch is = told_end w left who a ch is
told_change w left who CreatePool a ch is = ap change_of is
told_change w left who _ a ch is = ap change_of is

-- the entry of a call that is accepted: the change of its plan is allowed and told, and leads where the entry does
pub record IsAccepted (w : World) (left : ℕ) (entry : Entry) : Type 0 where
  pub change : Change
  pub plan_is : plan w left entry.who entry.call ≡ plans.Does entry.answer change
  pub safe : IsSafeChange (next_number_in w) w entry.who entry.call entry.answer change
  pub leads : led_to w entry ≡ changed w change

-- an entry of a legal history is that of a call that is accepted, or of one that is refused and changes nothing
pub data Entered (w : World) (left : ℕ) (entry : Entry) : Type 0 where
  Accepts : IsAccepted w left entry → Entered w left entry
  Refuses : (refusal : Refusal) → entry.answer ≡ answer.Refused refusal → led_to w entry ≡ w → Entered w left entry

pub entered : (w : World) (left : ℕ) (entry : Entry) → IsSound (next_number_in w) w → outcome_of (step w left entry.who entry.call) ≡ outcome.Done entry.answer → Entered w left entry
entered w left entry s answers = of_plan (plan w left entry.who entry.call) refl answers
  where
    of_change : (a : Answer) (ch : Change) → a ≡ entry.answer → plan w left entry.who entry.call ≡ plans.Does a ch → Entered w left entry
    of_change a ch same is =
        let here : plan w left entry.who entry.call ≡ plans.Does entry.answer ch = is ∙ ap (λ b. plans.Does b ch) same in
        let safe : IsSafeChange (next_number_in w) w entry.who entry.call entry.answer ch = plan_allowed (next_number_in w) left w entry.who entry.call entry.answer ch s here in
        let makes : change_told w entry.who entry.call entry.answer ≡ Some ch = told_change w left entry.who entry.call entry.answer ch here in
        let there : led_to w entry ≡ changed w ch = ap (λ b. cond b w (led_by w (change_told w entry.who entry.call entry.answer))) safe.accepted ∙ ap (led_by w) makes in
        Accepts (record { change = ch; plan_is = here; safe = safe; leads = there })

    of_plan : (p : Plan) → plan w left entry.who entry.call ≡ p → outcome_of (within w left (stepped w p)) ≡ outcome.Done entry.answer → Entered w left entry
    of_plan (plans.Does a ch) is says =
        elim (nat_lt left (cost w (changed w ch))) as (λ b. outcome_of (cond b (Full left (cost w (changed w ch))) (Accepted a (changed w ch))) ≡ outcome.Done entry.answer → Entered w left entry) [
          | true ↦ λ e. absurd cc
          | false ↦ λ e. of_change a ch (cc) is
        ] says
    of_plan (plans.Refused refusal) is says =
        elim (nat_lt left 1) as (λ b. outcome_of (cond b (Full left 1) (Refused refusal)) ≡ outcome.Done entry.answer → Entered w left entry) [
          | true ↦ λ e. absurd cc
          | false ↦ λ e.
              let same : answer.Refused refusal ≡ entry.answer = cc in
              Refuses refusal (sym same) (ap (λ a. cond (is_refusal a) w (led_by w (change_told w entry.who entry.call a))) (sym same))
        ] says
    of_plan (plans.Looked look) is says = absurd cc

-- it leads on
pub entry_leads : (w : World) (left : ℕ) (entry : Entry) → IsSound (next_number_in w) w → outcome_of (step w left entry.who entry.call) ≡ outcome.Done entry.answer → LeadsOn w entry (led_to w entry)
entry_leads w left entry s answers = of_entry (entered w left entry s answers)
  where
    of_entry : Entered w left entry → LeadsOn w entry (led_to w entry)
    of_entry (Accepts e) =
        subst (LeadsOn w entry) (sym e.leads)
        (record {
          leads = change_leads (next_number_in w) w entry e.change s e.safe.allowed e.safe.made_by e.safe.tells;
          sound = subst (λ n. IsSound n (changed w e.change)) (omega (arith, grows (next_number_in w) w e.change e.safe.allowed)) (changed_sound (next_number_in w) w e.change s e.safe.allowed);
        })
    of_entry (Refuses refusal same stays) =
        subst (LeadsOn w entry) (sym stays)
        (record { leads = subst (λ (a : Answer). Leads (next_number_in w) w (record { who = entry.who; call = entry.call; answer = a }) w) (sym same) (refused_leads w entry.who entry.call refusal); sound = s })

-- ---- along a history

-- each entry keeps the property
abbrev pub IsKept : (List Entry → World → Type 0) → Type 0
IsKept P = (before : List Entry) (w : World) (left : ℕ) (entry : Entry) → P before w → outcome_of (step w left entry.who entry.call) ≡ outcome.Done entry.answer → P (before ++ entry ∷ []) (led_to w entry)

pub kept_to_end : (P : List Entry → World → Type 0) → IsKept P → (capacity entries : ℕ) (before rest : List Entry) (w : World) → P before w → IsLegalFrom w capacity entries rest → P (before ++ rest) (after_from w rest)
kept_to_end P keeps capacity entries before [] w p legal = subst (λ h. P h w) (sym (append-nil before)) p
kept_to_end P keeps capacity entries before (entry ∷ rest) w p legal =
    subst (λ h. P h (after_from (led_to w entry) rest)) (append_assoc before (entry ∷ []) rest)
    (kept_to_end P keeps capacity (entries + 1) (before ++ entry ∷ []) rest (led_to w entry) (keeps before w (room capacity w entries) entry p legal.0) legal.1)

-- a world in which the property holds, and in which the entry's answer is the machine's
pub record Reached (P : List Entry → World → Type 0) (before : List Entry) (entry : Entry) : Type 0 where
  pub world : World
  pub left : ℕ
  pub holds : P before world
  pub answers : outcome_of (step world left entry.who entry.call) ≡ outcome.Done entry.answer

pub kept_to_entry : (P : List Entry → World → Type 0) → IsKept P → (capacity entries : ℕ) (before between later : List Entry) (entry : Entry) (w : World) → P before w → IsLegalFrom w capacity entries (between ++ entry ∷ later) → Reached P (before ++ between) entry
kept_to_entry P keeps capacity entries before [] later entry w p legal =
    record { world = w; left = room capacity w entries; holds = subst (λ h. P h w) (sym (append-nil before)) p; answers = legal.0 }
kept_to_entry P keeps capacity entries before (first ∷ between) later entry w p legal =
    subst (λ h. Reached P h entry) (append_assoc before (first ∷ []) between)
    (kept_to_entry P keeps capacity (entries + 1) (before ++ first ∷ []) between later entry (led_to w first) (keeps before w (room capacity w entries) first p legal.0) legal.1)
