-- Completions of operations that are under way are accepted in any order.
use Rattle.std.proofs.Common.{◌≡◌, ℕ, ◌+◌, ◌≤◌, eqb, true, false, cond, not, List, [], ◌∷◌, length, Option, Some, None, is_none, is_some, refl, sym, ap, ◌∙◌, subst, arith, eqb-true, length-append}
use Rattle.std.proofs.lemmas.List.{length-map}
use Rattle.std.specs.List.{AllByRecursion, IsDistinct}
use Rattle.tp_base.specs.declared.answers.Answer.TheVariants.{Queued}
use Rattle.tp_base.specs.declared.answers.Refusal.TheVariants.{InWait, NoOperation, NoSuch, Released}
use Rattle.tp_base.specs.declared.ids.Who.{Who}
use Rattle.tp_base.specs.declared.ids.Who.TheVariants.{Client}
use Rattle.tp_base.specs.declared.plans.Change.TheVariants.{Operate}
use Rattle.tp_base.specs.declared.plans.IoStep.{IoStep}
use Rattle.tp_base.specs.declared.plans.IoStep.TheVariants.{Complete}
use Rattle.tp_base.specs.declared.plans.Plan.TheVariants.{Does}
use Rattle.tp_base.specs.declared.rows.CallbackRow.{CallbackRow}
use Rattle.tp_model.specs.Calls.Io.{complete_io, complete_io_plan, issued_of, issued_row}
use Rattle.tp_model.specs.Changes.{changed, operated}
use Rattle.tp_model.specs.Conditions.{is_finished, is_in_wait}
use Rattle.tp_model.specs.Counts.{callback_of, has_number, is_issued, owed}
use Rattle.tp_model.specs.History.{room, IsLegal}
use Rattle.tp_model.specs.Refusing.{unless_refused}
use Rattle.tp_model.specs.Support.Sound.{IsSound}
use Rattle.tp_model.specs.World.{World}
use Rattle.tp_model.proofs.Callbacks.{find_replaced_other}
use Rattle.tp_model.proofs.Entries.{next_number_in}
use Rattle.tp_model.proofs.Lists.{find_passes}
use Rattle.tp_model.proofs.Refusals.{false_true}
use Rattle.recorded.specs.Recordings.{room_of, world_behind, Recording}
use Rattle.recorded.proofs.Histories.{sound_behind}
use Rattle.port_facts.specs.Accepted.{with_entries, MayCall}
use Rattle.port_facts.specs.Completions.{callbacks, completion_of, completions, AreCompletable, HaveCompleted, IsCompletable}
use Rattle.port_facts.specs.declared.Posted.{Posted}
use Rattle.port_facts.proofs.Following.{accepted, behind, first_follows, follows, none_follow, FollowAll, Follows}

-- ---- one completion

-- the row of an operation that is under way
record IsUnderWay (w : World) (callback : ℕ) : Type 0 where
  row : CallbackRow
  issued : issued_of w callback ≡ Some row
  number : row.number ≡ callback

under_way : (w : World) (callback : ℕ) → is_some (issued_of w callback) ≡ true → IsUnderWay w callback
under_way w callback e = of_row (callback_of w callback) refl e
  where
    of_row : (found : Option CallbackRow) → callback_of w callback ≡ found → is_some (issued_row found) ≡ true → IsUnderWay w callback
    of_row None is h = absurd (false_true h)
    of_row (Some c) is h =
        elim (is_issued c.status) as (λ b. is_issued c.status ≡ b → is_some (cond b (Some c) None) ≡ true → IsUnderWay w callback) [
          | true ↦ λ here _. record {
            row = c;
            issued = ap issued_row is ∙ ap (λ b. cond b (Some c) None) here;
            number = eqb-true c.number callback (find_passes (has_number callback) c w.callbacks is);
          }
          | false ↦ λ _ g. absurd (false_true g)
        ] refl h

complete_io_is : (w : World) (client callback error bytes : ℕ) (c : CallbackRow) → MayCall w client → issued_of w callback ≡ Some c → complete_io_plan w (Client client) callback error bytes ≡ Does (Queued c.number 1) (Operate c (Complete error bytes))
unfolding complete_io_plan
complete_io_is w client callback error bytes c may is =
    let who : Who = Client client in
    ap (λ b. unless_refused (cond (not b) (Some NoSuch) (cond (is_finished w who) (Some Released) (cond (is_in_wait w who) (Some InWait) (cond (is_none (issued_of w callback)) (Some NoOperation) None)))) (complete_io error bytes (issued_of w callback))) may.actor
    ∙ ap (λ b. unless_refused (cond b (Some Released) (cond (is_in_wait w who) (Some InWait) (cond (is_none (issued_of w callback)) (Some NoOperation) None))) (complete_io error bytes (issued_of w callback))) may.unfinished
    ∙ ap (λ b. unless_refused (cond b (Some InWait) (cond (is_none (issued_of w callback)) (Some NoOperation) None)) (complete_io error bytes (issued_of w callback))) may.unwaiting
    ∙ ap (λ o. unless_refused (cond (is_none o) (Some NoOperation) None) (complete_io error bytes o)) is

-- ---- what stays

module _ (w : World) (c : CallbackRow) (how : IoStep) where
  abbrev next : World
  next = changed w (Operate c how)

  may_still : (client : ℕ) → MayCall w client → MayCall next client
  may_still client may = record { actor = may.actor; unfinished = may.unfinished; unwaiting = may.unwaiting }

  still_issued : (callback : ℕ) → eqb c.number callback ≡ false → issued_of next callback ≡ issued_of w callback
  still_issued callback apart = ap issued_row (find_replaced_other (operated how c) callback w.callbacks apart)

  still_completable : (posted : List Posted) → AllByRecursion (IsCompletable w) posted → AllByRecursion (λ n. eqb c.number n ≡ false) (callbacks posted) → AllByRecursion (IsCompletable next) posted
  still_completable [] each apart = tt
  still_completable (x ∷ posted) each apart = (
    record {
      client = may_still (x.device + 1) each.0.client;
      issued = ap is_some (still_issued x.completion.callback apart.0) ∙ each.0.issued;
    },
    still_completable posted each.1 apart.1,
  )

-- ---- all of them

-- the world behind the completions
record Completed (w : World) (capacity entries : ℕ) (posted : List Posted) : Type 0 where
  next : World
  all : FollowAll w capacity entries (completions posted) next
  clients : (client : ℕ) → MayCall w client → MayCall next client
  owes : owed next ≡ owed w

completed : (w : World) (capacity entries : ℕ) (posted : List Posted) → IsSound (next_number_in w) w → AllByRecursion (IsCompletable w) posted → IsDistinct eqb (callbacks posted) → length posted ≤ room capacity w entries
    → Completed w capacity entries posted
unfolding IsDistinct
completed w capacity entries [] sound each distinct fits = record { next = w; all = none_follow w capacity entries sound; clients = λ client may. may; owes = refl }
completed w capacity entries (x ∷ posted) sound each distinct fits =
    let u = under_way w x.completion.callback each.0.issued in
    let how : IoStep = Complete x.completion.error x.completion.bytes in
    let between : World = changed w (Operate u.row how) in
    let plans = complete_io_is w (x.device + 1) x.completion.callback x.completion.error x.completion.bytes u.row each.0.client u.issued ∙ ap (λ n. Does (Queued n 1) (Operate u.row how)) u.number in
    let first : Follows w (room capacity w entries) (completion_of x) 1 between = follows w (room capacity w entries) (completion_of x) (Operate u.row how) sound plans (omega (arith, fits)) in
    let apart : AllByRecursion (λ n. eqb u.row.number n ≡ false) (callbacks posted) = subst (λ m. AllByRecursion (λ n. eqb m n ≡ false) (callbacks posted)) (sym u.number) distinct.0 in
    let rest = completed between capacity (entries + 1) posted first.sound (still_completable w u.row how posted each.1 apart) distinct.1 (omega (arith, first.owes, fits)) in
    record {
      next = rest.next;
      all = first_follows w between rest.next capacity entries 1 (completion_of x) (completions posted) first rest.all;
      clients = λ client may. rest.clients client (may_still w u.row how client may);
      owes = omega (arith, rest.owes, first.owes);
    }

pub are_completed : (r : Recording) (posted : List Posted) → IsLegal r.limits r.capacity r.history → AreCompletable (world_behind r) posted → length posted ≤ room_of r → HaveCompleted r posted
are_completed r posted legal may fits =
    let c = completed (world_behind r) r.capacity (length r.history) posted (sound_behind r legal) may.each may.distinct fits in
    let there : world_behind (with_entries r (completions posted)) ≡ c.next = behind r (completions posted) c.next c.all in
    record {
      accepted = accepted r (completions posted) c.next legal c.all;
      clients = λ client m. subst (λ v. MayCall v client) (sym there) (c.clients client m);
      room = omega (arith, ap owed there, c.owes, length-append r.history (completions posted), length-map posted completion_of, fits);
    }
