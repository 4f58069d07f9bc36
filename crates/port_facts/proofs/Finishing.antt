-- Clients finish one after another.
use Rattle.std.proofs.Common.{◌≡◌, ◌≢◌, ℕ, zero, suc, ◌+◌, ◌-◌, ◌<◌, ◌≤◌, ◌==◌, ◌||◌, false, cond, length, None, is_some, slice_set, ap, ◌∙◌, arith}
use Rattle.std.specs.Option.{option_map_or}
use Rattle.tp_base.specs.declared.plans.Change.TheVariants.{Finish}
use Rattle.tp_base.specs.declared.rows.ClientRow.{ClientRow}
use Rattle.tp_model.specs.Changes.{with_client, finished as finished_row}
use Rattle.tp_model.specs.Counts.{numbered}
use Rattle.tp_model.specs.History.{room, IsLegal}
use Rattle.tp_model.specs.Support.Sound.{IsSound}
use Rattle.tp_model.specs.World.{World}
use Rattle.tp_model.proofs.Entries.{next_number_in}
use Rattle.tp_model.proofs.Lists.{get_set_other}
use Rattle.tp_model.proofs.Refusals.{false_true}
use Rattle.tp_model.proofs.Unrefused.{finish_is}
use Rattle.recorded.specs.Recordings.{world_behind, Recording}
use Rattle.recorded.proofs.Histories.{sound_behind}
use Rattle.port_facts.specs.Accepted.{AreAccepted, MayCall}
use Rattle.port_facts.specs.SetUp.{finished, finishes}
use Rattle.port_facts.proofs.Following.{accepted, first_follows, follows, none_follow, FollowAll, Follows}

-- a client that finishes leaves the others as they are
pub others_may : (w : World) (number client : ℕ) → number ≢ client → MayCall w number → MayCall w client → MayCall (with_client w number finished_row) client
others_may w number zero apart own may = absurd (false_true may.actor)
others_may w zero (suc client) apart own may = absurd (false_true own.actor)
others_may w (suc number) (suc client) apart own may =
    let row : numbered (slice_set w.clients (suc number - 1) finished_row) (suc client) ≡ numbered w.clients (suc client) =
    ap (λ o. cond (suc client == 0) None o) (get_set_other w.clients (suc number - 1) (suc client - 1) finished_row (λ e. apart (omega (arith, e)))) in
    record {
      actor = ap (λ o. is_some o || false) row ∙ may.actor;
      unfinished = ap (λ o. option_map_or (λ (r : ClientRow). r.finished) o false) row ∙ may.unfinished;
      unwaiting = may.unwaiting;
    }

-- an entry of a client's finish
pub finish_follows : (w : World) (left client : ℕ) → IsSound (next_number_in w) w → MayCall w client → Follows w left (finished client) 0 (with_client w client finished_row)
finish_follows w left client sound may = follows w left (finished client) (Finish client) sound (finish_is w client may.actor may.unfinished may.unwaiting) (omega arith)

record Finished (w : World) (capacity entries first count : ℕ) : Type 0 where
  next : World
  all : FollowAll w capacity entries (finishes first count) next

finish_all : (w : World) (capacity entries first count : ℕ) → IsSound (next_number_in w) w → ((client : ℕ) → first ≤ client → client < first + count → MayCall w client) → Finished w capacity entries first count
finish_all w capacity entries first zero sound may = record { next = w; all = none_follow w capacity entries sound }
finish_all w capacity entries first (suc count) sound may =
    let own : MayCall w first = may first (omega arith) (omega arith) in
    let between : World = with_client w first finished_row in
    let one : Follows w (room capacity w entries) (finished first) 0 between = finish_follows w (room capacity w entries) first sound own in
    let rest = finish_all between capacity (entries + 1) (first + 1) count one.sound (λ client above below. others_may w first client (λ e. omega (arith, e, above)) own (may client (omega (arith, above)) (omega (arith, below)))) in
    record { next = rest.next; all = first_follows w between rest.next capacity entries 0 (finished first) (finishes (first + 1) count) one rest.all }

pub are_finished : (r : Recording) (first count : ℕ) → IsLegal r.limits r.capacity r.history → ((client : ℕ) → first ≤ client → client < first + count → MayCall (world_behind r) client) → AreAccepted r (finishes first count)
are_finished r first count legal may =
    let f = finish_all (world_behind r) r.capacity (length r.history) first count (sound_behind r legal) may in
    accepted r (finishes first count) f.next legal f.all
