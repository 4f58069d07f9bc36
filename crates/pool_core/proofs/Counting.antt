-- What a change adds to the counts of an engine, and what they are at first.
use Rattle.std.proofs.Common.{◌≡◌, ℕ, ◌≤◌, Bool, true, false, not, length, refl, arith, filter, is_some}
use Rattle.std.proofs.lemmas.List.{length-map}
use Rattle.std.proofs.lemmas.List.FromFn.{length-range_with_len}
use Rattle.std.proofs.lemmas.List.Sums.{length-filter, count_by-le-length}
use Rattle.tp_base.specs.declared.limits.Limits.{Limits}
use Rattle.tp_base.specs.declared.plans.Change.{Change}
use Rattle.tp_base.specs.declared.plans.Change.TheVariants as change
use Rattle.tp_base.specs.declared.rows.CallbackRow.{CallbackRow}
use Rattle.tp_base.specs.declared.rows.ClientRow.{ClientRow}
use Rattle.tp_base.specs.declared.rows.WorkerRow.{WorkerRow}
use Rattle.tp_model.specs.World.{World, opening, unattached, unfinished}
use Rattle.tp_model.specs.Actions.{slots_of}
use Rattle.tp_model.specs.Counts.{is_live, slots, owed}
use Rattle.tp_model.specs.Groups.{numbers_in, is_object_that, gets_notice, notices_of, object_id}
use Rattle.tp_model.specs.Support.Allowed.{IsAllowed, price, news}
use Rattle.tp_model.specs.Support.Remembered.{forget}
use Rattle.tp_model.proofs.Performing.{returning_within}
use Rattle.tp_model.proofs.Fitting.{all_of, none_of}
use Rattle.live_world.specs.Bounds.{IsBounded}

-- a change makes no more callbacks than have their slots, and costs little
pub record AreFew (ch : Change) : Type 0 where
  pub made : news ch ≤ 65536
  pub cost : price ch ≤ 65537

-- a close gives no more notices than there are objects
notices_within : (w : World) (group : ℕ) (cancel : Bool) → length (notices_of w group cancel) ≤ length w.objects
notices_within w group false = omega arith
notices_within w group true =
    let members = is_object_that (gets_notice group) w.objects in
    let numbers = numbers_in w.objects in
    omega (arith, length-map (filter members numbers) object_id, length-filter members numbers, count_by-le-length members numbers, length-range_with_len 1 (length w.objects))

pub few : (next_number : ℕ) (w : World) (ch : Change) → w.limits.slots ≤ 65535 → slots w ≤ w.limits.slots → length w.objects ≤ 65535 → IsAllowed next_number w ch → AreFew ch
few next_number w (change.Fire trigger first count) most room objects a = record { made = omega (arith, a.counted, a.room room, most); cost = omega arith }
few next_number w change.Keep most room objects a = record { made = omega arith; cost = omega arith }
few next_number w change.CreatePool most room objects a = record { made = omega arith; cost = omega arith }
few next_number w (change.ChangePool pool how) most room objects a = record { made = omega arith; cost = omega arith }
few next_number w change.CreateGroup most room objects a = record { made = omega arith; cost = omega arith }
few next_number w (change.CloseGroup group) most room objects a = record { made = omega arith; cost = omega arith }
few next_number w (change.CreateObject row) most room objects a = record { made = omega arith; cost = omega arith }
few next_number w (change.ReleaseObject object) most room objects a = record { made = omega arith; cost = omega arith }
few next_number w (change.QueueCallback callback) most room objects a = record { made = omega arith; cost = omega arith }
few next_number w (change.ExpectCallback callback) most room objects a = record { made = omega arith; cost = omega arith }
few next_number w (change.Operate callback how) most room objects a = record { made = omega arith; cost = omega arith }
few next_number w (change.CreateKernel state) most room objects a = record { made = omega arith; cost = omega arith }
few next_number w (change.ChangeKernel kernel how) most room objects a = record { made = omega arith; cost = omega arith }
few next_number w (change.Attach worker pool) most room objects a = record { made = omega arith; cost = omega arith }
few next_number w (change.Detach by) most room objects a = record { made = omega arith; cost = omega arith }
few next_number w (change.Take by callback) most room objects a = record { made = omega arith; cost = omega arith }
few next_number w (change.Mark by mark) most room objects a = record { made = omega arith; cost = omega arith }
few next_number w (change.Return by words first count) most room objects a =
    record { made = omega (arith, a.counted, returning_within w words (slots_of by.callback.status), room, most); cost = omega arith }
few next_number w (change.BeginWait who awaited cancel) most room objects a = record { made = omega arith; cost = omega arith }
few next_number w (change.BeginClose who group cancel context notices) most room objects a =
    record { made = omega arith; cost = omega (arith, a.counted, notices_within w group.0 cancel, objects) }
few next_number w (change.GiveNotice who) most room objects a = record { made = omega arith; cost = omega arith }
few next_number w (change.EndWait who how) most room objects a = record { made = omega arith; cost = omega arith }
few next_number w (change.Finish client) most room objects a = record { made = omega arith; cost = omega arith }

-- the slots that are taken, where each callback and each armed wait has one
pub taken_within : (w : World) → IsBounded w → slots w ≤ w.limits.slots
taken_within w b = omega (arith, b.slots_most, length-filter (λ (c : CallbackRow). is_live c.status) w.callbacks, count_by-le-length (λ (c : CallbackRow). is_live c.status) w.callbacks)

-- at first each client is to finish
pub owed_opening : (limits : Limits) → owed (forget (opening limits)) ≡ limits.clients
owed_opening limits = omega (
  arith,
  none_of (λ (r : WorkerRow). is_some r.pool) unattached refl limits.workers,
  all_of (λ (r : ClientRow). not r.finished) unfinished refl limits.clients,
)
