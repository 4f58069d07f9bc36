-- A new machine answers what client 1 does before the devices.
use Rattle.std.proofs.Common.{◌≡◌, ℕ, suc, zero, ◌+◌, ◌-◌, ◌*◌, ◌<◌, ◌≤◌, ◌||◌, Bool, true, false, cond, not, nat_le, List, [], ◌∷◌, ◌++◌, length, map, replicate, Some, None, is_none, is_some, refl, sym, ap, ◌∙◌, subst, arith}
use Rattle.std.proofs.Common.{le-ltb, append-nil, append_assoc, length-append}
use Rattle.std.proofs.lemmas.Bool.{lt-leb, eq-eqb}
use Rattle.std.proofs.lemmas.List.{get_or-replicate, length-replicate, replicate-append-replicate}
use Rattle.std.proofs.lemmas.List.FromFn.{length-map-range_with_len}
use Rattle.std.proofs.lemmas.Option.{slice_get-get_or}
use Rattle.std.specs.List.{range_with_len, AllByRecursion}
use Rattle.std.specs.Option.{option_map_or}
use Rattle.tp_base.specs.declared.answers.Answer.TheVariants as answer
use Rattle.tp_base.specs.declared.answers.Entry.{Entry}
use Rattle.tp_base.specs.declared.answers.Refusal.{Refusal}
use Rattle.tp_base.specs.declared.answers.Refusal.TheVariants.{CallbackLimit, InWait, NoSuch, NotStarted, ObjectLimit, Released, WrongKind}
use Rattle.tp_base.specs.declared.calls.Kind.TheVariants.{Io}
use Rattle.tp_base.specs.declared.ids.ObjectId.{ObjectId}
use Rattle.tp_base.specs.declared.ids.Who.{Who}
use Rattle.tp_base.specs.declared.ids.Who.TheVariants.{Client}
use Rattle.tp_base.specs.declared.limits.Limits.{Limits}
use Rattle.tp_base.specs.declared.plans.Change.TheVariants.{CreateObject, ExpectCallback, Operate}
use Rattle.tp_base.specs.declared.plans.IoStep.TheVariants.{Issue}
use Rattle.tp_base.specs.declared.plans.Plan.{Plan}
use Rattle.tp_base.specs.declared.plans.Plan.TheVariants.{Does}
use Rattle.tp_base.specs.declared.rows.CallbackRow.{CallbackRow}
use Rattle.tp_base.specs.declared.rows.ClientRow.{ClientRow}
use Rattle.tp_base.specs.declared.rows.ObjectRow.{ObjectRow}
use Rattle.tp_model.specs.Calls.Io.{first_expected, issue_io_plan, issued_row as row_under_way, operate, start_io, start_io_plan}
use Rattle.tp_model.specs.Calls.Objects.{create_plan}
use Rattle.tp_model.specs.Changes.{changed, with_client, finished as finished_row}
use Rattle.tp_model.specs.Conditions.{is_finished, is_in_wait, is_no_group_or_group, is_object, is_object_of, is_pool, is_released, is_same_kind, lacks_slots_for}
use Rattle.tp_model.specs.Counts.{numbered, owed}
use Rattle.tp_model.specs.History.{room}
use Rattle.tp_model.specs.Refusing.{first_refusal, object_refusals, unless_refused}
use Rattle.tp_model.specs.Support.Sound.{IsSound}
use Rattle.tp_model.specs.World.{opening, unfinished, World}
use Rattle.tp_model.proofs.Entries.{next_number_in}
use Rattle.tp_model.proofs.Fitting.{opening_owes}
use Rattle.tp_model.proofs.Refusals.{numbered_at}
use Rattle.tp_model.proofs.Sound.{opening_sound}
use Rattle.recorded.specs.Recordings.{world_behind, Recording}
use Rattle.port_facts.specs.Accepted.{with_entries, MayCall}
use Rattle.port_facts.specs.SetUp.{device_made, environ, finished, no_history, operation_issued, operation_started, operations_from, set_up, IsDevice, IsOperationOf, IsSetUp}
use Rattle.port_facts.proofs.Finishing.{finish_follows, others_may}
use Rattle.port_facts.proofs.Following.{accepted, behind, first_follows, follows, none_follow, then_follow, FollowAll, Follows}
use Rattle.port_facts.proofs.Issued.{expected_row, find_expected, find_issued, io_object, issued_more, issued_row, issued_rows, length_issued, live_issued, replaced_behind, running_issued}

-- ---- who may call

numbered_replicate : {X : Type 0} (n k : ℕ) (x : X) → 1 ≤ k → k ≤ n → numbered (replicate n x) k ≡ Some x
numbered_replicate {X} n k x above below =
    numbered_at (replicate n x) k x above
    (slice_get-get_or (replicate n x) (k - 1) x (omega (arith, length-replicate n x, above, below)) ∙ ap (λ y. Some y) (get_or-replicate n (k - 1) x x (omega (arith, above, below))))

-- where no client has finished or has a wait begun
may_call : (w : World) (clients client : ℕ) → w.clients ≡ replicate clients unfinished → w.waits ≡ [] → 1 ≤ client → client ≤ clients → MayCall w client
may_call w clients client are none above below =
    let row : numbered w.clients client ≡ Some unfinished = ap (λ rs. numbered rs client) are ∙ numbered_replicate clients client unfinished above below in
    record {
      actor = ap (λ o. is_some o || false) row;
      unfinished = ap (λ o. option_map_or (λ (r : ClientRow). r.finished) o false) row;
      unwaiting = ap (λ ws. is_in_wait (record w { waits = ws }) (Client client)) none;
    }

-- ---- the worlds on the way, and the plans in them

module _ (limits : Limits) (clients : 1 ≤ limits.clients) where
  -- with so many devices and these operations
  abbrev at : ℕ → List ObjectId → World
  at devices objects = record (opening limits) { objects = replicate devices io_object; callbacks = issued_rows 1 objects }

  -- with one more that is expected
  abbrev expecting_at : ℕ → List ObjectId → CallbackRow → World
  expecting_at devices objects row = record (at devices objects) { callbacks = issued_rows 1 objects ++ row ∷ [] }

  may_at : (devices : ℕ) (objects : List ObjectId) (client : ℕ) → 1 ≤ client → client ≤ limits.clients → MayCall (at devices objects) client
  may_at devices objects client above below = may_call (at devices objects) limits.clients client refl refl above below

  -- each client has to finish
  owes_at : (devices : ℕ) (objects : List ObjectId) → owed (at devices objects) ≡ limits.clients
  owes_at devices objects = omega (arith, running_issued 1 objects, opening_owes limits)

  create_is : (devices : ℕ) → devices < limits.objects → create_plan (at devices []) (Client 1) Io (record { 0 = 1 }) 0 environ ≡ Does (answer.Made (devices + 1)) (CreateObject io_object)
  unfolding create_plan
  create_is devices below =
      let w : World = at devices [] in
      let may = may_at devices [] 1 (omega arith) clients in
      let does : Plan = Does (answer.Made (length w.objects + 1)) (CreateObject io_object) in
      ap (λ b. unless_refused (cond (not b || not (is_pool w 0) || not (is_no_group_or_group w 0)) (Some NoSuch) (cond (is_finished w (Client 1)) (Some Released) (cond (nat_le limits.objects (length w.objects)) (Some ObjectLimit) None))) does) may.actor
      ∙ ap (λ b. unless_refused (cond b (Some Released) (cond (nat_le limits.objects (length w.objects)) (Some ObjectLimit) None)) does) may.unfinished
      ∙ ap (λ b. unless_refused (cond b (Some ObjectLimit) None) does) (lt-leb limits.objects (length w.objects) (omega (arith, length-replicate devices io_object, below)))
      ∙ ap (λ n. Does (answer.Made (n + 1)) (CreateObject io_object)) (length-replicate devices io_object)

  -- no refusal of a call on a device's object applies
  on_device : (w : World) (object : ℕ) (last : Refusal) (applies : Bool) → MayCall w 1 → numbered w.objects object ≡ Some io_object → applies ≡ false → first_refusal (object_refusals w (Client 1) Io object ++ (applies, last) ∷ []) ≡ None
  on_device w object last applies may row never =
      let who : Who = Client 1 in
      let is : is_object w object ≡ true = ap is_some row in
      let io : is_object_of w Io object ≡ true = ap (λ o. option_map_or (λ (x : ObjectRow). is_same_kind x.kind Io) o false) row in
      let stands : is_released w object ≡ false = ap (λ o. option_map_or (λ (x : ObjectRow). x.released) o false) row in
      ap (λ b. cond (not b || not (is_object w object)) (Some NoSuch) (cond (not (is_object_of w Io object)) (Some WrongKind) (cond (is_finished w who || is_released w object) (Some Released) (cond (is_in_wait w who) (Some InWait) (cond applies (Some last) None))))) may.actor
      ∙ ap (λ b. cond (not b) (Some NoSuch) (cond (not (is_object_of w Io object)) (Some WrongKind) (cond (is_finished w who || is_released w object) (Some Released) (cond (is_in_wait w who) (Some InWait) (cond applies (Some last) None))))) is
      ∙ ap (λ b. cond (not b) (Some WrongKind) (cond (is_finished w who || is_released w object) (Some Released) (cond (is_in_wait w who) (Some InWait) (cond applies (Some last) None)))) io
      ∙ ap (λ b. cond (b || is_released w object) (Some Released) (cond (is_in_wait w who) (Some InWait) (cond applies (Some last) None))) may.unfinished
      ∙ ap (λ b. cond b (Some Released) (cond (is_in_wait w who) (Some InWait) (cond applies (Some last) None))) stands
      ∙ ap (λ b. cond b (Some InWait) (cond applies (Some last) None)) may.unwaiting
      ∙ ap (λ b. cond b (Some last) None) never

  start_io_is : (devices : ℕ) (objects : List ObjectId) (object : ObjectId) → IsDevice devices object → length objects < limits.slots
      → start_io_plan (at devices objects) (length (at devices objects).callbacks + 1) (Client 1) object ≡ Does (answer.Started (length objects + 1)) (ExpectCallback (expected_row (length objects + 1) object))
  unfolding start_io_plan
  start_io_is devices objects object device below =
      let w : World = at devices objects in
      let row : numbered w.objects object.0 ≡ Some io_object = numbered_replicate devices object.0 io_object device.0 device.1 in
      let space : lacks_slots_for w 1 ≡ false = le-ltb limits.slots _ (omega (arith, live_issued 1 objects, below)) in
      ap (λ r. unless_refused r (start_io (length w.callbacks + 1) object (numbered w.objects object.0))) (on_device w object.0 CallbackLimit (lacks_slots_for w 1) (may_at devices objects 1 (omega arith) clients) row space)
      ∙ ap (start_io (length w.callbacks + 1) object) row
      ∙ ap (λ n. Does (answer.Started (n + 1)) (ExpectCallback (expected_row (n + 1) object))) (length_issued 1 objects)

  issue_io_is : (devices : ℕ) (objects : List ObjectId) (object : ObjectId) (number : ℕ) → IsDevice devices object
      → issue_io_plan (expecting_at devices objects (expected_row number object)) (Client 1) object ≡ Does (answer.Operation number) (Operate (expected_row number object) Issue)
  unfolding issue_io_plan
  issue_io_is devices objects object number device =
      let w : World = expecting_at devices objects (expected_row number object) in
      let row : numbered w.objects object.0 ≡ Some io_object = numbered_replicate devices object.0 io_object device.0 device.1 in
      let first : first_expected w object.0 ≡ Some (expected_row number object) =
      find_expected 1 object.0 objects (expected_row number object ∷ []) ∙ ap (λ b. cond b (Some (expected_row number object)) None) (eq-eqb object.0 object.0 refl) in
      let may : MayCall w 1 = may_call w limits.clients 1 refl refl (omega arith) clients in
      ap (λ r. unless_refused r (operate answer.Operation Issue (first_expected w object.0))) (on_device w object.0 NotStarted (is_none (first_expected w object.0)) may row (ap is_none first))
      ∙ ap (operate answer.Operation Issue) first

  -- ---- the entries

  module _ (capacity : ℕ) where
    creates : (devices count : ℕ) → IsSound (next_number_in (at devices [])) (at devices []) → devices + count ≤ limits.objects → devices + count + limits.clients ≤ capacity
        → FollowAll (at devices []) capacity devices (map device_made (range_with_len (devices + 1) count)) (at (devices + count) [])
    creates devices zero sound space fits = subst (λ n. FollowAll (at devices []) capacity devices [] (at n [])) (omega arith) (none_follow (at devices []) capacity devices sound)
    creates devices (suc count) sound space fits =
        let w : World = at devices [] in
        let left : ℕ = room capacity w devices in
        let made : Follows w left (device_made (devices + 1)) 1 (changed w (CreateObject io_object)) = follows w left (device_made (devices + 1)) (CreateObject io_object) sound (create_is devices (omega (arith, space))) (omega (arith, owes_at devices [], fits)) in
        let one : changed w (CreateObject io_object) ≡ at (devices + 1) [] = ap (λ os. record (opening limits) { objects = os; callbacks = [] }) (replicate-append-replicate devices 1 io_object) in
        let first : Follows w left (device_made (devices + 1)) 1 (at (devices + 1) []) = subst (Follows w left (device_made (devices + 1)) 1) one made in
        let rest = creates (devices + 1) count first.sound (omega (arith, space)) (omega (arith, fits)) in
        let sum : (devices + 1) + count ≡ devices + suc count = omega arith in
        subst (λ n. FollowAll w capacity devices (map device_made (range_with_len (devices + 1) (suc count))) (at n [])) sum
        (first_follows w (at (devices + 1) []) (at ((devices + 1) + count) []) capacity devices 1 (device_made (devices + 1)) (map device_made (range_with_len (devices + 1 + 1) count)) first rest)

    -- an operation that is issued has the place of the one that was expected
    issued_at : (devices number : ℕ) (objects : List ObjectId) (object : ObjectId) → number ≡ length objects + 1
        → changed (expecting_at devices objects (expected_row number object)) (Operate (expected_row number object) Issue) ≡ at devices (objects ++ object ∷ [])
    issued_at devices number objects object is =
        ap (λ rows. record (opening limits) { objects = replicate devices io_object; callbacks = rows })
        (replaced_behind 1 (issued_row number object) objects (expected_row number object ∷ []) (omega (arith, is))
        ∙ ap (λ b. issued_rows 1 objects ++ cond b (issued_row number object) (expected_row number object) ∷ []) (eq-eqb number number refl)
        ∙ sym (issued_more 1 number objects object (omega (arith, is))))

    operations : (devices entries : ℕ) (done rest : List ObjectId) → IsSound (next_number_in (at devices done)) (at devices done) → AllByRecursion (IsDevice devices) rest
        → length done + length rest ≤ limits.slots → entries + 2 * length rest + limits.clients ≤ capacity
        → FollowAll (at devices done) capacity entries (operations_from (length done + 1) rest) (at devices (done ++ rest))
    operations devices entries done [] sound of space fits =
        subst (λ os. FollowAll (at devices done) capacity entries [] (at devices os)) (sym (append-nil done)) (none_follow (at devices done) capacity entries sound)
    operations devices entries done (object ∷ rest) sound of space fits =
        let w : World = at devices done in
        let number : ℕ = length done + 1 in
        let row : CallbackRow = expected_row number object in
        let between : World = expecting_at devices done row in
        let more : List ObjectId = done ++ object ∷ [] in
        let next : World = at devices more in
        let length_more : length more ≡ number = length-append done (object ∷ []) in
        let start : Follows w (room capacity w entries) (operation_started number object) 1 between =
        follows w (room capacity w entries) (operation_started number object) (ExpectCallback row) sound (start_io_is devices done object of.0 (omega (arith, space))) (omega (arith, owes_at devices done, fits)) in
        let left : ℕ = room capacity between (entries + 1) in
        let issue : Follows between left (operation_issued number object) 1 (changed between (Operate row Issue)) =
        follows between left (operation_issued number object) (Operate row Issue) start.sound (issue_io_is devices done object number of.0) (omega (arith, owes_at devices done, start.owes, fits)) in
        let issued : Follows between left (operation_issued number object) 1 next = subst (Follows between left (operation_issued number object) 1) (issued_at devices number done object refl) issue in
        let tail = operations devices (entries + 1 + 1) more rest issued.sound of.1 (omega (arith, length_more, space)) (omega (arith, fits)) in
        let told : List Entry = operations_from (number + 1) rest in
        let there : FollowAll next capacity (entries + 1 + 1) told (at devices (done ++ object ∷ rest)) =
        subst (λ os. FollowAll next capacity (entries + 1 + 1) told (at devices os)) (append_assoc done (object ∷ []) rest)
        (subst (λ n. FollowAll next capacity (entries + 1 + 1) (operations_from (n + 1) rest) (at devices (more ++ rest))) length_more tail) in
        first_follows w between (at devices (done ++ object ∷ rest)) capacity entries 1 (operation_started number object) (operation_issued number object ∷ told) start
        (first_follows between next (at devices (done ++ object ∷ rest)) capacity (entries + 1) 1 (operation_issued number object) told issued there)

    -- ---- all of it

    made_length : (number : ℕ) (objects : List ObjectId) → length (operations_from number objects) ≡ 2 * length objects
    made_length number [] = refl
    made_length number (object ∷ objects) = omega (arith, made_length (number + 1) objects)

    pub is_set_up : (devices : ℕ) (objects : List ObjectId) → devices ≤ limits.objects → length objects ≤ limits.slots → devices + 2 * length objects + limits.clients ≤ capacity → AllByRecursion (IsDevice devices) objects
        → IsSetUp limits capacity devices objects
    is_set_up devices objects few space fits of =
        let r : Recording = no_history limits capacity in
        let creation : List Entry = map device_made (range_with_len 1 devices) in
        let operation : List Entry = operations_from 1 objects in
        let creation_length : length creation ≡ devices = length-map-range_with_len device_made 1 devices in
        let operation_length : length operation ≡ 2 * length objects = made_length 1 objects in
        let made : FollowAll (opening limits) capacity 0 creation (at devices []) =
        subst (λ n. FollowAll (opening limits) capacity 0 creation (at n [])) (omega arith) (creates 0 devices (opening_sound limits) (omega (arith, few)) (omega (arith, fits))) in
        let started : FollowAll (at devices []) capacity devices operation (at devices objects) = operations devices devices [] objects made.sound of (omega (arith, space)) (omega (arith, fits)) in
        let w : World = at devices objects in
        let next : World = with_client w 1 finished_row in
        let own : MayCall w 1 = may_at devices objects 1 (omega arith) clients in
        let count : ℕ = devices + length operation in
        let ends : Follows w (room capacity w count) (finished 1) 0 next = finish_follows w (room capacity w count) 1 started.sound own in
        let last : FollowAll w capacity count (finished 1 ∷ []) next = first_follows w next next capacity count 0 (finished 1) [] ends (none_follow next capacity (count + 1) ends.sound) in
        let all : FollowAll (opening limits) capacity 0 (set_up devices objects) next =
        then_follow (opening limits) (at devices []) next capacity 0 devices creation (operation ++ finished 1 ∷ []) (omega (arith, creation_length)) made
        (then_follow (at devices []) w next capacity devices count operation (finished 1 ∷ []) refl started last) in
        let there : world_behind (with_entries r (set_up devices objects)) ≡ next = behind r (set_up devices objects) next all in
        record {
          accepted = accepted r (set_up devices objects) next tt all;
          operations = λ i object is.
              let found = find_issued 1 i objects object is in
              subst (λ v. IsOperationOf v (i + 1) object) (sym there)
              (subst (λ n. IsOperationOf next n object) (omega arith) (record { row = issued_row (1 + i) object; issued = ap row_under_way found; object_is = refl }));
          count = ap (λ (v : World). length v.callbacks) there ∙ length_issued 1 objects;
          clients = λ client above below.
              subst (λ v. MayCall v client) (sym there) (others_may w 1 client (λ e. omega (arith, e, above)) own (may_at devices objects client (omega (arith, above)) below));
          room = omega (
            arith,
            fits,
            ap owed there,
            ends.owes,
            owes_at devices objects,
            clients,
            creation_length,
            operation_length,
            length-append creation (operation ++ finished 1 ∷ []),
            length-append operation (finished 1 ∷ []),
          );
        }
