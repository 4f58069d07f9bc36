-- What changes cost.
use Rattle.std.proofs.Common.{◌||◌, ◌≡◌, ℕ, ◌+◌, ◌-◌, Bool, true, false, cond, not, List, [], ◌∷◌, ◌++◌, length, Option, Some, None, is_some, refl, sym, ap, ◌∙◌, subst, arith, slice_get, filter, find, sum_by, length-append, drop}
use Rattle.std.proofs.lemmas.List.Elements.{filter-append}
use Rattle.tp_base.specs.declared.ids.PoolId.{PoolId}
use Rattle.tp_base.specs.declared.plans.Change.{Change}
use Rattle.tp_base.specs.declared.plans.Change.TheVariants as change
use Rattle.tp_base.specs.declared.plans.Mark.{Mark}
use Rattle.tp_base.specs.declared.plans.Mark.TheVariants.{Long, Loose, Asks}
use Rattle.tp_base.specs.declared.answers.ActionKind.{ActionKind}
use Rattle.tp_base.specs.declared.rows.Action.{Action}
use Rattle.tp_model.specs.Actions.{asking, slots_of, returning}
use Rattle.tp_base.specs.declared.plans.PoolChange.{PoolChange}
use Rattle.tp_base.specs.declared.ids.Who.{Who}
use Rattle.tp_base.specs.declared.rows.PoolRow.{PoolRow}
use Rattle.tp_base.specs.declared.rows.ObjectRow.{ObjectRow}
use Rattle.tp_base.specs.declared.plans.Awaited.{Awaited}
use Rattle.tp_base.specs.declared.rows.WaitTarget.{WaitTarget}
use Rattle.tp_base.specs.declared.rows.Status.{Status}
use Rattle.tp_base.specs.declared.rows.Status.TheVariants.{Running}
use Rattle.tp_base.specs.declared.rows.CallbackRow.{CallbackRow}
use Rattle.tp_base.specs.declared.rows.WorkerRow.{WorkerRow}
use Rattle.tp_base.specs.declared.rows.ClientRow.{ClientRow}
use Rattle.std.specs.List.{list_any}
use Rattle.std.proofs.lemmas.List.Sums.{sum_by-cons}
use Rattle.tp_base.specs.Actors.{is_same_actor}
use Rattle.tp_model.specs.Waits.{target_of, is_cancelled_by, cancel_where, wait_of}
use Rattle.tp_base.specs.declared.ids.ObjectId.{ObjectId}
use Rattle.tp_model.specs.Sources.{firing, sources_of}
use Rattle.tp_model.specs.World.{World, BegunWait, unattached, unfinished}
use Rattle.tp_model.specs.Counts.{numbered, has_number, is_pending, is_running, owed}
use Rattle.tp_model.specs.Changes.{replaced, with_new_callback, with_callback, with_worker, with_client, change_pool, taken, marked, operated, returned, changed, loosened, release_object, new_wait, give_notice, notified, new_close, end_wait, given_up_after}
use Rattle.tp_model.specs.Support.Sound.{IsSound, AreApart}
use Rattle.tp_model.specs.Support.Allowed.{IsAllowed, price, MayEnd}
use Rattle.tp_model.proofs.Firing.{running_appended}
use Rattle.tp_model.proofs.Lists.{length_filter_set}
use Rattle.tp_model.proofs.Callbacks.{length_filter_replaced, pending_not_running, before_idle, after_idle}
use Rattle.tp_model.proofs.Cancelling.{cancelled_pending, count_uncancelled, IsPendingTest}
use Rattle.tp_model.proofs.Refusals.{neither, numbered_some, same_actor_is}
use Rattle.tp_base.specs.declared.ids.GroupId.{GroupId}
use Rattle.tp_model.specs.Groups.{notices_of, without_members}
use Rattle.std.proofs.lemmas.List.{length-map}
use Rattle.tp_base.specs.declared.rows.WaitTarget.TheVariants.{Group}
use Rattle.tp_base.specs.declared.plans.WaitEnd.{WaitEnd}
use Rattle.tp_base.specs.declared.plans.WaitEnd.TheVariants.{Free, Exhausted, Stalled}

abbrev one_if : Bool → ℕ
one_if b = cond b 1 0

abbrev runs : CallbackRow → Bool
runs c = is_running c.status

abbrev has_pool : WorkerRow → Bool
has_pool r = is_some r.pool

abbrev goes_on : ClientRow → Bool
goes_on r = not r.finished

pub owed_new_callback : (w : World) (c : CallbackRow) → is_running c.status ≡ false → owed (with_new_callback w c) ≡ owed w
owed_new_callback w c still =
    let same : length (filter runs (w.callbacks ++ c ∷ [])) ≡ length (filter runs w.callbacks) =
    ap length (filter-append runs w.callbacks (c ∷ [])) ∙ length-append (filter runs w.callbacks) (filter runs (c ∷ []))
    ∙ ap (λ b. length (filter runs w.callbacks) + length (cond b (c ∷ []) [])) still ∙ omega arith in
    ap (λ n. n + length w.waits + sum_by (λ b. length b.notices) w.waits + length (filter has_pool w.workers) + length (filter goes_on w.clients) + w.given_up) same

-- a worker's row in place of another
pub owed_worker : (w : World) (number : ℕ) (old new : WorkerRow) → numbered w.workers number ≡ Some old → owed (with_worker w number new) + one_if (has_pool old) ≡ owed w + one_if (has_pool new)
owed_worker w number old new is =
    let changed = length_filter_set has_pool w.workers (number - 1) old new (numbered_some w.workers number old is).0 in
    omega (arith, changed)

-- a callback's row in place of another
pub owed_callback : (next_number : ℕ) (w : World) (old new : CallbackRow) → IsSound next_number w → find (has_number new.number) w.callbacks ≡ Some old → owed (with_callback w new) + one_if (runs old) ≡ owed w + one_if (runs new)
owed_callback next_number w old new s found =
    let changed = length_filter_replaced runs new old 1 next_number w.callbacks s.numbers found in
    omega (arith, changed)

pub owed_client : (w : World) (number : ℕ) (old new : ClientRow) → numbered w.clients number ≡ Some old → owed (with_client w number new) + one_if (goes_on old) ≡ owed w + one_if (goes_on new)
owed_client w number old new is =
    let changed = length_filter_set goes_on w.clients (number - 1) old new (numbered_some w.clients number old is).0 in
    omega (arith, changed)

-- a worker that joins a pool will leave it
pub owed_attached : (w : World) (number : ℕ) (old : WorkerRow) (pool : PoolId) → numbered w.workers number ≡ Some old → old.pool ≡ None → owed (with_worker w number (record { pool = Some pool; callback = None; persistent = false })) ≡ owed w + 1
owed_attached w number old pool is free =
    let new : WorkerRow = record { pool = Some pool; callback = None; persistent = false } in
    let changed : owed (with_worker w number new) + one_if (has_pool old) ≡ owed w + one_if (has_pool new) = owed_worker w number old new is in
    let none : one_if (has_pool old) ≡ 0 = ap (λ (p : Option PoolId). one_if (is_some p)) free in
    omega (arith, changed, none)

-- a callback that begins will return
pub owed_taken : (next_number : ℕ) (w : World) (number : ℕ) (row : WorkerRow) (pool : PoolId) (persistent : Bool) (c : CallbackRow) → IsSound next_number w → numbered w.workers number ≡ Some row → row.pool ≡ Some pool → find (has_number c.number) w.callbacks ≡ Some c → is_pending c.status ≡ true
    → owed (with_worker (with_callback w (taken c number)) number (record { pool = Some pool; callback = Some c.number; persistent = persistent })) ≡ owed w + 1
owed_taken next_number w number row pool persistent c s is at found waits =
    let new : WorkerRow = record { pool = Some pool; callback = Some c.number; persistent = persistent } in
    let moved : owed (with_worker (with_callback w (taken c number)) number new) + one_if (has_pool row) ≡ owed (with_callback w (taken c number)) + one_if (has_pool new)
    = owed_worker (with_callback w (taken c number)) number row new is in
    let begun : owed (with_callback w (taken c number)) + one_if (runs c) ≡ owed w + one_if (runs (taken c number)) = owed_callback next_number w c (taken c number) s found in
    let stays : one_if (has_pool row) ≡ 1 = ap (λ (p : Option PoolId). one_if (is_some p)) at in
    let still : one_if (runs c) ≡ 0 = ap (λ b. one_if b) (pending_not_running c.status waits) in
    omega (arith, moved, begun, stays, still)

-- a callback that returns owes nothing more
pub owed_returned : (next_number : ℕ) (w : World) (number : ℕ) (row : WorkerRow) (c : CallbackRow) → IsSound next_number w → numbered w.workers number ≡ Some row → find (has_number c.number) w.callbacks ≡ Some c → is_running c.status ≡ true
    → owed (with_worker (with_callback w (returned c)) number (record row { callback = None })) + 1 ≡ owed w
owed_returned next_number w number row c s is found ran =
    let new : WorkerRow = record row { callback = None } in
    let moved : owed (with_worker (with_callback w (returned c)) number new) + one_if (has_pool row) ≡ owed (with_callback w (returned c)) + one_if (has_pool new)
    = owed_worker (with_callback w (returned c)) number row new is in
    let ended : owed (with_callback w (returned c)) + one_if (runs c) ≡ owed w + one_if (runs (returned c)) = owed_callback next_number w c (returned c) s found in
    let before : one_if (runs c) ≡ 1 = ap (λ b. one_if b) ran in
    omega (arith, moved, ended, before)

pub owed_finished : (w : World) (number : ℕ) (old : ClientRow) → numbered w.clients number ≡ Some old → old.finished ≡ false → owed (with_client w number (record { finished = true })) + 1 ≡ owed w
owed_finished w number old is unfinished =
    let new : ClientRow = record { finished = true } in
    let changed : owed (with_client w number new) + one_if (goes_on old) ≡ owed w + one_if (goes_on new) = owed_client w number old new is in
    let one : one_if (goes_on old) ≡ 1 = ap (λ b. one_if (not b)) unfinished in
    omega (arith, changed, one)

-- a row that runs in the place of one that runs
owed_same : (next_number : ℕ) (w : World) (r c : CallbackRow) → IsSound next_number w → find (has_number r.number) w.callbacks ≡ Some c → is_running r.status ≡ is_running c.status → owed (with_callback w r) ≡ owed w
owed_same next_number w r c s found same =
    let changed : owed (with_callback w r) + one_if (runs c) ≡ owed w + one_if (runs r) = owed_callback next_number w c r s found in
    let alike : one_if (runs r) ≡ one_if (runs c) = ap one_if same in
    omega (arith, changed, alike)

loosened_runs : (s : Status) → is_running (loosened s) ≡ is_running s
loosened_runs (Running worker associated slots) = refl
loosened_runs _ = refl

asking_runs : (kind : ActionKind) (action : Action) (s : Status) → is_running (asking kind action s) ≡ is_running s
asking_runs kind action (Running worker associated slots) = refl
asking_runs kind action _ = refl

owed_marked : (next_number : ℕ) (w : World) (mark : Mark) (c : CallbackRow) → IsSound next_number w → find (has_number c.number) w.callbacks ≡ Some c → owed (with_callback w (marked mark c)) ≡ owed w
owed_marked next_number w Long c s found = owed_same next_number w (marked Long c) c s found refl
owed_marked next_number w Loose c s found = owed_same next_number w (marked Loose c) c s found (loosened_runs c.status)
owed_marked next_number w (Asks kind action) c s found = owed_same next_number w (marked (Asks kind action) c) c s found (asking_runs kind action c.status)

owed_release : (w : World) (object : ObjectId) (row : Option ObjectRow) → owed (release_object w object row) ≡ owed w
owed_release w object None = refl
owed_release w object (Some row) = refl

abbrev notices_left : List BegunWait → ℕ
notices_left bs = sum_by (λ (b : BegunWait). length b.notices) bs

notices_more : (bs : List BegunWait) (b : BegunWait) → notices_left (bs ++ b ∷ []) ≡ notices_left bs + length b.notices
notices_more [] b = sum_by-cons (λ (x : BegunWait). length x.notices) b [] ∙ omega arith
notices_more (c ∷ bs) b =
    omega (arith, sum_by-cons (λ (x : BegunWait). length x.notices) c (bs ++ b ∷ []), sum_by-cons (λ (x : BegunWait). length x.notices) c bs, notices_more bs b)

-- a wait that begins will end, and give its notices
owed_begun : (w v : World) (test : CallbackRow → Bool) (b : BegunWait) → IsPendingTest test → v.callbacks ≡ w.callbacks → v.workers ≡ w.workers → v.clients ≡ w.clients → v.given_up ≡ w.given_up
    → owed (record v { callbacks = cancel_where test w.callbacks; waits = w.waits ++ b ∷ [] }) ≡ owed w + 1 + length b.notices
owed_begun w v test b only callbacks workers clients given =
    let run : length (filter runs (cancel_where test w.callbacks)) ≡ length (filter runs w.callbacks)
    = count_uncancelled runs test (λ c e. sym (pending_not_running c.status (only c e))) w.callbacks in
    omega (
      arith,
      run,
      length-append w.waits (b ∷ []),
      notices_more w.waits b,
      ap (λ ws. length (filter has_pool ws)) workers,
      ap (λ cs. length (filter goes_on cs)) clients,
      given,
    )

owed_begin_wait : (w : World) (who : Who) (awaited : Awaited) (cancel : Bool) → owed (changed w (change.BeginWait who awaited cancel)) ≡ owed w + 1
owed_begin_wait w who awaited cancel =
    let target : WaitTarget = target_of awaited in
    let test : CallbackRow → Bool = is_cancelled_by target cancel in
    omega (arith, owed_begun w w test (new_wait who target cancel (cancel_where test w.callbacks)) (cancelled_pending target cancel) refl refl refl refl)

owed_begin_close : (w : World) (who : Who) (group : GroupId) (cancel : Bool) (context notices : ℕ) → owed (changed w (change.BeginClose who group cancel context notices)) ≡ owed w + 1 + length (notices_of w group.0 cancel)
owed_begin_close w who group cancel context notices =
    let test : CallbackRow → Bool = is_cancelled_by (Group group) cancel in
    owed_begun w (without_members w group.0) test (new_close who group cancel context (notices_of w group.0 cancel) (cancel_where test w.callbacks)) (cancelled_pending (Group group) cancel) refl refl refl refl

all_others : (who : Who) (xs : List BegunWait) → list_any (λ (x : BegunWait). is_same_actor x.actor who) xs ≡ false → filter (λ (x : BegunWait). not (is_same_actor x.actor who)) xs ≡ xs
all_others who [] none = refl
all_others who (x ∷ xs) none =
    let both_none = neither (is_same_actor x.actor who) (list_any (λ (y : BegunWait). is_same_actor y.actor who) xs) none in
    ap (λ t. cond (not t) (x ∷ filter (λ (y : BegunWait). not (is_same_actor y.actor who)) xs) (filter (λ (y : BegunWait). not (is_same_actor y.actor who)) xs)) both_none.0
    ∙ ap (λ l. x ∷ l) (all_others who xs both_none.1)

-- of waits of different actors an actor has one at most
one_wait : (who : Who) (bs : List BegunWait) (b : BegunWait) → AreApart bs → find (λ (x : BegunWait). is_same_actor x.actor who) bs ≡ Some b → length (filter (λ (x : BegunWait). not (is_same_actor x.actor who)) bs) + 1 ≡ length bs
one_wait who [] b a e = absurd cc
one_wait who (c ∷ bs) b a e =
    elim (is_same_actor c.actor who) as (λ t. is_same_actor c.actor who ≡ t → cond t (Some c) (find (λ (x : BegunWait). is_same_actor x.actor who) bs) ≡ Some b
    → length (cond (not t) (c ∷ filter (λ (x : BegunWait). not (is_same_actor x.actor who)) bs) (filter (λ (x : BegunWait). not (is_same_actor x.actor who)) bs)) + 1 ≡ length (c ∷ bs)) [
      | true ↦ λ is _.
          let own : c.actor ≡ who = same_actor_is c.actor who is in
          let others : filter (λ (x : BegunWait). not (is_same_actor x.actor who)) bs ≡ bs = all_others who bs (subst (λ z. list_any (λ (x : BegunWait). is_same_actor x.actor z) bs ≡ false) own a.0) in
          omega (arith, ap length others)
      | false ↦ λ _ h. omega (arith, one_wait who bs b a.1 h)
    ] refl e

-- and its notices are those that go with it
notices_without : (who : Who) (bs : List BegunWait) (b : BegunWait) → AreApart bs → find (λ (x : BegunWait). is_same_actor x.actor who) bs ≡ Some b
    → notices_left (filter (λ (x : BegunWait). not (is_same_actor x.actor who)) bs) + length b.notices ≡ notices_left bs
notices_without who [] b a e = absurd cc
notices_without who (c ∷ bs) b a e =
    elim (is_same_actor c.actor who) as (λ t. is_same_actor c.actor who ≡ t → cond t (Some c) (find (λ (x : BegunWait). is_same_actor x.actor who) bs) ≡ Some b
    → notices_left (cond (not t) (c ∷ filter (λ (x : BegunWait). not (is_same_actor x.actor who)) bs) (filter (λ (x : BegunWait). not (is_same_actor x.actor who)) bs)) + length b.notices ≡ notices_left (c ∷ bs)) [
      | true ↦ λ is h.
          let own : c.actor ≡ who = same_actor_is c.actor who is in
          let others : filter (λ (x : BegunWait). not (is_same_actor x.actor who)) bs ≡ bs = all_others who bs (subst (λ z. list_any (λ (x : BegunWait). is_same_actor x.actor z) bs ≡ false) own a.0) in
          let same : c ≡ b = cc in
          omega (arith, ap notices_left others, sum_by-cons (λ (x : BegunWait). length x.notices) c bs, ap (λ (x : BegunWait). length x.notices) same)
      | false ↦ λ _ h.
          omega (
            arith,
            notices_without who bs b a.1 h,
            sum_by-cons (λ (x : BegunWait). length x.notices) c bs,
            sum_by-cons (λ (x : BegunWait). length x.notices) c (filter (λ (x : BegunWait). not (is_same_actor x.actor who)) bs),
          )
    ] refl e

-- notices that are given up stay owed
owed_end_wait : (w : World) (who : Who) (how : WaitEnd) (a : MayEnd w who how) → AreApart w.waits → owed (end_wait w who how) + 1 ≡ owed w
owed_end_wait w who Free a apart = omega (arith, one_wait who w.waits a.wait apart a.begun, notices_without who w.waits a.wait apart a.begun, ap length (a.unnoticed (λ e. absurd cc)))
owed_end_wait w who Exhausted a apart = omega (arith, one_wait who w.waits a.wait apart a.begun, notices_without who w.waits a.wait apart a.begun, ap length (a.unnoticed (λ e. absurd cc)))
owed_end_wait w who Stalled a apart =
    omega (arith, one_wait who w.waits a.wait apart a.begun, notices_without who w.waits a.wait apart a.begun, ap (given_up_after w.given_up Stalled) a.begun)

-- a notice that is given is one fewer
none_given : (who : Who) (bs : List BegunWait) → list_any (λ (x : BegunWait). is_same_actor x.actor who) bs ≡ false → notices_left (give_notice who bs) ≡ notices_left bs
none_given who [] none = refl
none_given who (c ∷ bs) none =
    let apart = neither (is_same_actor c.actor who) (list_any (λ (x : BegunWait). is_same_actor x.actor who) bs) none in
    let stays : cond (is_same_actor c.actor who) (notified c) c ≡ c = ap (λ t. cond t (notified c) c) apart.0 in
    omega (
      arith,
      sum_by-cons (λ (x : BegunWait). length x.notices) (cond (is_same_actor c.actor who) (notified c) c) (give_notice who bs),
      sum_by-cons (λ (x : BegunWait). length x.notices) c bs,
      ap (λ (x : BegunWait). length x.notices) stays,
      none_given who bs apart.1,
    )

one_given : (who : Who) (bs : List BegunWait) (b : BegunWait) (object : ObjectId) (rest : List ObjectId) → AreApart bs → find (λ (x : BegunWait). is_same_actor x.actor who) bs ≡ Some b → b.notices ≡ object ∷ rest → notices_left (give_notice who bs) + 1 ≡ notices_left bs
one_given who [] b object rest a e left = absurd cc
one_given who (c ∷ bs) b object rest a e left =
    elim (is_same_actor c.actor who) as (λ t. is_same_actor c.actor who ≡ t → cond t (Some c) (find (λ (x : BegunWait). is_same_actor x.actor who) bs) ≡ Some b
    → notices_left (cond t (notified c) c ∷ give_notice who bs) + 1 ≡ notices_left (c ∷ bs)) [
      | true ↦ λ is h.
          let own : c.actor ≡ who = same_actor_is c.actor who is in
          let same : c ≡ b = cc in
          let has : c.notices ≡ object ∷ rest = ap (λ (x : BegunWait). x.notices) same ∙ left in
          omega (
            arith,
            sum_by-cons (λ (x : BegunWait). length x.notices) (notified c) (give_notice who bs),
            sum_by-cons (λ (x : BegunWait). length x.notices) c bs,
            ap length has,
            ap (λ (os : List ObjectId). length (drop 1 os)) has,
            none_given who bs (subst (λ z. list_any (λ (x : BegunWait). is_same_actor x.actor z) bs ≡ false) own a.0),
          )
      | false ↦ λ _ h.
          omega (
            arith,
            sum_by-cons (λ (x : BegunWait). length x.notices) c (give_notice who bs),
            sum_by-cons (λ (x : BegunWait). length x.notices) c bs,
            one_given who bs b object rest a.1 h left,
          )
    ] refl e

owed_notified : (w : World) (who : Who) (b : BegunWait) (object : ObjectId) (rest : List ObjectId) → AreApart w.waits → wait_of w who ≡ Some b → b.notices ≡ object ∷ rest → owed (record w { waits = give_notice who w.waits }) + 1 ≡ owed w
owed_notified w who b object rest apart begun left = omega (arith, one_given who w.waits b object rest apart begun left, length-map w.waits (λ (x : BegunWait). cond (is_same_actor x.actor who) (notified x) x))

owed_change_pool : (w : World) (pool : ℕ) (how : PoolChange) (row : Option PoolRow) → owed (change_pool w pool how row) ≡ owed w
owed_change_pool w pool how None = refl
owed_change_pool w pool how (Some row) = refl

-- a change costs its entry, and what is owed more than before
pub paid : (next_number : ℕ) (w : World) (ch : Change) → IsSound next_number w → IsAllowed next_number w ch → 1 + owed (changed w ch) ≡ owed w + price ch
paid next_number w change.Keep s a = omega arith
paid next_number w change.CreatePool s a = omega arith
paid next_number w (change.ChangePool pool how) s a = omega (arith, owed_change_pool w pool.0 how (slice_get w.pools pool.0))
paid next_number w (change.CreateObject row) s a = omega arith
paid next_number w (change.ReleaseObject object) s a = omega (arith, owed_release w object (numbered w.objects object.0))
paid next_number w (change.QueueCallback c) s a = omega (arith, owed_new_callback w c (pending_not_running c.status a.pending))
paid next_number w (change.ExpectCallback c) s a = omega (arith, owed_new_callback w c (ap is_running a.expected))
paid next_number w (change.Operate c how) s a = omega (arith, owed_same next_number w (operated how c) c s a.found (after_idle how ∙ sym (before_idle how c.status a.status)))
paid next_number w (change.Fire trigger first count) s a =
    omega (arith, ap length (running_appended w.callbacks w.objects first (firing trigger (sources_of w)).jobs))
paid next_number w (change.CreateKernel state) s a = omega arith
paid next_number w (change.ChangeKernel kernel how) s a = omega arith
paid next_number w (change.Attach worker pool) s a = omega (arith, owed_attached w worker a.row pool a.stands a.away)
paid next_number w (change.Detach by) s a =
    let changed : owed (with_worker w by.worker unattached) + one_if (has_pool (record { pool = Some by.pool; callback = None; persistent = by.persistent })) ≡ owed w + one_if (has_pool unattached)
    = owed_worker w by.worker (record { pool = Some by.pool; callback = None; persistent = by.persistent }) unattached a.idles in
    omega (arith, changed)
paid next_number w (change.Take by c) s a = omega (arith, owed_taken next_number w by.worker (record { pool = Some by.pool; callback = None; persistent = by.persistent }) by.pool (by.persistent || c.persistent) c s a.idles refl a.found a.pending)
paid next_number w (change.Mark by mark) s a = omega (arith, owed_marked next_number w mark by.callback s a.runs.found)
paid next_number w (change.Return by words first count) s a =
    omega (
      arith,
      ap length (running_appended (replaced (returned by.callback) w.callbacks) w.objects first (returning w words (slots_of by.callback.status)).jobs),
      owed_returned next_number w by.worker (record { pool = Some by.pool; callback = Some by.callback.number; persistent = by.persistent }) by.callback s a.runs.stands a.runs.found (ap is_running a.runs.running),
    )
paid next_number w (change.BeginWait who awaited cancel) s a = omega (arith, owed_begin_wait w who awaited cancel)
paid next_number w change.CreateGroup s a = omega arith
paid next_number w (change.CloseGroup group) s a = omega arith
paid next_number w (change.BeginClose who group cancel context notices) s a = omega (arith, owed_begin_close w who group cancel context notices, a.counted)
paid next_number w (change.GiveNotice who) s a = omega (arith, owed_notified w who a.wait a.object a.rest s.apart a.begun a.left)
paid next_number w (change.EndWait who how) s a = omega (arith, owed_end_wait w who how a s.apart)
paid next_number w (change.Finish client) s a = omega (arith, owed_finished w client unfinished a refl)
