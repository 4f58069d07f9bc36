-- What a change of the machine makes of objects and clients, which callbacks it cancels, and which objects those are of that it
-- makes.
use Rattle.std.proofs.Common.{◌≡◌, ℕ, ◌+◌, ◌-◌, Bool, true, false, cond, ◌&&◌, ◌==◌, List, [], ◌∷◌, ◌++◌, length, drop, Option, Some, None, refl, sym, ap, ◌∙◌, subst, arith, filter, eqb-true, is_some, slice_get}
use Rattle.std.specs.List.{AllByRecursion}
use Rattle.std.proofs.lemmas.List.{drop_all, drop_at, map-set}
use Rattle.tp_base.specs.declared.ids.ObjectId.{ObjectId}
use Rattle.tp_base.specs.declared.plans.Change.{Change}
use Rattle.tp_base.specs.declared.plans.Change.TheVariants as change
use Rattle.tp_base.specs.declared.plans.Awaited.TheVariants as awaited
use Rattle.tp_base.specs.declared.plans.IoStep.TheVariants.{Complete, GiveUp, Issue}
use Rattle.tp_base.specs.declared.plans.Mark.TheVariants.{Asks, Long, Loose}
use Rattle.tp_base.specs.declared.rows.CallbackRow.{CallbackRow}
use Rattle.tp_base.specs.declared.rows.ClientRow.{ClientRow}
use Rattle.tp_base.specs.declared.rows.ObjectRow.{ObjectRow}
use Rattle.tp_base.specs.declared.rows.PoolRow.{PoolRow}
use Rattle.tp_base.specs.declared.rows.WaitTarget.TheVariants.{Kernel, Object}
use Rattle.tp_model.specs.Actions.{returning, slots_of}
use Rattle.tp_model.specs.Changes.{change_pool, changed, finished, release_object, replaced, returned}
use Rattle.tp_model.specs.Conditions.{is_object}
use Rattle.tp_model.specs.Counts.{is_pending, numbered}
use Rattle.tp_model.specs.Sources.{firing, Job, rows_of, sources_of}
use Rattle.tp_model.specs.Support.Allowed.{IsAllowed, news}
use Rattle.tp_model.specs.Support.Sound.{IsMade, IsSound, is_standing, may_be_armed}
use Rattle.tp_model.specs.Support.Told.{told_by_change}
use Rattle.tp_model.specs.Waits.{cancel_where, is_cancelled_by}
use Rattle.tp_model.specs.World.{World}
use Rattle.tp_model.proofs.Callbacks.{length_replaced}
use Rattle.tp_model.proofs.Firing.{AreJobsOf, armable_stands, fired_in, jobs_made, numbered_made, standing_made}
use Rattle.tp_model.proofs.Growing.{grows}
use Rattle.tp_model.proofs.Performing.{returning_of}
use Rattle.tp_model.proofs.Refusals.{false_true}
use Rattle.tp_model.proofs.SoundSources.{sources_in}
use Rattle.tp_library.specs.Counted.{applied, finished_in, OnObjects, Releases, released_row, with_finished}
use Rattle.tp_library.proofs.Moving.{some_same}
use Rattle.tp_library.proofs.Telling.{effect_of}

-- ---- objects and clients

pub objects_changed : (w : World) (ch : Change) → (changed w ch).objects ≡ applied (effect_of ch).objects w.objects
objects_changed w (change.ChangePool pool how) = of_row (slice_get w.pools pool.0)
  where
    of_row : (row : Option PoolRow) → (change_pool w pool.0 how row).objects ≡ w.objects
    of_row None = refl
    of_row (Some row) = refl
objects_changed w (change.ReleaseObject object) = of_row (numbered w.objects object.0)
  where
    of_row : (row : Option ObjectRow) → (release_object w object row).objects ≡ released_row w.objects object.0 row
    of_row None = refl
    of_row (Some row) = refl
objects_changed w (change.Operate c Issue) = refl
objects_changed w (change.Operate c GiveUp) = refl
objects_changed w (change.Operate c (Complete error bytes)) = refl
objects_changed w (change.BeginWait who (awaited.Object object) cancel) = refl
objects_changed w (change.BeginWait who (awaited.Kernel kernel) cancel) = refl
objects_changed w _ = refl

pub clients_changed : (w : World) (ch : Change) → finished_in (changed w ch) ≡ with_finished (effect_of ch).finished (finished_in w)
clients_changed w (change.ChangePool pool how) = of_row (slice_get w.pools pool.0)
  where
    of_row : (row : Option PoolRow) → finished_in (change_pool w pool.0 how row) ≡ finished_in w
    of_row None = refl
    of_row (Some row) = refl
clients_changed w (change.ReleaseObject object) = of_row (numbered w.objects object.0)
  where
    of_row : (row : Option ObjectRow) → finished_in (release_object w object row) ≡ finished_in w
    of_row None = refl
    of_row (Some row) = refl
clients_changed w (change.Operate c Issue) = refl
clients_changed w (change.Operate c GiveUp) = refl
clients_changed w (change.Operate c (Complete error bytes)) = refl
clients_changed w (change.BeginWait who (awaited.Object object) cancel) = refl
clients_changed w (change.BeginWait who (awaited.Kernel kernel) cancel) = refl
clients_changed w (change.Finish client) = map-set (λ (r : ClientRow). r.finished) w.clients (client - 1) finished
clients_changed w _ = refl

-- ---- callbacks that are cancelled

-- an operation that is given up
pub record GivesUp (w : World) (ch : Change) (number : ℕ) : Type 0 where
  pub row : CallbackRow
  pub number_is : row.number ≡ number
  pub is : ch ≡ change.Operate row GiveUp

pub gives_up : (next_number : ℕ) (w : World) (ch : Change) (number : ℕ) → (told_by_change next_number w ch).deed.cancelled ≡ Some number → GivesUp w ch number
gives_up next_number w (change.Operate c GiveUp) number e = record { row = c; number_is = cc; is = refl }
gives_up next_number w (change.Operate c Issue) number e = absurd cc
gives_up next_number w (change.Operate c (Complete error bytes)) number e = absurd cc
gives_up next_number w (change.Mark by Long) number e = absurd cc
gives_up next_number w (change.Mark by Loose) number e = absurd cc
gives_up next_number w (change.Mark by (Asks kind action)) number e = absurd cc
gives_up next_number w _ number e = absurd cc

-- a wait for an object
pub record Awaits (w : World) (ch : Change) (object : ObjectId) (cancel : Bool) : Type 0 where
  pub made : IsMade (length w.objects) object.0
  pub callbacks : (changed w ch).callbacks ≡ cancel_where (is_cancelled_by (Object object) cancel) w.callbacks
  pub count : (next_number : ℕ) → (told_by_change next_number w ch).deed.count ≡ length (filter (is_cancelled_by (Object object) cancel) w.callbacks)

object_made : (w : World) (object : ℕ) → is_object w object ≡ true → IsMade (length w.objects) object
object_made w object is = of_row (numbered w.objects object) refl is
  where
    of_row : (row : Option ObjectRow) → numbered w.objects object ≡ row → is_some row ≡ true → IsMade (length w.objects) object
    of_row None none e = absurd (false_true e)
    of_row (Some row) there e = numbered_made w.objects object row there

pub awaits : (next_number : ℕ) (w : World) (ch : Change) → IsAllowed next_number w ch → (object : ObjectId) (cancel : Bool) → (effect_of ch).awaited ≡ Some (object, cancel) → Awaits w ch object cancel
awaits next_number w (change.BeginWait who (awaited.Object object) cancel) a other may e =
    let both : ◌≡◌ {A = ObjectId × Bool} (object, cancel) (other, may) = some_same (object, cancel) (other, may) e in
    let same : object ≡ other = ap (λ (p : ObjectId × Bool). p.0) both in
    let also : cancel ≡ may = ap (λ (p : ObjectId × Bool). p.1) both in
    subst (λ (o : ObjectId). Awaits w (change.BeginWait who (awaited.Object object) cancel) o may) same
    (subst (Awaits w (change.BeginWait who (awaited.Object object) cancel) object) also
    (record { made = object_made w object.0 a.made; callbacks = refl; count = λ next. refl }))
awaits next_number w (change.BeginWait who (awaited.Kernel kernel) cancel) a other may e = absurd cc
awaits next_number w (change.Operate c Issue) a other may e = absurd cc
awaits next_number w (change.Operate c GiveUp) a other may e = absurd cc
awaits next_number w (change.Operate c (Complete error bytes)) a other may e = absurd cc
awaits next_number w _ a other may e = absurd cc

abbrev pub is_releasing : OnObjects → Bool
is_releasing (Releases group) = true
is_releasing _ = false

-- nothing is cancelled but by a wait for an object and by the close of a group
pub none_cancelled : (next_number : ℕ) (w : World) (ch : Change) → (effect_of ch).awaited ≡ None → is_releasing (effect_of ch).objects ≡ false → (told_by_change next_number w ch).deed.count ≡ 0
none_cancelled next_number w (change.BeginWait who (awaited.Object object) cancel) e not_group = absurd cc
none_cancelled next_number w (change.BeginWait who (awaited.Kernel kernel) cancel) e not_group = unmet w.callbacks
  where
    fails : (a b : Bool) → (a && (b && false)) ≡ false
    fails true true = refl
    fails true false = refl
    fails false b = refl

    unmet : (cs : List CallbackRow) → length (filter (is_cancelled_by (Kernel kernel) cancel) cs) ≡ 0
    unmet [] = refl
    unmet (c ∷ cs) = ap (λ b. length (cond b (c ∷ filter (is_cancelled_by (Kernel kernel) cancel) cs) (filter (is_cancelled_by (Kernel kernel) cancel) cs))) (fails cancel (is_pending c.status)) ∙ unmet cs
none_cancelled next_number w (change.BeginClose who group cancel context notices) e not_group = absurd cc
none_cancelled next_number w (change.Operate c Issue) e not_group = refl
none_cancelled next_number w (change.Operate c GiveUp) e not_group = refl
none_cancelled next_number w (change.Operate c (Complete error bytes)) e not_group = refl
none_cancelled next_number w (change.Mark by Long) e not_group = refl
none_cancelled next_number w (change.Mark by Loose) e not_group = refl
none_cancelled next_number w (change.Mark by (Asks kind action)) e not_group = refl
none_cancelled next_number w _ e not_group = refl

-- ---- callbacks that are made

-- a simple one has no object, and any other one is of an object that was made
abbrev pub HasHomeBy : World → Bool → CallbackRow → Type 0
HasHomeBy w true c = c.object.0 ≡ 0
HasHomeBy w false c = IsMade (length w.objects) c.object.0

rows_at_home : (w : World) (next_number : ℕ) (jobs : List Job) → AreJobsOf (IsMade (length w.objects)) jobs → AllByRecursion (HasHomeBy w false) (rows_of w.objects next_number jobs)
rows_at_home w next_number [] all = tt
rows_at_home w next_number (job ∷ jobs) all = (all.0.0, rows_at_home w (next_number + 1) jobs all.1)

abbrev pub made_by_change : World → Change → List CallbackRow
made_by_change w ch = drop (length w.callbacks) (changed w ch).callbacks

module _ (next_number : ℕ) (w : World) (sound : IsSound next_number w) where
  abbrev AreHome : Change → Type 0
  AreHome ch = AllByRecursion (HasHomeBy w (effect_of ch).simple) (made_by_change w ch)

  -- what makes nothing
  nothing_new : (ch : Change) → IsAllowed next_number w ch → news ch ≡ 0 → AreHome ch
  nothing_new ch a none =
      subst (AllByRecursion (HasHomeBy w (effect_of ch).simple)) (sym (drop_all (length w.callbacks) (changed w ch).callbacks (omega (arith, grows next_number w ch a, none)))) tt

  behind : (test : Bool) (kept new : List CallbackRow) → length kept ≡ length w.callbacks → AllByRecursion (HasHomeBy w test) new → AllByRecursion (HasHomeBy w test) (drop (length w.callbacks) (kept ++ new))
  behind test kept new same all = subst (AllByRecursion (HasHomeBy w test)) (sym (drop_at kept new (length w.callbacks) same)) all

  pub homes_changed : (ch : Change) → IsAllowed next_number w ch → AreHome ch
  homes_changed (change.QueueCallback c) a = behind (c.object.0 == 0) w.callbacks (c ∷ []) refl (of_object (c.object.0 == 0) refl, tt)
    where
      of_object : (b : Bool) → (c.object.0 == 0) ≡ b → HasHomeBy w b c
      of_object true is = eqb-true c.object.0 0 is
      of_object false is = numbered_made w.objects c.object.0 (a.object some).row (a.object some).stands
        where
          some : c.object.0 ≡ 0 → ⊥
          some zero = false_true (sym is ∙ ap (λ n. n == 0) zero)
  homes_changed (change.ExpectCallback c) a = behind false w.callbacks (c ∷ []) refl (standing_made w.objects c.object.0 a.stands, tt)
  homes_changed (change.Fire trigger first count) a =
      let jobs : List Job = (firing trigger (sources_of w)).jobs in
      behind false w.callbacks (rows_of w.objects first jobs) refl (rows_at_home w first jobs (jobs_made w.objects jobs (fired_in w trigger a.ready (sources_in next_number w sound)).jobs))
  homes_changed (change.Return by words first count) a =
      let f = returning_of (λ n. is_standing w.objects n ≡ true) (λ n. may_be_armed w.objects n ≡ true) (λ n may. armable_stands w.objects n may) w words (slots_of by.callback.status) (sources_in next_number w sound) in
      let jobs : List Job = (returning w words (slots_of by.callback.status)).jobs in
      behind false (replaced (returned by.callback) w.callbacks) (rows_of w.objects first jobs) (length_replaced (returned by.callback) w.callbacks) (rows_at_home w first jobs (jobs_made w.objects jobs f.jobs))
  homes_changed ch a = nothing_new ch a refl
