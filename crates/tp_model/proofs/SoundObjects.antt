-- What is true of reachable worlds stays true where an object is made, and where some are released.
use Rattle.std.proofs.Common.{◌≡◌, ℕ, ◌-◌, ◌<◌, Bool, true, false, cond, not, ◌&&◌, ◌==◌, List, [], ◌∷◌, ◌++◌, length, slice_set, Option, Some, None, refl, sym, ap, ap₂, ◌∙◌, subst, arith, filter, eqb-true, map, option_map}
use Rattle.std.specs.List.{AllByRecursion, list_any}
use Rattle.tp_base.specs.declared.ids.ObjectId.{ObjectId}
use Rattle.tp_base.specs.declared.rows.ObjectRow.{ObjectRow}
use Rattle.tp_base.specs.declared.rows.CallbackRow.{CallbackRow}
use Rattle.tp_model.specs.Conditions.{is_same_kind, has_operations, is_operation_of}
use Rattle.tp_base.specs.declared.rows.TimerSetting.{TimerSetting}
use Rattle.tp_base.specs.declared.rows.Arming.{Arming}
use Rattle.tp_base.specs.declared.calls.Kind.TheVariants.{Wait}
use Rattle.std.specs.Option.{option_map_or}
use Rattle.tp_model.proofs.Firing.{AreOf, made_stands, standing_made}
use Rattle.tp_model.specs.World.{World, BegunWait}
use Rattle.tp_model.specs.Counts.{numbered, is_operating}
use Rattle.tp_model.specs.Changes.{with_object, release_object}
use Rattle.tp_model.specs.Support.Sound.{IsSound, IsMade, is_wait_at, may_be_armed, count_set, IsTimedOut, HasObject, IsCallbackSound, is_standing, is_told}
use Rattle.tp_model.proofs.Lists.{all_along, slice_get_append, all_append, all_map, all_get, all_set}
use Rattle.tp_model.proofs.Refusals.{both, numbered_some, numbered_at, false_true}
use Rattle.tp_model.proofs.Releasing.{Releases, released_if, one_released, members_released, that_row, that_made, that_released, that_kept, all_passing, not_true_false, settings_left, armings_left, timed_left, operations_left, none_in_range, that_stands}
use Rattle.tp_model.specs.Groups.{is_object_that, has_cancel, is_member, is_member_at, released_from, without_members, first_operating, is_operating_member}

-- a further object is made, and one is released
pub numbered_append : (objects : List ObjectRow) (o : ObjectRow) (n : ℕ) (row : ObjectRow) → numbered objects n ≡ Some row → numbered (objects ++ o ∷ []) n ≡ Some row
numbered_append objects o n row is =
    let at = numbered_some objects n row is in
    numbered_at (objects ++ o ∷ []) n row at.1 (slice_get_append objects (o ∷ []) (n - 1) row at.0)

object_appended : (objects : List ObjectRow) (o : ObjectRow) (c : CallbackRow) → HasObject objects c → HasObject (objects ++ o ∷ []) c
object_appended objects o c of =
    record { row = of.row; stands = numbered_append objects o c.object.0 of.row of.stands; home = of.home; group = of.group; persistent = of.persistent }

object_releasing : (gone : ℕ → Bool) (objects after : List ObjectRow) (c : CallbackRow) → Releases gone objects after → HasObject objects c → HasObject after c
object_releasing gone objects after c rel of =
    record {
      row = released_if (gone c.object.0) of.row;
      stands = rel c.object.0 ∙ ap (option_map (released_if (gone c.object.0))) of.stands;
      home = of.home ∙ elim (gone c.object.0) as (λ b. of.row.env.pool ≡ (released_if b of.row).env.pool) [ true ↦ refl | false ↦ refl ];
      group = of.group ∙ elim (gone c.object.0) as (λ b. of.row.env.group ≡ (released_if b of.row).env.group) [ true ↦ refl | false ↦ refl ];
      persistent = of.persistent ∙ elim (gone c.object.0) as (λ b. of.row.env.persistent ≡ (released_if b of.row).env.persistent) [ true ↦ refl | false ↦ refl ];
    }

-- ---- wait objects

abbrev armable_row : Option ObjectRow → Bool
armable_row row = option_map_or (λ (o : ObjectRow). is_same_kind o.kind Wait && not o.released) row false

abbrev pub wait_row : Option ObjectRow → Bool
wait_row row = option_map_or (λ (o : ObjectRow). is_same_kind o.kind Wait) row false

-- an object that was never made has no setting
none_set : (objects n : ℕ) (settings : List TimerSetting) (armings : List Arming) → (IsMade objects n → ⊥) → AreOf (IsMade objects) settings → IsTimedOut n settings armings
none_set objects n settings armings unmade all = record { few = omega (arith, none settings all); once = once settings all }
  where
    other : (t : TimerSetting) → IsMade objects t.object.0 → t.object.0 ≡ n → ⊥
    other t made is = unmade (subst (IsMade objects) is made)

    none : (ts : List TimerSetting) → AreOf (IsMade objects) ts → count_set n ts ≡ 0
    none [] made = refl
    none (t ∷ ts) made =
        elim (t.object.0 == n) as (λ b. (t.object.0 == n) ≡ b → length (cond b (t ∷ filter (λ (x : TimerSetting). x.object.0 == n) ts) (filter (λ (x : TimerSetting). x.object.0 == n) ts)) ≡ 0) [
          | true ↦ λ is. absurd (other t made.0 (eqb-true t.object.0 n is))
          | false ↦ λ _. none ts made.1
        ] refl

    once : (ts : List TimerSetting) → AreOf (IsMade objects) ts → AllByRecursion (λ (t : TimerSetting). t.object.0 ≡ n → t.period ≡ 0) ts
    once [] made = tt
    once (t ∷ ts) made = ((λ is. absurd (other t made.0 is)), once ts made.1)

-- ---- objects by a test, where one is made

pub that_appended : (test : ObjectRow → Bool) (objects : List ObjectRow) (o : ObjectRow) (n : ℕ) → is_object_that test objects n ≡ true → is_object_that test (objects ++ o ∷ []) n ≡ true
that_appended test objects o n e = let row = that_row test objects n e in that_stands test (objects ++ o ∷ []) n row.0 (numbered_append objects o n row.0 row.1) ∙ row.2

abbrev IsSetStanding : List ObjectRow → List TimerSetting → Type 0
IsSetStanding objects settings = AllByRecursion (λ (x : TimerSetting). is_standing objects x.object.0 ≡ true) settings

made_timers : (objects : List ObjectRow) (settings : List TimerSetting) → IsSetStanding objects settings → AreOf (IsMade (length objects)) settings
made_timers objects settings all = all_along (λ (x : TimerSetting). is_standing objects x.object.0 ≡ true) (λ (x : TimerSetting). IsMade (length objects) x.object.0) (λ x h. standing_made objects x.object.0 h) settings all

abbrev pub OperationStands : List ObjectRow → CallbackRow → Type 0
OperationStands objects c = is_operating c.status ≡ true → is_standing objects c.object.0 ≡ true

abbrev pub AreNamed : List ObjectRow → List ObjectId → Type 0
AreNamed objects os = AllByRecursion (λ (o : ObjectId). is_object_that is_told objects o.0 ≡ true) os

pub notices_along : (objects after : List ObjectRow) → ((n : ℕ) → is_object_that is_told objects n ≡ true → is_object_that is_told after n ≡ true) → (bs : List BegunWait)
    → AllByRecursion (λ (b : BegunWait). AreNamed objects b.notices) bs → AllByRecursion (λ (b : BegunWait). AreNamed after b.notices) bs
notices_along objects after h bs all =
    all_along (λ (b : BegunWait). AreNamed objects b.notices) (λ (b : BegunWait). AreNamed after b.notices)
    (λ b named. all_along (λ (o : ObjectId). is_object_that is_told objects o.0 ≡ true) (λ (o : ObjectId). is_object_that is_told after o.0 ≡ true) (λ o. h o.0) b.notices named) bs all

-- an object that is told of is so after others are released
told_still : (gone : ℕ → Bool) (objects after : List ObjectRow) → Releases gone objects after → (n : ℕ) → is_object_that is_told objects n ≡ true → is_object_that is_told after n ≡ true
told_still gone objects after rel n told =
    let row = that_row is_told objects n told in
    ap (λ o. option_map_or is_told o false) (rel n ∙ ap (option_map (released_if (gone n))) row.1) ∙ of_row (gone n) row.0 row.2
  where
    of_row : (b : Bool) (o : ObjectRow) → is_told o ≡ true → is_told (released_if b o) ≡ true
    of_row false o h = h
    of_row true o h = (both o.released (has_cancel o) h).1

-- ---- an object is made

pub sound_object : (next_number : ℕ) (w : World) (o : ObjectRow) → o.env.pool.0 < length w.pools → IsSound next_number w → IsSound next_number (with_object w o)
sound_object next_number w o home s =
    record {
      numbers = s.numbers;
      workers = s.workers;
      object_pools = all_append (λ (x : ObjectRow). x.env.pool.0 < length w.pools) w.objects o s.object_pools home;
      callback_pools = s.callback_pools;
      callback_objects = all_along (IsCallbackSound w.objects) (IsCallbackSound (w.objects ++ o ∷ [])) (λ c sound named. object_appended w.objects o c (sound named)) w.callbacks s.callback_objects;
      apart = s.apart;
      timers = all_along (λ (x : TimerSetting). is_standing w.objects x.object.0 ≡ true) (λ (x : TimerSetting). is_standing (w.objects ++ o ∷ []) x.object.0 ≡ true) (λ x h. that_appended (λ (r : ObjectRow). not r.released) w.objects o x.object.0 h) w.settings s.timers;
      armings = more_armable w.armings s.armings;
      timeouts = λ object wait. of_row object (numbered w.objects object) refl wait;
      clock = s.clock;
      waits = s.waits;
      operations = all_along (OperationStands w.objects) (OperationStands (w.objects ++ o ∷ [])) (λ c h operates. that_appended (λ (r : ObjectRow). not r.released) w.objects o c.object.0 (h operates)) w.callbacks s.operations;
      notices = notices_along w.objects (w.objects ++ o ∷ []) (λ n h. that_appended is_told w.objects o n h) w.waits s.notices;
    }
  where
    still_armable : (n : ℕ) → may_be_armed w.objects n ≡ true → may_be_armed (w.objects ++ o ∷ []) n ≡ true
    still_armable n may = of_row (numbered w.objects n) refl may
      where
        of_row : (row : Option ObjectRow) → numbered w.objects n ≡ row → armable_row row ≡ true → may_be_armed (w.objects ++ o ∷ []) n ≡ true
        of_row None is h = absurd (false_true h)
        of_row (Some row) is h = ap armable_row (numbered_append w.objects o n row is) ∙ h

    more_armable : (armings : List Arming) → AllByRecursion (λ (a : Arming). may_be_armed w.objects a.object.0 ≡ true) armings → AllByRecursion (λ (a : Arming). may_be_armed (w.objects ++ o ∷ []) a.object.0 ≡ true) armings
    more_armable armings all = all_along (λ (a : Arming). may_be_armed w.objects a.object.0 ≡ true) (λ (a : Arming). may_be_armed (w.objects ++ o ∷ []) a.object.0 ≡ true) (λ a may. still_armable a.object.0 may) armings all

    -- the new object has no setting yet
    of_row : (n : ℕ) (row : Option ObjectRow) → numbered w.objects n ≡ row → is_wait_at (w.objects ++ o ∷ []) n ≡ true → IsTimedOut n w.settings w.armings
    of_row n (Some row) is wait = s.timeouts n (ap wait_row (is ∙ sym (numbered_append w.objects o n row is)) ∙ wait)
    of_row n None is wait = none_set (length w.objects) n w.settings w.armings (λ made. none_there (sym is ∙ made_stands w.objects (record { 0 = n }) made)) (made_timers w.objects w.settings s.timers)
      where
        none_there : {row : ObjectRow} → None ≡ Some row → ⊥
        none_there e = cc

-- ---- objects are released

pub kind_released : (objects : List ObjectRow) (object : ObjectId) (row : ObjectRow) (n : ℕ) → numbered objects object.0 ≡ Some row → is_wait_at (slice_set objects (object.0 - 1) (record row { released = true })) n ≡ is_wait_at objects n
kind_released objects object row n is =
    that_released (λ (o : ObjectRow). is_same_kind o.kind Wait) (λ k. k == object.0) objects (slice_set objects (object.0 - 1) (record row { released = true })) (one_released objects object.0 row is) (λ o. refl) n

-- objects are released that have no operation under way; they are unset and disarmed
sound_releasing : (next_number : ℕ) (w : World) (gone : ℕ → Bool) (after : List ObjectRow) → Releases gone w.objects after → AllByRecursion (λ (o : ObjectRow). o.env.pool.0 < length w.pools) after
    → ((n : ℕ) → gone n ≡ true → list_any (is_operation_of n) w.callbacks ≡ false) → IsSound next_number w
    → IsSound next_number (record w { objects = after; settings = settings_left gone w.settings; armings = armings_left gone w.armings })
sound_releasing next_number w gone after rel pools idle s =
    record {
      numbers = s.numbers;
      workers = s.workers;
      object_pools = pools;
      apart = s.apart;
      timers = all_passing (λ (x : TimerSetting). is_standing w.objects x.object.0 ≡ true) (λ (x : TimerSetting). is_standing after x.object.0 ≡ true) (λ (x : TimerSetting). not (gone x.object.0))
          (λ x stays h. that_kept (λ (o : ObjectRow). not o.released) gone w.objects after rel x.object.0 (not_true_false (gone x.object.0) stays) ∙ h) w.settings s.timers;
      armings = all_passing (λ (a : Arming). may_be_armed w.objects a.object.0 ≡ true) (λ (a : Arming). may_be_armed after a.object.0 ≡ true) (λ (a : Arming). not (gone a.object.0))
          (λ a stays h. that_kept (λ (o : ObjectRow). is_same_kind o.kind Wait && not o.released) gone w.objects after rel a.object.0 (not_true_false (gone a.object.0) stays) ∙ h) w.armings s.armings;
      timeouts = λ n wait. timed_left gone n w.settings w.armings (s.timeouts n (sym (that_released (λ (o : ObjectRow). is_same_kind o.kind Wait) gone w.objects after rel (λ o. refl) n) ∙ wait));
      clock = s.clock;
      waits = s.waits;
      callback_pools = s.callback_pools;
      callback_objects = all_along (IsCallbackSound w.objects) (IsCallbackSound after) (λ c sound named. object_releasing gone w.objects after c rel (sound named)) w.callbacks s.callback_objects;
      operations = operations_left gone w.objects after rel w.callbacks idle s.operations;
      notices = notices_along w.objects after (told_still gone w.objects after rel) w.waits s.notices;
    }

-- an object is released
pub sound_release : (next_number : ℕ) (w : World) (object : ObjectId) (row : Option ObjectRow) → numbered w.objects object.0 ≡ row → has_operations w object.0 ≡ false → IsSound next_number w → IsSound next_number (release_object w object row)
sound_release next_number w object None is idle s = s
sound_release next_number w object (Some row) is idle s =
    sound_releasing next_number w (λ n. n == object.0) (slice_set w.objects (object.0 - 1) (record row { released = true })) (one_released w.objects object.0 row is)
    (all_set (λ (o : ObjectRow). o.env.pool.0 < length w.pools) w.objects (object.0 - 1) (record row { released = true })
    (all_get (λ (o : ObjectRow). o.env.pool.0 < length w.pools) w.objects (object.0 - 1) row s.object_pools (numbered_some w.objects object.0 row is).0) s.object_pools)
    (λ n same. ap (λ k. has_operations w k) (eqb-true n object.0 same) ∙ idle) s

-- no member of the group has an operation under way
pub member_idle : (w : World) (group : ℕ) → first_operating w group ≡ None → (n : ℕ) → is_member_at w group n ≡ true → list_any (is_operation_of n) w.callbacks ≡ false
member_idle w group none n member = known (has_operations w n) refl
  where
    made : IsMade (length w.objects) n
    made = that_made (is_member group) w.objects n member

    known : (b : Bool) → has_operations w n ≡ b → list_any (is_operation_of n) w.callbacks ≡ false
    known false e = e
    known true e = absurd (false_true (sym (none_in_range (is_operating_member w group) 1 (length w.objects) n none made.0 (omega (arith, made.1))) ∙ ap₂ (λ a b. a && b) member e))

pub sound_members : (next_number : ℕ) (w : World) (group : ℕ) → first_operating w group ≡ None → IsSound next_number w → IsSound next_number (without_members w group)
sound_members next_number w group none s =
    sound_releasing next_number w (is_member_at w group) (map (released_from group) w.objects) (members_released w group)
    (all_map (λ (o : ObjectRow). o.env.pool.0 < length w.pools) (released_from group) (λ o h. elim (is_member group o) as (λ b. (released_if b o).env.pool.0 < length w.pools) [ true ↦ h | false ↦ h ]) w.objects s.object_pools)
    (member_idle w group none) s
