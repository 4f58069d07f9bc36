-- What is true of reachable worlds stays true where a wait begins, gives a notice or ends.
use Rattle.std.proofs.Common.{◌≡◌, ℕ, ◌<◌, Bool, true, false, cond, not, ◌&&◌, ◌||◌, ◌==◌, List, [], ◌∷◌, ◌++◌, length, Option, Some, None, refl, sym, ap, ap₂, ◌∙◌, filter, find, eq-eqb, map, option_map, drop}
use Rattle.std.specs.List.{AllByRecursion, list_any}
use Rattle.std.specs.Option.{option_map_or}
use Rattle.std.proofs.lemmas.List.Folds.{list_any-append}
use Rattle.tp_base.specs.declared.rows.Status.{Status}
use Rattle.tp_base.specs.declared.ids.ObjectId.{ObjectId}
use Rattle.tp_base.specs.declared.rows.Status.TheVariants.{Expected, Issued, Pending, Running, Returned, Cancelled}
use Rattle.tp_base.specs.declared.rows.ObjectRow.{ObjectRow}
use Rattle.tp_base.specs.declared.rows.CallbackRow.{CallbackRow}
use Rattle.tp_base.specs.declared.ids.Who.{Who}
use Rattle.tp_base.specs.declared.plans.Awaited.{Awaited}
use Rattle.tp_base.specs.declared.rows.WaitTarget.{WaitTarget}
use Rattle.tp_base.specs.declared.rows.WaitTarget.TheVariants.{Group}
use Rattle.tp_model.specs.Waits.{target_of, is_of, is_cancelled_by, cancelled, cancel_where}
use Rattle.tp_base.specs.Actors.{is_same_actor}
use Rattle.tp_model.specs.Conditions.{is_in_wait, is_operation_of}
use Rattle.tp_model.specs.World.{World, BegunWait}
use Rattle.tp_model.specs.Counts.{has_number, is_pending, is_operating}
use Rattle.tp_model.specs.Changes.{new_wait, begin_wait, without_wait, give_notice, notified, begin_close, new_close}
use Rattle.tp_model.specs.Laws.Once.{is_left}
use Rattle.tp_model.specs.Support.Sound.{IsSound, IsRising, AreApart, HasObject, IsCallbackSound, IsWaitSound, is_standing, is_told}
use Rattle.tp_model.specs.Support.Allowed.{IsTargetMade}
use Rattle.tp_model.proofs.Lists.{find_all, all_append, all_map, all_filter, any_filter_none}
use Rattle.tp_model.proofs.Cancelling.{IsPendingTest, cancelled_pending, cancelled_if, cancelled_number, cancelled_found, find_cancelled}
use Rattle.tp_model.proofs.Callbacks.{rising_map}
use Rattle.tp_model.proofs.Refusals.{neither, both, false_true, same_actor_sym}
use Rattle.tp_model.proofs.Waits.{waits_still, left_cancelled, target_named, new_wait_sound, new_close_sound}
use Rattle.tp_model.proofs.Releasing.{members_released, released_if, that_row, any_found, that_stands}
use Rattle.tp_model.specs.Groups.{is_object_that, has_cancel, gets_notice, is_member, is_member_at, released_from, without_members, first_operating, notices_of, objects_that, numbers_in, object_id}
use Rattle.tp_base.specs.declared.ids.GroupId.{GroupId}
use Rattle.tp_model.proofs.SoundObjects.{OperationStands, AreNamed, member_idle, sound_members}
use Rattle.tp_model.proofs.SoundWorkers.{workers_cancelled}

apart_more : (bs : List BegunWait) (b : BegunWait) → list_any (λ (c : BegunWait). is_same_actor c.actor b.actor) bs ≡ false → AreApart bs → AreApart (bs ++ b ∷ [])
apart_more [] b none a = (refl, tt)
apart_more (c ∷ bs) b none a =
    let both_none = neither (is_same_actor c.actor b.actor) (list_any (λ (x : BegunWait). is_same_actor x.actor b.actor) bs) none in (
      list_any-append (λ (x : BegunWait). is_same_actor x.actor c.actor) bs (b ∷ [])
          ∙ ap₂ (λ p q. p || q) a.0 (ap (λ p. p || false) (same_actor_sym b.actor c.actor ∙ both_none.0)),
      apart_more bs b both_none.1 a.1,
    )

all_cancelled : (P : CallbackRow → Type 0) (test : CallbackRow → Bool) → ((c : CallbackRow) → P c → P (cancelled c)) → (cs : List CallbackRow) → AllByRecursion P cs → AllByRecursion P (cancel_where test cs)
all_cancelled P test h cs all = all_map P (cancelled_if test) (λ c here. elim (test c) as (λ b. P (cond b (cancelled c) c)) [ true ↦ h c here | false ↦ here ]) cs all

-- a wait begins, and pending callbacks that pass a test are cancelled
pub sound_begun : (next_number : ℕ) (w : World) (test : CallbackRow → Bool) (b : BegunWait) → IsPendingTest test → is_in_wait w b.actor ≡ false → IsWaitSound next_number (cancel_where test w.callbacks) b → AreNamed w.objects b.notices → IsSound next_number w
    → IsSound next_number (record w { callbacks = cancel_where test w.callbacks; waits = w.waits ++ b ∷ [] })
sound_begun next_number w test b only none sound named s =
    record {
      numbers = rising_map (cancelled_if test) (cancelled_number test) 1 next_number w.callbacks s.numbers;
      workers = workers_cancelled test w.callbacks only 1 w.workers s.workers;
      object_pools = s.object_pools;
      apart = apart_more w.waits b none s.apart;
      timers = s.timers;
      armings = s.armings;
      timeouts = s.timeouts;
      clock = s.clock;
      waits = all_append (IsWaitSound next_number (cancel_where test w.callbacks)) w.waits b (waits_still next_number w.callbacks (cancel_where test w.callbacks) (left_cancelled test w.callbacks) w.waits s.waits) sound;
      callback_pools = all_cancelled (λ (c : CallbackRow). c.pool.0 < length w.pools) test (λ c h. h) w.callbacks s.callback_pools;
      callback_objects = all_cancelled (IsCallbackSound w.objects) test (λ c home named. let of = home named in record { row = of.row; stands = of.stands; home = of.home; group = of.group; persistent = of.persistent }) w.callbacks s.callback_objects;
      operations = all_cancelled (OperationStands w.objects) test (λ c h operates. absurd (false_true operates)) w.callbacks s.operations;
      notices = all_append (λ (x : BegunWait). AreNamed w.objects x.notices) w.waits b s.notices named;
    }

pub sound_begin_wait : (next_number : ℕ) (w : World) (who : Who) (awaited : Awaited) (cancel : Bool) → is_in_wait w who ≡ false → IsTargetMade w awaited → IsSound next_number w
    → IsSound next_number (begin_wait w who (target_of awaited) cancel (cancel_where (is_cancelled_by (target_of awaited) cancel) w.callbacks))
sound_begin_wait next_number w who awaited cancel none made s =
    let target : WaitTarget = target_of awaited in
    let test : CallbackRow → Bool = is_cancelled_by target cancel in
    let rising : IsRising 1 next_number (cancel_where test w.callbacks) = rising_map (cancelled_if test) (cancelled_number test) 1 next_number w.callbacks s.numbers in
    sound_begun next_number w test (new_wait who target cancel (cancel_where test w.callbacks)) (cancelled_pending target cancel) none
    (new_wait_sound next_number who target cancel (cancel_where test w.callbacks) (target_named w awaited made) rising) tt s

-- no callback of the group has an operation under way
pub group_idle : (next_number : ℕ) (w : World) (group : ℕ) → first_operating w group ≡ None → IsSound next_number w → (n : ℕ) (c : CallbackRow) → find (has_number n) w.callbacks ≡ Some c → (c.group.0 == group) ≡ true → is_operating c.status ≡ false
group_idle next_number w group none s n c found of = known (is_operating c.status) refl
  where
    known : (b : Bool) → is_operating c.status ≡ b → is_operating c.status ≡ false
    known false e = e
    known true e =
        let stands : is_standing w.objects c.object.0 ≡ true = find_all (OperationStands w.objects) (has_number n) c w.callbacks s.operations found e in
        let row = that_row (λ (o : ObjectRow). not o.released) w.objects c.object.0 stands in
        let home : HasObject w.objects c = find_all (IsCallbackSound w.objects) (has_number n) c w.callbacks s.callback_objects found (λ no_object. none_at no_object stands) in
        let same : Some home.row ≡ Some row.0 = sym home.stands ∙ row.1 in
        let is_row : home.row ≡ row.0 = cc in
        let its : (row.0.env.group.0 == group) ≡ true = ap (λ (r : ObjectRow). r.env.group.0 == group) (sym is_row) ∙ ap (λ (g : GroupId). g.0 == group) (sym home.group) ∙ of in
        let member : is_member_at w group c.object.0 ≡ true = that_stands (is_member group) w.objects c.object.0 row.0 row.1 ∙ ap₂ (λ a b. a && b) row.2 its in
        absurd (false_true (sym (member_idle w group none c.object.0 member) ∙ any_found (is_operation_of c.object.0) n c w.callbacks found (ap₂ (λ a b. a && b) e (eq-eqb c.object.0 c.object.0 refl))))
      where
        none_at : c.object.0 ≡ 0 → is_standing w.objects c.object.0 ≡ true → ⊥
        none_at no_object stands = false_true (ap (is_standing w.objects) (sym no_object) ∙ stands)

-- after a close with cancel none of them may still be run
pub closed_cut : (next_number : ℕ) (w : World) (group : GroupId) (cancel : Bool) → first_operating w group.0 ≡ None → IsSound next_number w → cancel ≡ true → (n : ℕ) (c : CallbackRow) → find (has_number n) (cancel_where (is_cancelled_by (Group group) cancel) w.callbacks) ≡ Some c
    → is_of (Group group) c ≡ true → is_left c.status ≡ false
closed_cut next_number w group cancel none s cancels n c found of = of_row (find (has_number n) w.callbacks) refl (sym (find_cancelled test w.callbacks n) ∙ found)
  where
    test : CallbackRow → Bool
    test = is_cancelled_by (Group group) cancel

    left_not : (status : Status) → is_pending status ≡ false → is_operating status ≡ false → is_left status ≡ false
    left_not Pending p o = absurd (false_true (sym p))
    left_not Expected p o = absurd (false_true (sym o))
    left_not Issued p o = absurd (false_true (sym o))
    left_not (Running worker associated slots) p o = refl
    left_not Returned p o = refl
    left_not Cancelled p o = refl

    of_test : (d : CallbackRow) (b : Bool) → find (has_number n) w.callbacks ≡ Some d → test d ≡ b → cond b (cancelled d) d ≡ c → is_left c.status ≡ false
    of_test d true there passes is = ap (λ (x : CallbackRow). is_left x.status) (sym is)
    of_test d false there out is =
        let here : find (has_number n) w.callbacks ≡ Some c = there ∙ ap (λ x. Some x) is in
        left_not c.status (pending_not (is_pending c.status) refl) (group_idle next_number w group.0 none s n c here of)
      where
        pending_not : (b : Bool) → is_pending c.status ≡ b → is_pending c.status ≡ false
        pending_not false e = e
        pending_not true e = absurd (false_true (sym (ap test (sym is) ∙ out) ∙ ap₂ (λ x y. x && (y && is_of (Group group) c)) cancels e ∙ of))

    of_row : (o : Option CallbackRow) → find (has_number n) w.callbacks ≡ o → cancelled_found test o ≡ Some c → is_left c.status ≡ false
    of_row None there e = absurd cc
    of_row (Some d) there e = of_test d (test d) there refl cc

-- the objects that it gives a notice of are released, and have a cancel routine
notices_named : (w : World) (group : ℕ) (ns : List ℕ) → AreNamed (map (released_from group) w.objects) (map object_id (filter (is_object_that (gets_notice group) w.objects) ns))
notices_named w group [] = tt
notices_named w group (n ∷ ns) =
    elim (is_object_that (gets_notice group) w.objects n) as (λ b. is_object_that (gets_notice group) w.objects n ≡ b
    → AreNamed (map (released_from group) w.objects) (map object_id (cond b (n ∷ filter (is_object_that (gets_notice group) w.objects) ns) (filter (is_object_that (gets_notice group) w.objects) ns)))) [
      | true ↦ λ is.
          let row = that_row (gets_notice group) w.objects n is in
          let parts = both (is_member group row.0) (has_cancel row.0) row.2 in
          let member : is_member_at w group n ≡ true = that_stands (is_member group) w.objects n row.0 row.1 ∙ parts.0 in
          (ap (λ o. option_map_or is_told o false) (members_released w group n ∙ ap₂ (λ b o. option_map (released_if b) o) member row.1) ∙ parts.1, notices_named w group ns)
      | false ↦ λ _. notices_named w group ns
    ] refl

pub sound_begin_close : (next_number : ℕ) (w : World) (who : Who) (group : GroupId) (cancel : Bool) (context : ℕ) → is_in_wait w who ≡ false → first_operating w group.0 ≡ None → IsSound next_number w
    → IsSound next_number (begin_close w who group cancel context (notices_of w group.0 cancel) (cancel_where (is_cancelled_by (Group group) cancel) w.callbacks))
sound_begin_close next_number w who group cancel context none idle s =
    let test : CallbackRow → Bool = is_cancelled_by (Group group) cancel in
    let kept : List CallbackRow = cancel_where test w.callbacks in
    let rising : IsRising 1 next_number kept = rising_map (cancelled_if test) (cancelled_number test) 1 next_number w.callbacks s.numbers in
    sound_begun next_number (without_members w group.0) test (new_close who group cancel context (notices_of w group.0 cancel) kept) (cancelled_pending (Group group) cancel) none
    (new_close_sound next_number who group cancel context (notices_of w group.0 cancel) kept rising (λ is. ap (λ b. cond b (map object_id (objects_that (gets_notice group.0) w.objects)) []) is) (closed_cut next_number w group cancel idle s))
    (of_cancel cancel) (sound_members next_number w group.0 idle s)
  where
    of_cancel : (b : Bool) → AreNamed (map (released_from group.0) w.objects) (cond b (map object_id (objects_that (gets_notice group.0) w.objects)) [])
    of_cancel false = tt
    of_cancel true = notices_named w group.0 (numbers_in w.objects)

-- begun waits change, and stay of their actors
pub sound_waits : (next_number : ℕ) (w : World) (f : BegunWait → BegunWait) → ((b : BegunWait) → (f b).actor ≡ b.actor) → AllByRecursion (IsWaitSound next_number w.callbacks) (map f w.waits)
    → AllByRecursion (λ (b : BegunWait). AreNamed w.objects b.notices) (map f w.waits) → IsSound next_number w
    → IsSound next_number (record w { waits = map f w.waits })
sound_waits next_number w f same sound named s =
    record {
      numbers = s.numbers;
      workers = s.workers;
      object_pools = s.object_pools;
      apart = apart_still w.waits s.apart;
      timers = s.timers;
      armings = s.armings;
      timeouts = s.timeouts;
      clock = s.clock;
      waits = sound;
      callback_pools = s.callback_pools;
      callback_objects = s.callback_objects;
      operations = s.operations;
      notices = named;
    }
  where
    none_of : (actor : Who) (bs : List BegunWait) → list_any (λ (c : BegunWait). is_same_actor c.actor actor) (map f bs) ≡ list_any (λ (c : BegunWait). is_same_actor c.actor actor) bs
    none_of actor [] = refl
    none_of actor (b ∷ bs) = ap₂ (λ x y. is_same_actor x actor || y) (same b) (none_of actor bs)

    apart_still : (bs : List BegunWait) → AreApart bs → AreApart (map f bs)
    apart_still [] a = tt
    apart_still (b ∷ bs) a = (ap (λ x. list_any (λ (c : BegunWait). is_same_actor c.actor x) (map f bs)) (same b) ∙ none_of b.actor bs ∙ a.0, apart_still bs a.1)

-- a notice is given
pub sound_notified : (next_number : ℕ) (w : World) (who : Who) → IsSound next_number w → IsSound next_number (record w { waits = give_notice who w.waits })
sound_notified next_number w who s =
    sound_waits next_number w (noted who) same_actor
    (all_map (IsWaitSound next_number w.callbacks) (noted who) (λ b h. elim (is_same_actor b.actor who) as (λ t. IsWaitSound next_number w.callbacks (cond t (notified b) b)) [
      | true ↦ record { named = h.named; made = h.made; closed = h.closed; settled = λ n left covered. ap (drop 1) (h.settled n left covered); quiet = λ e. ap (drop 1) (h.quiet e) }
      | false ↦ h
    ]) w.waits s.waits)
    (all_map (λ (b : BegunWait). AreNamed w.objects b.notices) (noted who) (λ b h. elim (is_same_actor b.actor who) as (λ t. AreNamed w.objects (cond t (notified b) b).notices) [ true ↦ fewer b.notices h | false ↦ h ]) w.waits s.notices)
    s
  where
    noted : Who → BegunWait → BegunWait
    noted actor b = cond (is_same_actor b.actor actor) (notified b) b

    fewer : (os : List ObjectId) → AreNamed w.objects os → AreNamed w.objects (drop 1 os)
    fewer [] all = tt
    fewer (o ∷ os) all = all.1

    same_actor : (b : BegunWait) → (noted who b).actor ≡ b.actor
    same_actor b = elim (is_same_actor b.actor who) as (λ t. (cond t (notified b) b).actor ≡ b.actor) [ true ↦ refl | false ↦ refl ]

-- and ends
apart_filter : (p : BegunWait → Bool) (bs : List BegunWait) → AreApart bs → AreApart (filter p bs)
apart_filter p [] a = tt
apart_filter p (b ∷ bs) a =
    elim (p b) as (λ t. AreApart (cond t (b ∷ filter p bs) (filter p bs))) [
      | true ↦ (any_filter_none (λ (c : BegunWait). is_same_actor c.actor b.actor) p bs a.0, apart_filter p bs a.1)
      | false ↦ apart_filter p bs a.1
    ]

pub sound_end_wait : (next_number : ℕ) (w : World) (who : Who) → IsSound next_number w → IsSound next_number (without_wait w who)
sound_end_wait next_number w who s =
    let keeps : BegunWait → Bool = λ (b : BegunWait). not (is_same_actor b.actor who) in
    record {
      numbers = s.numbers;
      workers = s.workers;
      object_pools = s.object_pools;
      apart = apart_filter keeps w.waits s.apart;
      timers = s.timers;
      armings = s.armings;
      timeouts = s.timeouts;
      clock = s.clock;
      waits = all_filter (IsWaitSound next_number w.callbacks) keeps w.waits s.waits;
      callback_pools = s.callback_pools;
      callback_objects = s.callback_objects;
      operations = s.operations;
      notices = all_filter (λ (b : BegunWait). AreNamed w.objects b.notices) keeps w.waits s.notices;
    }
