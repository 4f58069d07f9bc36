-- What the parts show after a close of a group begins, and after it gets a notice to give and gives one.
use Rattle.std.proofs.Common.{◌≡◌, ℕ, ◌+◌, Bool, true, false, cond, ◌||◌, List, [], ◌∷◌, ◌++◌, map, Option, Some, None, refl, sym, ap, ◌∙◌, subst, arith, filter, find}
use Rattle.std.specs.List.{AllByRecursion, list_any}
use Rattle.std.specs.Option.{option_map_or}
use Rattle.tp_base.specs.declared.ids.Who.{Who}
use Rattle.tp_base.specs.declared.ids.GroupId.{GroupId}
use Rattle.tp_base.specs.declared.ids.ObjectId.{ObjectId}
use Rattle.tp_base.specs.declared.plans.Change.TheVariants as change
use Rattle.tp_base.specs.declared.rows.CallbackRow.{CallbackRow}
use Rattle.tp_base.specs.declared.rows.WaitTarget.TheVariants.{Group}
use Rattle.tp_base.specs.Actors.{is_same_actor}
use Rattle.begun_waits.specs.Begun.{Begun, place_of, with_notices}
use Rattle.tp_model.specs.World.{World, BegunWait}
use Rattle.tp_model.specs.Counts.{has_number}
use Rattle.tp_model.specs.Changes.{give_notice, new_close, notified}
use Rattle.tp_model.specs.Groups.{is_object_that}
use Rattle.tp_model.specs.Laws.Once.{is_left}
use Rattle.tp_model.specs.Waits.{is_cancelled_by, is_of}
use Rattle.tp_model.specs.Support.Allowed.{IsAllowed, MayClose}
use Rattle.tp_model.specs.Support.Sound.{IsSound, IsWaitSound, is_left_of, is_told}
use Rattle.tp_model.proofs.Cancelling.{cancelled_pending}
use Rattle.tp_model.proofs.Lists.{all_append}
use Rattle.tp_model.proofs.SoundWaits.{closed_cut, sound_begun, sound_waits}
use Rattle.tp_model.proofs.Refusals.{and_false, both, false_true, is_own_actor, neither}
use Rattle.tp_model.proofs.Waits.{new_close_sound}
use Rattle.live_world.specs.declared.LiveWorld.TheInside.{Inside}
use Rattle.live_world.specs.Closing.{MayHaveNotices, MayNote, begin_close_wait, noted}
use Rattle.live_world.specs.Live.{Live, with_world, moved}
use Rattle.begun_waits.specs.Covers.{Covering, listed_of, with_cover}
use Rattle.live_world.specs.View.{shown, IsLiveWorld}
use Rattle.live_world.proofs.Beginnings.{begins_with, covers_given}
use Rattle.live_world.proofs.Cancelled.{none_where}
use Rattle.live_world.proofs.Covered.{covered_noted}
use Rattle.live_world.proofs.Lists.{none_passes}
use Rattle.live_world.proofs.Moving.{After, Becomes, became_by, moved_by, waits_after}

-- ---- the wait begins

-- before the members are released
sound_begin_close_wait : (next_number : ℕ) (w : World) (who : Who) (group : GroupId) (cancel : Bool) (context : ℕ) (n : ℕ) → MayClose w who group cancel n
    → filter (is_cancelled_by (Group group) cancel) w.callbacks ≡ [] → IsSound next_number w → IsSound next_number (begin_close_wait w who group cancel context)
sound_begin_close_wait next_number w who group cancel context n may settled s =
    let test : CallbackRow → Bool = is_cancelled_by (Group group) cancel in
    let still = none_where w.callbacks test (none_passes test w.callbacks settled) in
    let cut = subst (λ ds. cancel ≡ true → (m : ℕ) (c : CallbackRow) → find (has_number m) ds ≡ Some c → is_of (Group group) c ≡ true → is_left c.status ≡ false) still (closed_cut next_number w group cancel may.idle s) in
    let sound : IsWaitSound next_number w.callbacks (new_close who group cancel context [] w.callbacks) = new_close_sound next_number who group cancel context [] w.callbacks s.numbers (λ _. refl) cut in
    subst (λ ds. IsSound next_number (record w { callbacks = ds; waits = w.waits ++ new_close who group cancel context [] w.callbacks ∷ [] })) still
    (sound_begun next_number w test (new_close who group cancel context [] w.callbacks) (cancelled_pending (Group group) cancel) may.none (subst (λ ds. IsWaitSound next_number ds (new_close who group cancel context [] w.callbacks)) (sym still) sound) tt s)

pub closes_by : (i : Inside) (l : Live) (who : Who) (group : GroupId) (cancel : Bool) (context n place : ℕ) (covers : Covering) (waits : Begun) → shown i ≡ l → IsLiveWorld i
    → MayClose l.world who group cancel n → filter (is_cancelled_by (Group group) cancel) l.world.callbacks ≡ [] → place_of i.waits.limits who ≡ Some place
    → covers ≡ with_cover i.covers place (Some i.made) (listed_of i.covers place)
    → waits ≡ record i.waits { waits = i.waits.waits ++ new_close who group cancel context [] i.callbacks.rows ∷ [] }
    → Becomes (record i { covers = covers; waits = waits }) (with_world l (begin_close_wait l.world who group cancel context))
closes_by i l who group cancel context n place covers waits is k may settled at covers_now waits_now =
    let cs : List CallbackRow = i.callbacks.rows in
    let w : World = (shown i).world in
    let b : BegunWait = new_close who group cancel context [] cs in
    let may_here : MayClose w who group cancel n = subst (λ (x : Live). MayClose x.world who group cancel n) (sym is) may in
    let settled_here = ap (λ (x : Live). filter (is_cancelled_by (Group group) cancel) x.world.callbacks) is ∙ settled in
    let r = became_by (record i { covers = covers; waits = waits }) (begin_close_wait w who group cancel context)
    (sound_begin_close_wait (i.made + 1) w who group cancel context n may_here settled_here k.sound)
    (begins_with i b place (Some i.made) (listed_of i.covers place) covers waits k at may_here.none (covers_given i.made cs k.sound.numbers b cancel refl (listed_of i.covers place) (and_false cancel)) covers_now waits_now) in
    record { keeps = r.keeps; becomes = r.becomes ∙ ap (λ (x : Live). with_world x (begin_close_wait x.world who group cancel context)) is }

-- with cancel, it may have notices
may_have : (next_number : ℕ) (w : World) (who : Who) (group : GroupId) (cancel : Bool) (context n : ℕ) → MayClose w who group cancel n → filter (is_cancelled_by (Group group) cancel) w.callbacks ≡ [] → IsSound next_number w → cancel ≡ true → MayNote (begin_close_wait w who group cancel context) who
may_have next_number w who group cancel context n may settled s cancels =
    record {
      begun = any_behind w.waits;
      may = all_append (λ (b : BegunWait). is_same_actor b.actor who ≡ true → MayHaveNotices w.callbacks b) w.waits (new_close who group cancel context [] w.callbacks) (none_of w.waits may.none)
          (λ _. record { closes = refl; settled = λ number left. absurd (none_left number (find (has_number number) w.callbacks) refl left) });
    }
  where
    test : CallbackRow → Bool
    test = is_cancelled_by (Group group) cancel

    any_behind : (bs : List BegunWait) → list_any (λ (b : BegunWait). is_same_actor b.actor who) (bs ++ new_close who group cancel context [] w.callbacks ∷ []) ≡ true
    any_behind [] = ap (λ b. b || false) (is_own_actor who)
    any_behind (b ∷ bs) = ap (λ t. is_same_actor b.actor who || t) (any_behind bs) ∙ or_true (is_same_actor b.actor who)
      where
        or_true : (b : Bool) → (b || true) ≡ true
        or_true true = refl
        or_true false = refl

    none_of : (bs : List BegunWait) → list_any (λ (b : BegunWait). is_same_actor b.actor who) bs ≡ false → AllByRecursion (λ (b : BegunWait). is_same_actor b.actor who ≡ true → MayHaveNotices w.callbacks b) bs
    none_of [] none = tt
    none_of (b ∷ bs) none = let parts = neither (is_same_actor b.actor who) (list_any (λ (c : BegunWait). is_same_actor c.actor who) bs) none in (λ own. absurd (false_true (sym parts.0 ∙ own)), none_of bs parts.1)

    none_left : (number : ℕ) (o : Option CallbackRow) → find (has_number number) w.callbacks ≡ o → option_map_or (is_left_of (Group group)) o false ≡ true → ⊥
    none_left number None found e = false_true e
    none_left number (Some c) found e =
        let still = none_where w.callbacks test (none_passes test w.callbacks settled) in
        let parts = both (is_of (Group group) c) (is_left c.status) e in
        false_true (sym (closed_cut next_number w group cancel may.idle s cancels number c (ap (find (has_number number)) still ∙ found) parts.0) ∙ parts.1)

pub closes_may : (i : Inside) (l : Live) (who : Who) (group : GroupId) (cancel : Bool) (context n : ℕ) → shown i ≡ l → IsLiveWorld i → MayClose l.world who group cancel n → filter (is_cancelled_by (Group group) cancel) l.world.callbacks ≡ [] → cancel ≡ true
    → MayNote (with_world l (begin_close_wait l.world who group cancel context)).world who
closes_may i l who group cancel context n is k may settled cancels =
    subst (λ (x : Live). MayClose x.world who group cancel n → filter (is_cancelled_by (Group group) cancel) x.world.callbacks ≡ [] → MayNote (with_world x (begin_close_wait x.world who group cancel context)).world who) is
    (λ may_here settled_here.
    let m = may_have (i.made + 1) (shown i).world who group cancel context n may_here settled_here k.sound cancels in
    record { begun = m.begun; may = subst (λ cs. AllByRecursion (λ (b : BegunWait). is_same_actor b.actor who ≡ true → MayHaveNotices cs b) (begin_close_wait (shown i).world who group cancel context).waits) (sym k.alive.live) m.may })
    may settled

-- ---- its notices

-- one more
noted_sound : (next_number : ℕ) (w : World) (who : Who) (object : ObjectId) → MayNote w who → is_object_that is_told w.objects object.0 ≡ true → IsSound next_number w → IsSound next_number (record w { waits = with_notices who (object ∷ []) w.waits })
noted_sound next_number w who object may told s = sound_waits next_number w f same_actor (each w.waits s.waits may.may) (named w.waits s.notices) s
  where
    f : BegunWait → BegunWait
    f b = cond (is_same_actor b.actor who) (record b { notices = b.notices ++ object ∷ [] }) b

    same_actor : (b : BegunWait) → (f b).actor ≡ b.actor
    same_actor b = elim (is_same_actor b.actor who) as (λ t. (cond t (record b { notices = b.notices ++ object ∷ [] }) b).actor ≡ b.actor) [ true ↦ refl | false ↦ refl ]

    each : (bs : List BegunWait) → AllByRecursion (IsWaitSound next_number w.callbacks) bs → AllByRecursion (λ (b : BegunWait). is_same_actor b.actor who ≡ true → MayHaveNotices w.callbacks b) bs → AllByRecursion (IsWaitSound next_number w.callbacks) (map f bs)
    each [] all may_have = tt
    each (b ∷ bs) all may_have = (
      elim (is_same_actor b.actor who) as (λ t. is_same_actor b.actor who ≡ t → IsWaitSound next_number w.callbacks (cond t (record b { notices = b.notices ++ object ∷ [] }) b)) [
        | true ↦ λ own.
            let here = may_have.0 own in
            record {
              named = all.0.named;
              made = all.0.made;
              closed = all.0.closed;
              settled = λ number left covered. absurd (false_true (sym (here.settled number left) ∙ covered));
              quiet = λ out. absurd (false_true (sym out ∙ here.closes));
            }
        | false ↦ λ _. all.0
      ] refl,
      each bs all.1 may_have.1,
    )

    named : (bs : List BegunWait) → AllByRecursion (λ (b : BegunWait). AllByRecursion (λ (o : ObjectId). is_object_that is_told w.objects o.0 ≡ true) b.notices) bs
        → AllByRecursion (λ (b : BegunWait). AllByRecursion (λ (o : ObjectId). is_object_that is_told w.objects o.0 ≡ true) b.notices) (map f bs)
    named [] all = tt
    named (b ∷ bs) all = (
      elim (is_same_actor b.actor who) as (λ t. AllByRecursion (λ (o : ObjectId). is_object_that is_told w.objects o.0 ≡ true) (cond t (record b { notices = b.notices ++ object ∷ [] }) b).notices) [
        | true ↦ all_append (λ (o : ObjectId). is_object_that is_told w.objects o.0 ≡ true) b.notices object all.0 told
        | false ↦ all.0
      ],
      named bs all.1,
    )

-- notices change, and what is covered does not
still_covered : (i : Inside) (who : Who) (f : BegunWait → BegunWait) (waits : Begun) → ((b : BegunWait) → (f b).actor ≡ b.actor) → ((b : BegunWait) → (f b).target ≡ b.target) → ((b : BegunWait) → (f b).covered ≡ b.covered) → IsLiveWorld i
    → waits ≡ record i.waits { waits = map (λ (b : BegunWait). cond (is_same_actor b.actor who) (f b) b) i.waits.waits } → After (record i { waits = waits }) (record (shown i).world { waits = map (λ (b : BegunWait). cond (is_same_actor b.actor who) (f b) b) i.waits.waits })
still_covered i who f waits stays target covered k waits_now =
    rw waits_now (waits_after i i.covers (record i.waits { waits = map (λ (b : BegunWait). cond (is_same_actor b.actor who) (f b) b) i.waits.waits }) i.sources.sources.kernels k (covered_noted who f stays target covered k.covered))

pub noted_by : (i : Inside) (l : Live) (who : Who) (object : ObjectId) (waits : Begun) → shown i ≡ l → IsLiveWorld i → MayNote l.world who → is_object_that is_told l.world.objects object.0 ≡ true
    → waits ≡ record i.waits { waits = with_notices who (object ∷ []) i.waits.waits } → Becomes (record i { waits = waits }) (noted l who (object ∷ []))
noted_by i l who object waits is k may told waits_now =
    let w : World = (shown i).world in
    let may_here : MayNote w who = subst (λ (x : Live). MayNote x.world who) (sym is) may in
    let told_here : is_object_that is_told w.objects object.0 ≡ true = ap (λ (x : Live). is_object_that is_told x.world.objects object.0) is ∙ told in
    let r = became_by (record i { waits = waits }) (record w { waits = with_notices who (object ∷ []) w.waits })
    (noted_sound (i.made + 1) w who object may_here told_here k.sound) (still_covered i who (λ b. record b { notices = b.notices ++ object ∷ [] }) waits (λ _. refl) (λ _. refl) (λ _. refl) k waits_now) in
    record { keeps = r.keeps; becomes = r.becomes ∙ ap (λ (x : Live). noted x who (object ∷ [])) is }

-- the first is given
pub given_by : (i : Inside) (l : Live) (who : Who) (waits : Begun) → shown i ≡ l → IsLiveWorld i → IsAllowed (l.made + 1) l.world (change.GiveNotice who) → waits ≡ record i.waits { waits = give_notice who i.waits.waits }
    → Becomes (record i { waits = waits }) (moved l (change.GiveNotice who))
given_by i l who waits is k allowed waits_now =
    moved_by i (record i { waits = waits }) l (change.GiveNotice who) is k allowed (omega arith) (λ _. still_covered i who notified waits (λ _. refl) (λ _. refl) (λ _. refl) k waits_now)
