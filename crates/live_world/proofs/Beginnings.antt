-- What a wait that begins covers, what it cancels, and what the parts show then.
use Rattle.std.proofs.Common.{◌≡◌, ℕ, suc, ◌+◌, ◌≤◌, Bool, true, false, cond, not, ◌&&◌, ◌||◌, ◌==◌, List, [], ◌∷◌, ◌++◌, length, map, nat_le, Option, None, Some, refl, sym, ap, ap₂, ◌∙◌, subst, arith, filter, find, eqb-true}
use Rattle.std.specs.List.{AllByRecursion}
use Rattle.std.specs.Option.{option_map_or}
use Rattle.std.proofs.lemmas.Bool.{le-leb}
use Rattle.std.proofs.lemmas.List.{length-map}
use Rattle.tp_base.specs.declared.ids.Who.{Who}
use Rattle.tp_base.specs.declared.ids.ObjectId.{ObjectId}
use Rattle.tp_base.specs.declared.ids.KernelId.{KernelId}
use Rattle.tp_base.specs.declared.rows.Status.{Status}
use Rattle.tp_base.specs.declared.rows.Status.TheVariants.{Expected, Issued, Pending, Running, Returned, Cancelled}
use Rattle.tp_base.specs.declared.rows.CallbackRow.{CallbackRow}
use Rattle.tp_base.specs.declared.rows.WaitTarget.TheVariants.{Object, Kernel}
use Rattle.tp_base.specs.declared.plans.Awaited.TheVariants as awaited
use Rattle.tp_model.specs.World.{World, BegunWait}
use Rattle.tp_model.specs.Counts.{has_number, is_pending, is_running}
use Rattle.tp_model.specs.Changes.{new_wait, begin_wait}
use Rattle.tp_model.specs.Support.Sound.{IsSound, IsRising}
use Rattle.tp_model.specs.Support.Allowed.{IsAllowed, MayBegin}
use Rattle.tp_base.specs.declared.plans.Change.TheVariants as change
use Rattle.tp_model.specs.Support.Remembered.{lives, forget}
use Rattle.tp_model.proofs.Forgetting.{over_not_covered, over_not_cancelled}
use Rattle.tp_model.specs.Waits.{is_held_for, is_outstanding_for, is_cancelled_by, is_covered_by, is_object_target, cancelled, cancel_where, covered_of}
use Rattle.tp_model.proofs.Lists.{filter_agree, filter_filter}
use Rattle.tp_model.proofs.Callbacks.{found_bounds}
use Rattle.tp_model.proofs.Sound.{sound_begin_wait}
use Rattle.tp_model.proofs.Refusals.{and_false, false_true}
use Rattle.live_world.specs.declared.LiveWorld.TheInside.{Inside}
use Rattle.live_world.specs.Live.{Live, moved, with_world, settled}
use Rattle.begun_waits.specs.Covers.{Covering, listed_of, with_cover}
use Rattle.live_world.specs.Covers.{Ascend, IsCover}
use Rattle.begun_waits.specs.Begun.{Begun, is_waiting, place_of}
use Rattle.live_world.specs.View.{shown, IsLiveWorld}
use Rattle.live_world.specs.Invariant.{is_pending_callback, is_running_callback}
use Rattle.live_callbacks.specs.Callbacks.{outstanding_among}
use Rattle.tp_model.specs.Laws.Entries.{is_among}
use Rattle.live_world.proofs.Lists.{filter_both, none_passes}
use Rattle.live_world.proofs.Along.{number_of, pending_among}
use Rattle.live_world.proofs.Cancelled.{none_where}
use Rattle.live_world.proofs.Covered.{covered_begun, placed}
use Rattle.live_world.proofs.Moving.{After, Becomes, became_by, moved_by, waits_after}

-- ---- what a wait covers

-- a number is among those of the rows that pass where its own row passes
pub among_numbers : (p : CallbackRow → Bool) (n low next_number : ℕ) (cs : List CallbackRow) → IsRising low next_number cs → is_among n (map number_of (filter p cs)) ≡ option_map_or p (find (has_number n) cs) false
among_numbers p n low next_number [] r = refl
among_numbers p n low next_number (c ∷ cs) r =
    let rest = among_numbers p n (c.number + 1) next_number cs r.1 in
    elim (has_number n c) as (λ b. has_number n c ≡ b → is_among n (map number_of (cond (p c) (c ∷ filter p cs) (filter p cs))) ≡ option_map_or p (cond b (Some c) (find (has_number n) cs)) false) [
      | true ↦ λ e. elim (p c) as (λ t. is_among n (map number_of (cond t (c ∷ filter p cs) (filter p cs))) ≡ t) [
        | true ↦ ap (λ b. b || is_among n (map number_of (filter p cs))) e
        | false ↦ rest ∙ absent (find (has_number n) cs) refl (eqb-true c.number n e)
      ]
      | false ↦ λ e. elim (p c) as (λ t. is_among n (map number_of (cond t (c ∷ filter p cs) (filter p cs))) ≡ option_map_or p (find (has_number n) cs) false) [
        | true ↦ ap (λ b. b || is_among n (map number_of (filter p cs))) e ∙ rest
        | false ↦ rest
      ]
    ] refl
  where
    absent : (o : Option CallbackRow) → find (has_number n) cs ≡ o → c.number ≡ n → option_map_or p o false ≡ false
    absent None found same = refl
    absent (Some d) found same = absurd (omega (arith, same, (found_bounds n (c.number + 1) next_number d cs r.1 found).0))

ascend_lower : (low from : ℕ) (ns : List ℕ) → low ≤ from → Ascend from ns → Ascend low ns
ascend_lower low from [] le r = tt
ascend_lower low from (n ∷ ns) le r = (omega (arith, le, r.0), r.1)

-- and they rise
ascends : (p : CallbackRow → Bool) (low next_number : ℕ) (cs : List CallbackRow) → IsRising low next_number cs → Ascend low (map number_of (filter p cs))
ascends p low next_number [] r = tt
ascends p low next_number (c ∷ cs) r =
    let rest = ascends p (c.number + 1) next_number cs r.1 in
    elim (p c) as (λ b. Ascend low (map number_of (cond b (c ∷ filter p cs) (filter p cs)))) [ true ↦ (r.0, rest) | false ↦ ascend_lower low (c.number + 1) (map number_of (filter p cs)) (omega (arith, r.0)) rest ]

module _ (made : ℕ) (cs : List CallbackRow) (rising : IsRising 1 (made + 1) cs) (b : BegunWait) (cancel : Bool) (is : b.covered ≡ covered_of b.target cancel cs) where
  -- the numbers that it covers stand in a list
  pub covers_listed : IsCover made cs None b.covered b
  covers_listed = record { given = tt; tells = λ n held. refl; lists = λ _. refl; rises = rw is (ascend_lower 0 1 (covered_of b.target cancel cs) (omega arith) (ascends (is_covered_by b.target cancel) 1 (made + 1) cs rising)) }

  -- or it covers all that is outstanding
  pub covers_given : (listed : List ℕ) → (cancel && is_object_target b.target) ≡ false → IsCover made cs (Some made) listed b
  covers_given listed all =
      record {
        given = omega arith;
        tells = λ n held. of_row n (find (has_number n) cs) refl held ∙ sym (ap (is_among n) is ∙ among_numbers (is_covered_by b.target cancel) n 1 (made + 1) cs rising);
        lists = λ none. absurd cc;
        rises = covers_listed.rises;
      }
    where
      or_true : (a : Bool) → (a || true) ≡ true
      or_true true = refl
      or_true false = refl

      of_row : (n : ℕ) (o : Option CallbackRow) → find (has_number n) cs ≡ o → option_map_or (is_outstanding_for b.target) o false ≡ true → nat_le n made ≡ option_map_or (is_covered_by b.target cancel) o false
      of_row n None found held = absurd (false_true held)
      of_row n (Some c) found held =
          le-leb n made (omega (arith, (found_bounds n 1 (made + 1) c cs rising found).1))
          ∙ sym (ap₂ (λ p q. p && (is_running c.status || not q)) held all ∙ or_true (is_running c.status))

-- of what is outstanding a wait with cancel covers what runs
pub covers_outstanding : (object : ObjectId) (cs : List CallbackRow) → map number_of (filter is_running_callback (outstanding_among cs object)) ≡ covered_of (Object object) true cs
covers_outstanding object cs =
    ap (map number_of) (filter_both is_running_callback (is_outstanding_for (Object object)) cs
    ∙ filter_agree (λ c. is_outstanding_for (Object object) c && is_running_callback c) (is_covered_by (Object object) true) (λ c. ap (λ b. is_outstanding_for (Object object) c && b) (alike (is_running_callback c))) cs)
  where
    alike : (a : Bool) → a ≡ (a || false)
    alike true = refl
    alike false = refl

-- ---- how many it covers, and how many it cancels

-- a wait with cancel covers what runs
pub covers_running : (object : ObjectId) (cs : List CallbackRow) → length (covered_of (Object object) true (cancel_where (is_cancelled_by (Object object) true) cs)) ≡ length (filter is_running_callback (filter (is_outstanding_for (Object object)) cs))
covers_running object cs = length-map (filter covers (cancel_where test cs)) number_of ∙ each cs ∙ ap length (sym (filter_both is_running_callback p cs))
  where
    covers : CallbackRow → Bool
    covers = is_covered_by (Object object) true

    p : CallbackRow → Bool
    p = is_outstanding_for (Object object)

    test : CallbackRow → Bool
    test = is_cancelled_by (Object object) true

    one : (b t : Bool) (s : Status) → (is_pending s && b) ≡ t → cond t ((b && false) && (false || false)) ((b && is_held_for (Object object) s) && (is_running s || false)) ≡ ((b && is_held_for (Object object) s) && is_running s)
    one b true Expected is = absurd cc
    one b false Expected is = refl
    one b true Issued is = absurd cc
    one b false Issued is = refl
    one true true Pending is = refl
    one true false Pending is = absurd cc
    one false true Pending is = absurd cc
    one false false Pending is = refl
    one b true (Running worker associated slots) is = absurd cc
    one b false (Running worker associated slots) is = refl
    one b true Returned is = absurd cc
    one b false Returned is = refl
    one b true Cancelled is = absurd cc
    one b false Cancelled is = refl

    each : (ds : List CallbackRow) → length (filter covers (cancel_where test ds)) ≡ length (filter (λ c. p c && is_running_callback c) ds)
    each [] = refl
    each (d ∷ ds) =
        ap (λ b. length (cond b (cond (test d) (cancelled d) d ∷ filter covers (cancel_where test ds)) (filter covers (cancel_where test ds))))
        (elim (test d) as (λ t. covers (cond t (cancelled d) d) ≡ cond t (((d.object.0 == object.0) && false) && (false || false)) (((d.object.0 == object.0) && is_held_for (Object object) d.status) && (is_running d.status || false))) [ true ↦ refl | false ↦ refl ]
        ∙ one (d.object.0 == object.0) (test d) d.status refl)
        ∙ elim (p d && is_running_callback d) as (λ b. length
        (cond b (cond (test d) (cancelled d) d ∷ filter covers (cancel_where test ds)) (filter covers (cancel_where test ds))) ≡ length
        (cond b (d ∷ filter (λ c. p c && is_running_callback c) ds) (filter (λ c. p c && is_running_callback c) ds))) [
          | true ↦ ap suc (each ds)
          | false ↦ each ds
        ]

-- and cancels what is pending
pub cancels_pending : (object : ObjectId) (cs : List CallbackRow) → length (filter (is_cancelled_by (Object object) true) cs) ≡ length (filter is_pending_callback (filter (is_outstanding_for (Object object)) cs))
cancels_pending object cs = ap length (sym (pending_among object cs))

-- without cancel nothing is cancelled, and all is covered
pub covers_all : (object : ObjectId) (cs : List CallbackRow) → length (covered_of (Object object) false (cancel_where (is_cancelled_by (Object object) false) cs)) ≡ length (filter (is_outstanding_for (Object object)) cs)
covers_all object cs =
    ap (λ ds. length (covered_of (Object object) false ds)) (none_where cs (is_cancelled_by (Object object) false) (none cs))
    ∙ length-map (filter (is_covered_by (Object object) false) cs) number_of
    ∙ ap length (filter_agree (is_covered_by (Object object) false) (is_outstanding_for (Object object)) (λ c. all (is_outstanding_for (Object object) c) (is_running c.status)) cs)
  where
    none : (ds : List CallbackRow) → AllByRecursion (λ c. is_cancelled_by (Object object) false c ≡ false) ds
    none [] = tt
    none (d ∷ ds) = (refl, none ds)

    all : (a b : Bool) → (a && (b || true)) ≡ a
    all true true = refl
    all true false = refl
    all false b = refl

pub cancels_none : (object : ObjectId) (cs : List CallbackRow) → filter (is_cancelled_by (Object object) false) cs ≡ []
cancels_none object [] = refl
cancels_none object (c ∷ cs) = cancels_none object cs

-- ---- the parts

-- a wait begins, and what it covers is told
pub begins_with : (i : Inside) (b : BegunWait) (place : ℕ) (bound : Option ℕ) (listed : List ℕ) (covers : Covering) (waits : Begun) → IsLiveWorld i → place_of i.waits.limits b.actor ≡ Some place → is_waiting i.waits.waits b.actor ≡ false → IsCover i.made i.callbacks.rows bound listed b
    → covers ≡ with_cover i.covers place bound listed → waits ≡ record i.waits { waits = i.waits.waits ++ b ∷ [] } → After (record i { covers = covers; waits = waits }) (record (shown i).world { waits = i.waits.waits ++ b ∷ [] })
begins_with i b place bound listed covers waits k at none new covers_now waits_now =
    rw (covers_now, waits_now) (waits_after i (with_cover i.covers place bound listed) (record i.waits { waits = i.waits.waits ++ b ∷ [] }) i.sources.sources.kernels k (covered_begun place b bound listed (placed b.actor (Some place) at k.covered) none new k.covered))

pub begun_by : (i : Inside) (l : Live) (who : Who) (object : ObjectId) (cancel : Bool) (place : ℕ) (bound : Option ℕ) (listed : List ℕ) (covers : Covering) (waits : Begun) → shown i ≡ l → IsLiveWorld i
    → MayBegin l.world who (awaited.Object object) → filter (is_cancelled_by (Object object) cancel) l.world.callbacks ≡ [] → place_of i.waits.limits who ≡ Some place → IsCover i.made i.callbacks.rows bound listed (new_wait who (Object object) cancel i.callbacks.rows)
    → covers ≡ with_cover i.covers place bound listed → waits ≡ record i.waits { waits = i.waits.waits ++ new_wait who (Object object) cancel i.callbacks.rows ∷ [] }
    → Becomes (record i { covers = covers; waits = waits }) (with_world l (begin_wait l.world who (Object object) cancel l.world.callbacks))
begun_by i l who object cancel place bound listed covers waits is k may settled at new covers_now waits_now =
    let cs : List CallbackRow = i.callbacks.rows in
    let w : World = (shown i).world in
    let v : World = begin_wait w who (Object object) cancel cs in
    let b : BegunWait = new_wait who (Object object) cancel cs in
    let may_here : MayBegin w who (awaited.Object object) = subst (λ (x : Live). MayBegin x.world who (awaited.Object object)) (sym is) may in
    let left : AllByRecursion (λ c. is_cancelled_by (Object object) cancel c ≡ false) cs = none_passes (is_cancelled_by (Object object) cancel) cs (ap (λ (x : Live). filter (is_cancelled_by (Object object) cancel) x.world.callbacks) is ∙ settled) in
    let sound : IsSound (i.made + 1) v = subst (λ ds. IsSound (i.made + 1) (begin_wait w who (Object object) cancel ds)) (none_where cs (is_cancelled_by (Object object) cancel) left) (sound_begin_wait (i.made + 1) w who (awaited.Object object) cancel may_here.none may_here.made k.sound) in
    let r = became_by (record i { covers = covers; waits = waits }) v sound (begins_with i b place bound listed covers waits k at may_here.none new covers_now waits_now) in
    record { keeps = r.keeps; becomes = r.becomes ∙ ap (λ (x : Live). with_world x (begin_wait x.world who (Object object) cancel x.world.callbacks)) is }

-- ---- what a begun wait comes to

nothing_left : (object : ObjectId) (cancel : Bool) (cs : List CallbackRow) → filter (is_cancelled_by (Object object) cancel) (cancel_where (is_cancelled_by (Object object) cancel) cs) ≡ []
nothing_left object cancel [] = refl
nothing_left object cancel (c ∷ cs) =
    let test : CallbackRow → Bool = is_cancelled_by (Object object) cancel in
    ap (λ b. cond b (cond (test c) (cancelled c) c ∷ filter test (cancel_where test cs)) (filter test (cancel_where test cs)))
    (elim (test c) as (λ b. test c ≡ b → test (cond b (cancelled c) c) ≡ false) [ true ↦ λ _. and_false cancel | false ↦ λ e. e ] refl)
    ∙ nothing_left object cancel cs

pub all_settled : (l m : Live) (object : ObjectId) (cancel : Bool) → m ≡ settled l object cancel → filter (is_cancelled_by (Object object) cancel) m.world.callbacks ≡ []
all_settled l m object cancel is =
    let kept : List CallbackRow = cancel_where (is_cancelled_by (Object object) cancel) l.world.callbacks in
    ap (λ (x : Live). filter (is_cancelled_by (Object object) cancel) x.world.callbacks) is
    ∙ filter_filter (is_cancelled_by (Object object) cancel) lives (over_not_cancelled (Object object) cancel) kept
    ∙ nothing_left object cancel l.world.callbacks

pub may_settled : (l m : Live) (who : Who) (object : ObjectId) (cancel : Bool) → m ≡ settled l object cancel → MayBegin l.world who (awaited.Object object) → MayBegin m.world who (awaited.Object object)
may_settled l m who object cancel is a =
    subst (λ (x : Live). MayBegin x.world who (awaited.Object object)) (sym is) (record { actor = a.actor; none = a.none; made = a.made })

-- to cancel and then to begin is the whole change
pub begins : (l m : Live) (who : Who) (object : ObjectId) (cancel : Bool) → m ≡ settled l object cancel → with_world m (begin_wait m.world who (Object object) cancel m.world.callbacks) ≡ moved l (change.BeginWait who (awaited.Object object) cancel)
begins l m who object cancel is =
    let kept : List CallbackRow = cancel_where (is_cancelled_by (Object object) cancel) l.world.callbacks in
    ap (λ (x : Live). with_world x (begin_wait x.world who (Object object) cancel x.world.callbacks)) is
    ∙ ap₂ (λ cs (ns : List ℕ). record { world = record l.world { callbacks = cs; waits = l.world.waits ++ (record { actor = who; target = Object object; covered = ns; notices = []; cleanup = 0 }) ∷ [] }; made = l.made })
    (filter_filter lives lives (λ _ e. e) kept)
    (ap (map number_of) (filter_filter (is_covered_by (Object object) cancel) lives (over_not_covered (Object object) cancel) kept))
    ∙ ap (λ n. record { world = forget (begin_wait l.world who (Object object) cancel kept); made = n }) (omega arith)

pub not_settled : (l : Live) (object : ObjectId) → forget l.world ≡ l.world → l ≡ settled l object false
not_settled l object living =
    ap (λ w. record { world = w; made = l.made }) (sym living)
    ∙ ap (λ cs. with_world l (record l.world { callbacks = cs })) (sym (none_where l.world.callbacks (is_cancelled_by (Object object) false) (none_passes (is_cancelled_by (Object object) false) l.world.callbacks (cancels_none object l.world.callbacks))))

-- ---- a wait for a kernel object

none_cancelled : (kernel : KernelId) (cancel : Bool) (cs : List CallbackRow) → AllByRecursion (λ c. is_cancelled_by (Kernel kernel) cancel c ≡ false) cs
none_cancelled kernel cancel [] = tt
none_cancelled kernel cancel (c ∷ cs) = (ap (λ b. cancel && b) (and_false (is_pending c.status)) ∙ and_false cancel, none_cancelled kernel cancel cs)

pub acquires : (i : Inside) (l : Live) (who : Who) (kernel : KernelId) (cancel : Bool) (place : ℕ) (covers : Covering) (waits : Begun) → shown i ≡ l → IsLiveWorld i
    → IsAllowed (l.made + 1) l.world (change.BeginWait who (awaited.Kernel kernel) cancel) → place_of i.waits.limits who ≡ Some place
    → covers ≡ with_cover i.covers place (Some i.made) (listed_of i.covers place) → waits ≡ record i.waits { waits = i.waits.waits ++ new_wait who (Kernel kernel) cancel i.callbacks.rows ∷ [] }
    → Becomes (record i { covers = covers; waits = waits }) (moved l (change.BeginWait who (awaited.Kernel kernel) cancel))
acquires i l who kernel cancel place covers waits is k allowed at covers_now waits_now =
    moved_by i (record i { covers = covers; waits = waits }) l (change.BeginWait who (awaited.Kernel kernel) cancel) is k allowed (omega arith) (λ a.
    let cs : List CallbackRow = i.callbacks.rows in
    let b : BegunWait = new_wait who (Kernel kernel) cancel cs in
    let kept : cancel_where (is_cancelled_by (Kernel kernel) cancel) cs ≡ cs = none_where cs (is_cancelled_by (Kernel kernel) cancel) (none_cancelled kernel cancel cs) in
    subst (λ ds. After (record i { covers = covers; waits = waits }) (begin_wait (shown i).world who (Kernel kernel) cancel ds)) (sym kept)
    (begins_with i b place (Some i.made) (listed_of i.covers place) covers waits k at a.none (covers_given i.made cs k.sound.numbers b cancel refl (listed_of i.covers place) (and_false cancel)) covers_now waits_now))
