-- To cancel, to begin the wait and then to release the members is the whole of a close.
use Rattle.std.proofs.Common.{◌≡◌, ℕ, Bool, true, false, cond, ◌&&◌, ◌||◌, ◌==◌, List, [], ◌∷◌, ◌++◌, length, map, None, refl, sym, ap, ap₂, ◌∙◌, subst, arith, filter}
use Rattle.std.specs.List.{list_any}
use Rattle.tp_base.specs.declared.ids.Who.{Who}
use Rattle.tp_base.specs.declared.ids.GroupId.{GroupId}
use Rattle.tp_base.specs.declared.plans.Change.TheVariants as change
use Rattle.tp_base.specs.declared.rows.Status.{Status}
use Rattle.tp_base.specs.declared.rows.Status.TheVariants.{Expected, Issued, Pending, Running, Returned, Cancelled}
use Rattle.tp_base.specs.declared.rows.CallbackRow.{CallbackRow}
use Rattle.tp_base.specs.declared.rows.WaitTarget.TheVariants.{Group}
use Rattle.tp_model.specs.Counts.{is_operating, is_pending}
use Rattle.tp_model.specs.Conditions.{is_in_wait, is_operation_of}
use Rattle.tp_model.specs.World.{BegunWait}
use Rattle.tp_base.specs.declared.ids.ObjectId.{ObjectId}
use Rattle.tp_base.specs.Actors.{is_same_actor}
use Rattle.begun_waits.specs.Begun.{with_notices}
use Rattle.tp_model.specs.Changes.{begin_close, new_close}
use Rattle.tp_model.specs.Groups.{first_operating, is_operating_member, is_member_at, notices_of, numbers_in, without_members}
use Rattle.tp_model.specs.Support.Allowed.{MayClose}
use Rattle.tp_model.specs.Support.Remembered.{lives, forget}
use Rattle.tp_model.specs.Waits.{is_cancelled_by, is_covered_by, cancelled, cancel_where}
use Rattle.tp_model.proofs.Forgetting.{over_not_cancelled, over_not_covered}
use Rattle.tp_model.proofs.Lists.{any_filter, filter_filter, find_agree}
use Rattle.tp_model.proofs.Refusals.{and_false, is_own_actor, neither}
use Rattle.tp_model.proofs.Calls.Objects.{over_not_operation}
use Rattle.live_world.specs.Closing.{begin_close_wait, closed_members, settled_group}
use Rattle.live_world.specs.Live.{Live, with_world, moved}
use Rattle.live_world.proofs.Along.{number_of}
use Rattle.live_world.proofs.Cancelled.{none_where}
use Rattle.live_world.proofs.GroupWalks.{cancels_none_of}
use Rattle.live_world.proofs.Lists.{none_passes}

-- ---- after the cancellation

nothing_left : (group : GroupId) (cancel : Bool) (cs : List CallbackRow) → filter (is_cancelled_by (Group group) cancel) (cancel_where (is_cancelled_by (Group group) cancel) cs) ≡ []
nothing_left group cancel [] = refl
nothing_left group cancel (d ∷ ds) =
    ap (λ b. cond b (cond (t d) (cancelled d) d ∷ filter t (cancel_where t ds)) (filter t (cancel_where t ds)))
    (elim (t d) as (λ b. t d ≡ b → t (cond b (cancelled d) d) ≡ false) [ true ↦ λ _. and_false cancel | false ↦ λ e. e ] refl)
    ∙ nothing_left group cancel ds
  where
    t : CallbackRow → Bool
    t = is_cancelled_by (Group group) cancel

pub group_settled : (l m : Live) (group : GroupId) (cancel : Bool) → m ≡ settled_group l group cancel → filter (is_cancelled_by (Group group) cancel) m.world.callbacks ≡ []
group_settled l m group cancel is =
    let kept : List CallbackRow = cancel_where (is_cancelled_by (Group group) cancel) l.world.callbacks in
    ap (λ (x : Live). filter (is_cancelled_by (Group group) cancel) x.world.callbacks) is
    ∙ filter_filter (is_cancelled_by (Group group) cancel) lives (over_not_cancelled (Group group) cancel) kept
    ∙ nothing_left group cancel l.world.callbacks

pub not_settled_group : (l : Live) (group : GroupId) → forget l.world ≡ l.world → l ≡ settled_group l group false
not_settled_group l group living =
    ap (λ w. record { world = w; made = l.made }) (sym living)
    ∙ ap (λ cs. with_world l (record l.world { callbacks = cs })) (sym (none_where l.world.callbacks (is_cancelled_by (Group group) false) (none_passes (is_cancelled_by (Group group) false) l.world.callbacks (cancels_none_of group l.world.callbacks))))

-- ---- no operation is under way

-- what is cancelled has none
same_operations : (group : GroupId) (cancel : Bool) (k : ℕ) (cs : List CallbackRow) → list_any (is_operation_of k) (cancel_where (is_cancelled_by (Group group) cancel) cs) ≡ list_any (is_operation_of k) cs
same_operations group cancel k [] = refl
same_operations group cancel k (d ∷ ds) =
    ap₂ (λ a b. a || b)
    (elim (is_cancelled_by (Group group) cancel d) as (λ b. is_cancelled_by (Group group) cancel d ≡ b → is_operation_of k (cond b (cancelled d) d) ≡ is_operation_of k d) [
      | true ↦ λ e. sym (ap (λ b. b && (d.object.0 == k)) (pending_idle d.status cancel (d.group.0 == group.0) e))
      | false ↦ λ _. refl
    ] refl)
    (same_operations group cancel k ds)
  where
    pending_idle : (s : Status) (a b : Bool) → (a && (is_pending s && b)) ≡ true → is_operating s ≡ false
    pending_idle Expected a b e = let none : false ≡ true = sym (and_false a) ∙ e in absurd cc
    pending_idle Issued a b e = let none : false ≡ true = sym (and_false a) ∙ e in absurd cc
    pending_idle Pending a b e = refl
    pending_idle (Running worker associated slots) a b e = refl
    pending_idle Returned a b e = refl
    pending_idle Cancelled a b e = refl

pub settled_idle : (l m : Live) (group : GroupId) (cancel : Bool) → m ≡ settled_group l group cancel → first_operating l.world group.0 ≡ None → first_operating m.world group.0 ≡ None
settled_idle l m group cancel is idle =
    ap (λ (x : Live). first_operating x.world group.0) is
    ∙ find_agree (is_operating_member (settled_group l group cancel).world group.0) (is_operating_member l.world group.0)
    (λ k. ap (λ b. is_member_at l.world group.0 k && b) (any_filter (is_operation_of k) lives (over_not_operation k) (cancel_where (is_cancelled_by (Group group) cancel) l.world.callbacks) ∙ same_operations group cancel k l.world.callbacks))
    (numbers_in l.world.objects)
    ∙ idle

pub begun_idle : (l m : Live) (who : Who) (group : GroupId) (cancel : Bool) (context : ℕ) → m ≡ with_world l (begin_close_wait l.world who group cancel context) → first_operating l.world group.0 ≡ None → first_operating m.world group.0 ≡ None
begun_idle l m who group cancel context is idle =
    ap (λ (x : Live). first_operating x.world group.0) is
    ∙ find_agree (is_operating_member (with_world l (begin_close_wait l.world who group cancel context)).world group.0) (is_operating_member l.world group.0)
    (λ k. ap (λ b. is_member_at l.world group.0 k && b) (any_filter (is_operation_of k) lives (over_not_operation k) l.world.callbacks))
    (numbers_in l.world.objects)
    ∙ idle

pub may_close_settled : (l m : Live) (who : Who) (group : GroupId) (cancel : Bool) (n : ℕ) → m ≡ settled_group l group cancel → MayClose l.world who group cancel n → MayClose m.world who group cancel (length (notices_of m.world group.0 cancel))
may_close_settled l m who group cancel n is a =
    let idle : first_operating (settled_group l group cancel).world group.0 ≡ None = settled_idle l (settled_group l group cancel) group cancel refl a.idle in
    subst (λ (x : Live). MayClose x.world who group cancel (length (notices_of x.world group.0 cancel))) (sym is) (record { actor = a.actor; none = a.none; made = a.made; idle = idle; counted = refl })

-- ---- the whole

-- the notices of a wait that has begun last
noticed_last : (who : Who) (os : List ObjectId) (b : BegunWait) → b.actor ≡ who → (bs : List BegunWait) → list_any (λ (x : BegunWait). is_same_actor x.actor who) bs ≡ false → with_notices who os (bs ++ b ∷ []) ≡ bs ++ record b { notices = b.notices ++ os } ∷ []
noticed_last who os b own [] none = ap (λ t. cond t (record b { notices = b.notices ++ os }) b ∷ []) (ap (λ a. is_same_actor a who) own ∙ is_own_actor who)
noticed_last who os b own (x ∷ bs) none =
    let parts = neither (is_same_actor x.actor who) (list_any (λ (y : BegunWait). is_same_actor y.actor who) bs) none in
    ap₂ (λ t ys. cond t (record x { notices = x.notices ++ os }) x ∷ ys) parts.0 (noticed_last who os b own bs parts.1)

pub closes_whole : (l s m : Live) (who : Who) (group : GroupId) (cancel : Bool) (context notices : ℕ) → is_in_wait l.world who ≡ false → s ≡ settled_group l group cancel → m ≡ with_world s (begin_close_wait s.world who group cancel context)
    → closed_members m who group cancel ≡ moved l (change.BeginClose who group cancel context notices)
closes_whole l s m who group cancel context notices none settled begun =
    let kept : List CallbackRow = cancel_where (is_cancelled_by (Group group) cancel) l.world.callbacks in
    let twice : filter lives (filter lives kept) ≡ filter lives kept = filter_filter lives lives (λ _ e. e) kept in
    let last = noticed_last who (notices_of l.world group.0 cancel) (new_close who group cancel context [] (filter lives kept)) refl l.world.waits none in
    ap (λ (x : Live). closed_members x who group cancel) begun
    ∙ ap (λ (x : Live). closed_members (with_world x (begin_close_wait x.world who group cancel context)) who group cancel) settled
    ∙ ap₂ (λ cs ws. record { world = record (without_members l.world group.0) { callbacks = cs; waits = ws }; made = l.made }) (ap (filter lives) twice ∙ twice) last
    ∙ ap (λ (ns : List ℕ). record { world = record (without_members l.world group.0) { callbacks = filter lives kept; waits = l.world.waits ++ (record { actor = who; target = Group group; covered = ns; notices = notices_of l.world group.0 cancel; cleanup = context }) ∷ [] }; made = l.made })
    (ap (map number_of) (filter_filter (is_covered_by (Group group) cancel) lives (over_not_covered (Group group) cancel) kept))
    ∙ ap (λ n. record { world = forget (begin_close l.world who group cancel context (notices_of l.world group.0 cancel) kept); made = n }) (omega arith)
