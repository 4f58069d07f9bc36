-- What a wait promises from where it begins: of the callbacks that it speaks of, which may still be run.
use Rattle.std.proofs.Common.{◌≡◌, ℕ, ◌+◌, ◌≤◌, Bool, true, false, cond, not, ◌&&◌, ◌||◌, ◌==◌, List, [], ◌∷◌, ◌++◌, length, drop, is_some, Option, Some, None, option_map, refl, sym, ap, ap₂, ◌∙◌, subst, find, filter, ◌⊎◌, inl, inr, arith, eqb-true, eq-eqb}
use Rattle.std.specs.Option.{option_map_or}
use Rattle.std.specs.List.{list_any}
use Rattle.tp_base.specs.declared.ids.Who.{Who}
use Rattle.tp_base.specs.declared.ids.ObjectId.{ObjectId}
use Rattle.tp_base.specs.declared.ids.GroupId.{GroupId}
use Rattle.tp_base.specs.declared.answers.Answer.TheVariants.{Ended}
use Rattle.tp_base.specs.declared.answers.Entry.{Entry}
use Rattle.tp_base.specs.declared.rows.Status.{Status}
use Rattle.tp_base.specs.declared.rows.Status.TheVariants.{Expected, Issued, Pending, Running, Returned, Cancelled}
use Rattle.tp_base.specs.declared.rows.ObjectRow.{ObjectRow}
use Rattle.tp_base.specs.declared.rows.CallbackRow.{CallbackRow}
use Rattle.tp_base.specs.declared.rows.WaitTarget.{WaitTarget}
use Rattle.tp_base.specs.declared.rows.WaitTarget.TheVariants.{Object, Group, Kernel}
use Rattle.tp_base.specs.Actors.{is_same_actor}
use Rattle.tp_model.specs.World.{World, BegunWait}
use Rattle.tp_model.specs.Counts.{numbered, has_number, is_operating, is_pending, is_running}
use Rattle.tp_model.specs.Changes.{give_notice, notified}
use Rattle.tp_model.specs.Waits.{is_of, is_held_for, is_object_target, is_outstanding_for, is_covered_by, is_held, held, wait_of, is_group_target}
use Rattle.tp_model.specs.Laws.Once.{is_left}
use Rattle.tp_model.specs.Laws.Entries.{Run, Begins, begins_by, is_among, is_ending, is_end_call, is_last_answer, is_ended_answer, notice_by, born, ready, objects_of, simples_of}
use Rattle.tp_model.specs.Laws.Covered.{ends, end_in, is_spoken_for, is_spoken_of}
use Rattle.tp_model.specs.Laws.Notices.{given_by}
use Rattle.tp_model.specs.Support.Sound.{IsRising, IsCallbackSound, HasObject, is_standing}
use Rattle.tp_model.specs.Support.Told.{notice_at}
use Rattle.tp_model.specs.Support.Moves.{Leads, WaitsMove, Keep, Begin, Notify, End, BeginsWait}
use Rattle.tp_model.proofs.Lists.{find_all, find_more, find_passes}
use Rattle.tp_model.proofs.Fates.{WasRow, row_was}
use Rattle.tp_model.proofs.Places.{LastPlace, Here, Earlier, last_place, FoundLast, Before, Now, found_last, none_last}
use Rattle.tp_model.proofs.Once.{AgreesAfter}
use Rattle.tp_model.proofs.Ready.{AreReady, numbers_ready, ready_among, born_among, made_past, not_true, past_row, longer}
use Rattle.tp_model.proofs.Tied.{IsTied, IsInGroup, simples_ready, tied_still}
use Rattle.tp_model.proofs.Refusals.{both, or_true, false_true, same_actor_is, is_own_actor, neither, same_actor_sym}

-- ---- what is told of waits

-- the run of the row of a number
abbrev pub run_at : ℕ → CallbackRow → Run
run_at n c = record { number = n; object = c.object }

-- none of those is held by a wait for the target
abbrev pub NoneHeld : (Run → Bool) → WaitTarget → World → Type 0
NoneHeld those target w = (n : ℕ) (c : CallbackRow) → find (has_number n) w.callbacks ≡ Some c → those (run_at n c) ≡ true → is_held_for target c.status ≡ false

-- none of those is left to be run
abbrev pub NoneLeft : (Run → Bool) → World → Type 0
NoneLeft those w = (n : ℕ) (c : CallbackRow) → find (has_number n) w.callbacks ≡ Some c → those (run_at n c) ≡ true → is_left c.status ≡ false

-- the object is released
pub record IsReleased (w : World) (object : ℕ) : Type 0 where
  pub row : ObjectRow
  pub stands : numbered w.objects object ≡ Some row
  pub released : row.released ≡ true

-- the callback was made, or no further one of its object is
abbrev pub IsPast : World → Run → Type 0
IsPast w run = (run.number ≤ length w.callbacks) ⊎ IsReleased w run.object.0

-- the actor's wait goes on, and covers those that are held
pub record GoesOn (those : Run → Bool) (target : WaitTarget) (who : Who) (w : World) : Type 0 where
  pub wait : BegunWait
  pub found : wait_of w who ≡ Some wait
  pub target_is : wait.target ≡ target
  pub covers : (n : ℕ) (c : CallbackRow) → find (has_number n) w.callbacks ≡ Some c → those (run_at n c) ≡ true → is_held_for target c.status ≡ true → (is_among n wait.covered ≡ true) × (is_of target c ≡ true)

pub record Promised (b : Begins) (before between : List Entry) (who : Who) (w : World) : Type 0 where
  pub past : (run : Run) → is_spoken_of b before run ≡ true → IsPast w run
  pub going : end_in who between ≡ None → GoesOn (is_spoken_of b before) b.target who w
  pub done : (end : Entry) → end_in who between ≡ Some end → end.answer ≡ Ended → NoneHeld (is_spoken_of b before) b.target w
  pub cut : b.cancel ≡ true → NoneLeft (is_spoken_of b before) w

abbrev pub Promises : List Entry → World → Type 0
Promises history w = (before between : List Entry) (begin : Entry) (b : Begins) → before ++ begin ∷ between ≡ history → begins_by begin ≡ Some b → Promised b before between begin.who w

-- ---- waits that go on

-- what an entry gives of the notices that a wait has left
pub data NoticesAfter (w : World) (x : Entry) (who : Who) (wait new : BegunWait) : Type 0 where
  AsBefore : given_by who x ≡ None → new.notices ≡ wait.notices → NoticesAfter w x who wait new
  OneGiven : (object : ObjectId) (rest : List ObjectId) → wait.notices ≡ object ∷ rest → given_by who x ≡ Some (notice_at w.objects wait.cleanup object) → new.notices ≡ rest → NoticesAfter w x who wait new

pub record WaitAfter (w : World) (x : Entry) (after : World) (who : Who) (wait : BegunWait) : Type 0 where
  pub new : BegunWait
  pub found : wait_of after who ≡ Some new
  pub target : new.target ≡ wait.target
  pub covered : new.covered ≡ wait.covered
  pub cleanup : new.cleanup ≡ wait.cleanup
  pub notices : NoticesAfter w x who wait new

abbrev own : Who → BegunWait → Bool
own who b = is_same_actor b.actor who

abbrev noted : Who → BegunWait → BegunWait
noted who b = cond (own who b) (notified b) b

-- a wait stays its actor's where a notice is given
pub find_given : (actor who : Who) (bs : List BegunWait) → find (own who) (give_notice actor bs) ≡ option_map (noted actor) (find (own who) bs)
find_given actor who [] = refl
find_given actor who (b ∷ bs) =
    ap (λ a. cond (is_same_actor a who) (Some (noted actor b)) (find (own who) (give_notice actor bs))) same
    ∙ elim (own who b) as (λ t. cond t (Some (noted actor b)) (find (own who) (give_notice actor bs)) ≡ option_map (noted actor) (cond t (Some b) (find (own who) bs))) [ true ↦ refl | false ↦ find_given actor who bs ]
  where
    same : (noted actor b).actor ≡ b.actor
    same = elim (own actor b) as (λ t. (cond t (notified b) b).actor ≡ b.actor) [ true ↦ refl | false ↦ refl ]

-- and where another actor's wait ends
pub find_others : (ended who : Who) (bs : List BegunWait) → is_same_actor ended who ≡ false → find (own who) (filter (λ (b : BegunWait). not (is_same_actor b.actor ended)) bs) ≡ find (own who) bs
find_others ended who [] apart = refl
find_others ended who (d ∷ bs) apart =
    elim (is_same_actor d.actor ended) as (λ t. is_same_actor d.actor ended ≡ t → find (own who) (cond (not t) (d ∷ filter (λ (b : BegunWait). not (is_same_actor b.actor ended)) bs) (filter (λ (b : BegunWait). not (is_same_actor b.actor ended)) bs)) ≡ find (own who) (d ∷ bs)) [
      | true ↦ λ is.
          let other : own who d ≡ false = ap (λ a. is_same_actor a who) (same_actor_is d.actor ended is) ∙ apart in
          find_others ended who bs apart ∙ sym (ap (λ b. cond b (Some d) (find (own who) bs)) other)
      | false ↦ λ _. ap (λ t. cond (own who d) (Some d) t) (find_others ended who bs apart)
    ] refl

none_cond : {X : Type 0} (b : Bool) → ◌≡◌ {A = Option X} (cond b None None) None
none_cond true = refl
none_cond false = refl

module _ (before : List Entry) (w : World) (x : Entry) (after : World) (leads : Leads (length w.callbacks + 1) w x after) where
  -- an entry that gives no notice
  unnoticed : (who : Who) → notice_by x.answer ≡ None → given_by who x ≡ None
  unnoticed who none = ap (λ n. cond (is_same_actor x.who who) n None) none ∙ none_cond (is_same_actor x.who who)

  -- a wait that the entry doesn't end goes on
  pub wait_goes_on : (who : Who) (wait : BegunWait) → ends who x ≡ false → wait_of w who ≡ Some wait → WaitAfter w x after who wait
  wait_goes_on who wait quiet found = of_move leads.waits
    where
      same : wait_of after who ≡ Some wait → notice_by x.answer ≡ None → WaitAfter w x after who wait
      same there none = record { new = wait; found = there; target = refl; covered = refl; cleanup = refl; notices = AsBefore (unnoticed who none) refl }

      of_move : WaitsMove w x after → WaitAfter w x after who wait
      of_move (Keep m) = same (m.stay who wait found) m.quiet
      of_move (Begin m) = same (ap (find (own who)) m.waits ∙ find_more (own who) wait w.waits (m.wait ∷ []) found) m.quiet
      of_move (End m) = same (ap (find (own who)) m.waits ∙ find_others x.who who w.waits (other (is_same_actor x.who who) refl) ∙ found) m.quiet
        where
          other : (b : Bool) → is_same_actor x.who who ≡ b → is_same_actor x.who who ≡ false
          other false is = is
          other true is = absurd (false_true (sym quiet ∙ ap₂ (λ p q. p && q) is m.ends))
      of_move (Notify m) = of_actor (is_same_actor x.who who) refl
        where
          there : wait_of after who ≡ Some (noted x.who wait)
          there = ap (find (own who)) m.waits ∙ find_given x.who who w.waits ∙ ap (option_map (noted x.who)) found

          its_actor : wait.actor ≡ who
          its_actor = same_actor_is wait.actor who (find_passes (own who) wait w.waits found)

          of_actor : (b : Bool) → is_same_actor x.who who ≡ b → WaitAfter w x after who wait
          of_actor false apart =
              let stays : own x.who wait ≡ false = ap (λ a. is_same_actor a x.who) its_actor ∙ same_sym who x.who ∙ apart in
              record {
                new = wait;
                found = there ∙ ap (λ b. Some (cond b (notified wait) wait)) stays;
                target = refl;
                covered = refl;
                cleanup = refl;
                notices = AsBefore (ap (λ b. cond b (notice_by x.answer) None) apart) refl;
              }
            where
              same_sym : (a b : Who) → is_same_actor a b ≡ is_same_actor b a
              same_sym a b = same_actor_sym a b
          of_actor true is =
              let by : x.who ≡ who = same_actor_is x.who who is in
              let both_found : Some m.wait ≡ Some wait = sym m.found ∙ ap (wait_of w) by ∙ found in
              let its : m.wait ≡ wait = cc in
              let notes : own x.who wait ≡ true = ap₂ is_same_actor its_actor by ∙ is_own_actor who in
              let left : wait.notices ≡ m.object ∷ m.rest = ap (λ (b : BegunWait). b.notices) (sym its) ∙ m.left in
              record {
                new = notified wait;
                found = there ∙ ap (λ b. Some (cond b (notified wait) wait)) notes;
                target = refl;
                covered = refl;
                cleanup = refl;
                notices = OneGiven m.object m.rest left
                    (ap (λ b. cond b (notice_by x.answer) None) is ∙ m.tells ∙ ap (λ (b : BegunWait). Some (notice_at w.objects b.cleanup m.object)) its) (ap (drop 1) left);
              }

  -- where nothing that the wait covers is held, none of those is
  pub unheld : (those : Run → Bool) (target : WaitTarget) (who : Who) → (going : GoesOn those target who w) → held w going.wait ≡ [] → NoneHeld those target w
  unheld those target who going nothing_held n c found spoken = known (is_held_for target c.status) refl
    where
      in_filter : (p : ℕ → Bool) (xs : List ℕ) → filter p xs ≡ [] → is_among n xs ≡ true → p n ≡ false
      in_filter p [] e h = absurd (false_true h)
      in_filter p (m ∷ xs) e h =
          elim (p m) as (λ t. p m ≡ t → cond t (m ∷ filter p xs) (filter p xs) ≡ [] → p n ≡ false) [
            | true ↦ λ _ q. absurd cc
            | false ↦ λ out q. elim (m == n) as (λ b. (m == n) ≡ b → (b || is_among n xs) ≡ true → p n ≡ false) [
              | true ↦ λ is _. ap p (sym (eqb-true m n is)) ∙ out
              | false ↦ λ _ r. in_filter p xs q r
            ] refl h
          ] refl e

      known : (b : Bool) → is_held_for target c.status ≡ b → is_held_for target c.status ≡ false
      known false is = is
      known true is =
          let covered = going.covers n c found spoken is in
          let out : is_held w going.wait.target n ≡ false = in_filter (is_held w going.wait.target) going.wait.covered nothing_held covered.0 in
          let in_it : is_held w going.wait.target n ≡ true =
          ap (λ t. is_held w t n) going.target_is ∙ ap (λ o. option_map_or (is_outstanding_for target) o false) found ∙ ap₂ (λ p q. p && q) covered.1 is in
          absurd (false_true (sym out ∙ in_it))

  -- a wait that ends freely holds none of those that it speaks of
  pub freed : (those : Run → Bool) (target : WaitTarget) (who : Who) → GoesOn those target who w → ends who x ≡ true → x.answer ≡ Ended → NoneHeld those target w
  freed those target who going is_end answer = unheld those target who going (of_move leads.waits)
    where
      ending : (is_same_actor x.who who ≡ true) × (is_ending x ≡ true)
      ending = both (is_same_actor x.who who) (is_ending x) is_end

      of_move : WaitsMove w x after → held w going.wait ≡ []
      of_move (Keep m) = absurd (false_true (sym m.ends ∙ ending.1))
      of_move (Begin m) = absurd (false_true (sym m.ends ∙ ending.1))
      of_move (Notify m) = absurd (false_true (sym m.ends ∙ ending.1))
      of_move (End m) =
          let both_found : Some m.wait ≡ Some going.wait = sym m.found ∙ ap (wait_of w) (same_actor_is x.who who ending.0) ∙ going.found in
          let same : m.wait ≡ going.wait = cc in
          subst (λ (b : BegunWait). held w b ≡ []) same (m.free (ap₂ (λ p q. p && q) (both (is_end_call x.call) (is_last_answer x.answer) ending.1).0 (ap is_ended_answer answer)))

  -- ---- callbacks that are spoken of

  -- the row of one that is past was there before
  spoken_row : (n : ℕ) (c : CallbackRow) → IsPast w (run_at n c) → find (has_number n) after.callbacks ≡ Some c → WasRow w n c
  spoken_row n c (inl past) found = past_row w x after leads n c past found
  spoken_row n c (inr gone) found = of_either (row_was (length w.callbacks + 1) w x after n c leads.moves found)
    where
      named : c.object.0 ≡ 0 → ⊥
      named zero_one = none (ap (numbered w.objects) (sym zero_one) ∙ gone.stands)
        where
          none : None ≡ Some gone.row → ⊥
          none e = cc

      of_either : WasRow w n c ⊎ (find (has_number n) leads.moves.new ≡ Some c) → WasRow w n c
      of_either (inl was) = was
      of_either (inr new) =
          let stands : is_standing w.objects c.object.0 ≡ true = find_all (λ (r : CallbackRow). (r.object.0 ≡ 0 → ⊥) → is_standing w.objects r.object.0 ≡ true) (has_number n) c leads.moves.new leads.moves.homes new named in
          absurd (false_true (ap not (sym gone.released) ∙ sym (ap (λ (o : Option ObjectRow). option_map_or (λ (r : ObjectRow). not r.released) o false) gone.stands) ∙ stands))

  past_more : (run : Run) → IsPast w run → IsPast after run
  past_more run (inl past) = inl (omega (arith, past, longer w x after leads))
  past_more run (inr gone) = let o = leads.groups.keeps run.object.0 gone.row gone.stands in inr (record { row = o.new; stands = o.stands; released = o.released gone.released })

  none_held_more : (those : Run → Bool) (target : WaitTarget) → ((run : Run) → those run ≡ true → IsPast w run) → NoneHeld those target w → NoneHeld those target after
  none_held_more those target past none n c found spoken =
      let was : WasRow w n c = spoken_row n c (past (run_at n c) spoken) found in
      not_true (is_held_for target c.status) (is_held_for target was.old.status) (was.follows.held target) (none n was.old was.found (ap (λ o. those (record { number = n; object = o })) (sym was.object) ∙ spoken))

  none_left_more : (those : Run → Bool) → ((run : Run) → those run ≡ true → IsPast w run) → NoneLeft those w → NoneLeft those after
  none_left_more those past none n c found spoken =
      let was : WasRow w n c = spoken_row n c (past (run_at n c) spoken) found in
      not_true (is_left c.status) (is_left was.old.status) was.follows.left (none n was.old was.found (ap (λ o. those (record { number = n; object = o })) (sym was.object) ∙ spoken))

  same_target : (n : ℕ) (c : CallbackRow) (was : WasRow w n c) (target : WaitTarget) → is_of target c ≡ is_of target was.old
  same_target n c was (Object object) = ap (λ (o : ObjectId). o.0 == object.0) was.object
  same_target n c was (Group group) = ap (λ (g : GroupId). g.0 == group.0) was.group
  same_target n c was (Kernel kernel) = refl

  going_more : (those : Run → Bool) (target : WaitTarget) (who : Who) → ((run : Run) → those run ≡ true → IsPast w run) → ends who x ≡ false → GoesOn those target who w → GoesOn those target who after
  going_more those target who past apart on =
      let wait : WaitAfter w x after who on.wait = wait_goes_on who on.wait apart on.found in
      record {
        wait = wait.new;
        found = wait.found;
        target_is = wait.target ∙ on.target_is;
        covers = λ n c found spoken held.
            let was : WasRow w n c = spoken_row n c (past (run_at n c) spoken) found in
            let covered = on.covers n was.old was.found (ap (λ o. those (record { number = n; object = o })) (sym was.object) ∙ spoken) (was.follows.held target held) in
            (ap (is_among n) wait.covered ∙ covered.0, same_target n c was target ∙ covered.1);
      }

-- a run that the wait speaks of, by what it is
pub data IsSpoken (target : WaitTarget) (cancel : Bool) (before : List Entry) (run : Run) : Type 0 where
  OfObject : (object : ObjectId) → target ≡ Object object → (run.object.0 == object.0) ≡ true → is_some (cond cancel (ready before run.number) (born before run.number)) ≡ true → IsSpoken target cancel before run
  OfMember : (group : GroupId) → target ≡ Group group → is_among run.object.0 (objects_of group.0 before) ≡ true → IsSpoken target cancel before run
  OfSimple : (group : GroupId) → target ≡ Group group → (run.object.0 == 0) ≡ true → is_among run.number (simples_of group.0 before) ≡ true → IsSpoken target cancel before run

pub spoken_is : (target : WaitTarget) (cancel : Bool) (before : List Entry) (run : Run) → is_spoken_for target cancel before run ≡ true → IsSpoken target cancel before run
spoken_is (Object object) cancel before run e =
    let parts = both (run.object.0 == object.0) (is_some (cond cancel (ready before run.number) (born before run.number))) e in OfObject object refl parts.0 parts.1
spoken_is (Kernel kernel) cancel before run e = absurd (false_true e)
spoken_is (Group group) cancel before run e = of_member (is_among run.object.0 (objects_of group.0 before)) refl e
  where
    of_member : (b : Bool) → is_among run.object.0 (objects_of group.0 before) ≡ b → (b || ((run.object.0 == 0) && is_among run.number (simples_of group.0 before))) ≡ true → IsSpoken (Group group) cancel before run
    of_member true is h = OfMember group refl is
    of_member false is h = let parts = both (run.object.0 == 0) (is_among run.number (simples_of group.0 before)) h in OfSimple group refl parts.0 parts.1

-- each callback of an object is of the object's group
abbrev pub AllSound : World → Type 0
AllSound w = (n : ℕ) (c : CallbackRow) → find (has_number n) w.callbacks ≡ Some c → IsCallbackSound w.objects c

-- a callback that is spoken of is of what the wait is for
spoken_of : (target : WaitTarget) (cancel : Bool) (before : List Entry) (w : World) (n : ℕ) (c : CallbackRow) → IsTied before w → AllSound w → find (has_number n) w.callbacks ≡ Some c → IsSpoken target cancel before (run_at n c) → is_of target c ≡ true
spoken_of target cancel before w n c tied sound found (OfObject object is same among) = ap (λ t. is_of t c) is ∙ same
spoken_of target cancel before w n c tied sound found (OfSimple group is none among) =
    ap (λ t. is_of t c) is ∙ eq-eqb c.group.0 group.0 (tied.simples group.0 n c among found).1
spoken_of target cancel before w n c tied sound found (OfMember group is among) =
    let of : IsInGroup w.objects group.0 c.object.0 = tied.objects group.0 c.object.0 among in
    let home : HasObject w.objects c = sound n c found (λ no_object. none (ap (numbered w.objects) (sym no_object) ∙ of.stands)) in
    let both_rows : Some home.row ≡ Some of.row = sym home.stands ∙ of.stands in
    let same : home.row ≡ of.row = cc in
    ap (λ t. is_of t c) is ∙ eq-eqb c.group.0 group.0 (ap (λ g. g.0) home.group ∙ ap (λ (r : ObjectRow). r.env.group.0) same ∙ of.group_is)
  where
    none : {row : ObjectRow} → None ≡ Some row → ⊥
    none e = cc

-- ---- one entry more

module _ (before : List Entry) (w : World) (x : Entry) (after : World) (rising : IsRising 1 (length w.callbacks + 1) w.callbacks) (agrees : AgreesAfter before w) (may_take : AreReady before w) (tied : IsTied before w) (leads : Leads (length w.callbacks + 1) w x after) (sound : AllSound after) where
  -- what a wait that begins speaks of is past
  past_here : (b : Begins) → begins_by x ≡ Some b → (run : Run) → IsSpoken b.target b.cancel before run → IsPast after run
  past_here b begins run (OfObject object is same among) = inl (omega (arith, of_cancel b.cancel among, longer w x after leads))
    where
      of_cancel : (cancel : Bool) → is_some (cond cancel (ready before run.number) (born before run.number)) ≡ true → run.number ≤ length w.callbacks
      of_cancel true h = may_take.past run.number (ready_among run.number before h)
      of_cancel false h = made_past before w run.number agrees (born_among run.number before h)
  past_here b begins run (OfSimple group is none among) = inl (omega (arith, may_take.past run.number (simples_ready group.0 run.number before among), longer w x after leads))
  past_here b begins run (OfMember group is among) =
      let of : IsInGroup w.objects group.0 run.object.0 = tied.objects group.0 run.object.0 among in
      let o = leads.groups.keeps run.object.0 of.row of.stands in
      inr (record { row = o.new; stands = o.stands; released = leads.groups.clears b group begins is run.object.0 o.new o.stands (ap (λ e. e.group.0) o.env ∙ of.group_is) })

  -- a wait that begins
  begins_here : (b : Begins) → begins_by x ≡ Some b → Promised b before [] x.who after
  begins_here b begins = of_move leads.waits
    where
      spoken : (n : ℕ) (c : CallbackRow) → is_spoken_of b before (run_at n c) ≡ true → IsSpoken b.target b.cancel before (run_at n c)
      spoken n c e = spoken_is b.target b.cancel before (run_at n c) e

      its : (n : ℕ) (c : CallbackRow) → find (has_number n) after.callbacks ≡ Some c → is_spoken_of b before (run_at n c) ≡ true → is_of b.target c ≡ true
      its n c found e = spoken_of b.target b.cancel before after n c (tied_still before w x after rising may_take leads tied) sound found (spoken n c e)

      left_not : (s : Status) → is_pending s ≡ false → is_operating s ≡ false → is_left s ≡ false
      left_not Pending p o = absurd (false_true (sym p))
      left_not Expected p o = absurd (false_true (sym o))
      left_not Issued p o = absurd (false_true (sym o))
      left_not (Running worker associated slots) p o = refl
      left_not Returned p o = refl
      left_not Cancelled p o = refl

      held_runs : (t : WaitTarget) (s : Status) → is_held_for t s ≡ true → is_left s ≡ false → is_running s ≡ true
      held_runs t (Running worker associated slots) h l = refl
      held_runs t Pending h l = absurd (false_true (sym l))
      held_runs t Expected h l = absurd (false_true (sym l))
      held_runs t Issued h l = absurd (false_true (sym l))
      held_runs t Returned h l = absurd (false_true h)
      held_runs t Cancelled h l = absurd (false_true h)

      of_wait : (m : BeginsWait w x after) → m.begun ≡ b → Promised b before [] x.who after
      of_wait m same =
          record {
            past = λ run e. past_here b begins run (spoken_is b.target b.cancel before run e);
            going = λ _. record {
              wait = m.wait;
              found = ap (find (own x.who)) m.waits ∙ behind w.waits m.none;
              target_is = m.target ∙ ap (λ (d : Begins). d.target) same;
              covers = λ n c found e h. (
                m.covers n c found (subst (λ (d : Begins). is_covered_by d.target d.cancel c ≡ true) (sym same) (covered n c found e h)),
                its n c found e,
              );
            };
            done = λ end e. absurd cc;
            cut = cut_here;
          }
        where
          cut_here : b.cancel ≡ true → NoneLeft (is_spoken_of b before) after
          cut_here cancels n c found e =
              left_not c.status (subst (λ (d : Begins). d.cancel ≡ true → is_of d.target c ≡ true → is_pending c.status ≡ false) same (λ on of. m.cuts on n c found of) cancels (its n c found e))
              (idle (spoken n c e))
            where
              of_group : (group : GroupId) → b.target ≡ Group group → is_operating c.status ≡ false
              of_group group is = m.idle (ap (λ (d : Begins). is_group_target d.target) same ∙ ap is_group_target is) n c found (ap (λ (d : Begins). is_of d.target c) same ∙ its n c found e)

              idle : IsSpoken b.target b.cancel before (run_at n c) → is_operating c.status ≡ false
              idle (OfObject object is its_own among) =
                  let is_ready : is_among n (numbers_ready before) ≡ true = ready_among n before (ap (λ t. is_some (cond t (ready before n) (born before n))) (sym cancels) ∙ among) in
                  let was : WasRow w n c = past_row w x after leads n c (may_take.past n is_ready) found in
                  not_true (is_operating c.status) (is_operating was.old.status) was.follows.operating (may_take.ready n was.old is_ready was.found)
              idle (OfMember group is among) = of_group group is
              idle (OfSimple group is none among) = of_group group is

          covered : (n : ℕ) (c : CallbackRow) → find (has_number n) after.callbacks ≡ Some c → is_spoken_of b before (run_at n c) ≡ true → is_held_for b.target c.status ≡ true → is_covered_by b.target b.cancel c ≡ true
          covered n c found e h = of_cancel b.cancel refl
            where
              outstanding : is_outstanding_for b.target c ≡ true
              outstanding = ap₂ (λ p q. p && q) (its n c found e) h

              of_cancel : (t : Bool) → b.cancel ≡ t → is_covered_by b.target b.cancel c ≡ true
              of_cancel false off = ap₂ (λ p q. p && (is_running c.status || not (q && is_object_target b.target))) outstanding off ∙ or_true (is_running c.status)
              of_cancel true on = ap₂ (λ p q. p && (q || not (b.cancel && is_object_target b.target))) outstanding (held_runs b.target c.status h (cut_here on n c found e))

          behind : (bs : List BegunWait) → list_any (own x.who) bs ≡ false → find (own x.who) (bs ++ m.wait ∷ []) ≡ Some m.wait
          behind [] e = ap (λ a. cond (is_same_actor a x.who) (Some m.wait) None) m.actor ∙ ap (λ t. cond t (Some m.wait) None) (is_own_actor x.who)
          behind (d ∷ bs) e =
              let none = neither (own x.who d) (list_any (own x.who) bs) e in
              ap (λ t. cond t (Some d) (find (own x.who) (bs ++ m.wait ∷ []))) none.0 ∙ behind bs none.1

      of_move : WaitsMove w x after → Promised b before [] x.who after
      of_move (Keep m) = absurd (let none : None ≡ Some b = sym m.begins ∙ begins in cc)
      of_move (Notify m) = absurd (let none : None ≡ Some b = sym m.begins ∙ begins in cc)
      of_move (End m) = absurd (let none : None ≡ Some b = sym m.begins ∙ begins in cc)
      of_move (Begin m) = of_wait m (let both_told : Some m.begun ≡ Some b = sym m.begins ∙ begins in cc)

  pub promises_more : Promises before w → Promises (before ++ x ∷ []) after
  promises_more promises front between begin b split begins = of_place (last_place before x front begin between split)
    where
      of_place : LastPlace before x front begin between → Promised b front between begin.who after
      of_place (Here same_front same none) =
          subst (λ l. Promised b front l begin.who after) (sym none)
          (subst (λ (e : Entry). Promised b front [] e.who after) (sym same)
          (subst (λ l. Promised b l [] x.who after) (sym same_front) (begins_here b (ap begins_by (sym same) ∙ begins))))
      of_place (Earlier rest back same_front) =
          let old : Promised b front rest begin.who w = promises front rest begin b same_front begins in
          subst (λ l. Promised b front l begin.who after) (sym back)
          (record {
            past = λ run e. past_more before w x after leads run (old.past run e);
            going = λ none. let apart = none_last (ends begin.who) rest x none in going_more before w x after leads (is_spoken_of b front) b.target begin.who old.past apart.1 (old.going apart.0);
            done = λ end found answer. of_found end answer old (found_last (ends begin.who) rest x end found);
            cut = λ cancels. none_left_more before w x after leads (is_spoken_of b front) old.past (old.cut cancels);
          })
        where
          of_found : (end : Entry) → end.answer ≡ Ended → Promised b front rest begin.who w → FoundLast (ends begin.who) rest x end → NoneHeld (is_spoken_of b front) b.target after
          of_found end answer old (Before found) = none_held_more before w x after leads (is_spoken_of b front) b.target old.past (old.done end found answer)
          of_found end answer old (Now none is_end same) =
              none_held_more before w x after leads (is_spoken_of b front) b.target old.past
              (freed before w x after leads (is_spoken_of b front) b.target begin.who (old.going none) is_end (ap (λ (e : Entry). e.answer) same ∙ answer))
