-- The notices that a close of a group gives and has left are those of the objects that are due one.
use Rattle.std.proofs.Common.{◌≡◌, ℕ, ◌+◌, Bool, true, false, cond, not, ◌&&◌, ◌||◌, List, [], ◌∷◌, ◌++◌, length, map, Option, Some, None, option_map, refl, sym, ap, ap₂, ◌∙◌, subst, find, filter, ◌⊎◌, inl, inr, arith, append_assoc, append-nil, zero, suc, drop, eqb-true, ◌≤◌, ◌==◌}
use Rattle.std.specs.List.{AllByRecursion, list_any, filter_map, range_with_len, cons_option}
use Rattle.std.specs.Option.{option_or, unwrap_or, option_map_or}
use Rattle.std.proofs.lemmas.List.Folds.{find-append, list_any-append}
use Rattle.std.proofs.lemmas.List.Elements.{filter_map-append}
use Rattle.tp_base.specs.declared.ids.Who.{Who}
use Rattle.tp_base.specs.declared.ids.ObjectId.{ObjectId}
use Rattle.tp_base.specs.declared.calls.Environ.{Environ}
use Rattle.tp_base.specs.declared.answers.Entry.{Entry}
use Rattle.tp_base.specs.declared.rows.ObjectRow.{ObjectRow}
use Rattle.tp_base.specs.declared.rows.WaitTarget.{WaitTarget}
use Rattle.tp_base.specs.declared.rows.WaitTarget.TheVariants.{Object, Group, Kernel}
use Rattle.tp_base.specs.Actors.{is_same_actor}
use Rattle.tp_model.specs.World.{World, BegunWait}
use Rattle.tp_model.specs.Groups.{is_object_that}
use Rattle.tp_model.specs.Support.Sound.{is_told}
use Rattle.tp_model.specs.Sources.{object_row, no_object}
use Rattle.tp_model.specs.Waits.{wait_of, is_group_target}
use Rattle.tp_model.specs.Changes.{notified}
use Rattle.tp_model.specs.Laws.Entries.{Begins, begins_by, Creation, created_by, Notice, is_ending, closed_by}
use Rattle.tp_model.specs.Laws.Covered.{ends, end_in}
use Rattle.tp_model.specs.Laws.Notices.{due, closes, due_to, notice_for, notices_due, given_by, given, created_number, numbers_created, IsClosing}
use Rattle.tp_model.specs.Support.Told.{notice_at}
use Rattle.tp_model.specs.Support.Moves.{Leads, HasCreated, IsObjectStill, due_from, new_for, new_notices, left_notices, WaitsMove, Keep, Begin, Notify, End, due_after}
use Rattle.tp_model.proofs.Lists.{find_all}
use Rattle.tp_model.proofs.Places.{LastPlace, Here, Earlier, last_place, none_last}
use Rattle.tp_model.proofs.Covered.{WaitAfter, NoticesAfter, AsBefore, OneGiven, wait_goes_on, find_given, find_others}
use Rattle.tp_model.proofs.Releasing.{that_row}
use Rattle.tp_model.proofs.Refusals.{false_true, same_actor_is, is_own_actor, neither, and_false, or_false}
use Rattle.tp_model.proofs.Due.{due_step}

-- what entries tell of the objects of each group that are due a notice is what there is
abbrev pub AreDue : List Entry → World → Type 0
AreDue history w = (group : ℕ) → due group history ≡ due_from group 1 w.objects

-- and the objects that were made are numbered on
abbrev pub AreNumbered : List Entry → World → Type 0
AreNumbered history w = numbers_created history ≡ range_with_len 1 (length w.objects)

-- what was closed was made
abbrev pub AreClosedMade : List Entry → World → Type 0
AreClosedMade history w = (n : ℕ) → list_any (closes n) history ≡ true → n ≤ length w.objects

-- as long as a wait goes on, what it has given and what it has left are the notices that are due
pub record IsNoticing (b : Begins) (before between : List Entry) (who : Who) (w : World) : Type 0 where
  pub wait : BegunWait
  pub found : wait_of w who ≡ Some wait
  pub all : given who between ++ left_notices w.objects wait ≡ notices_due b before

abbrev pub AreNoticing : List Entry → World → Type 0
AreNoticing history w = (before between : List Entry) (begin : Entry) (b : Begins) → before ++ begin ∷ between ≡ history → begins_by begin ≡ Some b → end_in begin.who between ≡ None → IsNoticing b before between begin.who w

-- what has a notice left is a close with cancel that goes on
abbrev pub AreClosings : List Entry → World → Type 0
AreClosings history w = (who : Who) (wait : BegunWait) (object : ObjectId) (rest : List ObjectId) → wait_of w who ≡ Some wait → wait.notices ≡ object ∷ rest → IsClosing history who

abbrev pub AreNamed : List ObjectRow → List ObjectId → Type 0
AreNamed objects os = AllByRecursion (λ (o : ObjectId). is_object_that is_told objects o.0 ≡ true) os

abbrev own : Who → BegunWait → Bool
own who b = is_same_actor b.actor who

abbrev notices_in : Option BegunWait → List ObjectId
notices_in None = []
notices_in (Some b) = b.notices

none_cond_list : {X : Type 0} (b : Bool) → ◌≡◌ {A = List X} (cond b [] []) []
none_cond_list true = refl
none_cond_list false = refl

range_longer : (first count : ℕ) → range_with_len first (count + 1) ≡ range_with_len first count ++ (first + count) ∷ []
range_longer first zero = ap (λ n. n ∷ []) (omega arith)
range_longer first (suc count) =
    let one_more : suc count + 1 ≡ suc (count + 1) = omega arith in
    let last : first + 1 + count ≡ first + suc count = omega arith in
    ap (range_with_len first) one_more ∙ ap (λ l. first ∷ l) (range_longer (first + 1) count ∙ ap (λ n. range_with_len (first + 1) count ++ n ∷ []) last)

module _ (before : List Entry) (w : World) (x : Entry) (after : World) (leads : Leads (length w.callbacks + 1) w x after) where
  objects_longer : length w.objects ≤ length after.objects
  objects_longer = of_created (created_by x) leads.groups.counts
    where
      of_created : (c : Option Creation) → HasCreated c (length w.objects) (length after.objects) → length w.objects ≤ length after.objects
      of_created None same = omega (arith, same)
      of_created (Some c) more = omega (arith, more.1)

  -- what the entry closes was made before it
  closed_before : AreClosedMade before w → (n : ℕ) → list_any (closes n) (before ++ x ∷ []) ≡ true → n ≤ length w.objects
  closed_before made n e = of_either (list_any (closes n) before) refl (sym (list_any-append (closes n) before (x ∷ [])) ∙ e)
    where
      of_closed : (o : Option ObjectId) → closed_by x ≡ o → (option_map_or (λ (k : ObjectId). n == k.0) o false || false) ≡ true → n ≤ length w.objects
      of_closed None is h = absurd (false_true h)
      of_closed (Some o) is h = omega (arith, eqb-true n o.0 (sym (or_false (n == o.0)) ∙ h), leads.groups.closes o is)

      of_either : (b : Bool) → list_any (closes n) before ≡ b → (b || list_any (closes n) (x ∷ [])) ≡ true → n ≤ length w.objects
      of_either true is h = made n is
      of_either false is h = of_closed (closed_by x) refl h

  pub closed_more : AreClosedMade before w → AreClosedMade (before ++ x ∷ []) after
  closed_more made n e = omega (arith, closed_before made n e, objects_longer)

  pub due_more : AreClosedMade before w → AreDue before w → AreDue (before ++ x ∷ []) after
  due_more made h group = due_step group x before unclosed ∙ ap (λ l. due_after group l x) (h group) ∙ sym (leads.groups.dues group)
    where
      number : (o : Option Creation) (c : Creation) → o ≡ Some c → HasCreated o (length w.objects) (length after.objects) → c.object ≡ length w.objects + 1
      number None c e counts = absurd cc
      number (Some d) c e counts = let is : d ≡ c = cc in ap (λ (k : Creation). k.object) (sym is) ∙ counts.0

      unclosed : (c : Creation) → created_by x ≡ Some c → list_any (closes c.object) (before ++ x ∷ []) ≡ false
      unclosed c is = known (list_any (closes c.object) (before ++ x ∷ [])) refl
        where
          known : (b : Bool) → list_any (closes c.object) (before ++ x ∷ []) ≡ b → list_any (closes c.object) (before ++ x ∷ []) ≡ false
          known false e = e
          known true e = absurd (omega (arith, closed_before made c.object e, number (created_by x) c is leads.groups.counts))

  pub numbered_more : AreNumbered before w → AreNumbered (before ++ x ∷ []) after
  numbered_more h = filter_map-append created_number before (x ∷ []) ∙ ap (λ l. l ++ filter_map created_number (x ∷ [])) h ∙ of_created (created_by x) refl leads.groups.counts
    where
      of_created : (c : Option Creation) → created_by x ≡ c → HasCreated (created_by x) (length w.objects) (length after.objects) → range_with_len 1 (length w.objects) ++ filter_map created_number (x ∷ []) ≡ range_with_len 1 (length after.objects)
      of_created None is counts =
          let same : length after.objects ≡ length w.objects = subst (λ o. HasCreated o (length w.objects) (length after.objects)) is counts in
          ap (λ (o : Option Creation). range_with_len 1 (length w.objects) ++ cons_option (option_map (λ (c : Creation). c.object) o) []) is ∙ append-nil (range_with_len 1 (length w.objects)) ∙ ap (range_with_len 1) (sym same)
      of_created (Some c) is counts =
          let both_is : (c.object ≡ length w.objects + 1) × (length after.objects ≡ length w.objects + 1) = subst (λ o. HasCreated o (length w.objects) (length after.objects)) is counts in
          ap (λ (o : Option Creation). range_with_len 1 (length w.objects) ++ cons_option (option_map (λ (k : Creation). k.object) o) []) is
          ∙ ap (λ n. range_with_len 1 (length w.objects) ++ n ∷ []) (omega (arith, both_is.0))
          ∙ sym (range_longer 1 (length w.objects)) ∙ ap (range_with_len 1) (sym both_is.1)

  -- the notices of objects that were made stay the same
  left_same : (cleanup : ℕ) (os : List ObjectId) → AreNamed w.objects os → map (notice_at after.objects cleanup) os ≡ map (notice_at w.objects cleanup) os
  left_same cleanup [] named = refl
  left_same cleanup (o ∷ os) named =
      let row = that_row is_told w.objects o.0 named.0 in
      let still : IsObjectStill after.objects o.0 row.0 = leads.groups.keeps o.0 row.0 row.1 in
      let now : object_row after.objects o ≡ still.new = ap (λ (r : Option ObjectRow). unwrap_or r no_object) still.stands in
      let was : object_row w.objects o ≡ row.0 = ap (λ (r : Option ObjectRow). unwrap_or r no_object) row.1 in
      let env : (object_row after.objects o).env ≡ (object_row w.objects o).env = ap (λ (r : ObjectRow). r.env) now ∙ still.env ∙ sym (ap (λ (r : ObjectRow). r.env) was) in
      let context : (object_row after.objects o).context ≡ (object_row w.objects o).context = ap (λ (r : ObjectRow). r.context) now ∙ still.context ∙ sym (ap (λ (r : ObjectRow). r.context) was) in
      ap₂ (λ (n : Notice) l. n ∷ l) (ap₂ (λ (e : Environ) c. record { object = o; routine = e.cancel; context = c; cleanup = cleanup }) env context) (left_same cleanup os named.1)

  -- a wait that begins
  noticing_here : AreDue before w → (b : Begins) → begins_by x ≡ Some b → IsNoticing b before [] x.who after
  noticing_here dues b begins = of_move leads.waits
    where
      due_now : (t : WaitTarget) (cleanup : ℕ) → new_for t cleanup w.objects ≡ due_to t cleanup before
      due_now (Group group) cleanup = ap (map (notice_for cleanup)) (sym (dues group.0))
      due_now (Object object) cleanup = refl
      due_now (Kernel kernel) cleanup = refl

      behind : (m : BegunWait) → m.actor ≡ x.who → (bs : List BegunWait) → list_any (own x.who) bs ≡ false → find (own x.who) (bs ++ m ∷ []) ≡ Some m
      behind m is [] e = ap (λ a. cond (is_same_actor a x.who) (Some m) None) is ∙ ap (λ t. cond t (Some m) None) (is_own_actor x.who)
      behind m is (d ∷ bs) e =
          let none = neither (own x.who d) (list_any (own x.who) bs) e in
          ap (λ t. cond t (Some d) (find (own x.who) (bs ++ m ∷ []))) none.0 ∙ behind m is bs none.1

      of_move : WaitsMove w x after → IsNoticing b before [] x.who after
      of_move (Keep m) = absurd (let none : None ≡ Some b = sym m.begins ∙ begins in cc)
      of_move (Notify m) = absurd (let none : None ≡ Some b = sym m.begins ∙ begins in cc)
      of_move (End m) = absurd (let none : None ≡ Some b = sym m.begins ∙ begins in cc)
      of_move (Begin m) =
          let both_told : Some m.begun ≡ Some b = sym m.begins ∙ begins in
          let same : m.begun ≡ b = cc in
          record {
            wait = m.wait;
            found = ap (find (own x.who)) m.waits ∙ behind m.wait m.actor w.waits m.none;
            all = m.notices ∙ ap (new_notices w.objects) same ∙ ap (λ l. cond b.cancel l []) (due_now b.target b.cleanup);
          }

  pub noticing_more : AllByRecursion (λ (b : BegunWait). AreNamed w.objects b.notices) w.waits → AreDue before w → AreNoticing before w → AreNoticing (before ++ x ∷ []) after
  noticing_more named dues noticing front between begin b split begins none = of_place (last_place before x front begin between split)
    where
      goes_on : (rest : List Entry) → IsNoticing b front rest begin.who w → ends begin.who x ≡ false → IsNoticing b front (rest ++ x ∷ []) begin.who after
      goes_on rest old apart = of_notices next.notices
        where
          next : WaitAfter w x after begin.who old.wait
          next = wait_goes_on before w x after leads begin.who old.wait apart old.found

          known : AreNamed w.objects old.wait.notices
          known = find_all (λ (d : BegunWait). AreNamed w.objects d.notices) (own begin.who) old.wait w.waits named old.found

          longer : (one : Option Notice) → given_by begin.who x ≡ one → given begin.who (rest ++ x ∷ []) ≡ given begin.who rest ++ cons_option one []
          longer one is = filter_map-append (given_by begin.who) rest (x ∷ []) ∙ ap (λ o. given begin.who rest ++ cons_option o []) is

          now : (os : List ObjectId) → next.new.notices ≡ os → AreNamed w.objects os → left_notices after.objects next.new ≡ map (notice_at w.objects old.wait.cleanup) os
          now os is here = ap₂ (λ y l. map (notice_at after.objects y) l) next.cleanup is ∙ left_same old.wait.cleanup os here

          of_notices : NoticesAfter w x begin.who old.wait next.new → IsNoticing b front (rest ++ x ∷ []) begin.who after
          of_notices (AsBefore quiet same) =
              record {
                wait = next.new;
                found = next.found;
                all = ap₂ (λ g l. g ++ l) (longer None quiet ∙ append-nil (given begin.who rest)) (now old.wait.notices same known) ∙ old.all;
              }
          of_notices (OneGiven object others left tells same) =
              let here : AreNamed w.objects (object ∷ others) = subst (AreNamed w.objects) left known in
              record {
                wait = next.new;
                found = next.found;
                all = ap₂ (λ g l. g ++ l) (longer (Some (notice_at w.objects old.wait.cleanup object)) tells) (now others same here.1)
                    ∙ append_assoc (given begin.who rest) (notice_at w.objects old.wait.cleanup object ∷ []) (map (notice_at w.objects old.wait.cleanup) others)
                    ∙ ap (λ os. given begin.who rest ++ map (notice_at w.objects old.wait.cleanup) os) (sym left) ∙ old.all;
              }

      of_place : LastPlace before x front begin between → IsNoticing b front between begin.who after
      of_place (Here same_front same is_last) =
          subst (λ l. IsNoticing b front l begin.who after) (sym is_last)
          (subst (λ (e : Entry). IsNoticing b front [] e.who after) (sym same)
          (subst (λ l. IsNoticing b l [] x.who after) (sym same_front) (noticing_here dues b (ap begins_by (sym same) ∙ begins))))
      of_place (Earlier rest back same_front) =
          let apart = none_last (ends begin.who) rest x (ap (find (ends begin.who)) (sym back) ∙ none) in
          subst (λ l. IsNoticing b front l begin.who after) (sym back) (goes_on rest (noticing front rest begin b same_front begins apart.0) apart.1)

  -- a close that the entry doesn't end goes on
  closing_longer : (who : Who) → ends who x ≡ false → IsClosing before who → IsClosing (before ++ x ∷ []) who
  closing_longer who apart c =
      record {
        before = c.before;
        begin = c.begin;
        between = c.between ++ x ∷ [];
        b = c.b;
        place = sym (append_assoc c.before (c.begin ∷ c.between) (x ∷ [])) ∙ ap (λ l. l ++ x ∷ []) c.place;
        begins = c.begins;
        by = c.by;
        group = c.group;
        cancels = c.cancels;
        unended = find-append (ends who) c.between (x ∷ []) ∙ ap (λ o. option_or o (cond (ends who x) (Some x) None)) c.unended ∙ ap (λ b. cond b (Some x) None) apart;
      }

  pub closings_more : AreClosings before w → AreClosings (before ++ x ∷ []) after
  closings_more closings who wait object rest found left = of_move leads.waits
    where
      unending : is_ending x ≡ false → ends who x ≡ false
      unending e = ap (λ b. is_same_actor x.who who && b) e ∙ and_false (is_same_actor x.who who)

      old : (d : BegunWait) (o : ObjectId) (os : List ObjectId) → wait_of w who ≡ Some d → d.notices ≡ o ∷ os → ends who x ≡ false → IsClosing (before ++ x ∷ []) who
      old d o os there has apart = closing_longer who apart (closings who d o os there has)

      -- what has a notice left after one was given had one before
      had : (d : BegunWait) → wait_of w who ≡ Some d → (b : Bool) → cond b (notified d) d ≡ wait → is_ending x ≡ false → IsClosing (before ++ x ∷ []) who
      had d there false is quiet = old d object rest there (ap (λ (y : BegunWait). y.notices) is ∙ left) (unending quiet)
      had d there true is quiet = of_list d.notices refl
        where
          of_list : (os : List ObjectId) → d.notices ≡ os → IsClosing (before ++ x ∷ []) who
          of_list [] none = absurd (let gone : [] ≡ object ∷ rest = sym (ap (drop 1) none) ∙ ap (λ (y : BegunWait). y.notices) is ∙ left in cc)
          of_list (o ∷ os) has = old d o os there has (unending quiet)

      of_move : WaitsMove w x after → IsClosing (before ++ x ∷ []) who
      of_move (Keep m) = of_was (m.was who wait found)
        where
          of_was : (wait_of w who ≡ Some wait) ⊎ (wait.notices ≡ []) → IsClosing (before ++ x ∷ []) who
          of_was (inl there) = old wait object rest there left (unending m.ends)
          of_was (inr none) = absurd (let gone = sym none ∙ left in cc)
      of_move (Notify m) = of_row (wait_of w who) refl (sym (ap (find (own who)) m.waits ∙ find_given x.who who w.waits) ∙ found)
        where
          of_row : (o : Option BegunWait) → wait_of w who ≡ o → option_map (λ (d : BegunWait). cond (own x.who d) (notified d) d) o ≡ Some wait → IsClosing (before ++ x ∷ []) who
          of_row None there e = absurd cc
          of_row (Some d) there e = let is : cond (own x.who d) (notified d) d ≡ wait = cc in had d there (own x.who d) is m.ends
      of_move (End m) = of_actor (is_same_actor x.who who) refl
        where
          gone : (bs : List BegunWait) → find (own who) (filter (λ (b : BegunWait). not (is_same_actor b.actor who)) bs) ≡ None
          gone [] = refl
          gone (d ∷ bs) =
              elim (own who d) as (λ t. own who d ≡ t → find (own who) (cond (not t) (d ∷ filter (λ (b : BegunWait). not (is_same_actor b.actor who)) bs) (filter (λ (b : BegunWait). not (is_same_actor b.actor who)) bs)) ≡ None) [
                | true ↦ λ _. gone bs
                | false ↦ λ apart. ap (λ t. cond t (Some d) (find (own who) (filter (λ (b : BegunWait). not (is_same_actor b.actor who)) bs))) apart ∙ gone bs
              ] refl

          of_actor : (b : Bool) → is_same_actor x.who who ≡ b → IsClosing (before ++ x ∷ []) who
          of_actor true is =
              let by : x.who ≡ who = same_actor_is x.who who is in
              let none : None ≡ Some wait = sym (gone w.waits) ∙ ap (λ a. find (own who) (filter (λ (b : BegunWait). not (is_same_actor b.actor a)) w.waits)) (sym by) ∙ sym (ap (find (own who)) m.waits) ∙ found in
              absurd cc
          of_actor false apart =
              old wait object rest (sym (find_others x.who who w.waits apart) ∙ sym (ap (find (own who)) m.waits) ∙ found) left (ap (λ b. b && is_ending x) apart)
      of_move (Begin m) = of_found (find (own who) w.waits) refl (sym (find-append (own who) w.waits (m.wait ∷ [])) ∙ sym (ap (find (own who)) m.waits) ∙ found)
        where
          of_new : (b : Bool) → own who m.wait ≡ b → cond b (Some m.wait) None ≡ Some wait → IsClosing (before ++ x ∷ []) who
          of_new false mine e = absurd cc
          of_new true mine e =
              let is : m.wait ≡ wait = cc in
              record {
                before = before;
                begin = x;
                between = [];
                b = m.begun;
                place = refl;
                begins = m.begins;
                by = ap (λ a. is_same_actor a who) (sym m.actor) ∙ mine;
                group = of_target m.begun.target m.begun.cancel refl refl;
                cancels = of_cancel m.begun.cancel refl;
                unended = refl;
              }
            where
              nonempty : left_notices after.objects m.wait ≡ [] → ⊥
              nonempty none =
                  let some : left_notices after.objects m.wait ≡ notice_at after.objects m.wait.cleanup object ∷ map (notice_at after.objects m.wait.cleanup) rest
                  = ap (map (notice_at after.objects m.wait.cleanup)) (ap (λ o. notices_in o) e ∙ left) in
                  absurd (let gone = sym none ∙ some in cc)

              of_cancel : (b : Bool) → m.begun.cancel ≡ b → m.begun.cancel ≡ true
              of_cancel true is = is
              of_cancel false is = absurd (nonempty (m.notices ∙ ap (λ b. cond b (new_for m.begun.target m.begun.cleanup w.objects) []) is))

              of_target : (t : WaitTarget) (b : Bool) → m.begun.target ≡ t → m.begun.cancel ≡ b → is_group_target m.begun.target ≡ true
              of_target (Group group) b is c = ap is_group_target is
              of_target (Object object_of) b is c = absurd (nonempty (m.notices ∙ ap (λ t. cond m.begun.cancel (new_for t m.begun.cleanup w.objects) []) is ∙ none_cond_list m.begun.cancel))
              of_target (Kernel kernel) b is c = absurd (nonempty (m.notices ∙ ap (λ t. cond m.begun.cancel (new_for t m.begun.cleanup w.objects) []) is ∙ none_cond_list m.begun.cancel))

          of_found : (o : Option BegunWait) → find (own who) w.waits ≡ o → option_or o (cond (own who m.wait) (Some m.wait) None) ≡ Some wait → IsClosing (before ++ x ∷ []) who
          of_found (Some d) there e = let is : d ≡ wait = cc in old wait object rest (there ∙ ap (λ y. Some y) is) left (unending m.ends)
          of_found None there e = of_new (own who m.wait) refl e
