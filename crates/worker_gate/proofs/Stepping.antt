-- What the due call of an actor leads to, by its stage, its wait and its mark.
use Rattle.std.proofs.Common.{◌≡◌, ℕ, Bool, true, false, List, inl, inr, Option, None, Some, IfSome, is_some, refl, sym, ap, subst, ◌∙◌}
use Rattle.tp_base.specs.declared.answers.Answer.{Answer}
use Rattle.tp_base.specs.declared.answers.Answer.TheVariants as answer
use Rattle.tp_base.specs.declared.answers.Entry.{Entry}
use Rattle.tp_base.specs.declared.answers.Outcome.{Outcome}
use Rattle.tp_base.specs.declared.answers.Outcome.TheVariants as outcome
use Rattle.tp_base.specs.declared.calls.Call.{Call}
use Rattle.tp_base.specs.declared.calls.Call.TheVariants.{Attach, Detach, End, Finish, Return, Take}
use Rattle.tp_base.specs.declared.ids.RoutineId.{RoutineId}
use Rattle.tp_base.specs.declared.ids.Who.{Who}
use Rattle.tp_base.specs.declared.ids.Who.TheVariants.{Client, Worker}
use Rattle.tp_base.specs.declared.limits.Limits.{Limits}
use Rattle.tp_base.specs.declared.plans.Stage.{Stage}
use Rattle.tp_base.specs.declared.plans.Stage.TheVariants.{Away, Busy, Idle, Over, Playing}
use Rattle.tp_model.specs.Laws.Entries.{attached_by, taken_by, words_by}
use Rattle.tp_model.specs.Stages.{is_in_part, is_last_call, is_over_stage, is_return, is_wait_outcome, stage_after, stage_of, waits_after, waits_of, IsActor, MachineFacts}
use Rattle.tp_model.proofs.Standing.{busy_stays, playing_stays}
use Rattle.tp_script.specs.Calls.{IsOfPart}
use Rattle.tp_script.specs.declared.routines.Progress.{Progress}
use Rattle.recorded.specs.Recordings.{room_of}
use Rattle.turn_lock.specs.Histories.{own}
use Rattle.turn_lock.proofs.Beginnings.{starts_itself}
use Rattle.part_places.specs.declared.place.Place.{Place}
use Rattle.part_places.specs.Places.{is_last, next_call, Given}
use Rattle.worker_gate.specs.Roles.{due_of, due_or, is_idle_take, is_stage_of}
use Rattle.worker_gate.specs.Walks.{comes_to, is_full, Closes, FollowsAt, IsCut}

-- a call of a part is not a last one
not_last : (made : Call) → IsOfPart made → is_last made ≡ false
not_last Finish of = absurd of
not_last Return of = absurd of
not_last _ of = refl

not_last_call : (made : Call) → IsOfPart made → is_last_call made ≡ false
not_last_call Finish of = absurd of
not_last_call Return of = absurd of
not_last_call _ of = refl

-- the stages of one kind of actor
over_of : (who : Who) → is_stage_of who Playing ≡ true → is_stage_of who Over ≡ true
over_of (Client number) is = refl
over_of (Worker number) is = absurd cc

idle_of_busy : (who : Who) (routine : RoutineId) → is_stage_of who (Busy routine) ≡ true → is_stage_of who Idle ≡ true
idle_of_busy (Client number) routine is = absurd cc
idle_of_busy (Worker number) routine is = refl

idle_of_away : (who : Who) → is_stage_of who Away ≡ true → is_stage_of who Idle ≡ true
idle_of_away (Client number) is = absurd cc
idle_of_away (Worker number) is = refl

away_of_idle : (who : Who) → is_stage_of who Idle ≡ true → is_stage_of who Away ≡ true
away_of_idle (Client number) is = absurd cc
away_of_idle (Worker number) is = refl

busy_of_idle : (who : Who) (routine : RoutineId) → is_stage_of who Idle ≡ true → is_stage_of who (Busy routine) ≡ true
busy_of_idle (Client number) routine is = absurd cc
busy_of_idle (Worker number) routine is = refl

abbrev pub at_place : Stage → Bool → Progress → Bool → Place
at_place stage waits at cut = record { stage = stage; waits = waits; at = at; cut = cut }

module _ (g : Given) (limits : Limits) (capacity : ℕ) (history entries : List Entry) (facts : MachineFacts limits history) (who : Who) (actor : IsActor limits who) (own_is : own who history ≡ entries) where
  abbrev left : ℕ
  left = room_of (record { limits = limits; capacity = capacity; history = history })

  -- where an actor is before its due call
  pub record Stands (p : Place) (marked : Bool) : Type 0 where
    pub stage_is : p.stage ≡ stage_of who history
    pub waits_is : p.waits ≡ waits_of who history
    pub calm : is_in_part p.stage ≡ false → p.waits ≡ false
    pub sorted : is_stage_of who p.stage ≡ true
    pub cut : is_in_part p.stage ≡ true → marked ≡ true → IsCut g limits capacity history who entries p
    pub part : IfSome (next_call g who p) IsOfPart
    pub going : is_over_stage p.stage ≡ false

  -- and what it leads to, where it has an answer
  pub record Goes (p : Place) (made : Call) (told : Answer) : Type 0 where
    pub follows : FollowsAt g limits capacity history who entries p p.stage (record { who = who; call = made; answer = told })
    pub calm : is_in_part (stage_after p.stage made told) ≡ false → waits_after p.waits made told ≡ false
    pub sorted : is_stage_of who (stage_after p.stage made told) ≡ true

  -- a call of the part leaves the actor in it
  goes_on : (stage : Stage) (waits : Bool) (at : Progress) (cut : Bool) (made : Call) (told : Answer) → is_in_part stage ≡ true → is_stage_of who stage ≡ true
      → next_call g who (at_place stage waits at cut) ≡ Some made → is_last made ≡ false → is_last_call made ≡ false → Goes (at_place stage waits at cut) made told
  goes_on Playing waits at cut made told part sorted next more more_call =
      let same : stage_after Playing made told ≡ Playing = playing_stays told made more_call in
      record {
        follows = inr (next, more);
        calm = λ out. let e : true ≡ false = sym (ap is_in_part same) ∙ out in absurd cc;
        sorted = ap (is_stage_of who) same ∙ sorted;
      }
  goes_on (Busy routine) waits at cut made told part sorted next more more_call =
      let same : stage_after (Busy routine) made told ≡ Busy routine = busy_stays routine told made more_call in
      record {
        follows = inr (next, more);
        calm = λ out. let e : true ≡ false = sym (ap is_in_part same) ∙ out in absurd cc;
        sorted = ap (is_stage_of who) same ∙ sorted;
      }
  goes_on Over waits at cut made told part sorted next more more_call = absurd cc
  goes_on Away waits at cut made told part sorted next more more_call = absurd cc
  goes_on Idle waits at cut made told part sorted next more more_call = absurd cc

  -- a part ends
  finishes : (at : Progress) (cut marked : Bool) (told : Answer) → Stands (at_place Playing false at cut) marked → Closes g limits capacity history who entries (at_place Playing false at cut)
      → comes_to limits capacity history who Finish ≡ outcome.Done told → Goes (at_place Playing false at cut) Finish told
  finishes at cut marked told s closes came =
      let always : comes_to limits capacity history who Finish ≡ outcome.Done answer.Done = facts.finishes who actor (sym s.stage_is) (sym s.waits_is) left in
      let e : outcome.Done answer.Done ≡ outcome.Done told = sym always ∙ came in
      let is : answer.Done ≡ told = cc in
      subst (λ (a : Answer). Goes (at_place Playing false at cut) Finish a) is (record { follows = inl (refl, refl, closes); calm = λ out. refl; sorted = over_of who s.sorted })

  returned : (routine : RoutineId) (at : Progress) (cut : Bool) (told : Answer) → is_stage_of who (Busy routine) ≡ true → Closes g limits capacity history who entries (at_place (Busy routine) false at cut)
      → is_some (words_by told) ≡ true → Goes (at_place (Busy routine) false at cut) Return told
  returned routine at cut (answer.Returned section mutex semaphore event first count) sorted closes is = record { follows = inl (refl, refl, closes); calm = λ out. refl; sorted = idle_of_busy who routine sorted }
  returned routine at cut _ sorted closes is = absurd cc

  returns : (routine : RoutineId) (at : Progress) (cut marked : Bool) (told : Answer) → Stands (at_place (Busy routine) false at cut) marked → Closes g limits capacity history who entries (at_place (Busy routine) false at cut)
      → comes_to limits capacity history who Return ≡ outcome.Done told → Goes (at_place (Busy routine) false at cut) Return told
  returns routine at cut marked told s closes came =
      returned routine at cut told s.sorted closes (sym (ap is_return came) ∙ facts.returns who routine actor (sym s.stage_is) (sym s.waits_is) left)

  attaches : (at : Progress) (cut : Bool) (told : Answer) → is_stage_of who Away ≡ true → is_some (attached_by told) ≡ true → Goes (at_place Away false at cut) Attach told
  attaches at cut (answer.Attached pool) sorted is = record { follows = (refl, refl); calm = λ out. refl; sorted = idle_of_away who sorted }
  attaches at cut _ sorted is = absurd cc

  takes : (at : Progress) (cut : Bool) (told : Answer) → is_stage_of who Idle ≡ true → is_some (taken_by told) ≡ true → Goes (at_place Idle false at cut) Take told
  takes at cut (answer.Taken callback object routine context result) sorted is = record { follows = inl (refl, refl); calm = λ out. refl; sorted = busy_of_idle who routine sorted }
  takes at cut _ sorted is = absurd cc

  leaves : (at : Progress) (cut : Bool) (told : Answer) → is_stage_of who Idle ≡ true → told ≡ answer.Done → Goes (at_place Idle false at cut) Detach told
  leaves at cut told sorted is = subst (λ (a : Answer). Goes (at_place Idle false at cut) Detach a) (sym is) (record { follows = inr (refl, refl); calm = λ out. refl; sorted = away_of_idle who sorted })

  -- by the next call of the part
  plays : (at : Progress) (cut marked : Bool) (made : Call) (told : Answer) → Stands (at_place Playing false at cut) marked → (next : Option Call) → next_call g who (at_place Playing false at cut) ≡ next
      → due_or Finish marked next ≡ made → comes_to limits capacity history who made ≡ outcome.Done told → Goes (at_place Playing false at cut) made told
  plays at cut marked made told s None none is came =
      subst (λ (m : Call). comes_to limits capacity history who m ≡ outcome.Done told → Goes (at_place Playing false at cut) m told) is (λ came_by. finishes at cut marked told s (inl none) came_by) came
  plays at cut true made told s (Some next) some is came =
      subst (λ (m : Call). comes_to limits capacity history who m ≡ outcome.Done told → Goes (at_place Playing false at cut) m told) is (λ came_by. finishes at cut true told s (inr (s.cut refl refl)) came_by) came
  plays at cut false made told s (Some next) some is came =
      let of : IsOfPart next = subst (λ (o : Option Call). IfSome o IsOfPart) some s.part in
      subst (λ (m : Call). Goes (at_place Playing false at cut) m told) is (goes_on Playing false at cut next told refl s.sorted some (not_last next of) (not_last_call next of))

  runs : (routine : RoutineId) (at : Progress) (cut marked : Bool) (made : Call) (told : Answer) → Stands (at_place (Busy routine) false at cut) marked → (next : Option Call) → next_call g who (at_place (Busy routine) false at cut) ≡ next
      → due_or Return marked next ≡ made → comes_to limits capacity history who made ≡ outcome.Done told → Goes (at_place (Busy routine) false at cut) made told
  runs routine at cut marked made told s None none is came =
      subst (λ (m : Call). comes_to limits capacity history who m ≡ outcome.Done told → Goes (at_place (Busy routine) false at cut) m told) is (λ came_by. returns routine at cut marked told s (inl none) came_by) came
  runs routine at cut true made told s (Some next) some is came =
      subst (λ (m : Call). comes_to limits capacity history who m ≡ outcome.Done told → Goes (at_place (Busy routine) false at cut) m told) is (λ came_by. returns routine at cut true told s (inr (s.cut refl refl)) came_by) came
  runs routine at cut false made told s (Some next) some is came =
      let of : IsOfPart next = subst (λ (o : Option Call). IfSome o IsOfPart) some s.part in
      subst (λ (m : Call). Goes (at_place (Busy routine) false at cut) m told) is (goes_on (Busy routine) false at cut next told refl s.sorted some (not_last next of) (not_last_call next of))

  -- the due call and its answer
  goes : (stage : Stage) (waits : Bool) (at : Progress) (cut marked : Bool) (made : Call) (told : Answer) → Stands (at_place stage waits at cut) marked → due_of g who (at_place stage waits at cut) marked ≡ made
      → comes_to limits capacity history who made ≡ outcome.Done told → Goes (at_place stage waits at cut) made told
  goes Playing true at cut marked made told s is came = subst (λ (m : Call). Goes (at_place Playing true at cut) m told) is (goes_on Playing true at cut End told refl s.sorted refl refl refl)
  goes (Busy routine) true at cut marked made told s is came = subst (λ (m : Call). Goes (at_place (Busy routine) true at cut) m told) is (goes_on (Busy routine) true at cut End told refl s.sorted refl refl refl)
  goes Playing false at cut marked made told s is came = plays at cut marked made told s (next_call g who (at_place Playing false at cut)) refl is came
  goes (Busy routine) false at cut marked made told s is came = runs routine at cut marked made told s (next_call g who (at_place (Busy routine) false at cut)) refl is came
  goes Away true at cut marked made told s is came = let e : true ≡ false = s.calm refl in absurd cc
  goes Idle true at cut marked made told s is came = let e : true ≡ false = s.calm refl in absurd cc
  goes Over waits at cut marked made told s is came = let e : true ≡ false = s.going in absurd cc
  goes Away false at cut marked made told s is came =
      subst (λ (m : Call). comes_to limits capacity history who m ≡ outcome.Done told → Goes (at_place Away false at cut) m told) is (λ came_by. attaches at cut told s.sorted (facts.attaches who actor (sym s.stage_is) left told came_by)) came
  goes Idle false at cut true made told s is came =
      subst (λ (m : Call). comes_to limits capacity history who m ≡ outcome.Done told → Goes (at_place Idle false at cut) m told) is (λ came_by. leaves at cut told s.sorted (facts.leaves who actor (sym s.stage_is) left told came_by)) came
  goes Idle false at cut false made told s is came =
      subst (λ (m : Call). comes_to limits capacity history who m ≡ outcome.Done told → Goes (at_place Idle false at cut) m told) is (λ came_by. takes at cut told s.sorted (facts.takes who actor (sym s.stage_is) left told came_by)) came

  pub goes_at : (p : Place) (marked : Bool) (told : Answer) → Stands p marked → comes_to limits capacity history who (due_of g who p marked) ≡ outcome.Done told → Goes p (due_of g who p marked) told
  goes_at p marked told s came = goes p.stage p.waits p.at p.cut marked (due_of g who p marked) told s refl came

  -- a due call that the history has no room for is one of the part, and cuts it
  full_return : (o : Outcome) → is_return o ≡ true → is_full o ≡ true → ⊥
  full_return (outcome.Done told) done full = absurd cc
  full_return (outcome.Look look) done full = absurd cc
  full_return (outcome.Full room cost) done full = absurd cc

  full_wait : (o : Outcome) → is_wait_outcome o ≡ true → is_full o ≡ true → ⊥
  full_wait (outcome.Done told) done full = absurd cc
  full_wait (outcome.Look look) done full = absurd cc
  full_wait (outcome.Full room cost) done full = absurd cc

  abbrev cuts : (p : Place) (made : Call) → next_call g who p ≡ Some made → is_full (comes_to limits capacity history who made) ≡ true → IsCut g limits capacity history who entries p
  cuts p made next full = (made, next, record { front = history; starts = starts_itself history; own_is = own_is; full = full })

  full_in : (stage : Stage) (last : Call) (at : Progress) (cut marked : Bool) (next : Option Call) → next_call g who (at_place stage false at cut) ≡ next → (is_full (comes_to limits capacity history who last) ≡ true → ⊥)
      → is_full (comes_to limits capacity history who (due_or last marked next)) ≡ true → IsCut g limits capacity history who entries (at_place stage false at cut)
  full_in stage last at cut marked None none never full = absurd (never full)
  full_in stage last at cut true (Some next) some never full = absurd (never full)
  full_in stage last at cut false (Some next) some never full = cuts (at_place stage false at cut) next some full

  full_at : (stage : Stage) (waits : Bool) (at : Progress) (cut marked : Bool) → Stands (at_place stage waits at cut) marked → is_in_part stage ≡ true
      → is_full (comes_to limits capacity history who (due_of g who (at_place stage waits at cut) marked)) ≡ true → IsCut g limits capacity history who entries (at_place stage waits at cut)
  full_at Playing true at cut marked s within full = absurd (full_wait (comes_to limits capacity history who End) (facts.ends who actor (sym s.waits_is) left) full)
  full_at (Busy routine) true at cut marked s within full = absurd (full_wait (comes_to limits capacity history who End) (facts.ends who actor (sym s.waits_is) left) full)
  full_at Playing false at cut marked s within full =
      full_in Playing Finish at cut marked (next_call g who (at_place Playing false at cut)) refl (λ is. let e : false ≡ true = sym (ap is_full (facts.finishes who actor (sym s.stage_is) (sym s.waits_is) left)) ∙ is in absurd cc) full
  full_at (Busy routine) false at cut marked s within full =
      full_in (Busy routine) Return at cut marked (next_call g who (at_place (Busy routine) false at cut)) refl (full_return (comes_to limits capacity history who Return) (facts.returns who routine actor (sym s.stage_is) (sym s.waits_is) left)) full
  full_at Over waits at cut marked s within full = absurd cc
  full_at Away waits at cut marked s within full = absurd cc
  full_at Idle waits at cut marked s within full = absurd cc

  pub cut_by : (p : Place) (marked : Bool) → Stands p marked → is_in_part p.stage ≡ true → is_full (comes_to limits capacity history who (due_of g who p marked)) ≡ true → IsCut g limits capacity history who entries p
  cut_by p marked s within full = full_at p.stage p.waits p.at p.cut marked s within full

-- in a part no call is one that a worker looks for work by
pub in_part_no_take : (stage : Stage) (made : Call) → is_in_part stage ≡ true → is_idle_take stage made ≡ false
in_part_no_take Playing made within = refl
in_part_no_take (Busy routine) made within = refl
in_part_no_take Over made within = absurd cc
in_part_no_take Away made within = absurd cc
in_part_no_take Idle made within = absurd cc
