-- What is played to its end is a run.
use Rattle.std.proofs.Common.{◌≡◌, ℕ, zero, suc, ◌≤◌, Bool, true, false, cond, List, [], ◌∷◌, ◌++◌, map, get_or, refl, sym, ap, subst, ◌∙◌, append-nil, append_assoc, arith}
use Rattle.std.specs.Prelude.{◌↔◌}
use Rattle.std.proofs.lemmas.List.Elements.{All-append, All-from_recursion, recursion_from_All}
use Rattle.std.proofs.lemmas.Option.{get_or_from_slice_get, slice_get_within}
use Rattle.std.specs.List.{AllByRecursion, Any}
use Rattle.tp_base.specs.declared.answers.Entry.{Entry}
use Rattle.tp_base.specs.declared.ids.Who.{Who}
use Rattle.tp_base.specs.declared.ids.Who.TheVariants.{Client}
use Rattle.tp_base.specs.declared.limits.Limits.{Limits}
use Rattle.tp_base.specs.declared.plans.Stage.{Stage}
use Rattle.tp_base.specs.declared.plans.Stage.TheVariants.{Away, Busy, Idle, Over, Playing}
use Rattle.tp_base.specs.Actors.{is_same_actor}
use Rattle.tp_model.specs.Stages.{is_in_part, IsActor}
use Rattle.tp_model.proofs.Refusals.{is_own_actor}
use Rattle.recorded.specs.Recordings.{Recording}
use Rattle.turn_lock.specs.Histories.{own}
use Rattle.part_places.specs.declared.place.Place.{Place}
use Rattle.worker_gate.specs.declared.role.Role.{Role}
use Rattle.worker_gate.specs.Closing.{IsCutIn, IsFirstPlayed}
use Rattle.part_places.specs.Places.{Given, opening, place_after, place_from}
use Rattle.worker_gate.specs.Roles.{is_stage_of, turned, who_of, IsOf}
use Rattle.worker_gate.specs.Rounds.{awake, round_of, rounds, scene, AllOf, ArePlayed, HasPlayed, HasRole, HaveAllRoles, HaveEnded, Scene}
use Rattle.worker_gate.specs.Runs.{is_over_in, AreKnown, ComesFirst, IsCutShort, Runs, Whole}
use Rattle.worker_gate.specs.Walks.{FollowsAt, Leads}
use Rattle.worker_gate.proofs.Lasting.{played_whos, role_kept, same_whos}
use Rattle.worker_gate.proofs.Playing.{turned_adds}
use Rattle.worker_gate.proofs.RoleFacts.{cut_by_roles}
use Rattle.worker_gate.proofs.Walking.{own_append}

-- ---- what rounds add to a history

pub by_actor : (P : Who → Type 0) (who : Who) (more : List Entry) → P who → AllByRecursion (λ (e : Entry). e.who ≡ who) more → AllByRecursion (λ (e : Entry). P e.who) more
by_actor P who [] actor by = tt
by_actor P who (e ∷ more) actor by = (subst P (sym by.0) actor, by_actor P who more actor by.1)

-- a history that goes on by entries of such actors
pub record Follows (P : Who → Type 0) (history later : List Entry) : Type 0 where
  pub more : List Entry
  pub is : later ≡ history ++ more
  pub known : AllByRecursion (λ (e : Entry). P e.who) more

pub follows_itself : (P : Who → Type 0) (history : List Entry) → Follows P history history
follows_itself P history = record { more = []; is = sym (append-nil history); known = tt }

known_both : (P : Who → Type 0) (xs ys : List Entry) → AllByRecursion (λ (e : Entry). P e.who) xs → AllByRecursion (λ (e : Entry). P e.who) ys → AllByRecursion (λ (e : Entry). P e.who) (xs ++ ys)
known_both P [] ys first next = next
known_both P (x ∷ xs) ys first next = (first.0, known_both P xs ys first.1 next)

pub follows_through : (P : Who → Type 0) (history mid later : List Entry) → Follows P history mid → Follows P mid later → Follows P history later
follows_through P history mid later first next = record {
  more = first.more ++ next.more;
  is = next.is ∙ (ap (λ (h : List Entry). h ++ next.more) first.is ∙ append_assoc history first.more next.more);
  known = known_both P first.more next.more first.known next.known;
}

abbrev pub AreBy : (Who → Type 0) → List Role → Type 0
AreBy P roles = AllByRecursion (λ (r : Role). P r.who) roles

pub same_actors : (P : Who → Type 0) (xs ys : List Role) → map who_of ys ≡ map who_of xs → AreBy P xs → AreBy P ys
same_actors P [] [] same actors = tt
same_actors P (x ∷ xs) (y ∷ ys) same actors =
    let head : who_of y ≡ who_of x = cc in
    let tail : map who_of ys ≡ map who_of xs = cc in
    (subst P (sym head) actors.0, same_actors P xs ys tail actors.1)
same_actors P [] (y ∷ ys) same actors = absurd (cc)
same_actors P (x ∷ xs) [] same actors = absurd (cc)

module _ (P : Who → Type 0) (g : Given) (limits : Limits) (capacity : ℕ) where
  round_follows : (history : List Entry) (roles : List Role) → AreBy P roles → Follows P history (round_of g limits capacity history roles).history
  round_follows history [] actors = follows_itself P history
  round_follows history (r ∷ roles) actors =
      let t = turned g limits capacity history r in
      let adds = turned_adds g limits capacity history r in
      follows_through P history t.history (round_of g limits capacity t.history roles).history
      (record { more = adds.more; is = adds.is; known = by_actor P r.who adds.more actors.0 adds.by })
      (round_follows t.history roles actors.1)

  rounds_follow : (n : ℕ) (s : Scene) → AreBy P s.roles → Follows P s.history (rounds g limits capacity n s).history
  rounds_follow zero s actors = follows_itself P s.history
  rounds_follow (suc n) s actors =
      let t = rounds g limits capacity n s in
      follows_through P s.history t.history (round_of g limits capacity t.history t.roles).history (rounds_follow n s actors)
      (round_follows t.history t.roles (same_actors P s.roles t.roles (played_whos g limits capacity s t (n, refl)) actors))

  pub played_follows : (s t : Scene) → AreBy P s.roles → ArePlayed g limits capacity s t → Follows P s.history t.history
  played_follows s t actors played = subst (λ (x : Scene). Follows P s.history x.history) played.1 (rounds_follow played.0 s actors)

-- ---- client 1 comes first

cons_none : (b : Bool) (e : Entry) (rest : List Entry) → b ≡ true → cond b (e ∷ rest) rest ≡ [] → ⊥
cons_none true e rest on none = absurd (cc)
cons_none false e rest on none = absurd (cc)

rest_none : (b : Bool) (e : Entry) (rest : List Entry) → cond b (e ∷ rest) rest ≡ [] → rest ≡ []
rest_none true e rest none = absurd (cc)
rest_none false e rest none = none

off_by : (b : Bool) (e : Entry) (rest : List Entry) → cond b (e ∷ rest) rest ≡ [] → b ≡ false
off_by true e rest none = absurd (cc)
off_by false e rest none = refl

-- where an actor has no entries, none is its own
pub none_own : (who : Who) (history : List Entry) → own who history ≡ [] → AllByRecursion (λ (e : Entry). is_same_actor e.who who ≡ false) history
none_own who [] none = tt
none_own who (e ∷ rest) none = (off_by (is_same_actor e.who who) e (own who rest) none, none_own who rest (rest_none (is_same_actor e.who who) e (own who rest) none))

same_or_apart : (a b : Who) (x : Bool) → is_same_actor a b ≡ x → ((a ≡ b → ⊥) → ⊥) → x ≡ true
same_or_apart a b true is not_apart = refl
same_or_apart a b false is not_apart = absurd (not_apart (λ same. let t : true ≡ false = sym (ap (λ (w : Who). is_same_actor w b) same ∙ is_own_actor b) ∙ is in absurd (cc)))

-- of a front in which no other actor has an entry
alone_own : (limits : Limits) (who : Who) (front : List Entry) → AllByRecursion (λ (e : Entry). IsActor limits e.who) front → ((other : Who) → IsActor limits other → (other ≡ who → ⊥) → own other front ≡ [])
    → AllByRecursion (λ (e : Entry). is_same_actor e.who who ≡ true) front
alone_own limits who [] known alone = tt
alone_own limits who (e ∷ front) known alone = (
  same_or_apart e.who who (is_same_actor e.who who) refl (λ apart. cons_none (is_same_actor e.who e.who) e (own e.who front) (is_own_actor e.who) (alone e.who known.0 apart)),
  alone_own limits who front known.1 (λ other actor apart. rest_none (is_same_actor e.who other) e (own other front) (alone other actor apart)),
)

known_front : (limits : Limits) (xs ys : List Entry) → AllByRecursion (λ (e : Entry). IsActor limits e.who) (xs ++ ys) → AllByRecursion (λ (e : Entry). IsActor limits e.who) xs
known_front limits [] ys known = tt
known_front limits (x ∷ xs) ys known = (known.0, known_front limits xs ys known.1)

-- an actor that has finished makes no further entry
module _ (g : Given) (limits : Limits) (capacity : ℕ) (history : List Entry) (who : Who) where
  leads_rest : (before : List Entry) (p : Place) (xs ys : List Entry) → Leads g limits capacity history who before p (xs ++ ys) → Leads g limits capacity history who (before ++ xs) (place_from g who p xs) ys
  leads_rest before p [] ys leads = subst (λ (b : List Entry). Leads g limits capacity history who b p ys) (sym (append-nil before)) leads
  leads_rest before p (x ∷ xs) ys leads =
      let next = place_after g who p x.call x.answer in
      subst (λ (b : List Entry). Leads g limits capacity history who b (place_from g who next xs) ys) (append_assoc before (x ∷ []) xs) (leads_rest (before ++ x ∷ []) next xs ys leads.1)

  no_more : (before : List Entry) (p : Place) (ys : List Entry) → p.stage ≡ Over → Leads g limits capacity history who before p ys → ys ≡ []
  no_more before p [] over leads = refl
  no_more before p (y ∷ ys) over leads = absurd (subst (λ (at : Stage). FollowsAt g limits capacity history who before p at y) over leads.0)

pub client_over : (number : ℕ) (at : Stage) → is_stage_of (Client number) at ≡ true → is_in_part at ≡ false → at ≡ Over
client_over number Playing sorted rests = absurd (cc)
client_over number Over sorted rests = refl
client_over number Away sorted rests = absurd (cc)
client_over number Idle sorted rests = absurd (cc)
client_over number (Busy routine) sorted rests = absurd (cc)

pub finished_client : (number : ℕ) (who : Who) (at : Stage) → who ≡ Client number → is_stage_of who at ≡ true → is_in_part at ≡ false → at ≡ Over
finished_client number who at is sorted rests = client_over number at (sym (ap (λ (w : Who). is_stage_of w at) is) ∙ sorted) rests

module _ (g : Given) (limits : Limits) (capacity : ℕ) (history later : List Entry) (roles : List Role) (of : AllOf g limits capacity history roles) (first : IsFirstPlayed limits history roles)
    (known : AreKnown limits history) (more : Follows (IsActor limits) history later) (walk : Leads g limits capacity later (Client 1) [] (opening (Client 1)) (own (Client 1) later)) where
  first_of : IsOf g limits capacity history (own first.first.who history) first.first
  first_of = subst (λ (r : Role). IsOf g limits capacity history (own r.who history) r) (get_or_from_slice_get roles first.at first.first first.first first.is_there)
      (of.of first.at first.first (slice_get_within roles first.at first.first first.is_there))

  first_place : place_from g (Client 1) (opening (Client 1)) (own (Client 1) first.front) ≡ first.first.place
  first_place =
      ap (place_from g (Client 1) (opening (Client 1))) (sym first.mine) ∙ (ap (λ (w : Who). place_from g w (opening w) (own w history)) (sym first.is_first) ∙ sym first_of.place_is)

  abbrev first_rest : List Entry
  first_rest = first.starts.rest ++ more.more

  later_is : later ≡ first.front ++ first_rest
  later_is = more.is ∙ (ap (λ (h : List Entry). h ++ more.more) first.starts.is ∙ append_assoc first.front first.starts.rest more.more)

  rest_own : own (Client 1) first_rest ≡ []
  rest_own =
      let split : own (Client 1) later ≡ own (Client 1) first.front ++ own (Client 1) first_rest = ap (own (Client 1)) later_is ∙ own_append (Client 1) first.front first_rest in
      let walk' = subst (Leads g limits capacity later (Client 1) [] (opening (Client 1))) split walk in
      let over : first.first.place.stage ≡ Over = finished_client 1 first.first.who first.first.place.stage first.is_first first_of.sorted first.ended in
      no_more g limits capacity later (Client 1) (own (Client 1) first.front) (place_from g (Client 1) (opening (Client 1)) (own (Client 1) first.front)) (own (Client 1) first_rest)
      (ap (λ (p : Place). p.stage) first_place ∙ over)
      (leads_rest g limits capacity later (Client 1) [] (opening (Client 1)) (own (Client 1) first.front) (own (Client 1) first_rest) walk')

  pub comes_first : ComesFirst later
  comes_first =
      let known' = subst (AllByRecursion (λ (e : Entry). IsActor limits e.who)) first.starts.is (recursion_from_All (λ (e : Entry). IsActor limits e.who) history known) in
      record {
        front = first.front;
        rest = first_rest;
        parts = later_is;
        first = All-from_recursion (λ (e : Entry). is_same_actor e.who (Client 1) ≡ true) first.front (alone_own limits (Client 1) first.front (known_front limits first.front first.starts.rest known') first.alone);
        others = All-from_recursion (λ (e : Entry). is_same_actor e.who (Client 1) ≡ false) first_rest (none_own (Client 1) first_rest rest_own);
      }

-- ---- the whole

module _ (g : Given) (limits : Limits) (capacity : ℕ) (history : List Entry) where
  whole_of : (r : Role) → IsOf g limits capacity history (own r.who history) r → r.ended ≡ true → Whole g limits capacity history r.who (own r.who history)
  whole_of r of ended = record { leads = of.leads; ends = sym (ap (λ (p : Place). is_in_part p.stage) of.place_is) ∙ of.rests ended }

  pub whole_by : (roles : List Role) (who : Who) → AllOf g limits capacity history roles → HaveEnded roles → HasRole roles who → Whole g limits capacity history who (own who history)
  whole_by roles who all ended has =
      let r = get_or roles has.0 has.1 in
      subst (λ (w : Who). Whole g limits capacity history w (own w history)) (ap who_of has.3 ∙ has.4) (whole_of r (all.of has.0 has.1 has.2) (ended has.0 has.1 has.2))

-- ---- who plays in rounds

pub actors_of : (g : Given) (limits : Limits) (capacity : ℕ) (history : List Entry) (roles : List Role) → AllByRecursion (λ (r : Role). IsOf g limits capacity history (own r.who history) r) roles → AreBy (IsActor limits) roles
actors_of g limits capacity history [] of = tt
actors_of g limits capacity history (r ∷ roles) of = (of.0.actor, actors_of g limits capacity history roles of.1)

module _ (g : Given) (limits : Limits) (capacity : ℕ) (history later : List Entry) (roles after : List Role) (played : HasPlayed g limits capacity history roles later after) where
  pub rounds_whos : map who_of after ≡ map who_of roles
  rounds_whos = played_whos g limits capacity (scene history (map awake roles)) (scene later after) played ∙ same_whos roles

  pub rounds_more : AllOf g limits capacity history roles → Follows (IsActor limits) history later
  rounds_more all =
      let actors = actors_of g limits capacity history roles (recursion_from_All (λ (r : Role). IsOf g limits capacity history (own r.who history) r) roles all.of) in
      played_follows (IsActor limits) g limits capacity (scene history (map awake roles)) (scene later after) (same_actors (IsActor limits) roles (map awake roles) (same_whos roles) actors) played

-- what is played on from roles of which client 1's has finished before all others, until all have ended, is a run
module _ (g : Given) (start : Recording) (limits : Limits) (capacity : ℕ) (later : List Entry) (roles after : List Role) (all_before : AllOf g start.limits start.capacity start.history roles)
    (has : HaveAllRoles start.limits roles) (known : AreKnown start.limits start.history) (first : IsFirstPlayed start.limits start.history roles) (client : 1 ≤ start.limits.clients)
    (limits_are : limits ≡ start.limits) (capacity_is : capacity ≡ start.capacity)
    (whos : map who_of after ≡ map who_of roles) (more : Follows (IsActor start.limits) start.history later) (all : AllOf g limits capacity later after) (ended : HaveEnded after) (over : is_over_in limits capacity later ≡ true) where
  all_there : AllOf g start.limits start.capacity later after
  all_there = subst (λ (l : Limits). AllOf g l start.capacity later after) limits_are (subst (λ (n : ℕ). AllOf g limits n later after) capacity_is all)

  over_there : is_over_in start.limits start.capacity later ≡ true
  over_there = sym (ap (λ (l : Limits). is_over_in l capacity later) limits_are ∙ ap (λ (n : ℕ). is_over_in start.limits n later) capacity_is) ∙ over

  pub has_after : HaveAllRoles start.limits after
  has_after who actor = role_kept roles after who whos (has who actor)

  whole : (who : Who) → IsActor start.limits who → Whole g start.limits start.capacity later who (own who later)
  whole who actor = whole_by g start.limits start.capacity later after who all_there ended (has_after who actor)

  run_there : Runs g start.limits start.capacity later
  run_there = record {
    known = subst (λ (h : List Entry). AreKnown start.limits h) (sym more.is)
        (All-append (λ (e : Entry). IsActor start.limits e.who) start.history more.more known (All-from_recursion (λ (e : Entry). IsActor start.limits e.who) more.more more.known));
    each = whole;
    first = comes_first g start.limits start.capacity start.history later roles all_before first known more (whole (Client 1) (omega arith, client)).leads;
    over = over_there;
  }

  pub run_of : Runs g limits capacity later
  run_of = subst (λ (l : Limits). Runs g l capacity later) (sym limits_are) (subst (λ (n : ℕ). Runs g start.limits n later) (sym capacity_is) run_there)

  pub cut_of : (b : Bool) → (b ≡ true) ↔ Any IsCutIn after → (b ≡ true) ↔ IsCutShort g limits later
  cut_of b any =
      let by = cut_by_roles g start.limits start.capacity later after all_there.of has_after in
      subst (λ (l : Limits). (b ≡ true) ↔ IsCutShort g l later) (sym limits_are) (λ on. by.0 (any.0 on), λ short. any.1 (by.1 short))
