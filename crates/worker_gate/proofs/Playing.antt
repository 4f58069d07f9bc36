-- Turns of roles on a machine, and rounds of them.
use Rattle.std.proofs.Common.{◌≡◌, ℕ, suc, ◌+◌, ◌<◌, Bool, true, false, ◌&&◌, ◌||◌, if◌then◌else◌, List, [], ◌∷◌, ◌++◌, ◌⊎◌, inl, inr, Option, None}
use Rattle.std.proofs.Common.{Some, length, length-take-le, map, take, drop, set, get_or, eqb, refl, sym, ap, subst, ◌∙◌, append-nil, append_assoc, arith, All, slice_get, eqb-true, eq-eqb}
use Rattle.std.proofs.Math.Seq.{drop-cons, get_or-append_seam, map-set_same, take-length, drop-length}
use Rattle.std.proofs.lemmas.List.{drop-set-lt, length-map, length-set, map-append, set_at, take_more, take_more_set, get_or-set_same, get_or-set_other}
use Rattle.std.proofs.lemmas.List.Folds.{list_all-append}
use Rattle.std.proofs.lemmas.List.Sums.{AllPass-from_list_all, list_all-from_AllPass}
use Rattle.std.proofs.lemmas.Option.{slice_get-map, slice_get-get_or}
use Rattle.std.specs.Prelude.{◌↔◌}
use Rattle.std.specs.List.{list_all, AllByRecursion}
use Rattle.std.specs.Option.{option_map}
use Rattle.tp_base.specs.declared.answers.Entry.{Entry}
use Rattle.tp_base.specs.declared.answers.Outcome.{Outcome}
use Rattle.tp_base.specs.declared.answers.Outcome.TheVariants as outcome
use Rattle.tp_base.specs.declared.calls.Call.{Call}
use Rattle.tp_base.specs.declared.ids.Who.{Who}
use Rattle.tp_base.specs.declared.ids.Who.TheVariants.{Client, Worker}
use Rattle.tp_base.specs.declared.limits.Limits.{Limits}
use Rattle.tp_base.specs.declared.plans.Stage.{Stage}
use Rattle.tp_base.specs.declared.plans.Stage.TheVariants.{Away, Busy, Idle, Over, Playing}
use Rattle.tp_model.specs.History.{after_from, led_to, room, IsLegal, IsLegalFrom}
use Rattle.tp_model.specs.Stages.{is_busy_stage, is_in_part, stage_of, IsActor, MachineFacts}
use Rattle.tp_model.specs.Step.{outcome_of}
use Rattle.tp_model.specs.Table.{step}
use Rattle.tp_model.specs.World.{World, opening as opening_world}
use Rattle.tp_model.proofs.Facts.{machine_facts}
use Rattle.recorded.specs.Recordings.{entries_told, room_of, Recording}
use Rattle.turn_lock.specs.Histories.{own, StartsWith}
use Rattle.turn_lock.proofs.Beginnings.{own_other}
use Rattle.part_places.specs.declared.place.Place.{Place}
use Rattle.worker_gate.specs.declared.role.Role.{Role}
use Rattle.worker_gate.specs.declared.role.Turn.{Turn}
use Rattle.part_places.specs.Places.{Given, opening}
use Rattle.worker_gate.specs.Roles.{due_of, ended_turn, ends, ends_at, is_last_turn, is_open, is_stage_of, played_turn, took, turn_by, turned, who_of, IsOf, Turned}
use Rattle.worker_gate.specs.Rounds.{awake, round_of, scene, AllOf, EndedWell, HaveEnded, IsSameMachine, Scene}
use Rattle.worker_gate.specs.Runs.{is_over_in}
use Rattle.worker_gate.specs.Walks.{comes_to}
use Rattle.worker_gate.proofs.Acting.{of_grows}
use Rattle.worker_gate.proofs.Walking.{own_append, stage_is}

-- ---- what an actor adds to a history

pub record Adds (who : Who) (history later : List Entry) : Type 0 where
  pub more : List Entry
  pub is : later ≡ history ++ more
  pub by : AllByRecursion (λ (e : Entry). e.who ≡ who) more

adds_told : (who : Who) (made : Call) (told : Outcome) (history : List Entry) → Adds who history (history ++ entries_told who made told)
adds_told who made (outcome.Done answer) history = record { more = entries_told who made (outcome.Done answer); is = refl; by = (refl, tt) }
adds_told who made (outcome.Look look) history = record { more = []; is = refl; by = tt }
adds_told who made (outcome.Full room cost) history = record { more = []; is = refl; by = tt }

pub adds_nothing : (who : Who) (history : List Entry) → Adds who history history
adds_nothing who history = record { more = []; is = sym (append-nil history); by = tt }

pub adds_starts : (who : Who) (history later : List Entry) → Adds who history later → StartsWith later history
adds_starts who history later adds = record { rest = adds.more; is = adds.is }

pub none_of : (who other : Who) (more : List Entry) → (who ≡ other → ⊥) → AllByRecursion (λ (e : Entry). e.who ≡ who) more → own other more ≡ []
none_of who other [] apart by = refl
none_of who other (e ∷ more) apart by =
    let first : own other (e ∷ []) ≡ [] = own_other other [] e (λ is. apart (sym by.0 ∙ is)) in
    own_append other (e ∷ []) more ∙ (ap (λ (x : List Entry). x ++ own other more) first ∙ none_of who other more apart by.1)

-- others have what they had
pub adds_apart : (who other : Who) (history later : List Entry) → Adds who history later → (who ≡ other → ⊥) → own other later ≡ own other history
adds_apart who other history later adds apart =
    ap (own other) adds.is ∙ (own_append other history adds.more ∙ (ap (λ (x : List Entry). own other history ++ x) (none_of who other adds.more apart adds.by) ∙ append-nil (own other history)))

-- ---- legal histories

legal_from : (w : World) (capacity entries count : ℕ) (history : List Entry) (e : Entry) → count ≡ entries + length history → IsLegalFrom w capacity entries history
    → outcome_of (step (after_from w history) (room capacity (after_from w history) count) e.who e.call) ≡ outcome.Done e.answer → IsLegalFrom w capacity entries (history ++ e ∷ [])
legal_from w capacity entries count [] e is legal came =
    let at : count ≡ entries = omega (arith, is) in
    (subst (λ (n : ℕ). outcome_of (step w (room capacity w n) e.who e.call) ≡ outcome.Done e.answer) at came, tt)
legal_from w capacity entries count (x ∷ history) e is legal came =
    let at : count ≡ entries + 1 + length history = omega (arith, is) in
    (legal.0, legal_from (led_to w x) capacity (entries + 1) count history e at legal.1 came)

module _ (limits : Limits) (capacity : ℕ) where
  legal_told : (history : List Entry) (who : Who) (made : Call) (told : Outcome) → IsLegal limits capacity history → comes_to limits capacity history who made ≡ told → IsLegal limits capacity (history ++ entries_told who made told)
  legal_told history who made (outcome.Done answer) legal came =
      legal_from (opening_world limits) capacity 0 (length history) history (record { who = who; call = made; answer = answer }) (omega arith) legal came
  legal_told history who made (outcome.Look look) legal came = subst (IsLegal limits capacity) (sym (append-nil history)) legal
  legal_told history who made (outcome.Full room cost) legal came = subst (IsLegal limits capacity) (sym (append-nil history)) legal

-- ---- a turn

took_who : (g : Given) (r : Role) (made : Call) (told : Outcome) → (took g r made told).who ≡ r.who
took_who g r made (outcome.Done answer) = refl
took_who g r made (outcome.Look look) = refl
took_who g r made (outcome.Full room cost) = refl

took_ended : (g : Given) (r : Role) (made : Call) (told : Outcome) → (took g r made told).ended ≡ r.ended
took_ended g r made (outcome.Done answer) = refl
took_ended g r made (outcome.Look look) = refl
took_ended g r made (outcome.Full room cost) = refl

told_on : (told : Outcome) → is_last_turn (turn_by told) ≡ false
told_on (outcome.Done answer) = refl
told_on (outcome.Look look) = refl
told_on (outcome.Full room cost) = refl

pub or_off : (a b : Bool) → (a || b) ≡ false → a ≡ false
or_off true b off = off
or_off false b off = refl

pub or_on : (a b : Bool) → b ≡ true → (a || b) ≡ true
or_on true b on = refl
or_on false b on = on

pub on_off : (b : Bool) → b ≡ true → b ≡ false → ⊥
on_off true on off = absurd (cc)
on_off false on off = absurd (cc)

rest_ends : (at : Stage) → is_in_part at ≡ false → ends_at at true ≡ true
rest_ends Playing rests = absurd (cc)
rest_ends (Busy routine) rests = absurd (cc)
rest_ends Over rests = refl
rest_ends Away rests = refl
rest_ends Idle rests = refl

-- an actor that ends has finished, or all is over
well_by : (ended : Bool) (at : Stage) (over : Bool) → (ended ≡ true → (at ≡ Over) ⊎ (over ≡ true)) → (ended || ends_at at over) ≡ true → (at ≡ Over) ⊎ (over ≡ true)
well_by true at over well is = well refl
well_by false Playing over well is = absurd (cc)
well_by false (Busy routine) over well is = absurd (cc)
well_by false Over over well is = inl refl
well_by false Away over well is = inr is
well_by false Idle over well is = inr is

module _ (g : Given) (limits : Limits) (capacity : ℕ) where
  abbrev due_in : Role → Call
  due_in r = due_of g r.who r.place r.marked

  abbrev told_to : List Entry → Role → Outcome
  told_to history r = comes_to limits capacity history r.who (due_in r)

  abbrev turn_in : List Entry → Role → Turned
  turn_in history r = turned g limits capacity history r

  turned_by : (Q : Turned → Type 0) (history : List Entry) (r : Role) (b : Bool) → (b ≡ true → Q (ended_turn history r)) → (b ≡ false → Q (played_turn g history r (due_in r) (told_to history r)))
      → Q (if b then ended_turn history r else played_turn g history r (due_in r) (told_to history r))
  turned_by Q history r true ended played = ended refl
  turned_by Q history r false ended played = played refl

  -- it ends, or its due call is played
  pub turned_is : (Q : Turned → Type 0) (history : List Entry) (r : Role) → (ends limits capacity history r ≡ true → Q (ended_turn history r))
      → (ends limits capacity history r ≡ false → Q (played_turn g history r (due_in r) (told_to history r))) → Q (turn_in history r)
  turned_is Q history r ended played = turned_by Q history r (ends limits capacity history r) ended played

  pub turned_adds : (history : List Entry) (r : Role) → Adds r.who history (turn_in history r).history
  turned_adds history r = turned_is (λ (t : Turned). Adds r.who history t.history) history r (λ _. adds_nothing r.who history) (λ _. adds_told r.who (due_in r) (told_to history r) history)

  pub turned_who : (history : List Entry) (r : Role) → (turn_in history r).role.who ≡ r.who
  turned_who history r = turned_is (λ (t : Turned). t.role.who ≡ r.who) history r (λ _. refl) (λ _. took_who g r (due_in r) (told_to history r))

  pub legal_turned : (history : List Entry) (r : Role) → IsLegal limits capacity history → IsLegal limits capacity (turn_in history r).history
  legal_turned history r legal = turned_is (λ (t : Turned). IsLegal limits capacity t.history) history r (λ _. legal) (λ _. legal_told limits capacity history r.who (due_in r) (told_to history r) legal refl)

  pub last_turned : (history : List Entry) (r : Role) → is_last_turn (turn_in history r).turn ≡ (turn_in history r).role.ended
  last_turned history r =
      turned_is (λ (t : Turned). is_last_turn t.turn ≡ t.role.ended) history r (λ _. refl)
      (λ on. told_on (told_to history r) ∙ sym (took_ended g r (due_in r) (told_to history r) ∙ or_off r.ended _ on))

  -- ---- where all is over

  stage_at : (history : List Entry) (r : Role) → IsOf g limits capacity history (own r.who history) r → r.place.stage ≡ stage_of r.who history
  stage_at history r of = ap (λ (p : Place). p.stage) of.place_is ∙ stage_is g r.who (opening r.who) (own r.who history)

  module _ (history : List Entry) (facts : MachineFacts limits history) (over : is_over_in limits capacity history ≡ true) where
    over_rests : (who : Who) (at : Stage) → IsActor limits who → at ≡ stage_of who history → is_stage_of who at ≡ true → is_in_part at ≡ false
    over_rests (Client number) at actor is sorted = ap is_in_part (is ∙ facts.over_clients (room_of (record { limits = limits; capacity = capacity; history = history })) over number actor)
    over_rests (Worker number) Playing actor is sorted = absurd (cc)
    over_rests (Worker number) (Busy routine) actor is sorted = absurd (on_off (is_busy_stage (stage_of (Worker number) history)) (ap is_busy_stage (sym is)) (facts.over_workers (room_of (record { limits = limits; capacity = capacity; history = history })) over number actor))
    over_rests (Worker number) Over actor is sorted = refl
    over_rests (Worker number) Away actor is sorted = refl
    over_rests (Worker number) Idle actor is sorted = refl

    -- each ends
    pub over_ends : (r : Role) → IsOf g limits capacity history (own r.who history) r → ends limits capacity history r ≡ true
    over_ends r of =
        let rests = over_rests r.who r.place.stage of.actor (stage_at history r of) of.sorted in
        or_on r.ended _ (ap (ends_at r.place.stage) over ∙ rest_ends r.place.stage rests)

    pub over_stays : (r : Role) → IsOf g limits capacity history (own r.who history) r → (turn_in history r).history ≡ history
    over_stays r of = turned_is (λ (t : Turned). t.history ≡ history) history r (λ _. refl) (λ on. absurd (on_off (ends limits capacity history r) (over_ends r of) on))

    -- and no client plays on
    none_open : (at : Stage) → is_open at ≡ true → is_in_part at ≡ false → ⊥
    none_open Playing plays rests = absurd cc
    none_open (Busy routine) plays rests = absurd cc
    none_open Over plays rests = absurd cc
    none_open Away plays rests = absurd cc
    none_open Idle plays rests = absurd cc

    pub over_open : (r : Role) → IsOf g limits capacity history (own r.who history) r → is_open r.place.stage ≡ true → ⊥
    over_open r of plays = none_open r.place.stage plays (over_rests r.who r.place.stage of.actor (stage_at history r of) of.sorted)

  abbrev WellAt : List Entry → Role → Type 0
  WellAt history r = r.ended ≡ true → (r.place.stage ≡ Over) ⊎ (is_over_in limits capacity history ≡ true)

  well_turned : (history : List Entry) (r : Role) → WellAt history r → WellAt (turn_in history r).history (turn_in history r).role
  well_turned history r well =
      turned_is (λ (t : Turned). WellAt t.history t.role) history r (λ ends _. well_by r.ended r.place.stage _ well ends)
      (λ on ended. absurd (on_off r.ended (sym (took_ended g r (due_in r) (told_to history r)) ∙ ended) (or_off r.ended _ on)))

  well_kept : (history : List Entry) (r q : Role) → IsLegal limits capacity history → IsOf g limits capacity history (own r.who history) r → (q.place.stage ≡ Over) ⊎ (is_over_in limits capacity history ≡ true)
      → (q.place.stage ≡ Over) ⊎ (is_over_in limits capacity (turn_in history r).history ≡ true)
  well_kept history r q legal of (inl finished) = inl finished
  well_kept history r q legal of (inr over) = inr (ap (is_over_in limits capacity) (over_stays history (machine_facts limits capacity history legal) over r of) ∙ over)

  well_grows : (history : List Entry) (r q : Role) → IsLegal limits capacity history → IsOf g limits capacity history (own r.who history) r → WellAt history q → WellAt (turn_in history r).history q
  well_grows history r q legal of well ended = well_kept history r q legal of (well ended)

-- ---- lists of roles

mapped_at : {X Y : Type 0} → (f : X → Y) (o : Option X) (y : Y) → option_map f o ≡ Some y → (x : X) × (o ≡ Some x) × (f x ≡ y)
mapped_at f None y is = absurd (cc)
mapped_at f (Some x) y is = (x, refl, cc)

pub at_place : {X Y : Type 0} → (f : X → Y) (xs : List X) (i : ℕ) (y : Y) → slice_get (map f xs) i ≡ Some y → (x : X) × (slice_get xs i ≡ Some x) × (f x ≡ y)
at_place f xs i y is = mapped_at f (slice_get xs i) y (sym (slice_get-map f xs i) ∙ is)

pub who_at : (xs ys : List Role) (i : ℕ) (r : Role) → map who_of ys ≡ map who_of xs → slice_get ys i ≡ Some r → (q : Role) × (slice_get xs i ≡ Some q) × (q.who ≡ r.who)
who_at xs ys i r same is = at_place who_of xs i r.who (ap (λ (l : List Who). slice_get l i) (sym same) ∙ (slice_get-map who_of ys i ∙ ap (option_map who_of) is))

-- no two are of one actor, where the others were of the same actors
pub once_by : (xs ys : List Role) → map who_of ys ≡ map who_of xs → ((i j : ℕ) (r q : Role) → slice_get xs i ≡ Some r → slice_get xs j ≡ Some q → r.who ≡ q.who → i ≡ j)
    → (i j : ℕ) (r q : Role) → slice_get ys i ≡ Some r → slice_get ys j ≡ Some q → r.who ≡ q.who → i ≡ j
once_by xs ys same once i j r q at_i at_j is =
    let a = who_at xs ys i r same at_i in
    let b = who_at xs ys j q same at_j in
    once i j a.0 b.0 a.1 b.1 (a.2 ∙ (is ∙ sym b.2))

same_or : (k i : ℕ) (b : Bool) → eqb k i ≡ b → (k ≡ i) ⊎ (k ≡ i → ⊥)
same_or k i true is = inl (eqb-true k i is)
same_or k i false is = inr (λ same. on_off (eqb k i) (eq-eqb k i same) is)

-- one is put in its place, and the rest hold too
put_at : {X : Type 0} → (P : X → Type 0) (xs : List X) (i k : ℕ) (y d : X) → i < length xs → k < length xs → P y → ((k ≡ i → ⊥) → P (get_or xs k d)) → (k ≡ i) ⊎ (k ≡ i → ⊥) → P (get_or (set xs i y) k d)
put_at P xs i k y d there inside here other (inl same) = subst P (sym (ap (λ (n : ℕ). get_or (set xs i y) n d) same ∙ get_or-set_same xs i y d there)) here
put_at P xs i k y d there inside here other (inr apart) = subst P (sym (get_or-set_other xs i k y d apart)) (other apart)

all_put : {X : Type 0} → (P : X → Type 0) (xs : List X) (i : ℕ) (y : X) → i < length xs → P y → ((k : ℕ) (d : X) → k < length xs → (k ≡ i → ⊥) → P (get_or xs k d)) → All P (set xs i y)
all_put P xs i y there here others k d inside =
    let within : k < length xs = let n = length-set xs i y in omega (arith, n, inside) in
    put_at P xs i k y d there within here (others k d within) (same_or k i (eqb k i) refl)

-- ---- a worker that had ended asks again

pub wakes_next : (roles later : List Role) (place : ℕ) (r : Role) → place < length later → (length later ≡ length roles) × (later ≡ map awake (take place roles) ++ drop place roles) → r ≡ get_or later place r
    → (length (set later place (awake r)) ≡ length roles) × (set later place (awake r) ≡ map awake (take (place + 1) roles) ++ drop (place + 1) roles)
wakes_next roles later place r there so at =
    let inside : place < length roles = let n = so.0 in omega (arith, n, there) in
    let x : Role = get_or roles place r in
    let one : place + 1 ≡ suc place = omega arith in
    let done : List Role = map awake (take place roles) in
    let count : length done ≡ place = length-map (take place roles) awake ∙ length-take-le place roles (omega (arith, inside)) in
    let is : later ≡ done ++ x ∷ drop (suc place) roles = so.1 ∙ ap (λ (l : List Role). done ++ l) (drop-cons roles place r inside) in
    let same : r ≡ x = at ∙ (ap (λ (l : List Role). get_or l place r) is ∙ (ap (λ (n : ℕ). get_or (done ++ x ∷ drop (suc place) roles) n r) (sym count) ∙ get_or-append_seam done x (drop (suc place) roles) r)) in
    let front : map awake (take (place + 1) roles) ≡ done ++ awake x ∷ [] = ap (map awake) (take_more roles place r inside) ∙ map-append awake (take place roles) (x ∷ []) in (
      length-set later place (awake r) ∙ so.0,
      ap (λ (l : List Role). set l place (awake r)) is ∙ (set_at done x (drop (suc place) roles) (awake r) place count
          ∙ (ap (λ (q : Role). done ++ awake q ∷ drop (suc place) roles) same
          ∙ (sym (append_assoc done (awake x ∷ []) (drop (suc place) roles))
          ∙ (ap (λ (l : List Role). l ++ drop (suc place) roles) (sym front) ∙ ap (λ (n : ℕ). map awake (take (place + 1) roles) ++ drop n roles) (sym one))))),
    )

pub wakes_all : (roles later : List Role) (place : ℕ) → place ≡ length later → (length later ≡ length roles) × (later ≡ map awake (take place roles) ++ drop place roles) → later ≡ map awake roles
wakes_all roles later place end so =
    let all : place ≡ length roles = end ∙ so.0 in
    so.1 ∙ (ap (λ (n : ℕ). map awake (take n roles) ++ drop n roles) all ∙ (ap (λ (l : List Role). map awake l ++ drop (length roles) roles) (take-length roles) ∙ (ap (λ (l : List Role). map awake roles ++ l) (drop-length roles) ∙ append-nil (map awake roles))))

-- ---- roles of a machine, and a turn of one of them

module _ (g : Given) where
  pub record AreStanding (now : Recording) (later : List Role) : Type 0 where
    pub legal : IsLegal now.limits now.capacity now.history
    pub all : AllOf g now.limits now.capacity now.history later
    pub well : EndedWell now.limits now.capacity now.history later

  module _ (now : Recording) (later : List Role) (place : ℕ) (r : Role) (there : place < length later) (so : AreStanding now later) (at : r ≡ get_or later place r) where
    abbrev next_of : Turned
    next_of = turned g now.limits now.capacity now.history r

    is_at : slice_get later place ≡ Some r
    is_at = slice_get-get_or later place r there ∙ ap Some (sym at)

    of_it : IsOf g now.limits now.capacity now.history (own r.who now.history) r
    of_it = subst (λ (q : Role). IsOf g now.limits now.capacity now.history (own q.who now.history) q) (sym at) (so.all.of place r there)

    well_it : WellAt g now.limits now.capacity now.history r
    well_it = subst (λ (q : Role). WellAt g now.limits now.capacity now.history q) (sym at) (so.well place r there)

    of_other : (k : ℕ) (d : Role) → k < length later → (k ≡ place → ⊥) → IsOf g now.limits now.capacity next_of.history (own (get_or later k d).who next_of.history) (get_or later k d)
    of_other k d inside apart =
        let q : Role = get_or later k d in
        let adds = turned_adds g now.limits now.capacity now.history r in
        let others : r.who ≡ q.who → ⊥ = λ same. apart (so.all.once k place q r (slice_get-get_or later k d inside) is_at (sym same)) in
        let grown = of_grows g now.limits now.capacity now.history next_of.history (own q.who now.history) q (adds_starts r.who now.history next_of.history adds) (so.all.of k d inside) in
        subst (λ (entries : List Entry). IsOf g now.limits now.capacity next_of.history entries q) (sym (adds_apart r.who q.who now.history next_of.history adds others)) grown

    whos : map who_of (set later place next_of.role) ≡ map who_of later
    whos = map-set_same who_of later place next_of.role r (turned_who g now.limits now.capacity now.history r ∙ ap who_of at)

    -- they are behind it
    pub turn_stands : IsOf g now.limits now.capacity next_of.history (own next_of.role.who next_of.history) next_of.role → AreStanding (record now { history = next_of.history }) (set later place next_of.role)
    turn_stands of = record {
      legal = legal_turned g now.limits now.capacity now.history r so.legal;
      all = record {
        of = all_put (λ (q : Role). IsOf g now.limits now.capacity next_of.history (own q.who next_of.history) q) later place next_of.role there of of_other;
        once = once_by later (set later place next_of.role) whos so.all.once;
      };
      well = all_put (WellAt g now.limits now.capacity next_of.history) later place next_of.role there (well_turned g now.limits now.capacity now.history r well_it)
          (λ k d inside apart. well_grows g now.limits now.capacity now.history r (get_or later k d) so.legal of_it (so.well k d inside));
    }

-- ---- a round

abbrev has_ended : Role → Bool
has_ended r = r.ended

module _ (g : Given) where
  -- the round from here on, behind those that have had their turn
  abbrev join : Limits → ℕ → List Entry → List Role → List Role → Scene
  join limits capacity history done todo =
      let rest = round_of g limits capacity history todo in
      scene rest.history (done ++ rest.roles)

  join_next : (limits : Limits) (capacity : ℕ) (history : List Entry) (done : List Role) (r : Role) (todo : List Role)
      → join limits capacity history done (r ∷ todo) ≡ join limits capacity (turned g limits capacity history r).history (done ++ (turned g limits capacity history r).role ∷ []) todo
  join_next limits capacity history done r todo =
      let t = turned g limits capacity history r in
      let rest = round_of g limits capacity t.history todo in
      ap (scene rest.history) (sym (append_assoc done (t.role ∷ []) rest.roles))

  pub record RoundSoFar (start now : Recording) (roles later : List Role) (place : ℕ) (all_ended : Bool) : Type 0 where
    pub same : IsSameMachine start now
    pub legal : IsLegal now.limits now.capacity now.history
    pub count : length later ≡ length roles
    pub played : round_of g now.limits now.capacity start.history roles ≡ join now.limits now.capacity now.history (take place later) (drop place later)
    pub all : AllOf g now.limits now.capacity now.history later
    pub well : EndedWell now.limits now.capacity now.history later
    pub ended : all_ended ≡ list_all has_ended (take place later)

  pub round_begins : (start : Recording) (roles : List Role) → IsLegal start.limits start.capacity start.history → AllOf g start.limits start.capacity start.history roles
      → EndedWell start.limits start.capacity start.history roles → RoundSoFar start start roles roles 0 true
  round_begins start roles legal all well = record {
    same = record { limits = refl; capacity = refl };
    legal = legal;
    count = refl;
    played = refl;
    all = all;
    well = well;
    ended = refl;
  }

  pub still_on : (a still last x : Bool) → a ≡ true → still ≡ last → last ≡ x → still ≡ (if a then x else false)
  still_on true still last x on is last_is = is ∙ last_is
  still_on false still last x on is last_is = absurd (cc)

  pub still_off : (a still x : Bool) → a ≡ false → still ≡ false → still ≡ (if a then x else false)
  still_off true still x off is = absurd (cc)
  still_off false still x off is = is

  -- one more has ended where that was its last turn
  still_is : (a b q : Bool) → b ≡ q → (if a then b else false) ≡ (a && (q && true))
  still_is true true q is = let e : true ≡ q = is in ap (λ (x : Bool). x && true) e
  still_is true false q is = let e : false ≡ q = is in ap (λ (x : Bool). x && true) e
  still_is false b q is = refl

  module _ (start now : Recording) (roles later : List Role) (place : ℕ) (all_ended : Bool) (r : Role) (there : place < length later) (so : RoundSoFar start now roles later place all_ended) (at : r ≡ get_or later place r) where
    abbrev next : Turned
    next = turned g now.limits now.capacity now.history r

    abbrev turned_to : Recording
    turned_to = record now { history = next.history }

    -- one more has had its turn
    goes_on : IsOf g now.limits now.capacity next.history (own next.role.who next.history) next.role → RoundSoFar start turned_to roles (set later place next.role) (place + 1) (if all_ended then is_last_turn next.turn else false)
    goes_on of =
        let one : place + 1 ≡ suc place = omega arith in
        let front : take (place + 1) (set later place next.role) ≡ take place later ++ next.role ∷ [] = take_more_set later place next.role there in
        let behind : drop (place + 1) (set later place next.role) ≡ drop (suc place) later = drop-set-lt (place + 1) later place next.role (omega arith) ∙ ap (λ (n : ℕ). drop n later) one in
        let todo : drop place later ≡ r ∷ drop (suc place) later = drop-cons later place r there ∙ ap (λ (q : Role). q ∷ drop (suc place) later) (sym at) in
        let stands = turn_stands g now later place r there (record { legal = so.legal; all = so.all; well = so.well }) at of in
        record {
          same = record { limits = so.same.limits; capacity = so.same.capacity };
          legal = stands.legal;
          count = length-set later place next.role ∙ so.count;
          played = so.played ∙ (ap (join now.limits now.capacity now.history (take place later)) todo ∙ (join_next now.limits now.capacity now.history (take place later) r (drop (suc place) later)
              ∙ (ap (λ (done : List Role). join now.limits now.capacity next.history done (drop (suc place) later)) (sym front) ∙ ap (join now.limits now.capacity next.history (take (place + 1) (set later place next.role))) (sym behind))));
          all = stands.all;
          well = stands.well;
          ended = still_is all_ended (is_last_turn next.turn) next.role.ended (last_turned g now.limits now.capacity now.history r)
              ∙ (ap (λ (b : Bool). b && (next.role.ended && true)) so.ended ∙ (sym (list_all-append has_ended (take place later) (next.role ∷ [])) ∙ ap (list_all has_ended) (sym front)));
        }

    pub round_goes_on : (new : Recording) (turn : Turn) (b : Role) (still : Bool) → b ≡ next.role → new ≡ turned_to → turn ≡ next.turn → still ≡ (if all_ended then is_last_turn turn else false)
        → IsOf g new.limits new.capacity new.history (own b.who new.history) b → RoundSoFar start new roles (set later place b) (place + 1) still
    round_goes_on new turn b still role_is new_is turn_is still_is of =
        let of_then : IsOf g now.limits now.capacity next.history (own next.role.who next.history) next.role =
        subst (λ (q : Role). IsOf g now.limits now.capacity next.history (own q.who next.history) q) role_is (subst (λ (x : Recording). IsOf g x.limits x.capacity x.history (own b.who x.history) b) new_is of) in
        let ended : still ≡ (if all_ended then is_last_turn next.turn else false) = still_is ∙ ap (λ (t : Turn). if all_ended then is_last_turn t else false) turn_is in
        subst (λ (x : Bool). RoundSoFar start new roles (set later place b) (place + 1) x) (sym ended) (
        subst (λ (x : Recording). RoundSoFar start x roles (set later place b) (place + 1) (if all_ended then is_last_turn next.turn else false)) (sym new_is) (
        subst (λ (q : Role). RoundSoFar start turned_to roles (set later place q) (place + 1) (if all_ended then is_last_turn next.turn else false)) (sym role_is) (goes_on of_then)))

  pub record RoundPlayed (start now : Recording) (roles later : List Role) (all_ended : Bool) : Type 0 where
    pub same : IsSameMachine start now
    pub legal : IsLegal now.limits now.capacity now.history
    pub played : scene now.history later ≡ round_of g start.limits start.capacity start.history roles
    pub all : AllOf g now.limits now.capacity now.history later
    pub well : EndedWell now.limits now.capacity now.history later
    pub ended : (all_ended ≡ true) ↔ HaveEnded later

  pub round_ends : (start now : Recording) (roles later : List Role) (place : ℕ) (all_ended : Bool) → place ≡ length later → RoundSoFar start now roles later place all_ended → RoundPlayed start now roles later all_ended
  round_ends start now roles later place all_ended end so =
      let front : take place later ≡ later = ap (λ (n : ℕ). take n later) end ∙ take-length later in
      let behind : drop place later ≡ [] = ap (λ (n : ℕ). drop n later) end ∙ drop-length later in
      let played : round_of g now.limits now.capacity start.history roles ≡ scene now.history later =
      so.played ∙ (ap (join now.limits now.capacity now.history (take place later)) behind ∙ ap (scene now.history) (append-nil (take place later) ∙ front)) in
      record {
        same = so.same;
        legal = so.legal;
        played = sym played ∙ (ap (λ (l : Limits). round_of g l now.capacity start.history roles) so.same.limits ∙ ap (λ (n : ℕ). round_of g start.limits n start.history roles) so.same.capacity);
        all = so.all;
        well = so.well;
        ended =
            let is : all_ended ≡ list_all has_ended later = so.ended ∙ ap (list_all has_ended) front in
            ((λ both. AllPass-from_list_all has_ended later (sym is ∙ both)), (λ each. is ∙ list_all-from_AllPass has_ended later each));
      }
