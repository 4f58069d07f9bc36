-- The places of actors, and what is kept by them as waits begin, change and end.
use Rattle.std.proofs.Common.{◌≡◌, ◌≢◌, ℕ, ◌+◌, ◌-◌, ◌<◌, ◌≤◌, Bool, true, false, cond, not, ◌&&◌, ◌||◌, List, [], ◌∷◌, ◌++◌, length, map}
use Rattle.std.proofs.Common.{nat_le, nat_lt, get_or, slice_set, Option, Some, None, is_some, refl, sym, ap, ◌∙◌, subst, arith, find, option_map, get_or-set_same, get_or-set_other, ltb-true, ltb-false}
use Rattle.std.specs.List.{AllByRecursion, list_any}
use Rattle.std.proofs.lemmas.Bool.{leb-true, le-leb, and_parts, false≢true}
use Rattle.tp_base.specs.declared.ids.Who.{Who}
use Rattle.tp_base.specs.declared.ids.Who.TheVariants.{Client, Worker}
use Rattle.tp_base.specs.declared.limits.Limits.{Limits}
use Rattle.tp_base.specs.Actors.{is_same_actor}
use Rattle.tp_model.specs.World.{BegunWait}
use Rattle.tp_model.proofs.Refusals.{neither, same_actor_is, is_own_actor}
use Rattle.begun_waits.specs.Begun.{actor_at, is_waiting, place_of, place_within, wait_among, without_waits}
use Rattle.begun_waits.specs.Kept.{IsOfActor}

-- ---- places

pub record IsWithin (first count number place : ℕ) : Type 0 where
  pub least : 1 ≤ number
  pub most : number ≤ count
  pub at : place ≡ first + (number - 1)

within : (first count number place : ℕ) → place_within first count number ≡ Some place → IsWithin first count number place
within first count number place e =
    elim (nat_le 1 number && nat_le number count) as (λ b. (nat_le 1 number && nat_le number count) ≡ b → cond b (Some (first + (number - 1))) None ≡ Some place → IsWithin first count number place) [
      | true ↦ λ t h.
          let in_range = and_parts (nat_le 1 number) (nat_le number count) t in
          let is : first + (number - 1) ≡ place = cc in
          record { least = leb-true 1 number in_range.0; most = leb-true number count in_range.1; at = sym is }
      | false ↦ λ _ h. absurd cc
    ] refl e

-- each actor has its own
pub one_place : (limits : Limits) (a b : Who) (place : ℕ) → place_of limits a ≡ Some place → place_of limits b ≡ Some place → a ≡ b
one_place limits (Client m) (Client n) place ea eb =
    let ra = within 0 limits.clients m place ea in
    let rb = within 0 limits.clients n place eb in
    ap Client (omega (arith, ra.least, ra.at, rb.least, rb.at))
one_place limits (Worker m) (Worker n) place ea eb =
    let ra = within limits.clients limits.workers m place ea in
    let rb = within limits.clients limits.workers n place eb in
    ap Worker (omega (arith, ra.least, ra.at, rb.least, rb.at))
one_place limits (Client m) (Worker n) place ea eb =
    let ra = within 0 limits.clients m place ea in
    let rb = within limits.clients limits.workers n place eb in
    absurd (omega (arith, ra.least, ra.most, ra.at, rb.least, rb.at))
one_place limits (Worker m) (Client n) place ea eb =
    let ra = within limits.clients limits.workers m place ea in
    let rb = within 0 limits.clients n place eb in
    absurd (omega (arith, ra.least, ra.at, rb.least, rb.most, rb.at))

-- and it is there
pub place_there : (limits : Limits) (a : Who) (place : ℕ) → place_of limits a ≡ Some place → place < limits.clients + limits.workers
place_there limits (Client n) place e = let r = within 0 limits.clients n place e in omega (arith, r.least, r.most, r.at)
place_there limits (Worker n) place e = let r = within limits.clients limits.workers n place e in omega (arith, r.least, r.most, r.at)

pub within_place : (first count number : ℕ) → 1 ≤ number → number ≤ count → place_within first count number ≡ Some (first + (number - 1))
within_place first count number least most = rw (le-leb 1 number least, le-leb number count most) refl

-- who stands at a place has it
pub place_at : (limits : Limits) (place : ℕ) → place < limits.clients + limits.workers → place_of limits (actor_at limits place) ≡ Some place
place_at limits place there =
    elim (nat_lt place limits.clients) as (λ b. nat_lt place limits.clients ≡ b → place_of limits (cond b (Client (place + 1)) (Worker (place - limits.clients + 1))) ≡ Some place) [
      | true ↦ λ e. within_place 0 limits.clients (place + 1) (omega arith) (omega (arith, ltb-true place limits.clients e)) ∙ ap (λ n. Some n) (omega arith)
      | false ↦ λ e.
          let behind : limits.clients ≤ place = ltb-false place limits.clients e in
          within_place limits.clients limits.workers (place - limits.clients + 1) (omega arith) (omega (arith, there, behind)) ∙ ap (λ n. Some n) (omega (arith, behind))
    ] refl

pub at_place : (limits : Limits) (who : Who) (place : ℕ) → place_of limits who ≡ Some place → actor_at limits place ≡ who
at_place limits who place at = one_place limits (actor_at limits place) who place (place_at limits place (place_there limits who place at)) at

-- ---- who waits

pub none_found : {X : Type 0} (p : X → Bool) (xs : List X) → list_any p xs ≡ false → find p xs ≡ None
none_found p [] none = refl
none_found p (x ∷ xs) none = let h = neither (p x) (list_any p xs) none in ap (λ b. cond b (Some x) (find p xs)) h.0 ∙ none_found p xs h.1

pub some_found : {X : Type 0} (p : X → Bool) (xs : List X) → is_some (find p xs) ≡ list_any p xs
some_found p [] = refl
some_found p (x ∷ xs) = elim (p x) as (λ b. is_some (cond b (Some x) (find p xs)) ≡ (b || list_any p xs)) [ true ↦ refl | false ↦ some_found p xs ]

-- who is no actor of the machine has no wait
pub no_stranger : (limits : Limits) (who : Who) → place_of limits who ≡ None → (bs : List BegunWait) → AllByRecursion (IsOfActor limits) bs → is_waiting bs who ≡ false
no_stranger limits who nowhere [] h = refl
no_stranger limits who nowhere (b ∷ bs) h =
    elim (is_same_actor b.actor who) as (λ t. is_same_actor b.actor who ≡ t → (t || is_waiting bs who) ≡ false) [
      | true ↦ λ e. absurd (false≢true (ap is_some (sym nowhere) ∙ ap (λ a. is_some (place_of limits a)) (sym (same_actor_is b.actor who e)) ∙ h.0))
      | false ↦ λ _. no_stranger limits who nowhere bs h.1
    ] refl

-- ---- the wait of an actor, after one more

pub begun_found : (b : BegunWait) (bs : List BegunWait) → is_waiting bs b.actor ≡ false → wait_among (bs ++ b ∷ []) b.actor ≡ Some b
begun_found b [] h = ap (λ t. cond t (Some b) None) (is_own_actor b.actor)
begun_found b (x ∷ bs) h =
    let parts = neither (is_same_actor x.actor b.actor) (is_waiting bs b.actor) h in
    ap (λ t. cond t (Some x) (wait_among (bs ++ b ∷ []) b.actor)) parts.0 ∙ begun_found b bs parts.1

pub begun_elsewhere : (b : BegunWait) (other : Who) → is_same_actor b.actor other ≡ false → (bs : List BegunWait) → wait_among (bs ++ b ∷ []) other ≡ wait_among bs other
begun_elsewhere b other e [] = ap (λ t. cond t (Some b) None) e
begun_elsewhere b other e (x ∷ bs) = ap (λ t. cond (is_same_actor x.actor other) (Some x) t) (begun_elsewhere b other e bs)

-- after its end

pub ended_gone : (who : Who) (bs : List BegunWait) → wait_among (without_waits who bs) who ≡ None
ended_gone who [] = refl
ended_gone who (x ∷ bs) =
    elim (is_same_actor x.actor who) as (λ t. is_same_actor x.actor who ≡ t → wait_among (cond (not t) (x ∷ without_waits who bs) (without_waits who bs)) who ≡ None) [
      | true ↦ λ _. ended_gone who bs
      | false ↦ λ e. ap (λ t. cond t (Some x) (wait_among (without_waits who bs) who)) e ∙ ended_gone who bs
    ] refl

pub ended_elsewhere : (who other : Who) → is_same_actor who other ≡ false → (bs : List BegunWait) → wait_among (without_waits who bs) other ≡ wait_among bs other
ended_elsewhere who other e [] = refl
ended_elsewhere who other e (x ∷ bs) =
    elim (is_same_actor x.actor who) as (λ t. is_same_actor x.actor who ≡ t → wait_among (cond (not t) (x ∷ without_waits who bs) (without_waits who bs)) other ≡ wait_among (x ∷ bs) other) [
      | true ↦ λ same.
          let apart : is_same_actor x.actor other ≡ false = ap (λ a. is_same_actor a other) (same_actor_is x.actor who same) ∙ e in
          ended_elsewhere who other e bs ∙ sym (ap (λ t. cond t (Some x) (wait_among bs other)) apart)
      | false ↦ λ _. ap (λ t. cond (is_same_actor x.actor other) (Some x) t) (ended_elsewhere who other e bs)
    ] refl

-- and where it changes, and stays of the actor
module _ (who : Who) (f : BegunWait → BegunWait) (stays : (b : BegunWait) → (f b).actor ≡ b.actor) where
  abbrev pub changed : List BegunWait → List BegunWait
  changed bs = map (λ (b : BegunWait). cond (is_same_actor b.actor who) (f b) b) bs

  pub same_actor : (b : BegunWait) → (cond (is_same_actor b.actor who) (f b) b).actor ≡ b.actor
  same_actor b = elim (is_same_actor b.actor who) as (λ t. (cond t (f b) b).actor ≡ b.actor) [ true ↦ stays b | false ↦ refl ]

  pub changed_to : (bs : List BegunWait) → wait_among (changed bs) who ≡ option_map f (wait_among bs who)
  changed_to [] = refl
  changed_to (b ∷ bs) =
      ap (λ a. cond (is_same_actor a who) (Some (cond (is_same_actor b.actor who) (f b) b)) (wait_among (changed bs) who)) (same_actor b)
      ∙ elim (is_same_actor b.actor who) as (λ t. cond t (Some (cond t (f b) b)) (wait_among (changed bs) who) ≡ option_map f (cond t (Some b) (wait_among bs who))) [ true ↦ refl | false ↦ changed_to bs ]

  pub changed_elsewhere : (other : Who) → is_same_actor who other ≡ false → (bs : List BegunWait) → wait_among (changed bs) other ≡ wait_among bs other
  changed_elsewhere other e [] = refl
  changed_elsewhere other e (b ∷ bs) =
      ap (λ a. cond (is_same_actor a other) (Some (cond (is_same_actor b.actor who) (f b) b)) (wait_among (changed bs) other)) (same_actor b)
      ∙ elim (is_same_actor b.actor who) as (λ t. is_same_actor b.actor who ≡ t → cond (is_same_actor b.actor other) (Some (cond t (f b) b)) (wait_among (changed bs) other) ≡ cond (is_same_actor b.actor other) (Some b) (wait_among bs other)) [
        | true ↦ λ same.
            let apart : is_same_actor b.actor other ≡ false = ap (λ a. is_same_actor a other) (same_actor_is b.actor who same) ∙ e in
            ap (λ t. cond t (Some (f b)) (wait_among (changed bs) other)) apart ∙ changed_elsewhere other e bs ∙ sym (ap (λ t. cond t (Some b) (wait_among bs other)) apart)
        | false ↦ λ _. ap (λ o. cond (is_same_actor b.actor other) (Some b) o) (changed_elsewhere other e bs)
      ] refl

  -- all are of actors that they were of
  pub changed_actors : (limits : Limits) (bs : List BegunWait) → AllByRecursion (IsOfActor limits) bs → AllByRecursion (IsOfActor limits) (changed bs)
  changed_actors limits [] all = tt
  changed_actors limits (b ∷ bs) all = (ap (λ a. is_some (place_of limits a)) (same_actor b) ∙ all.0, changed_actors limits bs all.1)

-- ---- what is kept of the wait of each actor, by the actor's place

abbrev pub IsNoted : {X : Type 0} → Limits → (Option BegunWait → X) → X → List X → List BegunWait → Type 0
IsNoted limits f none xs waits = (who : Who) (place : ℕ) → place_of limits who ≡ Some place → get_or xs place none ≡ f (wait_among waits who)

-- another wait of one actor
pub noted_set : {X : Type 0} (limits : Limits) (f : Option BegunWait → X) (none : X) (xs : List X) (waits later : List BegunWait) (who : Who) (place : ℕ) (x : X)
    → place_of limits who ≡ Some place → place < length xs → x ≡ f (wait_among later who) → ((other : Who) → is_same_actor who other ≡ false → wait_among later other ≡ wait_among waits other)
    → IsNoted limits f none xs waits → IsNoted limits f none (slice_set xs place x) later
noted_set limits f none xs waits later who place x at within here others noted other p there =
    elim (is_same_actor who other) as (λ b. is_same_actor who other ≡ b → get_or (slice_set xs place x) p none ≡ f (wait_among later other)) [
      | true ↦ λ e.
          let same : who ≡ other = same_actor_is who other e in
          let same_place : place ≡ p = some_same place p (sym at ∙ ap (place_of limits) same ∙ there) in
          subst (λ n. get_or (slice_set xs place x) n none ≡ f (wait_among later other)) same_place
          (get_or-set_same xs place x none within ∙ here ∙ ap (λ a. f (wait_among later a)) same)
      | false ↦ λ e.
          let apart : p ≢ place = λ same. false≢true (sym e ∙ ap (is_same_actor who) (one_place limits other who place (subst (λ n. place_of limits other ≡ Some n) same there) at) ∙ is_own_actor who) in
          get_or-set_other xs place p x none apart ∙ noted other p there ∙ ap f (sym (others other e))
    ] refl
  where
    some_same : (m n : ℕ) → Some m ≡ Some n → m ≡ n
    some_same m n e = cc

-- what changes of it is nothing that is kept
pub noted_still : {X : Type 0} (limits : Limits) (f : Option BegunWait → X) (none : X) (xs : List X) (waits later : List BegunWait) (who : Who) → f (wait_among later who) ≡ f (wait_among waits who) → ((other : Who) → is_same_actor who other ≡ false → wait_among later other ≡ wait_among waits other)
    → IsNoted limits f none xs waits → IsNoted limits f none xs later
noted_still limits f none xs waits later who here others noted other p there =
    noted other p there
    ∙ elim (is_same_actor who other) as (λ b. is_same_actor who other ≡ b → f (wait_among waits other) ≡ f (wait_among later other)) [
      | true ↦ λ e. ap (λ a. f (wait_among waits a)) (sym (same_actor_is who other e)) ∙ sym here ∙ ap (λ a. f (wait_among later a)) (same_actor_is who other e)
      | false ↦ λ e. ap f (sym (others other e))
    ] refl
