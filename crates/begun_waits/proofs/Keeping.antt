-- What is kept by the places of actors, as waits begin, are given notices, give them and end.
use Rattle.std.proofs.Common.{◌≡◌, ℕ, ◌+◌, ◌<◌, ◌≤◌, true, false, List, [], ◌∷◌, ◌++◌, drop, filter, length, map, not, if◌then◌else◌, ⊎_elim, Option, Some, None, IsSome, is_some, refl, sym, ap, ◌∙◌, arith, get_or, option_map, slice_set, length-set}
use Rattle.std.specs.List.{AllByRecursion, range_with_len}
use Rattle.std.proofs.lemmas.List.{get_or-drop, get_or_past, length-drop}
use Rattle.std.proofs.lemmas.Bool.{cases_lt, false≢true}
use Rattle.tp_base.specs.declared.ids.Who.{Who}
use Rattle.tp_base.specs.declared.ids.Who.TheVariants.{Worker}
use Rattle.tp_base.specs.declared.ids.ObjectId.{ObjectId}
use Rattle.tp_base.specs.declared.limits.Limits.{Limits}
use Rattle.tp_base.specs.Actors.{is_same_actor}
use Rattle.tp_model.specs.World.{BegunWait}
use Rattle.tp_model.specs.Changes.{give_notice, notified}
use Rattle.tp_model.proofs.Lists.{all_append, all_filter}
use Rattle.tp_model.proofs.Refusals.{neither}
use Rattle.begun_waits.specs.declared.Purpose.{Purpose}
use Rattle.begun_waits.specs.Begun.{actor_at, is_noticed, is_waiting, notices_by, place_of, wait_among, with_notices, without_waits}
use Rattle.begun_waits.specs.Kept.{AreKept, IsOfActor, purpose_of, waiting_from}
use Rattle.begun_waits.specs.Notices.{Told, is_listed, told_at, with_told}
use Rattle.begun_waits.proofs.Actors.{begun_elsewhere, begun_found, changed_actors, changed_elsewhere, changed_to, ended_elsewhere, ended_gone, no_stranger, none_found, noted_set, noted_still, place_at, place_there, some_found, within_place}
use Rattle.begun_waits.proofs.Waiting.{counted_by}

-- ---- what is read

purpose_some : (o : Option BegunWait) → is_some (option_map purpose_of o) ≡ is_some o
purpose_some None = refl
purpose_some (Some b) = refl

pub purpose_begun : (waits : List BegunWait) (who : Who) → is_some (option_map purpose_of (wait_among waits who)) ≡ is_waiting waits who
purpose_begun waits who = purpose_some (wait_among waits who) ∙ some_found (λ (b : BegunWait). is_same_actor b.actor who) waits

-- ---- notices of an object

none_of : (object : ObjectId) (who : Who) (waits : List BegunWait) → is_noticed waits object ≡ false → is_listed object (notices_by (wait_among waits who)) ≡ false
none_of object who [] none = refl
none_of object who (b ∷ bs) none =
    let parts = neither (is_listed object b.notices) (is_noticed bs object) none in
    elim (is_same_actor b.actor who) as (λ t. is_listed object (notices_by (if t then Some b else wait_among bs who)) ≡ false) [ true ↦ parts.0 | false ↦ none_of object who bs parts.1 ]

module _ (limits : Limits) (purposes : List (Option Purpose)) (notices : Told) (waits : List BegunWait) (waiting : ℕ) (k : AreKept limits purposes notices waits waiting) where
  -- who is no actor of the machine has begun none
  pub strange : (who : Who) → place_of limits who ≡ None → wait_among waits who ≡ None
  strange who nowhere = none_found (λ (b : BegunWait). is_same_actor b.actor who) waits (no_stranger limits who nowhere waits k.actors)

  -- who has begun one is
  pub acts : (who : Who) → IsSome (wait_among waits who) → IsSome (place_of limits who)
  acts who begun = known (place_of limits who) refl
    where
      known : (o : Option ℕ) → place_of limits who ≡ o → IsSome o
      known (Some place) at = refl
      known None nowhere = absurd (false≢true (ap is_some (sym (strange who nowhere)) ∙ begun))

  -- no actor has a notice of the object
  pub not_listed : (object : ObjectId) → is_noticed waits object ≡ false → (place : ℕ) → is_listed object (told_at notices place) ≡ false
  not_listed object none place =
      ⊎_elim
      (λ (there : place < limits.clients + limits.workers). ap (is_listed object) (k.noticed (actor_at limits place) place (place_at limits place there)) ∙ none_of object (actor_at limits place) waits none)
      (λ (past : limits.clients + limits.workers ≤ place). ap (is_listed object) (get_or_past notices.lists place [] (omega (arith, past, k.lists))))
      (cases_lt place (limits.clients + limits.workers))

  -- the numbers of the workers tell as many
  pub working : waiting ≡ length (filter (λ number. is_waiting waits (Worker number)) (range_with_len 1 limits.workers))
  working =
      k.counted
      ∙ counted_by is_some (λ number. is_waiting waits (Worker number)) None (drop limits.clients purposes) 1 same
      ∙ ap (λ n. length (filter (λ number. is_waiting waits (Worker number)) (range_with_len 1 n))) many
    where
      many : length (drop limits.clients purposes) ≡ limits.workers
      many = omega (arith, length-drop limits.clients purposes, k.places)

      same : (i : ℕ) → i < length (drop limits.clients purposes) → is_some (get_or (drop limits.clients purposes) i None) ≡ is_waiting waits (Worker (1 + i))
      same i there =
          let place : place_of limits (Worker (1 + i)) ≡ Some (limits.clients + i) = within_place limits.clients limits.workers (1 + i) (omega arith) (omega (arith, there, many)) ∙ ap (λ n. Some n) (omega arith) in
          ap is_some (get_or-drop limits.clients purposes i None ∙ k.purposed (Worker (1 + i)) (limits.clients + i) place) ∙ purpose_begun waits (Worker (1 + i))

  -- ---- a wait begins

  pub kept_begun : (b : BegunWait) (place : ℕ) → place_of limits b.actor ≡ Some place → is_waiting waits b.actor ≡ false → b.notices ≡ []
      → (later : ℕ) → later ≡ waiting_from limits.clients (slice_set purposes place (Some (purpose_of b))) → AreKept limits (slice_set purposes place (Some (purpose_of b))) notices (waits ++ b ∷ []) later
  kept_begun b place at none quiet later counted =
      let others = λ (other : Who) (e : is_same_actor b.actor other ≡ false). begun_elsewhere b other e waits in
      record {
        in_range = k.in_range;
        actors = all_append (IsOfActor limits) waits b k.actors (ap is_some at);
        places = length-set purposes place (Some (purpose_of b)) ∙ k.places;
        lists = k.lists;
        objects = k.objects;
        counted = counted;
        purposed = noted_set limits (option_map purpose_of) None purposes waits (waits ++ b ∷ []) b.actor place (Some (purpose_of b)) at (omega (arith, place_there limits b.actor place at, k.places)) (ap (option_map purpose_of) (sym (begun_found b waits none))) others k.purposed;
        noticed = noted_still limits notices_by [] notices.lists waits (waits ++ b ∷ []) b.actor
            (ap notices_by (begun_found b waits none) ∙ quiet ∙ ap notices_by (sym (none_found (λ (x : BegunWait). is_same_actor x.actor b.actor) waits none))) others k.noticed;
      }

  -- ---- its notices

  module _ (who : Who) (f : BegunWait → BegunWait) (stays : (b : BegunWait) → (f b).actor ≡ b.actor) (for : (b : BegunWait) → purpose_of (f b) ≡ purpose_of b) where
    abbrev later : List BegunWait
    later = map (λ (b : BegunWait). if is_same_actor b.actor who then f b else b) waits

    purposes_still : (o : Option BegunWait) → option_map purpose_of (option_map f o) ≡ option_map purpose_of o
    purposes_still None = refl
    purposes_still (Some b) = ap (λ p. Some p) (for b)

    -- those of an actor of the machine
    kept_changed : (place : ℕ) (objects : List ObjectId) → place_of limits who ≡ Some place → objects ≡ notices_by (option_map f (wait_among waits who)) → AreKept limits purposes (with_told notices place objects) later waiting
    kept_changed place objects at is =
        record {
          in_range = k.in_range;
          actors = changed_actors who f stays limits waits k.actors;
          places = k.places;
          lists = length-set notices.lists place objects ∙ k.lists;
          objects = k.objects;
          counted = k.counted;
          purposed = noted_still limits (option_map purpose_of) None purposes waits later who (ap (option_map purpose_of) (changed_to who f stays waits) ∙ purposes_still (wait_among waits who)) (λ other e. changed_elsewhere who f stays other e waits) k.purposed;
          noticed = noted_set limits notices_by [] notices.lists waits later who place objects at (omega (arith, place_there limits who place at, k.lists)) (is ∙ ap notices_by (sym (changed_to who f stays waits))) (λ other e. changed_elsewhere who f stays other e waits) k.noticed;
        }

    -- and of nobody
    kept_nowhere : place_of limits who ≡ None → AreKept limits purposes notices later waiting
    kept_nowhere nowhere =
        let none = strange who nowhere in
        record {
          in_range = k.in_range;
          actors = changed_actors who f stays limits waits k.actors;
          places = k.places;
          lists = k.lists;
          objects = k.objects;
          counted = k.counted;
          purposed = noted_still limits (option_map purpose_of) None purposes waits later who (ap (option_map purpose_of) (changed_to who f stays waits) ∙ purposes_still (wait_among waits who)) (λ other e. changed_elsewhere who f stays other e waits) k.purposed;
          noticed = noted_still limits notices_by [] notices.lists waits later who (ap notices_by (changed_to who f stays waits ∙ ap (option_map f) none) ∙ ap notices_by (sym none)) (λ other e. changed_elsewhere who f stays other e waits) k.noticed;
        }

  pub kept_noted : (who : Who) (place : ℕ) (object : ObjectId) → place_of limits who ≡ Some place → IsSome (wait_among waits who) → AreKept limits purposes (with_told notices place (told_at notices place ++ object ∷ [])) (with_notices who (object ∷ []) waits) waiting
  kept_noted who place object at begun =
      kept_changed who noted (λ x. refl) (λ x. refl) place (told_at notices place ++ object ∷ []) at (ap (λ os. os ++ object ∷ []) (k.noticed who place at) ∙ known (wait_among waits who) begun)
    where
      noted : BegunWait → BegunWait
      noted x = record x { notices = x.notices ++ object ∷ [] }

      known : (o : Option BegunWait) → IsSome o → notices_by o ++ object ∷ [] ≡ notices_by (option_map noted o)
      known None some = absurd (false≢true some)
      known (Some b) some = refl

  pub kept_given : (who : Who) (place : ℕ) → place_of limits who ≡ Some place → AreKept limits purposes (with_told notices place (drop 1 (told_at notices place))) (give_notice who waits) waiting
  kept_given who place at = kept_changed who notified (λ x. refl) (λ x. refl) place (drop 1 (told_at notices place)) at (ap (drop 1) (k.noticed who place at) ∙ known (wait_among waits who))
    where
      known : (o : Option BegunWait) → drop 1 (notices_by o) ≡ notices_by (option_map notified o)
      known None = refl
      known (Some b) = refl

  pub kept_ungiven : (who : Who) → place_of limits who ≡ None → AreKept limits purposes notices (give_notice who waits) waiting
  kept_ungiven who nowhere = kept_nowhere who notified (λ x. refl) (λ x. refl) nowhere

  -- ---- it ends

  kept_actors : (who : Who) → AllByRecursion (IsOfActor limits) (without_waits who waits)
  kept_actors who = all_filter (IsOfActor limits) (λ (b : BegunWait). not (is_same_actor b.actor who)) waits k.actors

  pub kept_ended : (who : Who) (place : ℕ) → place_of limits who ≡ Some place → (later : ℕ) → later ≡ waiting_from limits.clients (slice_set purposes place None)
      → AreKept limits (slice_set purposes place None) (with_told notices place []) (without_waits who waits) later
  kept_ended who place at later counted =
      let gone = ended_gone who waits in
      record {
        in_range = k.in_range;
        actors = kept_actors who;
        places = length-set purposes place None ∙ k.places;
        lists = length-set notices.lists place [] ∙ k.lists;
        objects = k.objects;
        counted = counted;
        purposed = noted_set limits (option_map purpose_of) None purposes waits (without_waits who waits) who place None at (omega (arith, place_there limits who place at, k.places)) (ap (option_map purpose_of) (sym gone)) (λ other e. ended_elsewhere who other e waits) k.purposed;
        noticed = noted_set limits notices_by [] notices.lists waits (without_waits who waits) who place [] at (omega (arith, place_there limits who place at, k.lists)) (ap notices_by (sym gone)) (λ other e. ended_elsewhere who other e waits) k.noticed;
      }

  pub kept_unended : (who : Who) → place_of limits who ≡ None → AreKept limits purposes notices (without_waits who waits) waiting
  kept_unended who nowhere =
      let same : wait_among (without_waits who waits) who ≡ wait_among waits who = ended_gone who waits ∙ sym (strange who nowhere) in
      record {
        in_range = k.in_range;
        actors = kept_actors who;
        places = k.places;
        lists = k.lists;
        objects = k.objects;
        counted = k.counted;
        purposed = noted_still limits (option_map purpose_of) None purposes waits (without_waits who waits) who (ap (option_map purpose_of) same) (λ other e. ended_elsewhere who other e waits) k.purposed;
        noticed = noted_still limits notices_by [] notices.lists waits (without_waits who waits) who (ap notices_by same) (λ other e. ended_elsewhere who other e waits) k.noticed;
      }
