-- The places of actors, their turns and their moves where two workers change places.
use Rattle.std.proofs.Common.{◌≡◌, ℕ, zero, suc, ◌+◌, ◌-◌, ◌/◌, ◌%◌, ◌<◌, ◌≤◌, ◌||◌, ◌&&◌, Bool, true, false, cond, nat_le, List, [], ◌∷◌, length, slice_get, slice_set, Option, None, Some, is_some, refl, sym, ap, ap₂, ◌∙◌, ne_eqb, arith}
use Rattle.std.specs.Option.{unwrap_or}
use Rattle.tp_base.specs.Actors.{is_same_actor}
use Rattle.tp_base.specs.declared.answers.Answer.{Answer}
use Rattle.tp_base.specs.declared.calls.Call.{Call}
use Rattle.tp_base.specs.declared.calls.Call.TheVariants.{End}
use Rattle.tp_base.specs.declared.ids.Who.{Who}
use Rattle.tp_base.specs.declared.ids.Who.TheVariants.{Client, Worker}
use Rattle.tp_base.specs.declared.limits.Limits.{Limits}
use Rattle.tp_base.specs.declared.plans.Stage.{Stage}
use Rattle.tp_base.specs.declared.plans.Stage.TheVariants.{Away, Busy, Idle, Over, Playing}
use Rattle.tp_model.specs.Counts.{numbered}
use Rattle.tp_model.specs.Stages.{is_over_stage, stage_after, waits_after, IsActor}
use Rattle.tp_model.specs.World.{World}
use Rattle.tp_script.specs.declared.routines.Part.{Part}
use Rattle.tp_script.specs.Nexts.{first_progress}
use Rattle.part_places.specs.declared.place.Place.{Place}
use Rattle.part_places.specs.Places.{is_last, is_taken, next_in, opening, part_in, place_after, told_in, Given}
use Rattle.renamed_worlds.specs.Exchanged.{exchanged_place, exchanged_rows, exchanged_who}
use Rattle.renamed_worlds.proofs.Exchange.Rows.{numbered_exchanged, set_exchanged}
use Rattle.tp_explore.specs.Movers.{actor_at, mover_acts}
use Rattle.tp_explore.specs.Boards.{actor_of, mover, place_at, place_in_row, turn_in, width_of}
use Rattle.tp_explore.specs.Closing.{named_in, named_place, named_row}
use Rattle.tp_explore.specs.Exchanging.{exchanged_by}
use Rattle.tp_explore.specs.Scenes.{turns_at, turns_in}

-- ---- places

module _ {X : Type 0} (at place : ℕ) (xs : List X) (fits : at + 1 < length xs) where
  at_number : (ys : List X) (i : ℕ) → numbered ys (suc i) ≡ slice_get ys i
  at_number ys i = ap₂ (λ b n. cond b None (slice_get ys n)) (ne_eqb (suc i) 0 (λ e. absurd (omega (arith, e)))) (omega arith)

  get_exchanged : slice_get (exchanged_rows at xs) (exchanged_place at place) ≡ slice_get xs place
  get_exchanged = sym (at_number (exchanged_rows at xs) (exchanged_place at place)) ∙ numbered_exchanged at (suc place) xs fits ∙ at_number xs place

  set_place : (x : X) → slice_set (exchanged_rows at xs) (exchanged_place at place) x ≡ exchanged_rows at (slice_set xs place x)
  set_place x = ap (λ n. slice_set (exchanged_rows at xs) n x) (omega arith) ∙ set_exchanged at place xs x fits ∙ ap (λ n. exchanged_rows at (slice_set xs n x)) (omega arith)

one_more : (front at : ℕ) → suc front + at ≡ suc (front + at)
one_more front at = omega arith

place_behind : (front at place : ℕ) → exchanged_place (front + at) (front + place) ≡ front + exchanged_place at place
place_behind zero at place =
    let here : 0 + at ≡ at = omega arith in
    let there : 0 + place ≡ place = omega arith in
    ap₂ exchanged_place here there ∙ omega arith
place_behind (suc front) at place = ap₂ exchanged_place (one_more front at) (one_more front place) ∙ ap suc (place_behind front at place) ∙ sym (one_more front (exchanged_place at place))

place_before : (front at place : ℕ) → place < front → exchanged_place (front + at) place ≡ place
place_before zero at place less = absurd (omega (arith, less))
place_before (suc front) at zero less = ap (λ n. exchanged_place n 0) (one_more front at)
place_before (suc front) at (suc place) less = ap (λ n. exchanged_place n (suc place)) (one_more front at) ∙ ap suc (place_before front at place (omega (arith, less)))

place_within : (at place count : ℕ) → at + 1 < count → place < count → exchanged_place at place < count
place_within zero zero count fits less = fits
place_within zero (suc zero) count fits less = omega (arith, less)
place_within zero (suc (suc place)) count fits less = less
place_within (suc at) zero count fits less = less
place_within (suc at) (suc place) zero fits less = absurd (omega (arith, less))
place_within (suc at) (suc place) (suc count) fits less = omega (arith, place_within at place count (omega (arith, fits)) (omega (arith, less)))

-- ---- actors

module _ (at : ℕ) where
  -- whose calls a worker makes does not depend on its number
  pub part_exchanged : (stage : Stage) (who : Who) → part_in stage (exchanged_who at who) ≡ part_in stage who
  part_exchanged stage (Client number) = refl
  part_exchanged Playing (Worker number) = refl
  part_exchanged (Busy routine) (Worker number) = refl
  part_exchanged Away (Worker number) = refl
  part_exchanged Idle (Worker number) = refl
  part_exchanged Over (Worker number) = refl

  pub after_exchanged : (g : Given) (who : Who) (p : Place) (made : Call) (told : Answer) → place_after g (exchanged_who at who) p made told ≡ place_after g who p made told
  after_exchanged g who p made told =
      ap (λ (part : Option Part). record {
        stage = stage_after p.stage made told;
        waits = waits_after p.waits made told;
        at = cond (is_taken told) first_progress (cond (is_last made) p.at (told_in g part p.at told));
        cut = p.cut || (is_last made && is_some (cond p.waits (Some End) (next_in g part p.at)));
      })
      (part_exchanged p.stage who)

  turns_exchanged : (g : Given) (who : Who) (p : Place) → turns_at g (exchanged_who at who) p ≡ turns_at g who p
  turns_exchanged g who p = ap (λ part. turns_in p.stage (cond p.waits (Some End) (next_in g part p.at))) (part_exchanged p.stage who)

  opening_exchanged : (who : Who) → opening (exchanged_who at who) ≡ opening who
  opening_exchanged (Client number) = refl
  opening_exchanged (Worker number) = refl

  first_exchanged : (who : Who) → is_same_actor (exchanged_who at who) (Client 1) ≡ is_same_actor who (Client 1)
  first_exchanged (Client number) = refl
  first_exchanged (Worker number) = refl

  module _ (limits : Limits) (fits : at + 1 < limits.workers) where
    abbrev pub in_row : ℕ
    in_row = limits.clients + at

    pub acts_exchanged : (who : Who) → IsActor limits who → IsActor limits (exchanged_who at who)
    acts_exchanged (Client number) acts = acts
    acts_exchanged (Worker zero) acts = absurd (omega (arith, acts.0))
    acts_exchanged (Worker (suc place)) acts = (omega arith, omega (arith, place_within at place limits.workers fits (omega (arith, acts.1))))

    pub row_exchanged : (who : Who) → IsActor limits who → place_in_row limits (exchanged_who at who) ≡ exchanged_place in_row (place_in_row limits who)
    row_exchanged (Client number) acts = sym (place_before limits.clients at (number - 1) (omega (arith, acts.0, acts.1)))
    row_exchanged (Worker zero) acts = absurd (omega (arith, acts.0))
    row_exchanged (Worker (suc place)) acts =
        let same : suc place - 1 ≡ place = omega arith in
        let other : suc (exchanged_place at place) - 1 ≡ exchanged_place at place = omega arith in
        ap (λ n. limits.clients + n) other ∙ sym (place_behind limits.clients at place) ∙ ap (λ n. exchanged_place in_row (limits.clients + n)) (sym same)

    module _ (places : List Place) (count : length places ≡ limits.clients + limits.workers) where
      in_places : in_row + 1 < length places
      in_places = omega (arith, fits, count)

      pub at_exchanged : (who : Who) → IsActor limits who → place_at limits (exchanged_rows in_row places) (exchanged_who at who) ≡ place_at limits places who
      at_exchanged who acts =
          ap₂ (λ n p. unwrap_or (slice_get (exchanged_rows in_row places) n) p) (row_exchanged who acts) (opening_exchanged who)
          ∙ ap (λ o. unwrap_or o (opening who)) (get_exchanged in_row (place_in_row limits who) places in_places)

      pub set_exchanged_at : (who : Who) (p : Place) → IsActor limits who → slice_set (exchanged_rows in_row places) (place_in_row limits (exchanged_who at who)) p ≡ exchanged_rows in_row (slice_set places (place_in_row limits who) p)
      set_exchanged_at who p acts = ap (λ n. slice_set (exchanged_rows in_row places) n p) (row_exchanged who acts) ∙ set_place in_row (place_in_row limits who) places in_places p

      pub turn_exchanged : 0 < limits.clients → (g : Given) (u w : World) (who : Who) (number : ℕ) → IsActor limits who
          → turn_in g (record { world = u; places = place_at limits (exchanged_rows in_row places) }) (exchanged_who at who) number ≡ turn_in g (record { world = w; places = place_at limits places }) who number
      turn_exchanged client g u w who number acts =
          ap₂ (λ (a : Bool) (p : Place). cond (a || is_over_stage p.stage) (slice_get (turns_at g (exchanged_who at who) (place_at limits (exchanged_rows in_row places) (exchanged_who at who))) number) None) (first_exchanged who) (at_exchanged (Client 1) (omega arith, client))
          ∙ ap (λ calls. cond (is_same_actor who (Client 1) || is_over_stage ((place_at limits places (Client 1)).stage)) (slice_get calls number) None) (ap (turns_at g (exchanged_who at who)) (at_exchanged who acts) ∙ turns_exchanged g who (place_at limits places who))

    -- ---- moves

    row_of : (place : ℕ) → place_in_row limits (actor_of limits (place + 1)) ≡ place
    row_of place = known (nat_le (place + 1) limits.clients) refl
      where
        known : (b : Bool) → nat_le (place + 1) limits.clients ≡ b → place_in_row limits (cond b (Client (place + 1)) (Worker (place + 1 - limits.clients))) ≡ place
        known true is = omega arith
        known false is = let above : limits.clients < place + 1 = grind (arith, is) in omega (arith, above)

    module _ (by : ℕ) (within : by < width_of limits) where
      pub within_exchanged : exchanged_by limits at by < width_of limits
      within_exchanged = omega (arith, place_within in_row (by / 2) (limits.clients + limits.workers) (omega (arith, fits)) (omega (arith, within)))

      pub mover_exchanged : mover limits (exchanged_by limits at by) ≡ exchanged_who at (mover limits by)
      mover_exchanged =
          let half : exchanged_by limits at by / 2 ≡ exchanged_place in_row (by / 2) = omega arith in
          ap (λ n. actor_of limits (n + 1)) (half ∙ ap (exchanged_place in_row) (sym (row_of (by / 2))) ∙ sym (row_exchanged (mover limits by) (mover_acts limits by within)))
          ∙ actor_at limits (exchanged_who at (mover limits by)) (acts_exchanged (mover limits by) (mover_acts limits by within))

      pub second_exchanged : exchanged_by limits at by % 2 ≡ by % 2
      second_exchanged = omega arith

-- ---- names in the places of actors

module _ (limits : Limits) (name : ℕ → ℕ) where
  named_worker : (m n : ℕ) (p : Place) → limits.clients < m → limits.clients < n → named_place name (actor_of limits m) p ≡ named_place name (actor_of limits n) p
  named_worker m n p first second = ap (λ who. named_place name who p) (worker m first) ∙ ap (λ (part : Option Part). record p { at = named_in part name p.at }) (same p.stage) ∙ ap (λ who. named_place name who p) (sym (worker n second))
    where
      worker : (number : ℕ) → limits.clients < number → actor_of limits number ≡ Worker (number - limits.clients)
      worker number above = let past : nat_le number limits.clients ≡ false = grind (arith, above) in ap (λ b. cond b (Client number) (Worker (number - limits.clients))) past

      same : (stage : Stage) → part_in stage (Worker (m - limits.clients)) ≡ part_in stage (Worker (n - limits.clients))
      same Playing = refl
      same (Busy routine) = refl
      same Away = refl
      same Idle = refl
      same Over = refl

  pub named_exchanged : (front at : ℕ) (places : List Place) → limits.clients ≤ front + at → named_row limits name front (exchanged_rows at places) ≡ exchanged_rows at (named_row limits name front places)
  named_exchanged front at [] least = refl
  named_exchanged front zero (p ∷ []) least = refl
  named_exchanged front zero (p ∷ q ∷ places) least =
      ap₂ (λ (r s : Place). r ∷ s ∷ named_row limits name (front + 1 + 1) places)
      (named_worker (front + 1) (front + 1 + 1) q (omega (arith, least)) (omega (arith, least)))
      (named_worker (front + 1 + 1) (front + 1) p (omega (arith, least)) (omega (arith, least)))
  named_exchanged front (suc at) (p ∷ places) least = ap (λ ps. named_place name (actor_of limits (front + 1)) p ∷ ps) (named_exchanged (front + 1) at places (omega (arith, least)))
