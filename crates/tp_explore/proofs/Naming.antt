-- Other numbers for in the places of actors.
use Rattle.std.proofs.Common.{◌≡◌, ℕ, zero, suc, ◌+◌, ◌<◌, ◌≤◌, ◌||◌, ◌&&◌, Bool, true, false, cond, List, [], ◌∷◌, map, slice_get, slice_set, replicate, Option, None, Some, option_map, is_some, refl, sym, ap, ap₂, ◌∙◌, ◌⊎◌, inl, inr, arith, subst}
use Rattle.std.proofs.lemmas.Simd.{map-map}
use Rattle.std.specs.Option.{unwrap_or}
use Rattle.tp_base.specs.declared.answers.Answer.{Answer}
use Rattle.tp_base.specs.declared.answers.Answer.TheVariants as answer
use Rattle.tp_base.specs.declared.calls.Call.{Call}
use Rattle.tp_base.specs.declared.calls.Call.TheVariants.{Attach, CompleteIo, Detach, End, Finish, Return}
use Rattle.tp_base.specs.declared.ids.RoutineId.{RoutineId}
use Rattle.tp_base.specs.declared.ids.Who.{Who}
use Rattle.tp_base.specs.declared.ids.Who.TheVariants.{Client, Worker}
use Rattle.tp_base.specs.declared.limits.Limits.{Limits}
use Rattle.tp_base.specs.declared.plans.Stage.{Stage}
use Rattle.tp_base.specs.declared.plans.Stage.TheVariants as stage
use Rattle.tp_model.specs.Stages.{attached_step, done_step, done_waits, returned_step, taken_step, first_stage, stage_after, stage_by, stage_step, waits_step, Starts, StageStep, Finishes, Joins, Leaves, Returns}
use Rattle.tp_script.specs.declared.routines.Part.{Part}
use Rattle.tp_script.specs.declared.routines.Progress.{Progress}
use Rattle.tp_script.specs.Nexts.{first_progress}
use Rattle.part_places.specs.declared.place.Place.{Place}
use Rattle.part_places.specs.Places.{is_last, is_taken, next_call, next_in, opening, part_in, place_after, progress_after, told_in}
use Rattle.renamed_worlds.specs.Renamed.{renamed_answer, renamed_call}
use Rattle.tp_explore.specs.Boards.{actor_of, place_at, place_in_row}
use Rattle.tp_explore.specs.Closing.{named_in, named_place, named_progress, named_row, AgreeOn, IsBlind}
use Rattle.tp_explore.specs.Scenes.{turns_at, turns_in}
use Rattle.tp_explore.specs.Watched.{Watched}

-- ---- places in a row

here : (front : ℕ) → front + 1 ≡ front + 1 + 0
here front = omega arith

there : (front i : ℕ) → front + 1 + 1 + i ≡ front + 1 + suc i
there front i = omega arith

pub first_row : (i : ℕ) → 0 + 1 + i ≡ i + 1
first_row i = omega arith

-- ---- names of operations

map_none : (count : ℕ) (name : ℕ → ℕ) → name 0 ≡ 0 → map name (replicate count 0) ≡ replicate count 0
map_none zero name none = refl
map_none (suc count) name none = ap₂ (λ (x : ℕ) xs. x ∷ xs) none (map_none count name none)

-- names that agree on what was made so far
abbrev pub Agree : ℕ → (ℕ → ℕ) → (ℕ → ℕ) → Type 0
Agree next_number f g = (n : ℕ) → n < next_number → f n ≡ g n

progress_twice : (second first : ℕ → ℕ) (at : Progress) → named_progress second (named_progress first at) ≡ named_progress (λ n. second (first n)) at
progress_twice second first at = ap (λ (numbers : List ℕ). record at { operations = numbers }) (map-map second first at.operations)

in_twice : (part : Option Part) (second first : ℕ → ℕ) (at : Progress) → named_in part second (named_in part first at) ≡ named_in part (λ n. second (first n)) at
in_twice None second first at = refl
in_twice (Some part) second first at = progress_twice second first at

in_first : (part : Option Part) (name : ℕ → ℕ) → name 0 ≡ 0 → named_in part name first_progress ≡ first_progress
in_first None name none = refl
in_first (Some part) name none = ap (λ (numbers : List ℕ). record first_progress { operations = numbers }) (map_none 32 name none)

-- ---- what is named was made

abbrev pub IsBelow : ℕ → Option Part → Progress → Type 0
IsBelow next_number part at = (f g : ℕ → ℕ) → f 0 ≡ 0 → g 0 ≡ 0 → Agree next_number f g → named_in part f at ≡ named_in part g at

abbrev pub IsPlaceBelow : ℕ → Who → Place → Type 0
IsPlaceBelow next_number who p = IsBelow next_number (part_in p.stage who) p.at

first_below : (next_number : ℕ) (part : Option Part) → IsBelow next_number part first_progress
first_below next_number part f g none_f none_g agree = in_first part f none_f ∙ sym (in_first part g none_g)

still_below : (next_number later : ℕ) (part : Option Part) (at : Progress) → next_number ≤ later → IsBelow next_number part at → IsBelow later part at
still_below next_number later part at least below f g none_f none_g agree = below f g none_f none_g (λ n less. agree n (omega (arith, less, least)))

-- ---- in a row

module _ (limits : Limits) where
  abbrev pub AreBelow : ℕ → ℕ → List Place → Type 0
  AreBelow next_number front [] = Unit {0}
  AreBelow next_number front (p ∷ places) = IsPlaceBelow next_number (actor_of limits (front + 1)) p × AreBelow next_number (front + 1) places

  pub row_below : (next_number front : ℕ) (whos : List Who) → AreBelow next_number front (map opening whos)
  row_below next_number front [] = tt
  row_below next_number front (who ∷ whos) = (first_below next_number (part_in (first_stage who) (actor_of limits (front + 1))), row_below next_number (front + 1) whos)

  pub at_below : (next_number front i : ℕ) (who : Who) (places : List Place) → actor_of limits (front + 1 + i) ≡ who → AreBelow next_number front places → IsPlaceBelow next_number who (unwrap_or (slice_get places i) (opening who))
  at_below next_number front i who [] is below = first_below next_number (part_in (first_stage who) who)
  at_below next_number front zero who (p ∷ places) is below = subst (λ w. IsPlaceBelow next_number w p) (ap (actor_of limits) (here front) ∙ is) below.0
  at_below next_number front (suc i) who (p ∷ places) is below = at_below next_number (front + 1) i who places (ap (actor_of limits) (there front i) ∙ is) below.1

  row_still : (next_number later front : ℕ) (places : List Place) → next_number ≤ later → AreBelow next_number front places → AreBelow later front places
  row_still next_number later front [] least below = tt
  row_still next_number later front (p ∷ places) least below = (still_below next_number later (part_in p.stage (actor_of limits (front + 1))) p.at least below.0, row_still next_number later (front + 1) places least below.1)

  pub set_below : (next_number later front i : ℕ) (who : Who) (p : Place) (places : List Place) → actor_of limits (front + 1 + i) ≡ who → next_number ≤ later → IsPlaceBelow later who p → AreBelow next_number front places → AreBelow later front (slice_set places i p)
  set_below next_number later front i who p [] is least own below = tt
  set_below next_number later front zero who p (q ∷ places) is least own below = (subst (λ w. IsPlaceBelow later w p) (sym (ap (actor_of limits) (here front) ∙ is)) own, row_still next_number later (front + 1) places least below.1)
  set_below next_number later front (suc i) who p (q ∷ places) is least own below =
      (still_below next_number later (part_in q.stage (actor_of limits (front + 1))) q.at least below.0, set_below next_number later (front + 1) i who p places (ap (actor_of limits) (there front i) ∙ is) least own below.1)

  -- ---- other numbers, twice, at a place, and behind another place

  place_twice : (next_number : ℕ) (second first both : ℕ → ℕ) (who : Who) (p : Place) → second 0 ≡ 0 → first 0 ≡ 0 → both 0 ≡ 0 → Agree next_number (λ n. second (first n)) both → IsPlaceBelow next_number who p
      → named_place second who (named_place first who p) ≡ named_place both who p
  place_twice next_number second first both who p none_second none_first none_both agree below =
      ap (λ (at : Progress). record p { at = at }) (in_twice (part_in p.stage who) second first p.at ∙ below (λ n. second (first n)) both (ap second none_first ∙ none_second) none_both agree)

  pub row_twice : (next_number front : ℕ) (second first both : ℕ → ℕ) (places : List Place) → second 0 ≡ 0 → first 0 ≡ 0 → both 0 ≡ 0 → Agree next_number (λ n. second (first n)) both → AreBelow next_number front places
      → named_row limits second front (named_row limits first front places) ≡ named_row limits both front places
  row_twice next_number front second first both [] none_second none_first none_both agree below = refl
  row_twice next_number front second first both (p ∷ places) none_second none_first none_both agree below =
      ap₂ (λ (q : Place) qs. q ∷ qs) (place_twice next_number second first both (actor_of limits (front + 1)) p none_second none_first none_both agree below.0) (row_twice next_number (front + 1) second first both places none_second none_first none_both agree below.1)

  pub row_set : (name : ℕ → ℕ) (front i : ℕ) (who : Who) (p : Place) (places : List Place) → actor_of limits (front + 1 + i) ≡ who
      → named_row limits name front (slice_set places i p) ≡ slice_set (named_row limits name front places) i (named_place name who p)
  row_set name front i who p [] is = refl
  row_set name front zero who p (q ∷ places) is = ap (λ w. named_place name w p ∷ named_row limits name (front + 1) places) (ap (actor_of limits) (here front) ∙ is)
  row_set name front (suc i) who p (q ∷ places) is = ap (λ qs. named_place name (actor_of limits (front + 1)) q ∷ qs) (row_set name (front + 1) i who p places (ap (actor_of limits) (there front i) ∙ is))

  opening_named : (name : ℕ → ℕ) (who : Who) → name 0 ≡ 0 → opening who ≡ named_place name who (opening who)
  opening_named name (Client number) none = ap (λ (at : Progress). record (opening (Client number)) { at = at }) (sym (in_first (part_in (first_stage (Client number)) (Client number)) name none))
  opening_named name (Worker number) none = refl

  row_at : (name : ℕ → ℕ) (front i : ℕ) (who : Who) (places : List Place) → name 0 ≡ 0 → actor_of limits (front + 1 + i) ≡ who
      → unwrap_or (slice_get (named_row limits name front places) i) (opening who) ≡ named_place name who (unwrap_or (slice_get places i) (opening who))
  row_at name front i who [] none is = opening_named name who none
  row_at name front zero who (p ∷ places) none is = ap (λ w. named_place name w p) (ap (actor_of limits) (here front) ∙ is)
  row_at name front (suc i) who (p ∷ places) none is = row_at name (front + 1) i who places none (ap (actor_of limits) (there front i) ∙ is)

  pub stage_at : (name : ℕ → ℕ) (front i : ℕ) (who : Who) (places : List Place) → (unwrap_or (slice_get (named_row limits name front places) i) (opening who)).stage ≡ (unwrap_or (slice_get places i) (opening who)).stage
  stage_at name front i who [] = refl
  stage_at name front zero who (p ∷ places) = refl
  stage_at name front (suc i) who (p ∷ places) = stage_at name (front + 1) i who places

  pub named_at : (name : ℕ → ℕ) (who : Who) (places : List Place) → name 0 ≡ 0 → actor_of limits (place_in_row limits who + 1) ≡ who → place_at limits (named_row limits name 0 places) who ≡ named_place name who (place_at limits places who)
  named_at name who places none is = row_at name 0 (place_in_row limits who) who places none (ap (actor_of limits) (first_row (place_in_row limits who)) ∙ is)

-- ---- what an entry makes of a place

-- a worker begins a callback
abbrev is_start : StageStep → Bool
is_start (Starts routine) = true
is_start _ = false

plain_done : (made : Call) → is_start (done_step made) ≡ false
plain_done Finish = refl
plain_done Detach = refl
plain_done _ = refl

plain_attached : (made : Call) → is_start (attached_step made) ≡ false
plain_attached Attach = refl
plain_attached _ = refl

plain_returned : (made : Call) → is_start (returned_step made) ≡ false
plain_returned Return = refl
plain_returned _ = refl

plain_step : (told : Answer) (made : Call) → is_taken told ≡ false → is_start (stage_step told made) ≡ false
plain_step answer.Done made e = plain_done made
plain_step (answer.Attached pool) made e = plain_attached made
plain_step (answer.Taken callback object routine context result) made e = absurd cc
plain_step (answer.Returned section mutex semaphore event first count) made e = plain_returned made
plain_step _ made e = refl

-- who begins no callback goes on with its part, or with none
part_by : (at : Stage) (step : StageStep) (who : Who) → is_start step ≡ false → (part_in (stage_by at step) who ≡ part_in at who) ⊎ (part_in (stage_by at step) who ≡ None)
part_by stage.Playing Finishes who e = inr refl
part_by stage.Away Joins who e = inr refl
part_by stage.Idle Leaves who e = inr refl
part_by stage.Idle (Starts routine) who e = absurd cc
part_by (stage.Busy routine) Returns who e = inr refl
part_by _ _ who e = inl refl

pub part_kept : (at : Stage) (made : Call) (told : Answer) (who : Who) → is_taken told ≡ false → (part_in (stage_after at made told) who ≡ part_in at who) ⊎ (part_in (stage_after at made told) who ≡ None)
part_kept at made told who e = part_by at (stage_step told made) who (plain_step told made e)

-- ---- calls and answers with other numbers are of the same kind

module _ (name : ℕ → ℕ) where
  pub last_renamed : (made : Call) → is_last (renamed_call name made) ≡ is_last made
  last_renamed (CompleteIo callback error bytes) = refl
  last_renamed _ = refl

  pub taken_renamed : (told : Answer) → is_taken (renamed_answer name told) ≡ is_taken told
  taken_renamed (answer.Taken callback object routine context result) = refl
  taken_renamed _ = refl

  done_renamed : (made : Call) → done_step (renamed_call name made) ≡ done_step made
  done_renamed (CompleteIo callback error bytes) = refl
  done_renamed _ = refl

  attached_renamed : (made : Call) → attached_step (renamed_call name made) ≡ attached_step made
  attached_renamed (CompleteIo callback error bytes) = refl
  attached_renamed _ = refl

  begun_renamed : (routine : RoutineId) (made : Call) → taken_step routine (renamed_call name made) ≡ taken_step routine made
  begun_renamed routine (CompleteIo callback error bytes) = refl
  begun_renamed routine _ = refl

  returned_renamed : (made : Call) → returned_step (renamed_call name made) ≡ returned_step made
  returned_renamed (CompleteIo callback error bytes) = refl
  returned_renamed _ = refl

  waits_renamed : (made : Call) → done_waits (renamed_call name made) ≡ done_waits made
  waits_renamed (CompleteIo callback error bytes) = refl
  waits_renamed _ = refl

  step_renamed : (other : ℕ → ℕ) (told : Answer) (made : Call) → stage_step told (renamed_call name made) ≡ stage_step (renamed_answer other told) made
  step_renamed other answer.Done made = done_renamed made
  step_renamed other (answer.Attached pool) made = attached_renamed made
  step_renamed other (answer.Taken callback object routine context result) made = begun_renamed routine made
  step_renamed other (answer.Returned section mutex semaphore event first count) made = returned_renamed made
  step_renamed other _ made = refl

  waiting_renamed : (other : ℕ → ℕ) (told : Answer) (made : Call) → waits_step told (renamed_call name made) ≡ waits_step (renamed_answer other told) made
  waiting_renamed other answer.Done made = waits_renamed made
  waiting_renamed other _ made = refl

answer_twice : (second first both : ℕ → ℕ) → ((n : ℕ) → second (first n) ≡ both n) → (told : Answer) → renamed_answer second (renamed_answer first told) ≡ renamed_answer both told
answer_twice second first both is (answer.Queued first_number count) = ap (λ n. answer.Queued n count) (is first_number)
answer_twice second first both is (answer.WasSet was first_number count) = ap (λ n. answer.WasSet was n count) (is first_number)
answer_twice second first both is (answer.Started callback) = ap (λ n. answer.Started n) (is callback)
answer_twice second first both is (answer.Operation callback) = ap (λ n. answer.Operation n) (is callback)
answer_twice second first both is (answer.Cancelled callback) = ap (λ n. answer.Cancelled n) (is callback)
answer_twice second first both is (answer.Count previous first_number count) = ap (λ n. answer.Count previous n count) (is first_number)
answer_twice second first both is (answer.Advanced now first_number count) = ap (λ n. answer.Advanced now n count) (is first_number)
answer_twice second first both is (answer.Taken callback object routine context result) = ap (λ n. answer.Taken n object routine context result) (is callback)
answer_twice second first both is (answer.Returned section mutex semaphore event first_number count) = ap (λ n. answer.Returned section mutex semaphore event n count) (is first_number)
answer_twice second first both is _ = refl

agree_self : (name : ℕ → ℕ) (told : Answer) → AgreeOn name name told
agree_self name (answer.Operation callback) = refl
agree_self name _ = tt

-- ---- blind scripts

module _ (k : Watched) (blind : IsBlind k) (who : Who) (p : Place) where
  module _ (name : ℕ → ℕ) (none : name 0 ≡ 0) where
    abbrev q : Place
    q = named_place name who p

    next_named : (part : Option Part) → next_in k.given part (named_in part name p.at) ≡ option_map (renamed_call name) (next_in k.given part p.at)
    next_named None = refl
    next_named (Some part) = blind.next name none part p.at

    next_call_named : next_call k.given who q ≡ option_map (renamed_call name) (next_call k.given who p)
    next_call_named = of_waits p.waits
      where
        of_waits : (waits : Bool) → cond waits (Some End) (next_in k.given (part_in p.stage who) q.at) ≡ option_map (renamed_call name) (cond waits (Some End) (next_in k.given (part_in p.stage who) p.at))
        of_waits true = refl
        of_waits false = next_named (part_in p.stage who)

    -- the turns are those of the place, with other numbers
    pub turns_named : turns_at k.given who q ≡ map (renamed_call name) (turns_at k.given who p)
    turns_named = ap (turns_in p.stage) next_call_named ∙ of_stage p.stage (next_call k.given who p)
      where
        of_stage : (at : Stage) (next : Option Call) → turns_in at (option_map (renamed_call name) next) ≡ map (renamed_call name) (turns_in at next)
        of_stage stage.Playing None = refl
        of_stage stage.Playing (Some made) = refl
        of_stage (stage.Busy routine) None = refl
        of_stage (stage.Busy routine) (Some made) = refl
        of_stage stage.Away next = refl
        of_stage stage.Idle next = refl
        of_stage stage.Over next = refl

  -- ---- behind an entry

  module _ (next_number : ℕ) (below : IsPlaceBelow next_number who p) (made : Call) (told : Answer) where
    -- with other numbers it comes to where it comes without them
    module _ (first second both old : ℕ → ℕ) (none_first : first 0 ≡ 0) (none_second : second 0 ≡ 0) (none_both : both 0 ≡ 0) (agree : Agree next_number (λ n. second (first n)) both) (names : (n : ℕ) → both (old n) ≡ second n) where
      abbrev back : Answer
      back = renamed_answer old told

      at_next : (part : Option Part) → part_in p.stage who ≡ part → IsBelow next_number part p.at → (last : Bool) → is_last made ≡ last
          → named_in part second (cond last (named_in part first p.at) (told_in k.given part (named_in part first p.at) told)) ≡ named_in part both (cond last p.at (told_in k.given part p.at back))
      at_next None is under last end = refl
      at_next (Some part) is under true end = twice
        where
          twice : named_progress second (named_progress first p.at) ≡ named_progress both p.at
          twice = progress_twice second first p.at ∙ under (λ n. second (first n)) both (ap second none_first ∙ none_second) none_both agree
      at_next (Some part) is under false end =
          sym (blind.after second second none_second part (named_progress first p.at) told (agree_self second told))
          ∙ ap₂ (λ at a. k.given.after part at a) twice (sym (answer_twice both old second names told))
          ∙ blind.after both both none_both part p.at back (agree_self both back)
        where
          twice : named_progress second (named_progress first p.at) ≡ named_progress both p.at
          twice = progress_twice second first p.at ∙ under (λ n. second (first n)) both (ap second none_first ∙ none_second) none_both agree

      abbrev from : Place
      from = named_place first who p

      -- where the actor comes to
      abbrev named_behind : Place
      named_behind = place_after k.given who from (renamed_call first made) told

      abbrev behind : Place
      behind = place_after k.given who p made back

      pub stage_same : named_behind.stage ≡ behind.stage
      stage_same = ap (stage_by p.stage) (step_renamed first old told made)

      waits_same : named_behind.waits ≡ behind.waits
      waits_same = ap (λ o. unwrap_or o p.waits) (waiting_renamed first old told made)

      cut_same : named_behind.cut ≡ behind.cut
      cut_same = ap₂ (λ l o. p.cut || (l && is_some o)) (last_renamed first made) (next_call_named first none_first) ∙ ap (λ b. p.cut || (is_last made && b)) (some_mapped (next_call k.given who p))
        where
          some_mapped : (o : Option Call) → is_some (option_map (renamed_call first) o) ≡ is_some o
          some_mapped None = refl
          some_mapped (Some call) = refl

      by_last : (part : Option Part) (at : Progress) → cond (is_last (renamed_call first made)) (named_in part first p.at) at ≡ cond (is_last made) (named_in part first p.at) at
      by_last part at = ap (λ l. cond l (named_in part first p.at) at) (last_renamed first made)

      pub at_same : named_in (part_in behind.stage who) second named_behind.at ≡ named_in (part_in behind.stage who) both behind.at
      at_same = of_taken (is_taken told) refl
        where
          none_left : (part : Option Part) (x y : Progress) → part ≡ None → named_in part second x ≡ named_in part both y
          none_left part x y is = ap (λ o. named_in o second x) is ∙ ap (λ o. named_in o both y) (sym is)

          of_taken : (t : Bool) → is_taken told ≡ t
              → named_in (part_in behind.stage who) second (cond (is_taken told) first_progress (cond (is_last (renamed_call first made)) from.at (told_in k.given (part_in p.stage who) from.at told)))
              ≡ named_in (part_in behind.stage who) both (cond (is_taken back) first_progress (cond (is_last made) p.at (told_in k.given (part_in p.stage who) p.at back)))
          of_taken true is =
              ap (λ t. named_in (part_in behind.stage who) second (cond t first_progress (cond (is_last (renamed_call first made)) from.at (told_in k.given (part_in p.stage who) from.at told)))) is
              ∙ in_first (part_in behind.stage who) second none_second
              ∙ sym (in_first (part_in behind.stage who) both none_both)
              ∙ ap (λ t. named_in (part_in behind.stage who) both (cond t first_progress (cond (is_last made) p.at (told_in k.given (part_in p.stage who) p.at back)))) (sym (taken_renamed old told ∙ is))
          of_taken false is = of_part (part_kept p.stage made back who (taken_renamed old told ∙ is))
            where
              of_part : (part_in behind.stage who ≡ part_in p.stage who) ⊎ (part_in behind.stage who ≡ None) → named_in (part_in behind.stage who) second named_behind.at ≡ named_in (part_in behind.stage who) both behind.at
              of_part (inr stops) = none_left (part_in behind.stage who) named_behind.at behind.at stops
              of_part (inl stays) =
                  ap₂ (λ o t. named_in o second (cond t first_progress (cond (is_last (renamed_call first made)) from.at (told_in k.given (part_in p.stage who) from.at told)))) stays is
                  ∙ ap (named_in (part_in p.stage who) second) (by_last (part_in p.stage who) (told_in k.given (part_in p.stage who) from.at told))
                  ∙ at_next (part_in p.stage who) refl below (is_last made) refl
                  ∙ ap₂ (λ o t. named_in o both (cond t first_progress (cond (is_last made) p.at (told_in k.given (part_in p.stage who) p.at back)))) (sym stays) (sym (taken_renamed old told ∙ is))

      pub place_next : named_place second who named_behind ≡ named_place both who behind
      place_next =
          ap (λ (at : Stage). record named_behind { stage = at; at = named_in (part_in at who) second named_behind.at }) stage_same
          ∙ ap₂ (λ (w : Bool) (at : Progress). record { stage = behind.stage; waits = w; at = at; cut = named_behind.cut }) waits_same at_same
          ∙ ap (λ (c : Bool). record (named_place both who behind) { cut = c }) cut_same

    -- and it names nothing that was not made
    pub next_below : (later : ℕ) → next_number ≤ later → ((callback : ℕ) → told ≡ answer.Operation callback → callback < later) → IsPlaceBelow later who (place_after k.given who p made told)
    next_below later least known f g none_f none_g agree = of_taken (is_taken told) refl
      where
        agree_told : (a : Answer) → told ≡ a → AgreeOn g f a
        agree_told (answer.Operation callback) is = agree callback (known callback is)
        agree_told _ is = tt

        under : named_in (part_in p.stage who) f p.at ≡ named_in (part_in p.stage who) g p.at
        under = below f g none_f none_g (λ n less. agree n (omega (arith, less, least)))

        on : (part : Option Part) → part_in p.stage who ≡ part → named_in part f p.at ≡ named_in part g p.at → (last : Bool) → is_last made ≡ last
            → named_in part f (cond last p.at (told_in k.given part p.at told)) ≡ named_in part g (cond last p.at (told_in k.given part p.at told))
        on None is same last end = refl
        on (Some part) is same true end = same
        on (Some part) is same false end =
            sym (blind.after f f none_f part p.at told (agree_self f told))
            ∙ ap (λ at. k.given.after part at (renamed_answer f told)) same
            ∙ blind.after g f none_g part p.at told (agree_told told refl)

        of_taken : (t : Bool) → is_taken told ≡ t
            → named_in (part_in (stage_after p.stage made told) who) f (cond (is_taken told) first_progress (cond (is_last made) p.at (told_in k.given (part_in p.stage who) p.at told)))
            ≡ named_in (part_in (stage_after p.stage made told) who) g (cond (is_taken told) first_progress (cond (is_last made) p.at (told_in k.given (part_in p.stage who) p.at told)))
        of_taken true is =
            ap (λ t. named_in (part_in (stage_after p.stage made told) who) f (cond t first_progress (cond (is_last made) p.at (told_in k.given (part_in p.stage who) p.at told)))) is
            ∙ in_first (part_in (stage_after p.stage made told) who) f none_f
            ∙ sym (in_first (part_in (stage_after p.stage made told) who) g none_g)
            ∙ ap (λ t. named_in (part_in (stage_after p.stage made told) who) g (cond t first_progress (cond (is_last made) p.at (told_in k.given (part_in p.stage who) p.at told)))) (sym is)
        of_taken false is = of_part (part_kept p.stage made told who is)
          where
            of_part : ((part_in (stage_after p.stage made told) who) ≡ part_in p.stage who) ⊎ ((part_in (stage_after p.stage made told) who) ≡ None) → named_in (part_in (stage_after p.stage made told) who) f (progress_after k.given who p made told) ≡ named_in (part_in (stage_after p.stage made told) who) g (progress_after k.given who p made told)
            of_part (inr stops) = ap (λ o. named_in o f (progress_after k.given who p made told)) stops ∙ ap (λ o. named_in o g (progress_after k.given who p made told)) (sym stops)
            of_part (inl stays) =
                ap₂ (λ o t. named_in o f (cond t first_progress (cond (is_last made) p.at (told_in k.given (part_in p.stage who) p.at told)))) stays is
                ∙ on (part_in p.stage who) refl under (is_last made) refl
                ∙ ap₂ (λ o t. named_in o g (cond t first_progress (cond (is_last made) p.at (told_in k.given (part_in p.stage who) p.at told)))) (sym stays) (sym is)
