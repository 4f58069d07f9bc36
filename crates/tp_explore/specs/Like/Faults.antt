-- What an entry brings, and what is noted behind it, don't depend on which worker is which.
use Rattle.std.proofs.Common.{◌≡◌, ℕ, zero, suc, ◌-◌, ◌==◌, ◌&&◌, ◌||◌, not, nat_lt, Bool, true, false, cond, List, [], ◌∷◌, ◌++◌, map, fold, refl, sym, ap, ap₂, ◌∙◌, ◌⊎◌, inl, inr, subst, filter, eq-eqb, eqb-true, arith}
use Rattle.std.specs.List.{flat_map, list_all, list_any, range_with_len}
use Rattle.std.specs.Option.{option_map_or}
use Rattle.std.proofs.Math.Bool.{or_assoc, or-false}
use Rattle.std.proofs.lemmas.Bool.{and_parts, ltb-false, or_cases, or_left, or_parts, or_right}
use Rattle.std.proofs.lemmas.List.{map-append}
use Rattle.std.proofs.lemmas.Map.Views.{any-filter_same}
use Rattle.tp_base.specs.Actors.{is_same_actor}
use Rattle.tp_base.specs.declared.answers.Answer.{Answer}
use Rattle.tp_base.specs.declared.answers.Answer.TheVariants as answer
use Rattle.tp_base.specs.declared.answers.Entry.{Entry}
use Rattle.tp_base.specs.declared.ids.Who.{Who}
use Rattle.tp_base.specs.declared.ids.Who.TheVariants.{Client, Worker}
use Rattle.tp_base.specs.declared.limits.Limits.{Limits}
use Rattle.tp_base.specs.declared.plans.Stage.{Stage}
use Rattle.tp_base.specs.declared.plans.Stage.TheVariants as stage
use Rattle.tp_base.specs.declared.rows.CallbackRow.{CallbackRow}
use Rattle.tp_base.specs.declared.rows.ClientRow.{ClientRow}
use Rattle.tp_base.specs.declared.rows.WaitTarget.{WaitTarget}
use Rattle.tp_base.specs.declared.rows.WaitTarget.TheVariants.{Group, Kernel, Object}
use Rattle.tp_model.specs.Counts.{callback_of, has_number, is_operating, is_pending, is_running}
use Rattle.tp_model.specs.Laws.Entries.{is_among}
use Rattle.tp_model.specs.Waits.{is_of}
use Rattle.tp_model.specs.World.{World}
use Rattle.tp_model.proofs.Refusals.{is_own_actor, same_actor_is}
use Rattle.tp_script.specs.declared.routines.Part.TheVariants as part
use Rattle.tp_script.specs.Nexts.{first_progress}
use Rattle.part_places.specs.declared.place.Place.{Place}
use Rattle.part_places.specs.Places.{is_taken, part_in}
use Rattle.renamed_worlds.specs.Exchanged.{exchanged, exchanged_callback, exchanged_place, exchanged_who}
use Rattle.renamed_worlds.proofs.Exchange.Queries.{status_same}
use Rattle.renamed_worlds.proofs.Exchange.Rows.{same_who}
use Rattle.renamed_worlds.proofs.Mapped.{any_map, filter_map, find_map, found_map}
use Rattle.tp_explore.specs.declared.fault.Fault.{Fault}
use Rattle.tp_explore.specs.declared.fault.FaultKind.TheVariants.{FreedInUse, FreedTwice, Left, NotQuiet, Refused, Stalled, UseAfterFree}
use Rattle.tp_explore.specs.declared.mark.Deed.{Deed}
use Rattle.tp_explore.specs.declared.noted.Hush.{Hush}
use Rattle.tp_explore.specs.declared.noted.Use.{Use}
use Rattle.tp_explore.specs.Exchanging.{exchanged_entry, exchanged_use, exchanged_uses, with_exchanged, AreExchangedUses, IsNotedAlike}
use Rattle.tp_explore.specs.Faults.{answer_faults, behind, client_deeds, deed, deed_faults, deeds, ends_part, fault_if, first_deeds, is_create, is_made, is_none_target, is_run_of, left_as, left_fault, left_faults, line_at, mark_faults, noted_at, noted_by, notice_deeds, own_deeds, taken_faults, use_by}
use Rattle.tp_explore.specs.Noted.{is_actor_below, is_hush_below, is_in_use, is_of_memory, is_use, is_use_below, with_one, without, Noted}
use Rattle.tp_explore.specs.Watched.{line_in, marks_in, may_refuse_in, Drop, Free, Mark, Marked, Quiet, Use as Uses, Watched}

-- ---- lists of uses, by what is in them

turned : (a b c : Bool) → (a || (b || c)) ≡ (b || (a || c))
turned true true c = refl
turned true false c = refl
turned false b c = refl

-- two actors neither of which is below the other are the same
neither_below : (a b : Who) → is_actor_below a b ≡ false → is_actor_below b a ≡ false → a ≡ b
neither_below (Client a) (Client b) first second = let same : a ≡ b = omega (arith, ltb-false a b first, ltb-false b a second) in ap (λ n. Client n) same
neither_below (Worker a) (Worker b) first second = let same : a ≡ b = omega (arith, ltb-false a b first, ltb-false b a second) in ap (λ n. Worker n) same
neither_below (Client a) (Worker b) first second = absurd cc
neither_below (Worker a) (Client b) first second = absurd cc

module _ (who : Who) (memory : ℕ) where
  abbrev test : Use → Bool
  test = is_use who memory

  -- two uses neither of which is below the other are the same
  same_use : (u x : Use) → is_use_below u x ≡ false → is_use_below x u ≡ false → test u ≡ test x
  same_use u x first second =
      let p = or_parts (nat_lt u.memory x.memory) ((u.memory == x.memory) && is_actor_below u.who x.who) first in
      let q = or_parts (nat_lt x.memory u.memory) ((x.memory == u.memory) && is_actor_below x.who u.who) second in
      let same : u.memory ≡ x.memory = omega (arith, ltb-false u.memory x.memory p.0, ltb-false x.memory u.memory q.0) in
      let below : is_actor_below u.who x.who ≡ false = sym (ap (λ b. b && is_actor_below u.who x.who) (eq-eqb u.memory x.memory same)) ∙ p.1 in
      let above : is_actor_below x.who u.who ≡ false = sym (ap (λ b. b && is_actor_below x.who u.who) (eq-eqb x.memory u.memory (sym same))) ∙ q.1 in
      ap₂ (λ by m. is_same_actor by who && (m == memory)) (neither_below u.who x.who below above) same

  any_with_one : (u : Use) (uses : List Use) → list_any test (with_one is_use_below u uses) ≡ (test u || list_any test uses)
  any_with_one u [] = refl
  any_with_one u (x ∷ xs) = of_order (any_with_one u xs) (is_use_below u x) refl (is_use_below x u) refl
    where
      twice : (a b : Bool) → (a || b) ≡ (a || (a || b))
      twice true b = refl
      twice false b = refl

      of_order : list_any test (with_one is_use_below u xs) ≡ (test u || list_any test xs)
          → (first : Bool) → is_use_below u x ≡ first → (second : Bool) → is_use_below x u ≡ second
          → list_any test (cond first (u ∷ x ∷ xs) (cond second (x ∷ with_one is_use_below u xs) (x ∷ xs))) ≡ (test u || (test x || list_any test xs))
      of_order rest true below second _ = refl
      of_order rest false apart true below = ap (λ b. test x || b) rest ∙ turned (test x) (test u) (list_any test xs)
      of_order rest false apart false same = twice (test x) (list_any test xs) ∙ ap (λ b. b || (test x || list_any test xs)) (sym (same_use u x apart same))

  any_without : (by : Who) (uses : List Use) → list_any test (without by uses) ≡ (not (is_same_actor who by) && list_any test uses)
  any_without by uses = any-filter_same test (λ (u : Use). not (is_same_actor u.who by)) (not (is_same_actor who by)) agree uses
    where
      agree : (u : Use) → test u ≡ true → not (is_same_actor u.who by) ≡ not (is_same_actor who by)
      agree u is = ap (λ a. not (is_same_actor a by)) (same_actor_is u.who who (and_parts (is_same_actor u.who who) (u.memory == memory) is).0)

  any_but : (by : Who) (m : ℕ) (uses : List Use) → list_any test (filter (λ (u : Use). not (is_use by m u)) uses) ≡ (not (is_same_actor who by && (memory == m)) && list_any test uses)
  any_but by m uses = any-filter_same test (λ (u : Use). not (is_use by m u)) (not (is_same_actor who by && (memory == m))) agree uses
    where
      agree : (u : Use) → test u ≡ true → not (is_use by m u) ≡ not (is_same_actor who by && (memory == m))
      agree u is =
          let parts = and_parts (is_same_actor u.who who) (u.memory == memory) is in
          let same : u.memory ≡ memory = eqb-true u.memory memory parts.1 in
          ap₂ (λ a n. not (is_same_actor a by && (n == m))) (same_actor_is u.who who parts.0) same

-- ---- uses by other workers

place_back : (at place : ℕ) → exchanged_place at (exchanged_place at place) ≡ place
place_back zero zero = refl
place_back zero (suc zero) = refl
place_back zero (suc (suc place)) = refl
place_back (suc at) zero = refl
place_back (suc at) (suc place) = ap suc (place_back at place)

who_back : (at : ℕ) (who : Who) → exchanged_who at (exchanged_who at who) ≡ who
who_back at (Client number) = refl
who_back at (Worker zero) = refl
who_back at (Worker (suc place)) = ap (λ n. Worker (suc n)) (place_back at place)

module _ (at : ℕ) where
  abbrev other_who : Who → Who
  other_who who = exchanged_who at who

  use_alike : (who : Who) (memory : ℕ) (u : Use) → is_use (other_who who) memory (exchanged_use at u) ≡ is_use who memory u
  use_alike who memory u = ap (λ b. b && (u.memory == memory)) (same_who at u.who who)

  with_one_alike : (u : Use) (uses others : List Use) → AreExchangedUses at uses others → AreExchangedUses at (with_one is_use_below u uses) (with_one is_use_below (exchanged_use at u) others)
  with_one_alike u uses others alike who memory =
      any_with_one (other_who who) memory (exchanged_use at u) others
      ∙ ap₂ (λ a b. a || b) (use_alike who memory u) (alike who memory)
      ∙ sym (any_with_one who memory u uses)

  without_alike : (by : Who) (uses others : List Use) → AreExchangedUses at uses others → AreExchangedUses at (without by uses) (without (other_who by) others)
  without_alike by uses others alike who memory =
      any_without (other_who who) memory (other_who by) others
      ∙ ap₂ (λ a b. not a && b) (same_who at who by) (alike who memory)
      ∙ sym (any_without who memory by uses)

  but_alike : (by : Who) (m : ℕ) (uses others : List Use) → AreExchangedUses at uses others → AreExchangedUses at (filter (λ (u : Use). not (is_use by m u)) uses) (filter (λ (u : Use). not (is_use (other_who by) m u)) others)
  but_alike by m uses others alike who memory =
      any_but (other_who who) memory (other_who by) m others
      ∙ ap₂ (λ a b. not (a && (memory == m)) && b) (same_who at who by) (alike who memory)
      ∙ sym (any_but who memory by m uses)

  pub uses_back : (uses others : List Use) → AreExchangedUses at uses others → AreExchangedUses at others uses
  uses_back uses others alike who memory = sym (alike (other_who who) memory) ∙ ap (λ by. list_any (is_use by memory) others) (who_back at who)

  with_each : (who : Who) (memory : ℕ) (done uses : List Use) → list_any (is_use (other_who who) memory) (fold (with_exchanged at) done uses) ≡ (list_any (is_use (other_who who) memory) done || list_any (is_use who memory) uses)
  with_each who memory done [] = sym (or-false (list_any (is_use (other_who who) memory) done))
  with_each who memory done (u ∷ uses) =
      with_each who memory (with_exchanged at done u) uses
      ∙ ap (λ b. b || list_any (is_use who memory) uses) (any_with_one (other_who who) memory (exchanged_use at u) done ∙ ap (λ b. b || list_any (is_use (other_who who) memory) done) (use_alike who memory u))
      ∙ or_assoc (is_use who memory u) (list_any (is_use (other_who who) memory) done) (list_any (is_use who memory) uses)
      ∙ turned (is_use who memory u) (list_any (is_use (other_who who) memory) done) (list_any (is_use who memory) uses)

  pub uses_exchanged : (uses : List Use) → AreExchangedUses at uses (exchanged_uses at uses)
  uses_exchanged uses who memory = with_each who memory [] uses

  -- ---- whether a memory is in use

  -- some actor uses it
  user : (memory : ℕ) (uses : List Use) → list_any (is_of_memory memory) uses ≡ true → (who : Who) × (list_any (is_use who memory) uses ≡ true)
  user memory [] is = absurd cc
  user memory (x ∷ xs) is = of_either (λ rest. user memory xs rest) (or_cases (is_of_memory memory x) (list_any (is_of_memory memory) xs) is)
    where
      of_either : (list_any (is_of_memory memory) xs ≡ true → (who : Who) × (list_any (is_use who memory) xs ≡ true)) → (is_of_memory memory x ≡ true) ⊎ (list_any (is_of_memory memory) xs ≡ true) → (who : Who) × (list_any (is_use who memory) (x ∷ xs) ≡ true)
      of_either further (inl here) = (x.who, or_left (is_use x.who memory x) (list_any (is_use x.who memory) xs) (ap₂ (λ a b. a && b) (is_own_actor x.who) here))
      of_either further (inr there) = let rest = further there in (rest.0, or_right (is_use rest.0 memory x) (list_any (is_use rest.0 memory) xs) rest.1)

  used_by : (memory : ℕ) (who : Who) (uses : List Use) → list_any (is_use who memory) uses ≡ true → list_any (is_of_memory memory) uses ≡ true
  used_by memory who [] is = absurd cc
  used_by memory who (x ∷ xs) is = of_either (λ rest. used_by memory who xs rest) (or_cases (is_use who memory x) (list_any (is_use who memory) xs) is)
    where
      of_either : (list_any (is_use who memory) xs ≡ true → list_any (is_of_memory memory) xs ≡ true) → (is_use who memory x ≡ true) ⊎ (list_any (is_use who memory) xs ≡ true) → list_any (is_of_memory memory) (x ∷ xs) ≡ true
      of_either further (inl here) = or_left (is_of_memory memory x) (list_any (is_of_memory memory) xs) (and_parts (is_same_actor x.who who) (x.memory == memory) here).1
      of_either further (inr there) = or_right (is_of_memory memory x) (list_any (is_of_memory memory) xs) (further there)

  still_used : (memory : ℕ) (uses others : List Use) → AreExchangedUses at uses others → list_any (is_of_memory memory) uses ≡ true → list_any (is_of_memory memory) others ≡ true
  still_used memory uses others alike is =
      let found = user memory uses is in
      used_by memory (other_who found.0) others (alike found.0 memory ∙ found.1)

  memory_alike : (memory : ℕ) (uses others : List Use) → AreExchangedUses at uses others → list_any (is_of_memory memory) others ≡ list_any (is_of_memory memory) uses
  memory_alike memory uses others alike = same_truth (list_any (is_of_memory memory) others) (list_any (is_of_memory memory) uses) (still_used memory others uses (uses_back uses others alike)) (still_used memory uses others alike)
    where
      same_truth : (a b : Bool) → (a ≡ true → b ≡ true) → (b ≡ true → a ≡ true) → a ≡ b
      same_truth true b on back = sym (on refl)
      same_truth false true on back = back refl
      same_truth false false on back = refl

  in_use_alike : (noted other : Noted) → IsNotedAlike at noted other → (memory : ℕ) → is_in_use other memory ≡ is_in_use noted memory
  in_use_alike noted other alike memory = ap₂ (λ a b. a || b) (memory_alike memory noted.held other.held alike.held) (memory_alike memory noted.leaving other.leaving alike.leaving)

  -- ---- deeds of other workers

  abbrev other_deed : Deed → Deed
  other_deed d = record d { who = other_who d.who }

  deeds_by : (who : Who) (visits : Bool) (marks : List Marked) → map (deed (other_who who) visits) marks ≡ map other_deed (map (deed who visits) marks)
  deeds_by who visits [] = refl
  deeds_by who visits (m ∷ marks) = ap (λ ds. deed (other_who who) visits m ∷ ds) (deeds_by who visits marks)

  part_alike : (in_stage : Stage) (who : Who) → part_in in_stage (other_who who) ≡ part_in in_stage who
  part_alike stage.Playing (Client number) = refl
  part_alike stage.Playing (Worker number) = refl
  part_alike _ who = refl

  if_alike : (t : Bool) (xs ys : List Deed) → xs ≡ map other_deed ys → cond t xs [] ≡ map other_deed (cond t ys [])
  if_alike true xs ys same = same
  if_alike false xs ys same = refl

  module _ (k : Watched) (before after : Place) where
    line_alike : (who : Who) → line_at k (other_who who) before ≡ line_at k who before
    line_alike who = ap (λ o. line_in k o before.at.op) (part_alike before.stage who)

    own_alike : (e : Entry) → own_deeds k before after (exchanged_entry at e) ≡ map other_deed (own_deeds k before after e)
    own_alike e =
        if_alike (is_taken e.answer || not (before.at.op == after.at.op)) (map (deed (other_who e.who) false) (marks_in k (part_in after.stage (other_who e.who)) after.at)) (map (deed e.who false) (marks_in k (part_in after.stage e.who) after.at))
        (ap (λ o. map (deed (other_who e.who) false) (marks_in k o after.at)) (part_alike after.stage e.who) ∙ deeds_by e.who false (marks_in k (part_in after.stage e.who) after.at))

    -- clients stay
    clients_alike : (numbers : List ℕ) → flat_map (client_deeds k) numbers ≡ map other_deed (flat_map (client_deeds k) numbers)
    clients_alike [] = refl
    clients_alike (n ∷ numbers) =
        ap₂ (λ xs ys. xs ++ ys) (deeds_by (Client n) false (k.marks (part.Client n) first_progress)) (clients_alike numbers)
        ∙ sym (map-append other_deed (client_deeds k n) (flat_map (client_deeds k) numbers))

    first_alike : (limits : Limits) (e : Entry) → first_deeds k limits before after (exchanged_entry at e) ≡ map other_deed (first_deeds k limits before after e)
    first_alike limits e =
        ap (λ b. cond (b && ends_part before after) (flat_map (client_deeds k) (range_with_len 2 (limits.clients - 1))) []) (same_who at e.who (Client 1))
        ∙ if_alike (is_same_actor e.who (Client 1) && ends_part before after) (flat_map (client_deeds k) (range_with_len 2 (limits.clients - 1))) (flat_map (client_deeds k) (range_with_len 2 (limits.clients - 1))) (clients_alike (range_with_len 2 (limits.clients - 1)))

    notice_alike : (who : Who) (told : Answer) → notice_deeds k (other_who who) told ≡ map other_deed (notice_deeds k who told)
    notice_alike who (answer.Notice object routine context cleanup) = deeds_by who true (k.all_marks routine)
    notice_alike who _ = refl

    deeds_alike : (limits : Limits) (e : Entry) → deeds k limits before after (exchanged_entry at e) ≡ map other_deed (deeds k limits before after e)
    deeds_alike limits e =
        ap₂ (λ (xs ys : List Deed). xs ++ ys)
        (ap₂ (λ (xs ys : List Deed). xs ++ ys) (own_alike e) (first_alike limits e) ∙ sym (map-append other_deed (own_deeds k before after e) (first_deeds k limits before after e)))
        (notice_alike e.who e.answer)
        ∙ sym (map-append other_deed (own_deeds k before after e ++ first_deeds k limits before after e) (notice_deeds k e.who e.answer))

  -- ---- what is noted

  if_noted : (t : Bool) (a b c d : Noted) → IsNotedAlike at a c → IsNotedAlike at b d → IsNotedAlike at (cond t a b) (cond t c d)
  if_noted true a b c d first second = first
  if_noted false a b c d first second = second

  module _ (noted other : Noted) (alike : IsNotedAlike at noted other) where
    leaving_alike : (d : Deed) (memory : ℕ) → AreExchangedUses at (with_one is_use_below (use_by d memory) noted.leaving) (with_one is_use_below (use_by (other_deed d) memory) other.leaving)
    leaving_alike d memory = with_one_alike (use_by d memory) noted.leaving other.leaving alike.leaving

    abbrev drop_held : Deed → ℕ → Noted → Noted
    drop_held d memory n = record n { held = filter (λ (u : Use). not (is_use d.who memory u)) n.held; leaving = with_one is_use_below (use_by d memory) n.leaving }

    mark_alike : (d : Deed) (mark : Mark) → IsNotedAlike at (noted_by d noted mark) (noted_by (other_deed d) other mark)
    mark_alike d (Uses memory) =
        if_noted d.visits
        (record noted { leaving = with_one is_use_below (use_by d memory) noted.leaving }) (record noted { held = with_one is_use_below (use_by d memory) noted.held })
        (record other { leaving = with_one is_use_below (use_by (other_deed d) memory) other.leaving }) (record other { held = with_one is_use_below (use_by (other_deed d) memory) other.held })
        (record { freed = alike.freed; quiet = alike.quiet; lines = alike.lines; held = alike.held; leaving = leaving_alike d memory })
        (record { freed = alike.freed; quiet = alike.quiet; lines = alike.lines; held = with_one_alike (use_by d memory) noted.held other.held alike.held; leaving = alike.leaving })
    mark_alike d (Drop memory) =
        subst (λ t. IsNotedAlike at (noted_by d noted (Drop memory)) (cond (not d.visits && t) (drop_held (other_deed d) memory other) other)) (sym (alike.held d.who memory))
        (if_noted (not d.visits && list_any (is_use d.who memory) noted.held) (drop_held d memory noted) noted (drop_held (other_deed d) memory other) other
        (record { freed = alike.freed; quiet = alike.quiet; lines = alike.lines; held = but_alike d.who memory noted.held other.held alike.held; leaving = leaving_alike d memory })
        alike)
    mark_alike d (Free memory) = record { freed = ap (with_one nat_lt memory) alike.freed; quiet = alike.quiet; lines = alike.lines; held = alike.held; leaving = alike.leaving }
    mark_alike d (Quiet target) = record { freed = alike.freed; quiet = ap (with_one is_hush_below (record { line = d.marked.line; target = target })) alike.quiet; lines = alike.lines; held = alike.held; leaving = alike.leaving }

    at_alike : (k : Watched) (before after : Place) (e : Entry) → IsNotedAlike at (noted_at k noted before after e) (noted_at k other before after (exchanged_entry at e))
    at_alike k before after e = record {
      freed = alike.freed;
      quiet = alike.quiet;
      lines = ap₂ (λ xs line. cond (is_create e.call && is_made e.answer) (xs ++ line ∷ []) xs) alike.lines (line_alike k before after e.who);
      held = of_end (ends_part before after);
      leaving = without_alike e.who noted.leaving other.leaving alike.leaving;
    }
      where
        of_end : (t : Bool) → AreExchangedUses at (cond t (without e.who noted.held) noted.held) (cond t (without (other_who e.who) other.held) other.held)
        of_end true = without_alike e.who noted.held other.held alike.held
        of_end false = alike.held

  all_alike : (ds : List Deed) (noted other : Noted) → IsNotedAlike at noted other → IsNotedAlike at (fold behind noted ds) (fold behind other (map other_deed ds))
  all_alike [] noted other alike = alike
  all_alike (d ∷ ds) noted other alike = all_alike ds (behind noted d) (behind other (other_deed d)) (mark_alike noted other alike d d.marked.mark)

  -- ---- faults

  module _ (w : World) where
    abbrev u : World
    u = exchanged at w

    running_alike : (c : CallbackRow) → is_running (exchanged_callback at c).status ≡ is_running c.status
    running_alike c = status_same at is_running (λ _ _ _. refl) c.status

    waits_alike : (c : CallbackRow) → (is_running (exchanged_callback at c).status || is_pending (exchanged_callback at c).status) ≡ (is_running c.status || is_pending c.status)
    waits_alike c = status_same at (λ s. is_running s || is_pending s) (λ _ _ _. refl) c.status

    operating_alike : (c : CallbackRow) → is_operating (exchanged_callback at c).status ≡ is_operating c.status
    operating_alike c = status_same at is_operating (λ _ _ _. refl) c.status

    run_alike : (target : WaitTarget) (c : CallbackRow) → is_run_of target (exchanged_callback at c) ≡ is_run_of target c
    run_alike (Object object) c = ap (λ b. not (is_none_target (Object object)) && (b && is_of (Object object) c)) (running_alike c)
    run_alike (Group group) c = ap (λ b. b && is_of (Group group) c) (running_alike c)
    run_alike (Kernel kernel) c = ap (λ b. b && false) (running_alike c)

    taken_alike : (number : ℕ) (hushes : List Hush) → taken_faults u number hushes ≡ taken_faults w number hushes
    taken_alike number [] = refl
    taken_alike number (hush ∷ hushes) =
        ap₂ (λ (b : Bool) fs. fault_if b NotQuiet hush.line ++ fs)
        (ap (λ o. option_map_or (is_run_of hush.target) o false) (find_map (exchanged_callback at) (has_number number) (has_number number) (λ _. refl) w.callbacks)
        ∙ found_map (exchanged_callback at) (is_run_of hush.target) (is_run_of hush.target) (run_alike hush.target) (callback_of w number) false)
        (taken_alike number hushes)

    answers_alike : (k : Watched) (noted other : Noted) → IsNotedAlike at noted other → (who : Who) (p : Place) (told : Answer) → answer_faults k other u (other_who who) p told ≡ answer_faults k noted w who p told
    answers_alike k noted other alike who p (answer.Refused refusal) = ap (λ o. fault_if (not (may_refuse_in k o p.at.op)) (Refused refusal) (line_in k o p.at.op)) (part_alike p.stage who)
    answers_alike k noted other alike who p answer.Stalled = ap (λ n. fault_if true Stalled n) (line_alike k p p who)
    answers_alike k noted other alike who p (answer.Taken callback object routine context result) = ap (taken_faults u callback) alike.quiet ∙ taken_alike callback noted.quiet
    answers_alike k noted other alike who p _ = refl

    marks_alike : (noted other : Noted) → IsNotedAlike at noted other → (line : ℕ) (mark : Mark) → mark_faults u other line mark ≡ mark_faults w noted line mark
    marks_alike noted other alike line (Uses memory) = ap (λ ms. fault_if (is_among memory ms) UseAfterFree line) alike.freed
    marks_alike noted other alike line (Drop memory) = refl
    marks_alike noted other alike line (Free memory) = ap₂ (λ ms b. fault_if (is_among memory ms) FreedTwice line ++ fault_if b FreedInUse line) alike.freed (in_use_alike noted other alike memory)
    marks_alike noted other alike line (Quiet target) = ap (λ b. fault_if b NotQuiet line) (any_map (exchanged_callback at) (is_run_of target) (is_run_of target) (run_alike target) w.callbacks)

    done_alike : (ds : List Deed) (noted other : Noted) → IsNotedAlike at noted other → deed_faults u other (map other_deed ds) ≡ deed_faults w noted ds
    done_alike [] noted other alike = refl
    done_alike (d ∷ ds) noted other alike =
        ap₂ (λ (xs ys : List Fault). xs ++ ys) (marks_alike noted other alike d.marked.line d.marked.mark)
        (done_alike ds (behind noted d) (behind other (other_deed d)) (mark_alike noted other alike d d.marked.mark))

    left_alike : (lines : List ℕ) → left_faults u lines ≡ left_faults w lines
    left_alike lines =
        ap₂ (λ b fs. cond (list_all (λ (r : ClientRow). r.finished) w.clients && not b) fs [])
        (any_map (exchanged_callback at) (λ (c : CallbackRow). is_running c.status || is_pending c.status) (λ (c : CallbackRow). is_running c.status || is_pending c.status) waits_alike w.callbacks)
        (ap (map (left_fault lines)) (filter_map (exchanged_callback at) (λ (c : CallbackRow). is_operating c.status) (λ (c : CallbackRow). is_operating c.status) operating_alike w.callbacks) ∙ mapped (filter (λ (c : CallbackRow). is_operating c.status) w.callbacks))
      where
        mapped : (cs : List CallbackRow) → map (left_fault lines) (map (exchanged_callback at) cs) ≡ map (left_fault lines) cs
        mapped [] = refl
        mapped (c ∷ cs) = ap₂ (λ kind fs. record { kind = Left kind; line = (left_fault lines c).line } ∷ fs) (status_same at left_as (λ _ _ _. refl) c.status) (mapped cs)

-- ---- an entry

pub noted_alike : (k : Watched) (limits : Limits) (at : ℕ) (noted other : Noted) → IsNotedAlike at noted other → (before after : Place) (e : Entry)
    → IsNotedAlike at (fold behind (noted_at k noted before after e) (deeds k limits before after e)) (fold behind (noted_at k other before after (exchanged_entry at e)) (deeds k limits before after (exchanged_entry at e)))
noted_alike k limits at noted other alike before after e =
    subst (λ ds. IsNotedAlike at (fold behind (noted_at k noted before after e) (deeds k limits before after e)) (fold behind (noted_at k other before after (exchanged_entry at e)) ds)) (sym (deeds_alike at k before after limits e))
    (all_alike at (deeds k limits before after e) (noted_at k noted before after e) (noted_at k other before after (exchanged_entry at e)) (at_alike at noted other alike k before after e))

pub faults_alike : (k : Watched) (limits : Limits) (at : ℕ) (w : World) (noted other : Noted) → IsNotedAlike at noted other → (before after : Place) (e : Entry)
    → filter k.wants (answer_faults k other (exchanged at w) (exchanged_who at e.who) before e.answer ++ deed_faults (exchanged at w) (noted_at k other before after (exchanged_entry at e)) (deeds k limits before after (exchanged_entry at e)) ++ left_faults (exchanged at w) (fold behind (noted_at k other before after (exchanged_entry at e)) (deeds k limits before after (exchanged_entry at e))).lines)
    ≡ filter k.wants (answer_faults k noted w e.who before e.answer ++ deed_faults w (noted_at k noted before after e) (deeds k limits before after e) ++ left_faults w (fold behind (noted_at k noted before after e) (deeds k limits before after e)).lines)
faults_alike k limits at w noted other alike before after e =
    ap (filter k.wants) (ap₂ (λ (xs ys : List Fault). xs ++ ys) (ap₂ (λ (xs ys : List Fault). xs ++ ys) (answers_alike at w k noted other alike e.who before e.answer) marks) left)
  where
    marks : deed_faults (exchanged at w) (noted_at k other before after (exchanged_entry at e)) (deeds k limits before after (exchanged_entry at e)) ≡ deed_faults w (noted_at k noted before after e) (deeds k limits before after e)
    marks =
        ap (deed_faults (exchanged at w) (noted_at k other before after (exchanged_entry at e))) (deeds_alike at k before after limits e)
        ∙ done_alike at w (deeds k limits before after e) (noted_at k noted before after e) (noted_at k other before after (exchanged_entry at e)) (at_alike at noted other alike k before after e)

    left : left_faults (exchanged at w) (fold behind (noted_at k other before after (exchanged_entry at e)) (deeds k limits before after (exchanged_entry at e))).lines ≡ left_faults w (fold behind (noted_at k noted before after e) (deeds k limits before after e)).lines
    left = ap (left_faults (exchanged at w)) (noted_alike k limits at noted other alike before after e).lines ∙ left_alike at w (fold behind (noted_at k noted before after e) (deeds k limits before after e)).lines
