-- What is written of what a search answers.
use Rattle.std.proofs.Common.{◌≡◌, ◌≢◌, ℕ, ◌-◌, ◌≤◌, ◌++◌, Bool, true, false, List, [], ◌∷◌, length, map, slice_index_or, refl, sym, ap, ◌∙◌, subst, arith, inl, inr}
use Rattle.std.proofs.lemmas.Bool.{false≢true}
use Rattle.std.proofs.lemmas.List.{append_assoc}
use Rattle.breadth_first.specs.Answers.{GivesUpFor}
use Rattle.breadth_first.specs.declared.Answer.TheVariants.{None as NoneBad, GaveUp as GaveUpAt}
use Rattle.recorded.specs.Recordings.{Recording}
use Rattle.tp_base.specs.declared.answers.Entry.{Entry}
use Rattle.tp_base.specs.declared.limits.Limits.{Limits}
use Rattle.tp_explore.specs.Closing.{rules_of_closed}
use Rattle.tp_explore.specs.Explored.{Explores, IsBad, IsMadeBy, IsMadeFrom, IsShortest}
use Rattle.tp_explore.specs.Faults.{faults_of}
use Rattle.tp_explore.specs.declared.fault.Fault.{Fault}
use Rattle.tp_explore.specs.Exchanging.{key_in_order}
use Rattle.tp_explore.specs.Legal.{IsRoomy}
use Rattle.tp_explore.specs.Scenes.{first_scene, scene_after, IsOrder, Scene}
use Rattle.tp_explore.specs.Story.{happened_of, told_of, waiting_of}
use Rattle.tp_explore.specs.Watched.{Watched}
use Rattle.tp_explore.specs.declared.told.Told.{Told}
use Rattle.tp_model.specs.History.{IsLegal}
use Rattle.tp_model.specs.Laws.{KeepsLaws}
use Rattle.tp_report.specs.Histories.{history_text}
use Rattle.order_lines.specs.Explored.{bad_text, none_text, states_line, story_text, IsFirst, IsReason, WritesBad, WritesNone}
use Rattle.order_lines.specs.declared.explored.TheConstants.{DEEPEST, EVENTS}

-- as many moves as entries
made_length : (k : Watched) (limits : Limits) (s : Scene) (moves : List ℕ) (history : List Entry) → IsMadeFrom k.given limits s moves history → length moves ≡ length history
made_length k limits s [] [] made = refl
made_length k limits s [] (e ∷ rest) made = absurd made
made_length k limits s (by ∷ moves) [] made = absurd made
made_length k limits s (by ∷ moves) (e ∷ rest) made = omega (arith, made_length k limits (scene_after k.given s e) moves rest made.1)

module _ (k : Watched) (text : List ℕ) (limits : Limits) where
  pub reason_of : (most states deep : ℕ) → GivesUpFor (rules_of_closed k limits (key_in_order limits)) most DEEPEST (GaveUpAt states deep) → IsReason k limits most deep
  reason_of most states deep (inl more) = inl more
  reason_of most states deep (inr as_deep) = inr (inl as_deep)

  pub none_written : (output : List ℕ) (states steps met : ℕ) → Explores k limits (NoneBad met) → output ≡ none_text states steps → WritesNone k limits output
  none_written output states steps met none written = record { states = states; steps = steps; none = none; output_is = written }

  -- ---- a shortest bad order

  module _ (path : List ℕ) (history : List Entry) (short : IsShortest k limits path history) where
    -- it has an entry
    some_entry : 1 ≤ length history
    some_entry = of_history history short.bad
      where
        of_history : (h : List Entry) → IsBad k limits h → 1 ≤ length h
        of_history [] bad = absurd (bad refl)
        of_history (e ∷ rest) bad = omega arith

    moves_are : length path ≡ length history
    moves_are = made_length k limits (first_scene limits) path history short.made

    -- no order that is shorter has a fault
    pub none_shorter : (states deep : ℕ) → deep ≡ length path - 1 → Explores k limits (GaveUpAt states deep)
    none_shorter states deep is other order within = of_faults (faults_of k limits other) refl
      where
        of_faults : (faults : List Fault) → faults_of k limits other ≡ faults → faults_of k limits other ≡ []
        of_faults [] same = same
        of_faults (fault ∷ faults) same =
            let bad : IsBad k limits other = λ none. some_of (sym same ∙ none) in
            absurd (omega (arith, short.shortest other order bad, within, is, moves_are, some_entry))
          where
            some_of : ◌≡◌ {A = List Fault} (fault ∷ faults) [] → ⊥
            some_of same = cc

    pub without_room : (most deep : ℕ) → deep ≡ length path - 1 → (IsRoomy limits EVENTS history → IsLegal limits EVENTS history → ⊥) → IsReason k limits most deep
    without_room most deep is none = inr (inr (record { history = history; order = short.order; bad = short.bad; length_is = omega (arith, is, moves_are, some_entry); no_room = none }))

    -- where its moves weren't all played on a machine, that has no room for it
    pub no_room_for : (l : Limits) (capacity : ℕ) (whole : Bool) → l ≡ limits → capacity ≡ EVENTS
        → ((order : List Entry) → IsOrder k.given l order → IsMadeBy k.given l path order → IsRoomy l capacity order → IsLegal l capacity order → whole ≡ true)
        → whole ≡ false → IsRoomy limits EVENTS history → IsLegal limits EVENTS history → ⊥
    no_room_for l capacity whole same_limits same_capacity played unplayed roomy legal =
        false≢true (sym unplayed ∙ played history
        (subst (λ m. IsOrder k.given m history) (sym same_limits) short.order)
        (subst (λ m. IsMadeBy k.given m path history) (sym same_limits) short.made)
        (subst (λ (c : ℕ). IsRoomy l c history) (sym same_capacity) (subst (λ m. IsRoomy m EVENTS history) (sym same_limits) roomy))
        (subst (λ (c : ℕ). IsLegal l c history) (sym same_capacity) (subst (λ m. IsLegal m EVENTS history) (sym same_limits) legal)))

    -- and where they were, it is the history
    pub is_history : (l : Limits) (new : List Entry) → l ≡ limits → ((order : List Entry) → IsOrder k.given l order → IsMadeBy k.given l path order → new ≡ order) → new ≡ history
    is_history l new same_limits only =
        only history (subst (λ m. IsOrder k.given m history) (sym same_limits) short.order) (subst (λ m. IsMadeBy k.given m path history) (sym same_limits) short.made)

    -- its story tells of a fault
    pub some_told : (h : List Entry) (told : List Told) → h ≡ history → told ≡ told_of k limits h → ((b : List Entry) → map (λ (t : Told). t.fault) (told_of k limits b) ≡ faults_of k limits b) → told ≢ []
    some_told h told same told_is tells none =
        short.bad (sym (tells history) ∙ ap (λ b. map (λ (t : Told). t.fault) (told_of k limits b)) (sym same) ∙ ap (λ ts. map (λ (t : Told). t.fault) ts) (sym told_is ∙ none))

    -- a machine on which its moves were played has it as its history
    pub bad_written : (states : ℕ) (fault : Fault) (r : Recording) (output : List ℕ) → r.limits ≡ limits → r.capacity ≡ EVENTS → r.history ≡ history
        → IsLegal r.limits r.capacity r.history → KeepsLaws r.limits r.history
        → IsFirst fault (faults_of k limits r.history)
        → output ≡ (history_text r.limits r.capacity r.history ++ story_text text (told_of k limits r.history) (waiting_of k limits r.history) (happened_of k limits r.history)) ++ states_line states
        → (writes : WritesBad text k limits output) × writes.block.fault ≡ fault
    bad_written states fault r output same_limits same_capacity same legal laws first written = (
      record {
        block = record { history = history; fault = fault; states = states };
        is_block = record {
          first_bad = record {
            order = short.order;
            bad = short.bad;
            shortest = short.shortest;
            legal = subst (λ l. IsLegal l EVENTS history) same_limits (subst (λ (c : ℕ). IsLegal r.limits c history) same_capacity (subst (λ h. IsLegal r.limits r.capacity h) same legal));
            laws = subst (λ l. KeepsLaws l history) same_limits (subst (λ h. KeepsLaws r.limits h) same laws);
          };
          first = subst (λ h. IsFirst fault (faults_of k limits h)) same first;
        };
        output_is =
            written
            ∙ append_assoc (history_text r.limits r.capacity r.history) (story_text text (told_of k limits r.history) (waiting_of k limits r.history) (happened_of k limits r.history)) (states_line states)
            ∙ ap (λ l. history_text l r.capacity r.history ++ (story_text text (told_of k limits r.history) (waiting_of k limits r.history) (happened_of k limits r.history) ++ states_line states)) same_limits
            ∙ ap (λ (c : ℕ). history_text limits c r.history ++ (story_text text (told_of k limits r.history) (waiting_of k limits r.history) (happened_of k limits r.history) ++ states_line states)) same_capacity
            ∙ ap (λ h. bad_text text k limits h states) same;
      },
      refl,
    )

-- the first fault that is told
pub first_is : (told : List Told) (none : Told) → told ≢ [] → IsFirst (slice_index_or told 0 none).fault (map (λ (t : Told). t.fault) told)
first_is [] none some = absurd (some refl)
first_is (t ∷ told) none some = (map (λ (u : Told). u.fault) told, refl)
