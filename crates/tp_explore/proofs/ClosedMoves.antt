-- What comes of a move of a closed board is what comes of it on the board, closed.
use Rattle.std.proofs.Common.{◌≡◌, ℕ, zero, suc, ◌+◌, ◌-◌, ◌<◌, ◌≤◌, ◌==◌, ◌&&◌, ◌||◌, not, Bool, true, false, cond, List, [], ◌∷◌, ◌++◌, length, map, fold, slice_get, slice_set, Option, None, Some, option_map, refl, sym, ap, ap₂, ◌∙◌, ◌⊎◌, inl, inr, filter, length-set, arith}
use Rattle.std.specs.List.{flat_map, range_with_len}
use Rattle.std.specs.Option.{unwrap_or}
use Rattle.std.proofs.lemmas.List.{length-map}
use Rattle.std.proofs.lemmas.Option.{slice_get-map}
use Rattle.breadth_first.specs.declared.Next.TheVariants.{To}
use Rattle.tp_base.specs.Actors.{is_same_actor}
use Rattle.tp_base.specs.declared.answers.Answer.{Answer}
use Rattle.tp_base.specs.declared.answers.Answer.TheVariants as answer
use Rattle.tp_base.specs.declared.answers.Entry.{Entry}
use Rattle.tp_base.specs.declared.calls.Call.{Call}
use Rattle.tp_base.specs.declared.ids.Who.{Who}
use Rattle.tp_base.specs.declared.ids.Who.TheVariants.{Client}
use Rattle.tp_base.specs.declared.limits.Limits.{Limits}
use Rattle.tp_base.specs.declared.plans.Stage.{Stage}
use Rattle.tp_base.specs.declared.rows.CallbackRow.{CallbackRow}
use Rattle.tp_model.specs.Stages.{is_in_part, is_over_stage, IsActor}
use Rattle.tp_model.specs.Support.Remembered.{forget, lives}
use Rattle.tp_model.specs.Support.Sound.{IsRising, IsSound}
use Rattle.tp_model.specs.World.{World}
use Rattle.tp_model.proofs.Forgetting.{forget_sound}
use Rattle.tp_script.specs.declared.routines.Part.{Part}
use Rattle.tp_script.specs.declared.routines.Progress.{Progress}
use Rattle.part_places.specs.declared.place.Place.{Place}
use Rattle.part_places.specs.Places.{is_taken, opening, part_in, place_after}
use Rattle.renamed_worlds.specs.Closed.{closed, number_at, place_of}
use Rattle.renamed_worlds.specs.Renamed.{renamed_answer, renamed_call, renamed_callback, IsNaming}
use Rattle.renamed_worlds.proofs.Mapped.{filter_map}
use Rattle.renamed_worlds.proofs.Places.{at_naming}
use Rattle.tp_explore.specs.Movers.{actor_at, row_length, within_row}
use Rattle.tp_explore.specs.Boards.{actor_of, board_behind, moved, place_at, place_in_row, scene_of, to_board, turn_in, Board}
use Rattle.tp_explore.specs.Closing.{closed_board, closed_came, named_in, named_place, named_row, IsBlind}
use Rattle.tp_explore.specs.declared.fault.Fault.{Fault}
use Rattle.tp_explore.specs.declared.mark.Deed.{Deed}
use Rattle.tp_explore.specs.Faults.{answer_faults, behind, client_deeds, deed, deed_faults, deeds, faults_between, first_deeds, is_create, is_made, left_faults, line_at, noted_at, notice_deeds, own_deeds}
use Rattle.tp_explore.specs.Noted.{Noted, without}
use Rattle.tp_explore.specs.Scenes.{turns_at}
use Rattle.tp_explore.specs.Watched.{line_in, marks_in, may_refuse_in, Marked, Watched}
use Rattle.tp_explore.proofs.BlindFaults.{answers_same, create_same, deeds_same, left_same, made_same, notice_same}
use Rattle.tp_explore.proofs.Closing.{agree, names, none_behind, place_none}
use Rattle.tp_explore.proofs.Naming.{at_same, first_row, named_at, next_below, part_kept, place_next, row_set, row_twice, set_below, stage_at, stage_same, taken_renamed, turns_named, Agree, AreBelow, at_below, IsPlaceBelow}

set_at : {X : Type 0} (xs : List X) (i : ℕ) (x d : X) → i < length xs → unwrap_or (slice_get (slice_set xs i x) i) d ≡ x
set_at [] i x d less = absurd (omega (arith, less))
set_at (y ∷ xs) zero x d less = refl
set_at (y ∷ xs) (suc i) x d less = set_at xs i x d (omega (arith, less))

module _ (k : Watched) (blind : IsBlind k) (limits : Limits) where
  -- a board as it is kept along moves: without what is over, and naming nothing that was not made
  pub record IsKeptBoard (b : Board) : Type 0 where
    pub forgotten : forget b.world ≡ b.world
    pub sound : IsSound (b.made + 1) b.world
    pub count : length b.places ≡ limits.clients + limits.workers
    pub below : AreBelow limits (b.made + 1) 0 b.places

  module _ (b : Board) (kept : IsKeptBoard b) (who : Who) (actor : IsActor limits who) where
    abbrev pub next_number : ℕ
    next_number = b.made + 1

    abbrev pub c : Board
    c = closed_board limits b

    abbrev pub cs : List CallbackRow
    cs = filter lives b.world.callbacks

    abbrev pub first : ℕ → ℕ
    first = place_of cs

    abbrev pub old : ℕ → ℕ
    old = number_at cs next_number

    rising : IsRising 1 next_number cs
    rising = (forget_sound next_number b.world kept.sound).numbers

    naming : IsNaming old
    naming = at_naming next_number cs rising

    pub none_first : first 0 ≡ 0
    none_first = place_none 1 next_number 0 cs (omega arith) rising

    abbrev row : ℕ
    row = place_in_row limits who

    in_row : actor_of limits (0 + 1 + row) ≡ who
    in_row = ap (actor_of limits) (first_row row) ∙ actor_at limits who actor

    abbrev pub p : Place
    p = place_at limits b.places who

    abbrev q : Place
    q = named_place first who p

    q_is : place_at limits c.places who ≡ q
    q_is = named_at limits first who b.places none_first (actor_at limits who actor)

    p_below : IsPlaceBelow next_number who p
    p_below = at_below limits next_number 0 row who b.places in_row kept.below

    -- ---- turns

    pub turn_named : (number : ℕ) → turn_in k.given (scene_of limits c) who number ≡ option_map (renamed_call first) (turn_in k.given (scene_of limits b) who number)
    turn_named number =
        ap (λ (at : Stage). cond (is_same_actor who (Client 1) || is_over_stage at) (slice_get (turns_at k.given who (place_at limits c.places who)) number) None) (stage_at limits first 0 (place_in_row limits (Client 1)) (Client 1) b.places)
        ∙ ap (λ r. cond (is_same_actor who (Client 1) || is_over_stage (place_at limits b.places (Client 1)).stage) (slice_get (turns_at k.given who r) number) None) q_is
        ∙ ap (λ xs. cond (is_same_actor who (Client 1) || is_over_stage (place_at limits b.places (Client 1)).stage) (slice_get xs number) None) (turns_named k blind who p first none_first)
        ∙ ap (λ o. cond (is_same_actor who (Client 1) || is_over_stage (place_at limits b.places (Client 1)).stage) o None) (slice_get-map (renamed_call first) (turns_at k.given who p) number)
        ∙ of_turn (is_same_actor who (Client 1) || is_over_stage (place_at limits b.places (Client 1)).stage)
      where
        of_turn : (t : Bool) → cond t (option_map (renamed_call first) (slice_get (turns_at k.given who p) number)) None ≡ option_map (renamed_call first) (cond t (slice_get (turns_at k.given who p) number) None)
        of_turn true = refl
        of_turn false = refl

    -- ---- behind an entry

    module _ (made : Call) (told : Answer) where
      module _ (v u : World) (made_v made_u : ℕ) (rows : v.callbacks ≡ map (renamed_callback old) u.callbacks) (clients : v.clients ≡ u.clients) (none_v : place_of (filter lives v.callbacks) 0 ≡ 0) (closes : closed u ≡ closed v) where
        abbrev back : Answer
        back = renamed_answer old told

        abbrev e : Entry
        e = record { who = who; call = made; answer = back }

        abbrev f : Entry
        f = record { who = who; call = renamed_call first made; answer = told }

        abbrev ds : List CallbackRow
        ds = filter lives u.callbacks

        abbrev es : List CallbackRow
        es = filter lives v.callbacks

        rows_left : es ≡ map (renamed_callback old) ds
        rows_left = ap (filter lives) rows ∙ filter_map (renamed_callback old) lives lives (λ _. refl) u.callbacks

        none_left : place_of (map (renamed_callback old) ds) 0 ≡ 0
        none_left = ap (λ xs. place_of xs 0) (sym rows_left) ∙ none_v

        none_ds : place_of ds 0 ≡ 0
        none_ds = none_behind next_number cs ds rising none_left

        agrees : Agree next_number (λ n. place_of ds (first n)) (place_of es)
        agrees n less = agree next_number cs ds rising none_left n less ∙ ap (λ xs. place_of xs n) (sym rows_left)

        names_on : (n : ℕ) → place_of es (old n) ≡ place_of ds n
        names_on n = ap (λ xs. place_of xs (old n)) rows_left ∙ names next_number cs ds rising n

        -- where the actor comes to
        abbrev raw : Place
        raw = place_after k.given who q (renamed_call first made) told

        abbrev got : Place
        got = place_after k.given who p made back

        stages : raw.stage ≡ got.stage
        stages = stage_same k blind who p next_number p_below made told first (place_of ds) (place_of es) old none_first none_ds none_v agrees names_on

        ats : named_in (part_in got.stage who) (place_of ds) raw.at ≡ named_in (part_in got.stage who) (place_of es) got.at
        ats = at_same k blind who p next_number p_below made told first (place_of ds) (place_of es) old none_first none_ds none_v agrees names_on

        -- ---- marks

        marks_of : (part : Option Part) (x y : Progress) → named_in part (place_of ds) x ≡ named_in part (place_of es) y → marks_in k part x ≡ marks_in k part y
        marks_of None x y same = refl
        marks_of (Some part) x y same = sym (blind.marks (place_of ds) none_ds part x) ∙ ap (k.marks part) same ∙ blind.marks (place_of es) none_v part y

        abbrev onwards : Option Part
        onwards = part_in got.stage who

        abbrev own_of : Bool → ℕ → ℕ → List Marked → List Deed
        own_of begins before after marks = cond (begins || not (before == after)) (map (deed who false) marks) []

        own_same : own_deeds k q raw f ≡ own_deeds k p got e
        own_same =
            ap (λ (at : Stage). own_of (is_taken told) q.at.op raw.at.op (marks_in k (part_in at who) raw.at)) stages
            ∙ ap₂ (λ t marks. own_of t q.at.op raw.at.op marks) (sym (taken_renamed old told)) (marks_of onwards raw.at got.at ats)
            ∙ of_taken (is_taken back) refl
          where
            no_marks : (t : Bool) (x y : ℕ) (part : Option Part) → part ≡ None → own_of t x y (marks_in k part got.at) ≡ []
            no_marks t x y part is = ap (λ o. own_of t x y (marks_in k o got.at)) is ∙ elim (t || not (x == y)) as (λ c. cond c (map (deed who false) []) [] ≡ []) [ true ↦ refl | false ↦ refl ]

            without_part : (t : Bool) → onwards ≡ None → own_of t q.at.op raw.at.op (marks_in k onwards got.at) ≡ own_of t p.at.op got.at.op (marks_in k onwards got.at)
            without_part t is = no_marks t q.at.op raw.at.op onwards is ∙ sym (no_marks t p.at.op got.at.op onwards is)

            in_part : (t : Bool) (now then : Option Part) → onwards ≡ now → part_in p.stage who ≡ then → now ≡ then → own_of t q.at.op raw.at.op (marks_in k onwards got.at) ≡ own_of t p.at.op got.at.op (marks_in k onwards got.at)
            in_part t None then is was same = without_part t is
            in_part t (Some part) None is was same = absurd cc
            in_part t (Some part) (Some other) is was same =
                ap₂ (λ x y. own_of t x y (marks_in k onwards got.at))
                (ap (λ o. (named_in o first p.at).op) was)
                (ap (λ (at : Progress). at.op) (sym (ap (λ o. named_in o (place_of ds) raw.at) is) ∙ ats ∙ ap (λ o. named_in o (place_of es) got.at) is))

            of_kept : (t : Bool) → (onwards ≡ part_in p.stage who) ⊎ (onwards ≡ None) → own_of t q.at.op raw.at.op (marks_in k onwards got.at) ≡ own_of t p.at.op got.at.op (marks_in k onwards got.at)
            of_kept t (inr stops) = without_part t stops
            of_kept t (inl stays) = in_part t onwards (part_in p.stage who) refl refl stays

            of_taken : (t : Bool) → is_taken back ≡ t → own_of (is_taken back) q.at.op raw.at.op (marks_in k onwards got.at) ≡ own_of (is_taken back) p.at.op got.at.op (marks_in k onwards got.at)
            of_taken true is =
                ap (λ t. own_of t q.at.op raw.at.op (marks_in k onwards got.at)) is
                ∙ ap (λ t. own_of t p.at.op got.at.op (marks_in k onwards got.at)) (sym is)
            of_taken false is = of_kept (is_taken back) (part_kept p.stage made back who is)

        deeds_are : deeds k limits q raw f ≡ deeds k limits p got e
        deeds_are =
            ap₂ (λ (own : List Deed) (at : Stage). own ++ cond (is_same_actor who (Client 1) && (is_in_part p.stage && not (is_in_part at))) (flat_map (client_deeds k) (range_with_len 2 (limits.clients - 1))) [] ++ notice_deeds k who told) own_same stages
            ∙ ap (λ (ns : List Deed). own_deeds k p got e ++ first_deeds k limits p got e ++ ns) (sym (notice_same k old who told))

        -- ---- what is noted

        line_is : line_at k who q ≡ line_at k who p
        line_is = of_part (part_in p.stage who)
          where
            of_part : (o : Option Part) → line_in k o (named_in o first p.at).op ≡ line_in k o p.at.op
            of_part None = refl
            of_part (Some part) = refl

        may_is : may_refuse_in k (part_in q.stage who) q.at.op ≡ may_refuse_in k (part_in p.stage who) p.at.op
        may_is = of_part (part_in p.stage who)
          where
            of_part : (o : Option Part) → may_refuse_in k o (named_in o first p.at).op ≡ may_refuse_in k o p.at.op
            of_part None = refl
            of_part (Some part) = refl

        abbrev noted_of : Noted → Stage → Bool → ℕ → Noted
        noted_of noted at makes line = record noted {
          held = cond (is_in_part p.stage && not (is_in_part at)) (without who noted.held) noted.held;
          leaving = without who noted.leaving;
          lines = cond makes (noted.lines ++ line ∷ []) noted.lines;
        }

        noted_at_is : (noted : Noted) → noted_at k noted q raw f ≡ noted_at k noted p got e
        noted_at_is noted =
            ap₂ (λ at line. noted_of noted at (is_create (renamed_call first made) && is_made told) line) stages line_is
            ∙ ap₂ (λ x y. noted_of noted got.stage (x && y) (line_at k who p)) (create_same first made) (sym (made_same old told))

        abbrev noted_with : Place → Place → Noted → Entry → Noted
        noted_with before after noted entry = fold behind (noted_at k noted before after entry) (deeds k limits before after entry)

        noted_is : (noted : Noted) → noted_with q raw noted f ≡ noted_with p got noted e
        noted_is noted = ap₂ (λ n xs. fold behind n xs) (noted_at_is noted) deeds_are

        -- ---- faults

        -- whichever are looked for
        abbrev faults_with : World → Place → Place → Noted → Entry → List Fault
        faults_with w before after noted entry =
            answer_faults k noted w entry.who before entry.answer
            ++ deed_faults w (noted_at k noted before after entry) (deeds k limits before after entry)
            ++ left_faults w (noted_with before after noted entry).lines

        faults_are : (noted : Noted) → faults_with u q raw noted f ≡ faults_with v p got noted e
        faults_are noted =
            ap₂ (λ (xs ys : List Fault). xs ++ ys)
            (
            ap₂ (λ (xs ys : List Fault). xs ++ ys)
            (sym (answers_same old naming v u rows clients k noted who p q told (sym line_is) (sym may_is)))
            (ap₂ (λ n xs. deed_faults u n xs) (noted_at_is noted) deeds_are ∙ sym (deeds_same old naming v u rows clients (noted_at k noted p got e) (deeds k limits p got e)))
            )
            (ap (λ (n : Noted). left_faults u n.lines) (noted_is noted) ∙ sym (left_same old naming v u rows clients (noted_with p got noted e).lines))

        -- ---- boards

        abbrev next_c : Board
        next_c = board_behind k limits c f u made_u

        abbrev next_b : Board
        next_b = board_behind k limits b e v made_v

        places_c : next_c.places ≡ slice_set c.places row raw
        places_c = ap (λ r. slice_set c.places row (place_after k.given who r (renamed_call first made) told)) q_is

        within_b : row < length b.places
        within_b = omega (arith, within_row limits who actor, kept.count)

        within_c : row < length c.places
        within_c = omega (arith, within_b, row_length limits first 0 b.places)

        after_c : place_at limits next_c.places who ≡ raw
        after_c = ap (λ ps. place_at limits ps who) places_c ∙ set_at c.places row raw (opening who) within_c

        after_b : place_at limits next_b.places who ≡ got
        after_b = set_at b.places row got (opening who) within_b

        places_are : named_row limits (place_of ds) 0 next_c.places ≡ named_row limits (place_of es) 0 next_b.places
        places_are =
            ap (named_row limits (place_of ds) 0) places_c
            ∙ row_set limits (place_of ds) 0 row who raw c.places in_row
            ∙ ap₂ (λ ps r. slice_set ps row r)
            (row_twice limits next_number 0 (place_of ds) first (place_of es) b.places none_ds none_first none_v agrees kept.below)
            (place_next k blind who p next_number p_below made told first (place_of ds) (place_of es) old none_first none_ds none_v agrees names_on)
            ∙ sym (row_set limits (place_of es) 0 row who got b.places in_row)

        noted_next : next_c.noted ≡ next_b.noted
        noted_next = ap₂ (λ before after. noted_with before after b.noted f) q_is after_c ∙ noted_is b.noted ∙ ap (λ after. noted_with p after b.noted e) (sym after_b)

        faults_next : faults_between k limits (scene_of limits c) (scene_of limits next_c) c.noted f ≡ faults_between k limits (scene_of limits b) (scene_of limits next_b) b.noted e
        faults_next = ap (filter k.wants) (ap₂ (λ before after. faults_with u before after b.noted f) q_is after_c ∙ faults_are b.noted ∙ ap (λ after. faults_with v p after b.noted e) (sym after_b))

        made_are : length ds ≡ length es
        made_are = sym (ap length rows_left ∙ length-map ds (renamed_callback old))

        boards_are : closed_board limits next_c ≡ closed_board limits next_b
        boards_are =
            ap₂ (λ (w : World) (n : ℕ). record { world = w; made = n; places = named_row limits (place_of ds) 0 next_c.places; noted = next_c.noted }) closes made_are
            ∙ ap₂ (λ (ps : List Place) (n : Noted). record { world = closed v; made = length es; places = ps; noted = n }) places_are noted_next

        pub moved_same : closed_came limits (moved k limits c f u made_u) ≡ closed_came limits (moved k limits b e v made_v)
        moved_same =
            ap (λ fs. closed_came limits (to_board k limits next_c fs)) faults_next
            ∙ of_faults (faults_between k limits (scene_of limits b) (scene_of limits next_b) b.noted e)
          where
            of_faults : (fs : List Fault) → closed_came limits (to_board k limits next_c fs) ≡ closed_came limits (to_board k limits next_b fs)
            of_faults [] = ap To boards_are
            of_faults (fault ∷ fs) = refl

      -- the board behind an entry is kept as well
      pub kept_behind : (v : World) (made_v : ℕ) → forget v ≡ v → IsSound (made_v + 1) v → b.made ≤ made_v → ((callback : ℕ) → told ≡ answer.Operation callback → callback < made_v + 1)
          → IsKeptBoard (board_behind k limits b (record { who = who; call = made; answer = told }) v made_v)
      kept_behind v made_v forgotten sound more known = record {
        forgotten = forgotten;
        sound = sound;
        count = length-set b.places row (place_after k.given who p made told) ∙ kept.count;
        below = set_below limits next_number (made_v + 1) 0 row who (place_after k.given who p made told) b.places in_row (omega (arith, more)) (next_below k blind who p next_number p_below made told (made_v + 1) (omega (arith, more)) known) kept.below;
      }
