-- What `clap` finds in words is what they say.
use Rattle.std.proofs.Common.{◌≡◌, ◌∙◌, ◌+◌, ◌==◌, ℕ, suc, arith, Bool, true, false, cond, length, List, [], ◌∷◌, ◌++◌, min, Option, Some, None, refl, ap, ap₂, inl, inr, sym, subst, append-nil}
use Rattle.std.specs.Prelude.{◌&&◌, ◌||◌, codes, fold, option_and_then, option_map, slice_get}
use Rattle.std.specs.Option.{option_map_or}
use Rattle.std.specs.Str.{IsUtf8, bytes_eq, chars, encode_utf8_all}
use Rattle.std.proofs.lemmas.Str.{IsCharBoundary-after_ascii, IsUtf8-drop, encodes-chars}
use Rattle.clap.specs.Faults.{bundle_fault, flags_fault, positional_fault, react_fault, settle_fault, step_fault, stray_fault, turn_fault, use_fault, walk_fault}
use Rattle.clap.specs.Kinds.{Kinds, or_else}
use Rattle.clap.specs.Lexer.{long_of, short_of, short_of_rest, usize_max}
use Rattle.clap.specs.Walk.{Held, Row, Rule, Text, Waiting, Walk, after_step, arg_by_index, arg_by_long, has_row, idle, is_pending, nothing_held, option, pushed, settled, settled_rows, to_positional, used, value, walk, walk_from, walked, with_values, without}
use Rattle.clap.specs.declared.error.kind.ErrorKind.TheVariants.{ArgumentConflict, InvalidValue, TooManyValues, UnknownArgument}
use Rattle.clap.specs.declared.builder.value_parser.Reading.TheVariants.{AsWritten}
use Rattle.clap.specs.declared.parser.matches.ValueSource.TheVariants.{CommandLine}
use Rattle.tp_words.specs.Said.{Reading, Use, Word, alone_said, flags, named, options, start, uses_in, word_said}
use Rattle.tp_words.proofs.Faults.{unless}
use Rattle.tp_words.proofs.Rulebook.{IsLong, IsOne, command_is_one, first_place, flag_rule, long_cases, no_letter, number_is_one, one, option_rule, rules, second_place, shape, third_place}
use Rattle.tp_words.proofs.Added.{add_all, row, used_once}

-- ---- a walk from where it stands to its end

abbrev held : List Row → Option (Text × List Text) → Held
held rows pending = record { rows = rows; pending = pending; skip = 0 }

abbrev at : List Row → Option (Text × List Text) → Waiting → ℕ → Bool → Walk
at rows pending waiting position closed = record { held = held rows pending; waiting = waiting; position = position; is_trailing = closed; stopped = None }

abbrev ended : Held → Option (List Row)
ended h = unless (settle_fault rules false h) (Some (settled rules h).rows)

-- the rows at the end, without defaults, or none where there is a fault
unfoldable pub found : Walk → List Text → Option (List Row)
found w words = unless (walk_fault shape [] w words) (ended (fold (walked rules []) w words).held)

pub unless_else : {X : Type 0} (a b : Kinds) (o : Option X) → unless (or_else a b) o ≡ unless a (unless b o)
unless_else [] b o = refl
unless_else (k ∷ ks) b o = refl

unless_nothing : {X : Type 0} (a : Kinds) → unless {X = X} a None ≡ None
unless_nothing [] = refl
unless_nothing (k ∷ ks) = refl

found_next : (w : Walk) (word : Text) (words : List Text) → found w (word ∷ words) ≡ unless (turn_fault shape [] w word) (found (walked rules [] w word) words)
unfolding found walk_fault
found_next w word words = unless_else (turn_fault shape [] w word) (walk_fault shape [] (walked rules [] w word) words) _

found_end : (w : Walk) → found w [] ≡ ended w.held
unfolding found walk_fault
found_end w = refl

-- ---- a use

abbrev joined : List Row → List Use → Option (List Use) → Option (List Row)
joined rows front uses = option_and_then (λ more. add_all rows (front ++ more)) uses

-- a use adds a row, or is a fault where the name has one
use_adds : {X : Type 0} (entry : Use) (rows : List Row) (k : List Row → Option X)
    → unless (or_else (cond (has_row entry.0 rows && true) (ArgumentConflict ∷ []) []) []) (k (with_values entry.0 AsWritten CommandLine (entry.1 ∷ []) (without entry.0 rows)))
    ≡ cond (has_row entry.0 rows) None (k (rows ++ row entry ∷ []))
use_adds {X} entry rows k = go (has_row entry.0 rows) refl
  where
    go : (b : Bool) → has_row entry.0 rows ≡ b
        → unless (or_else (cond (b && true) (ArgumentConflict ∷ []) []) []) (k (with_values entry.0 AsWritten CommandLine (entry.1 ∷ []) (without entry.0 rows)))
        ≡ cond b None (k (rows ++ row entry ∷ []))
    go true has = refl
    go false none = ap k (used_once entry rows none)

value_adds : {X : Type 0} (id : Text) (long : Option Text) (index : Option ℕ) (v : Text) (rows : List Row) (k : List Row → Option X)
    → unless (use_fault false (one id long index) (v ∷ []) rows) (k (used (one id long index) (v ∷ []) rows)) ≡ cond (has_row id rows) None (k (rows ++ row (id, v) ∷ []))
value_adds id long index v rows k = use_adds (id, v) rows k

flag_adds : {X : Type 0} (id : Text) (rows : List Row) (k : List Row → Option X)
    → unless (use_fault false (flag_rule id) [] rows) (k (used (flag_rule id) [] rows)) ≡ cond (has_row id rows) None (k (rows ++ row (id, codes "true") ∷ []))
flag_adds id rows k = use_adds (id, codes "true") rows k

-- ---- what is held: nothing, or the last value, which is used a word later or at the end

data Hold : Type 0 where
  nothing : Hold
  last : (id v : Text) → IsOne id → Hold

abbrev pending_in : Hold → Option (Text × List Text)
pending_in nothing = None
pending_in (last id v is) = Some (id, v ∷ [])

abbrev uses_held : Hold → List Use
uses_held nothing = []
uses_held (last id v is) = (id, v) ∷ []

settles : {X : Type 0} (h : Hold) (rows : List Row) (k : List Row → Option X)
    → unless (settle_fault rules false (held rows (pending_in h))) (k (settled_rows rules (pending_in h) rows)) ≡ option_and_then k (add_all rows (uses_held h))
settles nothing rows k = refl
settles {X} (last id v is) rows k =
    rw is.rule (value_adds id is.long is.index v rows k ∙ go (has_row id rows))
  where
    go : (b : Bool) → cond b None (k (rows ++ row (id, v) ∷ [])) ≡ option_and_then k (cond b None (Some (rows ++ row (id, v) ∷ [])))
    go true = refl
    go false = refl

-- what is held comes before what is said next
held_first : (h : Hold) (rows : List Row) (front : List Use) (uses : Option (List Use))
    → option_and_then (λ rs. joined rs front uses) (add_all rows (uses_held h)) ≡ joined rows (uses_held h ++ front) uses
held_first nothing rows front uses = refl
held_first (last id v is) rows front uses = go (has_row id rows) uses
  where
    go : (b : Bool) (o : Option (List Use)) → option_and_then (λ rs. joined rs front o) (cond b None (Some (rows ++ row (id, v) ∷ [])))
        ≡ option_and_then (λ more. cond b None (add_all (rows ++ row (id, v) ∷ []) (front ++ more))) o
    go true None = refl
    go true (Some more) = refl
    go false o = refl

settles_joined : (h : Hold) (rows : List Row) (front : List Use) (uses : Option (List Use))
    → unless (settle_fault rules false (held rows (pending_in h))) (joined (settled_rows rules (pending_in h) rows) front uses) ≡ joined rows (uses_held h ++ front) uses
settles_joined h rows front uses = settles h rows (λ rs. joined rs front uses) ∙ held_first h rows front uses

-- one use before others
use_first : (entry : Use) (rows : List Row) (uses : Option (List Use)) → cond (has_row entry.0 rows) None (joined (rows ++ row entry ∷ []) [] uses) ≡ joined rows (entry ∷ []) uses
use_first entry rows uses = go (has_row entry.0 rows) uses
  where
    go : (b : Bool) (o : Option (List Use)) → cond b None (joined (rows ++ row entry ∷ []) [] o) ≡ option_and_then (λ more. cond b None (add_all (rows ++ row entry ∷ []) more)) o
    go true None = refl
    go true (Some more) = refl
    go false o = refl

said_first : (h : Hold) (rows : List Row) (said : Word) (uses : Option (List Use))
    → joined rows (uses_held h) (option_map (λ more. said.0 ++ more) uses) ≡ joined rows (uses_held h ++ said.0) uses
said_first nothing rows said None = refl
said_first nothing rows said (Some more) = refl
said_first (last id v is) rows said None = refl
said_first (last id v is) rows said (Some more) = refl

-- ---- where walk and reading stand

data Spot : Type 0 where
  first : Spot
  second : Spot
  past : Spot

abbrev position_of : Spot → ℕ
position_of first = 1
position_of second = 2
position_of past = 3

abbrev names_left : Spot → List Text
names_left first = codes "command" ∷ codes "number" ∷ []
names_left second = codes "number" ∷ []
names_left past = []

-- words go on, behind `--` or not; or an option waits for its value
data State : Type 0 where
  free : Bool → Hold → State
  waits : (id : Text) → IsOne id → State

abbrev hold_of : State → Hold
hold_of (free closed h) = h
hold_of (waits id is) = nothing

abbrev walk_at : List Row → Spot → State → Walk
walk_at rows spot (free closed h) = at rows (pending_in h) idle (position_of spot) closed
walk_at rows spot (waits id is) = at rows (Some (id, [])) (option id) (position_of spot) false

abbrev reading_at : Spot → State → Reading
reading_at spot (free closed h) = record { closed = closed; awaited = None; alone = names_left spot }
reading_at spot (waits id is) = record { closed = false; awaited = Some id; alone = names_left spot }

abbrev Agrees : List Row → Spot → State → List Text → Type 0
Agrees rows spot state words = found (walk_at rows spot state) words ≡ joined rows (uses_held (hold_of state)) (uses_in (reading_at spot state) words)

abbrev AllAgree : List Text → Type 0
AllAgree words = (rows : List Row) (spot : Spot) (state : State) → Agrees rows spot state words

-- ---- one word

-- the words from here on, by what this one says
said_is : (h : Hold) (rows : List Row) (reading : Reading) (word : Text) (words : List Text) (said : Word) → word_said word reading ≡ Some said
    → joined rows (uses_held h) (uses_in reading (word ∷ words)) ≡ joined rows (uses_held h ++ said.0) (uses_in said.1 words)
said_is h rows reading word words said e =
    ap (λ o. joined rows (uses_held h) (option_and_then (λ (s : Word). option_map (λ more. s.0 ++ more) (uses_in s.1 words)) o)) e
    ∙ said_first h rows said (uses_in said.1 words)

-- a word that ends what was held, and says something of its own
settling : (h : Hold) (rows : List Row) (w next : Walk) (reading : Reading) (word : Text) (words : List Text) (said : Word)
    → turn_fault shape [] w word ≡ settle_fault rules false (held rows (pending_in h)) → walked rules [] w word ≡ next
    → found next words ≡ joined (settled_rows rules (pending_in h) rows) said.0 (uses_in said.1 words) → word_said word reading ≡ Some said
    → found w (word ∷ words) ≡ joined rows (uses_held h) (uses_in reading (word ∷ words))
settling h rows w next reading word words said fault to rest says =
    found_next w word words ∙ (ap₂ (λ k v. unless k (found v words)) fault to
    ∙ (ap (unless (settle_fault rules false (held rows (pending_in h)))) rest
    ∙ (settles_joined h rows said.0 (uses_in said.1 words) ∙ sym (said_is h rows reading word words said says))))

-- a word that says nothing, and is a fault
refused : (h : Hold) (rows : List Row) (w : Walk) (reading : Reading) (word : Text) (words : List Text) (faults : Kinds) → turn_fault shape [] w word ≡ faults
    → ((o : Option (List Row)) → unless faults o ≡ None) → word_said word reading ≡ None → found w (word ∷ words) ≡ joined rows (uses_held h) (uses_in reading (word ∷ words))
refused h rows w reading word words faults fault some says =
    found_next w word words ∙ (ap (λ k. unless k (found (walked rules [] w word) words)) fault ∙ (some _
    ∙ sym (ap (λ o. joined rows (uses_held h) (option_and_then (λ (s : Word). option_map (λ more. s.0 ++ more) (uses_in s.1 words)) o)) says)))

-- ---- a word that stands alone

placed : (id : Text) (long : Option Text) (index : Option ℕ) (rows : List Row) (pending : Option (Text × List Text)) (waiting : Waiting) (position : ℕ) (closed : Bool) (word : Text)
    → arg_by_index rules position ≡ Some (one id long index)
    → after_step rules word (at rows pending waiting position closed) (held rows pending) value
    ≡ at (settled_rows rules pending rows) (Some (id, word ∷ [])) idle (min (position + 1) usize_max) closed
placed id long index rows pending waiting position closed word by =
    ap (λ o. to_positional rules o word (at rows pending waiting position closed) (held rows pending)) by ∙ go (is_pending (one id long index) pending) closed
  where
    go : (b c : Bool) → record {
      held = pushed id word (cond (b && false) (held rows pending) (settled rules (held rows pending)));
      waiting = idle;
      position = min (position + 1) usize_max;
      is_trailing = c || false;
      stopped = None;
    } ≡ at (settled_rows rules pending rows) (Some (id, word ∷ [])) idle (min (position + 1) usize_max) c
    go true true = refl
    go true false = refl
    go false true = refl
    go false false = refl

place_fault : (id : Text) (long : Option Text) (index : Option ℕ) (h : Held) (position : ℕ) → arg_by_index rules position ≡ Some (one id long index)
    → step_fault shape position h value ≡ settle_fault rules false h
place_fault id long index h position by =
    ap (λ o. option_map_or (λ a. positional_fault rules false a h) o (stray_fault shape)) by ∙ go (is_pending (one id long index) h.pending)
  where
    go : (b : Bool) → cond (b && false) [] (settle_fault rules false h) ≡ settle_fault rules false h
    go true = refl
    go false = refl

standing : (closed : Bool) (h : Hold) (rows : List Row) (spot : Spot) (word : Text) (words : List Text) → AllAgree words
    → turn_fault shape [] (walk_at rows spot (free closed h)) word ≡ step_fault shape (position_of spot) (held rows (pending_in h)) value
    → walked rules [] (walk_at rows spot (free closed h)) word ≡ after_step rules word (walk_at rows spot (free closed h)) (held rows (pending_in h)) value
    → word_said word (reading_at spot (free closed h)) ≡ alone_said (names_left spot) word (reading_at spot (free closed h))
    → Agrees rows spot (free closed h) (word ∷ words)
standing closed h rows first word words all fault to says =
    let next = free closed (last (codes "command") word command_is_one) in
    settling h rows (walk_at rows first (free closed h)) (walk_at (settled_rows rules (pending_in h) rows) second next) (reading_at first (free closed h)) word words
    ((codes "command", word) ∷ [], reading_at second next)
    (fault ∙ place_fault _ _ _ (held rows (pending_in h)) 1 first_place) (to ∙ placed _ _ _ rows (pending_in h) idle 1 closed word first_place)
    (all (settled_rows rules (pending_in h) rows) second next) says
standing closed h rows second word words all fault to says =
    let next = free closed (last (codes "number") word number_is_one) in
    settling h rows (walk_at rows second (free closed h)) (walk_at (settled_rows rules (pending_in h) rows) past next) (reading_at second (free closed h)) word words
    ((codes "number", word) ∷ [], reading_at past next)
    (fault ∙ place_fault _ _ _ (held rows (pending_in h)) 2 second_place) (to ∙ placed _ _ _ rows (pending_in h) idle 2 closed word second_place)
    (all (settled_rows rules (pending_in h) rows) past next) says
standing closed h rows past word words all fault to says =
    refused h rows (walk_at rows past (free closed h)) (reading_at past (free closed h)) word words (UnknownArgument ∷ [])
    (fault ∙ ap (λ o. option_map_or (λ a. positional_fault rules false a (held rows (pending_in h))) o (stray_fault shape)) third_place) (λ o. refl) says

closed_word : (h : Hold) (rows : List Row) (spot : Spot) (word : Text) (words : List Text) → AllAgree words → Agrees rows spot (free true h) (word ∷ words)
unfolding walked
closed_word h rows spot word words all = standing true h rows spot word words all refl refl refl

-- ---- an option that waits

waits_fault : (rows : List Row) (id : Text) → IsOne id → settle_fault rules false (held rows (Some (id, []))) ≡ InvalidValue ∷ []
waits_fault rows id is = ap (λ o. option_map_or (λ a. use_fault false a [] rows) o []) is.rule

-- behind `--` it gets no value
no_value : (words : List Text) (rows : List Row) (spot : Spot) (id : Text) → IsOne id → (waiting : Waiting)
    → found (at rows (Some (id, [])) waiting (position_of spot) true) words ≡ None
no_value [] rows spot id is waiting =
    found_end (at rows (Some (id, [])) waiting (position_of spot) true) ∙ ap (λ k. unless k (Some (settled_rows rules (Some (id, [])) rows))) (waits_fault rows id is)
no_value (word ∷ words) rows spot id is waiting =
    let w = at rows (Some (id, [])) waiting (position_of spot) true in
    found_next w word words ∙ go spot (found (walked rules [] w word) words)
  where
    go : (s : Spot) (o : Option (List Row)) → unless (step_fault shape (position_of s) (held rows (Some (id, []))) value) o ≡ None
    go first o = ap (λ k. unless k o) (place_fault _ _ _ (held rows (Some (id, []))) 1 first_place ∙ waits_fault rows id is)
    go second o = ap (λ k. unless k o) (place_fault _ _ _ (held rows (Some (id, []))) 2 second_place ∙ waits_fault rows id is)
    go past o = ap (λ found. unless (option_map_or (λ a. positional_fault rules false a (held rows (Some (id, [])))) found (stray_fault shape)) o) third_place

-- ---- `--`

close_word : (h : Hold) (rows : List Row) (spot : Spot) (word : Text) (words : List Text) → AllAgree words → bytes_eq word (45 ∷ 45 ∷ []) ≡ true
    → Agrees rows spot (free false h) (word ∷ words)
unfolding walked
close_word h rows spot word words all d =
    let w = walk_at rows spot (free false h) in
    let next = walk_at rows spot (free true h) in
    let fault : turn_fault shape [] w word ≡ [] = rw d refl in
    let to : walked rules [] w word ≡ next = rw d refl in
    let says : word_said word (reading_at spot (free false h)) ≡ Some ([], reading_at spot (free true h)) = rw d refl in
    found_next w word words ∙ (ap₂ (λ k v. unless k (found v words)) fault to ∙ (all rows spot (free true h)
    ∙ (ap (λ front. joined rows front (uses_in (reading_at spot (free true h)) words)) (sym (append-nil (uses_held h)))
    ∙ sym (said_is h rows (reading_at spot (free false h)) word words ([], reading_at spot (free true h)) says))))

close_waiting : (id : Text) (is : IsOne id) (rows : List Row) (spot : Spot) (word : Text) (words : List Text) → bytes_eq word (45 ∷ 45 ∷ []) ≡ true
    → Agrees rows spot (waits id is) (word ∷ words)
unfolding walked
close_waiting id is rows spot word words d =
    let w = walk_at rows spot (waits id is) in
    let next = at rows (Some (id, [])) (option id) (position_of spot) true in
    let fault : turn_fault shape [] w word ≡ [] = rw d refl in
    let to : walked rules [] w word ≡ next = rw d refl in
    let says : word_said word (reading_at spot (waits id is)) ≡ None = rw d refl in
    found_next w word words ∙ (ap₂ (λ k v. unless k (found v words)) fault to ∙ (no_value words rows spot id is (option id)
    ∙ sym (ap (λ o. joined rows [] (option_and_then (λ (s : Word). option_map (λ more. s.0 ++ more) (uses_in s.1 words)) o)) says)))

-- ---- a word that is no option

plain_word : (h : Hold) (rows : List Row) (spot : Spot) (word : Text) (words : List Text) → AllAgree words
    → bytes_eq word (45 ∷ 45 ∷ []) ≡ false → long_of word ≡ None → short_of word ≡ None → Agrees rows spot (free false h) (word ∷ words)
unfolding walked
plain_word h rows spot word words all d l s = standing false h rows spot word words all (rw (d, l, s) refl) (rw (d, l, s) refl) (rw (d, l, s) refl)

value_word : (id : Text) (is : IsOne id) (rows : List Row) (spot : Spot) (word : Text) (words : List Text) → AllAgree words
    → bytes_eq word (45 ∷ 45 ∷ []) ≡ false → long_of word ≡ None → short_of word ≡ None → Agrees rows spot (waits id is) (word ∷ words)
unfolding walked
value_word id is rows spot word words all d l s =
    let next = free false (last id word is) in
    settling nothing rows (walk_at rows spot (waits id is)) (walk_at rows spot next) (reading_at spot (waits id is)) word words ((id, word) ∷ [], reading_at spot next)
    (rw (d, l, s) refl) (rw (d, l, s, is.rule, is.same) refl) (all rows spot next) (rw (d, l, s) refl)

-- ---- an option of one letter

short_chars : (word flags : Text) → IsUtf8 word → short_of word ≡ Some flags
    → (letter : ℕ) × (size : ℕ) × (slice_get (chars flags) 0 ≡ Some letter) × (length flags ≡ suc size)
short_chars [] flags utf8 e = absurd (cc)
short_chars (b ∷ bs) flags utf8 e = go (b == 45) refl e
  where
    letters : (c : ℕ) (cs : Text) → IsUtf8 (c ∷ cs) → (letter : ℕ) × (slice_get (chars (c ∷ cs)) 0 ≡ Some letter)
    letters c cs utf = by (chars (c ∷ cs)) (encodes-chars (c ∷ cs) utf)
      where
        by : (ls : List ℕ) → encode_utf8_all ls ≡ c ∷ cs → (letter : ℕ) × (slice_get ls 0 ≡ Some letter)
        by [] none = absurd (cc)
        by (letter ∷ ls) some = (letter, refl)

    from : (rest : Text) → IsUtf8 rest → short_of_rest rest ≡ Some flags
        → (letter : ℕ) × (size : ℕ) × (slice_get (chars flags) 0 ≡ Some letter) × (length flags ≡ suc size)
    from [] utf r = absurd (cc)
    from (c ∷ cs) utf r = at_hyphen (c == 45) r
      where
        at_hyphen : (h : Bool) → cond h None (Some (c ∷ cs)) ≡ Some flags
            → (letter : ℕ) × (size : ℕ) × (slice_get (chars flags) 0 ≡ Some letter) × (length flags ≡ suc size)
        at_hyphen true q = absurd (cc)
        at_hyphen false q =
            let same : c ∷ cs ≡ flags = cc in
            let found = letters c cs utf in
            (found.0, length cs, subst (λ t. slice_get (chars t) 0 ≡ Some found.0) same found.1, sym (ap length same))

    go : (h : Bool) → (b == 45) ≡ h → option_and_then short_of_rest (cond h (Some bs) None) ≡ Some flags
        → (letter : ℕ) × (size : ℕ) × (slice_get (chars flags) 0 ≡ Some letter) × (length flags ≡ suc size)
    go false other q = absurd (cc)
    go true hyphen q =
        let is : b ≡ 45 = grind arith in
        from bs (IsUtf8-drop (b ∷ bs) 1 utf8 (IsCharBoundary-after_ascii (b ∷ bs) 0 utf8 (omega arith) (omega arith))) q

short_fault : (flags : Text) (h : Held) (letter size : ℕ) → h.skip ≡ 0 → slice_get (chars flags) 0 ≡ Some letter → length flags ≡ suc size
    → bundle_fault rules false flags h ≡ UnknownArgument ∷ []
unfolding flags_fault
short_fault flags h letter size skip at_first long = rw (skip, long, at_first, no_letter letter) refl

short_word : (h : Hold) (rows : List Row) (spot : Spot) (word flags : Text) (words : List Text) → IsUtf8 word
    → bytes_eq word (45 ∷ 45 ∷ []) ≡ false → long_of word ≡ None → short_of word ≡ Some flags → Agrees rows spot (free false h) (word ∷ words)
short_word h rows spot word flags words utf8 d l s =
    let letter = short_chars word flags utf8 s in
    let w = walk_at rows spot (free false h) in
    let fault : turn_fault shape [] w word ≡ UnknownArgument ∷ [] = rw (d, l, s, short_fault flags (held rows (pending_in h)) letter.0 letter.1 refl letter.2 letter.3) refl in
    refused h rows w (reading_at spot (free false h)) word words (UnknownArgument ∷ []) fault (λ o. refl) (rw (d, l, s) refl)

short_waiting : (id : Text) (is : IsOne id) (rows : List Row) (spot : Spot) (word flags : Text) (words : List Text) → IsUtf8 word
    → bytes_eq word (45 ∷ 45 ∷ []) ≡ false → long_of word ≡ None → short_of word ≡ Some flags → Agrees rows spot (waits id is) (word ∷ words)
short_waiting id is rows spot word flags words utf8 d l s =
    let letter = short_chars word flags utf8 s in
    let w = walk_at rows spot (waits id is) in
    let fault : turn_fault shape [] w word ≡ UnknownArgument ∷ [] = rw (d, l, s, short_fault flags (held rows (Some (id, []))) letter.0 letter.1 refl letter.2 letter.3) refl in
    refused nothing rows w (reading_at spot (waits id is)) word words (UnknownArgument ∷ []) fault (λ o. refl) (rw (d, l, s) refl)

-- ---- an option by its name

pub else_nothing : (a : Kinds) → or_else a [] ≡ a
else_nothing [] = refl
else_nothing (k ∷ ks) = refl

-- a word that ends what was held, and is a use by itself
using : (h : Hold) (rows : List Row) (spot : Spot) (w : Walk) (reading : Reading) (word : Text) (words : List Text) (entry : Use) (rule : Rule) (values : List Text) → AllAgree words
    → turn_fault shape [] w word ≡ react_fault rules false rule values (held rows (pending_in h))
    → walked rules [] w word ≡ walk_at (used rule values (settled_rows rules (pending_in h) rows)) spot (free false nothing)
    → ((rs : List Row) (k : List Row → Option (List Row)) → unless (use_fault false rule values rs) (k (used rule values rs)) ≡ cond (has_row entry.0 rs) None (k (rs ++ row entry ∷ [])))
    → word_said word reading ≡ Some (entry ∷ [], reading_at spot (free false nothing))
    → found w (word ∷ words) ≡ joined rows (uses_held h) (uses_in reading (word ∷ words))
using h rows spot w reading word words entry rule values all fault to adds says =
    let settled = settled_rows rules (pending_in h) rows in
    let uses = uses_in (reading_at spot (free false nothing)) words in
    let settling = settle_fault rules false (held rows (pending_in h)) in
    found_next w word words ∙ (ap₂ (λ k v. unless k (found v words)) fault to
    ∙ (ap (unless (react_fault rules false rule values (held rows (pending_in h)))) (all (used rule values settled) spot (free false nothing))
    ∙ (unless_else settling (use_fault false rule values settled) _
    ∙ (ap (unless settling) (adds settled (λ rs. joined rs [] uses) ∙ use_first entry settled uses)
    ∙ (settles_joined h rows (entry ∷ []) uses ∙ sym (said_is h rows reading word words (entry ∷ [], reading_at spot (free false nothing)) says))))))

long_word : (h : Hold) (rows : List Row) (spot : Spot) (word name : Text) (given : Option Text) (words : List Text) → AllAgree words
    → bytes_eq word (45 ∷ 45 ∷ []) ≡ false → long_of word ≡ Some (name, given) → IsLong (arg_by_long rules name) (named options name) (named flags name)
    → Agrees rows spot (free false h) (word ∷ words)
unfolding walked
long_word h rows spot word name (Some v) words all d l (inl long) =
    using h rows spot (walk_at rows spot (free false h)) (reading_at spot (free false h)) word words (long.0, v) (option_rule long.0) (v ∷ []) all
    (rw (d, l, long.2) (else_nothing _)) (rw (d, l, long.2) refl) (λ rs k. value_adds long.0 (Some long.0) None v rs k) (rw (d, l, long.3) refl)
long_word h rows spot word name None words all d l (inl long) =
    let next = waits long.0 long.1 in
    settling h rows (walk_at rows spot (free false h)) (walk_at (settled_rows rules (pending_in h) rows) spot next) (reading_at spot (free false h)) word words
    ([], reading_at spot next) (rw (d, l, long.2) (else_nothing _)) (rw (d, l, long.2) refl) (all (settled_rows rules (pending_in h) rows) spot next) (rw (d, l, long.3) refl)
long_word h rows spot word name None words all d l (inr (inl flag)) =
    using h rows spot (walk_at rows spot (free false h)) (reading_at spot (free false h)) word words (flag.0, codes "true") (flag_rule flag.0) [] all
    (rw (d, l, flag.1) (else_nothing _)) (rw (d, l, flag.1) refl) (λ rs k. flag_adds flag.0 rs k) (rw (d, l, flag.2, flag.3) refl)
long_word h rows spot word name (Some v) words all d l (inr (inl flag)) =
    refused h rows (walk_at rows spot (free false h)) (reading_at spot (free false h)) word words (TooManyValues ∷ [])
    (rw (d, l, flag.1) refl) (λ o. refl) (rw (d, l, flag.2, flag.3) refl)
long_word h rows spot word name given words all d l (inr (inr unknown)) =
    refused h rows (walk_at rows spot (free false h)) (reading_at spot (free false h)) word words (UnknownArgument ∷ [])
    (rw (d, l, unknown.0) refl) (λ o. refl) (rw (d, l, unknown.1, unknown.2) refl)

-- where an option waits for its value, none of them is it
long_waiting : (id : Text) (is : IsOne id) (rows : List Row) (spot : Spot) (word name : Text) (given : Option Text) (words : List Text)
    → bytes_eq word (45 ∷ 45 ∷ []) ≡ false → long_of word ≡ Some (name, given) → IsLong (arg_by_long rules name) (named options name) (named flags name)
    → Agrees rows spot (waits id is) (word ∷ words)
long_waiting id is rows spot word name (Some v) words d l (inl long) =
    refused nothing rows (walk_at rows spot (waits id is)) (reading_at spot (waits id is)) word words (InvalidValue ∷ [])
    (rw (d, l, long.2, waits_fault rows id is) refl) (λ o. refl) (rw (d, l) refl)
long_waiting id is rows spot word name None words d l (inl long) =
    refused nothing rows (walk_at rows spot (waits id is)) (reading_at spot (waits id is)) word words (InvalidValue ∷ [])
    (rw (d, l, long.2, waits_fault rows id is) refl) (λ o. refl) (rw (d, l) refl)
long_waiting id is rows spot word name None words d l (inr (inl flag)) =
    refused nothing rows (walk_at rows spot (waits id is)) (reading_at spot (waits id is)) word words (InvalidValue ∷ [])
    (rw (d, l, flag.1, waits_fault rows id is) refl) (λ o. refl) (rw (d, l) refl)
long_waiting id is rows spot word name (Some v) words d l (inr (inl flag)) =
    refused nothing rows (walk_at rows spot (waits id is)) (reading_at spot (waits id is)) word words (TooManyValues ∷ [])
    (rw (d, l, flag.1) refl) (λ o. refl) (rw (d, l) refl)
long_waiting id is rows spot word name given words d l (inr (inr unknown)) =
    refused nothing rows (walk_at rows spot (waits id is)) (reading_at spot (waits id is)) word words (UnknownArgument ∷ [])
    (rw (d, l, unknown.0) refl) (λ o. refl) (rw (d, l) refl)

-- ---- all words

-- each word is the bytes of a text
abbrev pub AreTexts : List Text → Type 0
AreTexts [] = Unit {0}
AreTexts (word ∷ words) = IsUtf8 word × AreTexts words

open_word : (state : State) (unclosed : (h : Hold) → state ≡ free true h → ⊥) (rows : List Row) (spot : Spot) (word : Text) (words : List Text) → IsUtf8 word → AllAgree words
    → Agrees rows spot state (word ∷ words)
open_word state unclosed rows spot word words utf8 all = by_dashes state unclosed (bytes_eq word (45 ∷ 45 ∷ [])) refl
  where
    by_short : (s : State) → ((h : Hold) → s ≡ free true h → ⊥) → bytes_eq word (45 ∷ 45 ∷ []) ≡ false → long_of word ≡ None → (o : Option Text) → short_of word ≡ o
        → Agrees rows spot s (word ∷ words)
    by_short (free true h) unclosed d l o e = absurd (unclosed h refl)
    by_short (free false h) unclosed d l None e = plain_word h rows spot word words all d l e
    by_short (free false h) unclosed d l (Some flags) e = short_word h rows spot word flags words utf8 d l e
    by_short (waits id is) unclosed d l None e = value_word id is rows spot word words all d l e
    by_short (waits id is) unclosed d l (Some flags) e = short_waiting id is rows spot word flags words utf8 d l e

    by_long : (s : State) → ((h : Hold) → s ≡ free true h → ⊥) → bytes_eq word (45 ∷ 45 ∷ []) ≡ false → (o : Option (Text × Option Text)) → long_of word ≡ o
        → Agrees rows spot s (word ∷ words)
    by_long (free true h) unclosed d o e = absurd (unclosed h refl)
    by_long (free false h) unclosed d None e = by_short (free false h) unclosed d e (short_of word) refl
    by_long (free false h) unclosed d (Some (name, given)) e = long_word h rows spot word name given words all d e (long_cases name)
    by_long (waits id is) unclosed d None e = by_short (waits id is) unclosed d e (short_of word) refl
    by_long (waits id is) unclosed d (Some (name, given)) e = long_waiting id is rows spot word name given words d e (long_cases name)

    by_dashes : (s : State) → ((h : Hold) → s ≡ free true h → ⊥) → (b : Bool) → bytes_eq word (45 ∷ 45 ∷ []) ≡ b → Agrees rows spot s (word ∷ words)
    by_dashes (free true h) unclosed b e = absurd (unclosed h refl)
    by_dashes (free false h) unclosed true e = close_word h rows spot word words all e
    by_dashes (waits id is) unclosed true e = close_waiting id is rows spot word words e
    by_dashes s unclosed false e = by_long s unclosed e (long_of word) refl

all_agree : (words : List Text) → AreTexts words → AllAgree words
all_agree [] texts rows spot (free closed h) =
    found_end (walk_at rows spot (free closed h)) ∙ (settles h rows (λ rs. Some rs) ∙ go h)
  where
    go : (k : Hold) → option_and_then (λ rs. Some rs) (add_all rows (uses_held k)) ≡ add_all rows (uses_held k ++ [])
    go nothing = refl
    go (last id v is) = or_none (has_row id rows)
      where
        or_none : (b : Bool) → option_and_then (λ rs. Some rs) (cond b None (Some (rows ++ row (id, v) ∷ []))) ≡ cond b None (Some (rows ++ row (id, v) ∷ []))
        or_none true = refl
        or_none false = refl
all_agree [] texts rows spot (waits id is) =
    found_end (walk_at rows spot (waits id is)) ∙ ap (λ k. unless k (Some (settled_rows rules (Some (id, [])) rows))) (waits_fault rows id is)
all_agree (word ∷ words) texts rows spot (free true h) = closed_word h rows spot word words (all_agree words texts.1)
all_agree (word ∷ words) texts rows spot (free false h) = open_word (free false h) (λ k e. cc) rows spot word words texts.0 (all_agree words texts.1)
all_agree (word ∷ words) texts rows spot (waits id is) = open_word (waits id is) (λ k e. cc) rows spot word words texts.0 (all_agree words texts.1)

-- from the first word on: the rows are those of the uses, where no name is used twice
pub rows_found : (words : List Text) → AreTexts words
    → unless (walk_fault shape [] (walk_from nothing_held) words) (unless (settle_fault rules false (walk rules [] nothing_held words).held) (Some (settled rules (walk rules [] nothing_held words).held).rows))
    ≡ option_and_then (λ uses. add_all [] uses) (uses_in start words)
unfolding found
rows_found words texts = all_agree words texts [] first (free false nothing)
