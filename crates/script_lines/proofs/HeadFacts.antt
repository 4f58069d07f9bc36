-- By which words a line may begin where it stands.
use Rattle.std.proofs.Common.{◌≡◌, ℕ, ◌+◌, Bool, true, false, List, [], ◌∷◌, Option, Some, None, ◌⊎◌, ◌&&◌, bytes_eq, codes, find, nat_eq, nat_lt, not, option_and_then, option_map, if◌then◌else◌, refl, sym, subst, inl, inr}
use Rattle.std.specs.Map.{lookup}
use Rattle.script_lines.specs.declared.judge.Known.{Known}
use Rattle.script_lines.specs.declared.line.Form.{Form}
use Rattle.script_lines.specs.declared.line.Form.TheVariants as form
use Rattle.script_lines.specs.declared.line.Line.{Line}
use Rattle.script_lines.specs.declared.line.Meaning.{Meaning}
use Rattle.script_lines.specs.declared.line.Token.{Token}
use Rattle.script_lines.specs.declared.line.Token.TheVariants as token
use Rattle.script_lines.specs.declared.names.Named.{Named}
use Rattle.script_lines.specs.declared.state.Place.{Place}
use Rattle.script_lines.specs.declared.state.Place.TheVariants.{InRoutine}
use Rattle.script_lines.specs.declared.state.State.{State}
use Rattle.script_lines.specs.declared.words.Class.{Class}
use Rattle.script_lines.specs.declared.words.Class.TheVariants as class
use Rattle.script_lines.specs.declared.words.Field.{Field}
use Rattle.script_lines.specs.declared.words.Field.TheVariants as field
use Rattle.script_lines.specs.declared.words.Sort.{Sort}
use Rattle.script_lines.specs.declared.words.Sort.TheVariants as sort
use Rattle.script_lines.specs.declared.words.Tally.{Tally}
use Rattle.script_lines.specs.declared.words.Want.{Want}
use Rattle.script_lines.specs.declared.words.Want.TheVariants as want
use Rattle.script_lines.specs.declared.words.Word.{Word}
use Rattle.script_lines.specs.declared.words.Word.TheVariants as word
use Rattle.script_lines.specs.Known.{found_in, is_standing}
use Rattle.script_lines.specs.Lines.{form_of, put, put_by_sort, put_word}
use Rattle.script_lines.specs.Readings.{Goes, IsLineRead, StepsBy, Trail, first_trail}
use Rattle.script_lines.specs.Shapes.{all_words, class_of, text_of_word}
use Rattle.script_lines.specs.States.{count_of, is_in_routine, is_inside, limit_of}
use Rattle.script_lines.specs.Texts.{Spot, is_name}
use Rattle.script_lines.specs.Tokens.{FitsForm, armed_of, choice_of, fresh_of, has_room, is_at, is_bare, is_conditional, is_head, is_repeated, is_repeated_tried, is_tried, is_wanted, may_stand, name_of, token_of_word, word_at}

-- there is room for what the word begins, and it may begin a line here, or this is within a routine or a client; `done` stands for a line that says nothing yet
abbrev pub MayHead : State → Word → Type 0
MayHead state head =
    (head ≡ word.Done)
    ⊎ ((has_room state head ≡ true) × ((is_head state.place (class_of head) ≡ true) ⊎ (is_inside state.place ≡ true)))

-- what a word says of the head
abbrev SaysHead : State → Token → Type 0
SaysHead state (token.Head head) = MayHead state head
SaysHead state _ = Unit {0}

found_passes : {X : Type 0} (test : X → Bool) (xs : List X) (x : X) → find test xs ≡ Some x → test x ≡ true
found_passes test [] x e = let no_such : ⊥ = cc in absurd no_such
found_passes {X = X} test (y ∷ xs) x e = by (test y) refl (found_passes test xs x) e
  where
    by : (b : Bool) → test y ≡ b → (find test xs ≡ Some x → test x ≡ true) → (if b then Some y else find test xs) ≡ Some x → test x ≡ true
    by true passes further h = let same : y ≡ x = cc in subst (λ (z : X). test z ≡ true) same passes
    by false fails further h = further h

both_true : (a b : Bool) → (a && b) ≡ true → b ≡ true
both_true true b e = e
both_true false b e = let no_such : ⊥ = cc in absurd no_such

own_inside : (place : Place) → is_in_routine place ≡ true → is_inside place ≡ true
own_inside InRoutine stands = refl
own_inside _ stands = let no_such : ⊥ = cc in absurd no_such

module _ (state : State) where
  of_some : (a b : Token) → Some a ≡ Some b → SaysHead state a → SaysHead state b
  of_some a b e says = subst (SaysHead state) (let same : a ≡ b = cc in same) says

  of_none : (said : Token) → None ≡ Some said → SaysHead state said
  of_none said e = let no_such : ⊥ = cc in absurd no_such

  -- what stands behind a head stands within a routine or a client
  repeated : (of : Class) → is_repeated state.place of ≡ true → is_inside state.place ≡ true
  repeated class.Operation stands = stands
  repeated class.Condition stands = stands
  repeated class.RepeatedTry stands = stands
  repeated class.Own stands = own_inside state.place stands
  repeated _ stands = let no_such : ⊥ = cc in absurd no_such

  conditional : (of : Class) → is_conditional state.place of ≡ true → is_inside state.place ≡ true
  conditional class.Operation stands = stands
  conditional class.ConditionalTry stands = stands
  conditional class.Own stands = own_inside state.place stands
  conditional _ stands = let no_such : ⊥ = cc in absurd no_such

  tried : (of : Class) → is_tried state.place of ≡ true → is_inside state.place ≡ true
  tried class.Operation stands = stands
  tried class.Making stands = stands
  tried class.TriedCondition stands = stands
  tried class.Own stands = own_inside state.place stands
  tried _ stands = let no_such : ⊥ = cc in absurd no_such

  repeated_tried : (of : Class) → is_repeated_tried state.place of ≡ true → is_inside state.place ≡ true
  repeated_tried class.Operation stands = stands
  repeated_tried class.TriedCondition stands = stands
  repeated_tried class.Own stands = own_inside state.place stands
  repeated_tried _ stands = let no_such : ⊥ = cc in absurd no_such

  bare : (of : Class) → is_bare state.place of ≡ true → is_inside state.place ≡ true
  bare class.Operation stands = stands
  bare class.Own stands = own_inside state.place stands
  bare _ stands = let no_such : ⊥ = cc in absurd no_such

  said_head : (part : Field) (head : Word) → has_room state head ≡ true → may_stand state.place part (class_of head) ≡ true → SaysHead state (token_of_word part head)
  said_head field.Head head room stands = inr (room, inl stands)
  said_head field.Repeated head room stands = inr (room, inr (repeated (class_of head) stands))
  said_head field.Conditional head room stands = inr (room, inr (conditional (class_of head) stands))
  said_head field.Tried head room stands = inr (room, inr (tried (class_of head) stands))
  said_head field.RepeatedTried head room stands = inr (room, inr (repeated_tried (class_of head) stands))
  said_head field.Bare head room stands = inr (room, inr (bare (class_of head) stands))
  said_head _ head room stands = tt

  chosen_head : (part : Field) (found : Option Word) (said : Token) → ((head : Word) → found ≡ Some head → may_stand state.place part (class_of head) ≡ true)
      → option_and_then (λ head. if has_room state head then Some (token_of_word part head) else None) found ≡ Some said → SaysHead state said
  chosen_head part None said stands e = of_none said e
  chosen_head part (Some head) said stands e = by (has_room state head) refl e
    where
      by : (b : Bool) → has_room state head ≡ b → (if b then Some (token_of_word part head) else None) ≡ Some said → SaysHead state said
      by true room h = of_some (token_of_word part head) said h (said_head part head room (stands head refl))
      by false room h = of_none said h

  choice_head : (part : Field) (text : List ℕ) (said : Token) → choice_of state part text ≡ Some said → SaysHead state said
  choice_head part text said e =
      chosen_head part (word_at state.place part text) said
      (λ head found. both_true (bytes_eq (text_of_word head) text) (may_stand state.place part (class_of head)) (found_passes (is_at state.place part text) all_words head found))
      e

  fresh_head : (known : Known) (tally : Tally) (text : List ℕ) (said : Token) → fresh_of known tally text ≡ Some said → SaysHead state said
  fresh_head known tally text said e = by (not (is_name text)) (is_standing known tally text) (nat_lt (count_of known.state tally) (limit_of tally)) e
    where
      by : (unnamed standing room : Bool) → (if unnamed then None else (if standing then None else (if room then Some (token.Fresh (count_of known.state tally + 1)) else None))) ≡ Some said → SaysHead state said
      by true standing room h = of_none said h
      by false true room h = of_none said h
      by false false true h = of_some (token.Fresh (count_of known.state tally + 1)) said h tt
      by false false false h = of_none said h

  name_head : (known : Known) (wanted : Want) (text : List ℕ) (said : Token) → name_of known wanted text ≡ Some said → SaysHead state said
  name_head known wanted text said e = by (found_in known text) e
    where
      of_meaning : (meaning : Meaning) (b : Bool) → (if b then Some (token.Name meaning) else None) ≡ Some said → SaysHead state said
      of_meaning meaning true h = of_some (token.Name meaning) said h tt
      of_meaning meaning false h = of_none said h

      by : (found : Option Meaning) → option_and_then (λ meaning. if is_wanted known.state wanted meaning then Some (token.Name meaning) else None) found ≡ Some said → SaysHead state said
      by None h = of_none said h
      by (Some meaning) h = of_meaning meaning (is_wanted known.state wanted meaning) h

  armed_head : (known : Known) (text : List ℕ) (said : Token) → armed_of known text ≡ Some said → SaysHead state said
  armed_head known text said e = by (bytes_eq text (codes "none")) e
    where
      by : (b : Bool) → (if b then Some token.NoName else name_of known want.Kernel text) ≡ Some said → SaysHead state said
      by true h = of_some token.NoName said h tt
      by false h = name_head known want.Kernel text said h

  routine_head : (found : Option Named) (said : Token) → option_map (λ named. token.Routine named.meaning.number) found ≡ Some said → SaysHead state said
  routine_head None said e = of_none said e
  routine_head (Some named) said e = of_some (token.Routine named.meaning.number) said e tt

  put_word_head : (line : Line) (said : Word) → (put_word line said).head ≡ line.head
  put_word_head line word.Long = refl
  put_word_head line word.Maximum = refl
  put_word_head line word.Minimum = refl
  put_word_head line _ = refl

  put_name_head : (line : Line) (meaning : Meaning) (of : Sort) → (put_by_sort line meaning of).head ≡ line.head
  put_name_head line meaning sort.Routine = refl
  put_name_head line meaning _ = refl

  put_routine_head : (line : Line) (number : ℕ) (b : Bool) → (if b then record line { routine = number } else record line { cancel = number }).head ≡ line.head
  put_routine_head line number true = refl
  put_routine_head line number false = refl

  -- what is said behind a head leaves it, or says another one
  put_head : (line : Line) (said : Token) → SaysHead state said → MayHead state line.head → MayHead state (put line said).head
  put_head line (token.Head head) says may = says
  put_head line (token.Word said) says may = subst (MayHead state) (sym (put_word_head line said)) may
  put_head line (token.Number number) says may = may
  put_head line (token.Due due) says may = may
  put_head line (token.Fresh number) says may = may
  put_head line (token.Name meaning) says may = subst (MayHead state) (sym (put_name_head line meaning meaning.sort)) may
  put_head line token.NoName says may = may
  put_head line (token.Routine number) says may = subst (MayHead state) (sym (put_routine_head line number (nat_eq line.routine 0))) may

module _ (known : Known) where
  fit_head : (part : Field) (made : Form) (text : List ℕ) (said : Token) → FitsForm known part made text said → SaysHead known.state said
  fit_head part form.Choice text said fits = choice_head known.state part text said fits
  fit_head part (form.Number least most) text said (number, e, numbers) = subst (SaysHead known.state) (sym e) tt
  fit_head part form.Due text said (due, e, signed) = subst (SaysHead known.state) (sym e) tt
  fit_head part (form.Fresh tally) text said fits = fresh_head known.state known tally text said fits
  fit_head part (form.Name wanted) text said fits = name_head known.state known wanted text said fits
  fit_head part form.Armed text said fits = armed_head known.state known text said fits
  fit_head part form.Routine text said fits = routine_head known.state (lookup (bytes_eq text) known.routines) said fits

  step_head : (trail : Trail) (left : List Field) (text : List ℕ) (next : Trail) → StepsBy known trail left text next → MayHead known.state trail.line.head → MayHead known.state next.line.head
  step_head trail [] text next steps may = absurd steps
  step_head trail (part ∷ left) text next (said, fits, e) may =
      subst (λ (t : Trail). MayHead known.state t.line.head) (sym e)
      (put_head known.state trail.line said (fit_head part (form_of part trail.line) text said fits) may)

  goes_head : (spots : List Spot) (trail end : Trail) → Goes known trail spots end → MayHead known.state trail.line.head → MayHead known.state end.line.head
  goes_head [] trail end e may = subst (λ (t : Trail). MayHead known.state t.line.head) (sym e) may
  goes_head (spot ∷ spots) trail end (next, steps, goes) may = goes_head spots next end goes (step_head trail trail.left spot.word next steps may)

  pub line_head : (spots : List Spot) (line : Line) (name : List ℕ) → IsLineRead known spots line name → MayHead known.state line.head
  line_head spots line name read =
      subst (λ (l : Line). MayHead known.state l.head) (sym read.line_of) (goes_head spots first_trail read.end read.goes (inl refl))
