-- The parts of a row, told from what stands at each index.
use Rattle.std.proofs.Common.{◌≡◌, ℕ, suc, ◌+◌, ℤ, Option, List, [], ◌∷◌, ◌++◌, length, refl, sym, ap, ◌∙◌, subst, arith, Bool, true, false, nat_eq, IsTrue}
use Rattle.std.specs.Prelude.{if◌then◌else◌}
use Rattle.std.proofs.lemmas.List.{append-nil, append_assoc, length-append, get_or_at}
use Rattle.tp_base.specs.declared.ids.KernelId.{KernelId}
use Rattle.tp_lines.specs.declared.parts.Form.{Form}
use Rattle.tp_lines.specs.declared.parts.Form.TheVariants as form
use Rattle.tp_lines.specs.declared.parts.Part.{Part}
use Rattle.tp_lines.specs.declared.parts.Part.TheVariants as part
use Rattle.tp_lines.specs.declared.words.Field.{Field}
use Rattle.tp_lines.specs.declared.words.Field.TheVariants as field
use Rattle.tp_lines.specs.declared.words.Word.{Word}
use Rattle.tp_lines.specs.declared.words.Word.TheVariants as word
use Rattle.tp_lines.specs.Parts.{AreFit, Fits, FitsForm, IsWordPart, after, form_of, instead_of, number_of, number_part}
use Rattle.tp_lines.specs.Shapes.{fields_of, table_of}
use Rattle.tp_lines.specs.Values.{part_at, small_of, large_of, due_of, millis_of, named_of, word_of, kind_of, priority_of, length_of, persistent_of, how_of, reset_of, signal_of, lock_of, owner_of, flag_of, slot_of, action_of, span_of, once_of}

-- the part of a field, told from a part that stands there
abbrev pub field_part : Field → Part → Part
field_part field.Short p = part.Short (small_of p)
field_part field.Made p = part.Made (small_of p)
field_part field.Level p = part.Level (small_of p)
field_part field.Units p = part.Units (small_of p)
field_part field.Small p = part.Small (small_of p)
field_part field.Large p = part.Large (large_of p)
field_part field.Time p = part.Time (large_of p)
field_part field.Due p = part.Due (due_of p)
field_part field.Named p = part.Named (named_of p)
field_part field.Millis p = part.Millis (millis_of p)
field_part field.Routine p = part.Routine (small_of p)
field_part field.Context p = part.Context (large_of p)
field_part field.Cleanup p = part.Cleanup (large_of p)
field_part field.Origin p = part.Origin (small_of p)
field_part field.Pool p = part.Pool (small_of p)
field_part field.Group p = part.Group (small_of p)
field_part field.Cancel p = part.Cancel (small_of p)
field_part field.NoCancel p = part.Cancel (small_of p)
field_part field.Kind p = part.Word (word.Kind (kind_of p))
field_part field.Priority p = part.Word (word.Priority (priority_of p))
field_part field.Length p = part.Word (word.Length (length_of p) (persistent_of p))
field_part field.How p = part.Word (word.How (how_of p))
field_part field.Reset p = part.Word (word.Reset (reset_of p))
field_part field.Signal p = part.Word (word.Signal (signal_of p))
field_part field.Lock p = part.Word (word.Lock (lock_of p))
field_part field.Owner p = part.Word (word.Owner (owner_of p))
field_part field.Flag p = part.Word (word.YesNo (flag_of p))
field_part field.Slot p = part.Word (word.Slot (slot_of p))
field_part field.Action p = part.Word (word.Action (action_of p))
field_part field.Span p = part.Word (word.Span (span_of p))
field_part field.Times p = part.Word (word.Times (once_of p))
field_part _ p = part.Word (word_of p)

plain_field : (f : Field) (n least most : ℕ) → form_of f ≡ form.Number least most → number_part f n ≡ field_part f (number_part f n)
plain_field field.Short n least most e = refl
plain_field _ n least most e = cc

lettered_field : (f : Field) (n letter least most : ℕ) → form_of f ≡ form.Lettered letter least most → number_part f n ≡ field_part f (number_part f n)
lettered_field field.Routine n letter least most e = refl
lettered_field _ n letter least most e = cc

due_field : (f : Field) (due : Option ℤ) → form_of f ≡ form.Due → part.Due due ≡ field_part f (part.Due due)
due_field field.Due due e = refl
due_field _ due e = cc

named_field : (f : Field) (kernel : Option KernelId) → form_of f ≡ form.Named → part.Named kernel ≡ field_part f (part.Named kernel)
named_field field.Named kernel e = refl
named_field _ kernel e = cc

millis_field : (f : Field) (millis : Option ℕ) → form_of f ≡ form.Millis → part.Millis millis ≡ field_part f (part.Millis millis)
millis_field field.Millis millis e = refl
millis_field _ millis e = cc

word_field : (w : Word) → part.Word w ≡ field_part (table_of w) (part.Word w)
word_field (word.Kind _) = refl
word_field _ = refl

back_by_form : (x : Form) (f : Field) (p : Part) → form_of f ≡ x → FitsForm x f p → p ≡ field_part f p
back_by_form (form.Number least most) f p e h = h.is ∙ plain_field f (number_of p) least most e ∙ ap (λ q. field_part f q) (sym h.is)
back_by_form (form.Lettered letter least most) f p e h = h.is ∙ lettered_field f (number_of p) letter least most e ∙ ap (λ q. field_part f q) (sym h.is)
back_by_form form.Due f p e h = h.is ∙ due_field f (due_of p) e ∙ ap (λ q. field_part f q) (sym h.is)
back_by_form form.Named f p e h = h.is ∙ named_field f (named_of p) e ∙ ap (λ q. field_part f q) (sym h.is)
back_by_form form.Millis f p e h = h.is ∙ millis_field f (millis_of p) e ∙ ap (λ q. field_part f q) (sym h.is)
back_by_form form.Choice f p e h = h.is ∙ word_field h.word ∙ ap (λ g. field_part g (part.Word h.word)) h.table ∙ ap (λ q. field_part f q) (sym h.is)

pub field_back : (f : Field) (p : Part) → Fits f p → p ≡ field_part f p
field_back f p h = back_by_form (form_of f) f p refl h

-- the parts of these fields, told from those that stand from an index on
abbrev pub rebuilt : List Field → ℕ → List Part → List Part
rebuilt [] i parts = []
rebuilt (f ∷ fields) i parts = field_part f (part_at parts i) ∷ rebuilt fields (i + 1) parts

-- fields that bring no others
abbrev is_plain : Field → Bool
is_plain field.Group = false
is_plain field.Call = false
is_plain field.Answer = false
is_plain field.Look = false
is_plain field.Result = false
is_plain field.Refusal = false
is_plain field.State = false
is_plain field.Target = false
is_plain field.OldCall = false
is_plain field.SleepCall = false
is_plain _ = true

abbrev is_cancel : List Field → Bool
is_cancel (field.Cancel ∷ []) = true
is_cancel _ = false

abbrev pub is_regular : List Field → Bool
is_regular [] = true
is_regular (field.Group ∷ fields) = is_cancel fields
is_regular (f ∷ fields) = if is_plain f then is_regular fields else false

plain_number : (f : Field) (n : ℕ) (fields : List Field) → IsTrue (is_plain f) → after (number_part f n) fields ≡ fields
plain_number field.Short n fields h = refl
plain_number _ n fields h = cc

plain_word : (w : Word) (fields : List Field) → IsTrue (is_plain (table_of w)) → after (part.Word w) fields ≡ fields
plain_word (word.Kind _) fields h = refl
plain_word _ fields h = cc

plain_by_form : (x : Form) (f : Field) (p : Part) (fields : List Field) → FitsForm x f p → IsTrue (is_plain f) → after p fields ≡ fields
plain_by_form (form.Number least most) f p fields h e = ap (λ q. after q fields) h.is ∙ plain_number f (number_of p) fields e
plain_by_form (form.Lettered letter least most) f p fields h e = ap (λ q. after q fields) h.is ∙ plain_number f (number_of p) fields e
plain_by_form form.Due f p fields h e = ap (λ q. after q fields) h.is
plain_by_form form.Named f p fields h e = ap (λ q. after q fields) h.is
plain_by_form form.Millis f p fields h e = ap (λ q. after q fields) h.is
plain_by_form form.Choice f p fields h e = ap (λ q. after q fields) h.is ∙ plain_word h.word fields (subst (λ g. IsTrue (is_plain g)) (sym h.table) e)

-- the fields behind a part are regular again, and tell the same
record IsGoingOn (behind fields : List Field) : Type 0 where
  regular : IsTrue (is_regular behind)
  same : (i : ℕ) (parts : List Part) → rebuilt behind i parts ≡ rebuilt fields i parts

split_test : (b c : Bool) → IsTrue (if b then c else false) → IsTrue b × IsTrue c
split_test true c h = (refl, h)
split_test false c h = let no_such : ⊥ = cc in absurd no_such

going_plain : (f : Field) (p : Part) (fields : List Field) → Fits f p → IsTrue (if is_plain f then is_regular fields else false) → IsGoingOn (after p fields) fields
going_plain f p fields h e =
    let tests = split_test (is_plain f) (is_regular fields) e in
    subst (λ l. IsGoingOn l fields) (sym (plain_by_form (form_of f) f p fields h tests.0)) (record { regular = tests.1; same = λ i parts. refl })

going_group : (b : Bool) (fields : List Field) → IsTrue (is_cancel fields) → IsGoingOn (if b then field.NoCancel ∷ [] else fields) fields
going_group true (field.Cancel ∷ []) e = record { regular = refl; same = λ i parts. refl }
going_group false (field.Cancel ∷ []) e = record { regular = refl; same = λ i parts. refl }
going_group _ _ e = let no_such : ⊥ = cc in absurd no_such

going_on : (f : Field) (p : Part) (fields : List Field) → Fits f p → IsTrue (is_regular (f ∷ fields)) → IsGoingOn (after p fields) fields
going_on field.Group p fields h e = subst (λ q. IsGoingOn (after q fields) fields) (sym h.is) (going_group (nat_eq (number_of p) 0) fields e)
going_on f p fields h e = going_plain f p fields h e

pub rebuilt_in : (fields : List Field) (parts front more : List Part) → IsTrue (is_regular fields) → AreFit fields parts → (i : ℕ) → i ≡ length front
    → parts ≡ rebuilt fields i (front ++ (parts ++ more))
rebuilt_in [] [] front more r h i e = refl
rebuilt_in [] (p ∷ parts) front more r h i e = absurd h
rebuilt_in (f ∷ fields) [] front more r h i e = absurd h
rebuilt_in (f ∷ fields) (p ∷ parts) front more r h i e =
    let on = going_on f p fields h.0 r in
    let here : part_at (front ++ p ∷ (parts ++ more)) i ≡ p = get_or_at front p (parts ++ more) (part.Short 0) i (sym e) in
    let rest = rebuilt_in (after p fields) parts (front ++ p ∷ []) more on.regular h.1 (i + 1) (omega (arith, length-append front (p ∷ []))) in
    let whole : (front ++ p ∷ []) ++ (parts ++ more) ≡ front ++ p ∷ (parts ++ more) = append_assoc front (p ∷ []) (parts ++ more) in
    ap (λ l. p ∷ l) (rest ∙ ap (λ l. rebuilt (after p fields) (i + 1) l) whole ∙ on.same (i + 1) (front ++ p ∷ (parts ++ more)))
    ∙ ap (λ q. q ∷ rebuilt fields (i + 1) (front ++ p ∷ (parts ++ more))) (field_back f p h.0 ∙ ap (λ q. field_part f q) (sym here))

pub rebuilt_is : (fields : List Field) (parts front : List Part) → IsTrue (is_regular fields) → AreFit fields parts → (i : ℕ) → i ≡ length front
    → parts ≡ rebuilt fields i (front ++ parts)
rebuilt_is fields parts front r h i e = rebuilt_in fields parts front [] r h i e ∙ ap (λ l. rebuilt fields i (front ++ l)) (append-nil parts)

pub same_row : (w : Word) (parts others : List Part) → parts ≡ others → (let row : Word × List Part = (w, others) in row) ≡ (w, parts)
same_row w parts others e = ap (λ l. (w, l)) (sym e)

-- a word, with the parts that it brings
pub record IsWordRow (field : Field) (parts : List Part) : Type 0 where
  pub word : Word
  pub behind : List Part
  pub split : parts ≡ part.Word word ∷ behind
  pub table : table_of word ≡ field
  pub rest : AreFit (fields_of word) behind

-- the same behind other fields
pub record IsEnding (fields : List Field) (last : Field) (parts : List Part) : Type 0 where
  pub before : List Part
  pub word : Word
  pub behind : List Part
  pub split : parts ≡ before ++ part.Word word ∷ behind
  pub fit : AreFit fields before
  pub size : length before ≡ length fields
  pub table : table_of word ≡ last
  pub rest : AreFit (fields_of word) behind

abbrev pub are_plain : List Field → Bool
are_plain [] = true
are_plain (f ∷ fields) = if is_plain f then are_plain fields else false

instead_nothing : (own : List Field) → instead_of own [] ≡ own
instead_nothing [] = refl
instead_nothing (g ∷ own) = refl

pub word_row : (f : Field) → form_of f ≡ form.Choice → (p : Part) (parts : List Part) → Fits f p → AreFit (after p []) parts → IsWordRow f (p ∷ parts)
word_row f e p parts h rest =
    let g : IsWordPart f p = subst (λ x. FitsForm x f p) e h in
    record {
      word = g.word;
      behind = parts;
      split = ap (λ q. q ∷ parts) g.is;
      table = g.table;
      rest = subst (λ l. AreFit l parts) (instead_nothing (fields_of g.word)) (subst (λ q. AreFit (after q []) parts) g.is rest);
    }

pub ending : (fields : List Field) (last : Field) (parts : List Part) → IsTrue (are_plain fields) → form_of last ≡ form.Choice → AreFit (fields ++ last ∷ []) parts → IsEnding fields last parts
ending [] last [] r e h = absurd h
ending [] last (p ∷ parts) r e h =
    let row = word_row last e p parts h.0 h.1 in
    record { before = []; word = row.word; behind = row.behind; split = row.split; fit = tt; size = refl; table = row.table; rest = row.rest }
ending (f ∷ fields) last [] r e h = absurd h
ending (f ∷ fields) last (p ∷ parts) r e h =
    let tests = split_test (is_plain f) (are_plain fields) r in
    let plain = plain_by_form (form_of f) f p in
    let rest = ending fields last parts tests.1 e (subst (λ l. AreFit l parts) (plain (fields ++ last ∷ []) h.0 tests.0) h.1) in
    record {
      before = p ∷ rest.before;
      word = rest.word;
      behind = rest.behind;
      split = ap (λ l. p ∷ l) rest.split;
      fit = (h.0, subst (λ l. AreFit l rest.before) (sym (plain fields h.0 tests.0)) rest.fit);
      size = ap (λ n. suc n) rest.size;
      table = rest.table;
      rest = rest.rest;
    }
