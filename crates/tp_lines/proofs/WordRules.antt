-- What holds of all words: each rule is a test, which computes.
use Rattle.std.proofs.Common.{◌≡◌, ℕ, ◌+◌, ◌≤◌, List, [], ◌∷◌, length, refl, sym, ap, ◌∙◌, inl, inr, Bool, true, false, nat_eq, IsTrue, Option, Some, None}
use Rattle.std.specs.Prelude.{bytes_eq, nat_le}
use Rattle.std.proofs.lemmas.Bool.{leb-true}
use Rattle.line_grammar.specs.Words.{is_solid}
use Rattle.tp_base.specs.declared.answers.ActionKind.TheVariants as action
use Rattle.tp_base.specs.declared.answers.SlotWord.TheVariants as slot
use Rattle.tp_base.specs.declared.calls.Kind.TheVariants as kind
use Rattle.tp_base.specs.declared.calls.Lock.TheVariants as lock
use Rattle.tp_base.specs.declared.calls.Priority.TheVariants as priority
use Rattle.tp_lines.specs.declared.words.Field.{Field}
use Rattle.tp_lines.specs.declared.words.Field.TheVariants as field
use Rattle.tp_lines.specs.declared.words.TheConstants.{WORDS}
use Rattle.tp_lines.specs.declared.words.Word.{Word}
use Rattle.tp_lines.specs.declared.words.Word.TheVariants as word
use Rattle.tp_lines.specs.Choices.{IsListed}
use Rattle.tp_lines.specs.Parts.{room, room_of}
use Rattle.tp_lines.specs.Shapes.{fields_of, table_of, text_of_word}

abbrev pub both : Bool → Bool → Bool
both true b = b
both false b = false

both_left : (a b : Bool) → IsTrue (both a b) → IsTrue a
both_left true b h = refl
both_left false b h = h

both_right : (a b : Bool) → IsTrue (both a b) → IsTrue b
both_right true b h = h
both_right false b h = let no_such : ⊥ = cc in absurd no_such

-- fields by numbers, so that a test tells them apart
abbrev pub rank : Field → ℕ
rank field.Call = 1
rank field.Answer = 2
rank field.Look = 3
rank field.Result = 4
rank field.Refusal = 5
rank field.State = 6
rank field.Target = 7
rank field.Kind = 8
rank field.Priority = 9
rank field.Length = 10
rank field.Flag = 11
rank field.Slot = 12
rank field.Action = 13
rank field.How = 14
rank field.Reset = 15
rank field.Signal = 16
rank field.Lock = 17
rank field.Owner = 18
rank field.OldCall = 19
rank field.Span = 20
rank field.Times = 21
rank field.SleepCall = 22
rank _ = 0

abbrev pub first_of_two : Bool → Word → Option Word → Option Word
first_of_two true w others = Some w
first_of_two false w others = others

-- the first word of these in the field and with the text
abbrev pub find : ℕ → List ℕ → List Word → Option Word
find field text [] = None
find field text (w ∷ words) = first_of_two (both (nat_eq (rank (table_of w)) field) (bytes_eq text (text_of_word w))) w (find field text words)

-- no space and no line feed stands in a word, none is long, and the fields that it brings have room in its field
abbrev keeps_rules : Word → Bool
keeps_rules w = both (is_solid (text_of_word w)) (both (nat_le (length (text_of_word w)) 30) (nat_le (room (fields_of w) + 1) (room_of (table_of w))))

-- each word keeps the rules, and is the first of all in its field and with its text
kept : (w : Word) → IsTrue (keeps_rules w) × (find (rank (table_of w)) (text_of_word w) WORDS ≡ Some w)
kept (word.Kind kind.Work) = (refl, refl)
kept (word.Kind _) = (refl, refl)
kept (word.Priority priority.High) = (refl, refl)
kept (word.Priority _) = (refl, refl)
kept (word.Length true true) = (refl, refl)
kept (word.Length true false) = (refl, refl)
kept (word.Length false true) = (refl, refl)
kept (word.Length false false) = (refl, refl)
kept (word.How true) = (refl, refl)
kept (word.How false) = (refl, refl)
kept (word.Reset true) = (refl, refl)
kept (word.Reset false) = (refl, refl)
kept (word.Signal true) = (refl, refl)
kept (word.Signal false) = (refl, refl)
kept (word.Lock lock.Mutex) = (refl, refl)
kept (word.Lock _) = (refl, refl)
kept (word.Owner true) = (refl, refl)
kept (word.Owner false) = (refl, refl)
kept (word.YesNo true) = (refl, refl)
kept (word.YesNo false) = (refl, refl)
kept (word.Slot slot.Unasked) = (refl, refl)
kept (word.Slot _) = (refl, refl)
kept (word.Action action.Section) = (refl, refl)
kept (word.Action _) = (refl, refl)
kept (word.Span true) = (refl, refl)
kept (word.Span false) = (refl, refl)
kept (word.Times true) = (refl, refl)
kept (word.Times false) = (refl, refl)
kept _ = (refl, refl)

rules_kept : (w : Word) → IsTrue (keeps_rules w)
rules_kept w = (kept w).0

pub found : (w : Word) → find (rank (table_of w)) (text_of_word w) WORDS ≡ Some w
found w = (kept w).1

pub solid : (w : Word) → IsTrue (is_solid (text_of_word w))
solid w = both_left _ _ (rules_kept w)

pub short : (w : Word) → length (text_of_word w) ≤ 30
short w = leb-true _ _ (both_left _ _ (both_right (is_solid (text_of_word w)) _ (rules_kept w)))

pub roomy : (w : Word) → room (fields_of w) + 1 ≤ room_of (table_of w)
roomy w = leb-true _ _ (both_right (nat_le (length (text_of_word w)) 30) _ (both_right (is_solid (text_of_word w)) _ (rules_kept w)))

-- words of one field are told apart by their texts
pub one_word : (w v : Word) → table_of w ≡ table_of v → text_of_word w ≡ text_of_word v → w ≡ v
one_word w v e f =
    let same : Some w ≡ Some v = sym (found w) ∙ ap (λ t. find (rank t) (text_of_word w) WORDS) e ∙ ap (λ t. find (rank (table_of v)) t WORDS) f ∙ found v in
    cc

by_test : (b : Bool) (x w : Word) (words : List Word) (others : Option Word) → (others ≡ Some w → IsListed words w) → first_of_two b x others ≡ Some w → IsListed (x ∷ words) w
by_test true x w words others h e = let same : x ≡ w = cc in inl (sym same)
by_test false x w words others h e = inr (h e)

find_listed : (n : ℕ) (t : List ℕ) (words : List Word) (w : Word) → find n t words ≡ Some w → IsListed words w
find_listed n t [] w e = let no_such : ⊥ = cc in absurd no_such
find_listed n t (x ∷ words) w e = by_test (both (nat_eq (rank (table_of x)) n) (bytes_eq t (text_of_word x))) x w words (find n t words) (find_listed n t words w) e

pub all_listed : (w : Word) → IsListed WORDS w
all_listed w = find_listed (rank (table_of w)) (text_of_word w) WORDS w (found w)
