-- The lines of calls with libraries, from their parts.
use Rattle.std.proofs.Common.{◌≡◌, ℕ, zero, suc, ◌+◌, ◌<◌, ◌≤◌, Bool, true, false, ◌==◌, ◌||◌, cond, List, [], ◌∷◌, ◌++◌, length, drop, refl, sym, ap, ap₂, ◌∙◌, subst, arith, inl, inr, IsTrue, ne_eqb, Option, Some, None}
use Rattle.std.specs.Prelude.{codes, decimal, Result}
use Rattle.std.specs.Option.{unwrap_or}
use Rattle.std.proofs.lemmas.List.{append_assoc}
use Rattle.line_grammar.specs.Language.{AnyOf, IsRead, IsReadTo, IsStuck}
use Rattle.line_grammar.specs.Numbers.{Numbers}
use Rattle.line_grammar.specs.Parts.{Led, IsPair, Pairs, Opens, IsPart, IsTail}
use Rattle.line_grammar.specs.Words.{Either, Optional, Word, further_of, is_solid, lacks, something_of}
use Rattle.line_grammar.proofs.Pairs.{pairs_read, pairs_stuck_first, pairs_stuck_second}
use Rattle.line_grammar.proofs.Readings.{led_none, led_tail, led_then, led_then_stuck, read_renamed, read_same, stuck_renamed}
use Rattle.line_grammar.proofs.WordFacts.{further_read, lacking_part, optional_read, solid_lacks}
use Rattle.tp_base.specs.declared.calls.Call.{Call}
use Rattle.tp_base.specs.declared.ids.Who.{Who}
use Rattle.tp_lines.specs.Calls.{CallLines, WhoTexts, line_of_call, row_of}
use Rattle.tp_lines.specs.Parts.{row_text}
use Rattle.tp_lines.specs.Words.{text_of_who}
use Rattle.tp_lines.proofs.WhoFacts.{lines_part, who_part}
use Rattle.tp_model.proofs.Refusals.{false_true}
use Rattle.tp_library.specs.Libraries.{may_have_library}
use Rattle.tp_library.specs.Lines.{own_call, library_id, text_of_library, text_of_suffix, LibLines, LibLinesOf, Libraries, OwnTexts, Suffixes, Verbs}
use Rattle.tp_library.specs.declared.LibCall.{LibCall}
use Rattle.tp_library.specs.declared.LibCall.TheVariants.{Free, FreeOnReturn, Load, Pool}
use Rattle.tp_library.specs.declared.lines.Verb.{Verb}
use Rattle.tp_library.specs.declared.lines.Verb.TheVariants as verb

-- ---- libraries

abbrev Lettered : ℕ → List ℕ → Type 0
Lettered = Led 108 (Numbers 1 255)

some_lettered : AnyOf Lettered (108 ∷ decimal 1)
some_lettered = (1, record { rest = decimal 1; split = refl; behind = record { at_least = omega arith; at_most = omega arith; split = refl } })

module _ (text : List ℕ) where
  pub library_none : ((x : ℕ) (rest : List ℕ) → text ≡ x ∷ rest → x ≡ 32 → ⊥) → IsStuck Libraries text 0
  library_none none = led_none 32 Lettered text (108 ∷ decimal 1) some_lettered none

  pub library_read : (rest : List ℕ) → text ≡ 32 ∷ rest → (l n : ℕ) → IsReadTo Lettered rest l n → IsReadTo Libraries text l (n + 1)
  library_read rest e l n read = led_then 32 Lettered text rest e l n read

  pub library_stuck : (rest : List ℕ) → text ≡ 32 ∷ rest → (k : ℕ) → IsStuck Lettered rest k → IsStuck Libraries text (k + 1)
  library_stuck rest e k stuck = led_then_stuck 32 Lettered text rest e k stuck

libraries_tail : IsTail 32 Libraries
libraries_tail = led_tail 32 Lettered (108 ∷ decimal 1) some_lettered

-- the text of a library, and its number
library_text : (l : ℕ) (t : List ℕ) → Libraries l t → (1 ≤ l) × (l ≤ 255) × (t ≡ text_of_library l)
library_text l t a =
    let b = a.behind in
    (b.behind.at_least, b.behind.at_most, a.split ∙ ap (λ r. 32 ∷ r) b.split ∙ ap (λ r. 32 ∷ 108 ∷ r) b.behind.split)

library_of_text : (l : ℕ) → 1 ≤ l → l ≤ 255 → Libraries l (text_of_library l)
library_of_text l least most = record { rest = 108 ∷ decimal l; split = refl; behind = record { rest = decimal l; split = refl; behind = record { at_least = least; at_most = most; split = refl } } }

-- ---- what stands behind a call

suffixes_tail : (b : Bool) → IsTail 32 (Suffixes b)
suffixes_tail true = record { opens = opens; some = (None, [], refl) }
  where
    opens : (o : Option ℕ) (t : List ℕ) → Optional [] Libraries o t → Opens 32 t
    opens None t a = subst (Opens 32) (sym a) tt
    opens (Some l) t a = libraries_tail.opens l t a
suffixes_tail false = record { opens = λ o t a. subst (Opens 32) (sym a.split) tt; some = (None, [], record { means = refl; split = refl }) }

pub suffix_read : (text : List ℕ) (r : Result (ℕ × ℕ) ℕ) (q z : Result (Option ℕ × ℕ) ℕ) → z ≡ further_of (something_of r) q → IsRead Libraries text r → IsRead (Word None []) text q → IsRead (Suffixes true) text z
suffix_read text r q z e a b = optional_read [] Libraries text r q z e a b

-- the number that stands for it
abbrev pub number_of : Option ℕ → ℕ
number_of o = unwrap_or o 0

pub some_suffix : (l : ℕ) → 1 ≤ l → text_of_suffix l ≡ text_of_library l
some_suffix l least = ap (λ b. cond b [] (text_of_library l)) (ne_eqb l 0 (λ e. omega (arith, e, least)))

suffix_text : (b : Bool) (o : Option ℕ) (t : List ℕ) → Suffixes b o t → (number_of o ≤ 255) × ((b || (number_of o == 0)) ≡ true) × (t ≡ text_of_suffix (number_of o))
suffix_text true None t a = (omega arith, refl, a)
suffix_text true (Some l) t a =
    let s = library_text l t a in
    (s.1, refl, s.2 ∙ sym (some_suffix l s.0))
suffix_text false o t a = subst (λ x. (number_of x ≤ 255) × ((false || (number_of x == 0)) ≡ true) × (t ≡ text_of_suffix (number_of x))) (sym a.means) (omega arith, refl, a.split)

suffix_of : (b : Bool) (l : ℕ) → l ≤ 255 → (b || (l == 0)) ≡ true → (o : Option ℕ) × (number_of o ≡ l) × Suffixes b o (text_of_suffix l)
suffix_of true zero most may = (None, refl, refl)
suffix_of true (suc l) most may = (Some (suc l), refl, subst (Libraries (suc l)) (sym (some_suffix (suc l) (omega arith))) (library_of_text (suc l) (omega arith) most))
suffix_of false zero most may = (None, refl, record { means = refl; split = refl })
suffix_of false (suc l) most may = let same : false ≡ true = sym (ne_eqb (suc l) 0 (λ e. omega (arith, e))) ∙ may in absurd (false_true same)

-- ---- calls of the machine

abbrev PoolTexts : ((Who × Call) × Option ℕ) → List ℕ → Type 0
PoolTexts = Pairs CallLines (λ made. Suffixes (may_have_library made.1))

abbrev pool_made : ((Who × Call) × Option ℕ) → Who × LibCall
pool_made ((who, call), o) = (who, Pool call (library_id (number_of o)))

pool_to : (who : Who) (call : Call) (o : Option ℕ) (t : List ℕ) → IsPair CallLines (λ made. Suffixes (may_have_library made.1)) (who, call) o t → LibLinesOf true (who, Pool call (library_id (number_of o))) t
pool_to who call o t pair =
    let s = suffix_text (may_have_library call) o pair.back pair.second in
    record {
      line = record {
        who_in_range = pair.first.who_in_range;
        call_in_range = (pair.first.call_in_range, s.0, s.1);
        split = pair.split ∙ ap₂ (λ x y. x ++ y) pair.first.split s.2 ∙ append_assoc (text_of_who who) (32 ∷ row_text (row_of call)) (text_of_suffix (number_of o));
      };
      kind = refl;
    }

pool_back : (who : Who) (made : LibCall) (t : List ℕ) → LibLinesOf true (who, made) t → AnyOf PoolTexts t
pool_back who (Pool call library) t a =
    let s = suffix_of (may_have_library call) library.0 a.line.call_in_range.1 a.line.call_in_range.2 in (
      ((who, call), s.0),
      record {
        front = line_of_call who call;
        back = text_of_suffix library.0;
        split = a.line.split ∙ sym (append_assoc (text_of_who who) (32 ∷ row_text (row_of call)) (text_of_suffix library.0));
        first = record { who_in_range = a.line.who_in_range; call_in_range = a.line.call_in_range.0; split = refl };
        second = s.2;
      },
    )
pool_back who (Load library) t a = absurd (let e = a.kind in cc)
pool_back who (Free library) t a = absurd (let e = a.kind in cc)
pool_back who (FreeOnReturn library) t a = absurd (let e = a.kind in cc)

pool_any : (p : (Who × Call) × Option ℕ) (t : List ℕ) → PoolTexts p t → AnyOf (LibLinesOf true) t
pool_any ((who, call), o) t pair = (pool_made ((who, call), o), pool_to who call o t pair)

module _ (text : List ℕ) where
  pub pool_stuck_first : (k : ℕ) → IsStuck CallLines text k → IsStuck (LibLinesOf true) text k
  pool_stuck_first k stuck =
      stuck_renamed PoolTexts (LibLinesOf true) (λ (who, made) t a. pool_back who made t a) text k pool_any
      (pairs_stuck_first 32 CallLines (λ made. Suffixes (may_have_library made.1)) lines_part (λ made. suffixes_tail (may_have_library made.1)) text k stuck)

  module _ (who : Who) (call : Call) (n : ℕ) (first : IsReadTo CallLines text (who, call) n) (rest : List ℕ) (e : rest ≡ drop n text) (may : Bool) (is : may ≡ may_have_library call) where
    pub pool_stuck_second : (k : ℕ) → IsStuck (Suffixes may) rest k → IsStuck (LibLinesOf true) text (n + k)
    pool_stuck_second k stuck =
        stuck_renamed PoolTexts (LibLinesOf true) (λ (w, made) t a. pool_back w made t a) text (n + k) pool_any
        (pairs_stuck_second 32 CallLines (λ made. Suffixes (may_have_library made.1)) lines_part (λ made. suffixes_tail (may_have_library made.1)) text (who, call) n first k
        (subst (λ l. IsStuck (Suffixes (may_have_library call)) l k) e (subst (λ b. IsStuck (Suffixes b) rest k) is stuck)))

    pub pool_read : (o : Option ℕ) (m : ℕ) → IsReadTo (Suffixes may) rest o m → (library : ℕ) → library ≡ number_of o → IsReadTo (LibLinesOf true) text (who, Pool call (library_id library)) (n + m)
    pool_read o m read library same =
        subst (λ l. IsReadTo (LibLinesOf true) text (who, Pool call (library_id l)) (n + m)) (sym same)
        (read_renamed PoolTexts (LibLinesOf true) (λ (w, made) t a. pool_back w made t a) text ((who, call), o) (who, Pool call (library_id (number_of o))) (n + m) (λ t pair. pool_to who call o t pair)
        (pairs_read 32 CallLines (λ made. Suffixes (may_have_library made.1)) lines_part (λ made. suffixes_tail (may_have_library made.1)) text (who, call) n first o m
        (subst (λ l. IsReadTo (Suffixes (may_have_library call)) l o m) e (subst (λ b. IsReadTo (Suffixes b) rest o m) is read))))

-- ---- this layer's own calls

head_of : List ℕ → ℕ
head_of [] = 0
head_of (x ∷ t) = x

abbrev pub verb_text : Verb → List ℕ
verb_text verb.Load = codes "load"
verb_text verb.Free = codes "free"
verb_text verb.FreeOnReturn = codes "free-on-return"

verb_is : (v : Verb) (t : List ℕ) → Verbs v t → t ≡ verb_text v
verb_is v t (inl (inl a)) = a.split ∙ sym (ap verb_text a.means)
verb_is v t (inl (inr a)) = a.split ∙ sym (ap verb_text a.means)
verb_is v t (inr a) = a.split ∙ sym (ap verb_text a.means)

verb_of : (v : Verb) → Verbs v (verb_text v)
verb_of verb.Load = inl (inl (record { means = refl; split = refl }))
verb_of verb.Free = inl (inr (record { means = refl; split = refl }))
verb_of verb.FreeOnReturn = inr (record { means = refl; split = refl })

pub verbs_differ : (v w : Verb) → verb_text v ≡ verb_text w → v ≡ w
unfolding head_of
verbs_differ verb.Load verb.Load e = refl
verbs_differ verb.Free verb.Free e = refl
verbs_differ verb.FreeOnReturn verb.FreeOnReturn e = refl
verbs_differ verb.Load verb.Free e = absurd (omega (arith, ap head_of e))
verbs_differ verb.Free verb.Load e = absurd (omega (arith, ap head_of e))
verbs_differ verb.Load verb.FreeOnReturn e = absurd (omega (arith, ap head_of e))
verbs_differ verb.FreeOnReturn verb.Load e = absurd (omega (arith, ap head_of e))
verbs_differ verb.Free verb.FreeOnReturn e = absurd (omega (arith, ap length e))
verbs_differ verb.FreeOnReturn verb.Free e = absurd (omega (arith, ap length e))

pub verb_solid : (v : Verb) → IsTrue (is_solid (verb_text v))
verb_solid verb.Load = refl
verb_solid verb.Free = refl
verb_solid verb.FreeOnReturn = refl

pub verb_lacks : (separator : ℕ) → separator < 45 → (v : Verb) → IsTrue (lacks separator (verb_text v))
verb_lacks separator low v = solid_lacks separator low (verb_text v) (verb_solid v)

verbs_part : IsPart 32 Verbs
verbs_part = lacking_part 32 Verbs (λ v w t a b. verbs_differ v w (sym (verb_is v t a) ∙ verb_is w t b)) (λ v t a. subst (λ x. IsTrue (lacks 32 x)) (sym (verb_is v t a)) (verb_lacks 32 (omega arith) v))

pub verb_read : (text : List ℕ) (a b c ab z : Result (Verb × ℕ) ℕ) → ab ≡ further_of a b → z ≡ further_of ab c
    → IsRead (Word verb.Load (codes "load")) text a → IsRead (Word verb.Free (codes "free")) text b → IsRead (Word verb.FreeOnReturn (codes "free-on-return")) text c → IsRead Verbs text z
verb_read text a b c ab z e f p q r =
    further_read (Either (Word verb.Load (codes "load")) (Word verb.Free (codes "free"))) (Word verb.FreeOnReturn (codes "free-on-return")) text ab c z f
    (further_read (Word verb.Load (codes "load")) (Word verb.Free (codes "free")) text a b ab e p q) r

abbrev Named : (Verb × ℕ) → List ℕ → Type 0
Named = Pairs Verbs (λ v. Libraries)

module _ (text : List ℕ) where
  pub named_stuck_first : (k : ℕ) → IsStuck Verbs text k → IsStuck Named text k
  named_stuck_first k stuck = pairs_stuck_first 32 Verbs (λ v. Libraries) verbs_part (λ v. libraries_tail) text k stuck

  module _ (v : Verb) (n : ℕ) (first : IsReadTo Verbs text v n) (rest : List ℕ) (e : rest ≡ drop n text) where
    pub named_stuck_second : (k : ℕ) → IsStuck Libraries rest k → IsStuck Named text (n + k)
    named_stuck_second k stuck = pairs_stuck_second 32 Verbs (λ w. Libraries) verbs_part (λ w. libraries_tail) text v n first k (subst (λ l. IsStuck Libraries l k) e stuck)

    pub named_read : (l m : ℕ) → IsReadTo Libraries rest l m → IsReadTo Named text (v, l) (n + m)
    named_read l m read = pairs_read 32 Verbs (λ w. Libraries) verbs_part (λ w. libraries_tail) text v n first l m (subst (λ x. IsReadTo Libraries x l m) e read)

abbrev load_one : List ℕ
load_one = codes "load" ++ text_of_library 1

some_named : AnyOf Named load_one
some_named = ((verb.Load, 1), record { front = codes "load"; back = text_of_library 1; split = refl; first = verb_of verb.Load; second = library_of_text 1 (omega arith) (omega arith) })

module _ (text : List ℕ) where
  pub own_none : ((x : ℕ) (rest : List ℕ) → text ≡ x ∷ rest → x ≡ 32 → ⊥) → IsStuck OwnTexts text 0
  own_none none = led_none 32 Named text load_one some_named none

  pub own_text_read : (rest : List ℕ) → text ≡ 32 ∷ rest → (p : Verb × ℕ) (n : ℕ) → IsReadTo Named rest p n → IsReadTo OwnTexts text p (n + 1)
  own_text_read rest e p n read = led_then 32 Named text rest e p n read

  pub own_text_stuck : (rest : List ℕ) → text ≡ 32 ∷ rest → (k : ℕ) → IsStuck Named rest k → IsStuck OwnTexts text (k + 1)
  own_text_stuck rest e k stuck = led_then_stuck 32 Named text rest e k stuck

own_tail : IsTail 32 OwnTexts
own_tail = led_tail 32 Named load_one some_named

abbrev OwnLines : (Who × (Verb × ℕ)) → List ℕ → Type 0
OwnLines = Pairs WhoTexts (λ who. OwnTexts)

-- the text of such a call
own_text : (v : Verb) (l : ℕ) (t : List ℕ) → OwnTexts (v, l) t → (1 ≤ l) × (l ≤ 255) × (t ≡ 32 ∷ (verb_text v ++ text_of_library l))
own_text v l t a =
    let s = library_text l a.behind.back a.behind.second in
    (s.0, s.1, a.split ∙ ap (λ r. 32 ∷ r) (a.behind.split ∙ ap₂ (λ x y. x ++ y) (verb_is v a.behind.front a.behind.first) s.2))

own_of_text : (v : Verb) (l : ℕ) → 1 ≤ l → l ≤ 255 → OwnTexts (v, l) (32 ∷ (verb_text v ++ text_of_library l))
own_of_text v l least most = record {
  rest = verb_text v ++ text_of_library l;
  split = refl;
  behind = record { front = verb_text v; back = text_of_library l; split = refl; first = verb_of v; second = library_of_text l least most };
}

own_to : (who : Who) (v : Verb) (l : ℕ) (t : List ℕ) → IsPair WhoTexts (λ w. OwnTexts) who (v, l) t → LibLinesOf false (who, own_call v l) t
own_to who v l t pair = of_verb v (own_text v l pair.back pair.second)
  where
    whole : (text : List ℕ) → pair.back ≡ text → t ≡ text_of_who who ++ text
    whole text e = pair.split ∙ ap₂ (λ x y. x ++ y) pair.first.split e

    of_verb : (w : Verb) → (1 ≤ l) × (l ≤ 255) × (pair.back ≡ 32 ∷ (verb_text w ++ text_of_library l)) → LibLinesOf false (who, own_call w l) t
    of_verb verb.Load s = record { line = record { who_in_range = pair.first.in_range; call_in_range = (s.0, s.1); split = whole _ s.2 }; kind = refl }
    of_verb verb.Free s = record { line = record { who_in_range = pair.first.in_range; call_in_range = (s.0, s.1); split = whole _ s.2 }; kind = refl }
    of_verb verb.FreeOnReturn s = record { line = record { who_in_range = pair.first.in_range; call_in_range = (s.0, s.1); split = whole _ s.2 }; kind = refl }

own_back : (who : Who) (made : LibCall) (t : List ℕ) → LibLinesOf false (who, made) t → AnyOf OwnLines t
own_back who (Pool call library) t a = absurd (let e = a.kind in cc)
own_back who (Load library) t a =
    ((who, (verb.Load, library.0)), record { front = text_of_who who; back = 32 ∷ (codes "load" ++ text_of_library library.0); split = a.line.split; first = record { in_range = a.line.who_in_range; split = refl }; second = own_of_text verb.Load library.0 a.line.call_in_range.0 a.line.call_in_range.1 })
own_back who (Free library) t a =
    ((who, (verb.Free, library.0)), record { front = text_of_who who; back = 32 ∷ (codes "free" ++ text_of_library library.0); split = a.line.split; first = record { in_range = a.line.who_in_range; split = refl }; second = own_of_text verb.Free library.0 a.line.call_in_range.0 a.line.call_in_range.1 })
own_back who (FreeOnReturn library) t a =
    ((who, (verb.FreeOnReturn, library.0)), record { front = text_of_who who; back = 32 ∷ (codes "free-on-return" ++ text_of_library library.0); split = a.line.split; first = record { in_range = a.line.who_in_range; split = refl }; second = own_of_text verb.FreeOnReturn library.0 a.line.call_in_range.0 a.line.call_in_range.1 })

own_any : (p : Who × (Verb × ℕ)) (t : List ℕ) → OwnLines p t → AnyOf (LibLinesOf false) t
own_any (who, (v, l)) t pair = ((who, own_call v l), own_to who v l t pair)

module _ (text : List ℕ) where
  pub own_stuck_first : (k : ℕ) → IsStuck WhoTexts text k → IsStuck (LibLinesOf false) text k
  own_stuck_first k stuck =
      stuck_renamed OwnLines (LibLinesOf false) (λ (who, made) t a. own_back who made t a) text k own_any (pairs_stuck_first 32 WhoTexts (λ who. OwnTexts) who_part (λ who. own_tail) text k stuck)

  module _ (who : Who) (n : ℕ) (first : IsReadTo WhoTexts text who n) (rest : List ℕ) (e : rest ≡ drop n text) where
    pub own_stuck_second : (k : ℕ) → IsStuck OwnTexts rest k → IsStuck (LibLinesOf false) text (n + k)
    own_stuck_second k stuck =
        stuck_renamed OwnLines (LibLinesOf false) (λ (w, made) t a. own_back w made t a) text (n + k) own_any
        (pairs_stuck_second 32 WhoTexts (λ w. OwnTexts) who_part (λ w. own_tail) text who n first k (subst (λ l. IsStuck OwnTexts l k) e stuck))

    pub own_read : (v : Verb) (l m : ℕ) → IsReadTo OwnTexts rest (v, l) m → IsReadTo (LibLinesOf false) text (who, own_call v l) (n + m)
    own_read v l m read =
        read_renamed OwnLines (LibLinesOf false) (λ (w, made) t a. own_back w made t a) text (who, (v, l)) (who, own_call v l) (n + m) (λ t pair. own_to who v l t pair)
        (pairs_read 32 WhoTexts (λ w. OwnTexts) who_part (λ w. own_tail) text who n first (v, l) m (subst (λ x. IsReadTo OwnTexts x (v, l) m) e read))

-- ---- both

either_to : (p : Who × LibCall) (t : List ℕ) → Either (LibLinesOf true) (LibLinesOf false) p t → LibLines p t
either_to (who, made) t (inl a) = a.line
either_to (who, made) t (inr a) = a.line

either_back : (p : Who × LibCall) (t : List ℕ) → LibLines p t → Either (LibLinesOf true) (LibLinesOf false) p t
either_back (who, Pool call library) t a = inl (record { line = a; kind = refl })
either_back (who, Load library) t a = inr (record { line = a; kind = refl })
either_back (who, Free library) t a = inr (record { line = a; kind = refl })
either_back (who, FreeOnReturn library) t a = inr (record { line = a; kind = refl })

pub line_read : (text : List ℕ) (r q z : Result ((Who × LibCall) × ℕ) ℕ) → z ≡ further_of r q → IsRead (LibLinesOf true) text r → IsRead (LibLinesOf false) text q → IsRead LibLines text z
line_read text r q z e a b = read_same (Either (LibLinesOf true) (LibLinesOf false)) LibLines either_to either_back text z (further_read (LibLinesOf true) (LibLinesOf false) text r q z e a b)
