-- Each line of calls with libraries has one value, and no line feed stands in one.
use Rattle.std.proofs.Common.{◌≡◌, ℕ, zero, suc, ◌≤◌, Bool, true, false, ◌||◌, List, [], ◌∷◌, ◌++◌, length, refl, sym, ap, ap₂, ◌∙◌, subst, arith, IsTrue}
use Rattle.std.specs.Prelude.{bytes_eq, codes, decimal}
use Rattle.std.proofs.lemmas.Fmt.{decimal_injective}
use Rattle.std.proofs.lemmas.List.{append_assoc, append-nil, append_cancel_left}
use Rattle.line_grammar.specs.Parts.{IsPair, IsPart, IsTail, Opens}
use Rattle.line_grammar.specs.Words.{is_solid, lacks}
use Rattle.line_grammar.proofs.Cuts.{Cut, cut, further, nearer, same}
use Rattle.line_grammar.proofs.NumberFacts.{decimal_lacks}
use Rattle.line_grammar.proofs.Pairs.{pair_same}
use Rattle.line_grammar.proofs.WordFacts.{lacking_part, lacks_append, solid_behind}
use Rattle.tp_base.specs.declared.calls.Call.{Call}
use Rattle.tp_base.specs.declared.calls.Call.TheVariants.{CreatePool}
use Rattle.tp_base.specs.declared.ids.Who.{Who}
use Rattle.tp_lines.specs.declared.parts.Part.{Part}
use Rattle.tp_lines.specs.Calls.{CallLines, IsWhoInRange, WhoTexts, line_of_call, row_of}
use Rattle.tp_lines.specs.Parts.{parts_text, row_text}
use Rattle.tp_lines.specs.Shapes.{text_of_word}
use Rattle.tp_lines.specs.Words.{text_of_who}
use Rattle.tp_lines.proofs.Feeds.{line_feedless, who_feedless}
use Rattle.tp_lines.proofs.WhoFacts.{lines_part, who_part}
use Rattle.tp_lines.proofs.WordRules.{solid}
use Rattle.tp_model.proofs.Refusals.{false_true}
use Rattle.tp_library.specs.Lines.{is_pool_call, library_id, own_call, text_of_lib_call, text_of_library, text_of_suffix, FitsLibCall, IsLibLine, LibLines}
use Rattle.tp_library.specs.declared.LibCall.{LibCall}
use Rattle.tp_library.specs.declared.LibCall.TheVariants.{Free, FreeOnReturn, Load, Pool}
use Rattle.tp_library.specs.declared.LibraryId.{LibraryId}
use Rattle.tp_library.specs.declared.lines.Verb.{Verb}
use Rattle.tp_library.specs.declared.lines.Verb.TheVariants as verb
use Rattle.tp_library.proofs.LineFacts.{some_suffix, verb_lacks, verb_solid, verb_text, verbs_differ}

-- ---- libraries

libraries_differ : (l m : ℕ) → l ≤ 255 → m ≤ 255 → text_of_library l ≡ text_of_library m → l ≡ m
libraries_differ l m few most e =
    let numbers : decimal l ≡ decimal m = append_cancel_left (codes " l") (decimal l) (decimal m) e in
    decimal_injective l m (omega (arith, few)) (omega (arith, most)) numbers

suffixes_differ : (l m : ℕ) → l ≤ 255 → m ≤ 255 → text_of_suffix l ≡ text_of_suffix m → l ≡ m
suffixes_differ zero zero few most e = refl
suffixes_differ zero (suc m) few most e = let none : [] ≡ text_of_library (suc m) = e ∙ some_suffix (suc m) (omega arith) in absurd (omega (arith, ap length none))
suffixes_differ (suc l) zero few most e = let none : text_of_library (suc l) ≡ [] = sym (some_suffix (suc l) (omega arith)) ∙ e in absurd (omega (arith, ap length none))
suffixes_differ (suc l) (suc m) few most e = libraries_differ (suc l) (suc m) few most (sym (some_suffix (suc l) (omega arith)) ∙ e ∙ some_suffix (suc m) (omega arith))

library_feedless : (l : ℕ) → l ≤ 255 → IsTrue (lacks 10 (text_of_library l))
library_feedless l most = lacks_append 10 (codes " l") (decimal l) refl (decimal_lacks 10 (omega arith) l (omega (arith, most)))

suffix_feedless : (l : ℕ) → l ≤ 255 → IsTrue (lacks 10 (text_of_suffix l))
suffix_feedless zero most = refl
suffix_feedless (suc l) most = subst (λ t. IsTrue (lacks 10 t)) (sym (some_suffix (suc l) (omega arith))) (library_feedless (suc l) most)

suffix_opens : (l : ℕ) → Opens 32 (text_of_suffix l)
suffix_opens zero = tt
suffix_opens (suc l) = subst (Opens 32) (sym (some_suffix (suc l) (omega arith))) refl

-- ---- an actor, and what stands behind it

abbrev Behind : List ℕ → List ℕ → Type 0
Behind back text = (text ≡ back) × Opens 32 text

behind_tail : IsTail 32 Behind
behind_tail = record { opens = λ back text b. b.1; some = ([], [], (refl, tt)) }

abbrev who_pair : (who : Who) (back text : List ℕ) → IsWhoInRange who → Opens 32 back → text ≡ text_of_who who ++ back → IsPair WhoTexts (λ w. Behind) who back text
who_pair who back text in_range opens e = record { front = text_of_who who; back = back; split = e; first = record { in_range = in_range; split = refl }; second = (refl, opens) }

-- two actors in front of one text are one, and so is what stands behind them
who_same : (v w : Who) (a b text : List ℕ) → IsWhoInRange v → IsWhoInRange w → Opens 32 a → Opens 32 b → text ≡ text_of_who v ++ a → text ≡ text_of_who w ++ b → (w ≡ v) × (a ≡ b)
who_same v w a b text p q opens opened e f =
    let s = pair_same 32 WhoTexts (λ x. Behind) who_part (λ x. behind_tail) v a w b text [] tt (who_pair v a text p opens e) (who_pair w b (text ++ []) q opened (append-nil text ∙ f)) in
    (s.0, sym (append-nil a) ∙ s.1.0)

-- ---- calls of the machine

abbrev pool_pair : (who : Who) (call : Call) (library : LibraryId) (text : List ℕ) → IsLibLine who (Pool call library) text → IsPair CallLines (λ made. Behind) (who, call) (text_of_suffix library.0) text
pool_pair who call library text a = record {
  front = line_of_call who call;
  back = text_of_suffix library.0;
  split = a.split ∙ sym (append_assoc (text_of_who who) (32 ∷ row_text (row_of call)) (text_of_suffix library.0));
  first = record { who_in_range = a.who_in_range; call_in_range = a.call_in_range.0; split = refl };
  second = (refl, suffix_opens library.0);
}

same_call : (v w : Who) (c d : Call) (l m : LibraryId) → ◌≡◌ {A = Who × Call} (w, d) (v, c) → l.0 ≡ m.0 → ◌≡◌ {A = Who × LibCall} (v, Pool c l) (w, Pool d m)
same_call v w c d l m e f =
    let whos : v ≡ w = sym (ap (λ (p : Who × Call). p.0) e) in
    let calls : c ≡ d = sym (ap (λ (p : Who × Call). p.1) e) in
    let libraries : l ≡ m = ap library_id f in
    ap₂ (λ (x : Who) (y : LibCall). (x, y)) whos (ap₂ (λ (x : Call) (y : LibraryId). Pool x y) calls libraries)

pool_unique : (v w : Who) (c d : Call) (l m : LibraryId) (text : List ℕ) → IsLibLine v (Pool c l) text → IsLibLine w (Pool d m) text → ◌≡◌ {A = Who × LibCall} (v, Pool c l) (w, Pool d m)
pool_unique v w c d l m text a b =
    let s = pair_same 32 CallLines (λ made. Behind) lines_part (λ made. behind_tail) (v, c) (text_of_suffix l.0) (w, d) (text_of_suffix m.0) text [] tt (pool_pair v c l text a)
    (subst (λ t. IsPair CallLines (λ made. Behind) (w, d) (text_of_suffix m.0) t) (sym (append-nil text)) (pool_pair w d m text b)) in
    same_call v w c d l m s.0 (suffixes_differ l.0 m.0 a.call_in_range.1 b.call_in_range.1 (sym (append-nil (text_of_suffix l.0)) ∙ s.1.0))

behind_space : (a b : List ℕ) → 32 ∷ a ≡ 32 ∷ b → a ≡ b
behind_space a b e = cc

-- ---- this layer's own calls

-- the word and the library of such a call
pub record IsOwn (made : LibCall) : Type 0 where
  pub verb : Verb
  pub library : ℕ
  pub few : library ≤ 255
  pub text_is : text_of_lib_call made ≡ 32 ∷ (verb_text verb ++ text_of_library library)
  pub made_is : made ≡ own_call verb library

own_same : (v w : Verb) (l m : ℕ) → l ≤ 255 → m ≤ 255 → verb_text v ++ text_of_library l ≡ verb_text w ++ text_of_library m → (v ≡ w) × (l ≡ m)
own_same v w l m few most e = by_cut (cut (verb_text v) (text_of_library l) (verb_text w) (text_of_library m) e)
  where
    by_cut : Cut (verb_text v) (text_of_library l) (verb_text w) (text_of_library m) → (v ≡ w) × (l ≡ m)
    by_cut (further x more f g) =
        let at : x ≡ 32 = cc in
        absurd (solid_behind (verb_text w) x more (subst (λ t. IsTrue (is_solid t)) f (verb_solid v)) (omega (arith, at)))
    by_cut (nearer x more f g) =
        let at : x ≡ 32 = cc in
        absurd (solid_behind (verb_text v) x more (subst (λ t. IsTrue (is_solid t)) f (verb_solid w)) (omega (arith, at)))
    by_cut (same f g) = (verbs_differ v w f, libraries_differ l m few most g)

-- ---- both

-- whether a text is a word of this layer's own
abbrev is_own : List ℕ → Bool
is_own text = bytes_eq text (codes "load") || (bytes_eq text (codes "free") || bytes_eq text (codes "free-on-return"))

own_is : (v : Verb) → is_own (verb_text v) ≡ true
own_is verb.Load = refl
own_is verb.Free = refl
own_is verb.FreeOnReturn = refl

-- no call of the machine has such a word
no_own : (c : Call) → is_own (text_of_word (row_of c).0) ≡ false
no_own CreatePool = refl
no_own _ = refl

opens_more : (parts : List Part) (l : ℕ) → Opens 32 (parts_text parts ++ text_of_suffix l)
opens_more [] l = suffix_opens l
opens_more (p ∷ parts) l = refl

opened_by : (x : ℕ) (text rest : List ℕ) → Opens 32 text → text ≡ x ∷ rest → x ≡ 32
opened_by x [] rest opens e = absurd (omega (arith, ap length e))
opened_by x (y ∷ text) rest opens e = let heads : y ≡ x = cc in sym heads ∙ opens

never_both : (c : Call) (l m : ℕ) (v : Verb) → row_text (row_of c) ++ text_of_suffix l ≡ verb_text v ++ text_of_library m → ⊥
never_both c l m v e =
    by_cut (cut (text_of_word (row_of c).0) (parts_text (row_of c).1 ++ text_of_suffix l) (verb_text v) (text_of_library m) (sym (append_assoc (text_of_word (row_of c).0) (parts_text (row_of c).1) (text_of_suffix l)) ∙ e))
  where
    by_cut : Cut (text_of_word (row_of c).0) (parts_text (row_of c).1 ++ text_of_suffix l) (verb_text v) (text_of_library m) → ⊥
    by_cut (further x more f g) =
        let at : x ≡ 32 = cc in
        solid_behind (verb_text v) x more (subst (λ t. IsTrue (is_solid t)) f (solid (row_of c).0)) (omega (arith, at))
    by_cut (nearer x more f g) =
        let at : x ≡ 32 = opened_by x (parts_text (row_of c).1 ++ text_of_suffix l) (more ++ text_of_library m) (opens_more (row_of c).1 l) g in
        solid_behind (text_of_word (row_of c).0) x more (subst (λ t. IsTrue (is_solid t)) f (verb_solid v)) (omega (arith, at))
    by_cut (same f g) = let none : false ≡ true = sym (no_own c) ∙ ap is_own f ∙ own_is v in absurd (false_true none)

-- as such a call, if it is one
own : (made : LibCall) → FitsLibCall made → is_pool_call made ≡ false → IsOwn made
own (Load library) fits e = record { verb = verb.Load; library = library.0; few = fits.1; text_is = refl; made_is = refl }
own (Free library) fits e = record { verb = verb.Free; library = library.0; few = fits.1; text_is = refl; made_is = refl }
own (FreeOnReturn library) fits e = record { verb = verb.FreeOnReturn; library = library.0; few = fits.1; text_is = refl; made_is = refl }
own (Pool call library) fits e = absurd (false_true (sym e))

own_opens : (made : LibCall) → IsOwn made → Opens 32 (text_of_lib_call made)
own_opens made o = subst (Opens 32) (sym o.text_is) refl

pool_opens : (call : Call) (library : LibraryId) → Opens 32 (text_of_lib_call (Pool call library))
pool_opens call library = refl

mixed : (v w : Who) (c : Call) (l : LibraryId) (made : LibCall) (text : List ℕ) → IsLibLine v (Pool c l) text → IsLibLine w made text → IsOwn made → ⊥
mixed v w c l made text a b o =
    let s = who_same v w (text_of_lib_call (Pool c l)) (text_of_lib_call made) text a.who_in_range b.who_in_range refl (own_opens made o) a.split b.split in
    never_both c l.0 o.library o.verb (behind_space _ _ (s.1 ∙ o.text_is))

own_unique : (v w : Who) (made other : LibCall) (text : List ℕ) → IsLibLine v made text → IsLibLine w other text → IsOwn made → IsOwn other → ◌≡◌ {A = Who × LibCall} (v, made) (w, other)
own_unique v w made other text a b o p =
    let s = who_same v w (text_of_lib_call made) (text_of_lib_call other) text a.who_in_range b.who_in_range (own_opens made o) (own_opens other p) a.split b.split in
    let t = own_same o.verb p.verb o.library p.library o.few p.few (behind_space _ _ (sym o.text_is ∙ s.1 ∙ p.text_is)) in
    let calls : made ≡ other = o.made_is ∙ ap₂ own_call t.0 t.1 ∙ sym p.made_is in
    ap₂ (λ (x : Who) (y : LibCall). (x, y)) (sym s.0) calls

unique : (p q : Who × LibCall) (text : List ℕ) → LibLines p text → LibLines q text → p ≡ q
unique (v, made) (w, other) text a b = by_kinds (is_pool_call made) refl (is_pool_call other) refl
  where
    of_pools : (x y : LibCall) → is_pool_call x ≡ true → is_pool_call y ≡ true → IsLibLine v x text → IsLibLine w y text → ◌≡◌ {A = Who × LibCall} (v, x) (w, y)
    of_pools (Pool c l) (Pool d m) e f p q = pool_unique v w c d l m text p q
    of_pools (Pool c l) (Load m) e f p q = absurd (false_true f)
    of_pools (Pool c l) (Free m) e f p q = absurd (false_true f)
    of_pools (Pool c l) (FreeOnReturn m) e f p q = absurd (false_true f)
    of_pools (Load l) y e f p q = absurd (false_true e)
    of_pools (Free l) y e f p q = absurd (false_true e)
    of_pools (FreeOnReturn l) y e f p q = absurd (false_true e)

    never : (x y : LibCall) (s t : Who) → is_pool_call x ≡ true → is_pool_call y ≡ false → IsLibLine s x text → IsLibLine t y text → ⊥
    never (Pool c l) y s t e f p q = mixed s t c l y text p q (own y q.call_in_range f)
    never (Load l) y s t e f p q = false_true e
    never (Free l) y s t e f p q = false_true e
    never (FreeOnReturn l) y s t e f p q = false_true e

    by_kinds : (k : Bool) → is_pool_call made ≡ k → (n : Bool) → is_pool_call other ≡ n → ◌≡◌ {A = Who × LibCall} (v, made) (w, other)
    by_kinds true e true f = of_pools made other e f a b
    by_kinds true e false f = absurd (never made other v w e f a b)
    by_kinds false e true f = absurd (never other made w v f e b a)
    by_kinds false e false f = own_unique v w made other text a b (own made a.call_in_range e) (own other b.call_in_range f)

feedless : (p : Who × LibCall) (text : List ℕ) → LibLines p text → IsTrue (lacks 10 text)
feedless (who, made) text a = of_kind (is_pool_call made) refl
  where
    of_pool : (x : LibCall) → is_pool_call x ≡ true → IsLibLine who x text → IsTrue (lacks 10 text)
    of_pool (Pool call library) e p =
        let pair = pool_pair who call library text p in
        subst (λ t. IsTrue (lacks 10 t)) (sym pair.split)
        (lacks_append 10 (line_of_call who call) (text_of_suffix library.0) (line_feedless (who, call) (line_of_call who call) pair.first) (suffix_feedless library.0 p.call_in_range.1))
    of_pool (Load l) e p = absurd (false_true e)
    of_pool (Free l) e p = absurd (false_true e)
    of_pool (FreeOnReturn l) e p = absurd (false_true e)

    of_kind : (k : Bool) → is_pool_call made ≡ k → IsTrue (lacks 10 text)
    of_kind true e = of_pool made e a
    of_kind false e =
        let o = own made a.call_in_range e in
        subst (λ t. IsTrue (lacks 10 t)) (sym (a.split ∙ ap (λ t. text_of_who who ++ t) o.text_is))
        (lacks_append 10 (text_of_who who) (32 ∷ (verb_text o.verb ++ text_of_library o.library)) (who_feedless who a.who_in_range)
        (lacks_append 10 (32 ∷ verb_text o.verb) (text_of_library o.library) (verb_lacks 10 (omega arith) o.verb) (library_feedless o.library o.few)))

-- a line feed may stand behind a line
pub ends_by_feed : IsPart 10 LibLines
ends_by_feed = lacking_part 10 LibLines unique feedless
