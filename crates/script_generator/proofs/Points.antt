-- Texts that are lines of a script, one behind another, and where they lead.
use Rattle.std.proofs.Common.{◌≡◌, ℕ, ◌+◌, ◌≤◌, true, false, IsTrue, List, [], ◌∷◌, ◌++◌, length, refl, sym, ap, ◌∙◌, subst, arith, inr, append_assoc, length-append}
use Rattle.line_grammar.specs.Words.{lacks}
use Rattle.script_lines.specs.declared.judge.Known.{Known}
use Rattle.script_lines.specs.declared.line.Line.{Line}
use Rattle.script_lines.specs.declared.line.Token.{Token}
use Rattle.script_lines.specs.declared.words.Field.{Field}
use Rattle.script_lines.specs.Lines.{may_end}
use Rattle.script_lines.specs.Names.{Names}
use Rattle.script_lines.specs.Readings.{Goes, IsLineRead, StepsBy, Trail, first_trail, moved}
use Rattle.script_lines.specs.Texts.{Spot, is_blank, lines_of}
use Rattle.script_lines.specs.Tokens.{Fits}
use Rattle.script_lines.proofs.TextFacts.{first_line}
use Rattle.tp_script.specs.declared.numbered.NumberedLine.{NumberedLine}
use Rattle.tp_script.specs.Scripts.{Reads, known_after, with_routine, with_routines, words_of}

-- ---- one line, by what each of its words says

abbrev behind_first : List Field → List Field
behind_first [] = []
behind_first (field ∷ left) = left

abbrev next_trail : Trail → Token → List ℕ → Trail
next_trail trail said word = moved trail (behind_first trail.left) said word

abbrev SaysFirst : Known → Line → List Field → List ℕ → Token → Type 0
SaysFirst known line [] word said = ⊥
SaysFirst known line (field ∷ left) word said = Fits known field line word said

-- the words say this, each in its place
abbrev pub Says : Known → Trail → List Spot → List Token → Type 0
Says known trail [] [] = Unit {0}
Says known trail (spot ∷ spots) (said ∷ more) = SaysFirst known trail.line trail.left spot.word said × Says known (next_trail trail said spot.word) spots more
Says known trail _ _ = ⊥

-- where they lead
abbrev pub told : Trail → List Spot → List Token → Trail
told trail (spot ∷ spots) (said ∷ more) = told (next_trail trail said spot.word) spots more
told trail _ _ = trail

module _ (known : Known) where
  steps : (trail : Trail) (left : List Field) (word : List ℕ) (said : Token) → SaysFirst known trail.line left word said → StepsBy known trail left word (moved trail (behind_first left) said word)
  steps trail [] word said says = absurd says
  steps trail (field ∷ left) word said says = (said, says, refl)

  goes : (spots : List Spot) (said : List Token) (trail : Trail) → Says known trail spots said → Goes known trail spots (told trail spots said)
  goes [] [] trail says = refl
  goes [] (one ∷ more) trail says = absurd says
  goes (spot ∷ spots) [] trail says = absurd says
  goes (spot ∷ spots) (one ∷ more) trail (first, says) =
      (next_trail trail one spot.word, steps trail trail.left spot.word one first, goes spots more (next_trail trail one spot.word) says)

-- ---- where a text leads

-- what is known at a place of a script, and the routines that begin before it
pub record Point : Type 0 where
  pub known : Known
  pub begun : Names

-- the text leads from one point to the other by so many lines, and has so many bytes at most
pub record Leads (before behind : Point) (text : List ℕ) (most : ℕ) : Type 0 where
  pub lines : ℕ
  pub reads : (number : ℕ) (rest : List ℕ) (rows : List NumberedLine) (end : Known) → Reads behind.known (lines + number) (lines_of rest) rows end
      → (all : List NumberedLine) × Reads before.known number (lines_of (text ++ rest)) all end
  pub begins : (rest : List ℕ) → with_routines before.begun (lines_of (text ++ rest)) ≡ with_routines behind.begun (lines_of rest)
  pub size : length text ≤ most

pub joined : (a b c : Point) (text more : List ℕ) (l m n : ℕ) → Leads a b text l → Leads b c more m → l + m ≤ n → Leads a c (text ++ more) n
joined a b c text more l m n first second room = record {
  lines = second.lines + first.lines;
  reads = λ number rest rows end read.
      let there : second.lines + first.lines + number ≡ second.lines + (first.lines + number) = omega arith in
      let behind = second.reads (first.lines + number) rest rows end (subst (λ (at : ℕ). Reads c.known at (lines_of rest) rows end) there read) in
      let whole = first.reads number (more ++ rest) behind.0 end behind.1 in
      (whole.0, subst (λ (t : List ℕ). Reads a.known number (lines_of t) whole.0 end) (sym (append_assoc text more rest)) whole.1);
  begins = λ rest. ap (λ (t : List ℕ). with_routines a.begun (lines_of t)) (append_assoc text more rest) ∙ first.begins (more ++ rest) ∙ second.begins rest;
  size = omega (arith, length-append text more, first.size, second.size, room);
}

pub wider : (a b : Point) (text : List ℕ) (m n : ℕ) → Leads a b text m → m ≤ n → Leads a b text n
wider a b text m n leads room = record { lines = leads.lines; reads = leads.reads; begins = leads.begins; size = omega (arith, leads.size, room) }

some_text : (front rest : List ℕ) (byte : ℕ) → front ++ byte ∷ rest ≡ [] → ⊥
some_text [] rest byte e = let no_such : ⊥ = cc in no_such
some_text (first ∷ front) rest byte e = let no_such : ⊥ = cc in no_such

split_line : (front rest : List ℕ) → IsTrue (lacks 10 front) → lines_of ((front ++ 10 ∷ []) ++ rest) ≡ front ∷ lines_of rest
split_line front rest lacking = ap lines_of (append_assoc front (10 ∷ []) rest) ∙ first_line front (10 ∷ rest) lacking refl (some_text front rest 10)

-- a line with these words, which say this
pub one_line : (before behind : Point) (front : List ℕ) (spots : List Spot) (said : List Token) (most : ℕ) → words_of front ≡ spots → IsTrue (lacks 10 front) → is_blank spots ≡ false
    → Says before.known first_trail spots said → may_end (told first_trail spots said).left ≡ true
    → known_after before.known (told first_trail spots said).line (told first_trail spots said).name ≡ behind.known → with_routine before.begun spots ≡ behind.begun → length front + 1 ≤ most
    → Leads before behind (front ++ 10 ∷ []) most
one_line before behind front spots said most words lacking solid says whole leads begun room =
    let end : Trail = told first_trail spots said in
    let read : IsLineRead before.known spots end.line end.name = record { end = end; goes = goes before.known spots said first_trail says; whole = whole; line_of = refl; name_of = refl } in
    record {
      lines = 1;
      reads = λ number rest rows last reads. (
        (record { number = number; line = end.line }) ∷ rows,
        subst (λ (texts : List (List ℕ)). Reads before.known number texts ((record { number = number; line = end.line }) ∷ rows) last) (sym (split_line front rest lacking))
            (inr (
              ap is_blank words ∙ solid,
              (
                end.line,
                end.name,
                rows,
                subst (λ (of : List Spot). IsLineRead before.known of end.line end.name) (sym words) read,
                refl,
                subst (λ (known : Known). Reads known (number + 1) (lines_of rest) rows last) (sym leads)
                    (subst (λ (at : ℕ). Reads behind.known at (lines_of rest) rows last) (let next : 1 + number ≡ number + 1 = omega arith in next) reads),
              ),
            )),
      );
      begins = λ rest. ap (with_routines before.begun) (split_line front rest lacking) ∙ ap (λ (names : Names). with_routines names (lines_of rest)) (ap (with_routine before.begun) words ∙ begun);
      size = omega (arith, length-append front (10 ∷ []), room);
    }
