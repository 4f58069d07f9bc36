-- How the lines of a client lead on, where all that they name is known.
use Rattle.std.proofs.Common.{◌≡◌, ℕ, suc, ◌+◌, ◌<◌, ◌≤◌, Bool, true, false, IsTrue, negsuc}
use Rattle.std.proofs.Common.{List, [], ◌∷◌, ◌++◌, Option, Some, None, bytes_eq, codes, decimal, length as list_length, nat_lt, ◌==◌, option_and_then, if◌then◌else◌, refl, sym, ap, ◌∙◌, subst, arith, append_assoc, append-nil, length-append, ltb-true, eqb-true}
use Rattle.std.specs.Fmt.{digits}
use Rattle.std.specs.Map.{lookup}
use Rattle.std.proofs.lemmas.Bool.Decides.{nat_tests}
use Rattle.std.proofs.lemmas.Fmt.{decimal_nonempty, length-decimal-le}
use Rattle.line_grammar.specs.Parts.{Opens}
use Rattle.line_grammar.specs.Words.{lacks}
use Rattle.line_grammar.proofs.NumberFacts.{decimal_lacks}
use Rattle.line_grammar.proofs.WordFacts.{lacks_append}
use Rattle.script_lines.specs.declared.judge.Known.{Known}
use Rattle.script_lines.specs.declared.line.Meaning.{Meaning}
use Rattle.script_lines.specs.declared.line.Token.TheVariants as token
use Rattle.script_lines.specs.declared.names.Named.{Named}
use Rattle.script_lines.specs.declared.words.Sort.{Sort}
use Rattle.script_lines.specs.declared.words.Sort.TheVariants as sort
use Rattle.script_lines.specs.declared.words.Want.{Want}
use Rattle.script_lines.specs.declared.words.Want.TheVariants as want
use Rattle.script_lines.specs.declared.words.Word.TheVariants as word
use Rattle.script_lines.specs.Known.{within_section}
use Rattle.script_lines.specs.Names.{Names}
use Rattle.script_lines.specs.Texts.{Spot, words_from}
use Rattle.script_lines.specs.Tokens.{name_of, is_wanted}
use Rattle.script_lines.proofs.TextFacts.{first_word}
use Rattle.tp_script.specs.Scripts.{words_of}
use Rattle.script_generator.specs.Scripts.{client_line, last_client, most_of}
use Rattle.script_generator.proofs.Knowing.{behind, named, number_token, within}
use Rattle.script_generator.proofs.Points.{Leads, Point, joined, one_line}

-- the timer, the group and so many work objects have their names
pub record Knows (names : Names) (works : ℕ) : Type 0 where
  pub timer : lookup (bytes_eq (codes "t")) names ≡ Some (named sort.Timer 1)
  pub group : lookup (bytes_eq (codes "g")) names ≡ Some (named sort.Group 1)
  pub work : (number : ℕ) → number < works → lookup (bytes_eq (codes "w" ++ decimal (suc number))) names ≡ Some (named sort.Work (suc (suc number)))

-- a name of the whole script stands in each section
name_token : (known : Known) (wanted : Want) (of : Sort) (number : ℕ) (text : List ℕ) → lookup (bytes_eq text) known.names ≡ Some (named of number) → is_wanted known.state wanted (named of number).meaning ≡ true
    → name_of known wanted text ≡ Some (token.Name (named of number).meaning)
name_token known wanted of number text found suit =
    ap (λ (o : Option Named). option_and_then (λ (meaning : Meaning). if is_wanted known.state wanted meaning then Some (token.Name meaning) else None) (option_and_then (λ (one : Named). within_section one known.state.section) o)) found
    ∙ ap (λ (b : Bool). if b then Some (token.Name (named of number).meaning) else None) suit

-- a word that has no space in it
front_word : (column : ℕ) (word rest : List ℕ) → 0 < list_length word → IsTrue (lacks 32 word) → Opens 32 rest → words_from column (word ++ rest) ≡ (record { column = column; word = word }) ∷ words_from (column + list_length word) rest
front_word column [] rest some lacking opened = absurd (omega arith)
front_word column (byte ∷ word) rest some lacking opened = first_word column byte word rest lacking opened

number_word : (column number : ℕ) (rest : List ℕ) → number ≤ 10000 → Opens 32 rest → words_from column (decimal number ++ rest) ≡ (record { column = column; word = decimal number }) ∷ words_from (column + list_length (decimal number)) rest
number_word column number rest small opened = front_word column (decimal number) rest (decimal_nonempty number (omega arith)) (decimal_lacks 32 (omega arith) number (omega arith)) opened

one : codes "1" ≡ decimal 1
unfolding digits
one = refl

-- what a line's number is drawn below
in_works : (works kind draw : ℕ) → kind < 7 → draw < most_of works kind → draw < works
in_works works kind draw low drawn = grind (arith, nat_tests)

in_time : (works kind draw : ℕ) → works ≤ 8 → draw < most_of works kind → draw < 1000
in_time works kind draw few drawn = grind (arith, nat_tests)

module _ (names : Names) (objects clients : ℕ) where
  pub client_closes : Leads (within names objects (suc clients)) (behind names objects (suc clients)) (codes "done\n") 5
  client_closes = one_line (within names objects (suc clients)) (behind names objects (suc clients)) (codes "done") (words_of (codes "done")) (token.Head word.Done ∷ []) 5 refl refl refl (refl, tt) refl refl refl (omega arith)

pub client_opens : (names : Names) (objects clients : ℕ) → clients < 4 → Leads (behind names objects clients) (within names objects (suc clients)) (codes "client\n") 7
client_opens names objects (suc (suc (suc (suc clients)))) few = absurd (omega arith)
client_opens names objects clients few =
    one_line (behind names objects clients) (within names objects (suc clients)) (codes "client") (words_of (codes "client")) (token.Head word.Client ∷ []) 7 refl refl refl (refl, tt) refl refl refl (omega arith)

module _ (names : Names) (objects clients works : ℕ) (knows : Knows names works) (few : works ≤ 8) where
  abbrev here : Point
  here = within names objects clients

  submit_leads : (draw : ℕ) → draw < works → Leads here here (codes "submit w" ++ (decimal (1 + draw) ++ codes "\n")) 15
  unfolding digits
  submit_leads (suc (suc (suc (suc (suc (suc (suc (suc draw)))))))) low = absurd (omega arith)
  submit_leads draw low =
      let front : List ℕ = codes "submit w" ++ decimal (suc draw) in
      one_line here here front (words_of front) (token.Head word.Submit ∷ token.Name (named sort.Work (suc (suc draw))).meaning ∷ []) 15 refl refl refl
      (refl, (name_token here.known want.Work sort.Work (suc (suc draw)) (codes "w" ++ decimal (suc draw)) (knows.work draw low) refl, tt)) refl refl refl (omega arith)

  wait_leads : (draw : ℕ) (cancels : Bool) → draw < works → Leads here here (codes "wait w" ++ (decimal (1 + draw) ++ (if cancels then codes " cancel\n" else codes " keep\n"))) 15
  unfolding digits
  wait_leads (suc (suc (suc (suc (suc (suc (suc (suc draw)))))))) cancels low = absurd (omega arith)
  wait_leads draw true low =
      let front : List ℕ = codes "wait w" ++ (decimal (suc draw) ++ codes " cancel") in
      one_line here here front (words_of front) (token.Head word.BeginWait ∷ token.Name (named sort.Work (suc (suc draw))).meaning ∷ token.Word (word.How true) ∷ []) 15 refl refl refl
      (refl, (name_token here.known want.Object sort.Work (suc (suc draw)) (codes "w" ++ decimal (suc draw)) (knows.work draw low) refl, (refl, tt))) refl refl refl (omega arith)
  wait_leads draw false low =
      let front : List ℕ = codes "wait w" ++ (decimal (suc draw) ++ codes " keep") in
      one_line here here front (words_of front) (token.Head word.BeginWait ∷ token.Name (named sort.Work (suc (suc draw))).meaning ∷ token.Word (word.How false) ∷ []) 15 refl refl refl
      (refl, (name_token here.known want.Object sort.Work (suc (suc draw)) (codes "w" ++ decimal (suc draw)) (knows.work draw low) refl, (refl, tt))) refl refl refl (omega arith)

  advance_leads : (number : ℕ) → number ≤ 1000 → Leads here here (codes "advance " ++ (decimal number ++ codes "\n")) 15
  advance_leads number small =
      one_line here here (codes "advance " ++ decimal number) ((record { column = 1; word = codes "advance" }) ∷ (record { column = 9; word = decimal number }) ∷ []) (token.Head word.Advance ∷ token.Number number ∷ []) 15
      (ap (λ (spots : List Spot). (record { column = 1; word = codes "advance" }) ∷ spots) (ap (words_from 9) (sym (append-nil (decimal number))) ∙ number_word 9 number [] (omega arith) tt))
      (decimal_lacks 10 (omega arith) number (omega arith)) refl
      (refl, (number_token 0 9223372036854775807 number (decimal number) (omega arith) (omega arith) refl, tt)) refl refl refl
      (omega (arith, length-decimal-le 4 number (omega arith) (omega arith) (omega arith)))

  -- a line of a client, whatever was drawn
  pub line_leads : (kind draw : ℕ) → draw < most_of works kind → Leads here here (client_line kind (1 + draw)) 15
  line_leads kind draw low = by (nat_lt kind 5) refl (kind == 5) refl (kind == 6) refl
    where
      by : (submits : Bool) → nat_lt kind 5 ≡ submits → (keeps : Bool) → (kind == 5) ≡ keeps → (cancels : Bool) → (kind == 6) ≡ cancels
          → Leads here here (if submits then codes "submit w" ++ (decimal (1 + draw) ++ codes "\n") else (if keeps then codes "wait w" ++ (decimal (1 + draw) ++ codes " keep\n")
          else (if cancels then codes "wait w" ++ (decimal (1 + draw) ++ codes " cancel\n") else codes "advance " ++ (decimal (1 + draw) ++ codes "\n")))) 15
      by true e keeps f cancels g = submit_leads draw (in_works works kind draw (omega (arith, ltb-true kind 5 e)) low)
      by false e true f cancels g = wait_leads draw false (in_works works kind draw (omega (arith, eqb-true kind 5 f)) low)
      by false e false f true g = wait_leads draw true (in_works works kind draw (omega (arith, eqb-true kind 6 g)) low)
      by false e false f false g = advance_leads (1 + draw) (omega (arith, in_time works kind draw few low))

  timer_set_leads : Leads here here (codes "set-timer t -500 1 0\n") 22
  unfolding digits
  timer_set_leads =
      one_line here here (codes "set-timer t -500 1 0") (words_of (codes "set-timer t -500 1 0")) (token.Head word.SetTimer ∷ token.Name (named sort.Timer 1).meaning ∷ token.Due (Some (negsuc 499)) ∷ token.Number 1 ∷ token.Number 0 ∷ []) 22
      refl refl refl (
        refl,
        (
          name_token here.known want.Timer sort.Timer 1 (codes "t") knows.timer refl,
          (
            (Some (negsuc 499), refl, record { fits = record { sfits = omega arith }; split = refl }),
            (number_token 0 4294967295 1 (codes "1") (omega arith) (omega arith) refl, (number_token 0 4294967295 0 (codes "0") (omega arith) (omega arith) refl, tt)),
          ),
        ),
      )
      refl refl refl (omega arith)

  times_leads : (length : ℕ) → 1 ≤ length → length ≤ 10000 → Leads here here ((codes "times " ++ (decimal length ++ codes " advance 1")) ++ 10 ∷ []) 22
  times_leads length some small =
      one_line here here (codes "times " ++ (decimal length ++ codes " advance 1"))
      ((record { column = 1; word = codes "times" }) ∷ (record { column = 7; word = decimal length }) ∷ words_from (7 + list_length (decimal length)) (codes " advance 1"))
      (token.Head word.Times ∷ token.Number length ∷ token.Head word.Advance ∷ token.Number 1 ∷ []) 22
      (ap (λ (spots : List Spot). (record { column = 1; word = codes "times" }) ∷ spots) (number_word 7 length (codes " advance 1") small refl))
      (lacks_append 10 (decimal length) (codes " advance 1") (decimal_lacks 10 (omega arith) length (omega arith)) refl) refl
      (refl, (number_token 1 10000 length (decimal length) some small refl, (refl, (number_token 0 9223372036854775807 1 (codes "1") (omega arith) (omega arith) one, tt)))) refl refl refl
      (omega (arith, length-append (decimal length) (codes " advance 1"), length-decimal-le 5 length (omega arith) (omega arith) (omega arith)))

  close_leads : Leads here here (codes "close-members g cancel 7\n") 25
  unfolding digits
  close_leads =
      one_line here here (codes "close-members g cancel 7") (words_of (codes "close-members g cancel 7")) (token.Head word.CloseMembers ∷ token.Name (named sort.Group 1).meaning ∷ token.Word (word.How true) ∷ token.Number 7 ∷ []) 25
      refl refl refl
      (refl, (name_token here.known want.Group sort.Group 1 (codes "g") knows.group refl, (refl, (number_token 0 18446744073709551615 7 (codes "7") (omega arith) (omega arith) refl, tt)))) refl refl refl (omega arith)

-- the client that lets time pass and closes the group
pub last_leads : (names : Names) (objects works : ℕ) → Knows names works → works ≤ 8 → (length : ℕ) → 1 ≤ length → length ≤ 10000 → Leads (behind names objects 3) (behind names objects 4) (last_client length) 90
last_leads names objects works knows few length some small =
    let inside : Point = within names objects 4 in
    let timed : List ℕ = decimal length in
    let closing : List ℕ = codes "close-members g cancel 7\ndone\n" in
    subst (λ (text : List ℕ). Leads (behind names objects 3) (behind names objects 4) text 90)
    (ap (λ (text : List ℕ). codes "client\nset-timer t -500 1 0\ntimes " ++ text) (append_assoc (timed ++ codes " advance 1") (10 ∷ []) closing ∙ append_assoc timed (codes " advance 1") (10 ∷ closing)))
    (joined (behind names objects 3) inside (behind names objects 4) (codes "client\n") (codes "set-timer t -500 1 0\n" ++ (((codes "times " ++ (timed ++ codes " advance 1")) ++ 10 ∷ []) ++ closing)) 7 80 90
    (client_opens names objects 3 (omega arith))
    (joined inside inside (behind names objects 4) (codes "set-timer t -500 1 0\n") (((codes "times " ++ (timed ++ codes " advance 1")) ++ 10 ∷ []) ++ closing) 22 55 80
    (timer_set_leads names objects 4 works knows few)
    (joined inside inside (behind names objects 4) ((codes "times " ++ (timed ++ codes " advance 1")) ++ 10 ∷ []) closing 22 30 55 (times_leads names objects 4 works knows few length some small)
    (joined inside inside (behind names objects 4) (codes "close-members g cancel 7\n") (codes "done\n") 25 5 30 (close_leads names objects 4 works knows few) (client_closes names objects 3) (omega arith))
    (omega arith))
    (omega arith))
    (omega arith))
