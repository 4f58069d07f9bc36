-- How many clients a script has.
use Rattle.std.proofs.Common.{◌≡◌, ℕ, ◌+◌, ◌≤◌, Bool, true, false, List, [], ◌∷◌, ◌++◌, length, nat_lt, if◌then◌else◌, refl, sym, ap, ◌∙◌, subst, arith, inl, inr, length-append, ltb-true}
use Rattle.script_lines.specs.declared.judge.Known.{Known}
use Rattle.script_lines.specs.declared.line.Line.{Line}
use Rattle.script_lines.specs.declared.state.State.{State}
use Rattle.script_lines.specs.declared.words.Word.{Word}
use Rattle.script_lines.specs.declared.words.Word.TheVariants as word
use Rattle.script_lines.specs.States.{state_after}
use Rattle.script_lines.specs.Texts.{lines_of}
use Rattle.script_lines.proofs.HeadFacts.{MayHead, line_head}
use Rattle.tp_script.specs.declared.script.Opening.TheVariants as opening
use Rattle.tp_script.specs.Nexts.{clients_of, opens, places_behind}
use Rattle.tp_script.specs.declared.numbered.NumberedLine.{NumberedLine}
use Rattle.tp_script.specs.Parsed.{Parsed, is_played, played}
use Rattle.tp_script.specs.Scripts.{IsScript, Reads, first_known, known_after, words_of}

with_one : Bool → ℕ → ℕ
with_one true count = count + 1
with_one false count = count

-- a line that begins a client is counted, and no other
counted : (state : State) (head : Word) → MayHead state head → (state_after state head).clients ≡ with_one (opens opening.Client head) state.clients
unfolding with_one
counted state word.Client (inl e) = let no_such : ⊥ = cc in absurd no_such
counted state word.Client (inr (room, may)) = by (nat_lt state.clients 15) room
  where
    by : (b : Bool) → b ≡ true → (if b then state.clients + 1 else state.clients) ≡ state.clients + 1
    by true e = refl
    by false e = let no_such : ⊥ = cc in absurd no_such
counted state _ may = refl

-- and there is room for it
kept_few : (state : State) (head : Word) → MayHead state head → state.clients ≤ 15 → with_one (opens opening.Client head) state.clients ≤ 15
unfolding with_one
kept_few state word.Client (inl e) few = let no_such : ⊥ = cc in absurd no_such
kept_few state word.Client (inr (room, may)) few = omega (arith, ltb-true state.clients 15 room)
kept_few state _ may few = few

no_more : (count : ℕ) → with_one false count ≡ count
unfolding with_one
no_more count = refl

one_place : (b : Bool) (place count : ℕ) → count + length (if b then place ∷ [] else []) ≡ with_one b count
unfolding with_one
one_place true place count = omega arith
one_place false place count = omega arith

-- a line that isn't played begins no client
pub unplayed : (head : Word) → is_played head ≡ false → opens opening.Client head ≡ false
unplayed word.Client e = let no_such : ⊥ = cc in absurd no_such
unplayed _ e = refl

few_behind : (texts : List (List ℕ)) (known end : Known) (number : ℕ) (rows : List NumberedLine) (at : ℕ) → Reads known number texts rows end → known.state.clients ≤ 15
    → known.state.clients + length (places_behind opening.Client at (played rows)) ≤ 15
few_behind [] known end number rows at (none, e) few = subst (λ (rs : List NumberedLine). known.state.clients + length (places_behind opening.Client at (played rs)) ≤ 15) (sym none) (omega (arith, few))
few_behind (text ∷ texts) known end number rows at (inl (blank, reads)) few = few_behind texts known end (number + 1) rows at reads few
few_behind (text ∷ texts) known end number rows at (inr (solid, (line, name, more, read, e, reads))) few =
    subst (λ (rs : List NumberedLine). known.state.clients + length (places_behind opening.Client at (played rs)) ≤ 15) (sym e)
    (by (λ next. few_behind texts (known_after known line name) end (number + 1) more next reads (subst (λ n. n ≤ 15) (sym same) (kept_few known.state line.head may few))) (is_played line.head) refl)
  where
    may : MayHead known.state line.head
    may = line_head known (words_of text) line name read

    same : (state_after known.state line.head).clients ≡ with_one (opens opening.Client line.head) known.state.clients
    same = counted known.state line.head may

    by : ((next : ℕ) → (state_after known.state line.head).clients + length (places_behind opening.Client next (played more)) ≤ 15) → (b : Bool) → is_played line.head ≡ b
        → known.state.clients + length (places_behind opening.Client at ((if b then line ∷ [] else []) ++ played more)) ≤ 15
    by behind true is =
        omega (
          arith,
          behind (at + 1),
          same,
          one_place (opens opening.Client line.head) (at + 1) known.state.clients,
          length-append (if opens opening.Client line.head then (at + 1) ∷ [] else []) (places_behind opening.Client (at + 1) (played more)),
        )
    by behind false is =
        let none : with_one (opens opening.Client line.head) known.state.clients ≡ with_one false known.state.clients = ap (λ b. with_one b known.state.clients) (unplayed line.head is) in
        omega (arith, behind at, same, none, no_more known.state.clients)

-- a script has at most 15 clients besides the one that makes the declarations
pub few_clients : (text : List ℕ) (lines : List Line) → IsScript text lines → (1 ≤ clients_of lines) × (clients_of lines ≤ 16)
few_clients text lines (script, (rows, all, e), f) =
    let few = few_behind (lines_of text) (first_known (lines_of text)) all.end 1 rows 0 all.reads (omega arith) in
    subst (λ (ls : List Line). (1 ≤ clients_of ls) × (clients_of ls ≤ 16)) (sym (f ∙ ap (λ (s : Parsed). s.lines) e)) (omega arith, omega (arith, few))
