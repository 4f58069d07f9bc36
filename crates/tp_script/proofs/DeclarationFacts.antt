-- What client 1 does: it makes the declarations, and waits for nothing.
use Rattle.std.proofs.Common.{◌≡◌, ℕ, zero, suc, ◌+◌, Bool, true, false, List, [], ◌∷◌, ◌++◌, Option, Some, None, IfSome, ◌⊎◌, ◌&&◌, fold, nat_eq, nat_lt, option_and_then, slice_get, if◌then◌else◌, refl, sym, ap, ◌∙◌, subst, arith, inl, inr}
use Rattle.tp_base.specs.declared.answers.Answer.{Answer}
use Rattle.tp_base.specs.declared.calls.Call.TheVariants as call
use Rattle.script_lines.specs.declared.judge.Known.{Known}
use Rattle.script_lines.specs.declared.line.Condition.{Condition}
use Rattle.script_lines.specs.declared.line.Condition.TheVariants.{Always, If, Unless}
use Rattle.script_lines.specs.declared.line.Line.{Line}
use Rattle.script_lines.specs.declared.state.Place.{Place}
use Rattle.script_lines.specs.declared.state.Place.TheVariants.{Declarations}
use Rattle.script_lines.specs.declared.state.State.{State}
use Rattle.script_lines.specs.declared.words.Class.{Class}
use Rattle.script_lines.specs.declared.words.Class.TheVariants as class
use Rattle.script_lines.specs.declared.words.Word.{Word}
use Rattle.script_lines.specs.declared.words.Word.TheVariants as word
use Rattle.script_lines.specs.Shapes.{class_of}
use Rattle.script_lines.specs.States.{is_inside, state_after}
use Rattle.script_lines.specs.Texts.{lines_of}
use Rattle.script_lines.specs.Tokens.{is_head}
use Rattle.script_lines.proofs.HeadFacts.{MayHead, line_head}
use Rattle.tp_script.specs.declared.routines.Part.TheVariants.{Client}
use Rattle.tp_script.specs.declared.routines.Progress.{Progress}
use Rattle.tp_script.specs.Calls.{acts, begins_wait, begins_wait_call, call_by, calls_in, is_met, maximum_of, poll_by, small_of}
use Rattle.tp_script.specs.Nexts.{acting, after_at, call_at, first_progress, line_after, line_at, next_at, noted, noted_by, polled, polls, progress_after, stepped, waited}
use Rattle.tp_script.specs.declared.numbered.NumberedLine.{NumberedLine}
use Rattle.tp_script.specs.Parsed.{Parsed, is_played, played}
use Rattle.tp_script.specs.Scripts.{IsScript, Reads, first_known, known_after, words_of}

-- no call of such a line begins a wait
record IsCalm (head : Word) : Type 0 where
  of_line : begins_wait head ≡ false
  of_calls : (line : Line) (at : Progress) → IfSome (call_by line at head) (λ made. begins_wait_call made ≡ false)

-- nor does a poll
poll_calm : (of : Condition) → IfSome (poll_by of) (λ made. begins_wait_call made ≡ false)
poll_calm Always = tt
poll_calm (If kernel) = refl
poll_calm (Unless kernel) = refl

-- words that may begin a line among the declarations
is_front : Class → Bool
is_front class.Declaration = true
is_front class.Routine = true
is_front class.Client = true
is_front _ = false

front_class : (of : Class) → (is_head Declarations of ≡ true) ⊎ (is_inside Declarations ≡ true) → is_front of ≡ true
unfolding is_front
front_class class.Declaration may = refl
front_class class.Routine may = refl
front_class class.Client may = refl
front_class _ (inl e) = let no_such : ⊥ = cc in absurd no_such
front_class _ (inr e) = let no_such : ⊥ = cc in absurd no_such

pool_calm : (line : Line) (first second : Bool) → begins_wait_call (if first then call.CreatePool else (if second then call.SetMaximum (record { 0 = line.made }) (maximum_of line) else call.SetMinimum (record { 0 = line.made }) (small_of line.number))) ≡ false
pool_calm line true second = refl
pool_calm line false true = refl
pool_calm line false false = refl

front_calm : (head : Word) → acts head ≡ true → is_front (class_of head) ≡ true → IsCalm head
unfolding is_front
front_calm word.Pool acting front =
    record { of_line = refl; of_calls = λ line at. pool_calm line (nat_eq at.done 0) (nat_eq at.done 1 && line.maximum) }
front_calm word.Group acting front = record { of_line = refl; of_calls = λ line at. refl }
front_calm word.Event acting front = record { of_line = refl; of_calls = λ line at. refl }
front_calm word.Semaphore acting front = record { of_line = refl; of_calls = λ line at. refl }
front_calm word.Mutex acting front = record { of_line = refl; of_calls = λ line at. refl }
front_calm word.Section acting front = record { of_line = refl; of_calls = λ line at. refl }
front_calm (word.Object kind) acting front = record { of_line = refl; of_calls = λ line at. refl }
front_calm word.Memory acting front = record { of_line = refl; of_calls = λ line at. tt }
front_calm word.Routine acting front = let no_such : ⊥ = cc in absurd no_such
front_calm word.Client acting front = let no_such : ⊥ = cc in absurd no_such
front_calm _ acting front = let no_such : ⊥ = cc in absurd no_such

declared_calm : (state : State) (head : Word) → state.place ≡ Declarations → MayHead state head → acts head ≡ true → IsCalm head
declared_calm state head declaring (inl e) acting = let no_such : ⊥ = (let inactive : acts head ≡ false = ap acts e in cc) in absurd no_such
declared_calm state head declaring (inr (room, may)) acting =
    front_calm head acting (front_class (class_of head) (subst (λ (p : Place). (is_head p (class_of head) ≡ true) ⊎ (is_inside p ≡ true)) declaring may))

-- a line that makes a call leaves the place as it is
same_place : (state : State) (head : Word) → acts head ≡ true → (state_after state head).place ≡ state.place
same_place state word.Routine acting = let no_such : ⊥ = cc in absurd no_such
same_place state word.Client acting = let no_such : ⊥ = cc in absurd no_such
same_place state word.Done acting = let no_such : ⊥ = cc in absurd no_such
same_place state _ acting = refl

-- the lines in front that make a call, up to the first that makes none, begin no wait
IsFront : List Line → Type 0
IsFront [] = Unit {0}
IsFront (line ∷ lines) = acts line.head ≡ true → IsCalm line.head × IsFront lines

-- a line that isn't played leaves it too
unplayed : (head : Word) → is_played head ≡ false → acts head ≡ true
unplayed word.Routine e = let no_such : ⊥ = cc in absurd no_such
unplayed word.Client e = let no_such : ⊥ = cc in absurd no_such
unplayed word.Done e = let no_such : ⊥ = cc in absurd no_such
unplayed _ e = refl

front_of : (texts : List (List ℕ)) (known end : Known) (number : ℕ) (rows : List NumberedLine) → Reads known number texts rows end → known.state.place ≡ Declarations → IsFront (played rows)
unfolding IsFront
front_of [] known end number rows (none, e) declaring = subst (λ (rs : List NumberedLine). IsFront (played rs)) (sym none) tt
front_of (text ∷ texts) known end number rows (inl (blank, reads)) declaring = front_of texts known end (number + 1) rows reads declaring
front_of (text ∷ texts) known end number rows (inr (solid, (line, name, more, read, e, reads))) declaring =
    subst (λ (rs : List NumberedLine). IsFront (played rs)) (sym e)
    (by (λ acting. front_of texts (known_after known line name) end (number + 1) more reads (same_place known.state line.head acting ∙ declaring)) (is_played line.head) refl)
  where
    by : (acts line.head ≡ true → IsFront (played more)) → (b : Bool) → is_played line.head ≡ b → IsFront ((if b then line ∷ [] else []) ++ played more)
    by behind true is = λ acting. (declared_calm known.state line.head declaring (line_head known (words_of text) line name read) acting, behind acting)
    by behind false is = behind (unplayed line.head is)

-- so many lines in front make calls
AreActing : ℕ → List Line → Type 0
AreActing zero lines = Unit {0}
AreActing (suc op) [] = ⊥
AreActing (suc op) (line ∷ lines) = (acts line.head ≡ true) × AreActing op lines

front_at : (lines : List Line) (op : ℕ) (line : Line) → IsFront lines → AreActing op lines → option_and_then acting (slice_get lines op) ≡ Some line → IsCalm line.head × AreActing (suc op) lines
unfolding IsFront AreActing
front_at [] op line front behind e = let no_such : ⊥ = cc in absurd no_such
front_at (first ∷ lines) zero line front behind e = by (acts first.head) refl e
  where
    by : (b : Bool) → acts first.head ≡ b → (if b then Some first else None) ≡ Some line → IsCalm line.head × ((acts first.head ≡ true) × Unit {0})
    by true acting h = (subst (λ (l : Line). IsCalm l.head) (let same : first ≡ line = cc in same) (front acting).0, (acting, tt))
    by false none h = let no_such : ⊥ = cc in absurd no_such
front_at (first ∷ lines) (suc op) line front behind e =
    let there = front_at lines op line (front behind.0).1 behind.1 e in
    (there.0, (behind.0, there.1))

-- the line of client 1 at such a place is that of the script
line_of_first : (lines : List Line) (op : ℕ) → line_at lines (Client 1) op ≡ option_and_then acting (slice_get lines op)
line_of_first lines op = ap (λ n. option_and_then acting (slice_get lines n)) (let same : 0 + op ≡ op = omega arith in same)

-- client 1 hasn't come further than behind the declarations, and has begun no wait
record Declares (lines : List Line) (at : Progress) : Type 0 where
  ending : at.ending ≡ false
  behind : AreActing at.op lines

module _ (lines : List Line) (front : IsFront lines) where
  at_front : (at : Progress) (line : Line) → Declares lines at → line_at lines (Client 1) at.op ≡ Some line → IsCalm line.head × AreActing (suc at.op) lines
  at_front at line stands e = front_at lines at.op line front stands.behind (sym (line_of_first lines at.op) ∙ e)

  after_step : (calls : ℕ) (at : Progress) → Declares lines at → AreActing (suc at.op) lines → Declares lines (stepped calls at)
  after_step calls at stands further = by (nat_lt (at.done + 1) calls)
    where
      by : (b : Bool) → Declares lines (if b then record at { done = at.done + 1; met = false } else record at { op = at.op + 1; done = 0; met = false })
      by true = record { ending = stands.ending; behind = stands.behind }
      by false = record { ending = stands.ending; behind = subst (λ n. AreActing n lines) (let next : suc at.op ≡ at.op + 1 = omega arith in next) further }

  after_noted : (line : Line) (at : Progress) (answer : Answer) → Declares lines at → AreActing (suc at.op) lines → Declares lines (stepped (calls_in line) (noted line at answer))
  after_noted line at answer stands further = by line.head
    where
      by : (head : Word) → Declares lines (stepped (calls_in line) (noted_by line.made at answer head))
      by word.Let = after_step (calls_in line) (noted_by line.made at answer word.Let) (record { ending = stands.ending; behind = stands.behind }) further
      by word.IssueIo = after_step (calls_in line) (noted_by line.made at answer word.IssueIo) (record { ending = stands.ending; behind = stands.behind }) further
      by _ = after_step (calls_in line) at stands further

  after_line : (line : Line) (at : Progress) (answer : Answer) → IsCalm line.head → Declares lines at → AreActing (suc at.op) lines → Declares lines (line_after line at answer)
  after_line line at answer calm stands further = by (polls line at)
    where
      behind_poll : (b : Bool) → Declares lines (if b then record at { met = true } else stepped (calls_in line) at)
      behind_poll true = record { ending = stands.ending; behind = stands.behind }
      behind_poll false = after_step (calls_in line) at stands further

      by : (b : Bool) → Declares lines (if b then polled line at answer else (if begins_wait line.head then waited (calls_in line) at answer else stepped (calls_in line) (noted line at answer)))
      by true = behind_poll (is_met line.condition answer)
      by false =
          subst (λ (waits : Bool). Declares lines (if waits then waited (calls_in line) at answer else stepped (calls_in line) (noted line at answer))) (sym calm.of_line)
          (after_noted line at answer stands further)

  after_answer : (at : Progress) (answer : Answer) → Declares lines at → Declares lines (progress_after lines (Client 1) at answer)
  after_answer at answer stands = by (line_at lines (Client 1) at.op) refl
    where
      by : (found : Option Line) → line_at lines (Client 1) at.op ≡ found → Declares lines (after_at found at answer)
      by None e = stands
      by (Some line) e = let there = at_front at line stands e in after_line line at answer there.0 stands there.1

  after_answers : (answers : List Answer) (at : Progress) → Declares lines at → Declares lines (fold (progress_after lines (Client 1)) at answers)
  after_answers [] at stands = stands
  after_answers (answer ∷ answers) at stands = after_answers answers (progress_after lines (Client 1) at answer) (after_answer at answer stands)

  next_calm : (at : Progress) → Declares lines at → IfSome (next_at lines (Client 1) at) (λ made. begins_wait_call made ≡ false)
  next_calm at stands = by (line_at lines (Client 1) at.op) refl
    where
      by : (found : Option Line) → line_at lines (Client 1) at.op ≡ found → IfSome (option_and_then (λ line. call_at line at) found) (λ made. begins_wait_call made ≡ false)
      by None e = tt
      by (Some line) e = by_poll (polls line at)
        where
          by_poll : (b : Bool) → IfSome (if b then poll_by line.condition else (if at.ending then Some call.End else call_by line at line.head)) (λ made. begins_wait_call made ≡ false)
          by_poll true = poll_calm line.condition
          by_poll false =
              subst (λ (ends : Bool). IfSome (if ends then Some call.End else call_by line at line.head) (λ made. begins_wait_call made ≡ false)) (sym stands.ending)
              ((at_front at line stands e).0.of_calls line at)

-- client 1 of a script begins no wait, whatever the answers are
pub first_never_waits : (text : List ℕ) (lines : List Line) → IsScript text lines → (answers : List Answer)
    → IfSome (next_at lines (Client 1) (fold (progress_after lines (Client 1)) first_progress answers)) (λ made. begins_wait_call made ≡ false)
unfolding AreActing
first_never_waits text lines (script, (rows, all, e), f) answers =
    let front = subst IsFront (sym (f ∙ ap (λ (s : Parsed). s.lines) e)) (front_of (lines_of text) (first_known (lines_of text)) all.end 1 rows all.reads refl) in
    next_calm lines front (fold (progress_after lines (Client 1)) first_progress answers) (after_answers lines front answers first_progress (record { ending = refl; behind = tt }))
