-- What lines say that have a condition or may be refused, and which memories are used, by computation alone.
use Rattle.std.proofs.Common.{◌≡◌, List, [], ◌∷◌, None, true, false, fold, refl}
use Rattle.script_lines.specs.declared.line.Condition.TheVariants.{If, Unless}
use Rattle.script_lines.specs.declared.line.Line.{Line}
use Rattle.script_lines.specs.declared.line.Meaning.{Meaning}
use Rattle.script_lines.specs.declared.line.Token.{Token}
use Rattle.script_lines.specs.declared.line.Token.TheVariants as token
use Rattle.script_lines.specs.declared.words.Sort.TheVariants as sort
use Rattle.script_lines.specs.declared.words.Word.TheVariants as word
use Rattle.script_lines.specs.declared.state.State.{State}
use Rattle.script_lines.specs.Lines.{blank, put}
use Rattle.script_lines.specs.States.{first_state, is_using, state_behind}

said_by : List Token → Line
said_by tokens = fold put blank tokens

stop : Meaning
stop = record { sort = sort.Event; local = false; number = 3 }

door : Meaning
door = record { sort = sort.Mutex; local = false; number = 4 }

halt : Meaning
halt = record { sort = sort.Wait; local = false; number = 5 }

-- `times 3 unless stop acquire door`
repeated : said_by (token.Head word.Times ∷ token.Number 3 ∷ token.Head word.Unless ∷ token.Name stop ∷ token.Head word.Acquire ∷ token.Name door ∷ [])
    ≡ record blank { head = word.Acquire; times = 3; condition = Unless 3; kernel = door }
unfolding said_by stop door
repeated = refl

-- `if stop set-wait halt none none`: the kernel object that is asked is not the one that is waited for
asked_alone : said_by (token.Head word.If ∷ token.Name stop ∷ token.Head word.SetWait ∷ token.Name halt ∷ token.NoName ∷ token.Due None ∷ [])
    ≡ record blank { head = word.SetWait; condition = If 3; object = halt }
unfolding said_by stop halt
asked_alone = refl

-- `times 3 try if stop submit job`, and the same with `try` behind the condition
job : Meaning
job = record { sort = sort.Work; local = false; number = 7 }

tried : said_by (token.Head word.Times ∷ token.Number 3 ∷ token.Head word.RepeatedTry ∷ token.Head word.TriedIf ∷ token.Name stop ∷ token.Head word.Submit ∷ token.Name job ∷ [])
    ≡ record blank { head = word.Submit; times = 3; condition = If 3; object = job; may_refuse = true }
unfolding said_by stop job
tried = refl

tried_behind : said_by (token.Head word.Times ∷ token.Number 3 ∷ token.Head word.If ∷ token.Name stop ∷ token.Head word.ConditionalTry ∷ token.Head word.Submit ∷ token.Name job ∷ [])
    ≡ record blank { head = word.Submit; times = 3; condition = If 3; object = job; may_refuse = true }
unfolding said_by stop job
tried_behind = refl

-- behind `use text` a section uses the memory until `drop text`, or until the next section begins
text : Meaning
text = record { sort = sort.Memory; local = false; number = 64 }

begun : State
begun = state_behind first_state (record blank { head = word.Client })

using : State
using = state_behind begun (said_by (token.Head word.Use ∷ token.Name text ∷ []))

used_here : (is_using begun 64 ≡ false) × (is_using using 64 ≡ true) × (is_using using 63 ≡ false) × (using.locals ≡ 0)
unfolding said_by text begun using
used_here = (refl, refl, refl, refl)

used_until : (is_using (state_behind using (said_by (token.Head word.Drop ∷ token.Name text ∷ []))) 64 ≡ false) × (is_using (state_behind using (record blank { head = word.Client })) 64 ≡ false)
unfolding said_by text begun using
used_until = (refl, refl)
