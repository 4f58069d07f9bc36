-- The calls of small parts that ask before they act, by computation alone.
use Rattle.std.proofs.Common.{◌≡◌, ℕ, List, [], ◌∷◌, Option, Some, None, true, false, map, refl}
use Rattle.tp_base.specs.declared.answers.Answer.{Answer}
use Rattle.tp_base.specs.declared.answers.Answer.TheVariants as answer
use Rattle.tp_base.specs.declared.answers.Refusal.TheVariants as refusal
use Rattle.tp_base.specs.declared.calls.Call.{Call}
use Rattle.tp_base.specs.declared.calls.Call.TheVariants as call
use Rattle.script_lines.specs.declared.line.Condition.{Condition}
use Rattle.script_lines.specs.declared.line.Condition.TheVariants.{If, Unless}
use Rattle.script_lines.specs.declared.line.Line.{Line}
use Rattle.script_lines.specs.declared.words.Sort.TheVariants as sort
use Rattle.script_lines.specs.declared.words.Word.{Word}
use Rattle.script_lines.specs.declared.words.Word.TheVariants as word
use Rattle.script_lines.specs.Lines.{blank}
use Rattle.tp_script.specs.declared.routines.Part.TheVariants.{Client}
use Rattle.tp_script.specs.Nexts.{next_call}

-- a client that makes an operation so often, of object 7 or kernel object 2, if it is told to
client_with : Condition → ℕ → Word → List Line
client_with condition times head =
    record blank { head = word.Client }
    ∷ record blank { head = head; condition = condition; times = times; object = record { sort = sort.Work; local = false; number = 7 }; kernel = record { sort = sort.Event; local = false; number = 2 } }
    ∷ record blank { head = word.Done }
    ∷ []

-- which call follows behind each of these lists of answers
follow : List Line → List (List Answer) → List (Option Call)
follow lines rows = map (next_call lines (Client 2)) rows

yes : Answer
yes = answer.Flag true

no : Answer
no = answer.Flag false

refused : Answer
refused = answer.Refused refusal.NotRunning

poll : Option Call
poll = Some (call.TryAcquire (record { 0 = 1 }))

submit : Option Call
submit = Some (call.SubmitWork (record { 0 = 7 }))

acquire : Option Call
acquire = Some (call.BeginAcquire (record { 0 = 2 }))

-- each time is asked for
asked_anew : follow (client_with (Unless 1) 3 word.Submit)
    ([]
    ∷ (no ∷ [])
    ∷ (no ∷ answer.Queued 1 1 ∷ [])
    ∷ (no ∷ answer.Queued 1 1 ∷ yes ∷ [])
    ∷ (no ∷ answer.Queued 1 1 ∷ yes ∷ no ∷ [])
    ∷ (no ∷ answer.Queued 1 1 ∷ yes ∷ no ∷ refused ∷ [])
    ∷ [])
    ≡ poll ∷ submit ∷ poll ∷ poll ∷ submit ∷ None ∷ []
unfolding client_with follow yes no refused poll submit
asked_anew = refl

-- the wait that is asked for is ended before the next poll
asked_wait : follow (client_with (If 1) 2 word.Acquire)
    ([]
    ∷ (no ∷ [])
    ∷ (yes ∷ [])
    ∷ (yes ∷ answer.Done ∷ [])
    ∷ (yes ∷ answer.Done ∷ answer.Ended ∷ [])
    ∷ (yes ∷ refused ∷ [])
    ∷ (no ∷ yes ∷ answer.Done ∷ answer.Stalled ∷ [])
    ∷ [])
    ≡ poll ∷ poll ∷ acquire ∷ Some call.End ∷ poll ∷ poll ∷ None ∷ []
unfolding client_with follow yes no refused poll acquire
asked_wait = refl

-- where the poll is refused nothing is made
poll_refused : follow (client_with (Unless 1) 1 word.Submit) ((refused ∷ []) ∷ []) ≡ None ∷ []
unfolding client_with follow refused
poll_refused = refl

if_refused : follow (client_with (If 1) 1 word.Submit) ((refused ∷ []) ∷ []) ≡ None ∷ []
unfolding client_with follow refused
if_refused = refl
