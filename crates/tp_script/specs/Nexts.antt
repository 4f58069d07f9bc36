-- The calls of a script's parts, one after another.
use Rattle.std.specs.Prelude.{ℕ, ◌+◌, ◌-◌, Bool, true, false, List, [], ◌∷◌, ◌++◌, Option, Some, None, fold, length, nat_eq, nat_le, nat_lt, not, option_and_then, replicate, slice_get, slice_set, ◌&&◌, if◌then◌else◌}
use Rattle.tp_base.specs.declared.answers.Answer.{Answer}
use Rattle.tp_base.specs.declared.answers.Answer.TheVariants as answer
use Rattle.tp_base.specs.declared.calls.Call.{Call}
use Rattle.tp_base.specs.declared.calls.Call.TheVariants as call
use Rattle.script_lines.specs.declared.line.Line.{Line}
use Rattle.script_lines.specs.declared.words.Word.{Word}
use Rattle.script_lines.specs.declared.words.Word.TheVariants as word
use Rattle.tp_script.specs.declared.routines.Part.{Part}
use Rattle.tp_script.specs.declared.routines.Part.TheVariants.{Client, Routine}
use Rattle.tp_script.specs.declared.routines.Progress.{Progress}
use Rattle.tp_script.specs.declared.script.Opening.{Opening}
use Rattle.tp_script.specs.declared.script.Opening.TheVariants as opening
use Rattle.tp_script.specs.Calls.{acts, begins_wait, call_of, calls_in, is_asked, is_met, poll_by}

-- whether a part of the script begins with such a line
abbrev pub opens : Opening → Word → Bool
opens opening.Client word.Client = true
opens opening.Routine word.Routine = true
opens _ _ = false

-- the places behind the lines that begin such a part, in order; the first line is at this place
abbrev pub places_behind : Opening → ℕ → List Line → List ℕ
places_behind opened at [] = []
places_behind opened at (line ∷ lines) = (if opens opened line.head then (at + 1) ∷ [] else []) ++ places_behind opened (at + 1) lines

-- where the clients and the routines begin: client 1 makes the declarations
abbrev pub client_places : List Line → List ℕ
client_places lines = 0 ∷ places_behind opening.Client 0 lines

abbrev pub routine_places : List Line → List ℕ
routine_places lines = places_behind opening.Routine 0 lines

-- the place with this number, counted from 1
abbrev pub numbered_place : List ℕ → ℕ → Option ℕ
numbered_place places number = if nat_eq number 0 then None else slice_get places (number - 1)

abbrev pub place_of : List Line → Part → Option ℕ
place_of lines (Client number) = numbered_place (client_places lines) number
place_of lines (Routine routine) = numbered_place (routine_places lines) routine.0

abbrev pub acting : Line → Option Line
acting line = if acts line.head then Some line else None

-- the line of a part that is so many lines behind its first, up to one that makes no call
abbrev pub line_at : List Line → Part → ℕ → Option Line
line_at lines part op = option_and_then (λ place. option_and_then acting (slice_get lines (place + op))) (place_of lines part)

-- whether the poll of the line's condition comes next: it comes before each time that the operation is made
abbrev pub polls : Line → Progress → Bool
polls line at = is_asked line.condition && not at.met

-- the call that follows: that poll, the end of a wait that was begun, or the next call of the line
abbrev pub call_at : Line → Progress → Option Call
call_at line at = if polls line at then poll_by line.condition else (if at.ending then Some call.End else call_of line at)

abbrev pub next_at : List Line → Part → Progress → Option Call
next_at lines part at = option_and_then (λ line. call_at line at) (line_at lines part at.op)

-- whether the answer ends a wait
abbrev pub is_end : Answer → Bool
is_end answer.Ended = true
is_end answer.Exhausted = true
is_end answer.Stalled = true
is_end _ = false

abbrev pub is_refusal : Answer → Bool
is_refusal (answer.Refused refusal) = true
is_refusal _ = false

-- what the name of an object that is made by the call stands for, or 0 where it was refused
abbrev pub made_in : Answer → ℕ
made_in (answer.Made number) = number
made_in _ = 0

-- what the name of an operation that is issued by the call stands for, or 0 where it was refused
abbrev pub operation_in : Answer → ℕ
operation_in (answer.Operation callback) = callback
operation_in _ = 0

-- what local names stand for, with one more
abbrev pub with_local : List ℕ → ℕ → ℕ → List ℕ
with_local names made number = if nat_le 1 made && nat_le made 32 then slice_set names (made - 1) number else names

-- the local name that a line makes is that of an object or that of an operation
abbrev pub noted_by : ℕ → Progress → Answer → Word → Progress
noted_by made at answer word.Let = record at { locals = with_local at.locals made (made_in answer) }
noted_by made at answer word.IssueIo = record at { operations = with_local at.operations made (operation_in answer) }
noted_by made at answer _ = at

abbrev pub noted : Line → Progress → Answer → Progress
noted line at answer = noted_by line.made at answer line.head

-- behind one call of a line, which it makes so often; before the next one its condition is asked anew
abbrev pub stepped : ℕ → Progress → Progress
stepped calls at = if nat_lt (at.done + 1) calls then record at { done = at.done + 1; met = false } else record at { op = at.op + 1; done = 0; met = false }

-- behind the poll: the operation is made, or this time it isn't
abbrev pub polled : Line → Progress → Answer → Progress
polled line at answer = if is_met line.condition answer then record at { met = true } else stepped (calls_in line) at

-- behind a call that begins a wait, and behind each end that was looked for
abbrev pub waited : ℕ → Progress → Answer → Progress
waited calls at answer =
    if at.ending
    then (if is_end answer then stepped calls (record at { ending = false }) else at)
    else (if is_refusal answer then stepped calls at else record at { ending = true })

abbrev pub line_after : Line → Progress → Answer → Progress
line_after line at answer =
    if polls line at
    then polled line at answer
    else (if begins_wait line.head then waited (calls_in line) at answer else stepped (calls_in line) (noted line at answer))

abbrev pub after_at : Option Line → Progress → Answer → Progress
after_at None at answer = at
after_at (Some line) at answer = line_after line at answer

-- behind the answer to the call that follows; where none follows, nothing comes behind
abbrev pub progress_after : List Line → Part → Progress → Answer → Progress
progress_after lines part at answer = after_at (line_at lines part at.op) at answer

-- where a part begins
abbrev pub first_progress : Progress
first_progress = record { op = 0; done = 0; met = false; ending = false; locals = replicate 32 0; operations = replicate 32 0 }

-- the call of a part that follows after its calls had these answers, or none
abbrev pub next_call : List Line → Part → List Answer → Option Call
next_call lines part answers = next_at lines part (fold (progress_after lines part) first_progress answers)

-- how many clients a script has, the one that makes the declarations among them
abbrev pub clients_of : List Line → ℕ
clients_of lines = length (client_places lines)
