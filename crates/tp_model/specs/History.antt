-- Histories: which are legal, and which outcomes a list of calls has.
use Rattle.std.specs.Prelude.{◌≡◌, ℕ, ◌+◌, ◌-◌, Bool, true, false, List, [], ◌∷◌, if◌then◌else◌, Option, None, Some}
use Rattle.tp_base.specs.declared.ids.Who.{Who}
use Rattle.tp_base.specs.declared.calls.Call.{Call}
use Rattle.tp_base.specs.declared.answers.Answer.{Answer}
use Rattle.tp_base.specs.declared.answers.Answer.TheVariants.{Refused, Ended, Exhausted, Stalled, Notice}
use Rattle.tp_base.specs.declared.answers.Entry.{Entry}
use Rattle.tp_base.specs.declared.answers.Outcome.{Outcome}
use Rattle.tp_base.specs.declared.answers.Outcome.TheVariants.{Done}
use Rattle.tp_base.specs.declared.limits.Limits.{Limits}
use Rattle.tp_base.specs.declared.calls.Call.TheVariants.{End}
use Rattle.tp_base.specs.declared.plans.WaitEnd.TheVariants as how
use Rattle.tp_base.specs.declared.plans.Change.{Change}
use Rattle.tp_base.specs.declared.plans.Change.TheVariants.{EndWait, GiveNotice}
use Rattle.tp_base.specs.declared.plans.Plan.{Plan}
use Rattle.tp_base.specs.declared.plans.Plan.TheVariants.{Does}
use Rattle.tp_model.specs.World.{World, opening}
use Rattle.tp_model.specs.Changes.{changed}
use Rattle.tp_model.specs.Counts.{owed}
use Rattle.tp_model.specs.Step.{outcome_of, world_after, entries_of}
use Rattle.tp_model.specs.Table.{plan, step}

-- what a history of a capacity with so many entries has left, less what the world owes it
abbrev pub room : ℕ → World → ℕ → ℕ
room capacity w entries = (capacity - entries) - owed w

abbrev pub is_refusal : Answer → Bool
is_refusal (Refused refusal) = true
is_refusal _ = false

abbrev pub change_of : Plan → Option Change
change_of (Does answer change) = Some change
change_of _ = None

-- what an answer of End says: that the wait ended and how, or that it gave a notice
abbrev pub wait_end : Who → Answer → Option Change
wait_end who Ended = Some (EndWait who how.Free)
wait_end who Exhausted = Some (EndWait who how.Exhausted)
wait_end who Stalled = Some (EndWait who how.Stalled)
wait_end who (Notice object routine context cleanup) = Some (GiveNotice who)
wait_end who _ = None

-- the change that an accepted entry tells. It needs no room: End alone asks for it, and its answer says what it did
abbrev pub change_told : World → Who → Call → Answer → Option Change
change_told w who End answer = wait_end who answer
change_told w who call answer = change_of (plan w 0 who call)

abbrev pub led_by : World → Option Change → World
led_by w None = w
led_by w (Some change) = changed w change

-- the world that an entry leads to
abbrev pub led_to : World → Entry → World
led_to w entry = if is_refusal entry.answer then w else led_by w (change_told w entry.who entry.call entry.answer)

abbrev pub after_from : World → List Entry → World
after_from w [] = w
after_from w (entry ∷ entries) = after_from (led_to w entry) entries

-- the world after a history
abbrev pub after : Limits → List Entry → World
after limits history = after_from (opening limits) history

-- each entry's answer is the machine's at its place
abbrev pub IsLegalFrom : World → ℕ → ℕ → List Entry → Type 0
IsLegalFrom w capacity entries [] = Unit {0}
IsLegalFrom w capacity entries (entry ∷ rest) =
    (outcome_of (step w (room capacity w entries) entry.who entry.call) ≡ Done entry.answer)
    × IsLegalFrom (led_to w entry) capacity (entries + 1) rest

abbrev pub IsLegal : Limits → ℕ → List Entry → Type 0
IsLegal limits capacity history = IsLegalFrom (opening limits) capacity 0 history

-- the outcomes of calls that are made one after another; accepted and refused ones become entries
abbrev pub play_from : World → ℕ → ℕ → List (Who × Call) → List Outcome
play_from w capacity entries [] = []
play_from w capacity entries (made ∷ rest) =
    let came = step w (room capacity w entries) made.0 made.1 in
    outcome_of came ∷ play_from (world_after w came) capacity (entries + entries_of came) rest

abbrev pub play : Limits → ℕ → List (Who × Call) → List Outcome
play limits capacity calls = play_from (opening limits) capacity 0 calls
