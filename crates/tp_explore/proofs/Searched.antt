-- What a search of the boards of a script answers.
use Rattle.std.proofs.Common.{◌≡◌, ℕ, List}
use Rattle.breadth_first.specs.Answers.{Answers, GivesUpFor}
use Rattle.breadth_first.specs.declared.Answer.{Answer}
use Rattle.tp_base.specs.declared.limits.Limits.{Limits}
use Rattle.tp_script.specs.Parsed.{Parsed}
use Rattle.tp_explore.specs.Closing.{rules_of_closed}
use Rattle.tp_explore.specs.Exchanging.{key_in_order}
use Rattle.tp_explore.specs.declared.fault.Fault.{Fault}
use Rattle.tp_explore.specs.Scripts.{watched_but}

pub answers_alike : (script script2 : Parsed) (passed passed2 : List Fault) (limits limits2 : Limits) (told : Answer) → script2 ≡ script → passed2 ≡ passed → limits2 ≡ limits → Answers (rules_of_closed (watched_but passed2 script2) limits2 (key_in_order limits2)) told
    → Answers (rules_of_closed (watched_but passed script) limits (key_in_order limits)) told
answers_alike script script2 passed passed2 limits limits2 told e1 e2 e3 is = rw (e1, e2, e3) at is

pub gives_up_alike : (script script2 : Parsed) (passed passed2 : List Fault) (limits limits2 : Limits) (most deepest : ℕ) (told : Answer) → script2 ≡ script → passed2 ≡ passed → limits2 ≡ limits
    → GivesUpFor (rules_of_closed (watched_but passed2 script2) limits2 (key_in_order limits2)) most deepest told → GivesUpFor (rules_of_closed (watched_but passed script) limits (key_in_order limits)) most deepest told
gives_up_alike script script2 passed passed2 limits limits2 most deepest told e1 e2 e3 is = rw (e1, e2, e3) at is
