-- The script that stands for a number: what is drawn, and what is written with it.
use Rattle.std.specs.Prelude.{ℕ, zero, suc, ◌+◌, ◌*◌, ◌/◌, ◌%◌, ◌^◌, ◌==◌, List, [], ◌++◌, codes, decimal, if◌then◌else◌, nat_lt}

-- the state of the generator, and what is written so far
pub record Generated : Type 0 where
  pub state : ℕ
  pub text : List ℕ

-- ---- draws

-- the state behind one more draw
abbrev pub drawn : ℕ → ℕ
drawn state = (6364136223846793005 * state + 1442695040888963407) % 2 ^ 64

-- what a draw below a number gives, by the state behind it
abbrev pub draw_of : ℕ → ℕ → ℕ
draw_of state below = (state / 2 ^ 33) % below

-- ---- texts

abbrev pub with_text : List ℕ → Generated → Generated
with_text text g = record g { text = g.text ++ text }

abbrev pub pool_line : ℕ → List ℕ
pool_line most = codes "pool p max " ++ (decimal most ++ codes " min 0\n")

abbrev pub group_and_timer : List ℕ
group_and_timer = codes "group g\ntimer t tick in p group g cancel gone\n"

abbrev pub priority_word : ℕ → List ℕ
priority_word draw = if draw == 0 then codes "high" else (if draw == 1 then codes "normal" else codes "low")

abbrev pub work_line : ℕ → List ℕ → List ℕ
work_line number priority = codes "work w" ++ (decimal number ++ (codes " body in p priority " ++ (priority ++ codes " group g cancel gone\n")))

abbrev pub routines : List ℕ
routines = codes "routine body\ndone\nroutine tick\ndone\nroutine gone\ndone\n"

-- a client's line, by a draw below 8, and the number of a work object or of units of time
abbrev pub client_line : ℕ → ℕ → List ℕ
client_line kind number =
    if nat_lt kind 5 then codes "submit w" ++ (decimal number ++ codes "\n")
    else (if kind == 5 then codes "wait w" ++ (decimal number ++ codes " keep\n")
    else (if kind == 6 then codes "wait w" ++ (decimal number ++ codes " cancel\n")
    else codes "advance " ++ (decimal number ++ codes "\n")))

abbrev pub last_client : ℕ → List ℕ
last_client length = codes "client\nset-timer t -500 1 0\ntimes " ++ (decimal length ++ codes " advance 1\nclose-members g cancel 7\ndone\n")

-- ---- the parts of a script

-- the pool, whose maximum is from 1 to 4, the group and the timer
abbrev pub with_head : Generated → Generated
with_head g = let state = drawn g.state in
    with_text group_and_timer (with_text (pool_line (1 + draw_of state 4)) (record g { state = state }))

-- one more work object, of one of the three priorities
abbrev pub with_work : ℕ → Generated → Generated
with_work number g = let state = drawn g.state in
    with_text (work_line number (priority_word (draw_of state 3))) (record g { state = state })

-- the work objects from 1 up to this number
abbrev pub with_works : ℕ → Generated → Generated
with_works zero g = g
with_works (suc number) g = with_work (suc number) (with_works number g)

-- what the number of a client's line is drawn below: the number of work objects, or 1,000 for units of time
abbrev pub most_of : ℕ → ℕ → ℕ
most_of works kind = if nat_lt kind 7 then works else 1000

abbrev pub with_line : ℕ → Generated → Generated
with_line works g =
    let first = drawn g.state in
    let kind = draw_of first 8 in
    let second = drawn first in
    with_text (client_line kind (1 + draw_of second (most_of works kind))) (record g { state = second })

-- so many lines of a client
abbrev pub with_lines : ℕ → ℕ → Generated → Generated
with_lines works zero g = g
with_lines works (suc length) g = with_line works (with_lines works length g)

abbrev pub with_client : ℕ → ℕ → Generated → Generated
with_client works length g = with_text (codes "done\n") (with_lines works length (with_text (codes "client\n") g))

abbrev pub with_clients : ℕ → ℕ → ℕ → Generated → Generated
with_clients works length zero g = g
with_clients works length (suc clients) g = with_client works length (with_clients works length clients g)

-- from 4 to 8 work objects, the routines, three clients, and a fourth one that closes the group
abbrev pub with_body : ℕ → Generated → Generated
with_body length g =
    let state = drawn g.state in
    let works = 4 + draw_of state 5 in
    with_text (last_client length) (with_clients works length 3 (with_text routines (with_works works (record g { state = state }))))

-- the script of a number, whose clients have so many lines
unfoldable pub generated : ℕ → ℕ → List ℕ
generated number length = (with_body length (with_head (record { state = number; text = [] }))).text
