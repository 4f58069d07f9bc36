-- What is known at the places of a generated script, and how each of its lines leads from one to another.
use Rattle.std.proofs.Common.{◌≡◌, ℕ, zero, suc, ◌+◌, ◌<◌, ◌≤◌, true, false, List, [], ◌∷◌, ◌++◌, Bool, codes, decimal, ◌==◌, take, if◌then◌else◌, refl, arith}
use Rattle.std.specs.Fmt.{digits}
use Rattle.script_lines.specs.declared.line.Token.{Token}
use Rattle.script_lines.specs.declared.line.Token.TheVariants as token
use Rattle.script_lines.specs.declared.names.Named.{Named}
use Rattle.script_lines.specs.declared.state.Place.{Place}
use Rattle.script_lines.specs.declared.state.Place.TheVariants.{Declarations, Routines, Clients, InRoutine, InClient}
use Rattle.script_lines.specs.declared.words.Sort.{Sort}
use Rattle.script_lines.specs.declared.words.Sort.TheVariants as sort
use Rattle.script_lines.specs.declared.words.Word.TheVariants as word
use Rattle.script_lines.specs.Names.{Names}
use Rattle.script_lines.specs.States.{first_state, none_used}
use Rattle.script_lines.specs.Tokens.{IsNumberToken}
use Rattle.tp_base.specs.declared.calls.Kind.TheVariants as kind
use Rattle.tp_base.specs.declared.calls.Priority.{Priority}
use Rattle.tp_base.specs.declared.calls.Priority.TheVariants as priority
use Rattle.tp_lines.specs.Words.{text_of_priority}
use Rattle.tp_script.specs.Scripts.{words_of}
use Rattle.script_generator.specs.Scripts.{group_and_timer, pool_line, priority_word, routines, work_line}
use Rattle.script_generator.proofs.Points.{Leads, Point, joined, one_line}

-- ---- names

-- what a name of the whole script stands for
abbrev pub named : Sort → ℕ → Named
named of number = record { meaning = record { sort = of; local = false; number = number }; section = 0 }

abbrev pub routine_names : Names
routine_names = (codes "body", named sort.Routine 1) ∷ (codes "tick", named sort.Routine 2) ∷ (codes "gone", named sort.Routine 3) ∷ []

-- behind so many work objects
abbrev pub names_with : ℕ → Names
names_with zero = (codes "p", named sort.Pool 1) ∷ (codes "g", named sort.Group 1) ∷ (codes "t", named sort.Timer 1) ∷ []
names_with (suc number) = names_with number ++ (codes "w" ++ decimal (suc number), named sort.Work (suc (suc number))) ∷ []

-- ---- points

-- at such a place, with these names, so many objects, routines and clients, and the routines that were begun
abbrev pub point : Place → Names → ℕ → ℕ → ℕ → Names → Point
point place names objects made clients begun = record {
  known = record {
    names = names;
    routines = routine_names;
    state = record { place = place; pools = 1; groups = 1; objects = objects; kernels = 0; routines = made; memories = 0; clients = clients; locals = 0; section = made + clients; used = none_used };
  };
  begun = begun;
}

-- before the first line
abbrev pub start : Point
start = record { known = record { names = []; routines = routine_names; state = first_state }; begun = [] }

-- behind so many work objects
abbrev pub declared : ℕ → Point
declared works = point Declarations (names_with works) (suc works) 0 0 []

-- in a client, the last of so many
abbrev pub within : Names → ℕ → ℕ → Point
within names objects clients = point InClient names objects 3 clients routine_names

-- behind so many clients
abbrev pub behind : Names → ℕ → ℕ → Point
behind names objects zero = point Routines names objects 3 0 routine_names
behind names objects (suc clients) = point Clients names objects 3 (suc clients) routine_names

-- ---- the head

-- what a word says that is a number
pub number_token : (least most number : ℕ) (text : List ℕ) → least ≤ number → number ≤ most → text ≡ decimal number → IsNumberToken least most text (token.Number number)
number_token least most number text low high e = (number, refl, record { at_least = low; at_most = high; split = e })

after_pool : Point
after_pool = record { known = record { names = (codes "p", named sort.Pool 1) ∷ []; routines = routine_names; state = record first_state { pools = 1 } }; begun = [] }

after_group : Point
after_group = record {
  known = record { names = (codes "p", named sort.Pool 1) ∷ (codes "g", named sort.Group 1) ∷ []; routines = routine_names; state = record first_state { pools = 1; groups = 1 } };
  begun = [];
}

pool_leads : (draw : ℕ) → draw < 4 → Leads start after_pool (pool_line (1 + draw)) 20
unfolding digits after_pool
pool_leads (suc (suc (suc (suc draw)))) low = absurd (omega arith)
pool_leads draw low =
    one_line start after_pool (codes "pool p max " ++ (decimal (1 + draw) ++ codes " min 0")) (words_of (codes "pool p max " ++ (decimal (1 + draw) ++ codes " min 0")))
    (token.Head word.Pool ∷ token.Fresh 1 ∷ token.Word word.Maximum ∷ token.Number (1 + draw) ∷ token.Word word.Minimum ∷ token.Number 0 ∷ []) 20 refl refl refl
    (refl, (refl, (refl, (number_token 0 4294967295 (1 + draw) (decimal (1 + draw)) (omega arith) (omega arith) refl, (refl, (number_token 0 4294967295 0 (codes "0") (omega arith) (omega arith) refl, tt))))))
    refl refl refl (omega arith)

group_leads : Leads after_pool after_group (codes "group g\n") 8
unfolding after_pool after_group
group_leads =
    one_line after_pool after_group (codes "group g") (words_of (codes "group g")) (token.Head word.Group ∷ token.Fresh 1 ∷ []) 8 refl refl refl (refl, (refl, tt)) refl refl refl (omega arith)

timer_leads : Leads after_group (declared 0) (codes "timer t tick in p group g cancel gone\n") 38
unfolding after_group
timer_leads =
    one_line after_group (declared 0) (codes "timer t tick in p group g cancel gone") (words_of (codes "timer t tick in p group g cancel gone"))
    (token.Head (word.Object kind.Timer) ∷ token.Fresh 1 ∷ token.Routine 2 ∷ token.Word word.In ∷ token.Name (named sort.Pool 1).meaning ∷ token.Word word.InGroup ∷ token.Name (named sort.Group 1).meaning ∷ token.Word word.CancelBy ∷ token.Routine 3 ∷ [])
    38 refl refl refl (refl, (refl, (refl, (refl, (refl, (refl, (refl, (refl, (refl, tt))))))))) refl refl refl (omega arith)

-- ---- work objects

abbrev work_said : ℕ → Priority → List Token
work_said works of =
    token.Head (word.Object kind.Work) ∷ token.Fresh (suc (suc works)) ∷ token.Routine 1 ∷ token.Word word.In ∷ token.Name (named sort.Pool 1).meaning ∷ token.Word word.OfPriority ∷ token.Word (word.Priority of)
    ∷ token.Word word.InGroup ∷ token.Name (named sort.Group 1).meaning ∷ token.Word word.CancelBy ∷ token.Routine 3 ∷ []

-- the next one, of any priority
work_of : (works : ℕ) (of : Priority) → works < 8 → Leads (declared works) (declared (suc works)) (work_line (suc works) (text_of_priority of)) 60
unfolding digits
work_of (suc (suc (suc (suc (suc (suc (suc (suc works)))))))) of low = absurd (omega arith)
work_of works priority.High low =
    let front : List ℕ = codes "work w" ++ (decimal (suc works) ++ codes " body in p priority high group g cancel gone") in
    one_line (declared works) (declared (suc works)) front (words_of front) (work_said works priority.High) 60 refl refl refl
    (refl, (refl, (refl, (refl, (refl, (refl, (refl, (refl, (refl, (refl, (refl, tt))))))))))) refl refl refl (omega arith)
work_of works of low =
    let front : List ℕ = codes "work w" ++ (decimal (suc works) ++ (codes " body in p priority " ++ (text_of_priority of ++ codes " group g cancel gone"))) in
    one_line (declared works) (declared (suc works)) front (words_of front) (work_said works of) 60 refl refl refl
    (refl, (refl, (refl, (refl, (refl, (refl, (refl, (refl, (refl, (refl, (refl, tt))))))))))) refl refl refl (omega arith)

pub work_leads : (works draw : ℕ) → works < 8 → Leads (declared works) (declared (suc works)) (work_line (suc works) (priority_word draw)) 60
work_leads works draw low = by (draw == 0) (draw == 1)
  where
    by : (first second : Bool) → Leads (declared works) (declared (suc works)) (work_line (suc works) (if first then codes "high" else (if second then codes "normal" else codes "low"))) 60
    by true second = work_of works priority.High low
    by false true = work_of works priority.Normal low
    by false false = work_of works priority.Low low

-- ---- routines

-- in front of a routine, in it and behind it
abbrev at_routine : Place → ℕ → ℕ → Point
at_routine place works made = point place (names_with works ++ take made routine_names) (suc works) made 0 (take made routine_names)

place_before : ℕ → Place
place_before zero = Declarations
place_before (suc made) = Routines

routine_name : ℕ → List ℕ
routine_name zero = codes "body"
routine_name (suc zero) = codes "tick"
routine_name (suc (suc made)) = codes "gone"

routine_opens : (made more : ℕ) → made < 3 → more < 5 → Leads (at_routine (place_before made) (4 + more) made) (at_routine InRoutine (4 + more) (suc made)) ((codes "routine " ++ routine_name made) ++ 10 ∷ []) 13
unfolding digits place_before routine_name
routine_opens (suc (suc (suc made))) more few low = absurd (omega arith)
routine_opens made (suc (suc (suc (suc (suc more))))) few low = absurd (omega arith)
routine_opens made more few low =
    let front : List ℕ = codes "routine " ++ routine_name made in
    one_line (at_routine (place_before made) (4 + more) made) (at_routine InRoutine (4 + more) (suc made)) front (words_of front) (token.Head word.Routine ∷ token.Fresh (suc made) ∷ []) 13 refl refl refl
    (refl, (refl, tt)) refl refl refl (omega arith)

routine_closes : (works made : ℕ) → Leads (at_routine InRoutine works made) (at_routine Routines works made) (codes "done\n") 5
routine_closes works made =
    one_line (at_routine InRoutine works made) (at_routine Routines works made) (codes "done") (words_of (codes "done")) (token.Head word.Done ∷ []) 5 refl refl refl (refl, tt) refl refl refl (omega arith)

pub routines_lead : (more : ℕ) → more < 5 → Leads (declared (4 + more)) (behind (names_with (4 + more) ++ routine_names) (5 + more) 0) routines 60
unfolding digits place_before routine_name
routines_lead (suc (suc (suc (suc (suc more))))) low = absurd (omega arith)
routines_lead more low =
    let works : ℕ = 4 + more in
    joined (declared works) (at_routine Routines works 1) (at_routine Routines works 3) (codes "routine body\ndone\n") (codes "routine tick\ndone\nroutine gone\ndone\n") 18 36 60
    (joined (declared works) (at_routine InRoutine works 1) (at_routine Routines works 1) (codes "routine body\n") (codes "done\n") 13 5 18 (routine_opens 0 more (omega arith) low) (routine_closes works 1) (omega arith))
    (joined (at_routine Routines works 1) (at_routine Routines works 2) (at_routine Routines works 3) (codes "routine tick\ndone\n") (codes "routine gone\ndone\n") 18 18 36
    (joined (at_routine Routines works 1) (at_routine InRoutine works 2) (at_routine Routines works 2) (codes "routine tick\n") (codes "done\n") 13 5 18 (routine_opens 1 more (omega arith) low) (routine_closes works 2) (omega arith))
    (joined (at_routine Routines works 2) (at_routine InRoutine works 3) (at_routine Routines works 3) (codes "routine gone\n") (codes "done\n") 13 5 18 (routine_opens 2 more (omega arith) low) (routine_closes works 3) (omega arith))
    (omega arith))
    (omega arith)

pub head_leads : (draw : ℕ) → draw < 4 → Leads start (declared 0) (pool_line (1 + draw) ++ group_and_timer) 70
unfolding after_pool after_group
head_leads draw low =
    joined start after_pool (declared 0) (pool_line (1 + draw)) group_and_timer 20 50 70 (pool_leads draw low)
    (joined after_pool after_group (declared 0) (codes "group g\n") (codes "timer t tick in p group g cancel gone\n") 8 38 50 group_leads timer_leads (omega arith)) (omega arith)
