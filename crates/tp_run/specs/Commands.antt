-- Which lists of words are a command.
use Rattle.std.specs.Prelude.{ℕ, Bool, true, false, ◌&&◌, ◌==◌, not, List, codes, is_some, nat_le, if◌then◌else◌, None, Some, Option, option_and_then, option_map}
use Rattle.std.specs.Str.{bytes_eq}
use Rattle.tp_report.specs.declared.headers.TheConstants.{EVENT_LIMIT}
use Rattle.tp_report.specs.declared.playing.MachineSize.{MachineSize}
use Rattle.tp_run.specs.Numbers.{number_in}
use Rattle.tp_run.specs.declared.command.Command.{Command}
use Rattle.tp_run.specs.declared.command.Command.TheVariants.{Trace, History, Libraries, Legacy, Windows, Check, Migrate, Port, Gen, Run, Explore, Big}
use Rattle.tp_run.specs.declared.command.Name.{Name}
use Rattle.tp_run.specs.declared.command.Name.TheVariants as name
use Rattle.tp_words.specs.Said.{said, Said}

-- the command that a word names
abbrev pub name_in : List ℕ → Option Name
name_in word =
    if bytes_eq word (codes "trace") then Some name.Trace
    else if bytes_eq word (codes "history") then Some name.History
    else if bytes_eq word (codes "libraries") then Some name.Libraries
    else if bytes_eq word (codes "legacy") then Some name.Legacy
    else if bytes_eq word (codes "windows") then Some name.Windows
    else if bytes_eq word (codes "check") then Some name.Check
    else if bytes_eq word (codes "migrate") then Some name.Migrate
    else if bytes_eq word (codes "port") then Some name.Port
    else if bytes_eq word (codes "gen") then Some name.Gen
    else if bytes_eq word (codes "run") then Some name.Run
    else if bytes_eq word (codes "explore") then Some name.Explore
    else if bytes_eq word (codes "big") then Some name.Big
    else None

-- ---- values of options

-- a value is a number in its range, and something stands for none
abbrev pub bounded : ℕ → ℕ → ℕ → Option (List ℕ) → Option ℕ
bounded least most usual None = Some usual
bounded least most usual (Some text) = option_and_then (λ value. if nat_le least value && nat_le value most then Some value else None) (number_in text)

-- a seed is any number, or there is none
abbrev pub seed_in : Option (List ℕ) → Option (Option ℕ)
seed_in None = Some None
seed_in (Some text) = option_map (λ seed. Some seed) (number_in text)

-- a seed is for a run on one thread
abbrev pub is_run : Name → Bool
is_run name.Run = true
is_run _ = false

abbrev pub is_seed_for_nothing : Name → ℕ → Option ℕ → Bool
is_seed_for_nothing name threads seed = is_some seed && not (is_run name && (threads == 1))

-- ---- commands

-- behind `gen` and `big` a number has to stand, and behind the others none
abbrev pub without_number : Option (List ℕ) → Command → Option Command
without_number None command = Some command
without_number (Some text) command = None

abbrev pub with_number : Option (List ℕ) → (ℕ → Command) → Option Command
with_number text command = option_map command (option_and_then number_in text)

-- the command of a name, with so many threads, the seed if there is one, a machine of this size, so many states, and of what was
-- said the flags and the text behind the name
abbrev pub command_named : Name → ℕ → Option ℕ → MachineSize → ℕ → Said → Option Command
command_named name.Trace threads seed machine states said = without_number said.number (Trace machine)
command_named name.History threads seed machine states said = without_number said.number (History machine)
command_named name.Libraries threads seed machine states said = without_number said.number (Libraries machine)
command_named name.Legacy threads seed machine states said = without_number said.number (Legacy machine)
command_named name.Windows threads seed machine states said = without_number said.number (Windows machine)
command_named name.Check threads seed machine states said = without_number said.number Check
command_named name.Migrate threads seed machine states said = without_number said.number Migrate
command_named name.Port threads seed machine states said = without_number said.number Port
command_named name.Gen threads seed machine states said = with_number said.number (λ n. Gen n)
command_named name.Run threads seed machine states said = without_number said.number (Run threads seed machine said.json)
command_named name.Explore threads seed machine states said = without_number said.number (Explore machine.workers states said.each)
command_named name.Big threads seed machine states said = with_number said.number (λ n. Big n machine said.json)

-- each value is in its range, and no seed is for nothing
abbrev pub command_said : Said → Option Command
command_said said =
    option_and_then (λ threads.
    option_and_then (λ workers.
    option_and_then (λ events.
    option_and_then (λ states.
    option_and_then (λ seed.
    option_and_then (λ name. if is_seed_for_nothing name threads seed then None else command_named name threads seed (record { workers = workers; events = events }) states said)
    (option_and_then name_in said.command))
    (seed_in said.seed))
    (bounded 1 16777216 1000000 said.states))
    (bounded 16 EVENT_LIMIT 65536 said.events))
    (bounded 1 64 4 said.workers))
    (bounded 1 16 1 said.threads)

-- the command that the words are, if they are one
abbrev pub command_of : List (List ℕ) → Option Command
command_of words = option_and_then command_said (said words)
