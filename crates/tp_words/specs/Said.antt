-- What words say: which text stands where.
use Rattle.std.specs.Prelude.{Bool, true, false, not, ◌&&◌, List, [], ◌∷◌, ◌++◌, codes, Option, Some, None, option_map, option_and_then, find, if◌then◌else◌}
use Rattle.std.specs.List.{list_any}
use Rattle.std.specs.Option.{option_map_or}
use Rattle.std.specs.Str.{bytes_eq}
use Rattle.clap.specs.Lexer.{long_of, short_of}
use Rattle.clap.specs.Words.{Text}
use Rattle.tp_words.specs.declared.reading.Texts.{Texts}

pub record Said : Type 0 where
  pub command : Option Text
  pub number : Option Text
  pub threads : Option Text
  pub seed : Option Text
  pub workers : Option Text
  pub events : Option Text
  pub states : Option Text
  pub json : Bool
  pub each : Bool

abbrev pub said_in : Texts → Said
said_in texts = record {
  command = option_map (λ text. text.now) texts.command;
  number = option_map (λ text. text.now) texts.number;
  threads = option_map (λ text. text.now) texts.threads;
  seed = option_map (λ text. text.now) texts.seed;
  workers = option_map (λ text. text.now) texts.workers;
  events = option_map (λ text. text.now) texts.events;
  states = option_map (λ text. text.now) texts.states;
  json = texts.json;
  each = texts.each;
}

-- ---- the uses that words make of names

-- a name with its text: of the command, of the number behind it, of an option with its value, or of a flag, whose text is `true`
abbrev pub Use : Type 0
Use = Text × Text

-- where reading stands between two words: whether `--` was there, behind which each word stands alone; the option whose value is
-- the next word; and the names of the words that stand alone and are still to come
pub record Reading : Type 0 where
  pub closed : Bool
  pub awaited : Option Text
  pub alone : List Text

abbrev pub start : Reading
start = record { closed = false; awaited = None; alone = codes "command" ∷ codes "number" ∷ [] }

-- the uses that one word makes, one at most, and where reading stands behind it
abbrev pub Word : Type 0
Word = List Use × Reading

-- the options with a value
abbrev pub options : List Text
options = codes "threads" ∷ codes "seed" ∷ codes "workers" ∷ codes "events" ∷ codes "states" ∷ []

-- those without one
abbrev pub flags : List Text
flags = codes "json" ∷ codes "each" ∷ []

-- the one of them that is so named
abbrev pub named : List Text → Text → Option Text
named names name = find (λ one. bytes_eq one name) names

-- nothing is said where an option waits for its value
abbrev pub unawaited : {X : Type 0} → Option Text → Option X → Option X
unawaited None found = found
unawaited (Some name) found = None

-- a word that stands alone
abbrev pub alone_said : List Text → Text → Reading → Option Word
alone_said [] word reading = None
alone_said (name ∷ names) word reading = Some ((name, word) ∷ [], record reading { alone = names })

-- a word that is no option is the value of the one that waits
abbrev pub plain_said : Option Text → Text → Reading → Option Word
plain_said None word reading = alone_said reading.alone word reading
plain_said (Some name) word reading = Some ((name, word) ∷ [], record reading { awaited = None })

-- there is no option of one letter
abbrev pub short_said : Option Text → Text → Reading → Option Word
short_said (Some letters) word reading = None
short_said None word reading = plain_said reading.awaited word reading

abbrev pub value_said : Text → Option Text → Reading → Option Word
value_said name (Some value) reading = Some ((name, value) ∷ [], reading)
value_said name None reading = Some ([], record reading { awaited = Some name })

-- a flag has no value
abbrev pub flag_said : Option Text → Option Text → Reading → Option Word
flag_said (Some name) None reading = Some ((name, codes "true") ∷ [], reading)
flag_said (Some name) (Some value) reading = None
flag_said None value reading = None

abbrev pub option_said : Option Text → Option Text → Option Text → Reading → Option Word
option_said (Some name) flag value reading = value_said name value reading
option_said None flag value reading = flag_said flag value reading

-- `--name` and `--name=value`, as a name and a value
abbrev pub long_said : Option (Text × Option Text) → Text → Reading → Option Word
long_said (Some long) word reading = unawaited reading.awaited (option_said (named options long.0) (named flags long.0) long.1 reading)
long_said None word reading = short_said (short_of word) word reading

abbrev pub word_said : Text → Reading → Option Word
word_said word reading =
    if reading.closed then alone_said reading.alone word reading
    else if bytes_eq word (codes "--") then unawaited reading.awaited (Some ([], record reading { closed = true }))
    else long_said (long_of word) word reading

abbrev pub uses_in : Reading → List Text → Option (List Use)
uses_in reading [] = unawaited reading.awaited (Some [])
uses_in reading (word ∷ words) = option_and_then (λ said. option_map (λ uses. said.0 ++ uses) (uses_in said.1 words)) (word_said word reading)

-- ---- what they come to

abbrev pub is_used : Text → List Use → Bool
is_used name uses = list_any (λ entry. bytes_eq name entry.0) uses

-- no name is used twice
abbrev pub is_once : List Use → Bool
is_once [] = true
is_once (entry ∷ uses) = not (is_used entry.0 uses) && is_once uses

abbrev pub text_of : Text → List Use → Option Text
text_of name uses = option_map (λ entry. entry.1) (find (λ entry. bytes_eq entry.0 name) uses)

abbrev pub is_true : Option Text → Bool
is_true text = option_map_or (λ t. bytes_eq t (codes "true")) text false

abbrev pub said_by : List Use → Said
said_by uses = record {
  command = text_of (codes "command") uses;
  number = text_of (codes "number") uses;
  threads = text_of (codes "threads") uses;
  seed = text_of (codes "seed") uses;
  workers = text_of (codes "workers") uses;
  events = text_of (codes "events") uses;
  states = text_of (codes "states") uses;
  json = is_true (text_of (codes "json") uses);
  each = is_true (text_of (codes "each") uses);
}

-- what the words say, or none where they say nothing
abbrev pub said : List Text → Option Said
said words = option_and_then (λ uses. if is_once uses then Some (said_by uses) else None) (uses_in start words)
