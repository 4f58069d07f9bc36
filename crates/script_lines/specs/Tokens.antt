-- What a word says in its field, and why it may not stand there.
use Rattle.std.specs.Prelude.{◌≡◌, ℕ, ℤ, ◌+◌, Bool, true, false, List, Option, Some, None, bytes_eq, codes, find, is_some, not, option_and_then, option_map, nat_le, nat_lt, ◌&&◌, if◌then◌else◌}
use Rattle.std.specs.Map.{lookup}
use Rattle.line_grammar.specs.Numbers.{Numbers, Signed}
use Rattle.line_grammar.specs.Words.{Optional}
use Rattle.script_lines.specs.declared.judge.Known.{Known}
use Rattle.script_lines.specs.declared.fault.ScriptKind.{ScriptKind}
use Rattle.script_lines.specs.declared.fault.ScriptKind.TheVariants.{Unexpected, UnknownName, NameTwice, WrongName, TooMany}
use Rattle.script_lines.specs.declared.line.Form.{Form}
use Rattle.script_lines.specs.declared.line.Form.TheVariants as form
use Rattle.script_lines.specs.declared.line.Line.{Line}
use Rattle.script_lines.specs.declared.line.Meaning.{Meaning}
use Rattle.script_lines.specs.declared.line.Token.{Token}
use Rattle.script_lines.specs.declared.line.Token.TheVariants as token
use Rattle.script_lines.specs.declared.state.Place.{Place}
use Rattle.script_lines.specs.declared.state.State.{State}
use Rattle.script_lines.specs.declared.words.Class.{Class}
use Rattle.script_lines.specs.declared.words.Class.TheVariants as class
use Rattle.script_lines.specs.declared.words.Field.{Field}
use Rattle.script_lines.specs.declared.words.Field.TheVariants as field
use Rattle.script_lines.specs.declared.words.Sort.{Sort}
use Rattle.script_lines.specs.declared.words.Sort.TheVariants as sort
use Rattle.script_lines.specs.declared.words.Tally.{Tally}
use Rattle.script_lines.specs.declared.words.Want.{Want}
use Rattle.script_lines.specs.declared.words.Want.TheVariants as want
use Rattle.script_lines.specs.declared.words.Word.{Word}
use Rattle.script_lines.specs.declared.words.Word.TheVariants as word
use Rattle.script_lines.specs.Known.{found_in, is_known, is_standing}
use Rattle.script_lines.specs.Lines.{form_of}
use Rattle.script_lines.specs.Shapes.{all_words, class_of, text_of_word}
use Rattle.script_lines.specs.States.{count_of, is_before_clients, is_declaring, is_in_routine, is_inside, is_outside, is_using, limit_of}
use Rattle.script_lines.specs.Texts.{is_name}

-- whether words of the class may begin a line
abbrev pub is_head : Place → Class → Bool
is_head place class.Declaration = is_declaring place
is_head place class.Routine = is_before_clients place
is_head place class.Client = is_outside place
is_head place class.Done = is_inside place
is_head place class.Operation = is_inside place
is_head place class.Making = is_inside place
is_head place class.Times = is_inside place
is_head place class.Condition = is_inside place
is_head place class.Try = is_inside place
is_head place class.Mark = is_inside place
is_head place class.Own = is_in_routine place
is_head place _ = false

-- whether words of the class may be repeated
abbrev pub is_repeated : Place → Class → Bool
is_repeated place class.Operation = is_inside place
is_repeated place class.Condition = is_inside place
is_repeated place class.RepeatedTry = is_inside place
is_repeated place class.Own = is_in_routine place
is_repeated place _ = false

-- whether words of the class may stand behind a condition
abbrev pub is_conditional : Place → Class → Bool
is_conditional place class.Operation = is_inside place
is_conditional place class.ConditionalTry = is_inside place
is_conditional place class.Own = is_in_routine place
is_conditional place _ = false

-- whether words of the class may stand behind `try`
abbrev pub is_tried : Place → Class → Bool
is_tried place class.Operation = is_inside place
is_tried place class.Making = is_inside place
is_tried place class.TriedCondition = is_inside place
is_tried place class.Own = is_in_routine place
is_tried place _ = false

-- and where `times` stands before it
abbrev pub is_repeated_tried : Place → Class → Bool
is_repeated_tried place class.Operation = is_inside place
is_repeated_tried place class.TriedCondition = is_inside place
is_repeated_tried place class.Own = is_in_routine place
is_repeated_tried place _ = false

-- whether words of the class may stand behind a condition and `try`
abbrev pub is_bare : Place → Class → Bool
is_bare place class.Operation = is_inside place
is_bare place class.Own = is_in_routine place
is_bare place _ = false

-- options stand in their order
abbrev pub is_option : ℕ → Class → Bool
is_option first (class.Option order) = nat_le first order
is_option first _ = false

abbrev pub is_pool_option : ℕ → Class → Bool
is_pool_option first (class.PoolOption order) = nat_le first order
is_pool_option first _ = false

abbrev pub is_cancel : Class → Bool
is_cancel class.Cancel = true
is_cancel _ = false

abbrev pub is_kind : Class → Bool
is_kind class.Kind = true
is_kind _ = false

abbrev pub is_priority : Class → Bool
is_priority class.Priority = true
is_priority _ = false

abbrev pub is_how : Class → Bool
is_how class.How = true
is_how _ = false

abbrev pub is_reset : Class → Bool
is_reset class.Reset = true
is_reset _ = false

abbrev pub is_signal : Class → Bool
is_signal class.Signal = true
is_signal _ = false

-- whether words of the class may stand in the field
abbrev pub may_stand : Place → Field → Class → Bool
may_stand place field.Head class = is_head place class
may_stand place field.Repeated class = is_repeated place class
may_stand place field.Conditional class = is_conditional place class
may_stand place field.Tried class = is_tried place class
may_stand place field.RepeatedTried class = is_repeated_tried place class
may_stand place field.Bare class = is_bare place class
may_stand place (field.Options first) class = is_option first class
may_stand place field.CancelOption class = is_cancel class
may_stand place (field.PoolOptions first) class = is_pool_option first class
may_stand place field.Kind class = is_kind class
may_stand place field.Priority class = is_priority class
may_stand place field.How class = is_how class
may_stand place field.Reset class = is_reset class
may_stand place field.Signal class = is_signal class
may_stand place _ class = false

abbrev pub is_at : Place → Field → List ℕ → Word → Bool
is_at place field text word = bytes_eq (text_of_word word) text && may_stand place field (class_of word)

-- the word with this text that may stand in the field
abbrev pub word_at : Place → Field → List ℕ → Option Word
word_at place field text = find (is_at place field text) all_words

-- whether there may be one more of what the word begins: clients are limited
abbrev pub has_room : State → Word → Bool
has_room state word.Client = nat_lt state.clients 15
has_room state _ = true

abbrev pub token_of_word : Field → Word → Token
token_of_word field.Head word = token.Head word
token_of_word field.Repeated word = token.Head word
token_of_word field.Conditional word = token.Head word
token_of_word field.Tried word = token.Head word
token_of_word field.RepeatedTried word = token.Head word
token_of_word field.Bare word = token.Head word
token_of_word _ word = token.Word word

abbrev pub choice_of : State → Field → List ℕ → Option Token
choice_of state field text = option_and_then (λ word. if has_room state word then Some (token_of_word field word) else None) (word_at state.place field text)

-- a number from the least to the most
abbrev pub IsNumberToken : ℕ → ℕ → List ℕ → Token → Type 0
IsNumberToken least most text said = (number : ℕ) × (said ≡ token.Number number) × Numbers least most number text

-- `none`, or a number of 64 bits with a sign
abbrev pub IsDueToken : List ℕ → Token → Type 0
IsDueToken text said = (due : Option ℤ) × (said ≡ token.Due due) × Optional (codes "none") Signed due text

-- one more than there were, up to the limit
abbrev pub numbered : ℕ → ℕ → Option Token
numbered count limit = if nat_lt count limit then Some (token.Fresh (count + 1)) else None

-- a new name, and its number
abbrev pub fresh_of : Known → Tally → List ℕ → Option Token
fresh_of known tally text =
    if not (is_name text) then None else (if is_standing known tally text then None else numbered (count_of known.state tally) (limit_of tally))

-- whether what stands for the sort is what is wanted
abbrev pub suits : Want → Sort → Bool
suits want.Pool sort.Pool = true
suits want.Group sort.Group = true
suits want.Event sort.Event = true
suits want.Semaphore sort.Semaphore = true
suits want.Lock sort.Mutex = true
suits want.Lock sort.Section = true
suits want.Kernel sort.Event = true
suits want.Kernel sort.Semaphore = true
suits want.Kernel sort.Mutex = true
suits want.Kernel sort.Section = true
suits want.Work sort.Work = true
suits want.Timer sort.Timer = true
suits want.Wait sort.Wait = true
suits want.Io sort.Io = true
suits want.Object sort.Work = true
suits want.Object sort.Timer = true
suits want.Object sort.Wait = true
suits want.Object sort.Io = true
suits want.Operation sort.Operation = true
suits want.Memory sort.Memory = true
suits want.UnusedMemory sort.Memory = true
suits want.UsedMemory sort.Memory = true
suits want.Source sort.Work = true
suits want.Source sort.Timer = true
suits want.Source sort.Wait = true
suits want.Source sort.Io = true
suits want.Source sort.Group = true
suits _ _ = false

-- a memory's use begins where the section doesn't use it, and ends where it does
abbrev pub may_come : State → Want → ℕ → Bool
may_come state want.UnusedMemory number = not (is_using state number)
may_come state want.UsedMemory number = is_using state number
may_come state _ number = true

abbrev pub is_wanted : State → Want → Meaning → Bool
is_wanted state wanted meaning = suits wanted meaning.sort && may_come state wanted meaning.number

-- a name that stands here for what is wanted
abbrev pub name_of : Known → Want → List ℕ → Option Token
name_of known wanted text = option_and_then (λ meaning. if is_wanted known.state wanted meaning then Some (token.Name meaning) else None) (found_in known text)

-- a kernel object, or `none`
abbrev pub armed_of : Known → List ℕ → Option Token
armed_of known text = if bytes_eq text (codes "none") then Some token.NoName else name_of known want.Kernel text

-- a routine, which may be declared further down
abbrev pub routine_of : Known → List ℕ → Option Token
routine_of known text = option_map (λ named. token.Routine named.meaning.number) (lookup (bytes_eq text) known.routines)

abbrev pub FitsForm : Known → Field → Form → List ℕ → Token → Type 0
FitsForm known field form.Choice text said = choice_of known.state field text ≡ Some said
FitsForm known field (form.Number least most) text said = IsNumberToken least most text said
FitsForm known field form.Due text said = IsDueToken text said
FitsForm known field (form.Fresh tally) text said = fresh_of known tally text ≡ Some said
FitsForm known field (form.Name wanted) text said = name_of known wanted text ≡ Some said
FitsForm known field form.Armed text said = armed_of known text ≡ Some said
FitsForm known field form.Routine text said = routine_of known text ≡ Some said

-- behind what the line says so far, a word of this field says so
abbrev pub Fits : Known → Field → Line → List ℕ → Token → Type 0
Fits known field line text said = FitsForm known field (form_of field line) text said

-- why a word may not begin a line: it may, and there would be one client too many
abbrev pub head_kind : State → List ℕ → ScriptKind
head_kind state text = if is_some (word_at state.place field.Head text) then TooMany else Unexpected

-- why a word is no new name: it is no name, or it stands, or there would be too many
abbrev pub fresh_kind : Known → Tally → List ℕ → ScriptKind
fresh_kind known tally text = if not (is_name text) then Unexpected else (if is_standing known tally text then NameTwice else TooMany)

-- why a word isn't a name that is wanted: it is no name, or it stands for something else, or for nothing yet
abbrev pub name_kind : Known → List ℕ → ScriptKind
name_kind known text = if not (is_name text) then Unexpected else (if is_known known text then WrongName else UnknownName)

-- what stands for the sort is wanted
abbrev pub is_suited : Want → Option Meaning → Bool
is_suited wanted (Some meaning) = suits wanted meaning.sort
is_suited wanted None = false

-- and why such a word isn't one that may come here: it is a memory that the section uses, or one that it doesn't use
abbrev pub wanted_kind : Known → Want → List ℕ → ScriptKind
wanted_kind known wanted text = if is_suited wanted (found_in known text) then Unexpected else name_kind known text

-- why a word that says nothing in the field may not stand there
abbrev pub kind_of_field : Known → Field → List ℕ → ScriptKind
kind_of_field known field.Head text = head_kind known.state text
kind_of_field known (field.Fresh tally) text = fresh_kind known tally text
kind_of_field known (field.Name wanted) text = wanted_kind known wanted text
kind_of_field known field.Armed text = name_kind known text
kind_of_field known field.Routine text = name_kind known text
kind_of_field known _ text = Unexpected
