-- What the words of a line say, and what may stand behind each.
use Rattle.std.specs.Prelude.{ℕ, Bool, true, false, List, [], ◌∷◌, None, nat_eq, nat_le, nat_lt, ◌||◌, if◌then◌else◌}
use Rattle.tp_base.specs.declared.calls.Kind.{Kind}
use Rattle.tp_base.specs.declared.calls.Kind.TheVariants as kind
use Rattle.tp_base.specs.declared.calls.Priority.TheVariants as priority
use Rattle.script_lines.specs.declared.line.Condition.{Condition}
use Rattle.script_lines.specs.declared.line.Condition.TheVariants.{Always, If, Unless}
use Rattle.script_lines.specs.declared.line.Form.{Form}
use Rattle.script_lines.specs.declared.line.Form.TheVariants as form
use Rattle.script_lines.specs.declared.line.Line.{Line}
use Rattle.script_lines.specs.declared.line.Meaning.{Meaning}
use Rattle.script_lines.specs.declared.line.Token.{Token}
use Rattle.script_lines.specs.declared.line.Token.TheVariants as token
use Rattle.script_lines.specs.declared.words.Field.{Field}
use Rattle.script_lines.specs.declared.words.Field.TheVariants as field
use Rattle.script_lines.specs.declared.words.Sort.{Sort}
use Rattle.script_lines.specs.declared.words.Sort.TheVariants as sort
use Rattle.script_lines.specs.declared.words.Word.{Word}
use Rattle.script_lines.specs.declared.words.Word.TheVariants as word
use Rattle.script_lines.specs.Shapes.{fields_of}

abbrev pub nothing : Meaning
nothing = record { sort = sort.Work; local = false; number = 0 }

-- a line that says nothing yet
abbrev pub blank : Line
blank = record {
  due = None;
  number = 0;
  before = 0;
  object = nothing;
  kernel = nothing;
  made = 0;
  times = 1;
  condition = Always;
  routine = 0;
  cancel = 0;
  pool = 0;
  group = 0;
  head = word.Done;
  kind = kind.Work;
  priority = priority.Normal;
  long = false;
  persistent = false;
  cancels = false;
  manual = false;
  signalled = false;
  maximum = false;
  minimum = false;
  may_refuse = false;
}

abbrev pub is_times : Word → Bool
is_times word.Times = true
is_times _ = false

-- how often what comes next is made: as often as `times` says, or said before the condition, or once
abbrev pub count_of_repeats : Line → ℕ
count_of_repeats line = if is_times line.head then (if nat_le line.number 10000 then line.number else 1) else line.times

-- what is asked before the operation: the kernel object that was named behind `if` or `unless`
abbrev pub condition_by : Line → Word → Condition
condition_by line word.If = If line.kernel.number
condition_by line word.Unless = Unless line.kernel.number
condition_by line word.TriedIf = If line.kernel.number
condition_by line word.TriedUnless = Unless line.kernel.number
condition_by line _ = line.condition

abbrev pub condition_of : Line → Condition
condition_of line = condition_by line line.head

abbrev pub is_try : Word → Bool
is_try word.Try = true
is_try word.RepeatedTry = true
is_try word.ConditionalTry = true
is_try _ = false

-- whether the operation may be refused: `try` stands before it
abbrev pub may_refuse_of : Line → Bool
may_refuse_of line = line.may_refuse || is_try line.head

abbrev pub kind_in : Word → Kind → Kind
kind_in (word.Object kind) before = kind
kind_in _ before = before

-- what the line is; behind `times` and its count, behind a condition and behind `try`, what is made; the operation has a kernel object of its own
abbrev pub with_head : Line → Word → Line
with_head line head =
    record line { head = head; kind = kind_in head line.kind; times = count_of_repeats line; condition = condition_of line; may_refuse = may_refuse_of line; kernel = nothing; number = 0 }

abbrev pub put_word : Line → Word → Line
put_word line word.Long = record line { long = true }
put_word line word.Persistent = record line { persistent = true }
put_word line word.Maximum = record line { maximum = true }
put_word line word.Minimum = record line { minimum = true }
put_word line (word.Kind kind) = record line { kind = kind }
put_word line (word.Priority priority) = record line { priority = priority }
put_word line (word.How cancels) = record line { cancels = cancels }
put_word line (word.Reset manual) = record line { manual = manual }
put_word line (word.Signal signalled) = record line { signalled = signalled }
put_word line _ = line

abbrev pub put_by_sort : Line → Meaning → Sort → Line
put_by_sort line meaning sort.Pool = record line { pool = meaning.number }
put_by_sort line meaning sort.Group = record line { group = meaning.number }
put_by_sort line meaning sort.Event = record line { kernel = meaning }
put_by_sort line meaning sort.Semaphore = record line { kernel = meaning }
put_by_sort line meaning sort.Mutex = record line { kernel = meaning }
put_by_sort line meaning sort.Section = record line { kernel = meaning }
put_by_sort line meaning sort.Work = record line { object = meaning }
put_by_sort line meaning sort.Timer = record line { object = meaning }
put_by_sort line meaning sort.Wait = record line { object = meaning }
put_by_sort line meaning sort.Io = record line { object = meaning }
put_by_sort line meaning sort.Operation = record line { object = meaning }
put_by_sort line meaning sort.Memory = record line { object = meaning }
put_by_sort line meaning sort.Routine = line

abbrev pub put_name : Line → Meaning → Line
put_name line meaning = put_by_sort line meaning meaning.sort

-- the first routine of a line is called, and a second one is the cancel routine
abbrev pub put_routine : Line → ℕ → Line
put_routine line number = if nat_eq line.routine 0 then record line { routine = number } else record line { cancel = number }

-- the line with what one more word says
abbrev pub put : Line → Token → Line
put line (token.Head head) = with_head line head
put line (token.Word word) = put_word line word
put line (token.Number number) = record line { number = number; before = line.number }
put line (token.Due due) = record line { due = due }
put line (token.Fresh number) = record line { made = number }
put line (token.Name meaning) = put_name line meaning
put line token.NoName = line
put line (token.Routine number) = put_routine line number

abbrev pub in_place : List Field → List Field → List Field
in_place [] left = left
in_place (field ∷ fields) left = field ∷ fields

abbrev pub is_units_option : Field → Bool
is_units_option field.UnitsOption = true
is_units_option _ = false

abbrev pub without_units : List Field → List Field
without_units [] = []
without_units (field ∷ fields) = if is_units_option field then [] else field ∷ fields

-- units behind a name are those of a semaphore
abbrev pub narrowed : Sort → List Field → List Field
narrowed sort.Semaphore left = left
narrowed _ left = without_units left

-- what may stand behind a word of the field before `left`: a word's own fields come in the place of those
abbrev pub after : Token → List Field → List Field
after (token.Head word) left = in_place (fields_of word) left
after (token.Word word) left = in_place (fields_of word) left
after (token.Name meaning) left = narrowed meaning.sort left
after _ left = left

abbrev pub above_zero : ℕ → ℕ
above_zero number = if nat_lt number 1 then 1 else number

-- how a word of a field is written; the maximum of a semaphore isn't below the number before it
abbrev pub form_of : Field → Line → Form
form_of field.Head line = form.Choice
form_of field.Repeated line = form.Choice
form_of field.Conditional line = form.Choice
form_of field.Tried line = form.Choice
form_of field.RepeatedTried line = form.Choice
form_of field.Bare line = form.Choice
form_of (field.Fresh tally) line = form.Fresh tally
form_of (field.Name wanted) line = form.Name wanted
form_of field.Armed line = form.Armed
form_of field.Routine line = form.Routine
form_of field.Kind line = form.Choice
form_of field.Priority line = form.Choice
form_of field.How line = form.Choice
form_of field.Reset line = form.Choice
form_of field.Signal line = form.Choice
form_of field.Due line = form.Due
form_of field.Count line = form.Number 1 10000
form_of field.Small line = form.Number 0 4294967295
form_of field.Large line = form.Number 0 18446744073709551615
form_of field.Time line = form.Number 0 9223372036854775807
form_of field.Level line = form.Number 0 2147483647
form_of field.Limit line = form.Number (above_zero line.number) 2147483647
form_of field.Units line = form.Number 1 2147483647
form_of field.UnitsOption line = form.Number 1 2147483647
form_of (field.Options first) line = form.Choice
form_of field.CancelOption line = form.Choice
form_of (field.PoolOptions first) line = form.Choice

-- whether the field may be left out
abbrev pub is_optional : Field → Bool
is_optional field.UnitsOption = true
is_optional (field.Options first) = true
is_optional field.CancelOption = true
is_optional (field.PoolOptions first) = true
is_optional _ = false

-- whether a line may end where these fields are left; all fields behind one that may be left out may be left out too
abbrev pub may_end : List Field → Bool
may_end [] = true
may_end (field ∷ fields) = is_optional field
