-- The words of scripts: among which each stands, its text, and the fields behind it.
use Rattle.std.specs.Prelude.{ℕ, true, false, List, [], ◌∷◌, codes}
use Rattle.tp_base.specs.declared.calls.Kind.TheVariants as kind
use Rattle.tp_base.specs.declared.calls.Priority.TheVariants as priority
use Rattle.tp_lines.specs.Words.{text_of_kind, text_of_priority, text_of_how, text_of_reset, text_of_signal}
use Rattle.script_lines.specs.declared.words.Class.{Class}
use Rattle.script_lines.specs.declared.words.Class.TheVariants as class
use Rattle.script_lines.specs.declared.words.Field.{Field}
use Rattle.script_lines.specs.declared.words.Field.TheVariants as field
use Rattle.script_lines.specs.declared.words.Tally.TheVariants as tally
use Rattle.script_lines.specs.declared.words.Want.TheVariants as want
use Rattle.script_lines.specs.declared.words.Word.{Word}
use Rattle.script_lines.specs.declared.words.Word.TheVariants as word

pub record Shape : Type 0 where
  pub class : Class
  pub text : List ℕ
  pub fields : List Field

abbrev pub shape_of : Word → Shape
shape_of word.Pool = record { class = class.Declaration; text = codes "pool"; fields = field.Fresh tally.Pools ∷ field.PoolOptions 1 ∷ [] }
shape_of word.Group = record { class = class.Declaration; text = codes "group"; fields = field.Fresh tally.Groups ∷ [] }
shape_of word.Event = record { class = class.Declaration; text = codes "event"; fields = field.Fresh tally.Kernels ∷ field.Reset ∷ field.Signal ∷ [] }
shape_of word.Semaphore = record { class = class.Declaration; text = codes "semaphore"; fields = field.Fresh tally.Kernels ∷ field.Level ∷ field.Limit ∷ [] }
shape_of word.Mutex = record { class = class.Declaration; text = codes "mutex"; fields = field.Fresh tally.Kernels ∷ [] }
shape_of word.Section = record { class = class.Declaration; text = codes "section"; fields = field.Fresh tally.Kernels ∷ [] }
shape_of (word.Object kind) = record { class = class.Declaration; text = text_of_kind kind; fields = field.Fresh tally.Objects ∷ field.Routine ∷ field.Options 1 ∷ [] }
shape_of word.Memory = record { class = class.Declaration; text = codes "memory"; fields = field.Fresh tally.Memories ∷ [] }
shape_of word.Routine = record { class = class.Routine; text = codes "routine"; fields = field.Fresh tally.Routines ∷ [] }
shape_of word.Client = record { class = class.Client; text = codes "client"; fields = [] }
shape_of word.Done = record { class = class.Done; text = codes "done"; fields = [] }
shape_of word.Submit = record { class = class.Operation; text = codes "submit"; fields = field.Name want.Work ∷ [] }
shape_of word.Simple = record { class = class.Operation; text = codes "simple"; fields = field.Routine ∷ field.Options 1 ∷ [] }
shape_of word.SetTimer = record { class = class.Operation; text = codes "set-timer"; fields = field.Name want.Timer ∷ field.Due ∷ field.Small ∷ field.Small ∷ [] }
shape_of word.SetTimerEx = record { class = class.Operation; text = codes "set-timer-ex"; fields = field.Name want.Timer ∷ field.Due ∷ field.Small ∷ field.Small ∷ [] }
shape_of word.IsTimerSet = record { class = class.Operation; text = codes "is-timer-set"; fields = field.Name want.Timer ∷ [] }
shape_of word.SetWait = record { class = class.Operation; text = codes "set-wait"; fields = field.Name want.Wait ∷ field.Armed ∷ field.Due ∷ [] }
shape_of word.StartIo = record { class = class.Operation; text = codes "start-io"; fields = field.Name want.Io ∷ [] }
shape_of word.CancelIo = record { class = class.Operation; text = codes "cancel-io"; fields = field.Name want.Io ∷ [] }
shape_of word.IssueIo = record { class = class.Making; text = codes "issue-io"; fields = field.Name want.Io ∷ field.Fresh tally.Locals ∷ [] }
shape_of word.CompleteIo = record { class = class.Operation; text = codes "complete-io"; fields = field.Name want.Operation ∷ field.Small ∷ field.Large ∷ [] }
shape_of word.CompleteNext = record { class = class.Operation; text = codes "complete-next"; fields = field.Name want.Io ∷ field.Small ∷ field.Large ∷ [] }
shape_of word.Let = record { class = class.Making; text = codes "let"; fields = field.Fresh tally.Locals ∷ field.Kind ∷ field.Routine ∷ field.Options 1 ∷ [] }
shape_of word.Close = record { class = class.Operation; text = codes "close"; fields = field.Name want.Object ∷ [] }
shape_of word.BeginWait = record { class = class.Operation; text = codes "wait"; fields = field.Name want.Object ∷ field.How ∷ [] }
shape_of word.CloseMembers = record { class = class.Operation; text = codes "close-members"; fields = field.Name want.Group ∷ field.How ∷ field.Large ∷ [] }
shape_of word.CloseGroup = record { class = class.Operation; text = codes "close-group"; fields = field.Name want.Group ∷ [] }
shape_of word.ClosePool = record { class = class.Operation; text = codes "close-pool"; fields = field.Name want.Pool ∷ [] }
shape_of word.SetMaximum = record { class = class.Operation; text = codes "set-maximum"; fields = field.Name want.Pool ∷ field.Small ∷ [] }
shape_of word.SetMinimum = record { class = class.Operation; text = codes "set-minimum"; fields = field.Name want.Pool ∷ field.Small ∷ [] }
shape_of word.SetEvent = record { class = class.Operation; text = codes "set-event"; fields = field.Name want.Event ∷ [] }
shape_of word.ResetEvent = record { class = class.Operation; text = codes "reset-event"; fields = field.Name want.Event ∷ [] }
shape_of word.ReleaseSemaphore = record { class = class.Operation; text = codes "release-semaphore"; fields = field.Name want.Semaphore ∷ field.Units ∷ [] }
shape_of word.Release = record { class = class.Operation; text = codes "release"; fields = field.Name want.Lock ∷ [] }
shape_of word.Acquire = record { class = class.Operation; text = codes "acquire"; fields = field.Name want.Kernel ∷ [] }
shape_of word.TryAcquire = record { class = class.Operation; text = codes "try-acquire"; fields = field.Name want.Kernel ∷ [] }
shape_of word.Advance = record { class = class.Operation; text = codes "advance"; fields = field.Time ∷ [] }
shape_of word.MayRunLong = record { class = class.Own; text = codes "may-run-long"; fields = [] }
shape_of word.Disassociate = record { class = class.Own; text = codes "disassociate"; fields = [] }
shape_of word.OnReturn = record { class = class.Own; text = codes "on-return"; fields = field.Name want.Kernel ∷ field.UnitsOption ∷ [] }
shape_of word.Times = record { class = class.Times; text = codes "times"; fields = field.Count ∷ field.Repeated ∷ [] }
shape_of word.If = record { class = class.Condition; text = codes "if"; fields = field.Name want.Kernel ∷ field.Conditional ∷ [] }
shape_of word.Unless = record { class = class.Condition; text = codes "unless"; fields = field.Name want.Kernel ∷ field.Conditional ∷ [] }
shape_of word.TriedIf = record { class = class.TriedCondition; text = codes "if"; fields = field.Name want.Kernel ∷ field.Bare ∷ [] }
shape_of word.TriedUnless = record { class = class.TriedCondition; text = codes "unless"; fields = field.Name want.Kernel ∷ field.Bare ∷ [] }
shape_of word.Try = record { class = class.Try; text = codes "try"; fields = field.Tried ∷ [] }
shape_of word.RepeatedTry = record { class = class.RepeatedTry; text = codes "try"; fields = field.RepeatedTried ∷ [] }
shape_of word.ConditionalTry = record { class = class.ConditionalTry; text = codes "try"; fields = field.Bare ∷ [] }
shape_of word.Use = record { class = class.Mark; text = codes "use"; fields = field.Name want.UnusedMemory ∷ [] }
shape_of word.Drop = record { class = class.Mark; text = codes "drop"; fields = field.Name want.UsedMemory ∷ [] }
shape_of word.Free = record { class = class.Mark; text = codes "free"; fields = field.Name want.Memory ∷ [] }
shape_of word.Quiet = record { class = class.Mark; text = codes "quiet"; fields = field.Name want.Source ∷ [] }
shape_of word.Context = record { class = class.Option 1; text = codes "context"; fields = field.Large ∷ field.Options 2 ∷ [] }
shape_of word.In = record { class = class.Option 2; text = codes "in"; fields = field.Name want.Pool ∷ field.Options 3 ∷ [] }
shape_of word.OfPriority = record { class = class.Option 3; text = codes "priority"; fields = field.Priority ∷ field.Options 4 ∷ [] }
shape_of word.Long = record { class = class.Option 4; text = codes "long"; fields = field.Options 5 ∷ [] }
shape_of word.Persistent = record { class = class.Option 5; text = codes "persistent"; fields = field.Options 6 ∷ [] }
shape_of word.InGroup = record { class = class.Option 6; text = codes "group"; fields = field.Name want.Group ∷ field.CancelOption ∷ [] }
shape_of word.CancelBy = record { class = class.Cancel; text = codes "cancel"; fields = field.Routine ∷ [] }
shape_of word.Maximum = record { class = class.PoolOption 1; text = codes "max"; fields = field.Small ∷ field.PoolOptions 2 ∷ [] }
shape_of word.Minimum = record { class = class.PoolOption 2; text = codes "min"; fields = field.Small ∷ [] }
shape_of (word.Kind kind) = record { class = class.Kind; text = text_of_kind kind; fields = [] }
shape_of (word.Priority priority) = record { class = class.Priority; text = text_of_priority priority; fields = [] }
shape_of (word.How cancels) = record { class = class.How; text = text_of_how cancels; fields = [] }
shape_of (word.Reset manual) = record { class = class.Reset; text = text_of_reset manual; fields = [] }
shape_of (word.Signal signalled) = record { class = class.Signal; text = text_of_signal signalled; fields = [] }

abbrev pub class_of : Word → Class
class_of word = (shape_of word).class

abbrev pub text_of_word : Word → List ℕ
text_of_word word = (shape_of word).text

abbrev pub fields_of : Word → List Field
fields_of word = (shape_of word).fields

-- all words
abbrev pub all_words : List Word
all_words =
    word.Pool ∷ word.Group ∷ word.Event ∷ word.Semaphore ∷ word.Mutex ∷ word.Section ∷ word.Object kind.Work ∷ word.Object kind.Timer ∷ word.Object kind.Wait ∷ word.Object kind.Io ∷
    word.Memory ∷ word.Routine ∷ word.Client ∷ word.Done ∷ word.Submit ∷ word.Simple ∷ word.SetTimer ∷ word.SetTimerEx ∷ word.IsTimerSet ∷ word.SetWait ∷ word.StartIo ∷ word.CancelIo ∷
    word.IssueIo ∷ word.CompleteIo ∷ word.CompleteNext ∷ word.Let ∷ word.Close ∷ word.BeginWait ∷ word.CloseMembers ∷ word.CloseGroup ∷ word.ClosePool ∷ word.SetMaximum ∷ word.SetMinimum ∷
    word.SetEvent ∷ word.ResetEvent ∷ word.ReleaseSemaphore ∷ word.Release ∷ word.Acquire ∷ word.TryAcquire ∷ word.Advance ∷ word.MayRunLong ∷ word.Disassociate ∷ word.OnReturn ∷ word.Times ∷
    word.If ∷ word.Unless ∷ word.TriedIf ∷ word.TriedUnless ∷ word.Try ∷ word.RepeatedTry ∷ word.ConditionalTry ∷ word.Use ∷ word.Drop ∷ word.Free ∷ word.Quiet ∷ word.Context ∷ word.In ∷ word.OfPriority ∷ word.Long ∷ word.Persistent ∷ word.InGroup ∷ word.CancelBy ∷ word.Maximum ∷ word.Minimum ∷ word.Kind kind.Work ∷ word.Kind kind.Timer ∷
    word.Kind kind.Wait ∷ word.Kind kind.Io ∷ word.Priority priority.High ∷ word.Priority priority.Normal ∷ word.Priority priority.Low ∷ word.How true ∷ word.How false ∷
    word.Reset true ∷ word.Reset false ∷ word.Signal true ∷ word.Signal false ∷ []
