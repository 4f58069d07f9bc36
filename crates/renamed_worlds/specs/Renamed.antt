-- Other numbers for callbacks. The number of a callback is a name: it says which callback is meant, and nothing else.
use Rattle.std.specs.Prelude.{◌≡◌, ℕ, ◌+◌, map, option_map}
use Rattle.tp_base.specs.declared.answers.Answer.{Answer}
use Rattle.tp_base.specs.declared.answers.Answer.TheVariants as answer
use Rattle.tp_base.specs.declared.answers.Look.{Look}
use Rattle.tp_base.specs.declared.answers.Look.TheVariants.{NotYet}
use Rattle.tp_base.specs.declared.calls.Call.{Call}
use Rattle.tp_base.specs.declared.calls.Call.TheVariants.{CompleteIo}
use Rattle.tp_base.specs.declared.plans.Busy.{Busy}
use Rattle.tp_base.specs.declared.plans.Change.{Change}
use Rattle.tp_base.specs.declared.plans.Change.TheVariants as change
use Rattle.tp_base.specs.declared.plans.Plan.{Plan}
use Rattle.tp_base.specs.declared.plans.Plan.TheVariants.{Does, Looked, Refused}
use Rattle.tp_base.specs.declared.rows.CallbackRow.{CallbackRow}
use Rattle.tp_base.specs.declared.rows.WorkerRow.{WorkerRow}
use Rattle.tp_model.specs.World.{World, BegunWait}

-- numbers that were told apart still are, and 0 stays the number of no callback
pub record IsNaming (name : ℕ → ℕ) : Type 0 where
  pub apart : (m n : ℕ) → name m ≡ name n → m ≡ n
  pub none : name 0 ≡ 0

-- callbacks that are made from here on are numbered on, one after another
abbrev pub GoesOn : (ℕ → ℕ) → ℕ → Type 0
GoesOn name next_number = (i : ℕ) → name (next_number + i) ≡ name next_number + i

-- and so are those that a change makes
abbrev pub IsNumberedOn : (ℕ → ℕ) → Change → Type 0
IsNumberedOn name (change.Fire trigger first count) = GoesOn name first
IsNumberedOn name (change.Return by words first count) = GoesOn name first
IsNumberedOn name _ = Unit {0}

module _ (name : ℕ → ℕ) where
  -- ---- in a world

  abbrev pub renamed_callback : CallbackRow → CallbackRow
  renamed_callback c = record c { number = name c.number }

  -- the callback that a worker runs
  abbrev pub renamed_worker : WorkerRow → WorkerRow
  renamed_worker r = record r { callback = option_map name r.callback }

  -- the callbacks that a wait covers
  abbrev pub renamed_wait : BegunWait → BegunWait
  renamed_wait b = record b { covered = map name b.covered }

  abbrev pub renamed : World → World
  renamed w = record w { callbacks = map renamed_callback w.callbacks; workers = map renamed_worker w.workers; waits = map renamed_wait w.waits }

  -- ---- in a call, and in what it comes to

  -- a call names a callback only where the system completes its operation
  abbrev pub renamed_call : Call → Call
  renamed_call (CompleteIo callback error bytes) = CompleteIo (name callback) error bytes
  renamed_call call = call

  abbrev pub renamed_answer : Answer → Answer
  renamed_answer (answer.Queued first count) = answer.Queued (name first) count
  renamed_answer (answer.WasSet was first count) = answer.WasSet was (name first) count
  renamed_answer (answer.Started callback) = answer.Started (name callback)
  renamed_answer (answer.Operation callback) = answer.Operation (name callback)
  renamed_answer (answer.Cancelled callback) = answer.Cancelled (name callback)
  renamed_answer (answer.Count previous first count) = answer.Count previous (name first) count
  renamed_answer (answer.Advanced now first count) = answer.Advanced now (name first) count
  renamed_answer (answer.Taken callback object routine context result) = answer.Taken (name callback) object routine context result
  renamed_answer (answer.Returned section mutex semaphore event first count) = answer.Returned section mutex semaphore event (name first) count
  renamed_answer told = told

  abbrev pub renamed_look : Look → Look
  renamed_look (NotYet callback) = NotYet (name callback)
  renamed_look seen = seen

  abbrev pub renamed_busy : Busy → Busy
  renamed_busy by = record by { callback = renamed_callback by.callback }

  abbrev pub renamed_change : Change → Change
  renamed_change (change.QueueCallback callback) = change.QueueCallback (renamed_callback callback)
  renamed_change (change.ExpectCallback callback) = change.ExpectCallback (renamed_callback callback)
  renamed_change (change.Operate callback how) = change.Operate (renamed_callback callback) how
  renamed_change (change.Fire trigger first count) = change.Fire trigger (name first) count
  renamed_change (change.Take by callback) = change.Take by (renamed_callback callback)
  renamed_change (change.Mark by mark) = change.Mark (renamed_busy by) mark
  renamed_change (change.Return by words first count) = change.Return (renamed_busy by) words (name first) count
  renamed_change how = how

  abbrev pub renamed_plan : Plan → Plan
  renamed_plan (Refused refusal) = Refused refusal
  renamed_plan (Looked seen) = Looked (renamed_look seen)
  renamed_plan (Does told how) = Does (renamed_answer told) (renamed_change how)
