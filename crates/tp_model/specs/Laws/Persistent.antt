-- The law Persistent: the persistent callbacks of a pool are run by one worker, which leaves the pool only once it is closed.
use Rattle.std.specs.Prelude.{◌≡◌, ◌≢◌, ℕ, Bool, true, false, ◌&&◌, ◌||◌, ◌==◌, List, ◌∷◌, ◌++◌, Option, None, Some}
use Rattle.std.specs.List.{list_any}
use Rattle.tp_base.specs.declared.answers.Entry.{Entry}
use Rattle.tp_model.specs.Laws.Entries.{Creation, Run, Simple, closes_pool, created_by, is_among, is_by, is_detached, queued_by, run_by, simple_by}

-- with the mark, and in the pool
abbrev pub creates_persistent : ℕ → ℕ → Option Creation → Bool
creates_persistent pool object None = false
creates_persistent pool object (Some c) = (c.object == object) && ((c.env.pool.0 == pool) && c.env.persistent)

abbrev pub is_simple_persistent : ℕ → Option Simple → Bool
is_simple_persistent pool None = false
is_simple_persistent pool (Some s) = (s.pool.0 == pool) && s.persistent

-- the entry makes the object
abbrev pub makes_object : ℕ → ℕ → Entry → Bool
makes_object pool object entry = creates_persistent pool object (created_by entry)

-- the entry makes the callback, without an object
abbrev pub makes_simple : ℕ → ℕ → Entry → Bool
makes_simple pool number entry = is_simple_persistent pool (simple_by entry) && is_among number (queued_by entry.answer)

-- the entry makes what the run is of
abbrev pub makes_persistent : ℕ → Run → Entry → Bool
makes_persistent pool run entry = makes_object pool run.object.0 entry || makes_simple pool run.number entry

-- the worker takes a persistent callback of the pool
pub record RunsPersistent (before : List Entry) (entry : Entry) (worker pool : ℕ) : Type 0 where
  pub run : Run
  pub by : is_by worker entry ≡ true
  pub takes : run_by entry.answer ≡ Some run
  pub made : list_any (makes_persistent pool run) before ≡ true

-- an accepted Detach of the worker
abbrev pub detaches : ℕ → Entry → Bool
detaches worker entry = is_by worker entry && is_detached entry

pub record ArePersistent (history : List Entry) : Type 0 where
  -- between the runs of two workers the earlier one leaves
  pub one : (before between later : List Entry) (first second : Entry) (a b pool : ℕ) → (before ++ first ∷ between) ++ second ∷ later ≡ history
      → RunsPersistent before first a pool → RunsPersistent (before ++ first ∷ between) second b pool → a ≢ b → list_any (detaches a) between ≡ true
  -- where it leaves, the pool was closed
  pub stays : (before between later : List Entry) (run leave : Entry) (worker pool : ℕ) → (before ++ run ∷ between) ++ leave ∷ later ≡ history
      → RunsPersistent before run worker pool → detaches worker leave ≡ true → list_any (closes_pool pool) (before ++ run ∷ between) ≡ true
