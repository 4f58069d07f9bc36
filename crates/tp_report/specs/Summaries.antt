-- What is said of a whole history: how many entries and callbacks it has, and what became of these.
use Rattle.std.specs.Prelude.{◌≡◌, ℕ, ◌+◌, Bool, true, false, List, [], ◌∷◌, ◌++◌, length, map, codes, decimal}
use Rattle.std.specs.List.{filter}
use Rattle.line_grammar.specs.Traces.{trace_text}
use Rattle.recorded.specs.Recordings.{Recording}
use Rattle.tp_base.specs.declared.answers.Entry.{Entry}
use Rattle.tp_base.specs.declared.ids.ObjectId.{ObjectId}
use Rattle.tp_base.specs.declared.limits.Limits.{Limits}
use Rattle.tp_base.specs.declared.rows.Status.{Status}
use Rattle.tp_base.specs.declared.rows.Status.TheVariants.{Expected, Issued, Pending, Cancelled}
use Rattle.tp_model.specs.History.{after, is_refusal}
use Rattle.tp_model.specs.Laws.Entries.{is_taken}
use Rattle.tp_model.specs.Laws.Once.{left}
use Rattle.tp_model.specs.World.{World}

pub record Totals : Type 0 where
  pub entries : ℕ
  -- all that were made
  pub callbacks : ℕ
  -- by a worker
  pub taken : ℕ
  pub cancelled : ℕ
  -- that may still run, by rising number: each as its number, its object and its status
  pub left : List (ℕ × ObjectId × Status)
  -- the entries with a refusal
  pub refused : ℕ

abbrev pub is_cancelled : Status → Bool
is_cancelled Cancelled = true
is_cancelled _ = false

abbrev pub is_refused : Entry → Bool
is_refused entry = is_refusal entry.answer

-- of a history, and the world after it
abbrev pub totals_in : World → List Entry → Totals
totals_in w history = record {
  entries = length history;
  callbacks = length w.callbacks;
  taken = length (filter is_taken history);
  cancelled = length (filter (λ c. is_cancelled c.status) w.callbacks);
  left = left w;
  refused = length (filter is_refused history);
}

abbrev pub totals_of : Limits → List Entry → Totals
totals_of limits history = totals_in (after limits history) history

-- each callback was taken or cancelled, or is left
abbrev pub IsNoneLost : Totals → Type 0
IsNoneLost totals = totals.callbacks ≡ totals.taken + totals.cancelled + length totals.left

-- ---- as lines

-- a name and a number
abbrev pub count_line : List ℕ → ℕ → List ℕ
count_line name count = name ++ 32 ∷ decimal count

-- how far a callback has come that is left; no other is
abbrev pub status_word : Status → List ℕ
status_word Expected = codes "expected"
status_word Issued = codes "issued"
status_word Pending = codes "pending"
status_word _ = []

abbrev pub left_line : (ℕ × ObjectId × Status) → List ℕ
left_line row = codes "left-callback " ++ (decimal row.0 ++ (codes " o" ++ (decimal row.1.0 ++ 32 ∷ status_word row.2)))

abbrev pub lines_of_totals : Totals → List (List ℕ)
lines_of_totals totals =
    count_line (codes "entries") totals.entries
    ∷ count_line (codes "callbacks") totals.callbacks
    ∷ count_line (codes "taken") totals.taken
    ∷ count_line (codes "cancelled") totals.cancelled
    ∷ count_line (codes "left") (length totals.left)
    ∷ (map left_line totals.left ++ count_line (codes "refused") totals.refused ∷ [])

abbrev pub text_of_totals : Totals → List ℕ
text_of_totals totals = trace_text (lines_of_totals totals)

abbrev pub summary_text : Limits → List Entry → List ℕ
summary_text limits history = text_of_totals (totals_of limits history)

abbrev pub totals_behind : Recording → Totals
totals_behind r = totals_of r.limits r.history
