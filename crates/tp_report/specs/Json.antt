-- The summary of a history as one line of JSON.
use Rattle.std.specs.Prelude.{ℕ, List, [], ◌∷◌, ◌++◌, length, map, codes}
use Rattle.serde_json.specs.Data.{Data, number, unsigned, array, object, member, no_members}
use Rattle.serde_json.specs.View.{items_of}
use Rattle.serde_json.specs.Written.{compact_text}
use Rattle.tp_base.specs.declared.answers.Entry.{Entry}
use Rattle.tp_base.specs.declared.ids.ObjectId.{ObjectId}
use Rattle.tp_base.specs.declared.limits.Limits.{Limits}
use Rattle.tp_base.specs.declared.rows.Status.{Status}
use Rattle.tp_report.specs.Summaries.{Totals, totals_of}

abbrev count : ℕ → Data
count n = number (unsigned n)

-- the numbers of callbacks
abbrev pub numbers_of : List (ℕ × ObjectId × Status) → Data
numbers_of rows = array (items_of (map (λ row. count row.0) rows))

abbrev pub json_of_totals : Totals → Data
json_of_totals totals =
    object
    (member (codes "callbacks") (count totals.callbacks)
    (member (codes "cancelled") (count totals.cancelled)
    (member (codes "entries") (count totals.entries)
    (member (codes "left") (count (length totals.left))
    (member (codes "left_callbacks") (numbers_of totals.left)
    (member (codes "refused") (count totals.refused)
    (member (codes "taken") (count totals.taken) no_members)))))))

abbrev pub json_line : Totals → List ℕ
json_line totals = compact_text (json_of_totals totals) ++ 10 ∷ []

abbrev pub json_text : Limits → List Entry → List ℕ
json_text limits history = json_line (totals_of limits history)
