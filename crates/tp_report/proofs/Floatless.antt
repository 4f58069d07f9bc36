-- The summary as JSON has no fraction.
use Rattle.std.proofs.Common.{◌≡◌, ℕ, false, ◌||◌, List, [], ◌∷◌, refl, ap}
use Rattle.std.specs.Prelude.{map}
use Rattle.serde_json.specs.Data.{number, unsigned}
use Rattle.serde_json.specs.View.{items_of}
use Rattle.serde_json.specs.Written.{has_float, items_have_float}
use Rattle.tp_base.specs.declared.ids.ObjectId.{ObjectId}
use Rattle.tp_base.specs.declared.rows.Status.{Status}
use Rattle.tp_report.specs.Json.{json_of_totals}
use Rattle.tp_report.specs.Summaries.{Totals}

numbers_whole : (rows : List (ℕ × ObjectId × Status)) → items_have_float (items_of (map (λ row. number (unsigned row.0)) rows)) ≡ false
numbers_whole [] = refl
numbers_whole (row ∷ rows) = numbers_whole rows

pub json_whole : (totals : Totals) → has_float (json_of_totals totals) ≡ false
json_whole totals = ap (λ b. b || false) (numbers_whole totals.left)
