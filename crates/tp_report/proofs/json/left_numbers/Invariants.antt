use Rattle.std.proofs.Common.{◌≡◌, take}
use Rattle.std.specs.Prelude.{map}
use Rattle.serde_json.specs.Data.{number, unsigned}
use Rattle.serde_json.specs.View.{view}
use Rattle.tp_model.specs.Over.{row_of}
use Rattle.tp_report.proofs.json.left_numbers.Given as goal

abbrev pub invariant-loop-row : goal.invariant-loop-row
invariant-loop-row l = map view l.numbers.items ≡ map (λ row. number (unsigned row.0)) (map row_of (take l.row-index l.rows))
