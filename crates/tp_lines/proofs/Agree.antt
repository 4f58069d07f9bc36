-- The ranges of the parts of a call are those of the call.
use Rattle.std.proofs.Common.{◌≡◌, rules, refl}
use Rattle.tp_base.specs.Ranges.{IsCallInRange}
use Rattle.tp_base.specs.declared.calls.Call.{Call}
use Rattle.tp_base.specs.declared.calls.Call.TheVariants as call
use Rattle.tp_lines.specs.declared.parts.Part.TheVariants as part
use Rattle.tp_lines.specs.declared.words.Field.{Field}
use Rattle.tp_lines.specs.declared.words.Word.{Word}
use Rattle.tp_lines.specs.Calls.{FitsCall}
use Rattle.tp_lines.specs.Parts.{IsWordPart}
use Rattle.tp_lines.specs.Shapes.{table_of}

pub fits_range : (c : Call) → FitsCall c → IsCallInRange c
fits_range call.CreatePool h = search rules
fits_range _ h = search rules

-- and the other way round
word_part : (f : Field) (w : Word) → table_of w ≡ f → IsWordPart f (part.Word w)
word_part f w e = record { word = w; is = refl; table = e }

pub range_fits : (c : Call) → IsCallInRange c → FitsCall c
range_fits call.CreatePool h = search (rules, word_part)
range_fits _ h = search (rules, word_part)
