-- What a summary that was counted says.
use Rattle.std.specs.Prelude.{map}
use Rattle.tp_model.specs.Over.{row_of}
use Rattle.tp_report.specs.Summaries.{Totals}
use Rattle.tp_report.specs.declared.summary.Summary.{Summary}

abbrev pub totals_told : Summary → Totals
totals_told s = record {
  entries = s.entries;
  callbacks = s.callbacks;
  taken = s.taken;
  cancelled = s.cancelled;
  left = map row_of s.left.items;
  refused = s.refused;
}
