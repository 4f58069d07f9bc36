-- Waits that ended early.
use Rattle.std.specs.Prelude.{◌&&◌, Bool, true, false, List}
use Rattle.std.specs.List.{list_any}
use Rattle.tp_base.specs.declared.answers.Answer.{Answer}
use Rattle.tp_base.specs.declared.answers.Answer.TheVariants as answer
use Rattle.tp_base.specs.declared.answers.Entry.{Entry}
use Rattle.tp_base.specs.declared.calls.Call.{Call}
use Rattle.tp_base.specs.declared.calls.Call.TheVariants as call
use Rattle.tp_report.specs.declared.counts.EarlyEnd.{EarlyEnd}
use Rattle.tp_report.specs.declared.counts.EarlyEnd.TheVariants as early

abbrev pub is_end : Call → Bool
is_end call.End = true
is_end _ = false

abbrev pub is_early_answer : EarlyEnd → Answer → Bool
is_early_answer early.Exhausted answer.Exhausted = true
is_early_answer early.Stalled answer.Stalled = true
is_early_answer _ _ = false

-- the end of a wait was answered so
abbrev pub is_early_end : EarlyEnd → Entry → Bool
is_early_end which entry = is_end entry.call && is_early_answer which entry.answer

abbrev pub has_early_end : EarlyEnd → List Entry → Bool
has_early_end which history = list_any (is_early_end which) history
