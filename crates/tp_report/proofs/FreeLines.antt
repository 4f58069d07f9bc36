-- No line feed stands in a line of a history.
use Rattle.std.proofs.Common.{ℕ, ◌<◌, ◌^◌, List}
use Rattle.tp_base.specs.declared.answers.Entry.{Entry}
use Rattle.tp_lines.specs.Answers.{IsEntryLine}
use Rattle.tp_lines.proofs.Feeds.{entry_feedless}
use Rattle.tp_report.specs.Histories.{end_line}
use Rattle.tp_report.proofs.Feeds.{IsFree, free_decimal}

pub entry_free : (entry : Entry) (line : List ℕ) → IsEntryLine entry line → IsFree line
entry_free entry line h = entry_feedless entry line h

pub end_free : (len : ℕ) → len < 2 ^ 64 → IsFree (end_line len)
end_free len bound = free_decimal len bound
