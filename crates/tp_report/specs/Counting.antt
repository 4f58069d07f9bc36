-- What is counted while the entries of a history come.
use Rattle.std.specs.Prelude.{◌≡◌, ℕ, ◌+◌, ◌*◌, ◌≤◌, ◌||◌, Bool, if◌then◌else◌, List, length}
use Rattle.std.specs.List.{filter}
use Rattle.tp_base.specs.declared.answers.Entry.{Entry}
use Rattle.tp_model.specs.Laws.Entries.{is_taken, made_by, numbers_made}
use Rattle.tp_report.specs.EarlyEnds.{has_early_end, is_early_end}
use Rattle.tp_report.specs.Summaries.{is_refused}
use Rattle.tp_report.specs.declared.counts.Counts.{Counts}
use Rattle.tp_report.specs.declared.counts.EarlyEnd.TheVariants as early

pub record AreCounts (entries : List Entry) (counts : Counts) : Type 0 where
  pub made : counts.made ≡ length (numbers_made entries)
  pub taken : counts.taken ≡ length (filter is_taken entries)
  pub refused : counts.refused ≡ length (filter is_refused entries)
  -- whether the end of a wait was answered so
  pub exhausted : counts.exhausted ≡ has_early_end early.Exhausted entries
  pub stalled : counts.stalled ≡ has_early_end early.Stalled entries
  -- an entry makes fewer than 2^32
  pub few : counts.made ≤ 4294967295 * length entries

abbrev pub one_if : Bool → ℕ
one_if b = if b then 1 else 0

-- an entry more was counted
pub record IsCounted (counts : Counts) (entry : Entry) (more : Counts) : Type 0 where
  pub made : more.made ≡ counts.made + length (made_by entry)
  pub taken : more.taken ≡ counts.taken + one_if (is_taken entry)
  pub refused : more.refused ≡ counts.refused + one_if (is_refused entry)
  pub exhausted : more.exhausted ≡ (counts.exhausted || is_early_end early.Exhausted entry)
  pub stalled : more.stalled ≡ (counts.stalled || is_early_end early.Stalled entry)
  pub few : more.made ≤ counts.made + 4294967295
