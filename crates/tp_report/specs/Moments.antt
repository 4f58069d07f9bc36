-- Moments of a history: the time of the clock behind each entry, as the entries tell it.
use Rattle.std.specs.Prelude.{ℕ, List, [], ◌∷◌, Option, None, Some, fold, length, map, take, unwrap_or}
use Rattle.std.specs.List.{range_with_len}
use Rattle.tp_base.specs.declared.answers.Answer.{Answer}
use Rattle.tp_base.specs.declared.answers.Answer.TheVariants.{Advanced}
use Rattle.tp_base.specs.declared.answers.Entry.{Entry}
use Rattle.tp_base.specs.declared.calls.Call.{Call}
use Rattle.tp_base.specs.declared.calls.Call.TheVariants.{Advance}
use Rattle.tp_base.specs.declared.limits.Limits.{Limits}
use Rattle.tp_model.specs.History.{after}

-- the time that the answer of an advance tells
abbrev pub clock_by : Call → Answer → Option ℕ
clock_by (Advance ticks) (Advanced now first count) = Some now
clock_by _ _ = None

-- the time behind an entry; none but an advance that was made changes it
abbrev pub moment_after : ℕ → Entry → ℕ
moment_after now entry = unwrap_or (clock_by entry.call entry.answer) now

abbrev pub moments_from : ℕ → List Entry → List ℕ
moments_from now [] = []
moments_from now (entry ∷ entries) = moment_after now entry ∷ moments_from (moment_after now entry) entries

-- those of all entries; the clock of a new machine stands at 0
abbrev pub moments : List Entry → List ℕ
moments history = moments_from 0 history

-- the one behind them all
abbrev pub moment_of : List Entry → ℕ
moment_of history = fold moment_after 0 history

-- the times of the machine's clock behind the first entry, behind the first two, and so on
abbrev pub clocks : Limits → List Entry → List ℕ
clocks limits history = map (λ n. (after limits (take n history)).now) (range_with_len 1 (length history))
