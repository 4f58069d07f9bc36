-- What a machine keeps that writes its history down as a text.
use Rattle.std.specs.Prelude.{◌≡◌, ℕ, ◌+◌, ◌≤◌, length, max}
use Rattle.line_grammar.specs.Traces.{trace_text}
use Rattle.recorded.specs.Recordings.{Recording}
use Rattle.tp_lines.specs.Reserved.{Reserved}
use Rattle.tp_report.specs.Histories.{header_of, lines_of, timed}
use Rattle.tp_report.specs.Moments.{moment_of}

-- the first line and those of the entries stand there, there is memory for those of the longest history, and the clock
-- stands at `now`
pub record IsWritten (r : Recording) (lines : Reserved) (now : ℕ) : Type 0 where
  pub text : lines.text ≡ trace_text (lines_of (header_of r.limits r.capacity) (timed r.history))
  pub room : max r.capacity r.limits.clients ≤ length r.history + lines.room
  pub clock : now ≡ moment_of r.history
