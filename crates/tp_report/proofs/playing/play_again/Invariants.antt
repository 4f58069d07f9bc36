use Rattle.std.proofs.Common.{ℕ, ◌+◌, ◌≤◌, List, length}
use Rattle.tp_report.specs.Playing.{IsPlayedTo, IsSameAgain}
use Rattle.tp_lines.specs.Calls.{client_number}
use Rattle.tp_report.specs.declared.playing.MachineSize.{MachineSize}
use Rattle.tp_report.proofs.playing.play_again.Given as goal

abbrev pub invariant-loop-behind : goal.invariant-loop-behind
invariant-loop-behind g l =
    IsSameAgain (g.B.Recorded.recording l.book) l.made.0 l.made.1 l.outcome
    × (l.lines + length l.rest ≤ l.fn.lines + length l.text)
    × (length l.rest ≤ length l.text)
    × ((machine : MachineSize) (clients : ℕ) (bytes : List ℕ) (greatest : ℕ) → client_number l.made.0 ≤ greatest
    → IsPlayedTo machine clients bytes (g.B.Recorded.recording l.fn.book) l.fn.out greatest l.fn.lines l.text
    → IsPlayedTo machine clients bytes (g.B.Recorded.recording l.book) l.out greatest l.lines l.rest)

abbrev pub decreases-loop-behind : goal.decreases-loop-behind
decreases-loop-behind g l = length l.rest
