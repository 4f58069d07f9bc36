use Rattle.std.proofs.Common.{◌≡◌, true}
use Rattle.part_places.specs.Places.{given}
use Rattle.worker_gate.proofs.Playing.{RoundSoFar}
use Rattle.worker_gate.proofs.Unfinished.{IsOneOpen}
use Rattle.worker_gate.proofs.rounds.play_one.Given as goal

abbrev pub invariant-loop-place : goal.invariant-loop-place
invariant-loop-place g l =
    RoundSoFar (given g.R.Routines.next_of g.R.Routines.after_of l.fn.routines) (g.B.Recorded.recording l.fn.book) (g.B.Recorded.recording l.book) l.fn.roles.items l.roles.items l.place l.all_ended
    × (l.any_open ≡ true → IsOneOpen l.roles.items l.place)
