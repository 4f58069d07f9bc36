use Rattle.std.proofs.Common.{◌≡◌, ◌<◌, if◌then◌else◌, true, false, ap, length, arith, ◌∙◌}
use Rattle.std.proofs.lemmas.List.{get_or-set_same}
use Rattle.worker_gate.specs.declared.role.Role.{Role}
use Rattle.part_places.specs.Places.{given}
use Rattle.worker_gate.specs.Roles.{is_last_turn, is_open}
use Rattle.worker_gate.proofs.Playing.{round_ends, round_goes_on, still_on, still_off}
use Rattle.worker_gate.proofs.Unfinished.{one_off, one_on, open_not_over, open_on}
use Rattle.worker_gate.proofs.rounds.play_one.Goals.{then-all_ended, else-all_ended, then-any_open, else-any_open}
use Rattle.worker_gate.proofs.rounds.play_one.Goals as goal

pub loop-place-preserved : goal.loop-place-preserved
loop-place-preserved g c =
    let γ = given g.R.Routines.next_of g.R.Routines.after_of c.args.routines.now in
    let so = c.loop-place.invariant.0 in
    let there : c.loop-place.place < length c.loop-place.roles.items = let all = c.len-place-end.ensures in let count = so.count in let below = c.loop-place-test.true in omega (arith, all, count, below) in
    let still : c.if-all_ended.all_ended ≡ (if c.loop-place.all_ended then is_last_turn c.turn_into-turn.result else false) = elim c.if-all_ended.branch [
      | then-all_ended w ↦ still_on γ c.loop-place.all_ended c.if-all_ended.all_ended w.is_last-all_ended.result (is_last_turn c.turn_into-turn.result) w.if-all_ended.true w.all_ended-is w.is_last-all_ended.ensures
      | else-all_ended w ↦ still_off γ c.loop-place.all_ended c.if-all_ended.all_ended (is_last_turn c.turn_into-turn.result) w.if-all_ended.false (w.all_ended-is ∙ w.if-all_ended.false)
    ] in
    let played = round_goes_on γ (g.B.Recorded.recording c.args.book.now) (g.B.Recorded.recording c.loop-place.book) c.args.roles.now.items c.loop-place.roles.items c.loop-place.place c.loop-place.all_ended c.index_mut.result.now there so c.index_mut.ensures.value
    (g.B.Recorded.recording c.turn_into-turn.new.book) c.turn_into-turn.result c.turn_into-turn.new.self c.if-all_ended.all_ended c.turn_into-turn.ensures.role_is c.turn_into-turn.ensures.book_is c.turn_into-turn.ensures.turn_is still c.turn_into-turn.ensures.of in
    let any : c.if-any_open.any_open ≡ (if c.loop-place.any_open then true else is_open c.turn_into-turn.new.self.place.stage) = elim c.if-any_open.branch [
      | then-any_open w ↦ one_on c.loop-place.any_open c.if-any_open.any_open _ w.if-any_open.true (w.any_open-is ∙ w.if-any_open.true)
      | else-any_open w ↦ one_off c.loop-place.any_open c.if-any_open.any_open w.is_open-any_open.result _ w.if-any_open.false w.any_open-is
          (w.is_open-any_open.ensures ∙ ap (λ (q : Role). is_open q.place.stage) (w.index.ensures ∙ get_or-set_same c.loop-place.roles.items c.loop-place.place c.turn_into-turn.new.self w.index.result.now there))
    ] in (
      played,
      open_on γ (g.B.Recorded.recording c.args.book.now) (g.B.Recorded.recording c.loop-place.book) c.args.roles.now.items c.loop-place.roles.items c.loop-place.place c.loop-place.all_ended c.index_mut.result.now there so
          c.turn_into-turn.new.self c.loop-place.any_open c.if-any_open.any_open c.loop-place.invariant.1 any,
    )

pub turn_into-turn-requires-clause-any_open : goal.turn_into-turn-requires-clause-any_open
turn_into-turn-requires-clause-any_open g c on =
    let γ = given g.R.Routines.next_of g.R.Routines.after_of c.args.routines.now in
    let so = c.loop-place.invariant.0 in
    let there : c.loop-place.place < length c.loop-place.roles.items = let all = c.len-place-end.ensures in let count = so.count in let below = c.loop-place-test.true in omega (arith, all, count, below) in
    open_not_over γ (g.B.Recorded.recording c.args.book.now) (g.B.Recorded.recording c.loop-place.book) c.args.roles.now.items c.loop-place.roles.items c.loop-place.place c.loop-place.all_ended c.index_mut.result.now there so
    (c.loop-place.invariant.1 on)

pub returns-clause-over : goal.returns-clause-over
returns-clause-over g c =
    let so = c.loop-place.invariant.0 in
    let end : c.loop-place.place ≡ length c.loop-place.roles.items = let all = c.len-place-end.ensures in let count = so.count in let below = c.loop-place-test.false in let above = c.loop-place.auto.place-end in omega (arith, all, count, below, above) in
    (round_ends (given g.R.Routines.next_of g.R.Routines.after_of c.args.routines.now) (g.B.Recorded.recording c.args.book.now) (g.B.Recorded.recording c.loop-place.book) c.args.roles.now.items c.loop-place.roles.items c.loop-place.place c.loop-place.all_ended end so).ended
