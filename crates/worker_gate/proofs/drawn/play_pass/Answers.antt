use Rattle.std.proofs.Common.{◌≡◌, if◌then◌else◌, [], get_or, ap, sym, ◌∙◌, arith, rules}
use Rattle.std.specs.Prelude.{remove}
use Rattle.std.specs.List.{list_any}
use Rattle.worker_gate.specs.declared.role.Role.{Role}
use Rattle.worker_gate.specs.Roles.{is_last_turn, is_open}
use Rattle.worker_gate.specs.Drawn.{left_after, open_places}
use Rattle.part_places.specs.Places.{given}
use Rattle.worker_gate.proofs.DrawnPass.{pass_ends, pass_first, pass_goes_on, pass_less, pass_open, place_there, role_of}
use Rattle.worker_gate.proofs.Unfinished.{any_not_over}
use Rattle.worker_gate.proofs.drawn.play_pass.Goals as goal

pub loop-outcome-init : goal.loop-outcome-init
loop-outcome-init g c =
    let filled = c.in_ok-fill.ensures in
    let ready = filled.ready ∙ c.requires.going in
    record {
      so = pass_first (given g.R.Routines.next_of g.R.Routines.after_of c.args.routines.now) (g.B.Recorded.recording c.args.book.now) c.args.roles.now.items c.fill.new.self.ready.items c.args.lots.now.draws c.fill.new.self.draws c.requires.legal c.requires.all c.requires.ended ready filled.draws;
      going = filled.going ∙ c.requires.going;
      whole = λ _. filled.ready ∙ sym filled.going;
    }

pub index_mut-requires : goal.index_mut-requires
index_mut-requires g c =
    let drawn = c.draw-index.ensures in
    let l = c.loop-outcome in
    let at = c.index-place.ensures ∙ ap (λ places. get_or places c.draw-index.result c.index-place.result.now) drawn.ready in
    let there = place_there (given g.R.Routines.next_of g.R.Routines.after_of c.args.routines.now) (g.B.Recorded.recording c.args.book.now) (g.B.Recorded.recording l.book) c.args.roles.now.items l.roles.items l.lots.going.items l.lots.ready.items c.args.lots.now.draws l.lots.draws
    l.invariant.so l.invariant.going c.draw-index.result c.index-place.result.now drawn.below drawn.index at in
    omega (arith, there, l.roles.ok.0)

pub turn_into-turn-requires-clause-of : goal.turn_into-turn-requires-clause-of
turn_into-turn-requires-clause-of g c =
    let drawn = c.draw-index.ensures in
    let l = c.loop-outcome in
    let at = c.index-place.ensures ∙ ap (λ places. get_or places c.draw-index.result c.index-place.result.now) drawn.ready in
    role_of (given g.R.Routines.next_of g.R.Routines.after_of c.args.routines.now) (g.B.Recorded.recording c.args.book.now) (g.B.Recorded.recording l.book) c.args.roles.now.items l.roles.items l.lots.going.items l.lots.ready.items c.args.lots.now.draws l.lots.draws
    l.invariant.so l.invariant.going c.draw-index.result c.index-place.result.now drawn.below drawn.index at c.index_mut.result.now c.index_mut.ensures.value

pub loop-outcome-smaller : goal.loop-outcome-smaller
loop-outcome-smaller g c =
    let drawn = c.draw-index.ensures in
    let l = c.loop-outcome in
    let t = c.turn_into-turn.ensures in
    let told = c.in_ok-go_on.ensures in
    let at = c.index-place.ensures ∙ ap (λ places. get_or places c.draw-index.result c.index-place.result.now) drawn.ready in
    let others = told.ready ∙ (ap (λ places. left_after c.turn_into-turn.result (remove places c.draw-index.result) c.draw-index.new.self.going.items) drawn.ready ∙ ap (λ places. left_after c.turn_into-turn.result (remove l.lots.ready.items c.draw-index.result) places) drawn.going) in
    pass_less (given g.R.Routines.next_of g.R.Routines.after_of c.args.routines.now) (g.B.Recorded.recording c.args.book.now) (g.B.Recorded.recording l.book) c.args.roles.now.items l.roles.items l.lots.going.items l.lots.ready.items c.args.lots.now.draws l.lots.draws
    l.invariant.so l.invariant.going c.draw-index.result c.index-place.result.now drawn.below drawn.index at c.index_mut.result.now c.index_mut.ensures.value
    (g.B.Recorded.recording c.turn_into-turn.new.book) c.turn_into-turn.new.self c.turn_into-turn.result t.role_is t.book_is t.turn_is t.of c.go_on.new.self.ready.items others c.go_on.new.self.draws (told.draws ∙ drawn.draws)

pub loop-outcome-preserved : goal.loop-outcome-preserved
loop-outcome-preserved g c =
    let drawn = c.draw-index.ensures in
    let l = c.loop-outcome in
    let t = c.turn_into-turn.ensures in
    let told = c.in_ok-go_on.ensures in
    let at = c.index-place.ensures ∙ ap (λ places. get_or places c.draw-index.result c.index-place.result.now) drawn.ready in
    let others = told.ready ∙ (ap (λ places. left_after c.turn_into-turn.result (remove places c.draw-index.result) c.draw-index.new.self.going.items) drawn.ready ∙ ap (λ places. left_after c.turn_into-turn.result (remove l.lots.ready.items c.draw-index.result) places) drawn.going) in
    let going = told.going ∙ ap (λ places. if is_last_turn c.turn_into-turn.result then open_places c.deref-in-loop-outcome.result.now else places) drawn.going in
    record {
      so = pass_goes_on (given g.R.Routines.next_of g.R.Routines.after_of c.args.routines.now) (g.B.Recorded.recording c.args.book.now) (g.B.Recorded.recording l.book) c.args.roles.now.items l.roles.items l.lots.going.items l.lots.ready.items c.args.lots.now.draws l.lots.draws
          l.invariant.so l.invariant.going c.draw-index.result c.index-place.result.now drawn.below drawn.index at c.index_mut.result.now c.index_mut.ensures.value
          (g.B.Recorded.recording c.turn_into-turn.new.book) c.turn_into-turn.new.self c.turn_into-turn.result t.role_is t.book_is t.turn_is t.of c.go_on.new.self.ready.items others c.go_on.new.self.draws (told.draws ∙ drawn.draws);
      going = pass_open (given g.R.Routines.next_of g.R.Routines.after_of c.args.routines.now) (g.B.Recorded.recording c.args.book.now) (g.B.Recorded.recording l.book) c.args.roles.now.items l.roles.items l.lots.going.items l.lots.ready.items c.args.lots.now.draws l.lots.draws
          l.invariant.so l.invariant.going c.draw-index.result c.index-place.result.now drawn.below drawn.index at c.index_mut.result.now c.index_mut.ensures.value
          (g.B.Recorded.recording c.turn_into-turn.new.book) c.turn_into-turn.new.self c.turn_into-turn.result t.role_is t.book_is t.turn_is t.of c.go_on.new.self.ready.items others c.go_on.new.self.draws (told.draws ∙ drawn.draws)
          c.go_on.new.self.going.items (open_places c.deref-in-loop-outcome.result.now) going (ap open_places c.deref-in-loop-outcome.ensures.value);
      whole = told.whole;
    }

pub returns-clause-passed : goal.returns-clause-passed
returns-clause-passed g c =
    let l = c.loop-outcome in
    let none : l.lots.ready.items ≡ [] = search rules in
    (pass_ends (given g.R.Routines.next_of g.R.Routines.after_of c.args.routines.now) (g.B.Recorded.recording c.args.book.now) (g.B.Recorded.recording l.book) c.args.roles.now.items l.roles.items l.lots.ready.items c.args.lots.now.draws l.lots.draws none l.invariant.so).passed

pub turn_into-turn-requires-clause-any_open : goal.turn_into-turn-requires-clause-any_open
turn_into-turn-requires-clause-any_open g c on =
    let l = c.loop-outcome in
    let now = g.B.Recorded.recording l.book in
    any_not_over (given g.R.Routines.next_of g.R.Routines.after_of c.args.routines.now) now.limits now.capacity now.history l.invariant.so.stands.legal l.roles.items l.invariant.so.stands.all.of
    (sym (ap (list_any (λ (r : Role). is_open r.place.stage)) c.deref.ensures.value) ∙ c.is_first_open-any_open.ensures on)
