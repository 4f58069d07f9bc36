use Rattle.std.proofs.Common.{◌≡◌, [], eqb-true, ap, sym, ◌∙◌, arith, rules}
use Rattle.std.proofs.lemmas.List.{nil_from_length}
use Rattle.worker_gate.specs.Drawn.{open_places}
use Rattle.part_places.specs.Places.{given}
use Rattle.worker_gate.proofs.DrawnRun.{passes_begin, passes_ended, passes_fewer, passes_go_on, passes_lively, passes_over}
use Rattle.worker_gate.proofs.drawn.play_drawn.Goals as goal

pub loop-book-init : goal.loop-book-init
loop-book-init g c = record {
  so = passes_begin (given g.R.Routines.next_of g.R.Routines.after_of c.args.routines.now) (g.B.Recorded.recording c.args.book.now) c.args.roles.now.items c.args.seed c.new-lots.result.draws
      c.new-lots.ensures c.requires.legal c.requires.all c.requires.ended c.requires.open_roles c.requires.worker;
  going = c.in_ok-find_open.ensures ∙ ap open_places c.deref.ensures.value;
}

pub loop-book-smaller : goal.loop-book-smaller
loop-book-smaller g c =
    let γ = given g.R.Routines.next_of g.R.Routines.after_of c.args.routines.now in
    let l = c.loop-book in
    let p = c.in_ok-play_pass.ensures in
    let some : l.lots.going.items ≡ [] → ⊥ = search rules in
    passes_fewer γ (g.B.Recorded.recording c.args.book.now) (g.B.Recorded.recording l.book) (g.B.Recorded.recording c.play_pass.new.book) c.args.roles.now.items l.roles.items c.play_pass.new.roles.items c.args.seed l.lots.draws c.play_pass.new.lots.draws
    l.invariant.so p.same p.drawn (record { legal = p.legal; all = p.all; well = p.ended }) p.passed (λ none. some (l.invariant.going ∙ none))

pub loop-book-preserved : goal.loop-book-preserved
loop-book-preserved g c =
    let γ = given g.R.Routines.next_of g.R.Routines.after_of c.args.routines.now in
    let l = c.loop-book in
    let p = c.in_ok-play_pass.ensures in
    record {
      so = passes_go_on γ (g.B.Recorded.recording c.args.book.now) (g.B.Recorded.recording l.book) (g.B.Recorded.recording c.play_pass.new.book) c.args.roles.now.items l.roles.items c.play_pass.new.roles.items c.args.seed l.lots.draws c.play_pass.new.lots.draws
          l.invariant.so p.same p.drawn (record { legal = p.legal; all = p.all; well = p.ended });
      going = p.going;
    }

pub returns-clause-ended : goal.returns-clause-ended
returns-clause-ended g c =
    let l = c.loop-book in
    let gone = eqb-true _ 0 (sym c.is_empty.ensures ∙ c.loop-book-test.false) in
    let none : l.lots.going.items ≡ [] = nil_from_length l.lots.going.items (omega (arith, gone, l.lots.going.ok.0)) in
    passes_ended (given g.R.Routines.next_of g.R.Routines.after_of c.args.routines.now) (g.B.Recorded.recording c.args.book.now) (g.B.Recorded.recording l.book) c.args.roles.now.items l.roles.items c.args.seed l.lots.draws l.invariant.so (sym l.invariant.going ∙ none)

pub returns-clause-over : goal.returns-clause-over
returns-clause-over g c =
    let l = c.loop-book in
    let gone = eqb-true _ 0 (sym c.is_empty.ensures ∙ c.loop-book-test.false) in
    let none : l.lots.going.items ≡ [] = nil_from_length l.lots.going.items (omega (arith, gone, l.lots.going.ok.0)) in
    passes_over (given g.R.Routines.next_of g.R.Routines.after_of c.args.routines.now) (g.B.Recorded.recording c.args.book.now) (g.B.Recorded.recording l.book) c.args.roles.now.items l.roles.items c.args.seed l.lots.draws l.invariant.so (sym l.invariant.going ∙ none)

pub returns-clause-lively : goal.returns-clause-lively
returns-clause-lively g c =
    let l = c.loop-book in
    let gone = eqb-true _ 0 (sym c.is_empty.ensures ∙ c.loop-book-test.false) in
    let none : l.lots.going.items ≡ [] = nil_from_length l.lots.going.items (omega (arith, gone, l.lots.going.ok.0)) in
    passes_lively (given g.R.Routines.next_of g.R.Routines.after_of c.args.routines.now) (g.B.Recorded.recording c.args.book.now) (g.B.Recorded.recording l.book) c.args.roles.now.items l.roles.items c.args.seed l.lots.draws
    l.invariant.so (sym l.invariant.going ∙ none) c.requires.open_roles c.requires.worker
