use Rattle.std.proofs.Common.{◌≡◌, ◌<◌, true, nat_lt, refl, sym, ◌∙◌, subst, arith}
use Rattle.recorded.specs.Recordings.{Recording}
use Rattle.tp_library.specs.Kept.{held_by, IsKept}
use Rattle.tp_library.proofs.Pooling.{answered_kept, answered_step, may_count, may_note, not_loaded, nothing_happens, same_recording}
use Rattle.tp_library.proofs.book.ask.Goals as goal
use Rattle.tp_library.proofs.book.ask.Goals.{else-library-gt0-via-then-library-gt0+else-not-is_held, else-library-gt0-via-else-library-gt0}

pub returns-then-not-is_held-clause-step : goal.returns-then-not-is_held-clause-step
returns-then-not-is_held-clause-step g c =
    not_loaded (g.B.Recorded.recording c.args.book.now) c.args.beside.now c.requires.kept c.args.who c.args.call c.args.library c.requires.call.1 c.if-library-gt0.true (sym c.is_held.ensures ∙ c.if-not-is_held.true)

pub note-requires : goal.note-requires
note-requires g c =
    let r = g.B.Recorded.recording c.args.book.now in
    rw c.effect_of-effect.ensures
    (may_note r c.args.beside.now c.requires.kept c.args.who c.args.call c.args.library c.requires.call.1 c.in-Done.answer (sym c.in-Done.ensures.outcome))

pub count_changed-requires-clause-fits : goal.count_changed-requires-clause-fits
count_changed-requires-clause-fits g c =
    let r = g.B.Recorded.recording c.args.book.now in
    may_count r c.args.beside.now c.requires.kept c.args.who c.args.call c.args.library c.requires.call.1 c.in-Done.answer (sym c.in-Done.ensures.outcome)
    (g.B.Recorded.recording c.step-outcome.new.self) c.in-Done.ensures.history c.effect_of-effect.result c.effect_of-effect.ensures c.note.new.self c.note.ensures c.made-first.result.0 c.made-first.result.1 (c.made-first.ensures c.args.who) c.in-Done.ensures.in_range

pub returns-in-Done-clause-kept : goal.returns-in-Done-clause-kept
returns-in-Done-clause-kept g c =
    let r = g.B.Recorded.recording c.args.book.now in
    answered_kept r c.args.beside.now c.requires.kept c.args.who c.args.call c.args.library c.requires.call.1 c.in-Done.answer (sym c.in-Done.ensures.outcome)
    (g.B.Recorded.recording c.step-outcome.new.self) c.in-Done.ensures.history c.effect_of-effect.result c.effect_of-effect.ensures c.note.new.self c.note.ensures c.made-first.result.0 c.made-first.result.1 (c.made-first.ensures c.args.who) c.in-Done.ensures.in_range
    c.count_changed.new.counts c.count_changed.ensures.left c.count_changed.ensures.many c.count_changed.ensures.same

pub returns-in-Done-clause-step : goal.returns-in-Done-clause-step
returns-in-Done-clause-step g c =
    let r = g.B.Recorded.recording c.args.book.now in
    let held : 0 < c.args.library.0 → nat_lt 0 (held_by c.args.beside.now c.args.library.0) ≡ true = elim c.else-library-gt0.branch [
      | else-library-gt0-via-then-library-gt0+else-not-is_held w ↦ λ above. sym w.is_held.ensures ∙ w.if-not-is_held.false
      | else-library-gt0-via-else-library-gt0 w ↦ λ above. absurd (omega (arith, above, w.if-library-gt0.false))
    ] in
    answered_step r c.args.beside.now c.requires.kept c.args.who c.args.call c.args.library c.requires.call.1 c.in-Done.answer (sym c.in-Done.ensures.outcome)
    (g.B.Recorded.recording c.step-outcome.new.self) c.in-Done.ensures.history c.effect_of-effect.result c.effect_of-effect.ensures c.note.new.self c.note.ensures c.made-first.result.0 c.made-first.result.1 (c.made-first.ensures c.args.who) c.in-Done.ensures.in_range
    c.count_changed.new.counts held

pub returns-in_default : goal.returns-in_default
returns-in_default g c =
    let r = g.B.Recorded.recording c.args.book.now in
    let b = c.args.beside.now in
    let q = g.B.Recorded.recording c.step-outcome.new.self in
    let held : 0 < c.args.library.0 → nat_lt 0 (held_by b c.args.library.0) ≡ true = elim c.else-library-gt0.branch [
      | else-library-gt0-via-then-library-gt0+else-not-is_held w ↦ λ above. sym w.is_held.ensures ∙ w.if-not-is_held.false
      | else-library-gt0-via-else-library-gt0 w ↦ λ above. absurd (omega (arith, above, w.if-library-gt0.false))
    ] in
    record {
      kept = subst (λ (x : Recording). IsKept x b) (sym (same_recording r b c.requires.kept c.args.who c.args.call c.args.library c.requires.call.1 c.step-outcome.result c.in_default.not-Done q c.step-outcome.ensures.history)) c.requires.kept;
      step = nothing_happens r b c.requires.kept c.args.who c.args.call c.args.library c.requires.call.1 c.step-outcome.result c.in_default.not-Done q c.step-outcome.ensures.outcome c.step-outcome.ensures.history held;
      before = refl;
      in_range = c.step-outcome.ensures.in_range;
    }
