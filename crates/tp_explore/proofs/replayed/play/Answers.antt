use Rattle.std.proofs.Common.{ap, sym, ◌∙◌, arith, refl}
use Rattle.recorded.specs.Recordings.{Recording}
use Rattle.tp_explore.proofs.Replaying.{answers_next, fits, found_next, gone, played}
use Rattle.tp_explore.proofs.replayed.play.Goals as goal
use Rattle.tp_explore.proofs.replayed.play.Goals.{then-by-width-via-then-by-width, then-by-width-via-else-by-width+then-room-lt-AMPLE}

pub returns-then-by-width-clause-whole : goal.returns-then-by-width-clause-whole
returns-then-by-width-clause-whole g c = λ moves more rest playing on.
    let enough = fits _ _ c.args.limits.now c.requires.limits moves _ playing c.args.by more rest on in
    let none : ⊥ = elim c.then-by-width.branch [
      | then-by-width-via-then-by-width w ↦ omega (arith, enough, c.width.ensures, w.if-by-width.true)
      | then-by-width-via-else-by-width+then-room-lt-AMPLE w ↦ omega (arith, enough, w.room.ensures, w.if-room-lt-AMPLE.true)
    ] in
    absurd none

pub returns-in_default-clause-whole : goal.returns-in_default-clause-whole
returns-in_default-clause-whole g c = λ moves more rest playing on.
    let found = found_next _ _ c.args.limits.now c.requires.limits moves _ playing c.args.by more rest on c.call_by.result c.call_by.ensures.value in
    absurd (c.in_default.not-Some _ found)

pub returns-in-Done-clause-played : goal.returns-in-Done-clause-played
returns-in-Done-clause-played g c = λ yes moves playing.
    played _ _ c.args.limits.now c.requires.limits moves _ playing c.args.by c.mover-who.result c.in-Some.call c.in-Done.answer _ _
    (record { mover_is = c.mover-who.ensures; found = c.in-Some.ensures.value; answers = sym c.in-Done.ensures.outcome; goes = c.in-Done.ensures.history })
    (omega (arith, c.if-by-width.false, c.width.ensures)) (omega (arith, c.if-room-lt-AMPLE.false, c.room.ensures)) c.go_on.ensures

pub returns-in-Done-clause-whole : goal.returns-in-Done-clause-whole
returns-in-Done-clause-whole g c = λ moves more rest playing on. (
  refl,
  gone _ _ c.args.limits.now c.requires.limits moves _ playing c.args.by more rest on c.mover-who.result c.in-Some.call c.in-Done.answer _
      (record { mover_is = c.mover-who.ensures; found = c.in-Some.ensures.value; answers = sym c.in-Done.ensures.outcome; goes = c.in-Done.ensures.history }),
)

pub returns-in_default-step : goal.returns-in_default-step
returns-in_default-step g c = record {
  machine = record { limits = ap (λ (x : Recording). x.limits) c.step.ensures.history; capacity = ap (λ (x : Recording). x.capacity) c.step.ensures.history };
  played = λ no. absurd cc;
  whole = λ moves more rest playing on.
      let answers = answers_next _ _ c.args.limits.now c.requires.limits moves _ playing c.args.by more rest on c.mover-who.result c.in-Some.call c.mover-who.ensures c.in-Some.ensures.value in
      absurd (c.in_default-step.not-Done _ (c.step.ensures.outcome ∙ answers));
}
